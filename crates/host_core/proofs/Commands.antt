-- What a command asks.
use Rattle.std.proofs.Common.{◌≡◌, ◌∙◌, ℕ, ◌-◌, ◌≤◌, Bool, true, false, not, ◌&&◌, ◌==◌, if◌then◌else◌, List, length, drop, replicate, refl, arith}
use Rattle.std.proofs.lemmas.Bool.{leb-true}
use Rattle.std.proofs.lemmas.List.{drop-append-le, drop_all}
use Rattle.std.proofs.lemmas.List.Elements.{All-replicate}
use Rattle.scsi_disk.specs.declared.command.Command.{Command}
use Rattle.scsi_disk.specs.declared.command.Direction.{Direction}
use Rattle.scsi_disk.specs.declared.command.Direction.TheVariants as direction
use Rattle.scsi_disk.specs.Command.{direction_of, fits, is_write}
use Rattle.mpt_messages.specs.HostFrames.{IsCommand}
use Rattle.mpt_rules.specs.Host.Posts.{is_data_to_disk, padded_cdb}

way : Bool → Bool → Direction
way none write = if none then direction.None else (if write then direction.Write else direction.Read)

to_disk : (none write : Bool) → direction.Write ≡ way none write → (write && not none) ≡ true
unfolding way
to_disk true write is = absurd (cc)
to_disk false true is = refl
to_disk false false is = absurd (cc)

not_to_disk : (none write : Bool) → (way none write ≡ direction.Write → ⊥) → (write && not none) ≡ false
unfolding way
not_to_disk true true other = refl
not_to_disk true false other = refl
not_to_disk false true other = absurd (other refl)
not_to_disk false false other = refl

-- a command whose direction is Write sends data to the disk, and no other does
pub sends_data : (command : Command) → direction.Write ≡ direction_of command → is_data_to_disk command ≡ true
unfolding way
sends_data command is = to_disk (command.len == 0) (is_write command.cdb) is

pub sends_no_data : (command : Command) → (direction_of command ≡ direction.Write → ⊥) → is_data_to_disk command ≡ false
unfolding way
sends_no_data command other = not_to_disk (command.len == 0) (is_write command.cdb) other

first : (a b : Bool) → (a && b) ≡ true → a ≡ true
first true b both = refl
first false b both = absurd (cc)

second : (a b : Bool) → (a && b) ≡ true → b ≡ true
second true b both = both
second false b both = absurd (cc)

-- what fits has a CDB of 1 to 16 bytes and at most 4,096 bytes of data
pub record Sizes (command : Command) : Type 0 where
  pub least : 1 ≤ length command.cdb
  pub most : length command.cdb ≤ 16
  pub short : command.len ≤ 4096

pub sizes_of : (command : Command) → fits command ≡ true → Sizes command
sizes_of command fit =
    let four = first _ _ fit in
    let three = first _ _ four in
    let two = first _ _ three in
    record {
      least = leb-true 1 (length command.cdb) (first _ _ two);
      most = leb-true (length command.cdb) 16 (second _ _ two);
      short = leb-true command.len 4096 (second _ _ three);
    }

not_of_none : (write none : Bool) → none ≡ true → (write && not none) ≡ false
not_of_none true none is = rw is refl
not_of_none false none is = refl

-- the host may ask it under an identifier of a SCSI IO
pub is_command : (command : Command) (smid : ℕ) (cdb : List ℕ) (write : Bool) → (1 ≤ smid) × (smid ≤ 256) → fits command ≡ true → cdb ≡ padded_cdb command.cdb → write ≡ is_data_to_disk command → IsCommand smid cdb (length command.cdb) command.len write
is_command command smid cdb write within fit padded sent =
    let sizes = sizes_of command fit in
    let past : drop (length command.cdb) (padded_cdb command.cdb) ≡ replicate (16 - length command.cdb) 0 =
    drop-append-le (length command.cdb) command.cdb (replicate (16 - length command.cdb) 0) (omega arith) ∙ rw (drop_all (length command.cdb) command.cdb (omega arith)) refl in
    record {
      identifier = within;
      command = (sizes.least, sizes.most);
      zeros = rw (padded, past) (All-replicate (λ (byte : ℕ). byte ≡ 0) (16 - length command.cdb) 0 refl);
      short = sizes.short;
      write_moves = λ none. sent ∙ not_of_none (is_write command.cdb) (command.len == 0) (rw none refl);
    }
