-- What the controller reads of a command's frame is the command.
use Rattle.std.proofs.Common.{◌≡◌, ℕ, zero, suc, ◌+◌, ◌-◌, ◌*◌, ◌^◌, ◌<◌, ◌≤◌, ◌⊎◌, ◌==◌, ◌&&◌, inl, inr, not, if◌then◌else◌, IsTrue, Bool, true, false, List, [], ◌∷◌, ◌++◌, get_or, length, take, drop, replicate, refl, ap, sym, ◌∙◌, subst, arith}
use Rattle.std.proofs.Math.Seq.{take-add}
use Rattle.std.proofs.lemmas.List.{drop-drop}
use Rattle.hex.specs.Hex.{IsBytes}
use Rattle.std.specs.Int.{bytes_low_first}
use Rattle.mpi_layout.specs.Rows.{field}
use Rattle.mpi_layout.proofs.Fields.{field-little}
use Rattle.scsi_disk.specs.Command.{fits}
use Rattle.scsi_disk.specs.declared.command.Command.{Command}
use Rattle.scsi_msgs.specs.ScsiIo.{scsi_io_layout, scsi_io_values}
use Rattle.mpt_messages.specs.HostFrames.{direction, element_address, element_flags, scsi_io_asked, sense_address}
use Rattle.mpt_messages.specs.Message.{message_fit}
use Rattle.mpt_messages.specs.HostFrames.{host_message}
use Rattle.mpt_messages.proofs.CommandFits.{cdb_length-masked, direction-one_of, io_fits}
use Rattle.mpt_messages.proofs.FrameStands.{host_frame_stands}
use Rattle.mpt_messages.proofs.RowsBytes.{bytes-number}
use Rattle.mpt_wire.specs.Messages.Fields.{cdb_in, data_length_in, dev_handle_in, lun_in}
use Rattle.mpt_rules.specs.Host.Posts.{command_asked, frame_asked, is_data_to_disk, padded_cdb}
use Rattle.mpt_rules.specs.Ioc.Commands.{command_in}
use Rattle.law_standing.proofs.FrameBytes.{append_bytes, field_lt, layout, zero_bytes}

-- equal numbers of eight bytes are of equal bytes
same_bytes : (xs ys : List ℕ) (i j n : ℕ) → IsBytes xs → IsBytes ys → i + n ≤ length xs → j + n ≤ length ys → field xs i n ≡ field ys j n → take n (drop i xs) ≡ take n (drop j ys)
same_bytes xs ys i j n a b l m e =
    sym (bytes-number i n xs a l) ∙ (ap (bytes_low_first 0 n) (sym (field-little xs i n) ∙ (e ∙ field-little ys j n)) ∙ bytes-number j n ys b m)

taken_twice : (n m : ℕ) (xs : List ℕ) → n ≤ m → take n (take m xs) ≡ take n xs
taken_twice zero m xs l = refl
taken_twice (suc n) zero xs l = absurd (omega (arith, l))
taken_twice (suc n) (suc m) [] l = refl
taken_twice (suc n) (suc m) (x ∷ xs) l = ap (λ ys. x ∷ ys) (taken_twice n m xs (omega (arith, l)))

front_of : (xs ys : List ℕ) → take (length xs) (xs ++ ys) ≡ xs
front_of [] ys = refl
front_of (x ∷ xs) ys = ap (λ zs. x ∷ zs) (front_of xs ys)

one_flag : (b : Bool) → (element_flags b ≡ 0xd3) ⊎ (element_flags b ≡ 0xd7)
one_flag true = inr refl
one_flag false = inl refl

element_short : (s len : ℕ) → s ≤ 256 → element_address s len < 2 ^ 64
element_short s len l = by_test (len == 0)
  where
    by_test : (b : Bool) → (if b then 0xffff_ffff_ffff_ffff else Rattle.mpt_messages.specs.HostFrames.data_address s) < 2 ^ 64
    by_test true = omega arith
    by_test false = omega (arith, l)

module _ (c : Command) (f : fits c ≡ true) (b : IsBytes c.cdb) (s handle : ℕ) (low : 1 ≤ s) (most : s ≤ 256) (short : handle < 2 ^ 16) (unit : c.lun ≡ 0) where
  abbrev frame : List ℕ
  frame = frame_asked (command_asked s handle c)

  cdb_short : (1 ≤ length c.cdb) × (length c.cdb ≤ 16)
  cdb_short = (grind (arith, f), grind (arith, f))

  pub few : c.len ≤ 4096
  few = grind (arith, f)

  padded_bytes : IsBytes (padded_cdb c.cdb)
  padded_bytes = append_bytes c.cdb (replicate (16 - length c.cdb) 0) b (zero_bytes (16 - length c.cdb))

  padded_length : length (padded_cdb c.cdb) ≡ 16
  padded_length = let a = Rattle.std.proofs.Common.length-append c.cdb (replicate (16 - length c.cdb) 0) in let r = Rattle.std.proofs.lemmas.List.length-replicate (16 - length c.cdb) (let z : ℕ = 0 in z) in let q = cdb_short in omega (arith, a, r, q)

  pub fit : IsTrue (message_fit (host_message (command_asked s handle c)))
  fit =
      let x = field_lt (padded_cdb c.cdb) 0 8 padded_bytes in let y = field_lt (padded_cdb c.cdb) 8 8 padded_bytes in
      io_fits handle (sense_address s) c.lun c.len (length c.cdb) (direction c.len (is_data_to_disk c)) (field (padded_cdb c.cdb) 0 8) (field (padded_cdb c.cdb) 8 8) (element_flags (is_data_to_disk c)) (element_address s c.len)
      short (omega (arith, most)) (let u = unit in omega (arith, u)) few cdb_short.1 (cdb_length-masked (length c.cdb) cdb_short.1) x y (element_short s c.len most) (direction-one_of c.len (is_data_to_disk c) (direction c.len (is_data_to_disk c)) refl) (one_flag (is_data_to_disk c))

  frame_bytes : IsBytes (frame_asked (command_asked s handle c))
  frame_bytes = layout scsi_io_layout (scsi_io_values (scsi_io_asked s handle c.lun (padded_cdb c.cdb) (length c.cdb) c.len (is_data_to_disk c))) (128 - 108)

  pub handle_read : dev_handle_in (frame_asked (command_asked s handle c)) ≡ handle
  unfolding scsi_io_layout scsi_io_values
  handle_read = ap (λ vs. get_or vs 0 0) (host_frame_stands (command_asked s handle c) fit).numbers

  pub length_read : data_length_in (frame_asked (command_asked s handle c)) ≡ c.len
  unfolding scsi_io_layout scsi_io_values
  length_read = ap (λ vs. get_or vs 18 0) (host_frame_stands (command_asked s handle c) fit).numbers

  flags_read : field (frame_asked (command_asked s handle c)) 0x24 2 ≡ length c.cdb
  unfolding scsi_io_layout scsi_io_values
  flags_read = ap (λ vs. get_or vs 20 0) (host_frame_stands (command_asked s handle c) fit).numbers

  lun_read : lun_in (frame_asked (command_asked s handle c)) ≡ c.lun
  unfolding scsi_io_layout scsi_io_values
  lun_read = ap (λ vs. get_or vs 26 0) (host_frame_stands (command_asked s handle c) fit).numbers

  front_read : field (frame_asked (command_asked s handle c)) 0x40 8 ≡ field (padded_cdb c.cdb) 0 8
  unfolding scsi_io_layout scsi_io_values
  front_read = ap (λ vs. get_or vs 31 0) (host_frame_stands (command_asked s handle c) fit).numbers

  back_read : field (frame_asked (command_asked s handle c)) 0x48 8 ≡ field (padded_cdb c.cdb) 8 8
  unfolding scsi_io_layout scsi_io_values
  back_read = ap (λ vs. get_or vs 32 0) (host_frame_stands (command_asked s handle c) fit).numbers

  enough : 0x48 + 8 ≤ length (frame_asked (command_asked s handle c))
  unfolding scsi_io_layout
  enough = let e = (host_frame_stands (command_asked s handle c) fit).enough in omega (arith, e)

  sixteen : take 16 (drop 0x40 (frame_asked (command_asked s handle c))) ≡ take 16 (padded_cdb c.cdb)
  sixteen =
      let F = frame_asked (command_asked s handle c) in
      let n = enough in let m = padded_length in
      let x = same_bytes F (padded_cdb c.cdb) 0x40 0 8 frame_bytes padded_bytes (omega (arith, n)) (omega (arith, m)) front_read in
      let y = same_bytes F (padded_cdb c.cdb) 0x48 8 8 frame_bytes padded_bytes n (omega (arith, m)) back_read in
      take-add 8 8 (drop 0x40 F) ∙ (ap (λ xs. take 8 (drop 0x40 F) ++ take 8 xs) (drop-drop 8 0x40 F) ∙ (ap (λ xs. xs ++ take 8 (drop 0x48 F)) x ∙ (ap (λ ys. take 8 (padded_cdb c.cdb) ++ ys) y ∙ sym (take-add 8 8 (padded_cdb c.cdb)))))

  cdb_read : cdb_in (frame_asked (command_asked s handle c)) ≡ c.cdb
  cdb_read =
      let F = frame_asked (command_asked s handle c) in
      ap (λ n. take n (drop 0x40 F)) flags_read
      ∙ (shorter (length c.cdb) (drop 0x40 F) (padded_cdb c.cdb) cdb_short.1 sixteen ∙ front_of c.cdb (replicate (16 - length c.cdb) 0))
    where
      shorter : (n : ℕ) (xs ys : List ℕ) → n ≤ 16 → take 16 xs ≡ take 16 ys → take n xs ≡ take n ys
      shorter n xs ys l e = sym (taken_twice n 16 xs l) ∙ (ap (take n) e ∙ taken_twice n 16 ys l)

  pub command_read : command_in (frame_asked (command_asked s handle c)) c.payload ≡ c
  command_read =
      let u = lun_read in let d = cdb_read in let n = length_read in
      ap (λ x. record { lun = x; cdb = cdb_in (frame_asked (command_asked s handle c)); len = data_length_in (frame_asked (command_asked s handle c)); payload = c.payload }) u
      ∙ (ap (λ x. record { lun = c.lun; cdb = x; len = data_length_in (frame_asked (command_asked s handle c)); payload = c.payload }) d
      ∙ ap (λ x. record { lun = c.lun; cdb = c.cdb; len = x; payload = c.payload }) n)
