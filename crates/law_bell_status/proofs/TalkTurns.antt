-- How many writes of a handshake a turn of the host's machine makes, by what it waits for.
use Rattle.std.proofs.Common.{◌≡◌, ℕ, ◌≤◌, ◌==◌, ◌&&◌, ◌||◌, not, Bool, true, false, if◌then◌else◌, List, [], ◌∷◌, drop, length, None, refl, ap, sym, ◌∙◌, subst, arith}
use Rattle.byteorder.specs.Endian.{little_number}
use Rattle.mpi_doorbell.specs.Bytes.{has}
use Rattle.mpi_doorbell.specs.HostDoor.{HostDoor, Stepped, reads, refuses, writes}
use Rattle.mpi_doorbell.specs.HostHandshake.{hears_end, is_bad_length, is_whole, opens, sends, takes_word, with_word}
use Rattle.mpi_doorbell.specs.HostSteps.{diagnostic_reset, look_at_doorbell, unit_reset}
use Rattle.mpi_doorbell.specs.declared.registers.TheConstants.{DOORBELL, DOORBELL_USED, HOST_INTERRUPT_STATUS, IOC2SYS_DB_STATUS, SYS2IOC_DB_STATUS}
use Rattle.mpi_doorbell.specs.declared.stage.Reading.TheVariants as reading
use Rattle.mpi_doorbell.specs.declared.stage.Stage.TheVariants.{Awaits, Finishes, Opens, Reads}
use Rattle.mpt_messages.specs.declared.host_ask.HostAsk.{HostAsk}
use Rattle.mpt_messages.specs.declared.host_ask.HostAsk.TheVariants as ask
use Rattle.mpt_wire.specs.Messages.DoorbellWords.{asked_bytes}
use Rattle.mpt_trace.specs.declared.item.Down.{Down}
use Rattle.mpt_trace.specs.declared.item.Down.TheVariants as down
use Rattle.mpt_rules.specs.declared.stage.Stage.{Stage}
use Rattle.mpt_rules.specs.Host.Parts.{Host}
use Rattle.mpt_rules.specs.Host.Doorbell.{DoorTurn, next_turn, turn_from, unit_reset_dword}
use Rattle.mpt_rules.specs.World.Counts.{how_many, one_if}
use Rattle.mpt_rules.specs.World.State.{World}
use Rattle.law_facts.specs.Ties.{is_status_write}
use Rattle.law_moves.proofs.Counted.{how_many-cons, how_many-nil}
use Rattle.law_starts.proofs.HostAtDoor.{Asked, Beginning, Diagnostic, Free, FromOff, Late, Marked, MessageUnit, Next, Renewed, asks_with}
use Rattle.law_starts.proofs.Resetting.{TurnAt}
use Rattle.law_locks.proofs.Unbelled.{is_bell_write, talk_turn}
use Rattle.law_bell_status.specs.Bells.{is_talk_write, is_word_write}

pub talk_of_bell : (x : Down) → is_talk_write x ≡ true → is_bell_write x ≡ true
talk_of_bell (down.Write reg value) e = by_both (reg == DOORBELL) (not (value == unit_reset_dword)) (reg == HOST_INTERRUPT_STATUS) e
  where
    by_both : (a b c : Bool) → ((a && b) || c) ≡ true → (a || c) ≡ true
    by_both true b c e = refl
    by_both false b c e = e
talk_of_bell (down.Read reg) e = absurd (cc)
talk_of_bell (down.Post d f p) e = absurd (cc)
talk_of_bell (down.Return a i) e = absurd (cc)
talk_of_bell down.Stop e = absurd (cc)

pub word_of_talk : (x : Down) → is_word_write x ≡ true → is_talk_write x ≡ true
word_of_talk (down.Write reg value) e = ap (λ b. b || (reg == HOST_INTERRUPT_STATUS)) e
word_of_talk (down.Read reg) e = absurd (cc)
word_of_talk (down.Post d f p) e = absurd (cc)
word_of_talk (down.Return a i) e = absurd (cc)
word_of_talk down.Stop e = absurd (cc)

pub status_of_talk : (x : Down) → is_status_write x ≡ true → is_talk_write x ≡ true
status_of_talk (down.Write reg value) e = by_second ((reg == DOORBELL) && not (value == unit_reset_dword)) (reg == HOST_INTERRUPT_STATUS) e
  where
    by_second : (a b : Bool) → b ≡ true → (a || b) ≡ true
    by_second true b e = refl
    by_second false b e = e
status_of_talk (down.Read reg) e = absurd (cc)
status_of_talk (down.Post d f p) e = absurd (cc)
status_of_talk (down.Return a i) e = absurd (cc)
status_of_talk down.Stop e = absurd (cc)

-- one write
one_talks : (x : Down) → how_many is_talk_write (x ∷ []) ≤ 1
one_talks x = let c = how_many-cons is_talk_write x [] in let n = how_many-nil {X = Down} is_talk_write in let o = at_most (is_talk_write x) in omega (arith, c, n, o)
  where
    at_most : (b : Bool) → one_if b ≤ 1
    at_most true = omega arith
    at_most false = omega arith

none_talks : how_many is_talk_write [] ≤ 1
none_talks = let n = how_many-nil {X = Down} is_talk_write in omega (arith, n)

pub none_of : (test : Down → Bool) (x : Down) → test x ≡ false → how_many test (x ∷ []) ≡ 0
none_of test x e = let c = how_many-cons test x [] in let n = how_many-nil {X = Down} test in let o : one_if (test x) ≡ 0 = ap one_if e in omega (arith, c, n, o)

module _ (d : HostDoor) (v : ℕ) where
  abbrev Made : Stepped → List Down
  Made s = (turn_from 8 s.door s.step).writes

  pub used_untalked : how_many is_talk_write (TurnAt d v (Awaits reading.Used)).writes ≡ 0
  unfolding turn_from how_many
  used_untalked = by_test (has v DOORBELL_USED)
    where
      by_test : (b : Bool) → how_many is_talk_write (Made (if b then refuses d 1 v else reads d reading.LeftOver)) ≡ 0
      by_test true = refl
      by_test false = refl

  pub news_untalked : how_many is_talk_write (TurnAt d v (Awaits reading.News)).writes ≡ 0
  unfolding turn_from how_many
  news_untalked = by_test (has v IOC2SYS_DB_STATUS)
    where
      by_test : (b : Bool) → how_many is_talk_write (Made (if b then reads d reading.Word else reads d reading.News)) ≡ 0
      by_test true = refl
      by_test false = refl

  -- the handshake is opened
  module _ (e : has v IOC2SYS_DB_STATUS ≡ false) where
    left_is : (TurnAt d v (Awaits reading.LeftOver)).writes ≡ down.Write DOORBELL (Rattle.mpi_doorbell.specs.HostHandshake.opening_dword d.unsent) ∷ []
    unfolding turn_from
    left_is = ap (λ b. Made (if b then writes d Opens HOST_INTERRUPT_STATUS 0 else opens d)) e

    pub left_one : how_many is_talk_write (TurnAt d v (Awaits reading.LeftOver)).writes ≤ 1
    left_one = subst (λ xs. how_many is_talk_write xs ≤ 1) (sym left_is) (one_talks _)

    pub left_silent : how_many is_status_write (TurnAt d v (Awaits reading.LeftOver)).writes ≡ 0
    left_silent = ap (how_many is_status_write) left_is ∙ none_of is_status_write (down.Write DOORBELL (Rattle.mpi_doorbell.specs.HostHandshake.opening_dword d.unsent)) refl

  -- a status is written, or nothing
  pub record OneStatus (xs : List Down) : Type 0 where
    pub one : how_many is_talk_write xs ≤ 1
    pub wordless : how_many is_word_write xs ≡ 0

  none_written : OneStatus []
  none_written = record { one = none_talks; wordless = how_many-nil {X = Down} is_word_write }

  status_written : OneStatus (down.Write HOST_INTERRUPT_STATUS 0 ∷ [])
  status_written = record { one = one_talks _; wordless = none_of is_word_write (down.Write HOST_INTERRUPT_STATUS 0) refl }

  pub opened_one : OneStatus (TurnAt d v (Awaits reading.Opened)).writes
  unfolding turn_from
  opened_one = by_test (has v IOC2SYS_DB_STATUS)
    where
      by_test : (b : Bool) → OneStatus (Made (if b then writes d (Reads reading.Taken) HOST_INTERRUPT_STATUS 0 else reads d reading.Opened))
      by_test true = status_written
      by_test false = none_written

  pub word_one : OneStatus (TurnAt d v (Awaits reading.Word)).writes
  unfolding turn_from
  word_one = by_whole (is_whole d.reply)
    where
      by_used : (b : Bool) → OneStatus (Made (if b then reads d reading.Word else writes d Finishes HOST_INTERRUPT_STATUS 0))
      by_used true = none_written
      by_used false = status_written

      by_bad : (b : Bool) → OneStatus (Made (if b then refuses d 6 v else writes (with_word d v) (Reads reading.News) HOST_INTERRUPT_STATUS 0))
      by_bad true = none_written
      by_bad false = status_written

      by_whole : (b : Bool) → OneStatus (Made (if b then hears_end d v else takes_word d v))
      by_whole true = by_used (has v DOORBELL_USED)
      by_whole false = by_bad (is_bad_length d.reply v)

  -- a dword is written, or nothing
  pub record OneWord (xs : List Down) : Type 0 where
    pub one : how_many is_talk_write xs ≤ 1
    pub silent : how_many is_status_write xs ≡ 0

  unsaid : OneWord []
  unsaid = record { one = none_talks; silent = how_many-nil {X = Down} is_status_write }

  pub taken_one : OneWord (TurnAt d v (Awaits reading.Taken)).writes
  unfolding turn_from
  taken_one = by_test (has v SYS2IOC_DB_STATUS)
    where
      by_unsent : (b : Bool) → OneWord (Made (if b then reads d reading.News else writes (record d { unsent = drop 4 d.unsent }) (Reads reading.Taken) DOORBELL (little_number 4 d.unsent)))
      by_unsent true = unsaid
      by_unsent false = record { one = one_talks _; silent = none_of is_status_write (down.Write DOORBELL (little_number 4 d.unsent)) refl }

      by_test : (b : Bool) → OneWord (Made (if b then reads d reading.Taken else sends d))
      by_test true = unsaid
      by_test false = by_unsent (length d.unsent == 0)

  -- all dwords were written
  pub all_sent : has v SYS2IOC_DB_STATUS ≡ false → (length d.unsent == 0) ≡ true → how_many is_talk_write (TurnAt d v (Awaits reading.Taken)).writes ≡ 0
  unfolding turn_from
  all_sent e f =
      ap (λ b. how_many is_talk_write (Made (if b then reads d reading.Taken else sends d))) e
      ∙ (ap (λ b. how_many is_talk_write (Made (if b then reads d reading.News else writes (record d { unsent = drop 4 d.unsent }) (Reads reading.Taken) DOORBELL (little_number 4 d.unsent)))) f ∙ how_many-nil {X = Down} is_talk_write)

-- ---- no machine begins with one

look_untalked : how_many is_talk_write (next_turn look_at_doorbell None).writes ≡ 0
unfolding turn_from how_many
look_untalked = refl

keys_untalked : how_many is_talk_write (next_turn diagnostic_reset None).writes ≡ 0
unfolding turn_from how_many
keys_untalked = refl

unit_untalked : how_many is_talk_write (next_turn unit_reset None).writes ≡ 0
unfolding turn_from how_many
unit_untalked = refl

talk_untalked : (a : HostAsk) → how_many is_talk_write (next_turn (asks_with a) None).writes ≡ 0
talk_untalked a = ap (λ (t : DoorTurn). how_many is_talk_write t.writes) (talk_turn (asked_bytes a)) ∙ how_many-nil {X = Down} is_talk_write

pub begun_untalked : {w : World} {h : Host} {s : Stage} {d : HostDoor} {t : Bool} → Beginning w h s d t → how_many is_talk_write (next_turn d None).writes ≡ 0
begun_untalked (FromOff m) = look_untalked
begun_untalked (Free m r) = look_untalked
begun_untalked (Asked s d Diagnostic n r) = keys_untalked
begun_untalked (Asked s d MessageUnit n r) = unit_untalked
begun_untalked (Late s d Diagnostic e n y v rest u r) = keys_untalked
begun_untalked (Late s d MessageUnit e n y v rest u r) = unit_untalked
begun_untalked (Marked queue m r) = talk_untalked ask.Facts
begun_untalked (Renewed d x v hv o r) = talk_untalked ask.Facts
begun_untalked (Next d x v hv o s a f) = talk_untalked a
