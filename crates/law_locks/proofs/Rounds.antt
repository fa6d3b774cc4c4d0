-- A handshake's turn: what the host writes with the value that it waits for, and where the two ends stand behind it.
use Rattle.std.proofs.Common.{◌≡◌, ℕ, zero, suc, ◌+◌, ◌-◌, ◌*◌, ◌/◌, ◌%◌, ◌^◌, ◌<◌, ◌≤◌, ◌==◌, ◌&&◌, ◌⊎◌, inl, inr, eqb, not, nat_le, nat_lt, Bool, true, false, if◌then◌else◌, List, [], ◌∷◌, ◌++◌, drop, get_or, length, slice_index, take, Option, Some, None, refl, ap, ap₂, sym, ◌∙◌, subst, append_assoc, length-append, arith}
use Rattle.std.specs.List.{All}
use Rattle.std.proofs.Math.Seq.{take-append_seam}
use Rattle.std.proofs.lemmas.Bool.{and_from, false≢true, le-leb, lt-ltb, ne_eqb}
use Rattle.std.proofs.lemmas.Bool.Decides.{nat_tests}
use Rattle.std.proofs.lemmas.List.{append-nil, drop_all, get_or-append-add, get_or_append_left, get_or_at, length-drop}
use Rattle.std.proofs.lemmas.Nat.Bits.{and_pow}
use Rattle.byteorder.specs.Endian.{little_bytes, little_number}
use Rattle.mpi_doorbell.specs.Bytes.{has, padded}
use Rattle.mpi_doorbell.specs.DoorRegisters.{DoorRegisters, Written, bits_if, data_word, doorbell_value, doorbell_written, function_written, is_fault, quietly, register_value, register_written, status_written}
use Rattle.mpi_doorbell.specs.Handshake.{Handshake, Asked, Collects, Idle, Replies, asked_by, asks, dword_taken, is_idle, next_word}
use Rattle.mpi_doorbell.specs.HostDoor.{HostDoor, Stepped, finishes, reads, refuses, register_of, writes}
use Rattle.mpi_doorbell.specs.HostHandshake.{hears_end, is_bad_length, is_whole, opening_dword, opens, sends, takes_word, with_word}
use Rattle.mpi_doorbell.specs.State.{state_bits}
use Rattle.mpi_doorbell.specs.declared.effect.Effect.{Effect}
use Rattle.mpi_doorbell.specs.declared.effect.Effect.TheVariants as effect
use Rattle.mpi_doorbell.specs.declared.registers.TheConstants.{DOORBELL, DOORBELL_USED, DOORBELL_WHO_INIT_SHIFT, HOST_INTERRUPT_STATUS, IOC2SYS_DB_STATUS, SYS2IOC_DB_STATUS}
use Rattle.mpi_doorbell.specs.declared.stage.Reading.{Reading}
use Rattle.mpi_doorbell.specs.declared.stage.Reading.TheVariants as reading
use Rattle.mpi_doorbell.specs.declared.stage.Stage.TheVariants.{Awaits, Ended, Finishes, Opens, Reads}
use Rattle.mpi_doorbell.specs.declared.state.IocState.{IocState}
use Rattle.mpi_doorbell.specs.declared.state.IocState.TheVariants as ioc_state
use Rattle.mpi_doorbell.specs.declared.step.DoorStep.{DoorStep}
use Rattle.mpi_doorbell.specs.declared.step.DoorStep.TheVariants as step
use Rattle.mpi_doorbell.proofs.HostRuns.{Dwords, FirstDword, first_dword}
use Rattle.mpt_messages.specs.declared.host_ask.HostAsk.{HostAsk}
use Rattle.mpt_wire.specs.Messages.DoorbellWords.{asked_bytes, replied_bytes}
use Rattle.mpt_trace.specs.declared.item.Down.{Down}
use Rattle.mpt_trace.specs.declared.item.Down.TheVariants as down
use Rattle.mpt_rules.specs.Host.Doorbell.{DoorTurn, turn_from}
use Rattle.mpt_rules.specs.Ioc.Parts.{Ioc, ioc_queue_count, state_of}
use Rattle.mpt_rules.specs.Ioc.Registers as registers
use Rattle.law_facts.specs.DoorAhead.{does_still, writes_still, written_ahead}
use Rattle.law_moves.proofs.IocTakes.{ComesUp, Shook, Stays, shook}
use Rattle.law_doors.proofs.Ahead.{ahead-nil, ahead-write}
use Rattle.law_starts.proofs.QueuesTurns.{AsksFor}
use Rattle.law_starts.proofs.Resetting.{TurnAt}
use Rattle.law_locks.specs.Locks.{Collected, HasAnswered, HeardOut, IsHearing, IsSending, IsUnasked, IsUnopened, ShakesAt, reply_due, state_behind, who_init_behind}
use Rattle.law_locks.proofs.Asks.{AskFits, IsAnsweredSo, ReplyFits, answered_so, ask_is, reply_is, small_behind, whole_behind}

-- ---- what registers read

-- the Doorbell, by what it shows
abbrev pub bell_value : IocState → ℕ → Handshake → ℕ
bell_value s who h = state_bits s + bits_if (not (is_idle h)) DOORBELL_USED + who * 2 ^ DOORBELL_WHO_INIT_SHIFT + data_word s h

pub bell_is : (r : DoorRegisters) (s : IocState) (who : ℕ) (h : Handshake) → r.state ≡ s → r.who_init ≡ who → r.handshake ≡ h → doorbell_value r ≡ bell_value s who h
bell_is r s who h e f g = ap (λ x. bell_value x r.who_init r.handshake) e ∙ (ap (λ x. bell_value s x r.handshake) f ∙ ap (bell_value s who) g)

bit_clear : (n : ℕ) → n / 2 ^ 27 % 2 ≡ 0 → has n DOORBELL_USED ≡ false
bit_clear n e = ap (λ x. not (eqb x 0)) (and_pow n 27 ∙ ap (λ b. b * 2 ^ 27) e)

pub unused : (s : IocState) (who : ℕ) → is_fault s ≡ false → who < 8 → has (bell_value s who Idle) DOORBELL_USED ≡ false
unused ioc_state.Reset who e small = bit_clear _ (omega arith)
unused ioc_state.Ready who e small = bit_clear _ (omega arith)
unused ioc_state.Operational who e small = bit_clear _ (omega arith)
unused (ioc_state.Fault code) who e small = absurd (false≢true (sym e))

two_bytes : (n x y : ℕ) → n % 256 ≡ x → n / 256 % 256 ≡ y → little_bytes 2 n ≡ x ∷ y ∷ []
two_bytes n x y e f = cc

pub word_of : (s : IocState) (who x y : ℕ) (rest : List ℕ) → is_fault s ≡ false → who < 8 → x < 256 → y < 256 → little_bytes 2 (bell_value s who (Replies (x ∷ y ∷ rest))) ≡ x ∷ y ∷ []
word_of ioc_state.Reset who x y rest e small p q = two_bytes _ x y (omega arith) (omega arith)
word_of ioc_state.Ready who x y rest e small p q = two_bytes _ x y (omega arith) (omega arith)
word_of ioc_state.Operational who x y rest e small p q = two_bytes _ x y (omega arith) (omega arith)
word_of (ioc_state.Fault code) who x y rest e small p q = absurd (false≢true (sym e))

pub low_of : (s : IocState) (who x y : ℕ) (rest : List ℕ) → is_fault s ≡ false → who < 8 → x < 256 → y < 256 → bell_value s who (Replies (x ∷ y ∷ rest)) % 256 ≡ x
low_of ioc_state.Reset who x y rest e small p q = omega arith
low_of ioc_state.Ready who x y rest e small p q = omega arith
low_of ioc_state.Operational who x y rest e small p q = omega arith
low_of (ioc_state.Fault code) who x y rest e small p q = absurd (false≢true (sym e))

-- the interrupt status
pub interrupt_read : (r : DoorRegisters) → has (register_value r HOST_INTERRUPT_STATUS) IOC2SYS_DB_STATUS ≡ r.ioc2sys
interrupt_read r = by_bit r.ioc2sys
  where
    by_bit : (b : Bool) → has (bits_if b IOC2SYS_DB_STATUS) IOC2SYS_DB_STATUS ≡ b
    by_bit true = refl
    by_bit false = refl

pub taken_read : (r : DoorRegisters) → has (register_value r HOST_INTERRUPT_STATUS) SYS2IOC_DB_STATUS ≡ false
taken_read r = by_bit r.ioc2sys
  where
    by_bit : (b : Bool) → has (bits_if b IOC2SYS_DB_STATUS) SYS2IOC_DB_STATUS ≡ false
    by_bit true = refl
    by_bit false = refl

-- ---- the host's turns

module _ (d : HostDoor) (v : ℕ) where
  abbrev TurnOf : Stepped → DoorTurn
  TurnOf s = turn_from 8 s.door s.step

  -- the Doorbell isn't used
  pub used_turn : has v DOORBELL_USED ≡ false → TurnAt d v (Awaits reading.Used) ≡ record { writes = []; door = record d { stage = Awaits reading.LeftOver }; step = step.Read HOST_INTERRUPT_STATUS }
  unfolding turn_from
  used_turn e = ap (λ b. TurnOf (if b then refuses d 1 v else reads d reading.LeftOver)) e

  -- an interrupt that is left over is cleared, and the handshake opened
  left_turn : has v IOC2SYS_DB_STATUS ≡ true
      → TurnAt d v (Awaits reading.LeftOver) ≡ record { writes = down.Write HOST_INTERRUPT_STATUS 0 ∷ down.Write DOORBELL (opening_dword d.unsent) ∷ []; door = record d { stage = Awaits reading.Opened }; step = step.Read HOST_INTERRUPT_STATUS }
  unfolding turn_from
  left_turn e = ap (λ b. TurnOf (if b then writes d Opens HOST_INTERRUPT_STATUS 0 else opens d)) e

  pub none_left_turn : has v IOC2SYS_DB_STATUS ≡ false → TurnAt d v (Awaits reading.LeftOver) ≡ record { writes = down.Write DOORBELL (opening_dword d.unsent) ∷ []; door = record d { stage = Awaits reading.Opened }; step = step.Read HOST_INTERRUPT_STATUS }
  unfolding turn_from
  none_left_turn e = ap (λ b. TurnOf (if b then writes d Opens HOST_INTERRUPT_STATUS 0 else opens d)) e

  pub opened_turn : has v IOC2SYS_DB_STATUS ≡ true → TurnAt d v (Awaits reading.Opened) ≡ record { writes = down.Write HOST_INTERRUPT_STATUS 0 ∷ []; door = record d { stage = Awaits reading.Taken }; step = step.Read HOST_INTERRUPT_STATUS }
  unfolding turn_from
  opened_turn e = ap (λ b. TurnOf (if b then writes d (Reads reading.Taken) HOST_INTERRUPT_STATUS 0 else reads d reading.Opened)) e

  -- the next dword
  pub sent_turn : has v SYS2IOC_DB_STATUS ≡ false → (length d.unsent == 0) ≡ false
      → TurnAt d v (Awaits reading.Taken) ≡ record { writes = down.Write DOORBELL (little_number 4 d.unsent) ∷ []; door = record d { stage = Awaits reading.Taken; unsent = drop 4 d.unsent }; step = step.Read HOST_INTERRUPT_STATUS }
  unfolding turn_from
  sent_turn e f =
      ap (λ b. TurnOf (if b then reads d reading.Taken else sends d)) e
      ∙ ap (λ b. TurnOf (if b then reads d reading.News else writes (record d { unsent = drop 4 d.unsent }) (Reads reading.Taken) DOORBELL (little_number 4 d.unsent))) f

  -- all were sent
  pub all_sent_turn : has v SYS2IOC_DB_STATUS ≡ false → (length d.unsent == 0) ≡ true → TurnAt d v (Awaits reading.Taken) ≡ record { writes = []; door = record d { stage = Awaits reading.News }; step = step.Read HOST_INTERRUPT_STATUS }
  unfolding turn_from
  all_sent_turn e f =
      ap (λ b. TurnOf (if b then reads d reading.Taken else sends d)) e
      ∙ ap (λ b. TurnOf (if b then reads d reading.News else writes (record d { unsent = drop 4 d.unsent }) (Reads reading.Taken) DOORBELL (little_number 4 d.unsent))) f

  pub news_turn : has v IOC2SYS_DB_STATUS ≡ true → TurnAt d v (Awaits reading.News) ≡ record { writes = []; door = record d { stage = Awaits reading.Word }; step = step.Read DOORBELL }
  unfolding turn_from
  news_turn e = ap (λ b. TurnOf (if b then reads d reading.Word else reads d reading.News)) e

  -- a word of the reply
  pub word_turn : is_whole d.reply ≡ false → is_bad_length d.reply v ≡ false
      → TurnAt d v (Awaits reading.Word) ≡ record { writes = down.Write HOST_INTERRUPT_STATUS 0 ∷ []; door = record (with_word d v) { stage = Awaits reading.News }; step = step.Read HOST_INTERRUPT_STATUS }
  unfolding turn_from
  word_turn e f =
      ap (λ b. TurnOf (if b then hears_end d v else takes_word d v)) e
      ∙ ap (λ b. TurnOf (if b then refuses d 6 v else writes (with_word d v) (Reads reading.News) HOST_INTERRUPT_STATUS 0)) f

  -- its end
  pub end_turn : is_whole d.reply ≡ true → has v DOORBELL_USED ≡ false
      → TurnAt d v (Awaits reading.Word) ≡ record { writes = down.Write HOST_INTERRUPT_STATUS 0 ∷ []; door = record d { stage = Ended }; step = step.Done (length d.reply) (padded d.reply) }
  unfolding turn_from
  end_turn e f =
      ap (λ b. TurnOf (if b then hears_end d v else takes_word d v)) e
      ∙ ap (λ b. TurnOf (if b then reads d reading.Word else writes d Finishes HOST_INTERRUPT_STATUS 0)) f

-- ---- what the door makes of the writes

abbrev pub behind_write : Ioc → Written → Ioc
behind_write i w = does_still (record i { door = w.registers }) w.effect

pub status_ahead : (i : Ioc) (xs : List Down) → is_fault i.door.state ≡ false → written_ahead i (down.Write HOST_INTERRUPT_STATUS 0 ∷ xs) ≡ written_ahead (record i { door = status_written i.door }) xs
status_ahead i xs e = ahead-write i HOST_INTERRUPT_STATUS 0 xs ∙ ap (λ b. written_ahead (behind_write i (if b then quietly i.door else quietly (status_written i.door))) xs) e

pub doorbell_ahead : (i : Ioc) (value : ℕ) (xs : List Down) (w : Written) → is_fault i.door.state ≡ false → doorbell_written i.door value ≡ w → written_ahead i (down.Write DOORBELL value ∷ xs) ≡ written_ahead (behind_write i w) xs
doorbell_ahead i value xs w e f =
    ahead-write i DOORBELL value xs
    ∙ (ap (λ b. written_ahead (behind_write i (if b then quietly i.door else doorbell_written i.door value)) xs) e ∙ ap (λ y. written_ahead (behind_write i y) xs) f)

-- no write says anything
still_up : (i : Ioc) (f : Effect) → (does_still i f).up ≡ i.up
still_up i effect.None = refl
still_up i (effect.Asked count bytes) = by_answer (registers.handshakes i (take count bytes)) (shook i (take count bytes))
  where
    by_answer : (j : Ioc) → Shook i j → j.up ≡ i.up
    by_answer j (Stays s e) = ap (λ (y : Ioc). y.up) e
    by_answer j (ComesUp r s e) = ap (λ (y : Ioc). y.up) e
still_up i effect.UnitReset = refl
still_up i effect.AdapterReset = refl
still_up i (effect.Fault code) = refl

pub ahead_up : (i : Ioc) (xs : List Down) → (written_ahead i xs).up ≡ i.up
unfolding written_ahead
ahead_up i [] = refl
ahead_up i (down.Write reg value ∷ xs) = ahead_up (writes_still i reg value) xs ∙ still_up (record i { door = (register_written i.door reg value).registers }) (register_written i.door reg value).effect
ahead_up i (down.Read reg ∷ xs) = ahead_up i xs
ahead_up i (down.Post d f p ∷ xs) = ahead_up i xs
ahead_up i (down.Return a n ∷ xs) = ahead_up i xs
ahead_up i (down.Stop ∷ xs) = ahead_up i xs

-- an idle door is opened
pub opened_door : (r : DoorRegisters) (n value : ℕ) → r.handshake ≡ Idle → value / 2 ^ 24 ≡ 0x42 → value / 2 ^ 16 % 256 ≡ n → 0 < n → n ≤ 32 → doorbell_written r value ≡ quietly (record r { handshake = Collects n []; ioc2sys = true })
opened_door r n value e f g some fits =
    let both : (nat_lt 0 n && nat_le n 32) ≡ true = and_from _ _ (lt-ltb 0 n some) (le-leb n 32 fits) in
    ap (λ h. let w : Written = if is_idle h then function_written r (value / 2 ^ 24) (value / 2 ^ 16 % 256) else record { registers = record r { handshake = dword_taken h value }; effect = asked_by h value } in w) e
    ∙ (ap (λ x. function_written r x (value / 2 ^ 16 % 256)) f
    ∙ (ap (λ x. function_written r 0x42 x) g
    ∙ ap (λ c. let w : Written = if c then quietly (record r { handshake = Collects n []; ioc2sys = true }) else record { registers = r; effect = effect.Fault 1 } in w) both))

-- a dword is collected, or the last one asks
collected_door : (r : DoorRegisters) (k value : ℕ) (gone : List ℕ) → r.handshake ≡ Collects k gone → doorbell_written r value ≡ record { registers = record r { handshake = dword_taken (Collects k gone) value }; effect = asked_by (Collects k gone) value }
collected_door r k value gone e =
    ap (λ h. let w : Written = if is_idle h then function_written r (value / 2 ^ 24) (value / 2 ^ 16 % 256) else record { registers = record r { handshake = dword_taken h value }; effect = asked_by h value } in w) e

pub more_door : (r : DoorRegisters) (k value : ℕ) (gone : List ℕ) → r.handshake ≡ Collects (suc (suc k)) gone → doorbell_written r value ≡ quietly (record r { handshake = Collects (suc k) (gone ++ little_bytes 4 value) })
more_door r k value gone e =
    let more : nat_lt 1 (suc (suc k)) ≡ true = lt-ltb 1 (suc (suc k)) (omega arith) in
    let less : suc (suc k) - 1 ≡ suc k = omega arith in
    collected_door r (suc (suc k)) value gone e
    ∙ (ap (λ b. let w : Written = record { registers = record r { handshake = if b then Collects (suc (suc k) - 1) (gone ++ little_bytes 4 value) else Asked (gone ++ little_bytes 4 value) }; effect = if b then effect.None else asks (gone ++ little_bytes 4 value) } in w) more
    ∙ ap (λ n. quietly (record r { handshake = Collects n (gone ++ little_bytes 4 value) })) less)

pub last_door : (r : DoorRegisters) (value : ℕ) (gone m : List ℕ) → r.handshake ≡ Collects 1 gone → gone ++ little_bytes 4 value ≡ m → doorbell_written r value ≡ record { registers = record r { handshake = Asked m }; effect = asks m }
last_door r value gone m e f = collected_door r 1 value gone e ∙ ap (λ (x : List ℕ). let w : Written = record { registers = record r { handshake = Asked x }; effect = asks x } in w) f

-- a status write goes on to the next word
next_two : (x y : ℕ) (rest : List ℕ) → (said acc : List ℕ) → (acc ++ x ∷ y ∷ []) ++ rest ≡ said → length rest % 2 ≡ 0 → HeardOut said (acc ++ x ∷ y ∷ []) (next_word (Replies (x ∷ y ∷ rest)))
next_two x y [] said acc e even = sym (append-nil (acc ++ x ∷ y ∷ [])) ∙ e
next_two x y (z ∷ zs) said acc e even =
    let more : nat_lt 2 (length (x ∷ y ∷ z ∷ zs)) ≡ true = lt-ltb 2 (length (x ∷ y ∷ z ∷ zs)) (omega arith) in
    subst (HeardOut said (acc ++ x ∷ y ∷ [])) (sym (ap (λ b. let h : Handshake = if b then Replies (z ∷ zs) else Idle in h) more)) (e, (even, omega arith))

-- ---- the reply's bytes, as far as they were read

part_if : (n g : ℕ) → (4 ≤ n → n < 4 * g) → (nat_le 4 n && nat_le (4 * g) n) ≡ false
part_if n g f = grind (arith, nat_tests)

pub whole_if : (n g : ℕ) → 4 ≤ n → 4 * g ≤ n → (nat_le 4 n && nat_le (4 * g) n) ≡ true
whole_if n g p q = grind (arith, nat_tests)

good_if : (n m : ℕ) → (n ≡ 2 → 5 ≤ m) → (n ≡ 2 → m ≤ 32) → (eqb n 2 && not (nat_le 5 m && nat_le m 32)) ≡ false
good_if n m p q = grind (arith, nat_tests)

module _ (said : List ℕ) (f : ReplyFits said) (acc : List ℕ) (x : ℕ) (xs : List ℕ) (e : acc ++ x ∷ xs ≡ said) where
  pub part_of : is_whole acc ≡ false
  part_of =
      let n : length acc < length said = omega (arith, length-append acc (x ∷ xs), ap length e) in
      part_if (length acc) (slice_index acc 2)
      (λ four. let two : slice_index said 2 ≡ slice_index acc 2 = ap (λ l. get_or l 2 0) (sym e) ∙ get_or_append_left acc (x ∷ xs) 0 2 (omega (arith, four)) in
      omega (arith, f.size, two, n))

  pub good_of : (m : ℕ) → m % 256 ≡ x → is_bad_length acc m ≡ false
  good_of m low =
      let third : length acc ≡ 2 → slice_index said 2 ≡ x = λ n. ap (λ l. get_or l 2 0) (sym e) ∙ get_or_at acc x xs 0 2 n in
      good_if (length acc) (m % 256) (λ n. omega (arith, low, third n, f.size, f.least)) (λ n. omega (arith, low, third n, f.size, f.most))

  pub byte_of : x < 256
  byte_of =
      let at : get_or said (length acc) 0 ≡ x = ap (λ l. get_or l (length acc) 0) (sym e) ∙ get_or_at acc x xs 0 (length acc) refl in
      let here : length acc < length said = omega (arith, length-append acc (x ∷ xs), ap length e) in
      subst (λ (b : ℕ). b < 256) at (f.bytes (length acc) 0 here)

-- what is left of a message is bytes, as it is
pub bytes_left : (gone u m : List ℕ) → gone ++ u ≡ m → All (λ b. b < 256) m → All (λ b. b < 256) u
bytes_left gone u m e all i d l =
    let at : get_or m (length gone + i) d ≡ get_or u i d = ap (λ xs. get_or xs (length gone + i) d) (sym e) ∙ get_or-append-add gone u i d in
    subst (λ (b : ℕ). b < 256) at (all (length gone + i) d (omega (arith, length-append gone u, ap length e, l)))

-- ---- a turn

-- the handshake is over: nothing is open, and all of the reply was read
pub record IsOverSo (q : ℕ) (a : HostAsk) (door : DoorRegisters) (count : ℕ) (bytes : List ℕ) : Type 0 where
  pub handshake : door.handshake ≡ Idle
  pub status : door.ioc2sys ≡ false
  pub answered : HasAnswered a door
  pub said : step.Done count bytes ≡ step.Done (length (replied_bytes (reply_due q a))) (padded (replied_bytes (reply_due q a)))

pub record GoesOn (q : ℕ) (a : HostAsk) (d : HostDoor) (door : DoorRegisters) (reg : ℕ) : Type 0 where
  pub x : Reading
  pub at : d.stage ≡ Awaits x
  pub register : reg ≡ register_of x
  pub shakes : ShakesAt q a d door x

abbrev pub Goes : ℕ → HostAsk → HostDoor → DoorRegisters → DoorStep → Type 0
Goes q a d door (step.Read reg) = GoesOn q a d door reg
Goes q a d door (step.Done count bytes) = IsOverSo q a door count bytes
Goes q a d door (step.Write reg value) = ⊥
Goes q a d door (step.Refused at value) = ⊥

abbrev pub TurnGoes : ℕ → HostAsk → Ioc → DoorTurn → Type 0
TurnGoes q a i t = Goes q a t.door (written_ahead i t.writes).door t.step

module _ (q : ℕ) (few : q ≤ 8) (some : 1 ≤ q) (a : HostAsk) (g : AsksFor q a) (i : Ioc) (n : ioc_queue_count i ≡ q) (d : HostDoor) (v : ℕ) where
  abbrev Turned : Reading → Type 0
  Turned x = TurnGoes q a i (TurnAt d v (Awaits x))

  asked : AskFits (asked_bytes a)
  asked = ask_is q few a g

  said : ReplyFits (replied_bytes (reply_due q a))
  said = reply_is q few a g

  unasked_whole : IsUnasked i.door → is_fault i.door.state ≡ false
  unasked_whole u = ap is_fault u.state

  answered_whole : HasAnswered a i.door → is_fault i.door.state ≡ false
  answered_whole u = ap is_fault u.state ∙ whole_behind q a g

  -- no write: the door stays
  quietly_on : (x y : Reading) (e : HostDoor) (reg : ℕ) → TurnAt d v (Awaits x) ≡ record { writes = []; door = e; step = step.Read reg } → e.stage ≡ Awaits y → reg ≡ register_of y → ShakesAt q a e i.door y → Turned x
  quietly_on x y e reg t s r p = subst (TurnGoes q a i) (sym t) (record { x = y; at = s; register = r; shakes = subst (λ (j : Ioc). ShakesAt q a e j.door y) (sym (ahead-nil i)) p })

  goes_on : (x y : Reading) (e : HostDoor) (reg : ℕ) (ws : List Down) (j : Ioc) → TurnAt d v (Awaits x) ≡ record { writes = ws; door = e; step = step.Read reg } → e.stage ≡ Awaits y → reg ≡ register_of y → written_ahead i ws ≡ j → ShakesAt q a e j.door y → Turned x
  goes_on x y e reg ws j t s r w p = subst (TurnGoes q a i) (sym t) (record { x = y; at = s; register = r; shakes = subst (λ (k : Ioc). ShakesAt q a e k.door y) (sym w) p })

  used : v ≡ register_value i.door DOORBELL → IsUnopened a d i.door → Turned reading.Used
  used e p =
      let free : has v DOORBELL_USED ≡ false = ap (λ m. has m DOORBELL_USED) (e ∙ bell_is i.door ioc_state.Ready 0 Idle p.unasked.state p.unasked.who_init p.handshake) ∙ unused ioc_state.Ready 0 refl (omega arith) in
      quietly_on reading.Used reading.LeftOver (record d { stage = Awaits reading.LeftOver }) HOST_INTERRUPT_STATUS (used_turn d v free) refl refl (record { unsent = p.unsent; reply = p.reply; handshake = p.handshake; status = p.status; unasked = p.unasked })

  left_over : v ≡ register_value i.door HOST_INTERRUPT_STATUS → IsUnopened a d i.door → Turned reading.LeftOver
  left_over e p = by_bit i.door.ioc2sys (ap (λ m. has m IOC2SYS_DB_STATUS) e ∙ interrupt_read i.door)
    where
      size : length d.unsent ≡ length (asked_bytes a)
      size = ap length p.unsent

      opens_so : (k : Ioc) → k.door.handshake ≡ Idle → IsUnasked k.door → written_ahead k (down.Write DOORBELL (opening_dword d.unsent) ∷ []) ≡ record k { door = record k.door { handshake = Collects (length d.unsent / 4) []; ioc2sys = true } }
      opens_so k h u =
          let w = asked.whole in let l = asked.least in let m = asked.most in let s = size in
          doorbell_ahead k (opening_dword d.unsent) [] (quietly (record k.door { handshake = Collects (length d.unsent / 4) []; ioc2sys = true })) (ap is_fault u.state)
          (opened_door k.door (length d.unsent / 4) (opening_dword d.unsent) h (omega (arith, s, m)) (omega (arith, s, m)) (omega (arith, s, l)) (omega (arith, s, m)))
          ∙ ahead-nil _

      sending : (r : DoorRegisters) → IsUnasked r → ShakesAt q a (record d { stage = Awaits reading.Opened }) (record r { handshake = Collects (length d.unsent / 4) []; ioc2sys = true }) reading.Opened
      sending r u =
          let w = asked.whole in let l = asked.least in let s = size in
          (record { reply = p.reply; collected = (p.unsent, (omega (arith, w, s), omega (arith, l, s))); unasked = record { state = u.state; who_init = u.who_init } }, refl)

      -- the interrupt is cleared
      still_idle : (status_written i.door).handshake ≡ Idle
      still_idle = ap next_word p.handshake

      by_bit : (b : Bool) → has v IOC2SYS_DB_STATUS ≡ b → Turned reading.LeftOver
      by_bit true t =
          goes_on reading.LeftOver reading.Opened (record d { stage = Awaits reading.Opened }) HOST_INTERRUPT_STATUS (down.Write HOST_INTERRUPT_STATUS 0 ∷ down.Write DOORBELL (opening_dword d.unsent) ∷ []) _ (left_turn d v t) refl refl
          (status_ahead i (down.Write DOORBELL (opening_dword d.unsent) ∷ []) (unasked_whole p.unasked) ∙ opens_so (record i { door = status_written i.door }) still_idle (record { state = p.unasked.state; who_init = p.unasked.who_init }))
          (sending (status_written i.door) (record { state = p.unasked.state; who_init = p.unasked.who_init }))
      by_bit false t =
          goes_on reading.LeftOver reading.Opened (record d { stage = Awaits reading.Opened }) HOST_INTERRUPT_STATUS (down.Write DOORBELL (opening_dword d.unsent) ∷ []) _ (none_left_turn d v t) refl refl
          (opens_so i p.handshake p.unasked) (sending i.door p.unasked)

  -- a status write leaves what is collected
  still_collected : (m u : List ℕ) (h : Handshake) → Collected m u h → Collected m u (next_word h)
  still_collected m u (Collects missing sent) c = c
  still_collected m u Idle c = absurd c
  still_collected m u (Asked message) c = absurd c
  still_collected m u (Replies left) c = absurd c

  opened : v ≡ register_value i.door HOST_INTERRUPT_STATUS → IsSending a d i.door × (i.door.ioc2sys ≡ true) → Turned reading.Opened
  opened e p =
      let t : has v IOC2SYS_DB_STATUS ≡ true = ap (λ m. has m IOC2SYS_DB_STATUS) e ∙ (interrupt_read i.door ∙ p.1) in
      goes_on reading.Opened reading.Taken (record d { stage = Awaits reading.Taken }) HOST_INTERRUPT_STATUS (down.Write HOST_INTERRUPT_STATUS 0 ∷ []) (record i { door = status_written i.door }) (opened_turn d v t) refl refl
      (status_ahead i [] (unasked_whole p.0.unasked) ∙ ahead-nil _)
      (inl (record { reply = p.0.reply; collected = still_collected (asked_bytes a) d.unsent i.door.handshake p.0.collected; unasked = record { state = p.0.unasked.state; who_init = p.0.unasked.who_init } }))

  -- ---- the next dword

  module _ (k : ℕ) (gone : List ℕ) (h : i.door.handshake ≡ Collects k gone) (c : Collected (asked_bytes a) d.unsent (Collects k gone)) (r : d.reply ≡ []) (u : IsUnasked i.door) where
    first : FirstDword d.unsent
    first =
        let s = c.1.0 in let l = c.1.1 in
        first_dword d.unsent (record { bytes = bytes_left gone d.unsent (asked_bytes a) c.0 asked.bytes; whole = omega (arith, s) }) (λ z. omega (arith, s, l, z))

    unsent : (length d.unsent == 0) ≡ false
    unsent = let s = c.1.0 in let l = c.1.1 in ne_eqb (length d.unsent) 0 (λ z. omega (arith, s, l, z))

    sends_more : (j : ℕ) → k ≡ suc (suc j) → has v SYS2IOC_DB_STATUS ≡ false → Turned reading.Taken
    sends_more j z t =
        let s = c.1.0 in
        goes_on reading.Taken reading.Taken (record d { stage = Awaits reading.Taken; unsent = drop 4 d.unsent }) HOST_INTERRUPT_STATUS (down.Write DOORBELL (little_number 4 d.unsent) ∷ [])
        (record i { door = record i.door { handshake = Collects (suc j) (gone ++ little_bytes 4 (little_number 4 d.unsent)) } }) (sent_turn d v t unsent) refl refl
        (doorbell_ahead i (little_number 4 d.unsent) [] (quietly (record i.door { handshake = Collects (suc j) (gone ++ little_bytes 4 (little_number 4 d.unsent)) })) (unasked_whole u) (more_door i.door j (little_number 4 d.unsent) gone (h ∙ ap (λ m. Collects m gone) z)) ∙ ahead-nil _)
        (inl
        (record {
          reply = r;
          collected = (append_assoc gone (little_bytes 4 (little_number 4 d.unsent)) (drop 4 d.unsent) ∙ (ap (λ x. gone ++ x) first.split ∙ c.0), (omega (arith, length-drop 4 d.unsent, s, z), omega arith));
          unasked = record { state = u.state; who_init = u.who_init };
        }))

    -- the last one asks
    asks_now : k ≡ 1 → has v SYS2IOC_DB_STATUS ≡ false → Turned reading.Taken
    asks_now z t =
        let s = c.1.0 in
        let none : drop 4 d.unsent ≡ [] = drop_all 4 d.unsent (omega (arith, s, z)) in
        let last : little_bytes 4 (little_number 4 d.unsent) ≡ d.unsent = sym (append-nil (little_bytes 4 (little_number 4 d.unsent))) ∙ (ap (λ x. little_bytes 4 (little_number 4 d.unsent) ++ x) (sym none) ∙ first.split) in
        let whole : gone ++ little_bytes 4 (little_number 4 d.unsent) ≡ asked_bytes a = ap (λ x. gone ++ x) last ∙ c.0 in
        let j : Ioc = record i { door = record i.door { handshake = Asked (asked_bytes a) } } in
        let w : written_ahead i (down.Write DOORBELL (little_number 4 d.unsent) ∷ []) ≡ registers.handshakes j (asked_bytes a) =
        doorbell_ahead i (little_number 4 d.unsent) [] (record { registers = record i.door { handshake = Asked (asked_bytes a) }; effect = asks (asked_bytes a) }) (unasked_whole u) (last_door i.door (little_number 4 d.unsent) gone (asked_bytes a) (h ∙ ap (λ m. Collects m gone) z) whole)
        ∙ (ahead-nil _ ∙ ap (registers.handshakes j) (take-append_seam (asked_bytes a) _)) in
        let so : IsAnsweredSo q a (registers.handshakes j (asked_bytes a)) = answered_so q few some j n (record { state = u.state; who_init = u.who_init }) a g refl in
        goes_on reading.Taken reading.Taken (record d { stage = Awaits reading.Taken; unsent = drop 4 d.unsent }) HOST_INTERRUPT_STATUS (down.Write DOORBELL (little_number 4 d.unsent) ∷ []) (registers.handshakes j (asked_bytes a)) (sent_turn d v t unsent) refl refl w
        (inr
        (record {
          unsent = none;
          heard = subst (HeardOut (replied_bytes (reply_due q a)) d.reply) (sym so.handshake) (ap (λ x. x ++ replied_bytes (reply_due q a)) r, (said.even, omega (arith, said.least)));
          interrupt = so.interrupt;
          answered = so.answered_is;
        }))

  sends_on : (h : Handshake) → i.door.handshake ≡ h → Collected (asked_bytes a) d.unsent h → d.reply ≡ [] → IsUnasked i.door → has v SYS2IOC_DB_STATUS ≡ false → Turned reading.Taken
  sends_on (Collects zero gone) e c r u t = let l = c.1.1 in absurd (omega (arith, l))
  sends_on (Collects (suc zero) gone) e c r u t = asks_now 1 gone e c r u refl t
  sends_on (Collects (suc (suc j)) gone) e c r u t = sends_more (suc (suc j)) gone e c r u j refl t
  sends_on Idle e c r u t = absurd c
  sends_on (Asked message) e c r u t = absurd c
  sends_on (Replies left) e c r u t = absurd c

  taken : v ≡ register_value i.door HOST_INTERRUPT_STATUS → IsSending a d i.door ⊎ IsHearing q a d i.door → Turned reading.Taken
  taken e p = by_half p
    where
      t : has v SYS2IOC_DB_STATUS ≡ false
      t = ap (λ m. has m SYS2IOC_DB_STATUS) e ∙ taken_read i.door

      by_half : IsSending a d i.door ⊎ IsHearing q a d i.door → Turned reading.Taken
      by_half (inl p) = sends_on i.door.handshake refl p.collected p.reply p.unasked t
      by_half (inr p) =
          quietly_on reading.Taken reading.News (record d { stage = Awaits reading.News }) HOST_INTERRUPT_STATUS (all_sent_turn d v t (ap (λ xs. length xs == 0) p.unsent)) refl refl
          (record { unsent = p.unsent; heard = p.heard; interrupt = p.interrupt; answered = p.answered })

  -- ---- the reply

  news : v ≡ register_value i.door HOST_INTERRUPT_STATUS → IsHearing q a d i.door → Turned reading.News
  news e p =
      quietly_on reading.News reading.Word (record d { stage = Awaits reading.Word }) DOORBELL (news_turn d v (ap (λ m. has m IOC2SYS_DB_STATUS) e ∙ (interrupt_read i.door ∙ p.interrupt))) refl refl
      (record { unsent = p.unsent; heard = p.heard; interrupt = p.interrupt; answered = p.answered })

  word : v ≡ register_value i.door DOORBELL → IsHearing q a d i.door → Turned reading.Word
  word e p = by_left i.door.handshake refl p.heard
    where
      r : List ℕ
      r = replied_bytes (reply_due q a)

      value_is : (h : Handshake) → i.door.handshake ≡ h → v ≡ bell_value (state_behind a) (who_init_behind a) h
      value_is h t = e ∙ bell_is i.door (state_behind a) (who_init_behind a) h p.answered.state p.answered.who_init t

      over : i.door.handshake ≡ Idle → d.reply ≡ replied_bytes (reply_due q a) → Turned reading.Word
      over t heard =
          let whole : is_whole d.reply ≡ true = ap is_whole heard ∙ whole_if (length r) (slice_index r 2) (omega (arith, said.least)) (omega (arith, said.size)) in
          let free : has v DOORBELL_USED ≡ false = ap (λ m. has m DOORBELL_USED) (value_is Idle t) ∙ unused (state_behind a) (who_init_behind a) (whole_behind q a g) (small_behind q a g) in
          let w : written_ahead i (down.Write HOST_INTERRUPT_STATUS 0 ∷ []) ≡ record i { door = status_written i.door } = status_ahead i [] (answered_whole p.answered) ∙ ahead-nil _ in
          subst (TurnGoes q a i) (sym (end_turn d v whole free))
          (subst (λ (j : Ioc). IsOverSo q a j.door (length d.reply) (padded d.reply)) (sym w)
          (record {
            handshake = ap next_word t;
            status = ap Rattle.mpi_doorbell.specs.Handshake.is_replying t;
            answered = record { state = p.answered.state; who_init = p.answered.who_init };
            said = ap (λ (xs : List ℕ). step.Done (length xs) (padded xs)) heard;
          }))

      next : (x y : ℕ) (rest : List ℕ) → i.door.handshake ≡ Replies (x ∷ y ∷ rest) → d.reply ++ x ∷ y ∷ rest ≡ replied_bytes (reply_due q a) → length rest % 2 ≡ 0 → Turned reading.Word
      next x y rest t whole even =
          let on : (d.reply ++ x ∷ y ∷ []) ++ rest ≡ r = append_assoc d.reply (x ∷ y ∷ []) rest ∙ whole in
          let p1 : x < 256 = byte_of r said d.reply x (y ∷ rest) whole in
          let p2 : y < 256 = byte_of r said (d.reply ++ x ∷ []) y rest (append_assoc d.reply (x ∷ []) (y ∷ rest) ∙ whole) in
          let b : little_bytes 2 v ≡ x ∷ y ∷ [] = ap (little_bytes 2) (value_is (Replies (x ∷ y ∷ rest)) t) ∙ word_of (state_behind a) (who_init_behind a) x y rest (whole_behind q a g) (small_behind q a g) p1 p2 in
          let low : v % 256 ≡ x = ap (λ m. m % 256) (value_is (Replies (x ∷ y ∷ rest)) t) ∙ low_of (state_behind a) (who_init_behind a) x y rest (whole_behind q a g) (small_behind q a g) p1 p2 in
          let h : HeardOut r (d.reply ++ little_bytes 2 v) (next_word i.door.handshake) =
          subst (HeardOut r (d.reply ++ little_bytes 2 v)) (sym (ap next_word t)) (subst (λ z. HeardOut r (d.reply ++ z) (next_word (Replies (x ∷ y ∷ rest)))) (sym b) (next_two x y rest r d.reply on even)) in
          goes_on reading.Word reading.News (record (with_word d v) { stage = Awaits reading.News }) HOST_INTERRUPT_STATUS (down.Write HOST_INTERRUPT_STATUS 0 ∷ []) (record i { door = status_written i.door })
          (word_turn d v (part_of r said d.reply x (y ∷ rest) whole) (good_of r said d.reply x (y ∷ rest) whole v low)) refl refl
          (status_ahead i [] (answered_whole p.answered) ∙ ahead-nil _)
          (record { unsent = p.unsent; heard = h; interrupt = ap Rattle.mpi_doorbell.specs.Handshake.is_replying t; answered = record { state = p.answered.state; who_init = p.answered.who_init } })

      by_bytes : (xs : List ℕ) → i.door.handshake ≡ Replies xs → d.reply ++ xs ≡ replied_bytes (reply_due q a) → length xs % 2 ≡ 0 → 1 ≤ length xs → Turned reading.Word
      by_bytes [] t w m l = absurd (omega (arith, l))
      by_bytes (x ∷ []) t w m l = absurd (omega (arith, m))
      by_bytes (x ∷ y ∷ rest) t w m l = next x y rest t w (omega (arith, m))

      by_left : (h : Handshake) → i.door.handshake ≡ h → HeardOut (replied_bytes (reply_due q a)) d.reply h → Turned reading.Word
      by_left Idle t heard = over t heard
      by_left (Replies left) t heard = by_bytes left t heard.0 heard.1.0 heard.1.1
      by_left (Collects missing message) t heard = absurd heard
      by_left (Asked message) t heard = absurd heard

  -- wherever it stands
  pub turn_goes : (x : Reading) → v ≡ register_value i.door (register_of x) → ShakesAt q a d i.door x → TurnGoes q a i (TurnAt d v (Awaits x))
  turn_goes reading.Used e p = used e p
  turn_goes reading.LeftOver e p = left_over e p
  turn_goes reading.Opened e p = opened e p
  turn_goes reading.Taken e p = taken e p
  turn_goes reading.News e p = news e p
  turn_goes reading.Word e p = word e p
  turn_goes reading.Unlocked e p = absurd p
  turn_goes reading.ResetOver e p = absurd p
  turn_goes (reading.State k) e p = absurd p
  turn_goes reading.UnitReset e p = absurd p
  turn_goes reading.Doorbell e p = absurd p
