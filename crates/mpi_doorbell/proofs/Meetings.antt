-- A host's handshake with an idle adapter asks its message, and is done with the reply.
use Rattle.std.proofs.Common.{◌≡◌, ℕ, zero, suc, ◌-◌, ◌*◌, ◌/◌, ◌%◌, ◌^◌, ◌<◌, ◌≤◌, Bool, true, false, ◌&&◌, not, eqb, nat_lt, nat_le, if◌then◌else◌, Option, Some, None, List, [], ◌∷◌, ◌++◌, length, drop, get_or, slice_index, bit_and, unwrap_or, refl, ap, sym, ◌∙◌, subst, append_assoc, length-append, arith}
use Rattle.std.specs.List.{All}
use Rattle.std.proofs.lemmas.Bool.{and_from, false≢true, le-leb, lt-ltb, ne_eqb}
use Rattle.std.proofs.lemmas.Bool.Decides.{nat_tests}
use Rattle.std.proofs.lemmas.List.{append-nil, drop_all, length-drop, get_or_append_left, get_or_at}
use Rattle.std.proofs.lemmas.Nat.Bits.{and_pow}
use Rattle.std.specs.Int.Bits.{mask_lt}
use Rattle.byteorder.specs.Endian.{little_bytes, little_number}
use Rattle.mpi_doorbell.specs.declared.effect.Effect.{Effect}
use Rattle.mpi_doorbell.specs.declared.effect.Effect.TheVariants as effect
use Rattle.mpi_doorbell.specs.declared.registers.TheConstants.{DOORBELL_USED}
use Rattle.mpi_doorbell.specs.declared.stage.Reading.TheVariants as reading
use Rattle.mpi_doorbell.specs.declared.stage.Stage.{Stage}
use Rattle.mpi_doorbell.specs.declared.stage.Stage.TheVariants.{Reads, Awaits, Opens, Finishes}
use Rattle.mpi_doorbell.specs.declared.state.IocState.{IocState}
use Rattle.mpi_doorbell.specs.declared.state.IocState.TheVariants.{Reset, Ready, Operational, Fault}
use Rattle.mpi_doorbell.specs.Bytes.{IsMessage, IsReply, has, padded}
use Rattle.mpi_doorbell.specs.DoorRegisters.{DoorRegisters, Written, answered, bits_if, doorbell_value, doorbell_written, function_written, is_fault, quietly, register_written, status_written}
use Rattle.mpi_doorbell.specs.Handshake.{Handshake, Idle, Collects, Asked, Replies, asked_by, asks, dword_taken, next_word}
use Rattle.mpi_doorbell.specs.HostDoor.{HostDoor, Stepped, reads, refuses, writes}
use Rattle.mpi_doorbell.specs.HostHandshake.{hears_end, hears_used, hears_word, is_bad_length, is_whole, opening_dword, opens, sends, takes_word, with_word}
use Rattle.mpi_doorbell.specs.HostSteps.{next_step}
use Rattle.mpi_doorbell.specs.Meeting.{AsksAndEnds, IsDoneWith, LeadsIn, LeadsTo, Talk, effect_on, round, step_taken, talk, value_given, with_answer}
use Rattle.mpi_doorbell.proofs.HostRuns.{Dwords, FirstDword, first_dword}

-- one round: the host's step, and what the adapter makes of it
lead_by : (P : Talk → Type 0) (t : Talk) (s : Stepped) (w : Written) → next_step t.host t.value ≡ s → step_taken s.step t.registers ≡ w → w.effect ≡ effect.None
    → LeadsTo P (record { host = s.door; value = value_given s.step t.registers; registers = w.registers }) → LeadsTo P t
lead_by P t s w e f q g =
    let r : DoorRegisters = t.registers in
    let by_step : round t ≡ record { host = s.door; value = value_given s.step r; registers = (step_taken s.step r).registers } =
    ap (λ (k : Stepped). let x : Talk = record { host = k.door; value = value_given k.step r; registers = (step_taken k.step r).registers } in x) e in
    let by_write = ap (λ (y : Written). let x : Talk = record { host = s.door; value = value_given s.step r; registers = y.registers } in x) f in (
      suc g.0,
      (
        ap (λ (k : Stepped). (step_taken k.step r).effect) e ∙ ap (λ (y : Written). y.effect) f ∙ q,
        subst (LeadsIn P g.0) (sym (by_step ∙ by_write)) g.1,
      ),
    )

-- a talk by its parts
abbrev host_at : Stage → List ℕ → List ℕ → HostDoor
host_at s u a = record { stage = s; unsent = u; reply = a }

abbrev talk_at : HostDoor → Option ℕ → DoorRegisters → Talk
talk_at d v r = record { host = d; value = v; registers = r }

abbrev regs : DoorRegisters → ℕ → Handshake → Bool → DoorRegisters
regs r who h b = record r { who_init = who; handshake = h; ioc2sys = b }

-- outside FAULT the registers take a write
works_doorbell : (r : DoorRegisters) (value : ℕ) → is_fault r.state ≡ false → register_written r 0 value ≡ doorbell_written r value
works_doorbell r value e = ap (λ b. if b then quietly r else doorbell_written r value) e

works_status : (r : DoorRegisters) (value : ℕ) → is_fault r.state ≡ false → register_written r 0x30 value ≡ quietly (status_written r)
works_status r value e = ap (λ b. if b then quietly r else quietly (status_written r)) e

-- the Doorbell while there is no handshake isn't used
bit_clear : (n : ℕ) → n / 2 ^ 27 % 2 ≡ 0 → has n (2 ^ 27) ≡ false
bit_clear n e = ap (λ x. not (eqb x 0)) (and_pow n 27 ∙ ap (λ b. b * 2 ^ 27) e)

idle_unused : (s : IocState) (who : ℕ) (r : DoorRegisters) (b : Bool) → is_fault s ≡ false → who < 8 → has (doorbell_value (record (regs r who Idle b) { state = s })) DOORBELL_USED ≡ false
idle_unused Reset who r b e small = bit_clear _ (omega arith)
idle_unused Ready who r b e small = bit_clear _ (omega arith)
idle_unused Operational who r b e small = bit_clear _ (omega arith)
idle_unused (Fault code) who r b e small = absurd (false≢true (sym e))

-- the word that the Doorbell hands over
two_bytes : (n x y : ℕ) → n % 256 ≡ x → n / 256 % 256 ≡ y → little_bytes 2 n ≡ x ∷ y ∷ []
two_bytes n x y e f = cc

word_of : (s : IocState) (who x y : ℕ) (rest : List ℕ) (r : DoorRegisters) (b : Bool) → is_fault s ≡ false → who < 8 → x < 256 → y < 256
    → little_bytes 2 (doorbell_value (record (regs r who (Replies (x ∷ y ∷ rest)) b) { state = s })) ≡ x ∷ y ∷ []
word_of Reset who x y rest r b e small p q = two_bytes _ x y (omega arith) (omega arith)
word_of Ready who x y rest r b e small p q = two_bytes _ x y (omega arith) (omega arith)
word_of Operational who x y rest r b e small p q = two_bytes _ x y (omega arith) (omega arith)
word_of (Fault code) who x y rest r b e small p q = absurd (false≢true (sym e))

low_of : (s : IocState) (who x y : ℕ) (rest : List ℕ) (r : DoorRegisters) (b : Bool) → is_fault s ≡ false → who < 8 → x < 256 → y < 256
    → doorbell_value (record (regs r who (Replies (x ∷ y ∷ rest)) b) { state = s }) % 256 ≡ x
low_of Reset who x y rest r b e small p q = omega arith
low_of Ready who x y rest r b e small p q = omega arith
low_of Operational who x y rest r b e small p q = omega arith
low_of (Fault code) who x y rest r b e small p q = absurd (false≢true (sym e))

-- ---- the reply's words

h_of : List ℕ → Handshake
h_of [] = Idle
h_of (x ∷ xs) = Replies (x ∷ xs)

next_of : (x y : ℕ) (rest : List ℕ) → next_word (Replies (x ∷ y ∷ rest)) ≡ h_of rest
unfolding h_of
next_of x y [] = refl
next_of x y (z ∷ zs) =
    ap (λ b. let h : Handshake = if b then Replies (z ∷ zs) else Idle in h) (lt-ltb 2 (length (x ∷ y ∷ z ∷ zs)) (omega arith))

h_of_some : (xs : List ℕ) → 0 < length xs → h_of xs ≡ Replies xs
unfolding h_of
h_of_some [] l = absurd (omega arith)
h_of_some (x ∷ xs) l = refl

abbrev word_talk : DoorRegisters → ℕ → List ℕ → Handshake → Talk
word_talk r who acc h = talk_at (host_at (Awaits reading.Word) [] acc) (Some (doorbell_value (regs r who h true))) (regs r who h true)

news_go : (P : Talk → Type 0) (r : DoorRegisters) (who : ℕ) (acc : List ℕ) (h : Handshake) → LeadsTo P (word_talk r who acc h)
    → LeadsTo P (talk_at (host_at (Reads reading.News) [] acc) None (regs r who h true))
news_go P r who acc h g =
    let d : HostDoor = host_at (Reads reading.News) [] acc in
    let e : HostDoor = host_at (Awaits reading.News) [] acc in
    lead_by P _ (reads d reading.News) (quietly (regs r who h true)) refl refl refl
    (lead_by P _ (reads e reading.Word) (quietly (regs r who h true)) refl refl refl g)

word_go : (P : Talk → Type 0) (r : DoorRegisters) (who x y : ℕ) (acc rest : List ℕ) → is_fault r.state ≡ false → who < 8 → x < 256 → y < 256
    → is_whole acc ≡ false → is_bad_length acc (doorbell_value (regs r who (Replies (x ∷ y ∷ rest)) true)) ≡ false
    → LeadsTo P (word_talk r who (acc ++ x ∷ y ∷ []) (h_of rest)) → LeadsTo P (word_talk r who acc (Replies (x ∷ y ∷ rest)))
word_go P r who x y acc rest works small p q part good g =
    let h : Handshake = Replies (x ∷ y ∷ rest) in
    let v : ℕ = doorbell_value (regs r who h true) in
    let d : HostDoor = host_at (Awaits reading.Word) [] acc in
    let s : Stepped = writes (with_word d v) (Reads reading.News) 0x30 0 in
    let e : hears_word d v ≡ s = ap (λ b. let k : Stepped = if b then hears_end d v else takes_word d v in k) part ∙ ap (λ b. let k : Stepped = if b then refuses d 6 v else s in k) good in
    let w : LeadsTo P (word_talk r who (acc ++ little_bytes 2 v) (next_word h)) =
    subst (λ (k : Handshake). LeadsTo P (word_talk r who (acc ++ little_bytes 2 v) k)) (sym (next_of x y rest))
    (subst (λ (bs : List ℕ). LeadsTo P (word_talk r who (acc ++ bs) (h_of rest))) (sym (word_of r.state who x y rest r true works small p q)) g) in
    lead_by P _ s (quietly (status_written (regs r who h true))) e (works_status (regs r who h true) 0 works) refl
    (news_go P r who (acc ++ little_bytes 2 v) (next_word h) w)

-- a reply of MsgLength dwords
record Framed (reply : List ℕ) : Type 0 where
  bytes : All (λ b. b < 256) reply
  size : 4 * slice_index reply 2 ≡ length reply
  least : 20 ≤ length reply
  most : length reply ≤ 128

part_if : (n g : ℕ) → (4 ≤ n → n < 4 * g) → (nat_le 4 n && nat_le (4 * g) n) ≡ false
part_if n g f = grind (arith, nat_tests)

whole_if : (n g : ℕ) → 4 ≤ n → 4 * g ≤ n → (nat_le 4 n && nat_le (4 * g) n) ≡ true
whole_if n g p q = grind (arith, nat_tests)

good_if : (n m : ℕ) → (n ≡ 2 → 5 ≤ m) → (n ≡ 2 → m ≤ 32) → (eqb n 2 && not (nat_le 5 m && nat_le m 32)) ≡ false
good_if n m p q = grind (arith, nat_tests)

part_of : (reply acc : List ℕ) (x : ℕ) (xs : List ℕ) → Framed reply → acc ++ x ∷ xs ≡ reply → is_whole acc ≡ false
part_of reply acc x xs f e =
    let n : length acc < length reply = omega (arith, length-append acc (x ∷ xs), ap length e) in
    part_if (length acc) (slice_index acc 2)
    (λ four. let two : slice_index reply 2 ≡ slice_index acc 2 = ap (λ l. get_or l 2 0) (sym e) ∙ get_or_append_left acc (x ∷ xs) 0 2 (omega arith) in
    omega (arith, f.size, two))

good_of : (reply acc : List ℕ) (x m : ℕ) (xs : List ℕ) → Framed reply → acc ++ x ∷ xs ≡ reply → m ≡ x
    → (eqb (length acc) 2 && not (nat_le 5 m && nat_le m 32)) ≡ false
good_of reply acc x m xs f e low =
    let third : length acc ≡ 2 → slice_index reply 2 ≡ x = λ n. ap (λ l. get_or l 2 0) (sym e) ∙ get_or_at acc x xs 0 2 n in
    good_if (length acc) m (λ n. omega (arith, third n, f.size, f.least)) (λ n. omega (arith, third n, f.size, f.most))

byte_of : (reply acc : List ℕ) (x : ℕ) (xs : List ℕ) → Framed reply → acc ++ x ∷ xs ≡ reply → x < 256
byte_of reply acc x xs f e =
    let at : get_or reply (length acc) 0 ≡ x = ap (λ l. get_or l (length acc) 0) (sym e) ∙ get_or_at acc x xs 0 (length acc) refl in
    let here : length acc < length reply = omega (arith, length-append acc (x ∷ xs), ap length e) in
    subst (λ (b : ℕ). b < 256) at (f.bytes (length acc) 0 here)

-- after the last word
end_go : (r : DoorRegisters) (who : ℕ) (reply : List ℕ) → is_fault r.state ≡ false → who < 8 → Framed reply → LeadsTo (IsDoneWith reply) (word_talk r who reply Idle)
end_go r who reply works small f =
    let v : ℕ = doorbell_value (regs r who Idle true) in
    let d : HostDoor = host_at (Awaits reading.Word) [] reply in
    let s : Stepped = writes d Finishes 0x30 0 in
    let whole : is_whole reply ≡ true = whole_if (length reply) (slice_index reply 2) (omega (arith, f.least)) (omega (arith, f.size)) in
    let e : hears_word d v ≡ s = ap (λ b. let k : Stepped = if b then hears_end d v else takes_word d v in k) whole ∙ ap (λ b. let k : Stepped = if b then reads d reading.Word else s in k) (idle_unused r.state who r true works small) in
    lead_by (IsDoneWith reply) _ s (quietly (status_written (regs r who Idle true))) e (works_status (regs r who Idle true) 0 works) refl
    (zero, refl)

words_go : (r : DoorRegisters) (who : ℕ) (reply acc left : List ℕ) → is_fault r.state ≡ false → who < 8 → Framed reply → acc ++ left ≡ reply → length left % 2 ≡ 0
    → LeadsTo (IsDoneWith reply) (word_talk r who acc (h_of left))
unfolding h_of
words_go r who reply acc [] works small f e even =
    subst (λ (a : List ℕ). LeadsTo (IsDoneWith reply) (word_talk r who a Idle)) (sym e ∙ append-nil acc) (end_go r who reply works small f)
words_go r who reply acc (x ∷ []) works small f e even = absurd (omega (arith, even))
words_go r who reply acc (x ∷ y ∷ rest) works small f e even =
    let on : (acc ++ x ∷ y ∷ []) ++ rest ≡ reply = append_assoc acc (x ∷ y ∷ []) rest ∙ e in
    let p : x < 256 = byte_of reply acc x (y ∷ rest) f e in
    let q : y < 256 = byte_of reply (acc ++ x ∷ []) y rest f (append_assoc acc (x ∷ []) (y ∷ rest) ∙ e) in
    word_go (IsDoneWith reply) r who x y acc rest works small p q
    (part_of reply acc x (y ∷ rest) f e)
    (good_of reply acc x _ (y ∷ rest) f e (low_of r.state who x y rest r true works small p q))
    (words_go r who reply (acc ++ x ∷ y ∷ []) rest works small f on (omega (arith, even)))

-- ---- the answer

-- the message is sent, and its reply is there
reply_go : (r : DoorRegisters) (who : ℕ) (reply : List ℕ) → is_fault r.state ≡ false → who < 8 → Framed reply → length reply % 2 ≡ 0
    → LeadsTo (IsDoneWith reply) (talk_at (host_at (Reads reading.Taken) [] []) None (regs r who (Replies reply) true))
reply_go r who reply works small f even =
    let P : Talk → Type 0 = IsDoneWith reply in
    let now : DoorRegisters = regs r who (Replies reply) true in
    let words : LeadsTo P (word_talk r who [] (Replies reply)) =
    subst (λ (h : Handshake). LeadsTo P (word_talk r who [] h)) (h_of_some reply (omega (arith, f.least))) (words_go r who reply [] reply works small f refl even) in
    lead_by P _ (reads (host_at (Reads reading.Taken) [] []) reading.Taken) (quietly now) refl refl refl
    (lead_by P _ (reads (host_at (Awaits reading.Taken) [] []) reading.News) (quietly now) refl refl refl
    (lead_by P _ (reads (host_at (Awaits reading.News) [] []) reading.Word) (quietly now) refl refl refl words))

who_if : (b c : Bool) (who x : ℕ) → who < 8 → x < 8 → (if b then unwrap_or (if c then Some x else None) who else who) < 8
who_if true true who x p q = q
who_if true false who x p q = p
who_if false c who x p q = p

who_small : (r : DoorRegisters) (who : ℕ) (message reply : List ℕ) → who < 8 → (answered (regs r who (Asked message) false) reply).who_init < 8
who_small r who message reply small =
    who_if (eqb (little_number 2 (drop 14 reply)) 0) (eqb (slice_index message 3) 2) who (bit_and (slice_index message 0) 7) small (mask_lt (slice_index message 0) 3)

answer_go : (r : DoorRegisters) (who : ℕ) (message reply : List ℕ) → is_fault r.state ≡ false → who < 8 → Framed reply → length reply % 2 ≡ 0
    → LeadsTo (IsDoneWith reply) (with_answer reply (talk_at (host_at (Reads reading.Taken) [] []) None (regs r who (Asked message) false)))
answer_go r who message reply works small f even =
    reply_go r (answered (regs r who (Asked message) false) reply).who_init reply works (who_small r who message reply small) f even

-- ---- the message's dwords

record Sends (message gone u : List ℕ) (k : ℕ) : Type 0 where
  whole : gone ++ u ≡ message
  left : Dwords u
  count : length u ≡ 4 * k

-- the host sends where it isn't done
sends_some : (u : List ℕ) (k : ℕ) → length u ≡ 4 * k → 0 < k → sends (host_at (Awaits reading.Taken) u []) ≡ writes (host_at (Awaits reading.Taken) (drop 4 u) []) (Reads reading.Taken) 0 (little_number 4 u)
sends_some u k n more =
    let some : eqb (length u) 0 ≡ false = ne_eqb (length u) 0 (λ e. omega (arith, e)) in
    ap (λ b. let s : Stepped = if b then reads (host_at (Awaits reading.Taken) u []) reading.News else writes (host_at (Awaits reading.Taken) (drop 4 u) []) (Reads reading.Taken) 0 (little_number 4 u) in s) some

first_of_some : (u : List ℕ) (k : ℕ) → Dwords u → length u ≡ 4 * k → 0 < k → FirstDword u
first_of_some u k h n more = first_dword u h (λ e. omega (arith, e))

last_dword : (u : List ℕ) → FirstDword u → length u ≡ 4 → little_bytes 4 (little_number 4 u) ≡ u
last_dword u f four = sym (append-nil (little_bytes 4 (little_number 4 u))) ∙ ap (λ x. little_bytes 4 (little_number 4 u) ++ x) (sym (drop_all 4 u (omega (arith, four)))) ∙ f.split

-- the last dword asks the message
ask_now : (r : DoorRegisters) (who : ℕ) (message gone u reply : List ℕ) → is_fault r.state ≡ false → who < 8 → Framed reply → length reply % 2 ≡ 0
    → Sends message gone u 1 → AsksAndEnds message reply (talk_at (host_at (Awaits reading.Taken) u []) (Some 0) (regs r who (Collects 1 gone) false))
ask_now r who message gone u reply works small f even h =
    let R : DoorRegisters = regs r who (Collects 1 gone) false in
    let n : ℕ = little_number 4 u in
    let t : Talk = talk_at (host_at (Awaits reading.Taken) u []) (Some 0) R in
    let s : Stepped = writes (host_at (Awaits reading.Taken) (drop 4 u) []) (Reads reading.Taken) 0 n in
    let e : next_step t.host t.value ≡ s = sends_some u 1 h.count (omega arith) in
    let is : gone ++ little_bytes 4 n ≡ message = ap (λ x. gone ++ x) (last_dword u (first_of_some u 1 h.left h.count (omega arith)) h.count) ∙ h.whole in
    let w : step_taken s.step R ≡ doorbell_written R n = works_doorbell R n works in
    let by_step : effect_on t ≡ (step_taken s.step R).effect = ap (λ (k : Stepped). (step_taken k.step R).effect) e in
    let asks_it : (doorbell_written R n).effect ≡ effect.Asked (length message) (padded message) = ap (λ (m : List ℕ). effect.Asked (length m) (padded m)) is in
    let after : round t ≡ talk_at (host_at (Reads reading.Taken) [] []) None (regs r who (Asked message) false) =
    ap (λ (k : Stepped). let x : Talk = record { host = k.door; value = value_given k.step R; registers = (step_taken k.step R).registers } in x) e
    ∙ ap (λ (y : Written). let x : Talk = record { host = s.door; value = None; registers = y.registers } in x) w
    ∙ ap (λ (m : List ℕ). talk_at (host_at (Reads reading.Taken) (drop 4 u) []) None (regs r who (Asked m) false)) is
    ∙ ap (λ (x : List ℕ). talk_at (host_at (Reads reading.Taken) x []) None (regs r who (Asked message) false)) (drop_all 4 u (omega (arith, h.count))) in
    record {
      asked = by_step ∙ ap (λ (y : Written). y.effect) w ∙ asks_it;
      ends = subst (λ (x : Talk). LeadsTo (IsDoneWith reply) (with_answer reply x)) (sym after) (answer_go r who message reply works small f even);
    }

-- a dword that isn't the last
send_one : (P : Talk → Type 0) (r : DoorRegisters) (who j : ℕ) (gone u : List ℕ) → is_fault r.state ≡ false → length u ≡ 4 * suc (suc j)
    → LeadsTo P (talk_at (host_at (Reads reading.Taken) (drop 4 u) []) None (regs r who (Collects (suc j) (gone ++ little_bytes 4 (little_number 4 u))) false))
    → LeadsTo P (talk_at (host_at (Awaits reading.Taken) u []) (Some 0) (regs r who (Collects (suc (suc j)) gone) false))
send_one P r who j gone u works n g =
    let R : DoorRegisters = regs r who (Collects (suc (suc j)) gone) false in
    let v : ℕ = little_number 4 u in
    let s : Stepped = writes (host_at (Awaits reading.Taken) (drop 4 u) []) (Reads reading.Taken) 0 v in
    let more : nat_lt 1 (suc (suc j)) ≡ true = lt-ltb 1 (suc (suc j)) (omega arith) in
    let one_less : suc j ≡ suc (suc j) - 1 = omega arith in
    let after : dword_taken (Collects (suc (suc j)) gone) v ≡ Collects (suc j) (gone ++ little_bytes 4 v) =
    ap (λ b. let h : Handshake = if b then Collects (suc (suc j) - 1) (gone ++ little_bytes 4 v) else Asked (gone ++ little_bytes 4 v) in h) more
    ∙ ap (λ k. Collects k (gone ++ little_bytes 4 v)) (sym one_less) in
    let quiet_now : asked_by (Collects (suc (suc j)) gone) v ≡ effect.None =
    ap (λ b. let e : Effect = if b then effect.None else asks (gone ++ little_bytes 4 v) in e) more in
    lead_by P _ s (doorbell_written R v) (sends_some u (suc (suc j)) n (omega arith)) (works_doorbell R v works) quiet_now
    (subst (λ (h : Handshake). LeadsTo P (talk_at (host_at (Reads reading.Taken) (drop 4 u) []) None (regs r who h false))) (sym after) g)

-- the host looks whether its last dword was taken
taken_go : (P : Talk → Type 0) (r : DoorRegisters) (who : ℕ) (u : List ℕ) (h : Handshake)
    → LeadsTo P (talk_at (host_at (Awaits reading.Taken) u []) (Some 0) (regs r who h false))
    → LeadsTo P (talk_at (host_at (Reads reading.Taken) u []) None (regs r who h false))
taken_go P r who u h g = lead_by P _ (reads (host_at (Reads reading.Taken) u []) reading.Taken) (quietly (regs r who h false)) refl refl refl g

sends_rest : (message gone u : List ℕ) (j : ℕ) → Sends message gone u (suc (suc j)) → Sends message (gone ++ little_bytes 4 (little_number 4 u)) (drop 4 u) (suc j)
sends_rest message gone u j h =
    let f : FirstDword u = first_of_some u (suc (suc j)) h.left h.count (omega arith) in
    record {
      whole = append_assoc gone (little_bytes 4 (little_number 4 u)) (drop 4 u) ∙ ap (λ x. gone ++ x) f.split ∙ h.whole;
      left = f.rest;
      count = omega (arith, length-drop 4 u, h.count);
    }

dwords_go : (r : DoorRegisters) (who k : ℕ) (message gone u reply : List ℕ) → is_fault r.state ≡ false → who < 8 → Framed reply → length reply % 2 ≡ 0
    → 0 < k → Sends message gone u k → LeadsTo (AsksAndEnds message reply) (talk_at (host_at (Reads reading.Taken) u []) None (regs r who (Collects k gone) false))
dwords_go r who zero message gone u reply works small f even more h = absurd (omega arith)
dwords_go r who (suc zero) message gone u reply works small f even more h =
    taken_go (AsksAndEnds message reply) r who u (Collects 1 gone) (zero, ask_now r who message gone u reply works small f even h)
dwords_go r who (suc (suc j)) message gone u reply works small f even more h =
    taken_go (AsksAndEnds message reply) r who u (Collects (suc (suc j)) gone)
    (send_one (AsksAndEnds message reply) r who j gone u works h.count
    (dwords_go r who (suc j) message (gone ++ little_bytes 4 (little_number 4 u)) (drop 4 u) reply works small f even (omega arith) (sends_rest message gone u j h)))

-- ---- the opening

opened_state : (r : DoorRegisters) (who n : ℕ) (b : Bool) (value : ℕ) → value / 2 ^ 24 ≡ 0x42 → value / 2 ^ 16 % 256 ≡ n → 0 < n → n ≤ 32
    → doorbell_written (regs r who Idle b) value ≡ quietly (regs r who (Collects n []) true)
opened_state r who n b value e f some fits =
    let R : DoorRegisters = regs r who Idle b in
    let both : (nat_lt 0 n && nat_le n 32) ≡ true = and_from _ _ (lt-ltb 0 n some) (le-leb n 32 fits) in
    ap (λ x. function_written R x (value / 2 ^ 16 % 256)) e
    ∙ ap (λ x. function_written R 0x42 x) f
    ∙ ap (λ c. let w : Written = if c then quietly (regs r who (Collects n []) true) else record { registers = R; effect = effect.Fault 1 } in w) both

open_go : (r : DoorRegisters) (who : ℕ) (b : Bool) (d : HostDoor) (v : Option ℕ) (message reply : List ℕ) → is_fault r.state ≡ false → who < 8 → Framed reply → length reply % 2 ≡ 0
    → Dwords message → 0 < length message → length message ≤ 128 → next_step d v ≡ opens (host_at Opens message [])
    → LeadsTo (AsksAndEnds message reply) (talk_at d v (regs r who Idle b))
open_go r who b d v message reply works small f even good some fits e =
    let P : Talk → Type 0 = AsksAndEnds message reply in
    let n : ℕ = length message / 4 in
    let value : ℕ = opening_dword message in
    let count : length message ≡ 4 * n = omega (arith, good.whole) in
    let more : 0 < n = omega (arith, count) in
    let opened : DoorRegisters = regs r who (Collects n []) true in
    let w : step_taken (opens (host_at Opens message [])).step (regs r who Idle b) ≡ quietly opened =
    works_doorbell (regs r who Idle b) value works
    ∙ opened_state r who n b value (omega arith) (omega arith) more (omega (arith, count)) in
    lead_by P _ (opens (host_at Opens message [])) (quietly opened) e w refl
    (lead_by P _ (reads (host_at (Reads reading.Opened) message []) reading.Opened) (quietly opened) refl refl refl
    (lead_by P _ (writes (host_at (Awaits reading.Opened) message []) (Reads reading.Taken) 0x30 0) (quietly (status_written opened)) refl (works_status opened 0 works) refl
    (dwords_go r who n message [] message reply works small f even more (record { whole = refl; left = good; count = count }))))

-- an interrupt that is left over is cleared
left_over_go : (r : DoorRegisters) (who : ℕ) (b : Bool) (message reply : List ℕ) → is_fault r.state ≡ false → who < 8 → Framed reply → length reply % 2 ≡ 0
    → Dwords message → 0 < length message → length message ≤ 128
    → LeadsTo (AsksAndEnds message reply) (talk_at (host_at (Awaits reading.LeftOver) message []) (Some (bits_if b 1)) (regs r who Idle b))
left_over_go r who true message reply works small f even good some fits =
    lead_by (AsksAndEnds message reply) _ (writes (host_at (Awaits reading.LeftOver) message []) Opens 0x30 0) (quietly (status_written (regs r who Idle true))) refl (works_status (regs r who Idle true) 0 works) refl
    (open_go r who false (host_at Opens message []) None message reply works small f even good some fits refl)
left_over_go r who false message reply works small f even good some fits =
    open_go r who false (host_at (Awaits reading.LeftOver) message []) (Some 0) message reply works small f even good some fits refl

begin_go : (r : DoorRegisters) (who : ℕ) (b : Bool) (message reply : List ℕ) → is_fault r.state ≡ false → who < 8 → Framed reply → length reply % 2 ≡ 0
    → Dwords message → 0 < length message → length message ≤ 128 → LeadsTo (AsksAndEnds message reply) (talk message (regs r who Idle b))
begin_go r who b message reply works small f even good some fits =
    let P : Talk → Type 0 = AsksAndEnds message reply in
    let R : DoorRegisters = regs r who Idle b in
    let free : hears_used (host_at (Awaits reading.Used) message []) (doorbell_value R) ≡ reads (host_at (Awaits reading.Used) message []) reading.LeftOver =
    ap (λ c. let s : Stepped = if c then refuses (host_at (Awaits reading.Used) message []) 1 (doorbell_value R) else reads (host_at (Awaits reading.Used) message []) reading.LeftOver in s) (idle_unused r.state who r b works small) in
    lead_by P _ (reads (host_at (Reads reading.Used) message []) reading.Used) (quietly R) refl refl refl
    (lead_by P _ (reads (host_at (Awaits reading.Used) message []) reading.LeftOver) (quietly R) free refl refl
    (left_over_go r who b message reply works small f even good some fits))

pub ends_meet : (message reply : List ℕ) (r : DoorRegisters) → IsMessage message → All (λ b. b < 256) message → IsReply reply → All (λ b. b < 256) reply
    → 4 * slice_index reply 2 ≡ length reply → r.handshake ≡ Idle → is_fault r.state ≡ false → r.who_init < 8
    → LeadsTo (AsksAndEnds message reply) (talk message r)
ends_meet message reply r m mb p pb size idle works small =
    let f : Framed reply = record { bytes = pb; size = size; least = p.least; most = p.most } in
    subst (λ (h : Handshake). LeadsTo (AsksAndEnds message reply) (talk message (record r { handshake = h }))) (sym idle)
    (begin_go r r.who_init r.ioc2sys message reply works small f (omega (arith, p.whole)) (record { bytes = mb; whole = m.whole }) (omega (arith, m.least)) m.most)
