-- From where they stand the two ends of the doorbell lead, alone, to the end of their handshake.
use Rattle.std.proofs.Common.{◌≡◌, ℕ, zero, suc, ◌*◌, ◌/◌, ◌%◌, ◌<◌, ◌≤◌, ◌==◌, ◌&&◌, ◌⊎◌, inl, inr, Bool, true, false, if◌then◌else◌, List, [], ◌∷◌, ◌++◌, append_assoc, bit_and, drop, length, slice_index, unwrap_or, Option, Some, None, refl, ap, sym, ◌∙◌, subst, arith}
use Rattle.std.specs.Int.Bits.{mask_lt}
use Rattle.std.proofs.lemmas.List.{append-nil, drop_all, length-drop}
use Rattle.std.proofs.lemmas.Bool.{ne_eqb}
use Rattle.byteorder.specs.Endian.{little_bytes, little_number}
use Rattle.mpi_doorbell.specs.Bytes.{has, padded}
use Rattle.mpi_doorbell.specs.DoorRegisters.{DoorRegisters, Written, answered, doorbell_written, is_fault, quietly, register_value, register_written, status_written}
use Rattle.mpi_doorbell.specs.Handshake.{Asked, Collects, Handshake, Idle, Replies, asks, next_word, who_init_of}
use Rattle.mpi_doorbell.specs.HostDoor.{HostDoor, Stepped, reads, refuses, writes}
use Rattle.mpi_doorbell.specs.HostHandshake.{hears_end, is_bad_length, is_whole, opening_dword, opens, sends, takes_word, with_word}
use Rattle.mpi_doorbell.specs.HostSteps.{hears, next_step}
use Rattle.mpi_doorbell.specs.Meeting.{AsksAndEnds, IsDoneWith, LeadsIn, LeadsTo, Talk, effect_on, round, step_taken, value_given, with_answer}
use Rattle.mpi_doorbell.specs.declared.effect.Effect.TheVariants as effect
use Rattle.mpi_doorbell.specs.declared.registers.TheConstants.{DOORBELL, DOORBELL_USED, HOST_INTERRUPT_STATUS, IOC2SYS_DB_STATUS, SYS2IOC_DB_STATUS}
use Rattle.mpi_doorbell.specs.declared.stage.Reading.TheVariants as reading
use Rattle.mpi_doorbell.specs.declared.stage.Stage.TheVariants.{Awaits, Finishes, Opens, Reads}
use Rattle.mpi_doorbell.specs.declared.step.DoorStep.TheVariants as step
use Rattle.mpi_doorbell.proofs.HostRuns.{FirstDword, first_dword}
use Rattle.mpt_messages.specs.declared.host_ask.HostAsk.{HostAsk}
use Rattle.law_locks.proofs.Asks.{AskFits, ReplyFits}
use Rattle.law_locks.proofs.Rounds.{bell_is, bell_value, byte_of, bytes_left, good_of, interrupt_read, last_door, low_of, more_door, opened_door, part_of, taken_read, unused, whole_if, word_of}

abbrev talk_at : HostDoor → Option ℕ → DoorRegisters → Talk
talk_at d v r = record { host = d; value = v; registers = r }

-- one round: the host's step, and what the adapter makes of it
lead_by : (P : Talk → Type 0) (t : Talk) (s : Stepped) (w : Written) → next_step t.host t.value ≡ s → step_taken s.step t.registers ≡ w → w.effect ≡ effect.None
    → LeadsTo P (record { host = s.door; value = value_given s.step t.registers; registers = w.registers }) → LeadsTo P t
lead_by P t s w e f q g =
    let r : DoorRegisters = t.registers in
    let by_step : round t ≡ record { host = s.door; value = value_given s.step r; registers = (step_taken s.step r).registers } =
    ap (λ (k : Stepped). let x : Talk = record { host = k.door; value = value_given k.step r; registers = (step_taken k.step r).registers } in x) e in
    let by_write = ap (λ (y : Written). let x : Talk = record { host = s.door; value = value_given s.step r; registers = y.registers } in x) f in (
      suc g.0,
      (
        ap (λ (k : Stepped). (step_taken k.step r).effect) e ∙ ap (λ (y : Written). y.effect) f ∙ q,
        subst (LeadsIn P g.0) (sym (by_step ∙ by_write)) g.1,
      ),
    )

-- outside FAULT the registers take a write
takes_doorbell : (r : DoorRegisters) (value : ℕ) → is_fault r.state ≡ false → register_written r DOORBELL value ≡ doorbell_written r value
takes_doorbell r value e = ap (λ b. if b then quietly r else doorbell_written r value) e

takes_status : (r : DoorRegisters) → is_fault r.state ≡ false → register_written r HOST_INTERRUPT_STATUS 0 ≡ quietly (status_written r)
takes_status r e = ap (λ b. if b then quietly r else quietly (status_written r)) e

-- with the value that it waits for
hears_at : (d : HostDoor) (v : ℕ) (x : Rattle.mpi_doorbell.specs.declared.stage.Reading.Reading) (s : Stepped) → d.stage ≡ Awaits x → hears d (Awaits x) v ≡ s → next_step d (Some v) ≡ s
hears_at d v x s a e = ap (λ z. hears d z v) a ∙ e

-- the words that are left
unfoldable pub left_words : List ℕ → Handshake
left_words [] = Idle
left_words (x ∷ xs) = Replies (x ∷ xs)

next_left : (x y : ℕ) (rest : List ℕ) → next_word (Replies (x ∷ y ∷ rest)) ≡ left_words rest
unfolding left_words
next_left x y [] = refl
next_left x y (z ∷ zs) = ap (λ b. let h : Handshake = if b then Replies (z ∷ zs) else Idle in h) (Rattle.std.proofs.lemmas.Bool.lt-ltb 2 (length (x ∷ y ∷ z ∷ zs)) (omega arith))

pub replies_left : (xs : List ℕ) → 1 ≤ length xs → Replies xs ≡ left_words xs
unfolding left_words
replies_left [] l = absurd (omega (arith, l))
replies_left (x ∷ xs) l = refl

-- ---- the reply

module _ (said : List ℕ) (f : ReplyFits said) where
  abbrev P : Talk → Type 0
  P = IsDoneWith said

  pub word_leads : (left : List ℕ) (d : HostDoor) (r : DoorRegisters) → d.stage ≡ Awaits reading.Word → is_fault r.state ≡ false → r.who_init < 8 → r.handshake ≡ left_words left → d.reply ++ left ≡ said → length left % 2 ≡ 0 → r.ioc2sys ≡ true
      → LeadsTo P (talk_at d (Some (register_value r DOORBELL)) r)
  unfolding left_words
  word_leads [] d r a n small h w even i =
      let v : ℕ = register_value r DOORBELL in
      let heard : d.reply ≡ said = sym (append-nil d.reply) ∙ w in
      let whole : is_whole d.reply ≡ true = ap is_whole heard ∙ whole_if (length said) (slice_index said 2) (omega (arith, f.least)) (omega (arith, f.size)) in
      let free : has v DOORBELL_USED ≡ false = ap (λ m. has m DOORBELL_USED) (bell_is r r.state r.who_init Idle refl refl h) ∙ unused r.state r.who_init n small in
      let e : hears d (Awaits reading.Word) v ≡ writes d Finishes HOST_INTERRUPT_STATUS 0 = ap (λ b. let k : Stepped = if b then hears_end d v else takes_word d v in k) whole ∙ ap (λ b. let k : Stepped = if b then reads d reading.Word else writes d Finishes HOST_INTERRUPT_STATUS 0 in k) free in
      lead_by P _ (writes d Finishes HOST_INTERRUPT_STATUS 0) (quietly (status_written r)) (hears_at d v reading.Word _ a e) (takes_status r n) refl
      (zero, ap (λ (xs : List ℕ). step.Done (length xs) (padded xs)) heard)
  word_leads (x ∷ []) d r a n small h w even i = absurd (omega (arith, even))
  word_leads (x ∷ y ∷ rest) d r a n small h w even i =
      let v : ℕ = register_value r DOORBELL in
      let on : (d.reply ++ x ∷ y ∷ []) ++ rest ≡ said = append_assoc d.reply (x ∷ y ∷ []) rest ∙ w in
      let p1 : x < 256 = byte_of said f d.reply x (y ∷ rest) w in
      let p2 : y < 256 = byte_of said f (d.reply ++ x ∷ []) y rest (append_assoc d.reply (x ∷ []) (y ∷ rest) ∙ w) in
      let val : v ≡ bell_value r.state r.who_init (Replies (x ∷ y ∷ rest)) = bell_is r r.state r.who_init (Replies (x ∷ y ∷ rest)) refl refl h in
      let b : little_bytes 2 v ≡ x ∷ y ∷ [] = ap (little_bytes 2) val ∙ word_of r.state r.who_init x y rest n small p1 p2 in
      let low : v % 256 ≡ x = ap (λ m. m % 256) val ∙ low_of r.state r.who_init x y rest n small p1 p2 in
      let s : Stepped = writes (with_word d v) (Reads reading.News) HOST_INTERRUPT_STATUS 0 in
      let e : hears d (Awaits reading.Word) v ≡ s = ap (λ c. let k : Stepped = if c then hears_end d v else takes_word d v in k) (part_of said f d.reply x (y ∷ rest) w) ∙ ap (λ c. let k : Stepped = if c then refuses d 6 v else s in k) (good_of said f d.reply x (y ∷ rest) w v low) in
      let next : r.handshake ≡ Replies (x ∷ y ∷ rest) → (status_written r).handshake ≡ left_words rest = λ z. ap next_word z ∙ next_left x y rest in
      let up : (status_written r).ioc2sys ≡ true = ap Rattle.mpi_doorbell.specs.Handshake.is_replying h in
      let d2 : HostDoor = record (with_word d v) { stage = Reads reading.News } in
      let d3 : HostDoor = record (with_word d v) { stage = Awaits reading.News } in
      let d4 : HostDoor = record (with_word d v) { stage = Awaits reading.Word } in
      lead_by P _ s (quietly (status_written r)) (hears_at d v reading.Word s a e) (takes_status r n) refl
      (lead_by P (talk_at d2 None (status_written r)) (reads d2 reading.News) (quietly (status_written r)) refl refl refl
      (lead_by P (talk_at d3 (Some (register_value (status_written r) HOST_INTERRUPT_STATUS)) (status_written r)) (reads d3 reading.Word) (quietly (status_written r)) (ap (λ c. let k : Stepped = if c then reads d3 reading.Word else reads d3 reading.News in k) (interrupt_read (status_written r) ∙ up)) refl refl
      (word_leads rest d4 (status_written r) refl n small (next h) (ap (λ z. (d.reply ++ z) ++ rest) b ∙ on) (omega (arith, even)) up)))

  module _ (left : List ℕ) (d : HostDoor) (r : DoorRegisters) (n : is_fault r.state ≡ false) (small : r.who_init < 8) (h : r.handshake ≡ left_words left) (w : d.reply ++ left ≡ said) (even : length left % 2 ≡ 0) (i : r.ioc2sys ≡ true) where
    pub news_leads : d.stage ≡ Awaits reading.News → LeadsTo P (talk_at d (Some (register_value r HOST_INTERRUPT_STATUS)) r)
    news_leads a =
        let v : ℕ = register_value r HOST_INTERRUPT_STATUS in
        lead_by P _ (reads d reading.Word) (quietly r) (hears_at d v reading.News _ a (ap (λ c. let k : Stepped = if c then reads d reading.Word else reads d reading.News in k) (interrupt_read r ∙ i))) refl refl
        (word_leads left (record d { stage = Awaits reading.Word }) r refl n small h w even i)

    pub taken_leads : d.stage ≡ Awaits reading.Taken → d.unsent ≡ [] → LeadsTo P (talk_at d (Some (register_value r HOST_INTERRUPT_STATUS)) r)
    taken_leads a u =
        let v : ℕ = register_value r HOST_INTERRUPT_STATUS in
        let d2 : HostDoor = record d { stage = Awaits reading.News } in
        let e : hears d (Awaits reading.Taken) v ≡ reads d reading.News =
        ap (λ c. let k : Stepped = if c then reads d reading.Taken else sends d in k) (taken_read r) ∙ ap (λ (xs : List ℕ). let k : Stepped = if length xs == 0 then reads d reading.News else writes (record d { unsent = drop 4 d.unsent }) (Reads reading.Taken) DOORBELL (little_number 4 d.unsent) in k) u in
        lead_by P _ (reads d reading.News) (quietly r) (hears_at d v reading.Taken _ a e) refl refl
        (lead_by P (talk_at d2 (Some (register_value r HOST_INTERRUPT_STATUS)) r) (reads d2 reading.Word) (quietly r) (ap (λ c. let k : Stepped = if c then reads d2 reading.Word else reads d2 reading.News in k) (interrupt_read r ∙ i)) refl refl
        (word_leads left (record d { stage = Awaits reading.Word }) r refl n small h w even i))

-- ---- the message

who_small : (b c : Bool) (who x : ℕ) → who < 8 → x < 8 → (if b then unwrap_or (if c then Some x else None) who else who) < 8
who_small true true who x p q = q
who_small true false who x p q = p
who_small false c who x p q = p

module _ (m : List ℕ) (fits : AskFits m) (said : List ℕ) (f : ReplyFits said) where
  abbrev Q : Talk → Type 0
  Q = AsksAndEnds m said

  -- the last dword asks the message, and its reply is there
  asks_now : (gone : List ℕ) (d : HostDoor) (r : DoorRegisters) → d.stage ≡ Awaits reading.Taken → is_fault r.state ≡ false → r.who_init < 8 → r.handshake ≡ Collects 1 gone → d.reply ≡ [] → gone ++ d.unsent ≡ m → length d.unsent ≡ 4 → FirstDword d.unsent
      → AsksAndEnds m said (talk_at d (Some (register_value r HOST_INTERRUPT_STATUS)) r)
  asks_now gone d r a n small h z w four first =
      let v : ℕ = register_value r HOST_INTERRUPT_STATUS in
      let x : ℕ = little_number 4 d.unsent in
      let none : drop 4 d.unsent ≡ [] = drop_all 4 d.unsent (omega (arith, four)) in
      let last : little_bytes 4 x ≡ d.unsent = sym (append-nil (little_bytes 4 x)) ∙ (ap (λ y. little_bytes 4 x ++ y) (sym none) ∙ first.split) in
      let d2 : HostDoor = record d { stage = Reads reading.Taken; unsent = drop 4 d.unsent } in
      let s : Stepped = writes (record d { unsent = drop 4 d.unsent }) (Reads reading.Taken) DOORBELL x in
      let e : next_step d (Some v) ≡ s =
      hears_at d v reading.Taken s a (ap (λ c. let k : Stepped = if c then reads d reading.Taken else sends d in k) (taken_read r) ∙ ap (λ c. let k : Stepped = if c then reads d reading.News else s in k) (ne_eqb (length d.unsent) 0 (λ q. omega (arith, four, q)))) in
      let y : Written = record { registers = record r { handshake = Asked m }; effect = asks m } in
      let wr : step_taken s.step r ≡ y = takes_doorbell r x n ∙ last_door r x gone m h (ap (λ t. gone ++ t) last ∙ w) in
      let after : round (talk_at d (Some v) r) ≡ talk_at d2 None (record r { handshake = Asked m }) =
      ap (λ (k : Stepped). let t : Talk = record { host = k.door; value = value_given k.step r; registers = (step_taken k.step r).registers } in t) e ∙ ap (λ (k : Written). let t : Talk = record { host = s.door; value = None; registers = k.registers } in t) wr in
      let r2 : DoorRegisters = answered (record r { handshake = Asked m }) said in
      let who : r2.who_init < 8 = who_small (little_number 2 (drop 14 said) == 0) (slice_index m 3 == 2) r.who_init (bit_and (slice_index m 0) 7) small (mask_lt (slice_index m 0) 3) in
      record {
        asked = ap (λ (k : Stepped). (step_taken k.step r).effect) e ∙ ap (λ (k : Written). k.effect) wr;
        ends = subst (λ (t : Talk). LeadsTo (IsDoneWith said) (with_answer said t)) (sym after)
            (lead_by (IsDoneWith said) (talk_at d2 None r2) (reads d2 reading.Taken) (quietly r2) refl refl refl
            (taken_leads said f said (record d { stage = Awaits reading.Taken; unsent = drop 4 d.unsent }) r2 n who (replies_left said (omega (arith, f.least))) (ap (λ t. t ++ said) z) f.even refl refl none));
      }

  pub dwords_lead : (k : ℕ) (gone : List ℕ) (d : HostDoor) (r : DoorRegisters) → d.stage ≡ Awaits reading.Taken → is_fault r.state ≡ false → r.who_init < 8 → r.handshake ≡ Collects k gone → d.reply ≡ [] → gone ++ d.unsent ≡ m → length d.unsent ≡ 4 * k → 1 ≤ k
      → LeadsTo Q (talk_at d (Some (register_value r HOST_INTERRUPT_STATUS)) r)
  dwords_lead zero gone d r a n small h z w c l = absurd (omega (arith, l))
  dwords_lead (suc zero) gone d r a n small h z w c l =
      let first = first_dword d.unsent (record { bytes = bytes_left gone d.unsent m w fits.bytes; whole = omega (arith, c) }) (λ q. omega (arith, c, q)) in
      (zero, asks_now gone d r a n small h z w (omega (arith, c)) first)
  dwords_lead (suc (suc j)) gone d r a n small h z w c l =
      let v : ℕ = register_value r HOST_INTERRUPT_STATUS in
      let x : ℕ = little_number 4 d.unsent in
      let first = first_dword d.unsent (record { bytes = bytes_left gone d.unsent m w fits.bytes; whole = omega (arith, c) }) (λ q. omega (arith, c, q)) in
      let s : Stepped = writes (record d { unsent = drop 4 d.unsent }) (Reads reading.Taken) DOORBELL x in
      let e : next_step d (Some v) ≡ s =
      hears_at d v reading.Taken s a (ap (λ b. let k : Stepped = if b then reads d reading.Taken else sends d in k) (taken_read r) ∙ ap (λ b. let k : Stepped = if b then reads d reading.News else s in k) (ne_eqb (length d.unsent) 0 (λ q. omega (arith, c, q)))) in
      let r2 : DoorRegisters = record r { handshake = Collects (suc j) (gone ++ little_bytes 4 x) } in
      let d2 : HostDoor = record d { stage = Reads reading.Taken; unsent = drop 4 d.unsent } in
      lead_by Q _ s (quietly r2) e (takes_doorbell r x n ∙ more_door r j x gone h) refl
      (lead_by Q (talk_at d2 None r2) (reads d2 reading.Taken) (quietly r2) refl refl refl
      (dwords_lead (suc j) (gone ++ little_bytes 4 x) (record d { stage = Awaits reading.Taken; unsent = drop 4 d.unsent }) r2 refl n small refl z
      (append_assoc gone (little_bytes 4 x) (drop 4 d.unsent) ∙ (ap (λ t. gone ++ t) first.split ∙ w)) (omega (arith, length-drop 4 d.unsent, c)) (omega arith)))

  -- the handshake is open
  pub opened_leads : (k : ℕ) (gone : List ℕ) (d : HostDoor) (r : DoorRegisters) → d.stage ≡ Awaits reading.Opened → is_fault r.state ≡ false → r.who_init < 8 → r.handshake ≡ Collects k gone → r.ioc2sys ≡ true → d.reply ≡ [] → gone ++ d.unsent ≡ m → length d.unsent ≡ 4 * k → 1 ≤ k
      → LeadsTo Q (talk_at d (Some (register_value r HOST_INTERRUPT_STATUS)) r)
  opened_leads k gone d r a n small h i z w c l =
      let v : ℕ = register_value r HOST_INTERRUPT_STATUS in
      let s : Stepped = writes d (Reads reading.Taken) HOST_INTERRUPT_STATUS 0 in
      let e : hears d (Awaits reading.Opened) v ≡ s = ap (λ b. let t : Stepped = if b then s else reads d reading.Opened in t) (interrupt_read r ∙ i) in
      let d2 : HostDoor = record d { stage = Reads reading.Taken } in
      lead_by Q _ s (quietly (status_written r)) (hears_at d v reading.Opened s a e) (takes_status r n) refl
      (lead_by Q (talk_at d2 None (status_written r)) (reads d2 reading.Taken) (quietly (status_written r)) refl refl refl
      (dwords_lead k gone (record d { stage = Awaits reading.Taken }) (status_written r) refl n small (ap next_word h) z w c l))

  -- it is opened
  opens_lead : (d : HostDoor) (v : Option ℕ) (r : DoorRegisters) → next_step d v ≡ opens d → is_fault r.state ≡ false → r.who_init < 8 → r.handshake ≡ Idle → d.reply ≡ [] → d.unsent ≡ m → LeadsTo Q (talk_at d v r)
  opens_lead d v r e n small h z u =
      let k : ℕ = length d.unsent / 4 in
      let size : length d.unsent ≡ length m = ap length u in
      let r2 : DoorRegisters = record r { handshake = Collects k []; ioc2sys = true } in
      let w : step_taken (opens d).step r ≡ quietly r2 =
      takes_doorbell r (opening_dword d.unsent) n ∙ opened_door r k (opening_dword d.unsent) h (omega (arith, size, fits.most)) (omega (arith, size, fits.most)) (omega (arith, size, fits.least)) (omega (arith, size, fits.most)) in
      let d2 : HostDoor = record d { stage = Reads reading.Opened } in
      lead_by Q _ (opens d) (quietly r2) e w refl
      (lead_by Q (talk_at d2 None r2) (reads d2 reading.Opened) (quietly r2) refl refl refl
      (opened_leads k [] (record d { stage = Awaits reading.Opened }) r2 refl n small refl refl z u (omega (arith, size, fits.whole)) (omega (arith, size, fits.least))))

  pub left_leads : (d : HostDoor) (r : DoorRegisters) → d.stage ≡ Awaits reading.LeftOver → is_fault r.state ≡ false → r.who_init < 8 → r.handshake ≡ Idle → d.reply ≡ [] → d.unsent ≡ m → LeadsTo Q (talk_at d (Some (register_value r HOST_INTERRUPT_STATUS)) r)
  left_leads d r a n small h z u = by_bit r.ioc2sys (interrupt_read r)
    where
      v : ℕ
      v = register_value r HOST_INTERRUPT_STATUS

      d2 : HostDoor
      d2 = record d { stage = Opens }

      by_bit : (b : Bool) → has (register_value r HOST_INTERRUPT_STATUS) IOC2SYS_DB_STATUS ≡ b → LeadsTo Q (talk_at d (Some (register_value r HOST_INTERRUPT_STATUS)) r)
      by_bit true t =
          lead_by Q _ (writes d Opens HOST_INTERRUPT_STATUS 0) (quietly (status_written r)) (hears_at d v reading.LeftOver _ a (ap (λ b. let k : Stepped = if b then writes d Opens HOST_INTERRUPT_STATUS 0 else opens d in k) t)) (takes_status r n) refl
          (opens_lead d2 None (status_written r) refl n small (ap next_word h) z u)
      by_bit false t = opens_lead d (Some v) r (hears_at d v reading.LeftOver _ a (ap (λ b. let k : Stepped = if b then writes d Opens HOST_INTERRUPT_STATUS 0 else opens d in k) t)) n small h z u

  pub used_leads : (d : HostDoor) (r : DoorRegisters) → d.stage ≡ Awaits reading.Used → is_fault r.state ≡ false → r.who_init < 8 → r.handshake ≡ Idle → d.reply ≡ [] → d.unsent ≡ m → LeadsTo Q (talk_at d (Some (register_value r DOORBELL)) r)
  used_leads d r a n small h z u =
      let v : ℕ = register_value r DOORBELL in
      let free : has v DOORBELL_USED ≡ false = ap (λ x. has x DOORBELL_USED) (bell_is r r.state r.who_init Idle refl refl h) ∙ unused r.state r.who_init n small in
      lead_by Q _ (reads d reading.LeftOver) (quietly r) (hears_at d v reading.Used _ a (ap (λ b. let k : Stepped = if b then refuses d 1 v else reads d reading.LeftOver in k) free)) refl refl
      (left_leads (record d { stage = Awaits reading.LeftOver }) r refl n small h z u)
