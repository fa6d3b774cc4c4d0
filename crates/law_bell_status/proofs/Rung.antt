-- What a write of the host is to the door, and what it is to the rule of the interrupt status.
use Rattle.std.proofs.Common.{◌≡◌, ℕ, zero, suc, ◌-◌, ◌/◌, ◌%◌, ◌^◌, ◌≤◌, ◌==◌, ◌&&◌, ◌||◌, ◌⊎◌, inl, inr, not, nat_le, nat_lt, Bool, true, false, if◌then◌else◌, List, [], ◌∷◌, ◌++◌, drop, length, slice_index, take, Option, Some, None, refl, ap, sym, ◌∙◌, subst, arith}
use Rattle.std.proofs.lemmas.Bool.{eqb-true, lt-ltb, ltb-true, ne_eqb}
use Rattle.byteorder.specs.Endian.{little_bytes}
use Rattle.mpi_doorbell.specs.DoorRegisters.{Written, doorbell_written, function_written, is_fault, quietly, register_written, status_written}
use Rattle.mpi_doorbell.specs.Handshake.{Handshake, Idle, Collects, Asked, Replies, asked_by, asks, dword_taken, is_idle, is_replying, next_word}
use Rattle.mpi_doorbell.specs.declared.effect.Effect.{Effect}
use Rattle.mpi_doorbell.specs.declared.effect.Effect.TheVariants as effect
use Rattle.mpi_doorbell.specs.declared.registers.TheConstants.{DOORBELL, HOST_INTERRUPT_STATUS}
use Rattle.mpt_messages.specs.Function.{function_of}
use Rattle.mpt_messages.specs.Refusal.{request_refusal_as}
use Rattle.mpt_messages.specs.declared.fault.MsgFault.{MsgFault}
use Rattle.mpt_messages.specs.declared.function.Function.{Function}
use Rattle.mpt_messages.specs.declared.function.Function.TheVariants as function
use Rattle.mpt_messages.specs.declared.function.Kind.TheVariants as kind
use Rattle.mpt_wire.specs.Messages.Registers.{Bell, bell_next, door_dwords, door_function, door_written, dword_written, handshake_begun, silent_bell, status_cleared, status_written as bell_status_written}
use Rattle.mpt_trace.specs.declared.entry.Entry.{Entry}
use Rattle.mpt_trace.specs.declared.entry.Entry.TheVariants as entry
use Rattle.mpt_trace.specs.declared.item.Down.{Down}
use Rattle.mpt_trace.specs.declared.item.Down.TheVariants as down
use Rattle.mpt_trace.specs.declared.item.Item.TheVariants as item
use Rattle.mpt_trace.specs.declared.lane.LaneName.TheVariants as lane
use Rattle.mpt_rules.specs.declared.status.TheConstants.{IOC_STATUS_SUCCESS}
use Rattle.mpt_rules.specs.Host.Doorbell.{unit_reset_dword}
use Rattle.mpt_rules.specs.Ioc.Parts.{Ioc, state_of}
use Rattle.mpt_rules.specs.Ioc.Registers as registers
use Rattle.mpt_rules.specs.World.Counts.{how_many, one_if}
use Rattle.law_facts.specs.DoorAhead.{does_still, writes_still}
use Rattle.law_facts.specs.Ties.{missing_of}
use Rattle.law_flights.specs.Given.{Resets}
use Rattle.law_moves.proofs.Counted.{how_many-cons, how_many-nil}
use Rattle.law_moves.proofs.Phases.{and_false}
use Rattle.law_doors.proofs.Ahead.{ahead-nil, ahead-write}
use Rattle.law_locks.proofs.Unbelled.{SameBell, is_bell_write, unbelled_ahead}
use Rattle.law_bell_status.specs.Bells.{DoorFits, is_word_write}

-- the rule has what the door shows of a handshake
pub record Rung (h : Handshake) (status : Bool) (b : Bell) : Type 0 where
  pub rings : b.rings ≡ status
  pub dwords : b.dwords ≡ missing_of h
  pub replying : b.replying ≡ (is_replying h || (is_idle h && status))

-- behind a write
pub record RungBy (reg : ℕ) (h : Handshake) (status : Bool) (b : Bell) (k : Handshake) (next : Bool) (c : Bell) : Type 0 where
  pub fits : DoorFits k next
  pub rung : Rung k next c
  pub reads : c.reads ≡ b.reads
  -- a reply that is read was begun now, or the write isn't one of the status
  pub used : is_replying k ≡ true → (c.used ≡ true) ⊎ ((is_replying h ≡ true) × ((c.used ≡ b.used) × ((reg == HOST_INTERRUPT_STATUS) ≡ false)))
  -- and only a dword begins one
  pub replies : is_replying k ≡ true → (is_replying h ≡ true) ⊎ ((reg == DOORBELL) ≡ true)
  -- a handshake whose end isn't written came to its end now, or nothing was done
  pub ended : (is_idle k && next) ≡ true → ((reg == HOST_INTERRUPT_STATUS) ≡ true) ⊎ (((is_idle h && status) ≡ true) × (c.used ≡ b.used))

never : {T : Type 0} → false ≡ true → T
never e = absurd (cc)

-- ---- the status is written

status_rung : (h : Handshake) (status : Bool) (b : Bell) → DoorFits h status → Rung h status b → (is_replying h ≡ true → b.used ≡ true) → ((is_idle h && status) ≡ true → b.used ≡ false)
    → RungBy HOST_INTERRUPT_STATUS h status b (next_word h) (is_replying h) (status_cleared b)
status_rung Idle status b f r u n =
    subst (λ c. RungBy HOST_INTERRUPT_STATUS Idle status b Idle false c) (sym is)
    (record { fits = tt; rung = record { rings = refl; dwords = refl; replying = refl }; reads = refl; used = λ e. never e; replies = λ e. never e; ended = λ e. never e })
  where
    silent : (s : Bool) → (s ≡ true → b.used ≡ false) → (if s && b.used then b else silent_bell b.reads) ≡ silent_bell b.reads
    silent true g = ap (λ c. if c then b else silent_bell b.reads) (g refl)
    silent false g = refl

    is : status_cleared b ≡ silent_bell b.reads
    is = ap (λ n. if nat_lt 0 n then record b { rings = false } else bell_status_written b) r.dwords ∙ (ap (λ p. if p && b.used then b else silent_bell b.reads) r.replying ∙ silent status n)
status_rung (Collects missing message) status b f r u n =
    subst (λ c. RungBy HOST_INTERRUPT_STATUS (Collects missing message) status b (Collects missing message) false c) (sym is)
    (record { fits = f; rung = record { rings = refl; dwords = r.dwords; replying = r.replying }; reads = refl; used = λ e. never e; replies = λ e. never e; ended = λ e. never e })
  where
    is : status_cleared b ≡ record b { rings = false }
    is = ap (λ n. if nat_lt 0 n then record b { rings = false } else bell_status_written b) r.dwords ∙ ap (λ t. if t then record b { rings = false } else bell_status_written b) (lt-ltb 0 missing f)
status_rung (Asked message) status b f r u n = absurd f
status_rung (Replies left) status b f r u n = subst (λ c. RungBy HOST_INTERRUPT_STATUS (Replies left) status b (next_word (Replies left)) true c) (sym is) (by_more (nat_lt 2 (length left)))
  where
    is : status_cleared b ≡ b
    is =
        ap (λ n. if nat_lt 0 n then record b { rings = false } else bell_status_written b) r.dwords
        ∙ (ap (λ p. if p && b.used then b else silent_bell b.reads) r.replying ∙ ap (λ p. if p then b else silent_bell b.reads) (u refl))

    by_more : (c : Bool) → RungBy HOST_INTERRUPT_STATUS (Replies left) status b (if c then Replies (drop 2 left) else Idle) true b
    by_more true = record { fits = refl; rung = record { rings = r.rings ∙ f; dwords = r.dwords; replying = r.replying }; reads = refl; used = λ e. inl (u refl); replies = λ e. inl refl; ended = λ e. never e }
    by_more false = record { fits = tt; rung = record { rings = r.rings ∙ f; dwords = r.dwords; replying = r.replying }; reads = refl; used = λ e. never e; replies = λ e. never e; ended = λ e. inl refl }

-- ---- an answer rings

abbrev IsRinging : Ioc → Type 0
IsRinging i = (is_replying i.door.handshake ≡ true) × (i.door.ioc2sys ≡ true)

inits : (i : Ioc) (message : List ℕ) (n : ℕ) → IsRinging (registers.inits i message n)
inits i message n = by_test (n == IOC_STATUS_SUCCESS)
  where
    by_test : (b : Bool) → IsRinging (if b then registers.operates (registers.ends_init i n) message else registers.ends_init i n)
    by_test true = (refl, refl)
    by_test false = (refl, refl)

serves : (i : Ioc) (message : List ℕ) (f : Option Function) → IsRinging (registers.serves_handshake i message f)
serves i message None = (refl, refl)
serves i message (Some function.IocInit) = inits i message (registers.init_status i message)
serves i message (Some function.IocFacts) = (refl, refl)
serves i message (Some function.PortFacts) = (refl, refl)
serves i message (Some function.ScsiIo) = (refl, refl)
serves i message (Some function.TaskManagement) = (refl, refl)
serves i message (Some function.Config) = (refl, refl)
serves i message (Some function.PortEnable) = (refl, refl)
serves i message (Some function.EventNotification) = (refl, refl)
serves i message (Some function.EventAck) = (refl, refl)
serves i message (Some function.UnitControl) = (refl, refl)

rings : (i : Ioc) (message : List ℕ) → IsRinging (registers.handshakes i message)
rings i message = by_refusal (request_refusal_as kind.Handshake message (function_of (slice_index message 3)))
  where
    by_refusal : (o : Option MsgFault) → IsRinging (registers.handshakes_if i message o)
    by_refusal None = serves i message (function_of (slice_index message 3))
    by_refusal (Some refusal) = (refl, refl)

replying_rung : (h : Handshake) (status : Bool) (b : Bell) (k : Handshake) (next : Bool) → is_replying k ≡ true → next ≡ true → RungBy DOORBELL h status b k next (record b { dwords = 0; replying = true; used = true; rings = true })
replying_rung h status b (Replies left) next e n =
    record { fits = n; rung = record { rings = sym n; dwords = refl; replying = refl }; reads = refl; used = λ x. inl refl; replies = λ x. inr refl; ended = λ x. never x }
replying_rung h status b Idle next e n = never e
replying_rung h status b (Collects missing message) next e n = never e
replying_rung h status b (Asked message) next e n = never e

-- ---- the Doorbell is written

module _ (i : Ioc) (b : Bell) (value : ℕ) where
  abbrev After : Written → Ioc
  After w = (registers.after_effect (record i { door = w.registers }) w.effect).part

  abbrev Goal : Handshake → Bool → Written → Bell → Type 0
  Goal h status w c = RungBy DOORBELL h status b (After w).door.handshake (After w).door.ioc2sys c

  -- the door writes as with this handshake
  abbrev of_handshake : Handshake → Written
  of_handshake h =
      if is_idle h then function_written i.door (value / 2 ^ 24) (value / 2 ^ 16 % 256)
      else record { registers = record i.door { handshake = dword_taken h value }; effect = asked_by h value }

  -- a function is written
  module _ (h : i.door.handshake ≡ Idle) (r : Rung Idle i.door.ioc2sys b) (quiet : is_word_write (down.Write DOORBELL value) ≡ true → i.door.ioc2sys ≡ false) where
    opened : (f n : ℕ) → value / 2 ^ 24 ≡ f → value / 2 ^ 16 % 256 ≡ n → (Resets (function_written i.door f n).effect → ⊥) → is_fault (state_of (After (function_written i.door f n))) ≡ false → Goal Idle i.door.ioc2sys (function_written i.door f n) (handshake_begun value b)
    opened f n ef en still whole = by_function (f == 0x42) refl (f == 0x40) refl still whole
      where
        by_size : (c : Bool) → (nat_lt 0 n && nat_le n 32) ≡ c → (f == 0x42) ≡ true
            → (let w : Written = if c then quietly (record i.door { handshake = Collects n []; ioc2sys = true }) else record { registers = i.door; effect = effect.Fault 1 } in is_fault (state_of (After w)) ≡ false → Goal Idle i.door.ioc2sys w (handshake_begun value b))
        by_size true e t whole =
            subst (λ c. RungBy DOORBELL Idle i.door.ioc2sys b (Collects n []) true c) (sym is)
            (record { fits = some; rung = record { rings = refl; dwords = en; replying = r.replying ∙ no_word }; reads = refl; used = λ x. never x; replies = λ x. never x; ended = λ x. never x })
          where
            fn : (door_function value == 0x42) ≡ true
            fn = ap (λ m. m == 0x42) ef ∙ t

            is : handshake_begun value b ≡ record b { dwords = door_dwords value; rings = true }
            is = ap (λ c. if c then record b { dwords = door_dwords value; rings = true } else b) fn

            some : 1 ≤ n
            some = ltb-true 0 n (and_false _ _ e).0

            word : is_word_write (down.Write DOORBELL value) ≡ true
            word = by_unit (value == unit_reset_dword) refl
              where
                by_unit : (c : Bool) → (value == unit_reset_dword) ≡ c → (true && not c) ≡ true
                by_unit false y = refl
                by_unit true y = let z : value ≡ unit_reset_dword = eqb-true value unit_reset_dword y in let a : false ≡ true = sym (ap (λ m. door_function m == 0x42) z) ∙ fn in never a

            no_word : i.door.ioc2sys ≡ false
            no_word = quiet word
        by_size false e t whole = absurd (cc)

        by_function : (c : Bool) → (f == 0x42) ≡ c → (d : Bool) → (f == 0x40) ≡ d
            → (let w : Written = if c then (if nat_lt 0 n && nat_le n 32 then quietly (record i.door { handshake = Collects n []; ioc2sys = true }) else record { registers = i.door; effect = effect.Fault 1 }) else if d then record { registers = i.door; effect = effect.UnitReset } else record { registers = i.door; effect = effect.Fault 2 } in
            (Resets w.effect → ⊥) → is_fault (state_of (After w)) ≡ false → Goal Idle i.door.ioc2sys w (handshake_begun value b))
        by_function true e d g still whole = by_size (nat_lt 0 n && nat_le n 32) refl e whole
        by_function false e true g still whole = absurd (still tt)
        by_function false e false g still whole = absurd (cc)

    idle_rung : (Resets (of_handshake Idle).effect → ⊥) → is_fault (state_of (After (of_handshake Idle))) ≡ false → Goal Idle i.door.ioc2sys (of_handshake Idle) (door_written value b)
    idle_rung still whole =
        by_status i.door.ioc2sys refl
      where
        is : door_written value b ≡ (if i.door.ioc2sys then b else handshake_begun value b)
        is = ap (λ n. if nat_lt 0 n then dword_written b else (if b.replying then b else handshake_begun value b)) r.dwords ∙ ap (λ p. if p then b else handshake_begun value b) r.replying

        g : Goal Idle i.door.ioc2sys (of_handshake Idle) (handshake_begun value b)
        g = opened (value / 2 ^ 24) (value / 2 ^ 16 % 256) refl refl still whole

        by_status : (c : Bool) → i.door.ioc2sys ≡ c → Goal Idle i.door.ioc2sys (of_handshake Idle) (door_written value b)
        by_status false e = subst (Goal Idle i.door.ioc2sys (of_handshake Idle)) (sym (is ∙ ap (λ p. if p then b else handshake_begun value b) e)) g
        by_status true e = absurd (no_open (is_word_write (down.Write DOORBELL value)) refl)
          where
            no_open : (c : Bool) → is_word_write (down.Write DOORBELL value) ≡ c → ⊥
            no_open true y = let z : false ≡ true = sym (quiet y) ∙ e in never z
            no_open false y = still (unit_resets (value == unit_reset_dword) refl y)
              where
                unit_resets : (c : Bool) → (value == unit_reset_dword) ≡ c → (true && not c) ≡ false → Resets (of_handshake Idle).effect
                unit_resets true t u = subst (λ m. Resets (function_written i.door (m / 2 ^ 24) (m / 2 ^ 16 % 256)).effect) (sym (eqb-true value unit_reset_dword t)) tt
                unit_resets false t u = never (sym u)

  -- a dword of a message
  module _ (missing : ℕ) (gone : List ℕ) (f : 1 ≤ missing) (r : Rung (Collects missing gone) i.door.ioc2sys b) where
    word_is : door_written value b ≡ dword_written b
    word_is = ap (λ n. if nat_lt 0 n then dword_written b else (if b.replying then b else handshake_begun value b)) r.dwords ∙ ap (λ t. if t then dword_written b else (if b.replying then b else handshake_begun value b)) (lt-ltb 0 missing f)

    abbrev Taken : ℕ → Bool → Written
    Taken n c = record { registers = record i.door { handshake = if c then Collects (n - 1) (gone ++ little_bytes 4 value) else Asked (gone ++ little_bytes 4 value) }; effect = if c then effect.None else asks (gone ++ little_bytes 4 value) }

    abbrev Told : ℕ → Bool → Bell
    Told n c = if c then record b { dwords = 0; replying = true; used = true; rings = true } else record b { dwords = n - 1 }

    collects_rung : Goal (Collects missing gone) i.door.ioc2sys (of_handshake (Collects missing gone)) (door_written value b)
    collects_rung = subst (Goal (Collects missing gone) i.door.ioc2sys (of_handshake (Collects missing gone))) (sym word_is) (by_missing missing f r.dwords)
      where
        more : (n : ℕ) → 1 ≤ n - 1 → Goal (Collects missing gone) i.door.ioc2sys (Taken n true) (Told n false)
        more n l = record { fits = l; rung = record { rings = r.rings; dwords = refl; replying = r.replying }; reads = refl; used = λ x. never x; replies = λ x. never x; ended = λ x. never x }

        by_missing : (n : ℕ) → 1 ≤ n → b.dwords ≡ n → Goal (Collects missing gone) i.door.ioc2sys (of_handshake (Collects n gone)) (dword_written b)
        by_missing zero l e = absurd (omega (arith, l))
        by_missing (suc zero) l e =
            let a : Ioc = record i { door = record i.door { handshake = Asked (gone ++ little_bytes 4 value) } } in
            let q = rings a (take (length (gone ++ little_bytes 4 value)) (Rattle.mpi_doorbell.specs.Bytes.padded (gone ++ little_bytes 4 value))) in
            subst (Goal (Collects missing gone) i.door.ioc2sys (of_handshake (Collects 1 gone))) (sym (ap (λ m. Told m (m == 1)) e))
            (replying_rung (Collects missing gone) i.door.ioc2sys b _ _ q.0 q.1)
        by_missing (suc (suc n)) l e =
            let two : nat_lt 1 (suc (suc n)) ≡ true = lt-ltb 1 (suc (suc n)) (omega arith) in
            let big : (suc (suc n) == 1) ≡ false = ne_eqb (suc (suc n)) 1 (λ z. omega (arith, z)) in
            subst (Goal (Collects missing gone) i.door.ioc2sys (of_handshake (Collects (suc (suc n)) gone))) (sym (ap (λ m. Told m (m == 1)) e))
            (subst (λ c. Goal (Collects missing gone) i.door.ioc2sys (Taken (suc (suc n)) c) (Told (suc (suc n)) (suc (suc n) == 1))) (sym two)
            (subst (λ c. Goal (Collects missing gone) i.door.ioc2sys (Taken (suc (suc n)) true) (Told (suc (suc n)) c)) (sym big) (more (suc (suc n)) (omega arith))))

  replies_rung : (left : List ℕ) → i.door.handshake ≡ Replies left → DoorFits (Replies left) i.door.ioc2sys → Rung (Replies left) i.door.ioc2sys b → Goal (Replies left) i.door.ioc2sys (of_handshake (Replies left)) (door_written value b)
  replies_rung left h f r =
      subst (Goal (Replies left) i.door.ioc2sys (of_handshake (Replies left))) (sym is)
      (record { fits = f; rung = record { rings = r.rings; dwords = r.dwords; replying = r.replying }; reads = refl; used = λ x. inr (refl, (refl, refl)); replies = λ x. inl refl; ended = λ x. never x })
    where
      is : door_written value b ≡ b
      is = ap (λ n. if nat_lt 0 n then dword_written b else (if b.replying then b else handshake_begun value b)) r.dwords ∙ ap (λ p. if p then b else handshake_begun value b) r.replying

  pub doorbell_rung : (h : Handshake) → i.door.handshake ≡ h → DoorFits h i.door.ioc2sys → Rung h i.door.ioc2sys b → (is_idle h ≡ true → is_word_write (down.Write DOORBELL value) ≡ true → i.door.ioc2sys ≡ false)
      → (Resets (doorbell_written i.door value).effect → ⊥) → is_fault (state_of (After (doorbell_written i.door value))) ≡ false → Goal h i.door.ioc2sys (doorbell_written i.door value) (door_written value b)
  doorbell_rung Idle h f r q still whole =
      let e : doorbell_written i.door value ≡ of_handshake Idle = ap of_handshake h in
      subst (λ w. Goal Idle i.door.ioc2sys w (door_written value b)) (sym e) (idle_rung h r (q refl) (λ x. still (subst (λ w. Resets w.effect) (sym e) x)) (subst (λ w. is_fault (state_of (After w)) ≡ false) e whole))
  doorbell_rung (Collects missing gone) h f r q still whole = subst (λ w. Goal (Collects missing gone) i.door.ioc2sys w (door_written value b)) (sym (ap of_handshake h)) (collects_rung missing gone f r)
  doorbell_rung (Asked message) h f r q still whole = absurd f
  doorbell_rung (Replies left) h f r q still whole = subst (λ w. Goal (Replies left) i.door.ioc2sys w (door_written value b)) (sym (ap of_handshake h)) (replies_rung left h f r)

-- ---- any write

abbrev pub write_taken : ℕ → ℕ → Entry
write_taken reg value = entry.Take lane.Down (item.Down (down.Write reg value))

module _ (i : Ioc) (b : Bell) (whole : is_fault (state_of i) ≡ false) (f : DoorFits i.door.handshake i.door.ioc2sys) (r : Rung i.door.handshake i.door.ioc2sys b) where
  abbrev Behind : ℕ → Written → Bell → Type 0
  Behind reg w c = RungBy reg i.door.handshake i.door.ioc2sys b (registers.after_effect (record i { door = w.registers }) w.effect).part.door.handshake (registers.after_effect (record i { door = w.registers }) w.effect).part.door.ioc2sys c

  other : (reg value : ℕ) → (reg == DOORBELL) ≡ false → (reg == HOST_INTERRUPT_STATUS) ≡ false → (Resets (register_written i.door reg value).effect → ⊥) → is_fault (state_of (registers.writes i reg value).part) ≡ false → Behind reg (register_written i.door reg value) b
  other reg value d s still after = by_effect (register_written i.door reg value).effect refl still after
    where
      none : how_many is_bell_write (down.Write reg value ∷ []) ≡ 0
      none =
          let c = how_many-cons is_bell_write (down.Write reg value) [] in let z = how_many-nil {X = Down} is_bell_write in
          let o : one_if ((reg == DOORBELL) || (reg == HOST_INTERRUPT_STATUS)) ≡ 0 = ap (λ x. one_if (x || (reg == HOST_INTERRUPT_STATUS))) d ∙ ap one_if s in
          omega (arith, c, z, o)

      same : SameBell i.door (writes_still i reg value).door
      same = subst (λ (k : Ioc). SameBell i.door k.door) (ahead-write i reg value [] ∙ ahead-nil (writes_still i reg value)) (unbelled_ahead i (down.Write reg value ∷ []) none)

      as_it_was : (k : Ioc) → SameBell i.door k.door → RungBy reg i.door.handshake i.door.ioc2sys b k.door.handshake k.door.ioc2sys b
      as_it_was k q =
          subst (λ h. RungBy reg i.door.handshake i.door.ioc2sys b h k.door.ioc2sys b) (sym q.handshake)
          (subst (λ n. RungBy reg i.door.handshake i.door.ioc2sys b i.door.handshake n b) (sym q.status)
          (record { fits = f; rung = r; reads = refl; used = λ e. inr (e, (refl, s)); replies = λ e. inl e; ended = λ e. inr (e, refl) }))

      by_effect : (x : Effect) → (register_written i.door reg value).effect ≡ x → (Resets x → ⊥) → is_fault (state_of (registers.after_effect (record i { door = (register_written i.door reg value).registers }) x).part) ≡ false
          → RungBy reg i.door.handshake i.door.ioc2sys b (registers.after_effect (record i { door = (register_written i.door reg value).registers }) x).part.door.handshake (registers.after_effect (record i { door = (register_written i.door reg value).registers }) x).part.door.ioc2sys b
      by_effect effect.None e q n = as_it_was (does_still (record i { door = (register_written i.door reg value).registers }) effect.None) (subst (λ y. SameBell i.door (does_still (record i { door = (register_written i.door reg value).registers }) y).door) e same)
      by_effect (effect.Asked count bytes) e q n = as_it_was (does_still (record i { door = (register_written i.door reg value).registers }) (effect.Asked count bytes)) (subst (λ y. SameBell i.door (does_still (record i { door = (register_written i.door reg value).registers }) y).door) e same)
      by_effect effect.UnitReset e q n = absurd (q tt)
      by_effect effect.AdapterReset e q n = absurd (q tt)
      by_effect (effect.Fault code) e q n = absurd (cc)

  module _ (used : is_replying i.door.handshake ≡ true → b.used ≡ true) (ended : (is_idle i.door.handshake && i.door.ioc2sys) ≡ true → b.used ≡ false) where
    status : (value : ℕ) → Behind HOST_INTERRUPT_STATUS (register_written i.door HOST_INTERRUPT_STATUS value) (status_cleared b)
    status value =
        subst (λ w. Behind HOST_INTERRUPT_STATUS w (status_cleared b)) (sym (ap (λ c. if c then quietly i.door else quietly (status_written i.door)) whole))
        (status_rung i.door.handshake i.door.ioc2sys b f r used ended)

  pub write_rung : (reg value : ℕ) → ((reg == HOST_INTERRUPT_STATUS) ≡ true → is_replying i.door.handshake ≡ true → b.used ≡ true) → ((reg == HOST_INTERRUPT_STATUS) ≡ true → (is_idle i.door.handshake && i.door.ioc2sys) ≡ true → b.used ≡ false)
      → (is_idle i.door.handshake ≡ true → is_word_write (down.Write reg value) ≡ true → i.door.ioc2sys ≡ false) → (Resets (register_written i.door reg value).effect → ⊥) → is_fault (state_of (registers.writes i reg value).part) ≡ false
      → Behind reg (register_written i.door reg value) (bell_next b (write_taken reg value))
  write_rung reg value used ended opens still after = by_tests (reg == DOORBELL) refl (reg == HOST_INTERRUPT_STATUS) refl
    where
      by_tests : (c : Bool) → (reg == DOORBELL) ≡ c → (d : Bool) → (reg == HOST_INTERRUPT_STATUS) ≡ d → Behind reg (register_written i.door reg value) (if c then door_written value b else (if d then status_cleared b else b))
      by_tests false e false g = other reg value e g still after
      by_tests false e true g = subst (λ n. Behind n (register_written i.door n value) (status_cleared b)) (sym (eqb-true reg HOST_INTERRUPT_STATUS g)) (status (used g) (ended g) value)
      by_tests true e d g = bell (eqb-true reg DOORBELL e)
        where
          bell : reg ≡ DOORBELL → Behind reg (register_written i.door reg value) (door_written value b)
          bell q =
              let w : register_written i.door DOORBELL value ≡ doorbell_written i.door value = ap (λ c. if c then quietly i.door else doorbell_written i.door value) whole in
              let a : register_written i.door reg value ≡ doorbell_written i.door value = ap (λ n. register_written i.door n value) q ∙ w in
              subst (λ n. Behind n (register_written i.door reg value) (door_written value b)) (sym q)
              (subst (λ y. Behind DOORBELL y (door_written value b)) (sym a)
              (doorbell_rung i b value i.door.handshake refl f r (λ z t. opens z (subst (λ n. is_word_write (down.Write n value) ≡ true) (sym q) t)) (λ x. still (subst (λ y. Resets y.effect) (sym a) x))
              (subst (λ (y : Written). is_fault (state_of (registers.after_effect (record i { door = y.registers }) y.effect).part) ≡ false) a after)))
