-- A handshake that goes on in lock step: in no turn the host refuses a value, and where it ends it has the whole reply.
use Rattle.std.proofs.Common.{◌≡◌, ℕ, zero, suc, ◌<◌, ◌⊎◌, inl, inr, List, [], length, Option, None, refl, ap, ap₂, sym, ◌∙◌, subst, arith}
use Rattle.mpi_doorbell.specs.Bytes.{padded}
use Rattle.mpi_doorbell.specs.DoorRegisters.{DoorRegisters, answered, register_written}
use Rattle.mpi_doorbell.specs.HostDoor.{HostDoor, Stepped}
use Rattle.mpi_doorbell.specs.HostSteps.{Expects, IsWrite, TakesTurn, acts, next_step}
use Rattle.mpi_doorbell.specs.Meeting.{AsksAndEnds, IsDoneWith, LeadsIn, LeadsTo, Talk, effect_on, round, step_taken, value_given, with_answer}
use Rattle.mpi_doorbell.specs.declared.effect.Effect.TheVariants as effect
use Rattle.mpi_doorbell.specs.declared.stage.Stage.{Stage}
use Rattle.mpi_doorbell.specs.declared.stage.Stage.TheVariants.{Reads, Awaits, Opens, WritesKey, Locks, ResetsUnit, Finishes, Ended}
use Rattle.mpi_doorbell.specs.declared.step.DoorStep.{DoorStep}
use Rattle.mpi_doorbell.specs.declared.step.DoorStep.TheVariants as step
use Rattle.mpi_doorbell.proofs.HostTurns.{expects_after, takes_turn}
use Rattle.mpt_rules.specs.Host.Doorbell.{turn_from}

abbrev pub talk_at : HostDoor → Option ℕ → DoorRegisters → Talk
talk_at d v r = record { host = d; value = v; registers = r }

-- the message is still to be asked, or the reply is being read
abbrev pub GoesOn : List ℕ → List ℕ → Talk → Type 0
GoesOn message reply t = LeadsTo (AsksAndEnds message reply) t ⊎ LeadsTo (IsDoneWith reply) t

-- a step at which a turn stops: a read, or the end with the whole reply; a turn that is cut off before it stops has another write
abbrev pub StopsWell : List ℕ → DoorStep → Type 0
StopsWell reply (step.Read reg) = Unit {0}
StopsWell reply (step.Write reg value) = Unit {0}
StopsWell reply (step.Done count bytes) = step.Done count bytes ≡ step.Done (length reply) (padded reply)
StopsWell reply (step.Refused at value) = ⊥

-- a host that has ended stays as it is
ended_same : (P : Talk → Type 0) (n : ℕ) (d : HostDoor) (r : DoorRegisters) → d.stage ≡ Ended → LeadsIn P n (talk_at d None r) → P (talk_at d None r)
ended_same P zero d r e h = h
ended_same P (suc n) d r e h =
    let s : next_step d None ≡ record { door = d; step = step.Done 0 (padded []) } = ap (λ x. acts d x) e in
    let t : round (talk_at d None r) ≡ talk_at d None r = ap (λ (k : Stepped). let x : Talk = record { host = k.door; value = value_given k.step r; registers = (step_taken k.step r).registers } in x) s in
    ended_same P n d r e (subst (LeadsIn P n) t h.1)

ended_step : (d : HostDoor) → d.stage ≡ Ended → next_step d None ≡ record { door = d; step = step.Done 0 (padded []) }
ended_step d e = ap (λ x. acts d x) e

not_write : (x : DoorStep) → ((reg value : ℕ) → x ≡ step.Write reg value → ⊥) → IsWrite x → ⊥
not_write (step.Write reg value) b t = b reg value refl
not_write (step.Read reg) b t = t
not_write (step.Done count bytes) b t = t
not_write (step.Refused at value) b t = t

has_ended : (s : Stage) (x : DoorStep) → ((reg : ℕ) → x ≡ step.Read reg → ⊥) → ((reg value : ℕ) → x ≡ step.Write reg value → ⊥) → TakesTurn s x → s ≡ Ended
has_ended Ended x a b t = refl
has_ended (Awaits y) x a b t = absurd (a _ t)
has_ended (Reads y) x a b t = absurd (not_write x b t)
has_ended Opens x a b t = absurd (not_write x b t)
has_ended (WritesKey place) x a b t = absurd (not_write x b t)
has_ended Locks x a b t = absurd (not_write x b t)
has_ended ResetsUnit x a b t = absurd (not_write x b t)
has_ended Finishes x a b t = absurd (not_write x b t)

module _ (message reply : List ℕ) (long : 0 < length reply) where
  -- behind its end a host asks nothing and has no reply
  over : (d : HostDoor) (r : DoorRegisters) → d.stage ≡ Ended → GoesOn message reply (talk_at d None r) → ⊥
  over d r e (inl h) =
      let a = ended_same (AsksAndEnds message reply) h.0 d r e h.1 in
      let q : effect.None ≡ effect.Asked (length message) (padded message) = sym (ap (λ (k : Stepped). (step_taken k.step r).effect) (ended_step d e)) ∙ a.asked in
      cc
  over d r e (inr h) =
      let a = ended_same (IsDoneWith reply) h.0 d r e h.1 in
      let q : step.Done 0 (padded []) ≡ step.Done (length reply) (padded reply) = sym (ap (λ (k : Stepped). k.step) (ended_step d e)) ∙ a in
      let z : 0 ≡ length reply = cc in
      omega (arith, z, long)

  module _ (d : HostDoor) (v : Option ℕ) (r : DoorRegisters) (x : Expects d.stage v) where
    next_talk : (k : Stepped) → next_step d v ≡ k → round (talk_at d v r) ≡ record { host = k.door; value = value_given k.step r; registers = (step_taken k.step r).registers }
    next_talk k e = ap (λ (y : Stepped). let t : Talk = record { host = y.door; value = value_given y.step r; registers = (step_taken y.step r).registers } in t) e

    turn_of : (d2 : HostDoor) (s : DoorStep) → next_step d v ≡ record { door = d2; step = s } → TakesTurn d2.stage s
    turn_of d2 s e = subst (λ (k : Stepped). TakesTurn k.door.stage k.step) e (takes_turn d v x)

    effect_of : (d2 : HostDoor) (s : DoorStep) → next_step d v ≡ record { door = d2; step = s } → effect_on (talk_at d v r) ≡ (step_taken s r).effect
    effect_of d2 s e = ap (λ (k : Stepped). (step_taken k.step r).effect) e

    -- a step that ends the host is the end with the reply
    ends : (d2 : HostDoor) (s : DoorStep) → next_step d v ≡ record { door = d2; step = s } → value_given s r ≡ None → (step_taken s r).registers ≡ r → (step_taken s r).effect ≡ effect.None
        → d2.stage ≡ Ended → GoesOn message reply (talk_at d v r) → s ≡ step.Done (length reply) (padded reply)
    ends d2 s e a b c p (inr (zero, h)) = sym (ap (λ (k : Stepped). k.step) e) ∙ h
    ends d2 s e a b c p (inr (suc n, h)) =
        let t = next_talk (record { door = d2; step = s }) e ∙ ap₂ (λ y z. talk_at d2 y z) a b in
        absurd (over d2 r p (inr (n, subst (LeadsIn (IsDoneWith reply) n) t h.1)))
    ends d2 s e a b c p (inl (zero, h)) =
        let q : effect.None ≡ effect.Asked (length message) (padded message) = sym c ∙ (sym (effect_of d2 s e) ∙ h.asked) in
        absurd (cc)
    ends d2 s e a b c p (inl (suc n, h)) =
        let t = next_talk (record { door = d2; step = s }) e ∙ ap₂ (λ y z. talk_at d2 y z) a b in
        absurd (over d2 r p (inl (n, subst (LeadsIn (AsksAndEnds message reply) n) t h.1)))

    -- behind a write the talk goes on, with the controller's answer where the write asks the message
    goes_on : (d2 : HostDoor) (reg value : ℕ) → next_step d v ≡ record { door = d2; step = step.Write reg value } → GoesOn message reply (talk_at d v r)
        → GoesOn message reply (talk_at d2 None (register_written r reg value).registers) ⊎ GoesOn message reply (talk_at d2 None (answered (register_written r reg value).registers reply))
    goes_on d2 reg value e (inr (zero, h)) =
        let q : step.Write reg value ≡ step.Done (length reply) (padded reply) = sym (ap (λ (k : Stepped). k.step) e) ∙ h in absurd (cc)
    goes_on d2 reg value e (inr (suc n, h)) = inl (inr (n, subst (LeadsIn (IsDoneWith reply) n) (next_talk (record { door = d2; step = step.Write reg value }) e) h.1))
    goes_on d2 reg value e (inl (suc n, h)) = inl (inl (n, subst (LeadsIn (AsksAndEnds message reply) n) (next_talk (record { door = d2; step = step.Write reg value }) e) h.1))
    goes_on d2 reg value e (inl (zero, h)) =
        inr (inr (h.ends.0, subst (LeadsIn (IsDoneWith reply) h.ends.0) (ap (with_answer reply) (next_talk (record { door = d2; step = step.Write reg value }) e)) h.ends.1))

    -- a turn of so many writes at most stops well, where what follows each of its writes does
    stops : (f : ℕ) (d2 : HostDoor) (s : DoorStep) → next_step d v ≡ record { door = d2; step = s } → GoesOn message reply (talk_at d v r)
        → ((g : ℕ) (r2 : DoorRegisters) → f ≡ suc g → Expects d2.stage None → GoesOn message reply (talk_at d2 None r2) → StopsWell reply (turn_from g (next_step d2 None).door (next_step d2 None).step).step)
        → StopsWell reply (turn_from f d2 s).step
    unfolding turn_from
    stops zero d2 (step.Read reg) e h ih = tt
    stops (suc f) d2 (step.Read reg) e h ih = tt
    stops zero d2 (step.Write reg value) e h ih = tt
    stops (suc f) d2 (step.Write reg value) e h ih = by_talk (goes_on d2 reg value e h)
      where
        by_talk : GoesOn message reply (talk_at d2 None (register_written r reg value).registers) ⊎ GoesOn message reply (talk_at d2 None (answered (register_written r reg value).registers reply))
            → StopsWell reply (turn_from f (next_step d2 None).door (next_step d2 None).step).step
        by_talk (inl t) = ih f (register_written r reg value).registers refl (expects_after d2.stage (step.Write reg value) (turn_of d2 (step.Write reg value) e)) t
        by_talk (inr t) = ih f (answered (register_written r reg value).registers reply) refl (expects_after d2.stage (step.Write reg value) (turn_of d2 (step.Write reg value) e)) t
    stops zero d2 (step.Done count bytes) e h ih = ends d2 (step.Done count bytes) e refl refl refl (has_ended d2.stage (step.Done count bytes) (λ a b. cc) (λ a b c. cc) (turn_of d2 (step.Done count bytes) e)) h
    stops (suc f) d2 (step.Done count bytes) e h ih = ends d2 (step.Done count bytes) e refl refl refl (has_ended d2.stage (step.Done count bytes) (λ a b. cc) (λ a b c. cc) (turn_of d2 (step.Done count bytes) e)) h
    stops zero d2 (step.Refused at value) e h ih =
        let q = ends d2 (step.Refused at value) e refl refl refl (has_ended d2.stage (step.Refused at value) (λ a b. cc) (λ a b c. cc) (turn_of d2 (step.Refused at value) e)) h in
        absurd (cc)
    stops (suc f) d2 (step.Refused at value) e h ih =
        let q = ends d2 (step.Refused at value) e refl refl refl (has_ended d2.stage (step.Refused at value) (λ a b. cc) (λ a b c. cc) (turn_of d2 (step.Refused at value) e)) h in
        absurd (cc)

  -- a whole turn
  pub stops_well : (f : ℕ) (d : HostDoor) (v : Option ℕ) (r : DoorRegisters) → Expects d.stage v → GoesOn message reply (talk_at d v r) → StopsWell reply (turn_from f (next_step d v).door (next_step d v).step).step
  stops_well zero d v r x h = stops d v r x zero (next_step d v).door (next_step d v).step refl h (λ g r2 e. absurd (omega (arith, e)))
  stops_well (suc f) d v r x h =
      stops d v r x (suc f) (next_step d v).door (next_step d v).step refl h
      (λ g r2 e y l. let same : f ≡ g = omega (arith, e) in
      subst (λ j. StopsWell reply (turn_from j (next_step (next_step d v).door None).door (next_step (next_step d v).door None).step).step) same (stops_well f (next_step d v).door None r2 y l))
