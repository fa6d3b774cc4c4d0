-- No value that comes up is strange: it is awaited, comes on queue 0, and the host's machine takes it.
use Rattle.std.proofs.Common.{◌≡◌, ℕ, zero, suc, ◌<◌, ◌==◌, ◌||◌, ◌⊎◌, inl, inr, not, Bool, true, false, if◌then◌else◌, List, [], ◌∷◌, length, take, Option, Some, None, refl, ap, sym, ◌∙◌, subst, arith}
use Rattle.std.specs.Option.{option_or}
use Rattle.mpi_doorbell.specs.Bytes.{has, padded}
use Rattle.mpi_doorbell.specs.HostDoor.{HostDoor, Stepped}
use Rattle.mpi_doorbell.specs.HostSteps.{Expects, hears}
use Rattle.mpi_doorbell.specs.declared.registers.TheConstants.{DIAG_RESET_ADAPTER, DIAG_WRITE_ENABLE, IOC_STATE_FAULT, IOC_STATE_MASK, IOC_STATE_OPERATIONAL, IOC_STATE_READY, IOC_STATE_RESET, SYS2IOC_DB_STATUS}
use Rattle.mpi_doorbell.specs.declared.stage.Reading.{Reading}
use Rattle.mpi_doorbell.specs.declared.stage.Reading.TheVariants as reading
use Rattle.mpi_doorbell.specs.declared.stage.ResetKind.TheVariants as kind
use Rattle.mpi_doorbell.specs.declared.stage.Stage.{Stage as DoorStage}
use Rattle.mpi_doorbell.specs.declared.stage.Stage.TheVariants as door_stage
use Rattle.mpi_doorbell.specs.declared.step.DoorStep.{DoorStep}
use Rattle.mpi_doorbell.specs.declared.step.DoorStep.TheVariants as step
use Rattle.mpt_messages.specs.declared.host_ask.HostAsk.{HostAsk}
use Rattle.mpt_messages.specs.declared.host_ask.HostAsk.TheVariants as ask
use Rattle.mpt_trace.specs.declared.host_state.HostState.TheVariants as state
use Rattle.mpt_trace.specs.declared.item.Up.{Up}
use Rattle.mpt_trace.specs.declared.item.Up.TheVariants as up
use Rattle.mpt_wire.specs.Machine.Causes.{is_resetting}
use Rattle.mpt_wire.specs.Messages.DoorbellWords.{asked_bytes, replied_bytes}
use Rattle.mpt_rules.specs.declared.said.Said.TheVariants as said
use Rattle.mpt_rules.specs.declared.stage.Stage.{Stage}
use Rattle.mpt_rules.specs.declared.stage.Stage.TheVariants as stage
use Rattle.mpt_rules.specs.declared.why.Why.TheVariants as why
use Rattle.mpt_rules.specs.Host.Doorbell.{next_turn, turn_from}
use Rattle.mpt_rules.specs.Host.Handshakes.{door_refused, handshake_function, why_done, why_door, why_handshake}
use Rattle.mpt_rules.specs.Host.Parts.{Host, host_queue_count}
use Rattle.mpt_rules.specs.Host.Strange.{no_read, why_value, wrong_queue_of_value}
use Rattle.mpt_rules.specs.World.Counts.{one_if, value_count}
use Rattle.mpt_rules.specs.World.State.{World, up_on}
use Rattle.mpt_rules.proofs.Counts.{value_count-cons}
use Rattle.law_facts.specs.DoorAhead.{AsksAhead, IsInMode, ReadsFor, ReadsReply, ResetValue, WaitsAt, answer_to, asked_in, awaits, door_ahead, first_value, value_at, value_coming}
use Rattle.law_facts.specs.Facts.{Facts}
use Rattle.law_facts.specs.History.{History}
use Rattle.law_says.proofs.Fronts.{line_behind, line_front, no_why, none_first}
use Rattle.law_says.proofs.Handshakes.{GoesOn, StopsWell, stops_well}
use Rattle.law_says.proofs.Replied.{facts_long, facts_taken, heard_whole, init_long, init_taken, port_facts_long, port_facts_taken}

-- ---- what the host says of the step at which a turn stops

-- it refuses nothing, and no handshake's reply
abbrev IsTaken : Host → DoorStep → Type 0
IsTaken host s = option_or (door_refused s) (why_done host s) ≡ None

-- it refuses no value
abbrev IsFair : DoorStep → Type 0
IsFair (step.Read reg) = Unit {0}
IsFair (step.Write reg value) = Unit {0}
IsFair (step.Done count bytes) = Unit {0}
IsFair (step.Refused at value) = ⊥

-- a machine that is no handshake's ends with anything
fair_taken : (host : Host) (s : DoorStep) → handshake_function host.stage ≡ None → IsFair s → IsTaken host s
fair_taken host (step.Read reg) e i = refl
fair_taken host (step.Write reg value) e i = refl
fair_taken host (step.Done count bytes) e i = ap (λ o. why_handshake host o (take count bytes)) e
fair_taken host (step.Refused at value) e i = absurd i

-- a handshake that ends with the reply to its message
well_taken : (host : Host) (s : DoorStep) (reply : List ℕ) → why_handshake host (handshake_function host.stage) (take (length reply) (padded reply)) ≡ None → StopsWell reply s → IsTaken host s
well_taken host (step.Read reg) reply e i = refl
well_taken host (step.Write reg value) reply e i = refl
well_taken host (step.Done count bytes) reply e i =
    subst (λ (s : DoorStep). IsTaken host s) (sym i) e
well_taken host (step.Refused at value) reply e i = absurd i

-- ---- a reset's machine, and one that looks

abbrev last_step : Stepped → DoorStep
last_step k = (turn_from 8 k.door k.step).step

-- in a reset
reset_fair : (d : HostDoor) (x : Reading) (value : ℕ) (w : World) → ResetValue w x value → IsFair (last_step (hears d (door_stage.Awaits x) value))
unfolding turn_from
reset_fair d reading.Unlocked value w v = subst (λ b. IsFair (last_step (if b then Rattle.mpi_doorbell.specs.HostDoor.writes d (door_stage.Reads reading.ResetOver) Rattle.mpi_doorbell.specs.declared.registers.TheConstants.HOST_DIAGNOSTIC (Rattle.std.specs.Prelude.bit_or value DIAG_RESET_ADAPTER) else Rattle.mpi_doorbell.specs.HostDoor.refuses d 21 value))) (sym v.0) tt
reset_fair d reading.ResetOver value w v = by_bit (has value DIAG_RESET_ADAPTER)
  where
    by_bit : (b : Bool) → IsFair (last_step (if b then Rattle.mpi_doorbell.specs.HostDoor.reads d reading.ResetOver else Rattle.mpi_doorbell.specs.HostDoor.writes d door_stage.Locks Rattle.mpi_doorbell.specs.declared.registers.TheConstants.HOST_DIAGNOSTIC (Rattle.mpi_doorbell.specs.HostReset.without value Rattle.mpi_doorbell.specs.declared.registers.TheConstants.DIAG_HOLD_IOC_RESET)))
    by_bit true = tt
    by_bit false = tt
reset_fair d (reading.State kind.Diagnostic) value w v = subst (λ s. IsFair (last_step (if s == IOC_STATE_READY then Rattle.mpi_doorbell.specs.HostDoor.finishes d [] else if (s == IOC_STATE_FAULT) || (s == IOC_STATE_OPERATIONAL) then Rattle.mpi_doorbell.specs.HostDoor.refuses d 25 value else Rattle.mpi_doorbell.specs.HostDoor.reads d (reading.State kind.Diagnostic)))) (sym v) tt
reset_fair d (reading.State kind.MessageUnit) value w (inl v) = subst (λ s. IsFair (last_step (if s == IOC_STATE_READY then Rattle.mpi_doorbell.specs.HostDoor.finishes d [] else if (s == IOC_STATE_FAULT) || (s == IOC_STATE_OPERATIONAL) then Rattle.mpi_doorbell.specs.HostDoor.refuses d 31 value else Rattle.mpi_doorbell.specs.HostDoor.reads d (reading.State kind.MessageUnit)))) (sym v) tt
reset_fair d (reading.State kind.MessageUnit) value w (inr v) = subst (λ s. IsFair (last_step (if s == IOC_STATE_READY then Rattle.mpi_doorbell.specs.HostDoor.finishes d [] else if (s == IOC_STATE_FAULT) || (s == IOC_STATE_OPERATIONAL) then Rattle.mpi_doorbell.specs.HostDoor.refuses d 31 value else Rattle.mpi_doorbell.specs.HostDoor.reads d (reading.State kind.MessageUnit)))) (sym v.0) tt
reset_fair d reading.UnitReset value w v = by_bit (has value SYS2IOC_DB_STATUS)
  where
    by_bit : (b : Bool) → IsFair (last_step (if b then Rattle.mpi_doorbell.specs.HostDoor.reads d reading.UnitReset else Rattle.mpi_doorbell.specs.HostDoor.reads d (reading.State kind.MessageUnit)))
    by_bit true = tt
    by_bit false = tt
reset_fair d reading.Used value w v = absurd v
reset_fair d reading.LeftOver value w v = absurd v
reset_fair d reading.Opened value w v = absurd v
reset_fair d reading.Taken value w v = absurd v
reset_fair d reading.News value w v = absurd v
reset_fair d reading.Word value w v = absurd v
reset_fair d reading.Doorbell value w v = absurd v

look_fair : (d : HostDoor) (x : Reading) (value : ℕ) → x ≡ reading.Doorbell → IsFair (last_step (hears d (door_stage.Awaits x) value))
unfolding turn_from
look_fair d x value e = subst (λ y. IsFair (last_step (hears d (door_stage.Awaits y) value))) (sym e) tt

-- ---- the value in front of the line

module _ (w : World) (h : History) (f : Facts w h) (value : ℕ) (rest : List Up) (front : up_on w 0 ≡ up.Value value ∷ rest) where
  coming : value_coming w ≡ Some value
  unfolding first_value
  coming = ap first_value (line_front w 0 (up.Value value) rest front)

  -- the turn of a machine that waits for this
  turn_at : (d : HostDoor) (x : Reading) → d.stage ≡ door_stage.Awaits x → (next_turn d (Some value)).step ≡ last_step (hears d (door_stage.Awaits x) value)
  turn_at d x e = ap (λ s. last_step (hears d s value)) e

  -- a handshake's
  shakes : (d : HostDoor) (x : Reading) (a : HostAsk) → w.host.machine ≡ Some d → d.stage ≡ door_stage.Awaits x → asked_in w w.host.stage ≡ Some a → w.host.mode ≡ state.Starting → 0 < length (replied_bytes (answer_to w a))
      → why_handshake w.host (handshake_function w.host.stage) (heard_whole (answer_to w a)) ≡ None → IsTaken w.host (next_turn d (Some value)).step
  shakes d x a m e g t long y =
      let same : value ≡ value_at (door_ahead w) (awaits d.stage) = f.doorbell.lock_step.value d value m (ap is_resetting t) coming in
      let s : StopsWell (replied_bytes (answer_to w a)) (next_turn d (Some value)).step =
      stops_well (asked_bytes a) (replied_bytes (answer_to w a)) long 8 d (Some value) (door_ahead w) (subst (λ s. Expects s (Some value)) (sym e) tt) (subst (λ n. GoesOn (asked_bytes a) (replied_bytes (answer_to w a)) (record { host = d; value = Some n; registers = door_ahead w })) (sym same) (leads (f.doorbell.lock_step.steps d a m g).leads)) in
      well_taken w.host (next_turn d (Some value)).step (replied_bytes (answer_to w a)) y s
    where
      leads : AsksAhead w d a ⊎ ReadsReply w d a → GoesOn (asked_bytes a) (replied_bytes (answer_to w a)) (record { host = d; value = Some (value_at (door_ahead w) (awaits d.stage)); registers = door_ahead w })
      leads (inl p) = inl p.leads
      leads (inr p) = inr p.leads

  -- by what the machine is for
  by_stage : (d : HostDoor) (x : Reading) → w.host.machine ≡ Some d → d.stage ≡ door_stage.Awaits x → (s : Stage) → w.host.stage ≡ s → ReadsFor s x → IsInMode w s → IsTaken w.host (next_turn d (Some value)).step
  by_stage d x m e stage.Idle q r i = absurd r
  by_stage d x m e stage.StartReset q r i = absurd r
  by_stage d x m e stage.Start q r i = fair_taken w.host (next_turn d (Some value)).step (ap handshake_function q) (subst IsFair (sym (turn_at d x e)) (look_fair d x value r))
  by_stage d x m e stage.Look q r i = fair_taken w.host (next_turn d (Some value)).step (ap handshake_function q) (subst IsFair (sym (turn_at d x e)) (look_fair d x value r))
  by_stage d x m e stage.DiagnosticReset q r i =
      fair_taken w.host (next_turn d (Some value)).step (ap handshake_function q) (subst IsFair (sym (turn_at d x e)) (reset_fair d x value w (f.doorbell.reset_steps.value d x value m (ap is_resetting i) e coming)))
  by_stage d x m e stage.UnitReset q r i =
      fair_taken w.host (next_turn d (Some value)).step (ap handshake_function q) (subst IsFair (sym (turn_at d x e)) (reset_fair d x value w (f.doorbell.reset_steps.value d x value m (ap is_resetting i) e coming)))
  by_stage d x m e stage.Facts q r i =
      shakes d x ask.Facts m e (ap (asked_in w) q) i (facts_long (host_queue_count w.host))
      (ap (λ s. why_handshake w.host (handshake_function s) (heard_whole (answer_to w ask.Facts))) q ∙ facts_taken w.host f.flights.sizes.few_queues)
  by_stage d x m e stage.PortFacts q r i =
      shakes d x ask.PortFacts m e (ap (asked_in w) q) i port_facts_long (ap (λ s. why_handshake w.host (handshake_function s) (heard_whole (answer_to w ask.PortFacts))) q ∙ port_facts_taken w.host)
  by_stage d x m e stage.Init q r i =
      let a : HostAsk = ask.Init (host_queue_count w.host) in
      shakes d x a m e (ap (asked_in w) q) i init_long (ap (λ s. why_handshake w.host (handshake_function s) (heard_whole (answer_to w a))) q ∙ init_taken w.host)

  machine_takes : (o : Option HostDoor) → w.host.machine ≡ o → why_door w.host o value ≡ None
  machine_takes None m = refl
  machine_takes (Some d) m = by_waits d.stage refl (f.doorbell.stage.machine d m)
    where
      by_waits : (s : DoorStage) → d.stage ≡ s → WaitsAt w s → IsTaken w.host (next_turn d (Some value)).step
      by_waits (door_stage.Awaits x) e q = by_stage d x m e w.host.stage refl q.0 q.1
      by_waits (door_stage.Reads x) e q = absurd q
      by_waits door_stage.Opens e q = absurd q
      by_waits (door_stage.WritesKey place) e q = absurd q
      by_waits door_stage.Locks e q = absurd q
      by_waits door_stage.ResetsUnit e q = absurd q
      by_waits door_stage.Finishes e q = absurd q
      by_waits door_stage.Ended e q = absurd q

  is_read : (b : Bool) → w.host.reading ≡ b → not b ≡ false
  is_read true e = refl
  is_read false e =
      let o = f.clock.one_read.one in let z : one_if w.host.reading ≡ 0 = ap one_if e in
      let c = ap value_count (line_front w 0 (up.Value value) rest front) ∙ value_count-cons (said.Value value) (line_behind w 0 rest) in
      absurd (omega (arith, o, z, c))

  front_taken : why_value w.host 0 value ≡ None
  front_taken =
      none_first (wrong_queue_of_value 0) (no_read w.host ∷ why_door w.host w.host.machine value ∷ []) refl
      (none_first (no_read w.host) (why_door w.host w.host.machine value ∷ []) (no_why (not w.host.reading) why.NoRead (is_read w.host.reading refl))
      (none_first (why_door w.host w.host.machine value) [] (machine_takes w.host.machine refl) refl))

module _ (w : World) (h : History) (f : Facts w h) where
  pub values_say : (queue value : ℕ) (rest : List Up) → up_on w queue ≡ up.Value value ∷ rest → why_value w.host queue value ≡ None
  values_say zero value rest e = front_taken w h f value rest e
  values_say (suc n) value rest e =
      let z = f.clock.one_read.above (suc n) (omega arith) in
      let c = ap value_count (line_front w (suc n) (up.Value value) rest e) ∙ value_count-cons (said.Value value) (line_behind w (suc n) rest) in
      absurd (omega (arith, z, c))
