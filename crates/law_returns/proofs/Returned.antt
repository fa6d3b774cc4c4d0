-- Once the handshakes of a start are over, no frame is held: each case keeps it.
use Rattle.std.proofs.Common.{◌≡◌, ℕ, ◌&&◌, ◌||◌, ◌⊎◌, inl, inr, Bool, true, false, if◌then◌else◌, List, ◌∷◌, length, take, Some, None, is_some, refl, ap, sym, ◌∙◌, subst}
use Rattle.mpi_doorbell.specs.HostDoor.{HostDoor}
use Rattle.mpi_doorbell.specs.declared.stage.Reading.{Reading}
use Rattle.mpi_doorbell.specs.declared.step.DoorStep.{DoorStep}
use Rattle.mpi_doorbell.specs.declared.step.DoorStep.TheVariants as step
use Rattle.mpt_wire.specs.Machine.Causes.{is_up, is_resetting}
use Rattle.mpt_trace.specs.declared.host_state.HostState.{HostState}
use Rattle.mpt_trace.specs.declared.host_state.HostState.TheVariants as state
use Rattle.mpt_trace.specs.declared.input.Input.{Input}
use Rattle.mpt_trace.specs.declared.input.Input.TheVariants as input
use Rattle.mpt_trace.specs.declared.item.Down.{Down}
use Rattle.mpt_trace.specs.declared.item.Down.TheVariants as down
use Rattle.mpt_trace.specs.declared.item.Up.{Up}
use Rattle.mpt_trace.specs.declared.item.Up.TheVariants as upward
use Rattle.mpt_rules.specs.declared.host_frame.HostFrame.TheVariants as frame
use Rattle.mpt_rules.specs.declared.request.Request.TheVariants as request
use Rattle.mpt_rules.specs.declared.stage.Stage.{Stage}
use Rattle.mpt_rules.specs.declared.stage.Stage.TheVariants as stage
use Rattle.mpt_rules.specs.Host.Doorbell as door
use Rattle.mpt_rules.specs.Host.Doorbell.{DoorTurn, next_turn}
use Rattle.mpt_rules.specs.Host.Parts.{Host}
use Rattle.mpt_rules.specs.Host.Resets as resets
use Rattle.mpt_rules.specs.Host.Returns as returns
use Rattle.mpt_rules.specs.Host.Returns.{after_sent, frame_of}
use Rattle.mpt_rules.specs.Host.Strange.{why_strange}
use Rattle.mpt_rules.specs.Host.Takes.{hears_up, is_starting, looks, stops}
use Rattle.mpt_rules.specs.Host.Values as values
use Rattle.mpt_rules.specs.Law.{NothingIsStrange}
use Rattle.mpt_rules.specs.World.Cases.{Case, happens}
use Rattle.mpt_rules.specs.World.Counts.{how_many}
use Rattle.mpt_rules.specs.World.Inputs.{host_told}
use Rattle.mpt_rules.specs.World.PlaceCounts.{is_held_frame}
use Rattle.mpt_rules.specs.World.State.{World, up_on}
use Rattle.law_facts.specs.DoorAhead.{IsInMode}
use Rattle.law_facts.specs.Facts.{Facts}
use Rattle.law_facts.specs.History.{History}
use Rattle.law_facts.specs.Words.{is_off}
use Rattle.law_moves.proofs.Cases.{IsHosts, Owes, kept}
use Rattle.law_moves.proofs.Hears.{IsOver, is_reset_stage}
use Rattle.law_moves.proofs.HostGoes as goes
use Rattle.law_moves.proofs.HostGoes.{Heard, HostGoes, heard_of, is_value, value_is_due}
use Rattle.law_moves.proofs.Phases.{and_false}
use Rattle.law_doors.proofs.StageKept.{Begun}
use Rattle.law_doors.proofs.Turning.{Kind}
use Rattle.law_starts.proofs.HostAtDoor as at
use Rattle.law_starts.proofs.HostAtDoor.{Asked, AtDoor, Beginning, Begins, Drops, FactsNext, Free, FromOff, GivesUp, HasValue, InitNext, Keeps, KeepsDoor, Late, Looked, Marked, Next, NextShake, Opened, PortFactsNext, Readied, Renewed, Turns, base_begun, begins_is, contrary}
use Rattle.law_starts.proofs.StartsKept as starts
use Rattle.law_places.proofs.Premises as premises
use Rattle.law_records.proofs.Strict.{along, AsksNone, input_away, reply_is_strict}
use Rattle.law_returns.proofs.Away.{Safe, asks_frames, move_safe}
use Rattle.law_returns.proofs.Frames.{all_returned, set_none}

-- the fact, of a host
abbrev pub NoneHeld : Host → Type 0
NoneHeld k = (is_starting k.mode || is_up k.mode) ≡ true → (is_starting k.mode && is_some k.machine) ≡ false → how_many is_held_frame k.frames ≡ 0

up_fits : (m : HostState) → m ≡ state.Up → (b : Bool) → ((is_starting m || is_up m) ≡ true) × ((is_starting m && b) ≡ false)
up_fits m e b = (ap (λ x. is_starting x || is_up x) e, ap (λ x. is_starting x && b) e)

resets_not : {T : Type 0} (m : HostState) → is_resetting m ≡ true → (is_starting m || is_up m) ≡ true → T
resets_not state.Resetting r n = absurd (cc)
resets_not state.Off r n = absurd (cc)
resets_not state.Starting r n = absurd (cc)
resets_not state.Up r n = absurd (cc)

-- with a machine it isn't a start
machine_not : {T : Type 0} (m : HostState) (b : Bool) → m ≡ state.Starting → b ≡ true → (is_starting m && b) ≡ false → T
machine_not m b e i n = let z : true ≡ false = sym (ap (λ x. is_starting x && b) e ∙ i) ∙ n in absurd (cc)

-- what leaves the outbox
sent : (h : Host) (x : Down) (rest : List Down) → NoneHeld h → NoneHeld (after_sent h x rest)
sent h (down.Return address index) rest g n m = set_none h.frames (frame_of address) frame.Away refl (g n m)
sent h (down.Write reg value) rest g n m = g n m
sent h (down.Read reg) rest g n m = g n m
sent h (down.Post d f p) rest g n m = g n m
sent h down.Stop rest g n m = g n m

-- a turn leaves the frames
turn_frames : (h : Host) (t : DoorTurn) → (door.puts_turn h t).frames ≡ h.frames
turn_frames h t = by_step t.step
  where
    by_step : (s : DoorStep) → (door.puts_step (door.puts_writes h t.writes) t.door s).frames ≡ h.frames
    by_step (step.Read reg) = refl
    by_step (step.Write reg value) = refl
    by_step (step.Done count bytes) = refl
    by_step (step.Refused p value) = refl

-- IOC Init is done
opened : (m : Host) (s : Stage) (x : DoorStep) → s ≡ stage.Init → IsOver x → length m.frames ≡ 64 → how_many is_held_frame (values.after_turn m s x).part.frames ≡ 0
opened m s (step.Done count bytes) e o l =
    subst (λ y. how_many is_held_frame (values.ends_stage m y (take count bytes)).part.frames ≡ 0) (sym e)
    (ap (how_many is_held_frame) (asks_frames (returns.returns_all m) request.Notification) ∙ all_returned m l)
opened m s (step.Read reg) e o l = absurd o
opened m s (step.Write reg value) e o l = absurd o
opened m s (step.Refused p value) e o l = absurd o

module _ (w : World) (h : History) (f : Facts w h) (plain : NothingIsStrange w) where
  here : NoneHeld w.host
  here = f.flights.frames_are_frames.none_kept

  -- by the moves of a host that returns frames
  safe : is_resetting w.host.mode ≡ false → how_many is_held_frame w.host.frames ≡ 0 → Safe w.host
  safe r z = record { returning = f.clock.one_reset_write.others_return r; none = z }

  starting_of : {p z : Stage} {a : Rattle.mpt_messages.specs.declared.host_ask.HostAsk.HostAsk} → NextShake w p z a → IsInMode w p → w.host.mode ≡ state.Starting
  starting_of FactsNext i = i
  starting_of PortFactsNext i = i
  starting_of InitNext i = i

  in_reset_mode : (s : Stage) → is_reset_stage s ≡ true → IsInMode w s → is_resetting w.host.mode ≡ true
  in_reset_mode stage.DiagnosticReset r i = ap is_resetting i
  in_reset_mode stage.UnitReset r i = ap is_resetting i
  in_reset_mode stage.Idle r i = absurd (cc)
  in_reset_mode stage.Start r i = absurd (cc)
  in_reset_mode stage.StartReset r i = absurd (cc)
  in_reset_mode stage.Facts r i = absurd (cc)
  in_reset_mode stage.PortFacts r i = absurd (cc)
  in_reset_mode stage.Init r i = absurd (cc)
  in_reset_mode stage.Look r i = absurd (cc)

  -- a machine begins
  begun : (k base : Host) (s : Stage) (d : HostDoor) (t : Bool) → Beginning w base s d t → k ≡ door.begins base s d → NoneHeld k
  begun k base s d t q e n m = by_base q g.1 (ap (λ (y : Host). y.mode) is) (ap (λ (y : Host). y.frames) is) (ap (λ (y : Host). is_some y.machine) is)
    where
      g : (c : Kind) × Begun d c
      g = base_begun q

      is : k ≡ door.puts_read (door.puts_writes (record base { stage = s }) (next_turn d None).writes) (next_turn d None).door (base_begun q).1.reg
      is = e ∙ begins_is base s d (base_begun q).0 (base_begun q).1

      by_base : {base : Host} {s : Stage} {d : HostDoor} {t : Bool} → Beginning w base s d t → {c : Kind} → Begun d c → k.mode ≡ base.mode → k.frames ≡ base.frames → is_some k.machine ≡ true → how_many is_held_frame k.frames ≡ 0
      by_base (FromOff o) c a b i = machine_not k.mode (is_some k.machine) a i m
      by_base (Free u r) c a b i = ap (how_many is_held_frame) b ∙ here (up_fits w.host.mode u (is_some w.host.machine)).0 (up_fits w.host.mode u (is_some w.host.machine)).1
      by_base (Asked s d y r o) c a b i = resets_not k.mode (ap is_resetting a) n
      by_base (Late s d y z o v u rest p r) c a b i = resets_not k.mode (ap is_resetting a ∙ (and_false _ _ (and_false _ _ v).0).0) n
      by_base (Marked queue r o) c a b i = machine_not k.mode (is_some k.machine) a i m
      by_base (Renewed d y v hv o r) c a b i = machine_not k.mode (is_some k.machine) a i m
      by_base (Next d y v hv o z ask q2) c a b i = machine_not k.mode (is_some k.machine) (a ∙ starting_of q2 hv.in_mode) i m

  -- what a call of the host leaves
  record Leaves (k : Host) (t : Bool) : Type 0 where
    keeps : t ≡ false → is_resetting w.host.mode ≡ false → how_many is_held_frame w.host.frames ≡ 0 → how_many is_held_frame k.frames ≡ 0
    not_off : t ≡ false → is_off w.host.mode ≡ true → k.mode ≡ state.Up → ⊥
    opens : t ≡ true → (d : HostDoor) (y : Reading) (v : ℕ) → HasValue w d y v → IsOver (next_turn d (Some v)).step → w.host.stage ≡ stage.Init → how_many is_held_frame k.frames ≡ 0

  not_resetting : (m : HostState) → (is_starting m || is_up m) ≡ true → is_resetting m ≡ false
  not_resetting state.Starting n = refl
  not_resetting state.Up n = refl
  not_resetting state.Off n = absurd (cc)
  not_resetting state.Resetting n = absurd (cc)

  keeps_door : (k : Host) → KeepsDoor w k → Leaves k false → NoneHeld k
  keeps_door k q l n m = by_mode q.mode_is
    where
      risen : (o : HostState) → w.host.mode ≡ o → is_resetting o ≡ false → w.host.machine ≡ None → k.mode ≡ state.Up → how_many is_held_frame k.frames ≡ 0
      risen state.Off e r a u = absurd (l.not_off refl (ap is_off e) u)
      risen state.Starting e r a u = l.keeps refl (ap is_resetting e) (here (ap (λ x. is_starting x || is_up x) e) (ap (λ x. is_starting w.host.mode && is_some x) a ∙ ap (λ x. is_starting x && false) e))
      risen state.Up e r a u = l.keeps refl (ap is_resetting e) (here (ap (λ x. is_starting x || is_up x) e) (ap (λ x. is_starting x && is_some w.host.machine) e))
      risen state.Resetting e r a u = absurd (cc)

      by_mode : (k.mode ≡ w.host.mode) ⊎ ((is_resetting w.host.mode ≡ false) × (w.host.machine ≡ None) × (k.mode ≡ state.Up)) → how_many is_held_frame k.frames ≡ 0
      by_mode (inl e) =
          let n0 : (is_starting w.host.mode || is_up w.host.mode) ≡ true = sym (ap (λ x. is_starting x || is_up x) e) ∙ n in
          let m0 : (is_starting w.host.mode && is_some w.host.machine) ≡ false = sym (ap (λ x. is_starting x && is_some w.host.machine) e ∙ ap (λ x. is_starting w.host.mode && is_some x) refl) ∙ (ap (λ x. is_starting k.mode && is_some x) (sym q.machine_is) ∙ m) in
          l.keeps refl (not_resetting w.host.mode n0) (here n0 m0)
      by_mode (inr e) = risen w.host.mode refl e.0 e.1 e.2

  -- a machine that goes on
  same_host : (k : Host) → k.mode ≡ w.host.mode → k.frames ≡ w.host.frames → (k.mode ≡ state.Up) ⊎ (k.machine ≡ w.host.machine) → NoneHeld k
  same_host k a b (inl u) n m =
      let e = up_fits w.host.mode (sym a ∙ u) (is_some w.host.machine) in ap (how_many is_held_frame) b ∙ here e.0 e.1
  same_host k a b (inr c) n m =
      ap (how_many is_held_frame) b ∙ here (sym (ap (λ x. is_starting x || is_up x) a) ∙ n) (sym (ap (λ x. is_starting x && is_some w.host.machine) a) ∙ (ap (λ x. is_starting k.mode && is_some x) (sym c) ∙ m))

  at_door : (k : Host) (t : Bool) → AtDoor w k t → Leaves k t → NoneHeld k
  at_door k t (Keeps q) l = keeps_door k q l
  at_door k t (GivesUp s rs r g e) l = λ n m. resets_not k.mode (ap (λ (y : Host). is_resetting y.mode) e) n
  at_door k t (Drops u c v rest g r e) l = same_host k (ap (λ (y : Host). y.mode) e) (ap (λ (y : Host). y.frames) e) (inr (ap (λ (y : Host). y.machine) e))
  at_door k t (Begins base s d t2 q e) l = begun k base s d t2 q e
  at_door k t (Turns d y v hv reg e a) l = λ n m. by_mode n m k.mode refl
    where
      is : k ≡ door.puts_read (door.puts_writes (record w.host { reading = false }) (next_turn d (Some v)).writes) (next_turn d (Some v)).door reg
      is = a ∙ ap (door.puts_step (door.puts_writes (record w.host { reading = false }) (next_turn d (Some v)).writes) (next_turn d (Some v)).door) e

      by_mode : (is_starting k.mode || is_up k.mode) ≡ true → (is_starting k.mode && is_some k.machine) ≡ false → (o : HostState) → k.mode ≡ o → how_many is_held_frame k.frames ≡ 0
      by_mode n m state.Up u = same_host k (ap (λ (y : Host). y.mode) is) (ap (λ (y : Host). y.frames) is) (inl u) n m
      by_mode n m state.Starting u = machine_not k.mode (is_some k.machine) u (ap (λ (y : Host). is_some y.machine) is) m
      by_mode n m state.Resetting u = resets_not k.mode (ap is_resetting u) n
      by_mode n m state.Off u = let z : false ≡ true = sym (ap (λ x. is_starting x || is_up x) u) ∙ n in absurd (cc)
  at_door k t (Looked d y v hv o e a) l = same_host k (ap (λ (q : Host). q.mode) a) (ap (λ (q : Host). q.frames) a) (inl (ap (λ (q : Host). q.mode) a ∙ subst (IsInMode w) e hv.in_mode))
  at_door k t (Readied d y v hv o e a) l = λ n m. resets_not k.mode (ap (λ (q : Host). is_resetting q.mode) a ∙ in_reset_mode w.host.stage e hv.in_mode) n
  at_door k t (Opened d y v hv o e q) l = λ n m. l.opens refl d y v hv o e

  -- ---- what the calls leave

  no_news : (k : Host) (q : Heard) → HostGoes w k q → q ≡ goes.NoNews → is_off w.host.mode ≡ true → k.mode ≡ state.Up → ⊥
  no_news k q (goes.Same e) z o u = off_up w.host.mode o (sym (ap (λ (y : Host). y.mode) e) ∙ u)
    where
      off_up : (m : HostState) → is_off m ≡ true → m ≡ state.Up → ⊥
      off_up m o u = let c : true ≡ false = sym o ∙ ap is_off u in cc
  no_news k q (goes.Says r o2 en s y) z o u = contrary (is_off w.host.mode) o2 o
  no_news k q (goes.Hands r s i y) z o u = both w.host.mode r o
    where
      both : (m : HostState) → is_resetting m ≡ true → is_off m ≡ true → ⊥
      both state.Resetting r o = cc
      both state.Off r o = cc
      both state.Starting r o = cc
      both state.Up r o = cc
  no_news k q (goes.Values r v y hv) z o u = cc
  no_news k q (goes.MarkTaken queue r e) z o u = cc
  no_news k q (goes.MarkOver queue r g y d a t) z o u = cc
  no_news k q (goes.Starts m t) z o u = let c : state.Up ≡ state.Starting = sym u ∙ t.mode_is in cc
  no_news k q (goes.Asks s r o2 y e) z o u = contrary (is_off w.host.mode) o2 o
  no_news k q (goes.AsksNow s c r o2 y d t e) z o u = contrary (is_off w.host.mode) o2 o
  no_news k q (goes.Looks a r t) z o u = let c = goes.up_normal w.host.mode a in contrary (is_off w.host.mode) c.1 o
  no_news k q (goes.StopsNow a e) z o u = let c = goes.up_normal w.host.mode a in contrary (is_off w.host.mode) c.1 o

  never : {T : Type 0} → false ≡ true → T
  never e = absurd (cc)

  -- without a value
  quiet : (k : Host) → HostGoes w k goes.NoNews → (is_resetting w.host.mode ≡ false → how_many is_held_frame w.host.frames ≡ 0 → how_many is_held_frame k.frames ≡ 0) → Leaves k false
  quiet k g s = record { keeps = λ e r z. s r z; not_off = λ e. no_news k goes.NoNews g refl; opens = λ e d y v hv o i. never e }

  taken : (queue : ℕ) (x : Up) (rest : List Up) → up_on w queue ≡ x ∷ rest → why_strange w.host queue x ≡ None → Leaves (hears_up w.host queue x).part (is_value (heard_of queue x))
  taken queue (upward.Reply d g page sense) rest e why =
      quiet (hears_up w.host queue (upward.Reply d g page sense)).part (premises.goes w h f plain queue (upward.Reply d g page sense) rest e)
      (λ r z. (along Safe false move_safe w.host (hears_up w.host queue (upward.Reply d g page sense)).part (reply_is_strict false w.host queue d g page sense) (safe r z)).none)
  taken queue upward.Calm rest e why = quiet w.host (goes.Same refl) (λ r z. z)
  taken queue (upward.Mark generation) rest e why =
      record {
        keeps = λ c r z. contrary (is_resetting w.host.mode) r resets_now;
        not_off = λ c o u. resets_off w.host.mode resets_now o;
        opens = λ c d y v hv o i. never c;
      }
    where
      resets_now : is_resetting w.host.mode ≡ true
      resets_now = by_goes (hears_up w.host queue (upward.Mark generation)).part (goes.AMark queue) (premises.goes w h f plain queue (upward.Mark generation) rest e) refl
        where
          by_goes : (k : Host) (q : Heard) → HostGoes w k q → goes.is_mark_heard q ≡ true → is_resetting w.host.mode ≡ true
          by_goes k q (goes.MarkTaken c r a) z = r
          by_goes k q (goes.MarkOver c r g y d a t) z = r
          by_goes k q (goes.Same a) z = absurd (cc)
          by_goes k q (goes.Says r o en a b) z = absurd (cc)
          by_goes k q (goes.Hands r a i b) z = absurd (cc)
          by_goes k q (goes.Values r v b hv) z = absurd (cc)
          by_goes k q (goes.Starts a t) z = absurd (cc)
          by_goes k q (goes.Asks a r o b c) z = absurd (cc)
          by_goes k q (goes.AsksNow a c r o b d t g) z = absurd (cc)
          by_goes k q (goes.Looks a r t) z = absurd (cc)
          by_goes k q (goes.StopsNow a b) z = absurd (cc)

      resets_off : (m : HostState) → is_resetting m ≡ true → is_off m ≡ true → ⊥
      resets_off state.Resetting r o = cc
      resets_off state.Off r o = cc
      resets_off state.Starting r o = cc
      resets_off state.Up r o = cc
  taken queue (upward.Value v) rest e why = record { keeps = λ c r z. never (sym c); not_off = λ c o u. never (sym c); opens = λ c d y u hv o i. opens_now d y u hv o i }
    where
      due : (queue ≡ 0) × (w.host.reading ≡ true)
      due = value_is_due w queue v why

      opens_now : (d : HostDoor) (y : Reading) (u : ℕ) → HasValue w d y u → IsOver (next_turn d (Some u)).step → w.host.stage ≡ stage.Init → how_many is_held_frame (hears_up w.host queue (upward.Value v)).part.frames ≡ 0
      opens_now d y u hv o i =
          let same : upward.Value v ∷ rest ≡ upward.Value u ∷ hv.rest = sym (subst (λ n. up_on w n ≡ upward.Value v ∷ rest) due.0 e) ∙ hv.front in
          let n : v ≡ u = cc in
          let m : Host = door.puts_turn (record w.host { reading = false }) (next_turn d (Some u)) in
          subst (λ z. how_many is_held_frame (values.hears_value w.host z).part.frames ≡ 0) (sym n)
          (subst (λ z. how_many is_held_frame (values.hears_value_at (record w.host { reading = false }) z u).part.frames ≡ 0) (sym hv.machine_is)
          (opened m w.host.stage (next_turn d (Some u)).step i o (ap length (turn_frames (record w.host { reading = false }) (next_turn d (Some u))) ∙ f.flights.sizes.frames)))

  begins_frames : (base : Host) (s : Stage) (d : HostDoor) → (door.begins base s d).frames ≡ base.frames
  begins_frames base s d = turn_frames (record base { stage = s }) (next_turn d None)

  told : (i : Input) (g : IsHosts i) → Leaves (host_told w.host i).part false
  told i g = quiet (host_told w.host i).part (goes.told w i g) (by_input i)
    where
      away : (i : Input) → AsksNone i → is_resetting w.host.mode ≡ false → how_many is_held_frame w.host.frames ≡ 0 → how_many is_held_frame (host_told w.host i).part.frames ≡ 0
      away i a r z = (along Safe false move_safe w.host (host_told w.host i).part (input_away false w.host i a) (safe r z)).none

      asks : (s : Stage) (d : HostDoor) → how_many is_held_frame w.host.frames ≡ 0 → how_many is_held_frame (resets.with_reset_asked w.host s d).frames ≡ 0
      asks s d z = by_read w.host.reading
        where
          by_read : (b : Bool) → how_many is_held_frame (if b then resets.gives_up w.host s else door.begins (resets.gives_up w.host s) s d).frames ≡ 0
          by_read true = z
          by_read false = ap (how_many is_held_frame) (begins_frames (resets.gives_up w.host s) s d) ∙ z

      starts : (m : HostState) → how_many is_held_frame w.host.frames ≡ 0 → how_many is_held_frame (Rattle.mpt_rules.specs.Host.Inputs.starts_in w.host m).part.frames ≡ 0
      starts state.Off z = ap (how_many is_held_frame) (begins_frames (record w.host { mode = state.Starting }) stage.Start Rattle.mpi_doorbell.specs.HostSteps.look_at_doorbell) ∙ z
      starts state.Starting z = z
      starts state.Up z = z
      starts state.Resetting z = z

      diag : (m : HostState) → how_many is_held_frame w.host.frames ≡ 0 → how_many is_held_frame (Rattle.mpt_rules.specs.Host.Inputs.diag_resets_in w.host m).part.frames ≡ 0
      diag state.Off z = z
      diag state.Starting z = asks stage.DiagnosticReset Rattle.mpi_doorbell.specs.HostSteps.diagnostic_reset z
      diag state.Up z = asks stage.DiagnosticReset Rattle.mpi_doorbell.specs.HostSteps.diagnostic_reset z
      diag state.Resetting z = z

      unit : (m : HostState) → how_many is_held_frame w.host.frames ≡ 0 → how_many is_held_frame (Rattle.mpt_rules.specs.Host.Inputs.unit_resets_in w.host m).part.frames ≡ 0
      unit state.Off z = z
      unit state.Starting z = z
      unit state.Up z = asks stage.UnitReset Rattle.mpi_doorbell.specs.HostSteps.unit_reset z
      unit state.Resetting z = z

      by_input : (i : Input) → is_resetting w.host.mode ≡ false → how_many is_held_frame w.host.frames ≡ 0 → how_many is_held_frame (host_told w.host i).part.frames ≡ 0
      by_input input.Start r z = starts w.host.mode z
      by_input input.Reset r z = diag w.host.mode z
      by_input input.UnitReset r z = unit w.host.mode z
      by_input (input.Submit n address form) r z = away (input.Submit n address form) tt r z
      by_input (input.Abort n) r z = away (input.Abort n) tt r z
      by_input (input.TargetReset address) r z = away (input.TargetReset address) tt r z
      by_input (input.Plug address expander phy) r z = z
      by_input (input.Unplug address) r z = z

  -- ---- all cases

  owed : Owes (λ v. NoneHeld v.host) w
  owed =
      record {
        host_puts = λ x rest e. sent w.host x rest here;
        host_takes = λ queue x rest e y. at_door (hears_up w.host queue x).part (is_value (heard_of queue x)) (at.took w h (starts.before w h f plain) queue x rest e y) (taken queue x rest e y);
        host_told = λ i g. at_door (host_told w.host i).part false (at.told w h (starts.before w h f plain) i g) (told i g);
        host_looks = λ e. at_door (looks w.host) false (at.looked w h (starts.before w h f plain) e) (quiet (looks w.host) (goes.looks_on w e) (λ r z. ap (how_many is_held_frame) (begins_frames w.host stage.Look Rattle.mpi_doorbell.specs.HostSteps.look_at_doorbell) ∙ z));
        host_stops = λ e. at_door (stops w.host) false (at.stopped w h (starts.before w h f plain)) (quiet (stops w.host) (goes.stops_now w e) (λ r z. z));
        ioc_takes = λ x rest e. here;
        ioc_high = λ p rest e. here;
        ioc_normal = λ p rest e. here;
        ioc_puts_out = λ x rest e. here;
        ioc_takes_back = λ x rest e. here;
        ioc_puts = λ queue y rest z e u. here;
        fabric_takes = λ x rest e. here;
        fabric_says = λ x rest e. here;
        fabric_puts = λ x rest e. here;
        fabric_runs = λ tag address e. here;
        plugs = λ address expander phy. here;
        unplugs = λ address. here;
        calms = here;
      }

  pub none_held : (c : Case) → NoneHeld (happens w c).host
  none_held c = kept (λ v. NoneHeld v.host) w plain owed here c
