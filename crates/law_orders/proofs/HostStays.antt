-- While the controller is RESET, the host keeps what is open under an identifier that is found nowhere, and makes no post of it.
use Rattle.std.proofs.Common.{◌≡◌, ◌≢◌, ℕ, ◌-◌, ◌≤◌, ◌==◌, ◌&&◌, ◌||◌, Bool, true, false, cond, if◌then◌else◌, List, [], ◌∷◌, ◌++◌, set, slice_set, take, Option, Some, None, refl, ap, sym, ◌∙◌, arith}
use Rattle.std.specs.FinMap as finmap
use Rattle.std.specs.List.{list_any}
use Rattle.std.proofs.lemmas.Bool.{eqb-true}
use Rattle.std.proofs.lemmas.List.Folds.{list_any-append}
use Rattle.smid_pool.specs.Pool.{Free, Open, Parked, Slot, record_of, slot_of}
use Rattle.mpi_doorbell.specs.HostDoor.{HostDoor}
use Rattle.mpi_doorbell.specs.HostSteps.{diagnostic_reset, unit_reset}
use Rattle.mpi_doorbell.specs.declared.stage.Stage.{Stage as DoorStage}
use Rattle.mpi_doorbell.specs.declared.stage.Stage.TheVariants as door_stage
use Rattle.mpi_doorbell.specs.declared.state.IocState.{IocState}
use Rattle.mpi_doorbell.specs.declared.state.IocState.TheVariants as ioc_state
use Rattle.mpi_doorbell.specs.declared.step.DoorStep.{DoorStep}
use Rattle.mpi_doorbell.specs.declared.step.DoorStep.TheVariants as step
use Rattle.mpt_wire.specs.Machine.Causes.{is_resetting, is_up}
use Rattle.mpt_wire.specs.Messages.Fields.{frame_address_in, smid_in}
use Rattle.mpt_wire.specs.Walks.Cycles.{is_reset_end}
use Rattle.mpt_trace.specs.declared.entry.Entry.TheVariants as entry
use Rattle.mpt_trace.specs.declared.host_state.HostState.{HostState}
use Rattle.mpt_trace.specs.declared.host_state.HostState.TheVariants as state
use Rattle.mpt_trace.specs.declared.input.Input.{Input}
use Rattle.mpt_trace.specs.declared.input.Input.TheVariants as input
use Rattle.mpt_trace.specs.declared.item.Down.{Down}
use Rattle.mpt_trace.specs.declared.item.Down.TheVariants as down
use Rattle.mpt_trace.specs.declared.item.Up.{Up}
use Rattle.mpt_trace.specs.declared.item.Up.TheVariants as up
use Rattle.mpt_rules.specs.declared.request.Request.{Request}
use Rattle.mpt_rules.specs.declared.request.Request.TheVariants as request
use Rattle.mpt_rules.specs.declared.stage.Stage.{Stage}
use Rattle.mpt_rules.specs.declared.stage.Stage.TheVariants as stage
use Rattle.mpt_rules.specs.Host.Doorbell as door
use Rattle.mpt_rules.specs.Host.Inputs as inputs
use Rattle.mpt_rules.specs.Host.Parts.{Host}
use Rattle.mpt_rules.specs.Host.Posts as asks
use Rattle.mpt_rules.specs.Host.Replies as replies
use Rattle.mpt_rules.specs.Host.Resets as resets
use Rattle.mpt_rules.specs.Host.Takes.{hears_up}
use Rattle.mpt_rules.specs.Host.Values as values
use Rattle.mpt_rules.specs.Ioc.Parts.{state_of}
use Rattle.mpt_rules.specs.Ioc.Tables.{is_ready, is_reset}
use Rattle.mpt_rules.specs.Law.{NothingIsStrange}
use Rattle.mpt_rules.specs.World.Counts.{how_many, post_count}
use Rattle.mpt_rules.specs.World.Inputs.{host_told}
use Rattle.mpt_rules.specs.World.Places.{is_posted_as}
use Rattle.mpt_rules.specs.World.State.{World, up_on}
use Rattle.mpt_rules.proofs.Counts.{post_count-append}
use Rattle.mpt_rules.proofs.HostCalls.{submits_by, aborts_by, resets_target_by}
use Rattle.law_facts.specs.Clock.{is_linked_up}
use Rattle.law_facts.specs.DoorAhead.{IsInMode, WaitsAt}
use Rattle.law_facts.specs.Facts.{Facts}
use Rattle.law_facts.specs.History.{History}
use Rattle.law_facts.specs.Words.{is_load, others}
use Rattle.law_flights.proofs.HostHolds.{in_table, slot_of-set}
use Rattle.law_flights.proofs.HostTold.{ends_reset_told}
use Rattle.law_moves.proofs.Cases.{IsHosts}
use Rattle.law_moves.proofs.Counted.{fewer_pass, none_passes}
use Rattle.law_moves.proofs.Hears.{is_reset_stage}
use Rattle.law_moves.proofs.HostGoes.{Asks, AsksNow, Hands, Heard, HostGoes, Looks, MarkOver, MarkTaken, Same, Says, Starts, StopsNow, Values}
use Rattle.law_moves.proofs.HostSpeaks.{is_handed_back}
use Rattle.law_moves.proofs.Phases.{and_false}
use Rattle.law_moves.proofs.Turns.{TurnedHost}
use Rattle.law_moves.proofs.Valuing.{HearsValue, IsOverNow, IsReady, SpeaksOn, TurnsOn, UnitLate}
use Rattle.law_places.proofs.Premises.{last}

clash : {X : Type 0} (b : Bool) → b ≡ true → b ≡ false → X
clash true x y = absurd (cc)
clash false x y = absurd (cc)

posted_load : (s : ℕ) (x : Down) → is_posted_as s x ≡ true → is_load x ≡ true
posted_load s (down.Post d f p) e = refl
posted_load s (down.Write reg value) e = absurd (cc)
posted_load s (down.Read reg) e = absurd (cc)
posted_load s (down.Return address i) e = absurd (cc)
posted_load s down.Stop e = absurd (cc)

posts_load : (s : ℕ) (xs : List Down) → post_count s xs ≤ how_many is_load xs
unfolding post_count
posts_load s xs = fewer_pass (is_posted_as s) is_load (posted_load s) xs

handed_no_post : (s : ℕ) (x : Down) → is_handed_back x ≡ true → is_posted_as s x ≡ false
handed_no_post s (down.Post d f p) e = absurd (cc)
handed_no_post s (down.Write reg value) e = refl
handed_no_post s (down.Read reg) e = refl
handed_no_post s (down.Return address i) e = refl
handed_no_post s down.Stop e = refl

none_handed : (s : ℕ) (xs : List Down) → others is_handed_back xs ≡ 0 → post_count s xs ≡ 0
unfolding post_count
none_handed s xs z = none_passes is_handed_back (is_posted_as s) (handed_no_post s) xs z

step_pool : (k : Host) (d : HostDoor) (x : DoorStep) → (door.puts_step k d x).pool ≡ k.pool
step_pool k d (step.Read reg) = refl
step_pool k d (step.Write reg value) = refl
step_pool k d (step.Done count bytes) = refl
step_pool k d (step.Refused at value) = refl

begun_pool : (k : Host) (s : Stage) (d : HostDoor) → (door.begins k s d).pool ≡ k.pool
begun_pool k s d = let t = door.next_turn d None in step_pool (door.puts_writes (record k { stage = s }) t.writes) t.door t.step

late_pool : (k : Host) (s : Stage) → (resets.begins_late k s).pool ≡ k.pool
late_pool k stage.DiagnosticReset = begun_pool k stage.DiagnosticReset diagnostic_reset
late_pool k stage.UnitReset = begun_pool k stage.UnitReset unit_reset
late_pool k stage.Idle = refl
late_pool k stage.Start = refl
late_pool k stage.StartReset = refl
late_pool k stage.Facts = refl
late_pool k stage.PortFacts = refl
late_pool k stage.Init = refl
late_pool k stage.Look = refl

-- a reset that ends is told as done
end_told : (k : Host) → list_any is_reset_end (resets.ends_reset k).entries ≡ true
end_told k = let e = ends_reset_told k in ap (list_any is_reset_end) e.is ∙ (list_any-append is_reset_end e.told (entry.ResetDone ∷ []) ∙ or_true (list_any is_reset_end e.told))
  where
    or_true : (b : Bool) → (b || true) ≡ true
    or_true true = refl
    or_true false = refl

over_pool : (k : Host) → (list_any is_reset_end (resets.ends_reset_if_over k).entries ≡ true → ⊥) → (resets.ends_reset_if_over k).part.pool ≡ k.pool
over_pool k n = by_end (k.door_ready && resets.has_all_marks k) n
  where
    by_end : (c : Bool) → (list_any is_reset_end (if c then resets.ends_reset k else record { part = k; entries = [] }).entries ≡ true → ⊥) → (if c then resets.ends_reset k else record { part = k; entries = [] }).part.pool ≡ k.pool
    by_end true n = absurd (n (end_told k))
    by_end false n = refl

stage_pool : (k : Host) (s : Stage) (bytes : List ℕ) → is_reset_stage s ≡ true → (list_any is_reset_end (values.ends_stage k s bytes).entries ≡ true → ⊥) → (values.ends_stage k s bytes).part.pool ≡ k.pool
stage_pool k stage.DiagnosticReset bytes r n = over_pool (record k { door_ready = true }) n
stage_pool k stage.UnitReset bytes r n = over_pool (record k { door_ready = true }) n
stage_pool k stage.Idle bytes r n = absurd (cc)
stage_pool k stage.Start bytes r n = absurd (cc)
stage_pool k stage.StartReset bytes r n = absurd (cc)
stage_pool k stage.Facts bytes r n = absurd (cc)
stage_pool k stage.PortFacts bytes r n = absurd (cc)
stage_pool k stage.Init bytes r n = absurd (cc)
stage_pool k stage.Look bytes r n = absurd (cc)

turn_pool : (k : Host) (s : Stage) (x : DoorStep) → is_reset_stage s ≡ true → (list_any is_reset_end (values.after_turn k s x).entries ≡ true → ⊥) → (values.after_turn k s x).part.pool ≡ k.pool
turn_pool k s (step.Done count bytes) r n = stage_pool k s (take count bytes) r n
turn_pool k s (step.Read reg) r n = refl
turn_pool k s (step.Write reg value) r n = refl
turn_pool k s (step.Refused at value) r n = refl

-- ---- inputs are refused while a reset goes on

module _ (k : Host) (m : k.mode ≡ state.Resetting) where
  not_up : is_up k.mode ≡ false
  not_up = ap is_up m

  pub told_same : (i : Input) → IsHosts i → (host_told k i).part ≡ k
  told_same input.Start g = ap (λ x. (inputs.starts_in k x).part) m
  told_same input.Reset g = ap (λ x. (inputs.diag_resets_in k x).part) m
  told_same input.UnitReset g = ap (λ x. (inputs.unit_resets_in k x).part) m
  told_same (input.Submit n address form) g = by_used (Rattle.std.specs.FinSet.contains k.accepted n) (is_up k.mode) not_up
    where
      by_used : (used up : Bool) → up ≡ false → (submits_by k n address (Rattle.mpt_trace.specs.Command.command_named form) used up (Rattle.removal.specs.Handles.ready_handle k.phases address) (Rattle.scsi_disk.specs.Command.fits (Rattle.mpt_trace.specs.Command.command_named form)) (Rattle.smid_pool.specs.Pool.least_free Rattle.smid_pool.specs.declared.class.Class.TheVariants.ScsiIo k.pool)).part ≡ k
      by_used true up e = refl
      by_used false false e = refl
      by_used false true e = absurd (cc)
  told_same (input.Abort n) g = by_up (is_up k.mode) not_up
    where
      by_up : (up : Bool) → up ≡ false → (aborts_by k n up (finmap.get k.cmds n) (finmap.get k.aborts n) (Rattle.smid_pool.specs.Pool.least_free Rattle.smid_pool.specs.declared.class.Class.TheVariants.High k.pool)).part ≡ k
      by_up false e = refl
      by_up true e = absurd (cc)
  told_same (input.TargetReset address) g = by_up (is_up k.mode) not_up
    where
      by_up : (up : Bool) → up ≡ false → (resets_target_by k address up (Rattle.removal.specs.Handles.ready_handle k.phases address) (Rattle.smid_pool.specs.Pool.least_free Rattle.smid_pool.specs.declared.class.Class.TheVariants.High k.pool)).part ≡ k
      by_up false e = refl
      by_up true e = absurd (cc)
  told_same (input.Plug address expander phy) g = absurd g
  told_same (input.Unplug address) g = absurd g

-- ---- a reply to another identifier

module _ (s : ℕ) (r0 : Request) (smid : ℕ) (other : (s == smid) ≡ false) where
  -- the slot stays after a write of another one that was taken
  stays_set : (pool : List (Slot Request)) (x : ℕ) (o y : Slot Request) → (s == x) ≡ false → slot_of pool x ≡ o → o ≢ Free → slot_of (set pool (x - 1) y) s ≡ slot_of pool s
  stays_set pool x o y k e g = let p = in_table pool x o e g in slot_of-set pool x s y p.0 p.1 ∙ ap (λ (c : Bool). cond c y (slot_of pool s)) k

  module _ (k : Host) (m : is_resetting k.mode ≡ true) (none : k.wait_high ≡ []) (here : slot_of k.pool s ≡ Open r0) where
    abbrev Stay : Host → Type 0
    Stay j = slot_of j.pool s ≡ slot_of k.pool s

    frees : (r : Request) → slot_of k.pool smid ≡ Open r → Stay (asks.frees k smid)
    frees r e = stays_set k.pool smid (Open r) Free other e (λ z. absurd (cc))

    -- none waits for a freed one
    given : (j : Host) (xs : List ℕ) → xs ≡ [] → Stay j → Stay (asks.gives_high j smid xs)
    given j [] e z = z
    given j (x ∷ xs) e z = absurd (cc)

    only : (r : Request) (o : Rattle.mpt_rules.specs.Outcome.Happening Host) → slot_of k.pool smid ≡ Open r → Stay (replies.unless_resetting k smid o).part
    only r o e = by_mode (is_resetting k.mode) m
      where
        by_mode : (b : Bool) → b ≡ true → Stay (if b then Rattle.mpt_rules.specs.Host.Removal.quietly (asks.frees k smid) else o).part
        by_mode true t = frees r e
        by_mode false t = absurd (cc)

    -- an abort frees what was parked for it too
    abort : (n task : ℕ) (x : Slot Request) → slot_of k.pool smid ≡ Open (request.Abort n task) → slot_of k.pool task ≡ x → Stay (asks.frees_high (replies.unparks (record k { aborts = finmap.remove k.aborts n }) task x) smid)
    abort n task Free e t = given (asks.frees (record k { aborts = finmap.remove k.aborts n }) smid) k.wait_high none (frees (request.Abort n task) e)
    abort n task (Open r) e t = given (asks.frees (record k { aborts = finmap.remove k.aborts n }) smid) k.wait_high none (frees (request.Abort n task) e)
    abort n task Parked e t =
        let one : slot_of (set k.pool (task - 1) Free) s ≡ slot_of k.pool s = stays_set k.pool task Parked Free (apart (s == task) refl) t (λ z. absurd (cc)) in
        given (asks.frees (asks.frees (record k { aborts = finmap.remove k.aborts n }) task) smid) k.wait_high none
        (stays_set (set k.pool (task - 1) Free) smid (Open (request.Abort n task)) Free other (still ∙ e) (λ z. absurd (cc)) ∙ one)
      where
        apart : (b : Bool) → (s == task) ≡ b → b ≡ false
        apart true q = let z : Open r0 ≡ Parked = sym here ∙ (ap (slot_of k.pool) (eqb-true s task q) ∙ t) in absurd (cc)
        apart false q = refl

        still : slot_of (set k.pool (task - 1) Free) smid ≡ slot_of k.pool smid
        still = let p = in_table k.pool task Parked t (λ z. absurd (cc)) in slot_of-set k.pool task smid Free p.0 p.1 ∙ by_key (smid == task) refl
          where
            by_key : (b : Bool) → (smid == task) ≡ b → cond b Free (slot_of k.pool smid) ≡ slot_of k.pool smid
            by_key true q = let z : Open (request.Abort n task) ≡ Parked = sym e ∙ (ap (slot_of k.pool) (eqb-true smid task q) ∙ t) in absurd (cc)
            by_key false q = refl

    answer : (r : Request) (v : replies.Heard) → slot_of k.pool smid ≡ Open r → Stay (replies.hears_answer k smid r v).part
    answer (request.Command n) v e = stays_set k.pool smid (Open (request.Command n)) (replies.slot_after (finmap.get k.aborts n)) other e (λ z. absurd (cc))
    answer (request.Abort n task) v e = abort n task (slot_of k.pool task) e refl
    answer (request.TargetReset address) v e = given (asks.frees k smid) k.wait_high none (frees (request.TargetReset address) e)
    answer (request.Leave handle) v e = only (request.Leave handle) _ e
    answer (request.Page handle) v e = only (request.Page handle) _ e
    answer (request.Remove handle) v e = only (request.Remove handle) _ e
    answer (request.Ack event context) v e = only (request.Ack event context) _ e
    answer request.Notification v e = only request.Notification _ e
    answer request.PortEnable v e = only request.PortEnable _ e

    reply_to : (x : Slot Request) (v : replies.Heard) → slot_of k.pool smid ≡ x → Stay (replies.hears_reply_to k smid (record_of x) v).part
    reply_to (Open r) v e = answer r v e
    reply_to Free v e = none_asked
      where
        none_asked : Stay (replies.hears_reply_to k smid None v).part
        none_asked = by_mode (is_resetting k.mode) m
          where
            by_mode : (b : Bool) → b ≡ true → Stay (if b then Rattle.mpt_rules.specs.Host.Removal.quietly k else Rattle.mpt_rules.specs.Host.Removal.hears_event k (replies.reply_bytes v)).part
            by_mode true t = refl
            by_mode false t = absurd (cc)
    reply_to Parked v e = none_asked
      where
        none_asked : Stay (replies.hears_reply_to k smid None v).part
        none_asked = by_mode (is_resetting k.mode) m
          where
            by_mode : (b : Bool) → b ≡ true → Stay (if b then Rattle.mpt_rules.specs.Host.Removal.quietly k else Rattle.mpt_rules.specs.Host.Removal.hears_event k (replies.reply_bytes v)).part
            by_mode true t = refl
            by_mode false t = absurd (cc)

-- ---- in RESET

module _ (w : World) (h : History) (f : Facts w h) (plain : NothingIsStrange w) (reset : is_reset (state_of w.ioc) ≡ true) where
  pub mode_is : w.host.mode ≡ state.Resetting
  mode_is = by_mode w.host.mode (and_false _ _ (f.clock.phase_table.reset reset)).0
    where
      by_mode : (m : HostState) → is_resetting m ≡ true → m ≡ state.Resetting
      by_mode state.Off e = absurd (cc)
      by_mode state.Starting e = absurd (cc)
      by_mode state.Up e = absurd (cc)
      by_mode state.Resetting e = refl

  going : is_resetting w.host.mode ≡ true
  going = ap is_resetting mode_is

  pub unlinked : is_linked_up w ≡ true → ⊥
  unlinked l = by_state (state_of w.ioc) reset (and_false _ _ l).1
    where
      by_state : (x : IocState) → is_reset x ≡ true → is_ready x ≡ true → ⊥
      by_state ioc_state.Reset a b = cc
      by_state ioc_state.Ready a b = cc
      by_state ioc_state.Operational a b = cc
      by_state (ioc_state.Fault code) a b = cc

  module _ (s : ℕ) (none : post_count s w.host.out ≡ 0) where
    grown : (xs : List Down) → post_count s xs ≡ 0 → post_count s (w.host.out ++ xs) ≡ 0
    grown xs z = let a = post_count-append s w.host.out xs in omega (arith, a, z, none)

    by_turn : (k : Host) (c : ℕ) → TurnedHost (record w.host { reading = false }) c k → post_count s k.out ≡ 0
    by_turn k c t = let l = posts_load s t.added in let z = t.are.loads in ap (post_count s) t.out_is ∙ grown t.added (omega (arith, l, z))

    by_value : (k : Host) → HearsValue w k → post_count s k.out ≡ 0
    by_value k (TurnsOn c u t a d) = by_turn k c t
    by_value k (UnitLate r g u) = by_turn k 1 u.turn
    by_value k (SpeaksOn j st t q sp) = clash (is_resetting w.host.mode) going (ap is_resetting st)
    by_value k (IsReady j r l t q a d e) = absurd (unlinked l)
    by_value k (IsOverNow j r l t q a u) = absurd (unlinked l)

    up_not : is_up w.host.mode ≡ true → ⊥
    up_not u = clash (is_up w.host.mode) u (ap is_up mode_is)

    -- whatever the host does
    pub no_posts : (k : Host) (t : Heard) → HostGoes w k t → post_count s k.out ≡ 0
    no_posts k t (Same e) = ap (λ (j : Host). post_count s j.out) e ∙ none
    no_posts k t (Says m o en sp u) = clash (is_resetting w.host.mode) going m
    no_posts k t (Hands m sp i fr) = ap (post_count s) sp.grows.is ∙ grown sp.grows.added (none_handed s sp.grows.added sp.grows.mild)
    no_posts k t (Values r v fr hears) = by_value k hears
    no_posts k t (MarkTaken queue m e) = ap (λ (j : Host). post_count s j.out) e ∙ none
    no_posts k t (MarkOver queue m g fr d a u) = absurd (unlinked (f.clock.value_is_last.ready d).linked)
    no_posts k t (Starts o u) = clash (is_resetting w.host.mode) going (ap is_resetting o)
    no_posts k t (Asks st m o r e) = clash (is_resetting w.host.mode) going m
    no_posts k t (AsksNow st c m o r q u z) = clash (is_resetting w.host.mode) going m
    no_posts k t (Looks u r q) = absurd (up_not u)
    no_posts k t (StopsNow u e) = absurd (up_not u)

    -- and what is open stays so, where no reply to it comes
    module _ (r0 : Request) (here : slot_of w.host.pool s ≡ Open r0) where
      abbrev Keeps : Host → Type 0
      Keeps k = slot_of k.pool s ≡ slot_of w.host.pool s

      value_kept : (v : ℕ) (rest : List Up) (queue : ℕ) → up_on w queue ≡ up.Value v ∷ rest → (o : Option HostDoor) → w.host.machine ≡ o
          → (list_any is_reset_end (values.hears_value_at (record w.host { reading = false }) o v).entries ≡ true → ⊥) → Keeps (values.hears_value_at (record w.host { reading = false }) o v).part
      value_kept v rest queue e None m n = ap (λ p. slot_of p s) (late_pool (record w.host { reading = false }) w.host.stage)
      value_kept v rest queue e (Some d) m n =
          let t = door.next_turn d (Some v) in
          let j : Host = door.puts_writes (record w.host { reading = false }) t.writes in
          ap (λ p. slot_of p s) (turn_pool (door.puts_step j t.door t.step) w.host.stage t.step (by_waits d.stage (f.doorbell.stage.machine d m)) n ∙ step_pool j t.door t.step)
        where
          by_stage : (x : Stage) → IsInMode w x → is_reset_stage x ≡ true
          by_stage stage.DiagnosticReset i = refl
          by_stage stage.UnitReset i = refl
          by_stage stage.Idle i = absurd i
          by_stage stage.Start i = clash (is_resetting w.host.mode) going (ap is_resetting i)
          by_stage stage.StartReset i = absurd i
          by_stage stage.Facts i = clash (is_resetting w.host.mode) going (ap is_resetting i)
          by_stage stage.PortFacts i = clash (is_resetting w.host.mode) going (ap is_resetting i)
          by_stage stage.Init i = clash (is_resetting w.host.mode) going (ap is_resetting i)
          by_stage stage.Look i = clash (is_resetting w.host.mode) going (ap is_resetting i)

          by_waits : (x : DoorStage) → WaitsAt w x → is_reset_stage w.host.stage ≡ true
          by_waits (door_stage.Awaits y) a = by_stage w.host.stage a.1
          by_waits _ a = absurd a

      pub item_kept : (queue : ℕ) (x : Up) (rest : List Up) → up_on w queue ≡ x ∷ rest → ((d : ℕ) (g : Option (List ℕ)) (page sense : List ℕ) → x ≡ up.Reply d g page sense → (s == smid_in d) ≡ false) → Keeps (hears_up w.host queue x).part
      item_kept queue (up.Value v) rest e apart = value_kept v rest queue e w.host.machine refl (λ r. unlinked (last w h f plain queue (up.Value v) rest e r).linked)
      item_kept queue (up.Mark g) rest e apart =
          ap (λ p. slot_of p s) (over_pool (record w.host { marks = slice_set w.host.marks queue true }) (λ r. unlinked (last w h f plain queue (up.Mark g) rest e r).linked))
      item_kept queue up.Calm rest e apart = refl
      item_kept queue (up.Reply d g page sense) rest e apart = by_frame g (apart d g page sense refl)
        where
          by_frame : (g : Option (List ℕ)) → (s == smid_in d) ≡ false → Keeps (hears_up w.host queue (up.Reply d g page sense)).part
          by_frame None k = reply_to s r0 (smid_in d) k (replies.takes_entry w.host queue) going (f.doorbell.fresh_start.given_up going).0 here (slot_of w.host.pool (smid_in d)) (replies.heard_of d None page sense) refl
          by_frame (Some bytes) k = by_returning w.host.returning
            where
              by_returning : (b : Bool) → Keeps (replies.hears_reply_to (replies.takes_entry (if b then Rattle.mpt_rules.specs.Host.Returns.with_return w.host (Rattle.mpt_rules.specs.Host.Returns.frame_of (frame_address_in d)) else Rattle.mpt_rules.specs.Host.Returns.keeps w.host (Rattle.mpt_rules.specs.Host.Returns.frame_of (frame_address_in d))) queue) (smid_in d) (replies.request_of w.host (smid_in d)) (replies.heard_of d (Some bytes) page sense)).part
              by_returning true = reply_to s r0 (smid_in d) k (replies.takes_entry (Rattle.mpt_rules.specs.Host.Returns.with_return w.host (Rattle.mpt_rules.specs.Host.Returns.frame_of (frame_address_in d))) queue) going (f.doorbell.fresh_start.given_up going).0 here (slot_of w.host.pool (smid_in d)) (replies.heard_of d (Some bytes) page sense) refl
              by_returning false = reply_to s r0 (smid_in d) k (replies.takes_entry (Rattle.mpt_rules.specs.Host.Returns.keeps w.host (Rattle.mpt_rules.specs.Host.Returns.frame_of (frame_address_in d))) queue) going (f.doorbell.fresh_start.given_up going).0 here (slot_of w.host.pool (smid_in d)) (replies.heard_of d (Some bytes) page sense) refl
