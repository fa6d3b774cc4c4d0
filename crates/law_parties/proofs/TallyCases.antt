-- Each case of the host keeps the tally of a number, whatever it takes.
use Rattle.std.proofs.Common.{◌≡◌, ℕ, ◌+◌, ◌-◌, ◌==◌, Bool, true, false, cond, List, [], ◌∷◌, set, take, slice_set, Option, Some, None, is_some, refl, ap, sym, subst, ◌∙◌, arith, length-set}
use Rattle.std.specs.Prelude.{◌||◌}
use Rattle.std.specs.FinMap as finmap
use Rattle.std.specs.FinSet as finset
use Rattle.std.specs.Ordering.{eq_by_cmp, nat_cmp}
use Rattle.std.proofs.lemmas.Bool.Decides.{nat_tests}
use Rattle.std.proofs.lemmas.Cmp.{nat_cmp_total}
use Rattle.scsi_disk.specs.Command.{fits}
use Rattle.scsi_disk.specs.declared.command.Command.{Command}
use Rattle.mpi_doorbell.specs.HostDoor.{HostDoor}
use Rattle.mpi_doorbell.specs.HostSteps.{diagnostic_reset, look_at_doorbell, unit_reset}
use Rattle.mpi_doorbell.specs.declared.step.DoorStep.{DoorStep}
use Rattle.mpi_doorbell.specs.declared.step.DoorStep.TheVariants as step
use Rattle.mpt_messages.specs.declared.host_ask.HostAsk.TheVariants as ask
use Rattle.mpt_trace.specs.Command.{command_named}
use Rattle.mpt_trace.specs.declared.entry.Entry.{Entry}
use Rattle.mpt_trace.specs.declared.entry.Entry.TheVariants as entry
use Rattle.mpt_trace.specs.declared.host_state.HostState.{HostState}
use Rattle.mpt_trace.specs.declared.host_state.HostState.TheVariants as state
use Rattle.mpt_trace.specs.declared.input.Input.{Input}
use Rattle.mpt_trace.specs.declared.input.Input.TheVariants as input
use Rattle.mpt_trace.specs.declared.item.Down.{Down}
use Rattle.mpt_trace.specs.declared.item.Down.TheVariants as down
use Rattle.mpt_trace.specs.declared.item.Item.TheVariants as item
use Rattle.mpt_trace.specs.declared.item.Up.{Up}
use Rattle.mpt_trace.specs.declared.item.Up.TheVariants as up
use Rattle.mpt_trace.specs.declared.lane.LaneName.TheVariants as lane
use Rattle.mpt_trace.specs.declared.refusal.RefusedCall.{RefusedCall}
use Rattle.mpt_trace.specs.declared.refusal.RefusedCall.TheVariants as call
use Rattle.mpt_wire.specs.Machine.Causes.{is_up}
use Rattle.mpt_wire.specs.Walks.Passes.{EachEntry}
use Rattle.removal.specs.Handles.{ready_handle}
use Rattle.smid_pool.specs.Pool.{Open, least_free, slot_of}
use Rattle.smid_pool.specs.declared.class.Class.TheVariants as class
use Rattle.mpt_rules.proofs.HostCalls.{aborts_by, resets_target_by, submits_by}
use Rattle.mpt_rules.specs.declared.request.Request.TheVariants as request
use Rattle.mpt_rules.specs.declared.stage.Stage.{Stage}
use Rattle.mpt_rules.specs.declared.stage.Stage.TheVariants as stage
use Rattle.mpt_rules.specs.declared.why.Why.{Why}
use Rattle.mpt_rules.specs.Host.Doorbell as door
use Rattle.mpt_rules.specs.Host.Inputs as inputs
use Rattle.mpt_rules.specs.Host.Parts.{Cmd, Host, host_queue_count}
use Rattle.mpt_rules.specs.Host.Resets as resets
use Rattle.mpt_rules.specs.Host.Returns as returns
use Rattle.mpt_rules.specs.Host.Strange.{why_strange}
use Rattle.mpt_rules.specs.Host.Takes.{hears_up, takes_unless}
use Rattle.mpt_rules.specs.Host.Values as values
use Rattle.mpt_rules.specs.Session.OpenCases.{HostCase, host_does, puts_down}
use Rattle.mpt_rules.specs.World.Cases.{is_free, looks_if, stops_if}
use Rattle.mpt_rules.specs.World.Counts.{one_if}
use Rattle.mpt_rules.specs.World.Inputs.{by_option, by_result, host_told}
use Rattle.mpt_rules.specs.World.Moves.{told_of}
use Rattle.mpt_rules.specs.World.State.{up_lane}
use Rattle.law_parties.proofs.Numbers.{KeepsNumber, asked_reset, begun, begun_handshake, begun_late, begun_messages, is_for, least_beside, slots_for, started_by, stays, turned, written}
use Rattle.law_parties.proofs.Tallies.{Counts, HasTally, IsBy, Tally, all_by, by_before}
use Rattle.law_parties.proofs.TallyReplies.{CountsTo, quietly_counts, reply_counts}
use Rattle.law_parties.proofs.TallyResets.{over_counts}

module _ (n : ℕ) where
  module _ (g : Tally) where
    -- ---- values

    stage_counts : (host : Host) (s : Stage) (bytes : List ℕ) → HasTally n g host → CountsTo n g (values.ends_stage host s bytes)
    stage_counts host stage.Idle bytes h = quietly_counts n g host h
    stage_counts host stage.Start bytes h = quietly_counts n g (values.starts_by host (values.state_read bytes)) (started_by n g.accepts g.answers host (values.state_read bytes) h)
    stage_counts host stage.StartReset bytes h = quietly_counts n g (door.begins_facts host) (begun_handshake n g.accepts g.answers host stage.Facts ask.Facts h)
    stage_counts host stage.Facts bytes h = quietly_counts n g (door.begins_port_facts host) (begun_handshake n g.accepts g.answers host stage.PortFacts ask.PortFacts h)
    stage_counts host stage.PortFacts bytes h = quietly_counts n g (door.begins_init host) (begun_handshake n g.accepts g.answers host stage.Init (ask.Init (host_queue_count host)) h)
    stage_counts host stage.Init bytes h = quietly_counts n g (values.begins_messages host) (begun_messages n g.accepts g.answers host h)
    stage_counts host stage.Look bytes h = quietly_counts n g host h
    stage_counts host stage.DiagnosticReset bytes h = over_counts n g (record host { door_ready = true }) h
    stage_counts host stage.UnitReset bytes h = over_counts n g (record host { door_ready = true }) h

    turn_counts : (host : Host) (s : Stage) (x : DoorStep) → HasTally n g host → CountsTo n g (values.after_turn host s x)
    turn_counts host s (step.Done count bytes) h = stage_counts host s (take count bytes) h
    turn_counts host s (step.Read reg) h = quietly_counts n g host h
    turn_counts host s (step.Write reg value) h = quietly_counts n g host h
    turn_counts host s (step.Refused at value) h = quietly_counts n g host h

    value_counts : (host : Host) (d : Option HostDoor) (value : ℕ) → HasTally n g host → CountsTo n g (values.hears_value_at host d value)
    value_counts host None value h = quietly_counts n g (resets.begins_late host host.stage) (begun_late n g.accepts g.answers host host.stage h)
    value_counts host (Some d) value h =
        let t : door.DoorTurn = door.next_turn d (Some value) in
        turn_counts (door.puts_turn host t) host.stage t.step (turned n g.accepts g.answers host t h)

    up_counts : (host : Host) (queue : ℕ) (next : Up) → HasTally n g host → CountsTo n g (hears_up host queue next)
    up_counts host queue (up.Value value) h = value_counts (record host { reading = false }) host.machine value h
    up_counts host queue (up.Reply d f page sense) h = reply_counts n g host queue d f page sense h
    up_counts host queue (up.Mark generation) h = over_counts n g (record host { marks = slice_set host.marks queue true }) h
    up_counts host queue up.Calm h = quietly_counts n g host h

    took_counts : (host : Host) (queue : ℕ) (next : Up) (why : Option Why) → HasTally n g host
        → Counts n g (entry.Take (up_lane queue) (item.Up next) ∷ told_of (takes_unless host queue next why).answer (takes_unless host queue next why).told) (takes_unless host queue next why).part
    took_counts host queue next None h = by_before n g (entry.Take (up_lane queue) (item.Up next)) (hears_up host queue next).entries (hears_up host queue next).part tt (up_counts host queue next h)
    took_counts host queue next (Some why) h = all_by n g (entry.Take (up_lane queue) (item.Up next) ∷ []) host (tt, tt) h

    -- ---- inputs

    -- a number is accepted
    accepted_counts : (host : Host) (k address : ℕ) (command : Command) (handle s : ℕ) → finset.contains host.accepted k ≡ false → least_free class.ScsiIo host.pool ≡ Some s → HasTally n g host
        → Counts n g (entry.Accept k address s ∷ []) (inputs.with_accepted host k address command handle s)
    accepted_counts host k address command handle s new least h =
        let x = least_beside n g.accepts g.answers class.ScsiIo host.pool s least in
        let t = h.table in
        let l = x.least in
        let m = x.most in
        let w = written n host.pool s (Open (request.Command k)) l (omega (arith, t, l, m)) in
        let z = ap one_if x.other in
        let same : eq_by_cmp nat_cmp n k ≡ (k == n) = grind arith in
        let put : finmap.get (finmap.insert host.cmds k (record { smid = s; handle = handle })) n ≡ cond (k == n) (Some (record { smid = s; handle = handle })) (finmap.get host.cmds n) =
        finmap.get-insert nat_cmp_total host.cmds k (record { smid = s; handle = handle }) n ∙ ap (λ (b : Bool). cond b (Some (record { smid = s; handle = handle })) (finmap.get host.cmds n)) same in
        let has : finset.contains (finset.insert host.accepted k) n ≡ ((k == n) || finset.contains host.accepted n) =
        finset.contains-insert nat_cmp_total host.accepted k n ∙ ap (λ (b : Bool). b || finset.contains host.accepted n) same in
        record { passes = (tt, tt); tied = by_key (k == n) refl (w ∙ refl) z put has }
      where
        by_key : (b : Bool) → (k == n) ≡ b
            → slots_for n (set host.pool (s - 1) (Open (request.Command k))) + one_if (is_for n (slot_of host.pool s)) ≡ slots_for n host.pool + one_if (k == n) → one_if (is_for n (slot_of host.pool s)) ≡ 0
            → finmap.get (finmap.insert host.cmds k (record { smid = s; handle = handle })) n ≡ cond b (Some (record { smid = s; handle = handle })) (finmap.get host.cmds n)
            → finset.contains (finset.insert host.accepted k) n ≡ (b || finset.contains host.accepted n)
            → KeepsNumber n (g.accepts + one_if (k == n)) g.answers (set host.pool (s - 1) (Open (request.Command k))) (finmap.insert host.cmds k (record { smid = s; handle = handle })) (finset.insert host.accepted k)
        by_key true key w z put has =
            let is : k ≡ n = grind (arith, nat_tests, key) in
            let unused : one_if (finset.contains host.accepted n) ≡ 0 = ap one_if (subst (λ (q : ℕ). finset.contains host.accepted q ≡ false) is new) in
            let accepts = h.accepts in
            let answers = h.answers in
            let held = h.held in
            let one = ap one_if key in
            let open_now = ap (λ (o : Option Cmd). one_if (is_some o)) put in
            let used = ap one_if has in
            record {
              table = length-set host.pool (s - 1) (Open (request.Command k)) ∙ h.table;
              held = omega (arith, w, z, one, open_now, held, answers, accepts, unused);
              accepts = omega (arith, accepts, unused, one, used);
              answers = omega (arith, accepts, answers, unused, one, open_now);
            }
        by_key false key w z put has =
            let accepts = h.accepts in
            let answers = h.answers in
            let held = h.held in
            let none = ap one_if key in
            let open_now = ap (λ (o : Option Cmd). one_if (is_some o)) put in
            let used = ap one_if has in
            record {
              table = length-set host.pool (s - 1) (Open (request.Command k)) ∙ h.table;
              held = omega (arith, w, z, none, open_now, held);
              accepts = omega (arith, accepts, none, used);
              answers = omega (arith, answers, none, open_now);
            }

    -- an input that is refused, or does what it is for without a word
    given_counts : (i : Input) (t : List Entry) (host : Host) → EachEntry IsBy t → HasTally n g host → Counts n g (entry.Given i ∷ t) host
    given_counts i t host b h = all_by n g (entry.Given i ∷ t) host (tt, b) h

    submit_counts : (host : Host) (k address : ℕ) (i : Input) (command : Command) (used mode : Bool) (handle : Option ℕ) (fit : Bool) (o : Option ℕ) → finset.contains host.accepted k ≡ used → least_free class.ScsiIo host.pool ≡ o → HasTally n g host
        → CountsTo n g (by_result i (entry.RefuseSubmit k) (submits_by host k address command used mode handle fit o))
    submit_counts host k address i command true mode handle fit o e f h = given_counts i (entry.RefuseSubmit k _ ∷ []) host (tt, tt) h
    submit_counts host k address i command false false handle fit o e f h = given_counts i (entry.RefuseSubmit k _ ∷ []) host (tt, tt) h
    submit_counts host k address i command false true None fit o e f h = given_counts i (entry.RefuseSubmit k _ ∷ []) host (tt, tt) h
    submit_counts host k address i command false true (Some x) false o e f h = given_counts i (entry.RefuseSubmit k _ ∷ []) host (tt, tt) h
    submit_counts host k address i command false true (Some x) true None e f h = given_counts i (entry.RefuseSubmit k _ ∷ []) host (tt, tt) h
    submit_counts host k address i command false true (Some x) true (Some s) e f h =
        by_before n g (entry.Given i) (entry.Accept k address s ∷ []) (inputs.with_accepted host k address command x s) tt (accepted_counts host k address command x s e f h)

    abort_counts : (host : Host) (k : ℕ) (i : Input) (r : RefusedCall) (mode : Bool) (cmd : Option Cmd) (there o : Option ℕ) → least_free class.High host.pool ≡ o → HasTally n g host
        → CountsTo n g (by_result i (entry.Refuse r) (aborts_by host k mode cmd there o))
    abort_counts host k i r false cmd there o f h = given_counts i (entry.Refuse r _ ∷ []) host (tt, tt) h
    abort_counts host k i r true None there o f h = given_counts i (entry.Refuse r _ ∷ []) host (tt, tt) h
    abort_counts host k i r true (Some cmd) (Some x) o f h = given_counts i (entry.Refuse r _ ∷ []) host (tt, tt) h
    abort_counts host k i r true (Some cmd) None None f h = given_counts i (entry.Refuse r _ ∷ []) host (tt, tt) h
    abort_counts host k i r true (Some cmd) None (Some s) f h =
        given_counts i [] (inputs.with_abort_asked host k cmd s) tt
        (stays n g.accepts g.answers host.pool host.cmds host.accepted s (Open (request.Abort k cmd.smid)) (least_beside n g.accepts g.answers class.High host.pool s f) refl h)

    target_counts : (host : Host) (address : ℕ) (i : Input) (r : RefusedCall) (mode : Bool) (handle o : Option ℕ) → least_free class.High host.pool ≡ o → HasTally n g host
        → CountsTo n g (by_result i (entry.Refuse r) (resets_target_by host address mode handle o))
    target_counts host address i r false handle o f h = given_counts i (entry.Refuse r _ ∷ []) host (tt, tt) h
    target_counts host address i r true None o f h = given_counts i (entry.Refuse r _ ∷ []) host (tt, tt) h
    target_counts host address i r true (Some x) None f h = given_counts i (entry.Refuse r _ ∷ []) host (tt, tt) h
    target_counts host address i r true (Some x) (Some s) f h =
        given_counts i [] (resets_target_by host address true (Some x) (Some s)).part tt
        (stays n g.accepts g.answers host.pool host.cmds host.accepted s (Open (request.TargetReset address)) (least_beside n g.accepts g.answers class.High host.pool s f) refl h)

    start_counts : (host : Host) (m : HostState) → HasTally n g host → CountsTo n g (by_option input.Start call.Start (inputs.starts_in host m))
    start_counts host state.Off h =
        given_counts input.Start [] (values.looks_to_start (record host { mode = state.Starting })) tt (begun n g.accepts g.answers (record host { mode = state.Starting }) stage.Start look_at_doorbell h)
    start_counts host state.Starting h = given_counts input.Start (entry.Refuse call.Start _ ∷ []) host (tt, tt) h
    start_counts host state.Up h = given_counts input.Start (entry.Refuse call.Start _ ∷ []) host (tt, tt) h
    start_counts host state.Resetting h = given_counts input.Start (entry.Refuse call.Start _ ∷ []) host (tt, tt) h

    reset_asked_counts : (host : Host) (m : HostState) → HasTally n g host → CountsTo n g (by_option input.Reset call.Reset (inputs.diag_resets_in host m))
    reset_asked_counts host state.Off h = given_counts input.Reset (entry.Refuse call.Reset _ ∷ []) host (tt, tt) h
    reset_asked_counts host state.Starting h =
        given_counts input.Reset [] (resets.with_reset_asked host stage.DiagnosticReset diagnostic_reset) tt (asked_reset n g.accepts g.answers host stage.DiagnosticReset diagnostic_reset h)
    reset_asked_counts host state.Up h =
        given_counts input.Reset [] (resets.with_reset_asked host stage.DiagnosticReset diagnostic_reset) tt (asked_reset n g.accepts g.answers host stage.DiagnosticReset diagnostic_reset h)
    reset_asked_counts host state.Resetting h = given_counts input.Reset (entry.Refuse call.Reset _ ∷ []) host (tt, tt) h

    unit_asked_counts : (host : Host) (m : HostState) → HasTally n g host → CountsTo n g (by_option input.UnitReset call.UnitReset (inputs.unit_resets_in host m))
    unit_asked_counts host state.Off h = given_counts input.UnitReset (entry.Refuse call.UnitReset _ ∷ []) host (tt, tt) h
    unit_asked_counts host state.Starting h = given_counts input.UnitReset (entry.Refuse call.UnitReset _ ∷ []) host (tt, tt) h
    unit_asked_counts host state.Up h =
        given_counts input.UnitReset [] (resets.with_reset_asked host stage.UnitReset unit_reset) tt (asked_reset n g.accepts g.answers host stage.UnitReset unit_reset h)
    unit_asked_counts host state.Resetting h = given_counts input.UnitReset (entry.Refuse call.UnitReset _ ∷ []) host (tt, tt) h

    told_counts : (host : Host) (i : Input) → HasTally n g host → CountsTo n g (host_told host i)
    told_counts host input.Start h = start_counts host host.mode h
    told_counts host (input.Submit k address form) h =
        submit_counts host k address (input.Submit k address form) (command_named form) (finset.contains host.accepted k) (is_up host.mode) (ready_handle host.phases address) (fits (command_named form)) (least_free class.ScsiIo host.pool) refl refl h
    told_counts host (input.Abort k) h =
        abort_counts host k (input.Abort k) (call.Abort k) (is_up host.mode) (finmap.get host.cmds k) (finmap.get host.aborts k) (least_free class.High host.pool) refl h
    told_counts host (input.TargetReset address) h =
        target_counts host address (input.TargetReset address) (call.TargetReset address) (is_up host.mode) (ready_handle host.phases address) (least_free class.High host.pool) refl h
    told_counts host input.Reset h = reset_asked_counts host host.mode h
    told_counts host input.UnitReset h = unit_asked_counts host host.mode h
    told_counts host (input.Plug address expander phy) h = record { passes = tt; tied = h }
    told_counts host (input.Unplug address) h = record { passes = tt; tied = h }

    -- ---- all cases of the host

    sent : (host : Host) (x : Down) (rest : List Down) → HasTally n g host → HasTally n g (returns.after_sent host x rest)
    sent host (down.Write reg value) rest h = h
    sent host (down.Read reg) rest h = h
    sent host (down.Post descriptor frame payload) rest h = h
    sent host (down.Return address index) rest h = h
    sent host down.Stop rest h = h

    put_counts : (host : Host) (items : List Down) → host.out ≡ items → HasTally n g host → CountsTo n g (puts_down host items)
    put_counts host [] e h = record { passes = tt; tied = h }
    put_counts host (x ∷ rest) e h =
        all_by n g (entry.Put lane.Down (item.Down x) ∷ []) (returns.down_sent host) (tt, tt) (subst (λ (items : List Down). HasTally n g (returns.sends_first host items)) (sym e) (sent host x rest h))

    look_counts : (host : Host) (b : Bool) → HasTally n g host → HasTally n g (looks_if b host)
    look_counts host true h = begun n g.accepts g.answers host stage.Look look_at_doorbell h
    look_counts host false h = h

    stop_counts : (host : Host) (b : Bool) → HasTally n g host → HasTally n g (stops_if b host)
    stop_counts host true h = h
    stop_counts host false h = h

    pub host_counts : (host : Host) (c : HostCase) → HasTally n g host → CountsTo n g (host_does host c)
    host_counts host (HostCase.Told i) h = told_counts host i h
    host_counts host HostCase.Puts h = put_counts host host.out refl h
    host_counts host (HostCase.Takes queue next) h = took_counts host queue next (why_strange host queue next) h
    host_counts host HostCase.Looks h = record { passes = tt; tied = look_counts host (is_free host) h }
    host_counts host HostCase.Stops h = record { passes = tt; tied = stop_counts host (is_free host) h }
    host_counts host (HostCase.TakesAsk submitter x) h = all_by n g (entry.Take (lane.Ask submitter) (item.Ask x) ∷ []) host (tt, tt) h
    host_counts host (HostCase.PutsTell submitter x) h = all_by n g (entry.Put (lane.Tell submitter) (item.Tell x) ∷ []) host (tt, tt) h
