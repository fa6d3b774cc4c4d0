-- Each case of the host keeps the holder of an identifier s of a SCSI IO, whatever the host takes.
use Rattle.std.proofs.Common.{◌≡◌, ℕ, ◌==◌, ◌≤◌, Bool, true, false, List, [], ◌∷◌, Option, Some, None, refl, ap, sym, subst, ◌∙◌, arith}
use Rattle.std.specs.FinMap as finmap
use Rattle.std.specs.FinSet as finset
use Rattle.std.proofs.lemmas.Bool.Decides.{nat_tests}
use Rattle.scsi_disk.specs.Command.{fits}
use Rattle.scsi_disk.specs.declared.command.Command.{Command}
use Rattle.mpi_doorbell.specs.HostSteps.{diagnostic_reset, look_at_doorbell, unit_reset}
use Rattle.mpt_trace.specs.Command.{command_named}
use Rattle.mpt_trace.specs.declared.entry.Entry.{Entry}
use Rattle.mpt_trace.specs.declared.entry.Entry.TheVariants as entry
use Rattle.mpt_trace.specs.declared.host_state.HostState.{HostState}
use Rattle.mpt_trace.specs.declared.host_state.HostState.TheVariants as state
use Rattle.mpt_trace.specs.declared.input.Input.{Input}
use Rattle.mpt_trace.specs.declared.input.Input.TheVariants as input
use Rattle.mpt_trace.specs.declared.item.Down.{Down}
use Rattle.mpt_trace.specs.declared.item.Down.TheVariants as down
use Rattle.mpt_trace.specs.declared.item.Item.TheVariants as item
use Rattle.mpt_trace.specs.declared.item.Up.{Up}
use Rattle.mpt_trace.specs.declared.lane.LaneName.TheVariants as lane
use Rattle.mpt_trace.specs.declared.refusal.Refusal.{Refusal}
use Rattle.mpt_trace.specs.declared.refusal.RefusedCall.TheVariants as call
use Rattle.mpt_wire.specs.Machine.Causes.{Abort, is_up}
use Rattle.mpt_wire.specs.Queues.LeastFree.{Holder, holder_next}
use Rattle.mpt_wire.specs.Walks.Ahead.{next_own}
use Rattle.mpt_wire.specs.Walks.Passes.{EachEntry}
use Rattle.removal.specs.Handles.{ready_handle}
use Rattle.smid_pool.specs.Pool.{least_free}
use Rattle.smid_pool.specs.declared.class.Class.TheVariants as class
use Rattle.mpt_rules.proofs.HostCalls.{aborts_by, resets_target_by, submits_by}
use Rattle.mpt_rules.specs.declared.request.Request.TheVariants as request
use Rattle.mpt_rules.specs.declared.stage.Stage.TheVariants as stage
use Rattle.mpt_rules.specs.declared.why.Why.{Why}
use Rattle.mpt_rules.specs.Host.Inputs as inputs
use Rattle.mpt_rules.specs.Host.Parts.{Cmd, Host}
use Rattle.mpt_rules.specs.Host.Resets as resets
use Rattle.mpt_rules.specs.Host.Returns as returns
use Rattle.mpt_rules.specs.Host.Strange.{why_strange}
use Rattle.mpt_rules.specs.Host.Takes.{hears_up, takes_unless}
use Rattle.mpt_rules.specs.Host.Values as values
use Rattle.mpt_rules.specs.Outcome.{Happening}
use Rattle.mpt_rules.specs.Session.OpenCases.{HostCase, host_does, puts_down}
use Rattle.mpt_rules.specs.World.Cases.{is_free, looks_if, stops_if}
use Rattle.mpt_rules.specs.World.Inputs.{by_option, by_result, host_told}
use Rattle.mpt_rules.specs.World.Moves.{told_of}
use Rattle.mpt_rules.specs.World.State.{up_lane}
use Rattle.law_flights.proofs.Least.{least_is}
use Rattle.law_parties.proofs.HostModes.{NoRefusal}
use Rattle.law_identifiers.proofs.Holders.{IsSilent, after_accept, after_granted, after_other_accept, after_refused, holder_by, stays}
use Rattle.law_identifiers.proofs.HeldSlots.{Holds, asked_reset, begun, free_high, posted, spares}
use Rattle.law_identifiers.proofs.HeldRequests.{accepts_other, accepts_this, asks_abort}
use Rattle.law_identifiers.proofs.HeldReplies.{Leads, silent_before, silently, up_leads}

module _ (s : ℕ) (few : s ≤ 256) (o : Option Holder) where
  -- where what comes later doesn't begin with a refusal of the host
  abbrev pub Follows : List Entry → Host → Type 0
  Follows es host = (later : List Entry) → NoRefusal later → Holds s few (holder_by s o es later) host

  abbrev pub FollowsTo : Happening Host → Type 0
  FollowsTo x = Follows x.entries x.part

  anyhow : (es : List Entry) (host : Host) → Leads s few o es host → Follows es host
  anyhow es host l later n = l later

  -- an input that is refused, or does what it is for without a word
  given : (i : Input) (t : List Entry) (host : Host) → IsSilent (entry.Given i) → EachEntry IsSilent t → Holds s few o host → Follows (entry.Given i ∷ t) host
  given i t host q b h = anyhow (entry.Given i ∷ t) host (silently s few o (entry.Given i ∷ t) host (q, b) h)

  -- ---- a submission

  accepted_leads : (host : Host) (k address : ℕ) (command : Command) (handle x : ℕ) → finset.contains host.accepted k ≡ false → least_free class.ScsiIo host.pool ≡ Some x → Holds s few o host
      → Leads s few o (entry.Accept k address x ∷ []) (inputs.with_accepted host k address command handle x)
  accepted_leads host k address command handle x new least h later = by_key (x == s) refl
    where
      by_key : (b : Bool) → (x == s) ≡ b → Holds s few (holder_next s o (entry.Accept k address x) (next_own (entry.Accept k address x) later)) (inputs.with_accepted host k address command handle x)
      by_key true e =
          subst (λ (w : Option Holder). Holds s few w (inputs.with_accepted host k address command handle x)) (sym (after_accept s o k address x (next_own (entry.Accept k address x) later) e))
          (accepts_this s few o host.pool host.cmds host.aborts host.accepted k x handle new least h e)
      by_key false e =
          subst (λ (w : Option Holder). Holds s few w (inputs.with_accepted host k address command handle x)) (sym (after_other_accept s o k address x (next_own (entry.Accept k address x) later) e))
          (accepts_other s few o host.pool host.cmds host.aborts host.accepted k x handle new least h e)

  submits_follow : (host : Host) (k address : ℕ) (i : Input) (command : Command) (used mode : Bool) (handle : Option ℕ) (fit : Bool) (w : Option ℕ) → IsSilent (entry.Given i) → finset.contains host.accepted k ≡ used → least_free class.ScsiIo host.pool ≡ w → Holds s few o host
      → FollowsTo (by_result i (entry.RefuseSubmit k) (submits_by host k address command used mode handle fit w))
  submits_follow host k address i command true mode handle fit w q e f h = given i (entry.RefuseSubmit k _ ∷ []) host q (tt, tt) h
  submits_follow host k address i command false false handle fit w q e f h = given i (entry.RefuseSubmit k _ ∷ []) host q (tt, tt) h
  submits_follow host k address i command false true None fit w q e f h = given i (entry.RefuseSubmit k _ ∷ []) host q (tt, tt) h
  submits_follow host k address i command false true (Some y) false w q e f h = given i (entry.RefuseSubmit k _ ∷ []) host q (tt, tt) h
  submits_follow host k address i command false true (Some y) true None q e f h = given i (entry.RefuseSubmit k _ ∷ []) host q (tt, tt) h
  submits_follow host k address i command false true (Some y) true (Some x) q e f h =
      anyhow (entry.Given i ∷ entry.Accept k address x ∷ []) (inputs.with_accepted host k address command y x)
      (silent_before s few o (entry.Given i) (entry.Accept k address x ∷ []) (inputs.with_accepted host k address command y x) q (accepted_leads host k address command y x e f h))

  -- ---- an abort

  abort_refused : (host : Host) (k : ℕ) (cause : Refusal) → Holds s few o host → Follows (entry.Given (input.Abort k) ∷ entry.Refuse (call.Abort k) cause ∷ []) host
  abort_refused host k cause h later n =
      let same : (k == k) ≡ true = grind (arith, nat_tests) in
      let first = after_refused s o k (Some (entry.Refuse (call.Abort k) cause)) same in
      subst (λ (w : Option Holder). Holds s few w host) (sym (ap (λ (w : Option Holder). holder_next s w (entry.Refuse (call.Abort k) cause) (next_own (entry.Refuse (call.Abort k) cause) later)) first ∙ stays s o (entry.Refuse (call.Abort k) cause) (next_own (entry.Refuse (call.Abort k) cause) later) tt)) h

  aborts_follow : (host : Host) (k : ℕ) (mode : Bool) (cmd : Option Cmd) (there w : Option ℕ) → finmap.get host.cmds k ≡ cmd → finmap.get host.aborts k ≡ there → least_free class.High host.pool ≡ w → Holds s few o host
      → FollowsTo (by_result (input.Abort k) (entry.Refuse (call.Abort k)) (aborts_by host k mode cmd there w))
  aborts_follow host k false cmd there w e a f h = abort_refused host k _ h
  aborts_follow host k true None there w e a f h = abort_refused host k _ h
  aborts_follow host k true (Some cmd) (Some y) w e a f h = abort_refused host k _ h
  aborts_follow host k true (Some cmd) None None e a f h = abort_refused host k _ h
  aborts_follow host k true (Some cmd) None (Some x) e a f h = λ later n.
      subst (λ (w : Option Holder). Holds s few w (inputs.with_abort_asked host k cmd x)) (sym (after_granted s o k (next_own (entry.Given (input.Abort k)) later) (n (Abort k))))
      (asks_abort s few o host.pool host.cmds host.aborts host.accepted k x cmd e a (free_high s few o host.pool x f) (least_is class.High host.pool x f).free h)

  -- ---- the others

  targets_follow : (host : Host) (address : ℕ) (mode : Bool) (handle w : Option ℕ) → least_free class.High host.pool ≡ w → Holds s few o host
      → FollowsTo (by_result (input.TargetReset address) (entry.Refuse (call.TargetReset address)) (resets_target_by host address mode handle w))
  targets_follow host address false handle w f h = given (input.TargetReset address) (entry.Refuse (call.TargetReset address) _ ∷ []) host tt (tt, tt) h
  targets_follow host address true None w f h = given (input.TargetReset address) (entry.Refuse (call.TargetReset address) _ ∷ []) host tt (tt, tt) h
  targets_follow host address true (Some y) None f h = given (input.TargetReset address) (entry.Refuse (call.TargetReset address) _ ∷ []) host tt (tt, tt) h
  targets_follow host address true (Some y) (Some x) f h =
      given (input.TargetReset address) [] (resets_target_by host address true (Some y) (Some x)).part tt tt
      (posted s few o host x (request.TargetReset address) refl (free_high s few o host.pool x f) (spares s few o host x h))

  start_follows : (host : Host) (m : HostState) → Holds s few o host → FollowsTo (by_option input.Start call.Start (inputs.starts_in host m))
  start_follows host state.Off h =
      given input.Start [] (values.looks_to_start (record host { mode = state.Starting })) tt tt (begun s few o (record host { mode = state.Starting }) stage.Start look_at_doorbell h)
  start_follows host state.Starting h = given input.Start (entry.Refuse call.Start _ ∷ []) host tt (tt, tt) h
  start_follows host state.Up h = given input.Start (entry.Refuse call.Start _ ∷ []) host tt (tt, tt) h
  start_follows host state.Resetting h = given input.Start (entry.Refuse call.Start _ ∷ []) host tt (tt, tt) h

  reset_follows : (host : Host) (m : HostState) → Holds s few o host → FollowsTo (by_option input.Reset call.Reset (inputs.diag_resets_in host m))
  reset_follows host state.Off h = given input.Reset (entry.Refuse call.Reset _ ∷ []) host tt (tt, tt) h
  reset_follows host state.Starting h =
      given input.Reset [] (resets.with_reset_asked host stage.DiagnosticReset diagnostic_reset) tt tt (asked_reset s few o host stage.DiagnosticReset diagnostic_reset h)
  reset_follows host state.Up h =
      given input.Reset [] (resets.with_reset_asked host stage.DiagnosticReset diagnostic_reset) tt tt (asked_reset s few o host stage.DiagnosticReset diagnostic_reset h)
  reset_follows host state.Resetting h = given input.Reset (entry.Refuse call.Reset _ ∷ []) host tt (tt, tt) h

  unit_follows : (host : Host) (m : HostState) → Holds s few o host → FollowsTo (by_option input.UnitReset call.UnitReset (inputs.unit_resets_in host m))
  unit_follows host state.Off h = given input.UnitReset (entry.Refuse call.UnitReset _ ∷ []) host tt (tt, tt) h
  unit_follows host state.Starting h = given input.UnitReset (entry.Refuse call.UnitReset _ ∷ []) host tt (tt, tt) h
  unit_follows host state.Up h =
      given input.UnitReset [] (resets.with_reset_asked host stage.UnitReset unit_reset) tt tt (asked_reset s few o host stage.UnitReset unit_reset h)
  unit_follows host state.Resetting h = given input.UnitReset (entry.Refuse call.UnitReset _ ∷ []) host tt (tt, tt) h

  told_follows : (host : Host) (i : Input) → Holds s few o host → FollowsTo (host_told host i)
  told_follows host input.Start h = start_follows host host.mode h
  told_follows host (input.Submit k address form) h =
      submits_follow host k address (input.Submit k address form) (command_named form) (finset.contains host.accepted k) (is_up host.mode) (ready_handle host.phases address) (fits (command_named form)) (least_free class.ScsiIo host.pool) tt refl refl h
  told_follows host (input.Abort k) h =
      aborts_follow host k (is_up host.mode) (finmap.get host.cmds k) (finmap.get host.aborts k) (least_free class.High host.pool) refl refl refl h
  told_follows host (input.TargetReset address) h =
      targets_follow host address (is_up host.mode) (ready_handle host.phases address) (least_free class.High host.pool) refl h
  told_follows host input.Reset h = reset_follows host host.mode h
  told_follows host input.UnitReset h = unit_follows host host.mode h
  told_follows host (input.Plug address expander phy) h = λ later n. h
  told_follows host (input.Unplug address) h = λ later n. h

  -- ---- all cases of the host

  took_follows : (host : Host) (queue : ℕ) (next : Up) (why : Option Why) → Holds s few o host
      → Follows (entry.Take (up_lane queue) (item.Up next) ∷ told_of (takes_unless host queue next why).answer (takes_unless host queue next why).told) (takes_unless host queue next why).part
  took_follows host queue next None h =
      anyhow (entry.Take (up_lane queue) (item.Up next) ∷ (hears_up host queue next).entries) (hears_up host queue next).part
      (silent_before s few o (entry.Take (up_lane queue) (item.Up next)) (hears_up host queue next).entries (hears_up host queue next).part tt (up_leads s few o host queue next h))
  took_follows host queue next (Some why) h = anyhow (entry.Take (up_lane queue) (item.Up next) ∷ []) host (silently s few o (entry.Take (up_lane queue) (item.Up next) ∷ []) host (tt, tt) h)

  sent : (host : Host) (x : Down) (rest : List Down) → Holds s few o host → Holds s few o (returns.after_sent host x rest)
  sent host (down.Write reg value) rest h = h
  sent host (down.Read reg) rest h = h
  sent host (down.Post descriptor frame payload) rest h = h
  sent host (down.Return address index) rest h = h
  sent host down.Stop rest h = h

  put_follows : (host : Host) (items : List Down) → host.out ≡ items → Holds s few o host → FollowsTo (puts_down host items)
  put_follows host [] e h = λ later n. h
  put_follows host (x ∷ rest) e h =
      anyhow (entry.Put lane.Down (item.Down x) ∷ []) (returns.down_sent host)
      (silently s few o (entry.Put lane.Down (item.Down x) ∷ []) (returns.down_sent host) (tt, tt) (subst (λ (items : List Down). Holds s few o (returns.sends_first host items)) (sym e) (sent host x rest h)))

  look_holds : (host : Host) (b : Bool) → Holds s few o host → Holds s few o (looks_if b host)
  look_holds host true h = begun s few o host stage.Look look_at_doorbell h
  look_holds host false h = h

  stop_holds : (host : Host) (b : Bool) → Holds s few o host → Holds s few o (stops_if b host)
  stop_holds host true h = h
  stop_holds host false h = h

  pub host_follows : (host : Host) (c : HostCase) → Holds s few o host → FollowsTo (host_does host c)
  host_follows host (HostCase.Told i) h = told_follows host i h
  host_follows host HostCase.Puts h = put_follows host host.out refl h
  host_follows host (HostCase.Takes queue next) h = took_follows host queue next (why_strange host queue next) h
  host_follows host HostCase.Looks h = λ later n. look_holds host (is_free host) h
  host_follows host HostCase.Stops h = λ later n. stop_holds host (is_free host) h
  host_follows host (HostCase.TakesAsk submitter x) h =
      anyhow (entry.Take (lane.Ask submitter) (item.Ask x) ∷ []) host (silently s few o (entry.Take (lane.Ask submitter) (item.Ask x) ∷ []) host (tt, tt) h)
  host_follows host (HostCase.PutsTell submitter x) h =
      anyhow (entry.Put (lane.Tell submitter) (item.Tell x) ∷ []) host (silently s few o (entry.Put (lane.Tell submitter) (item.Tell x) ∷ []) host (tt, tt) h)
