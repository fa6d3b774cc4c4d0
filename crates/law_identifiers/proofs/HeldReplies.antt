-- What the host tells of an item that it takes keeps the holder of an identifier s of a SCSI IO.
use Rattle.std.proofs.Common.{◌≡◌, ℕ, ◌≤◌, ◌&&◌, Bool, true, false, if◌then◌else◌, List, [], ◌∷◌, ◌++◌, map, filter_map, slice_set, take, Option, Some, None, refl, ap, sym, subst, ◌∙◌, arith}
use Rattle.std.specs.FinMap as finmap
use Rattle.mpi_doorbell.specs.HostDoor.{HostDoor}
use Rattle.mpi_doorbell.specs.declared.step.DoorStep.{DoorStep}
use Rattle.mpi_doorbell.specs.declared.step.DoorStep.TheVariants as step
use Rattle.mpt_messages.specs.declared.host_ask.HostAsk.TheVariants as ask
use Rattle.mpt_trace.specs.declared.entry.Entry.{Entry}
use Rattle.mpt_trace.specs.declared.entry.Entry.TheVariants as entry
use Rattle.mpt_trace.specs.declared.host_state.HostState.TheVariants as state
use Rattle.mpt_trace.specs.declared.item.Up.{Up}
use Rattle.mpt_trace.specs.declared.item.Up.TheVariants as up
use Rattle.mpt_trace.specs.declared.outcome.Outcome.{Outcome as Ending}
use Rattle.mpt_wire.specs.Machine.Causes.{is_resetting}
use Rattle.mpt_wire.specs.Messages.Fields.{Change, changes_in, event_context_in, event_in, frame_address_in, smid_in}
use Rattle.mpt_wire.specs.Queues.LeastFree.{Holder, holder_next}
use Rattle.mpt_wire.specs.Walks.Ahead.{next_own}
use Rattle.mpt_wire.specs.Walks.Passes.{EachEntry}
use Rattle.mpt_wire.proofs.Passing.{each_append}
use Rattle.removal.specs.Handles.{phase_at}
use Rattle.removal.specs.Phases.{after_page, after_removed, after_task_done}
use Rattle.removal.specs.declared.phase.Phase.{Phase}
use Rattle.removal.specs.declared.phase.Phase.TheVariants as phase
use Rattle.smid_pool.specs.Pool.{Free, Open, Parked, Slot, record_of, slot_of}
use Rattle.mpt_rules.specs.declared.request.Request.{Request}
use Rattle.mpt_rules.specs.declared.request.Request.TheVariants as request
use Rattle.mpt_rules.specs.declared.stage.Stage.{Stage}
use Rattle.mpt_rules.specs.declared.stage.Stage.TheVariants as stage
use Rattle.mpt_rules.specs.Host.Doorbell as door
use Rattle.mpt_rules.specs.Host.Parts.{Host, host_queue_count}
use Rattle.mpt_rules.specs.Host.Posts as asks
use Rattle.mpt_rules.specs.Host.Removal as removal
use Rattle.mpt_rules.specs.Host.Replies as replies
use Rattle.mpt_rules.specs.Host.Replies.{Heard}
use Rattle.mpt_rules.specs.Host.Resets as resets
use Rattle.mpt_rules.specs.Host.Returns as returns
use Rattle.mpt_rules.specs.Host.Takes.{hears_up}
use Rattle.mpt_rules.specs.Host.Values as values
use Rattle.mpt_rules.specs.Outcome.{Happening}
use Rattle.law_identifiers.proofs.Holders.{IsSilent, after_abort, after_answer, after_reset, closed, ended, holder_by, is_command, stays, unnamed}
use Rattle.law_identifiers.proofs.HeldSlots.{Holds, IsBeside, all_changed, asked_internal, beside_open, begun_handshake, begun_late, begun_messages, freed, freed_high, freed_internal, spares, started_by, turned}
use Rattle.law_identifiers.proofs.HeldRequests.{answered, ended_open, ended_parked, ending_beside, parked_beside, renewed}

module _ (s : ℕ) (few : s ≤ 256) where
  -- whatever comes later, the holder behind these entries goes with the host
  abbrev pub Leads : Option Holder → List Entry → Host → Type 0
  Leads o es host = (later : List Entry) → Holds s few (holder_by s o es later) host

  abbrev pub LeadsTo : Option Holder → Happening Host → Type 0
  LeadsTo o x = Leads o x.entries x.part

  -- ---- entries that say nothing of holders

  quiet : (o : Option Holder) (es later : List Entry) → EachEntry IsSilent es → holder_by s o es later ≡ o
  quiet o [] later q = refl
  quiet o (e ∷ es) later q = ap (λ (w : Option Holder). holder_by s w es later) (stays s o e (next_own e (es ++ later)) q.0) ∙ quiet o es later q.1

  pub silently : (o : Option Holder) (es : List Entry) (host : Host) → EachEntry IsSilent es → Holds s few o host → Leads o es host
  silently o es host q h later = subst (λ (w : Option Holder). Holds s few w host) (sym (quiet o es later q)) h

  pub silent_before : (o : Option Holder) (e : Entry) (es : List Entry) (host : Host) → IsSilent e → Leads o es host → Leads o (e ∷ es) host
  silent_before o e es host q l later = subst (λ (w : Option Holder). Holds s few (holder_by s w es later) host) (sym (stays s o e (next_own e (es ++ later)) q)) (l later)

  module _ (o : Option Holder) where
    quietly_leads : (host : Host) → Holds s few o host → LeadsTo o (removal.quietly host)
    quietly_leads host h later = h

    -- ---- replies

    beside : (host : Host) (x : ℕ) (r : Request) → slot_of host.pool x ≡ Open r → is_command (Open r) ≡ false → Holds s few o host → IsBeside s few host.pool x
    beside host x r e other h = beside_open s few o host.cmds host.aborts host.accepted 0 host.pool x r e other h

    unless_leads : (host : Host) (x : ℕ) (c : Happening Host) → IsBeside s few host.pool x → Holds s few o host → LeadsTo o c → LeadsTo o (replies.unless_resetting host x c)
    unless_leads host x c b h l = by_mode (is_resetting host.mode)
      where
        by_mode : (m : Bool) → LeadsTo o (if m then removal.quietly (asks.frees host x) else c)
        by_mode true = quietly_leads (asks.frees host x) (freed s few o host x b (spares s few o host x h))
        by_mode false = l

    command_leads : (host : Host) (x n : ℕ) (how : Ending) → slot_of host.pool x ≡ Open (request.Command n) → Holds s few o host → LeadsTo o (replies.host_answers host x n how)
    command_leads host x n how e h later =
        subst (λ (w : Option Holder). Holds s few w (replies.host_answers host x n how).part) (sym (after_answer s o n how (next_own (entry.Answer n how) later)))
        (answered s few o host.pool host.cmds host.aborts host.accepted x n e h)

    abort_leads : (host : Host) (x n task : ℕ) (frame : List ℕ) → slot_of host.pool x ≡ Open (request.Abort n task) → Holds s few o host → LeadsTo o (replies.host_ends_abort host x n task frame)
    abort_leads host x n task frame e h later =
        subst (λ (w : Option Holder). Holds s few w (replies.host_ends_abort host x n task frame).part) (sym (after_abort s o n (replies.abort_outcome frame) (next_own (entry.AbortEnd n (replies.abort_outcome frame)) later)))
        (by_slot (slot_of host.pool task) refl)
      where
        closing : Host
        closing = record host { aborts = finmap.remove host.aborts n }

        by_slot : (y : Slot Request) → slot_of host.pool task ≡ y → Holds s few (unnamed n o) (asks.frees_high (replies.unparks (record host { aborts = finmap.remove host.aborts n }) task y) x)
        by_slot Parked y =
            freed_high s few (unnamed n o) (asks.frees (record host { aborts = finmap.remove host.aborts n }) task) x
            (parked_beside s few o host.pool host.cmds host.aborts host.accepted x n task e h y) (ended_parked s few o host.pool host.cmds host.aborts host.accepted x n task e h y)
        by_slot Free y =
            freed_high s few (unnamed n o) (record host { aborts = finmap.remove host.aborts n }) x
            (ending_beside s few o host.pool host.cmds host.aborts host.accepted x n task e h) (ended_open s few o host.pool host.cmds host.aborts host.accepted x n task e h (λ p. let q : Free ≡ Parked = sym y ∙ p in cc))
        by_slot (Open r) y =
            freed_high s few (unnamed n o) (record host { aborts = finmap.remove host.aborts n }) x
            (ending_beside s few o host.pool host.cmds host.aborts host.accepted x n task e h) (ended_open s few o host.pool host.cmds host.aborts host.accepted x n task e h (λ p. let q : Open r ≡ Parked = sym y ∙ p in cc))

    left_holds : (host : Host) (x handle : ℕ) → IsBeside s few host.pool x → Holds s few o host → Holds s few o (removal.left host x handle)
    left_holds host x handle b h = by_phase (removal.is_reset_under x (phase_at host.phases handle))
      where
        by_phase : (c : Bool) → Holds s few o (if c then asks.asks_internal (asks.frees_high (removal.with_phase_of host handle (after_task_done (phase_at host.phases handle) x)) x) (request.Remove handle) else asks.frees_high (removal.with_phase_of host handle (after_task_done (phase_at host.phases handle) x)) x)
        by_phase true =
            let phased : Host = removal.with_phase_of host handle (after_task_done (phase_at host.phases handle) x) in
            asked_internal s few o (asks.frees_high phased x) (request.Remove handle) (freed_high s few o phased x b (spares s few o phased x h))
        by_phase false =
            let phased : Host = removal.with_phase_of host handle (after_task_done (phase_at host.phases handle) x) in
            freed_high s few o phased x b (spares s few o phased x h)

    ready_silent : (handle x : ℕ) (p : Phase) (page : Option ℕ) → EachEntry IsSilent (removal.ready_told handle x p page)
    ready_silent handle x p page = grind arith

    answer_leads : (host : Host) (x : ℕ) (r : Request) (v : Heard) → slot_of host.pool x ≡ Open r → Holds s few o host → LeadsTo o (replies.hears_answer host x r v)
    answer_leads host x (request.Command k) v e h = command_leads host x k (replies.ended v.frame v.page v.sense) e h
    answer_leads host x (request.Abort k task) v e h = abort_leads host x k task (replies.reply_bytes v) e h
    answer_leads host x (request.TargetReset address) v e h =
        silently o (replies.ends_target host x address (replies.reply_bytes v)).entries (asks.frees_high host x) (tt, tt) (freed_high s few o host x (beside host x (request.TargetReset address) e refl h) (spares s few o host x h))
    answer_leads host x (request.Leave handle) v e h =
        let b = beside host x (request.Leave handle) e refl h in
        unless_leads host x (removal.quietly (removal.left host x handle)) b h (quietly_leads (removal.left host x handle) (left_holds host x handle b h))
    answer_leads host x (request.Page handle) v e h =
        let b = beside host x (request.Page handle) e refl h in
        let read : Option ℕ = replies.address_read (replies.reply_bytes v) v.page in
        let phased : Host = removal.with_phase_of host handle (after_page (phase_at host.phases handle) x read) in
        unless_leads host x (removal.reads_page host x handle read) b h
        (silently o (removal.ready_told handle x (phase_at host.phases handle) read) (asks.frees_internal phased x) (ready_silent handle x (phase_at host.phases handle) read) (freed_internal s few o phased x b h))
    answer_leads host x (request.Remove handle) v e h =
        let b = beside host x (request.Remove handle) e refl h in
        let phased : Host = removal.with_phase_of host handle (after_removed (phase_at host.phases handle) x) in
        unless_leads host x (removal.quietly (removal.removed host x handle)) b h (quietly_leads (removal.removed host x handle) (freed_internal s few o phased x b h))
    answer_leads host x (request.Ack event context) v e h =
        let b = beside host x (request.Ack event context) e refl h in
        unless_leads host x (removal.quietly (asks.frees_internal host x)) b h (quietly_leads (asks.frees_internal host x) (freed_internal s few o host x b h))
    answer_leads host x request.Notification v e h =
        let b = beside host x request.Notification e refl h in
        unless_leads host x (removal.quietly (replies.hears_notified host x)) b h
        (quietly_leads (replies.hears_notified host x) (asked_internal s few o (asks.frees_internal host x) request.PortEnable (freed_internal s few o host x b h)))
    answer_leads host x request.PortEnable v e h =
        let b = beside host x request.PortEnable e refl h in
        unless_leads host x (replies.after_port_enable host x) b h
        (silently o (entry.HostUp ∷ []) (record (asks.frees_internal host x) { mode = state.Up }) (tt, tt) (freed_internal s few o host x b h))

    -- ---- events

    loses_silent : (host : Host) (handle : ℕ) (p : Phase) → EachEntry IsSilent (removal.after_handle_lost host handle p).entries
    loses_silent host handle phase.WaitRead = tt
    loses_silent host handle (phase.Reading smid) = tt
    loses_silent host handle (phase.Ready address) = (tt, tt)
    loses_silent host handle phase.Absent = tt
    loses_silent host handle phase.WaitHigh = tt
    loses_silent host handle (phase.Resetting smid) = tt
    loses_silent host handle phase.WaitInternal = tt
    loses_silent host handle (phase.Removing smid) = tt

    change_silent : (host : Host) (c : Change) → EachEntry IsSilent (removal.hears_change host c).entries
    change_silent host c = let l = loses_silent host c.handle (phase_at host.phases c.handle) in grind (arith, l)

    changes_silent : (host : Host) (cs : List Change) → EachEntry IsSilent (removal.hears_changes host cs).entries
    unfolding removal.hears_changes
    changes_silent host [] = tt
    changes_silent host (c ∷ cs) = each_append IsSilent _ _ (change_silent host c) (changes_silent (removal.hears_change host c).part cs)

    event_leads : (host : Host) (frame : List ℕ) → Holds s few o host → LeadsTo o (removal.hears_event host frame)
    event_leads host frame h =
        let ack : Request = request.Ack (event_in frame) (event_context_in frame) in
        let after : Host = asks.asks_internal host ack in
        silently o (removal.hears_changes after (changes_in frame)).entries (removal.hears_changes after (changes_in frame)).part (changes_silent after (changes_in frame))
        (all_changed s few o after (changes_in frame) (asked_internal s few o host ack h))

    none_leads : (host : Host) (x : ℕ) (v : Heard) → Holds s few o host → LeadsTo o (replies.hears_reply_to host x None v)
    none_leads host x v h = by_mode (is_resetting host.mode)
      where
        by_mode : (b : Bool) → LeadsTo o (if b then removal.quietly host else removal.hears_event host (replies.reply_bytes v))
        by_mode true = quietly_leads host h
        by_mode false = event_leads host (replies.reply_bytes v) h

    -- ---- a reply

    slot_leads : (host : Host) (x : ℕ) (slot : Slot Request) (v : Heard) → slot_of host.pool x ≡ slot → Holds s few o host → LeadsTo o (replies.hears_reply_to host x (record_of slot) v)
    slot_leads host x (Open r) v e h = answer_leads host x r v e h
    slot_leads host x Free v e h = none_leads host x v h
    slot_leads host x Parked v e h = none_leads host x v h

    framed : (host : Host) (d : ℕ) (f : Option (List ℕ)) → Holds s few o host → Holds s few o (replies.with_frame_heard host d f) × ((replies.with_frame_heard host d f).pool ≡ host.pool)
    framed host d None h = (h, refl)
    framed host d (Some frame) h = by_returning host.returning
      where
        by_returning : (c : Bool) → Holds s few o (if c then returns.with_return host (returns.frame_of (frame_address_in d)) else returns.keeps host (returns.frame_of (frame_address_in d)))
            × ((if c then returns.with_return host (returns.frame_of (frame_address_in d)) else returns.keeps host (returns.frame_of (frame_address_in d))).pool ≡ host.pool)
        by_returning true = (h, refl)
        by_returning false = (h, refl)

    reply_leads : (host : Host) (queue d : ℕ) (f : Option (List ℕ)) (page sense : List ℕ) → Holds s few o host → LeadsTo o (replies.hears_reply host queue (replies.heard_of d f page sense))
    reply_leads host queue d f page sense h =
        let x = framed host d f h in
        slot_leads (replies.takes_entry (replies.with_frame_heard host d f) queue) (smid_in d) (slot_of host.pool (smid_in d)) (replies.heard_of d f page sense)
        (ap (λ (pool : List (Slot Request)). slot_of pool (smid_in d)) x.1) x.0

  -- ---- the end of a reset

  -- these entries end what is held
  abbrev Ends : List Entry → Type 0
  Ends es = (o : Option Holder) (later : List Entry) → holder_by s o es later ≡ ended o

  ended_closed : (o : Option Holder) (n : ℕ) → ended (closed n o) ≡ ended o
  ended_closed None n = refl
  ended_closed (Some h) n = refl

  ended_unnamed : (o : Option Holder) (n : ℕ) → ended (unnamed n o) ≡ ended o
  ended_unnamed None n = refl
  ended_unnamed (Some h) n = refl

  answers_end : (ns : List ℕ) (es : List Entry) → Ends es → Ends (map resets.reset_answer ns ++ es)
  answers_end [] es f = f
  answers_end (n ∷ ns) es f = λ o later.
      answers_end ns es f (holder_next s o (resets.reset_answer n) (next_own (resets.reset_answer n) ((map resets.reset_answer ns ++ es) ++ later))) later
      ∙ (ap ended (after_answer s o n _ (next_own (resets.reset_answer n) ((map resets.reset_answer ns ++ es) ++ later))) ∙ ended_closed o n)

  aborts_end : (ns : List ℕ) (es : List Entry) → Ends es → Ends (map resets.reset_abort ns ++ es)
  aborts_end [] es f = f
  aborts_end (n ∷ ns) es f = λ o later.
      aborts_end ns es f (holder_next s o (resets.reset_abort n) (next_own (resets.reset_abort n) ((map resets.reset_abort ns ++ es) ++ later))) later
      ∙ (ap ended (after_abort s o n _ (next_own (resets.reset_abort n) ((map resets.reset_abort ns ++ es) ++ later))) ∙ ended_unnamed o n)

  silent_end : (es t : List Entry) → EachEntry IsSilent t → Ends es → Ends (t ++ es)
  silent_end es [] q f = f
  silent_end es (e ∷ t) q f = λ o later. silent_end es t q.1 f (holder_next s o e (next_own e ((t ++ es) ++ later))) later ∙ ap ended (stays s o e (next_own e ((t ++ es) ++ later)) q.0)

  targets_silent : (xs : List (Slot Request)) → EachEntry IsSilent (filter_map resets.reset_target xs)
  targets_silent [] = tt
  targets_silent (Free ∷ xs) = targets_silent xs
  targets_silent (Parked ∷ xs) = targets_silent xs
  targets_silent (Open (request.TargetReset address) ∷ xs) = (tt, targets_silent xs)
  targets_silent (Open (request.Command k) ∷ xs) = targets_silent xs
  targets_silent (Open (request.Abort k task) ∷ xs) = targets_silent xs
  targets_silent (Open (request.Leave handle) ∷ xs) = targets_silent xs
  targets_silent (Open (request.Page handle) ∷ xs) = targets_silent xs
  targets_silent (Open (request.Remove handle) ∷ xs) = targets_silent xs
  targets_silent (Open (request.Ack event context) ∷ xs) = targets_silent xs
  targets_silent (Open request.Notification ∷ xs) = targets_silent xs
  targets_silent (Open request.PortEnable ∷ xs) = targets_silent xs

  reset_ends : (host : Host) → Ends (resets.reset_told host)
  reset_ends host =
      answers_end (finmap.keys host.cmds) _ (aborts_end (finmap.keys host.aborts) _ (silent_end (entry.ResetDone ∷ []) (filter_map resets.reset_target host.pool) (targets_silent host.pool) (λ o later. after_reset s o (next_own entry.ResetDone later))))

  module _ (o : Option Holder) where
    reset_leads : (host : Host) → Holds s few o host → LeadsTo o (resets.ends_reset host)
    reset_leads host h later =
        subst (λ (w : Option Holder). Holds s few w (door.begins_facts (resets.renewed host))) (sym (reset_ends host o later))
        (begun_handshake s few (ended o) (resets.renewed host) stage.Facts ask.Facts (renewed s few o host.cmds host.aborts host.accepted h.stands))

    over_leads : (host : Host) → Holds s few o host → LeadsTo o (resets.ends_reset_if_over host)
    over_leads host h = by_end (host.door_ready && resets.has_all_marks host)
      where
        by_end : (b : Bool) → LeadsTo o (if b then resets.ends_reset host else record { part = host; entries = [] })
        by_end true = reset_leads host h
        by_end false = λ later. h

    -- ---- values

    stage_leads : (host : Host) (x : Stage) (bytes : List ℕ) → Holds s few o host → LeadsTo o (values.ends_stage host x bytes)
    stage_leads host stage.Idle bytes h = quietly_leads o host h
    stage_leads host stage.Start bytes h = quietly_leads o (values.starts_by host (values.state_read bytes)) (started_by s few o host (values.state_read bytes) h)
    stage_leads host stage.StartReset bytes h = quietly_leads o (door.begins_facts host) (begun_handshake s few o host stage.Facts ask.Facts h)
    stage_leads host stage.Facts bytes h = quietly_leads o (door.begins_port_facts host) (begun_handshake s few o host stage.PortFacts ask.PortFacts h)
    stage_leads host stage.PortFacts bytes h = quietly_leads o (door.begins_init host) (begun_handshake s few o host stage.Init (ask.Init (host_queue_count host)) h)
    stage_leads host stage.Init bytes h = quietly_leads o (values.begins_messages host) (begun_messages s few o host h)
    stage_leads host stage.Look bytes h = quietly_leads o host h
    stage_leads host stage.DiagnosticReset bytes h = over_leads (record host { door_ready = true }) h
    stage_leads host stage.UnitReset bytes h = over_leads (record host { door_ready = true }) h

    turn_leads : (host : Host) (x : Stage) (d : DoorStep) → Holds s few o host → LeadsTo o (values.after_turn host x d)
    turn_leads host x (step.Done count bytes) h = stage_leads host x (take count bytes) h
    turn_leads host x (step.Read reg) h = quietly_leads o host h
    turn_leads host x (step.Write reg value) h = quietly_leads o host h
    turn_leads host x (step.Refused at value) h = quietly_leads o host h

    value_leads : (host : Host) (d : Option HostDoor) (value : ℕ) → Holds s few o host → LeadsTo o (values.hears_value_at host d value)
    value_leads host None value h = quietly_leads o (resets.begins_late host host.stage) (begun_late s few o host host.stage h)
    value_leads host (Some d) value h =
        let t : door.DoorTurn = door.next_turn d (Some value) in
        turn_leads (door.puts_turn host t) host.stage t.step (turned s few o host t h)

    pub up_leads : (host : Host) (queue : ℕ) (next : Up) → Holds s few o host → LeadsTo o (hears_up host queue next)
    up_leads host queue (up.Value value) h = value_leads (record host { reading = false }) host.machine value h
    up_leads host queue (up.Reply d f page sense) h = reply_leads o host queue d f page sense h
    up_leads host queue (up.Mark generation) h = over_leads (record host { marks = slice_set host.marks queue true }) h
    up_leads host queue up.Calm h = quietly_leads o host h
