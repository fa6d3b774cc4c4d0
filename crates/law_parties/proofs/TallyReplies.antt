-- What the host tells of a reply keeps the tally of a number.
use Rattle.std.proofs.Common.{◌≡◌, ℕ, ◌+◌, ◌-◌, ◌≤◌, ◌==◌, Bool, true, false, cond, if◌then◌else◌, List, [], ◌∷◌, set, Option, Some, None, is_some, refl, ap, ◌∙◌, arith, length-set}
use Rattle.std.specs.FinMap as finmap
use Rattle.std.specs.Ordering.{eq_by_cmp, nat_cmp}
use Rattle.std.proofs.lemmas.Cmp.{nat_cmp_total}
use Rattle.mpt_trace.specs.declared.entry.Entry.TheVariants as entry
use Rattle.mpt_trace.specs.declared.host_state.HostState.TheVariants as state
use Rattle.mpt_trace.specs.declared.outcome.Outcome.{Outcome as Ending}
use Rattle.mpt_wire.specs.Machine.Causes.{is_resetting}
use Rattle.mpt_wire.specs.Messages.Fields.{Change, changes_in, event_context_in, event_in, frame_address_in, smid_in}
use Rattle.mpt_wire.specs.Walks.Passes.{EachEntry}
use Rattle.removal.specs.Handles.{phase_at}
use Rattle.removal.specs.Phases.{after_page, after_removed, after_task_done}
use Rattle.removal.specs.declared.phase.Phase.{Phase}
use Rattle.removal.specs.declared.phase.Phase.TheVariants as phase
use Rattle.smid_pool.specs.Pool.{Free, Open, Parked, Slot, record_of, slot_of}
use Rattle.mpt_rules.specs.declared.request.Request.{Request}
use Rattle.mpt_rules.specs.declared.request.Request.TheVariants as request
use Rattle.mpt_rules.specs.Host.Parts.{Cmd, Host}
use Rattle.mpt_rules.specs.Host.Posts as asks
use Rattle.mpt_rules.specs.Host.Removal as removal
use Rattle.mpt_rules.specs.Host.Replies as replies
use Rattle.mpt_rules.specs.Host.Replies.{Heard}
use Rattle.mpt_rules.specs.Host.Returns as returns
use Rattle.mpt_rules.specs.Outcome.{Happening}
use Rattle.mpt_rules.specs.World.Counts.{one_if}
use Rattle.law_flights.proofs.HostHolds.{in_table}
use Rattle.law_parties.proofs.Numbers.{IsBeside, KeepsNumber, all_changed, asked_internal, beside_after, freed, freed_high, freed_internal, is_for, slots_for, written}
use Rattle.law_parties.proofs.Tallies.{Counts, HasTally, IsBy, Tally, all_by, by_append}

module _ (n : ℕ) where
  -- ---- replies

  module _ (g : Tally) where
    abbrev pub CountsTo : Happening Host → Type 0
    CountsTo o = Counts n g o.entries o.part

    pub quietly_counts : (host : Host) → HasTally n g host → CountsTo (removal.quietly host)
    quietly_counts host h = record { passes = tt; tied = h }

    -- an open identifier of another request
    beside_open : (host : Host) (s : ℕ) (r : Request) → slot_of host.pool s ≡ Open r → is_for n (Open r) ≡ false → HasTally n g host → IsBeside n host.pool s
    beside_open host s r e none h =
        let t = h.table in
        let p = in_table host.pool s (Open r) e (λ x. cc) in
        let l = p.0 in
        let i = p.1 in
        record { least = l; most = omega (arith, l, i, t); other = ap (is_for n) e ∙ none }

    unless_counts : (host : Host) (s : ℕ) (o : Happening Host) → IsBeside n host.pool s → HasTally n g host → CountsTo o → CountsTo (replies.unless_resetting host s o)
    unless_counts host s o x h c = by_mode (is_resetting host.mode)
      where
        by_mode : (b : Bool) → CountsTo (if b then removal.quietly (asks.frees host s) else o)
        by_mode true = quietly_counts (asks.frees host s) (freed n g.accepts g.answers host s x h)
        by_mode false = c

    -- a command
    answered : (host : Host) (s k : ℕ) (how : Ending) → slot_of host.pool s ≡ Open (request.Command k) → HasTally n g host → CountsTo (replies.host_answers host s k how)
    answered host s k how e h =
        let t = h.table in
        let p = in_table host.pool s (Open (request.Command k)) e (λ x. cc) in
        let w = written n host.pool s (replies.slot_after (finmap.get host.aborts k)) p.0 p.1 in
        let x : one_if (is_for n (slot_of host.pool s)) ≡ one_if (k == n) = ap (λ (slot : Slot Request). one_if (is_for n slot)) e in
        let z : one_if (is_for n (replies.slot_after (finmap.get host.aborts k))) ≡ 0 = by_abort (finmap.get host.aborts k) in
        let r = finmap.get-remove nat_cmp_total host.cmds k n in
        let same : (eq_by_cmp nat_cmp n k) ≡ (k == n) = grind arith in
        let is : finmap.get (finmap.remove host.cmds k) n ≡ cond (k == n) None (finmap.get host.cmds n) = r ∙ ap (λ (b : Bool). cond b None (finmap.get host.cmds n)) same in
        record {
          passes = (tt, tt);
          tied = by_key (k == n) (one_if (k == n)) refl refl (w ∙ ap (λ (m : ℕ). slots_for n host.pool + m) z) x is;
        }
      where
        by_abort : (o : Option ℕ) → one_if (is_for n (replies.slot_after o)) ≡ 0
        by_abort None = refl
        by_abort (Some abort) = refl

        after : List (Slot Request)
        after = set host.pool (s - 1) (replies.slot_after (finmap.get host.aborts k))

        by_key : (b : Bool) (m : ℕ) → m ≡ one_if b → m ≡ one_if (k == n) → slots_for n after + one_if (is_for n (slot_of host.pool s)) ≡ slots_for n host.pool + 0 → one_if (is_for n (slot_of host.pool s)) ≡ one_if (k == n)
            → finmap.get (finmap.remove host.cmds k) n ≡ cond b None (finmap.get host.cmds n) → KeepsNumber n g.accepts (g.answers + one_if (k == n)) after (finmap.remove host.cmds k) host.accepted
        by_key true m f f2 w x is =
            let held = h.held in
            let a = h.answers in
            let few : one_if (is_some (finmap.get host.cmds n)) ≤ 1 = at_most_one (is_some (finmap.get host.cmds n)) in
            let gone : one_if (is_some (finmap.get (finmap.remove host.cmds k) n)) ≡ 0 = ap (λ (o : Option Cmd). one_if (is_some o)) is in
            record {
              table = length-set host.pool (s - 1) (replies.slot_after (finmap.get host.aborts k)) ∙ h.table;
              held = omega (arith, held, few, gone, w, x, f, f2);
              accepts = h.accepts;
              answers = omega (arith, held, a, few, gone, w, x, f, f2);
            }
          where
            at_most_one : (c : Bool) → one_if c ≤ 1
            at_most_one true = omega arith
            at_most_one false = omega arith
        by_key false m f f2 w x is =
            let held = h.held in
            let a = h.answers in
            let kept : one_if (is_some (finmap.get (finmap.remove host.cmds k) n)) ≡ one_if (is_some (finmap.get host.cmds n)) = ap (λ (o : Option Cmd). one_if (is_some o)) is in
            record {
              table = length-set host.pool (s - 1) (replies.slot_after (finmap.get host.aborts k)) ∙ h.table;
              held = omega (arith, held, kept, w, x, f, f2);
              accepts = h.accepts;
              answers = omega (arith, a, kept, f, f2);
            }

    -- an abort
    unparked : (host : Host) (s task : ℕ) (slot : Slot Request) → slot_of host.pool task ≡ slot → IsBeside n host.pool s → HasTally n g host
        → HasTally n g (replies.unparks host task slot) × IsBeside n (replies.unparks host task slot).pool s
    unparked host s task Free e x h = (h, x)
    unparked host s task (Open r) e x h = (h, x)
    unparked host s task Parked e x h =
        let t = h.table in
        let p = in_table host.pool task Parked e (λ z. cc) in
        let l = p.0 in
        let i = p.1 in
        let y : IsBeside n host.pool task = record { least = l; most = omega (arith, l, i, t); other = ap (is_for n) e } in
        (freed n g.accepts g.answers host task y h, beside_after n g.accepts g.answers host.pool task s Free h.table y refl x)

    aborted : (host : Host) (s k task : ℕ) (frame : List ℕ) → IsBeside n host.pool s → HasTally n g host → CountsTo (replies.host_ends_abort host s k task frame)
    aborted host s k task frame x h =
        let u = unparked (record host { aborts = finmap.remove host.aborts k }) s task (slot_of host.pool task) refl x h in
        all_by n g (entry.AbortEnd k (replies.abort_outcome frame) ∷ []) (asks.frees_high (replies.closes_abort host k task) s) (tt, tt)
        (freed_high n g.accepts g.answers (replies.closes_abort host k task) s u.1 u.0)

    left_has : (host : Host) (s handle : ℕ) → IsBeside n host.pool s → HasTally n g host → HasTally n g (removal.left host s handle)
    left_has host s handle x h = by_phase (removal.is_reset_under s (phase_at host.phases handle))
      where
        phased : Host
        phased = removal.with_phase_of host handle (after_task_done (phase_at host.phases handle) s)

        by_phase : (b : Bool) → HasTally n g (if b then asks.asks_internal (asks.frees_high phased s) (request.Remove handle) else asks.frees_high phased s)
        by_phase true = asked_internal n g.accepts g.answers (asks.frees_high phased s) (request.Remove handle) (freed_high n g.accepts g.answers phased s x h)
        by_phase false = freed_high n g.accepts g.answers phased s x h

    pub ready_by : (handle s : ℕ) (p : Phase) (page : Option ℕ) → EachEntry IsBy (removal.ready_told handle s p page)
    ready_by handle s p page = grind arith

    answer_counts : (host : Host) (s : ℕ) (r : Request) (v : Heard) → slot_of host.pool s ≡ Open r → HasTally n g host → CountsTo (replies.hears_answer host s r v)
    answer_counts host s (request.Command k) v e h = answered host s k (replies.ended v.frame v.page v.sense) e h
    answer_counts host s (request.Abort k task) v e h = aborted host s k task (replies.reply_bytes v) (beside_open host s (request.Abort k task) e refl h) h
    answer_counts host s (request.TargetReset address) v e h =
        all_by n g (replies.ends_target host s address (replies.reply_bytes v)).entries (asks.frees_high host s) (tt, tt) (freed_high n g.accepts g.answers host s (beside_open host s (request.TargetReset address) e refl h) h)
    answer_counts host s (request.Leave handle) v e h =
        let x = beside_open host s (request.Leave handle) e refl h in
        unless_counts host s (removal.quietly (removal.left host s handle)) x h (quietly_counts (removal.left host s handle) (left_has host s handle x h))
    answer_counts host s (request.Page handle) v e h =
        let x = beside_open host s (request.Page handle) e refl h in
        let read : Option ℕ = replies.address_read (replies.reply_bytes v) v.page in
        let phased : Host = removal.with_phase_of host handle (after_page (phase_at host.phases handle) s read) in
        unless_counts host s (removal.reads_page host s handle read) x h
        (all_by n g (removal.ready_told handle s (phase_at host.phases handle) read) (asks.frees_internal phased s) (ready_by handle s (phase_at host.phases handle) read) (freed_internal n g.accepts g.answers phased s x h))
    answer_counts host s (request.Remove handle) v e h =
        let x = beside_open host s (request.Remove handle) e refl h in
        let phased : Host = removal.with_phase_of host handle (after_removed (phase_at host.phases handle) s) in
        unless_counts host s (removal.quietly (removal.removed host s handle)) x h (quietly_counts (removal.removed host s handle) (freed_internal n g.accepts g.answers phased s x h))
    answer_counts host s (request.Ack event context) v e h =
        let x = beside_open host s (request.Ack event context) e refl h in
        unless_counts host s (removal.quietly (asks.frees_internal host s)) x h (quietly_counts (asks.frees_internal host s) (freed_internal n g.accepts g.answers host s x h))
    answer_counts host s request.Notification v e h =
        let x = beside_open host s request.Notification e refl h in
        unless_counts host s (removal.quietly (replies.hears_notified host s)) x h
        (quietly_counts (replies.hears_notified host s) (asked_internal n g.accepts g.answers (asks.frees_internal host s) request.PortEnable (freed_internal n g.accepts g.answers host s x h)))
    answer_counts host s request.PortEnable v e h =
        let x = beside_open host s request.PortEnable e refl h in
        unless_counts host s (replies.after_port_enable host s) x h
        (all_by n g (entry.HostUp ∷ []) (record (asks.frees_internal host s) { mode = state.Up }) (tt, tt) (freed_internal n g.accepts g.answers host s x h))

    -- an event
    loses_by : (host : Host) (handle : ℕ) (p : Phase) → EachEntry IsBy (removal.after_handle_lost host handle p).entries
    loses_by host handle phase.WaitRead = tt
    loses_by host handle (phase.Reading smid) = tt
    loses_by host handle (phase.Ready address) = (tt, tt)
    loses_by host handle phase.Absent = tt
    loses_by host handle phase.WaitHigh = tt
    loses_by host handle (phase.Resetting smid) = tt
    loses_by host handle phase.WaitInternal = tt
    loses_by host handle (phase.Removing smid) = tt

    change_by : (host : Host) (c : Change) → EachEntry IsBy (removal.hears_change host c).entries
    change_by host c = let l = loses_by host c.handle (phase_at host.phases c.handle) in grind (arith, l)

    pub changes_by : (host : Host) (cs : List Change) → EachEntry IsBy (removal.hears_changes host cs).entries
    unfolding removal.hears_changes
    changes_by host [] = tt
    changes_by host (c ∷ cs) = by_append _ _ (change_by host c) (changes_by (removal.hears_change host c).part cs)

    event_counts : (host : Host) (frame : List ℕ) → HasTally n g host → CountsTo (removal.hears_event host frame)
    event_counts host frame h =
        let ack : Request = request.Ack (event_in frame) (event_context_in frame) in
        let after : Host = asks.asks_internal host ack in
        all_by n g (removal.hears_changes after (changes_in frame)).entries (removal.hears_changes after (changes_in frame)).part (changes_by after (changes_in frame))
        (all_changed n g.accepts g.answers after (changes_in frame) (asked_internal n g.accepts g.answers host ack h))

    none_counts : (host : Host) (s : ℕ) (v : Heard) → HasTally n g host → CountsTo (replies.hears_reply_to host s None v)
    none_counts host s v h = by_mode (is_resetting host.mode)
      where
        by_mode : (b : Bool) → CountsTo (if b then removal.quietly host else removal.hears_event host (replies.reply_bytes v))
        by_mode true = quietly_counts host h
        by_mode false = event_counts host (replies.reply_bytes v) h

    -- a reply
    slot_counts : (host : Host) (s : ℕ) (slot : Slot Request) (v : Heard) → slot_of host.pool s ≡ slot → HasTally n g host → CountsTo (replies.hears_reply_to host s (record_of slot) v)
    slot_counts host s (Open r) v e h = answer_counts host s r v e h
    slot_counts host s Free v e h = none_counts host s v h
    slot_counts host s Parked v e h = none_counts host s v h

    framed : (host : Host) (d : ℕ) (f : Option (List ℕ)) → HasTally n g host → HasTally n g (replies.with_frame_heard host d f) × ((replies.with_frame_heard host d f).pool ≡ host.pool)
    framed host d None h = (h, refl)
    framed host d (Some frame) h = by_returning host.returning
      where
        by_returning : (c : Bool) → HasTally n g (if c then returns.with_return host (returns.frame_of (frame_address_in d)) else returns.keeps host (returns.frame_of (frame_address_in d)))
            × ((if c then returns.with_return host (returns.frame_of (frame_address_in d)) else returns.keeps host (returns.frame_of (frame_address_in d))).pool ≡ host.pool)
        by_returning true = (h, refl)
        by_returning false = (h, refl)

    pub reply_counts : (host : Host) (queue d : ℕ) (f : Option (List ℕ)) (page sense : List ℕ) → HasTally n g host → CountsTo (replies.hears_reply host queue (replies.heard_of d f page sense))
    reply_counts host queue d f page sense h =
        let x = framed host d f h in
        slot_counts (replies.takes_entry (replies.with_frame_heard host d f) queue) (smid_in d) (slot_of host.pool (smid_in d)) (replies.heard_of d f page sense)
        (ap (λ (pool : List (Slot Request)). slot_of pool (smid_in d)) x.1) x.0
