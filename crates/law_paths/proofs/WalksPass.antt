-- Each entry that names a command is one that may follow where the command is.
use Rattle.std.proofs.Common.{◌≡◌, ℕ, ◌+◌, ◌≤◌, ◌==◌, ◌&&◌, Bool, true, false, if◌then◌else◌, List, [], ◌∷◌, ◌++◌, filter_map, map, slice_get, slice_set, take, Option, Some, None, refl, ap, sym, ◌∙◌, subst, arith}
use Rattle.std.specs.Prelude.{All}
use Rattle.std.specs.FinMap as finmap
use Rattle.std.specs.FinSet as finset
use Rattle.std.specs.List.{find}
use Rattle.std.proofs.lemmas.List.Elements.{All-head}
use Rattle.removal.specs.Handles.{ready_handle}
use Rattle.scsi_disk.specs.Command.{fits}
use Rattle.scsi_disk.specs.declared.command.Command.{Command}
use Rattle.scsi_disk.specs.declared.scsi_result.ScsiResult.{ScsiResult}
use Rattle.smid_pool.specs.Pool.{Free, Open, Parked, Slot, least_free, record_of}
use Rattle.smid_pool.specs.declared.class.Class.TheVariants as class
use Rattle.mpi_doorbell.specs.HostDoor.{HostDoor}
use Rattle.mpi_doorbell.specs.declared.step.DoorStep.{DoorStep}
use Rattle.mpi_doorbell.specs.declared.step.DoorStep.TheVariants as step
use Rattle.mpt_trace.specs.Command.{command_named}
use Rattle.mpt_trace.specs.declared.command_form.CommandForm.{CommandForm}
use Rattle.mpt_trace.specs.declared.entry.Entry.{Entry}
use Rattle.mpt_trace.specs.declared.entry.Entry.TheVariants as entry
use Rattle.mpt_trace.specs.declared.input.Input.{Input}
use Rattle.mpt_trace.specs.declared.input.Input.TheVariants as input
use Rattle.mpt_trace.specs.declared.item.Back.{Back}
use Rattle.mpt_trace.specs.declared.item.Back.TheVariants as back
use Rattle.mpt_trace.specs.declared.item.Down.{Down}
use Rattle.mpt_trace.specs.declared.item.Down.TheVariants as down
use Rattle.mpt_trace.specs.declared.item.Item.TheVariants as item
use Rattle.mpt_trace.specs.declared.item.Out.{Out}
use Rattle.mpt_trace.specs.declared.item.Out.TheVariants as out
use Rattle.mpt_trace.specs.declared.item.Up.{Up}
use Rattle.mpt_trace.specs.declared.item.Up.TheVariants as up
use Rattle.mpt_trace.specs.declared.lane.LaneName.TheVariants as lane
use Rattle.mpt_trace.specs.declared.refusal.RefusedCall.TheVariants as call
use Rattle.mpt_wire.specs.Machine.Causes.{is_up}
use Rattle.mpt_wire.specs.Messages.Fields.{abort_task, function_in, smid_in, task_mid_in, task_type_in}
use Rattle.mpt_wire.specs.Messages.Naming.{is_high_priority, names_command, said_in}
use Rattle.mpt_wire.specs.Paths.Commands.{Live, live_mark, mark_if, path_mark_of}
use Rattle.mpt_wire.specs.Paths.Stages.{Accepted, AtController, AtDisk, HasRun, Heard, MayFollow, PathStage, Posted, Replied, SaysGone, SaysResult, SaysTerminated, Sent, WalkAsks, stage_after, walk_next}
use Rattle.mpt_wire.specs.Paths.Table.{PathMark, PutsGone, PutsPost, PutsReply, PutsResult, PutsTask, PutsTerminated, RunsAt, TakesAbort, TakesGone, TakesPost, TakesReply, TakesResult, TakesTask, TakesTerminated}
use Rattle.mpt_wire.specs.Walks.Passes.{EachEntry, Passes}
use Rattle.mpt_rules.specs.declared.at_fabric.AtFabric.{AtFabric}
use Rattle.mpt_rules.specs.declared.at_fabric.AtFabric.TheVariants as at
use Rattle.mpt_rules.specs.declared.post.Post.{Post}
use Rattle.mpt_rules.specs.declared.request.Request.{Request}
use Rattle.mpt_rules.specs.declared.request.Request.TheVariants as request
use Rattle.mpt_rules.specs.declared.said.Said.{Said}
use Rattle.mpt_rules.specs.declared.said.Said.TheVariants as said
use Rattle.mpt_rules.specs.declared.stage.Stage.{Stage}
use Rattle.mpt_rules.specs.declared.stage.Stage.TheVariants as stage
use Rattle.mpt_rules.specs.declared.task.Task.{Task}
use Rattle.mpt_rules.specs.Fabric.Calls as fab
use Rattle.mpt_rules.specs.Fabric.Tasks.{has_tag, runs_task}
use Rattle.mpt_rules.specs.Host.Doorbell.{next_turn, puts_turn}
use Rattle.mpt_rules.specs.Host.Inputs as inputs
use Rattle.mpt_rules.specs.Host.Parts.{Host}
use Rattle.mpt_rules.specs.Host.Replies as replies
use Rattle.mpt_rules.specs.Host.Resets.{ends_reset, ends_reset_if_over, has_all_marks, reset_abort, reset_answer, reset_target, reset_told}
use Rattle.mpt_rules.specs.Host.Takes.{hears_up}
use Rattle.mpt_rules.specs.Host.Values.{after_turn, ends_stage, hears_value_at}
use Rattle.mpt_rules.specs.Ioc.Replies.{outbox_of}
use Rattle.mpt_rules.specs.Ioc.Sending.{up_of}
use Rattle.mpt_rules.specs.Ioc.Steps as work
use Rattle.mpt_rules.specs.Ioc.Tables.{request_at}
use Rattle.mpt_rules.specs.Ioc.Takes as adapter
use Rattle.mpt_rules.specs.Law.{NothingIsStrange}
use Rattle.mpt_rules.specs.World.Cases.{Case, entries}
use Rattle.mpt_rules.specs.World.Counts.{one_if, post_count}
use Rattle.mpt_rules.specs.World.FabricCounts.{gone_count, result_count, sent_task_count, terminated_count}
use Rattle.mpt_rules.specs.World.Inputs.{by_result, host_told}
use Rattle.mpt_rules.specs.World.Lines.{back_line}
use Rattle.mpt_rules.specs.World.State.{World, up_lane, up_on}
use Rattle.mpt_rules.proofs.Counts.{post_count-cons}
use Rattle.mpt_rules.proofs.FabricCounts.{gone_count-append, gone_count-cons, result_count-cons, sent_task_count-cons, terminated_count-append, terminated_count-cons}
use Rattle.mpt_rules.proofs.HostCalls.{aborts_by, resets_target_by, submits_by}
use Rattle.law_facts.specs.Clock.{in_reset, is_live}
use Rattle.law_facts.specs.Facts.{Facts}
use Rattle.law_facts.specs.Flights.{command_tokens}
use Rattle.law_facts.specs.History.{History}
use Rattle.law_facts.specs.Messages.{BackIs, CommandAt, DownIsRecord, HasOutcome, IsLiveTask, IsUnknown, OutIs, PostIsRecord, RequestIs, SaidIs, TaskIs}
use Rattle.law_facts.specs.Paths.{BackStage, RepliesAt, UpStage, stage_of}
use Rattle.law_facts.specs.Words.{is_command, is_command_asked, slot}
use Rattle.law_flights.proofs.IocTold.{told_back, told_down, told_high, told_normal}
use Rattle.law_flights.proofs.Least.{IsLeast, least_is}
use Rattle.law_messages.proofs.Agreeing.{all_last}
use Rattle.law_messages.proofs.Known.{classed, inside, one_command}
use Rattle.law_messages.proofs.PostsKept.{found_all, found_passes, known_live, live_is_open}
use Rattle.law_messages.proofs.Requests.{IsTame}
use Rattle.law_messages.proofs.TameTold as tame
use Rattle.law_moves.proofs.Cases.{IsHosts}
use Rattle.law_moves.proofs.CasesTold.{IsPlugWord, OwesTold, kept_told}
use Rattle.law_moves.proofs.InputWords.{input_words}
use Rattle.law_paths.specs.Tags.{HasTag, TagsFit}
use Rattle.law_paths.proofs.Asks.{IsFree, IsNoAnswer, accept_asks, answer_asks, free_pass, may_put, named_asks, one_asks, unnamed_free}
use Rattle.law_paths.proofs.DownCases.{named_most, named_within, unnamed}
use Rattle.law_paths.proofs.UpCases.{AReply, IsPut, NoReply, put_is}
use Rattle.law_standing.specs.Written.{OutcomesFit}
use Rattle.law_paths.proofs.Entries.{IsQuiet, equal, not_named, same}
use Rattle.law_paths.proofs.FabricCases.{leads_to, tag_counted}
use Rattle.law_paths.proofs.HostCases.{hears_quietly, input_quiet}
use Rattle.law_paths.proofs.IocCases.{told_quiet}
use Rattle.law_paths.proofs.Moves.{is_asked}
use Rattle.law_paths.proofs.PostKinds.{scsi_kind}
use Rattle.law_paths.proofs.TagsKept.{lane_tags, made_tags}

-- ---- words that ask nothing

quiet_free : (t : List Entry) → EachEntry IsQuiet t → EachEntry IsTame t → EachEntry IsFree t
quiet_free [] a b = tt
quiet_free (e ∷ t) a b = (one e a.0 b.0, quiet_free t a.1 b.1)
  where
    one : (e : Entry) → IsQuiet e → IsTame e → IsFree e
    one (entry.Given i) p q = tt
    one (entry.Idle x) p q = tt
    one (entry.Put l x) p q = absurd p
    one (entry.Take l x) p q = absurd p
    one (entry.Bind handle a k) p q = tt
    one (entry.Unbind handle) p q = tt
    one entry.UnbindAll p q = tt
    one (entry.Run a k) p q = absurd p
    one entry.HostUp p q = tt
    one (entry.Ready a handle) p q = tt
    one (entry.Lost a handle) p q = tt
    one (entry.Accept n a k) p q = absurd p
    one (entry.RefuseSubmit n cause) p q = tt
    one (entry.Refuse call cause) p q = tt
    one (entry.Answer n how) p q = absurd q
    one (entry.AbortEnd n how) p q = tt
    one (entry.TargetEnd a how) p q = tt
    one entry.ResetDone p q = tt

free_append : (t u : List Entry) → EachEntry IsFree t → EachEntry IsFree u → EachEntry IsFree (t ++ u)
free_append [] u a b = b
free_append (e ∷ t) u a b = (a.0, free_append t u a.1 b)

free_each : (g : ℕ → Entry) → ((n : ℕ) → IsFree (g n)) → (ns : List ℕ) → EachEntry IsFree (map g ns)
free_each g a [] = tt
free_each g a (n ∷ ns) = (a n, free_each g a ns)

free_targets : (xs : List (Slot Request)) → EachEntry IsFree (filter_map reset_target xs)
free_targets [] = tt
free_targets (Free ∷ xs) = free_targets xs
free_targets (Parked ∷ xs) = free_targets xs
free_targets (Open (request.Command n) ∷ xs) = free_targets xs
free_targets (Open (request.Abort n task) ∷ xs) = free_targets xs
free_targets (Open (request.TargetReset address) ∷ xs) = (tt, free_targets xs)
free_targets (Open (request.Leave handle) ∷ xs) = free_targets xs
free_targets (Open (request.Page handle) ∷ xs) = free_targets xs
free_targets (Open (request.Remove handle) ∷ xs) = free_targets xs
free_targets (Open (request.Ack event context) ∷ xs) = free_targets xs
free_targets (Open request.Notification ∷ xs) = free_targets xs
free_targets (Open request.PortEnable ∷ xs) = free_targets xs

reset_free : (host : Host) → EachEntry IsFree (reset_told host)
reset_free host =
    free_append (map reset_answer (finmap.keys host.cmds)) _ (free_each reset_answer (λ n. tt) (finmap.keys host.cmds))
    (free_append (map reset_abort (finmap.keys host.aborts)) _ (free_each reset_abort (λ n. tt) (finmap.keys host.aborts)) (free_append (filter_map reset_target host.pool) (entry.ResetDone ∷ []) (free_targets host.pool) (tt, tt)))

over_free : (host : Host) → EachEntry IsFree (ends_reset_if_over host).entries
over_free host = by_end (host.door_ready && has_all_marks host)
  where
    by_end : (b : Bool) → EachEntry IsFree (if b then ends_reset host else record { part = host; entries = [] }).entries
    by_end true = reset_free host
    by_end false = tt

stage_free : (host : Host) (s : Stage) (bytes : List ℕ) → EachEntry IsFree (ends_stage host s bytes).entries
stage_free host stage.Idle bytes = tt
stage_free host stage.Start bytes = tt
stage_free host stage.StartReset bytes = tt
stage_free host stage.Facts bytes = tt
stage_free host stage.PortFacts bytes = tt
stage_free host stage.Init bytes = tt
stage_free host stage.Look bytes = tt
stage_free host stage.DiagnosticReset bytes = over_free (record host { door_ready = true })
stage_free host stage.UnitReset bytes = over_free (record host { door_ready = true })

turn_free : (host : Host) (s : Stage) (d : DoorStep) → EachEntry IsFree (after_turn host s d).entries
turn_free host s (step.Done count bytes) = stage_free host s (take count bytes)
turn_free host s (step.Read reg) = tt
turn_free host s (step.Write reg value) = tt
turn_free host s (step.Refused at value) = tt

value_free : (host : Host) (door : Option HostDoor) (value : ℕ) → EachEntry IsFree (hears_value_at host door value).entries
value_free host None value = tt
value_free host (Some door) value = turn_free (puts_turn host (next_turn door (Some value))) host.stage (next_turn door (Some value)).step

plug_free : (t : List Entry) → EachEntry IsPlugWord t → EachEntry IsFree t
plug_free [] p = tt
plug_free (e ∷ t) p = (one e p.0, plug_free t p.1)
  where
    one : (e : Entry) → IsPlugWord e → IsFree e
    one (entry.Given i) p = tt
    one (entry.Refuse call cause) p = tt
    one (entry.Idle x) p = tt
    one (entry.Put l x) p = absurd p
    one (entry.Take l x) p = absurd p
    one (entry.Bind handle a k) p = tt
    one (entry.Unbind handle) p = tt
    one entry.UnbindAll p = tt
    one (entry.Run a k) p = absurd p
    one entry.HostUp p = tt
    one (entry.Ready a handle) p = tt
    one (entry.Lost a handle) p = tt
    one (entry.Accept n a k) p = absurd p
    one (entry.RefuseSubmit n cause) p = tt
    one (entry.Answer n how) p = absurd p
    one (entry.AbortEnd n how) p = tt
    one (entry.TargetEnd a how) p = tt
    one entry.ResetDone p = tt

-- what is at a stage may go on so
staged : (l : Live) (b : Bool) (c d : PathStage) (m : PathMark) → c ≡ d → MayFollow l b d m → MayFollow l b c m
staged l b c d m e a = subst (λ x. MayFollow l b x m) (sym e) a

module _ (w : World) (h : History) (f : Facts w h) (tags : TagsFit w) (fit : OutcomesFit h) where
  -- an open identifier of commands is one's
  command_of_slot : (q : ℕ) (r : Request) → slot w.host q ≡ Open r → q ≤ 256 → (n : ℕ) × (slot w.host q ≡ Open (request.Command n))
  command_of_slot q (request.Command n) e l = (n, e)
  command_of_slot q (request.Abort n task) e l = let c = classed w h f q (request.Abort n task) e in absurd (omega (arith, c, l))
  command_of_slot q (request.TargetReset address) e l = let c = classed w h f q (request.TargetReset address) e in absurd (omega (arith, c, l))
  command_of_slot q (request.Leave handle) e l = let c = classed w h f q (request.Leave handle) e in absurd (omega (arith, c, l))
  command_of_slot q (request.Page handle) e l = let c = classed w h f q (request.Page handle) e in absurd (omega (arith, c, l))
  command_of_slot q (request.Remove handle) e l = let c = classed w h f q (request.Remove handle) e in absurd (omega (arith, c, l))
  command_of_slot q (request.Ack event context) e l = let c = classed w h f q (request.Ack event context) e in absurd (omega (arith, c, l))
  command_of_slot q request.Notification e l = let c = classed w h f q request.Notification e in absurd (omega (arith, c, l))
  command_of_slot q request.PortEnable e l = let c = classed w h f q request.PortEnable e in absurd (omega (arith, c, l))

  -- what the fabric has of a task is an open command's
  token_command : (s : ℕ) → 1 ≤ s → s ≤ 280 → 1 ≤ command_tokens w s → (n : ℕ) × (slot w.host s ≡ Open (request.Command n))
  token_command s l m c = by_state (is_live w) (in_reset w) refl refl
    where
      asked : is_command_asked (slot w.host s) ≡ true → (n : ℕ) × (slot w.host s ≡ Open (request.Command n))
      asked e = Rattle.law_paths.proofs.Moves.asked_is (slot w.host s) e

      at_slot : (handle queue len : ℕ) (written : Option ℕ) (x : Slot Request) → slot w.host s ≡ x → CommandAt w h s handle queue len written x → (n : ℕ) × (slot w.host s ≡ Open (request.Command n))
      at_slot handle queue len written (Open (request.Command n)) e a = (n, e)
      at_slot handle queue len written Free e a = absurd a
      at_slot handle queue len written Parked e a = absurd a
      at_slot handle queue len written (Open (request.Abort n task)) e a = absurd a
      at_slot handle queue len written (Open (request.TargetReset address)) e a = absurd a
      at_slot handle queue len written (Open (request.Leave g)) e a = absurd a
      at_slot handle queue len written (Open (request.Page g)) e a = absurd a
      at_slot handle queue len written (Open (request.Remove g)) e a = absurd a
      at_slot handle queue len written (Open (request.Ack event context)) e a = absurd a
      at_slot handle queue len written (Open request.Notification) e a = absurd a
      at_slot handle queue len written (Open request.PortEnable) e a = absurd a

      by_request : (o : Option AtFabric) → request_at w.ioc s ≡ o → 1 ≤ one_if (is_command o) → (n : ℕ) × (slot w.host s ≡ Open (request.Command n))
      by_request None e c = absurd (omega (arith, c))
      by_request (Some (at.Command handle queue len written)) e c = at_slot handle queue len written (slot w.host s) refl (subst (RequestIs w h s) e (f.messages.requests s))
      by_request (Some (at.Abort handle)) e c = absurd (omega (arith, c))
      by_request (Some (at.TargetReset handle)) e c = absurd (omega (arith, c))
      by_request (Some at.PortEnable) e c = absurd (omega (arith, c))

      by_state : (a b : Bool) → is_live w ≡ a → in_reset w ≡ b → (n : ℕ) × (slot w.host s ≡ Open (request.Command n))
      by_state true b g t = let x = (f.flights.fabric s l m).commands g in by_request (request_at w.ioc s) refl (omega (arith, x, c))
      by_state false true g t = asked ((f.flights.fabric s l m).old_command t c)
      by_state false false g t = let x = (f.flights.fabric s l m).none g t in absurd (omega (arith, x, c))

  -- ---- posts

  posted : (d : ℕ) (g p : List ℕ) (m : PathMark) (e : Entry) (c : PathStage) → PostIsRecord w h (record { descriptor = d; frame = g; payload = p }) → names_command (smid_in d) d ≡ true
      → (is_command_asked (slot w.host (smid_in d)) ≡ true → stage_of h (smid_in d) ≡ c) → (is_command_asked (slot w.host (smid_in d)) ≡ true → path_mark_of (smid_in d) (h.walk (smid_in d)).known.live e ≡ Some m) → ((l : Live) → MayFollow l (h.walk (smid_in d)).stopped c m) → WalkAsks (smid_in d) (h.walk (smid_in d)) e
  posted d g p m e c a t st mk may =
      let o = Rattle.law_paths.proofs.MarksKept.open_of w h f (record { descriptor = d; frame = g; payload = p }) a in
      let n = command_of_slot (smid_in d) o.0 o.1 (named_most d t) in
      let r = known_live w h f n.0 (smid_in d) n.1 in
      let q = is_asked (slot w.host (smid_in d)) n.0 n.1 in
      named_asks (smid_in d) (h.walk (smid_in d)) e m r.0 (mk q) r.1 (staged r.0 (h.walk (smid_in d)).stopped (stage_of h (smid_in d)) c m (st q) (may r.0))

  abbrev Pass : List Entry → Type 0
  Pass t = (s : ℕ) → Passes (walk_next s) (WalkAsks s) (h.walk s) t

  -- one entry, and words that ask nothing
  first_and : (e : Entry) (t : List Entry) → ((s : ℕ) → WalkAsks s (h.walk s) e) → EachEntry IsFree t → Pass (e ∷ t)
  first_and e t a b s = (a s, free_pass s (walk_next s (h.walk s) e) t b)

  free : (t : List Entry) → EachEntry IsFree t → Pass t
  free t a s = free_pass s (h.walk s) t a

  plain_one : (e : Entry) → ((s : ℕ) → Rattle.law_paths.proofs.Entries.names s e ≡ false) → IsNoAnswer e → (s : ℕ) → WalkAsks s (h.walk s) e
  plain_one e n a s = unnamed_free s (h.walk s) e (n s) a

  puts_down : (x : Down) (rest : List Down) → w.host.out ≡ x ∷ rest → Pass (entry.Put lane.Down (item.Down x) ∷ [])
  puts_down (down.Write reg value) rest e = first_and (entry.Put lane.Down (item.Down (down.Write reg value))) [] (plain_one (entry.Put lane.Down (item.Down (down.Write reg value))) (λ s. refl) tt) tt
  puts_down (down.Read reg) rest e = first_and (entry.Put lane.Down (item.Down (down.Read reg))) [] (plain_one (entry.Put lane.Down (item.Down (down.Read reg))) (λ s. refl) tt) tt
  puts_down (down.Return address index) rest e = first_and (entry.Put lane.Down (item.Down (down.Return address index))) [] (plain_one (entry.Put lane.Down (item.Down (down.Return address index))) (λ s. refl) tt) tt
  puts_down down.Stop rest e = first_and (entry.Put lane.Down (item.Down down.Stop)) [] (plain_one (entry.Put lane.Down (item.Down down.Stop)) (λ s. refl) tt) tt
  puts_down (down.Post d g p) rest e = by_name_of (names_command (smid_in d) d) refl
    where
      written : PostIsRecord w h (record { descriptor = d; frame = g; payload = p })
      written = All-head (DownIsRecord w h) (down.Post d g p) rest (subst (All (DownIsRecord w h)) e (all_last (DownIsRecord w h) w.down w.host.out f.messages.down))

      there : 1 ≤ post_count (smid_in d) w.host.out
      there = let c = post_count-cons (smid_in d) (down.Post d g p) rest in let o : one_if (smid_in d == smid_in d) ≡ 1 = ap one_if (same (smid_in d)) in let i = ap (post_count (smid_in d)) e in omega (arith, c, o, i)

      by_name_of : (b : Bool) → names_command (smid_in d) d ≡ b → Pass (entry.Put lane.Down (item.Down (down.Post d g p)) ∷ [])
      by_name_of false t = first_and (entry.Put lane.Down (item.Down (down.Post d g p))) [] (plain_one (entry.Put lane.Down (item.Down (down.Post d g p))) (λ s. unnamed s d t) tt) tt
      by_name_of true t =
          first_and (entry.Put lane.Down (item.Down (down.Post d g p))) []
          (one_asks h (smid_in d) (entry.Put lane.Down (item.Down (down.Post d g p))) (λ s n. not_named s d n) tt
          (posted d g p PutsPost (entry.Put lane.Down (item.Down (down.Post d g p))) Accepted written t (λ q. (f.paths.stages (smid_in d) q).out there) (λ q. ap (λ b. mark_if b PutsPost) t) (λ l. tt))) tt

  takes_down : (x : Down) (rest : List Down) → w.down ≡ x ∷ rest → Pass (entry.Take lane.Down (item.Down x) ∷ (adapter.takes_down w.ioc x).entries)
  takes_down x rest e = by_item x e
    where
      words : (x : Down) → EachEntry IsFree (adapter.takes_down w.ioc x).entries
      words x = quiet_free (adapter.takes_down w.ioc x).entries (told_quiet (adapter.takes_down w.ioc x).entries (told_down w.ioc x) (tame.down_tame w.ioc x)) (tame.down_tame w.ioc x)

      by_item : (x : Down) → w.down ≡ x ∷ rest → Pass (entry.Take lane.Down (item.Down x) ∷ (adapter.takes_down w.ioc x).entries)
      by_item (down.Write reg value) e = first_and (entry.Take lane.Down (item.Down (down.Write reg value))) (adapter.takes_down w.ioc (down.Write reg value)).entries (plain_one (entry.Take lane.Down (item.Down (down.Write reg value))) (λ s. refl) tt) (words (down.Write reg value))
      by_item (down.Read reg) e = first_and (entry.Take lane.Down (item.Down (down.Read reg))) [] (plain_one (entry.Take lane.Down (item.Down (down.Read reg))) (λ s. refl) tt) tt
      by_item (down.Return address index) e = first_and (entry.Take lane.Down (item.Down (down.Return address index))) [] (plain_one (entry.Take lane.Down (item.Down (down.Return address index))) (λ s. refl) tt) tt
      by_item down.Stop e = first_and (entry.Take lane.Down (item.Down down.Stop)) [] (plain_one (entry.Take lane.Down (item.Down down.Stop)) (λ s. refl) tt) tt
      by_item (down.Post d g p) e = by_name_of (names_command (smid_in d) d) refl
        where
          written : PostIsRecord w h (record { descriptor = d; frame = g; payload = p })
          written = All-head (DownIsRecord w h) (down.Post d g p) (rest ++ w.host.out) (subst (λ xs. All (DownIsRecord w h) (xs ++ w.host.out)) e f.messages.down)

          there : 1 ≤ post_count (smid_in d) w.down
          there = let c = post_count-cons (smid_in d) (down.Post d g p) rest in let o : one_if (smid_in d == smid_in d) ≡ 1 = ap one_if (same (smid_in d)) in let i = ap (post_count (smid_in d)) e in omega (arith, c, o, i)

          mark : names_command (smid_in d) d ≡ true → is_command_asked (slot w.host (smid_in d)) ≡ true → path_mark_of (smid_in d) (h.walk (smid_in d)).known.live (entry.Take lane.Down (item.Down (down.Post d g p))) ≡ Some TakesPost
          mark t c =
              ap (λ o. if is_high_priority o && function_in g == Rattle.mpt_messages.specs.Function.byte_of Rattle.mpt_messages.specs.declared.function.Function.TheVariants.TaskManagement && task_type_in g == abort_task && task_mid_in g == smid_in d then live_mark (h.walk (smid_in d)).known.live TakesAbort else mark_if (names_command (smid_in d) d) TakesPost) (scsi_kind w h f (record { descriptor = d; frame = g; payload = p }) written c)
              ∙ ap (λ b. mark_if b TakesPost) t

          by_name_of : (b : Bool) → names_command (smid_in d) d ≡ b → Pass (entry.Take lane.Down (item.Down (down.Post d g p)) ∷ [])
          by_name_of false t = first_and (entry.Take lane.Down (item.Down (down.Post d g p))) [] (plain_one (entry.Take lane.Down (item.Down (down.Post d g p))) (λ s. unnamed s d t) tt) tt
          by_name_of true t =
              first_and (entry.Take lane.Down (item.Down (down.Post d g p))) []
              (one_asks h (smid_in d) (entry.Take lane.Down (item.Down (down.Post d g p))) (λ s n. not_named s d n) tt
              (posted d g p TakesPost (entry.Take lane.Down (item.Down (down.Post d g p))) Posted written t (λ q. (f.paths.stages (smid_in d) q).down there) (λ q. mark t q) (λ l. tt))) tt

  -- ---- tasks

  task_asks : (tag address : ℕ) (command : Command) (e : Entry) (m : PathMark) (c : PathStage) → IsLiveTask address command (h.walk tag).known.live → ((s : ℕ) → (s == tag) ≡ false → Rattle.law_paths.proofs.Entries.names s e ≡ false) → IsNoAnswer e
      → ((live : Option Live) → path_mark_of tag live e ≡ Some m) → (is_command_asked (slot w.host tag) ≡ true → stage_of h tag ≡ c) → ((l : Live) → (address ≡ l.address) × (command ≡ l.command) → MayFollow l (h.walk tag).stopped c m) → (s : ℕ) → WalkAsks s (h.walk s) e
  task_asks tag address command e m c a n k mk st may = by_live (h.walk tag).known.live refl a
    where
      by_live : (o : Option Live) → (h.walk tag).known.live ≡ o → IsLiveTask address command o → (s : ℕ) → WalkAsks s (h.walk s) e
      by_live None i a = absurd a
      by_live (Some l) i a =
          one_asks h tag e n k
          (named_asks tag (h.walk tag) e m l (mk (h.walk tag).known.live) i
          (staged l (h.walk tag).stopped (stage_of h tag) c m (st (is_asked (slot w.host tag) l.number (live_is_open w h f tag l i))) (may l a)))

  puts_out : (x : Out) (rest : List Out) → w.ioc.out ≡ x ∷ rest → Pass (entry.Put lane.Out (item.Out x) ∷ [])
  puts_out (out.Task tag address command) rest e =
      first_and (entry.Put lane.Out (item.Out (out.Task tag address command))) []
      (task_asks tag address command (entry.Put lane.Out (item.Out (out.Task tag address command))) (PutsTask address command) AtController
      (All-head (OutIs w h) (out.Task tag address command) rest (subst (All (OutIs w h)) e (all_last (OutIs w h) w.out w.ioc.out f.messages.out))) (λ s n. n) tt (λ o. ap (λ b. mark_if b (PutsTask address command)) (same tag))
      (λ q. (f.paths.stages tag q).sending (let c = sent_task_count-cons tag (out.Task tag address command) rest in let o : one_if (tag == tag) ≡ 1 = ap one_if (same tag) in let i = ap (sent_task_count tag) e in omega (arith, c, o, i))) (λ l a. a)) tt
  puts_out (out.Abort smid task) rest e = first_and (entry.Put lane.Out (item.Out (out.Abort smid task))) [] (plain_one (entry.Put lane.Out (item.Out (out.Abort smid task))) (λ s. refl) tt) tt
  puts_out (out.TargetReset smid address) rest e = first_and (entry.Put lane.Out (item.Out (out.TargetReset smid address))) [] (plain_one (entry.Put lane.Out (item.Out (out.TargetReset smid address))) (λ s. refl) tt) tt
  puts_out out.Discover rest e = first_and (entry.Put lane.Out (item.Out out.Discover)) [] (plain_one (entry.Put lane.Out (item.Out out.Discover)) (λ s. refl) tt) tt
  puts_out (out.Link generation) rest e = first_and (entry.Put lane.Out (item.Out (out.Link generation))) [] (plain_one (entry.Put lane.Out (item.Out (out.Link generation))) (λ s. refl) tt) tt
  puts_out out.Stop rest e = first_and (entry.Put lane.Out (item.Out out.Stop)) [] (plain_one (entry.Put lane.Out (item.Out out.Stop)) (λ s. refl) tt) tt

  takes_out : (x : Out) (rest : List Out) → w.out ≡ x ∷ rest → Pass (entry.Take lane.Out (item.Out x) ∷ [])
  takes_out (out.Task tag address command) rest e =
      first_and (entry.Take lane.Out (item.Out (out.Task tag address command))) []
      (task_asks tag address command (entry.Take lane.Out (item.Out (out.Task tag address command))) (TakesTask address command) Sent
      (All-head (OutIs w h) (out.Task tag address command) (rest ++ w.ioc.out) (subst (λ xs. All (OutIs w h) (xs ++ w.ioc.out)) e f.messages.out)) (λ s n. n) tt (λ o. ap (λ b. mark_if b (TakesTask address command)) (same tag))
      (λ q. (f.paths.stages tag q).sent (let c = sent_task_count-cons tag (out.Task tag address command) rest in let o : one_if (tag == tag) ≡ 1 = ap one_if (same tag) in let i = ap (sent_task_count tag) e in omega (arith, c, o, i))) (λ l a. a)) tt
  takes_out (out.Abort smid task) rest e = first_and (entry.Take lane.Out (item.Out (out.Abort smid task))) [] (plain_one (entry.Take lane.Out (item.Out (out.Abort smid task))) (λ s. refl) tt) tt
  takes_out (out.TargetReset smid address) rest e = first_and (entry.Take lane.Out (item.Out (out.TargetReset smid address))) [] (plain_one (entry.Take lane.Out (item.Out (out.TargetReset smid address))) (λ s. refl) tt) tt
  takes_out out.Discover rest e = first_and (entry.Take lane.Out (item.Out out.Discover)) [] (plain_one (entry.Take lane.Out (item.Out out.Discover)) (λ s. refl) tt) tt
  takes_out (out.Link generation) rest e = first_and (entry.Take lane.Out (item.Out (out.Link generation))) [] (plain_one (entry.Take lane.Out (item.Out (out.Link generation))) (λ s. refl) tt) tt
  takes_out out.Stop rest e = first_and (entry.Take lane.Out (item.Out out.Stop)) [] (plain_one (entry.Take lane.Out (item.Out out.Stop)) (λ s. refl) tt) tt

  runs : (tag address : ℕ) → (fab.runs w.fabric tag).answer ≡ Some address → Pass (entry.Run address tag ∷ [])
  runs tag address e = by_task (find (has_tag tag) w.fabric.tasks) refl e
    where
      by_task : (o : Option Task) → find (has_tag tag) w.fabric.tasks ≡ o → (runs_task w.fabric o).answer ≡ Some address → Pass (entry.Run address tag ∷ [])
      by_task None g c = absurd (cc)
      by_task (Some t) g c =
          let a : t.address ≡ address = cc in
          let q : t.tag ≡ tag = equal t.tag tag (found_passes (has_tag tag) w.fabric.tasks t g) in
          let i = subst (λ j. IsLiveTask t.address t.command (h.walk j).known.live) q (found_all (TaskIs h) (has_tag tag) w.fabric.tasks t g f.messages.tasks) in
          first_and (entry.Run address tag) []
          (task_asks tag t.address t.command (entry.Run address tag) (RunsAt address) AtDisk i (λ s n. n) tt (λ o. ap (λ b. mark_if b (RunsAt address)) (same tag)) (λ k. (f.paths.stages tag k).at_disk (tag_counted tag t w.fabric.tasks g)) (λ l b. sym a ∙ b.0)) tt

  -- ---- what the fabric tells

  back_asks : (tag n : ℕ) (e : Entry) (m : PathMark) (c : PathStage) → slot w.host tag ≡ Open (request.Command n) → ((s : ℕ) → (s == tag) ≡ false → Rattle.law_paths.proofs.Entries.names s e ≡ false) → IsNoAnswer e
      → ((live : Option Live) → path_mark_of tag live e ≡ Some m) → stage_of h tag ≡ c → ((l : Live) → MayFollow l (h.walk tag).stopped c m) → (s : ℕ) → WalkAsks s (h.walk s) e
  back_asks tag n e m c o k i mk st may =
      let r = known_live w h f n tag o in
      one_asks h tag e k i (named_asks tag (h.walk tag) e m r.0 (mk (h.walk tag).known.live) r.1 (staged r.0 (h.walk tag).stopped (stage_of h tag) c m st (may r.0)))

  result_slot : (tag : ℕ) (r : ScsiResult) → HasOutcome h (h.walk tag).known.live r → (n : ℕ) × (slot w.host tag ≡ Open (request.Command n))
  result_slot tag r a = by_live (h.walk tag).known.live refl a
    where
      by_live : (o : Option Live) → (h.walk tag).known.live ≡ o → HasOutcome h o r → (n : ℕ) × (slot w.host tag ≡ Open (request.Command n))
      by_live None i a = absurd a
      by_live (Some l) i a = (l.number, live_is_open w h f tag l i)

  puts_back : (x : Back) (rest : List Back) → w.fabric.out ≡ x ∷ rest → Pass (entry.Put lane.Back (item.Back x) ∷ [])
  puts_back (back.Result tag r) rest e =
      let o = result_slot tag r (All-head (BackIs h) (back.Result tag r) rest (subst (All (BackIs h)) e (all_last (BackIs h) w.back w.fabric.out f.messages.back))) in
      first_and (entry.Put lane.Back (item.Back (back.Result tag r))) []
      (back_asks tag o.0 (entry.Put lane.Back (item.Back (back.Result tag r))) (PutsResult r) HasRun o.1 (λ s n. n) tt (λ live. ap (λ b. mark_if b (PutsResult r)) (same tag))
      ((f.paths.stages tag (is_asked (slot w.host tag) o.0 o.1)).has_run (let c = result_count-cons tag (back.Result tag r) rest in let i : one_if (tag == tag) ≡ 1 = ap one_if (same tag) in let j = ap (result_count tag) e in omega (arith, c, i, j))) (λ l. tt)) tt
  puts_back (back.Gone tag) rest e =
      let t = All-head HasTag (back.Gone tag) rest (subst (All HasTag) e (made_tags w h f tags)) in
      let c : 1 ≤ gone_count tag w.fabric.out = (let a = gone_count-cons tag (back.Gone tag) rest in let i : one_if (tag == tag) ≡ 1 = ap one_if (same tag) in let j = ap (gone_count tag) e in omega (arith, a, i, j)) in
      let o = token_command tag t.0 t.1 (let a = gone_count-append tag w.back w.fabric.out in omega (arith, a, c)) in
      first_and (entry.Put lane.Back (item.Back (back.Gone tag))) []
      (back_asks tag o.0 (entry.Put lane.Back (item.Back (back.Gone tag))) PutsGone AtDisk o.1 (λ s n. n) tt (λ live. ap (λ b. mark_if b PutsGone) (same tag)) ((f.paths.stages tag (is_asked (slot w.host tag) o.0 o.1)).ended (omega (arith, c))) (λ l. tt)) tt
  puts_back (back.Terminated tag) rest e =
      let t = All-head HasTag (back.Terminated tag) rest (subst (All HasTag) e (made_tags w h f tags)) in
      let c : 1 ≤ terminated_count tag w.fabric.out = (let a = terminated_count-cons tag (back.Terminated tag) rest in let i : one_if (tag == tag) ≡ 1 = ap one_if (same tag) in let j = ap (terminated_count tag) e in omega (arith, a, i, j)) in
      let o = token_command tag t.0 t.1 (let a = terminated_count-append tag w.back w.fabric.out in omega (arith, a, c)) in
      first_and (entry.Put lane.Back (item.Back (back.Terminated tag))) []
      (back_asks tag o.0 (entry.Put lane.Back (item.Back (back.Terminated tag))) PutsTerminated AtDisk o.1 (λ s n. n) tt (λ live. ap (λ b. mark_if b PutsTerminated) (same tag)) ((f.paths.stages tag (is_asked (slot w.host tag) o.0 o.1)).ended (omega (arith, c))) (λ l. tt)) tt
  puts_back (back.Aborted smid found) rest e = first_and (entry.Put lane.Back (item.Back (back.Aborted smid found))) [] (plain_one (entry.Put lane.Back (item.Back (back.Aborted smid found))) (λ s. refl) tt) tt
  puts_back (back.Cleared smid count) rest e = first_and (entry.Put lane.Back (item.Back (back.Cleared smid count))) [] (plain_one (entry.Put lane.Back (item.Back (back.Cleared smid count))) (λ s. refl) tt) tt
  puts_back (back.Plugged a p x y) rest e = first_and (entry.Put lane.Back (item.Back (back.Plugged a p x y))) [] (plain_one (entry.Put lane.Back (item.Back (back.Plugged a p x y))) (λ s. refl) tt) tt
  puts_back (back.Unplugged a p x y) rest e = first_and (entry.Put lane.Back (item.Back (back.Unplugged a p x y))) [] (plain_one (entry.Put lane.Back (item.Back (back.Unplugged a p x y))) (λ s. refl) tt) tt
  puts_back back.Discovered rest e = first_and (entry.Put lane.Back (item.Back back.Discovered)) [] (plain_one (entry.Put lane.Back (item.Back back.Discovered)) (λ s. refl) tt) tt
  puts_back (back.Linked generation) rest e = first_and (entry.Put lane.Back (item.Back (back.Linked generation))) [] (plain_one (entry.Put lane.Back (item.Back (back.Linked generation))) (λ s. refl) tt) tt
  puts_back back.Calm rest e = first_and (entry.Put lane.Back (item.Back back.Calm)) [] (plain_one (entry.Put lane.Back (item.Back back.Calm)) (λ s. refl) tt) tt

  back_words : (x : Back) → EachEntry IsFree (adapter.takes_back w.ioc x).entries
  back_words x = quiet_free (adapter.takes_back w.ioc x).entries (told_quiet (adapter.takes_back w.ioc x).entries (told_back w.ioc x) (tame.back_tame w.ioc x)) (tame.back_tame w.ioc x)

  takes_back : (x : Back) (rest : List Back) → w.back ≡ x ∷ rest → Pass (entry.Take lane.Back (item.Back x) ∷ (adapter.takes_back w.ioc x).entries)
  takes_back (back.Result tag r) rest e =
      let o = result_slot tag r (All-head (BackIs h) (back.Result tag r) (rest ++ w.fabric.out) (subst (λ xs. All (BackIs h) (xs ++ w.fabric.out)) e f.messages.back)) in
      first_and (entry.Take lane.Back (item.Back (back.Result tag r))) (adapter.takes_back w.ioc (back.Result tag r)).entries
      (back_asks tag o.0 (entry.Take lane.Back (item.Back (back.Result tag r))) (TakesResult r) (SaysResult r) o.1 (λ s n. n) tt (λ live. ap (λ b. mark_if b (TakesResult r)) (same tag)) (All-head (BackStage h) (back.Result tag r) rest (subst (All (BackStage h)) e f.paths.back)) (λ l. refl)) (back_words (back.Result tag r))
  takes_back (back.Gone tag) rest e =
      let t = All-head HasTag (back.Gone tag) rest (subst (All HasTag) e (lane_tags w h f tags)) in
      let o = token_command tag t.0 t.1 (let a = gone_count-append tag w.back w.fabric.out in let b = gone_count-cons tag (back.Gone tag) rest in let i : one_if (tag == tag) ≡ 1 = ap one_if (same tag) in let j = ap (gone_count tag) e in omega (arith, a, b, i, j)) in
      first_and (entry.Take lane.Back (item.Back (back.Gone tag))) (adapter.takes_back w.ioc (back.Gone tag)).entries
      (back_asks tag o.0 (entry.Take lane.Back (item.Back (back.Gone tag))) TakesGone SaysGone o.1 (λ s n. n) tt (λ live. ap (λ b. mark_if b TakesGone) (same tag)) (All-head (BackStage h) (back.Gone tag) rest (subst (All (BackStage h)) e f.paths.back)) (λ l. tt)) (back_words (back.Gone tag))
  takes_back (back.Terminated tag) rest e =
      let t = All-head HasTag (back.Terminated tag) rest (subst (All HasTag) e (lane_tags w h f tags)) in
      let o = token_command tag t.0 t.1 (let a = terminated_count-append tag w.back w.fabric.out in let b = terminated_count-cons tag (back.Terminated tag) rest in let i : one_if (tag == tag) ≡ 1 = ap one_if (same tag) in let j = ap (terminated_count tag) e in omega (arith, a, b, i, j)) in
      first_and (entry.Take lane.Back (item.Back (back.Terminated tag))) (adapter.takes_back w.ioc (back.Terminated tag)).entries
      (back_asks tag o.0 (entry.Take lane.Back (item.Back (back.Terminated tag))) TakesTerminated SaysTerminated o.1 (λ s n. n) tt (λ live. ap (λ b. mark_if b TakesTerminated) (same tag)) (All-head (BackStage h) (back.Terminated tag) rest (subst (All (BackStage h)) e f.paths.back)) (λ l. tt)) (back_words (back.Terminated tag))
  takes_back (back.Aborted smid found) rest e = first_and (entry.Take lane.Back (item.Back (back.Aborted smid found))) (adapter.takes_back w.ioc (back.Aborted smid found)).entries (plain_one (entry.Take lane.Back (item.Back (back.Aborted smid found))) (λ s. refl) tt) (back_words (back.Aborted smid found))
  takes_back (back.Cleared smid count) rest e = first_and (entry.Take lane.Back (item.Back (back.Cleared smid count))) (adapter.takes_back w.ioc (back.Cleared smid count)).entries (plain_one (entry.Take lane.Back (item.Back (back.Cleared smid count))) (λ s. refl) tt) (back_words (back.Cleared smid count))
  takes_back (back.Plugged a p x y) rest e = first_and (entry.Take lane.Back (item.Back (back.Plugged a p x y))) (adapter.takes_back w.ioc (back.Plugged a p x y)).entries (plain_one (entry.Take lane.Back (item.Back (back.Plugged a p x y))) (λ s. refl) tt) (back_words (back.Plugged a p x y))
  takes_back (back.Unplugged a p x y) rest e = first_and (entry.Take lane.Back (item.Back (back.Unplugged a p x y))) (adapter.takes_back w.ioc (back.Unplugged a p x y)).entries (plain_one (entry.Take lane.Back (item.Back (back.Unplugged a p x y))) (λ s. refl) tt) (back_words (back.Unplugged a p x y))
  takes_back back.Discovered rest e = first_and (entry.Take lane.Back (item.Back back.Discovered)) (adapter.takes_back w.ioc back.Discovered).entries (plain_one (entry.Take lane.Back (item.Back back.Discovered)) (λ s. refl) tt) (back_words back.Discovered)
  takes_back (back.Linked generation) rest e = first_and (entry.Take lane.Back (item.Back (back.Linked generation))) (adapter.takes_back w.ioc (back.Linked generation)).entries (plain_one (entry.Take lane.Back (item.Back (back.Linked generation))) (λ s. refl) tt) (back_words (back.Linked generation))
  takes_back back.Calm rest e = first_and (entry.Take lane.Back (item.Back back.Calm)) (adapter.takes_back w.ioc back.Calm).entries (plain_one (entry.Take lane.Back (item.Back back.Calm)) (λ s. refl) tt) (back_words back.Calm)

  -- ---- replies

  said_open : (queue s : ℕ) (frame : Option (List ℕ)) (page sense : List ℕ) → 1 ≤ s → SaidIs w h queue (Rattle.mpt_rules.specs.World.Lines.said_reply s frame page sense) → (r : Request) × (slot w.host s ≡ Open r)
  said_open queue Rattle.std.proofs.Common.zero frame page sense l a = absurd (omega (arith, l))
  said_open queue (Rattle.std.proofs.Common.suc i) None page sense l a = by_slot (slot w.host (Rattle.std.proofs.Common.suc i)) refl a
    where
      by_slot : (x : Slot Request) → slot w.host (Rattle.std.proofs.Common.suc i) ≡ x → Rattle.law_facts.specs.Messages.AnswersBy w h queue (Rattle.std.proofs.Common.suc i) (said.Success (Rattle.std.proofs.Common.suc i) page sense) x → (r : Request) × (slot w.host (Rattle.std.proofs.Common.suc i) ≡ Open r)
      by_slot Free o a = absurd a
      by_slot Parked o a = absurd a
      by_slot (Open r) o a = (r, o)
  said_open queue (Rattle.std.proofs.Common.suc i) (Some frame) page sense l a = by_slot (slot w.host (Rattle.std.proofs.Common.suc i)) refl a
    where
      by_slot : (x : Slot Request) → slot w.host (Rattle.std.proofs.Common.suc i) ≡ x → Rattle.law_facts.specs.Messages.AnswersBy w h queue (Rattle.std.proofs.Common.suc i) (said.Framed (Rattle.std.proofs.Common.suc i) frame page sense) x → (r : Request) × (slot w.host (Rattle.std.proofs.Common.suc i) ≡ Open r)
      by_slot Free o a = absurd a
      by_slot Parked o a = absurd a
      by_slot (Open r) o a = (r, o)

  -- a reply to a command's identifier is to an open command
  reply_slot : (queue d : ℕ) (frame : Option (List ℕ)) (page sense : List ℕ) → names_command (smid_in d) d ≡ true → SaidIs w h queue (Rattle.mpt_rules.specs.World.Lines.said_reply (smid_in d) frame page sense) → (n : ℕ) × (slot w.host (smid_in d) ≡ Open (request.Command n))
  reply_slot queue d frame page sense t a =
      let i = named_within d t in
      let o = said_open queue (smid_in d) frame page sense i.0 a in
      command_of_slot (smid_in d) o.0 o.1 (named_most d t)

  put_reply : (queue d : ℕ) (frame : Option (List ℕ)) (page sense : List ℕ) → RepliesAt w h (smid_in d) frame → SaidIs w h queue (Rattle.mpt_rules.specs.World.Lines.said_reply (smid_in d) frame page sense) → Pass (entry.Put (up_lane queue) (item.Up (up.Reply d frame page sense)) ∷ [])
  put_reply queue d frame page sense a b = by_name_of (names_command (smid_in d) d) refl
    where
      by_name_of : (c : Bool) → names_command (smid_in d) d ≡ c → Pass (entry.Put (up_lane queue) (item.Up (up.Reply d frame page sense)) ∷ [])
      by_name_of false t = first_and (entry.Put (up_lane queue) (item.Up (up.Reply d frame page sense))) [] (plain_one (entry.Put (up_lane queue) (item.Up (up.Reply d frame page sense))) (λ s. unnamed s d t) tt) tt
      by_name_of true t =
          let o = reply_slot queue d frame page sense t b in
          let r = known_live w h f o.0 (smid_in d) o.1 in
          first_and (entry.Put (up_lane queue) (item.Up (up.Reply d frame page sense))) []
          (one_asks h (smid_in d) (entry.Put (up_lane queue) (item.Up (up.Reply d frame page sense))) (λ s n. not_named s d n) tt
          (named_asks (smid_in d) (h.walk (smid_in d)) (entry.Put (up_lane queue) (item.Up (up.Reply d frame page sense))) (PutsReply (said_in frame)) r.0 (ap (λ b. mark_if b (PutsReply (said_in frame))) t) r.1
          (may_put h (smid_in d) r.0 (said_in frame) (stage_of h (smid_in d)) (a (is_asked (slot w.host (smid_in d)) o.0 o.1)).0))) tt

  puts_up : (queue : ℕ) (y : Said) (rest : List Said) (z : Up) → outbox_of w.ioc queue ≡ y ∷ rest → up_of y (slice_get w.ioc.ring 0) ≡ Some z → Pass (entry.Put (up_lane queue) (item.Up z) ∷ [])
  puts_up queue y rest z e u = by_put (put_is w h f tags fit queue y rest z e u)
    where
      by_put : IsPut w h queue z → Pass (entry.Put (up_lane queue) (item.Up z) ∷ [])
      by_put (AReply d frame page sense i a b) = subst (λ x. Pass (entry.Put (up_lane queue) (item.Up x) ∷ [])) (sym i) (put_reply queue d frame page sense a b)
      by_put (NoReply a) = first_and (entry.Put (up_lane queue) (item.Up z)) [] (plain_one (entry.Put (up_lane queue) (item.Up z)) a tt) tt

  -- ---- what the host takes

  take_reply : (queue d : ℕ) (frame : Option (List ℕ)) (page sense : List ℕ) (rest : List Up) → up_on w queue ≡ up.Reply d frame page sense ∷ rest → Pass (entry.Take (up_lane queue) (item.Up (up.Reply d frame page sense)) ∷ (hears_up w.host queue (up.Reply d frame page sense)).entries)
  take_reply queue d frame page sense rest e s = (first s, words (slot w.host (smid_in d)) refl s)
    where
      said_is : SaidIs w h queue (Rattle.mpt_rules.specs.World.Lines.said_reply (smid_in d) frame page sense)
      said_is = by_frame frame (All-head (SaidIs w h queue) (Rattle.mpt_rules.specs.World.Lines.said_of (up.Reply d frame page sense)) _ (subst (λ xs. All (SaidIs w h queue) (map Rattle.mpt_rules.specs.World.Lines.said_of xs ++ outbox_of w.ioc queue)) e (f.messages.said queue)))
        where
          by_frame : (o : Option (List ℕ)) → SaidIs w h queue (Rattle.mpt_rules.specs.World.Lines.said_of (up.Reply d o page sense)) → SaidIs w h queue (Rattle.mpt_rules.specs.World.Lines.said_reply (smid_in d) o page sense)
          by_frame o a = a

      up_is : is_command_asked (slot w.host (smid_in d)) ≡ true → stage_of h (smid_in d) ≡ Replied (said_in frame) (replies.ended frame page sense)
      up_is = All-head (UpStage w h) (up.Reply d frame page sense) rest (subst (All (UpStage w h)) e (f.paths.up queue))

      first : (s : ℕ) → WalkAsks s (h.walk s) (entry.Take (up_lane queue) (item.Up (up.Reply d frame page sense)))
      first = by_name_of (names_command (smid_in d) d) refl
        where
          by_name_of : (b : Bool) → names_command (smid_in d) d ≡ b → (s : ℕ) → WalkAsks s (h.walk s) (entry.Take (up_lane queue) (item.Up (up.Reply d frame page sense)))
          by_name_of false t = plain_one (entry.Take (up_lane queue) (item.Up (up.Reply d frame page sense))) (λ s. unnamed s d t) tt
          by_name_of true t =
              let o = reply_slot queue d frame page sense t said_is in
              let r = known_live w h f o.0 (smid_in d) o.1 in
              one_asks h (smid_in d) (entry.Take (up_lane queue) (item.Up (up.Reply d frame page sense))) (λ s n. not_named s d n) tt
              (named_asks (smid_in d) (h.walk (smid_in d)) (entry.Take (up_lane queue) (item.Up (up.Reply d frame page sense))) (TakesReply (said_in frame)) r.0 (ap (λ b. mark_if b (TakesReply (said_in frame))) t) r.1
              (staged r.0 (h.walk (smid_in d)).stopped (stage_of h (smid_in d)) (Replied (said_in frame) (replies.ended frame page sense)) (TakesReply (said_in frame)) (up_is (is_asked (slot w.host (smid_in d)) o.0 o.1)) refl))

      heard_at : (n : ℕ) → slot w.host (smid_in d) ≡ Open (request.Command n) → (s : ℕ) (l : Live) → (h.walk s).known.live ≡ Some l → (l.number == n) ≡ true → (walk_next s (h.walk s) (entry.Take (up_lane queue) (item.Up (up.Reply d frame page sense)))).stage ≡ Heard (replies.ended frame page sense)
      heard_at n o s l i t =
          let q : s ≡ smid_in d = one_command w h f n s (smid_in d) (live_is_open w h f s l i ∙ ap (λ j. Open (request.Command j)) (equal l.number n t)) o in
          subst (λ j. (walk_next j (h.walk j) (entry.Take (up_lane queue) (item.Up (up.Reply d frame page sense)))).stage ≡ Heard (replies.ended frame page sense)) (sym q)
          (leads_to (stage_of h (smid_in d)) (names_command (smid_in d) d) (TakesReply (said_in frame)) (let c = classed w h f (smid_in d) (request.Command n) o in let b = inside w h f (smid_in d) (request.Command n) o in Rattle.law_paths.proofs.Entries.is_named d b.0 (omega (arith, c)))
          ∙ (ap (λ k. stage_after k (TakesReply (said_in frame))) (up_is (is_asked (slot w.host (smid_in d)) n o))))

      others_free : (x : Slot Request) → slot w.host (smid_in d) ≡ x → ((r : Request) → record_of x ≡ Some r → tame.is_command r ≡ false) → EachEntry IsFree (replies.hears_reply_to (replies.takes_entry (replies.with_frame_heard w.host d frame) queue) (smid_in d) (record_of x) (replies.heard_of d frame page sense)).entries
      others_free x i n =
          quiet_free (replies.hears_reply_to (replies.takes_entry (replies.with_frame_heard w.host d frame) queue) (smid_in d) (record_of x) (replies.heard_of d frame page sense)).entries
          (subst (λ y. EachEntry IsQuiet (replies.hears_reply_to (replies.takes_entry (replies.with_frame_heard w.host d frame) queue) (smid_in d) (record_of y) (replies.heard_of d frame page sense)).entries) i (hears_quietly w.host queue (up.Reply d frame page sense)))
          (tame.reply_tame (replies.takes_entry (replies.with_frame_heard w.host d frame) queue) (smid_in d) (record_of x) (replies.heard_of d frame page sense) n)

      not_this : (r q : Request) → Some r ≡ Some q → tame.is_command r ≡ false → tame.is_command q ≡ false
      not_this r q e n = let a : r ≡ q = cc in ap tame.is_command (sym a) ∙ n

      words : (x : Slot Request) → slot w.host (smid_in d) ≡ x → (s : ℕ) → Passes (walk_next s) (WalkAsks s) (walk_next s (h.walk s) (entry.Take (up_lane queue) (item.Up (up.Reply d frame page sense)))) (replies.hears_reply_to (replies.takes_entry (replies.with_frame_heard w.host d frame) queue) (smid_in d) (record_of x) (replies.heard_of d frame page sense)).entries
      words Free i s = free_pass s (walk_next s (h.walk s) (entry.Take (up_lane queue) (item.Up (up.Reply d frame page sense)))) (replies.hears_reply_to (replies.takes_entry (replies.with_frame_heard w.host d frame) queue) (smid_in d) (record_of Free) (replies.heard_of d frame page sense)).entries (others_free Free i (λ r o. absurd (cc)))
      words Parked i s = free_pass s (walk_next s (h.walk s) (entry.Take (up_lane queue) (item.Up (up.Reply d frame page sense)))) (replies.hears_reply_to (replies.takes_entry (replies.with_frame_heard w.host d frame) queue) (smid_in d) (record_of Parked) (replies.heard_of d frame page sense)).entries (others_free Parked i (λ r o. absurd (cc)))
      words (Open (request.Command n)) i s = (answer_asks (walk_next s (h.walk s) (entry.Take (up_lane queue) (item.Up (up.Reply d frame page sense)))) n (replies.ended frame page sense) (λ l k t. heard_at n i s l k t), tt)
      words (Open (request.Abort n task)) i s = free_pass s (walk_next s (h.walk s) (entry.Take (up_lane queue) (item.Up (up.Reply d frame page sense)))) (replies.hears_reply_to (replies.takes_entry (replies.with_frame_heard w.host d frame) queue) (smid_in d) (record_of (Open (request.Abort n task))) (replies.heard_of d frame page sense)).entries (others_free (Open (request.Abort n task)) i (λ r o. not_this (request.Abort n task) r o refl))
      words (Open (request.TargetReset a)) i s = free_pass s (walk_next s (h.walk s) (entry.Take (up_lane queue) (item.Up (up.Reply d frame page sense)))) (replies.hears_reply_to (replies.takes_entry (replies.with_frame_heard w.host d frame) queue) (smid_in d) (record_of (Open (request.TargetReset a))) (replies.heard_of d frame page sense)).entries (others_free (Open (request.TargetReset a)) i (λ r o. not_this (request.TargetReset a) r o refl))
      words (Open (request.Leave a)) i s = free_pass s (walk_next s (h.walk s) (entry.Take (up_lane queue) (item.Up (up.Reply d frame page sense)))) (replies.hears_reply_to (replies.takes_entry (replies.with_frame_heard w.host d frame) queue) (smid_in d) (record_of (Open (request.Leave a))) (replies.heard_of d frame page sense)).entries (others_free (Open (request.Leave a)) i (λ r o. not_this (request.Leave a) r o refl))
      words (Open (request.Page a)) i s = free_pass s (walk_next s (h.walk s) (entry.Take (up_lane queue) (item.Up (up.Reply d frame page sense)))) (replies.hears_reply_to (replies.takes_entry (replies.with_frame_heard w.host d frame) queue) (smid_in d) (record_of (Open (request.Page a))) (replies.heard_of d frame page sense)).entries (others_free (Open (request.Page a)) i (λ r o. not_this (request.Page a) r o refl))
      words (Open (request.Remove a)) i s = free_pass s (walk_next s (h.walk s) (entry.Take (up_lane queue) (item.Up (up.Reply d frame page sense)))) (replies.hears_reply_to (replies.takes_entry (replies.with_frame_heard w.host d frame) queue) (smid_in d) (record_of (Open (request.Remove a))) (replies.heard_of d frame page sense)).entries (others_free (Open (request.Remove a)) i (λ r o. not_this (request.Remove a) r o refl))
      words (Open (request.Ack a b)) i s = free_pass s (walk_next s (h.walk s) (entry.Take (up_lane queue) (item.Up (up.Reply d frame page sense)))) (replies.hears_reply_to (replies.takes_entry (replies.with_frame_heard w.host d frame) queue) (smid_in d) (record_of (Open (request.Ack a b))) (replies.heard_of d frame page sense)).entries (others_free (Open (request.Ack a b)) i (λ r o. not_this (request.Ack a b) r o refl))
      words (Open request.Notification) i s = free_pass s (walk_next s (h.walk s) (entry.Take (up_lane queue) (item.Up (up.Reply d frame page sense)))) (replies.hears_reply_to (replies.takes_entry (replies.with_frame_heard w.host d frame) queue) (smid_in d) (record_of (Open request.Notification)) (replies.heard_of d frame page sense)).entries (others_free (Open request.Notification) i (λ r o. not_this request.Notification r o refl))
      words (Open request.PortEnable) i s = free_pass s (walk_next s (h.walk s) (entry.Take (up_lane queue) (item.Up (up.Reply d frame page sense)))) (replies.hears_reply_to (replies.takes_entry (replies.with_frame_heard w.host d frame) queue) (smid_in d) (record_of (Open request.PortEnable)) (replies.heard_of d frame page sense)).entries (others_free (Open request.PortEnable) i (λ r o. not_this request.PortEnable r o refl))

  takes_up : (queue : ℕ) (x : Up) (rest : List Up) → up_on w queue ≡ x ∷ rest → Pass (entry.Take (up_lane queue) (item.Up x) ∷ (hears_up w.host queue x).entries)
  takes_up queue (up.Value value) rest e = first_and (entry.Take (up_lane queue) (item.Up (up.Value value))) (hears_up w.host queue (up.Value value)).entries (plain_one (entry.Take (up_lane queue) (item.Up (up.Value value))) (λ s. refl) tt) (value_free (record w.host { reading = false }) w.host.machine value)
  takes_up queue (up.Mark generation) rest e = first_and (entry.Take (up_lane queue) (item.Up (up.Mark generation))) (hears_up w.host queue (up.Mark generation)).entries (plain_one (entry.Take (up_lane queue) (item.Up (up.Mark generation))) (λ s. refl) tt) (over_free (record w.host { marks = slice_set w.host.marks queue true }))
  takes_up queue up.Calm rest e = first_and (entry.Take (up_lane queue) (item.Up up.Calm)) [] (plain_one (entry.Take (up_lane queue) (item.Up up.Calm)) (λ s. refl) tt) tt
  takes_up queue (up.Reply d frame page sense) rest e = take_reply queue d frame page sense rest e

  -- ---- what is asked of the host

  submitted : (n a : ℕ) (form : CommandForm) (used up : Bool) (handle : Option ℕ) (fit : Bool) (least : Option ℕ) → ((s : ℕ) → least ≡ Some s → IsLeast class.ScsiIo w.host.pool s)
      → Pass (by_result (input.Submit n a form) (entry.RefuseSubmit n) (submits_by w.host n a (command_named form) used up handle fit least)).entries
  submitted n a form true up handle fit least l s = (tt, (tt, tt))
  submitted n a form false false handle fit least l s = (tt, (tt, tt))
  submitted n a form false true None fit least l s = (tt, (tt, tt))
  submitted n a form false true (Some x) false least l s = (tt, (tt, tt))
  submitted n a form false true (Some x) true None l s = (tt, (tt, tt))
  submitted n a form false true (Some x) true (Some q) l s = (tt, (by_key (q == s) refl, tt))
    where
      unknown : (h.walk q).known.live ≡ None
      unknown = subst (IsUnknown w h q) (l q refl).free (f.messages.unknown q)

      by_key : (b : Bool) → (q == s) ≡ b → WalkAsks s (walk_next s (h.walk s) (entry.Given (input.Submit n a form))) (entry.Accept n a q)
      by_key false t = unnamed_free s (walk_next s (h.walk s) (entry.Given (input.Submit n a form))) (entry.Accept n a q) (Rattle.law_paths.proofs.Entries.turned q s t) tt
      by_key true t = accept_asks s (walk_next s (h.walk s) (entry.Given (input.Submit n a form))) n a q (ap (λ j. (h.walk j).known.live) (sym (equal q s t)) ∙ unknown)

  told : (i : Input) → IsHosts i → Pass (host_told w.host i).entries
  told input.Start c = free (host_told w.host input.Start).entries (quiet_free (host_told w.host input.Start).entries (input_quiet (host_told w.host input.Start).entries (input_words w.host input.Start) (tame.option_tame input.Start call.Start (inputs.starts_in w.host w.host.mode) (tame.starts_tame w.host w.host.mode))) (tame.option_tame input.Start call.Start (inputs.starts_in w.host w.host.mode) (tame.starts_tame w.host w.host.mode)))
  told (input.Submit n d form) c = submitted n d form (finset.contains w.host.accepted n) (is_up w.host.mode) (ready_handle w.host.phases d) (fits (command_named form)) (least_free class.ScsiIo w.host.pool) (λ s e. least_is class.ScsiIo w.host.pool s e)
  told (input.Abort n) c =
      let o = aborts_by w.host n (is_up w.host.mode) (finmap.get w.host.cmds n) (finmap.get w.host.aborts n) (least_free class.High w.host.pool) in
      let a = tame.result_tame (input.Abort n) (entry.Refuse (call.Abort n)) o (λ x. tt) (tame.aborts_tame w.host n (is_up w.host.mode) (finmap.get w.host.cmds n) (finmap.get w.host.aborts n) (least_free class.High w.host.pool)) in
      free (host_told w.host (input.Abort n)).entries (quiet_free (host_told w.host (input.Abort n)).entries (input_quiet (host_told w.host (input.Abort n)).entries (input_words w.host (input.Abort n)) a) a)
  told (input.TargetReset address) c =
      let o = resets_target_by w.host address (is_up w.host.mode) (ready_handle w.host.phases address) (least_free class.High w.host.pool) in
      let a = tame.result_tame (input.TargetReset address) (entry.Refuse (call.TargetReset address)) o (λ x. tt) (tame.targets_tame w.host address (is_up w.host.mode) (ready_handle w.host.phases address) (least_free class.High w.host.pool)) in
      free (host_told w.host (input.TargetReset address)).entries (quiet_free (host_told w.host (input.TargetReset address)).entries (input_quiet (host_told w.host (input.TargetReset address)).entries (input_words w.host (input.TargetReset address)) a) a)
  told input.Reset c = let a = tame.option_tame input.Reset call.Reset (inputs.diag_resets_in w.host w.host.mode) (tame.diag_tame w.host w.host.mode) in free (host_told w.host input.Reset).entries (quiet_free (host_told w.host input.Reset).entries (input_quiet (host_told w.host input.Reset).entries (input_words w.host input.Reset) a) a)
  told input.UnitReset c = let a = tame.option_tame input.UnitReset call.UnitReset (inputs.unit_resets_in w.host w.host.mode) (tame.unit_tame w.host w.host.mode) in free (host_told w.host input.UnitReset).entries (quiet_free (host_told w.host input.UnitReset).entries (input_quiet (host_told w.host input.UnitReset).entries (input_words w.host input.UnitReset) a) a)
  told (input.Plug address expander phy) c = absurd c
  told (input.Unplug address) c = absurd c

  works_high : (p : Post) (rest : List Post) → Pass (work.works_on (record w.ioc { high = rest }) p).entries
  works_high p rest = let t = (work.works_on (record w.ioc { high = rest }) p).entries in let a = tame.works_tame (record w.ioc { high = rest }) p in free t (quiet_free t (told_quiet t (told_high w.ioc (p ∷ rest)) a) a)

  works_normal : (p : Post) (rest : List Post) → Pass (work.works_on (record w.ioc { normal = rest }) p).entries
  works_normal p rest = let t = (work.works_on (record w.ioc { normal = rest }) p).entries in let a = tame.works_tame (record w.ioc { normal = rest }) p in free t (quiet_free t (told_quiet t (told_normal w.ioc (p ∷ rest)) a) a)

  abbrev OnCase : World → List Entry → Type 0
  OnCase v t = (s : ℕ) → Passes (walk_next s) (WalkAsks s) (h.walk s) t

  owes : OwesTold OnCase w
  owes =
      record {
        idles = λ c s. (tt, tt);
        host_puts = λ x rest e. puts_down x rest e;
        host_takes = λ queue x rest e y. takes_up queue x rest e;
        host_told = λ i c. told i c;
        host_looks = λ e s. tt;
        host_stops = λ e s. tt;
        no_session = λ s. tt;
        ioc_takes = λ x rest e. takes_down x rest e;
        ioc_high = λ p rest e. works_high p rest;
        ioc_normal = λ p rest e. works_normal p rest;
        ioc_puts_out = λ x rest e. puts_out x rest e;
        ioc_takes_back = λ x rest e. takes_back x rest e;
        ioc_puts = λ queue y rest z e u. puts_up queue y rest z e u;
        fabric_takes = λ x rest e. takes_out x rest e;
        fabric_says = λ x rest e s. tt;
        fabric_puts = λ x rest e. puts_back x rest e;
        fabric_runs = λ tag address e. runs tag address e;
        plugs = λ address expander phy t p. free t (plug_free t p);
        unplugs = λ address t p. free t (plug_free t p);
        calms = λ s. tt;
      }

  pub walks_pass : NothingIsStrange w → (c : Case) (s : ℕ) → Passes (walk_next s) (WalkAsks s) (h.walk s) (entries w c)
  walks_pass plain c = kept_told OnCase w plain owes c
