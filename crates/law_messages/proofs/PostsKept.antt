-- Each case keeps that the posts on their way and in the queues are what their records name.
use Rattle.std.proofs.Common.{◌≡◌, ◌≢◌, ℕ, zero, suc, ◌+◌, ◌-◌, ◌≤◌, ◌==◌, ◌&&◌, Bool, true, false, if◌then◌else◌, List, [], ◌∷◌, ◌++◌, append_assoc, get_or, map, slice_set, Option, Some, None, is_some, refl, ap, sym, ◌∙◌, subst, arith, ◌⊎◌, ◌||◌, inl, inr, cond, option_map}
use Rattle.std.specs.Prelude.{All}
use Rattle.std.specs.FinMap as finmap
use Rattle.std.specs.FinSet as finset
use Rattle.std.specs.List.{sum_by, find, list_any}
use Rattle.std.proofs.lemmas.List.Elements.{All-append, All-head, All-nil, All-tail}
use Rattle.mpi_doorbell.specs.DoorRegisters.{is_fault}
use Rattle.mpi_doorbell.specs.HostDoor.{HostDoor}
use Rattle.mpi_doorbell.specs.HostSteps.{diagnostic_reset, unit_reset}
use Rattle.mpi_doorbell.specs.declared.stage.Stage.{Stage as DoorStage}
use Rattle.mpi_doorbell.specs.declared.stage.Stage.TheVariants as door_stage
use Rattle.mpi_doorbell.specs.declared.state.IocState.{IocState}
use Rattle.mpi_doorbell.specs.declared.state.IocState.TheVariants as ioc_state
use Rattle.removal.specs.Handles.{ready_handle}
use Rattle.scsi_disk.specs.Command.{fits}
use Rattle.smid_pool.specs.Pool.{Slot, Free, Open, Parked, is_open, least_free, record_of, slot_of}
use Rattle.smid_pool.specs.declared.class.Class.TheVariants as class
use Rattle.mpt_wire.specs.Machine.Causes.{is_resetting, is_up}
use Rattle.mpt_wire.specs.Machine.State.{OpenRequest, MachineDisk}
use Rattle.mpt_wire.specs.Machine.View.{Seen, step_if}
use Rattle.mpt_wire.specs.Messages.Fields.{smid_in}
use Rattle.mpt_wire.specs.Walks.Passes.{EachEntry, state_after}
use Rattle.mpt_trace.specs.Command.{command_named}
use Rattle.mpt_trace.specs.declared.command_form.CommandForm.{CommandForm}
use Rattle.mpt_trace.specs.declared.entry.Entry.{Entry}
use Rattle.mpt_trace.specs.declared.entry.Entry.TheVariants as entry
use Rattle.mpt_trace.specs.declared.host_state.HostState.{HostState}
use Rattle.mpt_trace.specs.declared.host_state.HostState.TheVariants as state
use Rattle.mpt_trace.specs.declared.input.Input.{Input}
use Rattle.mpt_trace.specs.declared.input.Input.TheVariants as input
use Rattle.mpt_trace.specs.declared.item.Down.{Down}
use Rattle.mpt_trace.specs.declared.item.Down.TheVariants as down
use Rattle.mpt_trace.specs.declared.item.Item.TheVariants as item
use Rattle.mpt_trace.specs.declared.item.Up.{Up}
use Rattle.mpt_trace.specs.declared.item.Up.TheVariants as upward
use Rattle.mpt_trace.specs.declared.lane.LaneName.TheVariants as lane
use Rattle.mpt_trace.specs.declared.refusal.Refusal.TheVariants as refusal
use Rattle.mpt_trace.specs.declared.refusal.RefusedCall.TheVariants as call
use Rattle.mpt_rules.specs.declared.post.Post.{Post}
use Rattle.mpt_rules.specs.declared.request.Request.{Request}
use Rattle.mpt_rules.specs.declared.request.Request.TheVariants as request
use Rattle.mpt_rules.specs.declared.stage.Stage.TheVariants as stage
use Rattle.mpt_rules.specs.Fabric.Calls as fab
use Rattle.mpt_rules.specs.Host.Inputs as inputs
use Rattle.mpt_rules.specs.Host.Parts.{Host, Cmd}
use Rattle.mpt_rules.specs.Host.Replies as replies
use Rattle.mpt_rules.specs.Host.Returns.{after_sent}
use Rattle.mpt_rules.specs.Host.Takes.{hears_up, looks, stops}
use Rattle.mpt_rules.specs.Ioc.Parts.{state_of}
use Rattle.mpt_rules.specs.Ioc.Places.{is_reply_of}
use Rattle.mpt_rules.specs.Ioc.Steps as step
use Rattle.mpt_rules.specs.Ioc.Tables.{is_operational, is_ready}
use Rattle.mpt_rules.specs.Ioc.Takes as adapter
use Rattle.mpt_rules.specs.Outcome.{Happening}
use Rattle.mpt_rules.specs.World.Cases.{Case, by_host, entries, happens}
use Rattle.mpt_rules.specs.World.Counts.{how_many, one_if, post_count, queued_count, reply_count}
use Rattle.mpt_rules.specs.World.Inputs.{by_option, by_result, host_told}
use Rattle.mpt_rules.specs.World.Lines.{down_line, said_of}
use Rattle.mpt_rules.specs.World.PlaceCounts.{replies_on}
use Rattle.mpt_rules.specs.World.State.{World, up_lane, up_on, with_up}
use Rattle.mpt_rules.proofs.Counts.{how_many-append, post_count-append, reply_count-cons, reply_count-nil}
use Rattle.mpt_rules.proofs.HostCalls.{aborts_by, resets_target_by, submits_by}
use Rattle.law_facts.specs.Clock.{in_begun, is_linked_up, is_live}
use Rattle.law_facts.specs.DoorAhead.{IsInMode, WaitsAt}
use Rattle.law_facts.specs.Facts.{Facts}
use Rattle.law_facts.specs.History.{History, history_after}
use Rattle.law_facts.specs.Messages.{DownIsRecord, PostIsRecord, IsLiveTask, IsUnknown, TaskIs}
use Rattle.law_facts.specs.Words.{is_bare, is_load, is_post, slot}
use Rattle.law_flights.proofs.Least.{IsLeast, least_is}
use Rattle.law_moves.proofs.Cases.{IsHosts}
use Rattle.law_moves.proofs.CasesTold.{OwesTold, kept_told}
use Rattle.law_moves.proofs.Counted.{how_many-cons, how_many-nil}
use Rattle.law_moves.proofs.HostGoes as goes
use Rattle.law_moves.proofs.HostGoes.{HostGoes, up_normal}
use Rattle.law_moves.proofs.HostSpeaks.{ComesUp, Rises, Stays}
use Rattle.law_moves.proofs.Phases.{and_false}
use Rattle.law_moves.proofs.Valuing.{HearsValue, IsOverNow, IsReady, SpeaksOn, TurnsOn, UnitLate}
use Rattle.law_clock.specs.Premises.{Before, Behind}
use Rattle.law_clock.proofs.PhaseKept as phase
use Rattle.law_lights.proofs.Ones.{sum_at}
use Rattle.std.specs.Ordering.{eq_by_cmp, nat_cmp}
use Rattle.std.proofs.lemmas.Bool.{eqb-true}
use Rattle.scsi_disk.specs.declared.scsi_result.ScsiResult.{ScsiResult}
use Rattle.mpt_wire.specs.Machine.Steps.{Runs, after_all, run_at}
use Rattle.mpt_wire.specs.Paths.Commands.{Live, live_after}
use Rattle.mpt_wire.specs.Paths.Stages.{walk_next}
use Rattle.mpt_rules.specs.declared.task.Task.{Task}
use Rattle.mpt_rules.specs.Fabric.Tasks.{has_tag, runs_task}
use Rattle.mpt_rules.specs.World.FabricCounts.{task_count}
use Rattle.law_facts.specs.Disks.{NumberStands}
use Rattle.law_facts.specs.Paths.{may_run}
use Rattle.law_messages.proofs.Leads.{Accepts, Away, Closed, Ends, Goes, Leads, Replied}
use Rattle.law_messages.proofs.Walks.{answered_live, numbers_stay, over_live, tame_live, tame_numbers}
use Rattle.law_messages.specs.Numbers.{AbortsAreAccepted}
use Rattle.law_messages.specs.Posts.{PostsStand}
use Rattle.law_messages.proofs.Agreeing.{Follows, OpensAgree, all_first, all_last, cmds_stay, items_move, none_posted, none_queued, no_posts_fit, not_both, opens_equal, opens_stay, queue_moves, same}
use Rattle.law_messages.proofs.HostAnswers.{reply_walks}
use Rattle.law_messages.proofs.HostAsks as asked
use Rattle.law_messages.proofs.HostValues as values
use Rattle.law_messages.proofs.HostValues.{Comes, Over, Walked}
use Rattle.law_messages.proofs.HostWalk as walk
use Rattle.law_messages.proofs.HostWalk.{Walk}
use Rattle.law_messages.proofs.IocQueues as queues
use Rattle.law_messages.proofs.Keys.{get_inserted, get_other_inserted, get_other_removed, get_removed, removed_less, same_key}
use Rattle.law_messages.proofs.Known.{inside, no_command, one_command, command_of}
use Rattle.law_messages.proofs.ReadyPlug.{ready_plug}
use Rattle.law_messages.proofs.Requests.{IsTame, accepted_requests, answered_requests, tame_requests, IsNoAccept, answered_outcome, over_no_accept, requests_less, run_requests, tame_no_accept, tame_outcome}
use Rattle.law_messages.proofs.TameTold as tame

-- ---- modes and states

starts_not : {T : Type 0} (x m : HostState) → x ≡ m → is_resetting m ≡ true → x ≡ state.Starting → T
starts_not x m e r s = not_both (is_resetting m) (ap is_resetting (sym e ∙ s)) r

no_load : (x : Down) → is_post x ≡ true → is_load x ≡ true
no_load (down.Post d f p) e = refl
no_load (down.Write reg value) e = absurd (cc)
no_load (down.Read reg) e = absurd (cc)
no_load (down.Return address index) e = refl
no_load down.Stop e = refl

few_posts : (xs : List Down) → how_many is_post xs ≤ how_many is_load xs
few_posts [] = let a = how_many-nil {X = Down} is_post in omega (arith, a)
few_posts (x ∷ xs) = by_test (is_post x) refl (few_posts xs) (how_many-cons is_post x xs) (how_many-cons is_load x xs)
  where
    by_test : (b : Bool) → is_post x ≡ b → how_many is_post xs ≤ how_many is_load xs → how_many is_post (x ∷ xs) ≡ one_if (is_post x) + how_many is_post xs → how_many is_load (x ∷ xs) ≡ one_if (is_load x) + how_many is_load xs → how_many is_post (x ∷ xs) ≤ how_many is_load (x ∷ xs)
    by_test true e h a c = let o = ap one_if e in let l = ap one_if (no_load x e) in omega (arith, h, a, c, o, l)
    by_test false e h a c = let o = ap one_if e in omega (arith, h, a, c, o)

ready_not_live : (s : IocState) → is_ready s ≡ true → (is_operational s ≡ false) × (is_bare s ≡ true)
ready_not_live ioc_state.Ready e = (refl, refl)
ready_not_live ioc_state.Operational e = absurd (cc)
ready_not_live ioc_state.Reset e = absurd (cc)
ready_not_live (ioc_state.Fault code) e = absurd (cc)

pool_sent : (x : Host) (y : Down) (rest : List Down) → (after_sent x y rest).pool ≡ x.pool
pool_sent x (down.Post d f p) rest = refl
pool_sent x (down.Write reg value) rest = refl
pool_sent x (down.Read reg) rest = refl
pool_sent x (down.Return address index) rest = refl
pool_sent x down.Stop rest = refl

cmds_sent : (x : Host) (y : Down) (rest : List Down) → (after_sent x y rest).cmds ≡ x.cmds
cmds_sent x (down.Post d f p) rest = refl
cmds_sent x (down.Write reg value) rest = refl
cmds_sent x (down.Read reg) rest = refl
cmds_sent x (down.Return address index) rest = refl
cmds_sent x down.Stop rest = refl

indices_sent : (x : Host) (y : Down) (rest : List Down) → (after_sent x y rest).indices ≡ x.indices
indices_sent x (down.Post d f p) rest = refl
indices_sent x (down.Write reg value) rest = refl
indices_sent x (down.Read reg) rest = refl
indices_sent x (down.Return address index) rest = refl
indices_sent x down.Stop rest = refl

out_sent : (x : Host) (y : Down) (rest : List Down) → (after_sent x y rest).out ≡ rest
out_sent x (down.Post d f p) rest = refl
out_sent x (down.Write reg value) rest = refl
out_sent x (down.Read reg) rest = refl
out_sent x (down.Return address index) rest = refl
out_sent x down.Stop rest = refl

-- a world with the same tables
moved : (w : World) (h : History) (v : World) (k : History) → v.host.pool ≡ w.host.pool → v.host.cmds ≡ w.host.cmds → v.host.indices ≡ w.host.indices → k.machine.requests ≡ h.machine.requests → Follows w h v k 0
moved w h v k p c i r =
    record {
      queues = ap Rattle.std.proofs.Common.length i;
      slots = λ s q n e. ap (λ x. slot_of x s) p ∙ e;
      cmds = λ s q n e. subst (λ x. Rattle.law_messages.proofs.Agreeing.CmdsAgree w.host.cmds x q) (sym c) (cmds_stay w.host.cmds q);
      opens = λ s q n e. opens_equal h.machine.requests k.machine.requests q r;
    }

-- they stand in a world of the same tables, whose posts are of those
carried : (w : World) (h : History) (v : World) (k : History) → Follows w h v k 0 → All (DownIsRecord w h) (down_line v) → queues.Queued (PostIsRecord w h) v.ioc → PostsStand v k
carried w h v k f d q =
    record {
      down = items_move w h v k 0 f (down_line v) (none_posted w h 0 refl (down_line v) d) d;
      high = queue_moves w h v k 0 f v.ioc.high (none_queued w h 0 refl v.ioc.high q.0) q.0;
      normal = queue_moves w h v k 0 f v.ioc.normal (none_queued w h 0 refl v.ioc.normal q.1) q.1;
    }

known_by : (v : World) (h k : History) → k.machine.requests ≡ h.machine.requests → PostsStand v h → PostsStand v k
known_by v h k r s = carried v h v k (moved v h v k refl refl refl r) s.down (s.high, s.normal)

module _ (w : World) (h : History) (f : Facts w h) where
  in_mode : (o : Option HostDoor) → w.host.machine ≡ o → is_some o ≡ true → IsInMode w w.host.stage
  in_mode None e t = absurd (cc)
  in_mode (Some d) e t = by_stage d.stage (f.doorbell.stage.machine d e)
    where
      by_stage : (s : DoorStage) → WaitsAt w s → IsInMode w w.host.stage
      by_stage (door_stage.Awaits x) a = a.1
      by_stage (door_stage.Reads x) a = absurd a
      by_stage door_stage.Opens a = absurd a
      by_stage (door_stage.WritesKey place) a = absurd a
      by_stage door_stage.Locks a = absurd a
      by_stage door_stage.ResetsUnit a = absurd a
      by_stage door_stage.Finishes a = absurd a
      by_stage door_stage.Ended a = absurd a

  pub in_mode_of : is_some w.host.machine ≡ true → IsInMode w w.host.stage
  in_mode_of t = in_mode w.host.machine refl t

  pub ready_resets_of : w.host.door_ready ≡ true → is_resetting w.host.mode ≡ true
  ready_resets_of e = (and_false (is_resetting w.host.mode) _ (and_false (in_begun w) (is_ready (state_of w.ioc)) (f.clock.value_is_last.ready e).linked).0).0

-- one that passes
pub found_passes : {X : Type 0} (test : X → Bool) (xs : List X) (x : X) → find test xs ≡ Some x → test x ≡ true
found_passes test [] x e = absurd (cc)
found_passes test (y ∷ ys) x e = by_test (test y) refl e (found_passes test ys x)
  where
    by_test : (b : Bool) → test y ≡ b → cond b (Some y) (find test ys) ≡ Some x → (find test ys ≡ Some x → test x ≡ true) → test x ≡ true
    by_test true t f h = let same : y ≡ x = cc in subst (λ z. test z ≡ true) same t
    by_test false t f h = h f

pub found_all : {X : Type 0} (P : X → Type 0) (test : X → Bool) (xs : List X) (x : X) → find test xs ≡ Some x → All P xs → P x
found_all P test [] x e a = absurd (cc)
found_all P test (y ∷ ys) x e a = by_test (test y) e (λ f. found_all P test ys x f (All-tail P y ys a))
  where
    by_test : (b : Bool) → cond b (Some y) (find test ys) ≡ Some x → (find test ys ≡ Some x → P x) → P x
    by_test true f h = let same : y ≡ x = cc in subst P same (All-head P y ys a)
    by_test false f h = h f

pub found_counts : {X : Type 0} (test : X → Bool) (xs : List X) (x : X) → find test xs ≡ Some x → 1 ≤ how_many test xs
unfolding how_many
found_counts test [] x e = absurd (cc)
found_counts test (y ∷ ys) x e = by_test (test y) e (found_counts test ys x)
  where
    by_test : (b : Bool) → cond b (Some y) (find test ys) ≡ Some x → (find test ys ≡ Some x → 1 ≤ how_many test ys) → 1 ≤ one_if b + how_many test ys
    by_test true f h = omega arith
    by_test false f h = let k = h f in omega (arith, k)

-- a command that the trace knows is one of the host's records
module _ (w : World) (h : History) (f : Facts w h) where
  pub open_request : (n : ℕ) (c : Cmd) → finmap.get w.host.cmds n ≡ Some c → (r : OpenRequest) × (finmap.get h.machine.requests n ≡ Some r)
  open_request n c e = by_request (finmap.get h.machine.requests n) refl
    where
      by_request : (o : Option OpenRequest) → finmap.get h.machine.requests n ≡ o → (r : OpenRequest) × (finmap.get h.machine.requests n ≡ Some r)
      by_request None g = not_both (is_some (finmap.get h.machine.requests n)) (ap is_some g) ((f.disks.numbers n).requests ∙ ap is_some e)
      by_request (Some r) g = (r, g)

  -- what is known of an open command
  pub known_live : (n s : ℕ) → slot w.host s ≡ Open (request.Command n) → (l : Live) × ((h.walk s).known.live ≡ Some l) × (l.number ≡ n)
  known_live n s e = by_cmd (finmap.get w.host.cmds n) refl (command_of w h f n s e)
    where
      by_cmd : (o : Option Cmd) → finmap.get w.host.cmds n ≡ o → option_map (λ (c : Cmd). c.smid) o ≡ Some s → (l : Live) × ((h.walk s).known.live ≡ Some l) × (l.number ≡ n)
      by_cmd None g z = absurd (cc)
      by_cmd (Some c) g z =
          let r = open_request n c g in let y : c.smid ≡ s = cc in
          (record { number = n; address = (r.0).address; command = (r.0).command }, subst (λ j. (h.walk j).known.live ≡ Some (record { number = n; address = (r.0).address; command = (r.0).command })) y ((f.messages.named n).live c r.0 g r.1), refl)

  pub live_is_open : (s : ℕ) (l : Live) → (h.walk s).known.live ≡ Some l → slot w.host s ≡ Open (request.Command l.number)
  live_is_open s l e = by_slot (slot w.host s) refl (f.messages.unknown s)
    where
      none : {T : Type 0} → (h.walk s).known.live ≡ None → T
      none g = let a : None ≡ Some l = sym g ∙ e in absurd (cc)

      by_slot : (x : Slot Request) → slot w.host s ≡ x → IsUnknown w h s x → slot w.host s ≡ Open (request.Command l.number)
      by_slot Free g u = none u
      by_slot Parked g u = none u
      by_slot (Open (request.Command n)) g u = let z = known_live n s g in let a : Some z.0 ≡ Some l = sym z.1 ∙ e in let y : z.0 ≡ l = cc in g ∙ ap (λ j. Open (request.Command j)) (sym z.2 ∙ ap (λ (v : Live). v.number) y)
      by_slot (Open (request.Abort n task)) g u = none u
      by_slot (Open (request.TargetReset a)) g u = none u
      by_slot (Open (request.Leave handle)) g u = none u
      by_slot (Open (request.Page handle)) g u = none u
      by_slot (Open (request.Remove handle)) g u = none u
      by_slot (Open (request.Ack ev context)) g u = none u
      by_slot (Open request.Notification) g u = none u
      by_slot (Open request.PortEnable) g u = none u

  -- an identifier with no command has none that is known
  pub unknown_of : (s : ℕ) → ((n : ℕ) → slot w.host s ≡ Open (request.Command n) → ⊥) → (h.walk s).known.live ≡ None
  unknown_of s none = by_live (h.walk s).known.live refl
    where
      by_live : (o : Option Live) → (h.walk s).known.live ≡ o → o ≡ None
      by_live None e = refl
      by_live (Some l) e = absurd (none l.number (live_is_open s l e))

-- a task that runs has no outcome yet
module _ (w : World) (h : History) (f : Facts w h) where
  may_run_of : (tag : ℕ) → 1 ≤ how_many (has_tag tag) w.fabric.tasks → 1 ≤ may_run w tag
  unfolding task_count
  may_run_of tag c = omega (arith, c)

  unrun : (tag n : ℕ) (task : Task) → find (has_tag tag) w.fabric.tasks ≡ Some task → h.so_far.number_of tag ≡ Some n → h.machine.outcome n ≡ None
  unrun tag n task e g =
      let t = found_all (TaskIs h) (has_tag tag) w.fabric.tasks task e f.messages.tasks in
      let y : task.tag ≡ tag = eqb-true task.tag tag (found_passes (has_tag tag) w.fabric.tasks task e) in
      by_live (h.walk tag).known.live refl (subst (λ j. IsLiveTask task.address task.command (h.walk j).known.live) y t)
    where
      by_cmd : (l : Live) (o : Option Cmd) → finmap.get w.host.cmds l.number ≡ o → option_map (λ (c : Cmd). c.smid) o ≡ Some tag → h.machine.outcome n ≡ None
      by_cmd l None c z = absurd (cc)
      by_cmd l (Some c) i z =
          let q : c.smid ≡ tag = cc in
          let r = open_request w h f l.number c i in
          let k : Some l.number ≡ Some n = sym (subst (λ j. h.so_far.number_of j ≡ Some l.number) q ((f.messages.named l.number).number c i)) ∙ g in let m : l.number ≡ n = cc in
          let o = subst (λ j. NumberStands w h l.number j r.0) q (f.disks.opened l.number c r.0 i r.1) in
          let count = found_counts (has_tag tag) w.fabric.tasks task e in
          subst (λ j. h.machine.outcome j ≡ None) m (o.unrun (may_run_of tag count)).0

      by_live : (o : Option Live) → (h.walk tag).known.live ≡ o → IsLiveTask task.address task.command o → h.machine.outcome n ≡ None
      by_live None k t = absurd t
      by_live (Some l) k t = by_cmd l (finmap.get w.host.cmds l.number) refl (command_of w h f l.number tag (live_is_open w h f tag l k))

  pub run_outcomes : (tag address : ℕ) → (fab.runs w.fabric tag).answer ≡ Some address → (n : ℕ) (r : ScsiResult) → h.machine.outcome n ≡ Some r → (history_after h (entry.Run address tag ∷ [])).machine.outcome n ≡ Some r
  run_outcomes tag address e n r z = by_task (find (has_tag tag) w.fabric.tasks) refl e
    where
      other : (m : ℕ) → (h.so_far.number_of tag ≡ Some m) → (task : Task) → find (has_tag tag) w.fabric.tasks ≡ Some task → (q : Option OpenRequest) (d : Option MachineDisk) → (run_at h.machine m address q d).outcome n ≡ Some r
      other m g task i None d = z
      other m g task i (Some q) None = z
      other m g task i (Some q) (Some d) = by_key (n == m) refl
        where
          by_key : (b : Bool) → (n == m) ≡ b → (if b then Some (Rattle.scsi_disk.specs.Performed.performed d.bytes q.command).result else h.machine.outcome n) ≡ Some r
          by_key false t = z
          by_key true t = let c : None ≡ Some r = sym (subst (λ j. h.machine.outcome j ≡ None) (sym (eqb-true n m t)) (unrun tag m task i g)) ∙ z in absurd (cc)

      by_number : (o : Option ℕ) → h.so_far.number_of tag ≡ o → (task : Task) → find (has_tag tag) w.fabric.tasks ≡ Some task → (after_all h.machine (step_if o (λ m. Runs m address) ∷ [])).outcome n ≡ Some r
      by_number None g task i = z
      by_number (Some m) g task i = other m g task i (finmap.get h.machine.requests m) (h.machine.disks address)

      by_task : (o : Option Task) → find (has_tag tag) w.fabric.tasks ≡ o → (runs_task w.fabric o).answer ≡ Some address → (history_after h (entry.Run address tag ∷ [])).machine.outcome n ≡ Some r
      by_task None i c = absurd (cc)
      by_task (Some task) i c = by_number (h.so_far.number_of tag) refl task i

module _ (w : World) (h : History) (b : Before w h) where
  f : Facts w h
  f = b.facts

  seen : Seen
  seen = record { machine = h.machine; so_far = h.so_far }

  tame_after : (t : List Entry) → EachEntry IsTame t → (history_after h t).machine.requests ≡ h.machine.requests
  unfolding seen
  tame_after t a = tame_requests seen t a

  tame_told : (t : List Entry) → EachEntry IsTame t → (history_after h t).so_far.number_of ≡ h.so_far.number_of
  unfolding seen
  tame_told t a = tame_numbers seen t a

  tame_ran : (t : List Entry) → EachEntry IsTame t → (history_after h t).machine.outcome ≡ h.machine.outcome
  unfolding seen
  tame_ran t a = tame_outcome seen t a

  here : queues.Queued (PostIsRecord w h) w.ioc
  here = (f.messages.high, f.messages.normal)

  -- the host keeps its tables, and nothing is told that opens or closes a request
  kept_tables : (x : Host) (t : List Entry) → EachEntry IsTame t → x.pool ≡ w.host.pool → x.cmds ≡ w.host.cmds → x.indices ≡ w.host.indices → Leads w h x (history_after h t)
  kept_tables x t a p c i = Goes 0 (Closed refl) (record {
    follows = moved w h (record w { host = x }) (history_after h t) p c i (tame_after t a);
    less_cmds = λ n d e. sym (ap (λ m. finmap.get m n) c) ∙ e;
    less_opens = λ n r e. sym (ap (λ m. finmap.get m n) (tame_after t a)) ∙ e;
    gone = λ n e. absurd (cc);
    lives = λ s n. tame_live s (h.walk s) t a;
    ended = tame_live 0 (h.walk 0) t a ∙ unknown_of w h f 0 (λ n e. absurd (cc));
    numbers = tame_told t a;
    outcomes = λ n r e. ap (λ o. o n) (tame_ran t a) ∙ e;
  })

  rests : (t : List Entry) → EachEntry IsTame t → Leads w h w.host (history_after h t)
  rests t a = kept_tables w.host t a refl refl refl

  -- the host stays
  stays : (v : World) (t : List Entry) → v.host ≡ w.host → EachEntry IsTame t → All (DownIsRecord w h) (down_line v) → queues.Queued (PostIsRecord w h) v.ioc → PostsStand v (history_after h t) × Leads w h v.host (history_after h t)
  stays v t e a d q = (
    carried w h v (history_after h t) (moved w h v (history_after h t) (ap (λ (x : Host). x.pool) e) (ap (λ (x : Host). x.cmds) e) (ap (λ (x : Host). x.indices) e) (tame_after t a)) d q,
    subst (λ x. Leads w h x (history_after h t)) (sym e) (rests t a),
  )

  -- ---- the host walks

  -- an identifier with no post
  record Elsewhere (s : ℕ) : Type 0 where
    lane : post_count s w.down ≡ 0
    out : post_count s w.host.out ≡ 0
    high : queued_count s w.ioc.high ≡ 0
    normal : queued_count s w.ioc.normal ≡ 0

  closed_elsewhere : (s : ℕ) → is_open (slot w.host s) ≡ false → Elsewhere s
  closed_elsewhere s e =
      record {
        lane = none_posted w h s e w.down (all_first (DownIsRecord w h) w.down w.host.out f.messages.down);
        out = none_posted w h s e w.host.out (all_last (DownIsRecord w h) w.down w.host.out f.messages.down);
        high = none_queued w h s e w.ioc.high f.messages.high;
        normal = none_queued w h s e w.ioc.normal f.messages.normal;
      }

  abbrev OpensFollow : History → ℕ → Type 0
  OpensFollow k hand = (s : ℕ) (r : Request) → s ≢ hand → slot w.host s ≡ Open r → OpensAgree h.machine.requests k.machine.requests r

  same_opens : (k : History) (hand : ℕ) → k.machine.requests ≡ h.machine.requests → OpensFollow k hand
  same_opens k hand e s r n g = opens_equal h.machine.requests k.machine.requests r e

  known_before : {n : ℕ} {c : Cmd} → (finmap.get w.host.cmds n ≡ Some c) ⊎ (None ≡ Some n) → finmap.get w.host.cmds n ≡ Some c
  known_before (inl e) = e
  known_before (inr e) = absurd (cc)

  module _ (k : History) (hand : ℕ) (o : OpensFollow k hand) (z : Elsewhere hand) where
    start : walk.Walks w k hand None w.host
    start =
        record {
          table = f.flights.sizes.pool;
          queues = refl;
          fit = items_move w h (walk.With w k hand None w.host.pool w.host.cmds w.host.indices) k hand at_once w.host.out z.out (all_last (DownIsRecord w h) w.down w.host.out f.messages.down);
          slots = λ s r n e. e;
          agree = λ s r n e. cmds_stay w.host.cmds r;
          less = λ n c e. inl e;
        }
      where
        at_once : Follows w h (walk.With w k hand None w.host.pool w.host.cmds w.host.indices) k hand
        at_once = record { queues = refl; slots = λ s r n e. e; cmds = λ s r n e. cmds_stay w.host.cmds r; opens = o }

    -- what the host is then
    walked : (fresh : Option ℕ) (x : Host) → walk.Walks w k hand fresh x → PostsStand (record w { host = x }) k
    walked fresh x a =
        record {
          down = All-append (DownIsRecord (record w { host = x }) k) w.down x.out (items_move w h (record w { host = x }) k hand follows w.down z.lane (all_first (DownIsRecord w h) w.down w.host.out f.messages.down)) a.fit;
          high = queue_moves w h (record w { host = x }) k hand follows w.ioc.high z.high f.messages.high;
          normal = queue_moves w h (record w { host = x }) k hand follows w.ioc.normal z.normal f.messages.normal;
        }
      where
        follows : Follows w h (record w { host = x }) k hand
        follows = record { queues = a.queues; slots = a.slots; cmds = a.agree; opens = o }

  freshly : (k : History) (hand n : ℕ) → walk.Walks w k hand None w.host → walk.Walks w k hand (Some n) w.host
  freshly k hand n a = record { table = a.table; queues = a.queues; fit = a.fit; slots = a.slots; agree = a.agree; less = λ m c g. inl (known_before (a.less m c g)) }

  none : Elsewhere 0
  none = closed_elsewhere 0 refl

  begin : walk.Walks w h 0 None w.host
  begin = start h 0 (same_opens h 0 refl) none

  -- a walk that opens and closes no request
  quiet : (x : Host) (t : List Entry) → EachEntry IsTame t → walk.Walks w h 0 None x → PostsStand (record w { host = x }) (history_after h t) × Leads w h x (history_after h t)
  quiet x t a g = (
    known_by (record w { host = x }) h (history_after h t) (tame_after t a) (walked h 0 (same_opens h 0 refl) none None x g),
    Goes 0 (Closed refl) (record {
      follows = record { queues = g.queues; slots = g.slots; cmds = g.agree; opens = same_opens (history_after h t) 0 (tame_after t a) };
      less_cmds = λ n c e. known_before (g.less n c e);
      less_opens = λ n r e. sym (ap (λ m. finmap.get m n) (tame_after t a)) ∙ e;
      gone = λ n e. absurd (cc);
      lives = λ s n. tame_live s (h.walk s) t a;
      ended = tame_live 0 (h.walk 0) t a ∙ unknown_of w h f 0 (λ n e. absurd (cc));
      numbers = tame_told t a;
      outcomes = λ n r e. ap (λ o. o n) (tame_ran t a) ∙ e;
    }),
  )

  on_lanes : (queue : ℕ) (rest : List Up) (x : Host) (k : History) → PostsStand (record w { host = x }) k → PostsStand (record (with_up w queue rest) { host = x }) k
  on_lanes queue rest x k s = record { down = s.down; high = s.high; normal = s.normal }

  -- ---- a reset ends

  module _ (linked : is_linked_up w ≡ true) where
    bare : (is_live w ≡ false) × (is_bare (state_of w.ioc) ≡ true)
    bare = ready_not_live (state_of w.ioc) (and_false (in_begun w) (is_ready (state_of w.ioc)) linked).1

    no_lane_posts : how_many is_post w.down ≡ 0
    no_lane_posts = by_loads (how_many is_load (down_line w)) refl
      where
        by_loads : (n : ℕ) → how_many is_load (down_line w) ≡ n → how_many is_post w.down ≡ 0
        by_loads zero e = let a = few_posts w.down in let c = how_many-append is_load w.down w.host.out in omega (arith, a, c, e)
        by_loads (suc n) e = not_both (is_live w) bare.0 (f.clock.loads_before_reset.live (omega (arith, e)))

    ended : (x : Host) (k : History) → how_many is_post x.out ≡ 0 → PostsStand (record w { host = x }) k
    ended x k z =
        let t = f.clock.tables_empty bare.1 in let l = no_lane_posts in let a = how_many-append is_post w.down x.out in
        record {
          down = no_posts_fit (record w { host = x }) k (w.down ++ x.out) (omega (arith, l, a, z));
          high = subst (All (PostIsRecord (record w { host = x }) k)) (sym t.high) (All-nil (PostIsRecord (record w { host = x }) k));
          normal = subst (All (PostIsRecord (record w { host = x }) k)) (sym t.normal) (All-nil (PostIsRecord (record w { host = x }) k));
        }

  -- only behind a link
  risen : {e : Bool} (x m : HostState) → Rises e m x → e ≡ false → is_resetting m ≡ true → x ≡ state.Starting → is_linked_up w ≡ true
  risen x m (Stays q) n r s = starts_not x m q r s
  risen x m (ComesUp y u q) n r s = not_both (is_resetting m) u r

  by_value : (x : Host) → HearsValue w x → is_resetting w.host.mode ≡ true → x.mode ≡ state.Starting → is_linked_up w ≡ true
  by_value x (TurnsOn c g t p q) r s = starts_not x.mode w.host.mode t.mode_is r s
  by_value x (UnitLate m y t) r s = starts_not x.mode w.host.mode t.turn.mode_is r s
  by_value x (SpeaksOn m i t n p) r s = not_both (is_resetting w.host.mode) (ap is_resetting i) r
  by_value x (IsReady m y l t n a p q) r s = l
  by_value x (IsOverNow m y l t n a t2) r s = l

  up_not : {T : Type 0} → is_up w.host.mode ≡ true → is_resetting w.host.mode ≡ true → T
  up_not u r = not_both (is_resetting w.host.mode) (up_normal w.host.mode u).0 r

  by_leaf : {t : goes.Heard} (x : Host) → HostGoes w x t → is_resetting w.host.mode ≡ true → x.mode ≡ state.Starting → is_linked_up w ≡ true
  by_leaf x (goes.Same q) r s = starts_not x.mode w.host.mode (ap (λ (y : Host). y.mode) q) r s
  by_leaf x (goes.Says m o en p q) r s = not_both (is_resetting w.host.mode) m r
  by_leaf x (goes.Hands m p i z) r s = risen x.mode w.host.mode p.rises refl r s
  by_leaf x (goes.Values m v fr p) r s = by_value x p r s
  by_leaf x (goes.MarkTaken queue m q) r s = starts_not x.mode w.host.mode (ap (λ (y : Host). y.mode) q) r s
  by_leaf x (goes.MarkOver queue m g fr a c t) r s = (f.clock.value_is_last.ready a).linked
  by_leaf x (goes.Starts q t) r s = not_both (is_resetting w.host.mode) (ap is_resetting q) r
  by_leaf x (goes.Asks g m o y q) r s = not_both (is_resetting w.host.mode) m r
  by_leaf x (goes.AsksNow g c m o y u t l) r s = not_both (is_resetting w.host.mode) m r
  by_leaf x (goes.Looks u y t) r s = up_not u r
  by_leaf x (goes.StopsNow u q) r s = up_not u r

  any_key : (n : ℕ) (ns : List ℕ) → list_any (eq_by_cmp nat_cmp n) ns ≡ list_any (λ m. n == m) ns
  any_key n [] = refl
  any_key n (m ∷ ns) = ap (λ c. c || list_any (eq_by_cmp nat_cmp n) ns) (same_key n m) ∙ ap (λ c. (n == m) || c) (any_key n ns)

  -- what is open is answered as a reset ends
  answered_over : (s : ℕ) (l : Live) → (h.walk s).known.live ≡ Some l → list_any (λ n. l.number == n) (finmap.keys w.host.cmds) ≡ true
  answered_over s l e = sym (any_key l.number (finmap.keys w.host.cmds)) ∙ (sym (finmap.contains_key-keys w.host.cmds l.number) ∙ some_of (finmap.get w.host.cmds l.number) (command_of w h f l.number s (live_is_open w h f s l e)))
    where
      some_of : (o : Option Cmd) → option_map (λ (c : Cmd). c.smid) o ≡ Some s → is_some o ≡ true
      some_of None z = absurd (cc)
      some_of (Some c) z = refl

  comes : (o : Happening Host) (e : Entry) → IsTame e → ((is_resetting w.host.mode ≡ true) → o.part.mode ≡ state.Starting → is_linked_up w ≡ true) → Comes w h 0 o → PostsStand (record w { host = o.part }) (history_after h (e ∷ o.entries)) × Leads w h o.part (history_after h (e ∷ o.entries))
  unfolding seen
  comes o e t l (Walked g a) = quiet o.part (e ∷ o.entries) (t, a) g
  comes o e t l (Over r s z p c u a y) = (
    ended (l r s) o.part (history_after h (e ∷ o.entries)) z,
    Ends (l r s) p c
        (λ q. subst (λ x. (state_after (walk_next q) (walk_next q (h.walk q) e) x).known.live ≡ None) (sym y) (over_live q (finmap.keys w.host.cmds) (walk_next q (h.walk q) e) u a (λ v z. answered_over q v (sym (tame_live q (h.walk q) (e ∷ []) (t, tt)) ∙ z))))
        (λ n q z. requests_less n q seen (e ∷ o.entries) (tame_no_accept e t, subst (EachEntry IsNoAccept) (sym y) (over_no_accept (finmap.keys w.host.cmds) u a)) z),
  )

  -- ---- an item comes up

  outbox : is_resetting w.host.mode ≡ true → how_many is_post w.host.out ≡ 0
  outbox r = f.clock.loads_before_reset.outbox r

  -- ---- a reply

  module _ (queue d : ℕ) (g : Option (List ℕ)) (page sense : List ℕ) (rest : List Up) (e : up_on w queue ≡ upward.Reply d g page sense ∷ rest) where
    abbrev it : ℕ
    it = smid_in d

    replied : 1 ≤ sum_by (replies_on (smid_in d)) w.up
    replied =
        let a : replies_on (smid_in d) (up_on w queue) ≡ reply_count (smid_in d) (said_of (upward.Reply d g page sense) ∷ map said_of rest) = ap (replies_on (smid_in d)) e in
        let c = reply_count-cons (smid_in d) (said_of (upward.Reply d g page sense)) (map said_of rest) in
        let t : one_if (is_reply_of (smid_in d) (said_of (upward.Reply d g page sense))) ≡ 1 = ap one_if (its g) in
        let m = sum_at (replies_on (smid_in d)) [] (reply_count-nil (smid_in d)) w.up queue in
        omega (arith, a, c, t, m)
      where
        its : (o : Option (List ℕ)) → is_reply_of (smid_in d) (said_of (upward.Reply d o page sense)) ≡ true
        its None = same (smid_in d)
        its (Some x) = same (smid_in d)

    elsewhere : (x : Slot Request) → slot w.host (smid_in d) ≡ x → Elsewhere (smid_in d)
    elsewhere Free y = closed_elsewhere (smid_in d) (ap is_open y)
    elsewhere Parked y = closed_elsewhere (smid_in d) (ap is_open y)
    elsewhere (Open r) y =
        let i = inside w h f (smid_in d) r y in let m = (f.flights.identifiers (smid_in d) i.0 i.1).at_most in let n = replied in let a = post_count-append (smid_in d) w.down w.host.out in
        record { lane = omega (arith, m, n, a); out = omega (arith, m, n, a); high = omega (arith, m, n, a); normal = omega (arith, m, n, a) }

    abbrev after_entry : Host
    after_entry = replies.takes_entry (replies.with_frame_heard w.host d g) queue

    abbrev taking : Entry
    taking = entry.Take (up_lane queue) (item.Up (upward.Reply d g page sense))

    abbrev told_by : Option Request → List Entry
    told_by o = taking ∷ (replies.hears_reply_to after_entry (smid_in d) o (replies.heard_of d g page sense)).entries

    -- what the trace knows behind the reply
    record Known (k : History) : Type 0 where
      opens : OpensFollow k (smid_in d)
      less : (n : ℕ) (r : OpenRequest) → finmap.get k.machine.requests n ≡ Some r → finmap.get h.machine.requests n ≡ Some r
      lives : (s : ℕ) → s ≢ smid_in d → (k.walk s).known.live ≡ (h.walk s).known.live
      done : (k.walk (smid_in d)).known.live ≡ None
      numbers : k.so_far.number_of ≡ h.so_far.number_of
      outcomes : (n : ℕ) (r : ScsiResult) → h.machine.outcome n ≡ Some r → k.machine.outcome n ≡ Some r

    known_tame : (t : List Entry) → EachEntry IsTame t → ((n : ℕ) → slot w.host (smid_in d) ≡ Open (request.Command n) → ⊥) → Known (history_after h t)
    known_tame t a c =
        record {
          opens = same_opens (history_after h t) (smid_in d) (tame_after t a);
          less = λ n r z. sym (ap (λ m. finmap.get m n) (tame_after t a)) ∙ z;
          lives = λ s n. tame_live s (h.walk s) t a;
          done = tame_live (smid_in d) (h.walk (smid_in d)) t a ∙ unknown_of w h f (smid_in d) c;
          numbers = tame_told t a;
          outcomes = λ n r z. ap (λ o. o n) (tame_ran t a) ∙ z;
        }

    known_by_slot : (x : Slot Request) → slot w.host (smid_in d) ≡ x → Known (history_after h (told_by (record_of x)))
    unfolding seen
    known_by_slot Free y = known_tame (told_by None) (tt, tame.reply_tame after_entry (smid_in d) None (replies.heard_of d g page sense) (λ r q. absurd (cc))) (λ n z. let a : Free ≡ Open (request.Command n) = sym y ∙ z in cc)
    known_by_slot Parked y = known_tame (told_by None) (tt, tame.reply_tame after_entry (smid_in d) None (replies.heard_of d g page sense) (λ r q. absurd (cc))) (λ n z. let a : Parked ≡ Open (request.Command n) = sym y ∙ z in cc)
    known_by_slot (Open r) y = by_request r y
      where
        others : (r : Request) → tame.is_command r ≡ false → slot w.host (smid_in d) ≡ Open r → Known (history_after h (told_by (Some r)))
        others r n y = known_tame (told_by (Some r)) (tt, tame.reply_tame after_entry (smid_in d) (Some r) (replies.heard_of d g page sense) (λ q z. some_is r q z n)) (λ m z. no_command_there r m n (sym y ∙ z))
          where
            some_is : (r q : Request) → Some r ≡ Some q → tame.is_command r ≡ false → tame.is_command q ≡ false
            some_is r q z n = let a : r ≡ q = cc in ap tame.is_command (sym a) ∙ n

            no_command_there : (r : Request) (m : ℕ) → tame.is_command r ≡ false → Open r ≡ Open (request.Command m) → ⊥
            no_command_there r m n z = let a : r ≡ request.Command m = cc in not_both (tame.is_command r) n (ap tame.is_command a)

        closed : (n : ℕ) → slot w.host (smid_in d) ≡ Open (request.Command n) → (s : ℕ) (q : Request) → s ≢ smid_in d → slot w.host s ≡ Open q → OpensAgree h.machine.requests (finmap.remove h.machine.requests n) q
        closed n y s (request.Command m) a z = get_other_removed h.machine.requests n m (λ c. a (one_command w h f n s (smid_in d) (z ∙ ap (λ j. Open (request.Command j)) c) y))
        closed n y s (request.Abort m task) a z = tt
        closed n y s (request.TargetReset address) a z = tt
        closed n y s (request.Leave handle) a z = tt
        closed n y s (request.Page handle) a z = tt
        closed n y s (request.Remove handle) a z = tt
        closed n y s (request.Ack ev context) a z = tt
        closed n y s request.Notification a z = tt
        closed n y s request.PortEnable a z = tt

        -- what was known of others stays
        still : (n s : ℕ) → slot w.host (smid_in d) ≡ Open (request.Command n) → s ≢ smid_in d → live_after (h.walk s).known.live n ≡ (h.walk s).known.live
        still n s y a = by_live (h.walk s).known.live refl
          where
            by_live : (o : Option Live) → (h.walk s).known.live ≡ o → live_after o n ≡ o
            by_live None e = refl
            by_live (Some l) e = ap (λ b. if b then None else Some l) (by_key (l.number == n) refl)
              where
                by_key : (b : Bool) → (l.number == n) ≡ b → (l.number == n) ≡ false
                by_key false t = t
                by_key true t = absurd (a (one_command w h f n s (smid_in d) (live_is_open w h f s l e ∙ ap (λ j. Open (request.Command j)) (eqb-true l.number n t)) y))

        cleared : (n : ℕ) → slot w.host (smid_in d) ≡ Open (request.Command n) → live_after (h.walk (smid_in d)).known.live n ≡ None
        cleared n y =
            let l = known_live w h f n (smid_in d) y in
            ap (λ o. live_after o n) l.1 ∙ (ap (λ j. live_after (Some l.0) j) (sym l.2) ∙ ap (λ b. if b then None else Some l.0) (same (l.0).number))

        by_request : (r : Request) → slot w.host (smid_in d) ≡ Open r → Known (history_after h (told_by (Some r)))
        by_request (request.Command n) y =
            let e = answered_requests seen taking n (replies.ended g page sense) tt in
            record {
              opens = λ s q a z. subst (λ x. OpensAgree h.machine.requests x q) (sym e) (closed n y s q a z);
              less = λ m r z. removed_less h.machine.requests n m r (sym (ap (λ x. finmap.get x m) e) ∙ z);
              lives = λ s a. answered_live s (h.walk s) taking n (replies.ended g page sense) tt ∙ still n s y a;
              done = answered_live (smid_in d) (h.walk (smid_in d)) taking n (replies.ended g page sense) tt ∙ cleared n y;
              numbers = numbers_stay seen (taking ∷ entry.Answer n (replies.ended g page sense) ∷ []) (tt, (tt, tt));
              outcomes = λ m r z. ap (λ o. o m) (answered_outcome seen taking n (replies.ended g page sense) tt) ∙ z;
            }
        by_request (request.Abort n task) y = others (request.Abort n task) refl y
        by_request (request.TargetReset address) y = others (request.TargetReset address) refl y
        by_request (request.Leave handle) y = others (request.Leave handle) refl y
        by_request (request.Page handle) y = others (request.Page handle) refl y
        by_request (request.Remove handle) y = others (request.Remove handle) refl y
        by_request (request.Ack ev context) y = others (request.Ack ev context) refl y
        by_request request.Notification y = others request.Notification refl y
        by_request request.PortEnable y = others request.PortEnable refl y

    -- the command that it answers is open no more
    closed_now : (n : ℕ) (x : Slot Request) → slot w.host (smid_in d) ≡ x → x ≡ Open (request.Command n) → finmap.get (replies.hears_reply_to after_entry (smid_in d) (record_of x) (replies.heard_of d g page sense)).part.cmds n ≡ None
    closed_now n Free y z = absurd (cc)
    closed_now n Parked y z = absurd (cc)
    closed_now n (Open r) y z = let a : r ≡ request.Command n = cc in subst (λ q. finmap.get (replies.hears_answer after_entry (smid_in d) q (replies.heard_of d g page sense)).part.cmds n ≡ None) (sym a) (get_removed after_entry.cmds n)

    away : (x : Slot Request) → slot w.host (smid_in d) ≡ x → Away w h (smid_in d)
    away Free y = Closed (ap is_open y)
    away Parked y = Closed (ap is_open y)
    away (Open r) y = Replied r y replied

    reply : PostsStand (record w { host = (hears_up w.host queue (upward.Reply d g page sense)).part }) (history_after h (told_by (replies.request_of w.host (smid_in d)))) × Leads w h (hears_up w.host queue (upward.Reply d g page sense)).part (history_after h (told_by (replies.request_of w.host (smid_in d))))
    reply =
        let k = history_after h (told_by (replies.request_of w.host (smid_in d))) in
        let o = known_by_slot (slot w.host (smid_in d)) refl in let z = elsewhere (slot w.host (smid_in d)) refl in
        let g2 = reply_walks w h f k queue d g page sense (start k (smid_in d) o.opens z) z.out f.handles.waits.handles in (
          walked k (smid_in d) o.opens z None (hears_up w.host queue (upward.Reply d g page sense)).part g2,
          Goes (smid_in d) (away (slot w.host (smid_in d)) refl) (record {
            follows = record { queues = g2.queues; slots = g2.slots; cmds = g2.agree; opens = o.opens };
            less_cmds = λ n c e. known_before (g2.less n c e);
            less_opens = o.less;
            gone = λ n e. closed_now n (slot w.host (smid_in d)) refl e;
            lives = o.lives;
            ended = o.done;
            numbers = o.numbers;
            outcomes = o.outcomes;
          }),
        )

  -- ---- an item

  takes_up : (queue : ℕ) (x : Up) (rest : List Up) → up_on w queue ≡ x ∷ rest → HostGoes w (hears_up w.host queue x).part (goes.heard_of queue x)
      → PostsStand (record w { host = (hears_up w.host queue x).part }) (history_after h (entry.Take (up_lane queue) (item.Up x) ∷ (hears_up w.host queue x).entries)) × Leads w h (hears_up w.host queue x).part (history_after h (entry.Take (up_lane queue) (item.Up x) ∷ (hears_up w.host queue x).entries))
  takes_up queue (upward.Value v) rest e l = comes (hears_up w.host queue (upward.Value v)) (entry.Take (up_lane queue) (item.Up (upward.Value v))) tt (by_leaf (hears_up w.host queue (upward.Value v)).part l) (values.value w h 0 outbox w.host.machine v (in_mode_of w h f) begin)
  takes_up queue (upward.Reply d g page sense) rest e l = reply queue d g page sense rest e
  takes_up queue (upward.Mark generation) rest e l = comes (hears_up w.host queue (upward.Mark generation)) (entry.Take (up_lane queue) (item.Up (upward.Mark generation))) tt (by_leaf (hears_up w.host queue (upward.Mark generation)).part l) (values.mark w h 0 queue (ready_resets_of w h f) outbox begin)
  takes_up queue upward.Calm rest e l = quiet w.host (entry.Take (up_lane queue) (item.Up upward.Calm) ∷ []) (tt, tt) begin

  -- ---- what is asked of the host

  module _ (aborts : AbortsAreAccepted w) where
    submitted : (n a : ℕ) (form : CommandForm) (used up : Bool) (handle : Option ℕ) (fit : Bool) (least : Option ℕ) → finset.contains w.host.accepted n ≡ used → is_up w.host.mode ≡ up → ready_handle w.host.phases a ≡ handle → ((s : ℕ) → least ≡ Some s → IsLeast class.ScsiIo w.host.pool s)
        → fits (command_named form) ≡ fit
        → PostsStand (by_host w (by_result (input.Submit n a form) (entry.RefuseSubmit n) (submits_by w.host n a (command_named form) used up handle fit least))).part
        (history_after h (by_host w (by_result (input.Submit n a form) (entry.RefuseSubmit n) (submits_by w.host n a (command_named form) used up handle fit least))).entries)
        × Leads w h (submits_by w.host n a (command_named form) used up handle fit least).part
        (history_after h (by_host w (by_result (input.Submit n a form) (entry.RefuseSubmit n) (submits_by w.host n a (command_named form) used up handle fit least))).entries)
    unfolding seen
    submitted n a form true up handle fit least e u p l i = quiet w.host (entry.Given (input.Submit n a form) ∷ entry.RefuseSubmit n refusal.NumberUsed ∷ []) (tt, (tt, tt)) begin
    submitted n a form false false handle fit least e u p l i = quiet w.host (entry.Given (input.Submit n a form) ∷ entry.RefuseSubmit n refusal.NotOperational ∷ []) (tt, (tt, tt)) begin
    submitted n a form false true None fit least e u p l i = quiet w.host (entry.Given (input.Submit n a form) ∷ entry.RefuseSubmit n refusal.NoDevice ∷ []) (tt, (tt, tt)) begin
    submitted n a form false true (Some x) false least e u p l i = quiet w.host (entry.Given (input.Submit n a form) ∷ entry.RefuseSubmit n refusal.BadLength ∷ []) (tt, (tt, tt)) begin
    submitted n a form false true (Some x) true None e u p l i = quiet w.host (entry.Given (input.Submit n a form) ∷ entry.RefuseSubmit n refusal.NoIdentifier ∷ []) (tt, (tt, tt)) begin
    submitted n a form false true (Some x) true (Some s) e u p l i = by_plug (ready_plug w h f a x u p)
      where
        by_plug : (k : ℕ) × (h.machine.ready a ≡ Some k) → PostsStand (record w { host = inputs.with_accepted w.host n a (command_named form) x s }) (history_after h (entry.Given (input.Submit n a form) ∷ entry.Accept n a s ∷ [])) × Leads w h (inputs.with_accepted w.host n a (command_named form) x s) (history_after h (entry.Given (input.Submit n a form) ∷ entry.Accept n a s ∷ []))
        by_plug z =
            let k = history_after h (entry.Given (input.Submit n a form) ∷ entry.Accept n a s ∷ []) in
            let r : OpenRequest = record { address = a; plug = z.0; command = command_named form } in
            let q = accepted_requests seen n a z.0 s form z.1 in
            let o = opens r q in
            let g = asked.submitted w h f k n a x s (command_named form) aborts e (l s refl) r (ap (λ m. finmap.get m n) q ∙ get_inserted h.machine.requests n r) refl (freshly k 0 n (start k 0 o none)) in (
              walked k 0 o none (Some n) (inputs.with_accepted w.host n a (command_named form) x s) g,
              Accepts n a s x z.0 form (record { up = u; fresh = e; least = l s refl; handled = p; ready = z.1; fit = i; host = refl; told = refl; follows = record { queues = g.queues; slots = g.slots; cmds = g.agree; opens = o } }),
            )
          where
            opens : (r : OpenRequest) → (history_after h (entry.Given (input.Submit n a form) ∷ entry.Accept n a s ∷ [])).machine.requests ≡ finmap.insert h.machine.requests n r → OpensFollow (history_after h (entry.Given (input.Submit n a form) ∷ entry.Accept n a s ∷ [])) 0
            opens r q t y c d = subst (λ m. OpensAgree h.machine.requests m y) (sym q) (by_request y d)
              where
                by_request : (y : Request) → slot w.host t ≡ Open y → OpensAgree h.machine.requests (finmap.insert h.machine.requests n r) y
                by_request (request.Command m) d = get_other_inserted h.machine.requests n r m (λ i. no_command w h f n (asked.not_open w h f (history_after h []) n e) t (d ∙ ap (λ j. Open (request.Command j)) i))
                by_request (request.Abort m task) d = tt
                by_request (request.TargetReset address) d = tt
                by_request (request.Leave handle) d = tt
                by_request (request.Page handle) d = tt
                by_request (request.Remove handle) d = tt
                by_request (request.Ack ev context) d = tt
                by_request request.Notification d = tt
                by_request request.PortEnable d = tt

    starts : (m : HostState) → walk.Walks w h 0 None (inputs.starts_in w.host m).part
    starts state.Off = values.starts w h 0 begin
    starts state.Starting = begin
    starts state.Up = begin
    starts state.Resetting = begin

    diag : (m : HostState) → walk.Walks w h 0 None (inputs.diag_resets_in w.host m).part
    diag state.Off = begin
    diag state.Starting = values.asks_reset w h 0 stage.DiagnosticReset diagnostic_reset begin
    diag state.Up = values.asks_reset w h 0 stage.DiagnosticReset diagnostic_reset begin
    diag state.Resetting = begin

    unit : (m : HostState) → walk.Walks w h 0 None (inputs.unit_resets_in w.host m).part
    unit state.Off = begin
    unit state.Starting = begin
    unit state.Up = values.asks_reset w h 0 stage.UnitReset unit_reset begin
    unit state.Resetting = begin

    told : (i : Input) → IsHosts i → PostsStand (record w { host = (host_told w.host i).part }) (history_after h (host_told w.host i).entries) × Leads w h (host_told w.host i).part (history_after h (host_told w.host i).entries)
    told input.Start c = quiet (inputs.starts_in w.host w.host.mode).part (by_option input.Start call.Start (inputs.starts_in w.host w.host.mode)).entries (tame.option_tame input.Start call.Start (inputs.starts_in w.host w.host.mode) (tame.starts_tame w.host w.host.mode)) (starts w.host.mode)
    told (input.Submit n a form) c =
        submitted n a form (finset.contains w.host.accepted n) (is_up w.host.mode) (ready_handle w.host.phases a) (fits (command_named form)) (least_free class.ScsiIo w.host.pool) refl refl refl (λ s e. least_is class.ScsiIo w.host.pool s e) refl
    told (input.Abort n) c =
        let o = aborts_by w.host n (is_up w.host.mode) (finmap.get w.host.cmds n) (finmap.get w.host.aborts n) (least_free class.High w.host.pool) in
        quiet o.part (by_result (input.Abort n) (entry.Refuse (call.Abort n)) o).entries (tame.result_tame (input.Abort n) (entry.Refuse (call.Abort n)) o (λ x. tt) (tame.aborts_tame w.host n (is_up w.host.mode) (finmap.get w.host.cmds n) (finmap.get w.host.aborts n) (least_free class.High w.host.pool)))
        (asked.aborts w h f h n (is_up w.host.mode) (finmap.get w.host.cmds n) (finmap.get w.host.aborts n) (least_free class.High w.host.pool) refl (λ s e. least_is class.High w.host.pool s e) begin)
    told (input.TargetReset address) c =
        let o = resets_target_by w.host address (is_up w.host.mode) (ready_handle w.host.phases address) (least_free class.High w.host.pool) in
        quiet o.part (by_result (input.TargetReset address) (entry.Refuse (call.TargetReset address)) o).entries (tame.result_tame (input.TargetReset address) (entry.Refuse (call.TargetReset address)) o (λ x. tt) (tame.targets_tame w.host address (is_up w.host.mode) (ready_handle w.host.phases address) (least_free class.High w.host.pool)))
        (asked.targets w h f h address (is_up w.host.mode) (ready_handle w.host.phases address) (least_free class.High w.host.pool) refl (λ s e. least_is class.High w.host.pool s e) begin)
    told input.Reset c = quiet (inputs.diag_resets_in w.host w.host.mode).part (by_option input.Reset call.Reset (inputs.diag_resets_in w.host w.host.mode)).entries (tame.option_tame input.Reset call.Reset (inputs.diag_resets_in w.host w.host.mode) (tame.diag_tame w.host w.host.mode)) (diag w.host.mode)
    told input.UnitReset c = quiet (inputs.unit_resets_in w.host w.host.mode).part (by_option input.UnitReset call.UnitReset (inputs.unit_resets_in w.host w.host.mode)).entries (tame.option_tame input.UnitReset call.UnitReset (inputs.unit_resets_in w.host w.host.mode) (tame.unit_tame w.host w.host.mode)) (unit w.host.mode)
    told (input.Plug address expander phy) c = absurd c
    told (input.Unplug address) c = absurd c

    -- ---- all cases

    OnCase : World → List Entry → Type 0
    OnCase v t = Behind v → PostsStand v (history_after h t) × Leads w h v.host (history_after h t)

    put : (x : Down) (rest : List Down) → w.host.out ≡ x ∷ rest → PostsStand (record w { host = after_sent w.host x rest; down = w.down ++ x ∷ [] }) (history_after h (entry.Put lane.Down (item.Down x) ∷ []))
        × Leads w h (after_sent w.host x rest) (history_after h (entry.Put lane.Down (item.Down x) ∷ []))
    put x rest e = (
      carried w h (record w { host = after_sent w.host x rest; down = w.down ++ x ∷ [] }) (history_after h (entry.Put lane.Down (item.Down x) ∷ [])) (moved w h (record w { host = after_sent w.host x rest; down = w.down ++ x ∷ [] }) (history_after h (entry.Put lane.Down (item.Down x) ∷ [])) (pool_sent w.host x rest) (cmds_sent w.host x rest) (indices_sent w.host x rest) (tame_after (entry.Put lane.Down (item.Down x) ∷ []) (tt, tt)))
          (subst (All (DownIsRecord w h)) (sym (append_assoc w.down (x ∷ []) (after_sent w.host x rest).out ∙ (ap (λ xs. w.down ++ x ∷ xs) (out_sent w.host x rest) ∙ ap (λ xs. w.down ++ xs) (sym e)))) f.messages.down) here,
      kept_tables (after_sent w.host x rest) (entry.Put lane.Down (item.Down x) ∷ []) (tt, tt) (pool_sent w.host x rest) (cmds_sent w.host x rest) (indices_sent w.host x rest),
    )

    taken : (x : Down) (rest : List Down) → w.down ≡ x ∷ rest → is_fault (adapter.takes_down w.ioc x).part.door.state ≡ false
        → PostsStand (record w { ioc = (adapter.takes_down w.ioc x).part; down = rest }) (history_after h (entry.Take lane.Down (item.Down x) ∷ (adapter.takes_down w.ioc x).entries))
        × Leads w h w.host (history_after h (entry.Take lane.Down (item.Down x) ∷ (adapter.takes_down w.ioc x).entries))
    taken x rest e v =
        stays (record w { ioc = (adapter.takes_down w.ioc x).part; down = rest }) (entry.Take lane.Down (item.Down x) ∷ (adapter.takes_down w.ioc x).entries) refl (tt, tame.down_tame w.ioc x) (All-tail (DownIsRecord w h) x (rest ++ w.host.out) line)
        (queues.queued_down (PostIsRecord w h) w.ioc x f.doorbell.sound.waits f.clock.phase_table.whole v (λ d g p q. subst (DownIsRecord w h) q (All-head (DownIsRecord w h) x (rest ++ w.host.out) line)) here)
      where
        line : All (DownIsRecord w h) (x ∷ (rest ++ w.host.out))
        line = subst (λ xs. All (DownIsRecord w h) (xs ++ w.host.out)) e f.messages.down

    highs : (p : Post) (rest : List Post) → w.ioc.high ≡ p ∷ rest → queues.Queued (PostIsRecord w h) (record w.ioc { high = rest })
    highs p rest e = (All-tail (PostIsRecord w h) p rest (subst (All (PostIsRecord w h)) e f.messages.high), f.messages.normal)

    normals : (p : Post) (rest : List Post) → w.ioc.normal ≡ p ∷ rest → queues.Queued (PostIsRecord w h) (record w.ioc { normal = rest })
    normals p rest e = (f.messages.high, All-tail (PostIsRecord w h) p rest (subst (All (PostIsRecord w h)) e f.messages.normal))

    ran : (tag address : ℕ) → (fab.runs w.fabric tag).answer ≡ Some address → PostsStand (record w { fabric = (fab.runs w.fabric tag).part }) (history_after h (entry.Run address tag ∷ [])) × Leads w h w.host (history_after h (entry.Run address tag ∷ []))
    unfolding seen
    ran tag address e = (
      carried w h (record w { fabric = (fab.runs w.fabric tag).part }) (history_after h (entry.Run address tag ∷ [])) (moved w h (record w { fabric = (fab.runs w.fabric tag).part }) (history_after h (entry.Run address tag ∷ [])) refl refl refl (run_requests seen address tag)) f.messages.down here,
      Goes 0 (Closed refl) (record {
        follows = moved w h w (history_after h (entry.Run address tag ∷ [])) refl refl refl (run_requests seen address tag);
        less_cmds = λ n d e. e;
        less_opens = λ n r e. sym (ap (λ m. finmap.get m n) (run_requests seen address tag)) ∙ e;
        gone = λ n e. absurd (cc);
        lives = λ s n. refl;
        ended = unknown_of w h f 0 (λ n e. absurd (cc));
        numbers = refl;
        outcomes = λ n r z. run_outcomes w h f tag address e n r z;
      }),
    )

    owes : OwesTold OnCase w
    unfolding OnCase
    owes =
        record {
          idles = λ c v. stays w (entry.Idle c ∷ []) refl (tt, tt) f.messages.down here;
          host_puts = λ x rest e v. put x rest e;
          host_takes = λ queue x rest e y v. let z = takes_up queue x rest e (phase.takes_item w h b queue x rest e y v.stage) in (on_lanes queue rest (hears_up w.host queue x).part (history_after h (entry.Take (up_lane queue) (item.Up x) ∷ (hears_up w.host queue x).entries)) z.0, z.1);
          host_told = λ i c v. told i c;
          host_looks = λ e v. quiet (looks w.host) [] tt (values.looks w h 0 begin);
          host_stops = λ e v. quiet (stops w.host) [] tt (values.stops w h 0 begin);
          no_session = λ v. stays w [] refl tt f.messages.down here;
          ioc_takes = λ x rest e v. taken x rest e v.whole;
          ioc_high = λ p rest e v. stays (record w { ioc = (step.works_on (record w.ioc { high = rest }) p).part }) (step.works_on (record w.ioc { high = rest }) p).entries refl (tame.works_tame (record w.ioc { high = rest }) p) f.messages.down (queues.queued_works (PostIsRecord w h) (record w.ioc { high = rest }) p (highs p rest e));
          ioc_normal = λ p rest e v. stays (record w { ioc = (step.works_on (record w.ioc { normal = rest }) p).part }) (step.works_on (record w.ioc { normal = rest }) p).entries refl (tame.works_tame (record w.ioc { normal = rest }) p) f.messages.down (queues.queued_works (PostIsRecord w h) (record w.ioc { normal = rest }) p (normals p rest e));
          ioc_puts_out = λ x rest e v. stays (record w { ioc = record w.ioc { out = rest }; out = w.out ++ x ∷ [] }) (entry.Put lane.Out (item.Out x) ∷ []) refl (tt, tt) f.messages.down here;
          ioc_takes_back = λ x rest e v. stays (record w { ioc = (adapter.takes_back w.ioc x).part; back = rest }) (entry.Take lane.Back (item.Back x) ∷ (adapter.takes_back w.ioc x).entries) refl (tt, tame.back_tame w.ioc x) f.messages.down (queues.queued_back (PostIsRecord w h) w.ioc x here);
          ioc_puts = λ queue y rest z e u v. stays (with_up (record w { ioc = adapter.up_sent_on w.ioc queue }) queue (up_on w queue ++ z ∷ [])) (entry.Put (up_lane queue) (item.Up z) ∷ []) refl (tt, tt) f.messages.down here;
          fabric_takes = λ x rest e v. stays (record w { fabric = fab.takes_out w.fabric x; out = rest }) (entry.Take lane.Out (item.Out x) ∷ []) refl (tt, tt) f.messages.down here;
          fabric_says = λ x rest e v. stays (record w { fabric = record w.fabric { notices = rest; out = w.fabric.out ++ x ∷ [] } }) [] refl tt f.messages.down here;
          fabric_puts = λ x rest e v. stays (record w { fabric = record w.fabric { out = rest }; back = w.back ++ x ∷ [] }) (entry.Put lane.Back (item.Back x) ∷ []) refl (tt, tt) f.messages.down here;
          fabric_runs = λ tag address e v. ran tag address e;
          plugs = λ address expander phy t p v. stays (record w { fabric = (fab.fabric_plugs w.fabric address expander phy).part }) t refl (tame.plugs_tame t p) f.messages.down here;
          unplugs = λ address t p v. stays (record w { fabric = (fab.fabric_unplugs w.fabric address).part }) t refl (tame.plugs_tame t p) f.messages.down here;
          calms = λ v. stays (record w { fabric = fab.calms w.fabric }) [] refl tt f.messages.down here;
        }

    leads_kept : (c : Case) → OnCase (happens w c) (entries w c)
    leads_kept c = kept_told OnCase w b.plain owes c

    pub posts_kept : (c : Case) → Behind (happens w c) → PostsStand (happens w c) (history_after h (entries w c))
    unfolding OnCase
    posts_kept c v = (leads_kept c v).0

    -- and where it leads
    pub leads : (c : Case) → Behind (happens w c) → Leads w h (happens w c).host (history_after h (entries w c))
    unfolding OnCase
    leads c v = (leads_kept c v).1
