-- What is on its way to the fabric, there, and on its way back is of its record in each case, as far as it stays.
use Rattle.std.proofs.Common.{◌≡◌, ℕ, ◌≤◌, List, ◌∷◌, Option, Some, None, refl, sym, ◌∙◌, subst, arith}
use Rattle.std.specs.Prelude.{All}
use Rattle.std.specs.List.{find}
use Rattle.scsi_disk.specs.declared.command.Command.{Command}
use Rattle.scsi_disk.specs.declared.scsi_result.ScsiResult.{ScsiResult}
use Rattle.smid_pool.specs.Pool.{Slot, Free, Open, Parked}
use Rattle.mpt_wire.specs.Paths.Commands.{Live}
use Rattle.mpt_trace.specs.declared.item.Back.{Back}
use Rattle.mpt_trace.specs.declared.item.Back.TheVariants as back
use Rattle.mpt_trace.specs.declared.item.Out.{Out}
use Rattle.mpt_trace.specs.declared.item.Out.TheVariants as out
use Rattle.mpt_rules.specs.declared.request.Request.{Request}
use Rattle.mpt_rules.specs.declared.request.Request.TheVariants as request
use Rattle.mpt_rules.specs.declared.task.Task.{Task}
use Rattle.mpt_rules.specs.Fabric.Tasks.{has_tag}
use Rattle.mpt_rules.specs.World.FabricCounts.{is_abort_by, is_reset_by, is_result_of, is_task_of, result_count, sent_abort_count, sent_reset_count, sent_task_count, task_count}
use Rattle.mpt_rules.specs.World.Lines.{back_line, out_line}
use Rattle.mpt_rules.specs.World.State.{World}
use Rattle.law_facts.specs.Facts.{Facts}
use Rattle.law_facts.specs.Flights.{command_tokens}
use Rattle.law_facts.specs.History.{History}
use Rattle.law_facts.specs.Messages.{AbortSent, BackIs, HasOutcome, IsLiveTask, OutIs, TaskIs}
use Rattle.law_facts.specs.Words.{slot}
use Rattle.law_messages.proofs.Agreeing.{all_same, same}
use Rattle.law_messages.proofs.Leads.{Leads}
use Rattle.law_messages.proofs.PostsKept.{found_counts, live_is_open}
use Rattle.law_asked.proofs.Firm.{Stay, firm_by_tokens, stays}
use Rattle.law_asked.proofs.Lists.{all_both, counts_first, counts_more, each_counted}

-- ---- tokens

abbrev pub TaskToken : Task → List Task → Type 0
TaskToken t xs = 1 ≤ task_count t.tag xs

abbrev pub BackToken : Back → List Back → Type 0
BackToken (back.Result tag result) xs = 1 ≤ result_count tag xs
BackToken item xs = Unit {0}

abbrev pub OutToken : Out → List Out → Type 0
OutToken (out.Task tag address command) xs = 1 ≤ sent_task_count tag xs
OutToken (out.Abort smid task) xs = 1 ≤ sent_abort_count smid xs
OutToken (out.TargetReset smid address) xs = 1 ≤ sent_reset_count smid xs
OutToken item xs = Unit {0}

pub task_tokens : (xs : List Task) → All (λ t. TaskToken t xs) xs
unfolding task_count
task_tokens xs = each_counted TaskToken (λ t ts. counts_first (has_tag t.tag) t ts (same t.tag)) (λ t y ts c. counts_more (has_tag t.tag) y ts c) xs

pub task_there : (tag : ℕ) (t : Task) (xs : List Task) → find (has_tag tag) xs ≡ Some t → 1 ≤ task_count tag xs
unfolding task_count
task_there tag t xs e = found_counts (has_tag tag) xs t e

pub back_tokens : (xs : List Back) → All (λ x. BackToken x xs) xs
unfolding result_count
back_tokens xs = each_counted BackToken first more xs
  where
    first : (x : Back) (ys : List Back) → BackToken x (x ∷ ys)
    first (back.Result tag result) ys = counts_first (is_result_of tag) (back.Result tag result) ys (same tag)
    first (back.Gone tag) ys = tt
    first (back.Terminated tag) ys = tt
    first (back.Aborted smid found) ys = tt
    first (back.Cleared smid count) ys = tt
    first (back.Plugged address plug expander phy) ys = tt
    first (back.Unplugged address plug expander phy) ys = tt
    first back.Discovered ys = tt
    first (back.Linked generation) ys = tt
    first back.Calm ys = tt

    more : (x y : Back) (ys : List Back) → BackToken x ys → BackToken x (y ∷ ys)
    more (back.Result tag result) y ys c = counts_more (is_result_of tag) y ys c
    more (back.Gone tag) y ys c = tt
    more (back.Terminated tag) y ys c = tt
    more (back.Aborted smid found) y ys c = tt
    more (back.Cleared smid count) y ys c = tt
    more (back.Plugged address plug expander phy) y ys c = tt
    more (back.Unplugged address plug expander phy) y ys c = tt
    more back.Discovered y ys c = tt
    more (back.Linked generation) y ys c = tt
    more back.Calm y ys c = tt

pub out_tokens : (xs : List Out) → All (λ x. OutToken x xs) xs
unfolding sent_task_count sent_abort_count sent_reset_count
out_tokens xs = each_counted OutToken first more xs
  where
    first : (x : Out) (ys : List Out) → OutToken x (x ∷ ys)
    first (out.Task tag address command) ys = counts_first (is_task_of tag) (out.Task tag address command) ys (same tag)
    first (out.Abort smid task) ys = counts_first (is_abort_by smid) (out.Abort smid task) ys (same smid)
    first (out.TargetReset smid address) ys = counts_first (is_reset_by smid) (out.TargetReset smid address) ys (same smid)
    first out.Discover ys = tt
    first (out.Link generation) ys = tt
    first out.Stop ys = tt

    more : (x y : Out) (ys : List Out) → OutToken x ys → OutToken x (y ∷ ys)
    more (out.Task tag address command) y ys c = counts_more (is_task_of tag) y ys c
    more (out.Abort smid task) y ys c = counts_more (is_abort_by smid) y ys c
    more (out.TargetReset smid address) y ys c = counts_more (is_reset_by smid) y ys c
    more out.Discover y ys c = tt
    more (out.Link generation) y ys c = tt
    more out.Stop y ys c = tt

-- ---- where a case leads them

module _ (w : World) (h : History) (f : Facts w h) (v : World) (k : History) (l : Leads w h v.host k) where
  live_stays : (tag : ℕ) (x : Live) → (h.walk tag).known.live ≡ Some x → 1 ≤ command_tokens w tag → Stay w h v k tag (request.Command x.number)
  live_stays tag x e c = stays w h f v tag (request.Command x.number) (firm_by_tokens w h f tag (request.Command x.number) (live_is_open w h f tag x e) (omega (arith, c))) k l

  pub task_live_stays : (tag : ℕ) (x : Live) → (h.walk tag).known.live ≡ Some x → 1 ≤ task_count tag w.fabric.tasks → (k.walk tag).known.live ≡ (h.walk tag).known.live
  task_live_stays tag x e c = (live_stays tag x e (omega (arith, c))).live

  pub task_live : (tag address : ℕ) (c : Command) → 1 ≤ command_tokens w tag → IsLiveTask address c (h.walk tag).known.live → IsLiveTask address c (k.walk tag).known.live
  task_live tag address c t i = by_live (h.walk tag).known.live refl i
    where
      by_live : (o : Option Live) → (h.walk tag).known.live ≡ o → IsLiveTask address c o → IsLiveTask address c (k.walk tag).known.live
      by_live None e i = absurd i
      by_live (Some x) e i = subst (IsLiveTask address c) (sym ((live_stays tag x e t).live ∙ e)) i

  outcome_stays : (tag : ℕ) (result : ScsiResult) → 1 ≤ command_tokens w tag → HasOutcome h (h.walk tag).known.live result → HasOutcome k (k.walk tag).known.live result
  outcome_stays tag result t i = by_live (h.walk tag).known.live refl i
    where
      by_live : (o : Option Live) → (h.walk tag).known.live ≡ o → HasOutcome h o result → HasOutcome k (k.walk tag).known.live result
      by_live None e i = absurd i
      by_live (Some x) e i = let z = live_stays tag x e t in subst (λ q. HasOutcome k q result) (sym (z.live ∙ e)) (z.outcomes x.number result refl i)

  pub tasks_stay : All (TaskIs k) w.fabric.tasks
  tasks_stay = all_same (λ t. TaskIs h t × TaskToken t w.fabric.tasks) (TaskIs k) (λ t a. task_live t.tag t.address t.command (let c = a.1 in omega (arith, c)) a.0) w.fabric.tasks (all_both (TaskIs h) (λ t. TaskToken t w.fabric.tasks) w.fabric.tasks f.messages.tasks (task_tokens w.fabric.tasks))

  pub backs_stay : All (BackIs k) (back_line w)
  backs_stay = all_same (λ x. BackIs h x × BackToken x (back_line w)) (BackIs k) one (back_line w) (all_both (BackIs h) (λ x. BackToken x (back_line w)) (back_line w) f.messages.back (back_tokens (back_line w)))
    where
      one : (x : Back) → BackIs h x × BackToken x (back_line w) → BackIs k x
      one (back.Result tag result) a = outcome_stays tag result (let c = a.1 in omega (arith, c)) a.0
      one (back.Gone tag) a = tt
      one (back.Terminated tag) a = tt
      one (back.Aborted smid found) a = tt
      one (back.Cleared smid count) a = tt
      one (back.Plugged address plug expander phy) a = tt
      one (back.Unplugged address plug expander phy) a = tt
      one back.Discovered a = tt
      one (back.Linked generation) a = tt
      one back.Calm a = tt

  pub outs_stay : All (OutIs v k) (out_line w)
  outs_stay = all_same (λ x. OutIs w h x × OutToken x (out_line w)) (OutIs v k) one (out_line w) (all_both (OutIs w h) (λ x. OutToken x (out_line w)) (out_line w) f.messages.out (out_tokens (out_line w)))
    where
      abort : (smid task : ℕ) → 1 ≤ sent_abort_count smid (out_line w) → (x : Slot Request) → slot w.host smid ≡ x → AbortSent task x → AbortSent task (slot v.host smid)
      abort smid task c Free e a = absurd a
      abort smid task c Parked e a = absurd a
      abort smid task c (Open (request.Abort n t)) e a = let z = stays w h f v smid (request.Abort n t) (firm_by_tokens w h f smid (request.Abort n t) e (omega (arith, c))) k l in subst (AbortSent task) (sym z.opens) a
      abort smid task c (Open (request.Command n)) e a = absurd a
      abort smid task c (Open (request.TargetReset address)) e a = absurd a
      abort smid task c (Open (request.Leave handle)) e a = absurd a
      abort smid task c (Open (request.Page handle)) e a = absurd a
      abort smid task c (Open (request.Remove handle)) e a = absurd a
      abort smid task c (Open (request.Ack event context)) e a = absurd a
      abort smid task c (Open request.Notification) e a = absurd a
      abort smid task c (Open request.PortEnable) e a = absurd a

      one : (x : Out) → OutIs w h x × OutToken x (out_line w) → OutIs v k x
      one (out.Task tag address command) a = task_live tag address command (let c = a.1 in omega (arith, c)) a.0
      one (out.Abort smid task) a = abort smid task a.1 (slot w.host smid) refl a.0
      one (out.TargetReset smid address) a = (stays w h f v smid (request.TargetReset address) (firm_by_tokens w h f smid (request.TargetReset address) a.0 (let c = a.1 in omega (arith, c))) k l).opens
      one out.Discover a = tt
      one (out.Link generation) a = tt
      one out.Stop a = tt
