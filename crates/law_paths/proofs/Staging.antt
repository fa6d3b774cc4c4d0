-- From the places of an identifier to the items that name it, and back; and how the items of a world are staged behind another.
use Rattle.std.proofs.Common.{◌≡◌, ℕ, ◌+◌, ◌≤◌, ◌==◌, Bool, true, false, List, [], ◌∷◌, get_or, Option, Some, None, refl, ap, sym, ◌∙◌, subst, arith}
use Rattle.std.specs.Prelude.{All}
use Rattle.std.proofs.lemmas.List.Elements.{All-head, All-tail}
use Rattle.mpt_trace.specs.declared.item.Back.{Back}
use Rattle.mpt_trace.specs.declared.item.Back.TheVariants as back
use Rattle.mpt_trace.specs.declared.item.Down.{Down}
use Rattle.mpt_trace.specs.declared.item.Down.TheVariants as down
use Rattle.mpt_trace.specs.declared.item.Out.{Out}
use Rattle.mpt_trace.specs.declared.item.Out.TheVariants as out
use Rattle.mpt_wire.specs.Messages.Fields.{smid_in}
use Rattle.mpt_wire.specs.Paths.Stages.{PathStage, Accepted, Posted, AtController, Sent, AtDisk, HasRun}
use Rattle.mpt_rules.specs.declared.post.Post.{Post}
use Rattle.mpt_rules.specs.declared.task.Task.{Task}
use Rattle.mpt_rules.specs.Fabric.Tasks.{has_tag}
use Rattle.mpt_rules.specs.Ioc.Tables.{is_post_of}
use Rattle.mpt_rules.specs.World.Counts.{how_many, one_if, post_count, queued_count}
use Rattle.mpt_rules.specs.World.FabricCounts.{gone_count, is_gone_of, is_result_of, is_task_of, is_termination_of, result_count, sent_task_count, task_count, terminated_count}
use Rattle.mpt_rules.specs.World.Places.{is_posted_as}
use Rattle.mpt_rules.specs.World.State.{World}
use Rattle.law_facts.specs.Facts.{Facts}
use Rattle.law_facts.specs.History.{History}
use Rattle.law_facts.specs.Paths.{StageOfPlace, stage_of}
use Rattle.law_facts.specs.Words.{is_command_asked, slot}
use Rattle.law_moves.proofs.Counted.{how_many-cons, how_many-nil}
use Rattle.law_messages.proofs.Agreeing.{all_same}
use Rattle.law_asked.proofs.Lists.{counts_first, counts_more, each_counted}
use Rattle.law_paths.specs.Staged.{At, DownAt, MadeAt, OutAt, PostAt, Staged, TaskAt}
use Rattle.law_paths.proofs.Entries.{same}

-- ---- one of those that are counted

pub counted_has : {X : Type 0} (test : X → Bool) (P : X → Type 0) (Q : Type 0) → ((x : X) → test x ≡ true → P x → Q) → (xs : List X) → All P xs → 1 ≤ how_many test xs → Q
counted_has test P Q f [] a c = let n = how_many-nil test in absurd (omega (arith, c, n))
counted_has test P Q f (x ∷ xs) a c = by_test (test x) refl (λ n. counted_has test P Q f xs (All-tail P x xs a) n)
  where
    by_test : (b : Bool) → test x ≡ b → (1 ≤ how_many test xs → Q) → Q
    by_test true e g = f x e (All-head P x xs a)
    by_test false e g = let n = how_many-cons test x xs in let o : one_if (test x) ≡ 0 = ap one_if e in g (omega (arith, c, n, o))

-- ---- from places to items

module _ (w : World) (h : History) where
  abbrev Stages : Type 0
  Stages = (s : ℕ) → is_command_asked (slot w.host s) ≡ true → StageOfPlace w h s

  abbrev DownToken : Down → List Down → Type 0
  DownToken (down.Post d f p) xs = 1 ≤ post_count (smid_in d) xs
  DownToken x xs = Unit {0}

  pub down_tokens : (xs : List Down) → All (λ x. DownToken x xs) xs
  unfolding post_count
  down_tokens xs = each_counted DownToken first more xs
    where
      first : (x : Down) (ys : List Down) → DownToken x (x ∷ ys)
      first (down.Post d f p) ys = counts_first (is_posted_as (smid_in d)) (down.Post d f p) ys (same (smid_in d))
      first (down.Write reg value) ys = tt
      first (down.Read reg) ys = tt
      first (down.Return address index) ys = tt
      first down.Stop ys = tt

      more : (x y : Down) (ys : List Down) → DownToken x ys → DownToken x (y ∷ ys)
      more (down.Post d f p) y ys c = counts_more (is_posted_as (smid_in d)) y ys c
      more (down.Write reg value) y ys c = tt
      more (down.Read reg) y ys c = tt
      more (down.Return address index) y ys c = tt
      more down.Stop y ys c = tt

  pub staged_down : (c : PathStage) (xs : List Down) → ((s : ℕ) → 1 ≤ post_count s xs → At w h c s) → All (DownAt w h c) xs
  staged_down c xs g = all_same (λ x. DownToken x xs) (DownAt w h c) one xs (down_tokens xs)
    where
      one : (x : Down) → DownToken x xs → DownAt w h c x
      one (down.Post d f p) t = g (smid_in d) t
      one (down.Write reg value) t = tt
      one (down.Read reg) t = tt
      one (down.Return address index) t = tt
      one down.Stop t = tt

  pub staged_posts : (c : PathStage) (xs : List Post) → ((s : ℕ) → 1 ≤ queued_count s xs → At w h c s) → All (PostAt w h c) xs
  unfolding queued_count
  staged_posts c xs g =
      all_same (λ (p : Post). 1 ≤ queued_count (smid_in p.descriptor) xs) (PostAt w h c) (λ p t. g (smid_in p.descriptor) t) xs
      (each_counted (λ (p : Post) ys. 1 ≤ queued_count (smid_in p.descriptor) ys) (λ p ys. counts_first (is_post_of (smid_in p.descriptor)) p ys (same (smid_in p.descriptor))) (λ p y ys t. counts_more (is_post_of (smid_in p.descriptor)) y ys t) xs)

  abbrev OutToken : Out → List Out → Type 0
  OutToken (out.Task tag a c) xs = 1 ≤ sent_task_count tag xs
  OutToken x xs = Unit {0}

  out_tokens : (xs : List Out) → All (λ x. OutToken x xs) xs
  unfolding sent_task_count
  out_tokens xs = each_counted OutToken first more xs
    where
      first : (x : Out) (ys : List Out) → OutToken x (x ∷ ys)
      first (out.Task tag a c) ys = counts_first (is_task_of tag) (out.Task tag a c) ys (same tag)
      first (out.Abort q task) ys = tt
      first (out.TargetReset q a) ys = tt
      first out.Discover ys = tt
      first (out.Link generation) ys = tt
      first out.Stop ys = tt

      more : (x y : Out) (ys : List Out) → OutToken x ys → OutToken x (y ∷ ys)
      more (out.Task tag a c) y ys t = counts_more (is_task_of tag) y ys t
      more (out.Abort q task) y ys t = tt
      more (out.TargetReset q a) y ys t = tt
      more out.Discover y ys t = tt
      more (out.Link generation) y ys t = tt
      more out.Stop y ys t = tt

  pub staged_out : (c : PathStage) (xs : List Out) → ((s : ℕ) → 1 ≤ sent_task_count s xs → At w h c s) → All (OutAt w h c) xs
  staged_out c xs g = all_same (λ x. OutToken x xs) (OutAt w h c) one xs (out_tokens xs)
    where
      one : (x : Out) → OutToken x xs → OutAt w h c x
      one (out.Task tag a d) t = g tag t
      one (out.Abort q task) t = tt
      one (out.TargetReset q a) t = tt
      one out.Discover t = tt
      one (out.Link generation) t = tt
      one out.Stop t = tt

  pub staged_tasks : (xs : List Task) → ((s : ℕ) → 1 ≤ task_count s xs → At w h AtDisk s) → All (TaskAt w h) xs
  unfolding task_count
  staged_tasks xs g =
      all_same (λ (t : Task). 1 ≤ task_count t.tag xs) (TaskAt w h) (λ t c. g t.tag c) xs
      (each_counted (λ (t : Task) ys. 1 ≤ task_count t.tag ys) (λ t ys. counts_first (has_tag t.tag) t ys (same t.tag)) (λ t y ys c. counts_more (has_tag t.tag) y ys c) xs)

  abbrev BackToken : Back → List Back → Type 0
  BackToken (back.Result tag r) xs = 1 ≤ result_count tag xs
  BackToken (back.Gone tag) xs = 1 ≤ gone_count tag xs
  BackToken (back.Terminated tag) xs = 1 ≤ terminated_count tag xs
  BackToken x xs = Unit {0}

  back_tokens : (xs : List Back) → All (λ x. BackToken x xs) xs
  unfolding result_count gone_count terminated_count
  back_tokens xs = each_counted BackToken first more xs
    where
      first : (x : Back) (ys : List Back) → BackToken x (x ∷ ys)
      first (back.Result tag r) ys = counts_first (is_result_of tag) (back.Result tag r) ys (same tag)
      first (back.Gone tag) ys = counts_first (is_gone_of tag) (back.Gone tag) ys (same tag)
      first (back.Terminated tag) ys = counts_first (is_termination_of tag) (back.Terminated tag) ys (same tag)
      first (back.Aborted q found) ys = tt
      first (back.Cleared q count) ys = tt
      first (back.Plugged a p x y) ys = tt
      first (back.Unplugged a p x y) ys = tt
      first back.Discovered ys = tt
      first (back.Linked generation) ys = tt
      first back.Calm ys = tt

      more : (x y : Back) (ys : List Back) → BackToken x ys → BackToken x (y ∷ ys)
      more (back.Result tag r) y ys t = counts_more (is_result_of tag) y ys t
      more (back.Gone tag) y ys t = counts_more (is_gone_of tag) y ys t
      more (back.Terminated tag) y ys t = counts_more (is_termination_of tag) y ys t
      more (back.Aborted q found) y ys t = tt
      more (back.Cleared q count) y ys t = tt
      more (back.Plugged a p u v) y ys t = tt
      more (back.Unplugged a p u v) y ys t = tt
      more back.Discovered y ys t = tt
      more (back.Linked generation) y ys t = tt
      more back.Calm y ys t = tt

  pub staged_made : (xs : List Back) → ((s : ℕ) → 1 ≤ result_count s xs → At w h HasRun s) → ((s : ℕ) → 1 ≤ gone_count s xs + terminated_count s xs → At w h AtDisk s) → All (MadeAt w h) xs
  staged_made xs g e = all_same (λ x. BackToken x xs) (MadeAt w h) one xs (back_tokens xs)
    where
      one : (x : Back) → BackToken x xs → MadeAt w h x
      one (back.Result tag r) t = g tag t
      one (back.Gone tag) t = e tag (omega (arith, t))
      one (back.Terminated tag) t = e tag (omega (arith, t))
      one (back.Aborted q found) t = tt
      one (back.Cleared q count) t = tt
      one (back.Plugged a p x y) t = tt
      one (back.Unplugged a p x y) t = tt
      one back.Discovered t = tt
      one (back.Linked generation) t = tt
      one back.Calm t = tt

  pub staged : Facts w h → Staged w h w
  staged f =
      let z = f.paths.stages in
      record {
        out = staged_down Accepted w.host.out (λ s c e. (z s e).out c);
        down = staged_down Posted w.down (λ s c e. (z s e).down c);
        normal = staged_posts AtController w.ioc.normal (λ s c e. (z s e).queued_count c);
        sending = staged_out AtController w.ioc.out (λ s c e. (z s e).sending c);
        sent = staged_out Sent w.out (λ s c e. (z s e).sent c);
        tasks = staged_tasks w.fabric.tasks (λ s c e. (z s e).at_disk c);
        made = staged_made w.fabric.out (λ s c e. (z s e).has_run c) (λ s c e. (z s e).ended c);
        back = f.paths.back;
        said = f.paths.said;
        up = f.paths.up;
      }

  -- ---- and back

  at_down : (c : PathStage) (s : ℕ) (x : Down) → is_posted_as s x ≡ true → DownAt w h c x → At w h c s
  at_down c s (down.Post d f p) e a = subst (At w h c) (Rattle.law_paths.proofs.Entries.equal (smid_in d) s e) a
  at_down c s (down.Write reg value) e a = absurd (cc)
  at_down c s (down.Read reg) e a = absurd (cc)
  at_down c s (down.Return address index) e a = absurd (cc)
  at_down c s down.Stop e a = absurd (cc)

  at_out : (c : PathStage) (s : ℕ) (x : Out) → is_task_of s x ≡ true → OutAt w h c x → At w h c s
  at_out c s (out.Task tag a d) e z = subst (At w h c) (Rattle.law_paths.proofs.Entries.equal tag s e) z
  at_out c s (out.Abort q task) e z = absurd (cc)
  at_out c s (out.TargetReset q a) e z = absurd (cc)
  at_out c s out.Discover e z = absurd (cc)
  at_out c s (out.Link generation) e z = absurd (cc)
  at_out c s out.Stop e z = absurd (cc)

  at_result : (s : ℕ) (x : Back) → is_result_of s x ≡ true → MadeAt w h x → At w h HasRun s
  at_result s (back.Result tag r) e z = subst (At w h HasRun) (Rattle.law_paths.proofs.Entries.equal tag s e) z
  at_result s (back.Gone tag) e z = absurd (cc)
  at_result s (back.Terminated tag) e z = absurd (cc)
  at_result s (back.Aborted q found) e z = absurd (cc)
  at_result s (back.Cleared q count) e z = absurd (cc)
  at_result s (back.Plugged a p x y) e z = absurd (cc)
  at_result s (back.Unplugged a p x y) e z = absurd (cc)
  at_result s back.Discovered e z = absurd (cc)
  at_result s (back.Linked generation) e z = absurd (cc)
  at_result s back.Calm e z = absurd (cc)

  at_gone : (s : ℕ) (x : Back) → is_gone_of s x ≡ true → MadeAt w h x → At w h AtDisk s
  at_gone s (back.Gone tag) e z = subst (At w h AtDisk) (Rattle.law_paths.proofs.Entries.equal tag s e) z
  at_gone s (back.Result tag r) e z = absurd (cc)
  at_gone s (back.Terminated tag) e z = absurd (cc)
  at_gone s (back.Aborted q found) e z = absurd (cc)
  at_gone s (back.Cleared q count) e z = absurd (cc)
  at_gone s (back.Plugged a p x y) e z = absurd (cc)
  at_gone s (back.Unplugged a p x y) e z = absurd (cc)
  at_gone s back.Discovered e z = absurd (cc)
  at_gone s (back.Linked generation) e z = absurd (cc)
  at_gone s back.Calm e z = absurd (cc)

  at_termination : (s : ℕ) (x : Back) → is_termination_of s x ≡ true → MadeAt w h x → At w h AtDisk s
  at_termination s (back.Terminated tag) e z = subst (At w h AtDisk) (Rattle.law_paths.proofs.Entries.equal tag s e) z
  at_termination s (back.Result tag r) e z = absurd (cc)
  at_termination s (back.Gone tag) e z = absurd (cc)
  at_termination s (back.Aborted q found) e z = absurd (cc)
  at_termination s (back.Cleared q count) e z = absurd (cc)
  at_termination s (back.Plugged a p x y) e z = absurd (cc)
  at_termination s (back.Unplugged a p x y) e z = absurd (cc)
  at_termination s back.Discovered e z = absurd (cc)
  at_termination s (back.Linked generation) e z = absurd (cc)
  at_termination s back.Calm e z = absurd (cc)

  pub places : Staged w h w → (s : ℕ) → is_command_asked (slot w.host s) ≡ true → StageOfPlace w h s
  unfolding post_count queued_count sent_task_count task_count result_count gone_count terminated_count
  places z s e =
      record {
        out = λ c. counted_has (is_posted_as s) (DownAt w h Accepted) (At w h Accepted s) (at_down Accepted s) w.host.out z.out c e;
        down = λ c. counted_has (is_posted_as s) (DownAt w h Posted) (At w h Posted s) (at_down Posted s) w.down z.down c e;
        queued_count = λ c. counted_has (is_post_of s) (PostAt w h AtController) (At w h AtController s) (λ p t a. subst (At w h AtController) (Rattle.law_paths.proofs.Entries.equal (smid_in p.descriptor) s t) a) w.ioc.normal z.normal c e;
        sending = λ c. counted_has (is_task_of s) (OutAt w h AtController) (At w h AtController s) (at_out AtController s) w.ioc.out z.sending c e;
        sent = λ c. counted_has (is_task_of s) (OutAt w h Sent) (At w h Sent s) (at_out Sent s) w.out z.sent c e;
        at_disk = λ c. counted_has (has_tag s) (TaskAt w h) (At w h AtDisk s) (λ t y a. subst (At w h AtDisk) (Rattle.law_paths.proofs.Entries.equal t.tag s y) a) w.fabric.tasks z.tasks c e;
        has_run = λ c. counted_has (is_result_of s) (MadeAt w h) (At w h HasRun s) (at_result s) w.fabric.out z.made c e;
        ended = λ c. by_two (how_many (is_gone_of s) w.fabric.out) refl c;
      }
    where
      by_two : (n : ℕ) → how_many (is_gone_of s) w.fabric.out ≡ n → 1 ≤ how_many (is_gone_of s) w.fabric.out + how_many (is_termination_of s) w.fabric.out → stage_of h s ≡ AtDisk
      by_two Rattle.std.proofs.Common.zero n c = counted_has (is_termination_of s) (MadeAt w h) (At w h AtDisk s) (at_termination s) w.fabric.out z.made (omega (arith, n, c)) e
      by_two (Rattle.std.proofs.Common.suc m) n c = counted_has (is_gone_of s) (MadeAt w h) (At w h AtDisk s) (at_gone s) w.fabric.out z.made (omega (arith, n)) e
