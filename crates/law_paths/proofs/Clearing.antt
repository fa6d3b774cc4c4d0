-- Where an identifier has no place, no item names it.
use Rattle.std.proofs.Common.{◌≡◌, ℕ, ◌==◌, Bool, true, false, List, [], ◌∷◌, map, Some, None, refl, arith}
use Rattle.std.specs.Prelude.{All}
use Rattle.std.proofs.lemmas.List.Elements.{All-cons, All-nil}
use Rattle.mpt_trace.specs.declared.item.Back.{Back}
use Rattle.mpt_trace.specs.declared.item.Back.TheVariants as back
use Rattle.mpt_trace.specs.declared.item.Down.{Down}
use Rattle.mpt_trace.specs.declared.item.Down.TheVariants as down
use Rattle.mpt_trace.specs.declared.item.Out.{Out}
use Rattle.mpt_trace.specs.declared.item.Out.TheVariants as out
use Rattle.mpt_trace.specs.declared.item.Up.{Up}
use Rattle.mpt_trace.specs.declared.item.Up.TheVariants as up
use Rattle.mpt_wire.specs.Messages.Fields.{smid_in}
use Rattle.mpt_rules.specs.declared.post.Post.{Post}
use Rattle.mpt_rules.specs.declared.said.Said.{Said}
use Rattle.mpt_rules.specs.declared.said.Said.TheVariants as said
use Rattle.mpt_rules.specs.declared.task.Task.{Task}
use Rattle.mpt_rules.specs.Fabric.Tasks.{has_tag}
use Rattle.mpt_rules.specs.Ioc.Places.{is_reply_of}
use Rattle.mpt_rules.specs.Ioc.Replies.{outbox_of}
use Rattle.mpt_rules.specs.Ioc.Tables.{is_post_of}
use Rattle.mpt_rules.specs.World.Counts.{how_many, one_if, post_count, queued_count, reply_count}
use Rattle.mpt_rules.specs.World.FabricCounts.{gone_count, is_gone_of, is_result_of, is_task_of, is_termination_of, result_count, sent_task_count, task_count, terminated_count}
use Rattle.mpt_rules.specs.World.Lines.{said_of}
use Rattle.mpt_rules.specs.World.Places.{is_posted_as}
use Rattle.mpt_rules.specs.World.PlaceCounts.{replies_on}
use Rattle.mpt_rules.specs.World.State.{World, up_on}
use Rattle.mpt_rules.proofs.Counts.{reply_count-cons, reply_count-nil}
use Rattle.law_lights.proofs.Ones.{sum_at}
use Rattle.law_moves.proofs.Counted.{how_many-cons}
use Rattle.law_messages.proofs.Agreeing.{all_same}
use Rattle.law_asked.proofs.Lists.{all_both, all_each}
use Rattle.law_paths.proofs.Alone.{on_back, spots}
use Rattle.law_paths.proofs.Moves.{BackApart, Clear, DownApart, OutApart, SaidApart, UpApart}

pub none_pass : {X : Type 0} (test : X → Bool) (xs : List X) → how_many test xs ≡ 0 → All (λ x. test x ≡ false) xs
none_pass test [] z = All-nil (λ x. test x ≡ false)
none_pass test (x ∷ xs) z =
    let c = how_many-cons test x xs in
    All-cons (λ x. test x ≡ false) x xs (by_test (test x) (omega (arith, c, z))) (none_pass test xs (omega (arith, c, z)))
  where
    by_test : (b : Bool) → one_if b ≡ 0 → b ≡ false
    by_test true z = absurd (omega (arith, z))
    by_test false z = refl

-- ---- whatever is meant

module _ where
  abbrev pub Anyone : ℕ → Type 0
  Anyone s = Unit {0}

  any_down : (x : Down) → DownApart Anyone x
  any_down (down.Post d f p) = tt
  any_down (down.Write reg value) = tt
  any_down (down.Read reg) = tt
  any_down (down.Return address index) = tt
  any_down down.Stop = tt

  any_out : (x : Out) → OutApart Anyone x
  any_out (out.Task tag a c) = tt
  any_out (out.Abort q task) = tt
  any_out (out.TargetReset q a) = tt
  any_out out.Discover = tt
  any_out (out.Link generation) = tt
  any_out out.Stop = tt

  any_back : (x : Back) → BackApart Anyone x
  any_back (back.Result tag r) = tt
  any_back (back.Gone tag) = tt
  any_back (back.Terminated tag) = tt
  any_back (back.Aborted q found) = tt
  any_back (back.Cleared q count) = tt
  any_back (back.Plugged a p x y) = tt
  any_back (back.Unplugged a p x y) = tt
  any_back back.Discovered = tt
  any_back (back.Linked generation) = tt
  any_back back.Calm = tt

  any_said : (x : Said) → SaidApart Anyone x
  any_said (said.Success s page sense) = tt
  any_said (said.Framed s frame page sense) = tt
  any_said (said.Value value) = tt
  any_said (said.Mark generation) = tt
  any_said said.Calm = tt

  any_up : (x : Up) → UpApart Anyone x
  any_up (up.Reply d frame page sense) = tt
  any_up (up.Value value) = tt
  any_up (up.Mark generation) = tt
  any_up up.Calm = tt

  pub clear_all : (x : World) → Clear Anyone x
  clear_all x =
      record {
        out = all_each (DownApart Anyone) any_down x.host.out;
        down = all_each (DownApart Anyone) any_down x.down;
        normal = all_each (λ (p : Post). Anyone (smid_in p.descriptor)) (λ p. tt) x.ioc.normal;
        sending = all_each (OutApart Anyone) any_out x.ioc.out;
        sent = all_each (OutApart Anyone) any_out x.out;
        tasks = all_each (λ (t : Task). Anyone t.tag) (λ t. tt) x.fabric.tasks;
        made = all_each (BackApart Anyone) any_back x.fabric.out;
        back = all_each (BackApart Anyone) any_back x.back;
        said = λ queue. all_each (SaidApart Anyone) any_said (outbox_of x.ioc queue);
        up = λ queue. all_each (UpApart Anyone) any_up (up_on x queue);
      }

-- ---- none of an identifier

module _ (q : ℕ) where
  abbrev pub Other : ℕ → Type 0
  Other s = (s == q) ≡ false

  down_other : (x : Down) → is_posted_as q x ≡ false → DownApart Other x
  down_other (down.Post d f p) e = e
  down_other (down.Write reg value) e = tt
  down_other (down.Read reg) e = tt
  down_other (down.Return address index) e = tt
  down_other down.Stop e = tt

  pub downs_clear : (xs : List Down) → post_count q xs ≡ 0 → All (DownApart Other) xs
  unfolding post_count
  downs_clear xs z = all_same (λ x. is_posted_as q x ≡ false) (DownApart Other) down_other xs (none_pass (is_posted_as q) xs z)

  pub posts_clear : (xs : List Post) → queued_count q xs ≡ 0 → All (λ (p : Post). Other (smid_in p.descriptor)) xs
  unfolding queued_count
  posts_clear xs z = none_pass (is_post_of q) xs z

  out_other : (x : Out) → is_task_of q x ≡ false → OutApart Other x
  out_other (out.Task tag a c) e = e
  out_other (out.Abort s task) e = tt
  out_other (out.TargetReset s a) e = tt
  out_other out.Discover e = tt
  out_other (out.Link generation) e = tt
  out_other out.Stop e = tt

  pub outs_clear : (xs : List Out) → sent_task_count q xs ≡ 0 → All (OutApart Other) xs
  unfolding sent_task_count
  outs_clear xs z = all_same (λ x. is_task_of q x ≡ false) (OutApart Other) out_other xs (none_pass (is_task_of q) xs z)

  pub tasks_clear : (xs : List Task) → task_count q xs ≡ 0 → All (λ (t : Task). Other t.tag) xs
  unfolding task_count
  tasks_clear xs z = none_pass (has_tag q) xs z

  back_other : (x : Back) → (is_result_of q x ≡ false) × ((is_gone_of q x ≡ false) × (is_termination_of q x ≡ false)) → BackApart Other x
  back_other (back.Result tag r) e = e.0
  back_other (back.Gone tag) e = let y = e.1 in y.0
  back_other (back.Terminated tag) e = let y = e.1 in y.1
  back_other (back.Aborted s found) e = tt
  back_other (back.Cleared s count) e = tt
  back_other (back.Plugged a p x y) e = tt
  back_other (back.Unplugged a p x y) e = tt
  back_other back.Discovered e = tt
  back_other (back.Linked generation) e = tt
  back_other back.Calm e = tt

  pub backs_clear : (xs : List Back) → on_back q xs ≡ 0 → All (BackApart Other) xs
  unfolding result_count gone_count terminated_count
  backs_clear xs z =
      all_same (λ x. (is_result_of q x ≡ false) × ((is_gone_of q x ≡ false) × (is_termination_of q x ≡ false))) (BackApart Other) back_other xs
      (all_both (λ x. is_result_of q x ≡ false) (λ x. (is_gone_of q x ≡ false) × (is_termination_of q x ≡ false)) xs (none_pass (is_result_of q) xs (omega (arith, z)))
      (all_both (λ x. is_gone_of q x ≡ false) (λ x. is_termination_of q x ≡ false) xs (none_pass (is_gone_of q) xs (omega (arith, z))) (none_pass (is_termination_of q) xs (omega (arith, z)))))

  said_other : (x : Said) → is_reply_of q x ≡ false → SaidApart Other x
  said_other (said.Success s page sense) e = e
  said_other (said.Framed s frame page sense) e = e
  said_other (said.Value value) e = tt
  said_other (said.Mark generation) e = tt
  said_other said.Calm e = tt

  pub saids_clear : (xs : List Said) → reply_count q xs ≡ 0 → All (SaidApart Other) xs
  unfolding reply_count
  saids_clear xs z = all_same (λ x. is_reply_of q x ≡ false) (SaidApart Other) said_other xs (none_pass (is_reply_of q) xs z)

  up_other : (x : Up) → is_reply_of q (said_of x) ≡ false → UpApart Other x
  up_other (up.Reply d None page sense) e = e
  up_other (up.Reply d (Some frame) page sense) e = e
  up_other (up.Value value) e = tt
  up_other (up.Mark generation) e = tt
  up_other up.Calm e = tt

  pub ups_clear : (xs : List Up) → replies_on q xs ≡ 0 → All (UpApart Other) xs
  ups_clear [] z = All-nil (UpApart Other)
  ups_clear (x ∷ xs) z =
      let c = reply_count-cons q (said_of x) (map said_of xs) in
      All-cons (UpApart Other) x xs (up_other x (by_test (is_reply_of q (said_of x)) (omega (arith, c, z)))) (ups_clear xs (omega (arith, c, z)))
    where
      by_test : (b : Bool) → one_if b ≡ 0 → b ≡ false
      by_test true z = absurd (omega (arith, z))
      by_test false z = refl

  pub clear_of : (x : World) → spots x q ≡ 0 → Clear Other x
  clear_of x z =
      record {
        out = downs_clear x.host.out (omega (arith, z));
        down = downs_clear x.down (omega (arith, z));
        normal = posts_clear x.ioc.normal (omega (arith, z));
        sending = outs_clear x.ioc.out (omega (arith, z));
        sent = outs_clear x.out (omega (arith, z));
        tasks = tasks_clear x.fabric.tasks (omega (arith, z));
        made = backs_clear x.fabric.out (omega (arith, z));
        back = backs_clear x.back (omega (arith, z));
        said = λ queue. saids_clear (outbox_of x.ioc queue) (let a = sum_at (reply_count q) [] (reply_count-nil q) x.ioc.up queue in omega (arith, z, a));
        up = λ queue. ups_clear (up_on x queue) (let a = sum_at (replies_on q) [] (reply_count-nil q) x.up queue in omega (arith, z, a));
      }
