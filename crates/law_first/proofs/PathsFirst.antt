-- The facts of paths hold of the first world: no command and no abort is open.
use Rattle.std.proofs.Common.{◌≡◌, ℕ, ◌||◌, Bool, true, false, List, [], All, Option, refl, ap, sym, ◌∙◌, subst, arith}
use Rattle.std.proofs.lemmas.List.Elements.{All-nil}
use Rattle.smid_pool.specs.Pool.{Slot, Free}
use Rattle.mpt_rules.specs.declared.at_fabric.AtFabric.{AtFabric}
use Rattle.mpt_rules.specs.declared.request.Request.{Request}
use Rattle.mpt_rules.specs.declared.said.Said.{Said}
use Rattle.mpt_trace.specs.declared.item.Up.{Up}
use Rattle.mpt_rules.specs.Ioc.Replies.{outbox_of}
use Rattle.mpt_rules.specs.Ioc.Tables.{is_held_as}
use Rattle.mpt_rules.specs.World.Settings.{Setting, first_world}
use Rattle.mpt_rules.specs.World.State.{World, up_on}
use Rattle.mpt_rules.proofs.Counts.{post_count-nil, queued_count-nil}
use Rattle.law_facts.specs.History.{History, first_history}
use Rattle.law_facts.specs.Paths.{AbortFits, AbortWasTaken, BackStage, CountOf, CountOfKind, HighStands, Paths, SaidStage, StopsFair, StopsStand, UpStage, before_fabric, is_asked_of_fabric, is_held_slot, is_open_high}
use Rattle.law_facts.specs.Words.{is_abort, is_command_asked, is_target_reset, slot}
use Rattle.law_moves.proofs.Counted.{how_many-nil}
use Rattle.law_first.proofs.ClockFirst.{never, no_more_than}
use Rattle.law_first.proofs.Empty.{same_at}
use Rattle.law_first.proofs.FlightsFirst.{all_slots_free, no_tokens, nothing_asked}

-- what no free identifier has
unless_free : {X : Type 0} (q : Setting) (s : ℕ) (p : Slot Request → Bool) → p Free ≡ false → p (slot (first_world q).host s) ≡ true → X
unless_free q s p e t = let f : true ≡ false = sym t ∙ (ap p (all_slots_free q s) ∙ e) in absurd (cc)

module _ (q : Setting) where
  abbrev w : World
  w = first_world q

  abbrev h : History
  h = first_history q.disks

  box : (queue : ℕ) → outbox_of w.ioc queue ≡ []
  box queue = let n : List Said = [] in same_at q.queues queue n

  lane : (queue : ℕ) → up_on w queue ≡ []
  lane queue = let n : List Up = [] in same_at q.queues queue n

  not_sent : (s : ℕ) → before_fabric w s ≡ 0
  not_sent s =
      let a = post_count-nil s in let b = queued_count-nil s in let c = how_many-nil (is_held_as s) in let n = no_tokens s in let d = n.sent_aborts in let e = n.sent_resets in
      omega (arith, a, b, c, d, e)

  none_asked : (s : ℕ) → is_asked_of_fabric w s ≡ false
  none_asked s = ap (λ (o : Option AtFabric). is_abort o || is_target_reset o) (nothing_asked q s)

  high : (s : ℕ) → HighStands w h s
  high s =
      record {
        before = λ l. no_more_than (before_fabric w s) l (not_sent s);
        awaited = λ e. let f : false ≡ true = sym (none_asked s) ∙ e in never f;
        is_reset = λ l p e. unless_free q s is_open_high refl e;
      }

  fair : (s : ℕ) → StopsFair h s
  fair s = record { fair = record { at_most_one = omega arith; no_task = λ l. absurd (omega (arith, l)); no_other = λ l. absurd (omega (arith, l)); one = λ e. never e }; highs = λ x. refl }

  stops : (s : ℕ) → StopsStand w h s
  stops s =
      record {
        waiting = λ n e. unless_free q s is_held_slot refl e;
        at_least = λ n e. unless_free q s is_held_slot refl e;
        taken = λ n e. unless_free q s is_held_slot refl e;
        tasked = λ e. unless_free q s is_command_asked refl e;
        replied = λ e. unless_free q s is_command_asked refl e;
      }

  pub paths_first : Paths w h
  paths_first =
      record {
        stages = λ s e. unless_free q s is_command_asked refl e;
        back = All-nil (BackStage h);
        said = λ queue. subst (All (SaidStage w h)) (sym (box queue)) (All-nil (SaidStage w h));
        up = λ queue. subst (All (UpStage w h)) (sym (lane queue)) (All-nil (UpStage w h));
        taken = λ s. subst (AbortWasTaken w h s) (sym (all_slots_free q s)) tt;
        high = λ s a b. high s;
        only_high = λ s e. (refl, refl);
        counts = subst (All (CountOf w h)) (sym (box 0)) (All-nil (CountOf w h));
        kinds = subst (All (CountOfKind w h)) (sym (box 0)) (All-nil (CountOfKind w h));
        fair = fair;
        stops = λ s a b. stops s;
        aborts = λ s. subst (AbortFits w h s) (sym (all_slots_free q s)) tt;
      }
