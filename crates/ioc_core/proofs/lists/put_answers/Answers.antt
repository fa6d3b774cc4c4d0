use Rattle.std.proofs.Common.{◌≡◌, ℕ, ◌<◌, ◌≢◌, ◌==◌, true, false, ◌∙◌, ap, length, sym, arith}
use Rattle.std.proofs.lemmas.Bool.Decides.{nat_tests}
use Rattle.ioc_replies.specs.Outboxes.{after_put}
use Rattle.ioc_core.specs.Lists.{after_puts}
use Rattle.ioc_core.proofs.Puts.{answers_for, answers_more, answers_same, puts_more}
use Rattle.mpt_rules.specs.declared.said.Said.{Said}
use Rattle.mpt_rules.specs.Ioc.Commands.{held_answered}
use Rattle.std.specs.Prelude.{List, take}
use Rattle.ioc_core.proofs.lists.put_answers.Goals as goal
use Rattle.ioc_core.proofs.lists.put_answers.Goals.{then-reset-handle, else-reset-handle}

same : (a b : ℕ) → a ≡ b → (a == b) ≡ true
same a b is = grind (arith, nat_tests, is)

apart : (a b : ℕ) → a ≢ b → (a == b) ≡ false
apart a b differs = grind (arith, nat_tests, differs)

pub loop-i-preserved : goal.loop-i-preserved
loop-i-preserved c =
    let within : c.loop-i.i < length c.args.held.now.items = omega (arith, c.args.held.now.ok.0) in
    elim c.if-reset-handle.branch [
      | then-reset-handle w ↦
          let more = answers_more c.args.handle c.args.held.now.items c.loop-i.i c.index-reset.result.now within c.index-reset.ensures (same c.index-reset.result.now.handle c.args.handle w.if-reset-handle.true) in
          rw w.up-is
          (record {
            boxes =
                w.put.ensures.boxes ∙ ap (λ (s : Said). after_put 0 s c.loop-i.up.boxes) w.held_answered.ensures
                ∙ ap (after_put 0 (held_answered c.index-reset.result.now)) c.loop-i.invariant.boxes
                ∙ puts_more (answers_for c.args.handle (take c.loop-i.i c.args.held.now.items)) (held_answered c.index-reset.result.now) c.args.up.now.boxes
                ∙ ap (λ (items : List Said). after_puts 0 items c.args.up.now.boxes) (sym more);
            room = omega (arith, w.put.ensures.room, c.loop-i.invariant.room);
          })
      | else-reset-handle w ↦
          let less = answers_same c.args.handle c.args.held.now.items c.loop-i.i c.index-reset.result.now within c.index-reset.ensures (apart c.index-reset.result.now.handle c.args.handle w.if-reset-handle.false) in
          rw w.up-is
          (record {
            boxes = c.loop-i.invariant.boxes ∙ ap (λ (items : List Said). after_puts 0 items c.args.up.now.boxes) (sym less);
            room = omega (arith, c.loop-i.invariant.room);
          })
    ]
