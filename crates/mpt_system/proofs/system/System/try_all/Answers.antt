use Rattle.std.proofs.Common.{◌≡◌, ◌+◌, map, take, drop, subst, sym}
use Rattle.mpt_rules.specs.World.TurnsDone.{does_turns}
use Rattle.mpt_system.specs.Turns.{TurnedSoFar, tries_it}
use Rattle.mpt_system.specs.Whole.{after}
use Rattle.mpt_system.proofs.Turns.{map_more, map_seam, none_turned, so_far, turn_halted, turn_more}
use Rattle.mpt_system.proofs.system.System.try_all.Goals as goal

pub loop-choice-init : goal.loop-choice-init
loop-choice-init c = none_turned c.args.self.now c.requires

pub loop-choice-preserved : goal.loop-choice-preserved
loop-choice-preserved c =
    let choices = c.args.choices.now in
    let old = c.args.self.now in
    let i = c.loop-choice.choice-index in
    subst (λ ts. c.try_step.new.self ≡ after old (does_turns old.world ts)) (sym (map_more tries_it choices i _ c.loop-choice-test.true))
    (turn_more old c.loop-choice.self c.try_step.new.self (map tries_it (take i choices)) _ c.loop-choice.invariant c.in_ok-try_step.ensures.1)

pub returns-in_err-try_step : goal.returns-in_err-try_step
returns-in_err-try_step c =
    let choices = c.args.choices.now in
    let old = c.args.self.now in
    let i = c.loop-choice.choice-index in
    so_far old c.try_step.new.self (map tries_it choices) c.from_residual.result c.from_residual.ensures.0
    (subst (λ ts. TurnedSoFar old ts c.try_step.new.self) (sym (map_seam tries_it choices i _ c.loop-choice-test.true))
    (turn_halted old c.loop-choice.self c.try_step.new.self (map tries_it (take i choices)) _ (map tries_it (drop (i + 1) choices)) c.loop-choice.invariant c.in_err-try_step.ensures))
