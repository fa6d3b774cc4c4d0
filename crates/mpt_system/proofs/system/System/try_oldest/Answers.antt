use Rattle.std.proofs.Common.{◌≡◌, ℕ, [], ◌∷◌, Option, Some, None, ap, sym, ◌∙◌, subst}
use Rattle.std.specs.Option.{option_map}
use Rattle.mpt_trace.specs.declared.choice.Choice.TheVariants as choice
use Rattle.mpt_rules.specs.Fabric.Calls.{oldest}
use Rattle.mpt_rules.specs.World.Drain.{tries_choice}
use Rattle.mpt_rules.specs.World.State.{World}
use Rattle.mpt_rules.specs.World.TurnsDone.{does_turn}
use Rattle.mpt_wire.specs.Fits.Lines.{RunsOldest, Tries}
use Rattle.mpt_system.specs.Whole.{Halted, Whole, after}
use Rattle.mpt_system.proofs.Turns.{after_nothing, halted_turn, so_far, turn_made}
use Rattle.mpt_system.proofs.system.System.try_oldest.Goals as goal

-- what the try does, by the oldest task
runs : (w : World) (o : Option ℕ) → oldest w.fabric ≡ o → does_turn w (Tries RunsOldest) ≡ tries_choice w (option_map choice.FabricRun o)
runs w o e = ap (λ x. tries_choice w (option_map choice.FabricRun x)) e

pub returns-in_err-try_step : goal.returns-in_err-try_step
returns-in_err-try_step c =
    let old = c.args.self.now in
    so_far old c.try_step.new.self (Tries RunsOldest ∷ []) c.from_residual.result c.from_residual.ensures.0
    (halted_turn old c.try_step.new.self (Tries RunsOldest)
    (subst (λ o. Halted old o c.try_step.new.self) (sym (runs old.world (Some c.in-Some.tag) (ap (λ (x : Whole). oldest x.world.fabric) (sym c.self.view_is) ∙ sym c.in-Some.ensures))) c.in_err-try_step.ensures))

pub returns-in_ok-try_step : goal.returns-in_ok-try_step
returns-in_ok-try_step c =
    let old = c.args.self.now in
    turn_made old c.try_step.new.self (Tries RunsOldest) (c.in_ok-try_step.ensures.1 ∙ ap (after old) (sym (runs old.world (Some c.in-Some.tag) (ap (λ (x : Whole). oldest x.world.fabric) (sym c.self.view_is) ∙ sym c.in-Some.ensures))))

pub returns-in_default : goal.returns-in_default
returns-in_default c =
    let old = c.args.self.now in
    turn_made old old (Tries RunsOldest) (after_nothing old c.requires
    ∙ ap (after old) (sym (runs old.world None (ap (λ (x : Whole). oldest x.world.fabric) (sym c.self.view_is) ∙ sym c.in_default.ensures))))
