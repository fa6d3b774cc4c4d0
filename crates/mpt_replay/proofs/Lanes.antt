-- Whatever turns are done, there are as many lanes up as before.
use Rattle.std.proofs.Common.{◌≡◌, List, [], ◌∷◌, Option, Some, None, refl, ap, ◌∙◌}
use Rattle.mpt_trace.specs.declared.choice.Choice.{Choice}
use Rattle.mpt_trace.specs.declared.input.Input.{Input}
use Rattle.mpt_trace.specs.declared.input.Input.TheVariants as input
use Rattle.mpt_wire.specs.Fits.Lines.{Asks, Chooses, LineTurn, Steps, Tries}
use Rattle.mpt_rules.specs.Outcome.{Happening}
use Rattle.mpt_rules.specs.World.Cases.{Told, happens, moves_or_idles}
use Rattle.mpt_rules.specs.World.Drain.{moves_if}
use Rattle.mpt_rules.specs.World.Moves.{moves}
use Rattle.mpt_rules.specs.World.State.{World, queues_of}
use Rattle.mpt_rules.specs.World.TurnsDone.{does_turn, does_turns}
use Rattle.law_replays.proofs.Turns.{tried}

-- a step with nothing to take leaves the world
idled : (w : World) (c : Choice) (o : Option (Happening World)) → (moves_or_idles w c o).part ≡ (moves_if w o).part
idled w c None = refl
idled w c (Some o) = refl

told : (w : World) (i : Input) → queues_of (happens w (Told i)) ≡ queues_of w
told w input.Start = refl
told w (input.Submit n address form) = refl
told w (input.Abort n) = refl
told w (input.TargetReset address) = refl
told w input.Reset = refl
told w input.UnitReset = refl
told w (input.Plug address expander phy) = refl
told w (input.Unplug address) = refl

turn_keeps : (w : World) (t : LineTurn) → queues_of (does_turn w t).part ≡ queues_of w
turn_keeps w (Asks i) = told w i
turn_keeps w (Steps c) = ap queues_of (idled w c (moves w c)) ∙ tried w (Chooses c)
turn_keeps w (Tries t) = tried w t

pub turns_keep : (ts : List LineTurn) (w : World) → queues_of (does_turns w ts).part ≡ queues_of w
unfolding does_turns
turns_keep [] w = refl
turns_keep (t ∷ ts) w = turns_keep ts (does_turn w t).part ∙ turn_keeps w t
