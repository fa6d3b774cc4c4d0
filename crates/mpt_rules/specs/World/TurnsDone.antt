-- A schedule that is carried out turn by turn, as far as it came.
use Rattle.std.specs.Prelude.{List, [], ◌∷◌}
use Rattle.mpt_wire.specs.Fits.Lines.{LineTurn, Asks, Steps, Tries}
use Rattle.mpt_rules.specs.World.Cases.{Chosen, Told, case_of}
use Rattle.mpt_rules.specs.World.Drain.{tries}
use Rattle.mpt_rules.specs.Outcome.{Happening}
use Rattle.mpt_rules.specs.World.Replays.{then_on}
use Rattle.mpt_rules.specs.World.State.{World, nothing}

-- a turn is done: an input, a step of a choice, or a try of a drain
abbrev pub does_turn : World → LineTurn → Happening World
does_turn w (Asks input) = case_of w (Told input)
does_turn w (Steps choice) = case_of w (Chosen choice)
does_turn w (Tries try) = tries w try

-- and so are the turns, in order
unfoldable pub does_turns : World → List LineTurn → Happening World
does_turns w [] = nothing w
does_turns w (turn ∷ turns) = then_on (does_turn w turn) (λ after. does_turns after turns)
