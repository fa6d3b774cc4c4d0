-- A schedule is carried out: its lines one after the other, from a first world.
use Rattle.std.specs.Prelude.{ℕ, zero, suc, List, [], ◌∷◌}
use Rattle.mpt_trace.specs.declared.choice.Choice.{Choice}
use Rattle.mpt_wire.specs.Fits.Lines.{Line, Asked, Stepped, Drained}
use Rattle.mpt_rules.specs.Outcome.{Happening}
use Rattle.mpt_rules.specs.World.State.{World, nothing}
use Rattle.mpt_rules.specs.World.Cases.{Chosen, Told, case_of}
use Rattle.mpt_rules.specs.World.Drain.{behind, drains}

-- an outcome, and what follows it
abbrev pub then_on : Happening World → (World → Happening World) → Happening World
then_on outcome next = behind outcome.entries (next outcome.part)

-- so many steps of a choice
unfoldable pub steps : ℕ → Choice → World → Happening World
steps zero choice w = nothing w
steps (suc more) choice w = then_on (case_of w (Chosen choice)) (steps more choice)

-- a line is carried out
abbrev pub carries_out : World → Line → Happening World
carries_out w (Asked input) = case_of w (Told input)
carries_out w (Stepped choice count) = steps count choice w
carries_out w Drained = drains w

-- and so are the lines, in order
unfoldable pub replays : World → List Line → Happening World
replays w [] = nothing w
replays w (line ∷ lines) = then_on (carries_out w line) (λ after. replays after lines)
