use Rattle.std.proofs.Common.{◌≡◌, ◌↔◌, ◌++◌, length, List}
use Rattle.mpt_trace.specs.declared.input.Input.{Input}
use Rattle.mpt_trace.specs.declared.parties.Party.TheVariants as party
use Rattle.mpt_wire.specs.Fits.Plan.{inputs_of}
use Rattle.plan_fits.proofs.fabric.behind_inputs.Given as goal

-- the inputs so far were these; and what follows on the one side follows on the other
abbrev pub invariant-loop-input : goal.invariant-loop-input
invariant-loop-input l = (later : List Input) → (inputs_of party.Fabric l.t ≡ l.inputs ++ later) ↔ (inputs_of party.Fabric l.rest ≡ l.left ++ later)

abbrev pub decreases-loop-input : goal.decreases-loop-input
decreases-loop-input l = length l.left
