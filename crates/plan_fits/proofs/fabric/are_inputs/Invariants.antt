use Rattle.std.proofs.Common.{◌≡◌, ◌↔◌, length}
use Rattle.mpt_trace.specs.declared.parties.Party.TheVariants as party
use Rattle.mpt_wire.specs.Fits.Plan.{inputs_of}
use Rattle.plan_fits.proofs.fabric.are_inputs.Given as goal

abbrev pub invariant-loop-input : goal.invariant-loop-input
invariant-loop-input l = (inputs_of party.Fabric l.t ≡ l.inputs) ↔ (inputs_of party.Fabric l.rest ≡ l.left)

abbrev pub decreases-loop-input : goal.decreases-loop-input
decreases-loop-input l = length l.left
