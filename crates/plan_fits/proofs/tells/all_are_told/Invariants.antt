use Rattle.std.proofs.Common.{◌≡◌, ◌↔◌, ◌+◌, length}
use Rattle.mpt_wire.specs.Fits.Plan.{TellsPut}
use Rattle.plan_fits.proofs.tells.all_are_told.Given as goal

abbrev pub invariant-loop-lines : goal.invariant-loop-lines
invariant-loop-lines l = (TellsPut 0 l.fn.submitters l.t ↔ TellsPut l.number l.rest l.t) × (l.number + length l.rest ≡ length l.fn.submitters)

abbrev pub decreases-loop-lines : goal.decreases-loop-lines
decreases-loop-lines l = length l.rest
