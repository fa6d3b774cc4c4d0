use Rattle.std.proofs.Common.{◌≡◌, ◌↔◌, ◌+◌, length}
use Rattle.mpt_wire.specs.Fits.Plan.{AsksPut}
use Rattle.plan_fits.proofs.asks.all_ask.Given as goal

abbrev pub invariant-loop-lines : goal.invariant-loop-lines
invariant-loop-lines l = (AsksPut 0 l.fn.submitters l.t ↔ AsksPut l.number l.rest l.t) × (l.number + length l.rest ≡ length l.fn.submitters)

abbrev pub decreases-loop-lines : goal.decreases-loop-lines
decreases-loop-lines l = length l.rest
