use Rattle.std.proofs.Common.{◌≡◌, ◌↔◌, filter_map, length}
use Rattle.mpt_trace.specs.declared.parties.Party.TheVariants as party
use Rattle.mpt_wire.specs.Fits.Plan.{inputs_of, line_asked}
use Rattle.plan_fits.proofs.asks.are_lines.Given as goal

abbrev pub invariant-loop-line : goal.invariant-loop-line
invariant-loop-line l = (inputs_of party.Host l.given ≡ filter_map line_asked l.asked) ↔ (inputs_of party.Host l.inputs ≡ filter_map line_asked l.lines)

abbrev pub decreases-loop-line : goal.decreases-loop-line
decreases-loop-line l = length l.lines
