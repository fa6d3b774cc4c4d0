use Rattle.std.proofs.Common.{◌≡◌, find, length}
use Rattle.mpt_trace.specs.declared.parties.Party.TheVariants as party
use Rattle.mpt_wire.specs.Walks.Ahead.{is_of}
use Rattle.plan_fits.proofs.asks.next_of_host.Given as goal

abbrev pub invariant-loop-entry : goal.invariant-loop-entry
invariant-loop-entry l = find (is_of party.Host) l.t ≡ find (is_of party.Host) l.rest

abbrev pub decreases-loop-entry : goal.decreases-loop-entry
decreases-loop-entry l = length l.rest
