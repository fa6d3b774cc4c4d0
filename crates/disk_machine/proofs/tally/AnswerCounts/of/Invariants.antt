use Rattle.std.proofs.Common.{take}
use Rattle.disk_machine.specs.Summary.{AreCounts}
use Rattle.disk_machine.proofs.tally.AnswerCounts.of.Given as goal

abbrev pub invariant-loop-entry : goal.invariant-loop-entry
invariant-loop-entry l = AreCounts l.counts (take l.entry-index l.entries)
