use Rattle.std.proofs.Common.{drop}
use Rattle.law_replays.specs.Schedules.{lines_of}
use Rattle.mpt_replay.proofs.Lines.{CarriedOut}
use Rattle.mpt_replay.proofs.carrying.carry_out.Given as goal

abbrev pub invariant-loop-line : goal.invariant-loop-line
invariant-loop-line l = CarriedOut l.fn.system l.system (lines_of l.lines) (lines_of (drop l.line-index l.lines))
