use Rattle.mpt_trace.proofs.ReadTraces.{traces_apart}
use Rattle.mpt_trace.proofs.laws.lines_tell_traces_apart.Goals as goal

pub returns : goal.returns
returns c kinds kinds_2 = traces_apart c.args.one.now c.args.other.now (c.entries_fit.ensures kinds) (c.entries_fit-2.ensures kinds_2)
