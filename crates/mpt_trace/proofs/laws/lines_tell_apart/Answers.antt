use Rattle.mpt_trace.proofs.ReadEntries.{told_apart}
use Rattle.mpt_trace.proofs.laws.lines_tell_apart.Goals as goal

pub returns : goal.returns
returns c kind kind_2 = told_apart c.args.one.now c.args.other.now (c.entry_fits.ensures kind) (c.entry_fits-2.ensures kind_2)
