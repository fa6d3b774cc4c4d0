use Rattle.mpt_trace.proofs.ReadEntries.{reads_back}
use Rattle.mpt_trace.proofs.laws.line_reads_back.Goals as goal

pub returns : goal.returns
returns c kind = reads_back c.args.e.now (c.entry_fits.ensures kind)
