use Rattle.mpt_journal.proofs.Whole.{merge-entries}
use Rattle.mpt_journal.proofs.laws.merge_keeps_cases.Goals as goal

pub returns : goal.returns
returns c = merge-entries
