use Rattle.mpt_journal.proofs.Stamps.{merged_by_stamp}
use Rattle.mpt_journal.proofs.laws.merge_is_by_stamp.Goals as goal

pub returns : goal.returns
returns c = record { entries = merged_by_stamp; cases = merged_by_stamp }
