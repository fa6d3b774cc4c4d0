use Rattle.law_records.proofs.Recorded.{records_at_first}
use Rattle.law_records.proofs.laws.records_stand_at_first.Goals as goal

pub returns : goal.returns
returns c = records_at_first
