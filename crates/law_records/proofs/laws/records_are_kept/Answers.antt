use Rattle.law_records.proofs.Recorded.{records_kept}
use Rattle.law_records.proofs.laws.records_are_kept.Goals as goal

pub returns : goal.returns
returns c = λ w h x f plain vectors known. records_kept w h f plain known vectors x
