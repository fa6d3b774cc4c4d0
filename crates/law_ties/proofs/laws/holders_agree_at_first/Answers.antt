use Rattle.law_ties.proofs.HoldersKept.{holders_at_first}
use Rattle.law_ties.proofs.laws.holders_agree_at_first.Goals as goal

pub returns : goal.returns
returns c = holders_at_first
