use Rattle.law_returns.proofs.Whole.{further_at_first, further_kept}
use Rattle.law_returns.proofs.laws.further_flights_are_kept.Goals as goal

pub returns-clause-first : goal.returns-clause-first
returns-clause-first c = further_at_first

pub returns-clause-kept : goal.returns-clause-kept
returns-clause-kept c = λ w h x f plain more. further_kept w h x f plain more
