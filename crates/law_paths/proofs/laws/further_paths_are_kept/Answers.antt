use Rattle.law_paths.proofs.Kept.{further_paths_at_first, further_paths_kept}
use Rattle.law_paths.proofs.laws.further_paths_are_kept.Goals as goal

pub returns-clause-first : goal.returns-clause-first
returns-clause-first c = further_paths_at_first

pub returns-clause-kept : goal.returns-clause-kept
returns-clause-kept c = λ w h x i f plain more. further_paths_kept w h f plain more x i
