use Rattle.law_pages.proofs.ReadyKept.{ready_kept}
use Rattle.law_pages.proofs.laws.ready_handles_are_bound.Goals as goal

pub returns : goal.returns
returns c = λ w h x f plain off. ready_kept w h x f plain off
