use Rattle.law_heard.proofs.Marks.{marks_pass}
use Rattle.law_heard.proofs.laws.lanes_are_marked.Goals as goal

pub returns : goal.returns
returns c = λ w h x f plain queue a b. marks_pass w h x f plain queue a b
