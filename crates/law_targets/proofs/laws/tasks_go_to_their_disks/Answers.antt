use Rattle.law_targets.proofs.Passed.{pages_pass, tasks_pass}
use Rattle.law_targets.proofs.laws.tasks_go_to_their_disks.Goals as goal

pub returns-clause-tasks : goal.returns-clause-tasks
returns-clause-tasks c = λ w h x f plain orders. tasks_pass w h f plain orders x

pub returns-clause-pages : goal.returns-clause-pages
returns-clause-pages c = λ w h x f plain orders. pages_pass w h f plain orders x
