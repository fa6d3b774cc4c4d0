use Rattle.law_ends.proofs.IocTasks.{tasks_law}
use Rattle.law_ends.proofs.laws.tasks_go_where_bound.Goals as goal

pub returns : goal.returns
returns c = tasks_law
