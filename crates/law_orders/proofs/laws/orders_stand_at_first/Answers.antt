use Rattle.law_orders.proofs.First.{orders_at_first}
use Rattle.law_orders.proofs.laws.orders_stand_at_first.Goals as goal

pub returns : goal.returns
returns c = orders_at_first
