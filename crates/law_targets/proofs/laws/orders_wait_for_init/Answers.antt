use Rattle.law_targets.proofs.Orders.{no_orders_at_first, no_orders_kept}
use Rattle.law_targets.proofs.laws.orders_wait_for_init.Goals as goal

pub returns-clause-first : goal.returns-clause-first
returns-clause-first c = no_orders_at_first

pub returns-clause-kept : goal.returns-clause-kept
returns-clause-kept c = λ w h x f plain orders. no_orders_kept w h f orders plain x
