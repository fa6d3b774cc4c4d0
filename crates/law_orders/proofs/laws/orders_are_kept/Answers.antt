use Rattle.law_orders.proofs.Kept.{orders_kept}
use Rattle.law_orders.proofs.laws.orders_are_kept.Goals as goal

pub returns : goal.returns
returns c = λ w h x f plain. orders_kept w h f plain x
