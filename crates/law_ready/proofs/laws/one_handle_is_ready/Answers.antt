use Rattle.law_ready.proofs.AddressesKept.{addresses_kept}
use Rattle.law_ready.proofs.laws.one_handle_is_ready.Goals as goal

pub returns : goal.returns
returns c = λ w h x f plain off. addresses_kept w h f plain off x
