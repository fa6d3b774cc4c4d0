use Rattle.law_notices.proofs.PlugsBound.{plugs_bound}
use Rattle.law_notices.proofs.laws.bound_plugs_were_told.Goals as goal

pub returns : goal.returns
returns c = λ w h x f plain z y g. plugs_bound w h x f plain z y g
