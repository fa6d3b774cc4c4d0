use Rattle.law_limits.proofs.LimitsKept.{limits_kept}
use Rattle.law_notices.proofs.Fit.{notices_fit}
use Rattle.law_notices.proofs.Noticed.{noticed}
use Rattle.law_notices.proofs.PlugsBound.{plugs_bound}
use Rattle.law_notices.proofs.laws.notices_are_kept.Goals as goal

pub returns : goal.returns
returns c = λ w h x f plain z y. record { each = λ a. noticed w h x f plain z a; fit = notices_fit w h x f plain; plugs = λ g. plugs_bound w h x f plain z y g; few = (limits_kept w h f plain x).few_disks }
