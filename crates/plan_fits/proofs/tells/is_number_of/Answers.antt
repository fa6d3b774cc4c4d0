use Rattle.std.proofs.Common.{◌∙◌}
use Rattle.plan_fits.proofs.tells.is_number_of.Goals as goal

pub returns : goal.returns
returns c = c.contains.ensures ∙ c.requires c.args.n
