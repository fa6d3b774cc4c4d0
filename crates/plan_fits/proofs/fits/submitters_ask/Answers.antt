use Rattle.std.proofs.Common.{rules, length}
use Rattle.plan_fits.proofs.NoMore.{asked_all}
use Rattle.plan_fits.proofs.fits.submitters_ask.Goals as goal

pub returns-then-all_ask : goal.returns-then-all_ask
returns-then-all_ask c = asked_all (length c.args.plan.now.submitters) c.args.t.now c.puts_beyond.result (search rules) (search rules)
