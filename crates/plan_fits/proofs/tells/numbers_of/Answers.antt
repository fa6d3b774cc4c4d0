use Rattle.std.proofs.Common.{rules}
use Rattle.plan_fits.proofs.Numbers.{took_in}
use Rattle.plan_fits.proofs.tells.numbers_of.Goals as goal

pub loop-line-preserved-in-Ok : goal.loop-line-preserved-in-Ok
loop-line-preserved-in-Ok c =
    took_in c.in-Submit.n c.in-Submit.address c.in-Submit.form c.loop-line.left.now c.in-Some.others.now c.args.lines.now c.loop-line.numbers.keys c.insert.new.self.keys (search rules) c.loop-line.invariant
    c.in-Ok.ensures.updates.0
