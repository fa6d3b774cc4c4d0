use Rattle.mpt_rules.specs.Session.OpenCases.{host_does}
use Rattle.mpt_live.proofs.HostKeeps.{host_books}
use Rattle.mpt_live.proofs.Led.{led_far, led_nowhere}
use Rattle.mpt_live.proofs.running.run_host.Goals as goal

pub loop-init : goal.loop-init
loop-init g c = led_nowhere host_does host_books c.args.end

pub loop-preserved : goal.loop-preserved
loop-preserved g c = led_far host_does host_books c.args.end c.loop.end c.pump.new.self c.loop.invariant c.in-Ok.ensures.cases c.in-Ok.ensures.lanes

pub returns-then-pumped-clause-cases : goal.returns-then-pumped-clause-cases
returns-then-pumped-clause-cases g c = (led_far host_does host_books c.args.end c.loop.end c.pump.new.self c.loop.invariant c.in-Ok.ensures.cases c.in-Ok.ensures.lanes).cases

pub returns-then-pumped-clause-lanes : goal.returns-then-pumped-clause-lanes
returns-then-pumped-clause-lanes g c = (led_far host_does host_books c.args.end c.loop.end c.pump.new.self c.loop.invariant c.in-Ok.ensures.cases c.in-Ok.ensures.lanes).lanes
