use Rattle.mpt_live.proofs.Submitters.{goes_far, goes_nowhere}
use Rattle.mpt_live.proofs.running.run_submitter.Goals as goal

pub loop-init : goal.loop-init
loop-init g c = goes_nowhere c.args.end.now

pub loop-preserved : goal.loop-preserved
loop-preserved g c =
    goes_far c.args.end.now c.loop.end c.pump.new.self c.loop.invariant c.in-Ok-pump.ensures.cases c.in-Ok-pump.ensures.lanes c.in-Ok-pump.ensures.number

pub returns-then-pumped-clause-cases : goal.returns-then-pumped-clause-cases
returns-then-pumped-clause-cases g c not_spent =
    (goes_far c.args.end.now c.loop.end c.pump.new.self c.loop.invariant c.in-Ok-pump.ensures.cases c.in-Ok-pump.ensures.lanes c.in-Ok-pump.ensures.number).cases

pub returns-then-pumped-clause-lanes : goal.returns-then-pumped-clause-lanes
returns-then-pumped-clause-lanes g c not_spent =
    (goes_far c.args.end.now c.loop.end c.pump.new.self c.loop.invariant c.in-Ok-pump.ensures.cases c.in-Ok-pump.ensures.lanes c.in-Ok-pump.ensures.number).lanes
