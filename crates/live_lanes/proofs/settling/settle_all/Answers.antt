use Rattle.live_lanes.proofs.Settled.{begun, one_more, same_last}
use Rattle.live_lanes.proofs.settling.settle_all.Goals as goal

pub loop-giving-init : goal.loop-giving-init
loop-giving-init g c = begun c.args.givings.items c.args.takings.items c.requires

pub settle-requires : goal.settle-requires
settle-requires g c =
    same_last c.args.givings.items c.args.takings.items c.loop-giving.givings.items c.loop-giving.takings.items c.pop.new.self.items c.pop-in-Some.new.self.items c.in-Some.giving
    c.in-Some-pop.taking c.loop-giving.invariant c.in-Some.ensures.items c.in-Some-pop.ensures.items

pub loop-giving-preserved : goal.loop-giving-preserved
loop-giving-preserved g c =
    one_more c.args.givings.items c.args.takings.items c.loop-giving.givings.items c.loop-giving.takings.items c.pop.new.self.items c.pop-in-Some.new.self.items c.in-Some.giving
    c.in-Some-pop.taking c.loop-giving.invariant c.in-Some.ensures.items c.in-Some-pop.ensures.items c.settle.ensures
