use Rattle.std.proofs.Common.{rules}
use Rattle.mpt_lane.proofs.Keeps.{merges, totals}
use Rattle.mpt_lane.proofs.lane.Lane.settle.Goals as goal

pub absorb-requires-clause-rule : goal.absorb-requires-clause-rule
absorb-requires-clause-rule g c = merges _ _ _ _ c.requires.giver.gives c.requires.taker.takes

pub learn_as-requires-clause-rule : goal.learn_as-requires-clause-rule
learn_as-requires-clause-rule g c = totals _ _ (search rules) (search rules)
