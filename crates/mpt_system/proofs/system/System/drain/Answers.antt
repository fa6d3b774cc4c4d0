use Rattle.std.proofs.Common.{ap, ◌∙◌}
use Rattle.mpt_rules.specs.World.Drain.{drain_with}
use Rattle.mpt_rules.specs.World.Weight.{weight}
use Rattle.mpt_system.specs.Whole.{Whole, after}
use Rattle.mpt_system.proofs.RoundsMade.{none_drained, on_err}
use Rattle.mpt_system.proofs.system.System.drain.Goals as goal

pub returns-clause-ok : goal.returns-clause-ok
returns-clause-ok c =
    let now = c.write.new.self in
    c.in_ok-rounds.ensures.ok ∙ (ap (λ k. after now (drain_with k now.world)) c.weight-most.ensures
    ∙ ap (λ (x : Whole). after x (drain_with (weight x.world) x.world)) c.in_ok-write.ensures.ok)

pub returns-in_err-write-clause-memory : goal.returns-in_err-write-clause-memory
returns-in_err-write-clause-memory c =
    on_err c.from_residual.result _ (none_drained c.args.self.now c.write.new.self c.in_err-write.ensures.stays)
