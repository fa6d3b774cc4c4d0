use Rattle.std.proofs.Common.{◌∙◌, sym, ap, arith}
use Rattle.mpt_rules.specs.Host.Parts.{Host}
use Rattle.mpt_rules.specs.Host.Returns.{with_return}
use Rattle.host_core.proofs.Returns.{returns-more}
use Rattle.host_core.proofs.host.Host.return_all.Goals as goal

pub loop-frame-preserved : goal.loop-frame-preserved
loop-frame-preserved c =
    record {
      host =
          c.return_frame.ensures.host
          ∙ ap (λ (h : Host). with_return h c.loop-frame.frame) c.loop-frame.invariant.host
          ∙ sym (returns-more c.args.self.now.host c.loop-frame.frame);
      told = c.return_frame.ensures.told ∙ c.loop-frame.invariant.told;
      room = omega (arith, c.return_frame.ensures.room, c.loop-frame.invariant.room);
      numbers = c.return_frame.ensures.numbers ∙ c.loop-frame.invariant.numbers;
      aborts = c.return_frame.ensures.aborts ∙ c.loop-frame.invariant.aborts;
    }
