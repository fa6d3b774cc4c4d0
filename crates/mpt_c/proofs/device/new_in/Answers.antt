use Rattle.std.proofs.Common.{sym, subst}
use Rattle.ioc_core.specs.Seen.{IocSeen}
use Rattle.mpt_c_calls.specs.Making.{IsNewIoc}
use Rattle.mpt_c.proofs.device.new_in.Goals as goal

pub returns : goal.returns
returns c =
    (c.in-Ok-new.boxed.value, c.put.ensures, subst (λ (ioc : IocSeen). IsNewIoc c.args.phys.now c.args.queues ioc) (sym c.in-Ok-new.ensures.ok) c.in-Ok.ensures.made)
