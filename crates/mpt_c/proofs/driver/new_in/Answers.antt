use Rattle.std.proofs.Common.{sym, subst}
use Rattle.host_core.specs.Driver.{Driver}
use Rattle.mpt_c_hosts.specs.Making.{IsNewHost}
use Rattle.mpt_c.proofs.driver.new_in.Goals as goal

pub returns : goal.returns
returns c =
    (c.in-Ok-new.boxed.value, c.put.ensures, subst (λ (host : Driver). IsNewHost c.args.queues host) (sym c.in-Ok-new.ensures.ok) c.in-Ok.ensures.made)
