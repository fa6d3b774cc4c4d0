use Rattle.ioc_msgs.specs.IocInit.{ioc_init_values}
use Rattle.ioc_msgs.proofs.ioc_init.IocInit.values.Goals as goal

pub returns : goal.returns
unfolding ioc_init_values
returns c = cc
