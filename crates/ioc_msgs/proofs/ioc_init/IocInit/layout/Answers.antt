use Rattle.ioc_msgs.specs.IocInit.{ioc_init_layout}
use Rattle.ioc_msgs.proofs.ioc_init.IocInit.layout.Goals as goal

pub returns : goal.returns
unfolding ioc_init_layout
returns c = c.new.ensures
