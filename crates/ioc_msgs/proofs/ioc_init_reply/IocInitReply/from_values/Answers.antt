use Rattle.std.proofs.Common.{refl}
use Rattle.ioc_msgs.specs.IocInitReply.{ioc_init_reply_layout, ioc_init_reply_values}
use Rattle.ioc_msgs.proofs.ioc_init_reply.IocInitReply.from_values.Goals as goal

pub returns : goal.returns
unfolding ioc_init_reply_layout ioc_init_reply_values
returns c = refl
