use Rattle.ioc_msgs.specs.IocInitReply.{ioc_init_reply_layout}
use Rattle.ioc_msgs.proofs.ioc_init_reply.IocInitReply.layout.Goals as goal

pub returns : goal.returns
unfolding ioc_init_reply_layout
returns c = c.new.ensures
