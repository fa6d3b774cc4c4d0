use Rattle.ioc_msgs.specs.IocFactsReply.{ioc_facts_reply_layout}
use Rattle.ioc_msgs.proofs.ioc_facts_reply.IocFactsReply.layout.Goals as goal

pub returns : goal.returns
unfolding ioc_facts_reply_layout
returns c = c.new.ensures
