use Rattle.ioc_msgs.specs.PortFactsReply.{port_facts_reply_layout}
use Rattle.ioc_msgs.proofs.port_facts_reply.PortFactsReply.layout.Goals as goal

pub returns : goal.returns
unfolding port_facts_reply_layout
returns c = c.new.ensures
