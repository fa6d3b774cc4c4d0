use Rattle.std.proofs.Common.{refl}
use Rattle.ioc_msgs.specs.PortFactsReply.{port_facts_reply_layout, port_facts_reply_values}
use Rattle.ioc_msgs.proofs.port_facts_reply.PortFactsReply.from_values.Goals as goal

pub returns : goal.returns
unfolding port_facts_reply_layout port_facts_reply_values
returns c = refl
