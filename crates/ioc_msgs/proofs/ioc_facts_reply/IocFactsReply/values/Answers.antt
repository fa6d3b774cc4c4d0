use Rattle.ioc_msgs.specs.IocFactsReply.{ioc_facts_reply_values}
use Rattle.ioc_msgs.proofs.ioc_facts_reply.IocFactsReply.values.Goals as goal

pub returns : goal.returns
unfolding ioc_facts_reply_values
returns c = cc
