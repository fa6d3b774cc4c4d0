use Rattle.std.proofs.Common.{refl}
use Rattle.ioc_msgs.specs.IocFactsReply.{ioc_facts_reply_layout, ioc_facts_reply_values}
use Rattle.ioc_msgs.proofs.ioc_facts_reply.IocFactsReply.from_values.Goals as goal

pub returns : goal.returns
unfolding ioc_facts_reply_layout ioc_facts_reply_values
returns c = refl
