use Rattle.std.proofs.Common.{IsTrue, subst, sym, rules, arith}
use Rattle.std.proofs.lemmas.Grind.{common_steps}
use Rattle.event_msgs.specs.declared.event_reply.EventReply.{EventReply}
use Rattle.event_msgs.specs.EventReply.{event_reply_fit}
use Rattle.mpt_messages.proofs.IocFits.{topology_fits}
use Rattle.mpt_messages.proofs.ioc_reply.topology.Goals as goal

pub returns-clause-said : goal.returns-clause-said
returns-clause-said c = first_of (search rules, grind (arith, common_steps))

pub returns-clause-fitting : goal.returns-clause-fitting
returns-clause-fitting c = subst (λ (m : EventReply). IsTrue (event_reply_fit m)) (sym (returns-clause-said c)) (topology_fits c.args.context c.args.handle c.args.expander c.args.phys c.args.phy c.args.added c.ranges.context.fits c.ranges.handle.fits c.requires c.ranges.phys.fits c.ranges.phy.fits)
