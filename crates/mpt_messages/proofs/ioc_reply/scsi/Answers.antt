use Rattle.std.proofs.Common.{IsTrue, subst, sym, rules, arith}
use Rattle.std.proofs.lemmas.Grind.{common_steps}
use Rattle.scsi_msgs.specs.declared.scsi_reply.ScsiReply.{ScsiReply}
use Rattle.scsi_msgs.specs.ScsiReply.{scsi_reply_fit}
use Rattle.mpt_messages.proofs.IocFits.{scsi_fits}
use Rattle.mpt_messages.proofs.ioc_reply.scsi.Goals as goal

pub returns-clause-said : goal.returns-clause-said
returns-clause-said c = first_of (search rules, grind (arith, common_steps))

pub returns-clause-fitting : goal.returns-clause-fitting
returns-clause-fitting c = subst (λ (m : ScsiReply). IsTrue (scsi_reply_fit m)) (sym (returns-clause-said c)) (scsi_fits c.args.handle c.args.smid c.args.scsi_status c.args.status c.args.moved c.args.sense c.ranges.handle.fits c.ranges.smid.fits c.ranges.scsi_status.fits c.ranges.status.fits c.ranges.moved.fits c.ranges.sense.fits)
