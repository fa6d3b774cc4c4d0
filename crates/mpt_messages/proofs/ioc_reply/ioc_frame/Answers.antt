use Rattle.mpt_messages.proofs.IocFits.{notified_fits}
use Rattle.mpt_messages.proofs.ioc_reply.ioc_frame.Goals as goal

pub write_frame-requires-in-Notified : goal.write_frame-requires-in-Notified
write_frame-requires-in-Notified c = rw c.notified.ensures notified_fits
