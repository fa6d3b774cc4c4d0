use Rattle.std.proofs.Common.{sym}
use Rattle.ioc_core.proofs.Works.{notified}
use Rattle.ioc_core.proofs.ioc.Ioc.work_notification.Goals as goal

pub returns-clause-part : goal.returns-clause-part
returns-clause-part c =
    rw (c.answer.ensures.part, c.let_through.ensures.part, c.smid_of.ensures) (sym (notified c.args.self.now.part c.args.post.now c.args.ask.now c.requires.stands))
