use Rattle.ioc_replies.proofs.Members.{removed}
use Rattle.ioc_replies.proofs.contexts.Contexts.remove.Goals as goal

pub returns : goal.returns
returns c =
    rw (← c.self.view_is) (removed c.self.inside.contexts.keys c.remove.new.self.keys c.args.context c.remove.ensures.updates.0)
