use Rattle.std.proofs.Common.{◌∙◌, sym}
use Rattle.ioc_replies.proofs.Members.{kept}
use Rattle.ioc_replies.proofs.contexts.Contexts.has.Goals as goal

pub returns : goal.returns
returns c =
    rw (← c.self.view_is) (c.contains.ensures ∙ sym (kept c.self.inside.contexts.keys c.args.context))
