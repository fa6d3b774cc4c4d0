use Rattle.std.proofs.Common.{◌∙◌, sym, ap, not}
use Rattle.ioc_replies.proofs.Members.{added, kept}
use Rattle.ioc_replies.proofs.contexts.Contexts.add.Goals as goal

pub returns-clause-added : goal.returns-clause-added
returns-clause-added c =
    rw (← c.self.view_is) (c.in_ok-insert.ensures.added ∙ ap not (sym (kept c.self.inside.contexts.keys c.args.context)))

pub returns-clause-ok : goal.returns-clause-ok
returns-clause-ok c =
    rw (← c.self.view_is) (added c.self.inside.contexts.keys c.insert.new.self.keys c.args.context c.in_ok-insert.ensures.updates.0)
