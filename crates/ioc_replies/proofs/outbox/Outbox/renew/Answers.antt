use Rattle.std.proofs.Common.{rules}
use borrow.Author.Tests.{tests}
use Rattle.std.proofs.lemmas.Fn.{filter_same}
use Rattle.mpt_rules.specs.Ioc.Resets.{outlives_reset}
use Rattle.ioc_replies.proofs.outbox.Outbox.renew.Goals as goal

pub returns-clause-items : goal.returns-clause-items
returns-clause-items c =
    rw (← c.self.view_is)
    (filter_same _ outlives_reset _ (λ x b f k. search (rules, tests)) c.self.inside.items.items c.retain.new.self.items c.retain.ensures.filtered)
