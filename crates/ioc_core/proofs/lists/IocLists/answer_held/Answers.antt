use Rattle.std.proofs.Common.{not, rules}
use Rattle.std.proofs.lemmas.Fn.{filter_same}
use Rattle.mpt_rules.specs.declared.at_fabric.HeldReset.{HeldReset}
use Rattle.mpt_rules.specs.Ioc.Commands.{is_held_for}
use borrow.Author.Tests.{tests}
use Rattle.ioc_core.proofs.lists.IocLists.answer_held.Goals as goal

pub returns-clause-held : goal.returns-clause-held
returns-clause-held c =
    rw (← c.self.view_is)
    (filter_same _ (λ (held : HeldReset). not (is_held_for c.args.handle held)) _ (λ x b f k. search (rules, tests)) c.self.inside.held.items c.retain.new.self.items c.retain.ensures.filtered)
