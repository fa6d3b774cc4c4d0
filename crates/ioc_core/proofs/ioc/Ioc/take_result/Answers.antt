use Rattle.std.proofs.Common.{◌∙◌, Some, ap, sym}
use Rattle.mpt_rules.specs.declared.at_fabric.AtFabric.{AtFabric}
use Rattle.mpt_rules.specs.Ioc.Tables.{request_at}
use Rattle.ioc_core.proofs.Results.{result_taken}
use Rattle.ioc_core.proofs.ioc.Ioc.take_result.Goals as goal

pub returns-in-Some-Command-clause-part : goal.returns-in-Some-Command-clause-part
returns-in-Some-Command-clause-part c =
    let there = c.in-Some-Command in
    result_taken c.args.self.now.part c.end_command.new.self.part c.args.tag c.args.done (request_at c.args.self.now.part c.args.tag) there.handle there.queue there.len c.moved_by-moved.result there.written c.result_said-answer.result
    (sym c.request_at.ensures ∙ there.is ∙ ap (λ (r : AtFabric). Some r) there.field-0-is)
    c.moved_by-moved.ensures c.result_said-answer.ensures c.end_command.ensures.part
