use Rattle.std.proofs.Common.{◌∙◌}
use Rattle.ioc_core.proofs.Events.{forgotten}
use Rattle.ioc_core.proofs.ioc.Ioc.bind_noted.Goals as goal

pub returns-in-Err-clause-stays : goal.returns-in-Err-clause-stays
returns-in-Err-clause-stays c =
    c.forget_event.ensures.part
    ∙ forgotten c.args.self.now.part c.bind_in_table.new.self.part c.in_ok-new.new (c.in-Err.ensures.stays ∙ c.in_ok-new.ensures.part) c.in_ok-new.ensures.new
