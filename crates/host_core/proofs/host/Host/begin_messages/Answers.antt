use Rattle.std.proofs.Common.{◌∙◌, ap}
use Rattle.mpt_rules.specs.declared.request.Request.TheVariants.{Notification}
use Rattle.mpt_rules.specs.Host.Parts.{Host}
use Rattle.mpt_rules.specs.Host.Posts.{asks_internal}
use Rattle.host_core.proofs.host.Host.begin_messages.Goals as goal

pub returns-clause-host : goal.returns-clause-host
returns-clause-host c = c.ask_internal.ensures.host ∙ ap (λ (h : Host). asks_internal h Notification) c.return_all.ensures.host
