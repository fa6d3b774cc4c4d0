use Rattle.std.proofs.Common.{◌∙◌, ◌++◌, ap}
use Rattle.mpt_wire.specs.Messages.Fields.{changes_in}
use Rattle.mpt_rules.specs.Host.Removal.{hears_changes}
use Rattle.mpt_rules.specs.Host.Replies.{reply_bytes}
use Rattle.host_core.proofs.Changes.{acknowledged}
use Rattle.host_core.proofs.host.Host.hear_event.Goals as goal

pub returns-clause-host : goal.returns-clause-host
returns-clause-host c =
    let acked = acknowledged c.args.self.now.host c.ask_internal.new.self.host (reply_bytes c.args.reply.now) c.event.result c.event_context.result c.ask_internal.ensures.host c.event.ensures c.event_context.ensures in
    c.hear_changes.ensures.host ∙ ap (λ h. (hears_changes h (changes_in (reply_bytes c.args.reply.now))).part) acked

pub returns-clause-told : goal.returns-clause-told
returns-clause-told c =
    let acked = acknowledged c.args.self.now.host c.ask_internal.new.self.host (reply_bytes c.args.reply.now) c.event.result c.event_context.result c.ask_internal.ensures.host c.event.ensures c.event_context.ensures in
    c.hear_changes.ensures.told
    ∙ ap (λ told. told ++ (hears_changes c.ask_internal.new.self.host (changes_in (reply_bytes c.args.reply.now))).entries) c.ask_internal.ensures.told
    ∙ ap (λ h. c.args.self.now.told ++ (hears_changes h (changes_in (reply_bytes c.args.reply.now))).entries) acked
