use Rattle.std.proofs.Common.{◌≡◌, ℕ, ◌++◌, ◌∙◌, OnOk, append-nil, sym, ap, subst}
use Rattle.mpt_rules.specs.Ioc.Parts.{Ioc}
use Rattle.mpt_messages.specs.declared.ioc_reply.IocReply.TheVariants as reply
use Rattle.mpt_rules.specs.Ioc.Replies.{ioc_answers}
use Rattle.mpt_rules.specs.Ioc.Tables.{silently}
use Rattle.mpt_rules.specs.Outcome.{Happening}
use Rattle.ioc_core.specs.Removing.{removes_for}
use Rattle.ioc_core.proofs.Works.{control_refused, control_removes}
use Rattle.ioc_core.proofs.ioc.Ioc.work_control.Goals as goal

pub returns-in-Some-clause-part : goal.returns-in-Some-clause-part
returns-in-Some-clause-part c = λ p smid stands.
    let refused = control_refused c.args.self.now.part p c.args.ask.now stands c.in-Some.status c.in-Some.ensures
    ∙ ap (λ (s : ℕ). silently (ioc_answers c.args.self.now.part s (reply.Removed c.args.ask.now.dev_handle c.args.ask.now.operation c.in-Some.status))) smid in
    c.end_removal.ensures.part ∙ sym (ap (λ (o : Happening Ioc). o.part) refused)

pub returns-in-Some-clause-told : goal.returns-in-Some-clause-told
returns-in-Some-clause-told c = λ p smid stands.
    let refused = control_refused c.args.self.now.part p c.args.ask.now stands c.in-Some.status c.in-Some.ensures
    ∙ ap (λ (s : ℕ). silently (ioc_answers c.args.self.now.part s (reply.Removed c.args.ask.now.dev_handle c.args.ask.now.operation c.in-Some.status))) smid in
    c.end_removal.ensures.told ∙ sym (append-nil c.args.self.now.told) ∙ ap (λ xs. c.args.self.now.told ++ xs) (sym (ap (λ (o : Happening Ioc). o.entries) refused))

pub returns-in-None-clause-part : goal.returns-in-None-clause-part
returns-in-None-clause-part c = λ p smid stands.
    let removes = control_removes c.args.self.now.part p c.args.ask.now stands c.in-None.ensures
    ∙ ap (λ (s : ℕ). removes_for c.args.self.now.part s c.args.ask.now.dev_handle c.args.ask.now.operation) smid in
    subst (λ (o : Happening Ioc). OnOk c.remove.result (c.remove.new.self.part ≡ o.part)) (sym removes) c.remove.ensures.part

pub returns-in-None-clause-told : goal.returns-in-None-clause-told
returns-in-None-clause-told c = λ p smid stands.
    let removes = control_removes c.args.self.now.part p c.args.ask.now stands c.in-None.ensures
    ∙ ap (λ (s : ℕ). removes_for c.args.self.now.part s c.args.ask.now.dev_handle c.args.ask.now.operation) smid in
    subst (λ (o : Happening Ioc). OnOk c.remove.result (c.remove.new.self.told ≡ c.args.self.now.told ++ o.entries)) (sym removes) c.remove.ensures.told
