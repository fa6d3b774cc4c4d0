use Rattle.std.proofs.Common.{◌++◌, ◌∙◌, Bool, sym, ap}
use Rattle.mpt_rules.specs.Ioc.Commands.{works_scsi}
use Rattle.mpt_rules.specs.Ioc.Configuration.{works_config}
use Rattle.mpt_rules.specs.Ioc.Parts.{Ioc}
use Rattle.mpt_rules.specs.Ioc.Steps.{after_step}
use Rattle.mpt_rules.specs.Ioc.Tasks.{works_task}
use Rattle.mpt_rules.specs.Outcome.{Called}
use Rattle.ioc_requests.specs.declared.asked.Asked.TheVariants as asked
use Rattle.ioc_requests.specs.declared.asked.PostRead.TheVariants as read
use Rattle.ioc_core.specs.Working.{IsFront, without_front}
use Rattle.ioc_core.proofs.Controls.{control_without}
use Rattle.ioc_core.proofs.FrontRead.{steps_read, was_front}
use Rattle.ioc_core.proofs.ioc.Ioc.serve_asked.Goals as goal

pub returns-in_ok-work_control-in-Control-clause-part : goal.returns-in_ok-work_control-in-Control-clause-part
returns-in_ok-work_control-in-Control-clause-part c =
    let front : IsFront c.args.queue c.args.self.now.part c.args.smid (read.Asks (asked.Control c.in-Control.ask)) = rw c.in-Control.is at c.requires.front in
    let done = steps_read c.args.queue c.args.self.now.part c.args.smid (read.Asks (asked.Control c.in-Control.ask)) front ∙ ap after_step (control_without c.args.queue c.args.self.now.part front.post) in
    c.take_front.ensures.part
    ∙ ap (without_front c.args.queue) (c.in_ok-work_control-in-Control.ensures.part front.post front.smid_is front.read_is.1.stands)
    ∙ sym (ap (λ (o : Called Ioc Bool). o.part) done)

pub returns-in_ok-work_control-in-Control-clause-told : goal.returns-in_ok-work_control-in-Control-clause-told
returns-in_ok-work_control-in-Control-clause-told c =
    let front : IsFront c.args.queue c.args.self.now.part c.args.smid (read.Asks (asked.Control c.in-Control.ask)) = rw c.in-Control.is at c.requires.front in
    let done = steps_read c.args.queue c.args.self.now.part c.args.smid (read.Asks (asked.Control c.in-Control.ask)) front ∙ ap after_step (control_without c.args.queue c.args.self.now.part front.post) in
    c.take_front.ensures.told
    ∙ c.in_ok-work_control-in-Control.ensures.told front.post front.smid_is front.read_is.1.stands
    ∙ ap (λ xs. c.args.self.now.told ++ xs) (sym (ap (λ (o : Called Ioc Bool). o.told) done))

pub returns-in_ok-page-in-Page-clause-part : goal.returns-in_ok-page-in-Page-clause-part
returns-in_ok-page-in-Page-clause-part c =
    let front = was_front c.args.queue c.args.self.now.part c.args.smid (read.Asks (asked.Page c.in-Page.ask)) c.take_front-post.result (rw c.in-Page.is at c.requires.front) c.take_front-post.ensures.value in
    c.answer_config.ensures.part ∙ ap (λ (i : Ioc). works_config i c.take_front-post.result) c.take_front-post.ensures.part ∙ sym (ap (λ (o : Called Ioc Bool). o.part) front.done)

pub returns-in-Command-clause-part : goal.returns-in-Command-clause-part
returns-in-Command-clause-part c =
    let front = was_front c.args.queue c.args.self.now.part c.args.smid (read.Asks (asked.Command c.in-Command.io)) c.take_front-post-in-Command.result (rw c.in-Command.is at c.requires.front) c.take_front-post-in-Command.ensures.value in
    c.work_scsi.ensures.part ∙ ap (λ (i : Ioc). works_scsi i c.take_front-post-in-Command.result) c.take_front-post-in-Command.ensures.part ∙ sym (ap (λ (o : Called Ioc Bool). o.part) front.done)

pub returns-in-Task-clause-part : goal.returns-in-Task-clause-part
returns-in-Task-clause-part c =
    let front = was_front c.args.queue c.args.self.now.part c.args.smid (read.Asks (asked.Task c.in-Task.ask)) c.take_front-post-in-Task.result (rw c.in-Task.is at c.requires.front) c.take_front-post-in-Task.ensures.value in
    c.work_task.ensures.part ∙ ap (λ (i : Ioc). works_task i c.take_front-post-in-Task.result) c.take_front-post-in-Task.ensures.part ∙ sym (ap (λ (o : Called Ioc Bool). o.part) front.done)
