use Rattle.std.proofs.Common.{◌≡◌, ◌∙◌, ℕ, ◌++◌, List, Option, IsSome, ap, option_map, subst}
use Rattle.scsi_disk.specs.declared.command.Command.{Command}
use Rattle.mpt_trace.specs.declared.command_form.CommandForm.{CommandForm}
use Rattle.mpt_trace.specs.declared.entry.Entry.{Entry}
use Rattle.mpt_trace.specs.declared.entry.Entry.TheVariants as entry
use Rattle.mpt_trace.specs.declared.input.Input.TheVariants as input
use Rattle.mpt_trace.specs.declared.refusal.Refusal.{Refusal}
use Rattle.mpt_rules.specs.Host.Parts.{Host}
use Rattle.host_core.specs.Asking.{asks}
use Rattle.host_core.specs.Faults.{refusal_by}
use Rattle.mpt_trace.specs.Command.{command_named}
use Rattle.mpt_rules.specs.Host.Inputs.{host_submits}
use Rattle.host_core.proofs.Inputs.{abort_silent, host_either, submit_refused, submit_stays, target_silent, told_either, told_none}
use Rattle.host_core.proofs.host.Host.ask.Goals as goal

pub returns-in_ok-cause-in-Abort-clause-told : goal.returns-in_ok-cause-in-Abort-clause-told
returns-in_ok-cause-in-Abort-clause-told c =
    rw c.in-Abort.is (told_none _ _ _ c.abort.ensures.told (abort_silent c.args.self.now.host c.in-Abort.n))

pub returns-in_ok-cause-in-TargetReset-clause-told : goal.returns-in_ok-cause-in-TargetReset-clause-told
returns-in_ok-cause-in-TargetReset-clause-told c =
    rw c.in-TargetReset.is (told_none _ _ _ c.target_reset.ensures.told (target_silent c.args.self.now.host c.in-TargetReset.address))

-- what a submission gives, as the form names its command
refused_as_named : (answer : Option Entry) (host : Host) (n address : ℕ) (form : CommandForm) (command : Command) (cause : Option Refusal) → command ≡ command_named form → answer ≡ option_map (entry.RefuseSubmit n) cause → cause ≡ refusal_by (host_submits host n address command).answer → answer ≡ (asks host (input.Submit n address form)).answer
refused_as_named answer host n address form command cause named is for =
    is ∙ ap (option_map (entry.RefuseSubmit n)) (for ∙ ap (λ (x : Command). refusal_by (host_submits host n address x).answer) named)

left_as_named : (new host : Host) (n address : ℕ) (form : CommandForm) (command : Command) → command ≡ command_named form → new ≡ (host_submits host n address command).part → new ≡ (asks host (input.Submit n address form)).part
left_as_named new host n address form command named is = is ∙ ap (λ (x : Command). (host_submits host n address x).part) named

told_as_named : (new had : List Entry) (host : Host) (n address : ℕ) (form : CommandForm) (command : Command) → command ≡ command_named form → new ≡ had ++ (host_submits host n address command).told → new ≡ had ++ (asks host (input.Submit n address form)).told
told_as_named new had host n address form command named is = is ∙ ap (λ (x : Command). had ++ (host_submits host n address x).told) named

pub returns-in_ok-cause-in-Submit-clause-refused : goal.returns-in_ok-cause-in-Submit-clause-refused
returns-in_ok-cause-in-Submit-clause-refused c =
    rw c.in-Submit.is
    (refused_as_named c.refuse_submit.result c.args.self.now.host c.in-Submit.n c.in-Submit.address c.in-Submit.form c.in_ok-command-in-Submit.command c.in_ok-cause-in-Submit.cause c.in_ok-command-in-Submit.ensures c.refuse_submit.ensures
    (c.in_ok-cause-in-Submit.ensures.cause ∙ c.submit.ensures.refused))

pub returns-in_ok-cause-in-Submit-clause-host : goal.returns-in_ok-cause-in-Submit-clause-host
returns-in_ok-cause-in-Submit-clause-host c =
    let command = c.in_ok-command-in-Submit.command in
    let left =
    host_either c.submit.result c.args.self.now c.submit.new.self (host_submits c.args.self.now.host c.in-Submit.n c.in-Submit.address command) c.in_ok-cause-in-Submit.cause c.submit.ensures.ok c.submit.ensures.stays c.in_ok-cause-in-Submit.ensures.refused
    (λ some. submit_stays c.args.self.now.host c.in-Submit.n c.in-Submit.address command (subst IsSome (c.in_ok-cause-in-Submit.ensures.cause ∙ c.submit.ensures.refused) some)) in
    rw c.in-Submit.is (left_as_named c.submit.new.self.host c.args.self.now.host c.in-Submit.n c.in-Submit.address c.in-Submit.form command c.in_ok-command-in-Submit.ensures left)

pub returns-in_ok-cause-in-Submit-clause-told : goal.returns-in_ok-cause-in-Submit-clause-told
returns-in_ok-cause-in-Submit-clause-told c =
    let command = c.in_ok-command-in-Submit.command in
    let told =
    told_either c.submit.result c.args.self.now c.submit.new.self (host_submits c.args.self.now.host c.in-Submit.n c.in-Submit.address command) c.in_ok-cause-in-Submit.cause c.submit.ensures.told c.submit.ensures.stays c.in_ok-cause-in-Submit.ensures.refused
    (λ some. submit_refused c.args.self.now.host c.in-Submit.n c.in-Submit.address command (subst IsSome (c.in_ok-cause-in-Submit.ensures.cause ∙ c.submit.ensures.refused) some)) in
    rw c.in-Submit.is (told_as_named c.submit.new.self.told c.args.self.now.told c.args.self.now.host c.in-Submit.n c.in-Submit.address c.in-Submit.form command c.in_ok-command-in-Submit.ensures told)
