use Rattle.std.proofs.Common.{◌≡◌, ◌∷◌, ap, ◌∙◌, sym}
use Rattle.std.specs.Prelude.{Some}
use Rattle.mpt_trace.specs.Command.{command_named}
use Rattle.mpt_trace.specs.declared.entry.Entry.TheVariants as entry
use Rattle.mpt_trace.specs.declared.input.Input.TheVariants as input
use Rattle.mpt_rules.specs.Host.Inputs.{host_submits}
use Rattle.host_core.specs.Faults.{refusal_by}
use Rattle.scsi_disk.specs.declared.command.Command.{Command}
use Rattle.mpt_live.proofs.Granted.{submit_refused, submit_stays}
use Rattle.mpt_live.proofs.recorded_host.ask_submit.Goals as goal

pub returns-in_ok-cause-in-Err-clause-host : goal.returns-in_ok-cause-in-Err-clause-host
returns-in_ok-cause-in-Err-clause-host c =
    let why : Some c.in_ok-cause-in-Err.cause ≡ refusal_by (host_submits c.args.host.now.host c.args.n c.args.address (command_named c.args.form.now)).answer =
    sym c.in_ok-cause-in-Err.ensures ∙ c.in-Err.ensures.refused
    ∙ ap (λ (command : Command). refusal_by (host_submits c.args.host.now.host c.args.n c.args.address command).answer) c.in_ok-command.ensures in
    c.in-Err.ensures.stays.host ∙ sym (submit_stays c.args.host.now.host c.args.n c.args.address c.args.form.now c.in_ok-cause-in-Err.cause why)

pub returns-in_ok-cause-in-Err-clause-entries : goal.returns-in_ok-cause-in-Err-clause-entries
returns-in_ok-cause-in-Err-clause-entries c =
    let why : Some c.in_ok-cause-in-Err.cause ≡ refusal_by (host_submits c.args.host.now.host c.args.n c.args.address (command_named c.args.form.now)).answer =
    sym c.in_ok-cause-in-Err.ensures ∙ c.in-Err.ensures.refused
    ∙ ap (λ (command : Command). refusal_by (host_submits c.args.host.now.host c.args.n c.args.address command).answer) c.in_ok-command.ensures in
    ap (λ told. entry.Given (input.Submit c.args.n c.args.address c.args.form.now) ∷ entry.RefuseSubmit c.args.n c.in_ok-cause-in-Err.cause ∷ told) (c.in-Err.ensures.stays.told ∙ c.requires)
    ∙ sym (submit_refused c.args.host.now.host c.args.n c.args.address c.args.form.now c.in_ok-cause-in-Err.cause why)
