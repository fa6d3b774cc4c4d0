use Rattle.std.proofs.Common.{◌∙◌, sym}
use Rattle.mpt_rules.specs.declared.binding.Binding.TheVariants as binding
use Rattle.ioc_core.proofs.Works.{scsi_inconsistent, scsi_other, scsi_served}
use Rattle.ioc_core.proofs.ioc.Ioc.work_scsi.Goals as goal

pub returns-then-handle_of-io-clause-part : goal.returns-then-handle_of-io-clause-part
returns-then-handle_of-io-clause-part c =
    c.end_scsi.ensures.part ∙ sym (scsi_other c.args.self.now.part c.args.post c.args.io.now c.requires.stands (rw c.handle_of.ensures at c.if-handle_of-io.true))

pub returns-then-is_inconsistent-clause-part : goal.returns-then-is_inconsistent-clause-part
returns-then-is_inconsistent-clause-part c =
    c.end_scsi-then-is_inconsistent.ensures.part ∙ sym (scsi_inconsistent c.args.self.now.part c.args.post c.args.io.now c.requires.stands (rw c.handle_of.ensures at c.if-handle_of-io.false) (sym c.is_inconsistent.ensures ∙ c.if-is_inconsistent.true))

pub returns-in-Unbound-clause-part : goal.returns-in-Unbound-clause-part
returns-in-Unbound-clause-part c =
    c.end_scsi-in-Unbound.ensures.part
    ∙ sym (scsi_served c.args.self.now.part c.args.post c.args.io.now c.requires.stands (rw c.handle_of.ensures at c.if-handle_of-io.false) (sym c.is_inconsistent.ensures ∙ c.if-is_inconsistent.false) binding.Unbound (sym c.in-Unbound.ensures.value))

pub returns-in-Present-clause-part : goal.returns-in-Present-clause-part
returns-in-Present-clause-part c =
    c.send_command.ensures.part
    ∙ sym (scsi_served c.args.self.now.part c.args.post c.args.io.now c.requires.stands (rw c.handle_of.ensures at c.if-handle_of-io.false) (sym c.is_inconsistent.ensures ∙ c.if-is_inconsistent.false) (binding.Present c.in-Present.address c.in-Present.plug c.in-Present.expander c.in-Present.phy) (sym c.in-Present.ensures.value))

pub returns-in-Gone-clause-part : goal.returns-in-Gone-clause-part
returns-in-Gone-clause-part c =
    c.end_scsi-in-Gone.ensures.part
    ∙ sym (scsi_served c.args.self.now.part c.args.post c.args.io.now c.requires.stands (rw c.handle_of.ensures at c.if-handle_of-io.false) (sym c.is_inconsistent.ensures ∙ c.if-is_inconsistent.false) (binding.Gone c.in-Gone.address) (sym c.in-Gone.ensures.value))
