use Rattle.std.proofs.Common.{◌∙◌}
use Rattle.ioc_core.proofs.Works.{asked_by_handle, asked_next, asked_none}
use Rattle.ioc_core.proofs.ioc.Ioc.handle_asked.Goals as goal

pub returns-then-form-eq-MPI2_SAS_DEVICE_PGAD_FORM_HANDLE : goal.returns-then-form-eq-MPI2_SAS_DEVICE_PGAD_FORM_HANDLE
returns-then-form-eq-MPI2_SAS_DEVICE_PGAD_FORM_HANDLE c = λ frame stands. asked_by_handle c.args.ask.now frame stands c.args.self.now.part c.if-form-eq-MPI2_SAS_DEVICE_PGAD_FORM_HANDLE.true

pub returns-then-form-eq-NEXT_FORM : goal.returns-then-form-eq-NEXT_FORM
returns-then-form-eq-NEXT_FORM c = λ frame stands. c.next_present.ensures ∙ asked_next c.args.ask.now frame stands c.args.self.now.part c.if-form-eq-NEXT_FORM.true

pub returns-else-form-eq-NEXT_FORM : goal.returns-else-form-eq-NEXT_FORM
returns-else-form-eq-NEXT_FORM c = λ frame stands. asked_none c.args.ask.now frame stands c.args.self.now.part c.if-form-eq-MPI2_SAS_DEVICE_PGAD_FORM_HANDLE.false c.if-form-eq-NEXT_FORM.false
