use Rattle.std.proofs.Common.{refl}
use Rattle.ioc_core.proofs.Works.{task_aborts, task_fails, task_resets}
use Rattle.ioc_core.proofs.ioc.Ioc.work_task.Goals as goal

pub returns-then-task_type-eq-MPI2_SCSITASKMGMT_TASKTYPE_ABORT_TASK-clause-part : goal.returns-then-task_type-eq-MPI2_SCSITASKMGMT_TASKTYPE_ABORT_TASK-clause-part
returns-then-task_type-eq-MPI2_SCSITASKMGMT_TASKTYPE_ABORT_TASK-clause-part c =
    let works = task_aborts c.args.self.now.part c.args.post.now c.args.ask.now c.requires.stands c.if-task_type-eq-MPI2_SCSITASKMGMT_TASKTYPE_ABORT_TASK.true in
    rw (works, c.abort.ensures.part, c.smid_of-smid.ensures) refl

pub returns-then-task_type-eq-MPI2_SCSITASKMGMT_TASKTYPE_TARGET_RESET-clause-part : goal.returns-then-task_type-eq-MPI2_SCSITASKMGMT_TASKTYPE_TARGET_RESET-clause-part
returns-then-task_type-eq-MPI2_SCSITASKMGMT_TASKTYPE_TARGET_RESET-clause-part c =
    let works = task_resets c.args.self.now.part c.args.post.now c.args.ask.now c.requires.stands c.if-task_type-eq-MPI2_SCSITASKMGMT_TASKTYPE_TARGET_RESET.true in
    rw (works, c.reset_target.ensures.part, c.smid_of-smid.ensures) refl

pub returns-else-task_type-eq-MPI2_SCSITASKMGMT_TASKTYPE_TARGET_RESET-clause-part : goal.returns-else-task_type-eq-MPI2_SCSITASKMGMT_TASKTYPE_TARGET_RESET-clause-part
returns-else-task_type-eq-MPI2_SCSITASKMGMT_TASKTYPE_TARGET_RESET-clause-part c =
    let works = task_fails c.args.self.now.part c.args.post.now c.args.ask.now c.requires.stands c.if-task_type-eq-MPI2_SCSITASKMGMT_TASKTYPE_ABORT_TASK.false c.if-task_type-eq-MPI2_SCSITASKMGMT_TASKTYPE_TARGET_RESET.false in
    rw (works, c.fail_task.ensures.part, c.smid_of-smid.ensures) refl
