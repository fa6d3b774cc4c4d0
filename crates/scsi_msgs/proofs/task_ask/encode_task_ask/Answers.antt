use Rattle.std.proofs.Common.{IsTrue, ◌≡◌, ◌≤◌, length, drop, subst, sym, lit<, lit≤}
use Rattle.mpi_layout.specs.Rows.{Shape, values_fit}
use Rattle.scsi_msgs.specs.TaskAsk.{task_ask_layout}
use Rattle.scsi_msgs.proofs.task_ask.encode_task_ask.Goals as goal

pub write-requires : goal.write-requires
unfolding task_ask_layout
write-requires c =
    let fitting = subst (λ xs. IsTrue (values_fit (task_ask_layout).rows xs)) (sym c.values.ensures) c.requires.fitting in (
      lit< tt,
      (
        lit< tt,
        (
          lit≤ tt,
          (
            subst (λ (s : Shape). IsTrue (values_fit s.rows c.values.result)) (sym c.layout.ensures) fitting,
            subst (λ (s : Shape). s.length ≤ length c.args.out.now) (sym c.layout.ensures) c.requires.room,
          ),
        ),
      ),
    )

pub returns-clause-rest : goal.returns-clause-rest
unfolding task_ask_layout
returns-clause-rest c =
    subst (λ (s : Shape). drop s.length c.write.new.out ≡ drop s.length c.args.out.now) c.layout.ensures c.write.ensures.rest
