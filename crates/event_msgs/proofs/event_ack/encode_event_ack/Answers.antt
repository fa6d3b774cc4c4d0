use Rattle.std.proofs.Common.{IsTrue, ◌≡◌, ◌≤◌, length, drop, subst, sym, lit<, lit≤}
use Rattle.mpi_layout.specs.Rows.{Shape, values_fit}
use Rattle.event_msgs.specs.EventAck.{event_ack_layout}
use Rattle.event_msgs.proofs.event_ack.encode_event_ack.Goals as goal

pub write-requires : goal.write-requires
unfolding event_ack_layout
write-requires c =
    let fitting = subst (λ xs. IsTrue (values_fit (event_ack_layout).rows xs)) (sym c.values.ensures) c.requires.fitting in (
      lit< tt,
      (
        lit< tt,
        (
          lit≤ tt,
          (
            subst (λ (s : Shape). IsTrue (values_fit s.rows c.values.result)) (sym c.layout.ensures) fitting,
            subst (λ (s : Shape). s.length ≤ length c.args.out.now) (sym c.layout.ensures) c.requires.room,
          ),
        ),
      ),
    )

pub returns-clause-rest : goal.returns-clause-rest
unfolding event_ack_layout
returns-clause-rest c =
    subst (λ (s : Shape). drop s.length c.write.new.out ≡ drop s.length c.args.out.now) c.layout.ensures c.write.ensures.rest
