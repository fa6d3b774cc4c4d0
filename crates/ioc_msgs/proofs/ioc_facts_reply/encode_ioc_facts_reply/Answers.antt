use Rattle.std.proofs.Common.{IsTrue, ◌≡◌, ◌≤◌, length, drop, subst, sym, lit<, lit≤}
use Rattle.mpi_layout.specs.Rows.{Shape, values_fit}
use Rattle.ioc_msgs.specs.IocFactsReply.{ioc_facts_reply_layout}
use Rattle.ioc_msgs.proofs.ioc_facts_reply.encode_ioc_facts_reply.Goals as goal

pub write-requires : goal.write-requires
unfolding ioc_facts_reply_layout
write-requires c =
    let fitting = subst (λ xs. IsTrue (values_fit (ioc_facts_reply_layout).rows xs)) (sym c.values.ensures) c.requires.fitting in (
      lit< tt,
      (
        lit< tt,
        (
          lit≤ tt,
          (
            subst (λ (s : Shape). IsTrue (values_fit s.rows c.values.result)) (sym c.layout.ensures) fitting,
            subst (λ (s : Shape). s.length ≤ length c.args.out.now) (sym c.layout.ensures) c.requires.room,
          ),
        ),
      ),
    )

pub returns-clause-rest : goal.returns-clause-rest
unfolding ioc_facts_reply_layout
returns-clause-rest c =
    subst (λ (s : Shape). drop s.length c.write.new.out ≡ drop s.length c.args.out.now) c.layout.ensures c.write.ensures.rest
