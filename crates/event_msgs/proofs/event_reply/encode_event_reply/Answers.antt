use Rattle.std.proofs.Common.{◌≡◌, ◌-◌, ◌*◌, ◌≤◌, ◌∙◌, IsTrue, length, take, drop, subst, sym, lit<, lit≤, arith}
use Rattle.std.proofs.lemmas.List.{length-take, length-drop}
use borrow.Rule.Slice.PartMut.{put_mid}
use Rattle.mpi_layout.specs.Rows.{Shape, Stands, values_fit}
use Rattle.event_msgs.specs.EventData.{data_fit}
use Rattle.event_msgs.specs.EventReply.{EventReplyStands, event_reply_layout, event_reply_length, event_reply_values}
use Rattle.event_msgs.proofs.EventBytes.{fit_parts, words-range, written, written_rest}
use Rattle.event_msgs.proofs.event_reply.encode_event_reply.Goals as goal

pub write-requires : goal.write-requires
unfolding event_reply_layout
write-requires c =
    let parts = fit_parts c.args.m.now c.requires.fitting in
    let fitting = subst (λ xs. IsTrue (values_fit (event_reply_layout).rows xs)) (sym c.values.ensures) parts.rows in
    let room : 28 ≤ length c.args.out.now = omega (arith, c.requires.room) in (
      lit< tt,
      (
        lit< tt,
        (
          lit≤ tt,
          (
            subst (λ (s : Shape). IsTrue (values_fit s.rows c.values.result)) (sym c.layout.ensures) fitting,
            subst (λ (s : Shape). s.length ≤ length c.args.out.now) (sym c.layout.ensures) room,
          ),
        ),
      ),
    )

pub write_data-requires-clause-few : goal.write_data-requires-clause-few
write_data-requires-clause-few c =
    let range = words-range c.args.m.now (fit_parts c.args.m.now c.requires.fitting).rows in
    simp (length-take, length-drop) (omega (arith, c.length-length.ensures))

pub write_data-requires-clause-fitting : goal.write_data-requires-clause-fitting
write_data-requires-clause-fitting c =
    let parts = fit_parts c.args.m.now c.requires.fitting in
    let size : length (take (c.length-length.result - 28) (drop 28 c.write.new.out)) ≡ 4 * c.args.m.now.event_data_length = simp (length-take, length-drop) (omega (arith, c.length-length.ensures, c.requires.room, c.write.auto.out)) in
    subst (λ n. IsTrue (data_fit n c.args.m.now.event_data)) (sym size) parts.event_data

pub returns-clause-stands : goal.returns-clause-stands
returns-clause-stands c =
    let stands : Stands event_reply_layout (event_reply_values c.args.m.now) c.write.new.out = subst (λ (s : Shape). Stands s (event_reply_values c.args.m.now) c.write.new.out) c.layout.ensures (subst (λ xs. Stands c.layout.result xs c.write.new.out) c.values.ensures c.write.ensures.stands) in
    let size : length (take (c.length-length.result - 28) (drop 28 c.write.new.out)) ≡ 4 * c.args.m.now.event_data_length = simp (length-take, length-drop) (omega (arith, c.length-length.ensures, c.requires.room, c.write.auto.out)) in
    let done = written c.args.m.now c.write.new.out c.write_data.new.out c.requires.fitting stands (omega (arith, c.requires.room, c.write.auto.out)) (c.write_data.auto.out ∙ size) c.write_data.ensures in
    subst (λ n. EventReplyStands c.args.m.now (put_mid 28 (n - 28) c.write.new.out c.write_data.new.out)) (sym c.length-length.ensures) done

pub returns-clause-rest : goal.returns-clause-rest
returns-clause-rest c =
    let size : length (take (c.length-length.result - 28) (drop 28 c.write.new.out)) ≡ 4 * c.args.m.now.event_data_length = simp (length-take, length-drop) (omega (arith, c.length-length.ensures, c.requires.room, c.write.auto.out)) in
    let rest = subst (λ (s : Shape). drop s.length c.write.new.out ≡ drop s.length c.args.out.now) c.layout.ensures c.write.ensures.rest in
    let done = written_rest c.args.m.now c.args.out.now c.write.new.out c.write_data.new.out (c.write_data.auto.out ∙ size) (omega (arith, c.requires.room, c.write.auto.out)) rest in
    subst (λ n. drop (event_reply_length c.args.m.now) (put_mid 28 (n - 28) c.write.new.out c.write_data.new.out) ≡ drop (event_reply_length c.args.m.now) c.args.out.now) (sym c.length-length.ensures) done
