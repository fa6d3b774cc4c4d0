use Rattle.std.proofs.Common.{◌≡◌, ◌-◌, ◌≤◌, ◌∙◌, IsTrue, length, drop, ap, subst, sym, lit<, lit≤, arith}
use Rattle.std.proofs.lemmas.List.{length-take, length-drop}
use borrow.Rule.Slice.PartMut.{put_mid}
use Rattle.mpi_layout.specs.Rows.{Shape, Stands, values_fit}
use Rattle.scsi_msgs.specs.ScsiReply.{ScsiReplyStands, scsi_reply_layout, scsi_reply_length, scsi_reply_values}
use Rattle.scsi_msgs.proofs.ScsiReplyTail.{fit_parts, msg_length-range, written, written_rest}
use Rattle.scsi_msgs.proofs.scsi_reply.encode_scsi_reply.Goals as goal

pub write-requires : goal.write-requires
unfolding scsi_reply_layout
write-requires c =
    let parts = fit_parts c.args.m.now c.requires.fitting in
    let range = msg_length-range c.args.m.now parts.0 in
    let fitting = subst (λ xs. IsTrue (values_fit (scsi_reply_layout).rows xs)) (sym c.values.ensures) parts.0 in
    let room : 40 ≤ length c.args.out.now = omega (arith, c.requires.room) in (
      lit< tt,
      (
        lit< tt,
        (
          lit≤ tt,
          (
            subst (λ (s : Shape). IsTrue (values_fit s.rows c.values.result)) (sym c.layout.ensures) fitting,
            subst (λ (s : Shape). s.length ≤ length c.args.out.now) (sym c.layout.ensures) room,
          ),
        ),
      ),
    )

pub slice_bounds-copy_from_slice-count : goal.slice_bounds-copy_from_slice-count
slice_bounds-copy_from_slice-count c =
    let range = msg_length-range c.args.m.now (fit_parts c.args.m.now c.requires.fitting).0 in
    omega (arith, c.length-length.ensures)

pub slice_bounds-copy_from_slice-start : goal.slice_bounds-copy_from_slice-start
slice_bounds-copy_from_slice-start c =
    let range = msg_length-range c.args.m.now (fit_parts c.args.m.now c.requires.fitting).0 in
    omega (arith, c.length-length.ensures)

pub copy_from_slice-requires : goal.copy_from_slice-requires
copy_from_slice-requires c =
    let range = msg_length-range c.args.m.now (fit_parts c.args.m.now c.requires.fitting).0 in
    rw c.tail_bytes.ensures (simp (length-take, length-drop) (omega (arith, c.length-length.ensures, c.requires.room, c.write.auto.out)))

pub returns-clause-stands : goal.returns-clause-stands
returns-clause-stands c =
    let stands : Stands scsi_reply_layout (scsi_reply_values c.args.m.now) c.write.new.out = subst (λ (s : Shape). Stands s (scsi_reply_values c.args.m.now) c.write.new.out) c.layout.ensures (subst (λ xs. Stands c.layout.result xs c.write.new.out) c.values.ensures c.write.ensures.stands) in
    let done = written c.args.m.now c.write.new.out c.copy_from_slice.new.self c.requires.fitting (omega arith) stands (omega (arith, c.requires.room, c.write.auto.out)) (c.copy_from_slice.ensures.after ∙ c.tail_bytes.ensures) in
    subst (λ n. ScsiReplyStands c.args.m.now (put_mid 40 (n - 40) c.write.new.out c.copy_from_slice.new.self)) (sym c.length-length.ensures) done

pub returns-clause-rest : goal.returns-clause-rest
returns-clause-rest c =
    let range = msg_length-range c.args.m.now (fit_parts c.args.m.now c.requires.fitting).0 in
    let wide : length c.copy_from_slice.new.self ≡ scsi_reply_length c.args.m.now - 40 = ap length (c.copy_from_slice.ensures.after ∙ c.tail_bytes.ensures) ∙ simp length-take (omega arith) in
    let rest = subst (λ (s : Shape). drop s.length c.write.new.out ≡ drop s.length c.args.out.now) c.layout.ensures c.write.ensures.rest in
    let done = written_rest c.args.m.now c.args.out.now c.write.new.out c.copy_from_slice.new.self range.0 wide (omega (arith, c.requires.room, c.write.auto.out)) rest in
    subst (λ n. drop (scsi_reply_length c.args.m.now) (put_mid 40 (n - 40) c.write.new.out c.copy_from_slice.new.self) ≡ drop (scsi_reply_length c.args.m.now) c.args.out.now) (sym c.length-length.ensures) done
