use Rattle.std.proofs.Common.{◌≡◌, ◌++◌, OnOk, codes, subst, ap, ◌∙◌}
use Rattle.mpi_layout.specs.Rows.{Shape}
use Rattle.scsi_msgs.specs.ScsiReply.{scsi_reply_layout, scsi_reply_length, scsi_reply_values}
use Rattle.mpt_messages.specs.Listing.{heading_text, rows_text, tail_text}
use Rattle.mpt_messages.proofs.Arms.{three_added}
use Rattle.mpt_messages.proofs.message.push_scsi_reply.Goals as goal

pub returns : goal.returns
returns c =
    let heading : c.push_heading.new.text ≡ c.args.text.now ++ heading_text (codes "scsi-io-reply") (scsi_reply_length c.args.m.now) = c.in_ok-push_heading.ensures ∙ ap (λ n. c.args.text.now ++ heading_text (codes "scsi-io-reply") n) c.length.ensures in
    let rows : c.push_rows.new.text ≡ c.push_heading.new.text ++ rows_text 0 (scsi_reply_layout).rows (scsi_reply_values c.args.m.now) = c.in_ok-push_rows.ensures ∙ ap (λ (s : Shape). c.push_heading.new.text ++ rows_text 0 s.rows c.values.result) c.layout.ensures ∙ ap (λ xs. c.push_heading.new.text ++ rows_text 0 (scsi_reply_layout).rows xs) c.values.ensures in
    let tail = subst (λ xs. OnOk c.push_tail.result (c.push_tail.new.text ≡ c.push_rows.new.text ++ tail_text 0x28 xs)) c.tail_bytes.ensures c.push_tail.ensures in
    three_added c.push_tail.result c.args.text.now c.push_heading.new.text c.push_rows.new.text c.push_tail.new.text _ _ _ heading rows tail
