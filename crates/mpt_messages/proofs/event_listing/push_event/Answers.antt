use Rattle.std.proofs.Common.{◌≡◌, ◌++◌, OnOk, codes, subst, ap, ◌∙◌}
use Rattle.mpi_layout.specs.Rows.{Shape}
use Rattle.event_msgs.specs.EventReply.{event_reply_layout, event_reply_length, event_reply_values}
use Rattle.mpt_messages.specs.Listing.{heading_text, rows_text}
use Rattle.mpt_messages.specs.EventListing.{data_text}
use Rattle.mpt_messages.proofs.Arms.{three_added}
use Rattle.mpt_messages.proofs.event_listing.push_event.Goals as goal

pub returns : goal.returns
returns c =
    let heading : c.push_heading.new.text ≡ c.args.text.now ++ heading_text (codes "event-reply") (event_reply_length c.args.m.now) = c.in_ok-push_heading.ensures ∙ ap (λ n. c.args.text.now ++ heading_text (codes "event-reply") n) c.length.ensures in
    let rows : c.push_rows.new.text ≡ c.push_heading.new.text ++ rows_text 0 (event_reply_layout).rows (event_reply_values c.args.m.now) = c.in_ok-push_rows.ensures ∙ ap (λ (s : Shape). c.push_heading.new.text ++ rows_text 0 s.rows c.values.result) c.layout.ensures ∙ ap (λ xs. c.push_heading.new.text ++ rows_text 0 (event_reply_layout).rows xs) c.values.ensures in
    let tail = subst (λ xs. OnOk c.push_data.result (c.push_data.new.text ≡ c.push_rows.new.text ++ data_text c.args.m.now.event_data xs)) c.tail_bytes.ensures c.push_data.ensures in
    three_added c.push_data.result c.args.text.now c.push_heading.new.text c.push_rows.new.text c.push_data.new.text _ _ _ heading rows tail
