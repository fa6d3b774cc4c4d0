use Rattle.std.proofs.Common.{IsTrue, subst, arith}
use Rattle.event_msgs.proofs.EventBytes.{words-range}
use Rattle.event_msgs.proofs.EventBytes.{fit_parts as event_parts}
use Rattle.scsi_msgs.proofs.ScsiReplyTail.{fit_parts, msg_length-range}
use Rattle.mpt_messages.specs.Message.{message_fit}
use Rattle.mpt_messages.proofs.message.encode.Goals as goal

pub encode_scsi_reply-requires-clause-room : goal.encode_scsi_reply-requires-clause-room
encode_scsi_reply-requires-clause-room c =
    let fit = subst (λ m. IsTrue (message_fit m)) c.in-ScsiReply.is c.requires in
    let range = msg_length-range c.in-ScsiReply.m (fit_parts c.in-ScsiReply.m fit).0 in
    omega (arith, c.told-out)

pub encode_event_reply-requires-clause-room : goal.encode_event_reply-requires-clause-room
encode_event_reply-requires-clause-room c =
    let fit = subst (λ m. IsTrue (message_fit m)) c.in-EventReply.is c.requires in
    let range = words-range c.in-EventReply.m (event_parts c.in-EventReply.m fit).rows in
    omega (arith, c.told-out)
