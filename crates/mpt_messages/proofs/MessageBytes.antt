-- Bytes that stand for a message begin with its bytes.
use Rattle.std.proofs.Common.{◌≡◌, ℕ, ◌+◌, ◌-◌, ◌*◌, ◌<◌, ◌≤◌, IsTrue, List, ◌++◌, length, take, drop, get_or, replicate, sym, ap, ◌∙◌, arith}
use Rattle.std.proofs.Math.Seq.{take-add}
use Rattle.std.proofs.lemmas.List.{get_or-drop, length-drop, length-take-le, take_all, take-append-le, take-append-drop}
use Rattle.mpi_layout.specs.Rows.{Shape, Stands}
use Rattle.mpi_layout.proofs.Tails.{padded-front}
use Rattle.scsi_msgs.specs.declared.scsi_reply.ScsiReply.{ScsiReply}
use Rattle.scsi_msgs.proofs.ScsiReplyTail.{fit_parts, msg_length-range}
use Rattle.event_msgs.specs.declared.event_reply.EventReply.{EventReply}
use Rattle.event_msgs.specs.EventReply.{EventReplyStands, event_reply_length}
use Rattle.scsi_msgs.specs.ScsiReply.{ScsiReplyStands, scsi_reply_fit, scsi_reply_length}
use Rattle.scsi_msgs.specs.ScsiIo.{scsi_io_layout, scsi_io_values}
use Rattle.scsi_msgs.specs.TaskAsk.{task_ask_layout, task_ask_values}
use Rattle.ioc_msgs.specs.IocInit.{ioc_init_layout, ioc_init_values}
use Rattle.ioc_msgs.specs.IocFacts.{ioc_facts_layout, ioc_facts_values}
use Rattle.config_pages.specs.ConfigAsk.{config_ask_layout, config_ask_values}
use Rattle.ioc_msgs.specs.PortFacts.{port_facts_layout, port_facts_values}
use Rattle.ioc_msgs.specs.PortEnable.{port_enable_layout, port_enable_values}
use Rattle.event_msgs.specs.EventAsk.{event_ask_layout, event_ask_values}
use Rattle.event_msgs.specs.EventAck.{event_ack_layout, event_ack_values}
use Rattle.ioc_msgs.specs.UnitControl.{unit_control_layout, unit_control_values}
use Rattle.scsi_msgs.specs.ScsiReply.{scsi_reply_layout, scsi_reply_values}
use Rattle.scsi_msgs.specs.TaskReply.{task_reply_layout, task_reply_values}
use Rattle.ioc_msgs.specs.IocInitReply.{ioc_init_reply_layout, ioc_init_reply_values}
use Rattle.ioc_msgs.specs.IocFactsReply.{ioc_facts_reply_layout, ioc_facts_reply_values}
use Rattle.config_pages.specs.ConfigReply.{config_reply_layout, config_reply_values}
use Rattle.ioc_msgs.specs.PortFactsReply.{port_facts_reply_layout, port_facts_reply_values}
use Rattle.ioc_msgs.specs.PortEnableReply.{port_enable_reply_layout, port_enable_reply_values}
use Rattle.event_msgs.specs.EventReply.{event_reply_layout, event_reply_values}
use Rattle.event_msgs.specs.EventAckReply.{event_ack_reply_layout, event_ack_reply_values}
use Rattle.ioc_msgs.specs.UnitControlReply.{unit_control_reply_layout, unit_control_reply_values}
use Rattle.mpt_messages.specs.declared.message.Message.{Message}
use Rattle.mpt_messages.specs.declared.message.Message.TheVariants as message
use Rattle.mpt_messages.specs.Message.{MessageStands, message_fit, message_length}
use Rattle.mpt_messages.specs.FrameBytes.{layout_bytes, data_bytes, message_bytes, message_frame}
use Rattle.mpt_messages.proofs.RowsBytes.{stands_front}
use Rattle.mpt_messages.proofs.EventBytes.{data_taken}
use Rattle.mpt_messages.proofs.Shapes.{IsWhole, scsi_io-whole, task_ask-whole, ioc_init-whole, ioc_facts-whole, config_ask-whole, port_facts-whole, port_enable-whole, event_ask-whole, event_ack-whole, unit_control-whole, scsi_reply-whole, task_reply-whole, ioc_init_reply-whole, ioc_facts_reply-whole, config_reply-whole, port_facts_reply-whole, port_enable_reply-whole, event_reply-whole, event_ack_reply-whole, unit_control_reply-whole}

-- bytes that stand for a message that is its layout's rows and no more
plain_taken : (layout : Shape) (n : ℕ) (values bytes : List ℕ) → IsWhole layout n → ((k : ℕ) → get_or bytes k 0 < 256) → Stands layout values bytes → take n bytes ≡ layout_bytes layout values
plain_taken layout n values bytes whole small stands = stands_front layout n values bytes whole.long whole.tiled small stands

-- a SCSI IO reply: its fixed part and its tail
scsi_reply_taken : (m : ScsiReply) (bytes : List ℕ) → IsTrue (scsi_reply_fit m) → ((k : ℕ) → get_or bytes k 0 < 256) → ScsiReplyStands m bytes → take (scsi_reply_length m) bytes ≡ layout_bytes scsi_reply_layout (scsi_reply_values m) ++ take (scsi_reply_length m - 40) m.tail
scsi_reply_taken m bytes fit small stands =
    let range = msg_length-range m (fit_parts m fit).0 in
    let fixed = plain_taken scsi_reply_layout 40 (scsi_reply_values m) bytes scsi_reply-whole small stands.fixed in
    let whole = stands.whole in
    let past = scsi_reply_length m - 40 in
    let part = take past (drop 40 bytes) in
    let count : scsi_reply_length m ≡ 40 + past = omega arith in
    let room : past ≤ length (drop 40 bytes) = simp length-drop (omega arith) in
    let long : length part ≡ past = length-take-le past (drop 40 bytes) room in
    let tail = padded-front past 88 m.tail part long stands.tail in
    ap (λ n. take n bytes) count ∙ take-add 40 past bytes ∙ ap (λ xs. xs ++ part) fixed ∙ ap (λ xs. layout_bytes scsi_reply_layout (scsi_reply_values m) ++ xs) (sym tail)

-- an event: its fixed part and its data
event_taken : (m : EventReply) (bytes : List ℕ) → ((k : ℕ) → get_or bytes k 0 < 256) → EventReplyStands m bytes → take (event_reply_length m) bytes ≡ layout_bytes event_reply_layout (event_reply_values m) ++ data_bytes (4 * m.event_data_length) m.event_data
event_taken m bytes small stands =
    let fixed = plain_taken event_reply_layout 28 (event_reply_values m) bytes event_reply-whole small stands.fixed in
    let whole = stands.whole in
    let room : 4 * m.event_data_length ≤ length (drop 28 bytes) = simp length-drop (omega arith) in
    let behind : (k : ℕ) → get_or (drop 28 bytes) k 0 < 256 = λ k. rw (get_or-drop 28 bytes k 0) (small (28 + k)) in
    let kept = data_taken (4 * m.event_data_length) m.event_data (drop 28 bytes) behind room stands.event_data in
    take-add 28 (4 * m.event_data_length) bytes ∙ ap (λ xs. xs ++ take (4 * m.event_data_length) (drop 28 bytes)) fixed ∙ ap (λ xs. layout_bytes event_reply_layout (event_reply_values m) ++ xs) kept

pub message_taken : (m : Message) (bytes : List ℕ) → IsTrue (message_fit m) → ((k : ℕ) → get_or bytes k 0 < 256) → MessageStands m bytes → take (message_length m) bytes ≡ message_bytes m
message_taken (message.ScsiIo m) bytes fit small stands = plain_taken scsi_io_layout 108 (scsi_io_values m) bytes scsi_io-whole small stands
message_taken (message.TaskAsk m) bytes fit small stands = plain_taken task_ask_layout 52 (task_ask_values m) bytes task_ask-whole small stands
message_taken (message.IocInit m) bytes fit small stands = plain_taken ioc_init_layout 72 (ioc_init_values m) bytes ioc_init-whole small stands
message_taken (message.IocFacts m) bytes fit small stands = plain_taken ioc_facts_layout 12 (ioc_facts_values m) bytes ioc_facts-whole small stands
message_taken (message.ConfigAsk m) bytes fit small stands = plain_taken config_ask_layout 40 (config_ask_values m) bytes config_ask-whole small stands
message_taken (message.PortFacts m) bytes fit small stands = plain_taken port_facts_layout 12 (port_facts_values m) bytes port_facts-whole small stands
message_taken (message.PortEnable m) bytes fit small stands = plain_taken port_enable_layout 12 (port_enable_values m) bytes port_enable-whole small stands
message_taken (message.EventAsk m) bytes fit small stands = plain_taken event_ask_layout 44 (event_ask_values m) bytes event_ask-whole small stands
message_taken (message.EventAck m) bytes fit small stands = plain_taken event_ack_layout 20 (event_ack_values m) bytes event_ack-whole small stands
message_taken (message.UnitControl m) bytes fit small stands = plain_taken unit_control_layout 44 (unit_control_values m) bytes unit_control-whole small stands
message_taken (message.ScsiReply m) bytes fit small stands = scsi_reply_taken m bytes fit small stands
message_taken (message.TaskReply m) bytes fit small stands = plain_taken task_reply_layout 28 (task_reply_values m) bytes task_reply-whole small stands
message_taken (message.IocInitReply m) bytes fit small stands = plain_taken ioc_init_reply_layout 20 (ioc_init_reply_values m) bytes ioc_init_reply-whole small stands
message_taken (message.IocFactsReply m) bytes fit small stands = plain_taken ioc_facts_reply_layout 64 (ioc_facts_reply_values m) bytes ioc_facts_reply-whole small stands
message_taken (message.ConfigReply m) bytes fit small stands = plain_taken config_reply_layout 24 (config_reply_values m) bytes config_reply-whole small stands
message_taken (message.PortFactsReply m) bytes fit small stands = plain_taken port_facts_reply_layout 28 (port_facts_reply_values m) bytes port_facts_reply-whole small stands
message_taken (message.PortEnableReply m) bytes fit small stands = plain_taken port_enable_reply_layout 20 (port_enable_reply_values m) bytes port_enable_reply-whole small stands
message_taken (message.EventReply m) bytes fit small stands = event_taken m bytes small stands
message_taken (message.EventAckReply m) bytes fit small stands = plain_taken event_ack_reply_layout 20 (event_ack_reply_values m) bytes event_ack_reply-whole small stands
message_taken (message.UnitControlReply m) bytes fit small stands = plain_taken unit_control_reply_layout 20 (unit_control_reply_values m) bytes unit_control_reply-whole small stands

-- and with zeros past them they are the message's whole frame
pub frame_whole : (m : Message) (bytes : List ℕ) → IsTrue (message_fit m) → ((k : ℕ) → get_or bytes k 0 < 256) → MessageStands m bytes → drop (message_length m) bytes ≡ replicate (128 - message_length m) 0 → bytes ≡ message_frame m
frame_whole m bytes fit small stands rest =
    sym (take-append-drop (message_length m) bytes) ∙ ap (λ xs. xs ++ drop (message_length m) bytes) (message_taken m bytes fit small stands) ∙ ap (λ xs. message_bytes m ++ xs) rest
