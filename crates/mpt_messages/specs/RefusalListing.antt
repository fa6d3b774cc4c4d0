-- The lines of refusals.
use Rattle.std.specs.Prelude.{ℕ, ◌==◌, if◌then◌else◌, List, [], ◌∷◌, ◌++◌, slice_index, codes, Option, Some, None}
use Rattle.hex.specs.Hex.{encode_lower}
use Rattle.mpi_layout.specs.declared.fault.Fault.{Fault}
use Rattle.mpi_layout.specs.declared.fault.Fault.TheVariants as fault
use Rattle.mpt_messages.specs.declared.function.Function.{Function}
use Rattle.mpt_messages.specs.declared.function.Function.TheVariants as function
use Rattle.mpt_messages.specs.declared.function.Kind.{Kind}
use Rattle.mpt_messages.specs.declared.function.Kind.TheVariants as kind
use Rattle.mpt_messages.specs.declared.fault.MsgFault.{MsgFault}
use Rattle.mpt_messages.specs.declared.fault.MsgFault.TheVariants as refusal
use Rattle.mpt_messages.specs.Function.{function_of}
use Rattle.mpt_messages.specs.Listing.{fault_text, field_text, line_end, short_text}
use Rattle.scsi_msgs.specs.ScsiIo.{scsi_io_layout}
use Rattle.scsi_msgs.specs.TaskAsk.{task_ask_layout}
use Rattle.ioc_msgs.specs.IocInit.{ioc_init_layout}
use Rattle.ioc_msgs.specs.IocFacts.{ioc_facts_layout}
use Rattle.config_pages.specs.ConfigAsk.{config_ask_layout}
use Rattle.ioc_msgs.specs.PortFacts.{port_facts_layout}
use Rattle.ioc_msgs.specs.PortEnable.{port_enable_layout}
use Rattle.event_msgs.specs.EventAsk.{event_ask_layout}
use Rattle.event_msgs.specs.EventAck.{event_ack_layout}
use Rattle.ioc_msgs.specs.UnitControl.{unit_control_layout}
use Rattle.scsi_msgs.specs.ScsiReply.{scsi_reply_layout}
use Rattle.scsi_msgs.specs.TaskReply.{task_reply_layout}
use Rattle.ioc_msgs.specs.IocInitReply.{ioc_init_reply_layout}
use Rattle.ioc_msgs.specs.IocFactsReply.{ioc_facts_reply_layout}
use Rattle.config_pages.specs.ConfigReply.{config_reply_layout}
use Rattle.ioc_msgs.specs.PortFactsReply.{port_facts_reply_layout}
use Rattle.ioc_msgs.specs.PortEnableReply.{port_enable_reply_layout}
use Rattle.event_msgs.specs.EventReply.{event_reply_layout}
use Rattle.event_msgs.specs.EventAckReply.{event_ack_reply_layout}
use Rattle.ioc_msgs.specs.UnitControlReply.{unit_control_reply_layout}

-- the word of a kind of request
abbrev pub kind_word : Kind → List ℕ
kind_word kind.ScsiIo = codes "scsi"
kind_word kind.HighPriority = codes "high"
kind_word kind.Default = codes "default"
kind_word kind.Handshake = codes "door"

abbrev pub unknown_text : ℕ → List ℕ
unknown_text byte = codes "unknown function " ++ encode_lower (byte ∷ []) ++ line_end

abbrev pub wrong_kind_text : ℕ → Kind → List ℕ
wrong_kind_text byte kind = codes "wrong kind " ++ encode_lower (byte ∷ []) ++ codes " " ++ kind_word kind ++ line_end

-- the line of a fault of a request of the function
abbrev pub request_fault_text : Function → Fault → List ℕ
request_fault_text function.ScsiIo fault = fault_text (scsi_io_layout).rows fault
request_fault_text function.TaskManagement fault = fault_text (task_ask_layout).rows fault
request_fault_text function.IocInit fault = fault_text (ioc_init_layout).rows fault
request_fault_text function.IocFacts fault = fault_text (ioc_facts_layout).rows fault
request_fault_text function.Config fault = fault_text (config_ask_layout).rows fault
request_fault_text function.PortFacts fault = fault_text (port_facts_layout).rows fault
request_fault_text function.PortEnable fault = fault_text (port_enable_layout).rows fault
request_fault_text function.EventNotification fault = fault_text (event_ask_layout).rows fault
request_fault_text function.EventAck fault = fault_text (event_ack_layout).rows fault
request_fault_text function.UnitControl fault = fault_text (unit_control_layout).rows fault

-- beside the rows of the fixed part, an event has NumEntries at 24
abbrev pub event_fault_text : Fault → List ℕ
event_fault_text (fault.Short need have) = short_text need have
event_fault_text (fault.Field at) = if at == 0x24 then codes "field 24 NumEntries" ++ line_end else fault_text (event_reply_layout).rows (fault.Field at)

-- the line of a fault of a reply of the function
abbrev pub reply_fault_text : Function → Fault → List ℕ
reply_fault_text function.ScsiIo fault = fault_text (scsi_reply_layout).rows fault
reply_fault_text function.TaskManagement fault = fault_text (task_reply_layout).rows fault
reply_fault_text function.IocInit fault = fault_text (ioc_init_reply_layout).rows fault
reply_fault_text function.IocFacts fault = fault_text (ioc_facts_reply_layout).rows fault
reply_fault_text function.Config fault = fault_text (config_reply_layout).rows fault
reply_fault_text function.PortFacts fault = fault_text (port_facts_reply_layout).rows fault
reply_fault_text function.PortEnable fault = fault_text (port_enable_reply_layout).rows fault
reply_fault_text function.EventNotification fault = event_fault_text fault
reply_fault_text function.EventAck fault = fault_text (event_ack_reply_layout).rows fault
reply_fault_text function.UnitControl fault = fault_text (unit_control_reply_layout).rows fault

-- a field's line, by the function that the bytes name
abbrev pub field_refusal_text : (Function → Fault → List ℕ) → Option Function → ℕ → List ℕ
field_refusal_text text_of None at = field_text at []
field_refusal_text text_of (Some f) at = text_of f (fault.Field at)

-- the line of a refusal, given what the line of a function's fault is
abbrev pub refusal_text : (Function → Fault → List ℕ) → List ℕ → MsgFault → List ℕ
refusal_text text_of bytes (refusal.Short need have) = short_text need have
refusal_text text_of bytes (refusal.Field at) = field_refusal_text text_of (function_of (slice_index bytes 3)) at
refusal_text text_of bytes (refusal.UnknownFunction byte) = unknown_text byte
refusal_text text_of bytes (refusal.WrongKind byte kind) = wrong_kind_text byte kind

-- the line of a request's refusal, and of a reply's
abbrev pub request_refusal_text : List ℕ → MsgFault → List ℕ
request_refusal_text bytes fault = refusal_text request_fault_text bytes fault

abbrev pub reply_refusal_text : List ℕ → MsgFault → List ℕ
reply_refusal_text bytes fault = refusal_text reply_fault_text bytes fault
