-- Which bytes are refused as a message, and by what, in the order in which the refusals come.
use Rattle.std.specs.Prelude.{◌≡◌, ℕ, Bool, true, false, nat_lt, if◌then◌else◌, List, length, slice_index, Option, Some, None}
use Rattle.std.specs.Option.{option_map}
use Rattle.mpi_layout.specs.Rows.{first_fault}
use Rattle.mpi_layout.specs.declared.fault.Fault.{Fault}
use Rattle.mpt_messages.specs.declared.message.Message.{Message}
use Rattle.mpt_messages.specs.declared.function.Function.{Function}
use Rattle.mpt_messages.specs.declared.function.Function.TheVariants as function
use Rattle.mpt_messages.specs.declared.function.Kind.{Kind}
use Rattle.mpt_messages.specs.declared.function.Kind.TheVariants as kind
use Rattle.mpt_messages.specs.declared.fault.MsgFault.{MsgFault}
use Rattle.mpt_messages.specs.declared.fault.MsgFault.TheVariants as refusal
use Rattle.mpt_messages.specs.Fault.{message_fault}
use Rattle.mpt_messages.specs.Function.{function_of, kind_of}
use Rattle.mpt_messages.specs.Message.{request_function}
use Rattle.scsi_msgs.specs.ScsiIo.{scsi_io_layout}
use Rattle.scsi_msgs.specs.TaskAsk.{task_ask_layout}
use Rattle.ioc_msgs.specs.IocInit.{ioc_init_layout}
use Rattle.ioc_msgs.specs.IocFacts.{ioc_facts_layout}
use Rattle.config_pages.specs.ConfigAsk.{config_ask_layout}
use Rattle.ioc_msgs.specs.PortFacts.{port_facts_layout}
use Rattle.ioc_msgs.specs.PortEnable.{port_enable_layout}
use Rattle.event_msgs.specs.EventAsk.{event_ask_layout}
use Rattle.event_msgs.specs.EventAck.{event_ack_layout}
use Rattle.ioc_msgs.specs.UnitControl.{unit_control_layout}
use Rattle.scsi_msgs.specs.ScsiReply.{scsi_reply_refusal}
use Rattle.scsi_msgs.specs.TaskReply.{task_reply_layout}
use Rattle.ioc_msgs.specs.IocInitReply.{ioc_init_reply_layout}
use Rattle.ioc_msgs.specs.IocFactsReply.{ioc_facts_reply_layout}
use Rattle.config_pages.specs.ConfigReply.{config_reply_layout}
use Rattle.ioc_msgs.specs.PortFactsReply.{port_facts_reply_layout}
use Rattle.ioc_msgs.specs.PortEnableReply.{port_enable_reply_layout}
use Rattle.event_msgs.specs.EventReply.{event_reply_refusal}
use Rattle.event_msgs.specs.EventAckReply.{event_ack_reply_layout}
use Rattle.ioc_msgs.specs.UnitControlReply.{unit_control_reply_layout}

-- the message is a request that travels in this way
abbrev pub IsOfKind : Kind → Message → Type 0
IsOfKind kind m = option_map kind_of (request_function m) ≡ Some kind

-- the two ways are one
abbrev pub is_kind : Kind → Kind → Bool
is_kind kind.ScsiIo kind.ScsiIo = true
is_kind kind.HighPriority kind.HighPriority = true
is_kind kind.Default kind.Default = true
is_kind kind.Handshake kind.Handshake = true
is_kind _ _ = false

-- the fault of the bytes as a request of the function
abbrev pub request_fault : Function → List ℕ → Option Fault
request_fault function.ScsiIo bytes = first_fault scsi_io_layout bytes
request_fault function.TaskManagement bytes = first_fault task_ask_layout bytes
request_fault function.IocInit bytes = first_fault ioc_init_layout bytes
request_fault function.IocFacts bytes = first_fault ioc_facts_layout bytes
request_fault function.Config bytes = first_fault config_ask_layout bytes
request_fault function.PortFacts bytes = first_fault port_facts_layout bytes
request_fault function.PortEnable bytes = first_fault port_enable_layout bytes
request_fault function.EventNotification bytes = first_fault event_ask_layout bytes
request_fault function.EventAck bytes = first_fault event_ack_layout bytes
request_fault function.UnitControl bytes = first_fault unit_control_layout bytes

-- the fault of the bytes as a reply of the function
abbrev pub reply_fault : Function → List ℕ → Option Fault
reply_fault function.ScsiIo bytes = scsi_reply_refusal bytes
reply_fault function.TaskManagement bytes = first_fault task_reply_layout bytes
reply_fault function.IocInit bytes = first_fault ioc_init_reply_layout bytes
reply_fault function.IocFacts bytes = first_fault ioc_facts_reply_layout bytes
reply_fault function.Config bytes = first_fault config_reply_layout bytes
reply_fault function.PortFacts bytes = first_fault port_facts_reply_layout bytes
reply_fault function.PortEnable bytes = first_fault port_enable_reply_layout bytes
reply_fault function.EventNotification bytes = event_reply_refusal bytes
reply_fault function.EventAck bytes = first_fault event_ack_reply_layout bytes
reply_fault function.UnitControl bytes = first_fault unit_control_reply_layout bytes

-- the refusal of a request, by what the byte at 03 says
abbrev pub request_refusal_as : Kind → List ℕ → Option Function → Option MsgFault
request_refusal_as kind bytes None = Some (refusal.UnknownFunction (slice_index bytes 3))
request_refusal_as kind bytes (Some f) =
    if is_kind (kind_of f) kind then option_map message_fault (request_fault f bytes)
    else Some (refusal.WrongKind (slice_index bytes 3) kind)

-- the first refusal of the bytes as a request of this kind
abbrev pub request_refusal : Kind → List ℕ → Option MsgFault
request_refusal kind bytes =
    if nat_lt (length bytes) 12 then Some (refusal.Short 12 (length bytes))
    else request_refusal_as kind bytes (function_of (slice_index bytes 3))

-- the refusal of a reply, by what the byte at 03 says
abbrev pub reply_refusal_as : List ℕ → Option Function → Option MsgFault
reply_refusal_as bytes None = Some (refusal.UnknownFunction (slice_index bytes 3))
reply_refusal_as bytes (Some f) = option_map message_fault (reply_fault f bytes)

-- the first refusal of the bytes as a reply
abbrev pub reply_refusal : List ℕ → Option MsgFault
reply_refusal bytes =
    if nat_lt (length bytes) 20 then Some (refusal.Short 20 (length bytes))
    else reply_refusal_as bytes (function_of (slice_index bytes 3))
