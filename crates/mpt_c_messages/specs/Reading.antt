-- What bytes stand for, by what they are read as, and their first refusal.
use Rattle.std.specs.Prelude.{◌≡◌, ◌≢◌, ℕ, List, Option, None}
use Rattle.std.specs.Option.{option_map}
use Rattle.mpi_layout.specs.Rows.{first_fault}
use Rattle.mpi_rings.specs.declared.reply_descriptor.ReplyDescriptor.{ReplyDescriptor}
use Rattle.mpi_rings.specs.declared.request_descriptor.RequestDescriptor.{RequestDescriptor}
use Rattle.mpi_rings.specs.ReplyDescriptor.{ReplyStands, reply_layout}
use Rattle.mpi_rings.specs.RequestDescriptor.{RequestStands, request_layout}
use Rattle.config_pages.specs.declared.device_page0.DevicePage0.{DevicePage0}
use Rattle.config_pages.specs.DevicePage0.{DevicePage0Stands, device_page0_layout}
use Rattle.mpt_messages.specs.declared.message.Message.{Message}
use Rattle.mpt_messages.specs.declared.fault.MsgFault.{MsgFault}
use Rattle.mpt_messages.specs.Fault.{message_fault}
use Rattle.mpt_messages.specs.Message.{MessageStands, reply_function}
use Rattle.mpt_messages.specs.Refusal.{IsOfKind, reply_refusal, request_refusal}
use Rattle.mpt_c_messages.specs.declared.decode_as.DecodeAs.{DecodeAs}
use Rattle.mpt_c_messages.specs.declared.decode_as.DecodeAs.TheVariants as as_a

-- the bytes stand for something of this form
abbrev pub Reads : DecodeAs → List ℕ → Type 0
Reads (as_a.Request kind) bytes = (m : Message) × IsOfKind kind m × MessageStands m bytes
Reads as_a.Reply bytes = (m : Message) × (reply_function m ≢ None) × MessageStands m bytes
Reads as_a.Post bytes = (d : RequestDescriptor) × RequestStands d bytes
Reads as_a.Answer bytes = (d : ReplyDescriptor) × ReplyStands d bytes
Reads as_a.Page0 bytes = (page : DevicePage0) × DevicePage0Stands page bytes

-- their first refusal in this form
abbrev pub refusal_as : DecodeAs → List ℕ → Option MsgFault
refusal_as (as_a.Request kind) bytes = request_refusal kind bytes
refusal_as as_a.Reply bytes = reply_refusal bytes
refusal_as as_a.Post bytes = option_map message_fault (first_fault request_layout bytes)
refusal_as as_a.Answer bytes = option_map message_fault (first_fault reply_layout bytes)
refusal_as as_a.Page0 bytes = option_map message_fault (first_fault device_page0_layout bytes)
