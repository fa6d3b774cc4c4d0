-- What is printed of an input that was read whole.
use Rattle.std.specs.Prelude.{◌≡◌, ℕ, ◌<◌, ◌≤◌, List, ◌++◌, length, codes, decimal, Option, Some, None, Result, Ok, Err}
use Rattle.mpt_text.specs.Hexadecimal.{hexadecimal}
use Rattle.mpt_lines.specs.Causes.{cause_word}
use Rattle.mpt_script.specs.Schedules.{Fault as ScheduleFault, schedule_of}
use Rattle.mpt_script.specs.declared.line.Line.{Line as ScriptLine}
use Rattle.mpt_replay.specs.Reports.{schedule_report, schedule_short_report}
use Rattle.mpi_layout.specs.Rows.{first_fault}
use Rattle.mpi_layout.specs.declared.fault.Fault.{Fault}
use Rattle.mpi_rings.specs.declared.reply_descriptor.ReplyDescriptor.{ReplyDescriptor}
use Rattle.mpi_rings.specs.declared.request_descriptor.RequestDescriptor.{RequestDescriptor}
use Rattle.mpi_rings.specs.ReplyDescriptor.{ReplyStands, reply_layout, success_layout}
use Rattle.mpi_rings.specs.RequestDescriptor.{RequestStands, request_layout}
use Rattle.config_pages.specs.declared.device_page0.DevicePage0.{DevicePage0}
use Rattle.config_pages.specs.DevicePage0.{DevicePage0Stands, device_page0_layout}
use Rattle.mpt_messages.specs.declared.function.Kind.{Kind}
use Rattle.mpt_messages.specs.declared.message.Message.{Message}
use Rattle.mpt_messages.specs.declared.fault.MsgFault.{MsgFault}
use Rattle.mpt_messages.specs.Message.{MessageStands, message_listing, reply_function}
use Rattle.mpt_messages.specs.Refusal.{IsOfKind, reply_refusal, request_refusal}
use Rattle.mpt_messages.specs.RefusalListing.{reply_refusal_text, request_refusal_text}
use Rattle.mpt_messages.specs.Listing.{fault_text, line_end}
use Rattle.mpt_cli.specs.declared.answer.TheConstants.{MOST_LINES}
use Rattle.mpt_cli.specs.declared.job.Decoded.{Decoded}
use Rattle.mpt_cli.specs.declared.job.Decoded.TheVariants as decoded
use Rattle.mpt_cli.specs.declared.job.Question.{Question}
use Rattle.mpt_cli.specs.declared.job.Question.TheVariants as question
use Rattle.mpt_cli.specs.declared.status.Status.{Status}
use Rattle.mpt_cli.specs.declared.status.Status.TheVariants as status
use Rattle.mpt_messages.specs.DescriptorListing.{page_listing, reply_descriptor_listing, request_descriptor_listing}
use Rattle.mpt_sgl.specs.declared.list.List.{List as ScatterList}
use Rattle.mpt_sgl.specs.Listing.{list_listing}
use Rattle.mpt_sgl.specs.Spelling.{Spells}
use Rattle.mpt_cli.specs.Input.{line_count}
use Rattle.mpt_cli.specs.ScatterInput.{chained_in, scatter_refusal, whole_size}

-- the answer to bytes as a request of this kind: the listing of the request that they stand for, or the line of
-- their first refusal
abbrev pub IsRequestAnswer : Kind → List ℕ → Status → List ℕ → Type 0
IsRequestAnswer kind bytes status.Ok text =
    (m : Message) × IsOfKind kind m × MessageStands m bytes × (text ≡ message_listing m)
IsRequestAnswer kind bytes status.Refused text =
    (fault : MsgFault) × (request_refusal kind bytes ≡ Some fault) × (text ≡ request_refusal_text bytes fault)
IsRequestAnswer kind bytes _ text = ⊥

-- as a reply
abbrev pub IsReplyAnswer : List ℕ → Status → List ℕ → Type 0
IsReplyAnswer bytes status.Ok text =
    (m : Message) × (reply_function m ≡ None → ⊥) × MessageStands m bytes × (text ≡ message_listing m)
IsReplyAnswer bytes status.Refused text =
    (fault : MsgFault) × (reply_refusal bytes ≡ Some fault) × (text ≡ reply_refusal_text bytes fault)
IsReplyAnswer bytes _ text = ⊥

-- as a request descriptor
abbrev pub IsPostAnswer : List ℕ → Status → List ℕ → Type 0
IsPostAnswer bytes status.Ok text =
    (d : RequestDescriptor) × RequestStands d bytes × (text ≡ request_descriptor_listing d)
IsPostAnswer bytes status.Refused text =
    (fault : Fault) × (first_fault request_layout bytes ≡ Some fault) × (text ≡ fault_text (request_layout).rows fault)
IsPostAnswer bytes _ text = ⊥

-- as a reply descriptor
abbrev pub IsReplyDescriptorAnswer : List ℕ → Status → List ℕ → Type 0
IsReplyDescriptorAnswer bytes status.Ok text =
    (d : ReplyDescriptor) × ReplyStands d bytes × (text ≡ reply_descriptor_listing d)
IsReplyDescriptorAnswer bytes status.Refused text =
    (fault : Fault) × (first_fault reply_layout bytes ≡ Some fault) × (text ≡ fault_text (success_layout).rows fault)
IsReplyDescriptorAnswer bytes _ text = ⊥

-- as a SAS Device Page 0
abbrev pub IsPageAnswer : List ℕ → Status → List ℕ → Type 0
IsPageAnswer bytes status.Ok text = (page : DevicePage0) × DevicePage0Stands page bytes × (text ≡ page_listing page)
IsPageAnswer bytes status.Refused text =
    (fault : Fault) × (first_fault device_page0_layout bytes ≡ Some fault)
    × (text ≡ fault_text (device_page0_layout).rows fault)
IsPageAnswer bytes _ text = ⊥

-- as a scatter list
abbrev pub IsScatterAnswer : List ℕ → Status → List ℕ → Type 0
IsScatterAnswer bytes status.Ok text =
    (whole_size (length bytes) ≡ length bytes) × (list : ScatterList) × Spells list (chained_in bytes)
    × (text ≡ list_listing list)
IsScatterAnswer bytes status.Refused text = scatter_refusal bytes ≡ Some text
IsScatterAnswer bytes _ text = ⊥

-- the answer to bytes
abbrev pub IsBytesAnswer : Decoded → List ℕ → Status → List ℕ → Type 0
IsBytesAnswer (decoded.Request kind) bytes ended text = IsRequestAnswer kind bytes ended text
IsBytesAnswer decoded.Reply bytes ended text = IsReplyAnswer bytes ended text
IsBytesAnswer decoded.Post bytes ended text = IsPostAnswer bytes ended text
IsBytesAnswer decoded.Answer bytes ended text = IsReplyDescriptorAnswer bytes ended text
IsBytesAnswer decoded.Page0 bytes ended text = IsPageAnswer bytes ended text
IsBytesAnswer decoded.ScatterList bytes ended text = IsScatterAnswer bytes ended text

-- the answer to hexadecimal input
abbrev pub IsHexAnswer : Decoded → Option (List ℕ) → Status → List ℕ → Type 0
IsHexAnswer what None status.Refused text = text ≡ codes "refused line 1 hex" ++ line_end
IsHexAnswer what None _ text = ⊥
IsHexAnswer what (Some bytes) ended text = IsBytesAnswer what bytes ended text

-- the line of a schedule's refusal: its first faulty line and that line's first cause
abbrev pub schedule_refusal : ScheduleFault → List ℕ
schedule_refusal fault = codes "refused line " ++ decimal fault.line ++ codes " " ++ cause_word fault.cause ++ line_end

-- the answer to a text that is read as a schedule: this report of it, or the line of its refusal
abbrev pub IsReportAnswer : (List ScriptLine → List ℕ) → Result (List ScriptLine) ScheduleFault → Status → List ℕ → Type 0
IsReportAnswer report_of (Ok lines) status.Ok text = text ≡ report_of lines
IsReportAnswer report_of (Err fault) status.Refused text = text ≡ schedule_refusal fault
IsReportAnswer report_of _ _ text = ⊥

-- the answer to what is asked of an input
abbrev pub IsAnswerTo : Question → List ℕ → Status → List ℕ → Type 0
IsAnswerTo (question.Decode what) input ended text = IsHexAnswer what (hexadecimal input) ended text
IsAnswerTo question.Replay input ended text = IsReportAnswer schedule_report (schedule_of input) ended text
IsAnswerTo question.Show input ended text = IsReportAnswer schedule_short_report (schedule_of input) ended text

-- the line of an input that is too long
abbrev pub too_long_text : List ℕ
too_long_text = codes "too long" ++ line_end

-- the answer to the whole input
abbrev pub IsAnswer : Question → List ℕ → Status → List ℕ → Type 0
IsAnswer what input status.TooLong text = (MOST_LINES < line_count input) × (text ≡ too_long_text)
IsAnswer what input ended text = (line_count input ≤ MOST_LINES) × IsAnswerTo what input ended text
