-- What a call that lists answers, and what it leaves.
use Rattle.std.specs.Prelude.{◌≡◌, ◌≢◌, ℕ, ◌⊎◌, List, Option, Some, None}
use Rattle.mpi_layout.specs.Rows.{first_fault}
use Rattle.mpi_layout.specs.declared.fault.Fault.{Fault}
use Rattle.mpi_rings.specs.declared.reply_descriptor.ReplyDescriptor.{ReplyDescriptor}
use Rattle.mpi_rings.specs.declared.request_descriptor.RequestDescriptor.{RequestDescriptor}
use Rattle.mpi_rings.specs.ReplyDescriptor.{ReplyStands, reply_layout, success_layout}
use Rattle.mpi_rings.specs.RequestDescriptor.{RequestStands, request_layout}
use Rattle.config_pages.specs.declared.device_page0.DevicePage0.{DevicePage0}
use Rattle.config_pages.specs.DevicePage0.{DevicePage0Stands, device_page0_layout}
use Rattle.mpt_messages.specs.declared.message.Message.{Message}
use Rattle.mpt_messages.specs.declared.fault.MsgFault.{MsgFault}
use Rattle.mpt_messages.specs.DescriptorListing.{page_listing, reply_descriptor_listing, request_descriptor_listing}
use Rattle.mpt_messages.specs.Listing.{fault_text}
use Rattle.mpt_messages.specs.Message.{MessageStands, message_listing, reply_function}
use Rattle.mpt_messages.specs.Refusal.{IsOfKind, reply_refusal, request_refusal}
use Rattle.mpt_messages.specs.RefusalListing.{reply_refusal_text, request_refusal_text}
use Rattle.mpt_c_messages.specs.declared.call_code.CallCode.{CallCode}
use Rattle.mpt_c_messages.specs.declared.call_code.CallCode.TheVariants as code
use Rattle.mpt_c_messages.specs.declared.decode_as.DecodeAs.{DecodeAs}
use Rattle.mpt_c_messages.specs.declared.decode_as.DecodeAs.TheVariants as as_a
use Rattle.mpt_c_messages.specs.Putting.{IsPut}

-- Ok goes with the listing of what the bytes stand for
abbrev pub IsListing : DecodeAs → List ℕ → List ℕ → Type 0
IsListing (as_a.Request kind) bytes text =
    (m : Message) × IsOfKind kind m × MessageStands m bytes × (text ≡ message_listing m)
IsListing as_a.Reply bytes text =
    (m : Message) × (reply_function m ≢ None) × MessageStands m bytes × (text ≡ message_listing m)
IsListing as_a.Post bytes text =
    (d : RequestDescriptor) × RequestStands d bytes × (text ≡ request_descriptor_listing d)
IsListing as_a.Answer bytes text = (d : ReplyDescriptor) × ReplyStands d bytes × (text ≡ reply_descriptor_listing d)
IsListing as_a.Page0 bytes text = (page : DevicePage0) × DevicePage0Stands page bytes × (text ≡ page_listing page)

-- Refused goes with the line of their first refusal
abbrev pub IsRefusalLine : DecodeAs → List ℕ → List ℕ → Type 0
IsRefusalLine (as_a.Request kind) bytes text =
    (fault : MsgFault) × (request_refusal kind bytes ≡ Some fault) × (text ≡ request_refusal_text bytes fault)
IsRefusalLine as_a.Reply bytes text =
    (fault : MsgFault) × (reply_refusal bytes ≡ Some fault) × (text ≡ reply_refusal_text bytes fault)
IsRefusalLine as_a.Post bytes text =
    (fault : Fault) × (first_fault request_layout bytes ≡ Some fault) × (text ≡ fault_text (request_layout).rows fault)
IsRefusalLine as_a.Answer bytes text =
    (fault : Fault) × (first_fault reply_layout bytes ≡ Some fault) × (text ≡ fault_text (success_layout).rows fault)
IsRefusalLine as_a.Page0 bytes text =
    (fault : Fault) × (first_fault device_page0_layout bytes ≡ Some fault)
    × (text ≡ fault_text (device_page0_layout).rows fault)

-- the text that is due, with its code
abbrev pub IsSaid : DecodeAs → List ℕ → CallCode → List ℕ → Type 0
IsSaid read_as bytes code.Ok text = IsListing read_as bytes text
IsSaid read_as bytes code.Refused text = IsRefusalLine read_as bytes text
IsSaid read_as bytes _ text = ⊥

-- some text is due, and the buffer has it or is too short for it
abbrev pub IsWritten : DecodeAs → List ℕ → List ℕ → List ℕ → ℕ → CallCode → Type 0
IsWritten read_as bytes out out' long answer =
    (own : CallCode) × (text : List ℕ) × IsSaid read_as bytes own text × IsPut text own out out' long answer

-- NoMemory: nothing changed
abbrev pub IsListedAs : DecodeAs → List ℕ → List ℕ → List ℕ → ℕ → ℕ → CallCode → Type 0
IsListedAs read_as bytes out out' long long' code.NoMemory = (out' ≡ out) × (long' ≡ long)
IsListedAs read_as bytes out out' long long' answer = IsWritten read_as bytes out out' long' answer

-- NoSuch: the number names no form
abbrev pub IsListed : Option DecodeAs → List ℕ → List ℕ → List ℕ → ℕ → ℕ → CallCode → Type 0
IsListed None bytes out out' long long' answer = (answer ≡ code.NoSuch) × (out' ≡ out) × (long' ≡ long)
IsListed (Some read_as) bytes out out' long long' answer = IsListedAs read_as bytes out out' long long' answer
