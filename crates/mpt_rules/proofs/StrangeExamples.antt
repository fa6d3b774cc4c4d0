-- What comes up and is strange: each why once.
use Rattle.std.proofs.Common.{◌≡◌, ℕ, List, [], ◌∷◌, true, false, Some, None, refl}
use Rattle.std.specs.Prelude.{replicate, slice_set}
use Rattle.mpi_layout.specs.Rows.{field}
use Rattle.config_pages.specs.DevicePage0.{device_page0_layout}
use Rattle.config_pages.specs.ConfigReply.{config_reply_layout}
use Rattle.event_msgs.specs.EventReply.{event_reply_layout}
use Rattle.scsi_msgs.specs.ScsiReply.{scsi_reply_layout}
use Rattle.ioc_msgs.specs.IocFacts.{ioc_facts_layout, ioc_facts_values}
use Rattle.ioc_msgs.specs.IocFactsReply.{ioc_facts_reply_layout}
use Rattle.ioc_msgs.specs.IocInitReply.{ioc_init_reply_layout}
use Rattle.mpi_doorbell.specs.declared.registers.TheConstants.{DOORBELL_USED}
use Rattle.mpi_doorbell.specs.declared.stage.Reading.TheVariants.{Word}
use Rattle.mpi_doorbell.specs.declared.stage.Stage.TheVariants.{Awaits}
use Rattle.mpt_messages.specs.declared.fault.MsgFault.TheVariants as fault
use Rattle.mpt_trace.specs.declared.item.Up.TheVariants as up
use Rattle.mpt_wire.specs.Messages.Fields.{changes_from, reply_frame_address, address_descriptor}
use Rattle.mpt_rules.specs.declared.request.Request.TheVariants as request
use Rattle.mpt_rules.specs.declared.stage.Stage.{Stage}
use Rattle.mpt_rules.specs.declared.stage.Stage.TheVariants as stage
use Rattle.mpt_rules.specs.declared.why.Why.TheVariants as why
use Rattle.mpt_rules.specs.Host.Parts.{Host, new_host}
use Rattle.mpt_rules.specs.Host.Doorbell.{begins_facts, turn_from}
use Rattle.mpt_rules.specs.Host.Removal.{first_not_absent}
use Rattle.mpt_rules.specs.Host.Takes.{takes_up}
use Rattle.mpt_rules.proofs.HostUp.{changed, event_of, frame_with, host_up, page_of, replies, resetting, says, succeeds, up_with, with_open, with_two}

-- a value, an event and a page read on a queue above 0
value_on_another_queue : (takes_up (up_with 2) 1 (up.Value 0)).answer ≡ Some (why.WrongQueue 1)
unfolding turn_from
value_on_another_queue = refl

reply_on_another_queue : (takes_up (up_with 2) 1 (says 265 0x04 0)).answer ≡ Some (why.WrongQueue 1)
unfolding field
reply_on_another_queue = refl

mark_on_the_first_queue : (takes_up (resetting (up_with 2)) 0 (up.Mark 0)).answer ≡ Some (why.WrongQueue 0)
mark_on_the_first_queue = refl

-- no reset is going on, another one is, and the mark was taken
mark_without_reset : (takes_up (new_host 2) 1 (up.Mark 0)).answer ≡ Some (why.BadMark 0)
mark_without_reset = refl

mark_of_another_reset : (takes_up (resetting (up_with 2)) 1 (up.Mark 1)).answer ≡ Some (why.BadMark 1)
mark_of_another_reset = refl

mark_twice : (takes_up (record (resetting (up_with 2)) { marks = false ∷ true ∷ [] }) 1 (up.Mark 0)).answer ≡ Some (why.BadMark 0)
mark_twice = refl

no_read : (takes_up host_up 0 (up.Value 0)).answer ≡ Some why.NoRead
unfolding turn_from
no_read = refl

-- a handshake can't begin while the Doorbell is used
door_refused : (takes_up (begins_facts host_up) 0 (up.Value DOORBELL_USED)).answer ≡ Some (why.DoorRefused 1 DOORBELL_USED)
unfolding turn_from ioc_facts_layout ioc_facts_values
door_refused = refl

-- an unused entry, a success reply of no SCSI IO, and an address reply without a frame
unused : (takes_up host_up 0 (up.Reply 0xffff_ffff_ffff_ffff None [] [])).answer ≡ Some why.BadDescriptor
unfolding field
unused = refl

success_of_no_command : (takes_up host_up 0 (succeeds 257 [])).answer ≡ Some why.BadDescriptor
unfolding field
success_of_no_command = refl

address_without_frame : (takes_up host_up 0 (up.Reply (address_descriptor 1 (reply_frame_address 0)) None [] [])).answer ≡ Some why.BadDescriptor
unfolding field
address_without_frame = refl

-- the host holds the frame, and the address is no frame's
frame_held : (takes_up (new_host 1) 0 (says 1 0x00 0)).answer ≡ Some (why.NotReturned (reply_frame_address 0))
unfolding field scsi_reply_layout
frame_held = refl

no_frame : (takes_up host_up 0 (up.Reply (address_descriptor 1 0x1234) (Some (frame_with 0x00 0)) [] [])).answer ≡ Some (why.NotReturned 0x1234)
unfolding field scsi_reply_layout
no_frame = refl

-- a function that no message has
no_message : (takes_up host_up 0 (says 1 0x55 0)).answer ≡ Some (why.BadFrame (fault.UnknownFunction 0x55))
unfolding field
no_message = refl

nothing_open : (takes_up host_up 0 (says 1 0x00 0)).answer ≡ Some (why.NotOpen 1)
unfolding field scsi_reply_layout
nothing_open = refl

success_of_nothing : (takes_up host_up 0 (succeeds 1 [])).answer ≡ Some (why.NotOpen 1)
unfolding field
success_of_nothing = refl

-- another function than was asked, a reply without a request that is no event, and another handle's page
another_function : (takes_up (with_open 1 (request.Command 7)) 0 (says 1 0x04 0)).answer ≡ Some why.BadAnswer
unfolding field config_reply_layout
another_function = refl

no_event : (takes_up host_up 0 (says 0 0x00 0)).answer ≡ Some why.BadAnswer
unfolding field scsi_reply_layout
no_event = refl

another_page : (takes_up (with_open 265 (request.Page 0x000a)) 0 (replies 265 (frame_with 0x04 0) (page_of 0x000b) [])).answer ≡ Some why.BadAnswer
unfolding field config_reply_layout device_page0_layout
another_page = refl

-- a status that no SCSI IO has, with the flag of log information
bad_status : (takes_up (with_open 1 (request.Command 7)) 0 (says 1 0x00 0x8004)).answer ≡ Some (why.BadStatus 0x0004)
unfolding field scsi_reply_layout
bad_status = refl

-- a ready handle is added, and one is added twice
not_absent : (takes_up host_up 0 (changed 0x0009 0x01)).answer ≡ Some (why.NotAbsent 0x0009)
unfolding field event_reply_layout changes_from first_not_absent
not_absent = refl

abbrev twice : List ℕ
twice = slice_set (with_two 0x2c 0x000a (slice_set (slice_set (event_of 0x000a 0x01) 0x00 5) 0x24 2)) 0x2f 0x01

added_twice : (takes_up host_up 0 (replies 0 twice [] [])).answer ≡ Some (why.NotAbsent 0x000a)
unfolding field event_reply_layout changes_from first_not_absent
added_twice = refl

-- while a reset is going on the phases are none of an event's business
added_while_resetting : (takes_up (resetting host_up) 0 (changed 0x0009 0x01)).answer ≡ None
unfolding field event_reply_layout changes_from first_not_absent
added_while_resetting = refl

-- ---- the first why that holds is told

-- on another queue a reply without an identifier of a SCSI IO isn't looked at any further
queue_before_descriptor : (takes_up (up_with 2) 1 (up.Reply 0x0000_00ff None [] [])).answer ≡ Some (why.WrongQueue 1)
unfolding field
queue_before_descriptor = refl

frame_before_bytes : (takes_up (new_host 1) 0 (says 1 0x55 0)).answer ≡ Some (why.NotReturned (reply_frame_address 0))
unfolding field
frame_before_bytes = refl

bytes_before_identifier : (takes_up host_up 0 (says 300 0x55 0)).answer ≡ Some (why.BadFrame (fault.UnknownFunction 0x55))
unfolding field
bytes_before_identifier = refl

-- an identifier that there isn't is never open
identifier_before_answer : (takes_up host_up 0 (says 300 0x04 0)).answer ≡ Some (why.NotOpen 300)
unfolding field config_reply_layout
identifier_before_answer = refl

answer_before_status : (takes_up (with_open 1 (request.Command 7)) 0 (says 1 0x04 0x0004)).answer ≡ Some why.BadAnswer
unfolding field config_reply_layout
answer_before_status = refl

-- ---- the end of a handshake

-- the last word of a reply was read, and the Doorbell isn't used any more
abbrev at_end : Stage → List ℕ → Host
at_end stage reply = record host_up { stage = stage; reading = true; machine = Some (record { stage = Awaits Word; unsent = []; reply = reply }) }

-- a reply of so many dwords of a function with an IOCStatus
abbrev handshake_reply : ℕ → ℕ → ℕ → ℕ → List ℕ
handshake_reply bytes dwords function status = with_two 0x0e status (slice_set (slice_set (replicate bytes 0) 0x02 dwords) 0x03 function)

handshake_cut : (takes_up (at_end stage.Facts (handshake_reply 20 5 0x03 0)) 0 (up.Value 0)).answer ≡ Some (why.BadFrame (fault.Short 64 20))
unfolding turn_from field ioc_facts_reply_layout
handshake_cut = refl

-- no identifier is offered
bad_facts : (takes_up (at_end stage.Facts (handshake_reply 64 16 0x03 0)) 0 (up.Value 0)).answer ≡ Some why.BadAnswer
unfolding turn_from field ioc_facts_reply_layout
bad_facts = refl

init_refused : (takes_up (at_end stage.Init (handshake_reply 20 5 0x02 0x0007)) 0 (up.Value 0)).answer ≡ Some (why.BadStatus 0x0007)
unfolding turn_from field ioc_init_reply_layout
init_refused = refl

-- a strange item changes nothing and tells nothing
nothing_told : (takes_up host_up 0 (up.Value 0)).told ≡ []
unfolding turn_from
nothing_told = refl

nothing_changed : (takes_up host_up 0 (up.Value 0)).part ≡ host_up
unfolding turn_from
nothing_changed = refl
