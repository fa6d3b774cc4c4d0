-- What the controller stops for, and its resets.
use Rattle.std.proofs.Common.{◌≡◌, List, [], ◌∷◌, ◌++◌, map, refl}
use Rattle.mpi_layout.specs.Rows.{field}
use Rattle.scsi_msgs.specs.ScsiIo.{scsi_io_layout, scsi_io_values}
use Rattle.scsi_msgs.specs.ScsiReply.{scsi_reply_layout, scsi_reply_values}
use Rattle.mpi_doorbell.specs.DoorRegisters.{new_registers}
use Rattle.mpi_doorbell.specs.declared.registers.TheConstants.{DOORBELL, WRITE_SEQUENCE, HOST_DIAGNOSTIC}
use Rattle.mpi_doorbell.specs.declared.state.IocState.{IocState}
use Rattle.mpi_doorbell.specs.declared.state.IocState.TheVariants as state
use Rattle.mpi_rings.specs.declared.request_descriptor.PostKind.TheVariants as post
use Rattle.mpt_wire.specs.Messages.Fields.{post_descriptor}
use Rattle.mpt_trace.specs.declared.entry.Entry.TheVariants as entry
use Rattle.mpt_trace.specs.declared.item.Back.TheVariants as back
use Rattle.mpt_trace.specs.declared.item.Down.{Down}
use Rattle.mpt_trace.specs.declared.item.Down.TheVariants as down
use Rattle.mpt_trace.specs.declared.item.Out.TheVariants as out
use Rattle.mpt_rules.specs.declared.said.Said.TheVariants as said
use Rattle.mpt_rules.specs.Ioc.Takes.{takes_down}
use Rattle.mpt_rules.specs.Ioc.Parts.{Ioc, new_ioc, state_of}
use Rattle.mpt_rules.specs.Ioc.Tables.{in_state}
use Rattle.mpt_rules.proofs.IocExampleParts.{at_work, hears_all, operational, seen, takes_all, tests}

-- ---- FAULT

abbrev state_after : Ioc → List Down → IocState
state_after ioc items = state_of (takes_all ioc items)

-- a handshake of no dwords, and a function that the doorbell hasn't
no_dwords : state_after (operational 1) (down.Write DOORBELL 0x4200_0000 ∷ []) ≡ state.Fault 1
no_dwords = refl

no_doorbell_function : state_after (operational 1) (down.Write DOORBELL 0x5000_0000 ∷ []) ≡ state.Fault 2
no_doorbell_function = refl

-- the Doorbell has the code
code_read : seen (takes_all (new_ioc (4 ∷ []) 1) (down.Write DOORBELL 0x5000_0000 ∷ down.Read DOORBELL ∷ [])) 0 ≡ (0x4000_0002 ∷ []) ∷ []
code_read = refl

-- a post of no kind, and one whose identifier is of another class
no_post_kind : state_after (operational 1) (down.Post 0x0001_0002 [] [] ∷ []) ≡ state.Fault 3
no_post_kind = refl

other_class : state_after (operational 1) (down.Post (post_descriptor post.ScsiIo 0 257 0) [] [] ∷ []) ≡ state.Fault 3
other_class = refl

no_identifier : state_after (operational 1) (down.Post (post_descriptor post.ScsiIo 0 0 0) [] [] ∷ []) ≡ state.Fault 3
no_identifier = refl

-- an identifier whose post is in a queue, and one whose command is at the fabric; not one whose answer is in an outbox
queued_twice : state_after (operational 1) (down.Post (post_descriptor post.ScsiIo 0 1 0) [] [] ∷ down.Post (post_descriptor post.ScsiIo 0 1 0) [] [] ∷ []) ≡ state.Fault 4
queued_twice = refl

at_the_fabric : state_after (at_work 1) (down.Post (post_descriptor post.ScsiIo 0 2 0) [] [] ∷ []) ≡ state.Fault 4
unfolding field scsi_io_layout scsi_io_values
at_the_fabric = refl

in_an_outbox : state_after (record (operational 1) { up = (said.Success 1 [] [] ∷ []) ∷ [] }) (down.Post (post_descriptor post.ScsiIo 0 1 0) [] [] ∷ []) ≡ state.Operational
in_an_outbox = refl

-- an address between two frames, one behind the last, and a frame that the controller has
no_frame : state_after (operational 1) (down.Return 0x0001_0040 1 ∷ []) ≡ state.Fault 5
no_frame = refl

behind_the_last : state_after (operational 1) (down.Return 0x0001_2000 1 ∷ []) ≡ state.Fault 5
behind_the_last = refl

returned_twice : state_after (operational 1) (down.Return 0x0001_0080 1 ∷ down.Return 0x0001_0080 2 ∷ []) ≡ state.Fault 5
returned_twice = refl

ring : (takes_all (operational 1) (down.Return 0x0001_0080 1 ∷ down.Return 0x0001_1f80 2 ∷ down.Return 0x0001_0000 3 ∷ [])).ring ≡ 1 ∷ 63 ∷ 0 ∷ []
ring = refl

-- reads are answered, and what else comes is passed over
abbrev stopped : Ioc
stopped = takes_all (operational 1) (down.Write DOORBELL 0x4200_0000 ∷ tests 1 0x0009 ∷ down.Return 0x0001_0000 1 ∷ down.Stop ∷ down.Write DOORBELL 0x4000_0000 ∷ down.Read DOORBELL ∷ [])

stopped_reads : seen (hears_all stopped (back.Calm ∷ back.Plugged 0xA 1 0 0 ∷ [])) 0 ≡ (0x4000_0001 ∷ []) ∷ []
stopped_reads = refl

stopped_keeps : stopped.normal ≡ []
stopped_keeps = refl

-- ---- resets

-- the keys, and a reset by HostDiagnostic
abbrev diagnostic_reset : List Down
diagnostic_reset = map (down.Write WRITE_SEQUENCE) (0 ∷ 0xF ∷ 4 ∷ 0xB ∷ 2 ∷ 7 ∷ 0xD ∷ []) ++ down.Write HOST_DIAGNOSTIC 0x84 ∷ []

recovered : state_after stopped diagnostic_reset ≡ state.Reset
recovered = refl

-- with a read's value, a reply and calm on queue 0, a reply on queue 1, a disk, two commands at the fabric and a queued one
abbrev busy : Ioc
busy =
    hears_all (takes_all (at_work 2) (down.Read DOORBELL ∷ tests 4 0x0009 ∷ []))
    (back.Result 1 (record { status = 0; payload = []; sense = [] }) ∷ back.Terminated 2 ∷ back.Calm ∷ [])

abbrev reset : Ioc
reset = (takes_down busy (down.Write DOORBELL 0x4000_0000)).part

before : seen busy 0 ++ [] ∷ seen busy 1 ≡ (0x2000_0000 ∷ []) ∷ (1 ∷ []) ∷ [] ∷ [] ∷ (2 ∷ 0x00 ∷ 0x0048 ∷ []) ∷ []
unfolding field scsi_io_layout scsi_io_values scsi_reply_layout scsi_reply_values
before = refl

-- the value and calm stay, and the mark goes to queue 1
after : reset.up ≡ (said.Value 0x2000_0000 ∷ said.Calm ∷ []) ∷ (said.Mark 1 ∷ []) ∷ []
unfolding field scsi_io_layout scsi_io_values
after = refl

links : reset.out ≡ out.Link 1 ∷ []
unfolding field scsi_io_layout scsi_io_values
links = refl

forgotten : reset ≡ record (new_ioc (4 ∷ []) 2) { door = in_state new_registers state.Reset; generation = 1; up = reset.up; out = reset.out; vectors = 2 }
unfolding field scsi_io_layout scsi_io_values
forgotten = refl

unbind_told : (takes_down busy (down.Write DOORBELL 0x4000_0000)).entries ≡ entry.UnbindAll ∷ []
unfolding field scsi_io_layout scsi_io_values
unbind_told = refl

-- the second reset drops the first one's mark
marked_twice : (takes_down reset (down.Write DOORBELL 0x4000_0000)).part.up ≡ (said.Value 0x2000_0000 ∷ said.Calm ∷ []) ∷ (said.Mark 2 ∷ []) ∷ []
unfolding field scsi_io_layout scsi_io_values
marked_twice = refl

-- what the fabric tells of before is passed over, and so is another generation's link
passed_over : seen (hears_all reset (back.Gone 3 ∷ back.Plugged 0xA 1 0 0 ∷ back.Discovered ∷ [])) 0 ≡ (0x2000_0000 ∷ []) ∷ [] ∷ []
unfolding field scsi_io_layout scsi_io_values
passed_over = refl

other_link : state_of (hears_all reset (back.Linked 0 ∷ [])) ≡ state.Reset
unfolding field scsi_io_layout scsi_io_values
other_link = refl

linked : state_of (hears_all reset (back.Linked 1 ∷ [])) ≡ state.Ready
unfolding field scsi_io_layout scsi_io_values
linked = refl

-- the host's last word is passed on in RESET too
stop_passed_on : (takes_all reset (down.Stop ∷ [])).out ≡ out.Link 1 ∷ out.Stop ∷ []
unfolding field scsi_io_layout scsi_io_values
stop_passed_on = refl
