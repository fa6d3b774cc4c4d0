-- SCSI IOs that the controller refuses, sends and answers.
use Rattle.std.proofs.Common.{◌≡◌, ℕ, List, [], ◌∷◌, ◌++◌, true, false, replicate, refl}
use Rattle.mpi_layout.specs.Rows.{field}
use Rattle.scsi_msgs.specs.ScsiIo.{scsi_io_layout, scsi_io_values}
use Rattle.scsi_msgs.specs.ScsiReply.{scsi_reply_layout, scsi_reply_values}
use Rattle.scsi_msgs.specs.TaskAsk.{task_ask_layout, task_ask_values}
use Rattle.scsi_msgs.specs.declared.scsi_io.ScsiIo.{ScsiIo}
use Rattle.mpi_rings.specs.declared.request_descriptor.PostKind.TheVariants as post
use Rattle.mpt_messages.specs.FrameBytes.{message_frame}
use Rattle.mpt_messages.specs.HostFrames.{scsi_io_asked}
use Rattle.mpt_messages.specs.declared.host_ask.HostAsk.TheVariants as ask
use Rattle.mpt_messages.specs.declared.message.Message.TheVariants as message
use Rattle.mpt_wire.specs.Messages.Fields.{post_descriptor}
use Rattle.mpt_trace.specs.declared.item.Back.TheVariants as back
use Rattle.mpt_trace.specs.declared.item.Down.TheVariants as down
use Rattle.mpt_trace.specs.declared.item.Out.TheVariants as out
use Rattle.scsi_disk.specs.declared.scsi_result.ScsiResult.{ScsiResult}
use Rattle.mpt_rules.specs.Ioc.Commands.{data_differ, direction_differs, element_differs, element_goes_wrong, is_inconsistent, is_too_long}
use Rattle.mpt_rules.specs.Ioc.Parts.{Ioc}
use Rattle.mpt_rules.proofs.IocExampleParts.{at_work, block_cdb, hears_all, normal, operational, ready_test, scsi_post, seen, takes_all, tests, with_disk, with_gone_disk, write_block}

-- ---- refusals, in their order

-- a task management frame by a SCSI IO descriptor
other_kind : seen (normal (takes_all (with_disk 1) (scsi_post 0 1 0x0009 (ask.Task 0x0009 3 0) [] ∷ []))) 0 ≡ (1 ∷ 0x01 ∷ 0x0001 ∷ []) ∷ []
unfolding field task_ask_layout task_ask_values
other_kind = refl

-- a frame of zeros, whose SGLOffset0 isn't 24
faulty_field : seen (normal (takes_all (with_disk 1) (down.Post (post_descriptor post.ScsiIo 0 1 0x0009) (replicate 128 0) [] ∷ []))) 0 ≡ (1 ∷ 0x00 ∷ 0x0007 ∷ []) ∷ []
unfolding field scsi_io_layout
faulty_field = refl

-- another handle in the descriptor than in the frame
two_handles : seen (normal (takes_all (with_disk 1) (scsi_post 0 1 0x000a (ready_test 1 0x0009) [] ∷ []))) 0 ≡ (1 ∷ 0x00 ∷ 0x0007 ∷ []) ∷ []
unfolding field scsi_io_layout scsi_io_values scsi_reply_layout scsi_reply_values
two_handles = refl

-- a WRITE whose data aren't there
no_payload : seen (normal (takes_all (with_disk 1) (scsi_post 0 1 0x0009 (write_block 1 0x0009) [] ∷ []))) 0 ≡ (1 ∷ 0x00 ∷ 0x0003 ∷ []) ∷ []
unfolding field scsi_io_layout scsi_io_values scsi_reply_layout scsi_reply_values
no_payload = refl

-- no disk has the handle, and the handle's disk is gone
unbound : seen (normal (takes_all (operational 1) (tests 1 0x0009 ∷ []))) 0 ≡ (1 ∷ 0x00 ∷ 0x0042 ∷ []) ∷ []
unfolding field scsi_io_layout scsi_io_values scsi_reply_layout scsi_reply_values
unbound = refl

gone : seen (normal (takes_all with_gone_disk (tests 1 0x0009 ∷ []))) 0 ≡ (1 ∷ 0x00 ∷ 0x0043 ∷ []) ∷ []
unfolding field scsi_io_layout scsi_io_values scsi_reply_layout scsi_reply_values
gone = refl

-- a worked frame: TEST UNIT READY for handle 0x000a with an element of length 0, where nothing is plugged
abbrev worked_frame : List ℕ
worked_frame = (0x0a ∷ []) ++ replicate 11 0 ++ (0x60 ∷ 0 ∷ 0x10 ∷ 0 ∷ 0 ∷ 0 ∷ 0x60 ∷ 0 ∷ 0x18 ∷ []) ++ replicate 15 0 ++ (0x06 ∷ []) ++ replicate 62 0 ++ (0xd3 ∷ []) ++ replicate 8 0xff ++ replicate 20 0

worked : seen (normal (takes_all (operational 1) (down.Post 0x000a_0000_0001_0000 worked_frame [] ∷ []))) 0 ≡ (1 ∷ 0x00 ∷ 0x0042 ∷ []) ∷ []
unfolding field scsi_io_layout scsi_reply_layout scsi_reply_values
worked = refl

-- ---- inconsistent transfers

-- the frame of a READ of one block, with some of its fields changed
abbrev read_asked : ScsiIo
read_asked = scsi_io_asked 1 0x0009 0 (block_cdb 0x28) 10 512 false

abbrev changed : ScsiIo → List ℕ
changed m = message_frame (message.ScsiIo m)

consistent : is_inconsistent (changed read_asked) [] ≡ false
unfolding field scsi_io_layout scsi_io_values
consistent = refl

short_element : element_differs (changed (record read_asked { sge_length = 511 })) ≡ true
unfolding field scsi_io_layout scsi_io_values
short_element = refl

too_long : is_too_long (changed (record read_asked { data_length = 4097; sge_length = 4097 })) ≡ true
unfolding field scsi_io_layout scsi_io_values
too_long = refl

no_direction : direction_differs (changed (record read_asked { control_direction = 0 })) ≡ true
unfolding field scsi_io_layout scsi_io_values
no_direction = refl

wrong_element : element_goes_wrong (changed (record read_asked { sge_flags = 0xd7 })) ≡ true
unfolding field scsi_io_layout scsi_io_values
wrong_element = refl

data_of_a_read : data_differ (changed read_asked) (0 ∷ []) ≡ true
unfolding field scsi_io_layout scsi_io_values
data_of_a_read = refl

-- ---- what is sent

sent : (normal (takes_all (with_disk 1) (tests 1 0x0009 ∷ []))).out ≡ out.Task 1 0xA (record { lun = 0; cdb = replicate 6 0; len = 0; payload = [] }) ∷ []
unfolding field scsi_io_layout scsi_io_values
sent = refl

-- ---- answers

abbrev good : List ℕ → ScsiResult
good payload = record { status = 0; payload = payload; sense = [] }

abbrev check : ScsiResult
check = record { status = 2; payload = []; sense = replicate 18 0 }

-- all bytes were moved: no frame, and the reply goes to the queue that the post named, or to queue 0 where there is no such queue
moved_all : (let ioc : Ioc = hears_all (at_work 2) (back.Result 1 (good []) ∷ back.Result 2 (good (replicate 512 1)) ∷ back.Result 3 (good []) ∷ []) in seen ioc 0 ++ [] ∷ seen ioc 1)
    ≡ (1 ∷ []) ∷ (3 ∷ []) ∷ [] ∷ (2 ∷ []) ∷ []
unfolding field scsi_io_layout scsi_io_values
moved_all = refl

-- fewer bytes were moved; a WRITE that failed moved none, and so did a command that failed
underrun : seen (hears_all (at_work 1) (back.Result 2 (good (replicate 36 1)) ∷ back.Result 3 check ∷ back.Result 1 check ∷ [])) 0
    ≡ (2 ∷ 0x00 ∷ 0x0045 ∷ []) ∷ (3 ∷ 0x00 ∷ 0x0045 ∷ []) ∷ (1 ∷ 0x00 ∷ 0x0000 ∷ []) ∷ []
unfolding field scsi_io_layout scsi_io_values scsi_reply_layout scsi_reply_values
underrun = refl

-- the fabric had no disk, or dropped the command; a second answer to it is passed over
ended : seen (hears_all (at_work 1) (back.Gone 1 ∷ back.Terminated 2 ∷ back.Terminated 1 ∷ [])) 0
    ≡ (1 ∷ 0x00 ∷ 0x0043 ∷ []) ∷ (2 ∷ 0x00 ∷ 0x0048 ∷ []) ∷ []
unfolding field scsi_io_layout scsi_io_values scsi_reply_layout scsi_reply_values
ended = refl
