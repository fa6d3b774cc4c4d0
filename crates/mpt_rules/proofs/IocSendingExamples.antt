-- What the controller puts on its lanes, where an identifier is at it, and when it is quiet.
use Rattle.std.proofs.Common.{◌≡◌, ℕ, List, [], ◌∷◌, true, false, Some, None, replicate, refl}
use Rattle.mpi_layout.specs.Rows.{field}
use Rattle.scsi_msgs.specs.ScsiIo.{scsi_io_layout, scsi_io_values}
use Rattle.scsi_msgs.specs.TaskAsk.{task_ask_layout, task_ask_values}
use Rattle.mpt_messages.specs.declared.host_ask.HostAsk.TheVariants as ask
use Rattle.mpt_trace.specs.declared.item.Back.TheVariants as back
use Rattle.mpt_trace.specs.declared.item.Up.TheVariants as up
use Rattle.mpt_rules.specs.declared.said.Said.TheVariants as said
use Rattle.mpt_rules.specs.Ioc.Takes.{AtTheFabric, InHighQueue, InNormalQueue, InUpOutbox, frame_here, front_up_on, ioc_quiet, smid_at, up_sent_on}
use Rattle.mpt_rules.specs.Ioc.Parts.{Ioc, new_ioc}
use Rattle.mpt_rules.proofs.IocExampleParts.{at_work, hears_all, high, high_post, operational, takes_all, tests, with_disk}

-- two replies that need a frame, and one that doesn't, behind each other on queue 1
abbrev replying : List ℕ → Ioc
replying ring = record (operational 2) { up = [] ∷ (said.Framed 2 (1 ∷ []) [] [] ∷ said.Success 3 (7 ∷ []) [] ∷ said.Mark 5 ∷ []) ∷ []; ring = ring }

waits : front_up_on (replying []) 1 ≡ None
waits = refl

empty : front_up_on (replying (4 ∷ [])) 0 ≡ None
empty = refl

takes_the_first : front_up_on (replying (4 ∷ 9 ∷ [])) 1 ≡ Some (up.Reply 0x0001_0200_0002_0001 (Some (1 ∷ [])) [] [])
takes_the_first = refl

-- it was put: the next one needs no frame
abbrev sent : Ioc
sent = up_sent_on (replying (4 ∷ 9 ∷ [])) 1

frame_taken : sent.ring ≡ 9 ∷ []
frame_taken = refl

frame_there : frame_here sent 9 ≡ true
frame_there = refl

without_frame : front_up_on sent 1 ≡ Some (up.Reply 0x0000_0003_0003_0000 None (7 ∷ []) [])
without_frame = refl

frame_kept : (up_sent_on sent 1).ring ≡ 9 ∷ []
frame_kept = refl

mark_put : front_up_on (up_sent_on sent 1) 1 ≡ Some (up.Mark 5)
mark_put = refl

-- ---- places

in_the_normal_queue : smid_at (takes_all (with_disk 1) (tests 1 0x0009 ∷ [])) 1 ≡ Some InNormalQueue
in_the_normal_queue = refl

in_the_high_queue : smid_at (takes_all (with_disk 1) (high_post 257 (ask.Task 0x0009 3 0) ∷ [])) 257 ≡ Some InHighQueue
in_the_high_queue = refl

at_the_fabric : smid_at (at_work 2) 2 ≡ Some AtTheFabric
unfolding field scsi_io_layout scsi_io_values
at_the_fabric = refl

-- a target reset that waits for a command at the fabric
held : smid_at (high (takes_all (hears_all (record (at_work 1) { through = false }) (back.Unplugged 0xA 1 0 0 ∷ [])) (high_post 257 (ask.Task 0x0009 3 0) ∷ []))) 257 ≡ Some AtTheFabric
unfolding field scsi_io_layout scsi_io_values task_ask_layout task_ask_values
held = refl

in_an_outbox : smid_at (hears_all (at_work 2) (back.Result 2 (record { status = 0; payload = replicate 512 1; sense = [] }) ∷ [])) 2 ≡ Some InUpOutbox
unfolding field scsi_io_layout scsi_io_values
in_an_outbox = refl

nowhere : smid_at (at_work 2) 5 ≡ None
unfolding field scsi_io_layout scsi_io_values
nowhere = refl

-- ---- quiet

new_is_quiet : ioc_quiet (new_ioc (4 ∷ []) 2) ≡ true
new_is_quiet = refl

disks_are_quiet : ioc_quiet (with_disk 2) ≡ true
disks_are_quiet = refl

work_is_not : ioc_quiet (record (at_work 2) { out = [] }) ≡ false
unfolding field scsi_io_layout scsi_io_values
work_is_not = refl
