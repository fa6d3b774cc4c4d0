-- Traces of a few entries that one rule of the law refuses and no other.
use Rattle.std.proofs.Common.{◌≡◌, ℕ, ◌+◌, true, false, slice_index, List, [], ◌∷◌, ◌++◌, Some, refl, ap}
use Rattle.mpi_layout.specs.Rows.{field}
use Rattle.mpi_rings.specs.declared.request_descriptor.PostKind.TheVariants as post
use Rattle.config_pages.specs.ConfigAsk.{config_ask_layout, config_ask_values}
use Rattle.config_pages.specs.ConfigReply.{config_reply_layout, config_reply_values}
use Rattle.config_pages.specs.DevicePage0.{device_page0_layout, device_page0_values}
use Rattle.event_msgs.specs.EventAck.{event_ack_layout, event_ack_values}
use Rattle.event_msgs.specs.EventAsk.{event_ask_layout, event_ask_values}
use Rattle.event_msgs.specs.EventReply.{event_reply_layout, event_reply_values}
use Rattle.event_msgs.specs.Topology.{topology_layout, topology_values}
use Rattle.event_msgs.specs.TopologyEntry.{topology_entry_layout, topology_entry_values}
use Rattle.ioc_msgs.specs.IocFacts.{ioc_facts_layout, ioc_facts_values}
use Rattle.ioc_msgs.specs.IocInit.{ioc_init_layout, ioc_init_values}
use Rattle.ioc_msgs.specs.IocInitReply.{ioc_init_reply_layout, ioc_init_reply_values}
use Rattle.ioc_msgs.specs.PortEnable.{port_enable_layout, port_enable_values}
use Rattle.ioc_msgs.specs.PortFacts.{port_facts_layout, port_facts_values}
use Rattle.ioc_msgs.specs.UnitControl.{unit_control_layout, unit_control_values}
use Rattle.ioc_msgs.specs.UnitControlReply.{unit_control_reply_layout, unit_control_reply_values}
use Rattle.scsi_msgs.specs.ScsiIo.{scsi_io_layout, scsi_io_values}
use Rattle.scsi_msgs.specs.TaskAsk.{task_ask_layout, task_ask_values}
use Rattle.scsi_msgs.specs.TaskReply.{task_reply_layout, task_reply_values}
use Rattle.mpt_messages.specs.FrameBytes.{message_frame}
use Rattle.mpt_messages.specs.HostFrames.{host_message}
use Rattle.mpt_messages.specs.IocFrames.{reply_frame}
use Rattle.mpt_messages.specs.declared.host_ask.HostAsk.{HostAsk}
use Rattle.mpt_messages.specs.declared.host_ask.HostAsk.TheVariants as ask
use Rattle.mpt_messages.specs.declared.ioc_reply.IocReply.{IocReply}
use Rattle.mpt_messages.specs.declared.ioc_reply.IocReply.TheVariants as reply
use Rattle.mpt_trace.specs.declared.input.Input.TheVariants as input
use Rattle.mpt_trace.specs.declared.item.Down.{Down}
use Rattle.mpt_trace.specs.declared.item.Down.TheVariants as down
use Rattle.mpt_trace.specs.declared.item.Up.{Up}
use Rattle.mpt_trace.specs.declared.item.Up.TheVariants as up
use Rattle.mpt_trace.specs.declared.item.Back.{Back}
use Rattle.mpt_trace.specs.declared.item.Back.TheVariants as back
use Rattle.mpt_trace.specs.declared.entry.Entry.{Entry}
use Rattle.mpt_trace.specs.declared.entry.Entry.TheVariants as entry
use Rattle.mpt_wire.specs.Walks.Passes.{EachEntry, Passes, state_after}
use Rattle.mpt_wire.specs.Walks.Cycles.{TurnsPass}
use Rattle.mpt_wire.specs.Messages.Fields.{address_descriptor, changes_from, post_descriptor, reply_frame_address}
use Rattle.mpt_wire.specs.Messages.Registers.{FramesInOrder, StatusIsRight}
use Rattle.mpt_wire.specs.Messages.Standing.{MessageAsks, host_descriptor}
use Rattle.mpt_wire.specs.Messages.Told.{RepliesAreTold}
use Rattle.mpt_wire.specs.Handles.Leaving.{LeaveAsks, Unknown, leaving_next}
use Rattle.mpt_wire.specs.Queues.Identifiers.{smid_stage}
use Rattle.mpt_wire.specs.Queues.LeastPosts.{IdentifiersAreLeast}
use Rattle.mpt_wire.specs.Machine.View.{ViewIsRun}
use Rattle.mpt_wire.specs.Paths.TerminationCounts.{CountsPass}
use Rattle.mpt_wire.specs.Ties.Acknowledged.{AcksSucceed, EventsAreAcknowledged}
use Rattle.mpt_wire.specs.Ties.HandlesAimed.{HandlesToldPass, NamesKnown, handles_told_next, no_handles_told}
use Rattle.mpt_wire.specs.Ties.LastPosts.{AnswersAsk, RepliesAnswerPass}
use Rattle.mpt_wire.specs.Ties.PagesTold.{PagesAreOfDisks}
use Rattle.mpt_wire.specs.Ties.RemovalsUnbind.{RemovalsUnbind}
use Rattle.mpt_wire.specs.Ties.ToldNext.{RepliesAreToldNext}
use Rattle.mpt_wire.proofs.HandleExamples.{apart, puts_down, puts_up, takes_back, puts_back, takes_down, takes_up}
use Rattle.mpt_wire.proofs.MessageExamples.{other_kind, same_some}

-- ---- items

-- the item goes over the lane: it is put and taken
abbrev pub goes_down : Down → List Entry
goes_down i = puts_down i ∷ takes_down i ∷ []

abbrev pub goes_up : Up → List Entry
goes_up i = puts_up i ∷ takes_up i ∷ []

abbrev pub goes_back : Back → List Entry
goes_back i = puts_back i ∷ takes_back i ∷ []

abbrev pub frame_of : HostAsk → List ℕ
frame_of asked = message_frame (host_message asked)

-- an internal request under the identifier
abbrev pub asks : ℕ → HostAsk → Down
asks s asked = down.Post (post_descriptor post.Default 0 s 0) (frame_of asked) []

-- the reply frame is returned: frames are returned in their order from the first on
abbrev pub returns : ℕ → Down
returns frame = down.Return (reply_frame_address frame) (frame + 1)

-- a reply to s in the reply frame, with this page
abbrev pub says : ℕ → ℕ → IocReply → List ℕ → Up
says s frame r page = up.Reply (address_descriptor s (reply_frame_address frame)) (Some (reply_frame r)) page []

-- ---- identifiers and frames

-- the event notification is posted twice
abbrev pub notified_twice : List Entry
notified_twice = puts_down (asks 265 ask.Notification) ∷ puts_down (asks 265 ask.Notification) ∷ []

breaks_cycle : TurnsPass (smid_stage 265) notified_twice → ⊥
breaks_cycle p = apart 0 1 refl p.1.0

-- the port is enabled before the event notification was answered
abbrev pub enabled_first : List Entry
enabled_first = puts_down (asks 265 ask.PortEnable) ∷ []

breaks_least : IdentifiersAreLeast enabled_first → ⊥
unfolding field port_enable_layout port_enable_values
breaks_least p = let wrong : ◌≡◌ {A = List ℕ} [] (265 ∷ p.0.0) = p.0.1 in absurd cc

-- the reply is in the frame that was returned second
abbrev pub in_second_frame : List Entry
in_second_frame = goes_down (returns 0) ++ goes_down (returns 1) ++ goes_down (asks 265 ask.Notification) ++ puts_up (says 265 1 reply.Notified []) ∷ []

breaks_ring : FramesInOrder in_second_frame → ⊥
breaks_ring p = apart 0x10000 0x10080 refl (ap (λ xs. slice_index xs 0) p.1.1.1.1.1.1.0.1)

-- ---- messages

-- a request that isn't for the first reply queue
abbrev pub on_second_queue : List Entry
on_second_queue = puts_down (down.Post (post_descriptor post.Default 1 265 0) (frame_of ask.Notification) []) ∷ []

breaks_standing : EachEntry (MessageAsks 1) on_second_queue → ⊥
breaks_standing p = by_ask p.0.ask p.0.described
  where
    by_ask : (a : HostAsk) → host_descriptor 1 265 a ≡ Some (post_descriptor post.Default 1 265 0) → ⊥
    by_ask (ask.ScsiIo smid handle lun cdb cdb_len len write) e = other_kind handle (same_some (post_descriptor post.ScsiIo 0 265 handle) (post_descriptor post.Default 1 265 0) e)
    by_ask (ask.Task handle task_type task_mid) e = apart (post_descriptor post.HighPriority 0 265 0) (post_descriptor post.Default 1 265 0) refl (same_some (post_descriptor post.HighPriority 0 265 0) (post_descriptor post.Default 1 265 0) e)
    by_ask ask.Facts e = absurd cc
    by_ask ask.PortFacts e = absurd cc
    by_ask (ask.Init queues) e = absurd cc
    by_ask _ e = apart (post_descriptor post.Default 0 265 0) (post_descriptor post.Default 1 265 0) refl (same_some (post_descriptor post.Default 0 265 0) (post_descriptor post.Default 1 265 0) e)

-- the event notification is answered as the port enable is
abbrev pub answered_as_another : List Entry
answered_as_another = goes_down (returns 0) ++ goes_down (asks 265 ask.Notification) ++ puts_up (says 265 0 (reply.Plain 6 0) []) ∷ []

breaks_answers : RepliesAnswerPass 265 answered_as_another → ⊥
unfolding scsi_io_layout scsi_io_values task_ask_layout task_ask_values config_ask_layout config_ask_values unit_control_layout unit_control_values event_ack_layout event_ack_values event_ask_layout event_ask_values port_enable_layout port_enable_values event_reply_layout event_reply_values ioc_init_reply_layout ioc_init_reply_values
breaks_answers p = by_ask p.1.1.1.1.0.ask p.1.1.1.1.0.reply p.1.1.1.1.0.asked p.1.1.1.1.0.replied p.1.1.1.1.0.answers
  where
    by_ask : (a : HostAsk) (r : IocReply) → frame_of ask.Notification ≡ frame_of a → reply_frame (reply.Plain 6 0) ≡ reply_frame r → AnswersAsk 265 a r → ⊥
    by_ask ask.Notification reply.Notified e f x = apart 6 7 refl (ap (λ xs. slice_index xs 3) f)
    by_ask (ask.ScsiIo smid handle lun cdb cdb_len len write) (reply.Scsi h tag scsi_status status moved sense) e f x = apart 7 0 refl (ap (λ xs. slice_index xs 3) e)
    by_ask (ask.Task handle task_type task_mid) (reply.Task h kind status code count) e f x = apart 7 1 refl (ap (λ xs. slice_index xs 3) e)
    by_ask (ask.PageRead smid handle) (reply.Config action ext_type status) e f x = apart 7 4 refl (ap (λ xs. slice_index xs 3) e)
    by_ask (ask.Remove handle) (reply.Removed h operation status) e f x = apart 7 0x1b refl (ap (λ xs. slice_index xs 3) e)
    by_ask (ask.Ack event context) (reply.Plain fn status) e f x = apart 7 8 refl (ap (λ xs. slice_index xs 3) e)
    by_ask ask.PortEnable (reply.Plain fn status) e f x = apart 7 6 refl (ap (λ xs. slice_index xs 3) e)
    by_ask _ _ e f x = absurd x

-- ---- registers

-- a handshake is opened and its message written, and a register is read that no host reads, and that says nothing of
-- the doorbell: the status stays, as the reply isn't read
abbrev pub status_stays : List Entry
status_stays =
    goes_down (down.Write 0x00 0x4203_0000) ++ goes_down (down.Write 0x00 0x0300_0000) ++ goes_down (down.Write 0x00 0) ++ goes_down (down.Write 0x00 0)
    ++ goes_down (down.Read 0x34) ++ puts_up (up.Value 0) ∷ goes_down (down.Write 0x30 0) ++ goes_down (down.Read 0x30) ++ puts_up (up.Value 1) ∷ []

breaks_status : StatusIsRight status_stays → ⊥
breaks_status p = apart 1 0 refl p.1.1.1.1.1.1.1.1.1.1.1.1.1.1.1.0

-- ---- what the host tells, and the machine

-- a reset where the host wasn't started
abbrev pub reset_unstarted : List Entry
reset_unstarted = entry.Given input.Reset ∷ []

breaks_machine : ViewIsRun [] reset_unstarted → ⊥
breaks_machine p = let wrong = p.0.0 in absurd cc

-- a disk that is bound is told as ready without its page
abbrev pub ready_without_page : List Entry
ready_without_page =
    entry.Given (input.Plug 5 0 3) ∷ goes_back (back.Plugged 5 1 0 3) ++ entry.Bind 9 5 1 ∷ puts_down (down.Read 0x00) ∷ entry.Ready 5 9 ∷ []

breaks_told : RepliesAreTold ready_without_page → ⊥
breaks_told p = p.1.1.1.1.1.0

-- ---- once the event notification is answered

abbrev is_notified : List Entry
is_notified = goes_down (returns 0) ++ goes_down (asks 265 ask.Notification) ++ goes_up (says 265 0 reply.Notified [])

-- an event is acknowledged that wasn't taken
abbrev pub acknowledged_alone : List Entry
acknowledged_alone = is_notified ++ puts_down (asks 265 (ask.Ack 0x1c 1)) ∷ []

breaks_acknowledged : EventsAreAcknowledged acknowledged_alone → ⊥
unfolding field event_ack_layout event_ack_values event_ask_layout event_ask_values
breaks_acknowledged p = p.1.1.1.1.1.1.0

-- the page is read of a handle that the host wasn't told of
abbrev pub read_untold : List Entry
read_untold = is_notified ++ puts_down (asks 265 (ask.PageRead 265 9)) ∷ []

breaks_handles_told : HandlesToldPass read_untold → ⊥
unfolding scsi_io_layout scsi_io_values task_ask_layout task_ask_values config_ask_layout config_ask_values unit_control_layout unit_control_values event_ack_layout event_ack_values event_ask_layout event_ask_values port_enable_layout port_enable_values ioc_facts_layout ioc_facts_values port_facts_layout port_facts_values ioc_init_layout ioc_init_values
breaks_handles_told p = by_ask p.1.1.1.1.1.1.0.request p.1.1.1.1.1.1.0.asked p.1.1.1.1.1.1.0.names
  where
    by_ask : (a : HostAsk) → frame_of (ask.PageRead 265 9) ≡ frame_of a → NamesKnown (state_after handles_told_next no_handles_told is_notified) a → ⊥
    by_ask (ask.PageRead smid handle) e n = let wrong : false ≡ true = n in absurd cc
    by_ask (ask.ScsiIo smid handle lun cdb cdb_len len write) e n = apart 4 0 refl (ap (λ xs. slice_index xs 3) e)
    by_ask (ask.Task handle task_type task_mid) e n = apart 4 1 refl (ap (λ xs. slice_index xs 3) e)
    by_ask (ask.Remove handle) e n = apart 4 0x1b refl (ap (λ xs. slice_index xs 3) e)
    by_ask (ask.Ack event context) e n = apart 4 8 refl (ap (λ xs. slice_index xs 3) e)
    by_ask ask.Notification e n = apart 4 7 refl (ap (λ xs. slice_index xs 3) e)
    by_ask ask.PortEnable e n = apart 4 6 refl (ap (λ xs. slice_index xs 3) e)
    by_ask ask.Facts e n = apart 4 3 refl (ap (λ xs. slice_index xs 3) e)
    by_ask ask.PortFacts e n = apart 4 5 refl (ap (λ xs. slice_index xs 3) e)
    by_ask (ask.Init queues) e n = apart 4 2 refl (ap (λ xs. slice_index xs 3) e)

-- the port is enabled, and the host doesn't tell that it is up
abbrev pub up_untold : List Entry
up_untold = is_notified ++ goes_down (asks 265 ask.PortEnable) ++ goes_down (returns 1) ++ goes_up (says 265 1 (reply.Plain 6 0) [])

breaks_told_next : RepliesAreToldNext up_untold → ⊥
unfolding field event_ask_layout event_ask_values port_enable_layout port_enable_values event_reply_layout event_reply_values
breaks_told_next p = let told = p.1.1.1.1.1.1.1.1.1.1.1.0.1 in let wrong = told.2 in absurd cc

-- ---- once the host is told of a disk

abbrev is_told : List Entry
is_told = goes_back (back.Plugged 5 1 0 3) ++ entry.Bind 9 5 1 ∷ goes_down (returns 0) ++ goes_up (says 0 0 (reply.Topology 1 9 0 4 3 true) [])

-- its page is read
abbrev pub is_asked : List Entry
is_asked = is_told ++ goes_down (asks 265 (ask.PageRead 265 9)) ++ goes_down (returns 1)

-- the reading succeeds without a page
abbrev pub read_empty : List Entry
read_empty = is_asked ++ puts_up (says 265 1 (reply.Config 1 0x12 0) []) ∷ []

breaks_pages_told : PagesAreOfDisks read_empty → ⊥
unfolding field config_reply_layout config_reply_values device_page0_layout device_page0_values event_reply_layout event_reply_values
breaks_pages_told p = let wrong = p.1.1.1.1.1.1.1.1.1.1.1.0.bytes in absurd cc

-- the acknowledgement of the event fails
abbrev pub acknowledged_in_vain : List Entry
acknowledged_in_vain = is_told ++ goes_down (asks 265 (ask.Ack 0x1c 1)) ++ goes_down (returns 1) ++ puts_up (says 265 1 (reply.Plain 8 7) []) ∷ []

breaks_acks : AcksSucceed acknowledged_in_vain → ⊥
unfolding field event_reply_layout event_reply_values port_enable_layout port_enable_values
breaks_acks p = apart 7 0 refl p.1.1.1.1.1.1.1.1.1.1.1.0

-- the disk is removed, though it didn't leave
abbrev pub removed_at_once : List Entry
removed_at_once = is_told ++ puts_down (asks 265 (ask.Remove 9)) ∷ []

breaks_leaving : Passes (leaving_next 9) (LeaveAsks 9) Unknown removed_at_once → ⊥
unfolding field changes_from event_reply_layout event_reply_values topology_layout topology_values topology_entry_layout topology_entry_values unit_control_layout unit_control_values
breaks_leaving p = let wrong = p.1.1.1.1.1.1.1.0.0 in cc

-- the disk leaves, and is reset
abbrev is_reset : List Entry
is_reset =
    is_told ++ goes_back (back.Unplugged 5 1 0 3) ++ goes_down (returns 1) ++ goes_up (says 0 1 (reply.Topology 2 9 0 4 3 false) [])
    ++ goes_down (down.Post (post_descriptor post.HighPriority 0 257 0) (frame_of (ask.Task 9 3 0)) []) ++ goes_down (returns 2)

-- a reset that stopped nothing is told to have stopped something
abbrev pub reset_miscounted : List Entry
reset_miscounted = is_reset ++ puts_up (says 257 2 (reply.Task 9 3 0 0 1) []) ∷ []

breaks_counts : CountsPass 257 reset_miscounted → ⊥
unfolding field event_reply_layout event_reply_values task_ask_layout task_ask_values task_reply_layout task_reply_values
breaks_counts p = apart 1 0 refl p.1.1.1.1.1.1.1.1.1.1.1.1.1.1.1.1.1.0

-- a remove device succeeds, and its handle stays bound
abbrev pub removed_bound : List Entry
removed_bound =
    is_reset ++ goes_up (says 257 2 (reply.Task 9 3 0 0 0) []) ++ goes_down (asks 265 (ask.Remove 9)) ++ goes_down (returns 3)
    ++ puts_up (says 265 3 (reply.Removed 9 0x0d 0) []) ∷ []

breaks_removals : RemovalsUnbind 265 removed_bound → ⊥
unfolding field task_ask_layout task_ask_values unit_control_layout unit_control_values unit_control_reply_layout unit_control_reply_values
breaks_removals p = let wrong : true ≡ false = p.1.1.1.1.1.1.1.1.1.1.1.1.1.1.1.1.1.1.1.1.1.1.1.0 in absurd cc
