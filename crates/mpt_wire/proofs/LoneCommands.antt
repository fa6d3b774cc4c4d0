-- Traces of a command that one rule of the law refuses and no other.
use Rattle.std.proofs.Common.{◌≡◌, ℕ, true, false, slice_index, List, [], ◌∷◌, ◌++◌, refl, ap, arith}
use Rattle.mpi_layout.specs.Rows.{field}
use Rattle.mpi_rings.specs.declared.request_descriptor.PostKind.TheVariants as post
use Rattle.config_pages.specs.ConfigReply.{config_reply_layout, config_reply_values}
use Rattle.config_pages.specs.DevicePage0.{device_page0_layout, device_page0_values}
use Rattle.event_msgs.specs.EventReply.{event_reply_layout, event_reply_values}
use Rattle.event_msgs.specs.Topology.{topology_layout, topology_values}
use Rattle.event_msgs.specs.TopologyEntry.{topology_entry_layout, topology_entry_values}
use Rattle.scsi_msgs.specs.ScsiIo.{scsi_io_layout, scsi_io_values}
use Rattle.scsi_msgs.specs.ScsiReply.{scsi_reply_layout, scsi_reply_values}
use Rattle.scsi_msgs.specs.TaskAsk.{task_ask_layout, task_ask_values}
use Rattle.scsi_msgs.specs.TaskReply.{task_reply_layout, task_reply_values}
use Rattle.scsi_disk.specs.Operation.{operation_of}
use Rattle.mpt_messages.specs.FrameBytes.{layout_bytes}
use Rattle.mpt_messages.specs.DevicePage.{disk_page}
use Rattle.mpt_messages.specs.declared.host_ask.HostAsk.TheVariants as ask
use Rattle.mpt_messages.specs.declared.ioc_reply.IocReply.TheVariants as reply
use Rattle.mpt_trace.specs.declared.command_form.CommandForm.{CommandForm}
use Rattle.mpt_trace.specs.declared.command_form.CommandForm.TheVariants as form
use Rattle.mpt_trace.specs.declared.input.Input.TheVariants as input
use Rattle.mpt_trace.specs.declared.lane.LaneName.TheVariants as lane
use Rattle.mpt_trace.specs.declared.item.Item.TheVariants as item
use Rattle.mpt_trace.specs.declared.item.Down.{Down}
use Rattle.mpt_trace.specs.declared.item.Down.TheVariants as down
use Rattle.mpt_trace.specs.declared.item.Out.TheVariants as out
use Rattle.mpt_trace.specs.declared.entry.Entry.{Entry}
use Rattle.mpt_trace.specs.declared.entry.Entry.TheVariants as entry
use Rattle.mpt_trace.specs.Command.{command_named}
use Rattle.mpt_wire.specs.Walks.Passes.{Passes}
use Rattle.mpt_wire.specs.Handles.Pages.{PagedAsks, nothing_paged, paged_next}
use Rattle.mpt_wire.specs.Handles.Tasks.{TaskAsks, aiming_next, nothing_aimed}
use Rattle.mpt_wire.specs.Messages.Fields.{changes_from, post_descriptor}
use Rattle.mpt_wire.specs.Paths.Replies.{RepliesPass}
use Rattle.mpt_wire.specs.Paths.Stops.{StopsPass}
use Rattle.mpt_wire.specs.Queues.LeastFree.{LeastPass}
use Rattle.mpt_wire.specs.Ties.CommandPosts.{CommandPostsPass, command_message}
use Rattle.mpt_wire.proofs.LoneBreaks.{frame_of, goes_down, goes_up, is_asked, returns, says}
use Rattle.mpt_wire.proofs.HandleExamples.{apart, puts_down, puts_up}

-- ---- a disk that is ready, and a command that is accepted for it

abbrev is_ready : List Entry
is_ready =
    entry.Given input.Start ∷ entry.HostUp ∷ entry.Given (input.Plug 5 0 3) ∷ is_asked
    ++ goes_up (says 265 1 (reply.Config 1 0x12 0) (layout_bytes device_page0_layout (device_page0_values (disk_page 9 5 0 3)))) ++ entry.Ready 5 9 ∷ []

-- a submission is accepted under the identifier
abbrev accepts : ℕ → List Entry
accepts s = entry.Given (input.Submit 1 5 form.Tur) ∷ entry.Accept 1 5 s ∷ []

-- the post of a command to the handle
abbrev posts : ℕ → CommandForm → Down
posts handle f = down.Post (post_descriptor post.ScsiIo 0 1 handle) (frame_of (command_message 1 handle (command_named f))) []

abbrev is_posted : List Entry
is_posted = is_ready ++ accepts 1 ++ goes_down (posts 9 form.Tur)

-- ---- its identifier, and its post

-- the second identifier, though the first is free
abbrev pub second_accepted : List Entry
second_accepted = is_ready ++ accepts 2

breaks_least_free : LeastPass second_accepted → ⊥
breaks_least_free p = let e : false ≡ true = p.1.1.1.1.1.1.1.1.1.1.1.1.1.1.1.1.1.1.0.least 1 (omega arith) (omega arith) in absurd cc

-- another command than the one that was accepted
abbrev pub posted_another : List Entry
posted_another = is_ready ++ accepts 1 ++ puts_down (posts 9 form.Capacity) ∷ []

breaks_command_posts : CommandPostsPass 1 posted_another → ⊥
unfolding scsi_io_layout scsi_io_values operation_of
breaks_command_posts p = apart 10 6 refl (ap (λ xs. slice_index xs 0x24) p.1.1.1.1.1.1.1.1.1.1.1.1.1.1.1.1.1.1.1.0.message)

-- to a handle that has no page
abbrev pub posted_pageless : List Entry
posted_pageless = is_ready ++ accepts 1 ++ puts_down (posts 10 form.Tur) ∷ []

breaks_posts : Passes paged_next PagedAsks nothing_paged posted_pageless → ⊥
unfolding field changes_from config_reply_layout config_reply_values device_page0_layout device_page0_values event_reply_layout event_reply_values topology_layout topology_values topology_entry_layout topology_entry_values scsi_io_layout scsi_io_values
breaks_posts p = let wrong : false ≡ true = p.1.1.1.1.1.1.1.1.1.1.1.1.1.1.1.1.1.1.1.0 in absurd cc

-- ---- its task, and its reply

-- a task is sent behind the reset that unbound its handle
abbrev pub sent_unbound : List Entry
sent_unbound =
    is_posted ++ goes_down (down.Write 0x00 0x4000_0000) ++ entry.UnbindAll ∷ entry.Put lane.Out (item.Out (out.Task 1 5 (command_named form.Tur))) ∷ []

breaks_tasks : Passes aiming_next TaskAsks nothing_aimed sent_unbound → ⊥
unfolding field scsi_io_layout scsi_io_values
breaks_tasks p = let wrong = p.1.1.1.1.1.1.1.1.1.1.1.1.1.1.1.1.1.1.1.1.1.1.1.1.0 in absurd cc

-- a command whose disk isn't there is answered with data
abbrev pub data_from_nowhere : List Entry
data_from_nowhere = is_posted ++ goes_down (returns 2) ++ puts_up (says 1 2 (reply.Scsi 9 1 0 0x43 0 0) (7 ∷ [])) ∷ []

breaks_replies : RepliesPass 1 data_from_nowhere → ⊥
unfolding field scsi_io_layout scsi_io_values scsi_reply_layout scsi_reply_values
breaks_replies p = let wrong : ◌≡◌ {A = List ℕ} (7 ∷ []) [] = p.1.1.1.1.1.1.1.1.1.1.1.1.1.1.1.1.1.1.1.1.1.1.1.0.0 in absurd cc

-- ---- an abort that takes it out of the queue, and says that it didn't
abbrev pub abort_denies : List Entry
abort_denies =
    is_posted ++ entry.Given (input.Abort 1) ∷ goes_down (down.Post (post_descriptor post.HighPriority 0 257 0) (frame_of (ask.Task 9 1 1)) [])
    ++ goes_down (returns 2) ++ puts_up (says 1 2 (reply.Scsi 9 1 0 0x48 0 0) []) ∷ goes_down (returns 3) ++ puts_up (says 257 3 (reply.Task 9 1 0 0 0) []) ∷ []

breaks_stops : StopsPass 1 abort_denies → ⊥
unfolding field scsi_io_layout scsi_io_values scsi_reply_layout scsi_reply_values task_ask_layout task_ask_values task_reply_layout task_reply_values
breaks_stops p = apart 0 1 refl (p.1.1.1.1.1.1.1.1.1.1.1.1.1.1.1.1.1.1.1.1.1.1.1.1.1.1.1.1.1.0.1.one refl refl refl)
