-- Traces that keep the rules of handles, and ones that break them.
use Rattle.std.proofs.Common.{◌≡◌, ℕ, ◌==◌, false, List, [], ◌∷◌, ◌++◌, Some, None, replicate, refl, sym, ◌∙◌, arith}
use Rattle.std.proofs.lemmas.Grind.{common_steps}
use Rattle.mpi_layout.specs.Rows.{field}
use Rattle.mpi_rings.specs.declared.request_descriptor.PostKind.TheVariants as post
use Rattle.config_pages.specs.ConfigReply.{config_reply_layout}
use Rattle.config_pages.specs.DevicePage0.{device_page0_layout, device_page0_values}
use Rattle.mpt_messages.specs.DevicePage.{disk_page}
use Rattle.mpt_messages.specs.FrameBytes.{layout_bytes}
use Rattle.scsi_disk.specs.declared.command.Command.{Command}
use Rattle.mpt_trace.specs.declared.lane.LaneName.TheVariants as lane
use Rattle.mpt_trace.specs.declared.item.Item.TheVariants as item
use Rattle.mpt_trace.specs.declared.item.Down.{Down}
use Rattle.mpt_trace.specs.declared.item.Down.TheVariants as down
use Rattle.mpt_trace.specs.declared.item.Up.{Up}
use Rattle.mpt_trace.specs.declared.item.Up.TheVariants as up
use Rattle.mpt_trace.specs.declared.item.Out.TheVariants as out
use Rattle.mpt_trace.specs.declared.item.Back.{Back}
use Rattle.mpt_trace.specs.declared.item.Back.TheVariants as back
use Rattle.mpt_trace.specs.declared.entry.Entry.{Entry}
use Rattle.mpt_trace.specs.declared.entry.Entry.TheVariants as entry
use Rattle.mpt_wire.specs.Walks.Passes.{Passes}
use Rattle.mpt_wire.specs.Messages.Fields.{address_descriptor, changes_from, post_descriptor, reply_frame_address}
use Rattle.mpt_wire.specs.Handles.Names.{changes_told, page_carried, removal_posted, reset_posted}
use Rattle.mpt_wire.specs.Handles.Bindings.{bound_next}
use Rattle.mpt_wire.specs.Handles.Removals.{UnbindAsks, no_removals, removals_next}
use Rattle.mpt_wire.specs.Handles.Leaving.{LeaveAsks, Unknown, leaving_next}
use Rattle.mpt_wire.specs.Handles.Pages.{PageAsks, PagedAsks, nothing_paged, paged_next}
use Rattle.mpt_wire.specs.Handles.Tasks.{TaskAsks, aiming_next, nothing_aimed}

-- ---- items

abbrev pub takes_down : Down → Entry
takes_down i = entry.Take lane.Down (item.Down i)

abbrev pub puts_down : Down → Entry
puts_down i = entry.Put lane.Down (item.Down i)

abbrev pub puts_up : Up → Entry
puts_up i = entry.Put lane.Up (item.Up i)

abbrev pub takes_up : Up → Entry
takes_up i = entry.Take lane.Up (item.Up i)

abbrev pub takes_back : Back → Entry
takes_back i = entry.Take lane.Back (item.Back i)

abbrev pub puts_back : Back → Entry
puts_back i = entry.Put lane.Back (item.Back i)

abbrev pub address : ℕ
address = 0x5000_c500_0000_0001

abbrev pub plugged : ℕ → Back
plugged k = back.Plugged address k 0 0

abbrev pub unplugged : ℕ → Back
unplugged k = back.Unplugged address k 0 0

-- a reply under s whose frame begins so
abbrev pub replies : ℕ → List ℕ → Up
replies s frame = up.Reply (address_descriptor s (reply_frame_address 0)) (Some frame) [] []

-- a topology change list of one change of a handle
abbrev pub changed : ℕ → ℕ → Up
changed h status = replies 0 ((4 ∷ 0 ∷ 11 ∷ 7 ∷ replicate 16 0) ++ (0x1c ∷ replicate 15 0) ++ (1 ∷ 0 ∷ 3 ∷ 0 ∷ h ∷ 0 ∷ 0 ∷ status ∷ []))

abbrev pub is_added : ℕ → Up
is_added h = changed h 1

abbrev pub is_gone : ℕ → Up
is_gone h = changed h 2

-- the page of a disk
abbrev pub pages : ℕ → ℕ → Up
pages h a = up.Reply (address_descriptor 265 (reply_frame_address 0)) (Some ((1 ∷ 0 ∷ 6 ∷ 4 ∷ replicate 20 0))) (layout_bytes device_page0_layout (device_page0_values (disk_page h a 0 0))) []

abbrev pub posts_io : ℕ → ℕ → Down
posts_io s h = down.Post (post_descriptor post.ScsiIo 0 s h) (h ∷ 0 ∷ 0 ∷ 0x00 ∷ []) []

abbrev pub posts_reset : ℕ → ℕ → Down
posts_reset s h = down.Post (post_descriptor post.HighPriority 0 s 0) (h ∷ 0 ∷ 0 ∷ 0x01 ∷ 0 ∷ 3 ∷ []) []

abbrev pub posts_removal : ℕ → ℕ → Down
posts_removal s h = down.Post (post_descriptor post.Default 0 s 0) (0x0d ∷ 0 ∷ 0 ∷ 0x1b ∷ h ∷ 0 ∷ []) []

-- two numbers that differ
pub apart : (a b : ℕ) → (a == b) ≡ false → a ≡ b → ⊥
apart a b n e = grind (arith, common_steps)

-- the frames say what their names say
an_added : changes_told (is_added 9) ≡ record { handle = 9; status = 1 } ∷ []
unfolding field changes_from
an_added = refl

a_page : page_carried (pages 9 address) ≡ Some (record { handle = 9; address = address })
unfolding field config_reply_layout device_page0_layout device_page0_values
a_page = refl

a_removal : removal_posted (posts_removal 265 9) ≡ Some (record { smid = 265; handle = 9 })
unfolding field
a_removal = refl

a_reset : reset_posted (posts_reset 257 9) ≡ Some (record { smid = 257; handle = 9 })
unfolding field
a_reset = refl

-- ---- handles are freed

freed : Passes removals_next UnbindAsks no_removals (takes_down (posts_removal 265 9) ∷ entry.Unbind 9 ∷ puts_up (replies 265 []) ∷ [])
unfolding field
freed = (tt, ((265, refl), (tt, tt)))

-- a controller that frees a handle as it tells that it doesn't respond
freed_when_gone : Passes removals_next UnbindAsks no_removals (puts_up (is_gone 9) ∷ entry.Unbind 9 ∷ []) → ⊥
unfolding field
freed_when_gone p = let wrong = p.1.0.1 in grind (arith, common_steps)

-- one that frees it behind the remove device's reply
freed_late : Passes removals_next UnbindAsks no_removals (takes_down (posts_removal 265 9) ∷ puts_up (replies 265 []) ∷ entry.Unbind 9 ∷ []) → ⊥
unfolding field
freed_late p = let wrong = p.1.1.0.1 in grind (arith, common_steps)

-- ---- a handle leaves

left : Passes (leaving_next 9) (LeaveAsks 9) Unknown (takes_up (is_added 9) ∷ takes_up (is_gone 9) ∷ puts_down (posts_reset 257 9) ∷ takes_up (replies 257 []) ∷ puts_down (posts_removal 265 9) ∷ [])
unfolding field changes_from
left = ((tt, (tt, tt)), ((tt, (tt, tt)), ((tt, tt), ((tt, tt), ((refl, tt), tt)))))

-- a host that sends the remove device without awaiting the target reset's reply
removed_early : Passes (leaving_next 9) (LeaveAsks 9) Unknown (takes_up (is_added 9) ∷ takes_up (is_gone 9) ∷ puts_down (posts_reset 257 9) ∷ puts_down (posts_removal 265 9) ∷ []) → ⊥
unfolding field changes_from
removed_early p = let wrong = p.1.1.1.0.0 in cc

-- one whose target reset was put before the event
reset_before : Passes (leaving_next 9) (LeaveAsks 9) Unknown (takes_up (is_added 9) ∷ puts_down (posts_reset 257 9) ∷ takes_up (is_gone 9) ∷ takes_up (replies 257 []) ∷ puts_down (posts_removal 265 9) ∷ []) → ⊥
unfolding field changes_from
reset_before p = let wrong = p.1.1.1.1.0.0 in cc

-- one that was added again since
added_again : Passes (leaving_next 9) (LeaveAsks 9) Unknown (takes_up (is_added 9) ∷ takes_up (is_gone 9) ∷ puts_down (posts_reset 257 9) ∷ takes_up (is_added 9) ∷ takes_up (replies 257 []) ∷ puts_down (posts_removal 265 9) ∷ []) → ⊥
unfolding field changes_from
added_again p = let wrong = p.1.1.1.1.1.0.0 in cc

-- ---- pages

page_of_binding : Passes bound_next PageAsks (λ h. None) (entry.Bind 9 address 1 ∷ puts_up (pages 9 address) ∷ [])
unfolding field config_reply_layout device_page0_layout device_page0_values
page_of_binding = (tt, (refl, tt))

page_of_another : Passes bound_next PageAsks (λ h. None) (entry.Bind 9 address 1 ∷ puts_up (pages 9 7) ∷ []) → ⊥
unfolding field config_reply_layout device_page0_layout device_page0_values
page_of_another p = let wrong = p.1.0 in grind (arith, common_steps)

-- ---- submissions

posted_to_page : Passes paged_next PagedAsks nothing_paged (takes_up (pages 9 address) ∷ entry.Accept 1 address 1 ∷ puts_down (posts_io 1 9) ∷ [])
unfolding field config_reply_layout device_page0_layout device_page0_values
posted_to_page = (tt, ((9, refl, λ other e. grind (arith, common_steps)), (refl, tt)))

-- to another handle
posted_elsewhere : Passes paged_next PagedAsks nothing_paged (takes_up (pages 9 address) ∷ entry.Accept 1 address 1 ∷ puts_down (posts_io 1 10) ∷ []) → ⊥
unfolding field config_reply_layout device_page0_layout device_page0_values
posted_elsewhere p = let wrong = p.1.1.0 in cc

-- where the handle doesn't respond any longer
accepted_when_gone : Passes paged_next PagedAsks nothing_paged (takes_up (pages 9 address) ∷ takes_up (is_gone 9) ∷ entry.Accept 1 address 1 ∷ []) → ⊥
unfolding field changes_from config_reply_layout device_page0_layout device_page0_values
accepted_when_gone p = let wrong = p.1.1.0.1 in grind (arith, common_steps)

-- where two handles have a page of the address
accepted_twice : Passes paged_next PagedAsks nothing_paged (takes_up (pages 9 address) ∷ takes_up (pages 10 address) ∷ entry.Accept 1 address 1 ∷ []) → ⊥
unfolding field config_reply_layout device_page0_layout device_page0_values
accepted_twice p = apart 9 10 refl (p.1.1.0.2 9 refl ∙ sym (p.1.1.0.2 10 refl))

-- ---- tasks

abbrev pub tests_unit : Command
tests_unit = record { lun = 0; cdb = replicate 6 0; len = 0; payload = [] }

abbrev pub sends : ℕ → ℕ → Entry
sends s a = entry.Put lane.Out (item.Out (out.Task s a tests_unit))

task_to_binding : Passes aiming_next TaskAsks nothing_aimed (entry.Bind 9 address 1 ∷ puts_down (posts_io 1 9) ∷ sends 1 address ∷ [])
unfolding field
task_to_binding = (tt, (tt, (refl, tt)))

task_elsewhere : Passes aiming_next TaskAsks nothing_aimed (entry.Bind 9 address 1 ∷ puts_down (posts_io 1 9) ∷ sends 1 7 ∷ []) → ⊥
unfolding field
task_elsewhere p = let wrong = p.1.1.0 in grind (arith, common_steps)

-- to a handle that was freed
task_to_freed : Passes aiming_next TaskAsks nothing_aimed (entry.Bind 9 address 1 ∷ puts_down (posts_io 1 9) ∷ entry.Unbind 9 ∷ sends 1 address ∷ []) → ⊥
unfolding field
task_to_freed p = let wrong = p.1.1.1.0 in cc
