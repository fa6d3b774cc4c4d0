-- For each statement of a whole trace one that breaks it: a trace that what it speaks of is missing from.
use Rattle.std.proofs.Common.{◌≡◌, ℕ, Bool, List, [], ◌∷◌, ◌++◌, Some, replicate, refl, arith}
use Rattle.mpi_layout.specs.Rows.{field}
use Rattle.config_pages.specs.ConfigReply.{config_reply_layout}
use Rattle.config_pages.specs.DevicePage0.{device_page0_layout, device_page0_values}
use Rattle.mpt_trace.specs.declared.command_form.CommandForm.TheVariants as form
use Rattle.mpt_trace.specs.declared.input.Input.TheVariants as input
use Rattle.mpt_trace.specs.declared.lane.LaneName.TheVariants as lane
use Rattle.mpt_trace.specs.declared.item.Item.TheVariants as item
use Rattle.mpt_trace.specs.declared.item.Up.TheVariants as up
use Rattle.mpt_trace.specs.declared.entry.Entry.{Entry}
use Rattle.mpt_trace.specs.declared.entry.Entry.TheVariants as entry
use Rattle.mpt_trace.specs.Command.{command_named}
use Rattle.mpt_wire.specs.Messages.Fields.{address_descriptor, reply_frame_address}
use Rattle.mpt_wire.specs.Walks.Lasting.{Lasts}
use Rattle.mpt_wire.specs.Queues.LeastFree.{LeastAreAccepted}
use Rattle.mpt_wire.specs.Handles.Leaving.{RemovesWhatLeft}
use Rattle.mpt_wire.specs.Handles.Pages.{PagesAreOfBindings, PostsGoToPages}
use Rattle.mpt_wire.specs.Handles.Removals.{UnbindsAreRemovals}
use Rattle.mpt_wire.specs.Paths.Replies.{RepliesTell}
use Rattle.mpt_wire.specs.Paths.Stops.{StopsAreTold}
use Rattle.mpt_wire.specs.Handles.Tasks.{TasksGoToBindings}
use Rattle.mpt_wire.proofs.BrokenTraces.{second_least}
use Rattle.mpt_wire.proofs.HandleExamples.{address, pages, puts_down, posts_removal, puts_up, sends, tests_unit}
use Rattle.mpt_wire.proofs.LeastFree.{least_pass}

-- nothing stands in an empty list
nothing_before : {A : Type 0} (e : A) (earlier since : List A) → [] ≡ earlier ++ e ∷ since → ⊥
nothing_before e [] since split = absurd cc
nothing_before e (x ∷ earlier) since split = absurd cc

nothing_lasts : (Makes : Entry → Type 0) (ends : Entry → Bool) → Lasts Makes ends [] → ⊥
nothing_lasts Makes ends l = nothing_before l.maker l.earlier l.since l.split

-- ---- identifiers

-- the second least identifier
not_the_least : LeastAreAccepted (entry.Accept 1 5 2 ∷ []) → ⊥
not_the_least p = second_least (least_pass (entry.Accept 1 5 2 ∷ []) p)

-- ---- handles

-- a handle that is unbound without a remove device
unbound_alone : UnbindsAreRemovals (entry.Unbind 9 ∷ []) → ⊥
unbound_alone p = let r = p [] [] 9 refl in nothing_lasts _ _ r.1

-- a remove device of a handle that never left
removed_alone : RemovesWhatLeft 9 (puts_down (posts_removal 265 9) ∷ []) → ⊥
unfolding field
removed_alone p = let r = p [] [] 265 refl in nothing_before _ r.1.earlier r.1.later r.1.split

-- the page of a handle that is bound to nothing
page_alone : PagesAreOfBindings (puts_up (pages 9 address) ∷ []) → ⊥
unfolding field config_reply_layout device_page0_layout device_page0_values
page_alone p = let b = p [] [] (puts_up (pages 9 address)) (record { handle = 9; address = address }) refl refl in nothing_lasts _ _ b.1

-- a submission to a disk without a page
accepted_alone : PostsGoToPages (entry.Accept 1 address 1 ∷ []) → ⊥
accepted_alone p = let h = p.one [] [] 1 address 1 refl in nothing_lasts _ _ h.1.has

-- a task without a post
sent_alone : TasksGoToBindings (sends 1 address ∷ []) → ⊥
sent_alone p = let h = p [] [] lane.Out 1 address tests_unit refl in nothing_lasts _ _ h.1

-- ---- commands

abbrev accepted : List Entry
accepted = entry.Given (input.Submit 1 5 form.Tur) ∷ entry.Accept 1 5 1 ∷ []

-- the reply to command 1, with this page
abbrev answers_with : List ℕ → Entry
answers_with page = entry.Put lane.Up (item.Up (up.Reply (address_descriptor 1 (reply_frame_address 0)) (Some (replicate 14 0 ++ 0x48 ∷ replicate 113 0)) page []))

-- a reply that has data, though its command has no result
data_of_nothing : RepliesTell 1 (accepted ++ answers_with (7 ∷ []) ∷ []) → ⊥
data_of_nothing p =
    let r = p accepted [] lane.Up (address_descriptor 1 (reply_frame_address 0)) (Some (replicate 14 0 ++ 0x48 ∷ replicate 113 0)) (7 ∷ []) []
    (record { number = 1; address = 5; command = command_named form.Tur }) refl refl refl in
    let wrong : ◌≡◌ {A = List ℕ} (7 ∷ []) [] = r.0 in absurd cc

-- a command that was stopped by nobody
stopped_by_nobody : StopsAreTold 1 (accepted ++ answers_with [] ∷ []) → ⊥
unfolding field
stopped_by_nobody p = none_one (p.2.1.1 (refl, refl) refl)
  where
    none_one : ◌≡◌ {A = ℕ} 0 1 → ⊥
    none_one e = omega arith
