-- What else a trace ties together: examples that keep it, and examples that break it.
use Rattle.std.proofs.Common.{◌≡◌, ℕ, List, [], ◌∷◌, ◌++◌, true, false, Some, refl, replicate, arith, ap, get_or}
use Rattle.mpi_layout.specs.Rows.{field}
use Rattle.mpi_rings.specs.declared.request_descriptor.PostKind.TheVariants as post
use Rattle.mpt_trace.specs.declared.lane.LaneName.TheVariants as lane
use Rattle.mpt_trace.specs.declared.item.Down.TheVariants as down
use Rattle.mpt_trace.specs.declared.item.Up.TheVariants as up
use Rattle.mpt_trace.specs.declared.item.Out.TheVariants as out
use Rattle.mpt_trace.specs.declared.item.Item.TheVariants as item
use Rattle.mpt_trace.specs.declared.outcome.AbortOutcome.TheVariants as abort
use Rattle.mpt_trace.specs.declared.entry.Entry.{Entry}
use Rattle.mpt_trace.specs.declared.entry.Entry.TheVariants as entry
use Rattle.mpt_wire.specs.Messages.Registers.{IndicesInOrder, StatusIsRight, UnbindsAtResets}
use Rattle.mpt_wire.specs.Messages.Fields.{address_descriptor, changes_from, post_descriptor}
use Rattle.mpt_wire.specs.Queues.LeastPosts.{IdentifiersAreLeast, after_changes}
use Rattle.mpt_wire.specs.Machine.SoFar.{announced_after}
use Rattle.mpt_wire.specs.Messages.Told.{RepliesAreTold}

true_isnt : false ≡ true → ⊥
true_isnt e = absurd (cc)

-- ---- registers

abbrev resets_unit : Entry
resets_unit = entry.Take lane.Down (item.Down (down.Write 0x00 0x40000000))

unbinds : UnbindsAtResets (resets_unit ∷ entry.UnbindAll ∷ [])
unbinds = (refl, (refl, tt))

-- a reset that leaves the handles bound
unbinds_not : UnbindsAtResets (entry.Put lane.Down (item.Down (down.Write 0x00 0x40000000)) ∷ resets_unit ∷ entry.Put lane.Out (item.Out (out.Link 1)) ∷ []) → ⊥
unbinds_not p = true_isnt p.1.1.0

abbrev handshake : List Entry
handshake =
    entry.Take lane.Down (item.Down (down.Write 0x00 0x42030000)) ∷ entry.Take lane.Down (item.Down (down.Read 0x30)) ∷ entry.Put lane.Up (item.Up (up.Value 1))
    ∷ entry.Take lane.Down (item.Down (down.Write 0x30 0)) ∷ entry.Take lane.Down (item.Down (down.Read 0x30)) ∷ entry.Put lane.Up (item.Up (up.Value 0)) ∷ []

status_of_handshake : StatusIsRight handshake
status_of_handshake = (tt, (tt, (refl, (tt, (tt, (refl, tt))))))

-- a return with the index of the one before
returned_twice : IndicesInOrder (entry.Put lane.Down (item.Down (down.Return 0x00010000 1)) ∷ entry.Put lane.Down (item.Down (down.Return 0x00010080 1)) ∷ []) → ⊥
returned_twice p = one_two p.1.0
  where
    one_two : ◌≡◌ {A = ℕ} 1 2 → ⊥
    one_two e = omega arith

-- a status that rings where no handshake is
rings_early : StatusIsRight (entry.Take lane.Down (item.Down (down.Read 0x30)) ∷ entry.Put lane.Up (item.Up (up.Value 1)) ∷ []) → ⊥
rings_early p = one_none p.1.0
  where
    one_none : ◌≡◌ {A = ℕ} 1 0 → ⊥
    one_none e = omega arith

-- ---- what the host tells

-- the page of handle 9, with the address 5
abbrev page_9 : List ℕ
page_9 = replicate 12 0 ++ 5 ∷ replicate 11 0 ++ 9 ∷ 0 ∷ replicate 30 0

abbrev takes_page : Entry
takes_page = entry.Take lane.Up (item.Up (up.Reply (address_descriptor 265 0x00010000) (Some (replicate 128 0)) page_9 []))

page_is_told : RepliesAreTold (takes_page ∷ entry.Ready 5 9 ∷ [])
unfolding field
page_is_told = (tt, ((refl, refl), tt))

-- another handle than the page's
other_handle : RepliesAreTold (takes_page ∷ entry.Ready 5 10 ∷ []) → ⊥
unfolding field
other_handle p = nine_ten p.1.0.1
  where
    nine_ten : ◌≡◌ {A = ℕ} 9 10 → ⊥
    nine_ten e = omega arith

-- an abort of the command with identifier 1, and its reply, which says that nothing was stopped
abbrev abort_asked : List Entry
abort_asked =
    entry.Accept 1 5 1
    ∷ entry.Put lane.Down (item.Down (down.Post (post_descriptor post.HighPriority 0 257 0) (9 ∷ 0 ∷ 0 ∷ 1 ∷ 0 ∷ 1 ∷ replicate 42 0 ++ 1 ∷ replicate 79 0) []))
    ∷ entry.Take lane.Up (item.Up (up.Reply (address_descriptor 257 0x00010000) (Some (9 ∷ 0 ∷ 7 ∷ 1 ∷ replicate 124 0)) [] [])) ∷ []

abort_is_told : RepliesAreTold (abort_asked ++ entry.AbortEnd 1 abort.NotFound ∷ [])
unfolding field
abort_is_told = (tt, (tt, (tt, ((refl, refl), tt))))

-- an abort that is told as stopped, and stopped nothing
told_as_stopped : RepliesAreTold (abort_asked ++ entry.AbortEnd 1 abort.Stopped ∷ []) → ⊥
unfolding field
told_as_stopped p = let e : abort.Stopped ≡ abort.NotFound = p.1.1.1.0.1 in absurd (cc)

-- ---- identifiers of the host's posts

-- the event that a disk was added, with the handle 9
abbrev added_event : List ℕ
added_event = 4 ∷ 0 ∷ 11 ∷ 7 ∷ replicate 16 0 ++ 0x1c ∷ 0 ∷ replicate 14 0 ++ 1 ∷ 0 ∷ 0 ∷ 0 ∷ 9 ∷ 0 ∷ 0 ∷ 1 ∷ replicate 84 0

abbrev takes_event : Entry
takes_event = entry.Take lane.Up (item.Up (up.Reply (address_descriptor 0 0x00010000) (Some added_event) [] []))

-- an acknowledgement, whose function is 8, and the reading of a page, whose function is 4
abbrev puts_default : ℕ → ℕ → Entry
puts_default function smid = entry.Put lane.Down (item.Down (down.Post (post_descriptor post.Default 0 smid 0) (0 ∷ 0 ∷ 0 ∷ function ∷ replicate 124 0) []))

acknowledged_first : IdentifiersAreLeast (takes_event ∷ puts_default 8 265 ∷ puts_default 4 266 ∷ [])
unfolding after_changes changes_from announced_after field
acknowledged_first = (tt, ((266 ∷ [], refl), (([], refl), tt)))

first_of_two : (rest : List ℕ) → ◌≡◌ {A = List ℕ} (265 ∷ 266 ∷ []) (266 ∷ rest) → ⊥
first_of_two rest e = one_off (ap (λ (xs : List ℕ). get_or xs 0 0) e)
  where
    one_off : ◌≡◌ {A = ℕ} 265 266 → ⊥
    one_off e = omega arith

-- the second identifier before the first
second_first : IdentifiersAreLeast (takes_event ∷ puts_default 8 266 ∷ []) → ⊥
unfolding after_changes changes_from announced_after field
second_first p = first_of_two p.1.0.0 p.1.0.1
