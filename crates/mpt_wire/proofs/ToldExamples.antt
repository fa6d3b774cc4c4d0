-- A target reset is told with the address for which it was asked, also where its handle is another disk's by then.
use Rattle.std.proofs.Common.{◌≡◌, ℕ, List, [], ◌∷◌, ◌++◌, Some, refl, replicate, arith}
use Rattle.mpi_layout.specs.Rows.{field}
use Rattle.mpi_rings.specs.declared.request_descriptor.PostKind.TheVariants as post
use Rattle.mpt_trace.specs.declared.lane.LaneName.TheVariants as lane
use Rattle.mpt_trace.specs.declared.item.Down.TheVariants as down
use Rattle.mpt_trace.specs.declared.item.Up.TheVariants as up
use Rattle.mpt_trace.specs.declared.item.Item.TheVariants as item
use Rattle.mpt_trace.specs.declared.outcome.TargetOutcome.TheVariants as target
use Rattle.mpt_trace.specs.declared.entry.Entry.{Entry}
use Rattle.mpt_trace.specs.declared.entry.Entry.TheVariants as entry
use Rattle.mpt_wire.specs.Messages.Fields.{address_descriptor, post_descriptor}
use Rattle.mpt_wire.specs.Messages.Told.{RepliesAreTold}

-- the page of handle 9, with the address
abbrev page_of : ℕ → List ℕ
page_of address = replicate 12 0 ++ address ∷ replicate 11 0 ++ 9 ∷ 0 ∷ replicate 30 0

abbrev is_ready : ℕ → List Entry
is_ready address =
    entry.Take lane.Up (item.Up (up.Reply (address_descriptor 265 0x00010000) (Some (replicate 128 0)) (page_of address) [])) ∷ entry.Ready address 9 ∷ []

-- a target reset of handle 9
abbrev asks_reset : Entry
asks_reset =
    entry.Put lane.Down (item.Down (down.Post (post_descriptor post.HighPriority 0 257 0) (9 ∷ 0 ∷ 0 ∷ 1 ∷ 0 ∷ 3 ∷ replicate 122 0) []))

-- its reply
abbrev takes_reply : Entry
takes_reply = entry.Take lane.Up (item.Up (up.Reply (address_descriptor 257 0x00010000) (Some (9 ∷ 0 ∷ 7 ∷ 1 ∷ 0 ∷ 3 ∷ replicate 122 0)) [] []))

-- the reset is put while the handle is disk 5's, and answered once it is disk 6's
abbrev answered_late : List Entry
answered_late = is_ready 5 ++ asks_reset ∷ is_ready 6 ++ takes_reply ∷ []

-- it is told of disk 5
told_of_the_first : RepliesAreTold (answered_late ++ entry.TargetEnd 5 (target.Done 0) ∷ [])
unfolding field
told_of_the_first = (tt, ((refl, refl), (tt, (tt, ((refl, refl), (tt, ((refl, refl), tt)))))))

-- and not of disk 6
told_of_the_second : RepliesAreTold (answered_late ++ entry.TargetEnd 6 (target.Done 0) ∷ []) → ⊥
unfolding field
told_of_the_second p = five_six p.1.1.1.1.1.1.0.0
  where
    five_six : ◌≡◌ {A = ℕ} 5 6 → ⊥
    five_six e = omega arith
