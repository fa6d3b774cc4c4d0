-- Indices and reply frames in their order, and out of it.
use Rattle.std.proofs.Common.{◌≡◌, ℕ, ◌==◌, false, [], ◌∷◌, Some, refl, ap, arith, get_or}
use Rattle.std.proofs.lemmas.Grind.{common_steps}
use Rattle.mpt_trace.specs.declared.lane.LaneName.TheVariants as lane
use Rattle.mpt_trace.specs.declared.item.Item.TheVariants as item
use Rattle.mpt_trace.specs.declared.item.Down.TheVariants as down
use Rattle.mpt_trace.specs.declared.item.Up.TheVariants as up
use Rattle.mpt_trace.specs.declared.entry.Entry.{Entry}
use Rattle.mpt_trace.specs.declared.entry.Entry.TheVariants as entry
use Rattle.mpt_wire.specs.Messages.Fields.{address_descriptor}
use Rattle.mpt_wire.specs.Messages.Registers.{FramesInOrder, IndicesInOrder}

indices_rise : IndicesInOrder (entry.Put lane.Down (item.Down (down.Return 0x00010000 1)) ∷ entry.Put lane.Down (item.Down (down.Return 0x00010080 2)) ∷ [])
indices_rise = (refl, (refl, tt))

abbrev returns : ℕ → Entry
returns a = entry.Take lane.Down (item.Down (down.Return a 0))

abbrev replies_in : ℕ → Entry
replies_in a = entry.Put lane.Up (item.Up (up.Reply (address_descriptor 265 a) (Some []) [] []))

first_frame : FramesInOrder (returns 0x00010000 ∷ returns 0x00010080 ∷ replies_in 0x00010000 ∷ [])
first_frame = (tt, (tt, ((0x00010080 ∷ [], refl), tt)))

apart : (a b : ℕ) → (a == b) ≡ false → a ≡ b → ⊥
apart a b n e = grind (arith, common_steps)

-- a reply in the frame that was returned second
second_frame : FramesInOrder (returns 0x00010000 ∷ returns 0x00010080 ∷ replies_in 0x00010080 ∷ []) → ⊥
second_frame p = apart 0x00010000 0x00010080 refl (ap (λ xs. get_or xs 0 0) p.1.1.0.1)
