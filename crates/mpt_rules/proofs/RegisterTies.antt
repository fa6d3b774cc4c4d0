-- Values that are those of the registers, and ones that aren't.
use Rattle.std.proofs.Common.{◌≡◌, ℕ, ◌==◌, false, List, [], ◌∷◌, ◌++◌, refl, arith}
use Rattle.std.proofs.lemmas.Grind.{common_steps}
use Rattle.mpt_trace.specs.declared.lane.LaneName.TheVariants as lane
use Rattle.mpt_trace.specs.declared.item.Item.TheVariants as item
use Rattle.mpt_trace.specs.declared.item.Down.{Down}
use Rattle.mpt_trace.specs.declared.item.Down.TheVariants as down
use Rattle.mpt_trace.specs.declared.item.Up.TheVariants as up
use Rattle.mpt_trace.specs.declared.item.Back.TheVariants as back
use Rattle.mpt_trace.specs.declared.entry.Entry.{Entry}
use Rattle.mpt_trace.specs.declared.entry.Entry.TheVariants as entry
use Rattle.mpt_rules.specs.World.RegisterValues.{ValuesAreRegisters}

apart : (a b : ℕ) → (a == b) ≡ false → a ≡ b → ⊥
apart a b n e = grind (arith, common_steps)

abbrev takes : Down → Entry
takes i = entry.Take lane.Down (item.Down i)

abbrev reads : ℕ → ℕ → List Entry
reads reg value = takes (down.Read reg) ∷ entry.Put lane.Up (item.Up (up.Value value)) ∷ []

-- the Doorbell of a controller that is READY
ready : ValuesAreRegisters 1 (reads 0x00 0x1000_0000)
ready = (tt, (refl, tt))

-- and in a message unit's reset, until its link
reset : ValuesAreRegisters 1 (takes (down.Write 0x00 0x4000_0000) ∷ reads 0x00 0 ++ entry.Take lane.Back (item.Back (back.Linked 1)) ∷ reads 0x00 0x1000_0000)
reset = (tt, (tt, (refl, (tt, (tt, (refl, tt))))))

-- one that reads as OPERATIONAL, though no IOC Init was taken
operational_early : ValuesAreRegisters 1 (entry.Put lane.Down (item.Down (down.Read 0x00)) ∷ reads 0x00 0x2000_0000) → ⊥
operational_early p = apart 0x2000_0000 0x1000_0000 refl p.1.1.0

-- one that is linked by another reset's link
linked_early : ValuesAreRegisters 1 (takes (down.Write 0x00 0x4000_0000) ∷ entry.Take lane.Back (item.Back (back.Linked 2)) ∷ reads 0x00 0x1000_0000) → ⊥
linked_early p = apart 0x1000_0000 0 refl p.1.1.1.0
