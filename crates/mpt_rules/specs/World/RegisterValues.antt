-- The value of each register read: that of the controller's registers as the writes, the resets and the links that were
-- taken leave them.
use Rattle.std.specs.Prelude.{◌≡◌, ℕ, List, [], ◌∷◌, drop, slice_set}
use Rattle.mpt_trace.specs.declared.item.Item.TheVariants as item
use Rattle.mpt_trace.specs.declared.item.Down.{Down}
use Rattle.mpt_trace.specs.declared.item.Down.TheVariants as down
use Rattle.mpt_trace.specs.declared.item.Up.TheVariants as up
use Rattle.mpt_trace.specs.declared.item.Back.TheVariants as back
use Rattle.mpt_trace.specs.declared.lane.LaneName.TheVariants as lane
use Rattle.mpt_trace.specs.declared.entry.Entry.{Entry}
use Rattle.mpt_trace.specs.declared.entry.Entry.TheVariants as entry
use Rattle.mpt_wire.specs.Walks.Passes.{Passes}
use Rattle.mpt_rules.specs.declared.said.Said.{Said}
use Rattle.mpt_rules.specs.declared.said.Said.TheVariants as said
use Rattle.mpt_rules.specs.Ioc.Takes.{takes_back, takes_down}
use Rattle.mpt_rules.specs.Ioc.Parts.{Ioc, new_ioc}
use Rattle.mpt_rules.specs.Ioc.Replies.{outbox_of}

-- a controller to which nothing but register accesses and links come: they are done by the controller's rules, and the
-- values of its reads wait in its outbox
abbrev pub accessed : Ioc → Down → Ioc
accessed ioc (down.Write reg value) = (takes_down ioc (down.Write reg value)).part
accessed ioc (down.Read reg) = (takes_down ioc (down.Read reg)).part
accessed ioc _ = ioc

-- the first value was put
abbrev pub value_put : Ioc → Ioc
value_put ioc = record ioc { up = slice_set ioc.up 0 (drop 1 (outbox_of ioc 0)) }

abbrev pub registers_next : Ioc → Entry → Ioc
registers_next ioc (entry.Take lane.Down (item.Down i)) = accessed ioc i
registers_next ioc (entry.Take lane.Back (item.Back (back.Linked generation))) = (takes_back ioc (back.Linked generation)).part
registers_next ioc (entry.Put l (item.Up (up.Value value))) = value_put ioc
registers_next ioc _ = ioc

-- the value is the first that waits
abbrev pub IsValueOf : List Said → ℕ → Type 0
IsValueOf (said.Value waiting ∷ others) value = value ≡ waiting
IsValueOf _ value = ⊥

abbrev pub RegisterAsks : Ioc → Entry → Type 0
RegisterAsks ioc (entry.Put l (item.Up (up.Value value))) = IsValueOf (outbox_of ioc 0) value
RegisterAsks ioc _ = Unit {0}

-- each value is that of its register as the read was taken, with q reply queues
abbrev pub ValuesAreRegisters : ℕ → List Entry → Type 0
ValuesAreRegisters q t = Passes registers_next RegisterAsks (new_ioc [] q) t
