-- A write to the Doorbell that isn't a dword of a message has nothing in its low 16 bits.
use Rattle.std.specs.Prelude.{◌≡◌, ◌%◌, ◌^◌, ◌==◌, ◌&&◌, List}
use Rattle.std.specs.Bool.{MatchBool}
use Rattle.mpi_doorbell.specs.declared.registers.TheConstants.{DOORBELL}
use Rattle.mpt_trace.specs.declared.item.Item.TheVariants as item
use Rattle.mpt_trace.specs.declared.item.Down.TheVariants as down
use Rattle.mpt_trace.specs.declared.entry.Entry.{Entry}
use Rattle.mpt_trace.specs.declared.entry.Entry.TheVariants as entry
use Rattle.mpt_wire.specs.Messages.DoorbellWords.{Door, door_next, is_over, quiet_door}
use Rattle.mpt_wire.specs.Walks.Passes.{Passes}

-- it opens a handshake, or resets the message unit
abbrev pub OpeningAsks : Door → Entry → Type 0
OpeningAsks g (entry.Put lane (item.Down (down.Write reg value))) = MatchBool (reg == DOORBELL && is_over g.talk) (value % 2 ^ 16 ≡ 0) (Unit {0})
OpeningAsks g _ = Unit {0}

abbrev pub OpeningsAreBare : List Entry → Type 0
OpeningsAreBare t = Passes door_next OpeningAsks quiet_door t
