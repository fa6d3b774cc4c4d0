-- How the parties and their lanes make the whole.
use Rattle.std.specs.Prelude.{◌≡◌, ◌++◌, List, [], length}
use Rattle.mpt_trace.specs.declared.entry.Entry.{Entry}
use Rattle.mpt_rules.specs.World.State.{World}
use Rattle.mpt_system.specs.declared.parties.Parties.{Parties}
use Rattle.mpt_system.specs.Whole.{Whole}

-- the world of the parties and their lanes
abbrev pub world_of : Parties → World
world_of p =
    record {
      host = p.host.host;
      ioc = p.ioc.part;
      fabric = p.fabric;
      down = p.down.items;
      up = p.up;
      out = p.out.items;
      back = p.back.items;
    }

-- what the host and the controller told, and is in no trace yet
abbrev pub pending_of : Parties → List Entry
pending_of p = p.host.told ++ p.ioc.told

abbrev pub whole_of : Parties → Whole
whole_of p = record { world = world_of p; entries = p.trace.entries ++ pending_of p; pending = pending_of p }

-- nothing is pending
pub record IsWritten (p : Parties) : Type 0 where
  pub host : p.host.told ≡ []
  pub ioc : p.ioc.told ≡ []

-- the host has as many reply queues as there are lanes up
abbrev pub HasLanes : World → Type 0
HasLanes w = length w.host.indices ≡ length w.up
