-- The world: the three parties, and the lanes between them.
use Rattle.std.specs.Prelude.{ℕ, zero, suc, List, [], ◌∷◌, length, replicate, slice_index_or, slice_set}
use Rattle.mpt_trace.specs.declared.disk_spec.DiskSpec.{DiskSpec}
use Rattle.mpt_trace.specs.declared.entry.Entry.{Entry}
use Rattle.mpt_trace.specs.declared.item.Down.{Down}
use Rattle.mpt_trace.specs.declared.item.Up.{Up}
use Rattle.mpt_trace.specs.declared.item.Out.{Out}
use Rattle.mpt_trace.specs.declared.item.Back.{Back}
use Rattle.mpt_trace.specs.declared.lane.LaneName.{LaneName}
use Rattle.mpt_trace.specs.declared.lane.LaneName.TheVariants as lane
use Rattle.mpt_rules.specs.Host.Parts.{Host, new_host}
use Rattle.mpt_rules.specs.Ioc.Parts.{Ioc, new_ioc}
use Rattle.mpt_rules.specs.Fabric.Parts.{Fabric, new_fabric}
use Rattle.mpt_rules.specs.Outcome.{Happening}

-- the parties, and what was put on each lane and not taken
pub record World : Type 0 where
  pub host : Host
  pub ioc : Ioc
  pub fabric : Fabric
  -- what was put on each lane and not taken, the next first; the lanes up by reply queue
  pub down : List Down
  pub up : List (List Up)
  pub out : List Out
  pub back : List Back

-- the world as it is made, with these disks, expanders and q reply queues
abbrev pub fresh : List DiskSpec → List ℕ → ℕ → World
fresh disks phys q =
    record {
      host = new_host q;
      ioc = new_ioc phys q;
      fabric = new_fabric disks phys;
      down = [];
      up = replicate q [];
      out = [];
      back = [];
    }

-- the number of reply queues
abbrev pub queues_of : World → ℕ
queues_of w = length w.up

-- the name of the lane up of a reply queue
abbrev pub up_lane : ℕ → LaneName
up_lane zero = lane.Up
up_lane (suc queue) = lane.UpOn (suc queue)

-- what is on the lane up of a reply queue: nothing where there is no such queue
abbrev pub up_on : World → ℕ → List Up
up_on w queue = slice_index_or w.up queue []

-- the world with this on the lane up of a reply queue
abbrev pub with_up : World → ℕ → List Up → World
with_up w queue items = record w { up = slice_set w.up queue items }

-- the world goes on as it is, and nothing is entered
abbrev pub nothing : World → Happening World
nothing w = record { part = w; entries = [] }

-- the world goes on like this, and one thing is entered
abbrev pub enters : World → Entry → Happening World
enters w e = record { part = w; entries = e ∷ [] }
