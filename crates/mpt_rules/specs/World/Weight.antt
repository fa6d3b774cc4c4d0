-- The weight of a world: how much there is to do until it is quiet.
use Rattle.std.specs.Prelude.{ℕ, ◌+◌, ◌*◌, Bool, true, false, not, List, length, count_by, sum_by, is_some}
use Rattle.std.specs.FinMap as map
use Rattle.smid_pool.specs.Pool.{Slot, Open}
use Rattle.removal.specs.declared.phase.Phase.{Phase}
use Rattle.removal.specs.declared.phase.Phase.TheVariants as phase
use Rattle.mpt_trace.specs.declared.host_state.HostState.{HostState}
use Rattle.mpt_trace.specs.declared.host_state.HostState.TheVariants as state
use Rattle.mpt_trace.specs.declared.item.Down.{Down}
use Rattle.mpt_trace.specs.declared.item.Down.TheVariants as down
use Rattle.mpt_trace.specs.declared.item.Up.{Up}
use Rattle.mpt_trace.specs.declared.item.Up.TheVariants as up
use Rattle.mpt_rules.specs.declared.binding.Binding.{Binding}
use Rattle.mpt_rules.specs.declared.binding.Binding.TheVariants as binding
use Rattle.mpt_rules.specs.declared.request.Request.{Request}
use Rattle.mpt_rules.specs.declared.request.Request.TheVariants as request
use Rattle.mpt_rules.specs.declared.said.Said.{Said}
use Rattle.mpt_rules.specs.declared.said.Said.TheVariants as said
use Rattle.mpt_rules.specs.Fabric.Parts.{FabricDisk}
use Rattle.mpt_rules.specs.Host.Parts.{Host}
use Rattle.mpt_rules.specs.Ioc.Parts.{Ioc}
use Rattle.mpt_rules.specs.Fabric.Parts.{Fabric}
use Rattle.mpt_rules.specs.World.State.{World}

-- ---- what is open

-- the submissions that aren't answered
abbrev pub open_commands : Host → ℕ
open_commands host = map.len host.cmds

-- the aborts that aren't answered
abbrev pub open_aborts : Host → ℕ
open_aborts host = map.len host.aborts

-- the identifier is open for a target reset that was asked from outside
abbrev pub is_target_reset_slot : Slot Request → Bool
is_target_reset_slot (Open (request.TargetReset address)) = true
is_target_reset_slot _ = false

-- how many such target resets are open
abbrev pub open_target_resets : Host → ℕ
open_target_resets host = count_by is_target_reset_slot host.pool

-- ---- items in lanes and outboxes, other than reads and their values

-- the item reads a register
abbrev pub is_read : Down → Bool
is_read (down.Read reg) = true
is_read _ = false

-- the items that go down, but reads
abbrev pub down_items : List Down → ℕ
down_items items = count_by (λ item. not (is_read item)) items

-- the item is the value of a read
abbrev pub is_value : Up → Bool
is_value (up.Value value) = true
is_value _ = false

-- the items on a lane up, but values
abbrev pub up_items : List Up → ℕ
up_items items = count_by (λ item. not (is_value item)) items

-- the item to be put is the value of a read
abbrev pub is_said_value : Said → Bool
is_said_value (said.Value value) = true
is_said_value _ = false

-- the items of an up outbox, but values
abbrev pub said_items : List Said → ℕ
said_items items = count_by (λ item. not (is_said_value item)) items

-- the items in all outboxes and on all lanes, but reads and values
abbrev pub items_under_way : World → ℕ
items_under_way w =
    down_items w.host.out + down_items w.down + sum_by said_items w.ioc.up + sum_by up_items w.up
    + length w.ioc.out + length w.out + length w.fabric.out + length w.back

-- ---- what the parties have to do

-- the posts that aren't processed yet
abbrev pub queued_posts : Ioc → ℕ
queued_posts ioc = length ioc.high + length ioc.normal

-- the tasks that didn't run yet
abbrev pub queued_tasks : Fabric → ℕ
queued_tasks fabric = length fabric.tasks

-- the plugs and unplugs that aren't announced yet
abbrev pub open_notices : Fabric → ℕ
open_notices fabric = length fabric.notices

-- the host's posts that wait for an identifier
abbrev pub waiting_posts : Host → ℕ
waiting_posts host = length host.wait_high + length host.wait_internal

-- the handle is neither absent nor ready
abbrev pub is_under_way : Phase → Bool
is_under_way phase.Absent = false
is_under_way (phase.Ready address) = false
is_under_way _ = true

-- the handles that the host neither has as ready nor as absent
abbrev pub handles_under_way : Host → ℕ
handles_under_way host = count_by is_under_way host.phases

-- the handle's disk was unplugged
abbrev pub is_gone_binding : Binding → Bool
is_gone_binding (binding.Gone address) = true
is_gone_binding _ = false

-- the handles whose disk was unplugged
abbrev pub gone_bindings : Ioc → ℕ
gone_bindings ioc = count_by is_gone_binding ioc.bindings

-- the plugged disks that wait for a handle
abbrev pub waiting_addresses : Ioc → ℕ
waiting_addresses ioc = length ioc.waiting

-- the requests that are at the fabric, or wait for what is there
abbrev pub pending_requests : Ioc → ℕ
pending_requests ioc = count_by is_some ioc.requests + length ioc.held

-- ---- a start and a reset

-- the disk is plugged
abbrev pub is_plugged_disk : FabricDisk → Bool
is_plugged_disk disk = is_some disk.at

-- how many disks are plugged
abbrev pub plugged_disks : Fabric → ℕ
plugged_disks fabric = count_by is_plugged_disk fabric.disks

-- the plugged disks are found anew by a start, and so after a reset
abbrev pub disks_to_find : HostState → Fabric → ℕ
disks_to_find state.Off fabric = 0
disks_to_find state.Starting fabric = plugged_disks fabric
disks_to_find state.Up fabric = 0
disks_to_find state.Resetting fabric = plugged_disks fabric

-- what a start and a reset weigh
abbrev pub weight_of_state : HostState → ℕ
weight_of_state state.Off = 0
weight_of_state state.Starting = 2000
weight_of_state state.Up = 0
weight_of_state state.Resetting = 8000

-- all that there is to do
abbrev pub things_to_do : World → ℕ
things_to_do w =
    open_commands w.host + open_aborts w.host + open_target_resets w.host + items_under_way w
    + queued_posts w.ioc + queued_tasks w.fabric + open_notices w.fabric + waiting_posts w.host
    + handles_under_way w.host + gone_bindings w.ioc + waiting_addresses w.ioc + pending_requests w.ioc
    + disks_to_find w.host.mode w.fabric

-- the weight of a world: 100 for each thing, and what its start or reset weighs
abbrev pub weight : World → ℕ
weight w = 100 * things_to_do w + weight_of_state w.host.mode
