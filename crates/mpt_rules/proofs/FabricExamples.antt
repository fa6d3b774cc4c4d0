-- The fabric at work, computed.
use Rattle.std.proofs.Common.{◌≡◌, ℕ, [], ◌∷◌, true, false, Some, None, replicate, refl}
use Rattle.std.specs.Option.{option_map}
use Rattle.scsi_disk.specs.Operation.{operation_of}
use Rattle.scsi_disk.specs.declared.command.Command.{Command}
use Rattle.mpt_trace.specs.Command.{command_named}
use Rattle.mpt_trace.specs.declared.command_form.CommandForm.TheVariants as form
use Rattle.mpt_trace.specs.declared.item.Out.TheVariants as out
use Rattle.mpt_trace.specs.declared.item.Back.TheVariants as back
use Rattle.mpt_rules.specs.Fabric.Parts.{Fabric, new_fabric}
use Rattle.mpt_rules.specs.Fabric.Disks.{places_from}
use Rattle.mpt_rules.specs.Fabric.Calls.{PlugRefusal, fabric_plugs, fabric_unplugs, takes_out, runs, announces, oldest}

abbrev A : ℕ
A = 0x5000c50000000001

abbrev B : ℕ
B = 0x5000c50000000002

-- two disks of a block each, and two expanders, of one phy and of two
abbrev made : Fabric
made = new_fabric (record { address = A; blocks = 1 } ∷ record { address = B; blocks = 1 } ∷ []) (1 ∷ 2 ∷ [])

-- both disks are plugged, the second in front of the first
abbrev plugged : Fabric
plugged = (fabric_plugs (fabric_plugs made A 1 1).part B 0 0).part

abbrev found : Fabric
found = takes_out plugged out.Discover

-- they are named by rising expander and phy
found_in_order : found.out ≡ back.Plugged B 1 0 0 ∷ back.Plugged A 1 1 1 ∷ back.Discovered ∷ []
unfolding places_from
found_in_order = refl

-- the causes of a refused plug, in their order
no_such_disk : (fabric_plugs plugged 7 5 5).answer ≡ Some PlugRefusal.NoSuchDisk
no_such_disk = refl

no_such_phy : (fabric_plugs plugged A 0 1).answer ≡ Some PlugRefusal.NoSuchPhy
no_such_phy = refl

no_such_expander : (fabric_plugs plugged A 2 0).answer ≡ Some PlugRefusal.NoSuchPhy
no_such_expander = refl

occupied : (fabric_plugs plugged A 1 1).answer ≡ Some PlugRefusal.Occupied
occupied = refl

already_plugged : (fabric_plugs plugged A 1 0).answer ≡ Some PlugRefusal.AlreadyPlugged
already_plugged = refl

plugs_spent : (fabric_plugs (record made { disks = record { address = A; bytes = []; at = None; plugs = 100000 } ∷ [] }) A 0 0).answer ≡ Some PlugRefusal.PlugsSpent
plugs_spent = refl

not_plugged : (fabric_unplugs made A).answer ≡ Some PlugRefusal.NotPlugged
not_plugged = refl

-- while the fabric is off, nobody is told of a plug
off_is_silent : plugged.notices ≡ []
off_is_silent = refl

tur : Command
tur = command_named form.Tur

-- the fabric with a task of each of these tags for the first disk, and then one for the second
abbrev with_tasks : Fabric
with_tasks = takes_out (takes_out (takes_out (takes_out plugged out.Discover) (out.Task 1 A tur)) (out.Task 2 A tur)) (out.Task 3 B tur)

-- the same, with nothing left to be put
abbrev busy : Fabric
busy = record with_tasks { out = [] }

oldest_first : oldest busy ≡ Some 1
unfolding places_from
oldest_first = refl

-- before it is found the fabric takes no task
off_has_no_tasks : (takes_out plugged (out.Task 1 A tur)).out ≡ back.Gone 1 ∷ []
off_has_no_tasks = refl

-- an unplugged disk's tasks are gone, those of others stay, and a notice is made
unplugged_with_tasks : (fabric_unplugs busy A).part ≡ record busy {
  disks = record { address = A; bytes = replicate 512 0; at = None; plugs = 1 } ∷ record { address = B; bytes = replicate 512 0; at = Some (record { expander = 0; phy = 0 }); plugs = 1 } ∷ [];
  tasks = record { tag = 3; address = B; command = tur } ∷ [];
  notices = back.Unplugged A 1 1 1 ∷ [];
  out = back.Gone 1 ∷ back.Gone 2 ∷ [];
}
unfolding places_from
unplugged_with_tasks = refl

-- a notice waits until it is said
said_when_asked : option_map (λ (f : Fabric). f.out) (announces (fabric_unplugs busy A).part) ≡ Some (back.Gone 1 ∷ back.Gone 2 ∷ back.Unplugged A 1 1 1 ∷ [])
unfolding places_from
said_when_asked = refl

abort_finds : (takes_out busy (out.Abort 257 2)).out ≡ back.Terminated 2 ∷ back.Aborted 257 true ∷ []
unfolding places_from
abort_finds = refl

abort_finds_nothing : (takes_out busy (out.Abort 257 4)).out ≡ back.Aborted 257 false ∷ []
unfolding places_from
abort_finds_nothing = refl

target_reset_clears : (takes_out busy (out.TargetReset 258 A)).out ≡ back.Terminated 1 ∷ back.Terminated 2 ∷ back.Cleared 258 2 ∷ []
unfolding places_from
target_reset_clears = refl

-- a link drops all but the word that nothing more comes
link_drops : takes_out (record busy { notices = back.Unplugged A 1 1 1 ∷ []; out = back.Gone 9 ∷ back.Calm ∷ [] }) (out.Link 5)
    ≡ record busy { on = false; tasks = []; notices = []; out = back.Calm ∷ back.Linked 5 ∷ [] }
unfolding places_from
link_drops = refl

-- no task of the tag is queued
runs_nothing : (runs busy 4).answer ≡ None
unfolding places_from
runs_nothing = refl

-- a write and a read of the same block
abbrev written : Fabric
written = (runs (takes_out found (out.Task 1 A (command_named (form.Write 0 1 0x11)))) 1).part

read_after_write : (runs (takes_out (record written { out = [] }) (out.Task 2 A (command_named (form.Read 0 1)))) 2).part.out
    ≡ back.Result 2 (record { status = 0; payload = replicate 512 0x11; sense = [] }) ∷ []
unfolding places_from operation_of
read_after_write = refl

-- the other disk has nothing of it
other_disk_stays : (runs (takes_out (record written { out = [] }) (out.Task 2 B (command_named (form.Read 0 1)))) 2).part.out
    ≡ back.Result 2 (record { status = 0; payload = replicate 512 0; sense = [] }) ∷ []
unfolding places_from operation_of
other_disk_stays = refl

out_of_range : (runs (takes_out (record found { out = [] }) (out.Task 2 B (command_named (form.Read 1 1)))) 2).part.out
    ≡ back.Result 2 (record { status = 2; payload = []; sense = 0x70 ∷ 0 ∷ 5 ∷ 0 ∷ 0 ∷ 0 ∷ 0 ∷ 10 ∷ 0 ∷ 0 ∷ 0 ∷ 0 ∷ 0x21 ∷ 0 ∷ 0 ∷ 0 ∷ 0 ∷ 0 ∷ [] }) ∷ []
unfolding places_from operation_of
out_of_range = refl
