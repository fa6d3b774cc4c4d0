-- The machine of disks as code: how it stands for a machine, as far as a summary shows one.
use Rattle.std.specs.Prelude.{◌≡◌, ℕ, ◌≤◌, ◌==◌, if◌then◌else◌, List, [], ◌∷◌, ◌++◌, Option}
use Rattle.std.specs.Option.{option_map}
use Rattle.std.specs.Ordering.{nat_cmp}
use Rattle.std.specs.BTreeMap as tree
use Rattle.std.specs.BTreeMap.{BTreeMap, btree_map_len}
use Rattle.std.specs.FinMap as finmap
use Rattle.scsi_disk.specs.declared.command.Command.{Command}
use Rattle.mpt_trace.specs.declared.command_form.CommandForm.{CommandForm}
use Rattle.mpt_trace.specs.declared.disk_spec.DiskSpec.{DiskSpec}
use Rattle.mpt_trace.specs.Command.{command_named}
use Rattle.mpt_wire.specs.Machine.State.{Machine, MachineDisk, OpenRequest, disks_of}
use Rattle.mpt_wire.specs.Machine.Causes.{Call, Submit}
use Rattle.mpt_wire.specs.Machine.Steps.{granted}
use Rattle.mpt_wire.specs.Machine.Reports.{as_pair}
use Rattle.disk_machine.specs.declared.traced_disk.TracedDisk.{TracedDisk}
use Rattle.disk_machine.specs.declared.machine.DiskMachine.{DiskMachine}

-- a disk from 1 to 1,024 blocks
abbrev pub IsDiskSize : DiskSpec → Type 0
IsDiskSize d = (1 ≤ d.blocks) × (d.blocks ≤ 1024)

-- ---- what is seen of a disk: its bytes, and the expander and the phy where it is plugged

abbrev pub seen_traced : TracedDisk → List ℕ × Option (ℕ × ℕ)
seen_traced d = (d.disk.bytes, d.at)

abbrev pub seen_disk : MachineDisk → List ℕ × Option (ℕ × ℕ)
seen_disk d = (d.bytes, as_pair d.at)

-- the disks by address are those
abbrev pub HasDisks : BTreeMap ℕ TracedDisk → (ℕ → Option MachineDisk) → Type 0
HasDisks traced disks = (a : ℕ) → option_map seen_traced (tree.get nat_cmp traced a) ≡ option_map seen_disk (disks a)

-- it has the disks of one declaration more
abbrev pub AddsDisk : BTreeMap ℕ TracedDisk → BTreeMap ℕ TracedDisk → DiskSpec → Type 0
AddsDisk before now spec = (disks : List DiskSpec) → HasDisks before (disks_of disks) → HasDisks now (disks_of (disks ++ spec ∷ []))

abbrev pub command_in : OpenRequest → Command
command_in r = r.command

-- the open requests have those numbers and commands
abbrev pub HasRequests : BTreeMap ℕ CommandForm → finmap.FinMap nat_cmp OpenRequest → Type 0
HasRequests traced requests = (n : ℕ) → option_map command_named (tree.get nat_cmp traced n) ≡ option_map command_in (finmap.get requests n)

-- the disks are the same, but for that of the address, which is changed so
abbrev pub ChangesAt : DiskMachine → DiskMachine → ℕ → (TracedDisk → List ℕ × Option (ℕ × ℕ)) → Type 0
ChangesAt before now address change =
    ((a : ℕ) → option_map seen_traced (tree.get nat_cmp now.disks a) ≡ (if a == address then option_map change (tree.get nat_cmp before.disks a) else option_map seen_traced (tree.get nat_cmp before.disks a)))
    × (now.ready ≡ before.ready) × (now.mode ≡ before.mode) × (now.requests ≡ before.requests)

-- the code stands for the machine
pub record StandsFor (s : DiskMachine) (m : Machine) : Type 0 where
  pub disks : HasDisks s.disks m.disks
  pub ready : (a : ℕ) → tree.get nat_cmp s.ready a ≡ m.ready a
  pub mode : s.mode ≡ m.mode
  pub requests : HasRequests s.requests m.requests
  pub unanswered : btree_map_len s.requests ≡ finmap.len m.requests

-- whatever machine it stood for, it stands for what became of that
abbrev pub BecomesAs : DiskMachine → DiskMachine → (Machine → Machine) → Type 0
BecomesAs before now next = (m : Machine) → StandsFor before m → StandsFor now (next m)

-- what a call does as it is told: a submission waits for its accept
abbrev pub granted_as_told : Machine → Call → Machine
granted_as_told m (Submit n a command) = m
granted_as_told m call = granted m call
