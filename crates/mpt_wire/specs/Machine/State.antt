-- The machine of disks by SAS address and open requests: its state. It has no handle, identifier, frame, ring, lane or message.
use Rattle.std.specs.Prelude.{ℕ, ◌*◌, ◌==◌, ◌&&◌, ◌||◌, nat_lt, Bool, false, is_none, if◌then◌else◌, List, [], ◌∷◌, map, replicate, Option, Some, None}
use Rattle.std.specs.Ordering.{nat_cmp}
use Rattle.std.specs.FinMap as finmap
use Rattle.std.specs.FinSet as set
use Rattle.scsi_disk.specs.declared.command.Command.{Command}
use Rattle.scsi_disk.specs.declared.scsi_result.ScsiResult.{ScsiResult}
use Rattle.mpt_trace.specs.declared.disk_spec.DiskSpec.{DiskSpec}
use Rattle.mpt_trace.specs.declared.host_state.HostState.{HostState}
use Rattle.mpt_trace.specs.declared.host_state.HostState.TheVariants as state

-- the function with another value at one place
abbrev pub put_at : {X : Type 0} → ℕ → X → (ℕ → X) → ℕ → X
put_at k x f q = if q == k then x else f q

-- a phy of an expander
pub record Place : Type 0 where
  pub expander : ℕ
  pub phy : ℕ

-- a disk: its bytes, where it is plugged, and how often it was
pub record MachineDisk : Type 0 where
  pub bytes : List ℕ
  pub at : Option Place
  pub plugs : ℕ

-- an open request: the disk, the plug of it that was ready as the request was accepted, and the command
pub record OpenRequest : Type 0 where
  pub address : ℕ
  pub plug : ℕ
  pub command : Command

pub record Machine : Type 0 where
  -- the disks' addresses, in the order of their declaration, and the disks by address
  pub addresses : List ℕ
  pub disks : ℕ → Option MachineDisk
  pub mode : HostState
  -- by address: the number of the plug that is ready, and the greatest that was made ready since the last reset was done, or 0
  pub ready : ℕ → Option ℕ
  pub made : ℕ → ℕ
  -- by number
  pub requests : finmap.FinMap nat_cmp OpenRequest
  -- of open requests: what the disk answered, whether it may be terminated, and whether it runs no more
  pub outcome : ℕ → Option ScsiResult
  pub asked : ℕ → Bool
  pub spent : ℕ → Bool
  -- the numbers that were answered, those that have run, and those with an open abort
  pub closed : set.FinSet nat_cmp
  pub ran : ℕ → Bool
  pub aborts : set.FinSet nat_cmp
  -- the open target resets by address, and of all addresses together
  pub resets : ℕ → ℕ
  pub all_resets : ℕ
  -- how many departed disks the host has still to let go
  pub leaving : ℕ

-- where a disk is plugged; what is no disk is nowhere
abbrev pub place_of : Option MachineDisk → Option Place
place_of None = None
place_of (Some disk) = disk.at

-- how often a disk was plugged
abbrev pub plugs_of : Option MachineDisk → ℕ
plugs_of None = 0
plugs_of (Some disk) = disk.plugs

-- the plug of this number has ended: there was a later one, or it was the last and the disk is unplugged
abbrev pub has_ended : Option MachineDisk → ℕ → Bool
has_ended disk plug = nat_lt plug (plugs_of disk) || (plug == plugs_of disk && is_none (place_of disk))

-- a disk of zeros that isn't plugged
abbrev pub zero_disk : DiskSpec → MachineDisk
zero_disk d = record { bytes = replicate (512 * d.blocks) 0; at = None; plugs = 0 }

-- the disks by address
abbrev pub disks_of : List DiskSpec → ℕ → Option MachineDisk
disks_of [] a = None
disks_of (d ∷ disks) a = if a == d.address then Some (zero_disk d) else disks_of disks a

-- the machine at first
abbrev pub first_machine : List DiskSpec → Machine
first_machine disks =
    record {
      addresses = map (λ d. d.address) disks;
      disks = disks_of disks;
      mode = state.Off;
      ready = λ a. None;
      made = λ a. 0;
      requests = finmap.empty;
      outcome = λ n. None;
      asked = λ n. false;
      spent = λ n. false;
      closed = set.empty;
      ran = λ n. false;
      aborts = set.empty;
      resets = λ a. 0;
      all_resets = 0;
      leaving = 0;
    }
