-- What holds of the machine of disks by its own steps.
use Rattle.std.specs.Prelude.{◌≡◌, ℕ, ◌≤◌, ◌||◌, Bool, true, false, Option, Some, is_some}
use Rattle.std.specs.FinMap as finmap
use Rattle.std.specs.FinSet as set
use Rattle.std.specs.Ordering.{nat_cmp}
use Rattle.scsi_disk.specs.declared.scsi_result.ScsiResult.{ScsiResult}
use Rattle.mpt_wire.specs.Machine.State.{Machine, MachineDisk, OpenRequest, plugs_of}
use Rattle.law_facts.specs.History.{History}

abbrev pub Requests : Type 0
Requests = finmap.FinMap nat_cmp OpenRequest

abbrev pub Numbers : Type 0
Numbers = set.FinSet nat_cmp

-- a plug that is ready, or was made so, was plugged
pub record PlugsFit (disks : ℕ → Option MachineDisk) (ready : ℕ → Option ℕ) (made : ℕ → ℕ) : Type 0 where
  pub made_fits : (address : ℕ) → made address ≤ plugs_of (disks address)
  pub ready_fits : (address plug : ℕ) → ready address ≡ Some plug → (1 ≤ plug) × (plug ≤ plugs_of (disks address))

-- a number that is open or answered
abbrev pub is_known : Requests → Numbers → ℕ → Bool
is_known requests closed n = is_some (finmap.get requests n) || set.contains closed n

-- a number that wasn't accepted hasn't run and has no abort, and none is both open and answered
pub record NumbersFit (requests : Requests) (closed : Numbers) (ran : ℕ → Bool) (aborts : Numbers) : Type 0 where
  pub unused : (n : ℕ) → is_known requests closed n ≡ false → ran n ≡ false
  pub named : (n : ℕ) → set.contains aborts n ≡ true → is_known requests closed n ≡ true
  pub apart : (n : ℕ) → is_some (finmap.get requests n) ≡ true → set.contains closed n ≡ false

-- of an open number
pub record RequestFits (disks : ℕ → Option MachineDisk) (outcome : ℕ → Option ScsiResult) (asked ran : ℕ → Bool) (aborts : Numbers) (resets : ℕ → ℕ) (n : ℕ) (r : OpenRequest) : Type 0 where
  pub least : 1 ≤ r.plug
  pub most : r.plug ≤ plugs_of (disks r.address)
  pub has_run : is_some (outcome n) ≡ ran n
  pub reset : 1 ≤ resets r.address → asked n ≡ true
  pub aborted : set.contains aborts n ≡ true → asked n ≡ true

abbrev pub EachRequestFits : Machine → Type 0
EachRequestFits m = (n : ℕ) (r : OpenRequest) → finmap.get m.requests n ≡ Some r → RequestFits m.disks m.outcome m.asked m.ran m.aborts m.resets n r

pub record MachineFits (m : Machine) : Type 0 where
  pub plugs : PlugsFit m.disks m.ready m.made
  pub numbers : NumbersFit m.requests m.closed m.ran m.aborts
  pub opened : EachRequestFits m

-- beside the facts: what is ready was plugged
abbrev pub ReadyWasPlugged : History → Type 0
ReadyWasPlugged h = (address plug : ℕ) → h.machine.ready address ≡ Some plug → (1 ≤ plug) × (plug ≤ plugs_of (h.machine.disks address))
