-- The machine of disks by SAS address and open requests: its steps, when each is allowed, and what it changes. No other pairs of states are steps.
use Rattle.std.specs.Prelude.{◌≡◌, ℕ, ◌+◌, ◌-◌, ◌<◌, ◌≤◌, ◌==◌, Bool, true, false, nat_lt, IsTrue, is_some, if◌then◌else◌, List, [], ◌∷◌, Option, Some, None}
use Rattle.std.specs.FinMap as finmap
use Rattle.std.specs.FinSet as set
use Rattle.scsi_disk.specs.declared.command.Command.{Command}
use Rattle.scsi_disk.specs.Performed as disk
use Rattle.scsi_disk.specs.Performed.{performed}
use Rattle.mpt_trace.specs.declared.disk_spec.DiskSpec.{DiskSpec}
use Rattle.mpt_trace.specs.declared.host_state.HostState.TheVariants as state
use Rattle.mpt_trace.specs.declared.outcome.Outcome.{Outcome}
use Rattle.mpt_trace.specs.declared.outcome.Outcome.TheVariants as outcome
use Rattle.mpt_trace.specs.declared.outcome.AbortOutcome.{AbortOutcome}
use Rattle.mpt_trace.specs.declared.outcome.AbortOutcome.TheVariants as abort
use Rattle.mpt_trace.specs.declared.outcome.TargetOutcome.{TargetOutcome}
use Rattle.mpt_trace.specs.declared.outcome.TargetOutcome.TheVariants as target
use Rattle.mpt_trace.specs.declared.refusal.Refusal.{Refusal}
use Rattle.mpt_wire.specs.Machine.State.{Machine, MachineDisk, OpenRequest, Place, first_machine, has_ended, place_of, plugs_of, put_at}
use Rattle.mpt_wire.specs.Machine.Causes.{Call, Start, Submit, Abort, TargetReset, Reset, UnitReset, Plug, Unplug, first_cause}

pub data Step : Type 0 where
  -- a call is granted, or refused with a cause
  Grants : (call : Call) → Step
  Refuses : (call : Call) (cause : Refusal) → Step
  -- the host has brought the controller up
  GetsUp : Step
  -- the request runs at the disk of the address
  Runs : (number address : ℕ) → Step
  Answers : (number : ℕ) (how : Outcome) → Step
  EndsAbort : (number : ℕ) (how : AbortOutcome) → Step
  EndsTargetReset : (address : ℕ) (how : TargetOutcome) → Step
  -- the host calls a plug of the disk ready, and the disk lost
  GetsReady : (address plug : ℕ) → Step
  IsLost : (address : ℕ) → Step
  -- the host begins to let a departed disk go, and has reset it
  Leaves : Step
  HasLeft : Step
  EndsReset : Step
  -- what no machine does: entries of a trace that say no step
  Fails : Step

-- ---- when a step is allowed

-- what is plugged is a disk
abbrev pub NamesADisk : Machine → Call → Type 0
NamesADisk m (Plug a place) = IsTrue (is_some (m.disks a))
NamesADisk m _ = Unit {0}

-- the request n may run at the address: it is open there, isn't done, isn't spent, and the disk is plugged
abbrev pub MayRun : Machine → ℕ → ℕ → Option OpenRequest → Type 0
MayRun m n a None = ⊥
MayRun m n a (Some r) = (r.address ≡ a) × (m.outcome n ≡ None) × (m.spent n ≡ false) × IsTrue (is_some (place_of (m.disks a)))

-- the request n may be answered so
abbrev pub MayAnswer : Machine → ℕ → Option OpenRequest → Outcome → Type 0
MayAnswer m n None how = ⊥
MayAnswer m n (Some r) (outcome.Done result) = m.outcome n ≡ Some result
MayAnswer m n (Some r) outcome.Gone = (m.outcome n ≡ None) × IsTrue (has_ended (m.disks r.address) r.plug)
MayAnswer m n (Some r) outcome.Terminated = (m.outcome n ≡ None) × IsTrue (m.asked n)
MayAnswer m n (Some r) outcome.Reset = m.mode ≡ state.Resetting

-- an abort of n may end so
abbrev pub MayEndAbort : Machine → ℕ → AbortOutcome → Type 0
MayEndAbort m n abort.Stopped = m.ran n ≡ false
MayEndAbort m n abort.NotFound = Unit {0}
MayEndAbort m n abort.Reset = m.mode ≡ state.Resetting

-- a target reset may end so
abbrev pub MayEndTargetReset : Machine → TargetOutcome → Type 0
MayEndTargetReset m (target.Done count) = Unit {0}
MayEndTargetReset m target.Reset = m.mode ≡ state.Resetting

-- the plug that was ready has ended
abbrev pub MayLose : Option MachineDisk → Option ℕ → Type 0
MayLose d None = ⊥
MayLose d (Some plug) = IsTrue (has_ended d plug)

-- what the step asks of the machine
abbrev pub Allowed : Machine → Step → Type 0
Allowed m (Grants call) = (first_cause m call ≡ None) × NamesADisk m call
Allowed m (Refuses call cause) = first_cause m call ≡ Some cause
Allowed m GetsUp = m.mode ≡ state.Starting
Allowed m (Runs n a) = MayRun m n a (finmap.get m.requests n)
Allowed m (Answers n how) = MayAnswer m n (finmap.get m.requests n) how
Allowed m (EndsAbort n how) = IsTrue (set.contains m.aborts n) × MayEndAbort m n how
Allowed m (EndsTargetReset a how) = (0 < m.resets a) × MayEndTargetReset m how
Allowed m (GetsReady a plug) = (1 ≤ plug) × (plug ≤ plugs_of (m.disks a)) × (m.made a < plug)
Allowed m (IsLost a) = MayLose (m.disks a) (m.ready a)
Allowed m Leaves = Unit {0}
Allowed m HasLeft = 0 < m.leaving
Allowed m EndsReset = (m.mode ≡ state.Resetting) × (finmap.len m.requests ≡ 0) × (set.len m.aborts ≡ 0) × ((a : ℕ) → m.resets a ≡ 0)
Allowed m Fails = ⊥

-- ---- the machine after a step

-- the request opens for the plug that is ready; it may be terminated where a target reset of its disk is open
abbrev pub accepted : Machine → ℕ → ℕ → Command → Option ℕ → Machine
accepted m n a command None = m
accepted m n a command (Some plug) =
    record m {
      requests = finmap.insert m.requests n (record { address = a; plug = plug; command = command });
      outcome = put_at n None m.outcome;
      asked = put_at n (nat_lt 0 (m.resets a)) m.asked;
      spent = put_at n false m.spent;
    }

-- each open request of the address may be terminated from now on
abbrev pub asked_at : ℕ → Option OpenRequest → Bool → Bool
asked_at a None before = before
asked_at a (Some r) before = if r.address == a then true else before

-- the disk plugged at the place, and unplugged
abbrev pub with_plug : Place → Option MachineDisk → Option MachineDisk
with_plug place None = None
with_plug place (Some d) = Some (record d { at = Some place; plugs = d.plugs + 1 })

abbrev pub without_plug : Option MachineDisk → Option MachineDisk
without_plug None = None
without_plug (Some d) = Some (record d { at = None })

abbrev pub granted : Machine → Call → Machine
granted m Start = record m { mode = state.Starting }
granted m (Submit n a command) = accepted m n a command (m.ready a)
granted m (Abort n) = record m { aborts = set.insert m.aborts n; asked = put_at n true m.asked }
granted m (TargetReset a) =
    record m {
      resets = put_at a (m.resets a + 1) m.resets;
      all_resets = m.all_resets + 1;
      asked = λ n. asked_at a (finmap.get m.requests n) (m.asked n);
    }
granted m Reset = record m { mode = state.Resetting }
granted m UnitReset = record m { mode = state.Resetting }
granted m (Plug a place) = record m { disks = put_at a (with_plug place (m.disks a)) m.disks }
granted m (Unplug a) = record m { disks = put_at a (without_plug (m.disks a)) m.disks }

-- the disk has the bytes, and the request n the result
abbrev pub after_run : Machine → ℕ → ℕ → MachineDisk → disk.Outcome → Machine
after_run m n a d o =
    record m {
      disks = put_at a (Some (record d { bytes = o.bytes })) m.disks;
      outcome = put_at n (Some o.result) m.outcome;
      ran = put_at n true m.ran;
    }

abbrev pub run_at : Machine → ℕ → ℕ → Option OpenRequest → Option MachineDisk → Machine
run_at m n a None d = m
run_at m n a (Some r) None = m
run_at m n a (Some r) (Some d) = after_run m n a d (performed d.bytes r.command)

-- the abort is over; unless a reset ended it, its command runs no more
abbrev pub after_abort_end : Machine → ℕ → AbortOutcome → Machine
after_abort_end m n abort.Stopped = record m { aborts = set.remove m.aborts n; spent = put_at n true m.spent }
after_abort_end m n abort.NotFound = record m { aborts = set.remove m.aborts n; spent = put_at n true m.spent }
after_abort_end m n abort.Reset = record m { aborts = set.remove m.aborts n }

abbrev pub after : Machine → Step → Machine
after m (Grants call) = granted m call
after m (Refuses call cause) = m
after m GetsUp = record m { mode = state.Up }
after m (Runs n a) = run_at m n a (finmap.get m.requests n) (m.disks a)
after m (Answers n how) = record m { requests = finmap.remove m.requests n; closed = set.insert m.closed n }
after m (EndsAbort n how) = after_abort_end m n how
after m (EndsTargetReset a how) = record m { resets = put_at a (m.resets a - 1) m.resets; all_resets = m.all_resets - 1 }
after m (GetsReady a plug) = record m { ready = put_at a (Some plug) m.ready; made = put_at a plug m.made }
after m (IsLost a) = record m { ready = put_at a None m.ready }
after m Leaves = record m { leaving = m.leaving + 1 }
after m HasLeft = record m { leaving = m.leaving - 1 }
after m EndsReset = record m { mode = state.Starting; ready = λ a. None; made = λ a. 0; leaving = 0 }
after m Fails = m

-- the machine after a list of steps
abbrev pub after_all : Machine → List Step → Machine
after_all m [] = m
after_all m (step ∷ steps) = after_all (after m step) steps

-- each step is allowed in the state that the one before leaves
abbrev pub IsRunFrom : Machine → List Step → Type 0
IsRunFrom m [] = Unit {0}
IsRunFrom m (step ∷ steps) = Allowed m step × IsRunFrom (after m step) steps

-- a run of the machine with these disks
abbrev pub IsRun : List DiskSpec → List Step → Type 0
IsRun disks steps = IsRunFrom (first_machine disks) steps
