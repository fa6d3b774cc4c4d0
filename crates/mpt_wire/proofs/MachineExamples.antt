-- The machine of disks: one call for each cause of a refusal, and steps that aren't allowed.
use Rattle.std.proofs.Common.{◌≡◌, ℕ, ◌+◌, true, false, [], ◌∷◌, replicate, Some, None, refl, arith}
use Rattle.std.specs.Ordering.{nat_cmp}
use Rattle.std.specs.Cmp.{nat_cmp_total}
use Rattle.std.specs.FinMap as finmap
use Rattle.std.specs.FinSet as set
use Rattle.scsi_disk.specs.Operation.{operation_of}
use Rattle.scsi_disk.specs.Performed.{good}
use Rattle.scsi_disk.specs.declared.command.Command.{Command}
use Rattle.mpt_trace.specs.declared.command_form.CommandForm.TheVariants as form
use Rattle.mpt_trace.specs.declared.outcome.Outcome.TheVariants as outcome
use Rattle.mpt_trace.specs.declared.outcome.AbortOutcome.TheVariants as abort
use Rattle.mpt_trace.specs.declared.refusal.Refusal.TheVariants as refusal
use Rattle.mpt_trace.specs.Command.{command_named}
use Rattle.mpt_wire.specs.Machine.State.{Machine, OpenRequest, Place, first_machine}
use Rattle.mpt_wire.specs.Machine.Causes as calls
use Rattle.mpt_wire.specs.Machine.Causes.{first_cause, most_plugs}
use Rattle.mpt_wire.specs.Machine.Steps.{Grants, Refuses, Runs, Answers, EndsAbort, GetsReady, IsLost, EndsReset, Allowed, IsRunFrom, after}
use Rattle.mpt_wire.proofs.MachineFacts.{none_parked, parked-answered}
use Rattle.mpt_wire.proofs.WireExamples.{disks, ready_machine, busy_machine, done_machine, it_is_there}

abbrev tur : Command
tur = command_named form.Tur

abbrev off_machine : Machine
off_machine = first_machine disks

abbrev resetting_machine : Machine
resetting_machine = after ready_machine (Grants calls.Reset)

abbrev at_phy : ℕ → Place
at_phy phy = record { expander = 0; phy = phy }

nothing_open : (n : ℕ) → finmap.get (finmap.empty {X = OpenRequest} {R = nat_cmp}) n ≡ None
nothing_open n = finmap.get-empty nat_cmp n

nothing_in : (n : ℕ) → set.contains (set.empty {R = nat_cmp}) n ≡ false
nothing_in n = set.contains-empty nat_cmp n

-- ---- the causes

already_started : first_cause ready_machine calls.Start ≡ Some refusal.AlreadyStarted
already_started = refl

not_started : first_cause off_machine calls.Reset ≡ Some refusal.NotStarted
not_started = refl

already_resetting : first_cause resetting_machine calls.Reset ≡ Some refusal.AlreadyResetting
already_resetting = refl

unit_reset_not_operational : first_cause resetting_machine calls.UnitReset ≡ Some refusal.NotOperational
unit_reset_not_operational = refl

-- the number of an open request, also where the controller isn't operational
number_used : first_cause (after busy_machine (Grants calls.Reset)) (calls.Submit 1 5 tur) ≡ Some refusal.NumberUsed
number_used = rw (it_is_there) refl

-- the number of an answered one
number_used_before : first_cause (record ready_machine { closed = set.insert set.empty 1 }) (calls.Submit 1 5 tur) ≡ Some refusal.NumberUsed
number_used_before = rw (nothing_open 1, set.contains-insert nat_cmp_total set.empty 1 1) refl

submit_not_operational : first_cause off_machine (calls.Submit 1 5 tur) ≡ Some refusal.NotOperational
submit_not_operational = rw (nothing_open 1, nothing_in 1) refl

no_device : first_cause ready_machine (calls.Submit 1 6 tur) ≡ Some refusal.NoDevice
no_device = rw (nothing_open 1, nothing_in 1) refl

-- a length that the CDB doesn't name
bad_length : first_cause ready_machine (calls.Submit 1 5 (record { lun = 0; cdb = replicate 6 0; len = 5; payload = [] })) ≡ Some refusal.BadLength
unfolding operation_of
bad_length = rw (nothing_open 1, nothing_in 1) refl

-- 256 open requests
no_identifier : (requests : finmap.FinMap nat_cmp OpenRequest) → finmap.len requests ≡ 256 → finmap.get requests 999 ≡ None → first_cause (record ready_machine { requests = requests }) (calls.Submit 999 5 tur) ≡ Some refusal.NoIdentifier
unfolding operation_of
no_identifier requests many unused = rw (unused, nothing_in 999, many, none_parked set.empty, set.len-empty nat_cmp) refl

abort_not_operational : first_cause off_machine (calls.Abort 1) ≡ Some refusal.NotOperational
abort_not_operational = refl

not_open : first_cause ready_machine (calls.Abort 1) ≡ Some refusal.NotOpen
not_open = rw (nothing_open 1) refl

abort_open : first_cause (after busy_machine (Grants (calls.Abort 1))) (calls.Abort 1) ≡ Some refusal.AbortOpen
abort_open = rw (it_is_there, set.contains-insert nat_cmp_total set.empty 1 1) refl

-- eight high priority requests, target resets and departures together
abort_no_identifier : first_cause (record busy_machine { all_resets = 5; leaving = 3 }) (calls.Abort 1) ≡ Some refusal.NoIdentifier
abort_no_identifier = rw (it_is_there, nothing_in 1, set.len-empty nat_cmp) refl

target_reset_not_operational : first_cause resetting_machine (calls.TargetReset 5) ≡ Some refusal.NotOperational
target_reset_not_operational = refl

target_reset_no_device : first_cause ready_machine (calls.TargetReset 7) ≡ Some refusal.NoDevice
target_reset_no_device = refl

target_reset_no_identifier : first_cause (record ready_machine { leaving = 8 }) (calls.TargetReset 5) ≡ Some refusal.NoIdentifier
target_reset_no_identifier = rw (set.len-empty nat_cmp) refl

-- the disk itself is at the phy: occupied comes first
occupied : first_cause ready_machine (calls.Plug 5 (at_phy 3)) ≡ Some refusal.Occupied
occupied = refl

already_plugged : first_cause ready_machine (calls.Plug 5 (at_phy 4)) ≡ Some refusal.AlreadyPlugged
already_plugged = refl

plugs_spent : first_cause (record off_machine { disks = λ a. Some (record { bytes = []; at = None; plugs = most_plugs }) }) (calls.Plug 5 (at_phy 3)) ≡ Some refusal.PlugsSpent
plugs_spent = refl

not_plugged : first_cause off_machine (calls.Unplug 5) ≡ Some refusal.NotPlugged
not_plugged = refl

-- ---- steps that aren't allowed

-- a refusal with another cause than the first
another_cause : Allowed off_machine (Refuses (calls.Abort 1) refusal.NotOpen) → ⊥
another_cause h = absurd (cc)

-- a request runs at another disk than its own
runs_elsewhere : Allowed busy_machine (Runs 1 6) → ⊥
runs_elsewhere h = let e : ◌≡◌ {A = ℕ} 5 6 = (rw (it_is_there) at h).0 in absurd (omega arith)

-- a request runs twice
runs_twice : Allowed done_machine (Runs 1 5) → ⊥
unfolding operation_of
runs_twice h = let e : Some (good []) ≡ None = (rw (it_is_there) at h).1 in absurd (cc)

-- a request runs at a disk that isn't plugged
runs_unplugged : Allowed (after busy_machine (Grants (calls.Unplug 5))) (Runs 1 5) → ⊥
runs_unplugged h = let e : false ≡ true = (rw (it_is_there) at h).3 in absurd (cc)

-- a request is called done and didn't run
done_unrun : Allowed busy_machine (Answers 1 (outcome.Done (good []))) → ⊥
done_unrun h = let e : None ≡ Some (good []) = rw (it_is_there) at h in absurd (cc)

-- a request is called gone, and its disk is plugged
gone_unended : Allowed busy_machine (Answers 1 outcome.Gone) → ⊥
gone_unended h = let e : false ≡ true = (rw (it_is_there) at h).1 in absurd (cc)

-- a request is called terminated, and nobody asked for it
terminated_unasked : Allowed busy_machine (Answers 1 outcome.Terminated) → ⊥
terminated_unasked h = let e : false ≡ true = (rw (it_is_there) at h).1 in absurd (cc)

-- what isn't open is answered
answered_unopened : Allowed ready_machine (Answers 1 outcome.Reset) → ⊥
answered_unopened h = rw (nothing_open 1) at h

-- an abort is called stopped, and its command has run
stopped_run : Allowed (record done_machine { aborts = set.insert set.empty 1 }) (EndsAbort 1 abort.Stopped) → ⊥
stopped_run h = let e : true ≡ false = h.1 in absurd (cc)

-- a plug is made ready again
ready_twice : Allowed ready_machine (GetsReady 5 1) → ⊥
ready_twice h = absurd (omega arith)

-- a disk is lost that is plugged
lost_plugged : Allowed ready_machine (IsLost 5) → ⊥
lost_plugged h = let e : false ≡ true = h in absurd (cc)

-- a reset is called done, and a target reset is open
done_early : Allowed (after (after ready_machine (Grants (calls.TargetReset 5))) (Grants calls.Reset)) EndsReset → ⊥
done_early h = let e : ◌≡◌ {A = ℕ} 1 0 = h.3 5 in absurd (omega arith)

-- ---- steps that are

-- a reset that answers the open request
a_reset : IsRunFrom busy_machine (Grants calls.Reset ∷ Answers 1 outcome.Reset ∷ EndsReset ∷ [])
a_reset = ((refl, tt), (rw (it_is_there) refl, ((refl, grind (arith, finmap.gets), set.len-empty nat_cmp, λ a. refl), tt)))

-- an abort that stops its command
abbrev aborting_machine : Machine
aborting_machine = after busy_machine (Grants (calls.Abort 1))

an_abort_is_granted : Allowed busy_machine (Grants (calls.Abort 1))
an_abort_is_granted = (rw (it_is_there, nothing_in 1, set.len-empty nat_cmp) refl, tt)

an_abort : IsRunFrom aborting_machine (Answers 1 outcome.Terminated ∷ EndsAbort 1 abort.Stopped ∷ [])
an_abort = (rw (it_is_there) (refl, refl), ((set.contains-insert nat_cmp_total set.empty 1 1, refl), tt))

-- until it has ended, the answered command counts among the identifiers in use
counts_still : finmap.len (after aborting_machine (Answers 1 outcome.Terminated)).requests + set.len (set.intersection (after aborting_machine (Answers 1 outcome.Terminated)).aborts (after aborting_machine (Answers 1 outcome.Terminated)).closed) ≡ 1
counts_still =
    rw (parked-answered (set.insert set.empty 1) set.empty 1 (set.contains-insert nat_cmp_total set.empty 1 1), none_parked (set.insert set.empty 1)) (grind (arith, finmap.gets, set.members))
