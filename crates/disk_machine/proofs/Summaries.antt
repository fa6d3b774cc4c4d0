-- What the code shows of a machine that it stands for is what a summary shows.
use Rattle.std.proofs.Common.{◌≡◌, ℕ, List, [], ◌∷◌, Option, Some, None, count_by, map, refl, sym, ap, ◌∙◌}
use Rattle.std.specs.Option.{is_some, option_map}
use Rattle.std.specs.Ordering.{nat_cmp}
use Rattle.std.specs.BTreeMap as tree
use Rattle.std.specs.FinMap as finmap
use Rattle.smid_pool.proofs.Lists.{count_by-map}
use Rattle.scsi_disk.specs.declared.command.Command.{Command}
use Rattle.mpt_trace.specs.declared.disk_spec.DiskSpec.{DiskSpec}
use Rattle.mpt_trace.specs.declared.entry.Entry.{Entry}
use Rattle.mpt_trace.specs.declared.outcome.AbortOutcome.TheVariants as abort
use Rattle.mpt_wire.specs.Machine.Causes as calls
use Rattle.mpt_wire.specs.Machine.Causes.{Call}
use Rattle.mpt_wire.specs.Machine.Reports.{as_pair, last_machine, line_of, machine_bytes_of, ready_disks}
use Rattle.mpt_wire.specs.Machine.State.{Machine, MachineDisk, OpenRequest, first_machine, place_of}
use Rattle.mpt_wire.specs.Machine.Steps as steps
use Rattle.mpt_wire.specs.Machine.Steps.{Step, accepted, after, after_all, granted, run_at}
use Rattle.mpt_wire.specs.Machine.View.{view}
use Rattle.disk_machine.specs.declared.machine.DiskMachine.{DiskMachine}
use Rattle.disk_machine.specs.declared.traced_disk.TracedDisk.{TracedDisk}
use Rattle.disk_machine.specs.Machine.{StandsFor, seen_disk, seen_traced}
use Rattle.disk_machine.specs.Summary.{place_in, ready_among, traced_bytes_of, traced_line}

-- ---- the addresses stay as they were declared

addresses-accepted : (m : Machine) (n a : ℕ) (command : Command) (plug : Option ℕ) → (accepted m n a command plug).addresses ≡ m.addresses
addresses-accepted m n a command None = refl
addresses-accepted m n a command (Some plug) = refl

addresses-granted : (m : Machine) (call : Call) → (granted m call).addresses ≡ m.addresses
addresses-granted m calls.Start = refl
addresses-granted m (calls.Submit n a command) = addresses-accepted m n a command (m.ready a)
addresses-granted m (calls.Abort n) = refl
addresses-granted m (calls.TargetReset a) = refl
addresses-granted m calls.Reset = refl
addresses-granted m calls.UnitReset = refl
addresses-granted m (calls.Plug a place) = refl
addresses-granted m (calls.Unplug a) = refl

addresses-run_at : (m : Machine) (n a : ℕ) (r : Option OpenRequest) (d : Option MachineDisk) → (run_at m n a r d).addresses ≡ m.addresses
addresses-run_at m n a None d = refl
addresses-run_at m n a (Some r) None = refl
addresses-run_at m n a (Some r) (Some d) = refl

addresses-after : (m : Machine) (step : Step) → (after m step).addresses ≡ m.addresses
addresses-after m (steps.Grants call) = addresses-granted m call
addresses-after m (steps.Refuses call cause) = refl
addresses-after m steps.GetsUp = refl
addresses-after m (steps.Runs n a) = addresses-run_at m n a (finmap.get m.requests n) (m.disks a)
addresses-after m (steps.Answers n how) = refl
addresses-after m (steps.EndsAbort n abort.Stopped) = refl
addresses-after m (steps.EndsAbort n abort.NotFound) = refl
addresses-after m (steps.EndsAbort n abort.Reset) = refl
addresses-after m (steps.EndsTargetReset a how) = refl
addresses-after m (steps.GetsReady a plug) = refl
addresses-after m (steps.IsLost a) = refl
addresses-after m steps.Leaves = refl
addresses-after m steps.HasLeft = refl
addresses-after m steps.EndsReset = refl
addresses-after m steps.Fails = refl

addresses-after_all : (m : Machine) (run : List Step) → (after_all m run).addresses ≡ m.addresses
addresses-after_all m [] = refl
addresses-after_all m (step ∷ run) = addresses-after_all (after m step) run ∙ addresses-after m step

addresses-last : (disks : List DiskSpec) (t : List Entry) → (last_machine disks t).addresses ≡ map (λ (d : DiskSpec). d.address) disks
addresses-last disks t = addresses-after_all (first_machine disks) (view t)

-- ---- the disks

abbrev second_in : Option (List ℕ × Option (ℕ × ℕ)) → Option (ℕ × ℕ)
second_in None = None
second_in (Some seen) = seen.1

abbrev first_in : Option (List ℕ × Option (ℕ × ℕ)) → List ℕ
first_in None = []
first_in (Some seen) = seen.0

same_place : (o : Option TracedDisk) (d : Option MachineDisk) → option_map seen_traced o ≡ option_map seen_disk d → place_in o ≡ as_pair (place_of d)
same_place None None is = refl
same_place None (Some d) is = cc
same_place (Some o) None is = cc
same_place (Some o) (Some d) is = ap second_in is

same_bytes : (o : Option TracedDisk) (d : Option MachineDisk) → option_map seen_traced o ≡ option_map seen_disk d → traced_bytes_of o ≡ machine_bytes_of d
same_bytes None None is = refl
same_bytes None (Some d) is = cc
same_bytes (Some o) None is = cc
same_bytes (Some o) (Some d) is = ap first_in is

same_line : (s : DiskMachine) (m : Machine) (a : ℕ) → StandsFor s m → traced_line s a ≡ line_of m a
same_line s m a stands =
    rw (same_place (tree.get nat_cmp s.disks a) (m.disks a) (stands.disks a), same_bytes (tree.get nat_cmp s.disks a) (m.disks a) (stands.disks a)) refl

lines_along : (s : DiskMachine) (m : Machine) (disks : List DiskSpec) → StandsFor s m → map (λ (d : DiskSpec). traced_line s d.address) disks ≡ map (line_of m) (map (λ (d : DiskSpec). d.address) disks)
lines_along s m [] stands = refl
lines_along s m (d ∷ disks) stands = rw (same_line s m d.address stands, lines_along s m disks stands) refl

-- the lines of the disks as declared
pub lines_agree : (s : DiskMachine) (disks : List DiskSpec) (t : List Entry) → StandsFor s (last_machine disks t) → map (λ (d : DiskSpec). traced_line s d.address) disks ≡ map (line_of (last_machine disks t)) (last_machine disks t).addresses
lines_agree s disks t stands = lines_along s (last_machine disks t) disks stands ∙ ap (map (line_of (last_machine disks t))) (sym (addresses-last disks t))

ready_along : (s : DiskMachine) (m : Machine) (disks : List DiskSpec) → StandsFor s m → ready_among s disks ≡ count_by (λ a. is_some (m.ready a)) (map (λ (d : DiskSpec). d.address) disks)
ready_along s m disks stands =
    sym (count_by-map (λ a. is_some (m.ready a)) (λ (d : DiskSpec). is_some (tree.get nat_cmp s.ready d.address)) (λ (d : DiskSpec). d.address) (λ d. ap is_some (sym (stands.ready d.address))) disks)

-- how many are ready
pub ready_agree : (s : DiskMachine) (disks : List DiskSpec) (t : List Entry) → StandsFor s (last_machine disks t) → ready_among s disks ≡ ready_disks (last_machine disks t)
ready_agree s disks t stands = ready_along s (last_machine disks t) disks stands ∙ ap (count_by (λ a. is_some ((last_machine disks t).ready a))) (sym (addresses-last disks t))
