-- A trace whose entries the machine allows, one after another, shows a run of it, and no other does.
use Rattle.std.proofs.Common.{List, [], ◌∷◌, ◌++◌}
use Rattle.mpt_trace.specs.declared.disk_spec.DiskSpec.{DiskSpec}
use Rattle.mpt_trace.specs.declared.entry.Entry.{Entry}
use Rattle.mpt_wire.specs.Machine.State.{Machine}
use Rattle.mpt_wire.specs.Machine.Steps.{Step, IsRunFrom, after, after_all}
use Rattle.mpt_wire.specs.Machine.View.{Seen, SeenAsks, seen_next, steps_of, view_from, first_seen, ViewIsRun}
use Rattle.mpt_wire.specs.Walks.Ahead.{PassesAhead, next_own}

pub run_append : (m : Machine) (xs ys : List Step) → IsRunFrom m xs → IsRunFrom (after_all m xs) ys → IsRunFrom m (xs ++ ys)
run_append m [] ys a b = b
run_append m (x ∷ xs) ys a b = (a.0, run_append (after m x) xs ys a.1 b)

pub run_first : (m : Machine) (xs ys : List Step) → IsRunFrom m (xs ++ ys) → IsRunFrom m xs
run_first m [] ys a = tt
run_first m (x ∷ xs) ys a = (a.0, run_first (after m x) xs ys a.1)

pub run_rest : (m : Machine) (xs ys : List Step) → IsRunFrom m (xs ++ ys) → IsRunFrom (after_all m xs) ys
run_rest m [] ys a = a
run_rest m (x ∷ xs) ys a = run_rest (after m x) xs ys a.1

pub run_from_passes : (g : Seen) (t : List Entry) → PassesAhead seen_next SeenAsks g t → IsRunFrom g.machine (view_from g.so_far t)
run_from_passes g [] p = tt
run_from_passes g (e ∷ t) p = run_append g.machine (steps_of g.so_far e (next_own e t)) _ p.0 (run_from_passes (seen_next g e (next_own e t)) t p.1)

pub passes_from_run : (g : Seen) (t : List Entry) → IsRunFrom g.machine (view_from g.so_far t) → PassesAhead seen_next SeenAsks g t
passes_from_run g [] r = tt
passes_from_run g (e ∷ t) r =
    let xs = steps_of g.so_far e (next_own e t) in
    (run_first g.machine xs _ r, passes_from_run (seen_next g e (next_own e t)) t (run_rest g.machine xs _ r))

pub view_is_run : (disks : List DiskSpec) (t : List Entry) → PassesAhead seen_next SeenAsks (first_seen disks) t → ViewIsRun disks t
view_is_run disks t p = run_from_passes (first_seen disks) t p

pub view_passes : (disks : List DiskSpec) (t : List Entry) → ViewIsRun disks t → PassesAhead seen_next SeenAsks (first_seen disks) t
view_passes disks t r = passes_from_run (first_seen disks) t r
