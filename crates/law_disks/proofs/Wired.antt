-- The disks' addresses and the phys stay as they were declared, over every case.
use Rattle.std.proofs.Common.{◌≡◌, ℕ, ◌==◌, Bool, true, false, if◌then◌else◌, List, [], ◌∷◌, ◌++◌, map, Option, Some, None, refl, ap, ap₂, sym, ◌∙◌}
use Rattle.std.specs.List.{filter, find}
use Rattle.mpt_wire.specs.Machine.Causes as calls
use Rattle.mpt_wire.specs.Machine.State.{Machine, MachineDisk, OpenRequest, Place}
use Rattle.mpt_wire.specs.Machine.Steps.{Step, Answers, EndsAbort, EndsReset, EndsTargetReset, Fails, GetsReady, GetsUp, Grants, HasLeft, IsLost, Leaves, Refuses, Runs, accepted, after, after_abort_end, after_all, run_at}
use Rattle.mpt_wire.specs.Machine.View.{Seen, seen_next, steps_of}
use Rattle.mpt_wire.specs.Walks.Ahead.{next_own, state_ahead}
use Rattle.scsi_disk.specs.declared.command.Command.{Command}
use Rattle.mpt_trace.specs.declared.entry.Entry.{Entry}
use Rattle.mpt_trace.specs.declared.outcome.AbortOutcome.{AbortOutcome}
use Rattle.mpt_trace.specs.declared.outcome.AbortOutcome.TheVariants as abort
use Rattle.mpt_trace.specs.declared.item.Out.{Out}
use Rattle.mpt_trace.specs.declared.item.Out.TheVariants as out
use Rattle.mpt_trace.specs.declared.item.Back.{Back}
use Rattle.mpt_rules.specs.declared.task.Task.{Task}
use Rattle.mpt_rules.specs.Fabric.Calls as fab
use Rattle.mpt_rules.specs.Fabric.Disks.{changed_if, disk_of, with_disk}
use Rattle.mpt_rules.specs.Fabric.Parts.{Fabric, FabricDisk}
use Rattle.mpt_rules.specs.Fabric.Tasks as tasks
use Rattle.mpt_rules.specs.Ioc.Parts.{Ioc}
use Rattle.mpt_rules.specs.Law.{NothingIsStrange}
use Rattle.mpt_rules.specs.World.Cases.{Case, entries, happens}
use Rattle.mpt_rules.specs.World.State.{World}
use Rattle.law_facts.specs.Disks.{SameDisks}
use Rattle.law_facts.specs.Facts.{Facts}
use Rattle.law_facts.specs.History.{History, history_after}
use Rattle.law_machine.proofs.Inputs.{seen}
use Rattle.law_moves.proofs.Cases.{Owes, kept}
use Rattle.law_disks.proofs.Phys.{back_phys, down_phys, post_phys}

-- ---- the machine

abbrev Same : Machine → Machine → Type 0
Same m o = o.addresses ≡ m.addresses

ran : (m : Machine) (n a : ℕ) (r : Option OpenRequest) (d : Option MachineDisk) → Same m (run_at m n a r d)
ran m n a None d = refl
ran m n a (Some r) None = refl
ran m n a (Some r) (Some d) = refl

opened : (m : Machine) (n a : ℕ) (c : Command) (o : Option ℕ) → Same m (accepted m n a c o)
opened m n a c None = refl
opened m n a c (Some plug) = refl

ended : (m : Machine) (n : ℕ) (how : AbortOutcome) → Same m (after_abort_end m n how)
ended m n abort.Stopped = refl
ended m n abort.NotFound = refl
ended m n abort.Reset = refl

step_same : (m : Machine) (x : Step) → Same m (after m x)
step_same m (Grants calls.Start) = refl
step_same m (Grants (calls.Submit n a command)) = opened m n a command (m.ready a)
step_same m (Grants (calls.Abort n)) = refl
step_same m (Grants (calls.TargetReset a)) = refl
step_same m (Grants calls.Reset) = refl
step_same m (Grants calls.UnitReset) = refl
step_same m (Grants (calls.Plug a place)) = refl
step_same m (Grants (calls.Unplug a)) = refl
step_same m (Refuses call cause) = refl
step_same m GetsUp = refl
step_same m (Runs n a) = ran m n a (Rattle.std.specs.FinMap.get m.requests n) (m.disks a)
step_same m (Answers n how) = refl
step_same m (EndsAbort n how) = ended m n how
step_same m (EndsTargetReset a how) = refl
step_same m (GetsReady a plug) = refl
step_same m (IsLost a) = refl
step_same m Leaves = refl
step_same m HasLeft = refl
step_same m EndsReset = refl
step_same m Fails = refl

steps_same : (m : Machine) (xs : List Step) → Same m (after_all m xs)
steps_same m [] = refl
steps_same m (x ∷ xs) = steps_same (after m x) xs ∙ step_same m x

addresses_same : (g : Seen) (t : List Entry) → Same g.machine (state_ahead seen_next g t []).machine
addresses_same g [] = refl
addresses_same g (e ∷ t) = addresses_same (seen_next g e (next_own e (t ++ []))) t ∙ steps_same g.machine (steps_of g.so_far e (next_own e (t ++ [])))

-- ---- the fabric

abbrev addresses_of : List FabricDisk → List ℕ
addresses_of ds = map (λ (d : FabricDisk). d.address) ds

with_same : (a : ℕ) (f : FabricDisk → FabricDisk) → ((d : FabricDisk) → (f d).address ≡ d.address) → (ds : List FabricDisk) → addresses_of (with_disk a f ds) ≡ addresses_of ds
with_same a f h [] = refl
with_same a f h (d ∷ ds) = ap₂ (λ x xs. x ∷ xs) (by_test (d.address == a)) (with_same a f h ds)
  where
    by_test : (b : Bool) → (if b then f d else d).address ≡ d.address
    by_test true = h d
    by_test false = refl

-- addresses and phys
pub record Wired (addresses phys : List ℕ) (w : World) : Type 0 where
  pub disks : addresses_of w.fabric.disks ≡ addresses
  pub fabric_phys : w.fabric.phys ≡ phys
  pub ioc_phys : w.ioc.phys ≡ phys

record As (f g : Fabric) : Type 0 where
  disks : addresses_of g.disks ≡ addresses_of f.disks
  phys : g.phys ≡ f.phys

as_is : (f g : Fabric) → g.disks ≡ f.disks → g.phys ≡ f.phys → As f g
as_is f g d p = record { disks = ap addresses_of d; phys = p }

taken : (f : Fabric) (x : Out) → As f (fab.takes_out f x)
taken f (out.Task tag address command) = by_test (tasks.may_queue f tag address)
  where
    by_test : (b : Bool) → As f (tasks.with_task_taken_if b f tag address command)
    by_test true = as_is f (tasks.with_task_taken_if true f tag address command) refl refl
    by_test false = as_is f (tasks.with_task_taken_if false f tag address command) refl refl
taken f (out.Abort smid task) = by_test (tasks.is_queued f task)
  where
    by_test : (b : Bool) → As f (tasks.after_abort_if b f smid task)
    by_test true = as_is f (tasks.after_abort_if true f smid task) refl refl
    by_test false = as_is f (tasks.after_abort_if false f smid task) refl refl
taken f (out.TargetReset smid address) = as_is f (fab.takes_out f (out.TargetReset smid address)) refl refl
taken f out.Discover = as_is f (fab.takes_out f out.Discover) refl refl
taken f (out.Link generation) = as_is f (fab.takes_out f (out.Link generation)) refl refl
taken f out.Stop = as_is f f refl refl

noticed : (b : Bool) (n : Back) (f g : Fabric) → As f g → As f (fab.with_notice b n g)
noticed true n f g h = record { disks = h.disks; phys = h.phys }
noticed false n f g h = h

plugged : (f : Fabric) (address expander phy : ℕ) → As f (fab.fabric_plugs f address expander phy).part
plugged f address expander phy = by_disk (disk_of f address)
  where
    by_cause : (d : FabricDisk) (o : Option fab.PlugRefusal) → As f (fab.plugs_unless o f d (record { expander = expander; phy = phy })).part
    by_cause d (Some cause) = as_is f f refl refl
    by_cause d None =
        let place : Place = record { expander = expander; phy = phy } in
        noticed f.on (Rattle.mpt_rules.specs.Fabric.Disks.plugged_news (fab.plugged_once_more place d) place) f (record f { disks = with_disk d.address (fab.plugged_once_more place) f.disks })
        (record { disks = with_same d.address (fab.plugged_once_more place) (λ y. refl) f.disks; phys = refl })

    by_disk : (o : Option FabricDisk) → As f (fab.plugs_disk o f expander phy).part
    by_disk None = as_is f f refl refl
    by_disk (Some d) = by_cause d (fab.plug_refusal f d expander phy)

unplugged : (f : Fabric) (address : ℕ) → As f (fab.fabric_unplugs f address).part
unplugged f address = by_disk (disk_of f address)
  where
    by_place : (o : Option Place) (d : FabricDisk) → As f (fab.fabric_unplugs_from o f d).part
    by_place None d = as_is f f refl refl
    by_place (Some p) d =
        let out_of_place : FabricDisk → FabricDisk = λ (old : FabricDisk). record old { at = None } in
        let g : Fabric = tasks.told_also (record f { disks = with_disk d.address out_of_place f.disks; tasks = tasks.tasks_for_others d.address f.tasks }) (map tasks.gone (tasks.tasks_for d.address f.tasks)) in
        noticed f.on (Rattle.mpt_rules.specs.Fabric.Disks.unplugged_news d p) f g (record { disks = with_same d.address out_of_place (λ y. refl) f.disks; phys = refl })

    by_disk : (o : Option FabricDisk) → As f (fab.unplugs_disk o f).part
    by_disk None = as_is f f refl refl
    by_disk (Some d) = by_place d.at d

run : (f : Fabric) (tag : ℕ) → As f (fab.runs f tag).part
run f tag = by_task (find (tasks.has_tag tag) f.tasks)
  where
    by_task : (o : Option Task) → As f (tasks.runs_task f o).part
    by_task None = as_is f f refl refl
    by_task (Some t) =
        let bytes = (tasks.performed_at f t.address t.command).bytes in
        record { disks = with_same t.address (λ (disk : FabricDisk). record disk { bytes = bytes }) (λ y. refl) f.disks; phys = refl }

-- ---- every case

module _ (addresses phys : List ℕ) (w : World) (z : Wired addresses phys w) where
  by_fabric : (g : Fabric) → As w.fabric g → Wired addresses phys (record w { fabric = g })
  by_fabric g h = record { disks = h.disks ∙ z.disks; fabric_phys = h.phys ∙ z.fabric_phys; ioc_phys = z.ioc_phys }

  by_ioc : (i : Ioc) → i.phys ≡ phys → Wired addresses phys (record w { ioc = i })
  by_ioc i h = record { disks = z.disks; fabric_phys = z.fabric_phys; ioc_phys = h }

  as_before : Wired addresses phys w
  as_before = z

  owed : Owes (Wired addresses phys) w
  owed =
      record {
        host_puts = λ x rest e. record { disks = z.disks; fabric_phys = z.fabric_phys; ioc_phys = z.ioc_phys };
        host_takes = λ queue x rest e s. record { disks = z.disks; fabric_phys = z.fabric_phys; ioc_phys = z.ioc_phys };
        host_told = λ i k. record { disks = z.disks; fabric_phys = z.fabric_phys; ioc_phys = z.ioc_phys };
        host_looks = λ e. record { disks = z.disks; fabric_phys = z.fabric_phys; ioc_phys = z.ioc_phys };
        host_stops = λ e. record { disks = z.disks; fabric_phys = z.fabric_phys; ioc_phys = z.ioc_phys };
        ioc_takes = λ x rest e. record { disks = z.disks; fabric_phys = z.fabric_phys; ioc_phys = down_phys phys w.ioc x z.ioc_phys };
        ioc_high = λ q rest e. record { disks = z.disks; fabric_phys = z.fabric_phys; ioc_phys = post_phys phys (record w.ioc { high = rest }) q z.ioc_phys };
        ioc_normal = λ q rest e. record { disks = z.disks; fabric_phys = z.fabric_phys; ioc_phys = post_phys phys (record w.ioc { normal = rest }) q z.ioc_phys };
        ioc_puts_out = λ x rest e. record { disks = z.disks; fabric_phys = z.fabric_phys; ioc_phys = z.ioc_phys };
        ioc_takes_back = λ x rest e. record { disks = z.disks; fabric_phys = z.fabric_phys; ioc_phys = back_phys phys w.ioc x z.ioc_phys };
        ioc_puts = λ queue y rest x e f. record { disks = z.disks; fabric_phys = z.fabric_phys; ioc_phys = z.ioc_phys };
        fabric_takes = λ x rest e. let h = taken w.fabric x in record { disks = h.disks ∙ z.disks; fabric_phys = h.phys ∙ z.fabric_phys; ioc_phys = z.ioc_phys };
        fabric_says = λ x rest e. record { disks = z.disks; fabric_phys = z.fabric_phys; ioc_phys = z.ioc_phys };
        fabric_puts = λ x rest e. record { disks = z.disks; fabric_phys = z.fabric_phys; ioc_phys = z.ioc_phys };
        fabric_runs = λ tag address e. by_fabric (fab.runs w.fabric tag).part (run w.fabric tag);
        plugs = λ address expander phy. by_fabric (fab.fabric_plugs w.fabric address expander phy).part (plugged w.fabric address expander phy);
        unplugs = λ address. by_fabric (fab.fabric_unplugs w.fabric address).part (unplugged w.fabric address);
        calms = by_fabric (fab.calms w.fabric) (as_is w.fabric (fab.calms w.fabric) refl refl);
      }

pub disks_kept : (w : World) (h : History) → Facts w h → NothingIsStrange w → (c : Case) → SameDisks (happens w c) (history_after h (entries w c))
disks_kept w h f plain c =
    let z : Wired (addresses_of w.fabric.disks) w.ioc.phys w = record { disks = refl; fabric_phys = f.disks.disks.phys; ioc_phys = refl } in
    let k = kept (Wired (addresses_of w.fabric.disks) w.ioc.phys) w plain (owed (addresses_of w.fabric.disks) w.ioc.phys w z) z c in
    record { addresses = addresses_same (seen h) (entries w c) ∙ (f.disks.disks.addresses ∙ sym k.disks); phys = k.fabric_phys ∙ sym k.ioc_phys }
