-- The disks stay those that were declared, in every world that a list of cases leads to.
use Rattle.std.proofs.Common.{◌≡◌, ◌≢◌, ℕ, zero, suc, ◌≤◌, ◌*◌, ◌==◌, ◌/◌, Bool, true, false, cond, if◌then◌else◌, List, [], ◌∷◌, length, map, Option, Some, None, refl, sym, ap, ◌∙◌, subst, arith}
use Rattle.std.specs.Prelude.{All, AllPairs}
use Rattle.std.specs.List.{find}
use Rattle.std.proofs.lemmas.List.{length-replicate}
use Rattle.scsi_disk.specs.declared.command.Command.{Command}
use Rattle.scsi_disk.specs.Disk.{block_count}
use Rattle.scsi_disk.specs.Laws.{SizeStays}
use Rattle.mpt_trace.specs.declared.choice.Choice.{Choice}
use Rattle.mpt_trace.specs.declared.choice.Choice.TheVariants as choice
use Rattle.mpt_trace.specs.declared.disk_spec.DiskSpec.{DiskSpec}
use Rattle.mpt_trace.specs.declared.entry.Entry.{Entry}
use Rattle.mpt_trace.specs.declared.input.Input.{Input}
use Rattle.mpt_trace.specs.declared.input.Input.TheVariants as input
use Rattle.mpt_trace.specs.declared.item.Down.{Down}
use Rattle.mpt_trace.specs.declared.item.Up.{Up}
use Rattle.mpt_trace.specs.declared.item.Out.{Out}
use Rattle.mpt_trace.specs.declared.item.Out.TheVariants as out
use Rattle.mpt_trace.specs.declared.item.Back.{Back}
use Rattle.mpt_trace.specs.declared.refusal.Refusal.{Refusal}
use Rattle.mpt_trace.specs.declared.refusal.RefusedCall.{RefusedCall}
use Rattle.mpt_rules.specs.declared.task.Task.{Task}
use Rattle.mpt_rules.specs.Fabric.Calls as fabric
use Rattle.mpt_rules.specs.Fabric.Disks.{disk_of, has_address, unplugged_news, with_disk}
use Rattle.mpt_rules.specs.Fabric.Parts.{Fabric, FabricDisk, Place, new_disk}
use Rattle.mpt_rules.specs.Fabric.Tasks as tasks
use Rattle.mpt_rules.specs.Ioc.Parts.{Ioc}
use Rattle.mpt_rules.specs.Ioc.Takes.{front_out, front_up_on, steps_high, steps_normal}
use Rattle.mpt_rules.specs.Outcome.{Happening}
use Rattle.mpt_rules.specs.World.Cases.{Case, Told, Chosen, HostLooks, HostStops, FabricCalms, happens, moves_or_idles, run}
use Rattle.mpt_rules.specs.World.Inputs as told
use Rattle.mpt_rules.specs.World.Moves as move
use Rattle.mpt_rules.specs.World.Settings.{first_world}
use Rattle.mpt_rules.specs.World.State.{World, up_on}
use Rattle.disk_machine.specs.Machine.{IsDiskSize}
use Rattle.mpt_system.specs.Reached.{IsReached}
use Rattle.mpt_system.specs.Summary.{DisksStay, declared, declared_disks}

-- no two disks have one address
abbrev Apart : List DiskSpec → Type 0
Apart disks = AllPairs (λ (d e : DiskSpec). d.address ≢ e.address) disks

others : (d : DiskSpec) (ds : List DiskSpec) → Apart (d ∷ ds) → All (λ (e : DiskSpec). d.address ≢ e.address) ds
others d ds apart = λ i x less. apart 0 (suc i) x (omega arith) (omega (arith, less))

rest_apart : (d : DiskSpec) (ds : List DiskSpec) → Apart (d ∷ ds) → Apart ds
rest_apart d ds apart = λ i j x less within. apart (suc i) (suc j) x (omega (arith, less)) (omega (arith, within))

none_there : (a : ℕ) (ds : List FabricDisk) → All (λ (e : DiskSpec). a ≢ e.address) (map declared ds) → find (has_address a) ds ≡ None
none_there a [] others = refl
none_there a (d ∷ ds) others = by_test (d.address == a) refl (none_there a ds (λ i x less. others (suc i) x (omega (arith, less))))
  where
    by_test : (b : Bool) → (d.address == a) ≡ b → find (has_address a) ds ≡ None → cond b (Some d) (find (has_address a) ds) ≡ None
    by_test true e rest = let is : d.address ≡ a = grind (arith, e) in absurd (others 0 (declared d) (omega arith) (sym is))
    by_test false e rest = rest

-- a change of the disk of an address, which leaves it as it was declared, leaves them all
same_declared : (a : ℕ) (change : FabricDisk → FabricDisk) (ds : List FabricDisk) → Apart (map declared ds)
    → ((d : FabricDisk) → find (has_address a) ds ≡ Some d → declared (change d) ≡ declared d) → map declared (with_disk a change ds) ≡ map declared ds
same_declared a change [] apart same = refl
same_declared a change (d ∷ ds) apart same = by_test (d.address == a) refl (same_declared a change ds (rest_apart (declared d) (map declared ds) apart))
  where
    by_test : (b : Bool) → (d.address == a) ≡ b
        → (((x : FabricDisk) → find (has_address a) ds ≡ Some x → declared (change x) ≡ declared x) → map declared (with_disk a change ds) ≡ map declared ds)
        → declared (if b then change d else d) ∷ map declared (with_disk a change ds) ≡ declared d ∷ map declared ds
    by_test true e rest =
        let is : d.address ≡ a = grind (arith, e) in
        let none : find (has_address a) ds ≡ None = none_there a ds (subst (λ k. All (λ (x : DiskSpec). k ≢ x.address) (map declared ds)) is (others (declared d) (map declared ds) apart)) in
        let here : declared (change d) ≡ declared d = same d (rw e refl) in
        let there = rest (λ x found. absurd (cc)) in
        rw (here, there) refl
    by_test false e rest = let there = rest (λ x found. same x (rw e found)) in rw there refl

-- ---- the fabric

-- the fabric has disks declared as those of the other
abbrev IsAlike : Fabric → Fabric → Type 0
IsAlike f g = map declared g.disks ≡ map declared f.disks

module _ (f : Fabric) where
  task_taken : (b : Bool) (tag address : ℕ) (command : Command) → IsAlike f (tasks.with_task_taken_if b f tag address command)
  task_taken true tag address command = refl
  task_taken false tag address command = refl

  aborted : (b : Bool) (smid tag : ℕ) → IsAlike f (tasks.after_abort_if b f smid tag)
  aborted true smid tag = refl
  aborted false smid tag = refl

  taken : (x : Out) → IsAlike f (fabric.takes_out f x)
  taken (out.Task tag address command) = task_taken (tasks.may_queue f tag address) tag address command
  taken (out.Abort smid task) = aborted (tasks.is_queued f task) smid task
  taken (out.TargetReset smid address) = refl
  taken out.Discover = refl
  taken (out.Link generation) = refl
  taken out.Stop = refl

noticed : (f : Fabric) (b : Bool) (notice : Back) → (fabric.with_notice b notice f).disks ≡ f.disks
noticed f true notice = refl
noticed f false notice = refl

module _ (f : Fabric) (apart : Apart (map declared f.disks)) where
  plugged : (d : FabricDisk) (place : Place) → IsAlike f (fabric.after_plug f d place)
  plugged d place =
      let changed : Fabric = record f { disks = with_disk d.address (fabric.plugged_once_more place) f.disks } in
      ap (λ ds. map declared ds) (noticed changed f.on _) ∙ same_declared d.address (fabric.plugged_once_more place) f.disks apart (λ x found. refl)

  unplugged : (d : FabricDisk) (place : Place) → IsAlike f (fabric.after_unplug f d place)
  unplugged d place =
      ap (λ ds. map declared ds) (noticed _ f.on (unplugged_news d place)) ∙ same_declared d.address (λ (old : FabricDisk). record old { at = None }) f.disks apart (λ x found. refl)

  plugs_unless : (o : Option fabric.PlugRefusal) (d : FabricDisk) (place : Place) → IsAlike f (fabric.plugs_unless o f d place).part
  plugs_unless None d place = plugged d place
  plugs_unless (Some cause) d place = refl

  plugs : (o : Option FabricDisk) (expander phy : ℕ) → IsAlike f (fabric.plugs_disk o f expander phy).part
  plugs None expander phy = refl
  plugs (Some d) expander phy = plugs_unless (fabric.plug_refusal f d expander phy) d (record { expander = expander; phy = phy })

  unplugs_from : (o : Option Place) (d : FabricDisk) → IsAlike f (fabric.fabric_unplugs_from o f d).part
  unplugs_from None d = refl
  unplugs_from (Some place) d = unplugged d place

  unplugs : (o : Option FabricDisk) → IsAlike f (fabric.unplugs_disk o f).part
  unplugs None = refl
  unplugs (Some d) = unplugs_from d.at d

  -- a task that runs changes no disk's size
  module _ (sizes : SizeStays) where
    ran : (task : Task) → IsAlike f (tasks.after_task f task (tasks.performed_at f task.address task.command))
    ran task =
        same_declared task.address (λ (d : FabricDisk). record d { bytes = (tasks.performed_at f task.address task.command).bytes }) f.disks apart
        (λ d found. ap (λ n. let spec : DiskSpec = record { address = d.address; blocks = n / 512 } in spec) (size d found))
      where
        size : (d : FabricDisk) → disk_of f task.address ≡ Some d → length (tasks.performed_at f task.address task.command).bytes ≡ length d.bytes
        size d found = sizes (tasks.fabric_bytes_of (disk_of f task.address)) task.command ∙ ap (λ o. length (tasks.fabric_bytes_of o)) found

    runs : (o : Option Task) → IsAlike f (tasks.runs_task f o).part
    runs None = refl
    runs (Some task) = ran task

-- the fabric after an input, where it is as after the call
module _ (f g : Fabric) (alike : IsAlike f g) (i : Input) (call : RefusedCall) where
  entered : (o : Option Refusal) → IsAlike f (told.refused_plug_entered g i call o).part
  entered None = alike
  entered (Some cause) = alike

  by_plug : (o : Option fabric.PlugRefusal) → IsAlike f (told.by_plug i call o g).part
  by_plug None = alike
  by_plug (Some cause) = entered (told.told_cause cause)

-- ---- the world

-- likewise after something happened
abbrev Keeps : World → Happening World → Type 0
Keeps w o = IsAlike w.fabric o.part.fabric

module _ (w : World) where
  host_put : (c : Choice) (items : List Down) → Keeps w (moves_or_idles w c (move.host_puts w items))
  host_put c [] = refl
  host_put c (next ∷ rest) = refl

  host_take : (c : Choice) (queue : ℕ) (items : List Up) → Keeps w (moves_or_idles w c (move.host_takes w queue items))
  host_take c queue [] = refl
  host_take c queue (next ∷ rest) = refl

  take_above : (queue : ℕ) → Keeps w (moves_or_idles w (choice.HostTakeOn queue) (move.host_takes_above w queue))
  take_above zero = refl
  take_above (suc queue) = host_take (choice.HostTakeOn (suc queue)) (suc queue) (up_on w (suc queue))

  ioc_take : (c : Choice) (items : List Down) → Keeps w (moves_or_idles w c (move.ioc_takes w items))
  ioc_take c [] = refl
  ioc_take c (next ∷ rest) = refl

  ioc_take_back : (c : Choice) (items : List Back) → Keeps w (moves_or_idles w c (move.ioc_takes_back w items))
  ioc_take_back c [] = refl
  ioc_take_back c (next ∷ rest) = refl

  ioc_work : (c : Choice) (b : Bool) (ioc : Ioc) (told : List Entry) → Keeps w (moves_or_idles w c (move.ioc_worked w b ioc told))
  ioc_work c false ioc told = refl
  ioc_work c true ioc told = refl

  ioc_put_out : (c : Choice) (o : Option Out) → Keeps w (moves_or_idles w c (move.ioc_puts_out w o))
  ioc_put_out c None = refl
  ioc_put_out c (Some next) = refl

  ioc_put : (c : Choice) (queue : ℕ) (o : Option Up) → Keeps w (moves_or_idles w c (move.ioc_puts w queue o))
  ioc_put c queue None = refl
  ioc_put c queue (Some next) = refl

  put_above : (queue : ℕ) → Keeps w (moves_or_idles w (choice.IocPutOn queue) (move.ioc_puts_above w queue))
  put_above zero = refl
  put_above (suc queue) = ioc_put (choice.IocPutOn (suc queue)) (suc queue) (front_up_on w.ioc (suc queue))

  fabric_take : (c : Choice) (items : List Out) → Keeps w (moves_or_idles w c (move.fabric_takes w items))
  fabric_take c [] = refl
  fabric_take c (next ∷ rest) = taken w.fabric next

  fabric_put : (c : Choice) (items : List Back) → Keeps w (moves_or_idles w c (move.fabric_puts w items))
  fabric_put c [] = refl
  fabric_put c (next ∷ rest) = refl

  fabric_say : (c : Choice) (notices : List Back) → Keeps w (moves_or_idles w c (move.fabric_says w (fabric.says_first notices w.fabric)))
  fabric_say c [] = refl
  fabric_say c (notice ∷ rest) = refl

  fabric_run : (c : Choice) (tag : ℕ) (o : Option ℕ) (g : Fabric) → IsAlike w.fabric g → Keeps w (moves_or_idles w c (move.fabric_ran w tag o g))
  fabric_run c tag None g alike = refl
  fabric_run c tag (Some address) g alike = alike

  module _ (sizes : SizeStays) (apart : Apart (declared_disks w)) where
    chosen : (c : Choice) → IsAlike w.fabric (happens w (Chosen c)).fabric
    chosen choice.HostPut = host_put choice.HostPut w.host.out
    chosen choice.HostTake = host_take choice.HostTake 0 (up_on w 0)
    chosen (choice.HostTakeOn queue) = take_above queue
    chosen choice.IocTake = ioc_take choice.IocTake w.down
    chosen choice.IocHigh = ioc_work choice.IocHigh (steps_high w.ioc).answer (steps_high w.ioc).part (steps_high w.ioc).told
    chosen choice.IocNormal = ioc_work choice.IocNormal (steps_normal w.ioc).answer (steps_normal w.ioc).part (steps_normal w.ioc).told
    chosen choice.IocOut = ioc_put_out choice.IocOut (front_out w.ioc)
    chosen choice.IocBack = ioc_take_back choice.IocBack w.back
    chosen choice.IocPut = ioc_put choice.IocPut 0 (front_up_on w.ioc 0)
    chosen (choice.IocPutOn queue) = put_above queue
    chosen choice.FabricTake = fabric_take choice.FabricTake w.out
    chosen choice.FabricSay = fabric_say choice.FabricSay w.fabric.notices
    chosen choice.FabricPut = fabric_put choice.FabricPut w.fabric.out
    chosen (choice.FabricRun tag) =
        fabric_run (choice.FabricRun tag) tag (tasks.runs w.fabric tag).answer (tasks.runs w.fabric tag).part (runs w.fabric apart sizes (find (tasks.has_tag tag) w.fabric.tasks))

    told_to : (i : Input) → IsAlike w.fabric (happens w (Told i)).fabric
    told_to input.Start = refl
    told_to (input.Submit n address form) = refl
    told_to (input.Abort n) = refl
    told_to (input.TargetReset address) = refl
    told_to input.Reset = refl
    told_to input.UnitReset = refl
    told_to (input.Plug address expander phy) =
        by_plug w.fabric (fabric.fabric_plugs w.fabric address expander phy).part (plugs w.fabric apart (disk_of w.fabric address) expander phy) _ _ (fabric.fabric_plugs w.fabric address expander phy).answer
    told_to (input.Unplug address) =
        by_plug w.fabric (fabric.fabric_unplugs w.fabric address).part (unplugs w.fabric apart (disk_of w.fabric address)) _ _ (fabric.fabric_unplugs w.fabric address).answer

    -- each case keeps them
    kept : (c : Case) → IsAlike w.fabric (happens w c).fabric
    kept (Told i) = told_to i
    kept (Chosen c) = chosen c
    kept HostLooks = refl
    kept HostStops = refl
    kept FabricCalms = refl

run_keeps : SizeStays → (cases : List Case) (w : World) → Apart (declared_disks w) → declared_disks (run w cases) ≡ declared_disks w
run_keeps sizes [] w apart = refl
run_keeps sizes (c ∷ cases) w apart =
    let same = kept w sizes apart c in run_keeps sizes cases (happens w c) (subst Apart (sym same) apart) ∙ same

-- a disk that is made is as it was declared
made_declared : (ds : List DiskSpec) → map declared (map new_disk ds) ≡ ds
made_declared [] = refl
made_declared (d ∷ ds) =
    let size : length (new_disk d).bytes ≡ 512 * d.blocks = length-replicate (512 * d.blocks) 0 in
    let blocks : block_count (new_disk d).bytes ≡ d.blocks = omega (arith, size) in
    let rest = made_declared ds in
    rw (blocks, rest) refl

pub stay : SizeStays → DisksStay
stay sizes s cases within allowed =
    let first = made_declared s.disks in run_keeps sizes cases (first_world s) (subst Apart (sym first) within.apart) ∙ first

-- so the disks of a whole that is reached are those that it keeps
pub reached_disks : {disks : List DiskSpec} (w : World) (t : List Entry) → DisksStay → IsReached disks w t → declared_disks w ≡ disks
reached_disks w t stays r =
    ap declared_disks r.of_cases.reached ∙ (stays r.setting r.of_cases.cases r.within r.of_cases.allowed ∙ r.declared)

-- and there are as many of them, of such a size, as there may be
pub reached_few : {disks : List DiskSpec} (w : World) (t : List Entry) → IsReached disks w t → length disks ≤ 64
reached_few w t r = subst (λ (ds : List DiskSpec). length ds ≤ 64) r.declared r.within.few_disks

pub reached_sizes : {disks : List DiskSpec} (w : World) (t : List Entry) → IsReached disks w t → All IsDiskSize disks
reached_sizes w t r = subst (All IsDiskSize) r.declared r.within.blocks
