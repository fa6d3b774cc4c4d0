-- The machine's disks are the fabric's, over every case.
use Rattle.std.proofs.Common.{◌≡◌, ℕ, zero, suc, Bool, true, false, List, [], ◌∷◌, Option, Some, None, refl, sym, subst}
use Rattle.std.specs.List.{find}
use Rattle.mpt_wire.specs.Walks.Passes.{EachEntry}
use Rattle.mpt_trace.specs.declared.choice.Choice.{Choice}
use Rattle.mpt_trace.specs.declared.choice.Choice.TheVariants as choice
use Rattle.mpt_trace.specs.declared.input.Input.TheVariants as input
use Rattle.mpt_trace.specs.declared.entry.Entry.{Entry}
use Rattle.mpt_trace.specs.declared.item.Down.{Down}
use Rattle.mpt_trace.specs.declared.item.Up.{Up}
use Rattle.mpt_trace.specs.declared.item.Out.{Out}
use Rattle.mpt_trace.specs.declared.item.Out.TheVariants as out
use Rattle.mpt_trace.specs.declared.item.Back.{Back}
use Rattle.mpt_rules.specs.declared.why.Why.{Why}
use Rattle.mpt_rules.specs.Outcome.{Happening}
use Rattle.mpt_rules.specs.Fabric.Calls as fab
use Rattle.mpt_rules.specs.Fabric.Disks.{disk_of, has_address}
use Rattle.mpt_rules.specs.Fabric.Parts.{Fabric}
use Rattle.mpt_rules.specs.Fabric.Tasks as tasks
use Rattle.mpt_rules.specs.Host.Strange.{why_strange}
use Rattle.mpt_rules.specs.Host.Takes.{takes_unless}
use Rattle.mpt_rules.specs.Ioc.Parts.{Ioc}
use Rattle.mpt_rules.specs.Ioc.Takes as adapter
use Rattle.mpt_rules.specs.Law.{NothingIsStrange}
use Rattle.mpt_rules.specs.World.Cases.{Case, Told, Chosen, HostLooks, HostStops, FabricCalms, case_of, entries, happens, moves_or_idles}
use Rattle.mpt_rules.specs.World.Moves as move
use Rattle.mpt_rules.specs.World.State.{World, up_on, with_up}
use Rattle.law_facts.specs.Disks.{DiskIs, SameDisk}
use Rattle.law_facts.specs.Facts.{Facts}
use Rattle.law_facts.specs.History.{History, history_after}
use Rattle.law_machine.proofs.Inputs.{seen}
use Rattle.law_machine.proofs.IocSilent.{told_back, told_down, told_high, told_normal}
use Rattle.law_machine.proofs.SameDisks.{run_keeps}
use Rattle.law_machine.proofs.SamePlugs.{plug_keeps, unplug_keeps}
use Rattle.law_disks.proofs.Dry.{IsDry, dry_disks, input_dry, item_dry, silents_dry}

-- an item of the lane out leaves the disks
taken_same : (f : Fabric) (x : Out) → (fab.takes_out f x).disks ≡ f.disks
taken_same f (out.Task tag address command) = by_test (tasks.may_queue f tag address)
  where
    by_test : (b : Bool) → (tasks.with_task_taken_if b f tag address command).disks ≡ f.disks
    by_test true = refl
    by_test false = refl
taken_same f (out.Abort smid task) = by_test (tasks.is_queued f task)
  where
    by_test : (b : Bool) → (tasks.after_abort_if b f smid task).disks ≡ f.disks
    by_test true = refl
    by_test false = refl
taken_same f (out.TargetReset smid address) = refl
taken_same f out.Discover = refl
taken_same f (out.Link generation) = refl
taken_same f out.Stop = refl

module _ (w : World) (h : History) (facts : Facts w h) (plain : NothingIsStrange w) (b : ℕ) where
  abbrev Goal : Happening World → Type 0
  Goal o = SameDisk o.part (history_after h o.entries) b

  -- a case that changes no disk on either side
  still : (o : Happening World) → o.part.fabric.disks ≡ w.fabric.disks → EachEntry IsDry o.entries → Goal o
  still o e d =
      subst (λ m. DiskIs (m b) (disk_of o.part.fabric b)) (sym (dry_disks (seen h) o.entries d))
      (subst (λ ds. DiskIs (h.machine.disks b) (find (has_address b) ds)) (sym e) (facts.disks.disk b))

  idles : (c : Choice) → Goal (moves_or_idles w c None)
  idles c = still (moves_or_idles w c None) refl (tt, tt)

  host_put : (xs : List Down) → Goal (moves_or_idles w choice.HostPut (move.host_puts w xs))
  host_put [] = idles choice.HostPut
  host_put (x ∷ rest) = still (moves_or_idles w choice.HostPut (move.host_puts w (x ∷ rest))) refl (tt, tt)

  host_took : (c : Choice) (q : ℕ) (x : Up) (rest : List Up) (why : Option Why) → (takes_unless w.host q x why).answer ≡ None → Goal (move.host_took (with_up w q rest) q x (takes_unless w.host q x why))
  host_took c q x rest None p = still (move.host_took (with_up w q rest) q x (takes_unless w.host q x None)) refl (tt, item_dry w.host q x)
  host_took c q x rest (Some why) p = absurd (cc)

  host_take : (c : Choice) (q : ℕ) (xs : List Up) → up_on w q ≡ xs → Goal (moves_or_idles w c (move.host_takes w q xs))
  host_take c q [] f = idles c
  host_take c q (x ∷ rest) f = host_took c q x rest (why_strange w.host q x) (plain q x rest f)

  take_above : (c : Choice) (q : ℕ) → Goal (moves_or_idles w c (move.host_takes_above w q))
  take_above c zero = idles c
  take_above c (suc q) = host_take c (suc q) (up_on w (suc q)) refl

  ioc_take : (xs : List Down) → Goal (moves_or_idles w choice.IocTake (move.ioc_takes w xs))
  ioc_take [] = idles choice.IocTake
  ioc_take (x ∷ rest) = still (moves_or_idles w choice.IocTake (move.ioc_takes w (x ∷ rest))) refl (tt, silents_dry (adapter.takes_down w.ioc x).entries (told_down w.ioc x))

  ioc_back : (xs : List Back) → Goal (moves_or_idles w choice.IocBack (move.ioc_takes_back w xs))
  ioc_back [] = idles choice.IocBack
  ioc_back (x ∷ rest) = still (moves_or_idles w choice.IocBack (move.ioc_takes_back w (x ∷ rest))) refl (tt, silents_dry (adapter.takes_back w.ioc x).entries (told_back w.ioc x))

  works : (c : Choice) (k : Bool) (ioc : Ioc) (told : List Entry) → EachEntry Rattle.law_machine.proofs.Silent.IsSilent told → Goal (moves_or_idles w c (move.ioc_worked w k ioc told))
  works c true ioc told s = still (moves_or_idles w c (move.ioc_worked w true ioc told)) refl (silents_dry told s)
  works c false ioc told s = idles c

  ioc_out : (o : Option Out) → Goal (moves_or_idles w choice.IocOut (move.ioc_puts_out w o))
  ioc_out None = idles choice.IocOut
  ioc_out (Some x) = still (moves_or_idles w choice.IocOut (move.ioc_puts_out w (Some x))) refl (tt, tt)

  ioc_put : (c : Choice) (q : ℕ) (o : Option Up) → Goal (moves_or_idles w c (move.ioc_puts w q o))
  ioc_put c q None = idles c
  ioc_put c q (Some y) = still (moves_or_idles w c (move.ioc_puts w q (Some y))) refl (tt, tt)

  put_above : (c : Choice) (q : ℕ) → Goal (moves_or_idles w c (move.ioc_puts_above w q))
  put_above c zero = idles c
  put_above c (suc q) = ioc_put c (suc q) (adapter.front_up_on w.ioc (suc q))

  fabric_take : (xs : List Out) → Goal (moves_or_idles w choice.FabricTake (move.fabric_takes w xs))
  fabric_take [] = idles choice.FabricTake
  fabric_take (x ∷ rest) = still (moves_or_idles w choice.FabricTake (move.fabric_takes w (x ∷ rest))) (taken_same w.fabric x) (tt, tt)

  fabric_put : (xs : List Back) → Goal (moves_or_idles w choice.FabricPut (move.fabric_puts w xs))
  fabric_put [] = idles choice.FabricPut
  fabric_put (x ∷ rest) = still (moves_or_idles w choice.FabricPut (move.fabric_puts w (x ∷ rest))) refl (tt, tt)

  say : (xs : List Back) → Goal (moves_or_idles w choice.FabricSay (move.fabric_says w (fab.says_first xs w.fabric)))
  say [] = idles choice.FabricSay
  say (x ∷ rest) = still (moves_or_idles w choice.FabricSay (move.fabric_says w (fab.says_first (x ∷ rest) w.fabric))) refl tt

  pub disk_kept : (c : Case) → SameDisk (happens w c) (history_after h (entries w c)) b
  disk_kept (Told input.Start) = still (case_of w (Told input.Start)) refl (input_dry w.host input.Start tt)
  disk_kept (Told (input.Submit n a form)) = still (case_of w (Told (input.Submit n a form))) refl (input_dry w.host (input.Submit n a form) tt)
  disk_kept (Told (input.Abort n)) = still (case_of w (Told (input.Abort n))) refl (input_dry w.host (input.Abort n) tt)
  disk_kept (Told (input.TargetReset a)) = still (case_of w (Told (input.TargetReset a))) refl (input_dry w.host (input.TargetReset a) tt)
  disk_kept (Told input.Reset) = still (case_of w (Told input.Reset)) refl (input_dry w.host input.Reset tt)
  disk_kept (Told input.UnitReset) = still (case_of w (Told input.UnitReset)) refl (input_dry w.host input.UnitReset tt)
  disk_kept (Told (input.Plug a expander phy)) = plug_keeps w h facts a expander phy b
  disk_kept (Told (input.Unplug a)) = unplug_keeps w h facts a b
  disk_kept (Chosen choice.HostPut) = host_put w.host.out
  disk_kept (Chosen choice.HostTake) = host_take choice.HostTake 0 (up_on w 0) refl
  disk_kept (Chosen (choice.HostTakeOn q)) = take_above (choice.HostTakeOn q) q
  disk_kept (Chosen choice.IocTake) = ioc_take w.down
  disk_kept (Chosen choice.IocHigh) = works choice.IocHigh (adapter.steps_high w.ioc).answer (adapter.steps_high w.ioc).part (adapter.steps_high w.ioc).told (told_high w.ioc w.ioc.high)
  disk_kept (Chosen choice.IocNormal) = works choice.IocNormal (adapter.steps_normal w.ioc).answer (adapter.steps_normal w.ioc).part (adapter.steps_normal w.ioc).told (told_normal w.ioc w.ioc.normal)
  disk_kept (Chosen choice.IocOut) = ioc_out (adapter.front_out w.ioc)
  disk_kept (Chosen choice.IocBack) = ioc_back w.back
  disk_kept (Chosen choice.IocPut) = ioc_put choice.IocPut 0 (adapter.front_up_on w.ioc 0)
  disk_kept (Chosen (choice.IocPutOn q)) = put_above (choice.IocPutOn q) q
  disk_kept (Chosen choice.FabricTake) = fabric_take w.out
  disk_kept (Chosen choice.FabricSay) = say w.fabric.notices
  disk_kept (Chosen choice.FabricPut) = fabric_put w.fabric.out
  disk_kept (Chosen (choice.FabricRun tag)) = run_keeps w h facts tag b
  disk_kept HostLooks = still (case_of w HostLooks) refl tt
  disk_kept HostStops = still (case_of w HostStops) refl tt
  disk_kept FabricCalms = still (case_of w FabricCalms) refl tt
