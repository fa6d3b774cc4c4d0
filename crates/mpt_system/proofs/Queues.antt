-- The host has as many reply queues as there are lanes up, and a phase of each handle, in every world that a list of cases
-- leads to.
use Rattle.std.proofs.Common.{◌≡◌, ℕ, zero, suc, Bool, true, false, List, [], ◌∷◌, length, length-set, Option, Some, None, sym, ◌∙◌, subst}
use Rattle.std.proofs.lemmas.List.{length-replicate}
use Rattle.mpt_trace.specs.declared.choice.Choice.{Choice}
use Rattle.mpt_trace.specs.declared.choice.Choice.TheVariants as choice
use Rattle.mpt_trace.specs.declared.disk_spec.DiskSpec.{DiskSpec}
use Rattle.mpt_trace.specs.declared.entry.Entry.{Entry}
use Rattle.mpt_trace.specs.declared.input.Input.{Input}
use Rattle.mpt_trace.specs.declared.input.Input.TheVariants as input
use Rattle.mpt_trace.specs.declared.item.Down.{Down}
use Rattle.mpt_trace.specs.declared.item.Up.{Up}
use Rattle.mpt_trace.specs.declared.item.Out.{Out}
use Rattle.mpt_trace.specs.declared.item.Back.{Back}
use Rattle.removal.specs.declared.phase.Phase.TheVariants as phase
use Rattle.mpt_rules.specs.Fabric.Parts.{Fabric}
use Rattle.mpt_rules.specs.Fabric.Calls.{announces, runs}
use Rattle.mpt_rules.specs.Ioc.Parts.{Ioc}
use Rattle.mpt_rules.specs.Ioc.Takes.{front_out, front_up_on, steps_high, steps_normal}
use Rattle.mpt_rules.specs.Outcome.{Happening}
use Rattle.mpt_rules.specs.World.Cases.{Case, Told, Chosen, HostLooks, HostStops, FabricCalms, happens, is_free, looks_if, moves_or_idles, run, stops_if}
use Rattle.mpt_rules.specs.World.Moves as move
use Rattle.mpt_rules.specs.World.Settings.{first_world, Setting}
use Rattle.mpt_rules.specs.World.State.{World, up_on}
use Rattle.mpt_system.proofs.HostQueues as host
use Rattle.mpt_system.specs.Parties.{HasLanes}
use Rattle.mpt_system.specs.Reached.{IsReached}

abbrev IsSized : World → Type 0
IsSized w = host.HasQueues (length w.up) w.host

-- likewise after something happened
abbrev Keeps : Happening World → Type 0
Keeps o = IsSized o.part

module _ (w : World) (h : IsSized w) where
  host_put : (c : Choice) (items : List Down) → Keeps (moves_or_idles w c (move.host_puts w items))
  host_put c [] = h
  host_put c (next ∷ rest) = host.sends (length w.up) w.host h

  host_take : (c : Choice) (queue : ℕ) (items : List Up) → Keeps (moves_or_idles w c (move.host_takes w queue items))
  host_take c queue [] = h
  host_take c queue (next ∷ rest) =
      let taken = host.takes_up (length w.up) w.host queue next h in (taken.0 ∙ sym (length-set w.up queue rest), taken.1)

  take_above : (queue : ℕ) → Keeps (moves_or_idles w (choice.HostTakeOn queue) (move.host_takes_above w queue))
  take_above zero = h
  take_above (suc queue) = host_take (choice.HostTakeOn (suc queue)) (suc queue) (up_on w (suc queue))

  ioc_take : (c : Choice) (items : List Down) → Keeps (moves_or_idles w c (move.ioc_takes w items))
  ioc_take c [] = h
  ioc_take c (next ∷ rest) = h

  ioc_take_back : (c : Choice) (items : List Back) → Keeps (moves_or_idles w c (move.ioc_takes_back w items))
  ioc_take_back c [] = h
  ioc_take_back c (next ∷ rest) = h

  ioc_work : (c : Choice) (b : Bool) (ioc : Ioc) (told : List Entry) → Keeps (moves_or_idles w c (move.ioc_worked w b ioc told))
  ioc_work c false ioc told = h
  ioc_work c true ioc told = h

  ioc_put_out : (c : Choice) (o : Option Out) → Keeps (moves_or_idles w c (move.ioc_puts_out w o))
  ioc_put_out c None = h
  ioc_put_out c (Some next) = h

  ioc_put : (c : Choice) (queue : ℕ) (o : Option Up) → Keeps (moves_or_idles w c (move.ioc_puts w queue o))
  ioc_put c queue None = h
  ioc_put c queue (Some next) = (h.0 ∙ sym (length-set w.up queue _), h.1)

  put_above : (queue : ℕ) → Keeps (moves_or_idles w (choice.IocPutOn queue) (move.ioc_puts_above w queue))
  put_above zero = h
  put_above (suc queue) = ioc_put (choice.IocPutOn (suc queue)) (suc queue) (front_up_on w.ioc (suc queue))

  fabric_take : (c : Choice) (items : List Out) → Keeps (moves_or_idles w c (move.fabric_takes w items))
  fabric_take c [] = h
  fabric_take c (next ∷ rest) = h

  fabric_put : (c : Choice) (items : List Back) → Keeps (moves_or_idles w c (move.fabric_puts w items))
  fabric_put c [] = h
  fabric_put c (next ∷ rest) = h

  fabric_say : (c : Choice) (o : Option Fabric) → Keeps (moves_or_idles w c (move.fabric_says w o))
  fabric_say c None = h
  fabric_say c (Some fabric) = h

  fabric_run : (c : Choice) (tag : ℕ) (o : Option ℕ) (fabric : Fabric) → Keeps (moves_or_idles w c (move.fabric_ran w tag o fabric))
  fabric_run c tag None fabric = h
  fabric_run c tag (Some address) fabric = h

  chosen : (c : Choice) → IsSized (happens w (Chosen c))
  chosen choice.HostPut = host_put choice.HostPut w.host.out
  chosen choice.HostTake = host_take choice.HostTake 0 (up_on w 0)
  chosen (choice.HostTakeOn queue) = take_above queue
  chosen choice.IocTake = ioc_take choice.IocTake w.down
  chosen choice.IocHigh = ioc_work choice.IocHigh (steps_high w.ioc).answer (steps_high w.ioc).part (steps_high w.ioc).told
  chosen choice.IocNormal = ioc_work choice.IocNormal (steps_normal w.ioc).answer (steps_normal w.ioc).part (steps_normal w.ioc).told
  chosen choice.IocOut = ioc_put_out choice.IocOut (front_out w.ioc)
  chosen choice.IocBack = ioc_take_back choice.IocBack w.back
  chosen choice.IocPut = ioc_put choice.IocPut 0 (front_up_on w.ioc 0)
  chosen (choice.IocPutOn queue) = put_above queue
  chosen choice.FabricTake = fabric_take choice.FabricTake w.out
  chosen choice.FabricSay = fabric_say choice.FabricSay (announces w.fabric)
  chosen choice.FabricPut = fabric_put choice.FabricPut w.fabric.out
  chosen (choice.FabricRun tag) = fabric_run (choice.FabricRun tag) tag (runs w.fabric tag).answer (runs w.fabric tag).part

  told : (i : Input) → IsSized (happens w (Told i))
  told input.Start = host.is_told (length w.up) w.host input.Start h
  told (input.Submit n address form) = host.is_told (length w.up) w.host (input.Submit n address form) h
  told (input.Abort n) = host.is_told (length w.up) w.host (input.Abort n) h
  told (input.TargetReset address) = host.is_told (length w.up) w.host (input.TargetReset address) h
  told input.Reset = host.is_told (length w.up) w.host input.Reset h
  told input.UnitReset = host.is_told (length w.up) w.host input.UnitReset h
  told (input.Plug address expander phy) = h
  told (input.Unplug address) = h

  looked : (b : Bool) → host.HasQueues (length w.up) (looks_if b w.host)
  looked true = host.looks (length w.up) w.host h
  looked false = h

  stopped : (b : Bool) → host.HasQueues (length w.up) (stops_if b w.host)
  stopped true = h
  stopped false = h

  -- each case keeps it
  kept : (c : Case) → IsSized (happens w c)
  kept (Told i) = told i
  kept (Chosen c) = chosen c
  kept HostLooks = looked (is_free w.host)
  kept HostStops = stopped (is_free w.host)
  kept FabricCalms = h

run_keeps : (cases : List Case) (w : World) → IsSized w → IsSized (run w cases)
run_keeps [] w h = h
run_keeps (c ∷ cs) w h = run_keeps cs (happens w c) (kept w h c)

first_has : (s : Setting) → IsSized (first_world s)
first_has s = (length-replicate s.queues 0 ∙ sym (length-replicate s.queues []), length-replicate 64 phase.Absent)

-- so it holds of every whole that is reached
reached_sized : {disks : List DiskSpec} (w : World) (t : List Entry) → IsReached disks w t → IsSized w
reached_sized w t r = subst IsSized (sym r.of_cases.reached) (run_keeps r.of_cases.cases (first_world r.setting) (first_has r.setting))

pub reached_lanes : {disks : List DiskSpec} (w : World) (t : List Entry) → IsReached disks w t → HasLanes w
reached_lanes w t r = (reached_sized w t r).0

pub reached_phases : {disks : List DiskSpec} (w : World) (t : List Entry) → IsReached disks w t → length w.host.phases ≡ 64
reached_phases w t r = (reached_sized w t r).1
