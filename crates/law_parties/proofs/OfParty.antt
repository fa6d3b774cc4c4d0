-- Each case of the world is a case of one party by itself, or idle.
use Rattle.std.proofs.Common.{◌≡◌, ℕ, zero, suc, Bool, true, false, List, [], ◌∷◌, Option, Some, None, refl, ap, sym, ◌∙◌}
use Rattle.mpt_trace.specs.declared.choice.Choice.{Choice}
use Rattle.mpt_trace.specs.declared.choice.Choice.TheVariants as choice
use Rattle.mpt_trace.specs.declared.entry.Entry.TheVariants as entry
use Rattle.mpt_trace.specs.declared.input.Input.{Input}
use Rattle.mpt_trace.specs.declared.input.Input.TheVariants as input
use Rattle.mpt_trace.specs.declared.item.Back.{Back}
use Rattle.mpt_trace.specs.declared.item.Down.{Down}
use Rattle.mpt_trace.specs.declared.item.Out.{Out}
use Rattle.mpt_trace.specs.declared.item.Up.{Up}
use Rattle.mpt_rules.specs.Fabric.Calls.{announces, runs}
use Rattle.mpt_rules.specs.Fabric.Parts.{Fabric}
use Rattle.mpt_rules.specs.Ioc.Parts.{Ioc}
use Rattle.mpt_rules.specs.Ioc.Takes.{front_out, front_up_on, steps_high, steps_normal}
use Rattle.mpt_rules.specs.Outcome.{Called, Happening}
use Rattle.mpt_rules.specs.Session.OpenCases.{FabricCase, HostCase, IocCase, PutsOut, PutsUp, TakesBack, TakesDown, WorksHigh, WorksNormal, fabric_does, host_does, ioc_does, open_worked, puts_back, puts_down, puts_out, puts_up, ran, says_or_not, worked_if}
use Rattle.mpt_rules.specs.World.Cases.{Case, Chosen, FabricCalms, HostLooks, HostStops, Told, case_of, moves_or_idles}
use Rattle.mpt_rules.specs.World.Moves as move
use Rattle.mpt_rules.specs.World.State.{World, up_on}

-- whose case it is, what is left of host and controller, and that the entries are those of the party's case
pub data OfParty (w : World) (o : Happening World) : Type 0 where
  Idles : (c : Choice) → o.part ≡ w → o.entries ≡ entry.Idle c ∷ [] → OfParty w o
  OfHost : (c : HostCase) → o.part.host ≡ (host_does w.host c).part → o.part.ioc ≡ w.ioc → o.entries ≡ (host_does w.host c).entries → OfParty w o
  OfIoc : (c : IocCase) → o.part.host ≡ w.host → o.part.ioc ≡ (ioc_does w.ioc c).part → o.entries ≡ (ioc_does w.ioc c).entries → OfParty w o
  OfFabric : (c : FabricCase) → o.part.host ≡ w.host → o.part.ioc ≡ w.ioc → o.entries ≡ (fabric_does w.fabric c).entries → OfParty w o

module _ (w : World) where
  -- ---- the host

  host_put : (xs : List Down) → w.host.out ≡ xs → OfParty w (moves_or_idles w choice.HostPut (move.host_puts w xs))
  host_put [] e = Idles choice.HostPut refl refl
  host_put (x ∷ rest) e =
      OfHost HostCase.Puts (sym (ap (λ (xs : List Down). (puts_down w.host xs).part) e)) refl (sym (ap (λ (xs : List Down). (puts_down w.host xs).entries) e))

  host_take : (c : Choice) (queue : ℕ) (xs : List Up) → OfParty w (moves_or_idles w c (move.host_takes w queue xs))
  host_take c queue [] = Idles c refl refl
  host_take c queue (x ∷ rest) = OfHost (HostCase.Takes queue x) refl refl refl

  host_take_above : (queue : ℕ) → OfParty w (moves_or_idles w (choice.HostTakeOn queue) (move.host_takes_above w queue))
  host_take_above zero = Idles (choice.HostTakeOn zero) refl refl
  host_take_above (suc queue) = host_take (choice.HostTakeOn (suc queue)) (suc queue) (up_on w (suc queue))

  -- ---- the controller

  ioc_take : (xs : List Down) → OfParty w (moves_or_idles w choice.IocTake (move.ioc_takes w xs))
  ioc_take [] = Idles choice.IocTake refl refl
  ioc_take (x ∷ rest) = OfIoc (TakesDown x) refl refl refl

  ioc_take_back : (xs : List Back) → OfParty w (moves_or_idles w choice.IocBack (move.ioc_takes_back w xs))
  ioc_take_back [] = Idles choice.IocBack refl refl
  ioc_take_back (x ∷ rest) = OfIoc (TakesBack x) refl refl refl

  -- a work step, by what it answered
  worked : (x : Choice) (c : IocCase) (called : Called Ioc Bool) → (ioc_does w.ioc c) ≡ open_worked w.ioc called → (b : Bool) → called.answer ≡ b → OfParty w (moves_or_idles w x (move.ioc_worked w b called.part called.told))
  worked x c called is false e = Idles x refl refl
  worked x c called is true e =
      OfIoc c refl
      (sym (ap (λ (o : Happening Ioc). o.part) is ∙ ap (λ (b : Bool). (worked_if w.ioc b called.part called.told).part) e))
      (sym (ap (λ (o : Happening Ioc). o.entries) is ∙ ap (λ (b : Bool). (worked_if w.ioc b called.part called.told).entries) e))

  out_put : (o : Option Out) → front_out w.ioc ≡ o → OfParty w (moves_or_idles w choice.IocOut (move.ioc_puts_out w o))
  out_put None e = Idles choice.IocOut refl refl
  out_put (Some x) e =
      OfIoc PutsOut refl (sym (ap (λ (o : Option Out). (puts_out w.ioc o).part) e)) (sym (ap (λ (o : Option Out). (puts_out w.ioc o).entries) e))

  up_put : (c : Choice) (queue : ℕ) (o : Option Up) → front_up_on w.ioc queue ≡ o → OfParty w (moves_or_idles w c (move.ioc_puts w queue o))
  up_put c queue None e = Idles c refl refl
  up_put c queue (Some x) e =
      OfIoc (PutsUp queue) refl (sym (ap (λ (o : Option Up). (puts_up w.ioc queue o).part) e)) (sym (ap (λ (o : Option Up). (puts_up w.ioc queue o).entries) e))

  up_put_above : (queue : ℕ) → OfParty w (moves_or_idles w (choice.IocPutOn queue) (move.ioc_puts_above w queue))
  up_put_above zero = Idles (choice.IocPutOn zero) refl refl
  up_put_above (suc queue) = up_put (choice.IocPutOn (suc queue)) (suc queue) (front_up_on w.ioc (suc queue)) refl

  -- ---- the fabric

  fabric_take : (xs : List Out) → OfParty w (moves_or_idles w choice.FabricTake (move.fabric_takes w xs))
  fabric_take [] = Idles choice.FabricTake refl refl
  fabric_take (x ∷ rest) = OfFabric (FabricCase.Takes x) refl refl refl

  fabric_say : (o : Option Fabric) → announces w.fabric ≡ o → OfParty w (moves_or_idles w choice.FabricSay (move.fabric_says w o))
  fabric_say None e = Idles choice.FabricSay refl refl
  fabric_say (Some f) e = OfFabric FabricCase.Says refl refl (sym (ap (λ (o : Option Fabric). (says_or_not w.fabric o).entries) e))

  fabric_put : (xs : List Back) → w.fabric.out ≡ xs → OfParty w (moves_or_idles w choice.FabricPut (move.fabric_puts w xs))
  fabric_put [] e = Idles choice.FabricPut refl refl
  fabric_put (x ∷ rest) e = OfFabric FabricCase.Puts refl refl (sym (ap (λ (xs : List Back). (puts_back w.fabric xs).entries) e))

  fabric_run : (tag : ℕ) (o : Option ℕ) → (runs w.fabric tag).answer ≡ o → OfParty w (moves_or_idles w (choice.FabricRun tag) (move.fabric_ran w tag o (runs w.fabric tag).part))
  fabric_run tag None e = Idles (choice.FabricRun tag) refl refl
  fabric_run tag (Some address) e = OfFabric (FabricCase.Runs tag) refl refl (sym (ap (λ (o : Option ℕ). (ran w.fabric tag o (runs w.fabric tag).part).entries) e))

  -- ---- all

  chosen : (c : Choice) → OfParty w (case_of w (Chosen c))
  chosen choice.HostPut = host_put w.host.out refl
  chosen choice.HostTake = host_take choice.HostTake 0 (up_on w 0)
  chosen (choice.HostTakeOn queue) = host_take_above queue
  chosen choice.IocTake = ioc_take w.down
  chosen choice.IocHigh = worked choice.IocHigh WorksHigh (steps_high w.ioc) refl (steps_high w.ioc).answer refl
  chosen choice.IocNormal = worked choice.IocNormal WorksNormal (steps_normal w.ioc) refl (steps_normal w.ioc).answer refl
  chosen choice.IocOut = out_put (front_out w.ioc) refl
  chosen choice.IocBack = ioc_take_back w.back
  chosen choice.IocPut = up_put choice.IocPut 0 (front_up_on w.ioc 0) refl
  chosen (choice.IocPutOn queue) = up_put_above queue
  chosen choice.FabricTake = fabric_take w.out
  chosen choice.FabricSay = fabric_say (announces w.fabric) refl
  chosen choice.FabricPut = fabric_put w.fabric.out refl
  chosen (choice.FabricRun tag) = fabric_run tag (runs w.fabric tag).answer refl

  told : (i : Input) → OfParty w (case_of w (Told i))
  told (input.Plug address expander phy) = OfFabric (FabricCase.Told (input.Plug address expander phy)) refl refl refl
  told (input.Unplug address) = OfFabric (FabricCase.Told (input.Unplug address)) refl refl refl
  told input.Start = OfHost (HostCase.Told input.Start) refl refl refl
  told (input.Submit n address form) = OfHost (HostCase.Told (input.Submit n address form)) refl refl refl
  told (input.Abort n) = OfHost (HostCase.Told (input.Abort n)) refl refl refl
  told (input.TargetReset address) = OfHost (HostCase.Told (input.TargetReset address)) refl refl refl
  told input.Reset = OfHost (HostCase.Told input.Reset) refl refl refl
  told input.UnitReset = OfHost (HostCase.Told input.UnitReset) refl refl refl

  pub of_party : (c : Case) → OfParty w (case_of w c)
  of_party (Told i) = told i
  of_party (Chosen c) = chosen c
  of_party HostLooks = OfHost HostCase.Looks refl refl refl
  of_party HostStops = OfHost HostCase.Stops refl refl refl
  of_party FabricCalms = OfFabric FabricCase.Calms refl refl refl
