-- No table of a world gets another length.
use Rattle.std.proofs.Common.{◌≡◌, ℕ, ◌≤◌, zero, suc, false, List, [], ◌∷◌, length, Option, Some, None, refl, sym, subst, ◌∙◌, length-set}
use Rattle.mpt_trace.specs.declared.choice.Choice.{Choice}
use Rattle.mpt_trace.specs.declared.choice.Choice.TheVariants as choice
use Rattle.mpt_trace.specs.declared.input.Input.{Input}
use Rattle.mpt_trace.specs.declared.input.Input.TheVariants as input
use Rattle.mpt_trace.specs.declared.item.Back.{Back}
use Rattle.mpt_trace.specs.declared.item.Down.{Down}
use Rattle.mpt_trace.specs.declared.item.Out.{Out}
use Rattle.mpt_trace.specs.declared.item.Up.{Up}
use Rattle.mpt_rules.specs.declared.binding.Binding.TheVariants as binding
use Rattle.mpt_rules.specs.declared.at_fabric.AtFabric.{AtFabric}
use Rattle.mpt_rules.specs.declared.host_frame.HostFrame.TheVariants as frame
use Rattle.mpt_rules.specs.declared.post.Post.{Post}
use Rattle.mpt_rules.specs.declared.said.Said.{Said}
use Rattle.removal.specs.declared.phase.Phase.TheVariants as phase
use Rattle.mpt_rules.specs.Outcome.{Happening}
use Rattle.mpt_rules.specs.Fabric.Calls.{announces, calms, runs}
use Rattle.mpt_rules.specs.Fabric.Parts.{Fabric}
use Rattle.mpt_rules.specs.Host.Parts.{Host}
use Rattle.mpt_rules.specs.Host.Strange.{why_strange}
use Rattle.mpt_rules.specs.Ioc.Parts.{Ioc}
use Rattle.mpt_rules.specs.Ioc.Takes.{front_out, front_up_on}
use Rattle.mpt_rules.specs.Ioc.Steps as step
use Rattle.mpt_rules.specs.World.Cases.{Case, Told, Chosen, HostLooks, HostStops, FabricCalms, case_of, happens, is_free, moves_or_idles, run}
use Rattle.mpt_rules.specs.World.Inputs.{fabric_told}
use Rattle.mpt_rules.specs.World.Moves as move
use Rattle.mpt_rules.specs.World.Settings.{IsSetting, Setting, first_world}
use Rattle.mpt_rules.specs.World.State.{World, up_on}
use Rattle.law_facts.specs.Flights.{Sizes}
use Rattle.law_flights.proofs.HostTurns.{free_slot, length_free}
use Rattle.law_sizes.proofs.HostLengths as host
use Rattle.law_sizes.proofs.HostLengths.{HostIsSized}
use Rattle.law_sizes.proofs.IocLengths as ioc
use Rattle.law_sizes.proofs.IocLengths.{IocIsSized}

module _ (q : ℕ) where
  -- host and controller have their lengths, and there are so many lanes up
  pub record Lengths (host : Host) (ioc : Ioc) (up : List (List Up)) : Type 0 where
    pub host_is : HostIsSized q host
    pub ioc_is : IocIsSized q ioc
    pub lanes : length up ≡ q

  abbrev pub IsSized : World → Type 0
  IsSized w = Lengths w.host w.ioc w.up

  module _ (w : World) (z : IsSized w) where
    abbrev Kept : Happening World → Type 0
    Kept o = IsSized o.part

    -- ---- the host

    by_host : (h : Host) → HostIsSized q h → IsSized (record w { host = h })
    by_host h y = record { host_is = y; ioc_is = z.ioc_is; lanes = z.lanes }

    host_put : (xs : List Down) → Kept (moves_or_idles w choice.HostPut (move.host_puts w xs))
    host_put [] = z
    host_put (x ∷ rest) = record { host_is = host.sent q w.host w.host.out z.host_is; ioc_is = z.ioc_is; lanes = z.lanes }

    host_take : (c : Choice) (queue : ℕ) (xs : List Up) → Kept (moves_or_idles w c (move.host_takes w queue xs))
    host_take c queue [] = z
    host_take c queue (x ∷ rest) = record { host_is = host.taken q w.host queue x (why_strange w.host queue x) z.host_is; ioc_is = z.ioc_is; lanes = length-set w.up queue rest ∙ z.lanes }

    take_above : (queue : ℕ) → Kept (moves_or_idles w (choice.HostTakeOn queue) (move.host_takes_above w queue))
    take_above zero = z
    take_above (suc queue) = host_take (choice.HostTakeOn (suc queue)) (suc queue) (up_on w (suc queue))

    -- ---- the controller

    by_ioc : (i : Ioc) → IocIsSized q i → IsSized (record w { ioc = i })
    by_ioc i y = record { host_is = z.host_is; ioc_is = y; lanes = z.lanes }

    ioc_take : (xs : List Down) → Kept (moves_or_idles w choice.IocTake (move.ioc_takes w xs))
    ioc_take [] = z
    ioc_take (x ∷ rest) = record { host_is = z.host_is; ioc_is = ioc.down_taken q w.ioc x z.ioc_is; lanes = z.lanes }

    back_take : (xs : List Back) → Kept (moves_or_idles w choice.IocBack (move.ioc_takes_back w xs))
    back_take [] = z
    back_take (x ∷ rest) = record { host_is = z.host_is; ioc_is = ioc.back_taken q w.ioc x z.ioc_is; lanes = z.lanes }

    high : (xs : List Post) → Kept (moves_or_idles w choice.IocHigh (move.ioc_works w (step.steps_high_on w.ioc xs)))
    high [] = z
    high (p ∷ rest) = by_ioc _ (ioc.post_worked q (record w.ioc { high = rest }) p z.ioc_is)

    normal : (xs : List Post) → Kept (moves_or_idles w choice.IocNormal (move.ioc_works w (step.steps_normal_on w.ioc xs)))
    normal [] = z
    normal (p ∷ rest) = by_ioc _ (ioc.post_worked q (record w.ioc { normal = rest }) p z.ioc_is)

    out_put : (o : Option Out) → Kept (moves_or_idles w choice.IocOut (move.ioc_puts_out w o))
    out_put None = z
    out_put (Some x) = record { host_is = z.host_is; ioc_is = z.ioc_is; lanes = z.lanes }

    up_put : (c : Choice) (queue : ℕ) (o : Option Up) → Kept (moves_or_idles w c (move.ioc_puts w queue o))
    up_put c queue None = z
    up_put c queue (Some x) = record { host_is = z.host_is; ioc_is = ioc.up_sent q w.ioc queue z.ioc_is; lanes = length-set w.up queue _ ∙ z.lanes }

    put_above : (queue : ℕ) → Kept (moves_or_idles w (choice.IocPutOn queue) (move.ioc_puts_above w queue))
    put_above zero = z
    put_above (suc queue) = up_put (choice.IocPutOn (suc queue)) (suc queue) (front_up_on w.ioc (suc queue))

    -- ---- the fabric

    out_take : (xs : List Out) → Kept (moves_or_idles w choice.FabricTake (move.fabric_takes w xs))
    out_take [] = z
    out_take (x ∷ rest) = record { host_is = z.host_is; ioc_is = z.ioc_is; lanes = z.lanes }

    say : (o : Option Fabric) → Kept (moves_or_idles w choice.FabricSay (move.fabric_says w o))
    say None = z
    say (Some f) = record { host_is = z.host_is; ioc_is = z.ioc_is; lanes = z.lanes }

    back_put : (xs : List Back) → Kept (moves_or_idles w choice.FabricPut (move.fabric_puts w xs))
    back_put [] = z
    back_put (x ∷ rest) = record { host_is = z.host_is; ioc_is = z.ioc_is; lanes = z.lanes }

    performed : (tag : ℕ) (o : Option ℕ) → Kept (moves_or_idles w (choice.FabricRun tag) (move.fabric_ran w tag o (runs w.fabric tag).part))
    performed tag None = z
    performed tag (Some address) = record { host_is = z.host_is; ioc_is = z.ioc_is; lanes = z.lanes }

    by_fabric : (f : Fabric) → IsSized (record w { fabric = f })
    by_fabric f = record { host_is = z.host_is; ioc_is = z.ioc_is; lanes = z.lanes }

    -- ---- all

    chosen : (c : Choice) → Kept (case_of w (Chosen c))
    chosen choice.HostPut = host_put w.host.out
    chosen choice.HostTake = host_take choice.HostTake 0 (up_on w 0)
    chosen (choice.HostTakeOn queue) = take_above queue
    chosen choice.IocTake = ioc_take w.down
    chosen choice.IocHigh = high w.ioc.high
    chosen choice.IocNormal = normal w.ioc.normal
    chosen choice.IocOut = out_put (front_out w.ioc)
    chosen choice.IocBack = back_take w.back
    chosen choice.IocPut = up_put choice.IocPut 0 (front_up_on w.ioc 0)
    chosen (choice.IocPutOn queue) = put_above queue
    chosen choice.FabricTake = out_take w.out
    chosen choice.FabricSay = say (announces w.fabric)
    chosen choice.FabricPut = back_put w.fabric.out
    chosen (choice.FabricRun tag) = performed tag (runs w.fabric tag).answer

    told : (i : Input) → Kept (case_of w (Told i))
    told (input.Plug address expander phy) = by_fabric (fabric_told w.fabric (input.Plug address expander phy)).part
    told (input.Unplug address) = by_fabric (fabric_told w.fabric (input.Unplug address)).part
    told input.Start = by_host _ (host.told q w.host input.Start z.host_is)
    told (input.Submit n address form) = by_host _ (host.told q w.host (input.Submit n address form) z.host_is)
    told (input.Abort n) = by_host _ (host.told q w.host (input.Abort n) z.host_is)
    told (input.TargetReset address) = by_host _ (host.told q w.host (input.TargetReset address) z.host_is)
    told input.Reset = by_host _ (host.told q w.host input.Reset z.host_is)
    told input.UnitReset = by_host _ (host.told q w.host input.UnitReset z.host_is)

    lengths_kept : (c : Case) → IsSized (happens w c)
    lengths_kept (Told i) = told i
    lengths_kept (Chosen c) = chosen c
    lengths_kept HostLooks = by_host _ (host.looked q (is_free w.host) w.host z.host_is)
    lengths_kept HostStops = by_host _ (host.stopped q (is_free w.host) w.host z.host_is)
    lengths_kept FabricCalms = by_fabric (calms w.fabric)

-- ---- the fact

-- a world of which it holds has its lengths, of as many reply queues as the host has
lengths_of : (w : World) → Sizes w → IsSized (length w.host.indices) w
lengths_of w s =
    record {
      host_is = record { slots = s.pool; handles = s.phases; held = s.frames; queues = refl; marked = s.marks };
      ioc_is = record { outboxes = s.outboxes; places = s.requests; handles = s.bindings };
      lanes = s.lanes;
    }

sizes_of : (q : ℕ) (w : World) → IsSized q w → 1 ≤ q → q ≤ 8 → Sizes w
sizes_of q w z some few =
    record {
      pool = z.host_is.slots;
      frames = z.host_is.held;
      phases = z.host_is.handles;
      requests = z.ioc_is.places;
      bindings = z.ioc_is.handles;
      some_queue = subst (λ n. 1 ≤ n) (sym z.host_is.queues) some;
      few_queues = subst (λ n. n ≤ 8) (sym z.host_is.queues) few;
      marks = z.host_is.marked ∙ sym z.host_is.queues;
      outboxes = z.ioc_is.outboxes ∙ sym z.host_is.queues;
      lanes = z.lanes ∙ sym z.host_is.queues;
    }

pub sizes_kept : (w : World) (c : Case) → Sizes w → Sizes (happens w c)
sizes_kept w c s = sizes_of (length w.host.indices) (happens w c) (lengths_kept (length w.host.indices) w (lengths_of w s) c) s.some_queue s.few_queues

abbrev no_item : List Said
no_item = []

abbrev nothing_up : List Up
nothing_up = []

abbrev no_request : Option AtFabric
no_request = None

lengths_at_first : (s : Setting) → IsSized s.queues (first_world s)
lengths_at_first s =
    record {
      host_is = record { slots = length_free 280 free_slot; handles = length_free 64 phase.Absent; held = length_free 64 frame.Held; queues = length_free s.queues 0; marked = length_free s.queues false };
      ioc_is = record { outboxes = length_free s.queues no_item; places = length_free 280 no_request; handles = length_free 64 binding.Unbound };
      lanes = length_free s.queues nothing_up;
    }

pub sizes_at_first : (s : Setting) → IsSetting s → Sizes (first_world s)
sizes_at_first s i = sizes_of s.queues (first_world s) (lengths_at_first s) i.few_queues.0 i.few_queues.1

along : (w : World) (cs : List Case) → Sizes w → Sizes (run w cs)
along w [] s = s
along w (c ∷ cs) s = along (happens w c) cs (sizes_kept w c s)

pub sizes_stand : (s : Setting) (cases : List Case) → IsSetting s → Sizes (run (first_world s) cases)
sizes_stand s cases i = along (first_world s) cases (sizes_at_first s i)
