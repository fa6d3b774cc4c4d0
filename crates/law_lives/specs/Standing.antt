-- The facts of phases and bindings that are shown of the world behind a case.
use Rattle.std.specs.Prelude.{◌≡◌, ℕ, ◌≤◌, true, map, length, Some, None, All}
use Rattle.removal.specs.Handles.{IsHandle}
use Rattle.mpt_wire.specs.Handles.Bindings.{Plug}
use Rattle.mpt_rules.specs.Ioc.Tables.{binding_of, is_unbound}
use Rattle.mpt_rules.specs.World.Counts.{how_many}
use Rattle.mpt_rules.specs.World.State.{World}
use Rattle.law_facts.specs.Clock.{in_normal}
use Rattle.law_facts.specs.Handles.{BindingIs, IsWaiting, KnownOnce, LifeOfHandle, PhaseRecords, PlugsDiffer, RecordHasPhase, is_plug, plug_of}
use Rattle.law_facts.specs.History.{History}
use Rattle.law_facts.specs.Words.{slot}

-- phases and records belong to each other, and what waits is what may; of `Waits`, that what waits means that no identifier is free isn't said
pub record PhasesStand (w : World) : Type 0 where
  pub phases : (handle : ℕ) → IsHandle handle → in_normal w ≡ true → PhaseRecords w handle
  pub records : in_normal w ≡ true → (s : ℕ) → RecordHasPhase w s (slot w.host s)
  pub high : All IsHandle w.host.wait_high
  pub internal : All IsWaiting w.host.wait_internal

-- the controller's bindings and the disks that wait are those of the rule of plugs; that they are let through isn't said
pub record BindingsStand (w : World) (h : History) : Type 0 where
  pub served : (handle : ℕ) → IsHandle handle → BindingIs (binding_of w.ioc handle) (h.serving.bound handle)
  pub aimed : (handle : ℕ) → IsHandle handle → h.aiming.bound handle ≡ h.serving.bound handle
  pub outside : (handle : ℕ) → (IsHandle handle → ⊥) → h.serving.bound handle ≡ None
  pub waiting : map plug_of w.ioc.waiting ≡ h.serving.waiting
  pub due : h.serving.due ≡ None
  pub full : 1 ≤ length w.ioc.waiting → how_many is_unbound w.ioc.bindings ≡ 0
  pub apart : (handle : ℕ) (p : Plug) → h.serving.bound handle ≡ Some p → how_many (is_plug p) h.serving.waiting ≡ 0
  pub known_once : (address : ℕ) → KnownOnce w address
  pub differ : (j k : ℕ) → PlugsDiffer h j k

-- what is on its way leads from each handle's phase to its binding
abbrev pub LivesStand : World → Type 0
LivesStand w = (handle : ℕ) → IsHandle handle → LifeOfHandle w handle
