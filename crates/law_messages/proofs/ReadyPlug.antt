-- A disk with a ready handle is ready for the machine.
use Rattle.std.proofs.Common.{◌≡◌, ℕ, ◌+◌, ◌-◌, ◌||◌, true, get_or, Option, Some, None, option_map, refl, ap, subst, arith}
use Rattle.std.specs.List.{position}
use Rattle.std.proofs.lemmas.Bool.{eqb-true}
use Rattle.std.proofs.lemmas.List.Quantifiers.{position-Some}
use Rattle.removal.specs.Handles.{ready_handle}
use Rattle.removal.specs.Phases.{is_ready_at}
use Rattle.removal.specs.declared.phase.Phase.{Phase}
use Rattle.removal.specs.declared.phase.Phase.TheVariants as phase
use Rattle.mpt_wire.specs.Handles.Bindings.{Plug}
use Rattle.mpt_wire.specs.Machine.Causes.{is_up}
use Rattle.mpt_trace.specs.declared.host_state.HostState.{HostState}
use Rattle.mpt_trace.specs.declared.host_state.HostState.TheVariants as state
use Rattle.mpt_rules.specs.Host.Takes.{is_starting}
use Rattle.mpt_rules.specs.World.State.{World}
use Rattle.law_facts.specs.Clock.{in_normal}
use Rattle.law_facts.specs.Disks.{ReadyFits}
use Rattle.law_facts.specs.Facts.{Facts}
use Rattle.law_facts.specs.Handles.{phase_of}
use Rattle.law_facts.specs.History.{History}

ready_names : (a : ℕ) (p : Phase) → is_ready_at a p ≡ true → p ≡ phase.Ready a
ready_names a (phase.Ready b) t = ap phase.Ready (eqb-true b a t)
ready_names a phase.Absent t = absurd (cc)
ready_names a phase.WaitRead t = absurd (cc)
ready_names a (phase.Reading s) t = absurd (cc)
ready_names a phase.WaitHigh t = absurd (cc)
ready_names a (phase.Resetting s) t = absurd (cc)
ready_names a phase.WaitInternal t = absurd (cc)
ready_names a (phase.Removing s) t = absurd (cc)

module _ (w : World) (h : History) (f : Facts w h) where
  normal : is_up w.host.mode ≡ true → in_normal w ≡ true
  normal u = by_mode w.host.mode u
    where
      by_mode : (m : HostState) → is_up m ≡ true → (is_starting m || is_up m) ≡ true
      by_mode state.Off u = absurd (cc)
      by_mode state.Starting u = absurd (cc)
      by_mode state.Up u = refl
      by_mode state.Resetting u = absurd (cc)

  pub ready_plug : (a handle : ℕ) → is_up w.host.mode ≡ true → ready_handle w.host.phases a ≡ Some handle → (k : ℕ) × (h.machine.ready a ≡ Some k)
  ready_plug a handle u e = by_place (position (is_ready_at a) w.host.phases) refl e
    where
      by_plug : (o : Option Plug) → ReadyFits h handle (phase.Ready a) o → (k : ℕ) × (h.machine.ready a ≡ Some k)
      by_plug None r = absurd r
      by_plug (Some p) r = (p.number, r.1)

      by_place : (o : Option ℕ) → position (is_ready_at a) w.host.phases ≡ o → option_map (λ place. 0x0009 + place) o ≡ Some handle → (k : ℕ) × (h.machine.ready a ≡ Some k)
      by_place None p e = absurd (cc)
      by_place (Some place) p e =
          let s = position-Some (is_ready_at a) w.host.phases place phase.Absent p in
          let q = s.1 in
          let z : 0x0009 + place ≡ handle = cc in
          let l = f.flights.sizes.phases in
          let i : place ≡ handle - 0x0009 = omega (arith, z) in
          let n : phase_of w handle ≡ phase.Ready a = ready_names a (phase_of w handle) (subst (λ j. is_ready_at a (get_or w.host.phases j phase.Absent) ≡ true) i q) in
          by_plug (h.serving.bound handle) (subst (λ p. ReadyFits h handle p (h.serving.bound handle)) n (f.disks.ready (normal u) handle (omega (arith, z), omega (arith, s.0, l, z))))
