-- What a case asks of what is ready: the handles that are, what they are bound to, and the machine's plugs.
use Rattle.std.proofs.Common.{◌≡◌, ℕ, ◌+◌, ◌-◌, ◌≤◌, ◌<◌, ◌==◌, ◌||◌, ◌⊎◌, inl, inr, Bool, true, false, cond, if◌then◌else◌, List, [], ◌∷◌, Option, Some, None, is_some, option_map, refl, ap, sym, ◌∙◌, subst, arith}
use Rattle.std.proofs.lemmas.Bool.{eqb-true}
use Rattle.removal.specs.Handles.{IsHandle, phase_at}
use Rattle.removal.specs.Phases.{is_ready_at}
use Rattle.removal.specs.declared.phase.Phase.{Phase}
use Rattle.removal.specs.declared.phase.Phase.TheVariants as phase
use Rattle.mpt_wire.specs.Handles.Bindings.{Plug}
use Rattle.mpt_wire.specs.Machine.Causes.{is_resetting, is_up}
use Rattle.mpt_trace.specs.declared.host_state.HostState.{HostState}
use Rattle.mpt_trace.specs.declared.host_state.HostState.TheVariants as state
use Rattle.mpt_rules.specs.declared.binding.Binding.{Binding}
use Rattle.mpt_rules.specs.declared.binding.Binding.TheVariants as binding
use Rattle.mpt_rules.specs.Host.Takes.{is_starting}
use Rattle.mpt_rules.specs.Ioc.Tables.{binding_of}
use Rattle.mpt_rules.specs.World.Counts.{how_many, one_if}
use Rattle.mpt_rules.specs.World.Lines.{up_line}
use Rattle.mpt_rules.specs.World.State.{World}
use Rattle.mpt_rules.specs.World.Weight.{is_gone_binding}
use Rattle.law_facts.specs.Clock.{in_normal, is_live}
use Rattle.law_facts.specs.Disks.{ReadyAddress, ReadyFits, ReadyHandle}
use Rattle.law_facts.specs.Facts.{Facts}
use Rattle.law_facts.specs.Handles.{Left, Side, There, phase_of, removal_of, replayed, side_of_binding, side_of_phase, tells_added, tells_gone, turns_of}
use Rattle.law_facts.specs.History.{History}
use Rattle.law_facts.specs.Words.{behind, is_off}
use Rattle.law_messages.proofs.Agreeing.{same}
use Rattle.law_moves.proofs.Counted.{later-is, later-le}
use Rattle.law_ready.specs.Ready.{OffReady}
use Rattle.law_ready.proofs.Lines.{going, there_stays, two_pass}
use Rattle.law_ready.proofs.Turned.{ready_at}

-- what a ready handle is bound to is ready, and was made so last
abbrev pub Fits : Option ℕ → Option Plug → (ℕ → Option ℕ) → (ℕ → ℕ) → Type 0
Fits None plug ready made = Unit {0}
Fits (Some a) None ready made = ⊥
Fits (Some a) (Some p) ready made = (p.address ≡ a) × (ready a ≡ Some p.number) × (made a ≡ p.number)

pub fits_of : (h : History) (handle : ℕ) (p : Phase) (o : Option Plug) → ReadyFits h handle p o → Fits (ready_at p) o h.machine.ready h.machine.made
fits_of h handle (phase.Ready a) (Some p) r = r
fits_of h handle (phase.Ready a) None r = r
fits_of h handle phase.Absent o r = tt
fits_of h handle phase.WaitRead o r = tt
fits_of h handle (phase.Reading s) o r = tt
fits_of h handle phase.WaitHigh o r = tt
fits_of h handle (phase.Resetting s) o r = tt
fits_of h handle phase.WaitInternal o r = tt
fits_of h handle (phase.Removing s) o r = tt

pub of_fits : (h : History) (handle : ℕ) (p : Phase) (o : Option Plug) → Fits (ready_at p) o h.machine.ready h.machine.made → ReadyFits h handle p o
of_fits h handle (phase.Ready a) (Some p) r = r
of_fits h handle (phase.Ready a) None r = r
of_fits h handle phase.Absent o r = tt
of_fits h handle phase.WaitRead o r = tt
of_fits h handle (phase.Reading s) o r = tt
of_fits h handle phase.WaitHigh o r = tt
of_fits h handle (phase.Resetting s) o r = tt
of_fits h handle phase.WaitInternal o r = tt
of_fits h handle (phase.Removing s) o r = tt

pub ready_phase : (p : Phase) (a : ℕ) → ready_at p ≡ Some a → p ≡ phase.Ready a
ready_phase (phase.Ready b) a e = let z : b ≡ a = cc in ap phase.Ready z
ready_phase phase.Absent a e = absurd (cc)
ready_phase phase.WaitRead a e = absurd (cc)
ready_phase (phase.Reading s) a e = absurd (cc)
ready_phase phase.WaitHigh a e = absurd (cc)
ready_phase (phase.Resetting s) a e = absurd (cc)
ready_phase phase.WaitInternal a e = absurd (cc)
ready_phase (phase.Removing s) a e = absurd (cc)

either_mode : (m : HostState) → is_resetting m ≡ false → (is_off m ≡ true) ⊎ ((is_starting m || is_up m) ≡ true)
either_mode state.Off e = inl refl
either_mode state.Starting e = inr refl
either_mode state.Up e = inr refl
either_mode state.Resetting e = absurd (cc)

module _ (w : World) (h : History) (f : Facts w h) (off : OffReady w h) where
  pub handle_before : is_resetting w.host.mode ≡ false → (g : ℕ) → IsHandle g → Fits (ready_at (phase_of w g)) (h.serving.bound g) h.machine.ready h.machine.made
  handle_before m g i = by_mode (either_mode w.host.mode m)
    where
      by_mode : (is_off w.host.mode ≡ true) ⊎ ((is_starting w.host.mode || is_up w.host.mode) ≡ true) → Fits (ready_at (phase_of w g)) (h.serving.bound g) h.machine.ready h.machine.made
      by_mode (inl e) = fits_of h g (phase_of w g) (h.serving.bound g) (off.handles e g i)
      by_mode (inr e) = fits_of h g (phase_of w g) (h.serving.bound g) (f.disks.ready e g i)

  pub address_before : is_resetting w.host.mode ≡ false → (a : ℕ) → ReadyAddress w h a
  address_before m a = by_mode (either_mode w.host.mode m)
    where
      by_mode : (is_off w.host.mode ≡ true) ⊎ ((is_starting w.host.mode || is_up w.host.mode) ≡ true) → ReadyAddress w h a
      by_mode (inl e) = off.addresses e a
      by_mode (inr e) = f.disks.ready_once e a

  -- no two handles are ready for an address
  pub one_ready : is_resetting w.host.mode ≡ false → (a j k : ℕ) → IsHandle j → IsHandle k → (j == k) ≡ false → phase_of w j ≡ phase.Ready a → phase_of w k ≡ phase.Ready a → ⊥
  one_ready m a j k i l n p q =
      let z = address_before m a in
      let few : one_if (is_some (h.machine.ready a)) ≤ 1 = at_most (is_some (h.machine.ready a)) in
      let two = two_pass (is_ready_at a) phase.Absent refl w.host.phases (j - 9) (k - 9) (apart n) (ap (is_ready_at a) p ∙ same a) (ap (is_ready_at a) q ∙ same a) in
      omega (arith, z, few, two)
    where
      at_most : (b : Bool) → one_if b ≤ 1
      at_most true = omega arith
      at_most false = omega arith

      apart : (j == k) ≡ false → j - 9 ≡ k - 9 → ⊥
      apart n e = let a = i.0 in let b = l.0 in let z : j ≡ k = omega (arith, e, a, b) in let y : true ≡ false = sym (same k) ∙ (ap (λ x. x == k) (sym z) ∙ n) in cc

  -- ---- while the host waits for a page of a handle, none is ready for its address

  module _ (s k a : ℕ) (i : IsHandle k) (was : phase_of w k ≡ phase.Reading s) (p : Plug) (bound : h.serving.bound k ≡ Some p) (at : p.address ≡ a) (normal : in_normal w ≡ true) (live : is_live w ≡ true) where
    -- none adds it again
    pub not_added : how_many (tells_added k) (up_line w 0) ≡ 0
    not_added =
        let l = (f.handles.each k i).life normal live in
        there_stays k (up_line w 0) (side_of_binding (binding_of w.ioc k)) (subst (λ q. replayed (Some (side_of_phase q)) (turns_of (removal_of q) k (up_line w 0)) ≡ Some (side_of_binding (binding_of w.ioc k))) was l)

    gone_side : (b : Binding) → is_gone_binding b ≡ true → side_of_binding b ≡ Left
    gone_side binding.Unbound e = absurd (cc)
    gone_side (binding.Present b n x y) e = absurd (cc)
    gone_side (binding.Gone b) e = refl

    -- an older plug of the address would be gone, and this one added behind
    pub none_older : (j : ℕ) → IsHandle j → (q : Plug) → h.serving.bound j ≡ Some q → q.address ≡ a → q.number < p.number → 1 ≤ how_many (tells_gone j) (up_line w 0) → ⊥
    none_older j l q e b less told =
        let bj : h.serving.bound j ≡ Some (record { address = a; number = q.number }) = e ∙ ap (λ x. Some (record { address = x; number = q.number })) b in
        let bk : h.serving.bound k ≡ Some (record { address = a; number = p.number }) = bound ∙ ap (λ x. Some (record { address = x; number = p.number })) at in
        let z = (f.handles.older j k).first a q.number p.number normal live bj bk less told in
        let y = later-is (tells_gone j) (tells_added k) (up_line w 0) in
        let x = later-le (tells_gone j) (tells_added k) (up_line w 0) in
        let n = not_added in
        omega (arith, z, y, x, n)

    pub none_ready : (j : ℕ) → IsHandle j → phase_of w j ≡ phase.Ready a → ⊥
    none_ready j l r = by_plug (h.serving.bound j) refl (subst (λ q. ReadyFits h j q (h.serving.bound j)) r (f.disks.ready normal j l))
      where
        by_plug : (o : Option Plug) → h.serving.bound j ≡ o → ReadyFits h j (phase.Ready a) o → ⊥
        by_plug None e t = t
        by_plug (Some q) e t =
            let new : h.machine.made p.address < p.number = f.disks.new normal k p live bound (ap (Rattle.law_facts.specs.Disks.will_be_read w k) was) in
            let new2 : h.machine.made a < p.number = subst (λ x. h.machine.made x < p.number) at new in
            let m = t.2 in
            let less : q.number < p.number = omega (arith, new2, m) in
            let bj : h.serving.bound j ≡ Some (record { address = a; number = q.number }) = e ∙ ap (λ x. Some (record { address = x; number = q.number })) t.0 in
            let bk : h.serving.bound k ≡ Some (record { address = a; number = p.number }) = bound ∙ ap (λ x. Some (record { address = x; number = p.number })) at in
            let g = (f.handles.older j k).gone a q.number p.number normal live bj bk less in
            let lj = (f.handles.each j l).life normal live in
            let lr : replayed (Some There) (turns_of 0 j (up_line w 0)) ≡ Some (side_of_binding (binding_of w.ioc j)) = subst (λ x. replayed (Some (side_of_phase x)) (turns_of (removal_of x) j (up_line w 0)) ≡ Some (side_of_binding (binding_of w.ioc j))) r lj in
            none_older j l q e t.0 less (going j (up_line w 0) (lr ∙ ap Some (gone_side (binding_of w.ioc j) g)))
