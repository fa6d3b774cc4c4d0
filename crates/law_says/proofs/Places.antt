-- One place for each identifier and each reply frame, and no FAULT.
use Rattle.std.proofs.Common.{◌≡◌, ℕ, zero, suc, ◌≤◌, ◌&&◌, ◌==◌, ◌⊎◌, inl, inr, Bool, true, false, refl, arith}
use Rattle.mpt_trace.specs.declared.host_state.HostState.{HostState}
use Rattle.mpt_trace.specs.declared.host_state.HostState.TheVariants as state
use Rattle.mpt_wire.specs.Machine.Causes.{is_resetting}
use Rattle.mpt_rules.specs.Law.{FramesHaveOnePlace, IdentifiersHaveOnePlace, NothingFaults}
use Rattle.mpt_rules.specs.World.PlaceCounts.{frame_count, smid_count}
use Rattle.mpt_rules.specs.World.State.{World}
use Rattle.law_facts.specs.Clock.{in_begun}
use Rattle.law_facts.specs.Facts.{Facts}
use Rattle.law_facts.specs.History.{History}

-- none or one
few : (n : ℕ) → n ≤ 1 → (n ≡ 1) ⊎ (n ≡ 0)
few zero l = inr refl
few (suc zero) l = inl refl
few (suc (suc n)) l = absurd (omega (arith, l))

pub mode_is : (m : HostState) → is_resetting m ≡ true → m ≡ state.Resetting
mode_is state.Off e = absurd (cc)
mode_is state.Starting e = absurd (cc)
mode_is state.Up e = absurd (cc)
mode_is state.Resetting e = refl

-- of a count that is 1 at most, and 1 unless b
one_or_none : (n : ℕ) (m : HostState) (b : Bool) → n ≤ 1 → (b ≡ false → n ≡ 1) → (b ≡ true → is_resetting m ≡ true) → (n ≡ 1) ⊎ ((n ≡ 0) × (m ≡ state.Resetting))
one_or_none n m false l one mode = inl (one refl)
one_or_none n m true l one mode = by_count (few n l)
  where
    by_count : (n ≡ 1) ⊎ (n ≡ 0) → (n ≡ 1) ⊎ ((n ≡ 0) × (m ≡ state.Resetting))
    by_count (inl e) = inl e
    by_count (inr e) = inr (e, mode_is m (mode refl))

first_of_both : (a b : Bool) → (a && b) ≡ true → a ≡ true
first_of_both true b e = refl
first_of_both false b e = absurd (cc)

module _ (w : World) (h : History) (f : Facts w h) where
  pub identifiers_say : IdentifiersHaveOnePlace w
  identifiers_say s a b =
      let i = f.flights.identifiers s a b in
      one_or_none (smid_count w s) w.host.mode (is_resetting w.host.mode) i.at_most i.found (λ e. e)

  pub frames_say : FramesHaveOnePlace w
  frames_say a l =
      let i = f.flights.frames a l in
      one_or_none (frame_count w a) w.host.mode (in_begun w) i.at_most i.found (λ e. first_of_both (is_resetting w.host.mode) (w.host.asked == w.ioc.generation) e)

  pub whole_say : NothingFaults w
  whole_say = f.clock.phase_table.whole
