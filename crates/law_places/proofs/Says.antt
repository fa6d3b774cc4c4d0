-- What the facts say of places, and of the doorbell where its tables have their lengths.
use Rattle.std.proofs.Common.{◌≡◌, ℕ, zero, suc, ◌≤◌, ◌⊎◌, inl, inr, ◌&&◌, Bool, true, false, refl, arith}
use Rattle.mpt_wire.specs.Machine.Causes.{is_resetting}
use Rattle.mpt_trace.specs.declared.host_state.HostState.{HostState}
use Rattle.mpt_trace.specs.declared.host_state.HostState.TheVariants as state
use Rattle.mpt_rules.specs.Law.{NothingIsStrange}
use Rattle.mpt_rules.specs.World.Cases.{Case, happens}
use Rattle.mpt_rules.specs.World.PlaceCounts.{frame_count, smid_count}
use Rattle.mpt_rules.specs.World.Settings.{Setting, first_world}
use Rattle.mpt_rules.specs.World.State.{World}
use Rattle.law_facts.specs.Clock.{in_begun}
use Rattle.law_facts.specs.DoorAhead.{Doorbell}
use Rattle.law_facts.specs.Facts.{Facts}
use Rattle.law_facts.specs.History.{History}
use Rattle.law_bells.specs.Talks.{TalksStand}
use Rattle.law_bells.proofs.BellsKept.{doorbell_kept}
use Rattle.law_sizes.proofs.SizesKept.{sizes_kept}
use Rattle.law_places.specs.Further.{VectorsFit}
use Rattle.law_places.specs.Shown.{HavePlaces}

module _ (mode : HostState) where
  resets : (b : Bool) → is_resetting mode ≡ b → b ≡ true → mode ≡ state.Resetting
  resets b e t = by_mode mode (e_is e t)
    where
      e_is : {c : Bool} → is_resetting mode ≡ b → b ≡ c → is_resetting mode ≡ c
      e_is x y = cc

      by_mode : (m : HostState) → is_resetting m ≡ true → m ≡ state.Resetting
      by_mode state.Off e = absurd (cc)
      by_mode state.Starting e = absurd (cc)
      by_mode state.Up e = absurd (cc)
      by_mode state.Resetting e = refl

  one_or_lost : (n : ℕ) → n ≤ 1 → (is_resetting mode ≡ false → n ≡ 1) → (n ≡ 1) ⊎ ((n ≡ 0) × (mode ≡ state.Resetting))
  one_or_lost n l f = by_mode (is_resetting mode) refl
    where
      by_number : (n : ℕ) → n ≤ 1 → mode ≡ state.Resetting → (n ≡ 1) ⊎ ((n ≡ 0) × (mode ≡ state.Resetting))
      by_number zero l m = inr (refl, m)
      by_number (suc zero) l m = inl refl
      by_number (suc (suc k)) l m = absurd (omega (arith, l))

      by_mode : (b : Bool) → is_resetting mode ≡ b → (n ≡ 1) ⊎ ((n ≡ 0) × (mode ≡ state.Resetting))
      by_mode false e = inl (f e)
      by_mode true e = by_number n l (resets true e refl)

pub have_places : (w : World) (h : History) → Facts w h → HavePlaces w
have_places w h f =
    record {
      identifiers = λ s l m. let i = f.flights.identifiers s l m in one_or_lost w.host.mode (smid_count w s) i.at_most i.found;
      frames = λ a m. let i = f.flights.frames a m in one_or_lost w.host.mode (frame_count w a) i.at_most (λ r. i.found (begun r));
    }
  where
    begun : is_resetting w.host.mode ≡ false → in_begun w ≡ false
    begun r = by_bool (is_resetting w.host.mode) r
      where
        by_bool : (b : Bool) → b ≡ false → (b && Rattle.law_facts.specs.Clock.are_level w) ≡ false
        by_bool true e = absurd (cc)
        by_bool false e = refl

pub vectors_at_first : (s : Setting) → VectorsFit (first_world s)
vectors_at_first s = omega arith

pub doorbells : (w : World) (h : History) (c : Case) → Facts w h → NothingIsStrange w → TalksStand w → Doorbell (happens w c)
doorbells w h c f plain t = doorbell_kept w h c f plain t (sizes_kept w c f.flights.sizes)
