-- The handle that a look for an address finds.
use Rattle.std.proofs.Common.{◌≡◌, ℕ, ◌+◌, ◌-◌, true, List, Some, position, get_or, ap, ◌∙◌, arith}
use Rattle.std.proofs.lemmas.List.Quantifiers.{position-Some}
use Rattle.removal.specs.declared.phase.Phase.{Phase}
use Rattle.removal.specs.declared.phase.Phase.TheVariants as phase
use Rattle.removal.specs.Phases.{is_ready_at}
use Rattle.removal.specs.Handles.{phase_at}
use Rattle.std.proofs.lemmas.Bool.{eqb-true}

ready_only : (address : ℕ) (p : Phase) → is_ready_at address p ≡ true → p ≡ phase.Ready address
ready_only address phase.Absent passes = cc
ready_only address phase.WaitRead passes = cc
ready_only address (phase.Reading smid) passes = cc
ready_only address (phase.Ready a) passes = ap phase.Ready (eqb-true a address passes)
ready_only address phase.WaitHigh passes = cc
ready_only address (phase.Resetting smid) passes = cc
ready_only address phase.WaitInternal passes = cc
ready_only address (phase.Removing smid) passes = cc

pub ready_at_place : (phases : List Phase) (address place : ℕ) → position (is_ready_at address) phases ≡ Some place → phase_at phases (9 + place) ≡ phase.Ready address
ready_at_place phases address place found =
    let same : (9 + place) - 9 ≡ place = omega arith in
    ap (λ k. get_or phases k phase.Absent) same ∙ ready_only address (get_or phases place phase.Absent) (position-Some (is_ready_at address) phases place phase.Absent found).1
