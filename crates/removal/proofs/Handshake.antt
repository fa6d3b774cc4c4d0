-- From each phase of the removal handshake to the handle's absence.
use Rattle.std.proofs.Common.{◌≡◌, ℕ, Bool, true, false, ◌==◌, if◌then◌else◌, List, [], ◌∷◌, inl, inr, refl, ap}
use Rattle.std.proofs.lemmas.Bool.{eqb-true}
use Rattle.removal.specs.declared.phase.Phase.TheVariants as phase
use Rattle.removal.specs.Removal.{Call, cleared, added, gone, page, task_done, removed, granted, after_calls, InOrder, IsUncleared}

removed_replied : (b : Bool) (smid replied : ℕ) (calls : List Call) → (smid == replied) ≡ b → after_calls (if b then phase.Absent else phase.Removing smid) calls ≡ phase.Absent
    → (after_calls (phase.Removing smid) calls ≡ phase.Absent → InOrder (removed smid ∷ []) calls) → InOrder (removed smid ∷ []) (removed replied ∷ calls)
removed_replied true smid replied calls same absent rest = inl (ap removed (eqb-true smid replied same), tt)
removed_replied false smid replied calls same absent rest = inr (rest absent)

pub from_removing : (smid : ℕ) (calls : List Call) → IsUncleared calls → after_calls (phase.Removing smid) calls ≡ phase.Absent → InOrder (removed smid ∷ []) calls
from_removing smid [] spared absent = cc
from_removing smid (cleared ∷ calls) spared absent = absurd spared
from_removing smid (added ∷ calls) spared absent = inr (from_removing smid calls spared absent)
from_removing smid (gone ∷ calls) spared absent = inr (from_removing smid calls spared absent)
from_removing smid (page replied answer ∷ calls) spared absent = inr (from_removing smid calls spared absent)
from_removing smid (task_done replied ∷ calls) spared absent = inr (from_removing smid calls spared absent)
from_removing smid (removed replied ∷ calls) spared absent = removed_replied (smid == replied) smid replied calls refl absent (from_removing smid calls spared)
from_removing smid (granted other ∷ calls) spared absent = inr (from_removing smid calls spared absent)

pub from_wait_internal : (calls : List Call) → IsUncleared calls → after_calls phase.WaitInternal calls ≡ phase.Absent → (remove : ℕ) × InOrder (granted remove ∷ removed remove ∷ []) calls
from_wait_internal [] spared absent = cc
from_wait_internal (cleared ∷ calls) spared absent = absurd spared
from_wait_internal (added ∷ calls) spared absent = let (remove, rest) = from_wait_internal calls spared absent in (remove, inr rest)
from_wait_internal (gone ∷ calls) spared absent = let (remove, rest) = from_wait_internal calls spared absent in (remove, inr rest)
from_wait_internal (page replied answer ∷ calls) spared absent = let (remove, rest) = from_wait_internal calls spared absent in (remove, inr rest)
from_wait_internal (task_done replied ∷ calls) spared absent = let (remove, rest) = from_wait_internal calls spared absent in (remove, inr rest)
from_wait_internal (removed replied ∷ calls) spared absent = let (remove, rest) = from_wait_internal calls spared absent in (remove, inr rest)
from_wait_internal (granted smid ∷ calls) spared absent = (smid, inl (refl, from_removing smid calls spared absent))

-- the remove device after a target reset that was answered
abbrev pub ResetThenRemoved : ℕ → List Call → Type 0
ResetThenRemoved reset calls = (remove : ℕ) × InOrder (task_done reset ∷ granted remove ∷ removed remove ∷ []) calls

reset_replied : (b : Bool) (smid replied : ℕ) (calls : List Call) → IsUncleared calls → (smid == replied) ≡ b → after_calls (if b then phase.WaitInternal else phase.Resetting smid) calls ≡ phase.Absent
    → (after_calls (phase.Resetting smid) calls ≡ phase.Absent → ResetThenRemoved smid calls) → ResetThenRemoved smid (task_done replied ∷ calls)
reset_replied true smid replied calls spared same absent rest =
    let (remove, after) = from_wait_internal calls spared absent in (remove, inl (ap task_done (eqb-true smid replied same), after))
reset_replied false smid replied calls spared same absent rest = let (remove, after) = rest absent in (remove, inr after)

pub from_resetting : (smid : ℕ) (calls : List Call) → IsUncleared calls → after_calls (phase.Resetting smid) calls ≡ phase.Absent → ResetThenRemoved smid calls
from_resetting smid [] spared absent = cc
from_resetting smid (cleared ∷ calls) spared absent = absurd spared
from_resetting smid (added ∷ calls) spared absent = let (remove, rest) = from_resetting smid calls spared absent in (remove, inr rest)
from_resetting smid (gone ∷ calls) spared absent = let (remove, rest) = from_resetting smid calls spared absent in (remove, inr rest)
from_resetting smid (page replied answer ∷ calls) spared absent = let (remove, rest) = from_resetting smid calls spared absent in (remove, inr rest)
from_resetting smid (task_done replied ∷ calls) spared absent = reset_replied (smid == replied) smid replied calls spared refl absent (from_resetting smid calls spared)
from_resetting smid (removed replied ∷ calls) spared absent = let (remove, rest) = from_resetting smid calls spared absent in (remove, inr rest)
from_resetting smid (granted other ∷ calls) spared absent = let (remove, rest) = from_resetting smid calls spared absent in (remove, inr rest)

-- the whole handshake, once the device is gone
abbrev pub GoneThenRemoved : List Call → Type 0
GoneThenRemoved calls = (reset remove : ℕ) × InOrder (granted reset ∷ task_done reset ∷ granted remove ∷ removed remove ∷ []) calls

pub from_wait_high : (calls : List Call) → IsUncleared calls → after_calls phase.WaitHigh calls ≡ phase.Absent → GoneThenRemoved calls
from_wait_high [] spared absent = cc
from_wait_high (cleared ∷ calls) spared absent = absurd spared
from_wait_high (added ∷ calls) spared absent = let (reset, remove, rest) = from_wait_high calls spared absent in (reset, remove, inr rest)
from_wait_high (gone ∷ calls) spared absent = let (reset, remove, rest) = from_wait_high calls spared absent in (reset, remove, inr rest)
from_wait_high (page replied answer ∷ calls) spared absent = let (reset, remove, rest) = from_wait_high calls spared absent in (reset, remove, inr rest)
from_wait_high (task_done replied ∷ calls) spared absent = let (reset, remove, rest) = from_wait_high calls spared absent in (reset, remove, inr rest)
from_wait_high (removed replied ∷ calls) spared absent = let (reset, remove, rest) = from_wait_high calls spared absent in (reset, remove, inr rest)
from_wait_high (granted smid ∷ calls) spared absent = let (remove, rest) = from_resetting smid calls spared absent in (smid, remove, inl (refl, rest))
