-- What lies between a ready device and its handle's next absence.
use Rattle.std.specs.Prelude.{◌≡◌, ℕ, List, [], ◌∷◌, ◌⊎◌}
use Rattle.std.specs.declared.option.Option.{Option}
use Rattle.removal.specs.declared.phase.Phase.{Phase}
use Rattle.removal.specs.declared.phase.Phase.TheVariants as phase
use Rattle.removal.specs.Phases.{after_added, after_gone, after_page, after_task_done, after_removed, after_grant}

-- a call that concerns one handle; `cleared` concerns all of them
pub data Call : Type 0 where
  cleared : Call
  added : Call
  gone : Call
  page : ℕ → Option ℕ → Call
  task_done : ℕ → Call
  removed : ℕ → Call
  granted : ℕ → Call

abbrev pub after_call : Phase → Call → Phase
after_call p cleared = phase.Absent
after_call p added = after_added p
after_call p gone = after_gone p
after_call p (page smid answer) = after_page p smid answer
after_call p (task_done smid) = after_task_done p smid
after_call p (removed smid) = after_removed p smid
after_call p (granted smid) = after_grant p smid

abbrev pub after_calls : Phase → List Call → Phase
after_calls p [] = p
after_calls p (call ∷ calls) = after_calls (after_call p call) calls

-- the first calls stand among the second, in this order
abbrev pub InOrder : List Call → List Call → Type 0
InOrder [] calls = Unit {0}
InOrder (x ∷ xs) [] = ⊥
InOrder (x ∷ xs) (call ∷ calls) = ((x ≡ call) × InOrder xs calls) ⊎ InOrder (x ∷ xs) calls

-- the table wasn't cleared
abbrev pub IsUncleared : List Call → Type 0
IsUncleared [] = Unit {0}
IsUncleared (cleared ∷ calls) = ⊥
IsUncleared (added ∷ calls) = IsUncleared calls
IsUncleared (gone ∷ calls) = IsUncleared calls
IsUncleared (page smid answer ∷ calls) = IsUncleared calls
IsUncleared (task_done smid ∷ calls) = IsUncleared calls
IsUncleared (removed smid ∷ calls) = IsUncleared calls
IsUncleared (granted smid ∷ calls) = IsUncleared calls

-- a target reset was posted and answered, and after it a remove device was posted and answered
abbrev pub RemovedByHandshake : List Call → Type 0
RemovedByHandshake calls = (reset remove : ℕ) × InOrder (gone ∷ granted reset ∷ task_done reset ∷ granted remove ∷ removed remove ∷ []) calls

-- no handle of a ready device becomes absent in another way, unless the table is cleared
abbrev pub ReadyIsRemovedByHandshake : Type 0
ReadyIsRemovedByHandshake = (address : ℕ) (calls : List Call) → IsUncleared calls
    → after_calls (phase.Ready address) calls ≡ phase.Absent → RemovedByHandshake calls
