use Rattle.std.proofs.Common.{◌≡◌, ℕ, List, [], ◌∷◌, inl, inr, refl}
use Rattle.removal.specs.declared.phase.Phase.TheVariants as phase
use Rattle.removal.specs.Removal.{Call, cleared, added, gone, page, task_done, removed, granted, after_calls, IsUncleared, RemovedByHandshake}
use Rattle.removal.proofs.Handshake.{from_wait_high}
use Rattle.removal.proofs.law.ready_is_removed_by_handshake.Goals as goal

from_ready : (address : ℕ) (calls : List Call) → IsUncleared calls → after_calls (phase.Ready address) calls ≡ phase.Absent → RemovedByHandshake calls
from_ready address [] spared absent = cc
from_ready address (cleared ∷ calls) spared absent = absurd spared
from_ready address (added ∷ calls) spared absent = let (reset, remove, rest) = from_ready address calls spared absent in (reset, remove, inr rest)
from_ready address (gone ∷ calls) spared absent = let (reset, remove, rest) = from_wait_high calls spared absent in (reset, remove, inl (refl, rest))
from_ready address (page replied answer ∷ calls) spared absent = let (reset, remove, rest) = from_ready address calls spared absent in (reset, remove, inr rest)
from_ready address (task_done replied ∷ calls) spared absent = let (reset, remove, rest) = from_ready address calls spared absent in (reset, remove, inr rest)
from_ready address (removed replied ∷ calls) spared absent = let (reset, remove, rest) = from_ready address calls spared absent in (reset, remove, inr rest)
from_ready address (granted smid ∷ calls) spared absent = let (reset, remove, rest) = from_ready address calls spared absent in (reset, remove, inr rest)

pub returns : goal.returns
returns c = from_ready
