-- The facts of removals that are shown of the world behind a case.
use Rattle.std.specs.Prelude.{◌≡◌, ℕ, ◌≤◌, true, All}
use Rattle.removal.specs.Handles.{IsHandle}
use Rattle.mpt_rules.specs.World.Counts.{how_many}
use Rattle.mpt_rules.specs.World.Lines.{high_line, normal_line}
use Rattle.mpt_rules.specs.World.State.{World}
use Rattle.law_facts.specs.Clock.{is_live}
use Rattle.law_facts.specs.Handles.{PageIsBound, RemovalIsKnown, ResetIsBound, is_remove_post, removes, uses_handle}
use Rattle.law_facts.specs.History.{History}
use Rattle.law_facts.specs.Words.{behind, slot}

-- the rule of removals knows each remove device that is queued
abbrev pub RemovalsKnown : World → History → Type 0
RemovalsKnown w h = (s : ℕ) → RemovalIsKnown w h s (slot w.host s)

-- of `LastOfHandle`: one remove device at most is on its way to the queue of a handle, and nothing that uses the handle stands behind it
pub record LastInLine (w : World) (handle : ℕ) : Type 0 where
  pub one : removes w handle ≤ 1
  pub last : how_many (uses_handle w handle) (behind (is_remove_post w handle) (normal_line w)) ≡ 0

abbrev pub LastsInLine : World → Type 0
LastsInLine w = (handle : ℕ) → IsHandle handle → LastInLine w handle

-- a page read that is on its way has a bound handle
abbrev pub PagesAreBound : World → Type 0
PagesAreBound w = (handle : ℕ) → IsHandle handle → PageIsBound w handle

-- a target reset that is on its way has a handle that is bound to its address, and that of a removal a gone one
abbrev pub ResetsAreBound : World → Type 0
ResetsAreBound w = is_live w ≡ true → All (ResetIsBound w) (high_line w)
