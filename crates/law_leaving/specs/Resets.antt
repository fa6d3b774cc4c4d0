-- The order of a handle's target resets, shown of the world behind a case.
use Rattle.std.specs.Prelude.{◌≡◌, ℕ, ◌&&◌, true}
use Rattle.std.specs.List.{list_any}
use Rattle.removal.specs.Handles.{IsHandle}
use Rattle.mpt_rules.specs.Ioc.Commands.{is_held_for}
use Rattle.mpt_rules.specs.World.Counts.{how_many}
use Rattle.mpt_rules.specs.World.Lines.{high_line}
use Rattle.mpt_rules.specs.World.State.{World}
use Rattle.law_facts.specs.Clock.{is_live}
use Rattle.law_facts.specs.Handles.{is_leave_post, is_target_reset_post, leaves}
use Rattle.law_facts.specs.Words.{behind, slot}

-- of `ResetsInOrder`: no target reset of the handle stands behind that of its removal
abbrev pub LastReset : World → ℕ → Type 0
LastReset w handle = is_live w ≡ true → how_many (is_target_reset_post handle) (behind (is_leave_post w handle) (high_line w)) ≡ 0

abbrev pub LastResets : World → Type 0
LastResets w = (handle : ℕ) → IsHandle handle → LastReset w handle

-- and none is there where that of its removal waits at the controller
abbrev pub HeldReset : World → ℕ → Type 0
HeldReset w handle =
    is_live w ≡ true → list_any (λ r. is_held_for handle r && leaves handle (slot w.host r.smid)) w.ioc.held ≡ true → how_many (is_target_reset_post handle) (high_line w) ≡ 0

abbrev pub HeldLast : World → Type 0
HeldLast w = (handle : ℕ) → IsHandle handle → HeldReset w handle
