-- The facts of handles that leave, shown of the world behind a case.
use Rattle.std.specs.Prelude.{◌≡◌, ℕ, true}
use Rattle.removal.specs.Handles.{IsHandle}
use Rattle.mpt_rules.specs.World.State.{World}
use Rattle.law_facts.specs.Clock.{in_normal}
use Rattle.law_facts.specs.Handles.{LeavingIs, phase_of}
use Rattle.law_facts.specs.History.{History}

-- the rule of leaving handles knows how far the host is with each
abbrev pub LeavingsKnown : World → History → Type 0
LeavingsKnown w h = (handle : ℕ) → IsHandle handle → in_normal w ≡ true → LeavingIs w (h.leaving handle) (phase_of w handle)
