-- The facts of resets that are shown of the world behind a case.
use Rattle.std.specs.Prelude.{◌≡◌, ℕ, ◌+◌, ◌≤◌, true, false, length}
use Rattle.mpt_rules.specs.World.Counts.{how_many}
use Rattle.mpt_rules.specs.World.FabricCounts.{discovered_count, discover_count}
use Rattle.mpt_rules.specs.World.Lines.{back_line, out_line}
use Rattle.mpt_rules.specs.World.State.{World}
use Rattle.law_facts.specs.Clock.{IsDark, Marks, ResetsSeen, enables, has_asked, in_reset, is_dark, is_live}
use Rattle.law_facts.specs.History.{History}
use Rattle.law_facts.specs.Words.{is_order}
use Rattle.law_clock.specs.Shown.{ShownClock}

-- what holds of the fabric between discovery and link, but for a host that is up
pub record OffBut (w : World) : Type 0 where
  pub dark : is_dark w ≡ true → IsDark w
  pub lit : is_live w ≡ true → has_asked w ≡ true → w.fabric.on ≡ true
  pub orders : 1 ≤ length w.fabric.tasks + how_many is_order (out_line w) → (w.fabric.on ≡ true) × (discover_count (out_line w) ≡ 0)
  pub one : in_reset w ≡ false → discover_count (out_line w) + discovered_count (back_line w) ≡ enables w
  pub at_most : discover_count (out_line w) + discovered_count (back_line w) ≤ 1
  pub asked : 1 ≤ enables w → w.ioc.enabled ≡ true

pub record ShownResets (w : World) (h : History) : Type 0 where
  pub clock : ShownClock w
  pub marks : Marks w
  pub resets_seen : ResetsSeen w h
  pub fabric_off : OffBut w
