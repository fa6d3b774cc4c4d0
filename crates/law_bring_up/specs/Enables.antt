-- What the start's two requests rest on beside the facts.
use Rattle.std.specs.Prelude.{◌≡◌, ◌+◌, ◌≤◌, true, false}
use Rattle.mpt_rules.specs.World.Counts.{how_many}
use Rattle.mpt_rules.specs.World.State.{World}
use Rattle.law_facts.specs.Clock.{in_begun, is_live}
use Rattle.law_facts.specs.Messages.{is_enable_waiting, notifications, port_enables}

pub record EnablesStand (w : World) : Type 0 where
  -- while a port enable waits for an identifier the port isn't enabled, and events are let through
  pub waiting : is_live w ≡ true → 1 ≤ how_many is_enable_waiting w.host.wait_internal → (w.ioc.enabled ≡ false) × (w.ioc.through ≡ true)
  -- neither is open while the controller isn't OPERATIONAL and hasn't begun a reset
  pub none : in_begun w ≡ false → is_live w ≡ false → notifications w + port_enables w ≡ 0
