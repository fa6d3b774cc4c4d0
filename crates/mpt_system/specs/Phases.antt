-- What is counted of the handles' phases.
use Rattle.std.specs.Prelude.{◌<◌}
use Rattle.disk_machine.specs.declared.parts_summary.PartsSummary.{PartsSummary}

-- each count may rise by one
pub record HasRoomForOne (parts : PartsSummary) : Type 0 where
  pub reading : parts.reading < 255
  pub waiting : parts.waiting < 255
  pub resetting : parts.resetting < 255
  pub removing : parts.removing < 255
