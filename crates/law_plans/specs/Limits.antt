-- The limits that each plan keeps.
use Rattle.std.specs.Prelude.{◌<◌, length}
use Rattle.mpt_script.specs.PlanParts.{PlanParts}
use Rattle.mpt_rules.specs.World.Settings.{IsSetting, Setting}

-- what the session of a plan is made with
abbrev pub plan_setting : PlanParts → Setting
plan_setting p = record { disks = p.disks; phys = p.phys; queues = p.queues }

-- the plan's setting is within the limits, and it has eight submitters at most
pub record KeepsPlanLimits (p : PlanParts) : Type 0 where
  pub setting : IsSetting (plan_setting p)
  pub submitters : length p.submitters < 9
