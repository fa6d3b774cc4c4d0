-- The parts of a plan.
use Rattle.std.specs.Prelude.{ℕ, List}
use Rattle.mpt_trace.specs.declared.disk_spec.DiskSpec.{DiskSpec}
use Rattle.mpt_trace.specs.declared.input.Input.{Input}

-- the number of reply post queues, the disks, the expanders' numbers of phys, the plugs before the
-- first submitter, each submitter's inputs, and those of the fabric's block
pub record PlanParts : Type 0 where
  pub queues : ℕ
  pub disks : List DiskSpec
  pub phys : List ℕ
  pub plugs : List Input
  pub submitters : List (List Input)
  pub fabric : List Input
