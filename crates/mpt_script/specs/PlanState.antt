-- The plan so far.
use Rattle.std.specs.Prelude.{ℕ, List}
use Rattle.mpt_script.specs.declared.planning.Block.{Block}
use Rattle.mpt_script.specs.Declarations.{Declared}
use Rattle.mpt_script.specs.PlanParts.{PlanParts}

-- the block that is being read, what was declared, the submissions' numbers, how many lines the
-- submitters have, and the plan's parts
pub record PlanState : Type 0 where
  pub block : Block
  pub declared : Declared
  pub numbers : List ℕ
  pub lines : ℕ
  pub plan : PlanParts
