-- What is at the fabric, and what comes from it, is of the host's records.
use Rattle.std.specs.Prelude.{All}
use Rattle.mpt_rules.specs.World.Lines.{back_line}
use Rattle.mpt_rules.specs.World.State.{World}
use Rattle.law_facts.specs.History.{History}
use Rattle.law_facts.specs.Messages.{BackIs, HeldIs, TaskIs}

-- each task is that of an open command, and each result is the machine's
pub record TasksStand (w : World) (h : History) : Type 0 where
  pub tasks : All (TaskIs h) w.fabric.tasks
  pub back : All (BackIs h) (back_line w)

-- each target reset that waits at the controller is one that was asked, or a removal's
abbrev pub ResetsWait : World → Type 0
ResetsWait w = All (HeldIs w) w.ioc.held
