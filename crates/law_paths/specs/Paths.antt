-- How far each command is on its path, shown of the world behind a case, and what is kept with it.
use Rattle.std.specs.Prelude.{◌≡◌, ℕ, true, All}
use Rattle.mpt_rules.specs.Ioc.Replies.{outbox_of}
use Rattle.mpt_rules.specs.World.State.{World, up_on}
use Rattle.law_facts.specs.History.{History}
use Rattle.law_facts.specs.Paths.{AbortWasTaken, BackStage, SaidStage, StageOfPlace, UpStage}
use Rattle.law_facts.specs.Words.{is_command_asked, slot}
use Rattle.law_returns.specs.Further.{FurtherFlights}
use Rattle.law_standing.specs.Written.{OutcomesFit}
use Rattle.law_paths.specs.Plain.{CommandsArePlain}
use Rattle.law_paths.specs.Tags.{TagsFit}

-- the stage of each open command is that of the place of its item
pub record StagesStand (w : World) (h : History) : Type 0 where
  pub places : (s : ℕ) → is_command_asked (slot w.host s) ≡ true → StageOfPlace w h s
  pub back : All (BackStage h) w.back
  pub said : (queue : ℕ) → All (SaidStage w h) (outbox_of w.ioc queue)
  pub up : (queue : ℕ) → All (UpStage w h) (up_on w queue)

-- an abort that waits in its queue has set the mark of its command
abbrev pub MarksStand : World → History → Type 0
MarksStand w h = (q : ℕ) → AbortWasTaken w h q (slot w.host q)

-- the further facts that are kept with all facts, and no other gives: of identifiers and frames, of what the fabric tells of tasks
-- that ended, of open commands, and that what disks answered fits the fields of replies
pub record FurtherPaths (w : World) (h : History) : Type 0 where
  pub flights : FurtherFlights w
  pub tags : TagsFit w
  pub plain : CommandsArePlain h
  pub outcomes : OutcomesFit h
