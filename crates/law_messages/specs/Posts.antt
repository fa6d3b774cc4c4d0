-- Each post on its way down, or queued, is what the record of its identifier names.
use Rattle.std.specs.Prelude.{All}
use Rattle.mpt_rules.specs.World.Lines.{down_line}
use Rattle.mpt_rules.specs.World.State.{World}
use Rattle.law_facts.specs.History.{History}
use Rattle.law_facts.specs.Messages.{DownIsRecord, PostIsRecord}

pub record PostsStand (w : World) (h : History) : Type 0 where
  pub down : All (DownIsRecord w h) (down_line w)
  pub high : All (PostIsRecord w h) w.ioc.high
  pub normal : All (PostIsRecord w h) w.ioc.normal
