-- What a start has before it: up to the end of its handshakes the controller has nothing, and nothing is on its way to or from it.
use Rattle.std.specs.Prelude.{◌≡◌, ℕ, true, is_some}
use Rattle.mpt_rules.specs.Host.Takes.{is_starting}
use Rattle.mpt_rules.specs.World.Counts.{how_many}
use Rattle.mpt_rules.specs.World.Lines.{down_line, up_line}
use Rattle.mpt_rules.specs.World.State.{World}
use Rattle.law_facts.specs.Clock.{HasNothing}
use Rattle.law_facts.specs.Words.{is_load, is_reply}

pub record IsBareAhead (w : World) : Type 0 where
  pub loads : how_many is_load (down_line w) ≡ 0
  pub replies : (queue : ℕ) → how_many is_reply (up_line w queue) ≡ 0
  pub tables : HasNothing w

abbrev pub StartsBare : World → Type 0
StartsBare w = is_starting w.host.mode ≡ true → is_some w.host.machine ≡ true → IsBareAhead w
