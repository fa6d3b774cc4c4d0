-- What goes along the induction beside the facts: each holds of the first world, and each case keeps it where the facts hold.
use Rattle.mpt_rules.specs.World.State.{World}
use Rattle.law_facts.specs.Facts.{Facts}
use Rattle.law_facts.specs.History.{History}
use Rattle.law_bell_status.specs.Bells.{BellStands}
use Rattle.law_bells.specs.Talks.{TalksStand}
use Rattle.law_bring_up.specs.Enables.{EnablesStand}
use Rattle.law_classes.specs.Made.{NotificationsStand}
use Rattle.law_counts.specs.Counted.{CountsFit, FabricAnswers}
use Rattle.law_disks.specs.Machine.{ReadyWasPlugged}
use Rattle.law_notices.specs.Further.{DisksStandApart, DisksWerePlugged}
use Rattle.law_outcomes.specs.Stages.{RunsByStage}
use Rattle.law_pages.specs.Paged.{OtherPagesUnknown}
use Rattle.law_ready.specs.Ready.{OffReady}
use Rattle.law_stopping.specs.Stopping.{TurnsKnown}
use Rattle.law_messages.specs.Numbers.{AbortsAreAccepted}
use Rattle.law_paths.specs.Paths.{FurtherPaths}
use Rattle.law_paths.specs.Payloads.{PayloadsFit}
use Rattle.law_replies.specs.Events.{EventsStand}
use Rattle.law_requests.specs.Bytes.{CommandsAreBytes}
use Rattle.law_returns.specs.Further.{FurtherFlights}
use Rattle.law_says.specs.Premises.{DescriptorsStand}
use Rattle.law_standing.specs.Written.{OutcomesFit, RepliesAreWritten}
use Rattle.law_stops.specs.Stops.{EndsAgree}
use Rattle.law_talks.specs.Talking.{TalkStands}
use Rattle.law_targets.specs.Targets.{NoOrdersBeforeInit, OffHostsKnown}
use Rattle.law_ties.specs.Holders.{HoldersAgree}
use Rattle.law_ties.specs.Shown.{IndicesAreOfQueues}

pub record Further (w : World) (h : History) : Type 0 where
  pub descriptors : DescriptorsStand w
  pub handshakes : TalksStand w
  pub flights : FurtherFlights w
  pub aborts : AbortsAreAccepted w
  pub outcomes : OutcomesFit h
  pub replies : RepliesAreWritten w
  pub notifications : NotificationsStand w
  pub indices : IndicesAreOfQueues w
  pub holders : HoldersAgree w h
  pub enables : EnablesStand w
  pub commands : CommandsAreBytes h
  pub events : EventsStand w
  pub bell : BellStands w h.bell
  pub words : TalkStands w h
  pub off_hosts : OffHostsKnown w h
  pub orders : NoOrdersBeforeInit w
  pub paths : FurtherPaths w h
  pub payloads : PayloadsFit h
  pub answers : FabricAnswers w h
  pub counts : CountsFit w
  pub ends : EndsAgree h
  pub ready : ReadyWasPlugged h
  pub apart : DisksStandApart w
  pub plugged : DisksWerePlugged w
  pub pages : OtherPagesUnknown w h
  pub turns : TurnsKnown w h
  pub runs : RunsByStage h
  pub off_ready : OffReady w h

-- the facts and these
pub record Whole (w : World) (h : History) : Type 0 where
  pub facts : Facts w h
  pub further : Further w h
