-- The lanes of a session, closed, beside the journals of its parties.
use Rattle.std.specs.Prelude.{◌≡◌, ◌+◌, ℕ, true, false, List, [], ◌∷◌, ◌++◌, All, count_by, map}
use Rattle.mpt_trace.specs.declared.item.Ask.{Ask}
use Rattle.mpt_trace.specs.declared.item.Tell.{Tell}
use Rattle.mpt_trace.specs.declared.parties.Party.{Party}
use Rattle.mpt_wire.specs.Queues.Lanes.{LanesInOrder}
use Rattle.mpt_rules.specs.Fabric.Calls.{fabric_quiet}
use Rattle.mpt_rules.specs.Host.Takes.{host_waits}
use Rattle.mpt_rules.specs.Ioc.Takes.{ioc_quiet}
use Rattle.mpt_rules.specs.Law.{AllAreAnswered, AnsweredAtMostOnce}
use Rattle.mpt_rules.specs.Session.Parts.{TakesAreLater}
use Rattle.mpt_rules.specs.Session.Sessions.{EndsQuiet, Session}
use Rattle.mpt_rules.specs.World.Cases.{Case}
use Rattle.mpt_rules.specs.World.Settings.{Setting}
use Rattle.law_sessions.specs.OfCases.{IsSessionOf}
use Rattle.mpt_live.specs.Lanes.{LaneEnd}
use Rattle.mpt_live.specs.Recorded.{Recorded}
use Rattle.mpt_live.specs.Traffic.{FabricLanes, HostLanes, IocLanes, RecordsLanes, SubmitterLanes, fabric_traffic, host_traffic, ioc_traffic, submitter_traffic}
use Rattle.mpt_live.specs.declared.sent.Sent.{Sent}
use Rattle.live_lanes.specs.Taken.{is_any_put, is_any_take}
use Rattle.live_journals.specs.Parties.{LeavesParties, PartiesLed, RecordedParties, entries_of_parties}

-- the parties' ends of the lanes, and what went through them; the submitters by their number from 0
pub record SessionLanes : Type 0 where
  pub host : HostLanes
  pub ioc : IocLanes
  pub fabric : FabricLanes
  pub submitters : List SubmitterLanes

-- ---- a lane

-- nothing went through the end
abbrev pub IsUnused : {T : Type 0} → LaneEnd T → Type 0
IsUnused end = end.items ≡ []

-- what was received from the lane, followed by what is left on it, is what was sent
abbrev pub IsClosed : {T : Type 0} → LaneEnd T → LaneEnd T → Type 0
IsClosed {T = T} giver taker = (rest : List (Sent T)) × (giver.items ≡ taker.items ++ rest)

-- lane by lane
abbrev pub AreClosed : {T : Type 0} → List (LaneEnd T) → List (LaneEnd T) → Type 0
AreClosed [] [] = Unit {0}
AreClosed [] (t ∷ takers) = ⊥
AreClosed (g ∷ givers) [] = ⊥
AreClosed (g ∷ givers) (t ∷ takers) = IsClosed g t × AreClosed givers takers

-- ---- all lanes

abbrev pub asks_of : List SubmitterLanes → List (LaneEnd Ask)
asks_of submitters = map (λ (l : SubmitterLanes). l.ask) submitters

abbrev pub tells_of : List SubmitterLanes → List (LaneEnd Tell)
tells_of submitters = map (λ (l : SubmitterLanes). l.tell) submitters

pub record LanesAreClosed (l : SessionLanes) : Type 0 where
  pub down : IsClosed l.host.down l.ioc.down
  pub ups : AreClosed l.ioc.ups l.host.ups
  pub out : IsClosed l.ioc.out l.fabric.out
  pub back : IsClosed l.fabric.back l.ioc.back
  pub asks : AreClosed (asks_of l.submitters) l.host.asks
  pub tells : AreClosed l.host.tells (tells_of l.submitters)

-- the journals of the submitters from a number on record what went through their lanes
abbrev pub SubmittersRecord : ℕ → List (Recorded (Unit {0})) → List SubmitterLanes → Type 0
SubmittersRecord i [] [] = Unit {0}
SubmittersRecord i [] (l ∷ lanes) = ⊥
SubmittersRecord i (r ∷ recorded) [] = ⊥
SubmittersRecord i (r ∷ recorded) (l ∷ lanes) = RecordsLanes r.row (submitter_traffic i l) × SubmittersRecord (i + 1) recorded lanes

-- so do all journals
pub record JournalsRecordLanes (p : RecordedParties) (l : SessionLanes) : Type 0 where
  pub host : RecordsLanes p.host.row (host_traffic l.host)
  pub ioc : RecordsLanes p.ioc.row (ioc_traffic l.ioc)
  pub fabric : RecordsLanes p.fabric.row (fabric_traffic l.fabric)
  pub submitters : SubmittersRecord 0 p.submitters l.submitters

-- ---- the laws

-- what is taken from each lane was put there, in its order, and with a lesser stamp
abbrev pub ClosedLanesAreLater : Type 0
ClosedLanesAreLater = (s : Setting) (p : RecordedParties) (x : Session) (l : SessionLanes) → LeavesParties s p x → JournalsRecordLanes p l → LanesAreClosed l → TakesAreLater s x

-- no party has anything left to do, the host waits for nothing, and as many items were taken from lanes as were put on them
pub record PartiesAreQuiet (p : RecordedParties) : Type 0 where
  pub host : p.host.part.out ≡ []
  pub waits : host_waits p.host.part ≡ false
  pub ioc : ioc_quiet p.ioc.part ≡ true
  pub fabric : fabric_quiet p.fabric.part ≡ true
  pub counts : count_by is_any_put (entries_of_parties p) ≡ count_by is_any_take (entries_of_parties p)

-- the session that the parties have made: its lanes are queues, so some cases do what it does, and no number is accepted or
-- answered twice; where the parties are quiet it ended quiet, so that all that was put on each lane was taken, and each
-- accepted number was answered
pub record IsOrderly (s : Setting) (p : RecordedParties) (x : Session) : Type 0 where
  pub leaves : LeavesParties s p x
  pub later : TakesAreLater s x
  pub queues : LanesInOrder (entries_of_parties p)
  pub cases : (cs : List Case) × IsSessionOf s x cs
  pub once : AnsweredAtMostOnce s (entries_of_parties p)
  pub quiet : PartiesAreQuiet p → EndsQuiet s x
  pub answered : PartiesAreQuiet p → AllAreAnswered (entries_of_parties p)

abbrev pub ClosedSessionsAreOrderly : Type 0
ClosedSessionsAreOrderly = (s : Setting) (p : RecordedParties) (l : SessionLanes) → PartiesLed s p → JournalsRecordLanes p l → LanesAreClosed l → (x : Session) × IsOrderly s p x

-- a journal without entries records lanes through which nothing went
pub record UnusedLanesAreRecorded : Type 0 where
  pub host : (party : Party) (l : HostLanes) → IsUnused l.down → All IsUnused l.ups → All IsUnused l.asks → All IsUnused l.tells → RecordsLanes (record { party = party; moments = [] }) (host_traffic l)
  pub ioc : (party : Party) (l : IocLanes) → IsUnused l.down → All IsUnused l.ups → IsUnused l.out → IsUnused l.back → RecordsLanes (record { party = party; moments = [] }) (ioc_traffic l)
  pub fabric : (party : Party) (l : FabricLanes) → IsUnused l.out → IsUnused l.back → RecordsLanes (record { party = party; moments = [] }) (fabric_traffic l)
  pub submitter : (party : Party) (number : ℕ) (l : SubmitterLanes) → IsUnused l.ask → IsUnused l.tell → RecordsLanes (record { party = party; moments = [] }) (submitter_traffic number l)
