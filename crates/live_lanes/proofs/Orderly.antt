-- The session that the parties have made.
use Rattle.std.proofs.Common.{◌≡◌, ◌∙◌, List, ap, subst, sym}
use Rattle.mpt_trace.specs.declared.entry.Entry.{Entry}
use Rattle.mpt_wire.specs.Queues.Lanes.{LanesInOrder}
use Rattle.mpt_rules.specs.Fabric.Calls.{fabric_quiet}
use Rattle.mpt_rules.specs.Fabric.Parts.{Fabric}
use Rattle.mpt_rules.specs.Host.Parts.{Host}
use Rattle.mpt_rules.specs.Host.Takes.{host_waits}
use Rattle.mpt_rules.specs.Ioc.Parts.{Ioc}
use Rattle.mpt_rules.specs.Ioc.Takes.{ioc_quiet}
use Rattle.mpt_rules.specs.Law.{AllAreAnswered, AnsweredAtMostOnce, SessionLanesAreQueues}
use Rattle.mpt_rules.specs.Session.Parts.{TakesAreLater}
use Rattle.mpt_rules.specs.Session.Sessions.{EndsQuiet, IsSession, Session, session_trace}
use Rattle.mpt_rules.specs.World.Settings.{Setting}
use Rattle.law_sessions.specs.OfCases.{SessionsAreOfCases}
use Rattle.live_journals.specs.Parties.{JournalsMakeSessions, LeavesParties, PartiesLed, RecordedParties, entries_of_parties}
use Rattle.live_lanes.specs.Closed.{ClosedSessionsAreOrderly, IsOrderly, JournalsRecordLanes, LanesAreClosed, PartiesAreQuiet, SessionLanes}
use Rattle.live_lanes.specs.Taken.{AllIsTaken}
use Rattle.live_lanes.proofs.Counted.{counts_tell}
use Rattle.live_lanes.proofs.Later.{lanes_later}

-- where the parties are quiet, so is the end of the session
ends_quiet : (s : Setting) (p : RecordedParties) (x : Session) → LeavesParties s p x → LanesInOrder (entries_of_parties p) → PartiesAreQuiet p → EndsQuiet s x
ends_quiet s p x leaves queues q = record {
  taken = subst AllIsTaken leaves.trace (counts_tell (entries_of_parties p) queues q.counts);
  host = ap (λ (h : Host). h.out) (sym leaves.host) ∙ q.host;
  waits = ap host_waits (sym leaves.host) ∙ q.waits;
  ioc = ap ioc_quiet (sym leaves.ioc) ∙ q.ioc;
  fabric = ap fabric_quiet (sym leaves.fabric) ∙ q.fabric;
}

module _ (made : JournalsMakeSessions) (lanes : SessionLanesAreQueues) (of_cases : SessionsAreOfCases)
    (once : (s : Setting) (x : Session) → IsSession s x → LanesInOrder (session_trace s x) → AnsweredAtMostOnce s (session_trace s x))
    (all : (s : Setting) (x : Session) → IsSession s x → LanesInOrder (session_trace s x) → EndsQuiet s x → AllAreAnswered (session_trace s x)) where
  orderly : (s : Setting) (p : RecordedParties) (x : Session) → LeavesParties s p x → TakesAreLater s x → IsOrderly s p x
  orderly s p x leaves later =
      let queues : LanesInOrder (session_trace s x) = lanes s x leaves.session later in
      let own : LanesInOrder (entries_of_parties p) = subst LanesInOrder (sym leaves.trace) queues in
      record {
        leaves = leaves;
        later = later;
        queues = own;
        cases = of_cases s x leaves.session queues;
        once = subst (AnsweredAtMostOnce s) (sym leaves.trace) (once s x leaves.session queues);
        quiet = ends_quiet s p x leaves own;
        answered = λ q. subst AllAreAnswered (sym leaves.trace) (all s x leaves.session queues (ends_quiet s p x leaves own q));
      }

  pub sessions_orderly : ClosedSessionsAreOrderly
  sessions_orderly s p l led recorded closed =
      let x : (x : Session) × LeavesParties s p x = made s p led in
      (x.0, orderly s p x.0 x.1 (lanes_later s p x.0 l x.1 recorded closed))
