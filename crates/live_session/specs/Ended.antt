-- What a session leaves once all its parties have ended.
use Rattle.std.specs.Prelude.{◌≡◌, ◌&&◌, not, Bool, length, map}
use Rattle.mpt_trace.specs.declared.summary.Summary.{Summary}
use Rattle.mpt_wire.specs.Machine.Reports.{last_machine}
use Rattle.mpt_rules.specs.Fabric.Calls.{fabric_quiet}
use Rattle.mpt_rules.specs.Fabric.Parts.{Fabric}
use Rattle.mpt_rules.specs.Host.Parts.{Host}
use Rattle.mpt_rules.specs.Host.Takes.{host_waits}
use Rattle.mpt_rules.specs.Ioc.Parts.{Ioc}
use Rattle.mpt_rules.specs.Ioc.Places.{is_empty}
use Rattle.mpt_rules.specs.Ioc.Takes.{ioc_quiet}
use Rattle.mpt_rules.specs.Session.Sessions.{IsSession, Session, journals, last_fabric, last_host, last_ioc, session_trace}
use Rattle.mpt_rules.specs.World.Settings.{Setting}
use Rattle.mpt_rules.specs.World.Summaries.{summary_with}
use Rattle.mpt_journal.specs.Journal.{rows_of}
use Rattle.mpt_journal.specs.Laws.{by_entries}
use Rattle.mpt_script.specs.PlanParts.{PlanParts}
use Rattle.law_plans.specs.Limits.{plan_setting}
use Rattle.live_session.specs.declared.ended.Ended.{Ended}

-- no party has anything left to do, and the host waits for nothing
abbrev pub are_quiet : Host → Ioc → Fabric → Bool
are_quiet host ioc fabric = is_empty host.out && not (host_waits host) && ioc_quiet ioc && fabric_quiet fabric

-- whether a session ended so
abbrev pub ended_quiet : Setting → Session → Bool
ended_quiet s x = are_quiet (last_host s x) (last_ioc s x) (last_fabric s x)

-- the summary of a session, be it quiet at its end or not
abbrev pub summary_at_end : Setting → Session → Summary
summary_at_end s x = summary_with (last_machine s.disks (session_trace s x)) (last_host s x).phases (ended_quiet s x) (session_trace s x)

-- some session of the plan was held: this is its trace, with its summary, its journals entry by entry, and its parties as
-- they ended
pub record EndsSession (plan : PlanParts) (ended : Ended) : Type 0 where
  pub session : Session
  pub is_session : IsSession (plan_setting plan) session
  pub submitters : length session.submitters ≡ length plan.submitters
  pub trace : ended.trace.entries ≡ session_trace (plan_setting plan) session
  pub summary : ended.summary ≡ summary_at_end (plan_setting plan) session
  pub journals : rows_of ended.journals.items ≡ map by_entries (journals (plan_setting plan) session)
  pub host : ended.host.host ≡ last_host (plan_setting plan) session
  pub ioc : ended.ioc.part ≡ last_ioc (plan_setting plan) session
  pub fabric : ended.fabric ≡ last_fabric (plan_setting plan) session
