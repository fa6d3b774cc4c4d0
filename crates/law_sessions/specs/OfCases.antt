-- What a session does, beside the talk of its submitters and the host, is what some list of cases does.
use Rattle.std.specs.Prelude.{◌≡◌, Bool, true, false, not, List, All, filter}
use Rattle.mpt_trace.specs.declared.entry.Entry.{Entry}
use Rattle.mpt_trace.specs.declared.entry.Entry.TheVariants as entry
use Rattle.mpt_trace.specs.declared.lane.LaneName.{LaneName}
use Rattle.mpt_trace.specs.declared.lane.LaneName.TheVariants as lane
use Rattle.mpt_wire.specs.Queues.Lanes.{LanesInOrder}
use Rattle.mpt_rules.specs.Session.Sessions.{IsSession, Session, last_fabric, last_host, last_ioc, session_trace}
use Rattle.mpt_rules.specs.World.Cases.{Case, run, trace}
use Rattle.mpt_rules.specs.World.Settings.{IsCase, Setting, first_world}

-- a lane between a submitter and the host
abbrev pub is_talk_lane : LaneName → Bool
is_talk_lane (lane.Ask i) = true
is_talk_lane (lane.Tell i) = true
is_talk_lane _ = false

-- what is asked of the host, or told to a submitter
abbrev pub is_talk : Entry → Bool
is_talk (entry.Put l item) = is_talk_lane l
is_talk (entry.Take l item) = is_talk_lane l
is_talk _ = false

-- a trace without this
abbrev pub without_talk : List Entry → List Entry
without_talk t = filter (λ e. not (is_talk e)) t

-- these cases do what the session does, and leave its parties as it does
pub record IsSessionOf (s : Setting) (x : Session) (cases : List Case) : Type 0 where
  pub allowed : All IsCase cases
  pub traced : without_talk (session_trace s x) ≡ trace (first_world s) cases
  pub host : last_host s x ≡ (run (first_world s) cases).host
  pub ioc : last_ioc s x ≡ (run (first_world s) cases).ioc
  pub fabric : last_fabric s x ≡ (run (first_world s) cases).fabric

-- where the lanes are queues there are such cases
abbrev pub SessionsAreOfCases : Type 0
SessionsAreOfCases = (s : Setting) (x : Session) → IsSession s x → LanesInOrder (session_trace s x) → (cases : List Case) × IsSessionOf s x cases
