-- The summary of a world and of the trace that leads to it, and the reports of a schedule and of a session.
use Rattle.std.specs.Prelude.{ℕ, Bool, true, false, List, count_by, map}
use Rattle.std.specs.FinMap as finmap
use Rattle.removal.specs.declared.phase.Phase.{Phase}
use Rattle.removal.specs.declared.phase.Phase.TheVariants as phase
use Rattle.mpt_trace.specs.declared.entry.Entry.{Entry}
use Rattle.mpt_trace.specs.declared.summary.Summary.{Summary}
use Rattle.mpt_wire.specs.Fits.Lines.{Line}
use Rattle.mpt_wire.specs.Machine.State.{Machine}
use Rattle.mpt_wire.specs.Machine.Reports.{is_done, is_gone_answer, is_refusal, is_reset_answer, is_terminated, last_machine, line_of, ready_disks, report, short_report}
use Rattle.mpt_rules.specs.World.Drain.{world_quiet}
use Rattle.mpt_rules.specs.Outcome.{Happening}
use Rattle.mpt_rules.specs.World.Replays.{replays}
use Rattle.mpt_rules.specs.Session.Sessions.{Session, last_host, session_trace}
use Rattle.mpt_rules.specs.World.Settings.{Setting, first_world}
use Rattle.mpt_rules.specs.World.State.{World}

-- ---- the handles by their phases

abbrev pub is_reading_phase : Phase → Bool
is_reading_phase (phase.Reading smid) = true
is_reading_phase _ = false

-- one of the three phases in which a handle waits for an identifier
abbrev pub is_waiting_phase : Phase → Bool
is_waiting_phase phase.WaitRead = true
is_waiting_phase phase.WaitHigh = true
is_waiting_phase phase.WaitInternal = true
is_waiting_phase _ = false

abbrev pub is_resetting_phase : Phase → Bool
is_resetting_phase (phase.Resetting smid) = true
is_resetting_phase _ = false

abbrev pub is_removing_phase : Phase → Bool
is_removing_phase (phase.Removing smid) = true
is_removing_phase _ = false

-- how many handles of the host pass
abbrev pub handles : (Phase → Bool) → List Phase → ℕ
handles test phases = count_by test phases

-- ---- the summary

-- the summary where the host has these phases, and all is quiet or not: the rest is told by the trace and by the machine
-- that it leaves
abbrev pub summary_with : Machine → List Phase → Bool → List Entry → Summary
summary_with m phases quiet t = record {
  disks = map (line_of m) m.addresses;
  done = count_by is_done t;
  gone = count_by is_gone_answer t;
  terminated = count_by is_terminated t;
  reset = count_by is_reset_answer t;
  refused = count_by is_refusal t;
  unanswered = finmap.len m.requests;
  reading = handles is_reading_phase phases;
  ready = ready_disks m;
  waiting = handles is_waiting_phase phases;
  resetting = handles is_resetting_phase phases;
  removing = handles is_removing_phase phases;
  state = m.mode;
  quiet = quiet;
}

-- the summary of a world that this trace leads to
abbrev pub summary_of : Setting → Happening World → Summary
summary_of s o = summary_with (last_machine s.disks o.entries) o.part.host.phases (world_quiet o.part) o.entries

-- ---- the reports of a schedule with these lines

abbrev pub replay_report : Setting → List Line → List ℕ
replay_report s lines = report (replays (first_world s) lines).entries (summary_of s (replays (first_world s) lines))

abbrev pub replay_short : Setting → List Line → List ℕ
replay_short s lines = short_report (replays (first_world s) lines).entries (summary_of s (replays (first_world s) lines))

-- ---- and of a session that ends quiet

abbrev pub session_summary : Setting → Session → Summary
session_summary s x = summary_with (last_machine s.disks (session_trace s x)) (last_host s x).phases true (session_trace s x)

abbrev pub session_report : Setting → Session → List ℕ
session_report s x = report (session_trace s x) (session_summary s x)

abbrev pub session_short : Setting → Session → List ℕ
session_short s x = short_report (session_trace s x) (session_summary s x)
