-- A summary tells what its trace and the machine behind it have.
use Rattle.std.proofs.Common.{List, Bool, true, refl}
use Rattle.mpt_trace.specs.declared.entry.Entry.{Entry}
use Rattle.removal.specs.declared.phase.Phase.{Phase}
use Rattle.mpt_wire.specs.Fits.Lines.{Line}
use Rattle.mpt_wire.specs.Machine.Reports.{IsSummaryOf, SummaryOf, last_machine}
use Rattle.mpt_wire.specs.Machine.State.{Machine}
use Rattle.mpt_rules.specs.Outcome.{Happening}
use Rattle.mpt_rules.specs.Session.Sessions.{Session, last_host, session_trace}
use Rattle.mpt_rules.specs.World.Drain.{world_quiet}
use Rattle.mpt_rules.specs.World.Replays.{replays}
use Rattle.mpt_rules.specs.World.Settings.{Setting, first_world}
use Rattle.mpt_rules.specs.World.State.{World}
use Rattle.mpt_rules.specs.World.Summaries.{session_summary, summary_of, summary_with}

tells : (m : Machine) (phases : List Phase) (quiet : Bool) (t : List Entry) → IsSummaryOf m t (summary_with m phases quiet t)
tells m phases quiet t = record { disks = refl; done = refl; gone = refl; terminated = refl; reset = refl; refused = refl; unanswered = refl; ready = refl; state = refl }

of_outcome : (s : Setting) (o : Happening World) → SummaryOf s.disks o.entries (summary_of s o)
of_outcome s o = tells (last_machine s.disks o.entries) o.part.host.phases (world_quiet o.part) o.entries

pub of_replays : (s : Setting) (lines : List Line) → SummaryOf s.disks (replays (first_world s) lines).entries (summary_of s (replays (first_world s) lines))
of_replays s lines = of_outcome s (replays (first_world s) lines)

pub of_session : (s : Setting) (x : Session) → SummaryOf s.disks (session_trace s x) (session_summary s x)
of_session s x = tells (last_machine s.disks (session_trace s x)) (last_host s x).phases true (session_trace s x)
