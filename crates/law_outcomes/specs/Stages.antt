-- A further fact, which no other gives: the disk has answered an open command exactly where its path says so.
use Rattle.std.specs.Prelude.{◌≡◌, ℕ, Bool, true, false, Some, is_some}
use Rattle.mpt_trace.specs.declared.outcome.Outcome.{Outcome}
use Rattle.mpt_trace.specs.declared.outcome.Outcome.TheVariants as outcome
use Rattle.mpt_wire.specs.Paths.Commands.{Live}
use Rattle.mpt_wire.specs.Paths.Stages.{PathStage, Accepted, AtController, AtDisk, HasGone, HasResult, HasRun, HasTerminated, Heard, Posted, Replied, SaysGone, SaysResult, SaysTerminated, Sent}
use Rattle.law_facts.specs.History.{History}

abbrev pub is_done : Outcome → Bool
is_done (outcome.Done result) = true
is_done other = false

-- the command was run at its disk
abbrev pub was_run : PathStage → Bool
was_run HasRun = true
was_run (SaysResult result) = true
was_run (HasResult result) = true
was_run (Replied says ending) = is_done ending
was_run (Heard ending) = is_done ending
was_run stage = false

abbrev pub RunsByStage : History → Type 0
RunsByStage h = (s : ℕ) (l : Live) → (h.walk s).known.live ≡ Some l → is_some (h.machine.outcome l.number) ≡ was_run (h.walk s).stage
