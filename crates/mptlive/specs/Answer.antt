-- What is printed of an input that was read whole and is within the limits.
use Rattle.std.specs.Prelude.{◌≡◌, ℕ, List, ◌++◌, codes, decimal, Result, Ok, Err}
use Rattle.mpt_lines.specs.Causes.{cause_word}
use Rattle.mpt_messages.specs.Listing.{line_end}
use Rattle.mpt_script.specs.PlanParts.{PlanParts}
use Rattle.mpt_script.specs.Schedules.{Fault}
use Rattle.mpt_trace.specs.declared.entry.Entry.{Entry}
use Rattle.mpt_trace.specs.declared.summary.Summary.{Summary}
use Rattle.mpt_wire.specs.Machine.Reports.{report, short_report}
use Rattle.live_session.specs.declared.ended.Ended.{Ended}
use Rattle.live_session.specs.Ended.{EndsSession}
use Rattle.mptlive.specs.declared.kind.ReportKind.{ReportKind}
use Rattle.mptlive.specs.declared.kind.ReportKind.TheVariants.{Short, Whole}
use Rattle.mptlive.specs.declared.status.Status.{Status}
use Rattle.mptlive.specs.declared.status.Status.TheVariants as status

-- the report of this kind of a trace with its summary
abbrev pub report_by : ReportKind → List Entry → Summary → List ℕ
report_by Whole entries summary = report entries summary
report_by Short entries summary = short_report entries summary

-- a session of the plan ended so, and the text is the report of its trace with its summary
pub record IsSessionReport (kind : ReportKind) (plan : PlanParts) (text : List ℕ) : Type 0 where
  pub ended : Ended
  pub session : EndsSession plan ended
  pub said : text ≡ report_by kind ended.trace.entries ended.summary

-- the line of a refusal: the first faulty line and that line's first cause
abbrev pub refusal_line : Fault → List ℕ
refusal_line fault = codes "refused line " ++ decimal fault.line ++ codes " " ++ cause_word fault.cause ++ line_end

-- the answer to a text that is read as a plan: the report of its session, or the line of its refusal
abbrev pub IsPlanAnswer : ReportKind → Result PlanParts Fault → Status → List ℕ → Type 0
IsPlanAnswer kind (Ok plan) status.Ok text = IsSessionReport kind plan text
IsPlanAnswer kind (Err fault) status.Refused text = text ≡ refusal_line fault
IsPlanAnswer kind _ _ text = ⊥
