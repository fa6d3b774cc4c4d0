-- The report of a session that ended.
use Rattle.std.proofs.Common.{◌≡◌, ◌∙◌, ℕ, List, Result, Ok, Err, ap}
use Rattle.std.specs.Prelude.{IfOk}
use Rattle.mpt_script.specs.PlanParts.{PlanParts}
use Rattle.mpt_trace.specs.declared.entry.Entry.{Entry}
use Rattle.live_session.specs.declared.ended.Ended.{Ended}
use Rattle.live_session.specs.Ended.{EndsSession}
use Rattle.mptlive.specs.declared.kind.ReportKind.{ReportKind}
use Rattle.mptlive.specs.Answer.{IsSessionReport, report_by}

-- of the session that ended so
pub reported : {E : Type 0} (kind : ReportKind) (plan : PlanParts) (ended : Ended) (entries : List Entry) (r : Result (List ℕ) E) → EndsSession plan ended → entries ≡ ended.trace.entries
    → IfOk r (λ text. text ≡ report_by kind entries ended.summary) → IfOk r (IsSessionReport kind plan)
reported kind plan ended entries (Ok text) end same said = record { ended = ended; session = end; said = said ∙ ap (λ t. report_by kind t ended.summary) same }
reported kind plan ended entries (Err error) end same said = tt
