-- The answers of `replay` and of `show`.
use Rattle.std.proofs.Common.{◌≡◌, ℕ, List, Result, Ok, Err, sym, subst}
use Rattle.std.specs.Prelude.{IfOk}
use Rattle.mpt_script.specs.Schedules.{Fault}
use Rattle.mpt_script.specs.declared.line.Line.{Line}
use Rattle.mpt_cli.specs.declared.answer.Answer.{Answer}
use Rattle.mpt_cli.specs.declared.status.Status.{Status}
use Rattle.mpt_cli.specs.declared.status.Status.TheVariants as status
use Rattle.mpt_cli.specs.Answer.{IsReportAnswer, schedule_refusal}

module _ (report_of : List Line → List ℕ) (read : Result (List Line) Fault) where
  -- a schedule was read, and this is its report
  pub reported : (lines : List Line) (ended : Status) (text : List ℕ) → read ≡ Ok lines → ended ≡ status.Ok → text ≡ report_of lines → IsReportAnswer report_of read ended text
  reported lines ended text is ends said =
      subst (λ r. IsReportAnswer report_of r ended text) (sym is) (subst (λ s. IsReportAnswer report_of (Ok lines) s text) (sym ends) said)

  -- it was refused at this fault
  pub refused : {E : Type 0} (fault : Fault) (r : Result Answer E) → read ≡ Err fault → IfOk r (λ a. a.status ≡ status.Refused) → IfOk r (λ a. a.text ≡ schedule_refusal fault)
      → IfOk r (λ a. IsReportAnswer report_of read a.status a.text)
  refused fault (Ok a) is ends said =
      subst (λ x. IsReportAnswer report_of x a.status a.text) (sym is) (subst (λ s. IsReportAnswer report_of (Err fault) s a.text) (sym ends) said)
  refused fault (Err e) is ends said = tt
