-- An answer to the whole input is due.
use Rattle.std.proofs.Common.{◌≡◌, ℕ, ◌≤◌, List, Option, Some, None, Result, Ok, Err, inr}
use Rattle.std.specs.Prelude.{IfOk}
use Rattle.mpt_text.specs.Hexadecimal.{hexadecimal}
use Rattle.mpt_script.specs.Schedules.{Fault, schedule_of}
use Rattle.mpt_script.specs.declared.line.Line.{Line}
use Rattle.mpt_replay.specs.Reports.{schedule_report, schedule_short_report}
use Rattle.mpt_cli.specs.declared.answer.Answer.{Answer}
use Rattle.mpt_cli.specs.declared.answer.TheConstants.{MOST_LINES}
use Rattle.mpt_cli.specs.declared.job.Decoded.{Decoded}
use Rattle.mpt_cli.specs.declared.job.Decoded.TheVariants as decoded
use Rattle.mpt_cli.specs.declared.job.Job.TheVariants as job
use Rattle.mpt_cli.specs.declared.job.Question.{Question}
use Rattle.mpt_cli.specs.declared.job.Question.TheVariants as question
use Rattle.mpt_cli.specs.declared.status.Status.{Status}
use Rattle.mpt_cli.specs.declared.status.Status.TheVariants as status
use Rattle.mpt_cli.specs.Answer.{IsAnswer, IsAnswerTo, IsHexAnswer, IsReportAnswer}
use Rattle.mpt_cli.specs.Input.{line_count}
use Rattle.mpt_cli.specs.Run.{IsDue, IsInput, Outside, RunsTo, TooManyLines, Writes}

-- ---- an answer lists or refuses, and nothing else

no_usage : (what : Decoded) (read : Option (List ℕ)) (text : List ℕ) → IsHexAnswer what read status.Usage text → ⊥
no_usage what None text h = h
no_usage (decoded.Request kind) (Some bytes) text h = h
no_usage decoded.Reply (Some bytes) text h = h
no_usage decoded.Post (Some bytes) text h = h
no_usage decoded.Answer (Some bytes) text h = h
no_usage decoded.Page0 (Some bytes) text h = h
no_usage decoded.ScatterList (Some bytes) text h = h

no_usage_report : (report_of : List Line → List ℕ) (read : Result (List Line) Fault) (text : List ℕ) → IsReportAnswer report_of read status.Usage text → ⊥
no_usage_report report_of (Ok lines) text h = h
no_usage_report report_of (Err fault) text h = h

no_usage_to : (what : Question) (input text : List ℕ) → IsAnswerTo what input status.Usage text → ⊥
no_usage_to (question.Decode kind) input text h = no_usage kind (hexadecimal input) text h
no_usage_to question.Replay input text h = no_usage_report schedule_report (schedule_of input) text h
no_usage_to question.Show input text h = no_usage_report schedule_short_report (schedule_of input) text h

no_readfault : (what : Decoded) (read : Option (List ℕ)) (text : List ℕ) → IsHexAnswer what read status.ReadFault text → ⊥
no_readfault what None text h = h
no_readfault (decoded.Request kind) (Some bytes) text h = h
no_readfault decoded.Reply (Some bytes) text h = h
no_readfault decoded.Post (Some bytes) text h = h
no_readfault decoded.Answer (Some bytes) text h = h
no_readfault decoded.Page0 (Some bytes) text h = h
no_readfault decoded.ScatterList (Some bytes) text h = h

no_readfault_report : (report_of : List Line → List ℕ) (read : Result (List Line) Fault) (text : List ℕ) → IsReportAnswer report_of read status.ReadFault text → ⊥
no_readfault_report report_of (Ok lines) text h = h
no_readfault_report report_of (Err fault) text h = h

no_readfault_to : (what : Question) (input text : List ℕ) → IsAnswerTo what input status.ReadFault text → ⊥
no_readfault_to (question.Decode kind) input text h = no_readfault kind (hexadecimal input) text h
no_readfault_to question.Replay input text h = no_readfault_report schedule_report (schedule_of input) text h
no_readfault_to question.Show input text h = no_readfault_report schedule_short_report (schedule_of input) text h

no_writefault : (what : Decoded) (read : Option (List ℕ)) (text : List ℕ) → IsHexAnswer what read status.WriteFault text → ⊥
no_writefault what None text h = h
no_writefault (decoded.Request kind) (Some bytes) text h = h
no_writefault decoded.Reply (Some bytes) text h = h
no_writefault decoded.Post (Some bytes) text h = h
no_writefault decoded.Answer (Some bytes) text h = h
no_writefault decoded.Page0 (Some bytes) text h = h
no_writefault decoded.ScatterList (Some bytes) text h = h

no_writefault_report : (report_of : List Line → List ℕ) (read : Result (List Line) Fault) (text : List ℕ) → IsReportAnswer report_of read status.WriteFault text → ⊥
no_writefault_report report_of (Ok lines) text h = h
no_writefault_report report_of (Err fault) text h = h

no_writefault_to : (what : Question) (input text : List ℕ) → IsAnswerTo what input status.WriteFault text → ⊥
no_writefault_to (question.Decode kind) input text h = no_writefault kind (hexadecimal input) text h
no_writefault_to question.Replay input text h = no_writefault_report schedule_report (schedule_of input) text h
no_writefault_to question.Show input text h = no_writefault_report schedule_short_report (schedule_of input) text h

no_outofmemory : (what : Decoded) (read : Option (List ℕ)) (text : List ℕ) → IsHexAnswer what read status.OutOfMemory text → ⊥
no_outofmemory what None text h = h
no_outofmemory (decoded.Request kind) (Some bytes) text h = h
no_outofmemory decoded.Reply (Some bytes) text h = h
no_outofmemory decoded.Post (Some bytes) text h = h
no_outofmemory decoded.Answer (Some bytes) text h = h
no_outofmemory decoded.Page0 (Some bytes) text h = h
no_outofmemory decoded.ScatterList (Some bytes) text h = h

no_outofmemory_report : (report_of : List Line → List ℕ) (read : Result (List Line) Fault) (text : List ℕ) → IsReportAnswer report_of read status.OutOfMemory text → ⊥
no_outofmemory_report report_of (Ok lines) text h = h
no_outofmemory_report report_of (Err fault) text h = h

no_outofmemory_to : (what : Question) (input text : List ℕ) → IsAnswerTo what input status.OutOfMemory text → ⊥
no_outofmemory_to (question.Decode kind) input text h = no_outofmemory kind (hexadecimal input) text h
no_outofmemory_to question.Replay input text h = no_outofmemory_report schedule_report (schedule_of input) text h
no_outofmemory_to question.Show input text h = no_outofmemory_report schedule_short_report (schedule_of input) text h

no_toolong : (what : Decoded) (read : Option (List ℕ)) (text : List ℕ) → IsHexAnswer what read status.TooLong text → ⊥
no_toolong what None text h = h
no_toolong (decoded.Request kind) (Some bytes) text h = h
no_toolong decoded.Reply (Some bytes) text h = h
no_toolong decoded.Post (Some bytes) text h = h
no_toolong decoded.Answer (Some bytes) text h = h
no_toolong decoded.Page0 (Some bytes) text h = h
no_toolong decoded.ScatterList (Some bytes) text h = h

no_toolong_report : (report_of : List Line → List ℕ) (read : Result (List Line) Fault) (text : List ℕ) → IsReportAnswer report_of read status.TooLong text → ⊥
no_toolong_report report_of (Ok lines) text h = h
no_toolong_report report_of (Err fault) text h = h

no_toolong_to : (what : Question) (input text : List ℕ) → IsAnswerTo what input status.TooLong text → ⊥
no_toolong_to (question.Decode kind) input text h = no_toolong kind (hexadecimal input) text h
no_toolong_to question.Replay input text h = no_toolong_report schedule_report (schedule_of input) text h
no_toolong_to question.Show input text h = no_toolong_report schedule_short_report (schedule_of input) text h

-- ---- the answer to the whole input

-- of an input that hasn't too many lines
within : (what : Question) (input : List ℕ) (ended : Status) (text : List ℕ) → line_count input ≤ MOST_LINES → IsAnswerTo what input ended text → IsAnswer what input ended text
within what input status.Ok text few answer = (few, answer)
within what input status.Refused text few answer = (few, answer)
within what input status.Usage text few answer = (few, answer)
within what input status.ReadFault text few answer = (few, answer)
within what input status.WriteFault text few answer = (few, answer)
within what input status.OutOfMemory text few answer = (few, answer)
within what input status.TooLong text few answer = absurd (no_toolong_to what input text answer)

pub answered_within : {E : Type 0} (what : Question) (input : List ℕ) (r : Result Answer E) → line_count input ≤ MOST_LINES
    → IfOk r (λ a. IsAnswerTo what input a.status a.text) → IfOk r (λ a. IsAnswer what input a.status a.text)
answered_within what input (Ok a) few answer = within what input a.status a.text few answer
answered_within what input (Err e) few answer = tt

-- the answer's text is due with its status
due_answer : (what : Question) (o : Outside) (input text : List ℕ) (ended : Status) → IsInput o input → IsAnswer what input ended text → IsDue (Some (job.Answer what)) o ended text
due_answer what o input text status.Ok whole answer = record { input = input; whole = whole; said = answer }
due_answer what o input text status.Refused whole answer = record { input = input; whole = whole; said = answer }
due_answer what o input text status.TooLong whole answer = record { input = input; long = TooManyLines whole answer.0; said = answer.1 }
due_answer what o input text status.Usage whole answer = absurd (no_usage_to what input text answer.1)
due_answer what o input text status.ReadFault whole answer = absurd (no_readfault_to what input text answer.1)
due_answer what o input text status.WriteFault whole answer = absurd (no_writefault_to what input text answer.1)
due_answer what o input text status.OutOfMemory whole answer = absurd (no_outofmemory_to what input text answer.1)

-- a run that read its whole input and wrote the answer
pub answered_run : (what : Question) (o : Outside) (input text : List ℕ) (due ended : Status) → IsInput o input → IsAnswer what input due text → Writes o.taken o.taken' o.write_faults o.write_faults' due text ended → RunsTo (Some (job.Answer what)) o ended
answered_run what o input text due ended whole answer written =
    inr (record { due = due; text = text; cause = due_answer what o input text due whole answer; writes = written })
