-- A whole run: which status comes when, and what was written with it.
use Rattle.std.specs.Prelude.{◌≡◌, ◌≢◌, ℕ, ◌+◌, ◌<◌, ◌≤◌, ◌⊎◌, List, ◌++◌, length, take, codes, Option, Some, None}
use Rattle.std.specs.Io.KnownBytes.{Appends, IsAtEnd, Keeps}
use Rattle.mpt_outside.specs.Counts.{Rose}
use Rattle.mpt_outside.specs.Reading.{Came}
use Rattle.mpt_messages.specs.Listing.{line_end}
use Rattle.mpt_script.specs.Generator.{generated}
use Rattle.mpt_script.specs.Printed.{schedule_text}
use Rattle.mpt_cli.specs.declared.answer.TheConstants.{MOST_LINES}
use Rattle.mpt_cli.specs.declared.job.Job.{Job}
use Rattle.mpt_cli.specs.declared.job.Job.TheVariants as job
use Rattle.mpt_cli.specs.declared.job.Question.{Question}
use Rattle.mpt_cli.specs.declared.run.TheConstants.{MOST_BYTES}
use Rattle.mpt_cli.specs.declared.status.Status.{Status}
use Rattle.mpt_cli.specs.declared.status.Status.TheVariants as status
use Rattle.mpt_cli.specs.Answer.{IsAnswer, too_long_text}
use Rattle.mpt_cli.specs.Input.{line_count}

-- the number that the process ends with
abbrev pub status_number : Status → ℕ
status_number status.Ok = 0
status_number status.Usage = 2
status_number status.ReadFault = 3
status_number status.WriteFault = 4
status_number status.Refused = 5
status_number status.OutOfMemory = 6
status_number status.TooLong = 7

-- what is seen of the source and the sink, before and after
pub record Outside : Type 0 where
  -- the bytes that the source has left and how many it gave, where it tells them, and its faults
  pub left : Option (List ℕ)
  pub left' : Option (List ℕ)
  pub given : ℕ
  pub given' : ℕ
  pub read_faults : ℕ
  pub read_faults' : ℕ
  -- the bytes that the sink took, where it tells them, and its faults
  pub taken : Option (List ℕ)
  pub taken' : Option (List ℕ)
  pub write_faults : ℕ
  pub write_faults' : ℕ

-- what is seen of a source and a sink that were so before and are so after
abbrev pub seen_between : {S K : Type 0} (left : S → Option (List ℕ)) (given read_faults : S → ℕ)
    (taken : K → Option (List ℕ)) (write_faults : K → ℕ) → S → S → K → K → Outside
seen_between left given read_faults taken write_faults source source' sink sink' = record {
  left = left source;
  left' = left source';
  given = given source;
  given' = given source';
  read_faults = read_faults source;
  read_faults' = read_faults source';
  taken = taken sink;
  taken' = taken sink';
  write_faults = write_faults sink;
  write_faults' = write_faults sink';
}

-- no read failed
abbrev pub NoReadFailed : Outside → Type 0
NoReadFailed o = o.read_faults' ≡ o.read_faults

-- nothing came from the source, and nothing was asked of it
pub record NothingRead (o : Outside) : Type 0 where
  pub left : o.left' ≡ o.left
  pub given : o.given' ≡ o.given
  pub spared : NoReadFailed o

-- these bytes came from the source
abbrev pub Gave : Outside → List ℕ → Type 0
Gave o bytes = Came o.left o.left' o.given o.given' bytes

-- these bytes are all that the source had, and within the limit
pub record IsInput (o : Outside) (bytes : List ℕ) : Type 0 where
  pub gave : Gave o bytes
  pub end : IsAtEnd o.left'
  pub short : length bytes ≤ MOST_BYTES
  pub spared : NoReadFailed o

-- an input is too long: one byte more than the limit came, or it was read whole and has too many lines
pub data TooLongInput (o : Outside) (input : List ℕ) : Type 0 where
  TooManyBytes : Gave o input → length input ≡ MOST_BYTES + 1 → NoReadFailed o → TooLongInput o input
  TooManyLines : IsInput o input → MOST_LINES < line_count input → TooLongInput o input

abbrev pub usage_text : List ℕ
usage_text = codes "usage: mpt_cli decode <kind> | replay | show | gen <number>" ++ line_end

-- Usage is due, with its text: the words are none of the listed forms
pub record UsageIsDue (o : Outside) (text : List ℕ) : Type 0 where
  pub unread : NothingRead o
  pub said : text ≡ usage_text

-- ReadFault is due: a read failed
pub record ReadFaultIsDue (o : Outside) (text : List ℕ) : Type 0 where
  pub failed : Rose o.read_faults o.read_faults'
  pub said : text ≡ codes "read fault" ++ line_end

-- TooLong is due
pub record TooLongIsDue (o : Outside) (text : List ℕ) : Type 0 where
  pub input : List ℕ
  pub long : TooLongInput o input
  pub said : text ≡ too_long_text

-- Ok or Refused is due, by the answer to the whole input
pub record AnswerIsDue (what : Question) (o : Outside) (due : Status) (text : List ℕ) : Type 0 where
  pub input : List ℕ
  pub whole : IsInput o input
  pub said : IsAnswer what input due text

-- Ok is due, with the number's schedule
pub record ScheduleIsDue (number : ℕ) (o : Outside) (text : List ℕ) : Type 0 where
  pub unread : NothingRead o
  pub said : text ≡ schedule_text 0 (generated number)

-- the text that goes with a status, and the status's cause
abbrev pub IsDue : Option Job → Outside → Status → List ℕ → Type 0
IsDue None o status.Usage text = UsageIsDue o text
IsDue (Some (job.Answer what)) o status.ReadFault text = ReadFaultIsDue o text
IsDue (Some (job.Answer what)) o status.TooLong text = TooLongIsDue o text
IsDue (Some (job.Answer what)) o status.Refused text = AnswerIsDue what o status.Refused text
IsDue (Some (job.Answer what)) o status.Ok text = AnswerIsDue what o status.Ok text
IsDue (Some (job.Gen number)) o status.Ok text = ScheduleIsDue number o text
IsDue _ o _ text = ⊥

-- the sink took the whole text, and the run ends with the status that is due
pub record TookWhole (taken taken' : Option (List ℕ)) (due : Status) (text : List ℕ) (ended : Status) : Type 0 where
  pub ends : ended ≡ due
  pub took : Appends taken taken' text

-- the sink took a part at the text's front, and then failed
pub record TookPart (taken taken' : Option (List ℕ)) (faults faults' : ℕ) (text : List ℕ) (ended : Status)
    : Type 0 where
  pub ends : ended ≡ status.WriteFault
  pub failed : Rose faults faults'
  pub count : ℕ
  pub part : count < length text
  pub took : Appends taken taken' (take count text)

-- the writing of a text with its status
abbrev pub Writes : (taken taken' : Option (List ℕ)) (faults faults' : ℕ) → Status → List ℕ → Status → Type 0
Writes taken taken' faults faults' due text ended =
    TookWhole taken taken' due text ended ⊎ TookPart taken taken' faults faults' text ended

-- the run of `gen`: it ends for want of memory, with nothing written, or with the writing of the number's schedule
abbrev pub Generates : (taken taken' : Option (List ℕ)) (faults faults' number : ℕ) → Status → Type 0
Generates taken taken' faults faults' number ended =
    ((ended ≡ status.OutOfMemory) × Keeps taken taken')
    ⊎ Writes taken taken' faults faults' status.Ok (schedule_text 0 (generated number)) ended

-- the run of a known job ends for want of memory: nothing was written, and no read failed
pub record WantsMemory (asked : Option Job) (o : Outside) (ended : Status) : Type 0 where
  pub ends : ended ≡ status.OutOfMemory
  pub known : asked ≢ None
  pub silent : Keeps o.taken o.taken'
  pub spared : NoReadFailed o

-- the run ends with the writing of a text that is due
pub record WritesDue (asked : Option Job) (o : Outside) (ended : Status) : Type 0 where
  pub due : Status
  pub text : List ℕ
  pub cause : IsDue asked o due text
  pub writes : Writes o.taken o.taken' o.write_faults o.write_faults' due text ended

-- what a run of these words comes to
abbrev pub RunsTo : Option Job → Outside → Status → Type 0
RunsTo asked o ended = WantsMemory asked o ended ⊎ WritesDue asked o ended
