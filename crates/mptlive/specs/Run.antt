-- A whole run: which status comes when, and what was written with it.
use Rattle.std.specs.Prelude.{◌≡◌, ◌≢◌, ◌⊎◌, ℕ, ◌+◌, ◌<◌, ◌≤◌, List, ◌++◌, length, take, codes, Option, Some, None}
use Rattle.std.specs.Io.KnownBytes.{Appends, IsAtEnd, Keeps}
use Rattle.mpt_outside.specs.Counts.{Rose}
use Rattle.mpt_outside.specs.Reading.{Came}
use Rattle.mpt_messages.specs.Listing.{line_end}
use Rattle.mpt_script.specs.Plans.{plan_of}
use Rattle.mptlive.specs.declared.kind.ReportKind.{ReportKind}
use Rattle.mptlive.specs.declared.run.TheConstants.{MOST_BYTES}
use Rattle.mptlive.specs.declared.status.Status.{Status}
use Rattle.mptlive.specs.declared.status.Status.TheVariants as status
use Rattle.mptlive.specs.Answer.{IsPlanAnswer}
use Rattle.mptlive.specs.Input.{HasTooMuch}

-- the number that the process ends with
abbrev pub status_number : Status → ℕ
status_number status.Ok = 0
status_number status.Usage = 2
status_number status.ReadFault = 3
status_number status.WriteFault = 4
status_number status.Refused = 5
status_number status.OutOfMemory = 6
status_number status.TooLong = 7

-- what is seen of the source and the sink, before and after
pub record Outside : Type 0 where
  -- the bytes that the source has left and how many it gave, where it tells them, and its faults
  pub left : Option (List ℕ)
  pub left' : Option (List ℕ)
  pub given : ℕ
  pub given' : ℕ
  pub read_faults : ℕ
  pub read_faults' : ℕ
  -- the bytes that the sink took, where it tells them, and its faults
  pub taken : Option (List ℕ)
  pub taken' : Option (List ℕ)
  pub write_faults : ℕ
  pub write_faults' : ℕ

-- what is seen of a source and a sink that were so before and are so after
abbrev pub seen_between : {S K : Type 0} (left : S → Option (List ℕ)) (given read_faults : S → ℕ)
    (taken : K → Option (List ℕ)) (write_faults : K → ℕ) → S → S → K → K → Outside
seen_between left given read_faults taken write_faults source source' sink sink' = record {
  left = left source;
  left' = left source';
  given = given source;
  given' = given source';
  read_faults = read_faults source;
  read_faults' = read_faults source';
  taken = taken sink;
  taken' = taken sink';
  write_faults = write_faults sink;
  write_faults' = write_faults sink';
}

-- no read failed
abbrev pub NoReadFailed : Outside → Type 0
NoReadFailed o = o.read_faults' ≡ o.read_faults

-- nothing came from the source, and nothing was asked of it
abbrev pub NothingRead : Outside → Type 0
NothingRead o = (o.left' ≡ o.left) × (o.given' ≡ o.given) × NoReadFailed o

-- these bytes came from the source
abbrev pub Gave : Outside → List ℕ → Type 0
Gave o bytes = Came o.left o.left' o.given o.given' bytes

-- these bytes are all that the source had, and within the limit
pub record IsInput (o : Outside) (bytes : List ℕ) : Type 0 where
  pub gave : Gave o bytes
  pub end : IsAtEnd o.left'
  pub short : length bytes ≤ MOST_BYTES
  pub spared : NoReadFailed o

-- an input is too long: one byte more than the limit came, or it was read whole and has too many lines
pub data IsTooLong (o : Outside) (input : List ℕ) : Type 0 where
  TooManyBytes : Gave o input → length input ≡ MOST_BYTES + 1 → NoReadFailed o → IsTooLong o input
  TooManyLines : IsInput o input → HasTooMuch input → IsTooLong o input

-- an input was read whole and hasn't too many lines, and this is the answer to it
pub record IsAnswered (kind : ReportKind) (o : Outside) (due : Status) (text : List ℕ) : Type 0 where
  pub input : List ℕ
  pub whole : IsInput o input
  pub within : HasTooMuch input → ⊥
  pub said : IsPlanAnswer kind (plan_of input) due text

abbrev pub usage_text : List ℕ
usage_text = codes "usage: mptlive [show]" ++ line_end

abbrev pub read_fault_text : List ℕ
read_fault_text = codes "read fault" ++ line_end

abbrev pub too_long_text : List ℕ
too_long_text = codes "too long" ++ line_end

-- the status that is due with this text, by its cause
abbrev pub IsDue : Option ReportKind → Outside → Status → List ℕ → Type 0
IsDue None o status.Usage text = NothingRead o × (text ≡ usage_text)
IsDue (Some kind) o status.ReadFault text = Rose o.read_faults o.read_faults' × (text ≡ read_fault_text)
IsDue (Some kind) o status.TooLong text = (input : List ℕ) × IsTooLong o input × (text ≡ too_long_text)
IsDue (Some kind) o status.Refused text = IsAnswered kind o status.Refused text
IsDue (Some kind) o status.Ok text = IsAnswered kind o status.Ok text
IsDue _ o _ text = ⊥

-- the sink took the whole text, and the run ends with the status that is due
pub record TookWhole (taken taken' : Option (List ℕ)) (due : Status) (text : List ℕ) (ended : Status) : Type 0 where
  pub ends : ended ≡ due
  pub took : Appends taken taken' text

-- the sink took a part at the text's front, and then failed
pub record TookPart (taken taken' : Option (List ℕ)) (faults faults' : ℕ) (text : List ℕ) (ended : Status)
    : Type 0 where
  pub ends : ended ≡ status.WriteFault
  pub failed : Rose faults faults'
  pub count : ℕ
  pub part : count < length text
  pub took : Appends taken taken' (take count text)

-- the writing of a text with its status
abbrev pub Writes : (taken taken' : Option (List ℕ)) (faults faults' : ℕ) → Status → List ℕ → Status → Type 0
Writes taken taken' faults faults' due text ended =
    TookWhole taken taken' due text ended ⊎ TookPart taken taken' faults faults' text ended

-- the run ends for want of memory: nothing was written, and no read failed
pub record WantsMemory (kind : Option ReportKind) (o : Outside) (ended : Status) : Type 0 where
  pub ends : ended ≡ status.OutOfMemory
  pub known : kind ≢ None
  pub silent : Keeps o.taken o.taken'
  pub spared : NoReadFailed o

-- the run ends with the writing of a text that is due
pub record WritesDue (kind : Option ReportKind) (o : Outside) (ended : Status) : Type 0 where
  pub due : Status
  pub text : List ℕ
  pub cause : IsDue kind o due text
  pub writes : Writes o.taken o.taken' o.write_faults o.write_faults' due text ended

-- what a run of these words comes to
abbrev pub RunsTo : Option ReportKind → Outside → Status → Type 0
RunsTo kind o ended = WantsMemory kind o ended ⊎ WritesDue kind o ended
