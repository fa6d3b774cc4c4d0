-- The text of a schedule: the lines that it stands for, or its first faulty line and that line's first
-- cause.
use Rattle.std.specs.Prelude.{ℕ, ◌+◌, ◌==◌, ◌||◌, ◌≡◌, min, Bool, if◌then◌else◌, List, [], ◌∷◌, length, slice_index, Option, Some, None, Result, Ok, Err, ⊤}
use Rattle.mpt_lines.specs.declared.fault.Cause.{Cause}
use Rattle.mpt_lines.specs.declared.fault.Cause.TheVariants.{Unended}
use Rattle.mpt_lines.specs.declared.fault.ScriptFault.{ScriptFault}
use Rattle.mpt_lines.specs.declared.fault.ScriptFault.TheVariants as fault
use Rattle.mpt_script.specs.declared.line.Line.{Line}
use Rattle.mpt_script.specs.Declarations.{Declared, after, judged, nothing_declared}
use Rattle.mpt_lines.specs.Numbers.{◌>>=◌}
use Rattle.mpt_lines.specs.Statements.{schedule_line}
use Rattle.mpt_lines.specs.Words.{lines, words}

-- an empty line, or one that begins with `#`
abbrev pub says_nothing : List ℕ → Bool
says_nothing line = (length line == 0) || (slice_index line 0 == 35)

-- what a line says after what was declared, if it says something
abbrev pub line_value : Declared → List ℕ → Result (Option Line) Cause
line_value d line = if says_nothing line then Ok None else (schedule_line (words line) >>= judged d >>= (λ value. Ok (Some value)))

-- what is declared after what a line said, if it said something
abbrev pub after_said : Declared → Option Line → Declared
after_said d None = d
after_said d (Some line) = after d line

-- the number of the next line, which stands still at 2^32 - 1
abbrev pub next_number : ℕ → ℕ
next_number number = min (number + 1) 4294967295

-- the first faulty line and its first cause
pub record Fault : Type 0 where
  pub line : ℕ
  pub cause : Cause

-- a line before others
abbrev pub before : Line → Result (List Line) Fault → Result (List Line) Fault
before line (Ok lines) = Ok (line ∷ lines)
before line (Err fault) = Err fault

-- what is declared after a line that was read
abbrev pub declared_after : Declared → Result (Option Line) Cause → Declared
declared_after d (Err cause) = d
declared_after d (Ok said) = after_said d said

-- what a line of this number says, before what the rest of the text stands for
abbrev pub line_before : ℕ → Result (Option Line) Cause → Result (List Line) Fault → Result (List Line) Fault
line_before number (Err cause) rest = Err (record { line = number; cause = cause })
line_before number (Ok None) rest = rest
line_before number (Ok (Some line)) rest = before line rest

-- the lines from this number on; what follows the last line end is no line
unfoldable pub schedule_from : ℕ → Declared → List (List ℕ) → Result (List Line) Fault
schedule_from number d [] = Ok []
schedule_from number d (rest ∷ []) = if length rest == 0 then Ok [] else Err (record { line = number; cause = Unended })
schedule_from number d (line ∷ next ∷ others) =
    line_before number (line_value d line)
    (schedule_from (next_number number) (declared_after d (line_value d line)) (next ∷ others))

-- what a text stands for
abbrev pub schedule_of : List ℕ → Result (List Line) Fault
schedule_of text = schedule_from 1 nothing_declared (lines text)

-- A call that refuses names the first faulty line and its first cause, unless memory was wanting.
abbrev pub Refuses : {A : Type 0} → ScriptFault → Result A Fault → Type 0
Refuses (fault.At line cause) meaning = meaning ≡ Err (record { line = line; cause = cause })
Refuses fault.OutOfMemory meaning = ⊤
