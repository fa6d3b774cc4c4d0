-- Reading a schedule line by line.
use Rattle.std.proofs.Common.{◌≡◌, ℕ, ◌==◌, true, false, List, [], ◌∷◌, ◌++◌, length, Option, Some, None, Result, Ok, Err, refl, sym, ap, append_assoc, append-nil, arith}
use Rattle.std.proofs.lemmas.Grind.{common_steps}
use Rattle.std.specs.Option.{option_to_list}
use Rattle.mpt_lines.specs.declared.fault.Cause.{Cause}
use Rattle.mpt_lines.specs.declared.fault.Cause.TheVariants.{Unended}
use Rattle.mpt_script.specs.declared.line.Line.{Line}
use Rattle.mpt_script.specs.Declarations.{Declared}
use Rattle.mpt_script.specs.Schedules.{Fault, after_said, before, line_value, next_number, schedule_from}

-- lines that were read, before what the rest of a text stands for
abbrev pub preceded : List Line → Result (List Line) Fault → Result (List Line) Fault
preceded read (Ok lines) = Ok (read ++ lines)
preceded read (Err fault) = Err fault

pub preceded-nil : (rest : Result (List Line) Fault) → rest ≡ preceded [] rest
preceded-nil (Ok lines) = refl
preceded-nil (Err fault) = refl

preceded-before : (read : List Line) (line : Line) (rest : Result (List Line) Fault) → preceded read (before line rest) ≡ preceded (read ++ line ∷ []) rest
preceded-before read line (Ok lines) = ap Ok (sym (append_assoc read (line ∷ []) lines))
preceded-before read line (Err fault) = refl

-- a line that is not refused
pub read_said : (number : ℕ) (d : Declared) (read : List Line) (line : List ℕ) (left : List (List ℕ)) (said : Option Line) → (length left == 0) ≡ false → line_value d line ≡ Ok said
    → preceded read (schedule_from number d (line ∷ left)) ≡ preceded (read ++ option_to_list said) (schedule_from (next_number number) (after_said d said) left)
unfolding schedule_from
read_said number d read line [] said more e = cc
read_said number d read line (next ∷ others) (Some value) more e = rw e (preceded-before read value _)
read_said number d read line (next ∷ others) None more e = rw (e, append-nil read) refl

-- a line that is refused
pub read_refused : (number : ℕ) (d : Declared) (read : List Line) (line : List ℕ) (left : List (List ℕ)) (cause : Cause) → (length left == 0) ≡ false → line_value d line ≡ Err cause
    → preceded read (schedule_from number d (line ∷ left)) ≡ Err (record { line = number; cause = cause })
unfolding schedule_from
read_refused number d read line [] cause more e = cc
read_refused number d read line (next ∷ others) cause more e = rw e refl

-- what follows the last line end
pub read_rest : (number : ℕ) (d : Declared) (read : List Line) (line : List ℕ) (left : List (List ℕ)) → (length left == 0) ≡ true → (length line == 0) ≡ true
    → preceded read (schedule_from number d (line ∷ left)) ≡ Ok read
unfolding schedule_from
read_rest number d read line [] last e = rw e (ap Ok (append-nil read))
read_rest number d read line (next ∷ others) last e = absurd (grind (arith, common_steps, last))

pub read_unended : (number : ℕ) (d : Declared) (read : List Line) (line : List ℕ) (left : List (List ℕ)) → (length left == 0) ≡ true → (length line == 0) ≡ false
    → preceded read (schedule_from number d (line ∷ left)) ≡ Err (record { line = number; cause = Unended })
unfolding schedule_from
read_unended number d read line [] last e = rw e refl
read_unended number d read line (next ∷ others) last e = absurd (grind (arith, common_steps, last))

-- nothing is left
pub read_all : (number : ℕ) (d : Declared) (read : List Line) → preceded read (schedule_from number d []) ≡ Ok read
unfolding schedule_from
read_all number d read = ap Ok (append-nil read)
