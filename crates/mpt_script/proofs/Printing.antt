-- Printing a schedule line by line.
use Rattle.std.proofs.Common.{◌≡◌, ℕ, ◌+◌, ◌<◌, ◌≤◌, List, [], ◌∷◌, ◌++◌, length, drop, get_or, sym, ◌∙◌, arith, append_assoc, append-nil, add-one, drop-cons}
use Rattle.std.proofs.lemmas.Grind.{common_steps}
use Rattle.mpt_trace.specs.Numbers.{line_end}
use Rattle.mpt_script.specs.declared.line.Line.{Line}
use Rattle.mpt_script.specs.Printed.{expanders_of, line_text, schedule_text}

-- one more line
pub printed_line : (text whole : List ℕ) (expanders i : ℕ) (lines : List Line) (line : Line) → i < length lines → line ≡ get_or lines i line
    → text ++ schedule_text expanders (drop i lines) ≡ whole
    → ((text ++ line_text expanders line) ++ line_end) ++ schedule_text (expanders + expanders_of line) (drop (i + 1) lines) ≡ whole
unfolding schedule_text
printed_line text whole expanders i lines line less is e =
    let split : drop i lines ≡ get_or lines i line ∷ drop (i + 1) lines = rw add-one (drop-cons lines i line less) in
    let first = rw (split, ← is) at e in
    simp append_assoc (simp append_assoc at first)

-- all lines
pub printed_all : (text whole : List ℕ) (expanders i : ℕ) (lines : List Line) → length lines ≤ i → text ++ schedule_text expanders (drop i lines) ≡ whole → text ≡ whole
unfolding schedule_text
printed_all text whole expanders i lines all e =
    let none : drop i lines ≡ [] = grind (arith, common_steps) in
    sym (append-nil text) ∙ (rw none at e)
