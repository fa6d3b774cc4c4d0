-- Printing a plan part by part.
use Rattle.std.proofs.Common.{◌≡◌, ℕ, ◌+◌, ◌<◌, ◌≤◌, List, [], ◌∷◌, ◌++◌, length, drop, get_or, sym, ◌∙◌, arith, append_assoc, append-nil, add-one, drop-cons}
use Rattle.std.proofs.lemmas.Grind.{common_steps}
use Rattle.mpt_trace.specs.declared.input.Input.{Input}
use Rattle.mpt_trace.specs.Numbers.{line_end}
use Rattle.mpt_script.specs.Printed.{expander_text}
use Rattle.mpt_script.specs.PrintedPlan.{expanders_text, submitter_text, submitters_text}

-- one more expander
pub one_expander : (text whole : List ℕ) (n : ℕ) (phys : List ℕ) → n < length phys → text ++ expanders_text n (drop n phys) ≡ whole
    → ((text ++ expander_text n (get_or phys n 0)) ++ line_end) ++ expanders_text (n + 1) (drop (n + 1) phys) ≡ whole
unfolding expanders_text
one_expander text whole n phys less e =
    let split : drop n phys ≡ get_or phys n 0 ∷ drop (n + 1) phys = rw add-one (drop-cons phys n 0 less) in
    let first = rw split at e in
    simp append_assoc (simp append_assoc at first)

-- all expanders
pub all_expanders : (text whole : List ℕ) (n : ℕ) (phys : List ℕ) → length phys ≤ n → text ++ expanders_text n (drop n phys) ≡ whole → text ≡ whole
unfolding expanders_text
all_expanders text whole n phys all e =
    let none : drop n phys ≡ [] = grind (arith, common_steps) in
    sym (append-nil text) ∙ (rw none at e)

-- one more submitter
pub one_submitter : (text whole : List ℕ) (n : ℕ) (submitters : List (List Input)) (inputs : List Input) → n < length submitters → inputs ≡ get_or submitters n inputs → text ++ submitters_text n (drop n submitters) ≡ whole
    → (text ++ submitter_text n inputs) ++ submitters_text (n + 1) (drop (n + 1) submitters) ≡ whole
unfolding submitters_text
one_submitter text whole n submitters inputs less is e =
    let split : drop n submitters ≡ get_or submitters n inputs ∷ drop (n + 1) submitters = rw add-one (drop-cons submitters n inputs less) in
    let first = rw (split, ← is) at e in
    append_assoc text (submitter_text n inputs) (submitters_text (n + 1) (drop (n + 1) submitters)) ∙ first

-- all submitters
pub all_submitters : (text whole : List ℕ) (n : ℕ) (submitters : List (List Input)) → length submitters ≤ n → text ++ submitters_text n (drop n submitters) ≡ whole → text ≡ whole
unfolding submitters_text
all_submitters text whole n submitters all e =
    let none : drop n submitters ≡ [] = grind (arith, common_steps) in
    sym (append-nil text) ∙ (rw none at e)
