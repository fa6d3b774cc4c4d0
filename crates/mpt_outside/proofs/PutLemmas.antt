-- Lemmas on a text that goes to a sink a piece at a time.
use Rattle.std.proofs.Common.{◌≡◌, ℕ, ◌+◌, ◌-◌, List, ◌++◌, length, take, drop, sym, ap, subst, ◌∙◌, arith, length-drop, take_all}
use Rattle.std.specs.declared.option.Option.{Option}
use Rattle.std.specs.Io.KnownBytes.{Appends}
use Rattle.std.proofs.KnownBytes.{Appends-trans}
use lib.Seq.{take-add}

-- a sink that took the text's front, and then the first k bytes of the rest, took a longer front
pub appends_front : (a b c : Option (List ℕ)) (text : List ℕ) (done k : ℕ) → Appends a b (take done text)
    → Appends b c (take k (take (length text - done) (drop done text))) → Appends a c (take (done + k) text)
appends_front a b c text done k front more =
    let rest : take (length text - done) (drop done text) ≡ drop done text = take_all (length text - done) (drop done text) (omega (arith, length-drop done text)) in
    let whole : take done text ++ take k (take (length text - done) (drop done text)) ≡ take (done + k) text = ap (λ l. take done text ++ take k l) rest ∙ sym (take-add done k text) in
    subst (Appends a c) whole (Appends-trans a b c (take done text) (take k (take (length text - done) (drop done text))) front more)
