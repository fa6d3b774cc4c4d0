-- What a run of the library's merge gives.
use Rattle.std.proofs.Common.{◌≡◌, true, List, Bool, Option, map, ap, ◌∙◌, subst}
use Rattle.std.specs.Iterator.{Yields}
use Rattle.std.specs.Iterator.Runs.{Run, YieldsRun}
use Rattle.std.proofs.lemmas.Iterator.{YieldsList, items_from_drains}
use Rattle.itertools.specs.Adaptor.{EachRunBehindBoth, EndsWithBoth, GivesOfBoth}
use Rattle.itertools.specs.List.{merge_by}
use Rattle.mpt_rules.specs.Session.Journals.{Of, merged}
use Rattle.mpt_journal.proofs.Merges.{is_first, map-merge_by}

-- the items of a whole run are those of the list
items-whole : {S A B : Type 0} {steps : S → Option A → S → Type 0} (v : A → B) {s : S} {all : List B} (p : Run steps) → p.from ≡ s → p.whole ≡ true → YieldsList steps v s all → map v p.items ≡ all
unfolding YieldsRun
items-whole {steps = steps} v p from whole road =
    let took = p.gave.0 in
    items_from_drains p.items (took.0, subst (λ k. Yields steps k p.items took.0) from took.1, λ _. took.2 whole) road

-- a whole run of a merge gives the merge of the two lists
pub items-merged : {S T U A X : Type 0} {firsts : S → Option A → S → Type 0} {seconds : T → Option A → T → Type 0} {steps : U → Option A → U → Type 0}
    (f : A → Of X) (Acts : (A → A → Bool) → Type 0) {s : U} {x : S} {y : T} {own later : List (Of X)}
    → EachRunBehindBoth steps s firsts x seconds y (λ p a b. EndsWithBoth p a b × ((h : A → A → Bool) → Acts h → GivesOfBoth p a b (merge_by h)))
    → Acts (is_first f)
    → YieldsList firsts f x own
    → ((b : Run seconds) → b.from ≡ y → b.whole ≡ true → map f b.items ≡ later)
    → (p : Run steps) → p.from ≡ s → p.whole ≡ true → map f p.items ≡ merged own later
items-merged f Acts {own = own} runs acts first second p from whole =
    let behind = runs p p.seen from in
    let a = behind.0 in
    let b = behind.2.0 in
    let ends = behind.2.2.0 whole in
    let gives = (behind.2.2.1 (is_first f) acts).1 whole in
    ap (map f) gives ∙ map-merge_by f a.items b.items
    ∙ ap (λ zs. merged zs (map f b.items)) (items-whole f a behind.1 ends.0 first)
    ∙ ap (λ zs. merged own zs) (second b behind.2.1 ends.1)
