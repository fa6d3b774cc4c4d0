-- Items that are put one after another, and the answers to the target resets that wait.
use Rattle.std.proofs.Common.{◌≡◌, ℕ, ◌+◌, ◌<◌, Bool, true, false, cond, List, [], ◌∷◌, ◌++◌, append_assoc, append-nil, length, get_or, filter, map, take, refl, sym, ap, ◌∙◌}
use Rattle.std.proofs.lemmas.List.{take_more}
use Rattle.mpt_rules.specs.declared.at_fabric.HeldReset.{HeldReset}
use Rattle.mpt_rules.specs.declared.said.Said.{Said}
use Rattle.mpt_rules.specs.Ioc.Commands.{held_answered, is_held_for}
use Rattle.ioc_replies.specs.Outboxes.{after_put}
use Rattle.ioc_core.specs.Lists.{after_puts}

pub puts_none : (boxes : List (List Said)) → after_puts 0 [] boxes ≡ boxes
puts_none [] = refl
puts_none (first ∷ others) = ap (λ (items : List Said). items ∷ others) (append-nil first)

pub puts_more : (items : List Said) (said : Said) (boxes : List (List Said)) → after_put 0 said (after_puts 0 items boxes) ≡ after_puts 0 (items ++ said ∷ []) boxes
puts_more items said [] = refl
puts_more items said (first ∷ others) = ap (λ (put : List Said). put ∷ others) (append_assoc first items (said ∷ []))

-- the answers to those of the handle
abbrev pub answers_for : ℕ → List HeldReset → List Said
answers_for handle held = map held_answered (filter (is_held_for handle) held)

answers-append : (handle : ℕ) (xs : List HeldReset) (x : HeldReset) → answers_for handle (xs ++ x ∷ []) ≡ answers_for handle xs ++ cond (is_held_for handle x) (held_answered x ∷ []) []
answers-append handle [] x = by_test (is_held_for handle x)
  where
    by_test : (b : Bool) → map held_answered (cond b (x ∷ []) []) ≡ cond b (held_answered x ∷ []) []
    by_test true = refl
    by_test false = refl
answers-append handle (y ∷ ys) x = by_test (is_held_for handle y) (answers-append handle ys x)
  where
    by_test : (b : Bool) → answers_for handle (ys ++ x ∷ []) ≡ answers_for handle ys ++ cond (is_held_for handle x) (held_answered x ∷ []) []
        → map held_answered (cond b (y ∷ filter (is_held_for handle) (ys ++ x ∷ [])) (filter (is_held_for handle) (ys ++ x ∷ [])))
        ≡ map held_answered (cond b (y ∷ filter (is_held_for handle) ys) (filter (is_held_for handle) ys)) ++ cond (is_held_for handle x) (held_answered x ∷ []) []
    by_test true is = ap (λ (zs : List Said). held_answered y ∷ zs) is
    by_test false is = is

pub answers_more : (handle : ℕ) (held : List HeldReset) (i : ℕ) (x : HeldReset) → i < length held → x ≡ get_or held i x → is_held_for handle x ≡ true
    → answers_for handle (take (i + 1) held) ≡ answers_for handle (take i held) ++ held_answered x ∷ []
answers_more handle held i x within is held_is =
    ap (answers_for handle) (take_more held i x within ∙ ap (λ (y : HeldReset). take i held ++ y ∷ []) (sym is))
    ∙ answers-append handle (take i held) x
    ∙ ap (λ (b : Bool). answers_for handle (take i held) ++ cond b (held_answered x ∷ []) []) held_is

pub answers_same : (handle : ℕ) (held : List HeldReset) (i : ℕ) (x : HeldReset) → i < length held → x ≡ get_or held i x → is_held_for handle x ≡ false
    → answers_for handle (take (i + 1) held) ≡ answers_for handle (take i held)
answers_same handle held i x within is isnt =
    ap (answers_for handle) (take_more held i x within ∙ ap (λ (y : HeldReset). take i held ++ y ∷ []) (sym is))
    ∙ answers-append handle (take i held) x
    ∙ ap (λ (b : Bool). answers_for handle (take i held) ++ cond b (held_answered x ∷ []) []) isnt
    ∙ append-nil (answers_for handle (take i held))
