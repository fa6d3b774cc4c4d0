-- A walk along a trace: what is left to come gives the last machine.
use Rattle.std.proofs.Common.{◌≡◌, ℕ, ◌+◌, ◌<◌, List, [], ◌∷◌, ◌++◌, length, drop, get_or, refl, sym, ap, ◌∙◌, suc, add-one, drop-cons}
use Rattle.mpt_trace.specs.declared.entry.Entry.{Entry}
use Rattle.mpt_wire.specs.Machine.SoFar.{SoFar, so_far_next}
use Rattle.mpt_wire.specs.Machine.State.{Machine}
use Rattle.mpt_wire.specs.Machine.Steps.{Step, after, after_all}
use Rattle.mpt_wire.specs.Machine.View.{steps_of, view_from}
use Rattle.mpt_wire.specs.Walks.Ahead.{next_own}

after_all-append : (m : Machine) (xs ys : List Step) → after_all m (xs ++ ys) ≡ after_all (after_all m xs) ys
after_all-append m [] ys = refl
after_all-append m (step ∷ xs) ys = after_all-append (after m step) xs ys

-- one entry further
pub one_further : (m : Machine) (g : SoFar) (t : List Entry) (i : ℕ) (e : Entry) (later : List Entry) → i < length t → e ≡ get_or t i e → later ≡ drop (i + 1) t →
    after_all (after_all m (steps_of g e (next_own e later))) (view_from (so_far_next g e (next_own e later)) (drop (i + 1) t)) ≡ after_all m (view_from g (drop i t))
one_further m g t i e later below is rest =
    let here : drop i t ≡ e ∷ drop (suc i) t = drop-cons t i e below ∙ ap (λ (x : Entry). x ∷ drop (suc i) t) (sym is) in
    rw (rest, add-one i, here)
    (sym (after_all-append m (steps_of g e (next_own e (drop (suc i) t))) (view_from (so_far_next g e (next_own e (drop (suc i) t))) (drop (suc i) t))))
