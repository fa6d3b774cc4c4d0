-- Entries stand each in its turn exactly where they are a prefix of the cycle, for any key.
use Rattle.std.proofs.Common.{◌≡◌, ℕ, zero, suc, ◌<◌, ◌+◌, ◌%◌, List, [], ◌∷◌, length, get_or, filter_map, Option, Some, None, ap, ◌∙◌, arith, add-zero}
use Rattle.std.specs.List.{cons_option}
use Rattle.mpt_trace.specs.declared.entry.Entry.{Entry}
use Rattle.mpt_wire.specs.Walks.Cycles.{is_reset_end, IsInCycle, InCycles, count_next, CountAsks, TurnsPass}
use Rattle.mpt_wire.specs.Walks.Segments.{segments}
use Rattle.mpt_wire.specs.Walks.Passes.{Passes}
use Rattle.mpt_wire.proofs.Segments.{each_segment, each_so, passes_anew}

IsCycleFrom : ℕ → List ℕ → Type 0
IsCycleFrom c xs = (k : ℕ) → k < length xs → get_or xs k 0 ≡ (c + k) % 4

by_place : (c i : ℕ) (xs : List ℕ) → i ≡ c % 4 → IsCycleFrom (c + 1) xs → (k : ℕ) → k < length (i ∷ xs) → get_or (i ∷ xs) k 0 ≡ (c + k) % 4
unfolding IsCycleFrom
by_place c i xs a h zero b = rw (add-zero) a
by_place c i xs a h (suc k) b = let e : get_or xs k 0 ≡ ((c + 1) + k) % 4 = h k (omega arith) in e ∙ ap (λ n. n % 4) (omega arith)

one_more : (c : ℕ) (o : Option ℕ) (xs : List ℕ) → CountAsks c o → IsCycleFrom (count_next c o) xs → IsCycleFrom c (cons_option o xs)
unfolding IsCycleFrom
one_more c None xs a h = h
one_more c (Some i) xs a h = λ k. by_place c i xs a h k

first_turn : (c : ℕ) (o : Option ℕ) (xs : List ℕ) → IsCycleFrom c (cons_option o xs) → CountAsks c o
unfolding IsCycleFrom
first_turn c None xs h = tt
first_turn c (Some i) xs h = let e : i ≡ (c + 0) % 4 = h 0 (omega arith) in e ∙ ap (λ n. n % 4) (omega arith)

other_turns : (c : ℕ) (o : Option ℕ) (xs : List ℕ) → IsCycleFrom c (cons_option o xs) → IsCycleFrom (count_next c o) xs
unfolding IsCycleFrom
other_turns c None xs h = h
other_turns c (Some i) xs h = λ k b. let e : get_or xs k 0 ≡ (c + suc k) % 4 = h (suc k) (omega arith) in e ∙ ap (λ n. n % 4) (omega arith)

module _ (stage : Entry → Option ℕ) where
  abbrev stage_next : ℕ → Entry → ℕ
  stage_next c e = count_next c (stage e)

  abbrev StageAsks : ℕ → Entry → Type 0
  StageAsks c e = CountAsks c (stage e)

  from_passes : (c : ℕ) (t : List Entry) → Passes stage_next StageAsks c t → IsCycleFrom c (filter_map stage t)
  unfolding IsCycleFrom
  from_passes c [] p = λ k b. absurd (omega arith)
  from_passes c (e ∷ t) p = one_more c (stage e) _ p.0 (from_passes (stage_next c e) t p.1)

  to_passes : (c : ℕ) (t : List Entry) → IsCycleFrom c (filter_map stage t) → Passes stage_next StageAsks c t
  to_passes c [] h = tt
  to_passes c (e ∷ t) h = (first_turn c (stage e) _ h, to_passes (stage_next c e) t (other_turns c (stage e) _ h))

  in_cycle : (t : List Entry) → Passes stage_next StageAsks 0 t → IsInCycle stage t
  unfolding IsCycleFrom
  in_cycle t p k b = from_passes 0 t p k b ∙ ap (λ n. n % 4) (omega arith)

  in_turn : (t : List Entry) → IsInCycle stage t → Passes stage_next StageAsks 0 t
  unfolding IsCycleFrom
  in_turn t h = to_passes 0 t (λ k b. h k b ∙ ap (λ n. n % 4) (omega arith))

  pub in_cycles : (t : List Entry) → TurnsPass stage t → InCycles stage t
  in_cycles t p = each_so _ _ in_cycle (segments is_reset_end t) (each_segment stage_next StageAsks 0 is_reset_end t p)

  pub turns_pass : (t : List Entry) → InCycles stage t → TurnsPass stage t
  turns_pass t h = passes_anew stage_next StageAsks 0 is_reset_end t (each_so _ _ in_turn (segments is_reset_end t) h)
