-- Lemmas on the bytes that came from a source.
use Rattle.std.proofs.Common.{◌≡◌, ℕ, ◌+◌, ◌<◌, ◌≤◌, ◌↔◌, IsErrOf, Ok, Err, arith, refl, List, [], ◌++◌, length, take, sym, ap, subst, ◌∙◌, length-append}
use Rattle.std.specs.declared.option.Option.{Option}
use Rattle.std.specs.Io.KnownBytes.{Consumes, Keeps}
use Rattle.std.proofs.KnownBytes.{Consumes-nil, Consumes-trans, Consumes-kept}
use Rattle.mpt_outside.specs.Counts.{counted, last_count}
use Rattle.mpt_outside.specs.declared.reading.ReadFault.{ReadFault}
use Rattle.mpt_outside.specs.declared.reading.ReadFault.TheVariants as fault
use Rattle.mpt_outside.specs.Reading.{Came, StoppedAfter}
use Rattle.mpt_outside.proofs.CountLemmas.{counted-zero, counted-counted, counted-fresh}

pub came_none : (a : Option (List ℕ)) (g : ℕ) → Came a a g g []
came_none a g = record { first = Consumes-nil a; count = sym (counted-zero g) }

pub came_kept : (a b : Option (List ℕ)) (g h : ℕ) → Keeps a b → h ≡ g → Came a b g h []
came_kept a b g h keeps same = record { first = Consumes-kept a a b [] (Consumes-nil a) keeps; count = same ∙ sym (counted-zero g) }

pub came_taken : (a b : Option (List ℕ)) (g h k : ℕ) (buffer : List ℕ) → Consumes a b (take k buffer) → h ≡ counted g k → k ≡ length (take k buffer) → Came a b g h (take k buffer)
came_taken a b g h k buffer first count long = record { first = first; count = count ∙ ap (counted g) long }

pub came_more : (a b c : Option (List ℕ)) (g h i : ℕ) (xs ys : List ℕ) → Came a b g h xs → Came b c h i ys → Came a c g i (xs ++ ys)
came_more a b c g h i xs ys one two = record {
  first = Consumes-trans a b c xs ys one.first two.first;
  count = two.count ∙ ap (λ n. counted n (length ys)) one.count ∙ counted-counted g (length xs) (length ys) ∙ ap (counted g) (sym (length-append xs ys));
}

-- bytes that came, and a piece after them
pub came_piece : (a b c : Option (List ℕ)) (g h i : ℕ) (xs piece ys : List ℕ) → Came a b g h xs → Came b c h i piece → ys ≡ xs ++ piece → Came a c g i ys
came_piece a b c g h i xs piece ys one two joined = subst (Came a c g i) (sym joined) (came_more a b c g h i xs piece one two)

-- a reading that stopped in its last turn
pub stopped_more : (a b c : Option (List ℕ)) (g h i : ℕ) (xs : List ℕ) (e : ReadFault) (limit long : ℕ) → Came a b g h xs → long ≡ length xs
    → ((piece : List ℕ) × Came b c h i piece × StoppedAfter e limit (long + length piece))
    → ((bytes : List ℕ) × Came a c g i bytes × StoppedAfter e limit (length bytes))
stopped_more a b c g h i xs e limit long one same (piece, two, stop) =
    (xs ++ piece, came_more a b c g h i xs piece one two, subst (StoppedAfter e limit) (ap (λ n. n + length piece) same ∙ sym (length-append xs piece)) stop)

-- a source that had given nothing gave as many bytes as came
pub came_fresh : (a b : Option (List ℕ)) (g h : ℕ) (bytes : List ℕ) → Came a b g h bytes → g ≡ 0 → length bytes ≤ last_count → h ≡ length bytes
came_fresh a b g h bytes came fresh short = came.count ∙ ap (λ n. counted n (length bytes)) fresh ∙ counted-fresh (length bytes) short

-- a reading that stopped is too long exactly where a source that had given nothing gave more than the limit
pub exactly_stopped : {T : Type 0} (e : ReadFault) (a b : Option (List ℕ)) (g h limit : ℕ) → ((bytes : List ℕ) × Came a b g h bytes × StoppedAfter e limit (length bytes))
    → g ≡ 0 → limit < last_count → IsErrOf {T = T} (Err e) fault.TooLong ↔ (limit < h)
exactly_stopped fault.Failed a b g h limit (bytes, came, after) fresh below =
    let same : h ≡ length bytes = came_fresh a b g h bytes came fresh (omega arith) in
    (λ other. cc, λ more. absurd (omega arith))
exactly_stopped fault.TooLong a b g h limit (bytes, came, after) fresh below =
    let same : h ≡ length bytes = came_fresh a b g h bytes came fresh (omega arith) in
    (λ _. omega arith, λ _. refl)
exactly_stopped fault.OutOfMemory a b g h limit (bytes, came, after) fresh below =
    let same : h ≡ length bytes = came_fresh a b g h bytes came fresh (omega arith) in
    (λ other. cc, λ more. absurd (omega arith))

-- a reading to the end gave no more than the limit
pub exactly_ended : {T : Type 0} (value : T) (a b : Option (List ℕ)) (g h limit : ℕ) (bytes : List ℕ) → Came a b g h bytes → length bytes ≤ limit
    → g ≡ 0 → limit < last_count → IsErrOf {T = T} (Ok value) fault.TooLong ↔ (limit < h)
exactly_ended value a b g h limit bytes came short fresh below =
    let same : h ≡ length bytes = came_fresh a b g h bytes came fresh (omega arith) in
    (λ other. cc, λ more. absurd (omega arith))
