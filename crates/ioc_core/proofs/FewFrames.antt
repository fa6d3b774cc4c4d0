-- The reply frames that the controller may use are 64 at most, so that the ring of 80 is never full.
use Rattle.std.proofs.Common.{◌≡◌, ◌∙◌, ℕ, zero, suc, ◌+◌, ◌≤◌, ◌<◌, Bool, true, false, cond, eqb, ltb, List, [], ◌∷◌, ◌++◌, drop, length, count_by, refl, sym, inl, inr, arith}
use Rattle.std.specs.List.{list_all, list_any}
use Rattle.std.specs.Cmp.{IsEquivalence}
use Rattle.std.specs.Prelude.{◌↔◌, Contains, IsTrue}
use Rattle.std.proofs.lemmas.Bool.{cases_Bool, cases_eq}
use Rattle.std.proofs.lemmas.Bool.Decides.{nat_tests}
use Rattle.std.proofs.lemmas.List.Folds.{list_all-append}
use Rattle.std.proofs.lemmas.List.Sums.{sum_by_push}
use Rattle.std.proofs.lemmas.Map.Views.{Contains-from_any, list_any-from_Contains}
use Rattle.ioc_tables.specs.CommandCounts.{one_if}
use Rattle.ioc_tables.proofs.Counts.{has_counted}
use Rattle.ioc_tables.proofs.Numbers.{both_hold, eqb_apart, eqb_itself, eqb_same}
use Rattle.ioc_tables.proofs.Short.{all_counted, count-cons, count_split, none_counted}
use Rattle.ioc_core.specs.FreeFrames.{AreFreeFrames, is_frame}

not_below : (x : ℕ) → ltb x 0 ≡ false
not_below x = grind (arith, nat_tests)

last_below : (m x : ℕ) → one_if (ltb x (suc m)) ≤ one_if (ltb x m) + one_if (eqb x m)
last_below m x = grind (arith, nat_tests)

-- each number at most once: no more below a bound than it says
few_below : (m : ℕ) (frames : List ℕ) → ((f : ℕ) → count_by (λ x. eqb x f) frames ≤ 1) → count_by (λ x. ltb x m) frames ≤ m
few_below zero frames once = let none = none_counted (λ x. ltb x 0) not_below frames in omega (arith, none)
few_below (suc m) frames once =
    let rest = few_below m frames once in
    let split = count_split (λ x. ltb x (suc m)) (λ x. ltb x m) (λ x. eqb x m) (last_below m) frames in
    let one = once m in
    omega (arith, rest, split, one)

pub frames_are_few : (frames : List ℕ) → AreFreeFrames frames → length frames ≤ 64
frames_are_few frames are =
    let size = all_counted is_frame frames are.known in
    let most = few_below 64 frames are.once in
    omega (arith, size, most)

-- ---- a frame that is given

below_64 : (frame : ℕ) → frame < 64 → ltb frame 64 ≡ true
below_64 frame is = grind (arith, nat_tests, is)

none_of : (frame : ℕ) (frames : List ℕ) → list_any (λ f. eqb f frame) frames ≡ false → count_by (λ f. eqb f frame) frames ≡ 0
none_of frame frames absent = zero_where (count_by (λ f. eqb f frame) frames) (has_counted (λ f. eqb f frame) frames ∙ absent)
  where
    zero_where : (n : ℕ) → ltb 0 n ≡ false → n ≡ 0
    zero_where n is = grind (arith, nat_tests, is)

pub frame_given : (frames : List ℕ) (frame : ℕ) → AreFreeFrames frames → frame < 64 → list_any (λ f. eqb f frame) frames ≡ false → AreFreeFrames (frames ++ frame ∷ [])
frame_given frames frame are below absent =
    record {
      known = list_all-append is_frame frames (frame ∷ []) ∙ rw (are.known, below_64 frame below) refl;
      once = λ other.
          let push = sum_by_push (λ x. cond (eqb x other) 1 0) frames frame in
          let had = are.once other in
          elim (cases_eq other frame) [
            | inl same ↦ let none : count_by (λ f. eqb f other) frames ≡ 0 = rw same (none_of frame frames absent) in let one = most_one (eqb frame other) in omega (arith, push, none, one)
            | inr differs ↦ let isnt : one_if (eqb frame other) ≡ 0 = rw (eqb_apart frame other differs) refl in omega (arith, push, had, isnt)
          ];
    }
  where
    most_one : (b : Bool) → one_if b ≤ 1
    most_one true = omega arith
    most_one false = omega arith

-- ---- a frame that is taken

pub frame_taken : (frames : List ℕ) → AreFreeFrames frames → AreFreeFrames (drop 1 frames)
frame_taken [] are = are
frame_taken (x ∷ xs) are =
    record {
      known = (both_hold (is_frame x) (list_all is_frame xs) are.known).1;
      once = λ other. let had = are.once other in let cons = count-cons (λ f. eqb f other) x xs in omega (arith, had, cons);
    }

-- none are there
pub no_frames : AreFreeFrames []
no_frames = record { known = refl; once = λ other. omega arith }

-- ---- a frame that is looked for

abbrev flipped : ℕ → ℕ → Bool
flipped a b = eqb b a

flipped_equivalence : IsEquivalence flipped
flipped_equivalence =
    record {
      refl = λ x. eqb_itself x;
      symm = λ x y. grind (arith, nat_tests);
      congr = λ x y z same. rw (eqb_same y x same) refl;
    }

pub has_is_any : (found : Bool) (frames : List ℕ) (frame : ℕ) → (IsTrue found ↔ Contains frames frame) → found ≡ list_any (λ f. eqb f frame) frames
has_is_any true frames frame is = sym (list_any-from_Contains flipped_equivalence frame frames (is.0 refl))
has_is_any false frames frame is =
    elim (cases_Bool (list_any (flipped frame) frames)) [
      | inl there ↦ absurd (let has : false ≡ true = is.1 (Contains-from_any {eq = flipped} (λ x y same. sym (eqb_same y x same)) frame frames there) in cc)
      | inr isnt ↦ sym isnt
    ]
