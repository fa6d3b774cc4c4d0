-- Where each lane is a queue, and as much was taken from all of them as was put on them, all was taken from each.
use Rattle.std.proofs.Common.{◌≡◌, ◌∙◌, ◌≤◌, ◌+◌, ℕ, Bool, true, false, not, ◌&&◌, ◌||◌, cond, if◌then◌else◌, List, [], ◌∷◌, ◌++◌, Some, None, ap, append-nil, arith, length, length-append, refl, subst, sym}
use Rattle.std.specs.Prelude.{count_by, filter_map}
use Rattle.std.specs.List.{cons_option}
use Rattle.std.proofs.Math.Seq.{take-length}
use Rattle.std.proofs.lemmas.Bool.Decides.{nat_tests}
use Rattle.std.proofs.lemmas.List.Sums.{sum_by-cons}
use Rattle.mpt_trace.specs.declared.entry.Entry.{Entry}
use Rattle.mpt_trace.specs.declared.entry.Entry.TheVariants as entry
use Rattle.mpt_trace.specs.declared.item.Item.{Item}
use Rattle.mpt_trace.specs.declared.lane.LaneName.{LaneName}
use Rattle.mpt_trace.specs.declared.lane.LaneName.TheVariants as lane
use Rattle.mpt_wire.specs.Queues.Lanes.{IsPrefixOf, LanesInOrder, put_on_lane, same_lane, taken_from}
use Rattle.live_lanes.specs.Taken.{CountsTellAllIsTaken, is_any_put, is_any_take}

-- ---- how many items are put on some lanes, and taken from them

abbrev one_if : Bool → ℕ
one_if true = 1
one_if false = 0

abbrev put_count : (LaneName → Bool) → Entry → ℕ
put_count b (entry.Put l i) = one_if (b l)
put_count b _ = 0

abbrev take_count : (LaneName → Bool) → Entry → ℕ
take_count b (entry.Take l i) = one_if (b l)
take_count b _ = 0

abbrev puts : (LaneName → Bool) → List Entry → ℕ
puts b [] = 0
puts b (e ∷ t) = put_count b e + puts b t

abbrev takes : (LaneName → Bool) → List Entry → ℕ
takes b [] = 0
takes b (e ∷ t) = take_count b e + takes b t

-- ---- on one lane

abbrev is_on : LaneName → LaneName → Bool
is_on name l = same_lane l name

module _ (name : LaneName) where
  put_one : (on : Bool) (i : Item) (is : List Item) → length (cons_option (if on then Some i else None) is) ≡ one_if on + length is
  put_one true i is = omega arith
  put_one false i is = omega arith

  puts_of : (t : List Entry) → length (filter_map (put_on_lane name) t) ≡ puts (is_on name) t
  puts_of [] = refl
  puts_of (e ∷ t) = by_entry e (puts_of t)
    where
      by_entry : (e : Entry) → length (filter_map (put_on_lane name) t) ≡ puts (is_on name) t → length (cons_option (put_on_lane name e) (filter_map (put_on_lane name) t)) ≡ put_count (is_on name) e + puts (is_on name) t
      by_entry (entry.Put l i) ih = put_one (same_lane l name) i (filter_map (put_on_lane name) t) ∙ ap (λ n. one_if (same_lane l name) + n) ih
      by_entry _ ih = omega (arith, ih)

  takes_of : (t : List Entry) → length (filter_map (taken_from name) t) ≡ takes (is_on name) t
  takes_of [] = refl
  takes_of (e ∷ t) = by_entry e (takes_of t)
    where
      by_entry : (e : Entry) → length (filter_map (taken_from name) t) ≡ takes (is_on name) t → length (cons_option (taken_from name e) (filter_map (taken_from name) t)) ≡ take_count (is_on name) e + takes (is_on name) t
      by_entry (entry.Take l i) ih = put_one (same_lane l name) i (filter_map (taken_from name) t) ∙ ap (λ n. one_if (same_lane l name) + n) ih
      by_entry _ ih = omega (arith, ih)

  -- what was taken begins what was put
  whole_begins : (t : List Entry) → LanesInOrder t → IsPrefixOf (filter_map (taken_from name) t) (filter_map (put_on_lane name) t)
  whole_begins t order = subst (λ (u : List Entry). IsPrefixOf (filter_map (taken_from name) u) (filter_map (put_on_lane name) u)) (take-length t) (order name (length t))

  one_lane : (t : List Entry) → LanesInOrder t → takes (is_on name) t ≤ puts (is_on name) t
  one_lane t order =
      let h : IsPrefixOf (filter_map (taken_from name) t) (filter_map (put_on_lane name) t) = whole_begins t order in
      let n : length (filter_map (taken_from name) t ++ h.0) ≡ length (filter_map (put_on_lane name) t) = ap length h.1 in
      let m : length (filter_map (taken_from name) t ++ h.0) ≡ length (filter_map (taken_from name) t) + length h.0 = length-append (filter_map (taken_from name) t) h.0 in
      let p : length (filter_map (put_on_lane name) t) ≡ puts (is_on name) t = puts_of t in
      let q : length (filter_map (taken_from name) t) ≡ takes (is_on name) t = takes_of t in
      omega (arith, n, m, p, q)

-- ---- of two halves

module _ (b c : LaneName → Bool) where
  abbrev within : LaneName → Bool
  within l = b l && c l

  abbrev without : LaneName → Bool
  without l = b l && not (c l)

  halves : (x y : Bool) → one_if x ≡ one_if (x && y) + one_if (x && not y)
  halves true true = refl
  halves true false = refl
  halves false y = refl

  puts_halved : (t : List Entry) → puts b t ≡ puts within t + puts without t
  puts_halved [] = refl
  puts_halved (e ∷ t) = by_entry e (puts_halved t)
    where
      by_entry : (e : Entry) → puts b t ≡ puts within t + puts without t → put_count b e + puts b t ≡ put_count within e + puts within t + (put_count without e + puts without t)
      by_entry (entry.Put l i) ih = let h : one_if (b l) ≡ one_if (b l && c l) + one_if (b l && not (c l)) = halves (b l) (c l) in omega (arith, h, ih)
      by_entry _ ih = omega (arith, ih)

  takes_halved : (t : List Entry) → takes b t ≡ takes within t + takes without t
  takes_halved [] = refl
  takes_halved (e ∷ t) = by_entry e (takes_halved t)
    where
      by_entry : (e : Entry) → takes b t ≡ takes within t + takes without t → take_count b e + takes b t ≡ take_count within e + takes within t + (take_count without e + takes without t)
      by_entry (entry.Take l i) ih = let h : one_if (b l) ≡ one_if (b l && c l) + one_if (b l && not (c l)) = halves (b l) (c l) in omega (arith, h, ih)
      by_entry _ ih = omega (arith, ih)

-- ---- on lanes of a list

abbrev is_in : List LaneName → LaneName → Bool
is_in [] l = false
is_in (m ∷ ms) l = same_lane l m || is_in ms l

-- the lane of the entry is of the list, if it is one of these
abbrev IsEntryIn : (LaneName → Bool) → List LaneName → Entry → Type 0
IsEntryIn b ms (entry.Put l i) = b l ≡ true → is_in ms l ≡ true
IsEntryIn b ms (entry.Take l i) = b l ≡ true → is_in ms l ≡ true
IsEntryIn b ms _ = Unit {0}

abbrev AreIn : (LaneName → Bool) → List LaneName → List Entry → Type 0
AreIn b ms [] = Unit {0}
AreIn b ms (e ∷ t) = IsEntryIn b ms e × AreIn b ms t

none_if : (x : Bool) → (x ≡ true → false ≡ true) → x ≡ false
none_if true h = sym (h refl)
none_if false h = refl

no_takes : (b : LaneName → Bool) (t : List Entry) → AreIn b [] t → takes b t ≡ 0
no_takes b [] h = refl
no_takes b (e ∷ t) h = by_entry e h.0 (no_takes b t h.1)
  where
    by_entry : (e : Entry) → IsEntryIn b [] e → takes b t ≡ 0 → take_count b e + takes b t ≡ 0
    by_entry (entry.Take l i) k ih = ap (λ x. one_if x + takes b t) (none_if (b l) k) ∙ omega (arith, ih)
    by_entry _ k ih = omega (arith, ih)

-- without the first lane of the list
module _ (b : LaneName → Bool) (m : LaneName) (ms : List LaneName) where
  rest_in : (x y z : Bool) → (x ≡ true → (y || z) ≡ true) → (x && not y) ≡ true → z ≡ true
  rest_in true true z h k = absurd (cc)
  rest_in true false z h k = h refl
  rest_in false y z h k = absurd (cc)

  rest_are_in : (t : List Entry) → AreIn b (m ∷ ms) t → AreIn (without b (is_on m)) ms t
  rest_are_in [] h = tt
  rest_are_in (e ∷ t) h = (by_entry e h.0, rest_are_in t h.1)
    where
      by_entry : (e : Entry) → IsEntryIn b (m ∷ ms) e → IsEntryIn (without b (is_on m)) ms e
      by_entry (entry.Put l i) k = rest_in (b l) (same_lane l m) (is_in ms l) k
      by_entry (entry.Take l i) k = rest_in (b l) (same_lane l m) (is_in ms l) k
      by_entry _ k = tt

lane_same : (l m : LaneName) → same_lane l m ≡ true → l ≡ m
lane_same lane.Down lane.Down h = refl
lane_same lane.Up lane.Up h = refl
lane_same (lane.UpOn i) (lane.UpOn j) h = ap lane.UpOn (grind (arith, nat_tests, h))
lane_same lane.Out lane.Out h = refl
lane_same lane.Back lane.Back h = refl
lane_same (lane.Ask i) (lane.Ask j) h = ap lane.Ask (grind (arith, nat_tests, h))
lane_same (lane.Tell i) (lane.Tell j) h = ap lane.Tell (grind (arith, nat_tests, h))
lane_same _ _ h = absurd (cc)

-- some lanes and one: just that one, or none
module _ (b : LaneName → Bool) (m : LaneName) where
  all_of_it : b m ≡ true → (l : LaneName) → (b l && same_lane l m) ≡ same_lane l m
  all_of_it h l = by_lane (same_lane l m) refl
    where
      by_lane : (on : Bool) → same_lane l m ≡ on → (b l && on) ≡ on
      by_lane true e = ap (λ x. x && true) (ap b (lane_same l m e) ∙ h)
      by_lane false e = of_false (b l)
        where
          of_false : (x : Bool) → (x && false) ≡ false
          of_false true = refl
          of_false false = refl

  none_of_it : b m ≡ false → (l : LaneName) → (b l && same_lane l m) ≡ false
  none_of_it h l = by_lane (same_lane l m) refl
    where
      by_lane : (on : Bool) → same_lane l m ≡ on → (b l && on) ≡ false
      by_lane true e = ap (λ x. x && true) (ap b (lane_same l m e) ∙ h)
      by_lane false e = of_false (b l)
        where
          of_false : (x : Bool) → (x && false) ≡ false
          of_false true = refl
          of_false false = refl

takes_none : (t : List Entry) → takes (λ l. false) t ≡ 0
takes_none [] = refl
takes_none (e ∷ t) = by_entry e (takes_none t)
  where
    by_entry : (e : Entry) → takes (λ l. false) t ≡ 0 → take_count (λ l. false) e + takes (λ l. false) t ≡ 0
    by_entry (entry.Take l i) ih = omega (arith, ih)
    by_entry _ ih = omega (arith, ih)

module _ (t : List Entry) (order : LanesInOrder t) where
  one_of : (b : LaneName → Bool) (m : LaneName) → takes (within b (is_on m)) t ≤ puts (within b (is_on m)) t
  one_of b m = by_first (b m) refl
    where
      by_first : (x : Bool) → b m ≡ x → takes (within b (is_on m)) t ≤ puts (within b (is_on m)) t
      by_first true e =
          let p : puts (within b (is_on m)) t ≡ puts (is_on m) t = λ i. puts (λ l. all_of_it b m e l i) t in
          let q : takes (within b (is_on m)) t ≡ takes (is_on m) t = λ i. takes (λ l. all_of_it b m e l i) t in
          let h : takes (is_on m) t ≤ puts (is_on m) t = one_lane m t order in
          omega (arith, p, q, h)
      by_first false e =
          let q : takes (within b (is_on m)) t ≡ takes (λ l. false) t = λ i. takes (λ l. none_of_it b m e l i) t in
          let z : takes (λ l. false) t ≡ 0 = takes_none t in
          omega (arith, q, z)

  -- from some lanes no more is taken than was put on them
  no_more : (ms : List LaneName) (b : LaneName → Bool) → AreIn b ms t → takes b t ≤ puts b t
  no_more [] b h = let z : takes b t ≡ 0 = no_takes b t h in omega (arith, z)
  no_more (m ∷ ms) b h =
      let first : takes (within b (is_on m)) t ≤ puts (within b (is_on m)) t = one_of b m in
      let rest : takes (without b (is_on m)) t ≤ puts (without b (is_on m)) t = no_more ms (without b (is_on m)) (rest_are_in b m ms t h) in
      let p : puts b t ≡ puts (within b (is_on m)) t + puts (without b (is_on m)) t = puts_halved b (is_on m) t in
      let q : takes b t ≡ takes (within b (is_on m)) t + takes (without b (is_on m)) t = takes_halved b (is_on m) t in
      omega (arith, first, rest, p, q)

-- ---- the lanes of a trace

abbrev lanes_in : List Entry → List LaneName
lanes_in [] = []
lanes_in (entry.Put l i ∷ t) = l ∷ lanes_in t
lanes_in (entry.Take l i ∷ t) = l ∷ lanes_in t
lanes_in (_ ∷ t) = lanes_in t

same_self : (l : LaneName) → same_lane l l ≡ true
same_self lane.Down = refl
same_self lane.Up = refl
same_self (lane.UpOn i) = grind (arith, nat_tests)
same_self lane.Out = refl
same_self lane.Back = refl
same_self (lane.Ask i) = grind (arith, nat_tests)
same_self (lane.Tell i) = grind (arith, nat_tests)

module _ (b : LaneName → Bool) where
  in_more : (m : LaneName) (ms : List LaneName) (t : List Entry) → AreIn b ms t → AreIn b (m ∷ ms) t
  in_more m ms [] h = tt
  in_more m ms (e ∷ t) h = (by_entry e h.0, in_more m ms t h.1)
    where
      either : (x y : Bool) → y ≡ true → (x || y) ≡ true
      either true y k = refl
      either false y k = k

      by_entry : (e : Entry) → IsEntryIn b ms e → IsEntryIn b (m ∷ ms) e
      by_entry (entry.Put l i) k = λ on. either (same_lane l m) (is_in ms l) (k on)
      by_entry (entry.Take l i) k = λ on. either (same_lane l m) (is_in ms l) (k on)
      by_entry _ k = tt

  first_in : (l : LaneName) (ms : List LaneName) → is_in (l ∷ ms) l ≡ true
  first_in l ms = ap (λ x. x || is_in ms l) (same_self l)

  all_in : (t : List Entry) → AreIn b (lanes_in t) t
  all_in [] = tt
  all_in (entry.Put l i ∷ t) = ((λ on. first_in l (lanes_in t)), in_more l (lanes_in t) t (all_in t))
  all_in (entry.Take l i ∷ t) = ((λ on. first_in l (lanes_in t)), in_more l (lanes_in t) t (all_in t))
  all_in (_ ∷ t) = (tt, all_in t)

-- ---- all entries

any_puts : (t : List Entry) → count_by is_any_put t ≡ puts (λ l. true) t
any_puts [] = refl
any_puts (e ∷ t) = sum_by-cons (λ (x : Entry). cond (is_any_put x) 1 0) e t ∙ by_entry e (any_puts t)
  where
    by_entry : (e : Entry) → count_by is_any_put t ≡ puts (λ l. true) t → cond (is_any_put e) 1 0 + count_by is_any_put t ≡ put_count (λ l. true) e + puts (λ l. true) t
    by_entry (entry.Put l i) ih = ap (λ n. 1 + n) ih
    by_entry _ ih = ap (λ n. 0 + n) ih

any_takes : (t : List Entry) → count_by is_any_take t ≡ takes (λ l. true) t
any_takes [] = refl
any_takes (e ∷ t) = sum_by-cons (λ (x : Entry). cond (is_any_take x) 1 0) e t ∙ by_entry e (any_takes t)
  where
    by_entry : (e : Entry) → count_by is_any_take t ≡ takes (λ l. true) t → cond (is_any_take e) 1 0 + count_by is_any_take t ≡ take_count (λ l. true) e + takes (λ l. true) t
    by_entry (entry.Take l i) ih = ap (λ n. 1 + n) ih
    by_entry _ ih = ap (λ n. 0 + n) ih

-- a list that another begins with, and is no longer
as_long : (xs ys : List Item) → IsPrefixOf xs ys → length ys ≤ length xs → xs ≡ ys
as_long xs ys h l = by_rest h.0 h.1
  where
    by_rest : (rest : List Item) → xs ++ rest ≡ ys → xs ≡ ys
    by_rest [] e = sym (append-nil xs) ∙ e
    by_rest (r ∷ rest) e =
        let n : length (xs ++ r ∷ rest) ≡ length ys = ap length e in
        let m : length (xs ++ r ∷ rest) ≡ length xs + length (r ∷ rest) = length-append xs (r ∷ rest) in
        absurd (omega (arith, n, m, l))

pub counts_tell : CountsTellAllIsTaken
counts_tell t order same name =
    let all : LaneName → Bool = λ l. true in
    let others : takes (without all (is_on name)) t ≤ puts (without all (is_on name)) t = no_more t order (lanes_in t) (without all (is_on name)) (all_in (without all (is_on name)) t) in
    let p : puts all t ≡ puts (within all (is_on name)) t + puts (without all (is_on name)) t = puts_halved all (is_on name) t in
    let q : takes all t ≡ takes (within all (is_on name)) t + takes (without all (is_on name)) t = takes_halved all (is_on name) t in
    let e : count_by is_any_put t ≡ puts all t = any_puts t in
    let f : count_by is_any_take t ≡ takes all t = any_takes t in
    let x : length (filter_map (put_on_lane name) t) ≡ puts (is_on name) t = puts_of name t in
    let y : length (filter_map (taken_from name) t) ≡ takes (is_on name) t = takes_of name t in
    let z : puts (is_on name) t ≤ takes (is_on name) t = omega (arith, others, p, q, e, f, same) in
    as_long (filter_map (taken_from name) t) (filter_map (put_on_lane name) t) (whole_begins name t order) (omega (arith, x, y, z))
