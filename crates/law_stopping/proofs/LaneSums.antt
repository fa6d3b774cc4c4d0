-- The replies on the lanes up, where an item comes or goes.
use Rattle.std.proofs.Common.{◌≡◌, ℕ, zero, suc, ◌+◌, ◌<◌, ◌≤◌, Bool, true, false, List, [], ◌∷◌, ◌++◌, map, length, get_or, set, refl, ap, sym, ◌∙◌, arith}
use Rattle.std.specs.List.{sum_by}
use Rattle.std.proofs.lemmas.List.Sums.{sum_by-cons}
use Rattle.mpt_trace.specs.declared.item.Up.{Up}
use Rattle.mpt_rules.specs.declared.said.Said.{Said}
use Rattle.mpt_rules.specs.Ioc.Places.{is_reply_of}
use Rattle.mpt_rules.specs.World.Counts.{one_if, reply_count}
use Rattle.mpt_rules.specs.World.Lines.{said_of}
use Rattle.mpt_rules.specs.World.PlaceCounts.{replies_on}
use Rattle.mpt_rules.proofs.Counts.{reply_count-append, reply_count-cons, reply_count-nil}

pub on_append : (s : ℕ) (xs ys : List Up) → replies_on s (xs ++ ys) ≡ replies_on s xs + replies_on s ys
on_append s [] ys = let z = reply_count-nil s in omega (arith, z)
on_append s (x ∷ xs) ys = let a = reply_count-cons s (said_of x) (map said_of (xs ++ ys)) in let b = reply_count-cons s (said_of x) (map said_of xs) in let c = on_append s xs ys in omega (arith, a, b, c)

pub lanes_grow : (s : ℕ) (lanes : List (List Up)) (queue : ℕ) (xs : List Up) → sum_by (replies_on s) lanes ≤ sum_by (replies_on s) (set lanes queue (get_or lanes queue [] ++ xs))
lanes_grow s [] queue xs = omega arith
lanes_grow s (b ∷ bs) zero xs = let a = sum_by-cons (replies_on s) b bs in let c = sum_by-cons (replies_on s) (b ++ xs) bs in let d = on_append s b xs in omega (arith, a, c, d)
lanes_grow s (b ∷ bs) (suc i) xs = let a = sum_by-cons (replies_on s) b bs in let c = sum_by-cons (replies_on s) b (set bs i (get_or bs i [] ++ xs)) in let d = lanes_grow s bs i xs in omega (arith, a, c, d)

pub lane_gains : (s : ℕ) (lanes : List (List Up)) (queue : ℕ) (x : Up) → queue < length lanes → is_reply_of s (said_of x) ≡ true → 1 ≤ sum_by (replies_on s) (set lanes queue (get_or lanes queue [] ++ x ∷ []))
lane_gains s [] queue x l t = absurd (omega (arith, l))
lane_gains s (b ∷ bs) zero x l t =
    let c = sum_by-cons (replies_on s) (b ++ x ∷ []) bs in let d = on_append s b (x ∷ []) in let e = reply_count-cons s (said_of x) [] in let o : one_if (is_reply_of s (said_of x)) ≡ 1 = ap one_if t in
    omega (arith, c, d, e, o)
lane_gains s (b ∷ bs) (suc i) x l t = let c = sum_by-cons (replies_on s) b (set bs i (get_or bs i [] ++ x ∷ [])) in let d = lane_gains s bs i x (omega (arith, l)) t in omega (arith, c, d)

pub lane_taken : (s : ℕ) (lanes : List (List Up)) (queue : ℕ) (x : Up) (rest : List Up) → get_or lanes queue [] ≡ x ∷ rest → is_reply_of s (said_of x) ≡ false → sum_by (replies_on s) lanes ≡ sum_by (replies_on s) (set lanes queue rest)
lane_taken s [] queue x rest e t = absurd (cc)
lane_taken s (b ∷ bs) zero x rest e t =
    let z : b ≡ x ∷ rest = e in let a = sum_by-cons (replies_on s) b bs in let c = sum_by-cons (replies_on s) rest bs in let d = ap (replies_on s) z in let g = reply_count-cons s (said_of x) (map said_of rest) in
    let o : one_if (is_reply_of s (said_of x)) ≡ 0 = ap one_if t in omega (arith, a, c, d, g, o)
lane_taken s (b ∷ bs) (suc i) x rest e t = let a = sum_by-cons (replies_on s) b bs in let c = sum_by-cons (replies_on s) b (set bs i rest) in let d = lane_taken s bs i x rest e t in omega (arith, a, c, d)

pub there_is : (boxes : List (List Said)) (queue : ℕ) (y : Said) (rest : List Said) → get_or boxes queue [] ≡ y ∷ rest → queue < length boxes
there_is [] queue y rest e = absurd (cc)
there_is (b ∷ bs) zero y rest e = omega arith
there_is (b ∷ bs) (suc i) y rest e = let c = there_is bs i y rest e in omega (arith, c)
