-- In how many posts of the outbox an identifier is, where only the host changes and replies are taken.
use Rattle.std.proofs.Common.{◌≡◌, ℕ, zero, suc, ◌+◌, ◌-◌, ◌≤◌, not, Bool, true, false, List, [], ◌∷◌, get_or, set, sum_by, refl, ap, sym, ◌∙◌, subst, arith}
use Rattle.std.proofs.lemmas.List.Sums.{sum_by-cons}
use Rattle.smid_pool.specs.Pool.{Open, is_open}
use Rattle.mpt_trace.specs.declared.item.Up.{Up}
use Rattle.mpt_rules.specs.declared.request.Request.{Request}
use Rattle.mpt_rules.specs.Host.Parts.{Host}
use Rattle.mpt_rules.specs.World.Counts.{one_if, post_count}
use Rattle.mpt_rules.specs.World.Lines.{said_of}
use Rattle.mpt_rules.specs.World.PlaceCounts.{replies_on, smid_count}
use Rattle.mpt_rules.specs.World.State.{World}
use Rattle.mpt_rules.proofs.Counts.{post_count-append, reply_count-cons, reply_count-nil}
use Rattle.law_facts.specs.Words.{slot}
use Rattle.law_lights.proofs.Ones.{sum_at}

-- a lane that has fewer of a kind
fewer_there : {X : Type 0} (f : X → ℕ) (d : X) → f d ≡ 0 → (xs : List X) (i : ℕ) (y : X) → f y ≤ f (get_or xs i d) → sum_by f (set xs i y) ≤ sum_by f xs
fewer_there f d z [] i y l = omega arith
fewer_there f d z (x ∷ xs) zero y l = let a = sum_by-cons f x xs in let b = sum_by-cons f y xs in omega (arith, a, b, l)
fewer_there f d z (x ∷ xs) (suc i) y l = let a = sum_by-cons f x xs in let b = sum_by-cons f x (set xs i y) in let c = fewer_there f d z xs i y l in omega (arith, a, b, c)

-- an item is taken off a lane
pub fewer_replies : (s : ℕ) (up : List (List Up)) (queue : ℕ) (x : Up) (rest : List Up) → get_or up queue [] ≡ x ∷ rest → sum_by (replies_on s) (set up queue rest) ≤ sum_by (replies_on s) up
fewer_replies s up queue x rest e =
    let c = reply_count-cons s (said_of x) (Rattle.std.proofs.Common.map said_of rest) in
    let a = ap (replies_on s) e in
    fewer_there (replies_on s) [] (reply_count-nil s) up queue rest (omega (arith, a, c))

-- there is a reply on a lane
pub reply_there : (s : ℕ) (up : List (List Up)) (queue : ℕ) (x : Up) (rest : List Up) → get_or up queue [] ≡ x ∷ rest → Rattle.mpt_rules.specs.Ioc.Places.is_reply_of s (said_of x) ≡ true → 1 ≤ sum_by (replies_on s) up
reply_there s up queue x rest e t =
    let c = reply_count-cons s (said_of x) (Rattle.std.proofs.Common.map said_of rest) in
    let o : one_if (Rattle.mpt_rules.specs.Ioc.Places.is_reply_of s (said_of x)) ≡ 1 = ap one_if t in
    let a = ap (replies_on s) e in let b = sum_at (replies_on s) [] (reply_count-nil s) up queue in
    omega (arith, a, b, c, o)

module _ (w : World) (s : ℕ) where
  -- no post is in the outbox where a reply comes
  pub none_posted : smid_count w s ≤ 1 → 1 ≤ sum_by (replies_on s) w.up → post_count s w.host.out ≡ 0
  none_posted m l = let a = post_count-append s w.down w.host.out in omega (arith, m, l, a)

  pub once_posted : smid_count w s ≤ 1 → post_count s w.host.out ≤ 1
  once_posted m = let a = post_count-append s w.down w.host.out in omega (arith, m, a)

  -- what was posted there still is, where its record is open
  pub still_posted : (up : List (List Up)) (k : Host) (r : Request) → slot k s ≡ Open r → smid_count (record w { up = up; host = k }) s ≡ 1 → smid_count w s ≤ 1 → sum_by (replies_on s) up ≤ sum_by (replies_on s) w.up
      → post_count s w.host.out ≡ 1 → post_count s k.out ≡ 1
  still_posted up k r e n m l o =
      let a = post_count-append s w.down w.host.out in let b = post_count-append s w.down k.out in
      let c : one_if (not (is_open (slot k s))) ≡ 0 = ap (λ x. one_if (not (is_open x))) e in
      omega (arith, a, b, c, n, m, l, o)
