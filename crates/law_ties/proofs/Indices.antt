-- The host's rings: each index that is to be put goes on from those that were, and what was heard and returned is counted.
use Rattle.std.proofs.Common.{◌≡◌, ℕ, ◌+◌, ◌*◌, ◌%◌, ◌^◌, ◌<◌, ◌==◌, ◌&&◌, ◌||◌, not, nat_lt, Bool, true, false, List, [], ◌∷◌, ◌++◌, length, slice_index, refl, ap, sym, ◌∙◌, subst, arith}
use Rattle.std.specs.List.{filter}
use Rattle.std.specs.Bool.{MatchBool}
use Rattle.mpi_names.specs.declared.memory.TheConstants.{FREE_RING_ENTRIES, POST_RING_ENTRIES}
use Rattle.mpt_wire.specs.Messages.Registers.{Indices, queue_in}
use Rattle.mpt_trace.specs.declared.item.Down.{Down}
use Rattle.mpt_trace.specs.declared.item.Down.TheVariants as down
use Rattle.mpt_rules.specs.Host.Resets.{is_no_post}
use Rattle.mpt_rules.specs.World.Counts.{how_many, one_if}
use Rattle.mpt_rules.proofs.Counts.{how_many-append}
use Rattle.law_facts.specs.Ties.{IndicesGoOn, ReturnsGoOn, is_index_of, is_return}
use Rattle.law_facts.specs.Words.{others}
use Rattle.law_moves.proofs.Counted.{filter_keeps, how_many-cons, how_many-nil, others-append, others-cons, others-nil}
use Rattle.law_ties.specs.Shown.{is_index_within}
use Rattle.law_ties.proofs.RingWalk.{IsRingless}

-- ---- indices that go on, in lists

module _ (q : ℕ) where
  count_cons : (x : Down) (xs : List Down) (b : Bool) → is_index_of q x ≡ b → how_many (is_index_of q) (x ∷ xs) ≡ one_if b + how_many (is_index_of q) xs
  count_cons x xs b e = how_many-cons (is_index_of q) x xs ∙ ap (λ c. one_if c + how_many (is_index_of q) xs) e

  -- where it isn't one
  over : (n : ℕ) (x : Down) (xs ys : List Down) → is_index_of q x ≡ false → IndicesGoOn q (n + how_many (is_index_of q) (x ∷ xs)) ys → IndicesGoOn q (n + how_many (is_index_of q) xs) ys
  over n x xs ys e b = let c = count_cons x xs false e in subst (λ k. IndicesGoOn q k ys) (omega (arith, c)) b

  pub go_on-append : (n : ℕ) (xs ys : List Down) → IndicesGoOn q n xs → IndicesGoOn q (n + how_many (is_index_of q) xs) ys → IndicesGoOn q n (xs ++ ys)
  go_on-append n [] ys a b = let z = how_many-nil (is_index_of q) in subst (λ k. IndicesGoOn q k ys) (omega (arith, z)) b
  go_on-append n (down.Read reg ∷ xs) ys a b = go_on-append n xs ys a (over n (down.Read reg) xs ys refl b)
  go_on-append n (down.Post d f p ∷ xs) ys a b = go_on-append n xs ys a (over n (down.Post d f p) xs ys refl b)
  go_on-append n (down.Return address i ∷ xs) ys a b = go_on-append n xs ys a (over n (down.Return address i) xs ys refl b)
  go_on-append n (down.Stop ∷ xs) ys a b = go_on-append n xs ys a (over n down.Stop xs ys refl b)
  go_on-append n (down.Write reg value ∷ xs) ys a b = by_test (is_index_of q (down.Write reg value)) refl a (λ g y. go_on-append n xs ys g y) (λ g y. go_on-append (n + 1) xs ys g y)
    where
      by_test : (t : Bool) → is_index_of q (down.Write reg value) ≡ t → MatchBool t ((value ≡ q * 2 ^ 24 + (n + 1) % POST_RING_ENTRIES) × IndicesGoOn q (n + 1) xs) (IndicesGoOn q n xs)
          → (IndicesGoOn q n xs → IndicesGoOn q (n + how_many (is_index_of q) xs) ys → IndicesGoOn q n (xs ++ ys))
          → (IndicesGoOn q (n + 1) xs → IndicesGoOn q (n + 1 + how_many (is_index_of q) xs) ys → IndicesGoOn q (n + 1) (xs ++ ys))
          → MatchBool t ((value ≡ q * 2 ^ 24 + (n + 1) % POST_RING_ENTRIES) × IndicesGoOn q (n + 1) (xs ++ ys)) (IndicesGoOn q n (xs ++ ys))
      by_test true e g more next = let c = count_cons (down.Write reg value) xs true e in (g.0, next g.1 (subst (λ k. IndicesGoOn q k ys) (omega (arith, c)) b))
      by_test false e g more next = more g (over n (down.Write reg value) xs ys e b)

  pub go_on-without : (n : ℕ) (xs : List Down) → IndicesGoOn q n xs → IndicesGoOn q n (filter is_no_post xs)
  go_on-without n [] a = tt
  go_on-without n (down.Read reg ∷ xs) a = go_on-without n xs a
  go_on-without n (down.Post d f p ∷ xs) a = go_on-without n xs a
  go_on-without n (down.Return address i ∷ xs) a = go_on-without n xs a
  go_on-without n (down.Stop ∷ xs) a = go_on-without n xs a
  go_on-without n (down.Write reg value ∷ xs) a = by_test (is_index_of q (down.Write reg value)) a (go_on-without n xs) (go_on-without (n + 1) xs)
    where
      by_test : (t : Bool) → MatchBool t ((value ≡ q * 2 ^ 24 + (n + 1) % POST_RING_ENTRIES) × IndicesGoOn q (n + 1) xs) (IndicesGoOn q n xs)
          → (IndicesGoOn q n xs → IndicesGoOn q n (filter is_no_post xs)) → (IndicesGoOn q (n + 1) xs → IndicesGoOn q (n + 1) (filter is_no_post xs))
          → MatchBool t ((value ≡ q * 2 ^ 24 + (n + 1) % POST_RING_ENTRIES) × IndicesGoOn q (n + 1) (filter is_no_post xs)) (IndicesGoOn q n (filter is_no_post xs))
      by_test true g more next = (g.0, next g.1)
      by_test false g more next = more g

  -- the first is put
  pub go_on-put : (n : ℕ) (x : Down) (xs : List Down) → IndicesGoOn q n (x ∷ xs) → IndicesGoOn q (n + one_if (is_index_of q x)) xs
  go_on-put n (down.Read reg) xs a = subst (λ k. IndicesGoOn q k xs) (omega arith) a
  go_on-put n (down.Post d f p) xs a = subst (λ k. IndicesGoOn q k xs) (omega arith) a
  go_on-put n (down.Return address i) xs a = subst (λ k. IndicesGoOn q k xs) (omega arith) a
  go_on-put n down.Stop xs a = subst (λ k. IndicesGoOn q k xs) (omega arith) a
  go_on-put n (down.Write reg value) xs a = by_test (is_index_of q (down.Write reg value)) a
    where
      by_test : (t : Bool) → MatchBool t ((value ≡ q * 2 ^ 24 + (n + 1) % POST_RING_ENTRIES) × IndicesGoOn q (n + 1) xs) (IndicesGoOn q n xs) → IndicesGoOn q (n + one_if t) xs
      by_test true g = g.1
      by_test false g = subst (λ k. IndicesGoOn q k xs) (omega arith) g

  ringless_index : (x : Down) → IsRingless x → is_index_of q x ≡ false
  ringless_index (down.Write reg value) r = ap (λ b. b && (queue_in value == q)) r
  ringless_index (down.Read reg) r = refl
  ringless_index (down.Post d f p) r = refl
  ringless_index (down.Return address i) r = absurd r
  ringless_index down.Stop r = refl

  pub alone : (n : ℕ) (x : Down) → is_index_of q x ≡ false → IndicesGoOn q n (x ∷ [])
  alone n (down.Write reg value) e = by_test (is_index_of q (down.Write reg value)) e
    where
      by_test : (t : Bool) → t ≡ false → MatchBool t ((value ≡ q * 2 ^ 24 + (n + 1) % POST_RING_ENTRIES) × Unit {0}) (Unit {0})
      by_test false e = tt
      by_test true e = absurd (cc)
  alone n (down.Read reg) e = tt
  alone n (down.Post d f p) e = tt
  alone n (down.Return address i) e = tt
  alone n down.Stop e = tt

-- ---- returns that go on, in lists

pub returns-append : (n : ℕ) (xs ys : List Down) → ReturnsGoOn n xs → ReturnsGoOn (n + how_many is_return xs) ys → ReturnsGoOn n (xs ++ ys)
returns-append n [] ys a b = let z = how_many-nil is_return in subst (λ k. ReturnsGoOn k ys) (omega (arith, z)) b
returns-append n (down.Read reg ∷ xs) ys a b = let c = how_many-cons is_return (down.Read reg) xs in returns-append n xs ys a (subst (λ k. ReturnsGoOn k ys) (omega (arith, c)) b)
returns-append n (down.Post d f p ∷ xs) ys a b = let c = how_many-cons is_return (down.Post d f p) xs in returns-append n xs ys a (subst (λ k. ReturnsGoOn k ys) (omega (arith, c)) b)
returns-append n (down.Write reg value ∷ xs) ys a b = let c = how_many-cons is_return (down.Write reg value) xs in returns-append n xs ys a (subst (λ k. ReturnsGoOn k ys) (omega (arith, c)) b)
returns-append n (down.Stop ∷ xs) ys a b = let c = how_many-cons is_return down.Stop xs in returns-append n xs ys a (subst (λ k. ReturnsGoOn k ys) (omega (arith, c)) b)
returns-append n (down.Return address i ∷ xs) ys a b = let c = how_many-cons is_return (down.Return address i) xs in (a.0, returns-append (n + 1) xs ys a.1 (subst (λ k. ReturnsGoOn k ys) (omega (arith, c)) b))

returns-without : (n : ℕ) (xs : List Down) → ReturnsGoOn n xs → ReturnsGoOn n (filter is_no_post xs)
returns-without n [] a = tt
returns-without n (down.Read reg ∷ xs) a = returns-without n xs a
returns-without n (down.Post d f p ∷ xs) a = returns-without n xs a
returns-without n (down.Write reg value ∷ xs) a = returns-without n xs a
returns-without n (down.Stop ∷ xs) a = returns-without n xs a
returns-without n (down.Return address i ∷ xs) a = (a.0, returns-without (n + 1) xs a.1)

pub returns-put : (n : ℕ) (x : Down) (xs : List Down) → ReturnsGoOn n (x ∷ xs) → ReturnsGoOn (n + one_if (is_return x)) xs
returns-put n (down.Read reg) xs a = subst (λ k. ReturnsGoOn k xs) (omega arith) a
returns-put n (down.Post d f p) xs a = subst (λ k. ReturnsGoOn k xs) (omega arith) a
returns-put n (down.Write reg value) xs a = subst (λ k. ReturnsGoOn k xs) (omega arith) a
returns-put n down.Stop xs a = subst (λ k. ReturnsGoOn k xs) (omega arith) a
returns-put n (down.Return address i) xs a = a.1

ringless_return : (x : Down) → IsRingless x → (is_return x ≡ false) × ((n : ℕ) → ReturnsGoOn n (x ∷ []))
ringless_return (down.Write reg value) r = (refl, λ n. tt)
ringless_return (down.Read reg) r = (refl, λ n. tt)
ringless_return (down.Post d f p) r = (refl, λ n. tt)
ringless_return (down.Return address i) r = absurd r
ringless_return down.Stop r = (refl, λ n. tt)

ringless_within : (n : ℕ) (x : Down) → IsRingless x → is_index_within n x ≡ true
ringless_within n (down.Write reg value) r = ap (λ b. not b || nat_lt (queue_in value) n) r
ringless_within n (down.Read reg) r = refl
ringless_within n (down.Post d f p) r = refl
ringless_within n (down.Return address i) r = absurd r
ringless_within n down.Stop r = refl

-- ---- the host's rings, over its fields

pub record Indexed (q written heard : ℕ) (out : List Down) (indices : List ℕ) : Type 0 where
  pub heard_is : written + how_many (is_index_of q) out ≡ heard
  pub next : slice_index indices q ≡ heard % POST_RING_ENTRIES
  pub go_on : IndicesGoOn q written out

-- with so many reply queues, as the rule counts them
pub record Rings (n : ℕ) (g : Indices) (out : List Down) (indices : List ℕ) (returned : ℕ) : Type 0 where
  pub queues : length indices ≡ n
  pub each : (q : ℕ) → q < n → Indexed q (g.written q) (g.heard q) out indices
  pub within : others (is_index_within n) out ≡ 0
  pub returned_is : returned ≡ (g.returned + how_many is_return out) % FREE_RING_ENTRIES
  pub returns : ReturnsGoOn g.returned out

module _ (n : ℕ) (g : Indices) where
  pub plain : (o : List Down) (i : List ℕ) (r : ℕ) (x : Down) → IsRingless x → Rings n g o i r → Rings n g (o ++ x ∷ []) i r
  plain o i r x p a =
      let s = ringless_return x p in
      let wa = a.within in let w1 = others-append (is_index_within n) o (x ∷ []) in let w2 = others-cons (is_index_within n) x [] in let w3 = others-nil {X = Down} (is_index_within n) in
      let w4 : one_if (not (is_index_within n x)) ≡ 0 = ap (λ b. one_if (not b)) (ringless_within n x p) in
      let c1 = how_many-append is_return o (x ∷ []) in let c2 = how_many-cons is_return x [] in let c3 = how_many-nil {X = Down} is_return in let c4 : one_if (is_return x) ≡ 0 = ap one_if s.0 in
      let c : how_many is_return o ≡ how_many is_return (o ++ x ∷ []) = omega (arith, c1, c2, c3, c4) in
      record {
        queues = a.queues;
        each = each;
        within = omega (arith, wa, w1, w2, w3, w4);
        returned_is = a.returned_is ∙ ap (λ k. (g.returned + k) % FREE_RING_ENTRIES) c;
        returns = returns-append g.returned o (x ∷ []) a.returns (s.1 (g.returned + how_many is_return o));
      }
    where
      each : (q : ℕ) → q < n → Indexed q (g.written q) (g.heard q) (o ++ x ∷ []) i
      each q l =
          let b = a.each q l in
          let f = ringless_index q x p in
          let h = b.heard_is in let h1 = how_many-append (is_index_of q) o (x ∷ []) in let h2 = count_cons q x [] false f in let h3 = how_many-nil {X = Down} (is_index_of q) in
          record { heard_is = omega (arith, h, h1, h2, h3); next = b.next; go_on = go_on-append q (g.written q) o (x ∷ []) b.go_on (alone q (g.written q + how_many (is_index_of q) o) x f) }

  pub without : (o : List Down) (i : List ℕ) (r : ℕ) → Rings n g o i r → Rings n g (filter is_no_post o) i r
  without o i r a =
      let wa = a.within in
      record {
        queues = a.queues;
        each = each;
        within = within o a.within;
        returned_is = a.returned_is ∙ ap (λ k. (g.returned + k) % FREE_RING_ENTRIES) (sym (filter_keeps is_return is_no_post returned_stays o));
        returns = returns-without g.returned o a.returns;
      }
    where
      returned_stays : (x : Down) → is_return x ≡ true → is_no_post x ≡ true
      returned_stays (down.Return address j) e = refl
      returned_stays (down.Write reg value) e = refl
      returned_stays (down.Read reg) e = refl
      returned_stays (down.Post d f p) e = absurd (cc)
      returned_stays down.Stop e = refl

      index_stays : (q : ℕ) (x : Down) → is_index_of q x ≡ true → is_no_post x ≡ true
      index_stays q (down.Return address j) e = refl
      index_stays q (down.Write reg value) e = refl
      index_stays q (down.Read reg) e = refl
      index_stays q (down.Post d f p) e = absurd (cc)
      index_stays q down.Stop e = refl

      within : (xs : List Down) → others (is_index_within n) xs ≡ 0 → others (is_index_within n) (filter is_no_post xs) ≡ 0
      within [] z = z
      within (down.Post d f p ∷ xs) z = let c = others-cons (is_index_within n) (down.Post d f p) xs in within xs (omega (arith, z, c))
      within (down.Write reg value ∷ xs) z =
          let c = others-cons (is_index_within n) (down.Write reg value) xs in let e = others-cons (is_index_within n) (down.Write reg value) (filter is_no_post xs) in let h = within xs (omega (arith, z, c)) in omega (arith, z, c, e, h)
      within (down.Read reg ∷ xs) z =
          let c = others-cons (is_index_within n) (down.Read reg) xs in let e = others-cons (is_index_within n) (down.Read reg) (filter is_no_post xs) in let h = within xs (omega (arith, z, c)) in omega (arith, z, c, e, h)
      within (down.Return address j ∷ xs) z =
          let c = others-cons (is_index_within n) (down.Return address j) xs in let e = others-cons (is_index_within n) (down.Return address j) (filter is_no_post xs) in let h = within xs (omega (arith, z, c)) in omega (arith, z, c, e, h)
      within (down.Stop ∷ xs) z =
          let c = others-cons (is_index_within n) down.Stop xs in let e = others-cons (is_index_within n) down.Stop (filter is_no_post xs) in let h = within xs (omega (arith, z, c)) in omega (arith, z, c, e, h)

      each : (q : ℕ) → q < n → Indexed q (g.written q) (g.heard q) (filter is_no_post o) i
      each q l =
          let b = a.each q l in
          record { heard_is = ap (λ k. g.written q + k) (filter_keeps (is_index_of q) is_no_post (index_stays q) o) ∙ b.heard_is; next = b.next; go_on = go_on-without q (g.written q) o b.go_on }

  pub returned : (o : List Down) (i : List ℕ) (r address : ℕ) → Rings n g o i r → Rings n g (o ++ down.Return address ((r + 1) % FREE_RING_ENTRIES) ∷ []) i ((r + 1) % FREE_RING_ENTRIES)
  returned o i r address a =
      let x : Down = down.Return address ((r + 1) % FREE_RING_ENTRIES) in
      let wa = a.within in let w1 = others-append (is_index_within n) o (x ∷ []) in let w2 = others-cons (is_index_within n) x [] in let w3 = others-nil {X = Down} (is_index_within n) in
      let c1 = how_many-append is_return o (x ∷ []) in let c2 = how_many-cons is_return x [] in let c3 = how_many-nil {X = Down} is_return in
      let e = a.returned_is in
      let m : (r + 1) % 80 ≡ (g.returned + how_many is_return o + 1) % 80 = omega (arith, e) in
      record {
        queues = a.queues;
        each = each x (λ q. refl);
        within = omega (arith, wa, w1, w2, w3);
        returned_is = omega (arith, m, c1, c2, c3);
        returns = returns-append g.returned o (x ∷ []) a.returns (m, tt);
      }
    where
      each : (x : Down) → ((q : ℕ) → is_index_of q x ≡ false) → (q : ℕ) → q < n → Indexed q (g.written q) (g.heard q) (o ++ x ∷ []) i
      each x f q l =
          let b = a.each q l in
          let h = b.heard_is in let h1 = how_many-append (is_index_of q) o (x ∷ []) in let h2 = count_cons q x [] false (f q) in let h3 = how_many-nil {X = Down} (is_index_of q) in
          record { heard_is = omega (arith, h, h1, h2, h3); next = b.next; go_on = go_on-append q (g.written q) o (x ∷ []) b.go_on (alone q (g.written q + how_many (is_index_of q) o) x (f q)) }
