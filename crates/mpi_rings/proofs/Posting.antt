-- What a post and a reading leave in the entries of a reply post ring.
use Rattle.std.proofs.Common.{◌≡◌, ◌≢◌, ℕ, suc, ◌+◌, ◌-◌, ◌%◌, ◌<◌, ◌≤◌, ◌⊎◌, inl, inr, IsTrue, ◌==◌, Bool, true, false, not, ltb, List, [], ◌∷◌, ◌++◌, length, take, drop, get_or, set, replicate, Some, refl, sym, ap, subst, ◌∙◌, append_assoc, length-append, arith}
use Rattle.std.specs.List.{list_all, take_while, slice_get}
use Rattle.std.proofs.lemmas.Bool.Decides.{nat_tests}
use Rattle.std.proofs.lemmas.Grind.{get_or_default_zero}
use Rattle.std.proofs.lemmas.List.{length-set, length-replicate, length-drop, length-take, replicate-append-replicate, append-nil}
use Rattle.std.proofs.Math.Seq.{set-append_seam, append_snoc, get_or-append_seam}
use Rattle.mpi_names.specs.declared.descriptor.TheConstants.{UNUSED_ENTRY}
use Rattle.mpi_rings.specs.PostEntries.{IsInOrder, from_index, is_used, waiting_in}
use Rattle.mpi_rings.proofs.Rounds.{IsPlace, round_by_one, round_set, round_get, take_while-before, take_while-all}

-- these descriptors stand in the entries from the host index on, and all others are unused
pub record Holds (entries : List ℕ) (post host : ℕ) (waiting : List ℕ) : Type 0 where
  pub size : length entries ≡ 352
  pub host_less : host < 352
  pub used : list_all is_used waiting ≡ true
  pub rest : from_index host entries ≡ waiting ++ replicate (352 - length waiting) UNUSED_ENTRY
  pub place : post ≡ (host + length waiting) % 352

-- those that wait do
pub holds : (entries : List ℕ) (post host : ℕ) → IsInOrder entries post host → Holds entries post host (waiting_in entries host)
holds entries post host order = record {
  size = order.size;
  host_less = order.host;
  used = take_while-all is_used (from_index host entries);
  rest = order.rest;
  place = order.post;
}

-- and no others
pub holds_waiting : (entries : List ℕ) (post host : ℕ) (waiting : List ℕ) → Holds entries post host waiting → waiting_in entries host ≡ waiting
holds_waiting entries post host waiting h = ap (take_while is_used) h.rest ∙ take_while-before is_used waiting UNUSED_ENTRY (352 - length waiting) h.used refl

pub holds_order : (entries : List ℕ) (post host : ℕ) (waiting : List ℕ) → Holds entries post host waiting → IsInOrder entries post host
holds_order entries post host waiting h =
    let is = sym (holds_waiting entries post host waiting h) in
    record {
      size = h.size;
      host = h.host_less;
      rest = subst (λ (ws : List ℕ). from_index host entries ≡ ws ++ replicate (352 - length ws) UNUSED_ENTRY) is h.rest;
      post = subst (λ (ws : List ℕ). post ≡ (host + length ws) % 352) is h.place;
    }

-- at most 352 of them
pub holds_most : (entries : List ℕ) (post host : ℕ) (waiting : List ℕ) → Holds entries post host waiting → length waiting ≤ 352
holds_most entries post host waiting h =
    let whole : length (drop host entries) + length (take host entries) ≡ length waiting + (352 - length waiting) =
    sym (length-append (drop host entries) (take host entries)) ∙ ap length h.rest ∙ length-append waiting (replicate (352 - length waiting) UNUSED_ENTRY) ∙ ap (λ k. length waiting + k) (length-replicate (352 - length waiting) UNUSED_ENTRY) in
    let ahead = length-drop host entries in
    let behind = length-take host entries in
    let size = h.size in
    let less = h.host_less in
    omega arith

-- an index of the ring, counted from the host index on
place_of : (host i : ℕ) → host < 352 → i < 352 → IsPlace 352 host i ((host + i) % 352)
place_of host i less few = split (ltb (host + i) 352) refl where
  split : (ahead : Bool) → ltb (host + i) 352 ≡ ahead → IsPlace 352 host i ((host + i) % 352)
  split true is = (let inside : host + i < 352 = grind (arith, nat_tests) in inl (inside, omega arith))
  split false is = (let outside : 352 ≤ host + i = grind (arith, nat_tests) in inr (omega arith, omega arith))

-- the unused entries, one by one
unused_more : (n : ℕ) → n < 352 → replicate (352 - n) UNUSED_ENTRY ≡ UNUSED_ENTRY ∷ replicate (352 - (n + 1)) UNUSED_ENTRY
unused_more n less = let more : 352 - n ≡ suc (352 - (n + 1)) = omega arith in rw more refl

unused_one : (k : ℕ) → replicate k UNUSED_ENTRY ++ UNUSED_ENTRY ∷ [] ≡ replicate (k + 1) UNUSED_ENTRY
unused_one k = replicate-append-replicate k 1 UNUSED_ENTRY

-- one more descriptor is used
all_more : (waiting : List ℕ) (d : ℕ) → list_all is_used waiting ≡ true → d ≢ UNUSED_ENTRY → list_all is_used (waiting ++ d ∷ []) ≡ true
all_more [] d all used = grind (arith, nat_tests)
all_more (x ∷ waiting) d all used =
    let parts : (is_used x ≡ true) × (list_all is_used waiting ≡ true) = grind (arith, nat_tests) in
    let ih = all_more waiting d parts.1 used in
    rw (parts.0) ih

-- the index after an index
next_index : (host : ℕ) → host < 352 → ((host + 1 < 352) × ((host + 1) % 352 ≡ host + 1)) ⊎ ((host + 1 ≡ 352) × ((host + 1) % 352 ≡ 0))
next_index host less = split (ltb (host + 1) 352) refl where
  split : (ahead : Bool) → ltb (host + 1) 352 ≡ ahead → ((host + 1 < 352) × ((host + 1) % 352 ≡ host + 1)) ⊎ ((host + 1 ≡ 352) × ((host + 1) % 352 ≡ 0))
  split true is = (let inside : host + 1 < 352 = grind (arith, nat_tests) in inl (inside, omega arith))
  split false is = (let outside : 352 ≤ host + 1 = grind (arith, nat_tests) in inr (omega arith, omega arith))

-- a new ring
pub new_holds : Holds (replicate 352 UNUSED_ENTRY) 0 0 []
new_holds = record { size = length-replicate 352 UNUSED_ENTRY; host_less = omega arith; used = refl; rest = append-nil (replicate 352 UNUSED_ENTRY); place = refl }

-- a post
pub post_holds : (entries : List ℕ) (post host : ℕ) (waiting : List ℕ) (d : ℕ) → Holds entries post host waiting → length waiting < 352 → d ≢ UNUSED_ENTRY → Holds (set entries post d) ((post + 1) % 352) host (waiting ++ d ∷ [])
post_holds entries post host waiting d h room used =
    let place : IsPlace 352 host (length waiting) post = subst (IsPlace 352 host (length waiting)) (sym h.place) (place_of host (length waiting) h.host_less room) in
    let long : length (waiting ++ d ∷ []) ≡ length waiting + 1 = length-append waiting (d ∷ []) in
    let front : from_index host (set entries post d) ≡ set (waiting ++ replicate (352 - length waiting) UNUSED_ENTRY) (length waiting) d =
    round_set entries 352 host (length waiting) post d h.size h.host_less place ∙ ap (λ xs. set xs (length waiting) d) h.rest in
    let seam : set (waiting ++ replicate (352 - length waiting) UNUSED_ENTRY) (length waiting) d ≡ waiting ++ d ∷ replicate (352 - (length waiting + 1)) UNUSED_ENTRY =
    ap (λ (xs : List ℕ). set (waiting ++ xs) (length waiting) d) (unused_more (length waiting) room) ∙ set-append_seam waiting UNUSED_ENTRY (replicate (352 - (length waiting + 1)) UNUSED_ENTRY) d in
    let rest : waiting ++ d ∷ replicate (352 - (length waiting + 1)) UNUSED_ENTRY ≡ (waiting ++ d ∷ []) ++ replicate (352 - length (waiting ++ d ∷ [])) UNUSED_ENTRY =
    sym (append_snoc waiting d (replicate (352 - (length waiting + 1)) UNUSED_ENTRY)) ∙ ap (λ n. (waiting ++ d ∷ []) ++ replicate (352 - n) UNUSED_ENTRY) (sym long) in
    record {
      size = simp length-set h.size;
      host_less = h.host_less;
      used = all_more waiting d h.used used;
      rest = front ∙ seam ∙ rest;
      place = (let at = h.place in omega arith);
    }

-- a reading
pub read_holds : (entries : List ℕ) (post host d : ℕ) (waiting : List ℕ) → Holds entries post host (d ∷ waiting) → Holds (set entries host UNUSED_ENTRY) post ((host + 1) % 352) waiting
read_holds entries post host d waiting h =
    let most : length (d ∷ waiting) ≤ 352 = holds_most entries post host (d ∷ waiting) h in
    let less = h.host_less in
    let at = h.place in
    let on = round_by_one entries 352 host ((host + 1) % 352) UNUSED_ENTRY h.size h.host_less (next_index host less) in
    let count : 352 - length (d ∷ waiting) + 1 ≡ 352 - length waiting = omega arith in
    let rest : drop 1 (from_index host entries) ++ UNUSED_ENTRY ∷ [] ≡ waiting ++ replicate (352 - length waiting) UNUSED_ENTRY =
    ap (λ (xs : List ℕ). drop 1 xs ++ UNUSED_ENTRY ∷ []) h.rest ∙ append_assoc waiting (replicate (352 - length (d ∷ waiting)) UNUSED_ENTRY) (UNUSED_ENTRY ∷ []) ∙ ap (λ xs. waiting ++ xs) (unused_one (352 - length (d ∷ waiting)) ∙ ap (λ k. replicate k UNUSED_ENTRY) count) in
    record {
      size = simp length-set h.size;
      host_less = omega arith;
      used = (grind (arith, nat_tests, h.used));
      rest = on ∙ rest;
      place = omega arith;
    }

-- the entry at the post index, where fewer than 352 wait and where 352 do
pub post_unused : (entries : List ℕ) (post host : ℕ) (waiting : List ℕ) → Holds entries post host waiting → length waiting < 352 → get_or entries post 0 ≡ UNUSED_ENTRY
post_unused entries post host waiting h room =
    let place : IsPlace 352 host (length waiting) post = subst (IsPlace 352 host (length waiting)) (sym h.place) (place_of host (length waiting) h.host_less room) in
    round_get entries 352 host (length waiting) post 0 h.size h.host_less place
    ∙ ap (λ xs. get_or xs (length waiting) 0) (h.rest ∙ ap (λ xs. waiting ++ xs) (unused_more (length waiting) room))
    ∙ get_or-append_seam waiting UNUSED_ENTRY (replicate (352 - (length waiting + 1)) UNUSED_ENTRY) 0

-- the entry at the host index
host_entry : (entries : List ℕ) (post host : ℕ) (waiting : List ℕ) → Holds entries post host waiting → get_or entries host 0 ≡ get_or (waiting ++ replicate (352 - length waiting) UNUSED_ENTRY) 0 0
host_entry entries post host waiting h =
    let less = h.host_less in
    round_get entries 352 host 0 host 0 h.size h.host_less (inl (omega arith, omega arith)) ∙ ap (λ xs. get_or xs 0 0) h.rest

pub host_used : (entries : List ℕ) (post host d : ℕ) (waiting : List ℕ) → Holds entries post host (d ∷ waiting) → (get_or entries host 0 ≡ d) × (d ≢ UNUSED_ENTRY)
host_used entries post host d waiting h = (host_entry entries post host (d ∷ waiting) h, grind (arith, nat_tests, h.used))

pub host_unused : (entries : List ℕ) (post host : ℕ) → Holds entries post host [] → get_or entries host 0 ≡ UNUSED_ENTRY
host_unused entries post host h = host_entry entries post host [] h

-- 352 descriptors wait exactly where the entry at the post index is used
pub post_full : (entries : List ℕ) (post host : ℕ) (waiting : List ℕ) → Holds entries post host waiting → length waiting ≡ 352 → get_or entries post 0 ≢ UNUSED_ENTRY
post_full entries post host [] h full = absurd (omega arith)
post_full entries post host (d ∷ waiting) h full =
    let same : post ≡ host = (let at = h.place in let less = h.host_less in omega arith) in
    let first = host_used entries post host d waiting h in
    let oldest = first.0 in
    let used = first.1 in
    rw same (λ e. used (sym oldest ∙ e))

-- the oldest descriptor
pub oldest_used : (entries : List ℕ) (post host : ℕ) (waiting : List ℕ) → Holds entries post host waiting → get_or entries host 0 ≢ UNUSED_ENTRY → slice_get waiting 0 ≡ Some (get_or entries host 0)
oldest_used entries post host [] h used = absurd (used (host_unused entries post host h))
oldest_used entries post host (d ∷ waiting) h used = ap Some (sym (host_used entries post host d waiting h).0)

-- an entry that was read
read_entry : (entries : List ℕ) (index entry : ℕ) → length entries ≡ 352 → index < 352 → entry ≡ get_or entries index entry → entry ≡ get_or entries index 0
read_entry entries index entry size less is = is ∙ get_or_default_zero entries index entry (omega arith)

post_less : (entries : List ℕ) (post host : ℕ) (waiting : List ℕ) → Holds entries post host waiting → post < 352
post_less entries post host waiting h = let at = h.place in omega arith

-- what the entry at the post index says
pub is_full_test : (entries : List ℕ) (post host entry : ℕ) (waiting : List ℕ) → Holds entries post host waiting → entry ≡ get_or entries post entry → (IsTrue (not (entry == UNUSED_ENTRY)) → length waiting ≡ 352) × (length waiting ≡ 352 → IsTrue (not (entry == UNUSED_ENTRY)))
is_full_test entries post host entry waiting h is =
    let at = read_entry entries post entry h.size (post_less entries post host waiting h) is in
    let most = holds_most entries post host waiting h in (
      λ used. full (ltb (length waiting) 352) refl at most used,
      λ whole. (let apart : entry ≢ UNUSED_ENTRY = λ e. post_full entries post host waiting h whole (sym at ∙ e) in grind (arith, nat_tests)),
    )
  where
    full : (few : Bool) → ltb (length waiting) 352 ≡ few → entry ≡ get_or entries post 0 → length waiting ≤ 352 → IsTrue (not (entry == UNUSED_ENTRY)) → length waiting ≡ 352
    full true room at most used =
        let less : length waiting < 352 = grind (arith, nat_tests) in
        let e : entry ≡ UNUSED_ENTRY = at ∙ post_unused entries post host waiting h less in
        absurd (grind (arith, nat_tests))
    full false room at most used = grind (arith, nat_tests)

-- what the entry at the host index is
pub oldest_read : (entries : List ℕ) (post host entry : ℕ) (waiting : List ℕ) → Holds entries post host waiting → entry ≡ get_or entries host entry → entry ≢ UNUSED_ENTRY → Some entry ≡ slice_get waiting 0
oldest_read entries post host entry waiting h is used =
    let at = read_entry entries host entry h.size h.host_less is in
    ap Some at ∙ sym (oldest_used entries post host waiting h (λ e. used (at ∙ e)))

-- a reading where a descriptor waits
pub read_leaves : (entries : List ℕ) (post host : ℕ) (waiting : List ℕ) → Holds entries post host waiting → 0 < length waiting → Holds (set entries host UNUSED_ENTRY) post ((host + 1) % 352) (drop 1 waiting)
read_leaves entries post host [] h some = absurd (omega arith)
read_leaves entries post host (d ∷ waiting) h some = read_holds entries post host d waiting h
