-- The outboxes one by one.
use Rattle.std.proofs.Common.{◌≡◌, ℕ, zero, suc, ◌+◌, ◌-◌, ◌<◌, ◌≤◌, Bool, true, ◌&&◌, ◌||◌, ltb, List, [], ◌∷◌, ◌++◌, length, map, get_or, set, drop, filter, replicate, refl, sym, ap, ◌∙◌, inl, inr, arith}
use Rattle.std.specs.List.{list_all, list_any}
use Rattle.std.proofs.lemmas.Bool.{cases_eq, le-leb, leb-true, lt-ltb}
use Rattle.std.proofs.lemmas.List.{get_or-map, get_or_default, get_or-set_other, get_or-set_same, length-map, length-replicate, length-set, map-set, same_lists, set_past}
use Rattle.std.proofs.lemmas.List.Sums.{AllPass-from_list_all}
use Rattle.mpt_rules.specs.declared.said.Said.{Said}
use Rattle.mpt_rules.specs.declared.said.Said.TheVariants as said
use Rattle.mpt_rules.specs.Ioc.Places.{is_empty, is_reply_of}
use Rattle.mpt_rules.specs.Ioc.Resets.{marked, outlives_reset}
use Rattle.ioc_replies.specs.Outboxes.{HaveRoom, OutboxSeen, after_put, has_room, items_in, renewed, waiting_for}

abbrev pub nowhere : OutboxSeen
nowhere = record { items = []; spare = 0 }

-- each outbox has the room
pub room_of : (room : ℕ) (xs : List OutboxSeen) → ((k : ℕ) → k < length xs → room ≤ (get_or xs k nowhere).spare) → list_all (has_room room) xs ≡ true
room_of room [] each = refl
room_of room (x ∷ xs) each =
    rw (le-leb room x.spare (each 0 (omega arith)))
    (room_of room xs (λ k below. each (suc k) (omega arith)))

pub room_at : (room : ℕ) (xs : List OutboxSeen) → list_all (has_room room) xs ≡ true → (k : ℕ) → k < length xs → room ≤ (get_or xs k nowhere).spare
room_at room xs all k below = leb-true room (get_or xs k nowhere).spare (AllPass-from_list_all (has_room room) xs all k nowhere below)

-- outboxes with as many places each as before, or more
pub record AreGrown (xs ys : List OutboxSeen) : Type 0 where
  pub size : length ys ≡ length xs
  pub items : (k : ℕ) → (get_or ys k nowhere).items ≡ (get_or xs k nowhere).items
  pub spare : (k : ℕ) → (get_or xs k nowhere).spare ≤ (get_or ys k nowhere).spare

pub grown_itself : (xs : List OutboxSeen) → AreGrown xs xs
grown_itself xs = record { size = refl; items = λ k. refl; spare = λ k. omega arith }

-- one of them grows
pub grown_more : (xs ys : List OutboxSeen) (i : ℕ) (o : OutboxSeen) → i < length ys → o.items ≡ (get_or ys i nowhere).items → (get_or ys i nowhere).spare ≤ o.spare → AreGrown xs ys → AreGrown xs (set ys i o)
grown_more xs ys i o within same more grown =
    record {
      size = length-set ys i o ∙ grown.size;
      items = items;
      spare = spare;
    }
  where
    items : (k : ℕ) → (get_or (set ys i o) k nowhere).items ≡ (get_or xs k nowhere).items
    items k =
        elim (cases_eq k i) [
          | inl at ↦ ap (λ (n : ℕ). (get_or (set ys i o) n nowhere).items) at ∙ ap items_in (get_or-set_same ys i o nowhere within) ∙ same ∙ ap (λ (n : ℕ). (get_or ys n nowhere).items) (sym at) ∙ grown.items k
          | inr elsewhere ↦ ap items_in (get_or-set_other ys i k o nowhere elsewhere) ∙ grown.items k
        ]

    spare : (k : ℕ) → (get_or xs k nowhere).spare ≤ (get_or (set ys i o) k nowhere).spare
    spare k =
        elim (cases_eq k i) [
          | inl at ↦
              let now = ap (λ (n : ℕ). (get_or (set ys i o) n nowhere).spare) at ∙ ap (λ (x : OutboxSeen). x.spare) (get_or-set_same ys i o nowhere within) in
              let was = ap (λ (n : ℕ). (get_or ys n nowhere).spare) at in
              let before = grown.spare k in
              omega (arith, now, was, more, before)
          | inr elsewhere ↦
              let now = ap (λ (x : OutboxSeen). x.spare) (get_or-set_other ys i k o nowhere elsewhere) in
              let before = grown.spare k in
              omega (arith, now, before)
        ]

-- their items are as before
pub grown_items : (xs ys : List OutboxSeen) → AreGrown xs ys → map items_in ys ≡ map items_in xs
grown_items xs ys grown =
    same_lists (map items_in ys) (map items_in xs) (length-map ys items_in ∙ grown.size ∙ sym (length-map xs items_in))
    (λ k d below.
    let within : k < length ys = rw (length-map ys items_in) at below in
    get_or-map items_in ys k nowhere d within ∙ grown.items k ∙ sym (get_or-map items_in xs k nowhere d (rw grown.size at within)))

-- and what had room has it
pub grown_keeps : (xs ys : List OutboxSeen) → AreGrown xs ys → (room : ℕ) → list_all (has_room room) xs ≡ true → list_all (has_room room) ys ≡ true
grown_keeps xs ys grown room all =
    room_of room ys
    (λ k below.
    let was = room_at room xs all k (rw grown.size at below) in
    let more = grown.spare k in
    omega (arith, was, more))

-- ---- a reset

-- the first outboxes are renewed, and the others are as before
pub record AreRenewed (generation : ℕ) (xs ys : List OutboxSeen) (i : ℕ) : Type 0 where
  pub size : length ys ≡ length xs
  pub done : (k : ℕ) → k < i → k < length xs → (get_or ys k nowhere).items ≡ renewed (ltb 0 k) generation (get_or xs k nowhere).items
  pub left : (k : ℕ) → i ≤ k → get_or ys k nowhere ≡ get_or xs k nowhere

pub renewed_none : (generation : ℕ) (xs : List OutboxSeen) → AreRenewed generation xs xs 0
renewed_none generation xs = record { size = refl; done = λ k below within. absurd (omega arith); left = λ k from. refl }

pub renewed_more : (generation : ℕ) (xs ys : List OutboxSeen) (i : ℕ) (o : OutboxSeen) → i < length ys → o.items ≡ renewed (ltb 0 i) generation (get_or ys i nowhere).items → AreRenewed generation xs ys i → AreRenewed generation xs (set ys i o) (i + 1)
renewed_more generation xs ys i o within now before =
    record {
      size = length-set ys i o ∙ before.size;
      done = done;
      left = λ k from. get_or-set_other ys i k o nowhere (λ e. absurd (omega arith)) ∙ before.left k (omega arith);
    }
  where
    done : (k : ℕ) → k < i + 1 → k < length xs → (get_or (set ys i o) k nowhere).items ≡ renewed (ltb 0 k) generation (get_or xs k nowhere).items
    done k below inside =
        elim (cases_eq k i) [
          | inl at ↦
              rw at
              (ap items_in (get_or-set_same ys i o nowhere within) ∙ now ∙ ap (λ (x : OutboxSeen). renewed (ltb 0 i) generation x.items) (before.left i (omega arith)))
          | inr elsewhere ↦
              ap items_in (get_or-set_other ys i k o nowhere elsewhere) ∙ before.done k (omega arith) inside
        ]

-- the mark is in each outbox but the first
marked_at : (generation : ℕ) (boxes : List (List Said)) (k : ℕ) → k < length boxes → (d : List Said) → get_or (marked generation (map (filter outlives_reset) boxes)) k d ≡ renewed (ltb 0 k) generation (get_or boxes k d)
marked_at generation [] k below d = absurd (omega arith)
marked_at generation (x ∷ boxes) zero below d = refl
marked_at generation (x ∷ boxes) (suc k) below d = rw (lt-ltb 0 (suc k) (omega arith)) (others boxes k (omega arith))
  where
    others : (rest : List (List Said)) (j : ℕ) → j < length rest → get_or (map (λ outbox. outbox ++ said.Mark generation ∷ []) (map (filter outlives_reset) rest)) j d ≡ filter outlives_reset (get_or rest j d) ++ said.Mark generation ∷ []
    others [] j below = absurd (omega arith)
    others (y ∷ rest) zero below = refl
    others (y ∷ rest) (suc j) below = others rest j (omega arith)

marked_length : (generation : ℕ) (boxes : List (List Said)) → length (marked generation (map (filter outlives_reset) boxes)) ≡ length boxes
marked_length generation [] = refl
marked_length generation (x ∷ boxes) = ap suc (length-map (map (filter outlives_reset) boxes) (λ outbox. outbox ++ said.Mark generation ∷ []) ∙ length-map boxes (filter outlives_reset))

-- all were renewed
pub renewed_all : (generation : ℕ) (xs ys : List OutboxSeen) (i : ℕ) → length xs ≤ i → AreRenewed generation xs ys i → map items_in ys ≡ marked generation (map (filter outlives_reset) (map items_in xs))
renewed_all generation xs ys i past all =
    same_lists (map items_in ys) (marked generation (map (filter outlives_reset) (map items_in xs)))
    (length-map ys items_in ∙ all.size ∙ sym (length-map xs items_in) ∙ sym (marked_length generation (map items_in xs)))
    (λ k d below.
    let within : k < length ys = rw (length-map ys items_in) at below in
    let inside : k < length xs = rw all.size at within in
    get_or-map items_in ys k nowhere d within
    ∙ all.done k (omega arith) inside
    ∙ ap (λ (items : List Said). renewed (ltb 0 k) generation items) (sym (get_or-map items_in xs k nowhere d inside))
    ∙ sym (marked_at generation (map items_in xs) k (rw (length-map xs items_in) inside) d))

-- ---- room

-- less of it
pub room_less : (boxes : List OutboxSeen) (room : ℕ) → HaveRoom boxes room → HaveRoom boxes (room - 1)
room_less boxes room have =
    record {
      least = have.least;
      most = have.most;
      each = room_of (room - 1) boxes (λ k below. let was = room_at room boxes have.each k below in omega (arith, was));
    }

-- none
pub room_none : (boxes : List OutboxSeen) → 1 ≤ length boxes → length boxes ≤ 8 → HaveRoom boxes 0
room_none boxes least most = record { least = least; most = most; each = room_of 0 boxes (λ k below. omega arith) }

-- more of it
pub room_kept : (boxes new : List OutboxSeen) (room : ℕ) → length new ≡ length boxes → HaveRoom boxes room → list_all (has_room room) new ≡ true → HaveRoom new room
room_kept boxes new room size have all = record { least = rw size have.least; most = rw size have.most; each = all }

-- an outbox changes, and has as much room as it takes
pub room_set : (boxes : List OutboxSeen) (room left i : ℕ) (o : OutboxSeen) → HaveRoom boxes room → left ≤ room → left ≤ o.spare → i < length boxes → HaveRoom (set boxes i o) left
room_set boxes room left i o have less fits within =
    record {
      least = rw (length-set boxes i o) have.least;
      most = rw (length-set boxes i o) have.most;
      each = room_of left (set boxes i o) (λ k below. at k (rw (length-set boxes i o) at below));
    }
  where
    at : (k : ℕ) → k < length boxes → left ≤ (get_or (set boxes i o) k nowhere).spare
    at k below =
        elim (cases_eq k i) [
          | inl same ↦ rw (same, get_or-set_same boxes i o nowhere within) fits
          | inr elsewhere ↦ rw (get_or-set_other boxes i k o nowhere elsewhere) (let was = room_at room boxes have.each k below in omega (arith, was, less))
        ]

-- what the outbox at a place has
pub items_at : (boxes : List OutboxSeen) (i : ℕ) → i < length boxes → (d : List Said) → get_or (map items_in boxes) i d ≡ (get_or boxes i nowhere).items
items_at boxes i within d = get_or-map items_in boxes i nowhere d within

-- an outbox changes
pub items_set : (boxes : List OutboxSeen) (i : ℕ) (o : OutboxSeen) (items : List Said) → o.items ≡ items → map items_in (set boxes i o) ≡ set (map items_in boxes) i items
items_set boxes i o items is = map-set items_in boxes i o ∙ ap (λ (xs : List Said). set (map items_in boxes) i xs) is

-- no outbox changes
pub items_past : (boxes : List OutboxSeen) (i : ℕ) (items : List Said) → length boxes ≤ i → map items_in boxes ≡ set (map items_in boxes) i items
items_past boxes i items past = sym (set_past (map items_in boxes) i items (rw (length-map boxes items_in) past))

-- there is room for fewer
pub room_least : (boxes : List OutboxSeen) (room left : ℕ) → HaveRoom boxes room → left ≤ room → list_all (has_room left) boxes ≡ true
room_least boxes room left have less = room_of left boxes (λ k below. let was = room_at room boxes have.each k below in omega (arith, was, less))

-- an outbox changes, by what was there
pub room_changed : (boxes : List OutboxSeen) (room left i : ℕ) (was o : OutboxSeen) → HaveRoom boxes room → left ≤ room → i < length boxes → ((get_or boxes i was).spare ≤ o.spare + (room - left)) → HaveRoom (set boxes i o) left
room_changed boxes room left i was o have less within fits =
    let at = ap (λ (x : OutboxSeen). x.spare) (get_or_default boxes i was nowhere within) in
    let had = room_at room boxes have.each i within in
    room_set boxes room left i o have less (omega (arith, at, had, fits, less)) within

pub put_there : (boxes : List OutboxSeen) (i : ℕ) (was o : OutboxSeen) (item : Said) → i < length boxes → o.items ≡ (get_or boxes i was).items ++ item ∷ [] → map items_in (set boxes i o) ≡ after_put i item (map items_in boxes)
put_there boxes i was o item within is =
    items_set boxes i o (waiting_for i (map items_in boxes) ++ item ∷ [])
    (is ∙ ap (λ (xs : List Said). xs ++ item ∷ []) (ap items_in (get_or_default boxes i was nowhere within) ∙ sym (items_at boxes i within [])))

pub pop_there : (boxes : List OutboxSeen) (i : ℕ) (was o : OutboxSeen) → i < length boxes → o.items ≡ drop 1 (get_or boxes i was).items → map items_in (set boxes i o) ≡ set (map items_in boxes) i (drop 1 (waiting_for i (map items_in boxes)))
pop_there boxes i was o within is =
    items_set boxes i o (drop 1 (waiting_for i (map items_in boxes)))
    (is ∙ ap (λ (xs : List Said). drop 1 xs) (ap items_in (get_or_default boxes i was nowhere within) ∙ sym (items_at boxes i within [])))

-- ---- tests of all of them

pub all_items : (boxes : List OutboxSeen) → list_all (λ (o : OutboxSeen). is_empty o.items) boxes ≡ list_all is_empty (map items_in boxes)
all_items [] = refl
all_items (o ∷ boxes) = ap (λ (b : Bool). is_empty o.items && b) (all_items boxes)

pub any_items : (smid : ℕ) (boxes : List OutboxSeen) → list_any (λ (o : OutboxSeen). list_any (is_reply_of smid) o.items) boxes ≡ list_any (list_any (is_reply_of smid)) (map items_in boxes)
any_items smid [] = refl
any_items smid (o ∷ boxes) = ap (λ (b : Bool). list_any (is_reply_of smid) o.items || b) (any_items smid boxes)

-- ---- new ones

-- one more empty one
pub new_more : (boxes : List OutboxSeen) (n : ℕ) (o : OutboxSeen) → map items_in boxes ≡ replicate n [] → o.items ≡ [] → map items_in (boxes ++ o ∷ []) ≡ replicate (n + 1) []
new_more [] zero o all none = ap (λ (xs : List Said). xs ∷ []) none
new_more [] (suc n) o all none = absurd (cc)
new_more (x ∷ boxes) zero o all none = absurd (cc)
new_more (x ∷ boxes) (suc n) o all none =
    let first : x.items ≡ [] = cc in
    let others : map items_in boxes ≡ replicate n [] = cc in
    let more : suc n + 1 ≡ suc (n + 1) = omega arith in
    rw (more, first, new_more boxes n o others none) refl

pub new_size : (boxes : List OutboxSeen) (n : ℕ) → map items_in boxes ≡ replicate n [] → length boxes ≡ n
new_size boxes n all = sym (length-map boxes items_in) ∙ ap length all ∙ length-replicate {A = List Said} n []
