-- A line up behind a take, a put and more that is said, whatever is counted of it.
use Rattle.std.proofs.Common.{◌≡◌, ℕ, zero, suc, ◌+◌, ◌==◌, cond, nat_lt, Bool, true, false, List, [], ◌∷◌, ◌++◌, map, length, get_or, set, drop, Option, Some, None, refl, ap, sym, ◌∙◌, subst, arith, append_assoc, append-nil}
use Rattle.std.proofs.lemmas.Bool.{eqb-true}
use Rattle.std.proofs.lemmas.List.{get_or_past, map-append}
use Rattle.mpt_trace.specs.declared.item.Up.{Up}
use Rattle.mpt_trace.specs.declared.item.Up.TheVariants as upward
use Rattle.mpt_rules.specs.World.Counts.{how_many, is_mark, is_mark_of, one_if}
use Rattle.mpt_rules.specs.World.Lines.{said_of}
use Rattle.mpt_rules.specs.Ioc.Sending.{up_of}
use Rattle.mpt_rules.specs.declared.said.Said.{Said}
use Rattle.mpt_rules.specs.declared.said.Said.TheVariants as said
use Rattle.mpt_rules.proofs.Counts.{how_many-append}
use Rattle.law_facts.specs.Words.{others}
use Rattle.law_flights.proofs.Tables.{get_or-set_any}
use Rattle.law_moves.proofs.Counted.{how_many-cons, later, later-cons, others-append, others-cons}

-- the line of a queue
abbrev pub line_of : List (List Up) → List (List Said) → ℕ → List Said
line_of up said queue = map said_of (get_or up queue []) ++ get_or said queue []

pub within : {X : Type 0} (xs : List (List X)) (i : ℕ) (x : X) (rest : List X) → get_or xs i [] ≡ x ∷ rest → nat_lt i (length xs) ≡ true
within xs i x rest e = by_place (nat_lt i (length xs)) refl
  where
    by_place : (b : Bool) → nat_lt i (length xs) ≡ b → b ≡ true
    by_place true t = refl
    by_place false t = let far : Rattle.std.proofs.Common.slice_index_or xs i [] ≡ [] = get_or_past xs i [] (grind (arith, t)) in absurd (cc)

module _ (up : List (List Up)) (said : List (List Said)) (i q : ℕ) where
  -- what holds of a line without its front holds behind a take
  pub taken_of : (P : List Said → Type 0) (x : Up) (rest : List Up) → get_or up i [] ≡ x ∷ rest → ((xs : List Said) → P (said_of x ∷ xs) → P xs) → P (line_of up said q) → P (line_of (set up i rest) said q)
  taken_of P x rest e f p =
      subst (λ l. P (map said_of l ++ get_or said q [])) (sym (get_or-set_any up i q rest [] ∙ ap (λ t. cond (q == i) (cond t rest (get_or up q [])) (get_or up q [])) (within up i x rest e)))
      (by_queue (q == i) refl)
    where
      by_queue : (c : Bool) → (q == i) ≡ c → P (map said_of (cond c rest (get_or up q [])) ++ get_or said q [])
      by_queue true s =
          let n = eqb-true q i s in
          let g : get_or up q [] ≡ x ∷ rest = ap (λ m. get_or up m []) n ∙ e in
          f (map said_of rest ++ get_or said q []) (subst (λ l. P (map said_of l ++ get_or said q [])) g p)
      by_queue false s = p

  -- of the queue itself, and of another
  pub taken_here : (x : Up) (rest : List Up) → get_or up i [] ≡ x ∷ rest → (q == i) ≡ true → line_of up said q ≡ said_of x ∷ line_of (set up i rest) said q
  taken_here x rest e s =
      let n = eqb-true q i s in
      let g : get_or up q [] ≡ x ∷ rest = ap (λ m. get_or up m []) n ∙ e in
      let l : get_or (set up i rest) q [] ≡ rest = get_or-set_any up i q rest [] ∙ (ap (λ c. cond c (cond (nat_lt i (length up)) rest (get_or up q [])) (get_or up q [])) s ∙ ap (λ t. cond t rest (get_or up q [])) (within up i x rest e)) in
      ap (λ xs. map said_of xs ++ get_or said q []) g ∙ ap (λ xs. said_of x ∷ (map said_of xs ++ get_or said q [])) (sym l)

  pub taken_other : (rest : List Up) → (q == i) ≡ false → line_of (set up i rest) said q ≡ line_of up said q
  taken_other rest s = ap (λ xs. map said_of xs ++ get_or said q []) (get_or-set_any up i q rest [] ∙ ap (λ c. cond c (cond (nat_lt i (length up)) rest (get_or up q [])) (get_or up q [])) s)

  -- what doesn't tell the item of the outbox from that of the lane
  pub put_of : (P : List Said → Type 0) (y : Said) (rest : List Said) (z : Up) → get_or said i [] ≡ y ∷ rest → length up ≡ length said → ((xs ys : List Said) → P (xs ++ y ∷ ys) → P (xs ++ said_of z ∷ ys))
      → P (line_of up said q) → P (line_of (set up i (get_or up i [] ++ z ∷ [])) (set said i (drop 1 (get_or said i []))) q)
  put_of P y rest z e l f p =
      let w = within said i y rest e in
      let wu : nat_lt i (length up) ≡ true = ap (nat_lt i) l ∙ w in
      subst (λ xs. P (map said_of xs ++ get_or (set said i (drop 1 (get_or said i []))) q [])) (sym (get_or-set_any up i q (get_or up i [] ++ z ∷ []) [] ∙ ap (λ t. cond (q == i) (cond t (get_or up i [] ++ z ∷ []) (get_or up q [])) (get_or up q [])) wu))
      (subst (λ ys. P (map said_of (cond (q == i) (get_or up i [] ++ z ∷ []) (get_or up q [])) ++ ys)) (sym (get_or-set_any said i q (drop 1 (get_or said i [])) [] ∙ ap (λ t. cond (q == i) (cond t (drop 1 (get_or said i [])) (get_or said q [])) (get_or said q [])) w))
      (by_queue (q == i) refl))
    where
      by_queue : (c : Bool) → (q == i) ≡ c → P (map said_of (cond c (get_or up i [] ++ z ∷ []) (get_or up q [])) ++ cond c (drop 1 (get_or said i [])) (get_or said q []))
      by_queue true s =
          let n = eqb-true q i s in
          let a : line_of up said q ≡ map said_of (get_or up i []) ++ y ∷ rest = ap (λ m. map said_of (get_or up m []) ++ get_or said m []) n ∙ ap (λ ys. map said_of (get_or up i []) ++ ys) e in
          let g = f (map said_of (get_or up i [])) rest (subst P a p) in
          let r : map said_of (get_or up i []) ++ said_of z ∷ rest ≡ map said_of (get_or up i [] ++ z ∷ []) ++ drop 1 (get_or said i []) =
          sym (append_assoc (map said_of (get_or up i [])) (said_of z ∷ []) rest) ∙ (ap (λ xs. xs ++ rest) (sym (map-append said_of (get_or up i []) (z ∷ []))) ∙ ap (λ ys. map said_of (get_or up i [] ++ z ∷ []) ++ drop 1 ys) (sym e)) in
          subst P r g
      by_queue false s = p

  -- more is said on a queue
  pub said_of_more : (P : List Said → Type 0) (items : List Said) → ((xs : List Said) → P xs → P (xs ++ items)) → P (line_of up said q) → P (line_of up (set said i (get_or said i [] ++ items)) q)
  said_of_more P items f p = subst (λ ys. P (map said_of (get_or up q []) ++ ys)) (sym (get_or-set_any said i q (get_or said i [] ++ items) [])) (by_queue (q == i) refl (nat_lt i (length said)))
    where
      by_queue : (c : Bool) → (q == i) ≡ c → (t : Bool) → P (map said_of (get_or up q []) ++ cond c (cond t (get_or said i [] ++ items) (get_or said q [])) (get_or said q []))
      by_queue true s true =
          let n = eqb-true q i s in
          let g = f (line_of up said q) p in
          subst P (append_assoc (map said_of (get_or up q [])) (get_or said q []) items ∙ ap (λ m. map said_of (get_or up q []) ++ (get_or said m [] ++ items)) n) g
      by_queue true s false = p
      by_queue false s t = p

  -- nothing of another queue
  pub said_elsewhere : (items : List Said) → (q == i) ≡ false → line_of up (set said i (get_or said i [] ++ items)) q ≡ line_of up said q
  said_elsewhere items s = ap (λ ys. map said_of (get_or up q []) ++ ys) (get_or-set_any said i q (get_or said i [] ++ items) [] ∙ ap (λ c. cond c (cond (nat_lt i (length said)) (get_or said i [] ++ items) (get_or said q [])) (get_or said q [])) s)

-- ---- one item for another of its kind

module _ (a b : Said) where
  pub swapped : (p : Said → Bool) → p a ≡ p b → (xs ys : List Said) → how_many p (xs ++ a ∷ ys) ≡ how_many p (xs ++ b ∷ ys)
  swapped p e xs ys =
      let x = how_many-append p xs (a ∷ ys) in let x1 = how_many-cons p a ys in
      let y = how_many-append p xs (b ∷ ys) in let y1 = how_many-cons p b ys in
      let z = ap one_if e in
      omega (arith, x, x1, y, y1, z)

  pub swapped_others : (p : Said → Bool) → p a ≡ p b → (xs ys : List Said) → others p (xs ++ a ∷ ys) ≡ others p (xs ++ b ∷ ys)
  swapped_others p e xs ys =
      let x = others-append p xs (a ∷ ys) in let x1 = others-cons p a ys in
      let y = others-append p xs (b ∷ ys) in let y1 = others-cons p b ys in
      let z = ap (λ c. one_if (Rattle.std.proofs.Common.not c)) e in
      omega (arith, x, x1, y, y1, z)

  pub swapped_later : (t p : Said → Bool) → t a ≡ t b → p a ≡ p b → (xs ys : List Said) → later t p (xs ++ a ∷ ys) ≡ later t p (xs ++ b ∷ ys)
  swapped_later t p e f [] ys = later-cons t p a ys ∙ (ap (λ c. cond c (how_many p ys) (later t p ys)) e ∙ sym (later-cons t p b ys))
  swapped_later t p e f (x ∷ xs) ys =
      let h = swapped_later t p e f xs ys in
      let s = swapped p f xs ys in
      later-cons t p x (xs ++ a ∷ ys) ∙ (ap (λ m. cond (t x) m (later t p (xs ++ a ∷ ys))) s ∙ (ap (λ m. cond (t x) (how_many p (xs ++ b ∷ ys)) m) h ∙ sym (later-cons t p x (xs ++ b ∷ ys))))

-- a mark is on its lane what it was in its outbox
pub put_mark_of : (g : ℕ) (y : Said) (free : Option ℕ) (z : Up) → up_of y free ≡ Some z → is_mark_of g (said_of z) ≡ is_mark_of g y
put_mark_of g (said.Value value) free z e = let f : upward.Value value ≡ z = cc in subst (λ x. is_mark_of g (said_of x) ≡ false) f refl
put_mark_of g (said.Mark m) free z e = let f : upward.Mark m ≡ z = cc in subst (λ x. is_mark_of g (said_of x) ≡ (m == g)) f refl
put_mark_of g said.Calm free z e = let f : upward.Calm ≡ z = cc in subst (λ x. is_mark_of g (said_of x) ≡ false) f refl
put_mark_of g (said.Success smid page sense) free z e = plain z e
  where
    plain : (z : Up) → up_of (said.Success smid page sense) free ≡ Some z → is_mark_of g (said_of z) ≡ false
    plain (upward.Reply d (Some b) page2 sense2) e = refl
    plain (upward.Reply d None page2 sense2) e = refl
    plain (upward.Value v) e = refl
    plain (upward.Mark m) e = absurd (cc)
    plain upward.Calm e = refl
put_mark_of g (said.Framed smid frame page sense) None z e = absurd (cc)
put_mark_of g (said.Framed smid frame page sense) (Some f) z e = framed z e
  where
    framed : (z : Up) → up_of (said.Framed smid frame page sense) (Some f) ≡ Some z → is_mark_of g (said_of z) ≡ false
    framed (upward.Reply d (Some b) page2 sense2) e = refl
    framed (upward.Reply d None page2 sense2) e = refl
    framed (upward.Value v) e = refl
    framed (upward.Mark m) e = absurd (cc)
    framed upward.Calm e = refl
