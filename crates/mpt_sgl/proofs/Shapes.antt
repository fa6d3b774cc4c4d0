-- What a segment has, by the pieces that are left.
use Rattle.std.proofs.Common.{◌≡◌, ℕ, ◌+◌, ◌*◌, ◌/◌, ◌%◌, ◌<◌, ◌≤◌, inl, inr, Bool, true, false, eqb, ltb, cond, Some, None, refl, ap, sym, subst, arith}
use Rattle.std.proofs.lemmas.Bool.Decides.{nat_tests, eqb_tells}
use Rattle.mpt_sgl.specs.declared.element.Shape.{Shape}
use Rattle.mpt_sgl.specs.Elements.{chain_length, chain_shape}

abbrev pub chained_shape : ℕ → Shape
chained_shape room = record { simple = room; chained = true }

abbrev pub last_shape : ℕ → Shape
last_shape count = record { simple = count; chained = false }

-- the shape of an area with this much room before a chain element, from which on so many pieces are left
abbrev pub shape_for : (room left : ℕ) → Shape
shape_for room left = cond (ltb (room + 1) left) (chained_shape room) (last_shape left)

pub shape_for-chained : (room left : ℕ) → room + 2 ≤ left → shape_for room left ≡ chained_shape room
shape_for-chained room left more =
    let test : ltb (room + 1) left ≡ true = grind (arith, nat_tests) in
    rw test refl

pub shape_for-last : (room left : ℕ) → left ≤ room + 1 → shape_for room left ≡ last_shape left
shape_for-last room left few =
    let test : ltb (room + 1) left ≡ false = grind (arith, nat_tests) in
    rw test refl

-- a shape that an area with this much room can have
pub data IsShape (room : ℕ) : Shape → Type 0 where
  chains : IsShape room (chained_shape room)
  ends : (count : ℕ) → 1 ≤ count → count ≤ room + 1 → IsShape room (last_shape count)

-- how a chain element's length and the frame's shape go together
pub data IsTold : ℕ → Shape → Type 0 where
  tells_chained : IsTold 1769592 (chained_shape 9)
  tells_last : (count : ℕ) → 2 ≤ count → count ≤ 10 → IsTold (12 * count) (last_shape count)

pub chain_shape-tells : (length : ℕ) (shape : Shape) → chain_shape length ≡ Some shape → IsTold length shape
chain_shape-tells length shape e =
    elim (eqb_tells length 1769592) [
      | inl t ↦ told length shape t.1 (rw t.0 at e)
      | inr t ↦ others length shape (rw t.0 at e)
    ] where
      told : (length : ℕ) (shape : Shape) → length ≡ 1769592 → Some (chained_shape 9) ≡ Some shape → IsTold length shape
      told length shape is e =
          let same : chained_shape 9 ≡ shape = cc in
          subst (λ n. IsTold n shape) (sym is) (subst (λ (s : Shape). IsTold 1769592 s) same tells_chained)

      others : (length : ℕ) (shape : Shape) → cond (ltb length 24) None (cond (ltb 120 length) None (cond (eqb (length % 12) 0) (Some (last_shape (length / 12))) None)) ≡ Some shape → IsTold length shape
      others length shape e = tested (ltb length 24) (ltb 120 length) (eqb (length % 12) 0) refl refl refl e where
        tested : (a b d : Bool) → ltb length 24 ≡ a → ltb 120 length ≡ b → eqb (length % 12) 0 ≡ d → cond a None (cond b None (cond d (Some (last_shape (length / 12))) None)) ≡ Some shape → IsTold length shape
        tested true b d p q r e = cc
        tested false true d p q r e = cc
        tested false false false p q r e = cc
        tested false false true p q r e =
            let same : last_shape (length / 12) ≡ shape = cc in
            let least : 24 ≤ length = grind (arith, nat_tests) in
            let most : length ≤ 120 = grind (arith, nat_tests) in
            let whole : length % 12 ≡ 0 = grind (arith, nat_tests) in
            let product : 12 * (length / 12) ≡ length = omega arith in
            subst (λ n. IsTold n shape) product (subst (λ (s : Shape). IsTold (12 * (length / 12)) s) same (tells_last (length / 12) (omega arith) (omega arith)))

pub IsTold-shape : (length : ℕ) (shape : Shape) → IsTold length shape → IsShape 9 shape
IsTold-shape _ _ tells_chained = chains
IsTold-shape _ _ (tells_last count least most) = ends count (omega arith) most

-- the length of a chain element to a frame from which on so many pieces are left tells its shape
pub chain_shape-length : (left : ℕ) → 2 ≤ left → chain_shape (chain_length left) ≡ Some (shape_for 9 left)
chain_shape-length left least = tested (ltb 10 left) refl where
  tested : (b : Bool) → ltb 10 left ≡ b → chain_shape (cond b 1769592 (12 * left)) ≡ Some (cond b (chained_shape 9) (last_shape left))
  tested true t = refl
  tested false t =
      let most : left ≤ 10 = grind (arith, nat_tests) in
      let first : eqb (12 * left) 1769592 ≡ false = grind (arith, nat_tests) in
      let second : ltb (12 * left) 24 ≡ false = grind (arith, nat_tests) in
      let third : ltb 120 (12 * left) ≡ false = grind (arith, nat_tests) in
      let rest : 12 * left % 12 ≡ 0 = omega arith in
      let quotient : 12 * left / 12 ≡ left = omega arith in
      rw (first, second, third, rest, quotient) refl

-- and a length whose shape is that of so many pieces is theirs
pub IsTold-length : (length left : ℕ) (shape : Shape) → IsTold length shape → shape ≡ shape_for 9 left → (length ≡ chain_length left) × (2 ≤ left)
IsTold-length _ left _ tells_chained e = tested (ltb 10 left) refl e where
  tested : (b : Bool) → ltb 10 left ≡ b → chained_shape 9 ≡ cond b (chained_shape 9) (last_shape left) → (1769592 ≡ cond b 1769592 (12 * left)) × (2 ≤ left)
  tested true t e = let more : 10 < left = grind (arith, nat_tests) in (refl, omega arith)
  tested false t e = let wrong : true ≡ false = ap (λ (s : Shape). s.chained) e in cc
IsTold-length _ left _ (tells_last count least most) e = tested (ltb 10 left) refl e where
  tested : (b : Bool) → ltb 10 left ≡ b → last_shape count ≡ cond b (chained_shape 9) (last_shape left) → (12 * count ≡ cond b 1769592 (12 * left)) × (2 ≤ left)
  tested true t e = let wrong : false ≡ true = ap (λ (s : Shape). s.chained) e in cc
  tested false t e = let same : count ≡ left = ap (λ (s : Shape). s.simple) e in (ap (λ n. 12 * n) same, omega arith)
