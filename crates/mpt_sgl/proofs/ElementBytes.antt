-- An element's numbers and its bytes.
use Rattle.std.proofs.Common.{◌≡◌, ℕ, ◌%◌, ◌<◌, ◌≤◌, ◌^◌, IsTrue, List, [], ◌∷◌, length, get_or, None, refl, ap, sym, ◌∙◌, subst, arith}
use Rattle.std.proofs.lemmas.Bool.Decides.{nat_tests}
use Rattle.mpi_layout.specs.Rows.{Shape as Layout, Stands, field, fields, first_fault, values_fit}
use Rattle.mpi_layout.proofs.Reading.{first_fault-none}
use Rattle.mpt_sgl.specs.declared.element.Element.{Element}
use Rattle.mpt_sgl.specs.Elements.{element_at, element_layout}

-- twelve bytes are an element, whatever they are
pub no_fault : (layout : Layout) (bytes : List ℕ) → layout ≡ element_layout → 12 ≤ length bytes → first_fault layout bytes ≡ None
unfolding element_layout
no_fault layout bytes is enough =
    ap (λ (l : Layout). first_fault l bytes) is ∙ first_fault-none element_layout bytes enough refl

-- the numbers of the rows
pub rows_read : (layout : Layout) (bytes values : List ℕ) → layout ≡ element_layout → values ≡ fields layout.rows bytes → values ≡ field bytes 0 3 ∷ field bytes 3 1 ∷ field bytes 4 8 ∷ []
unfolding element_layout
rows_read layout bytes values is read = read ∙ ap (λ (l : Layout). fields l.rows bytes) is

whole_numbers : (a b c : ℕ) → IsTrue (values_fit (element_layout).rows (a ∷ b ∷ c ∷ [])) → (a % 16777216 ≡ a) × (b % 256 ≡ b)
unfolding element_layout
whole_numbers a b c fit =
    let first : a < 16777216 = grind (arith, nat_tests) in
    let second : b < 256 = grind (arith, nat_tests) in
    (omega arith, omega arith)

-- what is read of numbers that fit
pub read_element : (layout : Layout) (bytes values : List ℕ) → layout ≡ element_layout → values ≡ fields layout.rows bytes → IsTrue (values_fit layout.rows values) → (let e : Element = record { length = get_or values 0 0 % 16777216; flags = get_or values 1 0 % 256; address = get_or values 2 0 } in e) ≡ element_at bytes
read_element layout bytes values is read fit =
    let row = rows_read layout bytes values is read in
    let fitting : IsTrue (values_fit (element_layout).rows (field bytes 0 3 ∷ field bytes 3 1 ∷ field bytes 4 8 ∷ [])) = subst (λ (vs : List ℕ). IsTrue (values_fit (element_layout).rows vs)) row (subst (λ (l : Layout). IsTrue (values_fit l.rows values)) is fit) in
    let whole = whole_numbers _ _ _ fitting in
    rw (row, whole.0, whole.1) refl

-- numbers that fit
pub element_fits : (layout : Layout) (a b c : ℕ) → layout ≡ element_layout → a < 2 ^ 24 → b < 256 → c < 2 ^ 64 → IsTrue (values_fit layout.rows (a ∷ b ∷ c ∷ []))
unfolding element_layout
element_fits layout a b c is first second third =
    subst (λ (l : Layout). IsTrue (values_fit l.rows (a ∷ b ∷ c ∷ []))) (sym is) (fits a b c first second third) where
      fits : (a b c : ℕ) → a < 2 ^ 24 → b < 256 → c < 2 ^ 64 → IsTrue (values_fit (element_layout).rows (a ∷ b ∷ c ∷ []))
      fits a b c first second third = grind (arith, nat_tests)

-- bytes that stand for an element's numbers have it at their front
pub written_element : (layout : Layout) (e : Element) (a b : ℕ) (out : List ℕ) → layout ≡ element_layout → a ≡ e.length → b ≡ e.flags → Stands layout (a ∷ b ∷ e.address ∷ []) out → element_at out ≡ e
written_element layout e a b out is first second stands =
    let row = rows_read layout out (a ∷ b ∷ e.address ∷ []) is (sym stands.numbers) in
    let length : field out 0 3 ≡ e.length = cc in
    let flags : field out 3 1 ≡ e.flags = cc in
    let address : field out 4 8 ≡ e.address = cc in
    rw (length, flags, address) refl
