-- The flags of a descriptor, its first byte.
use Rattle.std.proofs.Common.{◌≡◌, ◌≢◌, ℕ, ◌%◌, ◌<◌, ◌⊎◌, ◌==◌, ◌||◌, IsTrue, List, [], ◌∷◌, length, get_or, Some, None, ap, arith}
use Rattle.std.proofs.Math.Nat.{mod-eq_of_lt}
use Rattle.std.proofs.lemmas.Bool.Decides.{nat_tests}
use Rattle.mpi_layout.specs.declared.fault.Fault.{Fault}
use Rattle.mpi_layout.specs.Rows.{Stands, field, first_fault, obeys, values_fit}
use Rattle.mpi_rings.specs.RequestDescriptor.{request_flags, request_layout}
use Rattle.mpi_rings.specs.ReplyDescriptor.{reply_layout, success_layout, address_layout, unused_layout}

-- the low byte of the flags is the one that the layout has
pub success_cut : (values : List ℕ) → 0 < length values → IsTrue (values_fit (success_layout).rows values) → get_or values 0 0 % 256 ≡ 0x00
unfolding success_layout
success_cut [] some h = absurd (omega arith)
success_cut (value ∷ values) some h = grind (arith, nat_tests)

pub address_cut : (values : List ℕ) → 0 < length values → IsTrue (values_fit (address_layout).rows values) → get_or values 0 0 % 256 ≡ 0x01
unfolding address_layout
address_cut [] some h = absurd (omega arith)
address_cut (value ∷ values) some h = grind (arith, nat_tests)

-- the low byte of RequestFlags is one of the three
pub request_cut : (values : List ℕ) → 0 < length values → IsTrue (values_fit (request_layout).rows values) → IsTrue (obeys request_flags (get_or values 0 0 % 256))
unfolding request_layout
request_cut [] some h = absurd (omega arith)
request_cut (value ∷ values) some h =
    let small : value < 256 = grind (arith, nat_tests) in
    let cut : value % 256 ≡ value = mod-eq_of_lt small in
    grind (arith, nat_tests, cut)

-- the flags are the first byte
pub flags_first : (bytes : List ℕ) → field bytes 0 1 ≡ get_or bytes 0 0
unfolding field
flags_first bytes = omega arith

-- the flags of bytes that stand for a descriptor
pub success_flags : (values bytes : List ℕ) → Stands success_layout values bytes → get_or bytes 0 0 ≡ 0x00
unfolding success_layout
success_flags values bytes stands = let kept = stands.obeyed in let first = flags_first bytes in grind (arith, nat_tests)

pub address_flags : (values bytes : List ℕ) → Stands address_layout values bytes → get_or bytes 0 0 ≡ 0x01
unfolding address_layout
address_flags values bytes stands = let kept = stands.obeyed in let first = flags_first bytes in grind (arith, nat_tests)

pub unused_flags : (values bytes : List ℕ) → Stands unused_layout values bytes → (get_or bytes 0 0 ≡ 0x0f) ⊎ (get_or bytes 0 0 ≡ 0xff)
unfolding unused_layout
unused_flags values bytes stands = let kept = stands.obeyed in let first = flags_first bytes in grind (arith, nat_tests)

-- the layout that the flags choose has the fault of all
pub success_fault : (bytes : List ℕ) (fault : Fault) → get_or bytes 0 0 ≡ 0x00 → first_fault success_layout bytes ≡ Some fault → first_fault reply_layout bytes ≡ Some fault
unfolding success_layout reply_layout
success_fault bytes fault is e = let first = flags_first bytes in grind (arith, nat_tests)

pub address_fault : (bytes : List ℕ) (fault : Fault) → get_or bytes 0 0 ≡ 0x01 → first_fault address_layout bytes ≡ Some fault → first_fault reply_layout bytes ≡ Some fault
unfolding address_layout reply_layout
address_fault bytes fault is e = let first = flags_first bytes in grind (arith, nat_tests)

pub unused_fault : (bytes : List ℕ) (fault : Fault) → get_or bytes 0 0 ≢ 0x00 → get_or bytes 0 0 ≢ 0x01 → first_fault unused_layout bytes ≡ Some fault → first_fault reply_layout bytes ≡ Some fault
unfolding unused_layout reply_layout
unused_fault bytes fault a b e = let first = flags_first bytes in grind (arith, nat_tests)

-- bytes that stand for a descriptor aren't refused
pub success_clean : (values bytes : List ℕ) → Stands success_layout values bytes → first_fault reply_layout bytes ≡ None
unfolding success_layout reply_layout
success_clean values bytes stands = let flags = success_flags values bytes stands in let first = flags_first bytes in let enough = stands.enough in grind (arith, nat_tests)

pub address_clean : (values bytes : List ℕ) → Stands address_layout values bytes → first_fault reply_layout bytes ≡ None
unfolding address_layout reply_layout
address_clean values bytes stands = let flags = address_flags values bytes stands in let first = flags_first bytes in let enough = stands.enough in grind (arith, nat_tests)

pub unused_clean : (values bytes : List ℕ) → Stands unused_layout values bytes → first_fault reply_layout bytes ≡ None
unfolding unused_layout reply_layout
unused_clean values bytes stands = let flags = unused_flags values bytes stands in let first = flags_first bytes in let enough = stands.enough in grind (arith, nat_tests)

-- an unused one's flags are those of an unused entry
pub unused_known : (flags : ℕ) (rest bytes : List ℕ) → Stands unused_layout (flags ∷ rest) bytes → IsTrue (flags == 0x0f || flags == 0xff)
unfolding unused_layout
unused_known flags rest bytes stands =
    let known = unused_flags _ bytes stands in
    let first = flags_first bytes in
    let same : field bytes 0 1 ≡ flags = ap (λ (xs : List ℕ). get_or xs 0 0) stands.numbers in
    grind (arith, nat_tests)
