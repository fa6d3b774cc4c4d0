-- The fields of a descriptor fit their rows.
use Rattle.std.proofs.Common.{◌≡◌, ℕ, ◌<◌, ◌==◌, ◌||◌, IsTrue, [], ◌∷◌, arith}
use Rattle.std.proofs.lemmas.Bool.Decides.{nat_tests}
use Rattle.mpi_layout.specs.Rows.{values_fit}
use Rattle.mpi_rings.specs.declared.request_descriptor.PostKind.{PostKind}
use Rattle.mpi_rings.specs.declared.request_descriptor.PostKind.TheVariants.{ScsiIo, HighPriority, Default}
use Rattle.mpi_rings.specs.RequestDescriptor.{flags_of, request_layout}
use Rattle.mpi_rings.specs.ReplyDescriptor.{success_layout, address_layout, unused_layout}

pub request_fits : (kind : PostKind) (flags msix smid lmid handle : ℕ) → flags ≡ flags_of kind → msix < 256 → smid < 65536 → lmid < 65536 → handle < 65536 → IsTrue (values_fit (request_layout).rows (flags ∷ msix ∷ smid ∷ lmid ∷ handle ∷ []))
unfolding request_layout
request_fits ScsiIo flags msix smid lmid handle is a b d e = grind (arith, nat_tests)
request_fits HighPriority flags msix smid lmid handle is a b d e = grind (arith, nat_tests)
request_fits Default flags msix smid lmid handle is a b d e = grind (arith, nat_tests)

pub success_fits : (msix smid tag rest : ℕ) → msix < 256 → smid < 65536 → tag < 65536 → rest < 65536 → IsTrue (values_fit (success_layout).rows (0x00 ∷ msix ∷ smid ∷ tag ∷ rest ∷ []))
unfolding success_layout
success_fits msix smid tag rest a b d e = grind (arith, nat_tests)

pub address_fits : (msix smid address : ℕ) → msix < 256 → smid < 65536 → address < 4294967296 → IsTrue (values_fit (address_layout).rows (0x01 ∷ msix ∷ smid ∷ address ∷ []))
unfolding address_layout
address_fits msix smid address a b d = grind (arith, nat_tests)

pub unused_fits : (flags msix smid rest : ℕ) → IsTrue (flags == 0x0f || flags == 0xff) → flags < 256 → msix < 256 → smid < 65536 → rest < 4294967296 → IsTrue (values_fit (unused_layout).rows (flags ∷ msix ∷ smid ∷ rest ∷ []))
unfolding unused_layout
unused_fits flags msix smid rest h a b d e = grind (arith, nat_tests)
