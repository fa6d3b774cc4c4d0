-- The fields of a request descriptor are its numbers.
use Rattle.std.proofs.Common.{◌≡◌, ℕ, List, get_or, refl, ap, ◌∙◌}
use Rattle.mpi_rings.specs.declared.request_descriptor.PostKind.{PostKind}
use Rattle.mpi_rings.specs.declared.request_descriptor.PostKind.TheVariants.{ScsiIo, HighPriority, Default}
use Rattle.mpi_rings.specs.declared.request_descriptor.RequestDescriptor.{RequestDescriptor}
use Rattle.mpi_rings.specs.RequestDescriptor.{flags_of, request_values}

-- kinds with the same flags are the same
flags_of-injective : (k l : PostKind) → flags_of k ≡ flags_of l → k ≡ l
flags_of-injective ScsiIo ScsiIo e = refl
flags_of-injective ScsiIo HighPriority e = cc
flags_of-injective ScsiIo Default e = cc
flags_of-injective HighPriority ScsiIo e = cc
flags_of-injective HighPriority HighPriority e = refl
flags_of-injective HighPriority Default e = cc
flags_of-injective Default ScsiIo e = cc
flags_of-injective Default HighPriority e = cc
flags_of-injective Default Default e = refl

-- the descriptor of a kind with these numbers
abbrev request_of : PostKind → List ℕ → RequestDescriptor
request_of kind xs = record { kind = kind; msix = get_or xs 1 0; smid = get_or xs 2 0; lmid = get_or xs 3 0; handle = get_or xs 4 0 }

-- descriptors with the same numbers are the same
pub request_values-injective : (d e : RequestDescriptor) → request_values d ≡ request_values e → d ≡ e
unfolding request_values
request_values-injective d e same =
    ap (request_of d.kind) same ∙ ap (λ kind. request_of kind (request_values e)) (flags_of-injective d.kind e.kind (ap (λ (xs : List ℕ). get_or xs 0 0) same))
