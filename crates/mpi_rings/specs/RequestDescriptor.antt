-- A request descriptor: its layout, the numbers of its fields, and the bytes that stand for it.
use Rattle.std.specs.Prelude.{ℕ, List, [], ◌∷◌, codes}
use Rattle.mpi_layout.specs.Rows.{Shape, Stands, number}
use Rattle.mpi_layout.specs.declared.row.Rule.{Rule}
use Rattle.mpi_layout.specs.declared.row.Rule.TheVariants.{Any, OneOf}
use Rattle.mpi_names.specs.declared.descriptor.TheConstants.{MPI2_REQ_DESCRIPT_FLAGS_DEFAULT_TYPE, MPI2_REQ_DESCRIPT_FLAGS_HIGH_PRIORITY, MPI2_REQ_DESCRIPT_FLAGS_SCSI_IO}
use Rattle.mpi_rings.specs.declared.request_descriptor.PostKind.{PostKind}
use Rattle.mpi_rings.specs.declared.request_descriptor.PostKind.TheVariants.{ScsiIo, HighPriority, Default}
use Rattle.mpi_rings.specs.declared.request_descriptor.RequestDescriptor.{RequestDescriptor}

-- the RequestFlags of this profile: mpi2.h, MPI2_REQ_DESCRIPT_FLAGS_SCSI_IO, .._HIGH_PRIORITY and .._DEFAULT_TYPE
abbrev pub request_flags : Rule
request_flags = OneOf (0x00 ∷ 0x06 ∷ 0x08 ∷ 0 ∷ []) 3

-- mpi2.h, MPI2_SCSI_IO_REQUEST_DESCRIPTOR, MPI2_HIGH_PRIORITY_REQUEST_DESCRIPTOR and
-- MPI2_DEFAULT_REQUEST_DESCRIPTOR
unfoldable pub request_layout : Shape
request_layout = record {
  length = 8;
  rows =
      number 0x00 1 (codes "RequestFlags") request_flags
      ∷ number 0x01 1 (codes "MSIxIndex") Any
      ∷ number 0x02 2 (codes "SMID") Any
      ∷ number 0x04 2 (codes "LMID") Any
      ∷ number 0x06 2 (codes "DevHandle") Any
      ∷ [];
}

-- the RequestFlags of a kind
abbrev pub flags_of : PostKind → ℕ
flags_of ScsiIo = MPI2_REQ_DESCRIPT_FLAGS_SCSI_IO
flags_of HighPriority = MPI2_REQ_DESCRIPT_FLAGS_HIGH_PRIORITY
flags_of Default = MPI2_REQ_DESCRIPT_FLAGS_DEFAULT_TYPE

-- the numbers of the fields in the layout's order
unfoldable pub request_values : RequestDescriptor → List ℕ
request_values d = flags_of d.kind ∷ d.msix ∷ d.smid ∷ d.lmid ∷ d.handle ∷ []

-- the bytes stand for the descriptor
abbrev pub RequestStands : RequestDescriptor → List ℕ → Type 0
RequestStands d bytes = Stands request_layout (request_values d) bytes
