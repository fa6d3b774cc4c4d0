-- A reply descriptor: its layouts, the numbers of its fields, and the bytes that stand for it.
use Rattle.std.specs.Prelude.{ℕ, List, [], ◌∷◌, codes, IsTrue, ◌==◌, ◌||◌}
use Rattle.mpi_layout.specs.Rows.{Shape, Stands, number}
use Rattle.mpi_layout.specs.declared.row.Rule.TheVariants.{Any, Is, OneOf}
use Rattle.mpi_rings.specs.declared.reply_descriptor.ReplyDescriptor.{ReplyDescriptor}
use Rattle.mpi_rings.specs.declared.reply_descriptor.ReplyDescriptor.TheVariants.{Success, Address, Unused}

-- any reply descriptor: mpi2.h, MPI2_DEFAULT_REPLY_DESCRIPTOR. Its ReplyFlags are success, address
-- or unused, and they choose one of the layouts below
unfoldable pub reply_layout : Shape
reply_layout = record {
  length = 8;
  rows =
      number 0x00 1 (codes "ReplyFlags") (OneOf (0x00 ∷ 0x01 ∷ 0x0f ∷ 0xff ∷ []) 4)
      ∷ number 0x01 1 (codes "MSIxIndex") Any
      ∷ number 0x02 2 (codes "SMID") Any
      ∷ number 0x04 4 (codes "Reserved") Any
      ∷ [];
}

-- mpi2.h, MPI2_SCSI_IO_SUCCESS_REPLY_DESCRIPTOR
unfoldable pub success_layout : Shape
success_layout = record {
  length = 8;
  rows =
      number 0x00 1 (codes "ReplyFlags") (Is 0x00)
      ∷ number 0x01 1 (codes "MSIxIndex") Any
      ∷ number 0x02 2 (codes "SMID") Any
      ∷ number 0x04 2 (codes "TaskTag") Any
      ∷ number 0x06 2 (codes "Reserved") Any
      ∷ [];
}

-- mpi2.h, MPI2_ADDRESS_REPLY_DESCRIPTOR
unfoldable pub address_layout : Shape
address_layout = record {
  length = 8;
  rows =
      number 0x00 1 (codes "ReplyFlags") (Is 0x01)
      ∷ number 0x01 1 (codes "MSIxIndex") Any
      ∷ number 0x02 2 (codes "SMID") Any
      ∷ number 0x04 4 (codes "ReplyFrameAddress") Any
      ∷ [];
}

-- an unused entry: mpi2.h, MPI2_DEFAULT_REPLY_DESCRIPTOR
unfoldable pub unused_layout : Shape
unused_layout = record {
  length = 8;
  rows =
      number 0x00 1 (codes "ReplyFlags") (OneOf (0x0f ∷ 0xff ∷ 0 ∷ 0 ∷ []) 2)
      ∷ number 0x01 1 (codes "MSIxIndex") Any
      ∷ number 0x02 2 (codes "SMID") Any
      ∷ number 0x04 4 (codes "Reserved") Any
      ∷ [];
}

-- the layout of a descriptor
abbrev pub layout_of : ReplyDescriptor → Shape
layout_of (Success msix smid tag rest) = success_layout
layout_of (Address msix smid address) = address_layout
layout_of (Unused flags msix smid rest) = unused_layout

-- the numbers of the fields in the layout's order
abbrev pub reply_values : ReplyDescriptor → List ℕ
reply_values (Success msix smid tag rest) = 0x00 ∷ msix ∷ smid ∷ tag ∷ rest ∷ []
reply_values (Address msix smid address) = 0x01 ∷ msix ∷ smid ∷ address ∷ []
reply_values (Unused flags msix smid rest) = flags ∷ msix ∷ smid ∷ rest ∷ []

-- the bytes stand for the descriptor
abbrev pub ReplyStands : ReplyDescriptor → List ℕ → Type 0
ReplyStands d bytes = Stands (layout_of d) (reply_values d) bytes

-- an unused one has the flags of an unused entry
abbrev pub HasItsFlags : ReplyDescriptor → Type 0
HasItsFlags (Success msix smid tag rest) = Unit {0}
HasItsFlags (Address msix smid address) = Unit {0}
HasItsFlags (Unused flags msix smid rest) = IsTrue (flags == 0x0f || flags == 0xff)
