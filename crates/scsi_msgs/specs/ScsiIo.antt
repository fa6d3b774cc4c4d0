-- A SCSI IO request: its layout, the numbers of its fields, and the bytes that stand for it.
use Rattle.std.specs.Prelude.{ℕ, List, [], ◌∷◌, codes}
use Rattle.mpi_layout.specs.Rows.{Shape, Stands, bytes, number}
use Rattle.mpi_layout.specs.declared.row.Rule.TheVariants.{Any, Zero, Is, OneOf, Mask}
use Rattle.scsi_msgs.specs.declared.scsi_io.ScsiIo.{ScsiIo}

-- mpi2_init.h, MPI2_SCSI_IO_REQUEST
unfoldable pub scsi_io_layout : Shape
scsi_io_layout = record {
  length = 108;
  rows =
      number 0x00 2 (codes "DevHandle") Any
      ∷ number 0x02 1 (codes "ChainOffset") Zero
      ∷ number 0x03 1 (codes "Function") (Is 0x00)
      ∷ number 0x04 2 (codes "Reserved") Zero
      ∷ number 0x06 1 (codes "Reserved") Zero
      ∷ number 0x07 1 (codes "MsgFlags") Zero
      ∷ number 0x08 1 (codes "VP_ID") Zero
      ∷ number 0x09 1 (codes "VF_ID") Zero
      ∷ number 0x0a 2 (codes "Reserved") Zero
      ∷ number 0x0c 4 (codes "SenseBufferLowAddress") Any
      ∷ number 0x10 2 (codes "SGLFlags") Any
      ∷ number 0x12 1 (codes "SenseBufferLength") Any
      ∷ number 0x13 1 (codes "Reserved") Zero
      ∷ number 0x14 1 (codes "SGLOffset0") (Is 24)
      ∷ number 0x15 1 (codes "SGLOffset1") Zero
      ∷ number 0x16 1 (codes "SGLOffset2") Zero
      ∷ number 0x17 1 (codes "SGLOffset3") Zero
      ∷ number 0x18 4 (codes "SkipCount") Zero
      ∷ number 0x1c 4 (codes "DataLength") Any
      ∷ number 0x20 4 (codes "BidirectionalDataLength") Zero
      ∷ number 0x24 2 (codes "IoFlags") (Mask 0x001f)
      ∷ number 0x26 2 (codes "EEDPFlags") Zero
      ∷ number 0x28 4 (codes "EEDPBlockSize") Zero
      ∷ number 0x2c 4 (codes "SecondaryReferenceTag") Zero
      ∷ number 0x30 2 (codes "SecondaryApplicationTag") Zero
      ∷ number 0x32 2 (codes "ApplicationTagTranslationMask") Zero
      ∷ bytes 0x34 8 (codes "LUN") Any
      ∷ number 0x3c 1 (codes "ControlLow") Any
      ∷ number 0x3d 1 (codes "ControlAttribute") (OneOf (0 ∷ 1 ∷ 2 ∷ 0 ∷ []) 3)
      ∷ number 0x3e 1 (codes "ControlHigh") Zero
      ∷ number 0x3f 1 (codes "ControlDirection") (OneOf (0 ∷ 1 ∷ 2 ∷ 0 ∷ []) 3)
      ∷ bytes 0x40 8 (codes "CDB") Any
      ∷ bytes 0x48 8 (codes "CDB") Any
      ∷ bytes 0x50 8 (codes "CDB") Any
      ∷ bytes 0x58 8 (codes "CDB") Any
      ∷ number 0x60 3 (codes "SgeLength") Any
      ∷ number 0x63 1 (codes "SgeFlags") (OneOf (0xd3 ∷ 0xd7 ∷ 0 ∷ 0 ∷ []) 2)
      ∷ number 0x64 8 (codes "SgeAddress") Any
      ∷ [];
}

-- the numbers of the fields in the layout's order
unfoldable pub scsi_io_values : ScsiIo → List ℕ
scsi_io_values m =
    m.dev_handle ∷ m.chain_offset ∷ m.function ∷ m.reserved_04 ∷ m.reserved_06 ∷ m.msg_flags
    ∷ m.vp_id ∷ m.vf_id ∷ m.reserved_0a ∷ m.sense_buffer_low_address ∷ m.sgl_flags
    ∷ m.sense_buffer_length ∷ m.reserved_13 ∷ m.sgl_offset0 ∷ m.sgl_offset1 ∷ m.sgl_offset2
    ∷ m.sgl_offset3 ∷ m.skip_count ∷ m.data_length ∷ m.bidirectional_data_length ∷ m.io_flags
    ∷ m.eedp_flags ∷ m.eedp_block_size ∷ m.secondary_reference_tag ∷ m.secondary_application_tag
    ∷ m.application_tag_translation_mask ∷ m.lun ∷ m.control_low ∷ m.control_attribute
    ∷ m.control_high ∷ m.control_direction ∷ m.cdb_40 ∷ m.cdb_48 ∷ m.cdb_50 ∷ m.cdb_58
    ∷ m.sge_length ∷ m.sge_flags ∷ m.sge_address ∷ []

-- the bytes stand for the message
abbrev pub ScsiIoStands : ScsiIo → List ℕ → Type 0
ScsiIoStands m bytes = Stands scsi_io_layout (scsi_io_values m) bytes
