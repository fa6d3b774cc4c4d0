-- An IOC Init request: its layout, the numbers of its fields, and the bytes that stand for it.
use Rattle.std.specs.Prelude.{ℕ, List, [], ◌∷◌, codes}
use Rattle.mpi_layout.specs.Rows.{Shape, Stands, number}
use Rattle.mpi_layout.specs.declared.row.Rule.TheVariants.{Any, Zero, Is, Between}
use Rattle.ioc_msgs.specs.declared.ioc_init.IocInit.{IocInit}

-- mpi2_ioc.h, MPI2_IOC_INIT_REQUEST
unfoldable pub ioc_init_layout : Shape
ioc_init_layout = record {
  length = 72;
  rows =
      number 0x00 1 (codes "WhoInit") (Between 0 7)
      ∷ number 0x01 1 (codes "Reserved") Zero
      ∷ number 0x02 1 (codes "ChainOffset") Zero
      ∷ number 0x03 1 (codes "Function") (Is 0x02)
      ∷ number 0x04 2 (codes "Reserved") Zero
      ∷ number 0x06 1 (codes "Reserved") Zero
      ∷ number 0x07 1 (codes "MsgFlags") Zero
      ∷ number 0x08 1 (codes "VP_ID") Zero
      ∷ number 0x09 1 (codes "VF_ID") Zero
      ∷ number 0x0a 2 (codes "Reserved") Zero
      ∷ number 0x0c 2 (codes "MsgVersion") (Is 0x0200)
      ∷ number 0x0e 2 (codes "HeaderVersion") Any
      ∷ number 0x10 4 (codes "Reserved") Zero
      ∷ number 0x14 3 (codes "Reserved") Any
      ∷ number 0x17 1 (codes "HostMSIxVectors") Any
      ∷ number 0x18 2 (codes "Reserved") Zero
      ∷ number 0x1a 2 (codes "SystemRequestFrameSize") Any
      ∷ number 0x1c 2 (codes "ReplyDescriptorPostQueueDepth") Any
      ∷ number 0x1e 2 (codes "ReplyFreeQueueDepth") Any
      ∷ number 0x20 4 (codes "SenseBufferAddressHigh") Any
      ∷ number 0x24 4 (codes "SystemReplyAddressHigh") Any
      ∷ number 0x28 8 (codes "SystemRequestFrameBaseAddress") Any
      ∷ number 0x30 8 (codes "ReplyDescriptorPostQueueAddress") Any
      ∷ number 0x38 8 (codes "ReplyFreeQueueAddress") Any
      ∷ number 0x40 8 (codes "TimeStamp") Any
      ∷ [];
}

-- the numbers of the fields in the layout's order
unfoldable pub ioc_init_values : IocInit → List ℕ
ioc_init_values m =
    m.who_init ∷ m.reserved_01 ∷ m.chain_offset ∷ m.function ∷ m.reserved_04 ∷ m.reserved_06
    ∷ m.msg_flags ∷ m.vp_id ∷ m.vf_id ∷ m.reserved_0a ∷ m.msg_version ∷ m.header_version
    ∷ m.reserved_10 ∷ m.reserved_14 ∷ m.host_msix_vectors ∷ m.reserved_18
    ∷ m.system_request_frame_size ∷ m.reply_descriptor_post_queue_depth ∷ m.reply_free_queue_depth
    ∷ m.sense_buffer_address_high ∷ m.system_reply_address_high
    ∷ m.system_request_frame_base_address ∷ m.reply_descriptor_post_queue_address
    ∷ m.reply_free_queue_address ∷ m.time_stamp ∷ []

-- the bytes stand for the message
abbrev pub IocInitStands : IocInit → List ℕ → Type 0
IocInitStands m bytes = Stands ioc_init_layout (ioc_init_values m) bytes
