-- An IOC Facts reply: its layout, the numbers of its fields, and the bytes that stand for it.
use Rattle.std.specs.Prelude.{ℕ, List, [], ◌∷◌, codes}
use Rattle.mpi_layout.specs.Rows.{Shape, Stands, number}
use Rattle.mpi_layout.specs.declared.row.Rule.TheVariants.{Any, Is, Between}
use Rattle.ioc_msgs.specs.declared.ioc_facts_reply.IocFactsReply.{IocFactsReply}

-- mpi2_ioc.h, MPI2_IOC_FACTS_REPLY
unfoldable pub ioc_facts_reply_layout : Shape
ioc_facts_reply_layout = record {
  length = 64;
  rows =
      number 0x00 2 (codes "MsgVersion") Any
      ∷ number 0x02 1 (codes "MsgLength") (Between 16 32)
      ∷ number 0x03 1 (codes "Function") (Is 0x03)
      ∷ number 0x04 2 (codes "HeaderVersion") Any
      ∷ number 0x06 1 (codes "IOCNumber") Any
      ∷ number 0x07 1 (codes "MsgFlags") Any
      ∷ number 0x08 1 (codes "VP_ID") Any
      ∷ number 0x09 1 (codes "VF_ID") Any
      ∷ number 0x0a 2 (codes "Reserved") Any
      ∷ number 0x0c 2 (codes "IOCExceptions") Any
      ∷ number 0x0e 2 (codes "IOCStatus") Any
      ∷ number 0x10 4 (codes "IOCLogInfo") Any
      ∷ number 0x14 1 (codes "MaxChainDepth") Any
      ∷ number 0x15 1 (codes "WhoInit") Any
      ∷ number 0x16 1 (codes "NumberOfPorts") Any
      ∷ number 0x17 1 (codes "MaxMSIxVectors") Any
      ∷ number 0x18 2 (codes "RequestCredit") Any
      ∷ number 0x1a 2 (codes "ProductID") Any
      ∷ number 0x1c 4 (codes "IOCCapabilities") Any
      ∷ number 0x20 4 (codes "FWVersion") Any
      ∷ number 0x24 2 (codes "IOCRequestFrameSize") Any
      ∷ number 0x26 2 (codes "Reserved") Any
      ∷ number 0x28 2 (codes "MaxInitiators") Any
      ∷ number 0x2a 2 (codes "MaxTargets") Any
      ∷ number 0x2c 2 (codes "MaxSasExpanders") Any
      ∷ number 0x2e 2 (codes "MaxEnclosures") Any
      ∷ number 0x30 2 (codes "ProtocolFlags") Any
      ∷ number 0x32 2 (codes "HighPriorityCredit") Any
      ∷ number 0x34 2 (codes "MaxReplyDescriptorPostQueueDepth") Any
      ∷ number 0x36 1 (codes "ReplyFrameSize") Any
      ∷ number 0x37 1 (codes "MaxVolumes") Any
      ∷ number 0x38 2 (codes "MaxDevHandle") Any
      ∷ number 0x3a 2 (codes "MaxPersistentEntries") Any
      ∷ number 0x3c 2 (codes "MinDevHandle") Any
      ∷ number 0x3e 2 (codes "Reserved") Any
      ∷ [];
}

-- the numbers of the fields in the layout's order
unfoldable pub ioc_facts_reply_values : IocFactsReply → List ℕ
ioc_facts_reply_values m =
    m.msg_version ∷ m.msg_length ∷ m.function ∷ m.header_version ∷ m.ioc_number ∷ m.msg_flags
    ∷ m.vp_id ∷ m.vf_id ∷ m.reserved_0a ∷ m.ioc_exceptions ∷ m.ioc_status ∷ m.ioc_log_info
    ∷ m.max_chain_depth ∷ m.who_init ∷ m.number_of_ports ∷ m.max_msix_vectors ∷ m.request_credit
    ∷ m.product_id ∷ m.ioc_capabilities ∷ m.fw_version ∷ m.ioc_request_frame_size ∷ m.reserved_26
    ∷ m.max_initiators ∷ m.max_targets ∷ m.max_sas_expanders ∷ m.max_enclosures ∷ m.protocol_flags
    ∷ m.high_priority_credit ∷ m.max_reply_descriptor_post_queue_depth ∷ m.reply_frame_size
    ∷ m.max_volumes ∷ m.max_dev_handle ∷ m.max_persistent_entries ∷ m.min_dev_handle ∷ m.reserved_3e ∷ []

-- the bytes stand for the message
abbrev pub IocFactsReplyStands : IocFactsReply → List ℕ → Type 0
IocFactsReplyStands m bytes = Stands ioc_facts_reply_layout (ioc_facts_reply_values m) bytes
