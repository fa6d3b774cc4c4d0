-- The fields of a SCSI IO reply are its numbers.
use Rattle.std.proofs.Common.{◌≡◌, ℕ, List, get_or, ap, ◌∙◌}
use Rattle.scsi_msgs.specs.declared.scsi_reply.ScsiReply.{ScsiReply}
use Rattle.scsi_msgs.specs.ScsiReply.{scsi_reply_values}

-- the reply with these numbers and this tail
abbrev scsi_reply_of : List ℕ → List ℕ → ScsiReply
scsi_reply_of xs tail = record {
  tail = tail;
  dev_handle = get_or xs 0 0;
  msg_length = get_or xs 1 0;
  function = get_or xs 2 0;
  reserved_04 = get_or xs 3 0;
  reserved_06 = get_or xs 4 0;
  msg_flags = get_or xs 5 0;
  vp_id = get_or xs 6 0;
  vf_id = get_or xs 7 0;
  reserved_0a = get_or xs 8 0;
  scsi_status = get_or xs 9 0;
  scsi_state = get_or xs 10 0;
  ioc_status = get_or xs 11 0;
  ioc_log_info = get_or xs 12 0;
  transfer_count = get_or xs 13 0;
  sense_count = get_or xs 14 0;
  response_info = get_or xs 15 0;
  task_tag = get_or xs 16 0;
  scsi_status_qualifier = get_or xs 17 0;
  bidirectional_transfer_count = get_or xs 18 0;
}

-- replies with the same numbers and tail are the same
pub scsi_reply_values-injective : (m n : ScsiReply) → scsi_reply_values m ≡ scsi_reply_values n → m.tail ≡ n.tail → m ≡ n
unfolding scsi_reply_values
scsi_reply_values-injective m n e tails = ap (λ xs. scsi_reply_of xs m.tail) e ∙ ap (λ tail. scsi_reply_of (scsi_reply_values n) tail) tails
