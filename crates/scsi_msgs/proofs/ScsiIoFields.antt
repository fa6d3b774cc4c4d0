-- The fields of a SCSI IO request are its numbers.
use Rattle.std.proofs.Common.{◌≡◌, ℕ, List, get_or, ap}
use Rattle.scsi_msgs.specs.declared.scsi_io.ScsiIo.{ScsiIo}
use Rattle.scsi_msgs.specs.ScsiIo.{scsi_io_values}

-- the message with these numbers
abbrev scsi_io_of : List ℕ → ScsiIo
scsi_io_of xs = record {
  dev_handle = get_or xs 0 0;
  chain_offset = get_or xs 1 0;
  function = get_or xs 2 0;
  reserved_04 = get_or xs 3 0;
  reserved_06 = get_or xs 4 0;
  msg_flags = get_or xs 5 0;
  vp_id = get_or xs 6 0;
  vf_id = get_or xs 7 0;
  reserved_0a = get_or xs 8 0;
  sense_buffer_low_address = get_or xs 9 0;
  sgl_flags = get_or xs 10 0;
  sense_buffer_length = get_or xs 11 0;
  reserved_13 = get_or xs 12 0;
  sgl_offset0 = get_or xs 13 0;
  sgl_offset1 = get_or xs 14 0;
  sgl_offset2 = get_or xs 15 0;
  sgl_offset3 = get_or xs 16 0;
  skip_count = get_or xs 17 0;
  data_length = get_or xs 18 0;
  bidirectional_data_length = get_or xs 19 0;
  io_flags = get_or xs 20 0;
  eedp_flags = get_or xs 21 0;
  eedp_block_size = get_or xs 22 0;
  secondary_reference_tag = get_or xs 23 0;
  secondary_application_tag = get_or xs 24 0;
  application_tag_translation_mask = get_or xs 25 0;
  lun = get_or xs 26 0;
  control_low = get_or xs 27 0;
  control_attribute = get_or xs 28 0;
  control_high = get_or xs 29 0;
  control_direction = get_or xs 30 0;
  cdb_40 = get_or xs 31 0;
  cdb_48 = get_or xs 32 0;
  cdb_50 = get_or xs 33 0;
  cdb_58 = get_or xs 34 0;
  sge_length = get_or xs 35 0;
  sge_flags = get_or xs 36 0;
  sge_address = get_or xs 37 0;
}

-- messages with the same numbers are the same
pub scsi_io_values-injective : (m n : ScsiIo) → scsi_io_values m ≡ scsi_io_values n → m ≡ n
unfolding scsi_io_values
scsi_io_values-injective m n e = ap scsi_io_of e
