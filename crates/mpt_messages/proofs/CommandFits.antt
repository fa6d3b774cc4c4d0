-- A SCSI IO that the host may ask fits its layout.
use Rattle.std.proofs.Common.{◌≡◌, ℕ, ◌^◌, ◌<◌, ◌≤◌, ◌⊎◌, IsTrue, Bool, true, ◌==◌, bit_and, ◌%◌, ◌∙◌, arith}
use Rattle.std.proofs.lemmas.Nat.{and_mask}
use Rattle.std.proofs.lemmas.Bool.Decides.{nat_tests}
use Rattle.mpi_layout.specs.Rows.{values_fit}
use Rattle.mpi_names.specs.declared.memory.TheConstants.{SENSE_BUFFER_BYTES}
use Rattle.scsi_msgs.specs.declared.scsi_io.ScsiIo.{ScsiIo}
use Rattle.scsi_msgs.specs.ScsiIo.{scsi_io_layout, scsi_io_values}
use Rattle.scsi_msgs.specs.declared.scsi_io.TheConstants.ScsiIo.{BLANK as blank_scsi_io}
use Rattle.mpt_messages.specs.HostFrames.{direction}

-- a SCSI IO of these numbers
abbrev pub io : ℕ → ℕ → ℕ → ℕ → ℕ → ℕ → ℕ → ℕ → ℕ → ℕ → ScsiIo
io handle sense lun len cdb_len way front back flags address = record blank_scsi_io {
  dev_handle = handle;
  sense_buffer_low_address = sense;
  sense_buffer_length = SENSE_BUFFER_BYTES;
  data_length = len;
  io_flags = cdb_len;
  lun = lun;
  control_direction = way;
  cdb_40 = front;
  cdb_48 = back;
  sge_length = len;
  sge_flags = flags;
  sge_address = address;
}

-- its tests, one by one
pub io_fits : (handle sense lun len cdb_len way front back flags address : ℕ) → handle < 2 ^ 16 → sense < 2 ^ 32 → lun < 2 ^ 64 → len ≤ 4096 → cdb_len ≤ 16 → (bit_and cdb_len 0x1f == cdb_len) ≡ true → front < 2 ^ 64 → back < 2 ^ 64 → address < 2 ^ 64 → (way ≡ 0) ⊎ ((way ≡ 1) ⊎ (way ≡ 2)) → (flags ≡ 0xd3) ⊎ (flags ≡ 0xd7) → IsTrue (values_fit (scsi_io_layout).rows (scsi_io_values (io handle sense lun len cdb_len way front back flags address)))
unfolding scsi_io_layout scsi_io_values
io_fits handle sense lun len cdb_len way front back flags address h s n l c m f b a d e = grind (arith, nat_tests)

-- the direction is one of three
pub direction-one_of : (len : ℕ) (write : Bool) (way : ℕ) → way ≡ direction len write → (way ≡ 0) ⊎ ((way ≡ 1) ⊎ (way ≡ 2))
direction-one_of len write way e = grind (arith, nat_tests)

-- a CDB's length is in the low five bits
pub cdb_length-masked : (cdb_len : ℕ) → cdb_len ≤ 16 → (bit_and cdb_len 0x1f == cdb_len) ≡ true
cdb_length-masked cdb_len h =
    let low : cdb_len % 2 ^ 5 ≡ cdb_len = omega arith in
    let same : bit_and cdb_len 0x1f ≡ cdb_len = and_mask cdb_len 5 ∙ low in
    rw same (grind (arith, nat_tests))
