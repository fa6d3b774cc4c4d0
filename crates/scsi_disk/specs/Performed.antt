-- What a disk answers to a command, and the bytes that it has afterwards.
use Rattle.std.specs.Prelude.{ℕ, ◌-◌, ◌*◌, ◌==◌, List, [], ◌∷◌, ◌++◌, length, take, min, codes, Option, Some, None, if◌then◌else◌}
use Rattle.byteorder.specs.Endian.{big_bytes}
use Rattle.scsi_disk.specs.declared.command.Command.{Command}
use Rattle.scsi_disk.specs.declared.operation.Transfer.{Transfer}
use Rattle.scsi_disk.specs.declared.operation.Operation.{Operation}
use Rattle.scsi_disk.specs.declared.operation.Operation.TheVariants.{TestUnitReady, Inquiry, ReadCapacity, Read, Write}
use Rattle.scsi_disk.specs.declared.scsi_result.ScsiResult.{ScsiResult}
use Rattle.scsi_disk.specs.declared.scsi_result.TheConstants.{GOOD, CHECK_CONDITION}
use Rattle.scsi_disk.specs.declared.sense.AdditionalSense.{AdditionalSense}
use Rattle.scsi_disk.specs.declared.sense.AdditionalSense.TheVariants.{InvalidOperationCode, BlockAddressOutOfRange, InvalidFieldInCdb, LogicalUnitNotSupported}
use Rattle.scsi_disk.specs.Operation.{operation_of}
use Rattle.scsi_disk.specs.Disk.{block_count, is_in_range, bytes_from, with_data}

-- the disk's bytes afterwards, and the result
pub record Outcome : Type 0 where
  pub bytes : List ℕ
  pub result : ScsiResult

-- ADDITIONAL SENSE CODE
abbrev pub sense_code : AdditionalSense → ℕ
sense_code InvalidOperationCode = 0x20
sense_code BlockAddressOutOfRange = 0x21
sense_code InvalidFieldInCdb = 0x24
sense_code LogicalUnitNotSupported = 0x25

-- fixed format sense data of a current ILLEGAL REQUEST, with ten bytes after the eighth
abbrev pub sense_data : AdditionalSense → List ℕ
sense_data cause =
    0x70 ∷ 0 ∷ 0x05 ∷ 0 ∷ 0 ∷ 0 ∷ 0 ∷ 0x0a ∷ 0 ∷ 0 ∷ 0 ∷ 0 ∷ sense_code cause ∷ 0 ∷ 0 ∷ 0 ∷ 0 ∷ 0 ∷ []

-- GOOD, with this data
abbrev pub good : List ℕ → ScsiResult
good bytes = record { status = GOOD; payload = bytes; sense = [] }

-- CHECK CONDITION, with no data
abbrev pub check_condition : AdditionalSense → ScsiResult
check_condition cause = record { status = CHECK_CONDITION; payload = []; sense = sense_data cause }

-- standard INQUIRY data: a direct access block device of SPC-4 with command queuing, then its
-- vendor, product and revision
unfoldable pub inquiry_data : List ℕ
inquiry_data = 0x00 ∷ 0x00 ∷ 0x06 ∷ 0x02 ∷ 0x1f ∷ 0x00 ∷ 0x00 ∷ 0x02 ∷ codes "MPTSIM  SIMULATED DISK  0001"

-- READ CAPACITY(10) data: the last block and the block length
unfoldable pub capacity_data : List ℕ → List ℕ
capacity_data bytes = big_bytes 4 (block_count bytes - 1) ++ big_bytes 4 512

-- INQUIRY: the first bytes of the standard data
abbrev pub inquiry_result : ℕ → ℕ → ScsiResult
inquiry_result evpd len =
    if evpd == 0 then good (take len inquiry_data) else check_condition InvalidFieldInCdb

-- READ: the blocks, at most as many bytes as the command takes
abbrev pub read_result : List ℕ → ℕ → Transfer → ScsiResult
read_result bytes len transfer =
    if is_in_range bytes transfer
    then good (bytes_from transfer.address (min (min len 4096) (512 * transfer.blocks)) bytes)
    else check_condition BlockAddressOutOfRange

-- WRITE: the blocks hold the data, if it is as long as they are
abbrev pub write_outcome : List ℕ → List ℕ → Transfer → Outcome
write_outcome bytes payload transfer =
    if is_in_range bytes transfer
    then (if length payload == 512 * transfer.blocks
    then record { bytes = with_data transfer.address payload bytes; result = good [] }
    else record { bytes = bytes; result = check_condition InvalidFieldInCdb })
    else record { bytes = bytes; result = check_condition BlockAddressOutOfRange }

-- the answer to the operation that the CDB asks for
abbrev pub answered : List ℕ → Command → Option Operation → Outcome
answered bytes command None = record { bytes = bytes; result = check_condition InvalidOperationCode }
answered bytes command (Some TestUnitReady) = record { bytes = bytes; result = good [] }
answered bytes command (Some (Inquiry evpd allocated)) =
    record { bytes = bytes; result = inquiry_result evpd command.len }
answered bytes command (Some ReadCapacity) =
    record { bytes = bytes; result = good (take command.len (capacity_data bytes)) }
answered bytes command (Some (Read transfer)) =
    record { bytes = bytes; result = read_result bytes command.len transfer }
answered bytes command (Some (Write transfer)) = write_outcome bytes command.payload transfer

-- the answer to a command: only logical unit 0 is there
abbrev pub performed : List ℕ → Command → Outcome
performed bytes command =
    if command.lun == 0
    then answered bytes command (operation_of command.cdb)
    else record { bytes = bytes; result = check_condition LogicalUnitNotSupported }
