-- The fields of a command descriptor block, by the names of SPC-4 and SBC-3.
-- A CDB is read as if zeros followed it, so an empty one is TEST UNIT READY.
use Rattle.std.specs.Prelude.{ℕ, ◌*◌, ◌==◌, List, drop, slice_index, Option, Some, None, if◌then◌else◌}
use Rattle.byteorder.specs.Endian.{big_number}
use Rattle.scsi_disk.specs.declared.operation.Transfer.{Transfer}
use Rattle.scsi_disk.specs.declared.operation.Operation.{Operation}
use Rattle.scsi_disk.specs.declared.operation.Operation.TheVariants.{TestUnitReady, Inquiry, ReadCapacity, Read, Write}
use Rattle.mpi_names.specs.declared.operation_code.TheConstants.{TEST_UNIT_READY, INQUIRY, READ_CAPACITY_10, READ_10, WRITE_10, READ_16, WRITE_16}

-- OPERATION CODE
abbrev pub operation_code : List ℕ → ℕ
operation_code cdb = slice_index cdb 0

-- byte 1 of INQUIRY, which has the EVPD bit
abbrev pub evpd_byte : List ℕ → ℕ
evpd_byte cdb = slice_index cdb 1

-- ALLOCATION LENGTH of INQUIRY
abbrev pub allocation_length : List ℕ → ℕ
allocation_length cdb = big_number 2 (drop 3 cdb)

-- LOGICAL BLOCK ADDRESS and TRANSFER LENGTH of a READ(10) or WRITE(10)
abbrev pub transfer_10 : List ℕ → Transfer
transfer_10 cdb = record { address = big_number 4 (drop 2 cdb); blocks = big_number 2 (drop 7 cdb) }

-- LOGICAL BLOCK ADDRESS and TRANSFER LENGTH of a READ(16) or WRITE(16)
abbrev pub transfer_16 : List ℕ → Transfer
transfer_16 cdb = record { address = big_number 8 (drop 2 cdb); blocks = big_number 4 (drop 10 cdb) }

-- what the CDB asks for, if the disks know its code
unfoldable pub operation_of : List ℕ → Option Operation
operation_of cdb =
    if operation_code cdb == TEST_UNIT_READY then Some TestUnitReady
    else (if operation_code cdb == INQUIRY then Some (Inquiry (evpd_byte cdb) (allocation_length cdb))
    else (if operation_code cdb == READ_CAPACITY_10 then Some ReadCapacity
    else (if operation_code cdb == READ_10 then Some (Read (transfer_10 cdb))
    else (if operation_code cdb == WRITE_10 then Some (Write (transfer_10 cdb))
    else (if operation_code cdb == READ_16 then Some (Read (transfer_16 cdb))
    else (if operation_code cdb == WRITE_16 then Some (Write (transfer_16 cdb))
    else None))))))

-- the number of bytes that an operation names
abbrev pub named_length : Operation → ℕ
named_length TestUnitReady = 0
named_length (Inquiry evpd allocated) = allocated
named_length ReadCapacity = 8
named_length (Read transfer) = 512 * transfer.blocks
named_length (Write transfer) = 512 * transfer.blocks
