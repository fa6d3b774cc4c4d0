-- What a command says of itself.
use Rattle.std.specs.Prelude.{ℕ, ◌==◌, nat_le, Bool, true, ◌&&◌, ◌||◌, List, length, Option, Some, None, option_map, if◌then◌else◌}
use Rattle.scsi_disk.specs.declared.command.Command.{Command}
use Rattle.scsi_disk.specs.declared.command.Direction.{Direction}
use Rattle.scsi_disk.specs.declared.command.Direction.TheVariants as direction
use Rattle.scsi_disk.specs.declared.scsi_result.ScsiResult.{ScsiResult}
use Rattle.scsi_disk.specs.declared.scsi_result.TheConstants.{GOOD}
use Rattle.mpi_names.specs.declared.limit.TheConstants.{MAX_TRANSFER}
use Rattle.mpi_names.specs.declared.operation_code.TheConstants.{WRITE_10, WRITE_16}
use Rattle.scsi_disk.specs.Operation.{operation_code, operation_of, named_length}

-- the number of bytes that the CDB names, if the disks know its code
abbrev pub length_named : List ℕ → Option ℕ
length_named cdb = option_map named_length (operation_of cdb)

-- the CDB is a WRITE
abbrev pub is_write : List ℕ → Bool
is_write cdb = operation_code cdb == WRITE_10 || operation_code cdb == WRITE_16

-- the direction of the data: none of no bytes, to the disk for a WRITE, and else from it
abbrev pub direction_of : Command → Direction
direction_of command =
    if command.len == 0 then direction.None
    else (if is_write command.cdb then direction.Write else direction.Read)

-- the length is the one that the CDB names, where it names one
abbrev pub agrees : Option ℕ → ℕ → Bool
agrees None len = true
agrees (Some named) len = named == len

-- a command that a host may send
abbrev pub fits : Command → Bool
fits command =
    nat_le 1 (length command.cdb) && nat_le (length command.cdb) 16
    && nat_le command.len MAX_TRANSFER && agrees (length_named command.cdb) command.len
    && length command.payload == (if is_write command.cdb then command.len else 0)

-- the number of bytes that a command moved, given its result
abbrev pub moved : Command → ScsiResult → ℕ
moved command outcome =
    if is_write command.cdb
    then (if outcome.status == GOOD then length command.payload else 0)
    else length outcome.payload
