-- What READ and WRITE promise together.
use Rattle.std.specs.Prelude.{◌≡◌, ℕ, ◌+◌, ◌<◌, ◌≤◌, ◌⊎◌, List, length, Some}
use Rattle.scsi_disk.specs.declared.command.Command.{Command}
use Rattle.scsi_disk.specs.declared.operation.Transfer.{Transfer}
use Rattle.scsi_disk.specs.declared.operation.Operation.TheVariants.{Read, Write}
use Rattle.scsi_disk.specs.declared.scsi_result.TheConstants.{GOOD, CHECK_CONDITION}
use Rattle.scsi_disk.specs.Operation.{operation_of}
use Rattle.scsi_disk.specs.Disk.{block_at}
use Rattle.scsi_disk.specs.Performed.{good, performed}

-- the command is a READ of these blocks of the disk
abbrev pub IsReadOf : Command → Transfer → Type 0
IsReadOf command transfer = (command.lun ≡ 0) × (operation_of command.cdb ≡ Some (Read transfer))

-- the command is a WRITE of these blocks of the disk
abbrev pub IsWriteOf : Command → Transfer → Type 0
IsWriteOf command transfer = (command.lun ≡ 0) × (operation_of command.cdb ≡ Some (Write transfer))

-- the block is none of the transfer's
abbrev pub IsOutside : ℕ → Transfer → Type 0
IsOutside block transfer = (block < transfer.address) ⊎ (transfer.address + transfer.blocks ≤ block)

-- after a WRITE that was GOOD, a READ of the same blocks that takes them all gives what was written
abbrev pub ReadAfterWrite : Type 0
ReadAfterWrite =
    (bytes : List ℕ) (write read : Command) (transfer : Transfer) →
    IsWriteOf write transfer → IsReadOf read transfer →
    length write.payload ≤ 4096 → length write.payload ≤ read.len →
    (performed bytes write).result.status ≡ GOOD →
    (performed (performed bytes write).bytes read).result ≡ good write.payload

-- a block keeps its bytes, if the command is no WRITE of it
abbrev pub OtherBlocksStay : Type 0
OtherBlocksStay =
    (bytes : List ℕ) (command : Command) (block : ℕ) →
    ((transfer : Transfer) → IsWriteOf command transfer → IsOutside block transfer) →
    block_at block (performed bytes command).bytes ≡ block_at block bytes

-- a disk keeps its size
abbrev pub SizeStays : Type 0
SizeStays =
    (bytes : List ℕ) (command : Command) → length (performed bytes command).bytes ≡ length bytes

-- CHECK CONDITION leaves the disk as it was
abbrev pub CheckChangesNothing : Type 0
CheckChangesNothing =
    (bytes : List ℕ) (command : Command) →
    (performed bytes command).result.status ≡ CHECK_CONDITION → (performed bytes command).bytes ≡ bytes
