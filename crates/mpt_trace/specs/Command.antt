-- The command that a schedule names: its CDB by SPC-4 and SBC-3, its length and its data.
use Rattle.std.specs.Prelude.{◌≡◌, ℕ, ◌*◌, ◌^◌, ◌<◌, Some, nat_le, if◌then◌else◌, List, [], ◌∷◌, ◌++◌, replicate}
use Rattle.mpi_names.specs.declared.limit.TheConstants.{MAX_TRANSFER}
use Rattle.byteorder.specs.Endian.{big_bytes}
use Rattle.scsi_disk.specs.Command.{length_named}
use Rattle.scsi_disk.specs.declared.command.Command.{Command}
use Rattle.mpt_trace.specs.declared.command_form.CommandForm.{CommandForm}
use Rattle.mpt_trace.specs.declared.command_form.CommandForm.TheVariants as form
use Rattle.mpi_names.specs.declared.operation_code.TheConstants.{INQUIRY, READ_CAPACITY_10, READ_10, WRITE_10, READ_16, WRITE_16}

-- READ(10) and WRITE(10): LOGICAL BLOCK ADDRESS in bytes 2 to 5, TRANSFER LENGTH in 7 and 8
abbrev pub transfer_10 : ℕ → ℕ → ℕ → List ℕ
transfer_10 code lba blocks = (code ∷ 0 ∷ big_bytes 4 lba) ++ (0 ∷ big_bytes 2 blocks) ++ 0 ∷ []

-- READ(16) and WRITE(16): LOGICAL BLOCK ADDRESS in bytes 2 to 9, TRANSFER LENGTH in 10 to 13
abbrev pub transfer_16 : ℕ → ℕ → ℕ → List ℕ
transfer_16 code lba blocks = (code ∷ 0 ∷ big_bytes 8 lba) ++ big_bytes 4 blocks ++ 0 ∷ 0 ∷ []

-- the command descriptor block
abbrev pub cdb_of : CommandForm → List ℕ
cdb_of form.Tur = replicate 6 0
cdb_of (form.Inquiry len) = (INQUIRY ∷ 0 ∷ 0 ∷ big_bytes 2 len) ++ 0 ∷ []
cdb_of form.Capacity = READ_CAPACITY_10 ∷ replicate 9 0
cdb_of (form.Read lba blocks) = transfer_10 READ_10 lba blocks
cdb_of (form.Write lba blocks fill) = transfer_10 WRITE_10 lba blocks
cdb_of (form.Read16 lba blocks) = transfer_16 READ_16 lba blocks
cdb_of (form.Write16 lba blocks fill) = transfer_16 WRITE_16 lba blocks
cdb_of (form.Raw cdb len) = cdb

-- the number of bytes that are moved at most
abbrev pub len_of : CommandForm → ℕ
len_of form.Tur = 0
len_of (form.Inquiry len) = len
len_of form.Capacity = 8
len_of (form.Read lba blocks) = 512 * blocks
len_of (form.Write lba blocks fill) = 512 * blocks
len_of (form.Read16 lba blocks) = 512 * blocks
len_of (form.Write16 lba blocks fill) = 512 * blocks
len_of (form.Raw cdb len) = len

-- blocks of one byte over and over, where they have at most 4,096 bytes; more aren't made
abbrev pub filled : ℕ → ℕ → List ℕ
filled blocks fill = if nat_le (512 * blocks) MAX_TRANSFER then replicate (512 * blocks) fill else []

-- the data for the disk
abbrev pub payload_of : CommandForm → List ℕ
payload_of (form.Write lba blocks fill) = filled blocks fill
payload_of (form.Write16 lba blocks fill) = filled blocks fill
payload_of _ = []

-- the command that a schedule names
abbrev pub command_named : CommandForm → Command
command_named f = record { lun = 0; cdb = cdb_of f; len = len_of f; payload = payload_of f }

-- numbers that fit the CDB's fields
abbrev pub FitsItsCdb : CommandForm → Type 0
FitsItsCdb (form.Inquiry len) = len < 2 ^ 16
FitsItsCdb (form.Read lba blocks) = blocks < 2 ^ 16
FitsItsCdb (form.Write lba blocks fill) = blocks < 2 ^ 16
FitsItsCdb (form.Read16 lba blocks) = blocks < 2 ^ 16
FitsItsCdb (form.Write16 lba blocks fill) = blocks < 2 ^ 16
FitsItsCdb _ = Unit {0}

-- the length that a disk reads from the CDB is the command's
abbrev pub NamesItsLength : CommandForm → Type 0
NamesItsLength (form.Raw cdb len) = Unit {0}
NamesItsLength f = length_named (cdb_of f) ≡ Some (len_of f)
