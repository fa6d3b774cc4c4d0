-- A transfer and its command, by the numbers of the message.
use Rattle.std.proofs.Common.{◌≡◌, ℕ, ◌==◌, nat_lt, Bool, not, ◌||◌, if◌then◌else◌, List, drop, length, take, refl}
use Rattle.scsi_msgs.specs.ScsiIo.{ScsiIoStands}
use Rattle.scsi_msgs.specs.declared.scsi_io.ScsiIo.{ScsiIo}
use Rattle.mpt_rules.specs.Ioc.Commands.{command_in, differ, is_inconsistent}
use Rattle.ioc_requests.proofs.Named.{scsi_io_named}

pub inconsistent_is : (io : ScsiIo) (frame payload : List ℕ) (amount way : Bool) (held : ℕ) → ScsiIoStands io frame → amount ≡ differ (io.control_direction == 0) (io.data_length == 0) → way ≡ differ (io.sge_flags == 0xd7) (io.control_direction == 1)
    → held ≡ (if io.control_direction == 1 then io.data_length else 0)
    → ((((not (io.sge_length == io.data_length) || nat_lt 4096 io.data_length) || amount) || way) || not (length payload == held)) ≡ is_inconsistent frame payload
inconsistent_is io frame payload amount way held stands amount_is way_is held_is =
    let named = scsi_io_named io frame stands in
    rw (amount_is, way_is, held_is, named.element_length, named.data_length, named.direction, named.element_flags) refl

pub command_is : (io : ScsiIo) (frame payload cdb : List ℕ) → ScsiIoStands io frame → cdb ≡ take io.io_flags (drop 0x40 frame) → record { lun = io.lun; cdb = cdb; len = io.data_length; payload = payload } ≡ command_in frame payload
command_is io frame payload cdb stands is =
    let named = scsi_io_named io frame stands in
    rw (is, ← named.lun, ← named.data_length, ← named.cdb_length) refl
