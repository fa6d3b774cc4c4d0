use Rattle.std.proofs.Common.{refl}
use Rattle.scsi_disk.specs.Performed.{capacity_data}
use Rattle.scsi_disk.proofs.disk.Disk.capacity_data.Goals as goal

pub returns : goal.returns
unfolding capacity_data
returns c =
    rw (c.write_u32-2.ensures, c.write_u32.ensures, c.from.ensures, c.blocks-2.ensures.value) refl
