use Rattle.std.proofs.Common.{◌∙◌, ap}
use Rattle.byteorder.specs.Endian.{little_number}
use Rattle.mpi_layout.proofs.Fields.{field_reads}
use Rattle.host_reading.proofs.Numbers.{take_rest}
use Rattle.host_reading.proofs.number.u32_at.Goals as goal

pub returns : goal.returns
returns c = c.read_u32.ensures ∙ ap (λ xs. little_number 4 xs) (take_rest c.args.bytes.now c.args.at) ∙ field_reads c.args.bytes.now c.args.at 4
