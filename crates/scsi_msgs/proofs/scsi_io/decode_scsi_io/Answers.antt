use Rattle.std.proofs.Common.{Ok, ap}
use Rattle.mpi_layout.proofs.Moves.{Stands-same, read_fits, read_stands}
use Rattle.scsi_msgs.specs.ScsiIo.{scsi_io_layout, scsi_io_values}
use Rattle.scsi_msgs.proofs.ScsiIoFields.{scsi_io_values-injective}
use Rattle.scsi_msgs.proofs.scsi_io.decode_scsi_io.Goals as goal

pub returns-clause-read : goal.returns-clause-read
returns-clause-read c =
    read_stands scsi_io_layout c.layout.result c.args.bytes.now c.in_ok-values.values (scsi_io_values c.from_values.result) c.layout.ensures c.in_ok-values.ensures.exact c.in_ok-values.ensures.fitting c.from_values.ensures

pub returns-clause-only : goal.returns-clause-only
returns-clause-only c =
    let stands = read_stands scsi_io_layout c.layout.result c.args.bytes.now c.in_ok-values.values (scsi_io_values c.from_values.result) c.layout.ensures c.in_ok-values.ensures.exact c.in_ok-values.ensures.fitting c.from_values.ensures in
    λ m other. ap Ok (scsi_io_values-injective c.from_values.result m (Stands-same scsi_io_layout (scsi_io_values c.from_values.result) (scsi_io_values m) c.args.bytes.now stands other))

pub returns-clause-fitting : goal.returns-clause-fitting
returns-clause-fitting c =
    read_fits scsi_io_layout c.layout.result c.args.bytes.now c.in_ok-values.values (scsi_io_values c.from_values.result) c.layout.ensures c.in_ok-values.ensures.exact c.in_ok-values.ensures.fitting c.from_values.ensures
