use Rattle.std.proofs.Common.{refl}
use Rattle.mpi_doorbell.proofs.Exchanges.{pad_is}
use Rattle.mpi_doorbell.proofs.padded.pad.Goals as goal

pub returns : goal.returns
returns c = pad_is _ _ _ 128 c.copy_from_slice.ensures.after refl
