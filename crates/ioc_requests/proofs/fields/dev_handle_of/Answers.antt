use Rattle.std.proofs.Common.{◌∙◌}
use Rattle.mpi_layout.proofs.Fields.{field_reads}
use Rattle.ioc_requests.proofs.fields.dev_handle_of.Goals as goal

pub returns : goal.returns
returns c = c.read_u16.ensures ∙ field_reads c.args.frame.now 0 2
