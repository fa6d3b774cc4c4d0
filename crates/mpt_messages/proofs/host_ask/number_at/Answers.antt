use Rattle.std.proofs.Common.{ap, ◌∙◌, ◌-◌, drop, length, arith}
use Rattle.std.proofs.lemmas.List.{take_all, length-drop}
use Rattle.byteorder.specs.Endian.{little_number}
use Rattle.mpi_layout.proofs.Fields.{field_reads}
use Rattle.mpt_messages.proofs.host_ask.number_at.Goals as goal

pub returns : goal.returns
returns c =
    let rest = take_all (length c.args.cdb.now - c.args.at) (drop c.args.at c.args.cdb.now) (simp length-drop (omega arith)) in
    c.read_u64.ensures ∙ ap (little_number 8) rest ∙ field_reads c.args.cdb.now c.args.at 8
