use Rattle.std.proofs.Common.{ap, ◌∙◌, ◌-◌, drop, length, arith}
use Rattle.std.proofs.lemmas.List.{take_all, length-drop}
use Rattle.byteorder.specs.Endian.{little_number}
use Rattle.mpi_layout.proofs.Fields.{field_reads}
use Rattle.mpi_layout.proofs.row.Row.number_in.Goals as goal

pub returns : goal.returns
returns c =
    let rest = take_all (length c.args.bytes.now - c.args.self.now.at) (drop c.args.self.now.at c.args.bytes.now) (simp length-drop (omega arith)) in
    record { number = c.read_uint.ensures ∙ ap (little_number c.args.self.now.width) rest ∙ field_reads c.args.bytes.now c.args.self.now.at c.args.self.now.width }
