use Rattle.std.proofs.Common.{◌++◌, ◌∙◌, length, ap}
use Rattle.std.proofs.lemmas.List.{drop-replicate}
use Rattle.mpi_layout.proofs.tail.padded.Goals as goal

pub returns : goal.returns
returns g c = c.put_front.ensures ∙ ap (λ xs. c.args.bytes.now ++ xs) (drop-replicate (length c.args.bytes.now) _ 0)
