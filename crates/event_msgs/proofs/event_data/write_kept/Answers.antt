use Rattle.std.proofs.Common.{◌∙◌, length, ap, sym, arith}
use Rattle.mpi_layout.specs.Tail.{padded}
use Rattle.mpi_layout.proofs.Tails.{padded_tail}
use Rattle.event_msgs.proofs.event_data.write_kept.Goals as goal

pub returns : goal.returns
returns c =
    padded_tail (length c.args.out.now) 100 c.args.kept.now (omega arith) c.requires.few c.requires.fitting ∙ ap (padded 100) (sym c.copy_from_slice.ensures.after)
