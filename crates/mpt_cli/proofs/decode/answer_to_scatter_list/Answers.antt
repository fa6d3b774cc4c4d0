use Rattle.std.proofs.Common.{ap, ◌∙◌}
use Rattle.mpt_sgl.specs.declared.chained.Chained.{Chained}
use Rattle.mpt_cli.proofs.FramesRead.{few_frames}
use Rattle.mpt_cli.proofs.decode.answer_to_scatter_list.Goals as goal

pub read_list-requires : goal.read_list-requires
read_list-requires c = few_frames c.args.bytes.now c.as_slice-frames.result.now (c.as_slice-frames.ensures ∙ ap (λ (chained : Chained). chained.frames) c.in_ok-chained.ensures) c.requires
