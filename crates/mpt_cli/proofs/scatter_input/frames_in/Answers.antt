use Rattle.std.proofs.Common.{◌++◌, ◌∷◌, [], ap, ◌*◌, ◌∙◌}
use Rattle.std.proofs.lemmas.List.{take_rest}
use Rattle.mpt_sgl.specs.declared.chained.ChainFrame.{ChainFrame}
use Rattle.mpt_cli.proofs.FramesRead.{one_frame_more}
use Rattle.mpt_cli.proofs.scatter_input.frames_in.Goals as goal

pub loop-i-preserved : goal.loop-i-preserved
loop-i-preserved c =
    one_frame_more c.args.count c.loop-i.i c.args.bytes.now _ c.loop-i.frames.items c.push.new.self.items c.loop-i-test.true (take_rest c.args.bytes.now (136 * c.loop-i.i))
    (c.in_ok-push.ensures.items ∙ ap (λ (f : ChainFrame). c.loop-i.frames.items ++ (f ∷ [])) c.frame_at.ensures) c.loop-i.invariant
