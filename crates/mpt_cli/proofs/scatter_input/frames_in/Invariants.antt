use Rattle.mpt_cli.proofs.FramesRead.{FramesSoFar}
use Rattle.mpt_cli.proofs.scatter_input.frames_in.Given as goal

abbrev pub invariant-loop-i : goal.invariant-loop-i
invariant-loop-i l = FramesSoFar l.count l.bytes l.frames.items l.i
