use Rattle.std.proofs.Common.{IsTrue}
use Rattle.mpt_sgl.specs.Spelling.{are_sized}
use Rattle.mpt_sgl.proofs.FrameSteps.{FramesSoFar}
use Rattle.mpt_sgl.proofs.writing.write_frames.Given as goal

-- the frames so far, with any that hold what is left, hold the pieces, and each is of its size
abbrev pub invariant-loop-i : goal.invariant-loop-i
invariant-loop-i l = FramesSoFar l.to_device l.pieces l.chains l.frames.items l.i × IsTrue (are_sized l.frames.items)
