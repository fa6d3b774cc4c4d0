use Rattle.mpt_sgl.proofs.WriteSteps.{WrittenSoFar}
use Rattle.mpt_sgl.proofs.area.write_simple.Given as goal

-- the elements so far, and those that are left, are the run; the bytes behind are as before
abbrev pub invariant-loop-place : goal.invariant-loop-place
invariant-loop-place l = WrittenSoFar l.to_device l.last l.pieces l.initial.out l.out l.place
