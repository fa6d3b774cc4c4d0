use Rattle.ioc_core.proofs.FewFrames.{frame_taken}
use Rattle.ioc_core.proofs.free_frames.FreeFrames.take.Goals as goal

pub invariant_of-self : goal.invariant_of-self
invariant_of-self c = rw c.take.ensures.rest (frame_taken c.self.inside.ring c.self.invariant)
