use Rattle.std.proofs.Common.{◌<◌, length, arith}
use Rattle.ioc_core.proofs.FewFrames.{frame_given, frames_are_few}
use Rattle.ioc_core.proofs.free_frames.FreeFrames.give.Goals as goal

pub give-requires : goal.give-requires
give-requires c =
    let few = frames_are_few c.self.inside.ring c.self.invariant in
    let fits : length c.self.inside.ring < 80 = omega (arith, few) in
    fits

pub invariant_of-self : goal.invariant_of-self
invariant_of-self c = rw c.give.ensures (frame_given c.self.inside.ring c.args.frame c.self.invariant c.requires.known (rw (← c.self.view_is) at c.requires.absent))
