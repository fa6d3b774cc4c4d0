use Rattle.ioc_core.proofs.FewFrames.{has_is_any}
use Rattle.ioc_core.proofs.free_frames.FreeFrames.has.Goals as goal

pub returns : goal.returns
returns c = rw (← c.self.view_is) (has_is_any c.has.result c.self.inside.ring c.args.frame c.has.ensures)
