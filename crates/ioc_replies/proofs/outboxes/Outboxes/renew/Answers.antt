use Rattle.std.proofs.Common.{◌<◌, arith}
use Rattle.ioc_replies.proofs.Boxes.{room_least}
use Rattle.ioc_replies.proofs.outboxes.Outboxes.renew.Goals as goal

pub renew_each-requires : goal.renew_each-requires
renew_each-requires c =
    let some : 0 < c.self.inside.room = rw (← c.self.view_is) at c.requires in
    rw c.deref_mut.ensures.value (room_least c.self.inside.boxes.items c.self.inside.room 1 c.self.invariant (omega (arith, some)))
