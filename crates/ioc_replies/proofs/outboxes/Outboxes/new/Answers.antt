use Rattle.std.proofs.Common.{arith}
use Rattle.ioc_replies.proofs.Boxes.{new_size, room_none}
use Rattle.ioc_replies.proofs.outboxes.Outboxes.new.Goals as goal

pub invariant_of-result : goal.invariant_of-result
invariant_of-result c =
    let size = new_size c.loop.boxes.items c.loop.counter c.loop.invariant in
    room_none c.loop.boxes.items (omega (arith, size)) (omega (arith, size))
