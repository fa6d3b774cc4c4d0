use Rattle.std.proofs.Common.{◌∙◌, ◌<◌, ◌-◌, length, ◌++◌, ◌∷◌, [], ap, arith}
use Rattle.ioc_replies.specs.Outboxes.{OutboxSeen}
use Rattle.ioc_replies.proofs.Boxes.{put_there, room_changed, room_less}
use Rattle.ioc_replies.proofs.outboxes.Outboxes.put.Goals as goal

pub invariant_of-self : goal.invariant_of-self
invariant_of-self c =
    let within : c.from-place.result < length c.self.inside.boxes.items = omega (arith, c.self.inside.boxes.ok.0) in
    let some : 0 < c.self.inside.room = rw (← c.self.view_is) at c.requires in
    let more = c.put.ensures.room in
    let at = ap (λ (x : OutboxSeen). x.spare) c.index_mut.ensures.value in
    room_changed c.self.inside.boxes.items c.self.inside.room (c.self.inside.room - 1) c.from-place.result c.index_mut.result.now c.put.new.self c.self.invariant (omega arith) within
    (omega (arith, more, some, at))

pub invariant_of-self-else-place-len : goal.invariant_of-self-else-place-len
invariant_of-self-else-place-len c = room_less c.self.inside.boxes.items c.self.inside.room c.self.invariant

pub invariant_of-self-else-place-len-2 : goal.invariant_of-self-else-place-len-2
invariant_of-self-else-place-len-2 c = room_less c.self.inside.boxes.items c.self.inside.room c.self.invariant

pub invariant_of-self-else-place-len-3 : goal.invariant_of-self-else-place-len-3
invariant_of-self-else-place-len-3 c = room_less c.self.inside.boxes.items c.self.inside.room c.self.invariant

pub returns-then-place-len-clause-boxes : goal.returns-then-place-len-clause-boxes
returns-then-place-len-clause-boxes c =
    let within : c.from-place.result < length c.self.inside.boxes.items = omega (arith, c.self.inside.boxes.ok.0) in
    rw (← c.self.view_is, ← c.from-place.ensures)
    (put_there c.self.inside.boxes.items c.from-place.result c.index_mut.result.now c.put.new.self c.args.said within (c.put.ensures.items ∙ ap (λ (x : OutboxSeen). x.items ++ c.args.said ∷ []) c.index_mut.ensures.value))
