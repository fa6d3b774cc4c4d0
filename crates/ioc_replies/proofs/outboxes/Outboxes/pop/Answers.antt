use Rattle.std.proofs.Common.{◌∙◌, ◌<◌, length, drop, ap, arith}
use Rattle.ioc_replies.specs.Outboxes.{OutboxSeen}
use Rattle.ioc_replies.proofs.Boxes.{pop_there, room_changed}
use Rattle.ioc_replies.proofs.outboxes.Outboxes.pop.Goals as goal

pub invariant_of-self : goal.invariant_of-self
invariant_of-self c =
    let within : c.from-place.result < length c.self.inside.boxes.items = omega (arith, c.self.inside.boxes.ok.0) in
    let more = c.pop.ensures.room in
    let at = ap (λ (x : OutboxSeen). x.spare) c.index_mut.ensures.value in
    room_changed c.self.inside.boxes.items c.self.inside.room c.self.inside.room c.from-place.result c.index_mut.result.now c.pop.new.self c.self.invariant (omega arith) within
    (omega (arith, more, at))

pub returns-then-place-len-clause-rest : goal.returns-then-place-len-clause-rest
returns-then-place-len-clause-rest c =
    let within : c.from-place.result < length c.self.inside.boxes.items = omega (arith, c.self.inside.boxes.ok.0) in
    rw (← c.self.view_is, ← c.from-place.ensures)
    (pop_there c.self.inside.boxes.items c.from-place.result c.index_mut.result.now c.pop.new.self within (c.pop.ensures.rest ∙ ap (λ (x : OutboxSeen). drop 1 x.items) c.index_mut.ensures.value))
