use Rattle.std.proofs.Common.{◌∙◌, ◌<◌, length, ap, arith}
use Rattle.std.proofs.lemmas.List.{get_or_default}
use Rattle.ioc_replies.specs.Outboxes.{OutboxSeen}
use Rattle.ioc_replies.proofs.Boxes.{nowhere, renewed_all, room_at, room_of}
use Rattle.ioc_replies.proofs.outboxes.renew_each.Goals as goal

pub renew-requires : goal.renew-requires
renew-requires c =
    let within : c.loop-i.i < length c.loop-i.boxes = omega arith in
    let at = ap (λ (x : OutboxSeen). x.spare) (get_or_default c.loop-i.boxes c.loop-i.i c.index-boxes-i.result nowhere within ∙ c.loop-i.invariant.left c.loop-i.i (omega arith)) in
    let had = room_at 1 c.args.boxes.now c.requires c.loop-i.i (omega arith) in
    omega (arith, at, had)

pub returns-clause-items : goal.returns-clause-items
returns-clause-items c = renewed_all c.args.generation c.args.boxes.now c.loop-i.boxes c.loop-i.i (omega arith) c.loop-i.invariant

pub returns-clause-room : goal.returns-clause-room
returns-clause-room c = room_of 0 c.loop-i.boxes (λ k below. omega arith)
