use Rattle.std.proofs.Common.{◌∙◌, ◌<◌, ◌≤◌, length, get_or, ap, arith}
use Rattle.std.proofs.lemmas.List.{get_or_default}
use Rattle.ioc_replies.specs.Outboxes.{OutboxSeen, items_in}
use Rattle.ioc_replies.proofs.Boxes.{grown_items, grown_keeps, grown_more, nowhere, room_of}
use Rattle.ioc_replies.proofs.outboxes.reserve_each.Goals as goal

pub returns-in_err-reserve-clause-items : goal.returns-in_err-reserve-clause-items
returns-in_err-reserve-clause-items c =
    let within : c.loop-i.i < length c.loop-i.boxes = omega arith in
    let at = get_or_default c.loop-i.boxes c.loop-i.i c.index-boxes-i.result nowhere within in
    let more : (get_or c.loop-i.boxes c.loop-i.i nowhere).spare ≤ c.reserve.new.self.spare = omega (arith, ap (λ (x : OutboxSeen). x.spare) at, c.reserve.ensures.room) in
    grown_items c.args.boxes.now _ (grown_more c.args.boxes.now c.loop-i.boxes c.loop-i.i c.reserve.new.self within (c.reserve.ensures.items ∙ ap items_in at) more c.loop-i.invariant.grown)

pub returns-in_err-reserve-clause-keeps : goal.returns-in_err-reserve-clause-keeps
returns-in_err-reserve-clause-keeps c =
    let within : c.loop-i.i < length c.loop-i.boxes = omega arith in
    let at = get_or_default c.loop-i.boxes c.loop-i.i c.index-boxes-i.result nowhere within in
    let more : (get_or c.loop-i.boxes c.loop-i.i nowhere).spare ≤ c.reserve.new.self.spare = omega (arith, ap (λ (x : OutboxSeen). x.spare) at, c.reserve.ensures.room) in
    grown_keeps c.args.boxes.now _ (grown_more c.args.boxes.now c.loop-i.boxes c.loop-i.i c.reserve.new.self within (c.reserve.ensures.items ∙ ap items_in at) more c.loop-i.invariant.grown)

pub returns-clause-items : goal.returns-clause-items
returns-clause-items c = grown_items c.args.boxes.now c.loop-i.boxes c.loop-i.invariant.grown

pub returns-clause-keeps : goal.returns-clause-keeps
returns-clause-keeps c = grown_keeps c.args.boxes.now c.loop-i.boxes c.loop-i.invariant.grown

pub returns-clause-ok : goal.returns-clause-ok
returns-clause-ok c = room_of c.args.count c.loop-i.boxes (λ k below. c.loop-i.invariant.done k (omega (arith, below)))
