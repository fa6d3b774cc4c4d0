use Rattle.std.proofs.Common.{◌≡◌, ◌≤◌, ◌*◌, ◌^◌, sum_by, take}
use Rattle.mpt_rules.specs.World.Weight.{said_items}
use Rattle.ioc_replies.proofs.outboxes.count_said.Given as goal

abbrev pub invariant-loop-outbox : goal.invariant-loop-outbox
invariant-loop-outbox l = record { counted : l.count ≡ sum_by (λ o. said_items o.items) (take l.outbox-index l.boxes); most : l.count ≤ l.outbox-index * 2 ^ 64 }
