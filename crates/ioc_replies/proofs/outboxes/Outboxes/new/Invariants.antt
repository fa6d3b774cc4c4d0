use Rattle.std.proofs.Common.{◌≡◌, [], map, replicate}
use Rattle.ioc_replies.specs.Outboxes.{items_in}
use Rattle.ioc_replies.proofs.outboxes.Outboxes.new.Given as goal

abbrev pub invariant-loop : goal.invariant-loop
invariant-loop l = map items_in l.boxes.items ≡ replicate l.counter []
