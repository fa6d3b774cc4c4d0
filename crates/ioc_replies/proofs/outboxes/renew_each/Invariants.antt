use Rattle.ioc_replies.proofs.Boxes.{AreRenewed}
use Rattle.ioc_replies.proofs.outboxes.renew_each.Given as goal

abbrev pub invariant-loop-i : goal.invariant-loop-i
invariant-loop-i l = AreRenewed l.generation l.initial.boxes l.boxes l.i
