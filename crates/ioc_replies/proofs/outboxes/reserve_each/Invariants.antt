use Rattle.std.proofs.Common.{◌<◌, ◌≤◌, ℕ, get_or}
use Rattle.ioc_replies.proofs.Boxes.{AreGrown, nowhere}
use Rattle.ioc_replies.proofs.outboxes.reserve_each.Given as goal

abbrev pub invariant-loop-i : goal.invariant-loop-i
invariant-loop-i l =
    record {
      grown : AreGrown l.initial.boxes l.boxes;
      done : (k : ℕ) → k < l.i → l.count ≤ (get_or l.boxes k nowhere).spare;
    }
