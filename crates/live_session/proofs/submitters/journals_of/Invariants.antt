use Rattle.std.proofs.Common.{◌≡◌, ◌+◌, length}
use Rattle.std.specs.Vec.Iter.{into_iter_items}
use Rattle.live_session.specs.Left.{SubmittersLeft, SubmittersRan}
use Rattle.live_session.proofs.submitters.journals_of.Given as goal

abbrev pub invariant-loop-end : goal.invariant-loop-end
invariant-loop-end l =
    record {
      left : SubmittersLeft 0 l.journals.items;
      rest : SubmittersRan (length l.journals.items) (into_iter_items l.end-iterator);
      count : length l.journals.items + length (into_iter_items l.end-iterator) ≡ length l.fn.ends.items;
    }
