use Rattle.std.proofs.Common.{◌≡◌, ◌+◌, length}
use Rattle.live_session.specs.Left.{SubmittersBegin}
use Rattle.live_session.proofs.submitters.submitter_ends.Given as goal

abbrev pub invariant-loop-lines : goal.invariant-loop-lines
invariant-loop-lines l =
    record {
      begin : SubmittersBegin 0 l.ends.items;
      count : length l.ends.items ≡ l.lines-index;
      asks : length l.asks.items + l.lines-index ≡ length l.inputs;
      tells : length l.tells.items + l.lines-index ≡ length l.inputs;
    }
