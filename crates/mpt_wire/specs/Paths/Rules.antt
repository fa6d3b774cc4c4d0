-- The rules of paths, replies and counts together, for all identifiers.
use Rattle.std.specs.Prelude.{ℕ, List}
use Rattle.mpt_trace.specs.declared.entry.Entry.{Entry}
use Rattle.mpt_wire.specs.Paths.Commands.{IsOnPaths}
use Rattle.mpt_wire.specs.Paths.Stages.{WalksOnPaths}
use Rattle.mpt_wire.specs.Paths.Replies.{RepliesPass, RepliesTell}
use Rattle.mpt_wire.specs.Paths.Stops.{StopsAreTold, StopsPass}
use Rattle.mpt_wire.specs.Paths.TerminationCounts.{AreCounted, CountsPass}

-- plain
pub record PathsKept (t : List Entry) : Type 0 where
  -- what names a command's identifier is on one of the paths
  pub paths : (s : ℕ) → IsOnPaths s t
  -- each reply to a command tells the result that was taken for it
  pub replies : (s : ℕ) → RepliesTell s t
  -- the replies to aborts and target resets have the fabric's counts
  pub counts : (q : ℕ) → AreCounted q t
  -- an abort that took its command out of the queue says so, and only then
  pub stops : (s : ℕ) → StopsAreTold s t

-- as rules that go over the trace
pub record PathsPass (t : List Entry) : Type 0 where
  pub paths : (s : ℕ) → WalksOnPaths s t
  pub replies : (s : ℕ) → RepliesPass s t
  pub counts : (q : ℕ) → CountsPass q t
  pub stops : (s : ℕ) → StopsPass s t
