-- A trace that passes the rules of paths, replies and counts keeps them.
use Rattle.std.proofs.Common.{List}
use Rattle.mpt_trace.specs.declared.entry.Entry.{Entry}
use Rattle.mpt_wire.specs.Paths.Rules.{PathsKept, PathsPass}
use Rattle.mpt_wire.proofs.Paths.{on_paths}
use Rattle.mpt_wire.proofs.Replies.{replies_tell}
use Rattle.mpt_wire.proofs.Stops.{stops_are_told}
use Rattle.mpt_wire.proofs.TerminationCounts.{are_counted}

pub paths_kept : (t : List Entry) → PathsPass t → PathsKept t
paths_kept t p =
    record {
      paths = λ s. on_paths s t (p.paths s);
      replies = λ s. replies_tell s t (p.paths s) (p.replies s);
      counts = λ q. are_counted q t (p.counts q);
      stops = λ s. stops_are_told s t (p.stops s);
    }
