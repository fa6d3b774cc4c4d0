use Rattle.std.proofs.Common.{◌≡◌, drop}
use Rattle.std.specs.List.{filter_map}
use Rattle.law_replays.specs.Schedules.{queues_in}
use Rattle.mpt_replay.proofs.head.queues_of.Given as goal

abbrev pub invariant-loop-line : goal.invariant-loop-line
invariant-loop-line l = filter_map queues_in l.lines ≡ filter_map queues_in (drop l.line-index l.lines)
