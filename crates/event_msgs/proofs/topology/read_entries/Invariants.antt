use Rattle.std.proofs.Common.{◌≡◌, ◌+◌, ◌-◌, ◌*◌, ◌++◌, map, replicate}
use Rattle.std.specs.List.{range_with_len}
use Rattle.event_msgs.specs.TopologyEntry.{blank, entry_at}
use Rattle.event_msgs.proofs.topology.read_entries.Given as goal

-- the entries so far, and blank ones behind them
abbrev pub invariant-loop-i : goal.invariant-loop-i
invariant-loop-i l = l.entries ≡ map (λ k. entry_at l.bytes (12 + 4 * k)) (range_with_len 0 l.i) ++ replicate (22 - l.i) blank
