use Rattle.std.proofs.Common.{◌≡◌, ℕ, ◌+◌, ◌*◌, ◌<◌, get_or, take}
use Rattle.event_msgs.specs.TopologyEntry.{blank, entry_at}
use Rattle.event_msgs.proofs.topology.write_entries.Given as goal

-- the entries so far read back, and the bytes in front of them are as before
abbrev pub invariant-loop-i : goal.invariant-loop-i
invariant-loop-i l = record {
  entries : (k : ℕ) → k < l.i → entry_at l.out (12 + 4 * k) ≡ get_or l.entries k blank;
  front : take 12 l.out ≡ take 12 l.initial.out;
}
