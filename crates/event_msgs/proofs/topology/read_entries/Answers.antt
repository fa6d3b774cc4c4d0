use Rattle.std.proofs.Common.{◌≡◌, ◌+◌, ◌-◌, ◌*◌, ◌++◌, ◌∙◌, ℕ, set, map, replicate, ap, arith}
use Rattle.std.specs.List.{range_with_len}
use Rattle.event_msgs.specs.declared.topology_entry.TopologyEntry.{TopologyEntry}
use Rattle.event_msgs.specs.TopologyEntry.{blank, entry_at}
use Rattle.event_msgs.proofs.Entries.{entries_more, entry_part}
use Rattle.event_msgs.proofs.topology.read_entries.Goals as goal

pub loop-i-preserved : goal.loop-i-preserved
loop-i-preserved c =
    let f : ℕ → TopologyEntry = λ k. entry_at c.args.bytes.now (12 + 4 * k) in
    let read : c.in_ok-entries.field-0 ≡ f c.loop-i.i = (let e = c.in_ok-entries.ensures in let part = entry_part c.args.bytes.now (12 + 4 * c.loop-i.i) in cc) in
    ap (λ xs. set xs c.loop-i.i c.in_ok-entries.field-0) c.loop-i.invariant ∙ ap (λ e. set (map f (range_with_len 0 c.loop-i.i) ++ replicate (22 - c.loop-i.i) blank) c.loop-i.i e) read ∙ entries_more f c.loop-i.i (omega arith)
