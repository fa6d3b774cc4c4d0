use Rattle.std.proofs.Common.{◌+◌, ◌-◌, ◌*◌, ◌≤◌, ◌∙◌, ℕ, length, below_more, arith}
use Rattle.std.proofs.lemmas.Slice.{take-put_mid_below}
use Rattle.event_msgs.proofs.Entries.{entry_kept, entry_written}
use Rattle.event_msgs.proofs.topology.write_entries.Goals as goal

pub loop-i-preserved : goal.loop-i-preserved
loop-i-preserved c =
    let at : ℕ = 12 + 4 * c.loop-i.i in
    let room : at + 4 ≤ length c.loop-i.out = omega (arith, c.requires, c.loop-i.auto.out) in
    record {
      entries = below_more _ _
          (λ k less. entry_kept c.loop-i.out c.write_entry.new.out at (length c.loop-i.out - at) (12 + 4 * k) (omega arith) (omega arith) ∙ c.loop-i.invariant.entries k less)
          (entry_written c.loop-i.out c.write_entry.new.out at _ room c.write_entry.ensures.entry);
      front = take-put_mid_below at (length c.loop-i.out - at) c.loop-i.out c.write_entry.new.out 12 (omega arith) (omega arith) ∙ c.loop-i.invariant.front;
    }
