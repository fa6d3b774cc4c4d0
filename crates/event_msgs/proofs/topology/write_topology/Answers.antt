use Rattle.std.proofs.Common.{◌≡◌, ◌+◌, ◌-◌, ◌*◌, ◌<◌, ◌≤◌, ◌∙◌, get_or, IsTrue, ℕ, length, take, ap, sym, subst, lit<, lit≤, arith}
use borrow.Rule.Slice.PartMut.{put_mid}
use Rattle.mpi_layout.specs.Rows.{Shape, Stands, values_fit}
use Rattle.event_msgs.specs.TopologyEntry.{blank, entry_at}
use Rattle.event_msgs.specs.Topology.{TopologyStands, topology_end, topology_layout, topology_values}
use Rattle.event_msgs.proofs.TopologyList.{topology_parts, written}
use Rattle.event_msgs.proofs.topology.write_topology.Goals as goal

pub write-requires : goal.write-requires
unfolding topology_layout
write-requires c =
    let parts = topology_parts (length c.args.out.now) c.args.t.now c.requires.fitting in
    let whole = parts.whole in
    let room : 12 ≤ length c.args.out.now = omega arith in
    let fitting = subst (λ xs. IsTrue (values_fit (topology_layout).rows xs)) (sym c.values.ensures) parts.rows in (
      lit< tt,
      (
        lit< tt,
        (
          lit≤ tt,
          (
            subst (λ (s : Shape). IsTrue (values_fit s.rows c.values.result)) (sym c.layout.ensures) fitting,
            subst (λ (s : Shape). s.length ≤ length c.args.out.now) (sym c.layout.ensures) room,
          ),
        ),
      ),
    )

pub returns : goal.returns
returns c =
    let stands : Stands topology_layout (topology_values c.args.t.now) c.write.new.out = subst (λ (s : Shape). Stands s (topology_values c.args.t.now) c.write.new.out) c.layout.ensures (subst (λ xs. Stands c.layout.result xs c.write.new.out) c.values.ensures c.write.ensures.stands) in
    let listed = subst (λ xs. (k : ℕ) → k < length xs → entry_at c.write_entries.new.out (12 + 4 * k) ≡ get_or xs k blank) c.listed.ensures.listed c.write_entries.ensures.entries in
    let size : length c.write.new.out ≡ length c.args.out.now = c.write.auto.out in
    let same : length c.write_entries.new.out ≡ length c.args.out.now = c.write_entries.auto.out ∙ size in
    let tail : c.copy_from_slice.new.self ≡ take (length c.write_entries.new.out - topology_end c.args.t.now) c.args.t.now.tail = c.copy_from_slice.ensures.after ∙ ap (λ n. take (length c.write_entries.new.out - n) c.args.t.now.tail) c.end-end.ensures in
    let done = written c.args.t.now (length c.args.out.now) c.write.new.out c.write_entries.new.out c.copy_from_slice.new.self c.requires.fitting c.requires.few (omega arith) (omega arith) stands size same c.write_entries.ensures.front listed tail in
    subst (λ n. TopologyStands c.args.t.now (put_mid n (length c.write_entries.new.out - n) c.write_entries.new.out c.copy_from_slice.new.self)) (sym c.end-end.ensures) done
