use Rattle.std.proofs.Common.{◌≡◌, ◌≤◌, IsTrue, drop, length, subst, sym, lit<, lit≤}
use Rattle.mpi_layout.specs.Rows.{Shape, Stands, values_fit}
use Rattle.event_msgs.specs.TopologyEntry.{topology_entry_layout, topology_entry_values}
use Rattle.event_msgs.proofs.TopologyEntryFields.{entry_is}
use Rattle.event_msgs.proofs.topology_entry.write_entry.Goals as goal

pub write-requires : goal.write-requires
unfolding topology_entry_layout
write-requires c = (
  lit< tt,
  (
    lit< tt,
    (
      lit≤ tt,
      (
        subst (λ (s : Shape). IsTrue (values_fit s.rows c.values.result)) (sym c.layout.ensures) c.values.ensures.fitting,
        subst (λ (s : Shape). s.length ≤ length c.args.out.now) (sym c.layout.ensures) c.requires,
      ),
    ),
  ),
)

pub returns-clause-entry : goal.returns-clause-entry
returns-clause-entry c =
    let stands : Stands topology_entry_layout (topology_entry_values c.args.entry.now) c.write.new.out = subst (λ (s : Shape). Stands s (topology_entry_values c.args.entry.now) c.write.new.out) c.layout.ensures (subst (λ xs. Stands c.layout.result xs c.write.new.out) c.values.ensures.values c.write.ensures.stands) in
    sym (entry_is c.args.entry.now c.write.new.out stands)

pub returns-clause-rest : goal.returns-clause-rest
unfolding topology_entry_layout
returns-clause-rest c =
    subst (λ (s : Shape). drop s.length c.write.new.out ≡ drop s.length c.args.out.now) c.layout.ensures c.write.ensures.rest
