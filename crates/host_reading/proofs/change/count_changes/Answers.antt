use Rattle.std.proofs.Common.{◌∙◌, min, sym, ap}
use Rattle.mpi_layout.proofs.Obeyed.{field-one}
use Rattle.host_reading.proofs.Listed.{counted, counted_none, differs}
use Rattle.host_reading.proofs.change.count_changes.Goals as goal

pub returns-then-event_of-eq-MPI2_EVENT_SAS_TOPOLOGY_CHANGE_LIST-clause-count : goal.returns-then-event_of-eq-MPI2_EVENT_SAS_TOPOLOGY_CHANGE_LIST-clause-count
returns-then-event_of-eq-MPI2_EVENT_SAS_TOPOLOGY_CHANGE_LIST-clause-count c =
    counted c.args.frame.now c.min.result c.told-frame (sym c.event_of.ensures ∙ c.if-event_of-eq-MPI2_EVENT_SAS_TOPOLOGY_CHANGE_LIST.true)
    (c.min.ensures ∙ ap (λ n. min n 22) (sym (field-one c.args.frame.now 36)))

pub returns-else-event_of-eq-MPI2_EVENT_SAS_TOPOLOGY_CHANGE_LIST-clause-count : goal.returns-else-event_of-eq-MPI2_EVENT_SAS_TOPOLOGY_CHANGE_LIST-clause-count
returns-else-event_of-eq-MPI2_EVENT_SAS_TOPOLOGY_CHANGE_LIST-clause-count c =
    counted_none c.args.frame.now (rw (← c.event_of.ensures) (differs c.event_of.result 28 c.if-event_of-eq-MPI2_EVENT_SAS_TOPOLOGY_CHANGE_LIST.false))
