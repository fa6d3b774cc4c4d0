use Rattle.event_msgs.proofs.EventBytes.{kept_fits}
use Rattle.event_msgs.proofs.event_data.read_data.Goals as goal

pub returns-else-event-eq-MPI2_EVENT_SAS_TOPOLOGY_CHANGE_LIST-clause-fitting : goal.returns-else-event-eq-MPI2_EVENT_SAS_TOPOLOGY_CHANGE_LIST-clause-fitting
returns-else-event-eq-MPI2_EVENT_SAS_TOPOLOGY_CHANGE_LIST-clause-fitting c = kept_fits c.args.bytes.now c.padded.result c.padded.ensures
