-- The host makes its handshakes anew after a reset, with one reply queue and with two. Computed in pieces.
use Rattle.std.proofs.Common.{ℕ, true, false, List, [], ◌∷◌, refl}
use Rattle.ioc_msgs.specs.IocFacts.{ioc_facts_layout, ioc_facts_values}
use Rattle.ioc_msgs.specs.IocFactsReply.{ioc_facts_reply_layout, ioc_facts_reply_values}
use Rattle.ioc_msgs.specs.PortFacts.{port_facts_layout, port_facts_values}
use Rattle.ioc_msgs.specs.PortFactsReply.{port_facts_reply_layout, port_facts_reply_values}
use Rattle.ioc_msgs.specs.IocInit.{ioc_init_layout, ioc_init_values}
use Rattle.ioc_msgs.specs.IocInitReply.{ioc_init_reply_layout, ioc_init_reply_values}
use Rattle.mpi_layout.specs.Rows.{field}
use Rattle.mpi_doorbell.specs.declared.registers.TheConstants.{HOST_INTERRUPT_STATUS}
use Rattle.mpi_doorbell.specs.declared.state.IocState.TheVariants as state
use Rattle.mpt_trace.specs.declared.choice.Choice.TheVariants as choice
use Rattle.mpt_trace.specs.declared.item.Down.TheVariants as down
use Rattle.mpt_rules.specs.Host.Doorbell.{begins_init, begins_port_facts, turn_from}
use Rattle.mpt_rules.specs.Host.Parts.{Host}
use Rattle.mpt_rules.specs.Host.Values.{begins_messages}
use Rattle.mpt_rules.specs.World.State.{World}
use Rattle.mpt_rules.specs.World.Cases.{Case}
use Rattle.mpt_rules.proofs.ResetInMidFlight.{restarting}
use Rattle.mpt_rules.proofs.ResetOnTwoQueues.{restarting_on_two}
use Rattle.mpt_rules.specs.Ioc.Parts.{Ioc}
use Rattle.mpt_rules.specs.declared.stage.Stage.TheVariants as stage
use Rattle.std.proofs.Common.{None}
use Rattle.mpt_rules.proofs.SchedulePieces.{Goes, rounds}

-- so many times the host puts and the controller takes, and the controller puts and the host takes
abbrev pub talks : ℕ → List Case
talks n = rounds n (choice.HostPut ∷ choice.IocTake ∷ choice.IocPut ∷ choice.HostTake ∷ [])

-- ---- worlds, by the one in which the reset was told as done

-- the host that ends a handshake: it clears the doorbell's interrupt, and goes on
abbrev pub ended : Host → Host
ended host = record host { out = down.Write HOST_INTERRUPT_STATUS 0 ∷ []; machine = None; stage = stage.Idle; reading = false }

-- the controller then
abbrev pub ioc_ended : Ioc → Ioc
ioc_ended ioc = record ioc { door = record ioc.door { ioc2sys = true } }

-- the controller once IOC Init has succeeded
abbrev pub initialized : Ioc → Ioc
initialized ioc = record ioc { door = record ioc.door { state = state.Operational; who_init = 4; ioc2sys = true } }

-- the host begins with Port Facts
abbrev pub facts_done : World → World
facts_done w = record w { host = begins_port_facts (ended w.host); ioc = ioc_ended w.ioc }

-- the host begins with IOC Init
abbrev pub port_facts_done : World → World
port_facts_done w = record w { host = begins_init (ended w.host); ioc = ioc_ended w.ioc }

-- the host has the returns of all frames in its outbox, and the request for the events
abbrev pub init_done : World → World
init_done w = record w { host = begins_messages (ended w.host); ioc = initialized w.ioc }

-- ---- with one reply queue

-- the facts are those that the host wants
pub ioc_facts : Goes restarting (talks 110) [] (facts_done restarting)
unfolding field turn_from ioc_facts_layout ioc_facts_values ioc_facts_reply_layout ioc_facts_reply_values port_facts_layout port_facts_values
ioc_facts = record { shows = refl; leaves = refl }

-- there is the port 0
pub port_facts : Goes (facts_done restarting) (talks 57) [] (port_facts_done restarting)
unfolding field turn_from port_facts_layout port_facts_values port_facts_reply_layout port_facts_reply_values ioc_init_layout ioc_init_values
port_facts = record { shows = refl; leaves = refl }

-- IOC Init succeeds
pub ioc_init : Goes (port_facts_done restarting) (talks 75) [] (init_done restarting)
unfolding field turn_from ioc_init_layout ioc_init_values ioc_init_reply_layout ioc_init_reply_values
ioc_init = record { shows = refl; leaves = refl }

-- ---- with two

-- the facts are those that the host wants
pub ioc_facts_on_two : Goes restarting_on_two (talks 110) [] (facts_done restarting_on_two)
unfolding field turn_from ioc_facts_layout ioc_facts_values ioc_facts_reply_layout ioc_facts_reply_values port_facts_layout port_facts_values
ioc_facts_on_two = record { shows = refl; leaves = refl }

-- there is the port 0
pub port_facts_on_two : Goes (facts_done restarting_on_two) (talks 57) [] (port_facts_done restarting_on_two)
unfolding field turn_from port_facts_layout port_facts_values port_facts_reply_layout port_facts_reply_values ioc_init_layout ioc_init_values
port_facts_on_two = record { shows = refl; leaves = refl }

-- IOC Init asks for both queues, and succeeds
pub ioc_init_on_two : Goes (port_facts_done restarting_on_two) (talks 75) [] (init_done restarting_on_two)
unfolding field turn_from ioc_init_layout ioc_init_values ioc_init_reply_layout ioc_init_reply_values
ioc_init_on_two = record { shows = refl; leaves = refl }
