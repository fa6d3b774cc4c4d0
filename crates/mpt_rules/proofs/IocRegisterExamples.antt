-- The controller's registers and handshakes.
use Rattle.std.proofs.Common.{◌≡◌, ℕ, ◌*◌, List, [], ◌∷◌, ◌++◌, drop, length, map, replicate, refl}
use Rattle.byteorder.specs.Endian.{little_number}
use Rattle.mpi_layout.specs.Rows.{field}
use Rattle.ioc_msgs.specs.IocFacts.{ioc_facts_layout, ioc_facts_values}
use Rattle.ioc_msgs.specs.IocFactsReply.{ioc_facts_reply_layout, ioc_facts_reply_values}
use Rattle.ioc_msgs.specs.IocInit.{ioc_init_layout, ioc_init_values}
use Rattle.ioc_msgs.specs.PortFacts.{port_facts_layout, port_facts_values}
use Rattle.ioc_msgs.specs.PortFactsReply.{port_facts_reply_layout, port_facts_reply_values}
use Rattle.ioc_msgs.specs.declared.ioc_init.IocInit.{IocInit}
use Rattle.mpi_doorbell.specs.DoorRegisters.{new_registers}
use Rattle.mpi_doorbell.specs.Handshake.{Handshake, Idle, Collects, Asked, Replies}
use Rattle.mpi_doorbell.specs.declared.registers.TheConstants.{DOORBELL}
use Rattle.mpi_doorbell.specs.declared.state.IocState.TheVariants as state
use Rattle.ioc_msgs.specs.declared.ioc_facts.TheConstants.IocFacts.{BLANK as blank_ioc_facts}
use Rattle.ioc_msgs.specs.declared.port_facts.TheConstants.PortFacts.{BLANK as blank_port_facts}
use Rattle.mpt_messages.specs.FrameBytes.{message_bytes}
use Rattle.mpt_messages.specs.HostFrames.{init_asked}
use Rattle.mpt_messages.specs.declared.message.Message.TheVariants as message
use Rattle.mpt_wire.specs.Messages.Fields.{max_msix_vectors_in}
use Rattle.mpt_trace.specs.declared.item.Down.{Down}
use Rattle.mpt_trace.specs.declared.item.Down.TheVariants as down
use Rattle.mpt_rules.specs.Ioc.Parts.{Ioc, new_ioc, state_of}
use Rattle.mpt_rules.specs.Ioc.Registers.{handshakes}
use Rattle.mpt_rules.proofs.IocExampleParts.{operational, seen, takes_all}

-- ---- reads

powered_up : seen (takes_all (new_ioc (4 ∷ []) 1) (down.Read DOORBELL ∷ [])) 0 ≡ (0x1000_0000 ∷ []) ∷ []
powered_up = refl

-- ---- handshakes

-- a controller of two reply queues that is asked a message
abbrev asked_of : Ioc → List ℕ → Ioc
asked_of ioc bytes = handshakes (record ioc { door = record new_registers { state = state_of ioc; handshake = Asked bytes } }) bytes

abbrev asked : List ℕ → Ioc
asked bytes = asked_of (new_ioc (4 ∷ []) 2) bytes

-- the bytes of its reply
abbrev replied : Handshake → List ℕ
replied Idle = []
replied (Collects missing bytes) = []
replied (Asked bytes) = []
replied (Replies left) = left

abbrev reply_to : List ℕ → List ℕ
reply_to bytes = replied (asked bytes).door.handshake

abbrev status_to : List ℕ → ℕ
status_to bytes = little_number 2 (drop 14 (reply_to bytes))

abbrev init_of : IocInit → List ℕ
init_of m = message_bytes (message.IocInit m)

-- a function that there isn't, also in a message that is too short, and one of another kind; a short message, and one with a field that has to be 0
no_function : status_to (0 ∷ 0 ∷ 0 ∷ 0x77 ∷ []) ≡ 0x0001
no_function = refl

other_kind : status_to (replicate 12 0) ≡ 0x0001
other_kind = refl

short : status_to (0 ∷ 0 ∷ 0 ∷ 0x03 ∷ []) ≡ 0x0007
unfolding field ioc_facts_layout
short = refl

faulty_field : status_to (message_bytes (message.IocFacts (record blank_ioc_facts { msg_flags = 1 }))) ≡ 0x0007
unfolding field ioc_facts_layout ioc_facts_values
faulty_field = refl

-- IOC Facts say how many reply queues there are
facts : length (reply_to (message_bytes (message.IocFacts blank_ioc_facts))) ≡ 64
unfolding field ioc_facts_layout ioc_facts_values ioc_facts_reply_layout ioc_facts_reply_values
facts = refl

facts_queues : max_msix_vectors_in (reply_to (message_bytes (message.IocFacts blank_ioc_facts))) ≡ 2
unfolding field ioc_facts_layout ioc_facts_values ioc_facts_reply_layout ioc_facts_reply_values
facts_queues = refl

port_0 : status_to (message_bytes (message.PortFacts blank_port_facts)) ≡ 0x0000
unfolding field port_facts_layout port_facts_values port_facts_reply_layout port_facts_reply_values
port_0 = refl

port_1 : status_to (message_bytes (message.PortFacts (record blank_port_facts { port_number = 1 }))) ≡ 0x0007
unfolding field port_facts_layout port_facts_values port_facts_reply_layout port_facts_reply_values
port_1 = refl

-- IOC Init
not_ready : little_number 2 (drop 14 (replied (asked_of (operational 2) (init_of (init_asked 2))).door.handshake)) ≡ 0x0008
unfolding field ioc_init_layout ioc_init_values
not_ready = refl

wrong_size : status_to (init_of (record (init_asked 2) { reply_free_queue_depth = 64 })) ≡ 0x0007
unfolding field ioc_init_layout ioc_init_values
wrong_size = refl

no_queue : status_to (init_of (init_asked 0)) ≡ 0x0007
unfolding field ioc_init_layout ioc_init_values
no_queue = refl

too_many_queues : status_to (init_of (init_asked 3)) ≡ 0x0007
unfolding field ioc_init_layout ioc_init_values
too_many_queues = refl

still_ready : state_of (asked (init_of (init_asked 3))) ≡ state.Ready
unfolding field ioc_init_layout ioc_init_values
still_ready = refl

initialised : state_of (asked (init_of (init_asked 1))) ≡ state.Operational
unfolding field ioc_init_layout ioc_init_values
initialised = refl

fewer_queues : (asked (init_of (init_asked 1))).vectors ≡ 1
unfolding field ioc_init_layout ioc_init_values
fewer_queues = refl

who_init : (asked (init_of (init_asked 1))).door.who_init ≡ 4
unfolding field ioc_init_layout ioc_init_values
who_init = refl

-- by the dwords that the host writes
written_facts : replied (takes_all (new_ioc (4 ∷ []) 1) (down.Write DOORBELL 0x4203_0000 ∷ down.Write DOORBELL 0x0300_0000 ∷ down.Write DOORBELL 0 ∷ down.Write DOORBELL 0 ∷ [])).door.handshake
    ≡ replied (handshakes (record (new_ioc (4 ∷ []) 1) { door = record new_registers { handshake = Asked [] } }) (0 ∷ 0 ∷ 0 ∷ 3 ∷ replicate 8 0)).door.handshake
unfolding field ioc_facts_layout ioc_facts_reply_layout ioc_facts_reply_values
written_facts = refl

-- the whole IOC Init by the dwords that the host writes, and then the Doorbell: OPERATIONAL, in use, WhoInit 4
abbrev dword_written : List ℕ → ℕ → Down
dword_written bytes at = down.Write DOORBELL (little_number 4 (drop (4 * at) bytes))

abbrev init_written : List Down
init_written =
    down.Write DOORBELL 0x4212_0000
    ∷ map (dword_written (init_of (init_asked 1))) (0 ∷ 1 ∷ 2 ∷ 3 ∷ 4 ∷ 5 ∷ 6 ∷ 7 ∷ 8 ∷ 9 ∷ 10 ∷ 11 ∷ 12 ∷ 13 ∷ 14 ∷ 15 ∷ 16 ∷ 17 ∷ [])

brought_up : seen (takes_all (new_ioc (4 ∷ []) 1) (init_written ++ down.Read DOORBELL ∷ [])) 0 ≡ (0x2c00_0000 ∷ []) ∷ []
unfolding field ioc_init_layout ioc_init_values
brought_up = refl
