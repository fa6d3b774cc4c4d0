-- Controllers, posts and glances that the controller's examples share.
use Rattle.std.specs.Prelude.{ℕ, true, false, List, [], ◌∷◌, ◌++◌, map, replicate, slice_index}
use Rattle.std.specs.List.{flat_map}
use Rattle.mpi_doorbell.specs.DoorRegisters.{new_registers}
use Rattle.mpi_doorbell.specs.declared.state.IocState.TheVariants as state
use Rattle.mpi_rings.specs.declared.request_descriptor.PostKind.TheVariants as post
use Rattle.mpt_messages.specs.FrameBytes.{message_frame}
use Rattle.mpt_messages.specs.HostFrames.{host_message}
use Rattle.mpt_messages.specs.declared.host_ask.HostAsk.{HostAsk}
use Rattle.mpt_messages.specs.declared.host_ask.HostAsk.TheVariants as ask
use Rattle.mpt_wire.specs.Messages.Fields.{Change, changes_in, event_context_in, function_in, ioc_status_in, post_descriptor, termination_count_in}
use Rattle.mpt_trace.specs.declared.item.Down.{Down}
use Rattle.mpt_trace.specs.declared.item.Down.TheVariants as down
use Rattle.mpt_trace.specs.declared.item.Back.{Back}
use Rattle.mpt_rules.specs.declared.binding.Binding.TheVariants as binding
use Rattle.mpt_rules.specs.declared.said.Said.{Said}
use Rattle.mpt_rules.specs.declared.said.Said.TheVariants as said
use Rattle.mpt_rules.specs.Ioc.Takes.{steps_high, steps_normal, takes_back, takes_down}
use Rattle.mpt_rules.specs.Ioc.Parts.{Ioc, new_ioc}
use Rattle.mpt_rules.specs.Ioc.Replies.{outbox_of}
use Rattle.mpt_rules.specs.Ioc.Tables.{in_state, with_binding}

-- ---- controllers

-- a controller with one expander of 4 phys and so many reply queues, which takes posts and tells of disks
abbrev pub operational : ℕ → Ioc
operational q = record (new_ioc (4 ∷ []) q) { door = in_state new_registers state.Operational; vectors = q; through = true }

-- it takes these items of the host, and of the fabric
abbrev pub takes_all : Ioc → List Down → Ioc
takes_all ioc [] = ioc
takes_all ioc (item ∷ items) = takes_all (takes_down ioc item).part items

abbrev pub hears_all : Ioc → List Back → Ioc
hears_all ioc [] = ioc
hears_all ioc (item ∷ items) = hears_all (takes_back ioc item).part items

-- it processes the front of a queue
abbrev pub high : Ioc → Ioc
high ioc = (steps_high ioc).part

abbrev pub normal : Ioc → Ioc
normal ioc = (steps_normal ioc).part

-- ---- posts

-- what the host asks, as a frame
abbrev pub frame_of : HostAsk → List ℕ
frame_of a = message_frame (host_message a)

-- TEST UNIT READY, a READ and a WRITE of one block, under an identifier, for a handle
abbrev pub ready_test : ℕ → ℕ → HostAsk
ready_test smid handle = ask.ScsiIo smid handle 0 (replicate 16 0) 6 0 false

abbrev pub block_cdb : ℕ → List ℕ
block_cdb code = (code ∷ 0 ∷ 0 ∷ 0 ∷ 0 ∷ 0 ∷ 0 ∷ 0 ∷ 1 ∷ []) ++ replicate 7 0

abbrev pub read_block : ℕ → ℕ → HostAsk
read_block smid handle = ask.ScsiIo smid handle 0 (block_cdb 0x28) 10 512 false

abbrev pub write_block : ℕ → ℕ → HostAsk
write_block smid handle = ask.ScsiIo smid handle 0 (block_cdb 0x2a) 10 512 true

-- these as posts for the reply queue that MSIxIndex names
abbrev pub scsi_post : ℕ → ℕ → ℕ → HostAsk → List ℕ → Down
scsi_post msix smid handle a payload = down.Post (post_descriptor post.ScsiIo msix smid handle) (frame_of a) payload

-- TEST UNIT READY as a post for queue 0
abbrev pub tests : ℕ → ℕ → Down
tests smid handle = scsi_post 0 smid handle (ready_test smid handle) []

abbrev pub high_post : ℕ → HostAsk → Down
high_post smid a = down.Post (post_descriptor post.HighPriority 0 smid 0) (frame_of a) []

abbrev pub default_post : ℕ → HostAsk → Down
default_post smid a = down.Post (post_descriptor post.Default 0 smid 0) (frame_of a) []

-- ---- glances

-- a value; a success's identifier; a framed reply's identifier, Function and IOCStatus; a mark's generation
abbrev pub glance : Said → List ℕ
glance (said.Value value) = value ∷ []
glance (said.Success smid page sense) = smid ∷ []
glance (said.Framed smid frame page sense) = smid ∷ function_in frame ∷ ioc_status_in frame ∷ []
glance (said.Mark generation) = generation ∷ []
glance said.Calm = []

-- what waits for a reply queue, at a glance
abbrev pub seen : Ioc → ℕ → List (List ℕ)
seen ioc queue = map glance (outbox_of ioc queue)

-- the TerminationCount of each framed reply
abbrev pub count_in : Said → List ℕ
count_in (said.Framed smid frame page sense) = termination_count_in frame ∷ []
count_in _ = []

abbrev pub counts : Ioc → List ℕ
counts ioc = flat_map count_in (outbox_of ioc 0)

-- the ResponseCode of each reply to task management
abbrev pub code_in : Said → List ℕ
code_in (said.Framed smid frame page sense) = slice_index frame 4 ∷ []
code_in _ = []

abbrev pub response_codes : Ioc → List ℕ
response_codes ioc = flat_map code_in (outbox_of ioc 0)

-- the events: the context, the handle and the PhyStatus of each change
abbrev pub change_in : ℕ → Change → List ℕ
change_in context c = context ∷ c.handle ∷ c.status ∷ []

abbrev pub events_in : Said → List (List ℕ)
events_in (said.Framed smid frame page sense) = map (change_in (event_context_in frame)) (changes_in frame)
events_in _ = []

abbrev pub events : Ioc → List (List ℕ)
events ioc = flat_map events_in (outbox_of ioc 0)

-- ---- disks

-- the disk of SAS address 0xA is plugged under handle 0x0009, or gone
abbrev pub with_disk : ℕ → Ioc
with_disk q = with_binding (operational q) 0x0009 (binding.Present 0xA 1 0 0)

abbrev pub with_gone_disk : Ioc
with_gone_disk = with_binding (operational 1) 0x0009 (binding.Gone 0xA)

-- that disk, with a TEST UNIT READY of identifier 1, a READ of 2 and a WRITE of 3 at the fabric, and none of them sent yet
abbrev pub at_work : ℕ → Ioc
at_work q =
    normal (normal (normal (takes_all (with_disk q) (
    scsi_post 0 1 0x0009 (ready_test 1 0x0009) []
    ∷ scsi_post 1 2 0x0009 (read_block 2 0x0009) []
    ∷ scsi_post 2 3 0x0009 (write_block 3 0x0009) (replicate 512 7) ∷ []))))
