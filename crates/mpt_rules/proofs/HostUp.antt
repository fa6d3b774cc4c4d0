-- Hosts, and what comes up to them, for examples.
use Rattle.std.specs.Prelude.{ℕ, ◌+◌, ◌/◌, ◌%◌, List, [], replicate, slice_set, map, Some, None}
use Rattle.smid_pool.specs.Pool.{Open, all_free, with_slot}
use Rattle.scsi_disk.specs.declared.command.Command.{Command}
use Rattle.removal.specs.declared.phase.Phase.{Phase}
use Rattle.removal.specs.declared.phase.Phase.TheVariants as phase
use Rattle.removal.specs.Handles.{all_absent, with_phase}
use Rattle.mpt_trace.specs.declared.host_state.HostState.TheVariants as state
use Rattle.mpt_trace.specs.declared.item.Down.{Down}
use Rattle.mpt_trace.specs.declared.item.Down.TheVariants as down
use Rattle.mpt_trace.specs.declared.item.Up.{Up}
use Rattle.mpt_trace.specs.declared.item.Up.TheVariants as up
use Rattle.mpt_wire.specs.Messages.Fields.{address_descriptor, flags_in, reply_frame_address, smid_in, success_descriptor}
use Rattle.mpt_rules.specs.declared.host_frame.HostFrame.TheVariants.{Away}
use Rattle.mpt_rules.specs.declared.request.Request.{Request}
use Rattle.mpt_rules.specs.Host.Parts.{Host, new_host}
use Rattle.mpt_rules.specs.Host.Returns.{reply_frame_count}

-- ---- hosts

-- a disk's address
abbrev pub disk : ℕ
disk = 0x5000_c500_0000_0001

-- the host is up with q reply queues: all frames were returned, and the disk has the least handle
abbrev pub up_with : ℕ → Host
up_with q =
    record (new_host q) {
      mode = state.Up;
      phases = with_phase all_absent 0x0009 (phase.Ready disk);
      frames = replicate reply_frame_count Away;
    }

abbrev pub host_up : Host
host_up = up_with 1

-- and a request is open
abbrev pub with_open : ℕ → Request → Host
with_open smid request = record host_up { pool = with_slot smid (Open request) all_free }

-- and a handle is in a phase
abbrev pub with_open_in : ℕ → Request → ℕ → Phase → Host
with_open_in smid request handle p = record (with_open smid request) { phases = with_phase all_absent handle p }

abbrev pub resetting : Host → Host
resetting host = record host { mode = state.Resetting }

-- TEST UNIT READY
abbrev pub tur : Command
tur = record { lun = 0; cdb = replicate 6 0; len = 0; payload = [] }

-- ---- what is in the outbox

pub data Put : Type 0 where
  wrote : (reg value : ℕ) → Put
  read : (reg : ℕ) → Put
  -- RequestFlags and the identifier
  posted : (flags smid : ℕ) → Put
  returned : (address index : ℕ) → Put
  stopped : Put

abbrev pub put_of : Down → Put
put_of (down.Write reg value) = wrote reg value
put_of (down.Read reg) = read reg
put_of (down.Post descriptor frame payload) = posted (flags_in descriptor) (smid_in descriptor)
put_of (down.Return address index) = returned address index
put_of down.Stop = stopped

abbrev pub puts_of : Host → List Put
puts_of host = map put_of host.out

-- ---- replies

-- a number of two bytes in a frame
abbrev pub with_two : ℕ → ℕ → List ℕ → List ℕ
with_two at value frame = slice_set (slice_set frame at (value % 256)) (at + 1) (value / 256)

-- a reply frame of a function with an IOCStatus
abbrev pub frame_with : ℕ → ℕ → List ℕ
frame_with function status = with_two 0x0e status (slice_set (slice_set (replicate 128 0) 0x02 10) 0x03 function)

-- a reply with that frame under an identifier, in the first reply frame
abbrev pub replies : ℕ → List ℕ → List ℕ → List ℕ → Up
replies smid frame page sense = up.Reply (address_descriptor smid (reply_frame_address 0)) (Some frame) page sense

-- a reply without data
abbrev pub says : ℕ → ℕ → ℕ → Up
says smid function status = replies smid (frame_with function status) [] []

-- a success reply
abbrev pub succeeds : ℕ → List ℕ → Up
succeeds smid page = up.Reply (success_descriptor smid) None page []

-- a topology change list with one change
abbrev pub event_of : ℕ → ℕ → List ℕ
event_of handle status =
    slice_set (slice_set (with_two 0x28 handle (with_two 0x18 7 (with_two 0x14 0x001c (with_two 0x00 4 (frame_with 0x07 0))))) 0x24 1) 0x2b status

abbrev pub changed : ℕ → ℕ → Up
changed handle status = replies 0 (event_of handle status) [] []

-- SAS Device Page 0 of the disk with a handle
abbrev pub page_of : ℕ → List ℕ
page_of handle =
    with_two 0x18 handle (slice_set (slice_set (with_two 0x12 0x5000 (with_two 0x10 0xc500 (with_two 0x0c 1 (replicate 56 0)))) 0x06 0x12) 0x03 0x0f)
