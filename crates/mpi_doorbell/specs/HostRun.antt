-- Runs of the host's side: any values, one at each step that waits for one.
use Rattle.std.specs.Prelude.{◌≡◌, ℕ, ◌*◌, ◌≤◌, ◌==◌, if◌then◌else◌, List, [], ◌∷◌, ◌++◌, length, slice_index, Option, Some, None}
use Rattle.std.specs.List.{flat_map}
use Rattle.byteorder.specs.Endian.{little_bytes}
use Rattle.mpi_doorbell.specs.declared.registers.TheConstants.{DOORBELL}
use Rattle.mpi_doorbell.specs.declared.stage.Stage.{Stage}
use Rattle.mpi_doorbell.specs.declared.stage.Stage.TheVariants.{Reads, Awaits, Opens, WritesKey, Locks, ResetsUnit, Finishes, Ended}
use Rattle.mpi_doorbell.specs.declared.step.DoorStep.{DoorStep}
use Rattle.mpi_doorbell.specs.declared.step.DoorStep.TheVariants.{Write, Read, Done, Refused}
use Rattle.mpi_doorbell.specs.Bytes.{padded}
use Rattle.mpi_doorbell.specs.DoorCalls.{dword_bytes}
use Rattle.mpi_doorbell.specs.HostDoor.{HostDoor, register_of}
use Rattle.mpi_doorbell.specs.HostSteps.{next_step}

abbrev pub after_steps : HostDoor → List (Option ℕ) → HostDoor
after_steps d [] = d
after_steps d (v ∷ vs) = after_steps (next_step d v).door vs

-- what a step writes to the Doorbell, and what all steps write there
abbrev pub written_by : DoorStep → List ℕ
written_by (Write reg value) = if reg == DOORBELL then value ∷ [] else []
written_by (Read reg) = []
written_by (Done count bytes) = []
written_by (Refused step value) = []

abbrev pub doorbell_writes : HostDoor → List (Option ℕ) → List ℕ
doorbell_writes d [] = []
doorbell_writes d (v ∷ vs) = written_by (next_step d v).step ++ doorbell_writes (next_step d v).door vs

-- the value of the Doorbell that the host waits for, and those of all steps
abbrev pub read_at : Stage → Option ℕ → List ℕ
read_at (Awaits x) (Some value) = if register_of x == DOORBELL then value ∷ [] else []
read_at (Awaits x) None = []
read_at (Reads x) v = []
read_at Opens v = []
read_at (WritesKey place) v = []
read_at Locks v = []
read_at ResetsUnit v = []
read_at Finishes v = []
read_at Ended v = []

abbrev pub doorbell_reads : HostDoor → List (Option ℕ) → List ℕ
doorbell_reads d [] = []
doorbell_reads d (v ∷ vs) = read_at d.stage v ++ doorbell_reads (next_step d v).door vs

-- the low 16 bits of these values as bytes, one after the other
abbrev pub word_bytes : List ℕ → List ℕ
word_bytes = flat_map (little_bytes 2)

-- what the host wrote to the Doorbell is the handshake's opening and the message's dwords; what it read
-- there is whether it was used, the reply's words, and at last until it wasn't used
pub record HandsOver (message writes reads : List ℕ) (count : ℕ) (bytes : List ℕ) : Type 0 where
  pub opening : ℕ
  pub dwords : List ℕ
  pub used : ℕ
  pub words : List ℕ
  pub last : List ℕ
  pub written : writes ≡ opening ∷ dwords
  pub read : reads ≡ used ∷ (words ++ last)
  pub sent : dword_bytes dwords ≡ message
  pub size : count ≡ length (word_bytes words)
  pub got : bytes ≡ padded (word_bytes words)
  -- the reply's byte 02, MsgLength, counts its dwords
  pub msg_length : count ≡ 4 * slice_index bytes 2
  pub least : 20 ≤ count
  pub most : count ≤ 128
