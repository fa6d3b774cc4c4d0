-- Runs of the adapter's side: any calls, in any order. A read changes nothing, and is left out.
use Rattle.std.specs.Prelude.{◌≡◌, ℕ, ◌*◌, ◌/◌, ◌%◌, ◌^◌, ◌&&◌, not, ◌==◌, if◌then◌else◌, List, [], ◌∷◌, ◌++◌, length, bit_and}
use Rattle.std.specs.List.{flat_map}
use Rattle.byteorder.specs.Endian.{little_bytes}
use Rattle.mpi_doorbell.specs.declared.registers.TheConstants.{DOORBELL, WRITE_SEQUENCE, DOORBELL_FUNCTION_SHIFT, DOORBELL_ADD_DWORDS_SHIFT, FUNCTION_HANDSHAKE, WRITE_SEQUENCE_KEY_MASK}
use Rattle.mpi_doorbell.specs.declared.state.IocState.{IocState}
use Rattle.mpi_doorbell.specs.Bytes.{padded}
use Rattle.mpi_doorbell.specs.DoorRegisters.{DoorRegisters, answered, is_fault, linked_up, register_written, restarted}

pub data DoorCall : Type 0 where
  Writes : (reg value : ℕ) → DoorCall
  Answers : (reply : List ℕ) → DoorCall
  SetsState : (state : IocState) → DoorCall
  Restarts : DoorCall
  Links : DoorCall

abbrev pub called : DoorRegisters → DoorCall → DoorRegisters
called r (Writes reg value) = (register_written r reg value).registers
called r (Answers reply) = answered r reply
called r (SetsState state) = record r { state = state }
called r Restarts = restarted r
called r Links = linked_up r

abbrev pub after_calls : DoorRegisters → List DoorCall → DoorRegisters
after_calls r [] = r
after_calls r (c ∷ cs) = after_calls (called r c) cs

-- the key that a call writes to WriteSequence, and those of all calls, in order
abbrev pub key_of : DoorCall → List ℕ
key_of (Writes reg value) = if reg == WRITE_SEQUENCE then bit_and value WRITE_SEQUENCE_KEY_MASK ∷ [] else []
key_of (Answers reply) = []
key_of (SetsState state) = []
key_of Restarts = []
key_of Links = []

abbrev pub keys_written : List DoorCall → List ℕ
keys_written = flat_map key_of

-- what a call writes to the Doorbell outside FAULT, where it is taken, and what all calls write there
abbrev pub taken_of : DoorRegisters → DoorCall → List ℕ
taken_of r (Writes reg value) = if (reg == DOORBELL) && not (is_fault r.state) then value ∷ [] else []
taken_of r (Answers reply) = []
taken_of r (SetsState state) = []
taken_of r Restarts = []
taken_of r Links = []

abbrev pub doorbell_taken : DoorRegisters → List DoorCall → List ℕ
doorbell_taken r [] = []
doorbell_taken r (c ∷ cs) = taken_of r c ++ doorbell_taken (called r c) cs

-- the bytes of these dwords, one after the other
abbrev pub dword_bytes : List ℕ → List ℕ
dword_bytes = flat_map (little_bytes 4)

-- of these words the last ones are a handshake's function and count of dwords, and then these dwords
pub record IsOpenedFor (words : List ℕ) (count : ℕ) (dwords : List ℕ) : Type 0 where
  pub earlier : List ℕ
  pub opening : ℕ
  pub split : words ≡ earlier ++ opening ∷ dwords
  pub function : opening / 2 ^ DOORBELL_FUNCTION_SHIFT ≡ FUNCTION_HANDSHAKE
  pub dword_count : opening / 2 ^ DOORBELL_ADD_DWORDS_SHIFT % 256 ≡ count

-- the message that is asked is the dwords since the handshake was opened, as many as it was opened for
pub record AsksDwords (words : List ℕ) (count : ℕ) (bytes : List ℕ) : Type 0 where
  pub dwords : List ℕ
  pub opened : IsOpenedFor words (length dwords) dwords
  pub size : count ≡ 4 * length dwords
  pub message : bytes ≡ padded (dword_bytes dwords)
