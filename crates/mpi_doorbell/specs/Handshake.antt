-- A handshake as the adapter sees it.
use Rattle.std.specs.Prelude.{ℕ, ◌-◌, Bool, true, false, ◌==◌, nat_lt, if◌then◌else◌, List, ◌++◌, length, drop, slice_index, bit_and, Option, Some, None}
use Rattle.byteorder.specs.Endian.{little_bytes, little_number}
use Rattle.mpi_doorbell.specs.declared.effect.Effect.{Effect}
use Rattle.mpi_doorbell.specs.declared.effect.Effect.TheVariants as effect
use Rattle.mpi_doorbell.specs.declared.registers.TheConstants.{FUNCTION_IOC_INIT}
use Rattle.mpi_doorbell.specs.Bytes.{padded}

pub data Handshake : Type 0 where
  -- there is none
  Idle : Handshake
  -- so many dwords are missing of a message that begins with these bytes
  Collects : (missing : ℕ) (message : List ℕ) → Handshake
  -- the whole message waits for its reply
  Asked : (message : List ℕ) → Handshake
  -- these bytes of the reply are left, from the word that is read now
  Replies : (left : List ℕ) → Handshake

abbrev pub is_idle : Handshake → Bool
is_idle Idle = true
is_idle (Collects missing message) = false
is_idle (Asked message) = false
is_idle (Replies left) = false

abbrev pub is_replying : Handshake → Bool
is_replying Idle = false
is_replying (Collects missing message) = false
is_replying (Asked message) = false
is_replying (Replies left) = true

-- a message waits for its reply
abbrev pub IsAsked : Handshake → Type 0
IsAsked Idle = ⊥
IsAsked (Collects missing message) = ⊥
IsAsked (Asked message) = Unit {0}
IsAsked (Replies left) = ⊥

-- a dword that is written to the Doorbell is the next one of the message; otherwise it does nothing
abbrev pub dword_taken : Handshake → ℕ → Handshake
dword_taken Idle dword = Idle
dword_taken (Collects missing message) dword =
    if nat_lt 1 missing then Collects (missing - 1) (message ++ little_bytes 4 dword) else Asked (message ++ little_bytes 4 dword)
dword_taken (Asked message) dword = Asked message
dword_taken (Replies left) dword = Replies left

-- with its last dword the message is asked
abbrev pub asks : List ℕ → Effect
asks message = effect.Asked (length message) (padded message)

abbrev pub asked_by : Handshake → ℕ → Effect
asked_by Idle dword = effect.None
asked_by (Collects missing message) dword =
    if nat_lt 1 missing then effect.None else asks (message ++ little_bytes 4 dword)
asked_by (Asked message) dword = effect.None
asked_by (Replies left) dword = effect.None

-- the word that the Doorbell hands over, or 0
abbrev pub word_read : Handshake → ℕ
word_read Idle = 0
word_read (Collects missing message) = 0
word_read (Asked message) = 0
word_read (Replies left) = little_number 2 left

-- a write to HostInterruptStatus goes on to the next word; after the last one the handshake is over
abbrev pub next_word : Handshake → Handshake
next_word Idle = Idle
next_word (Collects missing message) = Collects missing message
next_word (Asked message) = Asked message
next_word (Replies left) = if nat_lt 2 (length left) then Replies (drop 2 left) else Idle

-- the WhoInit of a message, if it is an IOC Init: the low three bits of byte 00, where byte 03 is 02
abbrev pub who_init_of : List ℕ → Option ℕ
who_init_of message =
    if slice_index message 3 == FUNCTION_IOC_INIT then Some (bit_and (slice_index message 0) 7) else None

abbrev pub init_by : Handshake → Option ℕ
init_by Idle = None
init_by (Collects missing message) = None
init_by (Asked message) = who_init_of message
init_by (Replies left) = None

-- a message that a write asks waits for its reply from then on
abbrev pub WaitsIfAsked : Effect → Handshake → Type 0
WaitsIfAsked effect.None handshake = Unit {0}
WaitsIfAsked (effect.Asked count bytes) handshake = IsAsked handshake
WaitsIfAsked effect.UnitReset handshake = Unit {0}
WaitsIfAsked effect.AdapterReset handshake = Unit {0}
WaitsIfAsked (effect.Fault code) handshake = Unit {0}
