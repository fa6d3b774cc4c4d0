-- The host's handshake, by the steps of its table.
use Rattle.std.specs.Prelude.{ℕ, ◌+◌, ◌*◌, ◌/◌, ◌%◌, ◌^◌, Bool, ◌&&◌, not, ◌==◌, nat_le, if◌then◌else◌, List, ◌++◌, length, drop, slice_index}
use Rattle.byteorder.specs.Endian.{little_bytes, little_number}
use Rattle.mpi_doorbell.specs.declared.registers.TheConstants.{DOORBELL, HOST_INTERRUPT_STATUS, DOORBELL_USED, DOORBELL_FUNCTION_SHIFT, DOORBELL_ADD_DWORDS_SHIFT, FUNCTION_HANDSHAKE, SYS2IOC_DB_STATUS, IOC2SYS_DB_STATUS}
use Rattle.mpi_doorbell.specs.declared.stage.Reading.TheVariants.{LeftOver, Opened, Taken, News, Word}
use Rattle.mpi_doorbell.specs.declared.stage.Stage.TheVariants.{Reads, Opens, Finishes}
use Rattle.mpi_doorbell.specs.Bytes.{has}
use Rattle.mpi_doorbell.specs.HostDoor.{HostDoor, Stepped, reads, writes, refuses}

-- step 1: the Doorbell is refused where it is used
abbrev pub hears_used : HostDoor → ℕ → Stepped
hears_used d value = if has value DOORBELL_USED then refuses d 1 value else reads d LeftOver

-- function 0x42 and the message's count of dwords
abbrev pub opening_dword : List ℕ → ℕ
opening_dword message = FUNCTION_HANDSHAKE * 2 ^ DOORBELL_FUNCTION_SHIFT + length message / 4 * 2 ^ DOORBELL_ADD_DWORDS_SHIFT

-- step 3
abbrev pub opens : HostDoor → Stepped
opens d = writes d (Reads Opened) DOORBELL (opening_dword d.unsent)

-- step 2: an interrupt that is left over is cleared
abbrev pub hears_left_over : HostDoor → ℕ → Stepped
hears_left_over d value = if has value IOC2SYS_DB_STATUS then writes d Opens HOST_INTERRUPT_STATUS 0 else opens d

-- step 4: until IOC2SYS, which is cleared
abbrev pub hears_opened : HostDoor → ℕ → Stepped
hears_opened d value = if has value IOC2SYS_DB_STATUS then writes d (Reads Taken) HOST_INTERRUPT_STATUS 0 else reads d Opened

-- step 5: the next dword; after the last one the reply is read
abbrev pub sends : HostDoor → Stepped
sends d =
    if length d.unsent == 0 then reads d News
    else writes (record d { unsent = drop 4 d.unsent }) (Reads Taken) DOORBELL (little_number 4 d.unsent)

-- steps 4 and 5: until SYS2IOC is clear
abbrev pub hears_taken : HostDoor → ℕ → Stepped
hears_taken d value = if has value SYS2IOC_DB_STATUS then reads d Taken else sends d

-- steps 6 to 8: until IOC2SYS
abbrev pub hears_news : HostDoor → ℕ → Stepped
hears_news d value = if has value IOC2SYS_DB_STATUS then reads d Word else reads d News

-- a reply is whole after MsgLength dwords, which its byte 02 counts
abbrev pub is_whole : List ℕ → Bool
is_whole reply = nat_le 4 (length reply) && nat_le (4 * slice_index reply 2) (length reply)

-- MsgLength is from 5 to 32
abbrev pub is_msg_length : ℕ → Bool
is_msg_length n = nat_le 5 n && nat_le n 32

-- word 1 has MsgLength in its low byte
abbrev pub is_bad_length : List ℕ → ℕ → Bool
is_bad_length reply value = (length reply == 2) && not (is_msg_length (value % 256))

-- the next word is the Doorbell's low 16 bits
abbrev pub with_word : HostDoor → ℕ → HostDoor
with_word d value = record d { reply = d.reply ++ little_bytes 2 value }

-- steps 6 and 7: the next word; word 1 is refused for its MsgLength
abbrev pub takes_word : HostDoor → ℕ → Stepped
takes_word d value =
    if is_bad_length d.reply value then refuses d 6 value
    else writes (with_word d value) (Reads News) HOST_INTERRUPT_STATUS 0

-- step 8: until the Doorbell isn't used
abbrev pub hears_end : HostDoor → ℕ → Stepped
hears_end d value = if has value DOORBELL_USED then reads d Word else writes d Finishes HOST_INTERRUPT_STATUS 0

-- steps 6 to 8: the Doorbell has the next word, or after the last one the handshake's end
abbrev pub hears_word : HostDoor → ℕ → Stepped
hears_word d value = if is_whole d.reply then hears_end d value else takes_word d value
