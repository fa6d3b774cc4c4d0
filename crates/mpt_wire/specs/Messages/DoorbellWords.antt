-- What is written to the Doorbell in a handshake is one message of the host, and what is read is its reply.
use Rattle.std.specs.Prelude.{◌≡◌, ℕ, ◌+◌, ◌-◌, ◌*◌, ◌/◌, ◌%◌, ◌^◌, ◌<◌, Bool, true, false, ◌==◌, nat_le, if◌then◌else◌, Option, Some, None, List, [], ◌++◌, length, take}
use Rattle.std.specs.Bool.{MatchBool}
use Rattle.byteorder.specs.Endian.{little_bytes}
use Rattle.mpi_doorbell.specs.HostHandshake.{is_whole}
use Rattle.mpi_doorbell.specs.declared.registers.TheConstants.{DOORBELL, WRITE_SEQUENCE, DOORBELL_FUNCTION_SHIFT, DOORBELL_ADD_DWORDS_SHIFT, FUNCTION_HANDSHAKE}
use Rattle.mpt_messages.specs.FrameBytes.{message_bytes}
use Rattle.mpt_messages.specs.Function.{byte_of}
use Rattle.mpt_messages.specs.declared.function.Function.TheVariants as function
use Rattle.mpt_messages.specs.HostFrames.{host_message}
use Rattle.mpt_messages.specs.IocFrames.{reply_frame, reply_length}
use Rattle.mpt_messages.specs.declared.host_ask.HostAsk.{HostAsk}
use Rattle.mpt_messages.specs.declared.host_ask.HostAsk.TheVariants as ask
use Rattle.mpt_messages.specs.declared.ioc_reply.IocReply.{IocReply}
use Rattle.mpt_messages.specs.declared.ioc_reply.IocReply.TheVariants as reply
use Rattle.mpt_trace.specs.declared.item.Item.TheVariants as item
use Rattle.mpt_trace.specs.declared.item.Down.TheVariants as down
use Rattle.mpt_trace.specs.declared.item.Up.TheVariants as up
use Rattle.mpt_trace.specs.declared.input.Input.TheVariants as input
use Rattle.mpt_trace.specs.declared.refusal.RefusedCall.TheVariants as call
use Rattle.mpt_wire.specs.Walks.Passes.{Passes}
use Rattle.mpt_trace.specs.declared.entry.Entry.{Entry}
use Rattle.mpt_trace.specs.declared.entry.Entry.TheVariants as entry

-- ---- messages and their replies

-- the messages that the host hands over at the doorbell, with q reply queues
abbrev pub IsDoorAsk : ℕ → HostAsk → Type 0
IsDoorAsk q ask.Facts = Unit {0}
IsDoorAsk q ask.PortFacts = Unit {0}
IsDoorAsk q (ask.Init queues) = queues ≡ q
IsDoorAsk q _ = ⊥

-- the controller's reply to one
abbrev pub IsDoorReply : ℕ → HostAsk → IocReply → Type 0
IsDoorReply q ask.Facts (reply.Facts who_init queues) = queues ≡ q
IsDoorReply q ask.PortFacts (reply.PortFacts port status) = port ≡ 0
IsDoorReply q (ask.Init queues) (reply.Plain fn status) = fn ≡ byte_of function.IocInit
IsDoorReply q _ _ = ⊥

-- the bytes of a message of the host, and of a reply
abbrev pub asked_bytes : HostAsk → List ℕ
asked_bytes a = message_bytes (host_message a)

abbrev pub replied_bytes : IocReply → List ℕ
replied_bytes r = take (reply_length r) (reply_frame r)

-- ---- a handshake

-- there is none, or one was opened for so many dwords: the bytes of those that were written since, and of the
-- words that were read
pub data Talk : Type 0 where
  Quiet : Talk
  Talks : (dwords : ℕ) (sent heard : List ℕ) → Talk

-- what was written and read so far is the beginning of a message and of its reply, and the dwords are counted
pub record IsBegun (q dwords : ℕ) (sent heard : List ℕ) : Type 0 where
  pub ask : HostAsk
  pub reply : IocReply
  pub asked : IsDoorAsk q ask
  pub replied : IsDoorReply q ask reply
  pub size : 4 * dwords ≡ length (asked_bytes ask)
  pub unsent : List ℕ
  pub message : sent ++ unsent ≡ asked_bytes ask
  pub unheard : List ℕ
  pub words : heard ++ unheard ≡ replied_bytes reply

abbrev pub IsTalk : ℕ → Talk → Type 0
IsTalk q Quiet = Unit {0}
IsTalk q (Talks dwords sent heard) = IsBegun q dwords sent heard

-- all dwords were written
abbrev pub has_been_sent : ℕ → List ℕ → Bool
has_been_sent dwords sent = nat_le (4 * dwords) (length sent)

-- the reply is whole, so that the handshake is at its end
abbrev pub is_over : Talk → Bool
is_over Quiet = true
is_over (Talks dwords sent heard) = is_whole heard

-- ---- the host's register accesses

-- the handshake, the register whose value is awaited, and how many resets were asked since the last one was done
pub record Door : Type 0 where
  pub talk : Talk
  pub reading : Option ℕ
  pub asked : ℕ

abbrev pub quiet_door : Door
quiet_door = record { talk = Quiet; reading = None; asked = 0 }

-- a function is written to the Doorbell
abbrev pub opened : ℕ → Talk
opened value =
    if value / 2 ^ DOORBELL_FUNCTION_SHIFT == FUNCTION_HANDSHAKE
    then Talks (value / 2 ^ DOORBELL_ADD_DWORDS_SHIFT % 256) [] [] else Quiet

-- what is written to the Doorbell is the next dword, or where no handshake is under way a function
abbrev pub doorbell_written : Talk → ℕ → Talk
doorbell_written Quiet value = opened value
doorbell_written (Talks dwords sent heard) value = if is_whole heard then opened value else Talks dwords (sent ++ little_bytes 4 value) heard

-- a write to WriteSequence begins a diagnostic reset, which cuts a handshake off
abbrev pub written : Talk → ℕ → ℕ → Talk
written talk reg value = if reg == DOORBELL then doorbell_written talk value else (if reg == WRITE_SEQUENCE then Quiet else talk)

-- once all dwords were written, what is read from the Doorbell is the reply's next word, until the reply is whole
abbrev pub word_heard : Talk → ℕ → Talk
word_heard Quiet value = Quiet
word_heard (Talks dwords sent heard) value =
    if is_whole heard then Talks dwords sent heard
    else (if has_been_sent dwords sent then Talks dwords sent (heard ++ little_bytes 2 value) else Talks dwords sent heard)

abbrev pub value_heard : Talk → Option ℕ → ℕ → Talk
value_heard talk None value = talk
value_heard talk (Some reg) value = if reg == DOORBELL then word_heard talk value else talk

abbrev pub door_next : Door → Entry → Door
door_next g (entry.Put lane (item.Down (down.Write reg value))) = record g { talk = written g.talk reg value }
door_next g (entry.Put lane (item.Down (down.Read reg))) = record g { reading = Some reg }
door_next g (entry.Take lane (item.Up (up.Value value))) = record g { talk = value_heard g.talk g.reading value; reading = None }
door_next g (entry.Given input.Reset) = record g { asked = g.asked + 1 }
door_next g (entry.Given input.UnitReset) = record g { asked = g.asked + 1 }
door_next g (entry.Refuse call.Reset cause) = record g { asked = g.asked - 1 }
door_next g (entry.Refuse call.UnitReset cause) = record g { asked = g.asked - 1 }
door_next g entry.ResetDone = record g { asked = 0 }
door_next g _ = g

-- a handshake is cut off before its end only where a reset was asked
abbrev pub MayCut : Bool → ℕ → Type 0
MayCut true asked = Unit {0}
MayCut false asked = 0 < asked

abbrev pub CutAsks : Door → Entry → Type 0
CutAsks g (entry.Put lane (item.Down (down.Write reg value))) = MatchBool (reg == WRITE_SEQUENCE) (MayCut (is_over g.talk) g.asked) (Unit {0})
CutAsks g _ = Unit {0}

-- after each entry the handshake is one of the host's, as far as it came
abbrev pub DoorAsks : ℕ → Door → Entry → Type 0
DoorAsks q g e = CutAsks g e × IsTalk q (door_next g e).talk

-- the handshakes of a trace
abbrev pub DoorbellTalks : ℕ → List Entry → Type 0
DoorbellTalks q t = Passes door_next (DoorAsks q) quiet_door t
