-- An acknowledgement names the event that it acknowledges: events are acknowledged in the order in which the host takes
-- them, each at most once, and every acknowledgement succeeds.
use Rattle.std.specs.Prelude.{◌≡◌, ℕ, ◌==◌, Bool, true, false, if◌then◌else◌, List, [], ◌∷◌, ◌++◌, drop, Option, Some}
use Rattle.std.specs.Bool.{MatchBool}
use Rattle.mpt_messages.specs.FrameBytes.{message_frame}
use Rattle.mpt_messages.specs.Function.{byte_of}
use Rattle.mpt_messages.specs.HostFrames.{host_message}
use Rattle.mpt_messages.specs.declared.function.Function.TheVariants as function
use Rattle.mpt_messages.specs.declared.host_ask.HostAsk.TheVariants as ask
use Rattle.mpt_trace.specs.declared.item.Item.TheVariants as item
use Rattle.mpt_trace.specs.declared.item.Down.TheVariants as down
use Rattle.mpt_trace.specs.declared.item.Up.TheVariants as up
use Rattle.mpt_trace.specs.declared.entry.Entry.{Entry}
use Rattle.mpt_trace.specs.declared.entry.Entry.TheVariants as entry
use Rattle.mpt_wire.specs.Walks.Ahead.{PassesAhead}
use Rattle.mpt_wire.specs.Messages.Fields.{event_context_in, event_in, function_in, ioc_status_in, smid_in}
use Rattle.mpt_wire.specs.Messages.Naming.{success}
use Rattle.mpt_wire.specs.Walks.Passes.{EachEntry}
use Rattle.mpt_wire.specs.Machine.SoFar.{is_reset_asked}

pub record Acknowledging : Type 0 where
  -- the frames of the events that were taken and aren't acknowledged, in order
  pub events : List (List ℕ)
  -- a reset was asked and isn't done
  pub resetting : Bool

abbrev pub nothing_to_acknowledge : Acknowledging
nothing_to_acknowledge = record { events = []; resetting = false }

abbrev pub is_ack : List ℕ → Bool
is_ack frame = function_in frame == byte_of function.EventAck

-- while a reset is going on an event isn't acknowledged
abbrev pub event_taken : Bool → List ℕ → Acknowledging → Acknowledging
event_taken true frame g = if g.resetting then g else record g { events = g.events ++ frame ∷ [] }
event_taken false frame g = g

-- a reset that isn't refused takes what isn't put
abbrev pub reset_asked : Bool → Acknowledging → Acknowledging
reset_asked true g = record { events = []; resetting = true }
reset_asked false g = g

abbrev pub acknowledging_next : Acknowledging → Entry → Option Entry → Acknowledging
acknowledging_next g (entry.Take lane (item.Up (up.Reply descriptor (Some frame) page sense))) ahead = event_taken (smid_in descriptor == 0) frame g
acknowledging_next g (entry.Put lane (item.Down (down.Post descriptor frame payload))) ahead = if is_ack frame then record g { events = drop 1 g.events } else g
acknowledging_next g (entry.Given given) ahead = reset_asked (is_reset_asked (entry.Given given) ahead) g
acknowledging_next g entry.ResetDone ahead = record g { resetting = false }
acknowledging_next g _ ahead = g

-- the frame is the acknowledgement of the first event
abbrev pub AcknowledgesFirst : List (List ℕ) → List ℕ → Type 0
AcknowledgesFirst [] frame = ⊥
AcknowledgesFirst (event ∷ events) frame = frame ≡ message_frame (host_message (ask.Ack (event_in event) (event_context_in event)))

abbrev pub AcknowledgingAsks : Acknowledging → Entry → Option Entry → Type 0
AcknowledgingAsks g (entry.Put lane (item.Down (down.Post descriptor frame payload))) ahead = MatchBool (is_ack frame) (AcknowledgesFirst g.events frame) (Unit {0})
AcknowledgingAsks g _ ahead = Unit {0}

abbrev pub EventsAreAcknowledged : List Entry → Type 0
EventsAreAcknowledged t = PassesAhead acknowledging_next AcknowledgingAsks nothing_to_acknowledge t

-- ---- their replies

abbrev pub AckAsks : Entry → Type 0
AckAsks (entry.Put lane (item.Up (up.Reply descriptor (Some frame) page sense))) = MatchBool (is_ack frame) (ioc_status_in frame ≡ success) (Unit {0})
AckAsks _ = Unit {0}

-- the controller knows each event that is acknowledged
abbrev pub AcksSucceed : List Entry → Type 0
AcksSucceed t = EachEntry AckAsks t
