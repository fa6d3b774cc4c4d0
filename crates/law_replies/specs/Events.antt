-- What is known of the events that the controller tells.
use Rattle.std.specs.Prelude.{◌≡◌, ℕ, zero, ◌⊎◌, All, true, false}
use Rattle.mpt_rules.specs.declared.said.Said.{Said}
use Rattle.mpt_rules.specs.declared.said.Said.TheVariants as said
use Rattle.mpt_rules.specs.Ioc.Replies.{outbox_of}
use Rattle.mpt_rules.specs.World.State.{World}
use Rattle.law_facts.specs.Messages.{IsEvent, event_like}

-- what is said without an identifier is an event of one change
abbrev pub TellsChange : Said → Type 0
TellsChange (said.Framed zero frame page sense) = (frame ≡ event_like frame true) ⊎ (frame ≡ event_like frame false)
TellsChange item = Unit {0}

-- in each outbox
abbrev pub EventsTellChanges : World → Type 0
EventsTellChanges w = (queue : ℕ) → All TellsChange (outbox_of w.ioc queue)

-- what is said without an identifier on a queue is an event: of one change of a disk's handle, on queue 0
abbrev pub IsEventOn : ℕ → Said → Type 0
IsEventOn queue (said.Framed zero frame page sense) = IsEvent queue frame page sense
IsEventOn queue item = Unit {0}

abbrev pub EventsStand : World → Type 0
EventsStand w = (queue : ℕ) → All (IsEventOn queue) (outbox_of w.ioc queue)
