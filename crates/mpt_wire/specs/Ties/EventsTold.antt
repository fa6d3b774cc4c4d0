-- A topology event is told of each binding and of each departure of a bound disk, in their order: with the handle, the
-- expander and the phy of that disk, and with the next context.
use Rattle.std.specs.Prelude.{◌≡◌, ℕ, ◌+◌, ◌%◌, ◌^◌, ◌==◌, Bool, true, false, List, [], ◌∷◌, ◌++◌, drop, slice_index, Option, Some, None}
use Rattle.std.specs.Bool.{MatchBool}
use Rattle.mpt_messages.specs.IocFrames.{reply_frame}
use Rattle.mpt_messages.specs.declared.ioc_reply.IocReply.{IocReply}
use Rattle.mpt_messages.specs.declared.ioc_reply.IocReply.TheVariants as reply
use Rattle.mpt_trace.specs.declared.item.Item.TheVariants as item
use Rattle.mpt_trace.specs.declared.item.Up.TheVariants as up
use Rattle.mpt_trace.specs.declared.item.Back.TheVariants as back
use Rattle.mpt_trace.specs.declared.entry.Entry.{Entry}
use Rattle.mpt_trace.specs.declared.entry.Entry.TheVariants as entry
use Rattle.mpt_wire.specs.Ties.Attached.{Attached, Attachment, attached_next, nothing_attached}
use Rattle.mpt_wire.specs.Messages.Fields.{smid_in}
use Rattle.mpt_wire.specs.Walks.Passes.{Passes}

-- a change of a handle: its disk was added, or else departed
pub record DiskChange : Type 0 where
  pub handle : ℕ
  pub disk : Attachment
  pub added : Bool

pub record Telling : Type 0 where
  pub attached : Attached
  -- the changes whose events aren't put, in order
  pub due : List DiskChange
  -- the context of the next event
  pub context : ℕ

abbrev pub nothing_to_tell : Telling
nothing_to_tell = record { attached = nothing_attached; due = []; context = 1 }

abbrev pub change_of : ℕ → Bool → Option Attachment → List DiskChange
change_of handle added None = []
change_of handle added (Some disk) = record { handle = handle; disk = disk; added = added } ∷ []

-- a disk that was bound departs
abbrev pub departed : Attached → Option ℕ → List DiskChange
departed g None = []
departed g (Some handle) = change_of handle false (g.disk handle)

-- the changes that the entry makes
abbrev pub changes_made : Attached → Entry → List DiskChange
changes_made g (entry.Bind handle address plug) = change_of handle true ((attached_next g (entry.Bind handle address plug)).disk handle)
changes_made g (entry.Take lane (item.Back (back.Unplugged address plug expander phy))) = departed g (g.present address)
changes_made g _ = []

abbrev pub event_put : Bool → Telling → Telling
event_put true g = record g { due = drop 1 g.due; context = (g.context + 1) % 2 ^ 32 }
event_put false g = g

-- an event is put, or changes are made; a reset drops those that aren't told
abbrev pub telling_by : Telling → Entry → Telling
telling_by g (entry.Put lane (item.Up (up.Reply descriptor frame page sense))) = event_put (smid_in descriptor == 0) g
telling_by g entry.UnbindAll = record g { due = []; context = 1 }
telling_by g e = record g { due = g.due ++ changes_made g.attached e }

abbrev pub telling_next : Telling → Entry → Telling
telling_next g e = record (telling_by g e) { attached = attached_next g.attached e }

-- the event of a change, where the expanders have so many phys
abbrev pub event_of : List ℕ → ℕ → DiskChange → IocReply
event_of phys context change =
    reply.Topology context change.handle change.disk.place.expander (slice_index phys change.disk.place.expander) change.disk.place.phy change.added

-- the frame is that of the event of the first change that isn't told
abbrev pub TellsFirst : List ℕ → ℕ → List DiskChange → Option (List ℕ) → Type 0
TellsFirst phys context [] frame = ⊥
TellsFirst phys context (change ∷ changes) frame = frame ≡ Some (reply_frame (event_of phys context change))

abbrev pub TellingAsks : List ℕ → Telling → Entry → Type 0
TellingAsks phys g (entry.Put lane (item.Up (up.Reply descriptor frame page sense))) =
    MatchBool (smid_in descriptor == 0) (TellsFirst phys g.context g.due frame) (Unit {0})
TellingAsks phys g _ = Unit {0}

abbrev pub EventsAreOfChanges : List ℕ → List Entry → Type 0
EventsAreOfChanges phys t = Passes telling_next (TellingAsks phys) nothing_to_tell t
