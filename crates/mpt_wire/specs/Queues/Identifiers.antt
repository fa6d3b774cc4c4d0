-- Identifiers on the wire: each goes its cycle, is of its request's class, and is the least free one where a submission is accepted.
use Rattle.std.specs.Prelude.{◌≡◌, ◌≢◌, ℕ, ◌==◌, ◌≤◌, if◌then◌else◌, List, Option, Some, None}
use Rattle.std.specs.Bool.{MatchBool}
use Rattle.mpi_names.specs.declared.smid.TheConstants.{FIRST_HIGH_PRIORITY_SMID, FIRST_INTERNAL_SMID, FIRST_SCSI_IO_SMID, LAST_HIGH_PRIORITY_SMID, LAST_INTERNAL_SMID, LAST_SCSI_IO_SMID}
use Rattle.mpi_rings.specs.declared.request_descriptor.PostKind.{PostKind}
use Rattle.mpi_rings.specs.declared.request_descriptor.PostKind.TheVariants as post
use Rattle.mpt_messages.specs.Function.{byte_of}
use Rattle.mpt_messages.specs.Refusal.{reply_refusal}
use Rattle.mpt_messages.specs.declared.function.Function.TheVariants as function
use Rattle.mpt_trace.specs.declared.item.Item.{Item}
use Rattle.mpt_trace.specs.declared.item.Item.TheVariants as item
use Rattle.mpt_trace.specs.declared.item.Down.TheVariants as down
use Rattle.mpt_trace.specs.declared.item.Up.TheVariants as up
use Rattle.mpt_trace.specs.declared.entry.Entry.{Entry}
use Rattle.mpt_trace.specs.declared.entry.Entry.TheVariants as entry
use Rattle.mpt_wire.specs.Walks.Cycles.{InCycles, TurnsPass}
use Rattle.mpt_wire.specs.Messages.Fields.{function_in, kind_in, smid_in}
use Rattle.mpt_wire.specs.Walks.Passes.{EachEntry}

-- ---- the cycle

-- the turn of an item that names s: the first number for a post, the second for a reply
abbrev pub identifier_turn : ℕ → ℕ → ℕ → Item → Option ℕ
identifier_turn s of_post of_reply (item.Down (down.Post descriptor frame payload)) = if smid_in descriptor == s then Some of_post else None
identifier_turn s of_post of_reply (item.Up (up.Reply descriptor frame page sense)) = if smid_in descriptor == s then Some of_reply else None
identifier_turn s of_post of_reply _ = None

-- where in the cycle put post, take post, put reply, take reply the entry stands, if it names s
abbrev pub smid_stage : ℕ → Entry → Option ℕ
smid_stage s (entry.Put lane item) = identifier_turn s 0 2 item
smid_stage s (entry.Take lane item) = identifier_turn s 1 3 item
smid_stage s _ = None

-- since the last reset's end, the entries that name an identifier other than 0 are a prefix of the cycle put post, take post, put reply, take reply, repeated
abbrev pub IdentifiersInCycles : List Entry → Type 0
IdentifiersInCycles t = (s : ℕ) → s ≢ 0 → InCycles (smid_stage s) t

-- as a rule that goes over the trace
abbrev pub IdentifiersPass : List Entry → Type 0
IdentifiersPass t = (s : ℕ) → s ≢ 0 → TurnsPass (smid_stage s) t

-- ---- the classes

-- the first and the last identifier of a kind of post
abbrev pub first_smid : PostKind → ℕ
first_smid post.ScsiIo = FIRST_SCSI_IO_SMID
first_smid post.HighPriority = FIRST_HIGH_PRIORITY_SMID
first_smid post.Default = FIRST_INTERNAL_SMID

abbrev pub last_smid : PostKind → ℕ
last_smid post.ScsiIo = LAST_SCSI_IO_SMID
last_smid post.HighPriority = LAST_HIGH_PRIORITY_SMID
last_smid post.Default = LAST_INTERNAL_SMID

-- the identifier is of the class of the descriptor's kind; a descriptor with unknown flags has none
abbrev pub IsOfKind : Option PostKind → ℕ → Type 0
IsOfKind None s = ⊥
IsOfKind (Some kind) s = (first_smid kind ≤ s) × (s ≤ last_smid kind)

-- the frame stands for an event
abbrev pub IsEvent : Option (List ℕ) → Type 0
IsEvent None = ⊥
IsEvent (Some frame) = (function_in frame ≡ byte_of function.EventNotification) × (reply_refusal frame ≡ None)

-- the identifier of a post is of the class of its descriptor's kind; a reply that names 0 is an event
abbrev pub ClassAsks : Entry → Type 0
ClassAsks (entry.Put lane (item.Down (down.Post descriptor frame payload))) = IsOfKind (kind_in descriptor) (smid_in descriptor)
ClassAsks (entry.Put lane (item.Up (up.Reply descriptor frame page sense))) = MatchBool (smid_in descriptor == 0) (IsEvent frame) (Unit {0})
ClassAsks _ = Unit {0}

-- so does each entry
abbrev pub ClassesKept : List Entry → Type 0
ClassesKept t = EachEntry ClassAsks t
