-- The path of a command: what names its identifier stands, from its accept to its answer, in the order of one of
-- the paths of the table.
use Rattle.std.specs.Prelude.{◌≡◌, ℕ, Bool, ◌==◌, List, [], ◌∷◌, Option, Some, None, if◌then◌else◌}
use Rattle.std.specs.List.{cons_option}
use Rattle.scsi_disk.specs.declared.command.Command.{Command}
use Rattle.mpt_trace.specs.declared.command_form.CommandForm.TheVariants.{Tur}
use Rattle.mpt_trace.specs.declared.input.Input.{Input}
use Rattle.mpt_trace.specs.declared.input.Input.TheVariants as input
use Rattle.mpt_trace.specs.declared.item.Down.TheVariants as down
use Rattle.mpt_trace.specs.declared.item.Up.TheVariants as up
use Rattle.mpt_trace.specs.declared.item.Out.TheVariants as out
use Rattle.mpt_trace.specs.declared.item.Back.TheVariants as back
use Rattle.mpt_trace.specs.declared.item.Item.{Item}
use Rattle.mpt_trace.specs.declared.item.Item.TheVariants as item
use Rattle.mpt_trace.specs.declared.outcome.Outcome.{Outcome}
use Rattle.mpt_trace.specs.declared.entry.Entry.{Entry}
use Rattle.mpt_trace.specs.declared.entry.Entry.TheVariants as entry
use Rattle.mpt_trace.specs.Command.{command_named}
use Rattle.mpt_wire.specs.Messages.Naming.{is_abort_of, names_command, said_in}
use Rattle.mpt_wire.specs.Paths.Table.{PathMark, PutsPost, TakesPost, PutsTask, TakesTask, RunsAt, PutsResult, TakesResult, PutsGone, TakesGone, PutsTerminated, TakesTerminated, PutsReply, TakesReply, Answers, TakesAbort, IsAcceptedAgain, IsOnTable}
use Rattle.mpt_wire.specs.Queues.LeastFree.{is_accept_with}

-- the mark, where the test is passed
abbrev pub mark_if : Bool → PathMark → Option PathMark
mark_if b m = if b then Some m else None

-- what putting the item is to a command with the identifier s
abbrev pub put_mark : ℕ → Item → Option PathMark
put_mark s (item.Down (down.Post descriptor frame payload)) = mark_if (names_command s descriptor) PutsPost
put_mark s (item.Up (up.Reply descriptor frame page sense)) = mark_if (names_command s descriptor) (PutsReply (said_in frame))
put_mark s (item.Out (out.Task tag address command)) = mark_if (tag == s) (PutsTask address command)
put_mark s (item.Back (back.Result tag result)) = mark_if (tag == s) (PutsResult result)
put_mark s (item.Back (back.Gone tag)) = mark_if (tag == s) PutsGone
put_mark s (item.Back (back.Terminated tag)) = mark_if (tag == s) PutsTerminated
put_mark s _ = None

-- what taking the item is to it, but for the taking of an abort
abbrev pub take_mark : ℕ → Item → Option PathMark
take_mark s (item.Down (down.Post descriptor frame payload)) = mark_if (names_command s descriptor) TakesPost
take_mark s (item.Up (up.Reply descriptor frame page sense)) = mark_if (names_command s descriptor) (TakesReply (said_in frame))
take_mark s (item.Out (out.Task tag address command)) = mark_if (tag == s) (TakesTask address command)
take_mark s (item.Back (back.Result tag result)) = mark_if (tag == s) (TakesResult result)
take_mark s (item.Back (back.Gone tag)) = mark_if (tag == s) TakesGone
take_mark s (item.Back (back.Terminated tag)) = mark_if (tag == s) TakesTerminated
take_mark s _ = None

-- an open command under the identifier: its number, address and command
pub record Live : Type 0 where
  pub number : ℕ
  pub address : ℕ
  pub command : Command

-- a mark that is one of an open command alone
abbrev pub live_mark : Option Live → PathMark → Option PathMark
live_mark None m = None
live_mark (Some live) m = Some m

abbrev pub answer_mark : Option Live → ℕ → Outcome → Option PathMark
answer_mark None n ending = None
answer_mark (Some live) n ending = mark_if (live.number == n) (Answers ending)

-- what the entry is to the identifier s, under which `live` is open
abbrev pub path_mark_of : ℕ → Option Live → Entry → Option PathMark
path_mark_of s live (entry.Put lane item) = put_mark s item
path_mark_of s live (entry.Take lane item) = if is_abort_of s item then live_mark live TakesAbort else take_mark s item
path_mark_of s live (entry.Run address tag) = mark_if (tag == s) (RunsAt address)
path_mark_of s live (entry.Accept n address smid) = if smid == s then live_mark live IsAcceptedAgain else None
path_mark_of s live (entry.Answer n ending) = answer_mark live n ending
path_mark_of s live _ = None

-- the command of the last submission, and what is open under the identifier
pub record Known : Type 0 where
  pub submitted : Command
  pub live : Option Live

-- nothing was submitted
abbrev pub nothing_known : Known
nothing_known = record { submitted = command_named Tur; live = None }

abbrev pub submitted_after : Command → Input → Command
submitted_after command (input.Submit n address form) = command_named form
submitted_after command _ = command

abbrev pub live_after : Option Live → ℕ → Option Live
live_after None n = None
live_after (Some live) n = if live.number == n then None else Some live

abbrev pub known_next : ℕ → Known → Entry → Known
known_next s k (entry.Given given) = record k { submitted = submitted_after k.submitted given }
known_next s k (entry.Accept n address smid) = if smid == s then record k { live = Some (record { number = n; address = address; command = k.submitted }) } else k
known_next s k (entry.Answer n ending) = record k { live = live_after k.live n }
known_next s k _ = k

-- ---- the plain form

-- what happened from an accept on, to the next one
pub record Part : Type 0 where
  pub address : ℕ
  pub command : Command
  pub marks : List PathMark

-- what happened before the first accept, and from each accept on
pub record Parts : Type 0 where
  pub before : List PathMark
  pub parts : List Part

abbrev pub add_mark : Option PathMark → Parts → Parts
add_mark m ps = record ps { before = cons_option m ps.before }

-- the parts are cut before the next accept; what happened up to it is of the part that an accept opens
abbrev pub open_part : Option Live → Parts → Parts
open_part None ps = ps
open_part (Some live) ps = record { before = []; parts = record { address = live.address; command = live.command; marks = ps.before } ∷ ps.parts }

abbrev pub parts_from : ℕ → Known → List Entry → Parts
parts_from s k [] = record { before = []; parts = [] }
parts_from s k (e ∷ t) =
    add_mark (path_mark_of s k.live e) (if is_accept_with s e then open_part (known_next s k e).live (parts_from s (known_next s k e) t) else parts_from s (known_next s k e) t)

abbrev pub EachPart : (Part → Type 0) → List Part → Type 0
EachPart P [] = Unit {0}
EachPart P (p ∷ ps) = P p × EachPart P ps

-- the part is on a path of the table
abbrev pub PartIsOnTable : Part → Type 0
PartIsOnTable p = IsOnTable p.address p.command p.marks

-- nothing names s before it is accepted, and from each accept on what names it is on a path of the table
abbrev pub IsOnPaths : ℕ → List Entry → Type 0
IsOnPaths s t = ((parts_from s nothing_known t).before ≡ []) × EachPart PartIsOnTable (parts_from s nothing_known t).parts
