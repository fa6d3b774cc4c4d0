-- The post of a command is the message of the command that was accepted under its identifier, with its data; no other
-- post has data.
use Rattle.std.specs.Prelude.{◌≡◌, ℕ, ◌-◌, ◌==◌, ◌&&◌, not, Bool, true, List, [], ◌∷◌, ◌++◌, length, replicate, Option, Some, None}
use Rattle.std.specs.Bool.{MatchBool}
use Rattle.scsi_disk.specs.Command.{is_write}
use Rattle.scsi_disk.specs.declared.command.Command.{Command}
use Rattle.mpt_messages.specs.FrameBytes.{message_frame}
use Rattle.mpt_messages.specs.HostFrames.{host_message}
use Rattle.mpt_messages.specs.declared.host_ask.HostAsk.{HostAsk}
use Rattle.mpt_messages.specs.declared.host_ask.HostAsk.TheVariants as ask
use Rattle.mpt_trace.specs.declared.lane.LaneName.{LaneName}
use Rattle.mpt_trace.specs.declared.item.Down.TheVariants as down
use Rattle.mpt_trace.specs.declared.item.Item.TheVariants as item
use Rattle.mpt_trace.specs.declared.entry.Entry.{Entry}
use Rattle.mpt_trace.specs.declared.entry.Entry.TheVariants as entry
use Rattle.mpt_wire.specs.Messages.Fields.{handle_in, smid_in}
use Rattle.mpt_wire.specs.Messages.Naming.{names_command}
use Rattle.mpt_wire.specs.Queues.Marks.{is_command}
use Rattle.mpt_wire.specs.Walks.Passes.{EachEntry, Passes}
use Rattle.mpt_wire.specs.Paths.Commands.{Live, Known, known_next, nothing_known}
use Rattle.mpt_wire.specs.Paths.Replies.{open_under}

-- the 16 bytes of the CDB: zeros stand behind it
abbrev pub cdb_16 : List ℕ → List ℕ
cdb_16 cdb = cdb ++ replicate (16 - length cdb) 0

-- the data go to the disk
abbrev pub writes_data : Command → Bool
writes_data command = is_write command.cdb && not (command.len == 0)

-- the SCSI IO of a command: its LUN, its CDB and the CDB's length, its length, and whether it writes
abbrev pub command_message : ℕ → ℕ → Command → HostAsk
command_message s handle command = ask.ScsiIo s handle command.lun (cdb_16 command.cdb) (length command.cdb) command.len (writes_data command)

-- the post has the bytes of the command's message, for the handle of its descriptor, and the command's data
pub record PostsCommand (command : Command) (descriptor : ℕ) (frame payload : List ℕ) : Type 0 where
  pub message : frame ≡ message_frame (host_message (command_message (smid_in descriptor) (handle_in descriptor) command))
  pub moved : payload ≡ command.payload

-- ---- over the entries before

-- each post that names an identifier of commands is that of the command that is open under it
abbrev pub CommandsArePosted : ℕ → List Entry → Type 0
CommandsArePosted s t =
    (before after : List Entry) (lane : LaneName) (descriptor : ℕ) (frame payload : List ℕ)
    → t ≡ before ++ entry.Put lane (item.Down (down.Post descriptor frame payload)) ∷ after → names_command s descriptor ≡ true
    → (c : Live) × (open_under s before ≡ Some c) × PostsCommand c.command descriptor frame payload

-- ---- as a rule that goes over the entries with what is open under the identifier

abbrev pub PostsOpen : Option Live → ℕ → List ℕ → List ℕ → Type 0
PostsOpen None descriptor frame payload = ⊥
PostsOpen (Some c) descriptor frame payload = PostsCommand c.command descriptor frame payload

abbrev pub CommandPostAsks : ℕ → Known → Entry → Type 0
CommandPostAsks s k (entry.Put lane (item.Down (down.Post descriptor frame payload))) =
    MatchBool (names_command s descriptor) (PostsOpen k.live descriptor frame payload) (Unit {0})
CommandPostAsks s k _ = Unit {0}

abbrev pub CommandPostsPass : ℕ → List Entry → Type 0
CommandPostsPass s t = Passes (known_next s) (CommandPostAsks s) nothing_known t

-- ---- the other posts

abbrev pub DataAsks : Entry → Type 0
DataAsks (entry.Put lane (item.Down (down.Post descriptor frame payload))) = MatchBool (is_command (smid_in descriptor)) (Unit {0}) (payload ≡ [])
DataAsks _ = Unit {0}

-- a post that is no command's has no data
abbrev pub OnlyCommandsHaveData : List Entry → Type 0
OnlyCommandsHaveData t = EachEntry DataAsks t
