-- Where a controller's tasks go.
use Rattle.std.specs.Prelude.{◌≡◌, ℕ, ◌<◌, List, Contains, Option, Some, None, slice_get, take}
use Rattle.scsi_disk.specs.declared.command.Command.{Command}
use Rattle.mpt_trace.specs.declared.item.Out.TheVariants as out
use Rattle.mpt_wire.specs.Messages.Fields.{dev_handle_in, smid_in}
use Rattle.mpt_rules.specs.declared.binding.Binding.TheVariants as binding
use Rattle.mpt_rules.specs.declared.post.Post.{Post}
use Rattle.mpt_rules.specs.Ioc.Commands.{command_in}
use Rattle.mpt_rules.specs.Ioc.Parts.{Ioc, new_ioc}
use Rattle.mpt_rules.specs.Ioc.Tables.{binding_of}
use Rattle.ioc_core.specs.declared.moves.IocMove.{IocMove}
use Rattle.ioc_core.specs.declared.moves.IocMove.TheVariants as move
use Rattle.ioc_core.specs.declared.moves.IocSaid.TheVariants as said
use Rattle.law_ends.specs.IocEnds.{ioc_reached, ioc_talk}

-- the post that a move processes, if it processes one
abbrev pub post_worked : Ioc → IocMove → Option Post
post_worked ioc move.High = slice_get ioc.high 0
post_worked ioc move.Normal = slice_get ioc.normal 0
post_worked ioc _ = None

-- a move at an earlier place processed a post of the task's identifier and command, while the post's handle was bound to
-- the disk at the task's address
pub record IsSentFor (phys : List ℕ) (q : ℕ) (moves : List IocMove) (place tag address : ℕ) (command : Command) : Type 0 where
  pub sent_at : ℕ
  pub earlier : sent_at < place
  pub played : IocMove
  pub is_played : slice_get moves sent_at ≡ Some played
  pub posted : Post
  pub works : post_worked (ioc_reached phys q (take sent_at moves)) played ≡ Some posted
  pub names : smid_in posted.descriptor ≡ tag
  pub asks : command_in posted.frame posted.payload ≡ command
  pub plug : ℕ
  pub expander : ℕ
  pub phy : ℕ
  pub bound : binding_of (ioc_reached phys q (take sent_at moves)) (dev_handle_in posted.frame) ≡ binding.Present address plug expander phy

-- each task that a new controller puts, over any list of moves, was sent so
abbrev pub TasksGoWhereBound : Type 0
TasksGoWhereBound =
    (phys : List ℕ) (q : ℕ) (moves : List IocMove) (place tag address : ℕ) (command : Command)
    → Contains (ioc_talk (new_ioc phys q) moves) (place, said.Out (out.Task tag address command)) → IsSentFor phys q moves place tag address command
