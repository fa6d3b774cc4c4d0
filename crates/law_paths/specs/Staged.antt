-- The stages of commands, item by item: what each item that names a command's identifier says of it.
use Rattle.std.specs.Prelude.{◌≡◌, ℕ, true, All}
use Rattle.mpt_trace.specs.declared.item.Back.{Back}
use Rattle.mpt_trace.specs.declared.item.Back.TheVariants as back
use Rattle.mpt_trace.specs.declared.item.Down.{Down}
use Rattle.mpt_trace.specs.declared.item.Down.TheVariants as down
use Rattle.mpt_trace.specs.declared.item.Out.{Out}
use Rattle.mpt_trace.specs.declared.item.Out.TheVariants as out
use Rattle.mpt_wire.specs.Messages.Fields.{smid_in}
use Rattle.mpt_wire.specs.Paths.Stages.{PathStage, Accepted, AtController, AtDisk, HasRun, Posted, Sent}
use Rattle.mpt_rules.specs.declared.post.Post.{Post}
use Rattle.mpt_rules.specs.declared.task.Task.{Task}
use Rattle.mpt_rules.specs.Ioc.Replies.{outbox_of}
use Rattle.mpt_rules.specs.World.State.{World, up_on}
use Rattle.law_facts.specs.History.{History}
use Rattle.law_facts.specs.Paths.{BackStage, SaidStage, UpStage, stage_of}
use Rattle.law_facts.specs.Words.{is_command_asked, slot}

-- an open command under s is at this stage
abbrev pub At : World → History → PathStage → ℕ → Type 0
At w h c s = is_command_asked (slot w.host s) ≡ true → stage_of h s ≡ c

abbrev pub DownAt : World → History → PathStage → Down → Type 0
DownAt w h c (down.Post descriptor frame payload) = At w h c (smid_in descriptor)
DownAt w h c item = Unit {0}

abbrev pub PostAt : World → History → PathStage → Post → Type 0
PostAt w h c p = At w h c (smid_in p.descriptor)

abbrev pub OutAt : World → History → PathStage → Out → Type 0
OutAt w h c (out.Task tag address command) = At w h c tag
OutAt w h c item = Unit {0}

abbrev pub TaskAt : World → History → Task → Type 0
TaskAt w h t = At w h AtDisk t.tag

-- what the fabric says and hasn't put
abbrev pub MadeAt : World → History → Back → Type 0
MadeAt w h (back.Result tag result) = At w h HasRun tag
MadeAt w h (back.Gone tag) = At w h AtDisk tag
MadeAt w h (back.Terminated tag) = At w h AtDisk tag
MadeAt w h item = Unit {0}

-- of the items of a world x
pub record Staged (w : World) (h : History) (x : World) : Type 0 where
  pub out : All (DownAt w h Accepted) x.host.out
  pub down : All (DownAt w h Posted) x.down
  pub normal : All (PostAt w h AtController) x.ioc.normal
  pub sending : All (OutAt w h AtController) x.ioc.out
  pub sent : All (OutAt w h Sent) x.out
  pub tasks : All (TaskAt w h) x.fabric.tasks
  pub made : All (MadeAt w h) x.fabric.out
  pub back : All (BackStage h) x.back
  pub said : (queue : ℕ) → All (SaidStage w h) (outbox_of x.ioc queue)
  pub up : (queue : ℕ) → All (UpStage w h) (up_on x queue)
