-- How far a command is on its path, and what may happen to it there.
use Rattle.std.specs.Prelude.{◌≡◌, ℕ, Bool, true, false, List, Option, Some, None, MatchOption, if◌then◌else◌}
use Rattle.scsi_disk.specs.declared.scsi_result.ScsiResult.{ScsiResult}
use Rattle.mpt_trace.specs.declared.outcome.Outcome.{Outcome}
use Rattle.mpt_trace.specs.declared.outcome.Outcome.TheVariants as outcome
use Rattle.mpt_trace.specs.declared.entry.Entry.{Entry}
use Rattle.mpt_wire.specs.Messages.Naming.{Says, NotThere, Stopped, AResult}
use Rattle.mpt_wire.specs.Walks.Passes.{Passes}
use Rattle.mpt_wire.specs.Paths.Table.{PathMark, PutsPost, TakesPost, PutsTask, TakesTask, RunsAt, PutsResult, TakesResult, PutsGone, TakesGone, PutsTerminated, TakesTerminated, PutsReply, TakesReply, Answers, TakesAbort}
use Rattle.mpt_wire.specs.Paths.Commands.{Known, Live, path_mark_of, known_next, nothing_known}
use Rattle.mpt_wire.specs.Queues.LeastFree.{is_accept_with}

-- what happened last
pub data PathStage : Type 0 where
  Accepted : PathStage
  Posted : PathStage
  AtController : PathStage
  Sent : PathStage
  AtDisk : PathStage
  HasRun : PathStage
  SaysResult : (result : ScsiResult) → PathStage
  HasResult : (result : ScsiResult) → PathStage
  SaysGone : PathStage
  HasGone : PathStage
  SaysTerminated : PathStage
  HasTerminated : PathStage
  Replied : (says : Says) (ending : Outcome) → PathStage
  Heard : (ending : Outcome) → PathStage

-- how a command ends that has no task and whose reply says so
abbrev pub ending_of : Says → Outcome
ending_of NotThere = outcome.Gone
ending_of _ = outcome.Terminated

-- the stage after a mark
abbrev pub stage_after : PathStage → PathMark → PathStage
stage_after k PutsPost = Posted
stage_after k TakesPost = AtController
stage_after k (PutsTask address command) = Sent
stage_after k (TakesTask address command) = AtDisk
stage_after k (RunsAt address) = HasRun
stage_after k (PutsResult result) = SaysResult result
stage_after k (TakesResult result) = HasResult result
stage_after k PutsGone = SaysGone
stage_after k TakesGone = HasGone
stage_after k PutsTerminated = SaysTerminated
stage_after k TakesTerminated = HasTerminated
stage_after (HasResult result) (PutsReply says) = Replied says (outcome.Done result)
stage_after k (PutsReply says) = Replied says (ending_of says)
stage_after (Replied says ending) (TakesReply heard) = Heard ending
stage_after k m = k

-- what may happen to a command at a stage; `stopped` is that an abort that names it was taken since its accept
abbrev pub MayFollow : Live → Bool → PathStage → PathMark → Type 0
MayFollow c stopped k TakesAbort = Unit {0}
MayFollow c stopped k (Answers outcome.Reset) = Unit {0}
MayFollow c stopped Accepted PutsPost = Unit {0}
MayFollow c stopped Posted TakesPost = Unit {0}
MayFollow c stopped AtController (PutsTask address command) = (address ≡ c.address) × (command ≡ c.command)
MayFollow c stopped AtController (PutsReply NotThere) = Unit {0}
MayFollow c stopped AtController (PutsReply Stopped) = stopped ≡ true
MayFollow c stopped Sent (TakesTask address command) = (address ≡ c.address) × (command ≡ c.command)
MayFollow c stopped AtDisk (RunsAt address) = address ≡ c.address
MayFollow c stopped AtDisk PutsGone = Unit {0}
MayFollow c stopped AtDisk PutsTerminated = Unit {0}
MayFollow c stopped HasRun (PutsResult result) = Unit {0}
MayFollow c stopped (SaysResult result) (TakesResult taken) = taken ≡ result
MayFollow c stopped (HasResult result) (PutsReply says) = says ≡ AResult
MayFollow c stopped SaysGone TakesGone = Unit {0}
MayFollow c stopped HasGone (PutsReply says) = says ≡ NotThere
MayFollow c stopped SaysTerminated TakesTerminated = Unit {0}
MayFollow c stopped HasTerminated (PutsReply says) = says ≡ Stopped
MayFollow c stopped (Replied says ending) (TakesReply heard) = heard ≡ says
MayFollow c stopped (Heard ending) (Answers answered) = answered ≡ ending
MayFollow c stopped k m = ⊥

pub record Walk : Type 0 where
  pub known : Known
  pub stage : PathStage
  -- an abort that names the open command was taken since its accept
  pub stopped : Bool

-- before anything
abbrev pub no_walk : Walk
no_walk = record { known = nothing_known; stage = Accepted; stopped = false }

abbrev pub stage_if : PathStage → Option PathMark → PathStage
stage_if k None = k
stage_if k (Some m) = stage_after k m

abbrev pub stopped_if : Bool → Option PathMark → Bool
stopped_if b (Some TakesAbort) = true
stopped_if b _ = b

abbrev pub walk_next : ℕ → Walk → Entry → Walk
walk_next s g e =
    record {
      known = known_next s g.known e;
      stage = if is_accept_with s e then Accepted else stage_if g.stage (path_mark_of s g.known.live e);
      stopped = if is_accept_with s e then false else stopped_if g.stopped (path_mark_of s g.known.live e);
    }

-- the mark is one that may follow: nothing may happen under an identifier without an open command
abbrev pub MarkMayFollow : Option Live → Bool → PathStage → PathMark → Type 0
MarkMayFollow None stopped k m = ⊥
MarkMayFollow (Some c) stopped k m = MayFollow c stopped k m

abbrev pub WalkAsks : ℕ → Walk → Entry → Type 0
WalkAsks s g e = MatchOption (path_mark_of s g.known.live e) (Unit {0}) (λ m. MarkMayFollow g.known.live g.stopped g.stage m)

-- each entry that names s is one that may follow where the command of s is
abbrev pub WalksOnPaths : ℕ → List Entry → Type 0
WalksOnPaths s t = Passes (walk_next s) (WalkAsks s) no_walk t
