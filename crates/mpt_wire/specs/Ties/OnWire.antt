-- What each message of a trace belongs to: a post to its command, a reply to its post, an event and a page to the disk
-- under the handle, an acknowledgement to its event, and what is told to the reply that says it.
use Rattle.std.specs.Prelude.{ℕ, ◌≤◌, List}
use Rattle.mpt_trace.specs.declared.entry.Entry.{Entry}
use Rattle.mpt_wire.specs.Ties.Acknowledged.{AcksSucceed, EventsAreAcknowledged}
use Rattle.mpt_wire.specs.Ties.CommandPosts.{CommandPostsPass, CommandsArePosted, OnlyCommandsHaveData}
use Rattle.mpt_wire.specs.Ties.EventsTold.{EventsAreOfChanges}
use Rattle.mpt_wire.specs.Ties.HandlesAimed.{HandlesToldPass, PostsNameTold}
use Rattle.mpt_wire.specs.Ties.LastPosts.{RepliesAnswerPass, RepliesAnswerPosts}
use Rattle.mpt_wire.specs.Ties.OpeningWrites.{OpeningsAreBare}
use Rattle.mpt_wire.specs.Ties.PagesTold.{PagesAreOfDisks, PagesAreOfPlugs}
use Rattle.mpt_wire.specs.Ties.RemovalsUnbind.{RemovalsUnbind, SuccessesUnbind}
use Rattle.mpt_wire.specs.Ties.ToldNext.{RepliesAreToldNext}

-- the messages of a trace, with expanders that have so many phys
pub record TiesOnWire (phys : List ℕ) (t : List Entry) : Type 0 where
  pub commands : (s : ℕ) → CommandsArePosted s t
  pub payloads : OnlyCommandsHaveData t
  pub replies : (s : ℕ) → 1 ≤ s → RepliesAnswerPosts s t
  pub events : EventsAreOfChanges phys t
  pub pages : PagesAreOfPlugs t
  pub acknowledged : EventsAreAcknowledged t
  pub known : AcksSucceed t
  pub handles : PostsNameTold t
  pub told : RepliesAreToldNext t
  pub removals : (s : ℕ) → 1 ≤ s → SuccessesUnbind s t
  pub openings : OpeningsAreBare t

-- the same as rules that go over the entries
pub record TiesPass (phys : List ℕ) (t : List Entry) : Type 0 where
  pub commands : (s : ℕ) → CommandPostsPass s t
  pub payloads : OnlyCommandsHaveData t
  pub replies : (s : ℕ) → 1 ≤ s → RepliesAnswerPass s t
  pub events : EventsAreOfChanges phys t
  pub pages : PagesAreOfDisks t
  pub acknowledged : EventsAreAcknowledged t
  pub known : AcksSucceed t
  pub handles : HandlesToldPass t
  pub told : RepliesAreToldNext t
  pub removals : (s : ℕ) → 1 ≤ s → RemovalsUnbind s t
  pub openings : OpeningsAreBare t
