-- The controller's queues of posts, and what is at the front of one.
use Rattle.std.specs.Prelude.{◌≡◌, ℕ, Bool, List, drop, slice_get, Some}
use Rattle.mpt_wire.specs.Messages.Fields.{smid_in}
use Rattle.mpt_rules.specs.declared.post.Post.{Post}
use Rattle.mpt_rules.specs.Ioc.Parts.{Ioc}
use Rattle.mpt_rules.specs.Ioc.Steps.{steps_high, steps_normal}
use Rattle.mpt_rules.specs.Outcome.{Called}
use Rattle.ioc_requests.specs.Asked.{IsRead}
use Rattle.ioc_requests.specs.declared.asked.PostRead.{PostRead}
use Rattle.ioc_tables.specs.Queues.{IsIdentifier}
use Rattle.ioc_core.specs.declared.steps.PostQueue.{PostQueue}
use Rattle.ioc_core.specs.declared.steps.PostQueue.TheVariants as queue

abbrev pub posts_in : PostQueue → Ioc → List Post
posts_in queue.High ioc = ioc.high
posts_in queue.Normal ioc = ioc.normal

-- the front of the queue is taken
abbrev pub without_front : PostQueue → Ioc → Ioc
without_front queue.High ioc = record ioc { high = drop 1 ioc.high }
without_front queue.Normal ioc = record ioc { normal = drop 1 ioc.normal }

-- the work step of the queue
abbrev pub steps_on : PostQueue → Ioc → Called Ioc Bool
steps_on queue.High ioc = steps_high ioc
steps_on queue.Normal ioc = steps_normal ioc

-- the front of the queue has this identifier, and this is read in it
pub record IsFront (queue : PostQueue) (ioc : Ioc) (smid : ℕ) (read : PostRead) : Type 0 where
  pub post : Post
  pub front : slice_get (posts_in queue ioc) 0 ≡ Some post
  pub smid_is : smid_in post.descriptor ≡ smid
  pub identifier : IsIdentifier smid
  pub read_is : IsRead post read
