-- What a step does with the front of its queue, by what is read in it.
use Rattle.std.proofs.Common.{◌≡◌, ℕ, List, [], ◌++◌, append-nil, Some, None, sym, ap, ◌∙◌, subst}
use Rattle.std.specs.List.{slice_get}
use Rattle.mpi_rings.specs.declared.request_descriptor.PostKind.{PostKind}
use Rattle.mpi_rings.specs.declared.request_descriptor.PostKind.TheVariants as post
use Rattle.mpt_messages.specs.Refusal.{request_refusal}
use Rattle.mpt_wire.specs.Messages.Fields.{kind_in, smid_in}
use Rattle.mpt_rules.specs.declared.post.Post.{Post}
use Rattle.mpt_rules.specs.Ioc.Commands.{works_scsi}
use Rattle.mpt_rules.specs.Ioc.Configuration.{works_config}
use Rattle.mpt_rules.specs.Ioc.Parts.{Ioc}
use Rattle.mpt_rules.specs.Ioc.Requests.{works_ack, works_enable, works_notification, works_unit_control}
use Rattle.mpt_rules.specs.Ioc.Steps.{after_step, idle, refuses, way_of, works_default, works_kind, works_on, works_unless}
use Rattle.mpt_rules.specs.Ioc.Tables.{silently}
use Rattle.mpt_rules.specs.Ioc.Tasks.{works_task}
use Rattle.mpt_rules.specs.Outcome.{Happening}
use Rattle.ioc_requests.specs.Asked.{IsRead}
use Rattle.ioc_requests.specs.declared.asked.Asked.TheVariants as asked
use Rattle.ioc_requests.specs.declared.asked.PostRead.{PostRead}
use Rattle.ioc_requests.specs.declared.asked.PostRead.TheVariants as read
use Rattle.ioc_tables.specs.Queues.{IsIdentifier}
use Rattle.ioc_tables.proofs.Words.{steps_high_none, steps_high_some, steps_normal_none, steps_normal_some}
use Rattle.ioc_core.specs.Working.{IsFront, posts_in, steps_on, without_front}
use Rattle.ioc_core.specs.declared.steps.PostQueue.{PostQueue}
use Rattle.ioc_core.specs.declared.steps.PostQueue.TheVariants as queue

-- what is done with a post in which this is read
abbrev pub read_done : Ioc → Post → PostRead → Happening Ioc
read_done ioc p read.Kindless = silently ioc
read_done ioc p (read.Refused k fault) = silently (refuses ioc p k fault)
read_done ioc p (read.Asks (asked.Command io)) = silently (works_scsi ioc p)
read_done ioc p (read.Asks (asked.Task ask)) = silently (works_task ioc p)
read_done ioc p (read.Asks (asked.Page ask)) = silently (works_config ioc p)
read_done ioc p (read.Asks asked.Enable) = silently (works_enable ioc p)
read_done ioc p (read.Asks (asked.Notification ask)) = silently (works_notification ioc p)
read_done ioc p (read.Asks (asked.Ack ack)) = silently (works_ack ioc p)
read_done ioc p (read.Asks (asked.Control ask)) = works_unit_control ioc p

-- a request whose frame isn't refused
accepted : (ioc : Ioc) (p : Post) (k : PostKind) → kind_in p.descriptor ≡ Some k → request_refusal (way_of k) p.frame ≡ None → works_on ioc p ≡ works_unless ioc p k None
accepted ioc p k kind none = ap (works_kind ioc p) kind ∙ ap (works_unless ioc p k) none

works_read : (ioc : Ioc) (p : Post) (r : PostRead) → IsRead p r → works_on ioc p ≡ read_done ioc p r
works_read ioc p read.Kindless is = ap (works_kind ioc p) is
works_read ioc p (read.Refused k fault) is = ap (works_kind ioc p) is.0 ∙ ap (works_unless ioc p k) is.1
works_read ioc p (read.Asks (asked.Command io)) is = accepted ioc p post.ScsiIo is.0 is.1.accepted
works_read ioc p (read.Asks (asked.Task ask)) is = accepted ioc p post.HighPriority is.0 is.1.accepted
works_read ioc p (read.Asks (asked.Page ask)) is = accepted ioc p post.Default is.0 is.1.accepted ∙ ap (works_default ioc p) is.1.function_is
works_read ioc p (read.Asks asked.Enable) is = accepted ioc p post.Default is.0 is.1.accepted ∙ ap (works_default ioc p) is.1.function_is
works_read ioc p (read.Asks (asked.Notification ask)) is = accepted ioc p post.Default is.0 is.1.accepted ∙ ap (works_default ioc p) is.1.function_is
works_read ioc p (read.Asks (asked.Ack ack)) is = accepted ioc p post.Default is.0 is.1.accepted ∙ ap (works_default ioc p) is.1.function_is
works_read ioc p (read.Asks (asked.Control ask)) is = accepted ioc p post.Default is.0 is.1.accepted ∙ ap (works_default ioc p) is.1.function_is

steps_some : (q : PostQueue) (ioc : Ioc) (p : Post) → slice_get (posts_in q ioc) 0 ≡ Some p → steps_on q ioc ≡ after_step (works_on (without_front q ioc) p)
steps_some queue.High ioc p front = steps_high_some ioc p front
steps_some queue.Normal ioc p front = steps_normal_some ioc p front

pub steps_none : (q : PostQueue) (ioc : Ioc) → slice_get (posts_in q ioc) 0 ≡ None → steps_on q ioc ≡ idle ioc
steps_none queue.High ioc front = steps_high_none ioc front
steps_none queue.Normal ioc front = steps_normal_none ioc front

-- a step, by what was read in the front of its queue
pub steps_read : (q : PostQueue) (ioc : Ioc) (smid : ℕ) (r : PostRead) (f : IsFront q ioc smid r) → steps_on q ioc ≡ after_step (read_done (without_front q ioc) f.post r)
steps_read q ioc smid r f = steps_some q ioc f.post f.front ∙ ap after_step (works_read (without_front q ioc) f.post r f.read_is)

-- what is known of the post that was taken from the front of a queue
pub record WasFront (q : PostQueue) (ioc : Ioc) (smid : ℕ) (r : PostRead) (p : Post) : Type 0 where
  pub read_is : IsRead p r
  pub smid_is : smid_in p.descriptor ≡ smid
  pub identifier : IsIdentifier (smid_in p.descriptor)
  pub done : steps_on q ioc ≡ after_step (read_done (without_front q ioc) p r)

pub was_front : (q : PostQueue) (ioc : Ioc) (smid : ℕ) (r : PostRead) (p : Post) → IsFront q ioc smid r → slice_get (posts_in q ioc) 0 ≡ Some p → WasFront q ioc smid r p
was_front q ioc smid r p f front =
    let same : f.post ≡ p = some_same f.post p (sym f.front ∙ front) in
    subst (λ (x : Post). WasFront q ioc smid r x) same
    (record {
      read_is = f.read_is;
      smid_is = f.smid_is;
      identifier = subst IsIdentifier (sym f.smid_is) f.identifier;
      done = steps_read q ioc smid r f;
    })
  where
    some_same : (a b : Post) → Some a ≡ Some b → a ≡ b
    some_same a b is = cc

-- a request that tells nothing
pub told_none : {X : Type 0} (told new : List X) → new ≡ told → new ≡ told ++ []
told_none told new is = is ∙ sym (append-nil told)
