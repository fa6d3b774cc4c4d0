-- The controller's work steps: each processes the front of one of its queues.
use Rattle.std.specs.Prelude.{Bool, true, false, List, [], ◌∷◌, Option, Some, None}
use Rattle.mpi_rings.specs.declared.request_descriptor.PostKind.{PostKind}
use Rattle.mpi_rings.specs.declared.request_descriptor.PostKind.TheVariants as post
use Rattle.mpt_messages.specs.Function.{function_of}
use Rattle.mpt_messages.specs.Refusal.{request_refusal}
use Rattle.mpt_messages.specs.declared.fault.MsgFault.{MsgFault}
use Rattle.mpt_messages.specs.declared.function.Function.{Function}
use Rattle.mpt_messages.specs.declared.function.Function.TheVariants as function
use Rattle.mpt_messages.specs.declared.function.Kind.{Kind}
use Rattle.mpt_messages.specs.declared.function.Kind.TheVariants as kind
use Rattle.mpt_messages.specs.declared.ioc_reply.IocReply.TheVariants as reply
use Rattle.mpt_wire.specs.Messages.Fields.{function_in, kind_in, smid_in}
use Rattle.mpt_rules.specs.declared.post.Post.{Post}
use Rattle.mpt_rules.specs.Ioc.Commands.{works_scsi}
use Rattle.mpt_rules.specs.Ioc.Configuration.{works_config}
use Rattle.mpt_rules.specs.Ioc.Parts.{Ioc}
use Rattle.mpt_rules.specs.Ioc.Replies.{framed, ioc_queue_of, refusal_status, says_on}
use Rattle.mpt_rules.specs.Ioc.Requests.{works_ack, works_enable, works_notification, works_unit_control}
use Rattle.mpt_rules.specs.Ioc.Tables.{silently}
use Rattle.mpt_rules.specs.Ioc.Tasks.{works_task}
use Rattle.mpt_rules.specs.Outcome.{Called, Happening}

-- the kind of message that a kind of post carries
abbrev pub way_of : PostKind → Kind
way_of post.ScsiIo = kind.ScsiIo
way_of post.HighPriority = kind.HighPriority
way_of post.Default = kind.Default

-- a frame that stands for no request of its kind is answered by a reply with a header alone
abbrev pub refuses : Ioc → Post → PostKind → MsgFault → Ioc
refuses ioc p k refusal =
    says_on ioc (ioc_queue_of ioc k p.descriptor) (framed (smid_in p.descriptor) (reply.Plain (function_in p.frame) (refusal_status refusal)) ∷ [])

-- a request of the default kind, by its function; the others don't travel so
abbrev pub works_default : Ioc → Post → Option Function → Happening Ioc
works_default ioc p (Some function.Config) = silently (works_config ioc p)
works_default ioc p (Some function.PortEnable) = silently (works_enable ioc p)
works_default ioc p (Some function.EventNotification) = silently (works_notification ioc p)
works_default ioc p (Some function.EventAck) = silently (works_ack ioc p)
works_default ioc p (Some function.UnitControl) = works_unit_control ioc p
works_default ioc p _ = silently ioc

-- a request whose frame stands for one of its kind
abbrev pub works_as : Ioc → Post → PostKind → Happening Ioc
works_as ioc p post.ScsiIo = silently (works_scsi ioc p)
works_as ioc p post.HighPriority = silently (works_task ioc p)
works_as ioc p post.Default = works_default ioc p (function_of (function_in p.frame))

-- a request, by the first refusal of its frame
abbrev pub works_unless : Ioc → Post → PostKind → Option MsgFault → Happening Ioc
works_unless ioc p k (Some refusal) = silently (refuses ioc p k refusal)
works_unless ioc p k None = works_as ioc p k

-- a post, by its kind; every post that was taken has one
abbrev pub works_kind : Ioc → Post → Option PostKind → Happening Ioc
works_kind ioc p None = silently ioc
works_kind ioc p (Some k) = works_unless ioc p k (request_refusal (way_of k) p.frame)

-- a post is processed
abbrev pub works_on : Ioc → Post → Happening Ioc
works_on ioc p = works_kind ioc p (kind_in p.descriptor)

-- a step that processed a post
abbrev pub after_step : Happening Ioc → Called Ioc Bool
after_step o = record { part = o.part; told = o.entries; answer = true }

-- a step of an empty queue, which changes nothing
abbrev pub idle : Ioc → Called Ioc Bool
idle ioc = record { part = ioc; told = []; answer = false }

-- the front of the high queue is processed
abbrev pub steps_high_on : Ioc → List Post → Called Ioc Bool
steps_high_on ioc [] = idle ioc
steps_high_on ioc (p ∷ rest) = after_step (works_on (record ioc { high = rest }) p)

-- the work step of the high queue
abbrev pub steps_high : Ioc → Called Ioc Bool
steps_high ioc = steps_high_on ioc ioc.high

-- the front of the normal queue is processed
abbrev pub steps_normal_on : Ioc → List Post → Called Ioc Bool
steps_normal_on ioc [] = idle ioc
steps_normal_on ioc (p ∷ rest) = after_step (works_on (record ioc { normal = rest }) p)

-- the work step of the normal queue
abbrev pub steps_normal : Ioc → Called Ioc Bool
steps_normal ioc = steps_normal_on ioc ioc.normal
