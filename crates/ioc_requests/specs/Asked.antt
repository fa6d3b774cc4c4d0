-- What a post asks, and when its frame says so.
use Rattle.std.specs.Prelude.{◌≡◌, ℕ, List, Some, None}
use Rattle.mpi_rings.specs.declared.request_descriptor.PostKind.{PostKind}
use Rattle.mpi_rings.specs.declared.request_descriptor.PostKind.TheVariants as post
use Rattle.config_pages.specs.ConfigAsk.{ConfigAskStands}
use Rattle.event_msgs.specs.EventAck.{EventAckStands}
use Rattle.event_msgs.specs.EventAsk.{EventAskStands}
use Rattle.ioc_msgs.specs.UnitControl.{UnitControlStands}
use Rattle.scsi_msgs.specs.ScsiIo.{ScsiIoStands}
use Rattle.scsi_msgs.specs.TaskAsk.{TaskAskStands}
use Rattle.mpt_messages.specs.Function.{function_of}
use Rattle.mpt_messages.specs.Refusal.{request_refusal}
use Rattle.mpt_messages.specs.declared.function.Function.{Function}
use Rattle.mpt_messages.specs.declared.function.Function.TheVariants as function
use Rattle.mpt_wire.specs.Messages.Fields.{function_in, kind_in}
use Rattle.mpt_rules.specs.Ioc.Steps.{way_of}
use Rattle.mpt_rules.specs.declared.post.Post.{Post}
use Rattle.ioc_requests.specs.declared.asked.Asked.{Asked}
use Rattle.ioc_requests.specs.declared.asked.Asked.TheVariants as asked
use Rattle.ioc_requests.specs.declared.asked.PostRead.{PostRead}
use Rattle.ioc_requests.specs.declared.asked.PostRead.TheVariants as read

-- the kind of post that asks so
abbrev pub kind_asking : Asked → PostKind
kind_asking (asked.Command io) = post.ScsiIo
kind_asking (asked.Task ask) = post.HighPriority
kind_asking (asked.Page ask) = post.Default
kind_asking asked.Enable = post.Default
kind_asking (asked.Notification ask) = post.Default
kind_asking (asked.Ack ack) = post.Default
kind_asking (asked.Control ask) = post.Default

-- the function that asks so
abbrev pub function_asking : Asked → Function
function_asking (asked.Command io) = function.ScsiIo
function_asking (asked.Task ask) = function.TaskManagement
function_asking (asked.Page ask) = function.Config
function_asking asked.Enable = function.PortEnable
function_asking (asked.Notification ask) = function.EventNotification
function_asking (asked.Ack ack) = function.EventAck
function_asking (asked.Control ask) = function.UnitControl

-- the frame stands for the message
abbrev pub AskedStands : Asked → List ℕ → Type 0
AskedStands (asked.Command io) frame = ScsiIoStands io frame
AskedStands (asked.Task ask) frame = TaskAskStands ask frame
AskedStands (asked.Page ask) frame = ConfigAskStands ask frame
AskedStands asked.Enable frame = Unit {0}
AskedStands (asked.Notification ask) frame = EventAskStands ask frame
AskedStands (asked.Ack ack) frame = EventAckStands ack frame
AskedStands (asked.Control ask) frame = UnitControlStands ask frame

-- a post of the kind asks so by its frame
pub record IsAsked (kind : PostKind) (a : Asked) (frame : List ℕ) : Type 0 where
  pub kind_is : kind ≡ kind_asking a
  pub accepted : request_refusal (way_of kind) frame ≡ None
  pub function_is : function_of (function_in frame) ≡ Some (function_asking a)
  pub stands : AskedStands a frame

-- what the controller reads in a post
abbrev pub IsRead : Post → PostRead → Type 0
IsRead p read.Kindless = kind_in p.descriptor ≡ None
IsRead p (read.Refused kind fault) = (kind_in p.descriptor ≡ Some kind) × (request_refusal (way_of kind) p.frame ≡ Some fault)
IsRead p (read.Asks a) = (kind_in p.descriptor ≡ Some (kind_asking a)) × IsAsked (kind_asking a) a p.frame
