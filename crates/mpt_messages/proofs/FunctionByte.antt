-- The byte at 03 of bytes that stand for a message is its function's.
use Rattle.std.proofs.Common.{◌≡◌, ℕ, ◌<◌, ◌≤◌, true, List, [], length, get_or, slice_index, Option, Some, None, refl, ap, ◌∙◌, lit<, lit≤, subst, arith}
use Rattle.std.specs.Option.{option_map}
use Rattle.std.proofs.lemmas.Bool.Decides.{nat_tests}
use Rattle.mpi_layout.specs.declared.row.Form.TheVariants.{Number}
use Rattle.mpi_layout.specs.declared.row.Rule.{Rule}
use Rattle.mpi_layout.specs.declared.row.Rule.TheVariants as rule
use Rattle.mpi_layout.specs.Rows.{RowShape, Shape, Stands, field, number_in, obeys}
use Rattle.mpi_layout.proofs.Obeyed.{obeyed_row, field-one}
use Rattle.mpt_messages.specs.declared.message.Message.{Message}
use Rattle.mpt_messages.specs.declared.message.Message.TheVariants as message
use Rattle.mpt_messages.specs.declared.function.Function.{Function}
use Rattle.mpt_messages.specs.declared.function.Function.TheVariants as function
use Rattle.mpt_messages.specs.declared.function.Kind.{Kind}
use Rattle.mpt_messages.specs.Function.{byte_of, function_of, kind_of}
use Rattle.mpt_messages.specs.Message.{MessageStands, reply_function, request_function}
use Rattle.mpt_messages.specs.Refusal.{IsOfKind}
use Rattle.scsi_msgs.specs.declared.scsi_io.ScsiIo.{ScsiIo}
use Rattle.scsi_msgs.specs.ScsiIo.{ScsiIoStands, scsi_io_layout, scsi_io_values}
use Rattle.scsi_msgs.specs.declared.task_ask.TaskAsk.{TaskAsk}
use Rattle.scsi_msgs.specs.TaskAsk.{TaskAskStands, task_ask_layout, task_ask_values}
use Rattle.ioc_msgs.specs.declared.ioc_init.IocInit.{IocInit}
use Rattle.ioc_msgs.specs.IocInit.{IocInitStands, ioc_init_layout, ioc_init_values}
use Rattle.ioc_msgs.specs.declared.ioc_facts.IocFacts.{IocFacts}
use Rattle.ioc_msgs.specs.IocFacts.{IocFactsStands, ioc_facts_layout, ioc_facts_values}
use Rattle.config_pages.specs.declared.config_ask.ConfigAsk.{ConfigAsk}
use Rattle.config_pages.specs.ConfigAsk.{ConfigAskStands, config_ask_layout, config_ask_values}
use Rattle.ioc_msgs.specs.declared.port_facts.PortFacts.{PortFacts}
use Rattle.ioc_msgs.specs.PortFacts.{PortFactsStands, port_facts_layout, port_facts_values}
use Rattle.ioc_msgs.specs.declared.port_enable.PortEnable.{PortEnable}
use Rattle.ioc_msgs.specs.PortEnable.{PortEnableStands, port_enable_layout, port_enable_values}
use Rattle.event_msgs.specs.declared.event_ask.EventAsk.{EventAsk}
use Rattle.event_msgs.specs.EventAsk.{EventAskStands, event_ask_layout, event_ask_values}
use Rattle.event_msgs.specs.declared.event_ack.EventAck.{EventAck}
use Rattle.event_msgs.specs.EventAck.{EventAckStands, event_ack_layout, event_ack_values}
use Rattle.ioc_msgs.specs.declared.unit_control.UnitControl.{UnitControl}
use Rattle.ioc_msgs.specs.UnitControl.{UnitControlStands, unit_control_layout, unit_control_values}
use Rattle.scsi_msgs.specs.declared.scsi_reply.ScsiReply.{ScsiReply}
use Rattle.scsi_msgs.specs.ScsiReply.{ScsiReplyStands, scsi_reply_layout, scsi_reply_values}
use Rattle.scsi_msgs.specs.declared.task_reply.TaskReply.{TaskReply}
use Rattle.scsi_msgs.specs.TaskReply.{TaskReplyStands, task_reply_layout, task_reply_values}
use Rattle.ioc_msgs.specs.declared.ioc_init_reply.IocInitReply.{IocInitReply}
use Rattle.ioc_msgs.specs.IocInitReply.{IocInitReplyStands, ioc_init_reply_layout, ioc_init_reply_values}
use Rattle.ioc_msgs.specs.declared.ioc_facts_reply.IocFactsReply.{IocFactsReply}
use Rattle.ioc_msgs.specs.IocFactsReply.{IocFactsReplyStands, ioc_facts_reply_layout, ioc_facts_reply_values}
use Rattle.config_pages.specs.declared.config_reply.ConfigReply.{ConfigReply}
use Rattle.config_pages.specs.ConfigReply.{ConfigReplyStands, config_reply_layout, config_reply_values}
use Rattle.ioc_msgs.specs.declared.port_facts_reply.PortFactsReply.{PortFactsReply}
use Rattle.ioc_msgs.specs.PortFactsReply.{PortFactsReplyStands, port_facts_reply_layout, port_facts_reply_values}
use Rattle.ioc_msgs.specs.declared.port_enable_reply.PortEnableReply.{PortEnableReply}
use Rattle.ioc_msgs.specs.PortEnableReply.{PortEnableReplyStands, port_enable_reply_layout, port_enable_reply_values}
use Rattle.event_msgs.specs.declared.event_reply.EventReply.{EventReply}
use Rattle.event_msgs.specs.EventReply.{EventReplyStands, event_reply_layout, event_reply_values}
use Rattle.event_msgs.specs.declared.event_ack_reply.EventAckReply.{EventAckReply}
use Rattle.event_msgs.specs.EventAckReply.{EventAckReplyStands, event_ack_reply_layout, event_ack_reply_values}
use Rattle.ioc_msgs.specs.declared.unit_control_reply.UnitControlReply.{UnitControlReply}
use Rattle.ioc_msgs.specs.UnitControlReply.{UnitControlReplyStands, unit_control_reply_layout, unit_control_reply_values}

-- a row that no layout has, for lists that are too short
abbrev no_row : RowShape
no_row = record { name = []; at = 0; width = 0; rule = rule.Any; form = Number }

-- the bytes are enough for the fixed part, and the byte at 03 is the function's
abbrev HasFunction : ℕ → Function → List ℕ → Type 0
HasFunction least f bytes = (least ≤ length bytes) × (slice_index bytes 3 ≡ byte_of f)

is_rule : (value only : ℕ) → obeys (rule.Is only) value ≡ true → value ≡ only
is_rule value only h = grind (arith, nat_tests)

-- a layout whose row i is the byte at 03, with this value alone
row_function : (layout : Shape) (values bytes : List ℕ) (i least : ℕ) (f : Function) → Stands layout values bytes → i < length layout.rows → (get_or layout.rows i no_row).at ≡ 3 → (get_or layout.rows i no_row).width ≡ 1 → (get_or layout.rows i no_row).rule ≡ rule.Is (byte_of f) → least ≤ layout.length → HasFunction least f bytes
row_function layout values bytes i least f stands less at width only enough =
    let row : RowShape = get_or layout.rows i no_row in
    let obeyed : obeys row.rule (number_in bytes row) ≡ true = obeyed_row layout.rows bytes i no_row stands.obeyed less in
    let here : field bytes row.at row.width ≡ slice_index bytes 3 = ap (λ a. field bytes a row.width) at ∙ ap (λ w. field bytes 3 w) width ∙ field-one bytes 3 in
    let is : obeys (rule.Is (byte_of f)) (slice_index bytes 3) ≡ true = subst (λ (r : Rule). obeys r (slice_index bytes 3) ≡ true) only (subst (λ v. obeys row.rule v ≡ true) here obeyed) in
    (omega (arith, stands.enough), is_rule (slice_index bytes 3) (byte_of f) is)

scsi_io-function : (m : ScsiIo) (bytes : List ℕ) → ScsiIoStands m bytes → HasFunction 12 function.ScsiIo bytes
unfolding scsi_io_layout
scsi_io-function m bytes stands = row_function scsi_io_layout (scsi_io_values m) bytes 2 12 function.ScsiIo stands (lit< tt) refl refl refl (lit≤ tt)

task_ask-function : (m : TaskAsk) (bytes : List ℕ) → TaskAskStands m bytes → HasFunction 12 function.TaskManagement bytes
unfolding task_ask_layout
task_ask-function m bytes stands = row_function task_ask_layout (task_ask_values m) bytes 2 12 function.TaskManagement stands (lit< tt) refl refl refl (lit≤ tt)

ioc_init-function : (m : IocInit) (bytes : List ℕ) → IocInitStands m bytes → HasFunction 12 function.IocInit bytes
unfolding ioc_init_layout
ioc_init-function m bytes stands = row_function ioc_init_layout (ioc_init_values m) bytes 3 12 function.IocInit stands (lit< tt) refl refl refl (lit≤ tt)

ioc_facts-function : (m : IocFacts) (bytes : List ℕ) → IocFactsStands m bytes → HasFunction 12 function.IocFacts bytes
unfolding ioc_facts_layout
ioc_facts-function m bytes stands = row_function ioc_facts_layout (ioc_facts_values m) bytes 2 12 function.IocFacts stands (lit< tt) refl refl refl (lit≤ tt)

config_ask-function : (m : ConfigAsk) (bytes : List ℕ) → ConfigAskStands m bytes → HasFunction 12 function.Config bytes
unfolding config_ask_layout
config_ask-function m bytes stands = row_function config_ask_layout (config_ask_values m) bytes 3 12 function.Config stands (lit< tt) refl refl refl (lit≤ tt)

port_facts-function : (m : PortFacts) (bytes : List ℕ) → PortFactsStands m bytes → HasFunction 12 function.PortFacts bytes
unfolding port_facts_layout
port_facts-function m bytes stands = row_function port_facts_layout (port_facts_values m) bytes 2 12 function.PortFacts stands (lit< tt) refl refl refl (lit≤ tt)

port_enable-function : (m : PortEnable) (bytes : List ℕ) → PortEnableStands m bytes → HasFunction 12 function.PortEnable bytes
unfolding port_enable_layout
port_enable-function m bytes stands = row_function port_enable_layout (port_enable_values m) bytes 2 12 function.PortEnable stands (lit< tt) refl refl refl (lit≤ tt)

event_ask-function : (m : EventAsk) (bytes : List ℕ) → EventAskStands m bytes → HasFunction 12 function.EventNotification bytes
unfolding event_ask_layout
event_ask-function m bytes stands = row_function event_ask_layout (event_ask_values m) bytes 2 12 function.EventNotification stands (lit< tt) refl refl refl (lit≤ tt)

event_ack-function : (m : EventAck) (bytes : List ℕ) → EventAckStands m bytes → HasFunction 12 function.EventAck bytes
unfolding event_ack_layout
event_ack-function m bytes stands = row_function event_ack_layout (event_ack_values m) bytes 2 12 function.EventAck stands (lit< tt) refl refl refl (lit≤ tt)

unit_control-function : (m : UnitControl) (bytes : List ℕ) → UnitControlStands m bytes → HasFunction 12 function.UnitControl bytes
unfolding unit_control_layout
unit_control-function m bytes stands = row_function unit_control_layout (unit_control_values m) bytes 3 12 function.UnitControl stands (lit< tt) refl refl refl (lit≤ tt)

scsi_reply-function : (m : ScsiReply) (bytes : List ℕ) → ScsiReplyStands m bytes → HasFunction 20 function.ScsiIo bytes
unfolding scsi_reply_layout
scsi_reply-function m bytes stands = row_function scsi_reply_layout (scsi_reply_values m) bytes 2 20 function.ScsiIo stands.fixed (lit< tt) refl refl refl (lit≤ tt)

task_reply-function : (m : TaskReply) (bytes : List ℕ) → TaskReplyStands m bytes → HasFunction 20 function.TaskManagement bytes
unfolding task_reply_layout
task_reply-function m bytes stands = row_function task_reply_layout (task_reply_values m) bytes 2 20 function.TaskManagement stands (lit< tt) refl refl refl (lit≤ tt)

ioc_init_reply-function : (m : IocInitReply) (bytes : List ℕ) → IocInitReplyStands m bytes → HasFunction 20 function.IocInit bytes
unfolding ioc_init_reply_layout
ioc_init_reply-function m bytes stands = row_function ioc_init_reply_layout (ioc_init_reply_values m) bytes 3 20 function.IocInit stands (lit< tt) refl refl refl (lit≤ tt)

ioc_facts_reply-function : (m : IocFactsReply) (bytes : List ℕ) → IocFactsReplyStands m bytes → HasFunction 20 function.IocFacts bytes
unfolding ioc_facts_reply_layout
ioc_facts_reply-function m bytes stands = row_function ioc_facts_reply_layout (ioc_facts_reply_values m) bytes 2 20 function.IocFacts stands (lit< tt) refl refl refl (lit≤ tt)

config_reply-function : (m : ConfigReply) (bytes : List ℕ) → ConfigReplyStands m bytes → HasFunction 20 function.Config bytes
unfolding config_reply_layout
config_reply-function m bytes stands = row_function config_reply_layout (config_reply_values m) bytes 3 20 function.Config stands (lit< tt) refl refl refl (lit≤ tt)

port_facts_reply-function : (m : PortFactsReply) (bytes : List ℕ) → PortFactsReplyStands m bytes → HasFunction 20 function.PortFacts bytes
unfolding port_facts_reply_layout
port_facts_reply-function m bytes stands = row_function port_facts_reply_layout (port_facts_reply_values m) bytes 2 20 function.PortFacts stands (lit< tt) refl refl refl (lit≤ tt)

port_enable_reply-function : (m : PortEnableReply) (bytes : List ℕ) → PortEnableReplyStands m bytes → HasFunction 20 function.PortEnable bytes
unfolding port_enable_reply_layout
port_enable_reply-function m bytes stands = row_function port_enable_reply_layout (port_enable_reply_values m) bytes 2 20 function.PortEnable stands (lit< tt) refl refl refl (lit≤ tt)

event_reply-function : (m : EventReply) (bytes : List ℕ) → EventReplyStands m bytes → HasFunction 20 function.EventNotification bytes
unfolding event_reply_layout
event_reply-function m bytes stands = row_function event_reply_layout (event_reply_values m) bytes 2 20 function.EventNotification stands.fixed (lit< tt) refl refl refl (lit≤ tt)

event_ack_reply-function : (m : EventAckReply) (bytes : List ℕ) → EventAckReplyStands m bytes → HasFunction 20 function.EventAck bytes
unfolding event_ack_reply_layout
event_ack_reply-function m bytes stands = row_function event_ack_reply_layout (event_ack_reply_values m) bytes 2 20 function.EventAck stands (lit< tt) refl refl refl (lit≤ tt)

unit_control_reply-function : (m : UnitControlReply) (bytes : List ℕ) → UnitControlReplyStands m bytes → HasFunction 20 function.UnitControl bytes
unfolding unit_control_reply_layout
unit_control_reply-function m bytes stands = row_function unit_control_reply_layout (unit_control_reply_values m) bytes 3 20 function.UnitControl stands (lit< tt) refl refl refl (lit≤ tt)

-- an option's value is one
pub same_some : {X : Type 0} (a b : X) → Some a ≡ Some b → a ≡ b
same_some a b e = cc

-- the byte at 03 of a request is its function's
request_has_function : (m : Message) (bytes : List ℕ) (f : Function) → request_function m ≡ Some f → MessageStands m bytes → HasFunction 12 f bytes
request_has_function (message.ScsiIo m) bytes f e stands = subst (λ (g : Function). HasFunction 12 g bytes) (same_some function.ScsiIo f e) (scsi_io-function m bytes stands)
request_has_function (message.TaskAsk m) bytes f e stands = subst (λ (g : Function). HasFunction 12 g bytes) (same_some function.TaskManagement f e) (task_ask-function m bytes stands)
request_has_function (message.IocInit m) bytes f e stands = subst (λ (g : Function). HasFunction 12 g bytes) (same_some function.IocInit f e) (ioc_init-function m bytes stands)
request_has_function (message.IocFacts m) bytes f e stands = subst (λ (g : Function). HasFunction 12 g bytes) (same_some function.IocFacts f e) (ioc_facts-function m bytes stands)
request_has_function (message.ConfigAsk m) bytes f e stands = subst (λ (g : Function). HasFunction 12 g bytes) (same_some function.Config f e) (config_ask-function m bytes stands)
request_has_function (message.PortFacts m) bytes f e stands = subst (λ (g : Function). HasFunction 12 g bytes) (same_some function.PortFacts f e) (port_facts-function m bytes stands)
request_has_function (message.PortEnable m) bytes f e stands = subst (λ (g : Function). HasFunction 12 g bytes) (same_some function.PortEnable f e) (port_enable-function m bytes stands)
request_has_function (message.EventAsk m) bytes f e stands = subst (λ (g : Function). HasFunction 12 g bytes) (same_some function.EventNotification f e) (event_ask-function m bytes stands)
request_has_function (message.EventAck m) bytes f e stands = subst (λ (g : Function). HasFunction 12 g bytes) (same_some function.EventAck f e) (event_ack-function m bytes stands)
request_has_function (message.UnitControl m) bytes f e stands = subst (λ (g : Function). HasFunction 12 g bytes) (same_some function.UnitControl f e) (unit_control-function m bytes stands)
request_has_function (message.ScsiReply m) bytes f e stands = cc
request_has_function (message.TaskReply m) bytes f e stands = cc
request_has_function (message.IocInitReply m) bytes f e stands = cc
request_has_function (message.IocFactsReply m) bytes f e stands = cc
request_has_function (message.ConfigReply m) bytes f e stands = cc
request_has_function (message.PortFactsReply m) bytes f e stands = cc
request_has_function (message.PortEnableReply m) bytes f e stands = cc
request_has_function (message.EventReply m) bytes f e stands = cc
request_has_function (message.EventAckReply m) bytes f e stands = cc
request_has_function (message.UnitControlReply m) bytes f e stands = cc

-- and so of a reply
reply_has_function : (m : Message) (bytes : List ℕ) (f : Function) → reply_function m ≡ Some f → MessageStands m bytes → HasFunction 20 f bytes
reply_has_function (message.ScsiIo m) bytes f e stands = cc
reply_has_function (message.TaskAsk m) bytes f e stands = cc
reply_has_function (message.IocInit m) bytes f e stands = cc
reply_has_function (message.IocFacts m) bytes f e stands = cc
reply_has_function (message.ConfigAsk m) bytes f e stands = cc
reply_has_function (message.PortFacts m) bytes f e stands = cc
reply_has_function (message.PortEnable m) bytes f e stands = cc
reply_has_function (message.EventAsk m) bytes f e stands = cc
reply_has_function (message.EventAck m) bytes f e stands = cc
reply_has_function (message.UnitControl m) bytes f e stands = cc
reply_has_function (message.ScsiReply m) bytes f e stands = subst (λ (g : Function). HasFunction 20 g bytes) (same_some function.ScsiIo f e) (scsi_reply-function m bytes stands)
reply_has_function (message.TaskReply m) bytes f e stands = subst (λ (g : Function). HasFunction 20 g bytes) (same_some function.TaskManagement f e) (task_reply-function m bytes stands)
reply_has_function (message.IocInitReply m) bytes f e stands = subst (λ (g : Function). HasFunction 20 g bytes) (same_some function.IocInit f e) (ioc_init_reply-function m bytes stands)
reply_has_function (message.IocFactsReply m) bytes f e stands = subst (λ (g : Function). HasFunction 20 g bytes) (same_some function.IocFacts f e) (ioc_facts_reply-function m bytes stands)
reply_has_function (message.ConfigReply m) bytes f e stands = subst (λ (g : Function). HasFunction 20 g bytes) (same_some function.Config f e) (config_reply-function m bytes stands)
reply_has_function (message.PortFactsReply m) bytes f e stands = subst (λ (g : Function). HasFunction 20 g bytes) (same_some function.PortFacts f e) (port_facts_reply-function m bytes stands)
reply_has_function (message.PortEnableReply m) bytes f e stands = subst (λ (g : Function). HasFunction 20 g bytes) (same_some function.PortEnable f e) (port_enable_reply-function m bytes stands)
reply_has_function (message.EventReply m) bytes f e stands = subst (λ (g : Function). HasFunction 20 g bytes) (same_some function.EventNotification f e) (event_reply-function m bytes stands)
reply_has_function (message.EventAckReply m) bytes f e stands = subst (λ (g : Function). HasFunction 20 g bytes) (same_some function.EventAck f e) (event_ack_reply-function m bytes stands)
reply_has_function (message.UnitControlReply m) bytes f e stands = subst (λ (g : Function). HasFunction 20 g bytes) (same_some function.UnitControl f e) (unit_control_reply-function m bytes stands)

-- a function's byte names it
function_of-byte_of : (f : Function) → function_of (byte_of f) ≡ Some f
function_of-byte_of function.ScsiIo = refl
function_of-byte_of function.TaskManagement = refl
function_of-byte_of function.IocInit = refl
function_of-byte_of function.IocFacts = refl
function_of-byte_of function.Config = refl
function_of-byte_of function.PortFacts = refl
function_of-byte_of function.PortEnable = refl
function_of-byte_of function.EventNotification = refl
function_of-byte_of function.EventAck = refl
function_of-byte_of function.UnitControl = refl

-- what is known of a request of a kind that the bytes stand for
pub record RequestFunction (kind : Kind) (m : Message) (bytes : List ℕ) : Type 0 where
  pub function : Function
  pub of_message : request_function m ≡ Some function
  pub of_kind : kind_of function ≡ kind
  pub enough : 12 ≤ length bytes
  pub byte : function_of (slice_index bytes 3) ≡ Some function

pub request_known : (kind : Kind) (m : Message) (bytes : List ℕ) → IsOfKind kind m → MessageStands m bytes → RequestFunction kind m bytes
request_known kind m bytes ofKind stands = split (request_function m) refl ofKind where
  split : (f : Option Function) → request_function m ≡ f → option_map kind_of f ≡ Some kind → RequestFunction kind m bytes
  split None is e = cc
  split (Some f) is e =
      let has = request_has_function m bytes f is stands in
      record { function = f; of_message = is; of_kind = same_some (kind_of f) kind e; enough = has.0; byte = ap function_of has.1 ∙ function_of-byte_of f }

-- what is known of a reply that the bytes stand for
pub record ReplyFunction (m : Message) (bytes : List ℕ) : Type 0 where
  pub function : Function
  pub of_message : reply_function m ≡ Some function
  pub enough : 20 ≤ length bytes
  pub byte : function_of (slice_index bytes 3) ≡ Some function

pub reply_known : (m : Message) (bytes : List ℕ) → (reply_function m ≡ None → ⊥) → MessageStands m bytes → ReplyFunction m bytes
reply_known m bytes isReply stands = split (reply_function m) refl where
  split : (f : Option Function) → reply_function m ≡ f → ReplyFunction m bytes
  split None is = absurd (isReply is)
  split (Some f) is =
      let has = reply_has_function m bytes f is stands in
      record { function = f; of_message = is; enough = has.0; byte = ap function_of has.1 ∙ function_of-byte_of f }
