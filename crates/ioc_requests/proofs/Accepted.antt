-- A frame that stands for a message of its kind isn't refused.
use Rattle.std.proofs.Common.{◌≡◌, ℕ, ◌≤◌, nat_lt, true, false, List, length, slice_index, Option, Some, None, refl, ap, sym, ◌∙◌, subst, arith}
use Rattle.std.proofs.lemmas.Bool.Decides.{nat_tests}
use Rattle.mpi_rings.specs.declared.request_descriptor.PostKind.{PostKind}
use Rattle.mpi_rings.specs.declared.request_descriptor.PostKind.TheVariants as post
use Rattle.mpi_layout.specs.Rows.{Shape, Stands, first_fault}
use Rattle.mpi_layout.proofs.Obeyed.{field-one}
use Rattle.mpt_messages.specs.declared.function.Function.{Function}
use Rattle.mpt_messages.specs.declared.function.Kind.{Kind}
use Rattle.mpt_messages.specs.declared.function.Kind.TheVariants as kind
use Rattle.mpt_messages.specs.declared.message.Message.{Message}
use Rattle.mpt_messages.specs.declared.message.Message.TheVariants as message
use Rattle.mpt_messages.specs.Function.{function_of, kind_of}
use Rattle.mpt_messages.specs.Message.{MessageStands, request_function}
use Rattle.mpt_messages.specs.Refusal.{IsOfKind, is_kind, request_fault, request_refusal}
use Rattle.mpt_messages.proofs.FunctionByte.{request_known, same_some}
use Rattle.config_pages.specs.ConfigAsk.{config_ask_layout, config_ask_values}
use Rattle.event_msgs.specs.EventAck.{event_ack_layout, event_ack_values}
use Rattle.event_msgs.specs.EventAsk.{event_ask_layout, event_ask_values}
use Rattle.ioc_msgs.specs.PortEnable.{port_enable_layout, port_enable_values}
use Rattle.ioc_msgs.specs.UnitControl.{unit_control_layout, unit_control_values}
use Rattle.scsi_msgs.specs.ScsiIo.{scsi_io_layout, scsi_io_values}
use Rattle.scsi_msgs.specs.TaskAsk.{task_ask_layout, task_ask_values}
use Rattle.mpt_rules.specs.Ioc.Steps.{way_of}
use Rattle.ioc_requests.specs.Asked.{AskedStands, IsAsked, function_asking, kind_asking}
use Rattle.ioc_requests.specs.declared.asked.Asked.{Asked}
use Rattle.ioc_requests.specs.declared.asked.Asked.TheVariants as asked

-- what stands for a layout has no fault
faultless : (layout : Shape) (values bytes : List ℕ) → Stands layout values bytes → first_fault layout bytes ≡ None
faultless layout values bytes s =
    let enough : nat_lt (length bytes) layout.length ≡ false = (let e = s.enough in grind (arith, nat_tests, e)) in
    rw (enough, s.obeyed) refl

same_kind : (k : Kind) → is_kind k k ≡ true
same_kind kind.ScsiIo = refl
same_kind kind.HighPriority = refl
same_kind kind.Default = refl
same_kind kind.Handshake = refl

accepted_as : (k : Kind) (bytes : List ℕ) (f : Function) → 12 ≤ length bytes → function_of (slice_index bytes 3) ≡ Some f → kind_of f ≡ k → request_fault f bytes ≡ None → request_refusal k bytes ≡ None
accepted_as k bytes f enough byte of_kind none =
    let long : nat_lt (length bytes) 12 ≡ false = grind (arith, nat_tests, enough) in
    rw (long, byte, of_kind, same_kind k, none) refl

-- what a message asks in a post, if it travels so
abbrev pub asked_in : Message → Option Asked
asked_in (message.ScsiIo m) = Some (asked.Command m)
asked_in (message.TaskAsk m) = Some (asked.Task m)
asked_in (message.IocInit m) = None
asked_in (message.IocFacts m) = None
asked_in (message.ConfigAsk m) = Some (asked.Page m)
asked_in (message.PortFacts m) = None
asked_in (message.PortEnable m) = Some asked.Enable
asked_in (message.EventAsk m) = Some (asked.Notification m)
asked_in (message.EventAck m) = Some (asked.Ack m)
asked_in (message.UnitControl m) = Some (asked.Control m)
asked_in (message.ScsiReply m) = None
asked_in (message.TaskReply m) = None
asked_in (message.IocInitReply m) = None
asked_in (message.IocFactsReply m) = None
asked_in (message.ConfigReply m) = None
asked_in (message.PortFactsReply m) = None
asked_in (message.PortEnableReply m) = None
asked_in (message.EventReply m) = None
asked_in (message.EventAckReply m) = None
asked_in (message.UnitControlReply m) = None

-- what is known of a message that asks so
record Asks (m : Message) (a : Asked) (bytes : List ℕ) : Type 0 where
  of_message : request_function m ≡ Some (function_asking a)
  stands : AskedStands a bytes
  unfaulted : request_fault (function_asking a) bytes ≡ None

asks : (m : Message) (a : Asked) (bytes : List ℕ) → asked_in m ≡ Some a → MessageStands m bytes → Asks m a bytes
asks (message.ScsiIo m) a bytes is s =
    subst (λ (b : Asked). Asks (message.ScsiIo m) b bytes) (same_some (asked.Command m) a is) (record { of_message = refl; stands = s; unfaulted = faultless scsi_io_layout (scsi_io_values m) bytes s })
asks (message.TaskAsk m) a bytes is s =
    subst (λ (b : Asked). Asks (message.TaskAsk m) b bytes) (same_some (asked.Task m) a is) (record { of_message = refl; stands = s; unfaulted = faultless task_ask_layout (task_ask_values m) bytes s })
asks (message.IocInit m) a bytes is s = absurd (cc)
asks (message.IocFacts m) a bytes is s = absurd (cc)
asks (message.ConfigAsk m) a bytes is s =
    subst (λ (b : Asked). Asks (message.ConfigAsk m) b bytes) (same_some (asked.Page m) a is) (record { of_message = refl; stands = s; unfaulted = faultless config_ask_layout (config_ask_values m) bytes s })
asks (message.PortFacts m) a bytes is s = absurd (cc)
asks (message.PortEnable m) a bytes is s =
    subst (λ (b : Asked). Asks (message.PortEnable m) b bytes) (same_some asked.Enable a is) (record { of_message = refl; stands = tt; unfaulted = faultless port_enable_layout (port_enable_values m) bytes s })
asks (message.EventAsk m) a bytes is s =
    subst (λ (b : Asked). Asks (message.EventAsk m) b bytes) (same_some (asked.Notification m) a is) (record { of_message = refl; stands = s; unfaulted = faultless event_ask_layout (event_ask_values m) bytes s })
asks (message.EventAck m) a bytes is s =
    subst (λ (b : Asked). Asks (message.EventAck m) b bytes) (same_some (asked.Ack m) a is) (record { of_message = refl; stands = s; unfaulted = faultless event_ack_layout (event_ack_values m) bytes s })
asks (message.UnitControl m) a bytes is s =
    subst (λ (b : Asked). Asks (message.UnitControl m) b bytes) (same_some (asked.Control m) a is) (record { of_message = refl; stands = s; unfaulted = faultless unit_control_layout (unit_control_values m) bytes s })
asks (message.ScsiReply m) a bytes is s = absurd (cc)
asks (message.TaskReply m) a bytes is s = absurd (cc)
asks (message.IocInitReply m) a bytes is s = absurd (cc)
asks (message.IocFactsReply m) a bytes is s = absurd (cc)
asks (message.ConfigReply m) a bytes is s = absurd (cc)
asks (message.PortFactsReply m) a bytes is s = absurd (cc)
asks (message.PortEnableReply m) a bytes is s = absurd (cc)
asks (message.EventReply m) a bytes is s = absurd (cc)
asks (message.EventAckReply m) a bytes is s = absurd (cc)
asks (message.UnitControlReply m) a bytes is s = absurd (cc)

way_same : (j k : PostKind) → way_of j ≡ way_of k → j ≡ k
way_same post.ScsiIo post.ScsiIo is = refl
way_same post.ScsiIo post.HighPriority is = absurd (cc)
way_same post.ScsiIo post.Default is = absurd (cc)
way_same post.HighPriority post.ScsiIo is = absurd (cc)
way_same post.HighPriority post.HighPriority is = refl
way_same post.HighPriority post.Default is = absurd (cc)
way_same post.Default post.ScsiIo is = absurd (cc)
way_same post.Default post.HighPriority is = absurd (cc)
way_same post.Default post.Default is = refl

kind_asked : (a : Asked) → kind_of (function_asking a) ≡ way_of (kind_asking a)
kind_asked (asked.Command io) = refl
kind_asked (asked.Task ask) = refl
kind_asked (asked.Page ask) = refl
kind_asked asked.Enable = refl
kind_asked (asked.Notification ask) = refl
kind_asked (asked.Ack ack) = refl
kind_asked (asked.Control ask) = refl

-- a message that travels as the kind of post
pub asked_is : (k : PostKind) (m : Message) (a : Asked) (bytes : List ℕ) → asked_in m ≡ Some a → IsOfKind (way_of k) m → MessageStands m bytes → IsAsked k a bytes
asked_is k m a bytes is of_kind s =
    let known = request_known (way_of k) m bytes of_kind s in
    let asking = asks m a bytes is s in
    let function : known.function ≡ function_asking a = same_some known.function (function_asking a) (sym known.of_message ∙ asking.of_message) in
    let byte : function_of (slice_index bytes 3) ≡ Some (function_asking a) = known.byte ∙ ap Some function in
    let way : kind_of (function_asking a) ≡ way_of k = ap kind_of (sym function) ∙ known.of_kind in
    record {
      kind_is = way_same k (kind_asking a) (sym way ∙ kind_asked a);
      accepted = accepted_as (way_of k) bytes (function_asking a) known.enough byte way asking.unfaulted;
      function_is = ap function_of (field-one bytes 3) ∙ byte;
      stands = asking.stands;
    }

-- no post goes by the doorbell
no_handshake : (k : PostKind) → Some kind.Handshake ≡ Some (way_of k) → ⊥
no_handshake post.ScsiIo e = cc
no_handshake post.HighPriority e = cc
no_handshake post.Default e = cc

-- and the others don't
pub none_travels : (k : PostKind) (m : Message) → asked_in m ≡ None → IsOfKind (way_of k) m → ⊥
none_travels k (message.ScsiIo m) is of_kind = cc
none_travels k (message.TaskAsk m) is of_kind = cc
none_travels k (message.IocInit m) is of_kind = no_handshake k of_kind
none_travels k (message.IocFacts m) is of_kind = no_handshake k of_kind
none_travels k (message.ConfigAsk m) is of_kind = cc
none_travels k (message.PortFacts m) is of_kind = no_handshake k of_kind
none_travels k (message.PortEnable m) is of_kind = cc
none_travels k (message.EventAsk m) is of_kind = cc
none_travels k (message.EventAck m) is of_kind = cc
none_travels k (message.UnitControl m) is of_kind = cc
none_travels k (message.ScsiReply m) is of_kind = cc
none_travels k (message.TaskReply m) is of_kind = cc
none_travels k (message.IocInitReply m) is of_kind = cc
none_travels k (message.IocFactsReply m) is of_kind = cc
none_travels k (message.ConfigReply m) is of_kind = cc
none_travels k (message.PortFactsReply m) is of_kind = cc
none_travels k (message.PortEnableReply m) is of_kind = cc
none_travels k (message.EventReply m) is of_kind = cc
none_travels k (message.EventAckReply m) is of_kind = cc
none_travels k (message.UnitControlReply m) is of_kind = cc
