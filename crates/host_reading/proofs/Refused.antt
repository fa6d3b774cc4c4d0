-- Bytes that stand for a reply aren't refused.
use Rattle.std.proofs.Common.{◌≡◌, ◌∙◌, ℕ, ◌≤◌, nat_lt, false, List, length, slice_index, Option, Some, None, option_map, refl, sym, ap, arith}
use Rattle.std.specs.Prelude.{if◌then◌else◌}
use Rattle.std.proofs.lemmas.Bool.Decides.{nat_tests}
use Rattle.mpi_layout.proofs.Moves.{Stands-no_fault}
use Rattle.scsi_msgs.proofs.ScsiReplyTail.{ScsiReplyStands-not_refused}
use Rattle.event_msgs.proofs.EventBytes.{EventReplyStands-not_refused}
use Rattle.mpt_messages.specs.declared.function.Function.{Function}
use Rattle.mpt_messages.specs.declared.function.Function.TheVariants as function
use Rattle.mpt_messages.specs.declared.fault.MsgFault.TheVariants as refusal
use Rattle.mpt_messages.specs.declared.message.Message.{Message}
use Rattle.mpt_messages.specs.declared.message.Message.TheVariants as message
use Rattle.mpt_messages.specs.Function.{function_of}
use Rattle.mpt_messages.specs.Message.{MessageStands, reply_function}
use Rattle.mpt_messages.specs.Refusal.{reply_fault, reply_refusal_as}
use Rattle.mpt_messages.proofs.FunctionByte.{reply_known, same_some}
use Rattle.mpt_rules.specs.declared.why.Why.TheVariants as why
use Rattle.mpt_rules.specs.Host.Handshakes.{bad_bytes}

-- nor by the layout of its function
fault_none : (m : Message) (bytes : List ℕ) (f : Function) → reply_function m ≡ Some f → MessageStands m bytes → reply_fault f bytes ≡ None
fault_none (message.ScsiIo m) bytes f is stands = absurd (cc)
fault_none (message.TaskAsk m) bytes f is stands = absurd (cc)
fault_none (message.IocInit m) bytes f is stands = absurd (cc)
fault_none (message.IocFacts m) bytes f is stands = absurd (cc)
fault_none (message.ConfigAsk m) bytes f is stands = absurd (cc)
fault_none (message.PortFacts m) bytes f is stands = absurd (cc)
fault_none (message.PortEnable m) bytes f is stands = absurd (cc)
fault_none (message.EventAsk m) bytes f is stands = absurd (cc)
fault_none (message.EventAck m) bytes f is stands = absurd (cc)
fault_none (message.UnitControl m) bytes f is stands = absurd (cc)
fault_none (message.ScsiReply m) bytes f is stands = ap (λ (g : Function). reply_fault g bytes) (sym (same_some function.ScsiIo f is)) ∙ ScsiReplyStands-not_refused m bytes stands
fault_none (message.TaskReply m) bytes f is stands = ap (λ (g : Function). reply_fault g bytes) (sym (same_some function.TaskManagement f is)) ∙ Stands-no_fault _ _ bytes stands
fault_none (message.IocInitReply m) bytes f is stands = ap (λ (g : Function). reply_fault g bytes) (sym (same_some function.IocInit f is)) ∙ Stands-no_fault _ _ bytes stands
fault_none (message.IocFactsReply m) bytes f is stands = ap (λ (g : Function). reply_fault g bytes) (sym (same_some function.IocFacts f is)) ∙ Stands-no_fault _ _ bytes stands
fault_none (message.ConfigReply m) bytes f is stands = ap (λ (g : Function). reply_fault g bytes) (sym (same_some function.Config f is)) ∙ Stands-no_fault _ _ bytes stands
fault_none (message.PortFactsReply m) bytes f is stands = ap (λ (g : Function). reply_fault g bytes) (sym (same_some function.PortFacts f is)) ∙ Stands-no_fault _ _ bytes stands
fault_none (message.PortEnableReply m) bytes f is stands = ap (λ (g : Function). reply_fault g bytes) (sym (same_some function.PortEnable f is)) ∙ Stands-no_fault _ _ bytes stands
fault_none (message.EventReply m) bytes f is stands = ap (λ (g : Function). reply_fault g bytes) (sym (same_some function.EventNotification f is)) ∙ EventReplyStands-not_refused m bytes stands
fault_none (message.EventAckReply m) bytes f is stands = ap (λ (g : Function). reply_fault g bytes) (sym (same_some function.EventAck f is)) ∙ Stands-no_fault _ _ bytes stands
fault_none (message.UnitControlReply m) bytes f is stands = ap (λ (g : Function). reply_fault g bytes) (sym (same_some function.UnitControl f is)) ∙ Stands-no_fault _ _ bytes stands

refusal_none : (bytes : List ℕ) (o : Option Function) (f : Function) → 20 ≤ length bytes → o ≡ Some f → reply_fault f bytes ≡ None → (if nat_lt (length bytes) 20 then Some (refusal.Short 20 (length bytes)) else reply_refusal_as bytes o) ≡ None
refusal_none bytes o f enough is none =
    let long : nat_lt (length bytes) 20 ≡ false = grind (arith, nat_tests, enough) in
    rw (long, is, none) refl

-- so it is no bad frame
pub reply_stands : (m : Message) (bytes : List ℕ) → (reply_function m ≡ None → ⊥) → MessageStands m bytes → bad_bytes bytes ≡ None
reply_stands m bytes reply stands =
    let known = reply_known m bytes reply stands in
    ap (option_map why.BadFrame) (refusal_none bytes (function_of (slice_index bytes 3)) known.function known.enough known.byte (fault_none m bytes known.function known.of_message stands))

-- and is long enough to have a status
pub reply_long : (m : Message) (bytes : List ℕ) → (reply_function m ≡ None → ⊥) → MessageStands m bytes → 20 ≤ length bytes
reply_long m bytes reply stands = (reply_known m bytes reply stands).enough
