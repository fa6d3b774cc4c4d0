-- The reply of a handshake that was read.
use Rattle.std.proofs.Common.{◌≡◌, ◌∙◌, ◌⊎◌, ℕ, ◌==◌, ◌||◌, not, Bool, true, false, List, get_or, Option, Some, None, refl, sym, ap, inl, inr, slice_index, arith}
use Rattle.std.specs.Prelude.{if◌then◌else◌}
use Rattle.std.proofs.lemmas.Bool.{cases_Bool}
use Rattle.std.proofs.lemmas.Bool.Decides.{nat_tests}
use Rattle.mpi_layout.proofs.Obeyed.{field-one}
use Rattle.ioc_msgs.specs.declared.ioc_facts_reply.IocFactsReply.{IocFactsReply}
use Rattle.ioc_msgs.specs.IocFactsReply.{IocFactsReplyStands, ioc_facts_reply_layout, ioc_facts_reply_values}
use Rattle.mpt_messages.specs.declared.function.Function.{Function}
use Rattle.mpt_messages.specs.declared.function.Function.TheVariants as function
use Rattle.mpt_messages.specs.declared.message.Message.{Message}
use Rattle.mpt_messages.specs.declared.message.Message.TheVariants as message
use Rattle.mpt_messages.specs.Function.{byte_of, function_of}
use Rattle.mpt_messages.specs.Message.{MessageStands, reply_function}
use Rattle.mpt_messages.proofs.FunctionByte.{reply_known, same_some}
use Rattle.mpt_wire.specs.Messages.Fields.{function_in, high_priority_credit_in, ioc_request_frame_size_in, max_dev_handle_in, max_msix_vectors_in, min_dev_handle_in, reply_frame_size_in, request_credit_in}
use Rattle.mpt_rules.specs.Host.Parts.{Host, host_queue_count}
use Rattle.mpt_rules.specs.Host.Handshakes.{are_bad_facts, are_facts_for}
use Rattle.host_reading.specs.Checks.{are_bad_facts_of, are_facts_of}

-- ---- the byte of a function stands for it alone

if_step : (b k : ℕ) (h g : Function) (rest : Option Function) → (if b == k then Some h else rest) ≡ Some g → ((b ≡ k) × (h ≡ g)) ⊎ (rest ≡ Some g)
if_step b k h g rest is =
    elim (cases_Bool (b == k)) [
      | inl same ↦
          let e : b ≡ k = grind (arith, nat_tests, same) in
          let s : h ≡ g = same_some h g (ap (λ (t : Bool). if t then Some h else rest) (sym same) ∙ is) in
          inl (e, s)
      | inr differs ↦ inr (ap (λ (t : Bool). if t then Some h else rest) (sym differs) ∙ is)
    ]

no_function : (g : Function) → None ≡ Some g → ⊥
no_function g is = cc

byte_back : (b : ℕ) (g : Function) → function_of b ≡ Some g → b ≡ byte_of g
byte_back b g is =
    elim (if_step b 0x00 function.ScsiIo g _ is) [
      | inl found ↦ found.0 ∙ ap byte_of found.1
      | inr more ↦
          elim (if_step b 0x01 function.TaskManagement g _ more) [
            | inl found ↦ found.0 ∙ ap byte_of found.1
            | inr more ↦
                elim (if_step b 0x02 function.IocInit g _ more) [
                  | inl found ↦ found.0 ∙ ap byte_of found.1
                  | inr more ↦
                      elim (if_step b 0x03 function.IocFacts g _ more) [
                        | inl found ↦ found.0 ∙ ap byte_of found.1
                        | inr more ↦
                            elim (if_step b 0x04 function.Config g _ more) [
                              | inl found ↦ found.0 ∙ ap byte_of found.1
                              | inr more ↦
                                  elim (if_step b 0x05 function.PortFacts g _ more) [
                                    | inl found ↦ found.0 ∙ ap byte_of found.1
                                    | inr more ↦
                                        elim (if_step b 0x06 function.PortEnable g _ more) [
                                          | inl found ↦ found.0 ∙ ap byte_of found.1
                                          | inr more ↦
                                              elim (if_step b 0x07 function.EventNotification g _ more) [
                                                | inl found ↦ found.0 ∙ ap byte_of found.1
                                                | inr more ↦
                                                    elim (if_step b 0x08 function.EventAck g _ more) [
                                                      | inl found ↦ found.0 ∙ ap byte_of found.1
                                                      | inr more ↦
                                                          elim (if_step b 0x1b function.UnitControl g _ more) [
                                                            | inl found ↦ found.0 ∙ ap byte_of found.1
                                                            | inr more ↦
                                                                absurd (no_function g more)
                                                          ]
                                                    ]
                                              ]
                                        ]
                                  ]
                            ]
                      ]
                ]
          ]
    ]

-- the Function of a reply that the bytes stand for
pub function_read : (m : Message) (bytes : List ℕ) (g : Function) → (reply_function m ≡ None → ⊥) → MessageStands m bytes → reply_function m ≡ Some g → function_in bytes ≡ byte_of g
function_read m bytes g reply stands is =
    let known = reply_known m bytes reply stands in
    let same : known.function ≡ g = same_some known.function g (sym known.of_message ∙ is) in
    field-one bytes 3 ∙ byte_back (slice_index bytes 3) g (known.byte ∙ ap Some same)

-- ---- the facts

facts_read : (m : IocFactsReply) (bytes : List ℕ) (host : Host) (queues : ℕ) → host_queue_count host ≡ queues → IocFactsReplyStands m bytes → are_facts_of queues m ≡ are_facts_for host bytes
unfolding ioc_facts_reply_layout ioc_facts_reply_values
facts_read m bytes host queues count stands =
    let credit : request_credit_in bytes ≡ m.request_credit = ap (λ vs. get_or vs 16 0) stands.numbers in
    let high : high_priority_credit_in bytes ≡ m.high_priority_credit = ap (λ vs. get_or vs 27 0) stands.numbers in
    let request : ioc_request_frame_size_in bytes ≡ m.ioc_request_frame_size = ap (λ vs. get_or vs 20 0) stands.numbers in
    let reply : reply_frame_size_in bytes ≡ m.reply_frame_size = ap (λ vs. get_or vs 29 0) stands.numbers in
    let least : min_dev_handle_in bytes ≡ m.min_dev_handle = ap (λ vs. get_or vs 33 0) stands.numbers in
    let most : max_dev_handle_in bytes ≡ m.max_dev_handle = ap (λ vs. get_or vs 31 0) stands.numbers in
    let vectors : max_msix_vectors_in bytes ≡ m.max_msix_vectors = ap (λ vs. get_or vs 15 0) stands.numbers in
    rw (credit, high, request, reply, least, most, vectors, count) refl

module _ (host : Host) (bytes : List ℕ) where
  abbrev Same : Function → Bool → Type 0
  Same f bad = (not (function_in bytes == byte_of f) || bad) ≡ (not (function_in bytes == byte_of f) || are_bad_facts host f bytes)

  -- it is IOC Facts
  with_facts : (f : Function) (good : Bool) → function_in bytes ≡ byte_of function.IocFacts → good ≡ are_facts_for host bytes → Same f (not good)
  with_facts function.ScsiIo good byte same = rw byte refl
  with_facts function.TaskManagement good byte same = rw byte refl
  with_facts function.IocInit good byte same = rw byte refl
  with_facts function.IocFacts good byte same = rw same refl
  with_facts function.Config good byte same = rw byte refl
  with_facts function.PortFacts good byte same = rw byte refl
  with_facts function.PortEnable good byte same = rw byte refl
  with_facts function.EventNotification good byte same = rw byte refl
  with_facts function.EventAck good byte same = rw byte refl
  with_facts function.UnitControl good byte same = rw byte refl

  -- it is another
  without_facts : (f g : Function) → function_in bytes ≡ byte_of g → (byte_of g == byte_of function.IocFacts) ≡ false → Same f false
  without_facts function.ScsiIo g byte other = refl
  without_facts function.TaskManagement g byte other = refl
  without_facts function.IocInit g byte other = refl
  without_facts function.IocFacts g byte other = rw (byte, other) refl
  without_facts function.Config g byte other = refl
  without_facts function.PortFacts g byte other = refl
  without_facts function.PortEnable g byte other = refl
  without_facts function.EventNotification g byte other = refl
  without_facts function.EventAck g byte other = refl
  without_facts function.UnitControl g byte other = refl

  pub bad_answer_read : (f : Function) (m : Message) (queues : ℕ) → host_queue_count host ≡ queues → (reply_function m ≡ None → ⊥) → MessageStands m bytes → Same f (are_bad_facts_of queues m)
  bad_answer_read f (message.ScsiIo m) queues count reply stands = absurd (reply refl)
  bad_answer_read f (message.TaskAsk m) queues count reply stands = absurd (reply refl)
  bad_answer_read f (message.IocInit m) queues count reply stands = absurd (reply refl)
  bad_answer_read f (message.IocFacts m) queues count reply stands = absurd (reply refl)
  bad_answer_read f (message.ConfigAsk m) queues count reply stands = absurd (reply refl)
  bad_answer_read f (message.PortFacts m) queues count reply stands = absurd (reply refl)
  bad_answer_read f (message.PortEnable m) queues count reply stands = absurd (reply refl)
  bad_answer_read f (message.EventAsk m) queues count reply stands = absurd (reply refl)
  bad_answer_read f (message.EventAck m) queues count reply stands = absurd (reply refl)
  bad_answer_read f (message.UnitControl m) queues count reply stands = absurd (reply refl)
  bad_answer_read f (message.ScsiReply m) queues count reply stands = without_facts f function.ScsiIo (function_read (message.ScsiReply m) bytes function.ScsiIo reply stands refl) refl
  bad_answer_read f (message.TaskReply m) queues count reply stands = without_facts f function.TaskManagement (function_read (message.TaskReply m) bytes function.TaskManagement reply stands refl) refl
  bad_answer_read f (message.IocInitReply m) queues count reply stands = without_facts f function.IocInit (function_read (message.IocInitReply m) bytes function.IocInit reply stands refl) refl
  bad_answer_read f (message.IocFactsReply m) queues count reply stands = with_facts f (are_facts_of queues m) (function_read (message.IocFactsReply m) bytes function.IocFacts reply stands refl) (facts_read m bytes host queues count stands)
  bad_answer_read f (message.ConfigReply m) queues count reply stands = without_facts f function.Config (function_read (message.ConfigReply m) bytes function.Config reply stands refl) refl
  bad_answer_read f (message.PortFactsReply m) queues count reply stands = without_facts f function.PortFacts (function_read (message.PortFactsReply m) bytes function.PortFacts reply stands refl) refl
  bad_answer_read f (message.PortEnableReply m) queues count reply stands = without_facts f function.PortEnable (function_read (message.PortEnableReply m) bytes function.PortEnable reply stands refl) refl
  bad_answer_read f (message.EventReply m) queues count reply stands = without_facts f function.EventNotification (function_read (message.EventReply m) bytes function.EventNotification reply stands refl) refl
  bad_answer_read f (message.EventAckReply m) queues count reply stands = without_facts f function.EventAck (function_read (message.EventAckReply m) bytes function.EventAck reply stands refl) refl
  bad_answer_read f (message.UnitControlReply m) queues count reply stands = without_facts f function.UnitControl (function_read (message.UnitControlReply m) bytes function.UnitControl reply stands refl) refl

pub equal_test : (a b : ℕ) → a ≡ b → (a == b) ≡ true
equal_test a b same = grind (arith, nat_tests)
