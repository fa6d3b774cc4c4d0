-- The replies that a handshake ends with are taken: their bytes stand for a reply of the message's function, with the facts that the
-- host needs, and a status of success.
use Rattle.std.proofs.Common.{◌≡◌, ℕ, zero, suc, ◌≤◌, ◌<◌, ◌==◌, ◌&&◌, ◌||◌, nat_le, not, Bool, List, length, take, Option, Some, None, refl, arith}
use Rattle.std.specs.Option.{option_or}
use Rattle.mpi_doorbell.specs.Bytes.{padded}
use Rattle.mpi_layout.specs.Rows.{field}
use Rattle.ioc_msgs.specs.IocFactsReply.{ioc_facts_reply_layout, ioc_facts_reply_values}
use Rattle.ioc_msgs.specs.IocInitReply.{ioc_init_reply_layout}
use Rattle.ioc_msgs.specs.PortFactsReply.{port_facts_reply_layout, port_facts_reply_values}
use Rattle.mpt_messages.specs.Function.{byte_of}
use Rattle.mpt_messages.specs.declared.function.Function.TheVariants as function
use Rattle.mpt_messages.specs.declared.ioc_reply.IocReply.{IocReply}
use Rattle.mpt_messages.specs.declared.ioc_reply.IocReply.TheVariants as reply
use Rattle.mpt_wire.specs.Messages.DoorbellWords.{replied_bytes}
use Rattle.mpt_wire.specs.Messages.Fields.{function_in, high_priority_credit_in, ioc_request_frame_size_in, max_dev_handle_in, max_msix_vectors_in, min_dev_handle_in, reply_frame_size_in, request_credit_in}
use Rattle.mpt_rules.specs.declared.status.TheConstants.{IOC_STATUS_SUCCESS}
use Rattle.mpt_rules.specs.declared.why.Why.{Why}
use Rattle.mpt_rules.specs.declared.why.Why.TheVariants as why
use Rattle.mpt_rules.specs.Host.Handshakes.{bad_bytes, bad_handshake_status, frame_dwords, last_expander, where_true, why_handshake}
use Rattle.mpt_rules.specs.Host.Parts.{Host, host_queue_count}
use Rattle.mpt_messages.specs.DevicePage.{expander_handle}
use Rattle.mpi_names.specs.declared.smid.TheConstants.{SMIDS}
use Rattle.removal.specs.declared.handles.TheConstants.{FIRST_HANDLE}
use Rattle.smid_pool.specs.declared.class.Class.TheVariants.{High}
use Rattle.smid_pool.specs.Class.{size_of}

-- the reply as a machine that is done has it
abbrev pub heard_whole : IocReply → List ℕ
heard_whole r = take (length (replied_bytes r)) (padded (replied_bytes r))

-- the whys of a handshake's end, with so many reply queues
abbrev facts_fit : ℕ → List ℕ → Bool
facts_fit q facts =
    (request_credit_in facts == SMIDS) && ((high_priority_credit_in facts == size_of High)
    && ((ioc_request_frame_size_in facts == frame_dwords) && ((reply_frame_size_in facts == frame_dwords)
    && ((min_dev_handle_in facts == FIRST_HANDLE) && ((max_dev_handle_in facts == expander_handle last_expander)
    && nat_le q (max_msix_vectors_in facts))))))

abbrev why_facts : ℕ → List ℕ → Option Why
why_facts q bytes = option_or (bad_bytes bytes) (option_or (where_true (not (function_in bytes == byte_of function.IocFacts) || not (facts_fit q bytes)) why.BadAnswer) (bad_handshake_status bytes))

facts_of : (q : ℕ) → q ≤ 8 → why_facts q (heard_whole (reply.Facts 0 q)) ≡ None
unfolding ioc_facts_reply_layout ioc_facts_reply_values field
facts_of zero l = refl
facts_of (suc zero) l = refl
facts_of (suc (suc zero)) l = refl
facts_of (suc (suc (suc zero))) l = refl
facts_of (suc (suc (suc (suc zero)))) l = refl
facts_of (suc (suc (suc (suc (suc zero))))) l = refl
facts_of (suc (suc (suc (suc (suc (suc zero)))))) l = refl
facts_of (suc (suc (suc (suc (suc (suc (suc zero))))))) l = refl
facts_of (suc (suc (suc (suc (suc (suc (suc (suc zero)))))))) l = refl
facts_of (suc (suc (suc (suc (suc (suc (suc (suc (suc n))))))))) l = absurd (omega (arith, l))

pub facts_taken : (host : Host) → host_queue_count host ≤ 8 → why_handshake host (Some function.IocFacts) (heard_whole (reply.Facts 0 (host_queue_count host))) ≡ None
facts_taken host l = facts_of (host_queue_count host) l

pub port_facts_taken : (host : Host) → why_handshake host (Some function.PortFacts) (heard_whole (reply.PortFacts 0 IOC_STATUS_SUCCESS)) ≡ None
unfolding port_facts_reply_layout port_facts_reply_values field
port_facts_taken host = refl

pub init_taken : (host : Host) → why_handshake host (Some function.IocInit) (heard_whole (reply.Plain (byte_of function.IocInit) IOC_STATUS_SUCCESS)) ≡ None
unfolding ioc_init_reply_layout field
init_taken host = refl

-- they aren't empty
pub facts_long : (q : ℕ) → 0 < length (replied_bytes (reply.Facts 0 q))
unfolding ioc_facts_reply_layout ioc_facts_reply_values
facts_long q = let e : length (replied_bytes (reply.Facts 0 q)) ≡ 64 = refl in omega (arith, e)

pub port_facts_long : 0 < length (replied_bytes (reply.PortFacts 0 IOC_STATUS_SUCCESS))
unfolding port_facts_reply_layout port_facts_reply_values
port_facts_long = let e : length (replied_bytes (reply.PortFacts 0 IOC_STATUS_SUCCESS)) ≡ 28 = refl in omega (arith, e)

pub init_long : 0 < length (replied_bytes (reply.Plain (byte_of function.IocInit) IOC_STATUS_SUCCESS))
init_long = let e : length (replied_bytes (reply.Plain (byte_of function.IocInit) IOC_STATUS_SUCCESS)) ≡ 20 = refl in omega (arith, e)
