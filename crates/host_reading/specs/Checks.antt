-- Checks of what comes up.
use Rattle.std.specs.Prelude.{ℕ, ◌==◌, nat_le, ◌&&◌, not, Bool, false, Option, Some, None, Result, Ok, Err}
use Rattle.ioc_msgs.specs.declared.ioc_facts_reply.IocFactsReply.{IocFactsReply}
use Rattle.mpi_names.specs.declared.smid.TheConstants.{SMIDS}
use Rattle.smid_pool.specs.declared.class.Class.TheVariants.{High}
use Rattle.smid_pool.specs.Class.{size_of}
use Rattle.removal.specs.declared.handles.TheConstants.{FIRST_HANDLE}
use Rattle.mpt_messages.specs.DevicePage.{expander_handle}
use Rattle.mpt_messages.specs.declared.message.Message.{Message}
use Rattle.mpt_messages.specs.declared.message.Message.TheVariants as message
use Rattle.mpt_rules.specs.declared.why.Why.{Why}
use Rattle.mpt_rules.specs.Host.Handshakes.{frame_dwords, last_expander}

-- the why of a check, where it fails
abbrev pub why_in : {T : Type 0} → Result T Why → Option Why
why_in (Ok passed) = None
why_in (Err why) = Some why

-- a controller with these facts is one for a host with so many reply queues
abbrev pub are_facts_of : ℕ → IocFactsReply → Bool
are_facts_of queues facts =
    (facts.request_credit == SMIDS) && ((facts.high_priority_credit == size_of High)
    && ((facts.ioc_request_frame_size == frame_dwords) && ((facts.reply_frame_size == frame_dwords)
    && ((facts.min_dev_handle == FIRST_HANDLE) && ((facts.max_dev_handle == expander_handle last_expander)
    && nat_le queues facts.max_msix_vectors)))))

-- the message has other facts
abbrev pub are_bad_facts_of : ℕ → Message → Bool
are_bad_facts_of queues (message.IocFactsReply facts) = not (are_facts_of queues facts)
are_bad_facts_of queues m = false
