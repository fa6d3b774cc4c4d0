-- How a handshake is answered, by its function and its first refusal.
use Rattle.std.proofs.Common.{◌≡◌, ◌∙◌, ℕ, List, Option, Some, None, get_or, option_map, ap}
use Rattle.mpt_messages.specs.declared.fault.MsgFault.{MsgFault}
use Rattle.mpt_messages.specs.Function.{function_of}
use Rattle.mpt_messages.specs.declared.ioc_reply.IocReply.{IocReply}
use Rattle.mpt_messages.specs.declared.ioc_reply.IocReply.TheVariants as reply
use Rattle.mpt_rules.specs.Ioc.Parts.{Ioc}
use Rattle.mpt_rules.specs.Ioc.Registers.{answers_handshake, handshakes_if, serves_handshake}
use Rattle.mpt_rules.specs.Ioc.Replies.{refusal_status}

-- the same reply
pub reply_same : (ioc part : Ioc) (r s : IocReply) → part ≡ answers_handshake ioc r → r ≡ s → part ≡ answers_handshake ioc s
reply_same ioc part r s is same = is ∙ ap (λ (x : IocReply). answers_handshake ioc x) same

-- a refused message
pub refused_by : (ioc part : Ioc) (message : List ℕ) (refusal : Option MsgFault) (status : ℕ) → Some status ≡ option_map refusal_status refusal → part ≡ answers_handshake ioc (reply.Plain (get_or message 3 0) status) → part ≡ handshakes_if ioc message refusal
refused_by ioc part message None status has is = absurd (cc)
refused_by ioc part message (Some refusal) status has is =
    let same : status ≡ refusal_status refusal = cc in
    reply_same ioc part _ _ is (ap (λ (x : ℕ). reply.Plain (get_or message 3 0) x) same)

-- a message that isn't refused
pub not_refused : (ioc part : Ioc) (message : List ℕ) (refusal : Option MsgFault) (status : Option ℕ) → status ≡ None → status ≡ option_map refusal_status refusal → part ≡ serves_handshake ioc message (function_of (get_or message 3 0)) → part ≡ handshakes_if ioc message refusal
not_refused ioc part message None status none has is = is
not_refused ioc part message (Some refusal) status none has is = absurd (cc)
