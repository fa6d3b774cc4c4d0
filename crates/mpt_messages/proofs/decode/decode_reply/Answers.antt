use Rattle.std.proofs.Common.{◌≡◌, Some, sym, ap, ◌∙◌, arith}
use Rattle.mpt_messages.proofs.FunctionByte.{reply_known, same_some}
use Rattle.mpt_messages.proofs.decode.decode_reply.Goals as goal

pub returns-then-bytes-lt20-clause-only : goal.returns-then-bytes-lt20-clause-only
returns-then-bytes-lt20-clause-only c = λ m isReply stands. let known = reply_known m c.args.bytes.now isReply stands in absurd (omega (arith, known.enough))

pub returns-in_default-clause-only : goal.returns-in_default-clause-only
returns-in_default-clause-only c = λ m isReply stands. let known = reply_known m c.args.bytes.now isReply stands in cc (known.byte, c.from_byte.ensures, c.in_default.is)

pub returns-in_err-decode_reply_as-clause-only : goal.returns-in_err-decode_reply_as-clause-only
returns-in_err-decode_reply_as-clause-only c = λ m isReply stands.
    let known = reply_known m c.args.bytes.now isReply stands in
    let function : c.in-Some.function ≡ known.function = same_some c.in-Some.function known.function (sym c.in-Some.is ∙ c.from_byte.ensures ∙ known.byte) in
    let clash = c.in_err-decode_reply_as.ensures.only m (known.of_message ∙ ap Some (sym function)) stands in
    cc (clash)

pub returns-clause-only : goal.returns-clause-only
returns-clause-only c = λ m isReply stands.
    let known = reply_known m c.args.bytes.now isReply stands in
    let function : c.in-Some.function ≡ known.function = same_some c.in-Some.function known.function (sym c.in-Some.is ∙ c.from_byte.ensures ∙ known.byte) in
    let same = c.in_ok-decode_reply_as.ensures.only m (known.of_message ∙ ap Some (sym function)) stands in
    cc (same)
