use Rattle.std.proofs.Common.{◌≡◌, true, false, not, Some, refl, ap, sym, ◌∙◌, arith}
use denote.Enum.Bare.{sameb}
use Rattle.mpt_messages.specs.contracts.function.Kind.{the_type}
use Rattle.mpt_messages.specs.declared.function.Kind.{Kind}
use Rattle.mpt_messages.specs.declared.function.Kind.TheVariants as kind
use Rattle.mpt_messages.specs.Function.{kind_of}
use Rattle.mpt_messages.proofs.FunctionByte.{request_known, same_some}
use Rattle.mpt_messages.proofs.decode.decode_request.Goals as goal

-- a kind is the same as itself
same_kind : (k : Kind) → sameb the_type k k ≡ true
same_kind kind.ScsiIo = refl
same_kind kind.HighPriority = refl
same_kind kind.Default = refl
same_kind kind.Handshake = refl

pub returns-then-bytes-lt12-clause-only : goal.returns-then-bytes-lt12-clause-only
returns-then-bytes-lt12-clause-only c = λ m ofKind stands. let known = request_known c.args.kind m c.args.bytes.now ofKind stands in absurd (omega (arith, known.enough))

pub returns-in_default-clause-only : goal.returns-in_default-clause-only
returns-in_default-clause-only c = λ m ofKind stands. let known = request_known c.args.kind m c.args.bytes.now ofKind stands in cc (known.byte, c.from_byte.ensures, c.in_default.is)

pub returns-then-ne-clause-only : goal.returns-then-ne-clause-only
returns-then-ne-clause-only c = λ m ofKind stands.
    let known = request_known c.args.kind m c.args.bytes.now ofKind stands in
    let function : c.in-Some.function ≡ known.function = same_some c.in-Some.function known.function (sym c.in-Some.is ∙ c.from_byte.ensures ∙ known.byte) in
    let same : c.kind.result ≡ c.args.kind = c.kind.ensures ∙ ap kind_of function ∙ known.of_kind in
    let equal : sameb the_type c.kind.result c.args.kind ≡ true = ap (λ (k : Kind). sameb the_type k c.args.kind) same ∙ same_kind c.args.kind in
    let clash : true ≡ false = sym c.if-ne.true ∙ c.ne.ensures ∙ ap not equal in
    cc

pub returns-in_err-decode_request_as-clause-only : goal.returns-in_err-decode_request_as-clause-only
returns-in_err-decode_request_as-clause-only c = λ m ofKind stands.
    let known = request_known c.args.kind m c.args.bytes.now ofKind stands in
    let function : c.in-Some.function ≡ known.function = same_some c.in-Some.function known.function (sym c.in-Some.is ∙ c.from_byte.ensures ∙ known.byte) in
    let clash = c.in_err-decode_request_as.ensures.only m (known.of_message ∙ ap Some (sym function)) stands in
    cc (clash)

pub returns-clause-only : goal.returns-clause-only
returns-clause-only c = λ m ofKind stands.
    let known = request_known c.args.kind m c.args.bytes.now ofKind stands in
    let function : c.in-Some.function ≡ known.function = same_some c.in-Some.function known.function (sym c.in-Some.is ∙ c.from_byte.ensures ∙ known.byte) in
    let same = c.in_ok-decode_request_as.ensures.only m (known.of_message ∙ ap Some (sym function)) stands in
    cc (same)
