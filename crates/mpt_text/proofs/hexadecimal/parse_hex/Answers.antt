use Rattle.std.proofs.Common.{◌∙◌, None, ap, sym, vec_items}
use Rattle.mpt_text.proofs.Digits.{named, named-start, step_bad, step_first, step_second, step_end, step_half}
use Rattle.mpt_text.proofs.hexadecimal.parse_hex.Goals as goal
use Rattle.mpt_text.proofs.hexadecimal.parse_hex.Goals.{in-None, in-Some-high+in_ok-push-in-Some-high}

pub loop-byte-init : goal.loop-byte-init
loop-byte-init c = (named-start c.args.text.now ∙ ap (λ bytes. named bytes None c.args.text.now) (sym c.in_ok-bytes.ensures.items), tt)

pub returns-in_default-clause-refused : goal.returns-in_default-clause-refused
returns-in_default-clause-refused c _ = step_bad _ c.args.text.now c.loop-byte.bytes.items c.loop-byte.high c.loop-byte.byte-index c.loop-byte.invariant.0 c.loop-byte-test.true (sym c.if-is_white.ensures) (sym c.digit_value.ensures.value ∙ c.in_default.is)

pub loop-byte-preserved : goal.loop-byte-preserved
loop-byte-preserved c =
    let value = sym c.digit_value.ensures.value ∙ c.in-Some.is in
    let within = rw c.in-Some.is at c.digit_value.ensures.within in
    elim c.match-high.branch [
      | in-None w ↦ (
        step_first _ c.args.text.now c.loop-byte.bytes.items c.match-high.bytes.items c.loop-byte.high c.match-high.high c.loop-byte.byte-index c.in-Some.digit
            c.loop-byte.invariant.0 c.loop-byte-test.true (sym c.if-is_white.ensures) value w.in-None.is (ap vec_items w.bytes-is) w.high-is,
        rw w.high-is within,
      )
      | in-Some-high+in_ok-push-in-Some-high w ↦ (
        step_second _ c.args.text.now c.loop-byte.bytes.items c.match-high.bytes.items c.loop-byte.high c.match-high.high c.loop-byte.byte-index w.in-Some-high.first c.in-Some.digit
            c.loop-byte.invariant.0 c.loop-byte-test.true (sym c.if-is_white.ensures) value w.in-Some-high.is (ap vec_items w.bytes-is ∙ w.in_ok-push-in-Some-high.ensures.items) w.high-is,
        rw w.high-is tt,
      )
    ]

pub returns-in-None-high-clause-read : goal.returns-in-None-high-clause-read
returns-in-None-high-clause-read c = step_end _ c.args.text.now c.loop-byte.bytes.items c.loop-byte.high c.loop-byte.byte-index c.loop-byte.invariant.0 c.loop-byte-test.false c.in-None-high.is

pub returns-in-Some-high-2-clause-refused : goal.returns-in-Some-high-2-clause-refused
returns-in-Some-high-2-clause-refused c _ = step_half _ c.args.text.now c.loop-byte.bytes.items c.loop-byte.high c.loop-byte.byte-index _ c.loop-byte.invariant.0 c.loop-byte-test.false c.in-Some-high-2.is
