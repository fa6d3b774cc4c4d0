use Rattle.std.proofs.Common.{cond, Some, None, length, ap, sym, ◌∙◌, arith}
use Rattle.std.proofs.lemmas.Result.{err_from_is_err_and}
use Rattle.mpt_sgl.specs.declared.fault.SglFault.TheVariants as fault
use Rattle.mpt_sgl.specs.Segments.{unused_fault}
use Rattle.mpt_sgl.proofs.ChainSteps.{behind_empty, empty_clear, empty_stray}
use Rattle.mpt_sgl.proofs.reading.check_empty.Goals as goal

pub returns-in_err-check_unused : goal.returns-in_err-check_unused
returns-in_err-check_unused c =
    let behind = behind_empty c.args.first.now (omega (arith, c.told-first)) in
    let p = err_from_is_err_and c.from_residual.result c.from_residual.ensures.1 in
    rw (p.1, p.2) (empty_stray c.args.lead.now c.args.first.now c.args.frames.now _ c.if-lead.false (ap (unused_fault 0) (sym behind) ∙ c.in_err-check_unused.ensures))

pub returns-then-not-is_empty : goal.returns-then-not-is_empty
returns-then-not-is_empty c =
    let behind = behind_empty c.args.first.now (omega (arith, c.told-first)) in
    let test = sym c.is_empty.ensures ∙ c.if-not-is_empty.true in
    empty_clear c.args.lead.now c.args.first.now c.args.frames.now c.if-lead.false (ap (unused_fault 0) (sym behind) ∙ c.in_ok-check_unused.ensures) ∙ ap (λ b. cond b None (Some (fault.Extra 0 (length c.args.frames.now)))) test

pub returns : goal.returns
returns c =
    let behind = behind_empty c.args.first.now (omega (arith, c.told-first)) in
    let test = sym c.is_empty.ensures ∙ c.if-not-is_empty.false in
    empty_clear c.args.lead.now c.args.first.now c.args.frames.now c.if-lead.false (ap (unused_fault 0) (sym behind) ∙ c.in_ok-check_unused.ensures) ∙ ap (λ b. cond b None (Some (fault.Extra 0 (length c.args.frames.now)))) test
