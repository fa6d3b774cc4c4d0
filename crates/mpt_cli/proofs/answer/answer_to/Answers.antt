use Rattle.std.proofs.Common.{subst}
use Rattle.std.specs.Prelude.{ℕ, ◌≤◌}
use Rattle.mpt_cli.proofs.Due.{answered_within}
use Rattle.mpt_cli.specs.declared.answer.TheConstants.{MOST_LINES}
use Rattle.mpt_cli.proofs.answer.answer_to.Goals as goal

pub returns : goal.returns
returns c =
    answered_within c.args.question c.args.input.now c.answer_within.result (subst (λ (n : ℕ). n ≤ MOST_LINES) c.count_lines.ensures c.if-count_lines-gt-MOST_LINES.false) c.answer_within.ensures
