-- Generating turn by turn.
use Rattle.std.proofs.Common.{◌≡◌, ℕ, ◌+◌, ◌-◌, ◌<◌, ◌≤◌, List, [], ◌∷◌, ◌++◌, suc, zero, ◌∙◌, arith, append_assoc}
use Rattle.mpt_script.specs.declared.generator.Generator.{Generator}
use Rattle.mpt_script.specs.declared.line.Line.{Line}
use Rattle.mpt_script.specs.declared.line.Line.TheVariants.{Drain}
use Rattle.mpt_script.specs.Generator.{turn_lines, turned, turns}

-- one more turn
pub turn_more : (lines grown whole : List Line) (t : ℕ) (g after : Generator) → t < 1001 → grown ≡ lines ++ turn_lines t g → after ≡ turned g
    → lines ++ turns (1001 - t) t g ≡ whole → grown ++ turns (1001 - (t + 1)) (t + 1) after ≡ whole
unfolding turns
turn_more lines grown whole t g after less e is so_far =
    let more : 1001 - t ≡ suc (1001 - (t + 1)) = omega arith in
    rw (e, is) (append_assoc lines (turn_lines t g) (turns (1001 - (t + 1)) (t + 1) (turned g)) ∙ (rw more at so_far))

-- the last drain
pub turn_last : (lines grown whole : List Line) (t : ℕ) (g : Generator) → 1001 ≤ t → grown ≡ lines ++ Drain ∷ []
    → lines ++ turns (1001 - t) t g ≡ whole → grown ≡ whole
unfolding turns
turn_last lines grown whole t g all e so_far =
    let none : 1001 - t ≡ zero = omega arith in
    e ∙ (rw none at so_far)
