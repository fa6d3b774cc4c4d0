use Rattle.std.proofs.Common.{◌≡◌, ◌++◌, ◌<◌, ◌≤◌, ◌-◌}
use Rattle.mpt_script.specs.Generator as spec
use Rattle.mpt_script.proofs.generator.generate.Given as goal

abbrev pub invariant-loop-turn : goal.invariant-loop-turn
invariant-loop-turn l = record {
  so_far : l.lines.items ++ spec.turns (1001 - l.turn) l.turn l.generator ≡ spec.generated l.fn.number;
  small : l.generator.state < 2147483648;
  few : l.generator.resets ≤ 8;
}
