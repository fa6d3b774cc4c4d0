use Rattle.std.proofs.Common.{◌≡◌, ◌++◌, [], ◌∷◌, map, take}
use Rattle.mpt_script.specs.declared.line.Line.TheVariants.{Expander}
use Rattle.mpt_script.specs.Generator as spec
use Rattle.mpt_script.proofs.generator.push_head.Given as goal

abbrev pub invariant-loop-place : goal.invariant-loop-place
invariant-loop-place l = l.lines.items ≡ map spec.disk_line (take l.place-index spec.places)

abbrev pub invariant-loop-place-2 : goal.invariant-loop-place-2
invariant-loop-place-2 l = l.lines.items ≡ (map spec.disk_line spec.places ++ (Expander 8 ∷ [])) ++ map spec.plug_line (take l.place-index spec.places)
