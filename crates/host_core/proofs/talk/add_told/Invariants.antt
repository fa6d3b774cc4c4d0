use Rattle.std.proofs.Common.{◌≡◌, ◌++◌, length, map}
use Rattle.host_core.specs.declared.moves.HostSaid.TheVariants as said
use Rattle.host_core.proofs.talk.add_told.Given as goal

abbrev pub invariant-loop-entry : goal.invariant-loop-entry
invariant-loop-entry l =
    l.pairs.items ++ map (λ s. (l.place, s)) (map said.Told l.told.items) ≡ l.initial.pairs.items ++ map (λ s. (l.place, s)) (map said.Told l.initial.told.items)

abbrev pub decreases-loop-entry : goal.decreases-loop-entry
decreases-loop-entry l = length l.told.items
