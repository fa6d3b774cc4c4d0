use Rattle.std.proofs.Common.{◌≡◌, ◌∙◌, ap, sym, true, arith}
use Rattle.std.specs.Option.{is_none}
use Rattle.std.specs.Map.{keys_of}
use Rattle.host_tables.specs.Numbered.{Numbered}
use Rattle.host_tables.proofs.NumberMaps.{keys-tree, no_keys}
use Rattle.host_tables.proofs.numbers.NumberMap.pop_first.Goals as goal
use Rattle.host_tables.proofs.numbers.NumberMap.pop_first.Goals.{in-Some, in-None}

pub returns-clause-first : goal.returns-clause-first
returns-clause-first g c =
    let none : is_none c.self.inside.newest ≡ true = ap (λ (n : Numbered g.row.V.Denot). n.has_room) c.self.view_is ∙ c.requires in
    rw (← c.self.view_is, keys-tree c.self.inside.newest c.self.inside.settled.entries none c.len.ensures.ordered, keys-tree c.self.inside.newest c.pop_first.new.self.entries none c.pop_first.ensures.ordered)
    (elim c.match-pop_first.branch [
      | in-Some w ↦ rw w.result-is (ap keys_of w.in-Some.ensures.removal)
      | in-None w ↦ rw w.result-is (sym (ap keys_of w.in-None.ensures.unchanged))
    ])

pub returns-clause-none : goal.returns-clause-none
returns-clause-none g c =
    λ nothing.
    elim c.match-pop_first.branch [
      | in-Some w ↦ absurd (let some = w.result-is in cc)
      | in-None w ↦ absurd (let some = w.in-None.ensures.variant.1 (let long = c.len.ensures.len in omega arith) in cc)
    ]

pub returns-then-len-eq0-clause-none : goal.returns-then-len-eq0-clause-none
returns-then-len-eq0-clause-none g c =
    λ nothing.
    let none : is_none c.self.inside.newest ≡ true = ap (λ (n : Numbered g.row.V.Denot). n.has_room) c.self.view_is ∙ c.requires in
    rw (← c.self.view_is, keys-tree c.self.inside.newest c.self.inside.settled.entries none c.len.ensures.ordered)
    (no_keys c.self.inside.settled.entries (let long = c.len.ensures.len in omega arith))
