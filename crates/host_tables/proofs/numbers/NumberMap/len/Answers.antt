use Rattle.std.proofs.Common.{refl}
use Rattle.host_tables.proofs.NumberMaps.{keys-with_newest, len-with_newest}
use Rattle.host_tables.proofs.numbers.NumberMap.len.Goals as goal

pub returns-then-contains_key-clause-value : goal.returns-then-contains_key-clause-value
returns-then-contains_key-clause-value g c =
    rw (← c.self.view_is, len-with_newest c.self.inside.newest c.self.inside.settled c.len-settled.ensures.ordered, c.in-Some.is, ← c.contains_key.ensures, c.if-contains_key.true, c.len-settled.ensures.len) refl

pub returns-then-contains_key-clause-keys : goal.returns-then-contains_key-clause-keys
returns-then-contains_key-clause-keys g c =
    rw (← c.self.view_is, keys-with_newest c.self.inside.newest c.self.inside.settled c.len-settled.ensures.ordered, c.in-Some.is, ← c.contains_key.ensures, c.if-contains_key.true, c.len-settled.ensures.len) refl

pub returns-else-contains_key-clause-value : goal.returns-else-contains_key-clause-value
returns-else-contains_key-clause-value g c =
    rw (← c.self.view_is, len-with_newest c.self.inside.newest c.self.inside.settled c.len-settled.ensures.ordered, c.in-Some.is, ← c.contains_key.ensures, c.if-contains_key.false, c.len-settled.ensures.len) refl

pub returns-else-contains_key-clause-keys : goal.returns-else-contains_key-clause-keys
returns-else-contains_key-clause-keys g c =
    rw (← c.self.view_is, keys-with_newest c.self.inside.newest c.self.inside.settled c.len-settled.ensures.ordered, c.in-Some.is, ← c.contains_key.ensures, c.if-contains_key.false, c.len-settled.ensures.len) refl

pub returns-in-None-clause-value : goal.returns-in-None-clause-value
returns-in-None-clause-value g c =
    rw (← c.self.view_is, len-with_newest c.self.inside.newest c.self.inside.settled c.len-settled.ensures.ordered, c.in-None.is, c.len-settled.ensures.len) refl

pub returns-in-None-clause-keys : goal.returns-in-None-clause-keys
returns-in-None-clause-keys g c =
    rw (← c.self.view_is, keys-with_newest c.self.inside.newest c.self.inside.settled c.len-settled.ensures.ordered, c.in-None.is, c.len-settled.ensures.len) refl
