-- A rule that goes over a trace with a state of its own: what it asks of an entry, and its state after one.
use Rattle.std.specs.Prelude.{List, [], ◌∷◌}
use Rattle.mpt_trace.specs.declared.entry.Entry.{Entry}

-- the rule's state after entries
abbrev pub state_after : {G : Type 0} → (G → Entry → G) → G → List Entry → G
state_after next g [] = g
state_after next g (e ∷ t) = state_after next (next g e) t

-- each entry is as the rule asks in its state there
abbrev pub Passes : {G : Type 0} → (G → Entry → G) → (G → Entry → Type 0) → G → List Entry → Type 0
Passes next asks g [] = Unit {0}
Passes next asks g (e ∷ t) = asks g e × Passes next asks (next g e) t

-- a rule without a state: each entry is as it asks
abbrev pub EachEntry : (Entry → Type 0) → List Entry → Type 0
EachEntry P [] = Unit {0}
EachEntry P (e ∷ t) = P e × EachEntry P t
