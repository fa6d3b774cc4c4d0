-- A rule that also sees the next entry of the same party.
use Rattle.std.specs.Prelude.{◌==◌, Bool, true, false, List, [], ◌∷◌, ◌++◌, find, Option}
use Rattle.mpt_trace.specs.declared.entry.Entry.{Entry}
use Rattle.mpt_trace.specs.declared.parties.Party.{Party}
use Rattle.mpt_trace.specs.declared.parties.Party.TheVariants as party
use Rattle.mpt_trace.specs.Parties.{party_of}

-- the two parties are one
abbrev pub same_party : Party → Party → Bool
same_party party.Host party.Host = true
same_party party.Ioc party.Ioc = true
same_party party.Fabric party.Fabric = true
same_party (party.Submitter i) (party.Submitter j) = i == j
same_party _ _ = false

-- the entry is of the party
abbrev pub is_of : Party → Entry → Bool
is_of p e = same_party (party_of e) p

-- the next entry of the entry's party, whatever entries of other parties stand between
abbrev pub next_own : Entry → List Entry → Option Entry
next_own e t = find (is_of (party_of e)) t

-- the rule's state after entries, before others
abbrev pub state_ahead : {G : Type 0} → (G → Entry → Option Entry → G) → G → List Entry → List Entry → G
state_ahead next g [] later = g
state_ahead next g (e ∷ t) later = state_ahead next (next g e (next_own e (t ++ later))) t later

-- each entry is as the rule asks in its state there, given its party's next entry
abbrev pub PassesAhead : {G : Type 0} → (G → Entry → Option Entry → G) → (G → Entry → Option Entry → Type 0) → G → List Entry → Type 0
PassesAhead next asks g [] = Unit {0}
PassesAhead next asks g (e ∷ t) = asks g e (next_own e t) × PassesAhead next asks (next g e (next_own e t)) t

-- the same of the first entries, before others
abbrev pub PassesBefore : {G : Type 0} → (G → Entry → Option Entry → G) → (G → Entry → Option Entry → Type 0) → G → List Entry → List Entry → Type 0
PassesBefore next asks g [] later = Unit {0}
PassesBefore next asks g (e ∷ t) later = asks g e (next_own e (t ++ later)) × PassesBefore next asks (next g e (next_own e (t ++ later))) t later
