-- What is told stands right after an entry of its own party.
use Rattle.std.specs.Prelude.{◌≡◌, Bool, true, false, List, Option, Some, None}
use Rattle.mpt_trace.specs.declared.entry.Entry.{Entry}
use Rattle.mpt_trace.specs.declared.entry.Entry.TheVariants as entry
use Rattle.mpt_trace.specs.declared.parties.Party.{Party}
use Rattle.mpt_wire.specs.Walks.Ahead.{is_of}
use Rattle.mpt_trace.specs.Parties.{party_of}
use Rattle.mpt_wire.specs.Walks.Passes.{Passes}

-- an entry that isn't made by itself: it tells of an input, of what was taken, or of a step. The steps of the
-- controller's queues have no entry but what they tell
abbrev pub is_told_behind : Entry → Bool
is_told_behind entry.UnbindAll = true
is_told_behind entry.HostUp = true
is_told_behind (entry.Ready address handle) = true
is_told_behind (entry.Lost address handle) = true
is_told_behind (entry.Accept n address smid) = true
is_told_behind (entry.RefuseSubmit n cause) = true
is_told_behind (entry.Refuse call cause) = true
is_told_behind (entry.Answer n outcome) = true
is_told_behind (entry.AbortEnd n outcome) = true
is_told_behind (entry.TargetEnd address outcome) = true
is_told_behind entry.ResetDone = true
is_told_behind _ = false

abbrev pub IsBehind : Bool → Option Party → Entry → Type 0
IsBehind false last e = Unit {0}
IsBehind true None e = ⊥
IsBehind true (Some p) e = is_of p e ≡ true

-- the party of the last entry
abbrev pub last_party_next : Option Party → Entry → Option Party
last_party_next last e = Some (party_of e)

abbrev pub TellsInPlace : List Entry → Type 0
TellsInPlace t = Passes last_party_next (λ last e. IsBehind (is_told_behind e) last e) None t
