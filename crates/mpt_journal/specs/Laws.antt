-- What is said of every merge.
use Rattle.std.specs.Prelude.{◌≡◌, ◌≢◌, ◌≤◌, ◌==◌, true, ℕ, List, [], ◌∷◌, All, filter, flat_map, map}
use Rattle.mpt_trace.specs.declared.entry.Entry.{Entry}
use Rattle.mpt_trace.specs.declared.parties.Party.{Party}
use Rattle.mpt_wire.specs.Walks.Ahead.{is_of}
use Rattle.mpt_rules.specs.Session.Journals.{At, Block, Of, Rises, Row, all_merged, all_of, merge, moment_values, party_number}
use Rattle.mpt_rules.specs.Session.Parts.{IsByStamp, IsPartOf}

-- ---- cases

-- the entries of a case one by one, each with its stamp
abbrev pub each_of : Block → List (At Entry)
each_of block = map (λ (e : Entry). record { stamp = block.stamp; value = e }) block.value

-- a journal of whole cases, entry by entry
abbrev pub by_entries : Row (List Entry) → Row Entry
by_entries row = record { party = row.party; moments = flat_map each_of row.moments }

-- the stamps of a journal's cases rise
abbrev pub CasesRise : Row (List Entry) → Type 0
CasesRise row = Rises row.moments

-- entry by entry the merge is that of the whole cases
abbrev pub MergesKeepCases : Type 0
MergesKeepCases = (journals : List (Row (List Entry))) → All CasesRise journals → moment_values (all_merged (map by_entries journals)) ≡ merge journals

-- ---- parties

-- none of the journals is of the party
abbrev pub AreOfOthers : {X : Type 0} → Party → List (Row X) → Type 0
AreOfOthers party rows = All (λ row. party_number row.party ≢ party_number party) rows

-- no two journals are of one party
abbrev pub PartiesDiffer : {X : Type 0} → List (Row X) → Type 0
PartiesDiffer [] = Unit {0}
PartiesDiffer (row ∷ rows) = AreOfOthers row.party rows × PartiesDiffer rows

-- the moments of a party, of a list of all parties' moments
abbrev pub part_of : {X : Type 0} → Party → List (Of X) → List (Of X)
part_of party moments = filter (λ m. m.number == party_number party) moments

-- a party's part of a list of moments is its journal, in order
abbrev pub HasJournal : {X : Type 0} → List (Of X) → Row X → Type 0
HasJournal moments row = part_of row.party moments ≡ all_of (party_number row.party) row.moments

-- of all the moments each party's are its journal, in order
abbrev pub MergesKeepJournals : Type 0 → Type 0
MergesKeepJournals X = (journals : List (Row X)) → PartiesDiffer journals → All (HasJournal (all_merged journals)) journals

-- ---- parties, of the entries alone

-- the entries of a journal are its party's
abbrev pub HasOwnEntries : Row Entry → Type 0
HasOwnEntries row = All (λ (m : At Entry). is_of row.party m.value ≡ true) row.moments

-- the entries of a journal, in order
abbrev pub row_values : Row Entry → List Entry
row_values row = map (λ (m : At Entry). m.value) row.moments

-- a party's part of a trace is its journal, in order
abbrev pub ShowsJournal : List Entry → Row Entry → Type 0
ShowsJournal trace row = filter (is_of row.party) trace ≡ row_values row

-- of all the entries each party's are its journal, in order
abbrev pub MergesShowJournals : Type 0
MergesShowJournals = (journals : List (Row Entry)) → PartiesDiffer journals → All HasOwnEntries journals → All (ShowsJournal (moment_values (all_merged journals))) journals

-- the entries of a journal's cases are its party's
abbrev pub HasOwnCases : Row (List Entry) → Type 0
HasOwnCases row = All (λ (block : Block). All (λ (e : Entry). is_of row.party e ≡ true) block.value) row.moments

-- the same where journals are of whole cases, whose stamps rise
abbrev pub MergesShowCases : Type 0
MergesShowCases = (journals : List (Row (List Entry))) → PartiesDiffer journals → All CasesRise journals → All HasOwnCases journals → All (IsPartOf (merge journals)) journals

-- ---- stamps

-- the first moment of a list has this stamp or a later one
abbrev pub NotBefore : {X : Type 0} → ℕ → List (At X) → Type 0
NotBefore stamp [] = Unit {0}
NotBefore stamp (x ∷ xs) = stamp ≤ x.stamp

-- stamps never fall from moment to moment
abbrev pub RisesOrStays : {X : Type 0} → List (At X) → Type 0
RisesOrStays [] = Unit {0}
RisesOrStays (x ∷ xs) = NotBefore x.stamp xs × RisesOrStays xs

-- the stamps of a journal never fall
abbrev pub StampsNeverFall : {X : Type 0} → Row X → Type 0
StampsNeverFall row = RisesOrStays row.moments

-- each moment of the merge isn't after the next
abbrev pub MergesAreByStamp : Type 0 → Type 0
MergesAreByStamp X = (journals : List (Row X)) → All StampsNeverFall journals → IsByStamp (all_merged journals)
