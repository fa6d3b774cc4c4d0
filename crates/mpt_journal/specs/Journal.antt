-- A journal as it is held.
use Rattle.std.specs.Prelude.{ℕ, ◌≡◌, List, [], ◌∷◌, ◌++◌, map}
use Rattle.mpt_trace.specs.declared.entry.Entry.{Entry}
use Rattle.mpt_trace.specs.declared.parties.Party.{Party}
use Rattle.mpt_journal.specs.declared.stamped.Stamped.{Stamped}
use Rattle.mpt_rules.specs.Session.Journals.{At, Row}

-- the moment of an entry
abbrev pub moment_of : Stamped → At Entry
moment_of s = record { stamp = s.stamp; value = s.entry }

-- an entry of a party, of its moment
abbrev pub stamped_by : Party → At Entry → Stamped
stamped_by party m = record { stamp = m.stamp; party = party; entry = m.value }

-- all entries are of the party
abbrev pub AreStampedBy : Party → List Stamped → Type 0
AreStampedBy party items = items ≡ map (stamped_by party) (map moment_of items)

-- the row of a party with these entries
abbrev pub row_of : Party → List Stamped → Row Entry
row_of party items = record { party = party; moments = map moment_of items }

-- a row with one moment more at its end
abbrev pub with_moment : Row Entry → At Entry → Row Entry
with_moment row m = record { party = row.party; moments = row.moments ++ m ∷ [] }

-- the party with its moments, oldest first, and how many more entries have their memory already
pub record HeldRow : Type 0 where
  pub row : Row Entry
  pub room : ℕ

-- the rows of journals
abbrev pub rows_of : List HeldRow → List (Row Entry)
rows_of journals = map (λ (journal : HeldRow). journal.row) journals
