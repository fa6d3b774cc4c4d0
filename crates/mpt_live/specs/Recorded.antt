-- A party of a threaded session, whose cases are recorded in its journal.
use Rattle.std.specs.Prelude.{ℕ, ◌+◌, ◌<◌, ◌≡◌, Bool, true, false, max, List, [], ◌∷◌, ◌++◌, Option, Some, None}
use Rattle.mpt_trace.specs.declared.entry.Entry.{Entry}
use Rattle.mpt_rules.specs.Outcome.{Happening}
use Rattle.mpt_rules.specs.Session.Journals.{At, Row}
use Rattle.mpt_rules.specs.Session.OpenCases.{SubmitterCase, submitter_does}
use Rattle.mpt_journal.specs.Laws.{each_of}

-- the party, its journal entry by entry, and its clock
pub record Recorded (P : Type 0) : Type 0 where
  pub part : P
  pub row : Row Entry
  pub clock : ℕ

-- the journal with these entries at its end, each with the stamp
abbrev pub stamped_with : Row Entry → ℕ → List Entry → Row Entry
stamped_with row stamp entries = record { party = row.party; moments = row.moments ++ each_of (record { stamp = stamp; value = entries }) }

-- the party after a case: what the case leaves, its entries in the journal, and the clock at its stamp
abbrev pub after_case : {P C : Type 0} → (P → C → Happening P) → Recorded P → At C → Recorded P
after_case does r c =
    record {
      part = (does r.part c.value).part;
      row = stamped_with r.row c.stamp (does r.part c.value).entries;
      clock = c.stamp;
    }

-- the stamp of a case that takes nothing
abbrev pub next_stamp : {P : Type 0} → Recorded P → ℕ
next_stamp r = r.clock + 1

-- the stamp of a case that takes an item with this stamp
abbrev pub stamp_after : {P : Type 0} → Recorded P → ℕ → ℕ
stamp_after r stamp = max r.clock stamp + 1

-- the cases lead from one to the other, each with a later stamp than the one before and than the clock
abbrev pub Leads : {P C : Type 0} → (P → C → Happening P) → Recorded P → List (At C) → Recorded P → Type 0
Leads does from [] to = from ≡ to
Leads does from (c ∷ cs) to = (from.clock < c.stamp) × Leads does (after_case does from c) cs to

-- some list of cases leads from one to the other
pub record LeadsTo {P C : Type 0} (does : P → C → Happening P) (from to : Recorded P) : Type 0 where
  pub cases : List (At C)
  pub led : Leads does from cases to

-- the case was made with the next stamp, or none was
abbrev pub Made : {P C : Type 0} → (P → C → Happening P) → C → Recorded P → Bool → Recorded P → Type 0
Made does c from true to = to ≡ after_case does from (record { stamp = next_stamp from; value = c })
Made does c from false to = to ≡ from

-- the case of what there is was made with the next stamp, or none was
abbrev pub MadeOf : {P C X : Type 0} → (P → C → Happening P) → (X → C) → Option X → Recorded P → Bool → Recorded P → Type 0
MadeOf does case_of None from made to = (made ≡ false) × (to ≡ from)
MadeOf does case_of (Some x) from made to = Made does (case_of x) from made to

-- what a case of a submitter does: it has no part
abbrev pub submitter_enters : ℕ → Unit {0} → SubmitterCase → Happening (Unit {0})
submitter_enters submitter part c = record { part = tt; entries = submitter_does submitter c }

-- some list of cases was made, or none was
abbrev pub Steps : {P C : Type 0} → (P → C → Happening P) → Recorded P → Bool → Recorded P → Type 0
Steps does from true to = LeadsTo does from to
Steps does from false to = to ≡ from
