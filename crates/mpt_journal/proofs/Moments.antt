-- Moments of a journal's entries.
use Rattle.std.proofs.Common.{◌≡◌, ◌++◌, ℕ, List, [], ◌∷◌, map, refl, ap}
use Rattle.mpt_trace.specs.declared.entry.Entry.{Entry}
use Rattle.mpt_trace.specs.declared.parties.Party.{Party}
use Rattle.mpt_rules.specs.Session.Journals.{At, Of, all_of, moment_values}
use Rattle.mpt_journal.specs.declared.stamped.Stamped.{Stamped}
use Rattle.mpt_journal.specs.Journal.{stamped_by}

-- an entry as a moment of the party of a number
abbrev pub at_number : ℕ → Stamped → Of Entry
at_number n s = record { number = n; at = record { stamp = s.stamp; value = s.entry } }

pub all_of-stamped : (n : ℕ) (party : Party) (moments : List (At Entry)) → map (at_number n) (map (stamped_by party) moments) ≡ all_of n moments
all_of-stamped n party [] = refl
all_of-stamped n party (m ∷ ms) = ap (λ (zs : List (Of Entry)). record { number = n; at = m } ∷ zs) (all_of-stamped n party ms)

-- one moment more
pub moment_values-push : {A X : Type 0} (f : A → Of X) (xs : List A) (x : A) → moment_values (map f (xs ++ x ∷ [])) ≡ moment_values (map f xs) ++ (f x).at.value ∷ []
moment_values-push f [] x = refl
moment_values-push f (y ∷ ys) x = ap (λ (zs : List _). (f y).at.value ∷ zs) (moment_values-push f ys x)
