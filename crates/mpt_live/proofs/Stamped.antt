-- Journals with entries at their end.
use Rattle.std.proofs.Common.{◌≡◌, ℕ, [], ap}
use Rattle.std.proofs.lemmas.List.{append-nil}
use Rattle.mpt_trace.specs.declared.entry.Entry.{Entry}
use Rattle.mpt_rules.specs.Session.Journals.{Row}
use Rattle.mpt_live.specs.Recorded.{stamped_with}

pub stamped_none : (row : Row Entry) (stamp : ℕ) → stamped_with row stamp [] ≡ row
stamped_none row stamp = ap (λ ms. record { party = row.party; moments = ms }) (append-nil row.moments)
