use Rattle.std.proofs.Common.{◌≡◌, map, reverse}
use Rattle.std.specs.Borrow.{Bor}
use Rattle.mpt_rules.specs.Session.Journals.{all_merged}
use Rattle.mpt_journal.specs.Journal.{HeldRow, rows_of}
use Rattle.mpt_journal.specs.Moment.{of_moment}
use Rattle.mpt_journal.proofs.merging.merge.Given as goal

abbrev pub invariant-loop-journal : goal.invariant-loop-journal
invariant-loop-journal l = map of_moment l.moments.items ≡ all_merged (rows_of (reverse (map (λ (j : Bor HeldRow). j.now) l.yielded)))
