use Rattle.mpt_journal.proofs.Cases.{cases_are_shown}
use Rattle.mpt_journal.proofs.Parts.{journals_are_shown, parts_are_journals}
use Rattle.mpt_journal.proofs.laws.merge_keeps_journals.Goals as goal

pub returns : goal.returns
returns c = record { moments = parts_are_journals; cases = parts_are_journals; entries = journals_are_shown; trace = cases_are_shown }
