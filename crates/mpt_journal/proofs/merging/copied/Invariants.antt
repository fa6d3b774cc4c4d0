use Rattle.std.proofs.Common.{◌≡◌, map, take}
use Rattle.mpt_rules.specs.Session.Journals.{moment_values}
use Rattle.mpt_journal.specs.Moment.{of_moment}
use Rattle.mpt_journal.proofs.merging.copied.Given as goal

abbrev pub invariant-loop-moment : goal.invariant-loop-moment
invariant-loop-moment l = l.trace.entries ≡ moment_values (map of_moment (take l.moment-index l.moments))
