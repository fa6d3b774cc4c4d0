-- Moments that are merged.
use Rattle.mpt_trace.specs.declared.entry.Entry.{Entry}
use Rattle.mpt_journal.specs.declared.moment.Moment.{Moment}
use Rattle.mpt_rules.specs.Session.Journals.{Of}

-- the moment with its party's number and its entry
abbrev pub of_moment : Moment → Of Entry
of_moment m = record { number = m.number; at = record { stamp = m.stamp; value = m.entry.now } }
