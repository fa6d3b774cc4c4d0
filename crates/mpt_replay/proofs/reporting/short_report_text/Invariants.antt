use Rattle.std.proofs.Common.{◌≡◌, take}
use Rattle.std.specs.Prelude.{filter}
use Rattle.mpt_trace.specs.Entries.{entry_lines, is_in_show}
use Rattle.mpt_replay.proofs.reporting.short_report_text.Given as goal

abbrev pub invariant-loop-entry : goal.invariant-loop-entry
invariant-loop-entry l = l.text ≡ entry_lines (filter is_in_show (take l.entry-index l.entries))
