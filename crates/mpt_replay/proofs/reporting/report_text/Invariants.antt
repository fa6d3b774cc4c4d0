use Rattle.std.proofs.Common.{◌≡◌, take}
use Rattle.mpt_trace.specs.Entries.{entry_lines}
use Rattle.mpt_replay.proofs.reporting.report_text.Given as goal

abbrev pub invariant-loop-entry : goal.invariant-loop-entry
invariant-loop-entry l = l.text ≡ entry_lines (take l.entry-index l.entries)
