use Rattle.std.proofs.Common.{◌≡◌, ◌+◌, ◌*◌, ◌++◌, drop}
use Rattle.mpt_messages.specs.EventListing.{entries_text}
use Rattle.mpt_messages.proofs.event_listing.push_entries.Given as goal

-- what is left to be listed makes the whole
abbrev pub invariant-loop-i : goal.invariant-loop-i
invariant-loop-i l = l.text ++ entries_text (40 + 4 * l.i) (drop l.i l.entries) ≡ l.initial.text ++ entries_text 40 l.entries
