use Rattle.mpt_messages.proofs.RowsText.{ListedSoFar}
use Rattle.mpt_messages.proofs.listing.push_rows_from.Given as goal

-- the text holds the rows so far
abbrev pub invariant-loop-i : goal.invariant-loop-i
invariant-loop-i g l = ListedSoFar l.start l.layout.rows l.values l.initial.text l.text l.i
