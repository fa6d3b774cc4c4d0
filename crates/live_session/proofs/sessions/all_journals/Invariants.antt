use Rattle.std.proofs.Common.{◌≡◌, ◌++◌, ◌∷◌}
use Rattle.std.specs.Vec.Iter.{into_iter_items}
use Rattle.live_session.proofs.sessions.all_journals.Given as goal

abbrev pub invariant-loop-journal : goal.invariant-loop-journal
invariant-loop-journal l = l.journals.items ++ into_iter_items l.journal-iterator ≡ l.fn.host ∷ l.fn.ioc ∷ l.fn.fabric ∷ l.fn.submitters.items
