use Rattle.std.proofs.Common.{◌≡◌, map, reverse, Bor, ap, ◌∙◌}
use Rattle.std.specs.Iterator.Adapters.{rev_source}
use Rattle.std.specs.Slice.Iter.{iter_rest}
use Rattle.std.proofs.lemmas.Iterator.{items_from_drains}
use Rattle.std.proofs.lemmas.Iterator.Adapters.{YieldsList-from_rev_slice}
use Rattle.std.proofs.lemmas.List.{reverse-reverse}
use Rattle.std.proofs.lemmas.Result.{IfOk-weaker}
use Rattle.mpt_rules.specs.Session.Journals.{all_merged, moment_values}
use Rattle.mpt_journal.specs.Journal.{HeldRow, rows_of}
use Rattle.mpt_journal.specs.Moment.{of_moment}
use Rattle.mpt_journal.proofs.merging.merge.Goals as goal

pub returns : goal.returns
returns c =
    let source : iter_rest (rev_source c.into_iter-journal-iterator.result) ≡ c.args.journals.now =
    ap (λ r. iter_rest (rev_source r)) c.into_iter-journal-iterator.ensures.into_iter_gives ∙ ap iter_rest c.rev-journal-items.ensures.source ∙ c.iter.ensures.rest in
    let yielded : map (λ (j : Bor HeldRow). j.now) c.loop-journal.yielded ≡ reverse c.args.journals.now =
    items_from_drains c.loop-journal.yielded
    (c.loop-journal.journal-iterator, c.loop-journal.yielded_by, λ _. (c.next.new.self, c.in-None.ensures.steps))
    (YieldsList-from_rev_slice {s = c.into_iter-journal-iterator.result} c.args.journals.now source) in
    IfOk-weaker c.copied.result _ _
    (λ trace h.
    h ∙ ap (λ ms. moment_values (map of_moment ms)) c.deref.ensures.value
    ∙ ap moment_values c.loop-journal.invariant
    ∙ ap (λ rows. moment_values (all_merged (rows_of rows))) (ap reverse yielded ∙ reverse-reverse c.args.journals.now))
    c.copied.ensures
