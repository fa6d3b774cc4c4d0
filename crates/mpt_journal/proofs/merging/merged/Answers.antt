use Rattle.std.proofs.Common.{rules, ◌≡◌, map, ap, ◌∙◌}
use Rattle.std.specs.Slice.Iter.{iter_rest}
use Rattle.std.specs.Vec.Iter.{into_iter_items}
use Rattle.std.proofs.lemmas.Iterator.{YieldsList-from_map_by, YieldsList-from_slice}
use Rattle.std.proofs.lemmas.Result.{IfOk-weaker}
use Rattle.mpt_rules.specs.Session.Journals.{all_of, merged, party_number}
use Rattle.mpt_journal.specs.Moment.{of_moment}
use Rattle.mpt_journal.proofs.Moments.{all_of-stamped, at_number}
use Rattle.mpt_journal.proofs.Runs.{items-merged}
use Rattle.mpt_journal.proofs.merging.merged.Goals as goal

pub returns : goal.returns
returns c =
    let own = all_of (party_number c.args.journal.now.row.party) c.args.journal.now.row.moments in
    let listed : map (at_number c.party_number-number.result) c.as_slice.result.now ≡ own =
    ap (map (at_number c.party_number-number.result)) c.as_slice.ensures
    ∙ all_of-stamped c.party_number-number.result c.args.journal.now.row.party c.args.journal.now.row.moments
    ∙ ap (λ n. all_of n c.args.journal.now.row.moments) (c.party_number-number.ensures ∙ ap party_number c.party.ensures) in
    IfOk-weaker c.collect.result _ _
    (λ moments h.
    let run = h tt in
    ap (map of_moment) run.3.0
    ∙ items-merged of_moment _ {own = map (at_number c.party_number-number.result) c.as_slice.result.now} c.merge_by.ensures.runs (λ x y r q k. search rules)
    (YieldsList-from_map_by {s = c.map.result} _ of_moment (at_number c.party_number-number.result) (YieldsList-from_slice c.as_slice.result.now (ap iter_rest c.map.ensures.source ∙ c.iter.ensures.rest)) c.map.ensures.closure (λ x r q k. search rules))
    (λ b from whole. ap (map of_moment) ((c.merge_by.ensures.second.0.3 b b.seen).4 whole ∙ ap into_iter_items from ∙ c.merge_by.ensures.second.0.0))
    run.0 run.1 run.2
    ∙ ap (λ zs. merged zs (map of_moment c.args.later.items)) listed)
    c.collect.ensures.runs
