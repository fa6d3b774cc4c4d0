use Rattle.std.proofs.Common.{◌∙◌, ap, sym}
use Rattle.std.proofs.lemmas.Result.{on_ok_weaker}
use Rattle.mpt_live.specs.Recorded.{stamped_with}
use Rattle.mpt_live.proofs.Stamped.{stamped_none}
use Rattle.mpt_live.proofs.Told.{none_left}
use Rattle.mpt_live.proofs.recorded_host.record_told.Goals as goal

pub returns-clause-recorded : goal.returns-clause-recorded
returns-clause-recorded c =
    let e = c.in_default.ensures in
    let none = none_left c.loop-entry.host.told (e.first ∙ e.rest) in
    on_ok_weaker c.loop-entry.recorded
    (λ h. sym (stamped_none c.loop-entry.journal.row c.args.stamp) ∙ ap (stamped_with c.loop-entry.journal.row c.args.stamp) (sym none) ∙ h)
    c.loop-entry.invariant.recorded

pub returns-clause-told : goal.returns-clause-told
returns-clause-told c =
    let e = c.in_default.ensures in
    sym e.first ∙ none_left c.loop-entry.host.told (e.first ∙ e.rest)
