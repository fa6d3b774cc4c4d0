use Rattle.std.proofs.Common.{arith, ◌<◌, length, take}
use Rattle.std.proofs.lemmas.List.{take_more}
use Rattle.mpt_journal.specs.Moment.{of_moment}
use Rattle.mpt_journal.proofs.Moments.{moment_values-push}
use Rattle.mpt_journal.proofs.merging.copied.Goals as goal

pub loop-moment-preserved : goal.loop-moment-preserved
loop-moment-preserved c =
    let within : c.loop-moment.moment-index < length c.args.moments.now = omega arith in
    let more = take_more c.args.moments.now c.loop-moment.moment-index c.moment-item.result within in
    let values = moment_values-push of_moment (take c.loop-moment.moment-index c.args.moments.now) c.moment-item.result in
    cc (c.in_ok-push.ensures.ok, c.in_ok-copy.ensures)
