use Rattle.mpt_replay.proofs.Replays.{replayed_is}
use Rattle.mpt_replay.proofs.replayed.Replayed.new.Goals as goal

pub returns : goal.returns
returns c =
    replayed_is c.args.schedule.now c.lines-lines.result.now c.in_ok-head.head c.in_ok-system.system c.carry_out.new.system c.in_ok-summary.summary
    (c.schedules_keep_limits.ensures c.args.schedule.now c.lines-lines.ensures.allowed) c.replays_are_of_cases.ensures c.disks_stay.ensures
    c.lines-lines.ensures.lines c.in_ok-head.ensures c.in_ok-system.ensures c.in_ok-carry_out.ensures c.in_ok-summary.ensures
