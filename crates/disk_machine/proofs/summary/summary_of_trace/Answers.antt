use Rattle.std.proofs.Common.{refl}
use Rattle.disk_machine.proofs.Summaries.{lines_agree, ready_agree}
use Rattle.disk_machine.proofs.summary.summary_of_trace.Goals as goal

pub returns : goal.returns
returns c =
    let stands = c.in_ok-machine.ensures in
    let disks = lines_agree c.in_ok-machine.machine c.args.disks.now c.args.entries.now stands in
    let ready = ready_agree c.in_ok-machine.machine c.args.disks.now c.args.entries.now stands in
    let counts = c.of-counts.ensures in
    rw (c.new.ensures, c.in_ok-lines.ensures, disks, counts.done, counts.gone, counts.terminated, counts.reset, counts.refused, c.unanswered.ensures, stands.unanswered, c.ready_count.ensures.value, ready, c.mode.ensures, stands.mode) refl
