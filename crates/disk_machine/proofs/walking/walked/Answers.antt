use Rattle.std.proofs.Common.{◌+◌, ◌-◌, ◌∙◌, arith, drop, length, refl, take}
use Rattle.std.proofs.lemmas.List.{take_rest}
use Rattle.mpt_wire.specs.Machine.SoFar.{nothing_so_far, so_far_next}
use Rattle.mpt_wire.specs.Machine.State.{first_machine}
use Rattle.mpt_wire.specs.Machine.Steps.{after_all}
use Rattle.mpt_wire.specs.Machine.View.{steps_of}
use Rattle.mpt_wire.specs.Walks.Ahead.{next_own}
use Rattle.disk_machine.proofs.Walks.{one_further}
use Rattle.disk_machine.proofs.walking.walked.Goals as goal

pub loop-i-init : goal.loop-i-init
loop-i-init c = (first_machine c.args.disks.now, (nothing_so_far, (c.in_ok-walk.ensures, refl)))

pub loop-i-preserved : goal.loop-i-preserved
loop-i-preserved c =
    let m = c.loop-i.invariant.0 in
    let g = c.loop-i.invariant.1.0 in
    let t = c.args.entries.now in
    let e = c.index-entries-i.result in
    let later = take (length t - (c.loop-i.i + 1)) (drop (c.loop-i.i + 1) t) in (
      after_all m (steps_of g e (next_own e later)),
      (
        so_far_next g e (next_own e later),
        (
          c.in_ok-take.ensures m g c.loop-i.invariant.1.1.0,
          one_further m g t c.loop-i.i e later (omega arith) c.index-entries-i.is (take_rest t (c.loop-i.i + 1)) ∙ c.loop-i.invariant.1.1.1,
        ),
      ),
    )
