use Rattle.std.proofs.Common.{◌∙◌, ◌<◌, length, refl, ap, append_assoc, arith}
use Rattle.host_tables.specs.Lists.{Lists}
use Rattle.host_core.proofs.Resets.{targets-more}
use Rattle.host_core.proofs.host.resets.tell_targets.Goals as goal

pub loop-place-preserved : goal.loop-place-preserved
loop-place-preserved c =
    let within : c.loop-place.place < length c.args.pool.now = omega (arith, c.loop-place-test.true, c.count-place-end.ensures.value) in
    record {
      told = rw (c.tell_target.ensures.told, c.loop-place.invariant.told, c.get.ensures.value, targets-more c.args.pool.now c.loop-place.place within, append_assoc) refl;
      others =
          c.tell_target.ensures.others
          ∙ ap (λ (l : Lists). record l { told = c.tell_target.new.lists.told; room = c.tell_target.new.lists.room }) c.loop-place.invariant.others;
      room = omega (arith, c.tell_target.ensures.room, c.loop-place.invariant.room);
    }
