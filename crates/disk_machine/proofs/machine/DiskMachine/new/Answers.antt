use Rattle.std.proofs.Common.{refl, sym, ◌∙◌}
use Rattle.std.specs.Ordering.{nat_cmp}
use Rattle.std.specs.FinMap.{get-empty, len-empty}
use Rattle.mpt_wire.specs.Machine.State.{OpenRequest}
use Rattle.disk_machine.proofs.machine.DiskMachine.new.Goals as goal

pub returns : goal.returns
returns c =
    record {
      disks = c.in_ok-disks.ensures;
      ready = λ a. rw c.new-2.ensures.empty refl;
      mode = refl;
      requests = λ n. rw (c.new-3.ensures.empty, get-empty nat_cmp n) refl;
      unanswered = c.new-3.ensures.len ∙ sym (len-empty nat_cmp OpenRequest);
    }
