use Rattle.std.proofs.Common.{◌≡◌, drop}
use Rattle.mpt_wire.specs.Machine.Reports.{last_machine}
use Rattle.mpt_wire.specs.Machine.SoFar.{SoFar}
use Rattle.mpt_wire.specs.Machine.State.{Machine}
use Rattle.mpt_wire.specs.Machine.Steps.{after_all}
use Rattle.mpt_wire.specs.Machine.View.{view_from}
use Rattle.disk_machine.specs.Walk.{Accords}
use Rattle.disk_machine.proofs.walking.walked.Given as goal

-- the walk accords with a machine and with what was said, from which the entries that are left lead to the last machine
abbrev pub invariant-loop-i : goal.invariant-loop-i
invariant-loop-i l =
    (m : Machine) × ((g : SoFar) × (Accords l.walk m g × (after_all m (view_from g (drop l.i l.entries)) ≡ last_machine l.fn.disks l.entries)))
