use Rattle.std.proofs.Common.{◌≡◌, take}
use Rattle.disk_machine.specs.Summary.{parts_with}
use Rattle.mpt_system.proofs.parts_summary.phases_summary.Given as goal

abbrev pub invariant-loop-place : goal.invariant-loop-place
invariant-loop-place l = l.parts ≡ parts_with (take l.place l.host.host.phases) l.quiet
