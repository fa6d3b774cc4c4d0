use Rattle.std.proofs.Common.{◌≡◌, ◌+◌, ◌*◌, ◌-◌}
use Rattle.mpt_wire.specs.Messages.Fields.{changes_from}
use Rattle.mpt_rules.specs.Host.Removal.{added_handles, first_not_absent}
use Rattle.host_reading.proofs.change.first_not_absent.Given as goal

abbrev pub invariant-loop-place : goal.invariant-loop-place
invariant-loop-place l = first_not_absent l.initial.phases (added_handles (changes_from l.fn.frame 0x28 l.place-end)) ≡ first_not_absent l.phases (added_handles (changes_from l.fn.frame (0x28 + 4 * l.place) (l.place-end - l.place)))
