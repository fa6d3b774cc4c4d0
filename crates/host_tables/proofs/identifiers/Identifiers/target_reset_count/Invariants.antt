use Rattle.std.proofs.Common.{◌≡◌, ◌≤◌, count_by, take}
use Rattle.mpt_rules.specs.World.Weight.{is_target_reset_slot}
use Rattle.host_tables.proofs.identifiers.Identifiers.target_reset_count.Given as goal

abbrev pub invariant-loop-place : goal.invariant-loop-place
invariant-loop-place l = record { counted : l.count ≡ count_by is_target_reset_slot (take l.place l.self-inside.pool); most : l.count ≤ l.place }
