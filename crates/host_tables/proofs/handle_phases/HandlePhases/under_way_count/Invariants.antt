use Rattle.std.proofs.Common.{◌≡◌, ◌≤◌, count_by, take}
use Rattle.mpt_rules.specs.World.Weight.{is_under_way}
use Rattle.host_tables.proofs.handle_phases.HandlePhases.under_way_count.Given as goal

abbrev pub invariant-loop-place : goal.invariant-loop-place
invariant-loop-place l = record { counted : l.count ≡ count_by is_under_way (take l.place l.self-inside.handles); most : l.count ≤ l.place }
