-- How much a host has to do.
use Rattle.std.specs.Prelude.{ℕ, ◌+◌}
use Rattle.mpt_rules.specs.Host.Parts.{Host}
use Rattle.mpt_rules.specs.World.Weight.{down_items, handles_under_way, open_aborts, open_commands, open_target_resets, waiting_posts}

-- what isn't answered; what it puts, reads not counted; the posts that wait for an identifier; and the handles that are
-- neither ready nor absent
abbrev pub host_things : Host → ℕ
host_things host =
    open_commands host + open_aborts host + open_target_resets host + down_items host.out + waiting_posts host
    + handles_under_way host
