-- Of the counts, those that need no phase.
use Rattle.std.specs.Prelude.{◌≡◌, count_by}
use Rattle.std.specs.FinMap as finmap
use Rattle.smid_pool.specs.Pool.{is_open, slots_in}
use Rattle.smid_pool.specs.declared.class.Class.TheVariants.{High, ScsiIo}
use Rattle.mpt_rules.specs.World.State.{World}
use Rattle.law_facts.specs.Disks.{is_target}
use Rattle.law_facts.specs.History.{History}

-- of `SameCounts`: `mode`, `requests` and `resets`
pub record SameTallies (w : World) (h : History) : Type 0 where
  pub mode : h.machine.mode ≡ w.host.mode
  pub requests : finmap.len h.machine.requests ≡ count_by is_open (slots_in ScsiIo w.host.pool)
  pub resets : h.machine.all_resets ≡ count_by is_target (slots_in High w.host.pool)
