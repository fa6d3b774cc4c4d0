-- What the rule of least posts has of the identifiers of task management: of `Given` and of `OpenGiven` the half of that class.
use Rattle.std.specs.Prelude.{◌≡◌, ℕ, ◌≤◌, filter_map, map}
use Rattle.mpi_rings.specs.declared.request_descriptor.PostKind.TheVariants as post
use Rattle.smid_pool.specs.Pool.{is_open}
use Rattle.mpt_rules.specs.World.State.{World}
use Rattle.law_facts.specs.History.{History}
use Rattle.law_facts.specs.Ties.{another, made_by}
use Rattle.law_facts.specs.Words.{slot}

pub record HighGiven (w : World) (h : History) : Type 0 where
  pub made : h.giving.high.made ≡ filter_map (made_by post.HighPriority) w.host.out
  pub waiting : h.giving.high.waiting ≡ map another w.host.wait_high
  pub opened : (s : ℕ) → 257 ≤ s → s ≤ 264 → h.giving.high.is_open s ≡ is_open (slot w.host s)
