-- Events are let through before the port is enabled, and so before a disk is bound.
use Rattle.std.specs.Prelude.{◌≡◌, ℕ, true, false}
use Rattle.mpt_rules.specs.Ioc.Tables.{binding_of, is_unbound}
use Rattle.mpt_rules.specs.World.State.{World}
use Rattle.law_facts.specs.Clock.{is_live}

pub record EventsThrough (w : World) : Type 0 where
  pub enabled : is_live w ≡ true → w.ioc.enabled ≡ true → w.ioc.through ≡ true
  pub bound : (handle : ℕ) → is_unbound (binding_of w.ioc handle) ≡ false → w.ioc.through ≡ true
