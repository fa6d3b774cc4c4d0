-- What the controller knows of each disk leads, by the notices, to how it stands, in the world behind any case.
use Rattle.std.proofs.Common.{◌≡◌, ℕ, Bool, true, false, [], Some, None, refl, ap, subst}
use Rattle.mpt_rules.specs.declared.binding.Waiting.{Waiting}
use Rattle.mpt_rules.specs.Fabric.Disks.{disk_of}
use Rattle.mpt_rules.specs.Law.{NothingIsStrange}
use Rattle.mpt_rules.specs.World.Cases.{Case, entries, happens}
use Rattle.mpt_rules.specs.World.State.{World}
use Rattle.law_facts.specs.Clock.{Clock, is_live}
use Rattle.law_facts.specs.Facts.{Facts}
use Rattle.law_facts.specs.History.{History, history_after}
use Rattle.law_facts.specs.Notices.{Noticed, known}
use Rattle.law_lights.proofs.ClocksKept.{clocks_kept}
use Rattle.law_notices.specs.Further.{DisksStandApart}
use Rattle.law_notices.proofs.Fit.{bare_kept}
use Rattle.law_notices.proofs.Leading.{news, standing}
use Rattle.law_notices.proofs.LeadsKept.{dark_news, lead_kept, nothing_known}
use Rattle.law_notices.proofs.Lit.{dark_when_off}
use Rattle.law_notices.proofs.Told.{Leads, standing_of}

module _ (w : World) (h : History) (c : Case) (f : Facts w h) (plain : NothingIsStrange w) (z : DisksStandApart w) where
  abbrev v : World
  v = happens w c

  clock : Clock (happens w c) (history_after h (entries w c))
  clock = clocks_kept w h c f plain

  lit : is_live (happens w c) ≡ true → (happens w c).fabric.on ≡ true → (a : ℕ) → Leads (known (happens w c).ioc a) (news (happens w c) a) (standing (happens w c) a)
  lit l o a = (lead_kept w h f plain z c l o a).leads

  off_known : is_live (happens w c) ≡ true → (happens w c).fabric.on ≡ false → (a : ℕ) → known (happens w c).ioc a ≡ None
  off_known l o a = nothing_known (happens w c).ioc (bare_kept w h f plain c l o) a

  pub noticed : (a : ℕ) → Noticed (happens w c) a
  noticed a =
      record {
        lead = λ d l o e. (subst (Leads (known (happens w c).ioc a) (news (happens w c) a)) (ap standing_of e) (lit l o a)).0;
        plug = λ d k l e q. by_on d k l e q (happens w c).fabric.on refl;
        none = λ l e. none_by l e (happens w c).fabric.on refl;
      }
    where
      by_on : (d : Rattle.mpt_rules.specs.Fabric.Parts.FabricDisk) (k : Waiting) → is_live (happens w c) ≡ true → disk_of (happens w c).fabric a ≡ Some d → known (happens w c).ioc a ≡ Some k → (b : Bool) → (happens w c).fabric.on ≡ b
          → k.plug ≡ Rattle.law_facts.specs.Notices.plugs_told (happens w c) a d.plugs
      by_on d k l e q true o = (subst (Leads (known (happens w c).ioc a) (news (happens w c) a)) (ap standing_of e) (lit l o a)).1 k q
      by_on d k l e q false o = let n = off_known l o a in absurd (cc)

      none_by : is_live (happens w c) ≡ true → disk_of (happens w c).fabric a ≡ None → (b : Bool) → (happens w c).fabric.on ≡ b → (known (happens w c).ioc a ≡ None) × (news (happens w c) a ≡ [])
      none_by l e true o = subst (Leads (known (happens w c).ioc a) (news (happens w c) a)) (ap standing_of e) (lit l o a)
      none_by l e false o = (off_known l o a, dark_news (happens w c) (clock.fabric_off.dark (dark_when_off (happens w c) clock.fabric_off l o)) a)
