-- The limits of controller and fabric, over every case.
use Rattle.std.proofs.Common.{◌≡◌, List, [], ◌∷◌, ◌++◌, sym, subst}
use Rattle.std.specs.Prelude.{All}
use Rattle.std.proofs.lemmas.List.Elements.{All-append, All-cons, All-head, All-nil, All-tail}
use Rattle.mpt_trace.specs.declared.item.Back.{Back}
use Rattle.mpt_rules.specs.Law.{NothingIsStrange}
use Rattle.mpt_rules.specs.Fabric.Parts.{Fabric}
use Rattle.mpt_rules.specs.Ioc.Parts.{Ioc}
use Rattle.mpt_rules.specs.World.Cases.{Case, happens}
use Rattle.mpt_rules.specs.World.State.{World}
use Rattle.law_facts.specs.Facts.{Facts}
use Rattle.law_facts.specs.History.{History}
use Rattle.law_facts.specs.Limits.{Limits, NoticeFits}
use Rattle.law_moves.proofs.Cases.{Owes, kept}
use Rattle.law_limits.specs.Wiring.{WiringFits}
use Rattle.law_limits.proofs.IocFit.{IsFit, PhysFit, back_fits, down_fits, post_fits}
use Rattle.law_limits.proofs.FabricFit.{FabricIsFit, calm_fits, out_fits, plug_fits, run_fits, unplug_fits}

-- controller, fabric and the lane between them have what fits
record FitsAll (ioc : Ioc) (fabric : Fabric) (back : List Back) : Type 0 where
  at_ioc : IsFit ioc
  at_fabric : FabricIsFit fabric
  on_lane : All NoticeFits back

abbrev Fits : World → Type 0
Fits w = FitsAll w.ioc w.fabric w.back

front : (xs ys : List Back) → All NoticeFits (xs ++ ys) → All NoticeFits xs
front [] ys a = All-nil NoticeFits
front (x ∷ xs) ys a = All-cons NoticeFits x xs (All-head NoticeFits x (xs ++ ys) a) (front xs ys (All-tail NoticeFits x (xs ++ ys) a))

behind : (xs ys : List Back) → All NoticeFits (xs ++ ys) → All NoticeFits ys
behind [] ys a = a
behind (x ∷ xs) ys a = behind xs ys (All-tail NoticeFits x (xs ++ ys) a)

module _ (w : World) (p : PhysFit w.fabric.phys) (z : Fits w) where
  by_ioc : (i : Ioc) → IsFit i → FitsAll i w.fabric w.back
  by_ioc i y = record { at_ioc = y; at_fabric = z.at_fabric; on_lane = z.on_lane }

  by_fabric : (x : Fabric) → FabricIsFit x → FitsAll w.ioc x w.back
  by_fabric x y = record { at_ioc = z.at_ioc; at_fabric = y; on_lane = z.on_lane }

  taken : (x : Back) (rest : List Back) → w.back ≡ x ∷ rest → All NoticeFits (x ∷ rest)
  taken x rest e = subst (All NoticeFits) e z.on_lane

  said : (x : Back) (rest : List Back) → w.fabric.notices ≡ x ∷ rest → FabricIsFit (record w.fabric { notices = rest; out = w.fabric.out ++ x ∷ [] })
  said x rest e =
      let a : All NoticeFits (x ∷ rest) = subst (All NoticeFits) e z.at_fabric.announced in
      record { disks_are = z.at_fabric.disks_are; announced = All-tail NoticeFits x rest a; told = All-append NoticeFits w.fabric.out (x ∷ []) z.at_fabric.told (All-cons NoticeFits x [] (All-head NoticeFits x rest a) (All-nil NoticeFits)) }

  put : (x : Back) (rest : List Back) → w.fabric.out ≡ x ∷ rest → FitsAll w.ioc (record w.fabric { out = rest }) (w.back ++ x ∷ [])
  put x rest e =
      let a : All NoticeFits (x ∷ rest) = subst (All NoticeFits) e z.at_fabric.told in
      record {
        at_ioc = z.at_ioc;
        at_fabric = record { disks_are = z.at_fabric.disks_are; announced = z.at_fabric.announced; told = All-tail NoticeFits x rest a };
        on_lane = All-append NoticeFits w.back (x ∷ []) z.on_lane (All-cons NoticeFits x [] (All-head NoticeFits x rest a) (All-nil NoticeFits));
      }

  owed : Owes Fits w
  owed =
      record {
        host_puts = λ x rest e. by_ioc w.ioc z.at_ioc;
        host_takes = λ queue x rest e s. by_ioc w.ioc z.at_ioc;
        host_told = λ i k. by_ioc w.ioc z.at_ioc;
        host_looks = λ e. by_ioc w.ioc z.at_ioc;
        host_stops = λ e. by_ioc w.ioc z.at_ioc;
        ioc_takes = λ x rest e. by_ioc _ (down_fits w.ioc x z.at_ioc);
        ioc_high = λ q rest e. by_ioc _ (post_fits (record w.ioc { high = rest }) q z.at_ioc);
        ioc_normal = λ q rest e. by_ioc _ (post_fits (record w.ioc { normal = rest }) q z.at_ioc);
        ioc_puts_out = λ x rest e. by_ioc _ z.at_ioc;
        ioc_takes_back = λ x rest e.
            let a = taken x rest e in
            record { at_ioc = back_fits w.ioc x (All-head NoticeFits x rest a) z.at_ioc; at_fabric = z.at_fabric; on_lane = All-tail NoticeFits x rest a };
        ioc_puts = λ queue y rest x e f. by_ioc _ z.at_ioc;
        fabric_takes = λ x rest e. by_fabric _ (out_fits w.fabric x p z.at_fabric);
        fabric_says = λ x rest e. by_fabric _ (said x rest e);
        fabric_puts = λ x rest e. put x rest e;
        fabric_runs = λ tag address e. by_fabric _ (run_fits w.fabric tag z.at_fabric);
        plugs = λ address expander phy. by_fabric _ (plug_fits w.fabric address expander phy p z.at_fabric);
        unplugs = λ address. by_fabric _ (unplug_fits w.fabric address z.at_fabric);
        calms = by_fabric _ (calm_fits w.fabric z.at_fabric);
      }

fits_of : (w : World) → Limits w → Fits w
fits_of w l =
    let out_too = front (w.back ++ w.fabric.out) w.fabric.notices l.notices in
    record {
      at_ioc = record { phys_are = (l.few_expanders, l.phys); context_is = l.context; bound = l.bindings; awaited = l.waiting };
      at_fabric = record { disks_are = record { few = l.few_disks; addresses = l.addresses; apart = l.apart }; announced = behind (w.back ++ w.fabric.out) w.fabric.notices l.notices; told = behind w.back w.fabric.out out_too };
      on_lane = front w.back w.fabric.out out_too;
    }

wiring_of : (w : World) → Fits w → WiringFits w
wiring_of w z =
    record {
      few_disks = z.at_fabric.disks_are.few;
      addresses = z.at_fabric.disks_are.addresses;
      apart = z.at_fabric.disks_are.apart;
      few_expanders = z.at_ioc.phys_are.0;
      phys = z.at_ioc.phys_are.1;
      context = z.at_ioc.context_is;
      bindings = z.at_ioc.bound;
      waiting = z.at_ioc.awaited;
      notices = All-append NoticeFits (w.back ++ w.fabric.out) w.fabric.notices (All-append NoticeFits w.back w.fabric.out z.on_lane z.at_fabric.told) z.at_fabric.announced;
    }

pub wiring_kept : (w : World) (h : History) (c : Case) → Facts w h → NothingIsStrange w → WiringFits (happens w c)
wiring_kept w h c f plain =
    let phys_fit : PhysFit w.fabric.phys = subst PhysFit (sym f.disks.disks.phys) (f.limits.few_expanders, f.limits.phys) in
    let z = fits_of w f.limits in
    wiring_of (happens w c) (kept Fits w plain (owed w phys_fit z) z c)
