-- So the notices lead on over every case: a discovery, what the controller takes, and the walk.
use Rattle.std.proofs.Common.{◌≡◌, ℕ, ◌≤◌, ◌==◌, Bool, true, false, cond, if◌then◌else◌, List, [], ◌∷◌, ◌++◌, Option, Some, None, is_some, refl, ap, ap₂, sym, ◌∙◌, subst, append_assoc, append-nil, arith}
use Rattle.std.proofs.lemmas.Bool.{eqb-true}
use Rattle.mpt_wire.specs.Machine.State.{MachineDisk, Place}
use Rattle.mpt_trace.specs.declared.item.Back.{Back}
use Rattle.mpt_trace.specs.declared.item.Back.TheVariants as back
use Rattle.mpt_trace.specs.declared.item.Out.{Out}
use Rattle.mpt_trace.specs.declared.item.Out.TheVariants as out
use Rattle.mpt_rules.specs.declared.binding.Waiting.{Waiting}
use Rattle.mpt_rules.specs.Fabric.Calls as fab
use Rattle.mpt_rules.specs.Fabric.Disks.{all_plugged, disk_of}
use Rattle.mpt_rules.specs.Fabric.Parts.{FabricDisk}
use Rattle.mpt_rules.specs.Ioc.Parts.{Ioc}
use Rattle.mpt_rules.specs.Ioc.Steps.{works_on}
use Rattle.mpt_rules.specs.Ioc.Tables.{is_present_at, is_unbound}
use Rattle.mpt_rules.specs.Ioc.Takes as adapter
use Rattle.mpt_rules.specs.Law.{NothingIsStrange}
use Rattle.mpt_rules.specs.World.Cases.{Case, happens}
use Rattle.mpt_rules.specs.World.Counts.{how_many}
use Rattle.mpt_rules.specs.World.News.{is_notice_of, notices_of}
use Rattle.mpt_rules.specs.World.State.{World}
use Rattle.mpt_rules.proofs.Lines.{notices_of-append, notices_of-cons, notices_of-nil}
use Rattle.law_facts.specs.Clock.{IsDark, is_live}
use Rattle.law_facts.specs.Disks.{DiskIs}
use Rattle.law_facts.specs.Facts.{Facts}
use Rattle.law_facts.specs.History.{History}
use Rattle.law_facts.specs.Notices.{Standing, is_plug, known}
use Rattle.law_facts.specs.Words.{others}
use Rattle.law_flights.proofs.WorkLeaves.{works_leaf}
use Rattle.law_handles.proofs.TablesSame.{IsOfNoDisk, of_no_disk}
use Rattle.law_moves.proofs.Cases.{Owes, kept}
use Rattle.law_moves.proofs.Counted.{all_pass, how_many-cons, none_passes, one_mild}
use Rattle.law_notices.specs.Further.{DisksStandApart}
use Rattle.law_notices.proofs.Calls.{Nothing, down_same, no_discovery, nothing_now}
use Rattle.law_notices.proofs.FabricMoves.{calm_moves, is_quiet, out_moves, plug_moves, quiet_of, quiet_unnoticed, run_moves, unplug_moves}
use Rattle.law_notices.proofs.Known.{same_known, unknown_is}
use Rattle.law_notices.proofs.Knows.{once_of, plug_known, unplug_known, works_known}
use Rattle.law_notices.proofs.Leading.{Lead, Leading, Since, as_before, before, line_news, moved, news, standing}
use Rattle.law_notices.proofs.Lit.{dark_when_off, live_back, live_down, live_high, live_normal}
use Rattle.law_notices.proofs.Places.{address_once, discovered, discovered_of, news_of}
use Rattle.law_notices.proofs.Told.{Leads, comes, goes, named, standing_of, unnamed}

-- ---- nothing is known, and nothing on its way

pub nothing_known : (i : Ioc) → Nothing i → (a : ℕ) → known i a ≡ None
nothing_known i n a =
    unknown_is i.bindings i.waiting a
    (let x = none_passes is_unbound (is_present_at a) apart i.bindings n.unbound in
    let y = ap (how_many (Rattle.mpt_rules.specs.Ioc.Bindings.waits_at a)) n.unawaited in
    let z = Rattle.law_moves.proofs.Counted.how_many-nil (Rattle.mpt_rules.specs.Ioc.Bindings.waits_at a) in
    omega (arith, x, y, z))
  where
    apart : (b : Rattle.mpt_rules.specs.declared.binding.Binding.Binding) → is_unbound b ≡ true → is_present_at a b ≡ false
    apart Rattle.mpt_rules.specs.declared.binding.Binding.TheVariants.Unbound e = refl
    apart (Rattle.mpt_rules.specs.declared.binding.Binding.TheVariants.Present address plug expander phy) e = absurd (cc)
    apart (Rattle.mpt_rules.specs.declared.binding.Binding.TheVariants.Gone address) e = absurd (cc)

calm_quiet : (x : Back) → fab.is_calm x ≡ true → is_quiet x ≡ true
calm_quiet (back.Plugged address plug expander phy) e = absurd (cc)
calm_quiet (back.Unplugged address plug expander phy) e = absurd (cc)
calm_quiet (back.Result tag r) e = refl
calm_quiet (back.Gone tag) e = refl
calm_quiet (back.Terminated tag) e = refl
calm_quiet (back.Aborted smid seen) e = refl
calm_quiet (back.Cleared smid count) e = refl
calm_quiet back.Discovered e = refl
calm_quiet (back.Linked generation) e = refl
calm_quiet back.Calm e = refl

pub calm_unnoticed : (a : ℕ) (xs : List Back) → others fab.is_calm xs ≡ 0 → notices_of a xs ≡ []
calm_unnoticed a xs z = quiet_unnoticed a xs (all_pass fab.is_calm is_quiet calm_quiet xs z)

pub dark_news : (v : World) → IsDark v → (a : ℕ) → news v a ≡ []
dark_news v d a = notices_of-append a (v.back ++ v.fabric.out) v.fabric.notices ∙ ap₂ (λ ns ms. ns ++ ms) (calm_unnoticed a (v.back ++ v.fabric.out) d.back) (ap (notices_of a) d.notices ∙ notices_of-nil a)

module _ (w : World) (h : History) (f : Facts w h) where
  abbrev Here : Option Waiting → Option Standing → List Back → ℕ → Type 0
  Here k t ms a = Leading (standing w a) (news w a) w.fabric.on k t ms

  -- ---- a discovery

  module _ (z : DisksStandApart w) where
    found_news : (a : ℕ) → w.fabric.on ≡ false → is_live w ≡ true → notices_of a ((w.back ++ (fab.after_discover w.fabric).out) ++ w.fabric.notices) ≡ discovered_of (disk_of w.fabric a)
    found_news a o l =
        let d = f.clock.fabric_off.dark (dark_when_off w f.clock.fabric_off l o) in
        let lane_out : notices_of a w.back ++ notices_of a w.fabric.out ≡ [] = sym (notices_of-append a w.back w.fabric.out) ∙ calm_unnoticed a (w.back ++ w.fabric.out) d.back in
        let ps : List Back = all_plugged (record w.fabric { on = true }) in
        let end : notices_of a (back.Discovered ∷ []) ≡ [] = quiet_unnoticed a (back.Discovered ∷ []) (one_mild is_quiet back.Discovered refl) in
        let made : notices_of a (ps ++ back.Discovered ∷ []) ≡ discovered_of (disk_of w.fabric a) =
        notices_of-append a ps (back.Discovered ∷ []) ∙ (ap₂ (λ ns ms. ns ++ ms) (discovered (record w.fabric { on = true }) z (address_once w.fabric.disks f.limits.apart) a) end ∙ append-nil (discovered_of (disk_of w.fabric a))) in
        line_news a w.back (w.fabric.out ++ (ps ++ back.Discovered ∷ [])) w.fabric.notices
        ∙ (ap₂ (λ ns ms. (notices_of a w.back ++ ns) ++ ms) (notices_of-append a w.fabric.out (ps ++ back.Discovered ∷ [])) (ap (notices_of a) d.notices ∙ notices_of-nil a)
        ∙ (append-nil (notices_of a w.back ++ (notices_of a w.fabric.out ++ notices_of a (ps ++ back.Discovered ∷ [])))
        ∙ (sym (append_assoc (notices_of a w.back) (notices_of a w.fabric.out) (notices_of a (ps ++ back.Discovered ∷ [])))
        ∙ ap₂ (λ ns ms. ns ++ ms) lane_out made)))

    discovered_leads : (a : ℕ) (o : Option FabricDisk) → disk_of w.fabric a ≡ o → Leads None (discovered_of o) (standing_of o)
    discovered_leads a None e = (refl, refl)
    discovered_leads a (Some d) e = by_place d.at refl
      where
        plugged_once : (p : Place) → d.at ≡ Some p → 1 ≤ d.plugs
        plugged_once p n = by_disk (h.machine.disks a) (subst (DiskIs (h.machine.disks a)) e (f.disks.disk a))
          where
            by_disk : (m : Option MachineDisk) → DiskIs m (Some d) → 1 ≤ d.plugs
            by_disk None k = absurd k
            by_disk (Some m) k = k.4 (ap is_some n)

        by_place : (q : Option Place) → d.at ≡ q → Leads None (news_of d q) (Some (record { plugs = d.plugs; at = d.at }))
        by_place None n = subst (λ q. Leads None [] (Some (record { plugs = d.plugs; at = q }))) (sym n) (unnamed d.plugs)
        by_place (Some p) n = subst (λ q. Leads None (news_of d (Some p)) (Some (record { plugs = d.plugs; at = q }))) (sym n) (named d.plugs d.address p (plugged_once p n))

    discovers : (rest : List Out) → w.out ≡ out.Discover ∷ rest → is_live w ≡ true → (a : ℕ) → Here (known w.ioc a) (standing w a) (notices_of a ((w.back ++ (fab.after_discover w.fabric).out) ++ w.fabric.notices)) a
    discovers rest e l a = by_on w.fabric.on refl
      where
        by_on : (b : Bool) → w.fabric.on ≡ b → Here (known w.ioc a) (standing w a) (notices_of a ((w.back ++ (fab.after_discover w.fabric).out) ++ w.fabric.notices)) a
        by_on true o = absurd (no_discovery w h f rest e l o)
        by_on false o =
            record {
              leads = subst (λ k. Leads k (notices_of a ((w.back ++ (fab.after_discover w.fabric).out) ++ w.fabric.notices)) (standing w a)) (sym (nothing_known w.ioc (nothing_now w h f o) a))
                  (subst (λ ns. Leads None ns (standing w a)) (sym (found_news a o l)) (discovered_leads a (disk_of w.fabric a) refl));
              since = λ y. absurd (cc);
            }

    taken : (x : Out) (rest : List Out) → w.out ≡ x ∷ rest → is_live w ≡ true → (fab.takes_out w.fabric x).on ≡ true → (a : ℕ)
        → Here (known w.ioc a) (standing_of (disk_of (fab.takes_out w.fabric x) a)) (notices_of a ((w.back ++ (fab.takes_out w.fabric x).out) ++ (fab.takes_out w.fabric x).notices)) a
    taken out.Discover rest e l o a = discovers rest e l a
    taken (out.Link generation) rest e l o a = absurd (cc)
    taken (out.Task tag address command) rest e l o a = moved w h f _ (out_moves w.fabric (out.Task tag address command) refl) l o a
    taken (out.Abort smid task) rest e l o a = moved w h f _ (out_moves w.fabric (out.Abort smid task) refl) l o a
    taken (out.TargetReset smid address) rest e l o a = moved w h f _ (out_moves w.fabric (out.TargetReset smid address) refl) l o a
    taken out.Stop rest e l o a = before w h f l o a

  -- ---- what the controller takes

  front_news : (x : Back) (rest : List Back) → w.back ≡ x ∷ rest → (a : ℕ) → news w a ≡ (if is_notice_of a x then x ∷ notices_of a ((rest ++ w.fabric.out) ++ w.fabric.notices) else notices_of a ((rest ++ w.fabric.out) ++ w.fabric.notices))
  front_news x rest e a = ap (λ xs. notices_of a ((xs ++ w.fabric.out) ++ w.fabric.notices)) e ∙ notices_of-cons a x ((rest ++ w.fabric.out) ++ w.fabric.notices)

  other : (x : Back) (rest : List Back) → w.back ≡ x ∷ rest → IsOfNoDisk x → is_quiet x ≡ true → is_live w ≡ true → w.fabric.on ≡ true → (a : ℕ)
      → Here (known (adapter.takes_back w.ioc x).part a) (standing w a) (notices_of a ((rest ++ w.fabric.out) ++ w.fabric.notices)) a
  other x rest e n q l o a =
      as_before w h f l o a _ _ _ (same_known (adapter.takes_back w.ioc x).part w.ioc a (of_no_disk w.ioc x n).0) refl
      (sym (front_news x rest e a ∙ ap (λ b. if b then x ∷ notices_of a ((rest ++ w.fabric.out) ++ w.fabric.notices) else notices_of a ((rest ++ w.fabric.out) ++ w.fabric.notices)) (quiet_of a x q)))

  -- more was told of a disk that stands as before
  told_more : (s : Standing) (x : Back) (ns : List Back) → Since (Some s) (x ∷ ns) (Some s) ns
  told_more s x ns = (let c = how_many-cons is_plug x ns in omega (arith, c), λ n e. e)

  module _ (x : Back) (rest : List Back) (e : w.back ≡ x ∷ rest) (l : is_live w ≡ true) (o : w.fabric.on ≡ true) (b : ℕ) (k : Option Waiting) (mine : (a : ℕ) → is_notice_of a x ≡ (b == a))
      (knows : (a : ℕ) → known (adapter.takes_back w.ioc x).part a ≡ cond (b == a) k (known w.ioc a))
      (step : (d : Standing) → Leads (known w.ioc b) (x ∷ notices_of b ((rest ++ w.fabric.out) ++ w.fabric.notices)) (Some d) → Leads k (notices_of b ((rest ++ w.fabric.out) ++ w.fabric.notices)) (Some d)) where
    of_disk : (s : Option Standing) → Leads (known w.ioc b) (x ∷ notices_of b ((rest ++ w.fabric.out) ++ w.fabric.notices)) s
        → Leading s (x ∷ notices_of b ((rest ++ w.fabric.out) ++ w.fabric.notices)) w.fabric.on k s (notices_of b ((rest ++ w.fabric.out) ++ w.fabric.notices))
    of_disk None r = let z = r.1 in absurd (cc)
    of_disk (Some d) r = record { leads = step d r; since = λ y. told_more d x (notices_of b ((rest ++ w.fabric.out) ++ w.fabric.notices)) }

    news_taken : (a : ℕ) → Here (known (adapter.takes_back w.ioc x).part a) (standing w a) (notices_of a ((rest ++ w.fabric.out) ++ w.fabric.notices)) a
    news_taken a = by_key (b == a) refl
      where
        seen : news w a ≡ (if b == a then x ∷ notices_of a ((rest ++ w.fabric.out) ++ w.fabric.notices) else notices_of a ((rest ++ w.fabric.out) ++ w.fabric.notices))
        seen = front_news x rest e a ∙ ap (λ t. if t then x ∷ notices_of a ((rest ++ w.fabric.out) ++ w.fabric.notices) else notices_of a ((rest ++ w.fabric.out) ++ w.fabric.notices)) (mine a)

        by_key : (t : Bool) → (b == a) ≡ t → Here (known (adapter.takes_back w.ioc x).part a) (standing w a) (notices_of a ((rest ++ w.fabric.out) ++ w.fabric.notices)) a
        by_key false t = as_before w h f l o a _ _ _ (knows a ∙ ap (λ c. cond c k (known w.ioc a)) t) refl (sym (seen ∙ ap (λ c. if c then x ∷ notices_of a ((rest ++ w.fabric.out) ++ w.fabric.notices) else notices_of a ((rest ++ w.fabric.out) ++ w.fabric.notices)) t))
        by_key true t = subst (λ j. Here (known (adapter.takes_back w.ioc x).part j) (standing w j) (notices_of j ((rest ++ w.fabric.out) ++ w.fabric.notices)) j) (eqb-true b a t) own
          where
            self : (b == b) ≡ true
            self = grind arith

            was : news w b ≡ x ∷ notices_of b ((rest ++ w.fabric.out) ++ w.fabric.notices)
            was =
                front_news x rest e b
                ∙ ap (λ t. if t then x ∷ notices_of b ((rest ++ w.fabric.out) ++ w.fabric.notices) else notices_of b ((rest ++ w.fabric.out) ++ w.fabric.notices)) (mine b ∙ self)

            own : Here (known (adapter.takes_back w.ioc x).part b) (standing w b) (notices_of b ((rest ++ w.fabric.out) ++ w.fabric.notices)) b
            own =
                subst (λ j. Here j (standing w b) (notices_of b ((rest ++ w.fabric.out) ++ w.fabric.notices)) b) (sym (knows b ∙ ap (λ c. cond c k (known w.ioc b)) self))
                (subst (λ ms. Leading (standing w b) ms w.fabric.on k (standing w b) (notices_of b ((rest ++ w.fabric.out) ++ w.fabric.notices))) (sym was)
                (of_disk (standing w b) (subst (λ ms. Leads (known w.ioc b) ms (standing w b)) was (before w h f l o b).leads)))

  back_taken : (x : Back) (rest : List Back) → w.back ≡ x ∷ rest → is_live w ≡ true → w.fabric.on ≡ true → (a : ℕ)
      → Here (known (adapter.takes_back w.ioc x).part a) (standing w a) (notices_of a ((rest ++ w.fabric.out) ++ w.fabric.notices)) a
  back_taken (back.Plugged address plug expander phy) rest e l o =
      news_taken (back.Plugged address plug expander phy) rest e l o address (Some (record { address = address; plug = plug; expander = expander; phy = phy })) (λ a. refl)
      (plug_known w h f l address plug expander phy rest e) (λ d r. (comes (known w.ioc address) d address plug expander phy (notices_of address ((rest ++ w.fabric.out) ++ w.fabric.notices)) r).1)
  back_taken (back.Unplugged address plug expander phy) rest e l o =
      news_taken (back.Unplugged address plug expander phy) rest e l o address None (λ a. refl)
      (unplug_known w h f l address plug expander phy) (λ d r. (goes (known w.ioc address) d address plug expander phy (notices_of address ((rest ++ w.fabric.out) ++ w.fabric.notices)) r).1)
  back_taken (back.Result tag r) rest e l o = other (back.Result tag r) rest e tt refl l o
  back_taken (back.Gone tag) rest e l o = other (back.Gone tag) rest e tt refl l o
  back_taken (back.Terminated tag) rest e l o = other (back.Terminated tag) rest e tt refl l o
  back_taken (back.Aborted smid seen) rest e l o = other (back.Aborted smid seen) rest e tt refl l o
  back_taken (back.Cleared smid count) rest e l o = other (back.Cleared smid count) rest e tt refl l o
  back_taken back.Discovered rest e l o = other back.Discovered rest e tt refl l o
  back_taken (back.Linked generation) rest e l o = other (back.Linked generation) rest e tt refl l o
  back_taken back.Calm rest e l o = other back.Calm rest e tt refl l o

  -- ---- every case

  known_as : (i : Ioc) → is_live w ≡ true → w.fabric.on ≡ true → (a : ℕ) → known i a ≡ known w.ioc a → Here (known i a) (standing w a) (news w a) a
  known_as i l o a e = as_before w h f l o a (known i a) (standing w a) (news w a) e refl refl

  owed : DisksStandApart w → Owes (Lead w h f) w
  owed z =
      record {
        host_puts = λ x rest e l o a. before w h f l o a;
        host_takes = λ queue x rest e s l o a. before w h f l o a;
        host_told = λ i k l o a. before w h f l o a;
        host_looks = λ e l o a. before w h f l o a;
        host_stops = λ e l o a. before w h f l o a;
        ioc_takes = λ x rest e l o a. known_as (adapter.takes_down w.ioc x).part (live_down w h f x o l) o a (same_known _ w.ioc a (down_same w h f x l));
        ioc_high = λ q rest e l o a. known_as (works_on (record w.ioc { high = rest }) q).part (live_high w h f q rest e) o a (works_known (record w.ioc { high = rest }) q (works_on (record w.ioc { high = rest }) q) (works_leaf (record w.ioc { high = rest }) q) (once_of w h f) a);
        ioc_normal = λ q rest e l o a. known_as (works_on (record w.ioc { normal = rest }) q).part (live_normal w h f q rest e) o a (works_known (record w.ioc { normal = rest }) q (works_on (record w.ioc { normal = rest }) q) (works_leaf (record w.ioc { normal = rest }) q) (once_of w h f) a);
        ioc_puts_out = λ x rest e l o a. before w h f l o a;
        ioc_takes_back = λ x rest e l o a. back_taken x rest e (live_back w h f x o l) o a;
        ioc_puts = λ queue y rest x e g l o a. before w h f l o a;
        fabric_takes = λ x rest e l o a. taken z x rest e l o a;
        fabric_says = λ x rest e l o a.
            as_before w h f l o a (known w.ioc a) (standing w a) _ refl refl
            (ap (notices_of a) (ap (λ ys. ys ++ rest) (sym (append_assoc w.back w.fabric.out (x ∷ []))) ∙ (append_assoc (w.back ++ w.fabric.out) (x ∷ []) rest ∙ ap (λ ys. (w.back ++ w.fabric.out) ++ ys) (sym e))));
        fabric_puts = λ x rest e l o a.
            as_before w h f l o a (known w.ioc a) (standing w a) _ refl refl
            (ap (λ ys. notices_of a (ys ++ w.fabric.notices)) (append_assoc w.back (x ∷ []) rest ∙ ap (λ ys. w.back ++ ys) (sym e)));
        fabric_runs = λ tag address e l o a. moved w h f _ (run_moves w.fabric tag) l o a;
        plugs = λ address expander phy l o a. moved w h f _ (plug_moves w.fabric address expander phy) l o a;
        unplugs = λ address l o a. moved w h f _ (unplug_moves w.fabric address) l o a;
        calms = λ l o a. moved w h f _ (calm_moves w.fabric) l o a;
      }

  pub lead_kept : NothingIsStrange w → DisksStandApart w → (c : Case) → Lead w h f (happens w c)
  lead_kept plain z c = kept (Lead w h f) w plain (owed z) (λ l o a. before w h f l o a) c
