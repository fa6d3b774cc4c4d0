-- A bound plug was told, and the plug of a gone handle has ended, in the world behind any case.
use Rattle.std.proofs.Common.{◌≡◌, ℕ, zero, suc, ◌-◌, ◌<◌, ◌≤◌, ◌==◌, nat_le, nat_lt, ◌&&◌, ◌||◌, ◌⊎◌, inl, inr, Bool, true, false, List, [], ◌∷◌, length, get_or, Option, Some, None, is_none, refl, ap, sym, ◌∙◌, subst, arith}
use Rattle.std.specs.Prelude.{All}
use Rattle.std.specs.List.{find}
use Rattle.std.proofs.lemmas.List.Elements.{All-head, All-tail}
use Rattle.removal.specs.Handles.{IsHandle}
use Rattle.mpt_wire.specs.Handles.Bindings.{Plug}
use Rattle.mpt_wire.specs.Machine.State.{MachineDisk, has_ended, place_of, plugs_of}
use Rattle.mpt_rules.specs.declared.binding.Binding.{Binding}
use Rattle.mpt_rules.specs.declared.binding.Binding.TheVariants as binding
use Rattle.mpt_rules.specs.Fabric.Disks.{disk_of}
use Rattle.mpt_rules.specs.Fabric.Parts.{FabricDisk}
use Rattle.mpt_rules.specs.Ioc.Bindings.{waits_at}
use Rattle.mpt_rules.specs.Ioc.Tables.{binding_of, first_handle, is_present_at, is_unbound}
use Rattle.mpt_rules.specs.Law.{NothingIsStrange}
use Rattle.mpt_rules.specs.World.Cases.{Case, entries, happens}
use Rattle.mpt_rules.specs.World.State.{World}
use Rattle.mpt_rules.specs.World.Weight.{is_gone_binding}
use Rattle.law_facts.specs.Clock.{is_live}
use Rattle.law_facts.specs.Disks.{DiskIs}
use Rattle.law_facts.specs.Facts.{Facts}
use Rattle.law_facts.specs.Handles.{BindingIs}
use Rattle.law_facts.specs.History.{History, history_after}
use Rattle.law_facts.specs.Notices.{PlugsBound, Standing, by_binding, known, plugs_told}
use Rattle.law_disks.proofs.DisksKept.{disk_kept}
use Rattle.law_handles.proofs.ServingWorld.{serves_after}
use Rattle.law_handles.proofs.Tables.{at, binding_is}
use Rattle.law_lives.proofs.Standing.{bindings_stand}
use Rattle.law_lives.specs.Standing.{BindingsStand}
use Rattle.law_targets.proofs.Stays.{bound_stays}
use Rattle.law_notices.specs.Further.{BoundWasPlugged, DisksStandApart, DisksWerePlugged}
use Rattle.law_notices.proofs.Bound.{Ended, GoneBefore, gone_before}
use Rattle.law_notices.proofs.Calls.{unbound_at}
use Rattle.law_notices.proofs.Fit.{bare_kept}
use Rattle.law_notices.proofs.Found.{found_at, same_is}
use Rattle.law_notices.proofs.Leading.{HasEnded, Since, news, standing}
use Rattle.law_notices.proofs.LeadsKept.{lead_kept}
use Rattle.law_notices.proofs.Noticed.{noticed}
use Rattle.law_notices.proofs.Told.{standing_of, stands, told_so_far}
use Rattle.law_notices.proofs.WerePlugged.{were_kept}

not_both : {X : Type 0} {x : X} (o : Option X) → o ≡ None → o ≡ Some x → ⊥
not_both None e g = absurd (cc)
not_both (Some y) e g = absurd (cc)

-- ---- the machine's disk stands as the fabric's

record Alike (m : Option MachineDisk) (s : Standing) : Type 0 where
  plugs : plugs_of m ≡ s.plugs
  place : place_of m ≡ s.at

alike : (m : Option MachineDisk) (o : Option FabricDisk) (s : Standing) → DiskIs m o → standing_of o ≡ Some s → Alike m s
alike None None s k e = absurd (cc)
alike None (Some d) s k e = absurd k
alike (Some m) None s k e = absurd k
alike (Some m) (Some d) s k e = let same : stands d ≡ s = cc in record { plugs = k.2 ∙ ap (λ (x : Standing). x.plugs) same; place = k.1 ∙ ap (λ (x : Standing). x.at) same }

ended_is : (m : Option MachineDisk) (s : Standing) (n : ℕ) → Alike m s → HasEnded s n → has_ended m n ≡ true
ended_is m s n a (inl l) = let p = a.plugs in grind (arith, p, l)
ended_is m s n a (inr e) = let p = a.plugs in let q : is_none (place_of m) ≡ true = ap is_none (a.place ∙ e.1) in let r : n ≡ plugs_of m = e.0 ∙ sym p in grind (arith, q, r)

ended_of : (m : Option MachineDisk) (s : Standing) (n : ℕ) → Alike m s → has_ended m n ≡ true → HasEnded s n
ended_of m s n a e = by_parts (nat_lt n (plugs_of m)) (n == plugs_of m) (is_none (place_of m)) refl refl refl e
  where
    none_is : {X : Type 0} (o : Option X) → is_none o ≡ true → o ≡ None
    none_is None z = refl
    none_is (Some x) z = absurd (cc)

    by_parts : (x y z : Bool) → nat_lt n (plugs_of m) ≡ x → (n == plugs_of m) ≡ y → is_none (place_of m) ≡ z → (x || (y && z)) ≡ true → HasEnded s n
    by_parts true y z t u v k = let l : n < plugs_of m = grind (arith, t) in let p = a.plugs in inl (omega (arith, l, p))
    by_parts false true true t u v k = let l : n ≡ plugs_of m = grind (arith, u) in inr (l ∙ a.plugs, sym a.place ∙ none_is (place_of m) v)
    by_parts false true false t u v k = absurd (cc)
    by_parts false false z t u v k = absurd (cc)

-- a disk that was plugged is there
there : (m : Option MachineDisk) (o : Option FabricDisk) → DiskIs m o → 1 ≤ plugs_of m → (s : Standing) × (standing_of o ≡ Some s)
there None o k l = absurd (omega (arith, l))
there (Some m) None k l = absurd k
there (Some m) (Some d) k l = (stands d, refl)

entry_of : (bs : List Binding) (i : ℕ) → All BoundWasPlugged bs → BoundWasPlugged (get_or bs i binding.Unbound)
entry_of [] i a = tt
entry_of (b ∷ bs) zero a = All-head BoundWasPlugged b bs a
entry_of (b ∷ bs) (suc i) a = entry_of bs i (All-tail BoundWasPlugged b bs a)

module _ (w : World) (h : History) (c : Case) (f : Facts w h) (plain : NothingIsStrange w) (z : DisksStandApart w) (y : DisksWerePlugged w) where
  bindings : BindingsStand (happens w c) (history_after h (entries w c))
  bindings = bindings_stand w h c f

  machine : (a : ℕ) → DiskIs ((history_after h (entries w c)).machine.disks a) (disk_of (happens w c).fabric a)
  machine a = disk_kept w h f plain a c

  -- of a handle
  module _ (g : ℕ) (handle : IsHandle g) (p : Plug) (l : is_live (happens w c) ≡ true) (o : (happens w c).fabric.on ≡ true) (e : (history_after h (entries w c)).serving.bound g ≡ Some p) where
    record Fits : Type 0 where
      least : 1 ≤ p.number
      most : p.number ≤ plugs_told (happens w c) p.address (plugs_of ((history_after h (entries w c)).machine.disks p.address))
      ended : is_gone_binding (at (happens w c).ioc.bindings g) ≡ true → has_ended ((history_after h (entries w c)).machine.disks p.address) p.number ≡ true

    -- its disk is present
    present_fits : (a q x r : ℕ) → at (happens w c).ioc.bindings g ≡ binding.Present a q x r → length (happens w c).ioc.bindings ≡ 64 → p ≡ record { address = a; number = q } → Fits
    present_fits a q x r b n s =
        record {
          least = subst (λ m. 1 ≤ m) (sym number) (subst BoundWasPlugged b (entry_of (happens w c).ioc.bindings (g - first_handle) (were_kept w h f y plain c).bound));
          most = by_disk (disk_of (happens w c).fabric a) refl;
          ended = λ t. let u = ap is_gone_binding b in absurd (cc);
        }
      where
        number : p.number ≡ q
        number = ap (λ (k : Plug). k.number) s

        there_is : is_present_at a (at (happens w c).ioc.bindings g) ≡ true
        there_is = ap (is_present_at a) b ∙ same_is a

        known_is : known (happens w c).ioc a ≡ Some (record { address = a; plug = q; expander = x; phy = r })
        known_is =
            let i = handle.0 in let j = handle.1 in let k = bindings.known_once a in
            let found : find (is_present_at a) (happens w c).ioc.bindings ≡ Some (at (happens w c).ioc.bindings g) = found_at (is_present_at a) (happens w c).ioc.bindings (g - first_handle) binding.Unbound (omega (arith, k)) (omega (arith, i, j, n)) there_is in
            ap (λ m. by_binding m (find (waits_at a) (happens w c).ioc.waiting)) (found ∙ ap Some b)

        by_disk : (m : Option FabricDisk) → disk_of (happens w c).fabric a ≡ m → p.number ≤ plugs_told (happens w c) p.address (plugs_of ((history_after h (entries w c)).machine.disks p.address))
        by_disk None d = let u = ((noticed w h c f plain z a).none l d).0 in absurd (not_both (known (happens w c).ioc a) u known_is)
        by_disk (Some d) m =
            let u = (noticed w h c f plain z a).plug d (record { address = a; plug = q; expander = x; phy = r }) l m known_is in
            let same = (alike ((history_after h (entries w c)).machine.disks a) (disk_of (happens w c).fabric a) (stands d) (machine a) (ap standing_of m)).plugs in
            let k : q ≡ plugs_told (happens w c) a (plugs_of ((history_after h (entries w c)).machine.disks a)) = u ∙ ap (plugs_told (happens w c) a) (sym same) in
            let k2 : p.number ≡ plugs_told (happens w c) p.address (plugs_of ((history_after h (entries w c)).machine.disks p.address)) =
            number ∙ (k ∙ ap (λ (t : Plug). plugs_told (happens w c) t.address (plugs_of ((history_after h (entries w c)).machine.disks t.address))) (sym s)) in
            omega (arith, k2)

    -- it is gone
    gone_fits : is_gone_binding (at (happens w c).ioc.bindings g) ≡ true → Fits
    gone_fits b =
        let m = there (h.machine.disks p.address) (disk_of w.fabric p.address) (f.disks.disk p.address) plugged in
        by_after m.0 m.1 (standing (happens w c) p.address) refl (subst (λ t. Since t (news w p.address) (standing (happens w c) p.address) (news (happens w c) p.address)) m.1 ((lead_kept w h f plain z c l o p.address).since gone.on))
      where
        gone : GoneBefore w h f g handle (entries w c)
        gone = gone_before w h f g handle plain c l o b

        bound : h.serving.bound g ≡ Some p
        bound = sym (bound_stays g (entries w c) h.serving gone.keeps) ∙ e

        least : 1 ≤ p.number
        least = (f.notices.plugs g).least p gone.live bound

        most : p.number ≤ plugs_told w p.address (plugs_of (h.machine.disks p.address))
        most = (f.notices.plugs g).most p gone.live bound

        plugged : 1 ≤ plugs_of (h.machine.disks p.address)
        plugged = let x = least in let m = most in omega (arith, x, m)

        was_ended : (s : Standing) → standing w p.address ≡ Some s → HasEnded s p.number
        was_ended s d = by_was gone.was
          where
            by_was : (is_gone_binding (at w.ioc.bindings g) ≡ true) ⊎ Ended w h f g handle → HasEnded s p.number
            by_was (inl t) =
                ended_of (h.machine.disks p.address) s p.number (alike (h.machine.disks p.address) (disk_of w.fabric p.address) s (f.disks.disk p.address) d)
                ((f.notices.plugs g).ended p gone.live bound (ap is_gone_binding (binding_is w.ioc g handle) ∙ t))
            by_was (inr t) = t p s bound d

        by_after : (s : Standing) → standing w p.address ≡ Some s → (t : Option Standing) → standing (happens w c) p.address ≡ t → Since (Some s) (news w p.address) (standing (happens w c) p.address) (news (happens w c) p.address) → Fits
        by_after s d None m k = absurd (subst (λ t. Since (Some s) (news w p.address) t (news (happens w c) p.address)) m k)
        by_after s d (Some t) m k =
            let k2 : Since (Some s) (news w p.address) (Some t) (news (happens w c) p.address) = subst (λ t. Since (Some s) (news w p.address) t (news (happens w c) p.address)) m k in
            let now = alike ((history_after h (entries w c)).machine.disks p.address) (disk_of (happens w c).fabric p.address) t (machine p.address) m in
            let was = (alike (h.machine.disks p.address) (disk_of w.fabric p.address) s (f.disks.disk p.address) d).plugs in
            let x = most in
            let x2 : p.number ≤ told_so_far s.plugs (news w p.address) = subst (λ q. p.number ≤ told_so_far q (news w p.address)) was x in
            let grew = k2.0 in
            let x3 : p.number ≤ told_so_far t.plugs (news (happens w c) p.address) = omega (arith, x2, grew) in
            record {
              least = least;
              most = subst (λ q. p.number ≤ told_so_far q (news (happens w c) p.address)) (sym now.plugs) x3;
              ended = λ b. ended_is ((history_after h (entries w c)).machine.disks p.address) t p.number now (k2.1 p.number (was_ended s d));
            }

    fits : length (happens w c).ioc.bindings ≡ 64 → (b : Binding) → at (happens w c).ioc.bindings g ≡ b → BindingIs b (Some p) → Fits
    fits n binding.Unbound m k = absurd (cc)
    fits n (binding.Present a q x r) m k = present_fits a q x r m n (cc)
    fits n (binding.Gone a) m k = gone_fits (ap is_gone_binding m)

  -- a handle that is bound is one of a disk
  handle_of : (g : ℕ) → (IsHandle g) ⊎ (IsHandle g → ⊥)
  handle_of g = by_tests (nat_le 0x0009 g) (nat_le g 0x0048) refl refl
    where
      by_tests : (a b : Bool) → nat_le 0x0009 g ≡ a → nat_le g 0x0048 ≡ b → (IsHandle g) ⊎ (IsHandle g → ⊥)
      by_tests true true s t = inl (grind (arith, s), grind (arith, t))
      by_tests false b s t = inr (λ i. let l = i.0 in absurd (grind (arith, s, l)))
      by_tests true false s t = inr (λ i. let l = i.1 in absurd (grind (arith, t, l)))

  bound_fits : (g : ℕ) (p : Plug) → is_live (happens w c) ≡ true → (e : (history_after h (entries w c)).serving.bound g ≡ Some p)
      → (1 ≤ p.number) × (p.number ≤ plugs_told (happens w c) p.address (plugs_of ((history_after h (entries w c)).machine.disks p.address)))
      × (is_gone_binding (binding_of (happens w c).ioc g) ≡ true → has_ended ((history_after h (entries w c)).machine.disks p.address) p.number ≡ true)
  bound_fits g p l e = by_handle (handle_of g)
    where
      by_on : (b : Bool) → (happens w c).fabric.on ≡ b → IsHandle g
          → (1 ≤ p.number) × (p.number ≤ plugs_told (happens w c) p.address (plugs_of ((history_after h (entries w c)).machine.disks p.address)))
          × (is_gone_binding (binding_of (happens w c).ioc g) ≡ true → has_ended ((history_after h (entries w c)).machine.disks p.address) p.number ≡ true)
      by_on true o i =
          let k : BindingIs (at (happens w c).ioc.bindings g) (Some p) = subst (λ b. BindingIs b (Some p)) (binding_is (happens w c).ioc g i) (subst (BindingIs (binding_of (happens w c).ioc g)) e (bindings.served g i)) in
          let r = fits g i p l o e (serves_after w h c f).tables.table (at (happens w c).ioc.bindings g) refl k in
          (r.least, r.most, λ t. r.ended (sym (ap is_gone_binding (binding_is (happens w c).ioc g i)) ∙ t))
      by_on false o i =
          let u = unbound_at (happens w c).ioc g (bare_kept w h f plain c l o) in
          absurd (unbound (binding_of (happens w c).ioc g) u (subst (BindingIs (binding_of (happens w c).ioc g)) e (bindings.served g i)))
        where
          unbound : (b : Binding) → is_unbound b ≡ true → BindingIs b (Some p) → ⊥
          unbound binding.Unbound t k = absurd (cc)
          unbound (binding.Present a q x r) t k = absurd (cc)
          unbound (binding.Gone a) t k = absurd (cc)

      by_handle : (IsHandle g) ⊎ (IsHandle g → ⊥)
          → (1 ≤ p.number) × (p.number ≤ plugs_told (happens w c) p.address (plugs_of ((history_after h (entries w c)).machine.disks p.address)))
          × (is_gone_binding (binding_of (happens w c).ioc g) ≡ true → has_ended ((history_after h (entries w c)).machine.disks p.address) p.number ≡ true)
      by_handle (inl i) = by_on (happens w c).fabric.on refl i
      by_handle (inr n) = let u = bindings.outside g n in absurd (cc)

  pub plugs_bound : (g : ℕ) → PlugsBound (happens w c) (history_after h (entries w c)) g
  plugs_bound g = record { ended = λ p l e t. (bound_fits g p l e).2 t; least = λ p l e. (bound_fits g p l e).0; most = λ p l e. (bound_fits g p l e).1 }
