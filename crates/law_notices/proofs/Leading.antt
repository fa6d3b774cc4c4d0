-- The notices of each disk lead from what the controller knows of it to how it stands, over every case; and what had ended has ended.
use Rattle.std.proofs.Common.{◌≡◌, ℕ, ◌+◌, ◌-◌, ◌<◌, ◌≤◌, ◌==◌, ◌&&◌, ◌⊎◌, inl, inr, not, Bool, true, false, cond, if◌then◌else◌, List, [], ◌∷◌, ◌++◌, map, Option, Some, None, is_some, option_map, refl, ap, ap₂, sym, ◌∙◌, subst, append_assoc, arith}
use Rattle.std.specs.List.{find}
use Rattle.std.proofs.lemmas.Bool.{eqb-true}
use Rattle.mpt_trace.specs.declared.item.Back.{Back}
use Rattle.mpt_rules.specs.declared.binding.Waiting.{Waiting}
use Rattle.mpt_rules.specs.Fabric.Calls as fab
use Rattle.mpt_rules.specs.Fabric.Disks.{disk_of, has_address, plugged_news, unplugged_news, with_disk}
use Rattle.mpt_rules.specs.Fabric.Parts.{Fabric, FabricDisk}
use Rattle.mpt_rules.specs.Fabric.Tasks as tasks
use Rattle.mpt_rules.specs.World.Counts.{how_many}
use Rattle.mpt_rules.specs.World.Lines.{notice_line}
use Rattle.mpt_rules.specs.World.News.{is_notice_of, notices_of}
use Rattle.mpt_rules.specs.World.State.{World}
use Rattle.mpt_rules.proofs.Lines.{notices_of-append, notices_of-cons, notices_of-nil}
use Rattle.law_facts.specs.Clock.{is_live}
use Rattle.law_facts.specs.Facts.{Facts}
use Rattle.law_facts.specs.History.{History}
use Rattle.law_facts.specs.Notices.{Standing, is_plug, known}
use Rattle.law_machine.proofs.Opened.{found_passes}
use Rattle.law_machine.proofs.SameDisks.{disk_of-with}
use Rattle.law_moves.proofs.Counted.{Grown, grown-none, how_many-cons}
use Rattle.law_notices.proofs.FabricMoves.{Moves, Plugs, Quietly, Runs, Unplugs, grown_unnoticed, unplug_grows}
use Rattle.law_notices.proofs.Told.{Leads, plugged, standing_of, stands, told_so_far, unplugged}

-- the plug of this number has ended
abbrev pub HasEnded : Standing → ℕ → Type 0
HasEnded s n = (n < s.plugs) ⊎ ((n ≡ s.plugs) × (s.at ≡ None))

-- no fewer plugs are told, and what had ended has ended
abbrev pub Since : Option Standing → List Back → Option Standing → List Back → Type 0
Since None ns t ms = Unit {0}
Since (Some s) ns None ms = ⊥
Since (Some s) ns (Some t) ms = (told_so_far s.plugs ns ≤ told_so_far t.plugs ms) × ((n : ℕ) → HasEnded s n → HasEnded t n)

pub same_since : (o : Option Standing) (ns : List Back) → Since o ns o ns
same_since None ns = tt
same_since (Some s) ns = (omega arith, λ n e. e)

-- how a disk stands, and the notices of it
abbrev pub standing : World → ℕ → Option Standing
standing v a = standing_of (disk_of v.fabric a)

abbrev pub news : World → ℕ → List Back
news v a = notices_of a (notice_line v)

pub record Leading (s : Option Standing) (ns : List Back) (on : Bool) (k : Option Waiting) (t : Option Standing) (ms : List Back) : Type 0 where
  pub leads : Leads k ms t
  pub since : on ≡ true → Since s ns t ms

-- ---- lines

pub line_news : (a : ℕ) (xs ys zs : List Back) → notices_of a ((xs ++ ys) ++ zs) ≡ (notices_of a xs ++ notices_of a ys) ++ notices_of a zs
line_news a xs ys zs = notices_of-append a (xs ++ ys) zs ∙ ap (λ ns. ns ++ notices_of a zs) (notices_of-append a xs ys)

pub same_news : (a : ℕ) (xs ys zs us vs : List Back) → notices_of a us ≡ notices_of a ys → notices_of a vs ≡ notices_of a zs → notices_of a ((xs ++ us) ++ vs) ≡ notices_of a ((xs ++ ys) ++ zs)
same_news a xs ys zs us vs e g = line_news a xs us vs ∙ (ap₂ (λ ns ms. (notices_of a xs ++ ns) ++ ms) e g ∙ sym (line_news a xs ys zs))

-- one more at the end
more_news : (a : ℕ) (xs ys zs us : List Back) (y : Back) → notices_of a us ≡ notices_of a ys → notices_of a ((xs ++ us) ++ (zs ++ y ∷ [])) ≡ notices_of a ((xs ++ ys) ++ zs) ++ (if is_notice_of a y then y ∷ [] else [])
more_news a xs ys zs us y e =
    ap (notices_of a) (sym (append_assoc (xs ++ us) zs (y ∷ [])))
    ∙ (notices_of-append a ((xs ++ us) ++ zs) (y ∷ [])
    ∙ ap₂ (λ ns ms. ns ++ ms) (same_news a xs ys zs us zs e refl) (notices_of-cons a y [] ∙ ap (λ ns. if is_notice_of a y then y ∷ ns else ns) (notices_of-nil a)))

-- ---- how disks stand

bytes_stand : (o : Option FabricDisk) (bytes : List ℕ) → standing_of (option_map (λ (disk : FabricDisk). record disk { bytes = bytes }) o) ≡ standing_of o
bytes_stand None bytes = refl
bytes_stand (Some d) bytes = refl

run_stands : (a address : ℕ) (bytes : List ℕ) (ds : List FabricDisk) → standing_of (find (has_address a) (with_disk address (λ (disk : FabricDisk). record disk { bytes = bytes }) ds)) ≡ standing_of (find (has_address a) ds)
run_stands a address bytes ds = ap standing_of (disk_of-with address a (λ (disk : FabricDisk). record disk { bytes = bytes }) ds (λ x. refl)) ∙ by_key (a == address)
  where
    by_key : (b : Bool) → standing_of (if b then option_map (λ (disk : FabricDisk). record disk { bytes = bytes }) (find (has_address a) ds) else find (has_address a) ds) ≡ standing_of (find (has_address a) ds)
    by_key true = bytes_stand (find (has_address a) ds) bytes
    by_key false = refl

module _ (w : World) (h : History) (f : Facts w h) where
  abbrev Leads_to : Option Waiting → Option Standing → List Back → ℕ → Type 0
  Leads_to k t ms a = Leading (standing w a) (news w a) w.fabric.on k t ms

  -- so it is before
  leads_of : (a : ℕ) → is_live w ≡ true → w.fabric.on ≡ true → (o : Option FabricDisk) → disk_of w.fabric a ≡ o → Leads (known w.ioc a) (news w a) (standing_of o)
  leads_of a l o None e = (f.notices.each a).none l e
  leads_of a l o (Some d) e = ((f.notices.each a).lead d l o e, λ k q. (f.notices.each a).plug d k l e q)

  pub before : is_live w ≡ true → w.fabric.on ≡ true → (a : ℕ) → Leading (standing w a) (news w a) w.fabric.on (known w.ioc a) (standing w a) (news w a)
  before l o a = record { leads = leads_of a l o (disk_of w.fabric a) refl; since = λ e. same_since (standing w a) (news w a) }

  abbrev pub Lead : World → Type 0
  Lead v = is_live v ≡ true → v.fabric.on ≡ true → (a : ℕ) → Leading (standing w a) (news w a) w.fabric.on (known v.ioc a) (standing v a) (news v a)

  -- with what is known, the disk and the notices as before
  pub as_before : is_live w ≡ true → w.fabric.on ≡ true → (a : ℕ) (k : Option Waiting) (t : Option Standing) (ms : List Back) → k ≡ known w.ioc a → t ≡ standing w a → ms ≡ news w a → Leading (standing w a) (news w a) w.fabric.on k t ms
  as_before l o a k t ms e s n =
      subst (λ x. Leading (standing w a) (news w a) w.fabric.on x t ms) (sym e)
      (subst (λ x. Leading (standing w a) (news w a) w.fabric.on (known w.ioc a) x ms) (sym s)
      (subst (Leading (standing w a) (news w a) w.fabric.on (known w.ioc a) (standing w a)) (sym n) (before l o a)))

  -- ---- the fabric

  -- the disk of an address, by its key
  own_disk : (a b : ℕ) (d : FabricDisk) → disk_of w.fabric b ≡ Some d → (d.address == a) ≡ true → disk_of w.fabric a ≡ Some d
  own_disk a b d e t =
      let this : d.address ≡ b = eqb-true d.address b (found_passes (has_address b) w.fabric.disks d e) in
      let same : b ≡ a = sym this ∙ eqb-true d.address a t in
      subst (λ x. disk_of w.fabric x ≡ Some d) same e

  flip : (x y : ℕ) (b : Bool) → (x == y) ≡ b → (y == x) ≡ b
  flip x y true t = let e = eqb-true x y t in grind (arith, e)
  flip x y false t = by_test (y == x) refl
    where
      by_test : (c : Bool) → (y == x) ≡ c → c ≡ false
      by_test false u = refl
      by_test true u = let e = eqb-true y x u in let v : (x == y) ≡ true = grind (arith, e) in absurd (cc)

  noticed_on : (b : Bool) (y : Back) (k : Fabric) → b ≡ true → fab.with_notice b y k ≡ record k { notices = k.notices ++ y ∷ [] }
  noticed_on true y k e = refl
  noticed_on false y k e = absurd (cc)

  noticed_off : (b : Bool) (y : Back) (k : Fabric) → (fab.with_notice b y k).on ≡ k.on
  noticed_off true y k = refl
  noticed_off false y k = refl

  -- of a disk that changes by a notice, with what is put in the outbox beside
  changes : is_live w ≡ true → w.fabric.on ≡ true → (d : FabricDisk) (b : ℕ) (g : FabricDisk → FabricDisk) (y : Back) (us : List Back) → disk_of w.fabric b ≡ Some d → ((x : FabricDisk) → (g x).address ≡ x.address)
      → ((a : ℕ) → is_notice_of a y ≡ (d.address == a)) → ((a : ℕ) → notices_of a us ≡ notices_of a w.fabric.out)
      → ((a : ℕ) → Leads (known w.ioc a) (news w a) (Some (stands d)) → Leading (Some (stands d)) (news w a) w.fabric.on (known w.ioc a) (Some (stands (g d))) (news w a ++ y ∷ []))
      → (a : ℕ) → Leading (standing w a) (news w a) w.fabric.on (known w.ioc a) (standing_of (find (has_address a) (with_disk d.address g w.fabric.disks))) (notices_of a ((w.back ++ us) ++ (w.fabric.notices ++ y ∷ [])))
  changes l o d b g y us e keeps own quiet step a = by_key (d.address == a) refl
    where
      disks_are : standing_of (find (has_address a) (with_disk d.address g w.fabric.disks)) ≡ standing_of (if a == d.address then option_map g (disk_of w.fabric a) else disk_of w.fabric a)
      disks_are = ap standing_of (disk_of-with d.address a g w.fabric.disks keeps)

      news_are : notices_of a ((w.back ++ us) ++ (w.fabric.notices ++ y ∷ [])) ≡ news w a ++ (if d.address == a then y ∷ [] else [])
      news_are = more_news a w.back w.fabric.out w.fabric.notices us y (quiet a) ∙ ap (λ t. news w a ++ (if t then y ∷ [] else [])) (own a)

      by_key : (t : Bool) → (d.address == a) ≡ t → Leading (standing w a) (news w a) w.fabric.on (known w.ioc a) (standing_of (find (has_address a) (with_disk d.address g w.fabric.disks))) (notices_of a ((w.back ++ us) ++ (w.fabric.notices ++ y ∷ [])))
      by_key false t =
          as_before l o a (known w.ioc a) _ _ refl (disks_are ∙ ap (λ c. standing_of (if c then option_map g (disk_of w.fabric a) else disk_of w.fabric a)) (flip d.address a false t))
          (news_are ∙ (ap (λ c. news w a ++ (if c then y ∷ [] else [])) t ∙ Rattle.std.proofs.Common.append-nil (news w a)))
      by_key true t =
          let here = own_disk a b d e t in
          let was : standing w a ≡ Some (stands d) = ap standing_of here in
          let now : standing_of (find (has_address a) (with_disk d.address g w.fabric.disks)) ≡ Some (stands (g d)) =
          disks_are ∙ (ap (λ c. standing_of (if c then option_map g (disk_of w.fabric a) else disk_of w.fabric a)) (flip d.address a true t) ∙ ap (λ x. standing_of (option_map g x)) here) in
          let told : notices_of a ((w.back ++ us) ++ (w.fabric.notices ++ y ∷ [])) ≡ news w a ++ y ∷ [] = news_are ∙ ap (λ c. news w a ++ (if c then y ∷ [] else [])) t in
          subst (λ x. Leading (standing w a) (news w a) w.fabric.on (known w.ioc a) x (notices_of a ((w.back ++ us) ++ (w.fabric.notices ++ y ∷ [])))) (sym now)
          (subst (Leading (standing w a) (news w a) w.fabric.on (known w.ioc a) (Some (stands (g d)))) (sym told)
          (subst (λ x. Leading x (news w a) w.fabric.on (known w.ioc a) (Some (stands (g d))) (news w a ++ y ∷ [])) (sym was) (step a (subst (Leads (known w.ioc a) (news w a)) was (before l o a).leads))))

  pub moved : (k : Fabric) → Moves w.fabric k → is_live w ≡ true → k.on ≡ true → (a : ℕ) → Leading (standing w a) (news w a) w.fabric.on (known w.ioc a) (standing_of (disk_of k a)) (notices_of a ((w.back ++ k.out) ++ k.notices))
  moved k (Quietly j g n on d p) l o a =
      as_before l (sym on ∙ o) a (known w.ioc a) _ _ refl (ap (λ ds. standing_of (find (has_address a) ds)) d)
      (same_news a w.back w.fabric.out w.fabric.notices k.out k.notices (grown_unnoticed a w.fabric.out k.out g) (ap (notices_of a) n))
  moved k (Runs j address bytes g n on d p) l o a =
      as_before l (sym on ∙ o) a (known w.ioc a) _ _ refl (ap (λ ds. standing_of (find (has_address a) ds)) d ∙ run_stands a address bytes w.fabric.disks)
      (same_news a w.back w.fabric.out w.fabric.notices k.out k.notices (grown_unnoticed a w.fabric.out k.out g) (ap (notices_of a) n))
  moved k (Plugs d address p e n t u) l o a =
      let made : Fabric = record w.fabric { disks = with_disk d.address (fab.plugged_once_more p) w.fabric.disks } in
      let on : w.fabric.on ≡ true = sym (noticed_off w.fabric.on (plugged_news (fab.plugged_once_more p d) p) made) ∙ o in
      subst (λ (j : Fabric). Leading (standing w a) (news w a) w.fabric.on (known w.ioc a) (standing_of (disk_of j a)) (notices_of a ((w.back ++ j.out) ++ j.notices))) (sym (noticed_on w.fabric.on (plugged_news (fab.plugged_once_more p d) p) made on))
      (changes l on d address (fab.plugged_once_more p) (plugged_news (fab.plugged_once_more p d) p) w.fabric.out e (λ x. refl) (λ x. refl) (λ x. refl) step a)
    where
      step : (a : ℕ) → Leads (known w.ioc a) (news w a) (Some (stands d))
          → Leading (Some (stands d)) (news w a) w.fabric.on (known w.ioc a) (Some (stands (fab.plugged_once_more p d))) (news w a ++ plugged_news (fab.plugged_once_more p d) p ∷ [])
      step a k =
          record {
            leads = plugged (known w.ioc a) (stands d) d.address p.expander p.phy (news w a) n k;
            since = λ z. (let c = how_many_plugs (news w a) in omega (arith, c), λ m r. later m r);
          }
        where
          how_many_plugs : (ns : List Back) → how_many is_plug (ns ++ plugged_news (fab.plugged_once_more p d) p ∷ []) ≡ how_many is_plug ns + 1
          how_many_plugs ns =
              let x = Rattle.mpt_rules.proofs.Counts.how_many-append is_plug ns (plugged_news (fab.plugged_once_more p d) p ∷ []) in
              let y = how_many-cons is_plug (plugged_news (fab.plugged_once_more p d) p) [] in
              let z = Rattle.law_moves.proofs.Counted.how_many-nil is_plug in
              omega (arith, x, y, z)

          later : (m : ℕ) → HasEnded (stands d) m → HasEnded (stands (fab.plugged_once_more p d)) m
          later m (inl r) = inl (omega (arith, r))
          later m (inr r) = let q = r.0 in inl (omega (arith, q))
  moved k (Unplugs d address p e n) l o a =
      let out_of_place : FabricDisk → FabricDisk = λ (old : FabricDisk). record old { at = None } in
      let made : Fabric = tasks.told_also (record w.fabric { disks = with_disk d.address out_of_place w.fabric.disks; tasks = tasks.tasks_for_others d.address w.fabric.tasks }) (map tasks.gone (tasks.tasks_for d.address w.fabric.tasks)) in
      let on : w.fabric.on ≡ true = sym (noticed_off w.fabric.on (unplugged_news d p) made) ∙ o in
      subst (λ (j : Fabric). Leading (standing w a) (news w a) w.fabric.on (known w.ioc a) (standing_of (disk_of j a)) (notices_of a ((w.back ++ j.out) ++ j.notices))) (sym (noticed_on w.fabric.on (unplugged_news d p) made on))
      (changes l on d address out_of_place (unplugged_news d p) made.out e (λ x. refl) (λ x. refl) (λ x. grown_unnoticed x w.fabric.out made.out (unplug_grows w.fabric d)) step a)
    where
      step : (a : ℕ) → Leads (known w.ioc a) (news w a) (Some (stands d))
          → Leading (Some (stands d)) (news w a) w.fabric.on (known w.ioc a) (Some (record { plugs = d.plugs; at = None })) (news w a ++ unplugged_news d p ∷ [])
      step a k =
          record {
            leads = unplugged (known w.ioc a) (stands d) d.address p.expander p.phy (news w a) (ap is_some n) k;
            since = λ z. (let c = how_many_plugs (news w a) in omega (arith, c), λ m r. later m r);
          }
        where
          how_many_plugs : (ns : List Back) → how_many is_plug (ns ++ unplugged_news d p ∷ []) ≡ how_many is_plug ns
          how_many_plugs ns =
              let x = Rattle.mpt_rules.proofs.Counts.how_many-append is_plug ns (unplugged_news d p ∷ []) in
              let y = how_many-cons is_plug (unplugged_news d p) [] in
              let z = Rattle.law_moves.proofs.Counted.how_many-nil is_plug in
              omega (arith, x, y, z)

          later : (m : ℕ) → HasEnded (stands d) m → HasEnded (record { plugs = d.plugs; at = None }) m
          later m (inl r) = inl r
          later m (inr r) = inr (r.0, refl)
