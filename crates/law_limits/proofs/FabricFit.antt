-- The fabric's disks stay as they were declared, and each notice of a plug names a disk and a phy that are there.
use Rattle.std.proofs.Common.{◌≡◌, ◌≢◌, ℕ, zero, suc, ◌+◌, ◌<◌, ◌≤◌, ◌==◌, nat_le, Bool, true, false, cond, if◌then◌else◌, List, [], ◌∷◌, ◌++◌, map, length, get_or, slice_index, Option, Some, None, is_some, refl, ap, sym, ◌∙◌, subst, arith}
use Rattle.std.specs.Prelude.{All, filter_map, find}
use Rattle.std.specs.List.{AllPairs, filter, range_with_len}
use Rattle.std.specs.Option.{option_map}
use Rattle.std.proofs.lemmas.List.{get_or-map}
use Rattle.std.proofs.lemmas.List.Elements.{All-append, All-cons, All-filter, All-head, All-nil, All-tail}
use Rattle.mpt_trace.specs.declared.item.Back.{Back}
use Rattle.mpt_trace.specs.declared.item.Back.TheVariants as back
use Rattle.mpt_trace.specs.declared.item.Out.{Out}
use Rattle.mpt_trace.specs.declared.item.Out.TheVariants as out
use Rattle.mpt_rules.specs.declared.task.Task.{Task}
use Rattle.mpt_rules.specs.Fabric.Calls as fab
use Rattle.mpt_rules.specs.Fabric.Disks.{all_plugged, changed_if, disk_of, has_address, has_phy, is_occupied, phys_of, places_from, plugged_news, plugged_there, stands_at, unplugged_news, with_disk}
use Rattle.mpt_rules.specs.Fabric.Parts.{Fabric, FabricDisk, Place}
use Rattle.mpt_rules.specs.Fabric.Tasks as tasks
use Rattle.mpt_rules.specs.World.Settings.{IsFromTo}
use Rattle.law_facts.specs.Limits.{IsAddress, IsPlace, NoticeFits}
use Rattle.law_flights.proofs.IocTakes.{length_map}
use Rattle.law_limits.proofs.IocFit.{PhysFit}

abbrev pub AddressesDiffer : FabricDisk → FabricDisk → Type 0
AddressesDiffer d e = d.address ≢ e.address

abbrev pub AddressFits : FabricDisk → Type 0
AddressFits d = IsAddress d.address

pub record DisksFit (ds : List FabricDisk) : Type 0 where
  pub few : length ds ≤ 64
  pub addresses : All AddressFits ds
  pub apart : AllPairs AddressesDiffer ds

pub record FitsOfFabric (disks : List FabricDisk) (notices out : List Back) : Type 0 where
  pub disks_are : DisksFit disks
  pub announced : All NoticeFits notices
  pub told : All NoticeFits out

abbrev pub FabricIsFit : Fabric → Type 0
FabricIsFit x = FitsOfFabric x.disks x.notices x.out

-- ---- disks that keep their addresses

module _ (g : FabricDisk → FabricDisk) (same : (d : FabricDisk) → (g d).address ≡ d.address) where
  addresses_kept : (ds : List FabricDisk) → All AddressFits ds → All AddressFits (map g ds)
  addresses_kept [] h = All-nil AddressFits
  addresses_kept (d ∷ ds) h = All-cons AddressFits (g d) (map g ds) (subst IsAddress (sym (same d)) (All-head AddressFits d ds h)) (addresses_kept ds (All-tail AddressFits d ds h))

  apart_kept : (ds : List FabricDisk) → AllPairs AddressesDiffer ds → AllPairs AddressesDiffer (map g ds)
  apart_kept ds h i j d l m =
      let n : length (map g ds) ≡ length ds = length_map g ds in
      let k : j < length ds = omega (arith, m, n) in
      let a : get_or (map g ds) i d ≡ g (get_or ds i d) = get_or-map g ds i d d (omega (arith, l, k)) in
      let b : get_or (map g ds) j d ≡ g (get_or ds j d) = get_or-map g ds j d d k in
      let r = h i j d l k in
      λ e. r (sym (same (get_or ds i d)) ∙ (sym (ap (λ (x : FabricDisk). x.address) a) ∙ (e ∙ (ap (λ (x : FabricDisk). x.address) b ∙ same (get_or ds j d)))))

  mapped : (ds : List FabricDisk) → DisksFit ds → DisksFit (map g ds)
  mapped ds h = record { few = subst (λ n. n ≤ 64) (sym (length_map g ds)) h.few; addresses = addresses_kept ds h.addresses; apart = apart_kept ds h.apart }

changed : (a : ℕ) (g : FabricDisk → FabricDisk) → ((d : FabricDisk) → (g d).address ≡ d.address) → (ds : List FabricDisk) → DisksFit ds → DisksFit (with_disk a g ds)
changed a g same ds h = mapped (changed_if a g) by_disk ds h
  where
    by_test : (b : Bool) (d : FabricDisk) → (if b then g d else d).address ≡ d.address
    by_test true d = same d
    by_test false d = refl

    by_disk : (d : FabricDisk) → (changed_if a g d).address ≡ d.address
    by_disk d = by_test (d.address == a) d

-- ---- the disk that is found, and the phys that are there

found_all : {X : Type 0} (P : X → Type 0) (test : X → Bool) (xs : List X) (x : X) → find test xs ≡ Some x → All P xs → P x
found_all P test [] x e a = absurd (cc)
found_all P test (y ∷ ys) x e a = by_test (test y) e (λ f. found_all P test ys x f (All-tail P y ys a))
  where
    by_test : (b : Bool) → cond b (Some y) (find test ys) ≡ Some x → (find test ys ≡ Some x → P x) → P x
    by_test true f h = let same : y ≡ x = cc in subst P same (All-head P y ys a)
    by_test false f h = h f

phy_fits : (phys : List ℕ) (n expander phy : ℕ) → length phys ≤ n → All (IsFromTo 1 22) phys → phy < slice_index phys expander → (expander < n) × (phy < 22)
phy_fits [] n expander phy l h p = absurd (omega (arith, p))
phy_fits (x ∷ phys) n zero phy l h p = let a = All-head (IsFromTo 1 22) x phys h in let a1 = a.1 in (omega (arith, l), omega (arith, p, a1))
phy_fits (x ∷ phys) zero (suc e) phy l h p = absurd (omega (arith, l))
phy_fits (x ∷ phys) (suc n) (suc e) phy l h p = let r = phy_fits phys n e phy (omega (arith, l)) (All-tail (IsFromTo 1 22) x phys h) p in let r0 = r.0 in (omega (arith, r0), r.1)

abbrev PlaceFits : Place → Type 0
PlaceFits p = IsPlace p.expander p.phy

counted : (a n m : ℕ) → a + n ≤ m → All (λ x. x < m) (range_with_len a n)
counted a zero m l = All-nil (λ x. x < m)
counted a (suc n) m l = All-cons (λ x. x < m) a (range_with_len (a + 1) n) (omega (arith, l)) (counted (a + 1) n m (omega (arith, l)))

on_expander : (expander : ℕ) (xs : List ℕ) → expander < 16 → All (λ x. x < 22) xs → All PlaceFits (map (λ phy. record { expander = expander; phy = phy }) xs)
on_expander expander [] l h = All-nil PlaceFits
on_expander expander (x ∷ xs) l h = All-cons PlaceFits _ _ (l, All-head (λ x. x < 22) x xs h) (on_expander expander xs l (All-tail (λ x. x < 22) x xs h))

places_fit : (n : ℕ) (phys : List ℕ) → n + length phys ≤ 16 → All (IsFromTo 1 22) phys → All PlaceFits (places_from n phys)
unfolding places_from
places_fit n [] l h = All-nil PlaceFits
places_fit n (x ∷ phys) l h =
    let a = All-head (IsFromTo 1 22) x phys h in
    let a1 = a.1 in
    All-append PlaceFits (phys_of n x) (places_from (n + 1) phys) (on_expander n (range_with_len 0 x) (omega (arith, l)) (counted 0 x 22 (omega (arith, a1)))) (places_fit (n + 1) phys (omega (arith, l)) (All-tail (IsFromTo 1 22) x phys h))

-- ---- news

one : (x : Back) → NoticeFits x → All NoticeFits (x ∷ [])
one x f = All-cons NoticeFits x [] f (All-nil NoticeFits)

of_tasks : (f : Task → Back) → ((t : Task) → NoticeFits (f t)) → (ts : List Task) → All NoticeFits (map f ts)
of_tasks f h [] = All-nil NoticeFits
of_tasks f h (t ∷ ts) = All-cons NoticeFits (f t) (map f ts) (h t) (of_tasks f h ts)

named : (x : Fabric) (ps : List Place) → All AddressFits x.disks → All PlaceFits ps → All NoticeFits (filter_map (plugged_there x) ps)
named x [] a h = All-nil NoticeFits
named x (p ∷ ps) a h = by_disk (find (stands_at p.expander p.phy) x.disks) refl (named x ps a (All-tail PlaceFits p ps h))
  where
    by_disk : (o : Option FabricDisk) → find (stands_at p.expander p.phy) x.disks ≡ o → All NoticeFits (filter_map (plugged_there x) ps) → All NoticeFits (Rattle.std.specs.List.cons_option (option_map (λ disk. plugged_news disk p) o) (filter_map (plugged_there x) ps))
    by_disk None e rest = rest
    by_disk (Some d) e rest = All-cons NoticeFits (plugged_news d p) _ (found_all AddressFits (stands_at p.expander p.phy) x.disks d e a, All-head PlaceFits p ps h) rest

tells : (x : Fabric) (news : List Back) → All NoticeFits news → FabricIsFit x → FabricIsFit (tasks.told_also x news)
tells x news a h = record { disks_are = h.disks_are; announced = h.announced; told = All-append NoticeFits x.out news h.told a }

noticed : (b : Bool) (y : Back) (x : Fabric) → NoticeFits y → FabricIsFit x → FabricIsFit (fab.with_notice b y x)
noticed true y x f h = record { disks_are = h.disks_are; announced = All-append NoticeFits x.notices (y ∷ []) h.announced (one y f); told = h.told }
noticed false y x f h = h

with_disks : (a : ℕ) (g : FabricDisk → FabricDisk) → ((d : FabricDisk) → (g d).address ≡ d.address) → (x : Fabric) → FabricIsFit x → FabricIsFit (record x { disks = with_disk a g x.disks })
with_disks a g same x h = record { disks_are = changed a g same x.disks h.disks_are; announced = h.announced; told = h.told }

-- ---- the fabric's calls

pub out_fits : (x : Fabric) (item : Out) → PhysFit x.phys → FabricIsFit x → FabricIsFit (fab.takes_out x item)
out_fits x (out.Task tag address command) p h = by_test (tasks.may_queue x tag address)
  where
    by_test : (b : Bool) → FabricIsFit (tasks.with_task_taken_if b x tag address command)
    by_test true = h
    by_test false = tells x (back.Gone tag ∷ []) (one (back.Gone tag) tt) h
out_fits x (out.Abort smid task) p h = by_test (tasks.is_queued x task)
  where
    by_test : (b : Bool) → FabricIsFit (tasks.after_abort_if b x smid task)
    by_test true = tells (record x { tasks = tasks.tasks_without task x.tasks }) (back.Terminated task ∷ back.Aborted smid true ∷ []) (All-cons NoticeFits (back.Terminated task) (back.Aborted smid true ∷ []) tt (one (back.Aborted smid true) tt)) h
    by_test false = tells x (back.Aborted smid false ∷ []) (one (back.Aborted smid false) tt) h
out_fits x (out.TargetReset smid address) p h =
    tells (record x { tasks = tasks.tasks_for_others address x.tasks }) _
    (All-append NoticeFits (map tasks.terminated (tasks.tasks_for address x.tasks)) (back.Cleared smid _ ∷ []) (of_tasks tasks.terminated (λ t. tt) (tasks.tasks_for address x.tasks)) (one (back.Cleared smid _) tt)) h
out_fits x out.Discover p h =
    tells (record x { on = true }) (all_plugged (record x { on = true }) ++ back.Discovered ∷ [])
    (All-append NoticeFits (all_plugged (record x { on = true })) (back.Discovered ∷ []) (named (record x { on = true }) (places_from 0 x.phys) h.disks_are.addresses (places_fit 0 x.phys (let few = p.0 in omega (arith, few)) p.1)) (one back.Discovered tt)) h
out_fits x (out.Link generation) p h =
    record {
      disks_are = h.disks_are;
      announced = All-nil NoticeFits;
      told = All-append NoticeFits (filter fab.is_calm x.out) (back.Linked generation ∷ []) (All-filter fab.is_calm NoticeFits x.out h.told) (one (back.Linked generation) tt);
    }
out_fits x out.Stop p h = h

has_the_phy : (a b c d : Bool) → (if a then (if b then Some fab.PlugRefusal.Occupied else (if c then Some fab.PlugRefusal.AlreadyPlugged else (if d then Some fab.PlugRefusal.PlugsSpent else None))) else Some fab.PlugRefusal.NoSuchPhy) ≡ None → a ≡ true
has_the_phy true b c d e = refl
has_the_phy false b c d e = absurd (cc)

pub plug_fits : (x : Fabric) (address expander phy : ℕ) → PhysFit x.phys → FabricIsFit x → FabricIsFit (fab.fabric_plugs x address expander phy).part
plug_fits x address expander phy p h = by_disk (disk_of x address) refl
  where
    by_cause : (d : FabricDisk) (o : Option fab.PlugRefusal) → disk_of x address ≡ Some d → fab.plug_refusal x d expander phy ≡ o → FabricIsFit (fab.plugs_unless o x d (record { expander = expander; phy = phy })).part
    by_cause d (Some cause) e f = h
    by_cause d None e f =
        let place : Place = record { expander = expander; phy = phy } in
        let there = has_the_phy (has_phy x expander phy) (is_occupied x expander phy) (is_some d.at) (nat_le 100000 d.plugs) f in
        let fits : IsPlace expander phy = phy_fits x.phys 16 expander phy p.0 p.1 (grind (arith, there)) in
        noticed x.on (plugged_news (fab.plugged_once_more place d) place) (record x { disks = with_disk d.address (fab.plugged_once_more place) x.disks }) (found_all AddressFits (has_address address) x.disks d e h.disks_are.addresses, fits)
        (with_disks d.address (fab.plugged_once_more place) (λ y. refl) x h)

    by_disk : (o : Option FabricDisk) → disk_of x address ≡ o → FabricIsFit (fab.plugs_disk o x expander phy).part
    by_disk None e = h
    by_disk (Some d) e = by_cause d (fab.plug_refusal x d expander phy) e refl

pub unplug_fits : (x : Fabric) (address : ℕ) → FabricIsFit x → FabricIsFit (fab.fabric_unplugs x address).part
unplug_fits x address h = by_disk (disk_of x address)
  where
    by_place : (o : Option Place) (d : FabricDisk) → FabricIsFit (fab.fabric_unplugs_from o x d).part
    by_place None d = h
    by_place (Some p) d = noticed x.on (unplugged_news d p) (tasks.told_also (record x { disks = with_disk d.address (λ (old : FabricDisk). record old { at = None }) x.disks; tasks = tasks.tasks_for_others d.address x.tasks }) (map tasks.gone (tasks.tasks_for d.address x.tasks))) tt (tells (record x { disks = with_disk d.address (λ (old : FabricDisk). record old { at = None }) x.disks; tasks = tasks.tasks_for_others d.address x.tasks }) (map tasks.gone (tasks.tasks_for d.address x.tasks)) (of_tasks tasks.gone (λ t. tt) (tasks.tasks_for d.address x.tasks)) (with_disks d.address (λ (old : FabricDisk). record old { at = None }) (λ y. refl) x h))

    by_disk : (o : Option FabricDisk) → FabricIsFit (fab.unplugs_disk o x).part
    by_disk None = h
    by_disk (Some d) = by_place d.at d

pub run_fits : (x : Fabric) (tag : ℕ) → FabricIsFit x → FabricIsFit (fab.runs x tag).part
run_fits x tag h = by_task (find (tasks.has_tag tag) x.tasks)
  where
    by_task : (o : Option Task) → FabricIsFit (tasks.runs_task x o).part
    by_task None = h
    by_task (Some t) =
        let bytes = (tasks.performed_at x t.address t.command).bytes in
        tells (record x { disks = with_disk t.address (λ (disk : FabricDisk). record disk { bytes = bytes }) x.disks; tasks = tasks.tasks_without t.tag x.tasks }) (back.Result t.tag _ ∷ []) (one (back.Result t.tag _) tt) (with_disks t.address (λ (disk : FabricDisk). record disk { bytes = bytes }) (λ y. refl) x h)

pub calm_fits : (x : Fabric) → FabricIsFit x → FabricIsFit (fab.calms x)
calm_fits x h = tells x (back.Calm ∷ []) (one back.Calm tt) h
