-- Each plugged disk stands alone at a phy that is there, over every case; so a discovery names each of them once.
use Rattle.std.proofs.Common.{◌≡◌, ◌≢◌, ℕ, zero, suc, ◌+◌, ◌<◌, ◌≤◌, ◌==◌, ◌&&◌, nat_lt, Bool, true, false, cond, if◌then◌else◌, List, [], ◌∷◌, ◌++◌, map, length, get_or, slice_index, Option, Some, None, refl, ap, ap₂, sym, ◌∙◌, subst, arith}
use Rattle.std.specs.Prelude.{All}
use Rattle.std.specs.List.{AllPairs, filter, filter_map, find, list_any, range_with_len}
use Rattle.std.specs.Option.{option_map}
use Rattle.std.proofs.lemmas.Bool.{eqb-true}
use Rattle.std.proofs.lemmas.List.Elements.{All-cons, All-head, All-nil, All-tail, filter-append}
use Rattle.mpt_trace.specs.declared.disk_spec.DiskSpec.{DiskSpec}
use Rattle.mpt_wire.specs.Machine.State.{Place}
use Rattle.mpt_trace.specs.declared.item.Back.{Back}
use Rattle.mpt_trace.specs.declared.item.Out.{Out}
use Rattle.mpt_trace.specs.declared.item.Out.TheVariants as out
use Rattle.mpt_rules.specs.Fabric.Calls as fab
use Rattle.mpt_rules.specs.Fabric.Disks.{all_plugged, changed_if, disk_of, has_address, is_at, phys_of, places_from, plugged_news, plugged_there, stands_at, unplugged_news, with_disk}
use Rattle.mpt_rules.specs.Fabric.Parts.{Fabric, FabricDisk, new_disk}
use Rattle.mpt_rules.specs.Law.{NothingIsStrange}
use Rattle.mpt_rules.specs.World.Cases.{Case, happens}
use Rattle.mpt_rules.specs.World.Counts.{how_many, one_if}
use Rattle.mpt_rules.specs.World.News.{notices_of}
use Rattle.mpt_rules.specs.World.Settings.{Setting, first_world}
use Rattle.mpt_rules.specs.World.State.{World}
use Rattle.mpt_rules.proofs.Lines.{notices_of-cons, notices_of-nil}
use Rattle.law_facts.specs.Facts.{Facts}
use Rattle.law_facts.specs.History.{History}
use Rattle.law_flights.proofs.KnownOnce.{none_counted}
use Rattle.law_lights.proofs.Ones.{none_of}
use Rattle.law_machine.proofs.Opened.{found_passes}
use Rattle.law_moves.proofs.Cases.{Owes, kept}
use Rattle.law_moves.proofs.Counted.{how_many-cons, how_many-nil}
use Rattle.law_notices.specs.Further.{DisksStandApart, StandApart, StandsThere}
use Rattle.law_notices.proofs.FabricMoves.{Moves, Plugs, Quietly, Runs, Unplugs, calm_moves, out_moves, plug_moves, run_moves, unplug_moves}
use Rattle.law_notices.proofs.Found.{found_counted, found_only}

-- ---- addresses that differ are found once

abbrev AddressesDiffer : FabricDisk → FabricDisk → Type 0
AddressesDiffer d e = d.address ≢ e.address

pub address_once : (ds : List FabricDisk) → AllPairs AddressesDiffer ds → (a : ℕ) → how_many (has_address a) ds ≤ 1
address_once [] h a = let n = how_many-nil (has_address a) in omega (arith, n)
address_once (x ∷ xs) h a = let c = how_many-cons (has_address a) x xs in by_test (x.address == a) refl (address_once xs (λ i j d l m. h (suc i) (suc j) d (omega (arith, l)) (omega (arith, m))) a) c
  where
    apart : (x.address == a) ≡ true → (i : ℕ) → i < length xs → has_address a (get_or xs i x) ≡ false
    apart t i l = by_other (has_address a (get_or xs i x)) refl
      where
        by_other : (b : Bool) → has_address a (get_or xs i x) ≡ b → b ≡ false
        by_other false u = refl
        by_other true u = absurd (h 0 (suc i) x (omega arith) (omega (arith, l)) (eqb-true x.address a t ∙ sym (eqb-true (get_or xs i x).address a u)))

    by_test : (b : Bool) → (x.address == a) ≡ b → how_many (has_address a) xs ≤ 1 → how_many (has_address a) (x ∷ xs) ≡ one_if (x.address == a) + how_many (has_address a) xs → how_many (has_address a) (x ∷ xs) ≤ 1
    by_test true t r c = let z = none_of (has_address a) x xs (apart t) in let u = ap one_if t in omega (arith, c, z, u)
    by_test false t r c = let u = ap one_if t in omega (arith, c, r, u)

-- ---- disks that change

-- a disk that stays where it is
same_place : (a : ℕ) (g : FabricDisk → FabricDisk) → ((d : FabricDisk) → (g d).at ≡ d.at) → (d : FabricDisk) → (changed_if a g d).at ≡ d.at
same_place a g s d = by_test (d.address == a)
  where
    by_test : (b : Bool) → (if b then g d else d).at ≡ d.at
    by_test true = s d
    by_test false = refl

module _ (phys : List ℕ) where
  there_kept : (g : FabricDisk → FabricDisk) → ((d : FabricDisk) → StandsThere phys d → StandsThere phys (g d)) → (ds : List FabricDisk) → All (StandsThere phys) ds → All (StandsThere phys) (map g ds)
  there_kept g s [] h = All-nil (StandsThere phys)
  there_kept g s (d ∷ ds) h = All-cons (StandsThere phys) (g d) (map g ds) (s d (All-head (StandsThere phys) d ds h)) (there_kept g s ds (All-tail (StandsThere phys) d ds h))

  -- where fewer stand
  fewer_stand : (e q : ℕ) (g : FabricDisk → FabricDisk) → ((d : FabricDisk) → one_if (stands_at e q (g d)) ≤ one_if (stands_at e q d)) → (ds : List FabricDisk) → how_many (stands_at e q) (map g ds) ≤ how_many (stands_at e q) ds
  fewer_stand e q g s [] = omega arith
  fewer_stand e q g s (d ∷ ds) =
      let a = how_many-cons (stands_at e q) (g d) (map g ds) in let b = how_many-cons (stands_at e q) d ds in
      let r = fewer_stand e q g s ds in let o = s d in
      omega (arith, a, b, r, o)

  same_stand : (g : FabricDisk → FabricDisk) → ((d : FabricDisk) → (g d).at ≡ d.at) → (ds : List FabricDisk) → StandApart phys ds → StandApart phys (map g ds)
  same_stand g s ds h =
      record {
        there = there_kept g (λ d t p e. t p (sym (s d) ∙ e)) ds h.there;
        apart = λ e q. let r = fewer_stand e q g (λ d. let o = ap (λ x. one_if (is_at e q x)) (s d) in omega (arith, o)) ds in let n = h.apart e q in omega (arith, r, n);
      }

  -- a disk leaves its place
  unplugged_stand : (a : ℕ) (ds : List FabricDisk) → StandApart phys ds → StandApart phys (with_disk a (λ (old : FabricDisk). record old { at = None }) ds)
  unplugged_stand a ds h =
      record {
        there = there_kept (changed_if a (λ (old : FabricDisk). record old { at = None })) still_there ds h.there;
        apart = λ e q. let r = fewer_stand e q (changed_if a (λ (old : FabricDisk). record old { at = None })) (fewer e q) ds in let n = h.apart e q in omega (arith, r, n);
      }
    where
      still_there : (d : FabricDisk) → StandsThere phys d → StandsThere phys (changed_if a (λ (old : FabricDisk). record old { at = None }) d)
      still_there d t = by_test (d.address == a)
        where
          by_test : (b : Bool) → StandsThere phys (if b then record d { at = None } else d)
          by_test true = λ p e. absurd (cc)
          by_test false = t

      fewer : (e q : ℕ) (d : FabricDisk) → one_if (stands_at e q (changed_if a (λ (old : FabricDisk). record old { at = None }) d)) ≤ one_if (stands_at e q d)
      fewer e q d = by_test (d.address == a)
        where
          by_test : (b : Bool) → one_if (stands_at e q (if b then record d { at = None } else d)) ≤ one_if (stands_at e q d)
          by_test true = omega arith
          by_test false = omega arith

  -- a disk comes to a place
  module _ (a : ℕ) (p : Place) (there : nat_lt p.phy (slice_index phys p.expander) ≡ true) where
    abbrev put : FabricDisk → FabricDisk
    put d = changed_if a (fab.plugged_once_more p) d

    more_stand : (e q : ℕ) (ds : List FabricDisk) → how_many (stands_at e q) (map put ds) ≤ how_many (stands_at e q) ds + cond (is_at e q (Some p)) (how_many (has_address a) ds) 0
    more_stand e q [] = let n = how_many-nil (stands_at e q) in omega (arith, n)
    more_stand e q (d ∷ ds) = by_tests (is_at e q (Some p)) (d.address == a) refl refl (how_many-cons (stands_at e q) (put d) (map put ds)) (more_stand e q ds)
      where
        one_low : (b : Bool) → one_if b ≤ 1
        one_low true = omega arith
        one_low false = omega arith

        by_tests : (b c : Bool) → is_at e q (Some p) ≡ b → (d.address == a) ≡ c → how_many (stands_at e q) (put d ∷ map put ds) ≡ one_if (stands_at e q (put d)) + how_many (stands_at e q) (map put ds)
            → how_many (stands_at e q) (map put ds) ≤ how_many (stands_at e q) ds + cond (is_at e q (Some p)) (how_many (has_address a) ds) 0
            → how_many (stands_at e q) (put d ∷ map put ds) ≤ how_many (stands_at e q) (d ∷ ds) + cond (is_at e q (Some p)) (how_many (has_address a) (d ∷ ds)) 0
        by_tests b c s t k r =
            let x = how_many-cons (stands_at e q) d ds in let y = how_many-cons (has_address a) d ds in
            let o = one_low (stands_at e q (put d)) in
            by_parts b c s t k r x y o
          where
            by_parts : (b c : Bool) → is_at e q (Some p) ≡ b → (d.address == a) ≡ c → how_many (stands_at e q) (put d ∷ map put ds) ≡ one_if (stands_at e q (put d)) + how_many (stands_at e q) (map put ds)
                → how_many (stands_at e q) (map put ds) ≤ how_many (stands_at e q) ds + cond (is_at e q (Some p)) (how_many (has_address a) ds) 0
                → how_many (stands_at e q) (d ∷ ds) ≡ one_if (stands_at e q d) + how_many (stands_at e q) ds → how_many (has_address a) (d ∷ ds) ≡ one_if (d.address == a) + how_many (has_address a) ds → one_if (stands_at e q (put d)) ≤ 1
                → how_many (stands_at e q) (put d ∷ map put ds) ≤ how_many (stands_at e q) (d ∷ ds) + cond (is_at e q (Some p)) (how_many (has_address a) (d ∷ ds)) 0
            by_parts true true s t k r x y o =
                let u = ap one_if t in let m = ap (λ b. cond b (how_many (has_address a) ds) 0) s in let n = ap (λ b. cond b (how_many (has_address a) (d ∷ ds)) 0) s in
                omega (arith, k, r, x, y, o, u, m, n)
            by_parts true false s t k r x y o =
                let u = ap one_if t in let m = ap (λ b. cond b (how_many (has_address a) ds) 0) s in let n = ap (λ b. cond b (how_many (has_address a) (d ∷ ds)) 0) s in
                let v : one_if (stands_at e q (put d)) ≡ one_if (stands_at e q d) = ap (λ b. one_if (stands_at e q (if b then fab.plugged_once_more p d else d))) t in
                omega (arith, k, r, x, y, u, m, n, v)
            by_parts false true s t k r x y o =
                let m = ap (λ b. cond b (how_many (has_address a) ds) 0) s in let n = ap (λ b. cond b (how_many (has_address a) (d ∷ ds)) 0) s in
                let v : one_if (stands_at e q (put d)) ≡ one_if (is_at e q (Some p)) = ap (λ b. one_if (stands_at e q (if b then fab.plugged_once_more p d else d))) t in
                let z = ap one_if s in
                omega (arith, k, r, x, m, n, v, z)
            by_parts false false s t k r x y o =
                let m = ap (λ b. cond b (how_many (has_address a) ds) 0) s in let n = ap (λ b. cond b (how_many (has_address a) (d ∷ ds)) 0) s in
                let v : one_if (stands_at e q (put d)) ≡ one_if (stands_at e q d) = ap (λ b. one_if (stands_at e q (if b then fab.plugged_once_more p d else d))) t in
                omega (arith, k, r, x, m, n, v)

    -- where nobody stood
    plugged_stand : (ds : List FabricDisk) → list_any (stands_at p.expander p.phy) ds ≡ false → how_many (has_address a) ds ≤ 1 → StandApart phys ds → StandApart phys (with_disk a (fab.plugged_once_more p) ds)
    plugged_stand ds free once h = record { there = there_kept put still_there ds h.there; apart = λ e q. by_place e q (is_at e q (Some p)) refl (more_stand e q ds) }
      where
        still_there : (d : FabricDisk) → StandsThere phys d → StandsThere phys (put d)
        still_there d t = by_test (d.address == a)
          where
            by_test : (b : Bool) → StandsThere phys (if b then fab.plugged_once_more p d else d)
            by_test true = λ r e. let same : p ≡ r = cc in subst (λ (x : Place). nat_lt x.phy (slice_index phys x.expander) ≡ true) same there
            by_test false = t

        by_place : (e q : ℕ) (b : Bool) → is_at e q (Some p) ≡ b → how_many (stands_at e q) (map put ds) ≤ how_many (stands_at e q) ds + cond (is_at e q (Some p)) (how_many (has_address a) ds) 0 → how_many (stands_at e q) (map put ds) ≤ 1
        by_place e q true s r =
            let m = ap (λ b. cond b (how_many (has_address a) ds) 0) s in
            let x : p.expander ≡ e = grind (arith, s) in let y : p.phy ≡ q = grind (arith, s) in
            let z = none_counted (stands_at p.expander p.phy) ds free in
            let o : how_many (stands_at e q) ds ≡ 0 = subst (λ k. how_many (stands_at e k) ds ≡ 0) y (subst (λ k. how_many (stands_at k p.phy) ds ≡ 0) x z) in
            omega (arith, r, m, o, once)
        by_place e q false s r = let m = ap (λ b. cond b (how_many (has_address a) ds) 0) s in let n = h.apart e q in omega (arith, r, m, n)

-- ---- every case

abbrev Apart : Fabric → Type 0
Apart f = StandApart f.phys f.disks

with_apart : (b : Bool) (y : Back) (k : Fabric) → Apart k → Apart (fab.with_notice b y k)
with_apart true y k h = h
with_apart false y k h = h

moved_apart : (f k : Fabric) → AllPairs AddressesDiffer f.disks → Moves f k → Apart f → Apart k
moved_apart f k s (Quietly j g n o d p) h = subst (λ ps. StandApart ps k.disks) (sym p) (subst (StandApart f.phys) (sym d) h)
moved_apart f k s (Runs j address bytes g n o d p) h =
    subst (λ ps. StandApart ps k.disks) (sym p)
    (subst (StandApart f.phys) (sym d) (same_stand f.phys (changed_if address (λ (disk : FabricDisk). record disk { bytes = bytes })) (same_place address (λ (disk : FabricDisk). record disk { bytes = bytes }) (λ x. refl)) f.disks h))
moved_apart f k s (Plugs d address p e n t u) h =
    with_apart f.on (plugged_news (fab.plugged_once_more p d) p) (record f { disks = with_disk d.address (fab.plugged_once_more p) f.disks }) (plugged_stand f.phys d.address p t f.disks u (address_once f.disks s d.address) h)
moved_apart f k s (Unplugs d address p e n) h = with_apart f.on (unplugged_news d p) _ (unplugged_stand f.phys d.address f.disks h)

module _ (w : World) (s : AllPairs AddressesDiffer w.fabric.disks) (z : Apart w.fabric) where
  abbrev Stand : World → Type 0
  Stand v = Apart v.fabric

  moved : (k : Fabric) → Moves w.fabric k → Apart k
  moved k m = moved_apart w.fabric k s m z

  taken : (x : Out) → Apart (fab.takes_out w.fabric x)
  taken out.Discover = z
  taken (out.Link generation) = z
  taken (out.Task tag address command) = moved _ (out_moves w.fabric (out.Task tag address command) refl)
  taken (out.Abort smid task) = moved _ (out_moves w.fabric (out.Abort smid task) refl)
  taken (out.TargetReset smid address) = moved _ (out_moves w.fabric (out.TargetReset smid address) refl)
  taken out.Stop = z

  owed : Owes Stand w
  owed =
      record {
        host_puts = λ x rest e. z;
        host_takes = λ queue x rest e s. z;
        host_told = λ i k. z;
        host_looks = λ e. z;
        host_stops = λ e. z;
        ioc_takes = λ x rest e. z;
        ioc_high = λ q rest e. z;
        ioc_normal = λ q rest e. z;
        ioc_puts_out = λ x rest e. z;
        ioc_takes_back = λ x rest e. z;
        ioc_puts = λ queue y rest x e f. z;
        fabric_takes = λ x rest e. taken x;
        fabric_says = λ x rest e. z;
        fabric_puts = λ x rest e. z;
        fabric_runs = λ tag address e. moved _ (run_moves w.fabric tag);
        plugs = λ address expander phy. moved _ (plug_moves w.fabric address expander phy);
        unplugs = λ address. moved _ (unplug_moves w.fabric address);
        calms = moved _ (calm_moves w.fabric);
      }

pub apart_kept : (w : World) (h : History) (c : Case) → Facts w h → NothingIsStrange w → DisksStandApart w → DisksStandApart (happens w c)
apart_kept w h c f plain z = kept (Stand w f.limits.apart z) w plain (owed w f.limits.apart z) z c

pub apart_at_first : (s : Setting) → DisksStandApart (first_world s)
apart_at_first s = record { there = nowhere s.disks; apart = none s.disks }
  where
    nowhere : (ds : List DiskSpec) → All (StandsThere s.phys) (map new_disk ds)
    nowhere [] = All-nil (StandsThere s.phys)
    nowhere (d ∷ ds) = All-cons (StandsThere s.phys) (new_disk d) (map new_disk ds) (λ p e. absurd (cc)) (nowhere ds)

    none : (ds : List DiskSpec) (expander phy : ℕ) → how_many (stands_at expander phy) (map new_disk ds) ≤ 1
    none [] expander phy = let n = how_many-nil (stands_at expander phy) in omega (arith, n)
    none (d ∷ ds) expander phy = let c = how_many-cons (stands_at expander phy) (new_disk d) (map new_disk ds) in let r = none ds expander phy in omega (arith, c, r)

-- ---- the phys of all expanders, of which one is the disk's

abbrev is_place : Place → Place → Bool
is_place p q = is_at q.expander q.phy (Some p)

one_of_row : (k s n : ℕ) → s ≤ k → k < s + n → filter (λ x. k == x) (range_with_len s n) ≡ k ∷ []
one_of_row k s zero l m = absurd (omega (arith, l, m))
one_of_row k s (suc n) l m = by_test (k == s) refl (λ d. one_of_row k (s + 1) n d (omega (arith, m)))
  where
    none_behind : (t n : ℕ) → k < t → filter (λ x. k == x) (range_with_len t n) ≡ []
    none_behind t zero g = refl
    none_behind t (suc n) g = let z : (k == t) ≡ false = grind (arith, g) in rw z (none_behind (t + 1) n (omega (arith, g)))

    by_test : (b : Bool) → (k == s) ≡ b → (s + 1 ≤ k → filter (λ x. k == x) (range_with_len (s + 1) n) ≡ k ∷ []) → (if k == s then s ∷ filter (λ x. k == x) (range_with_len (s + 1) n) else filter (λ x. k == x) (range_with_len (s + 1) n)) ≡ k ∷ []
    by_test true t h = let same : k ≡ s = eqb-true k s t in rw t (ap₂ (λ x xs. x ∷ xs) (sym same) (none_behind (s + 1) n (omega (arith, same))))
    by_test false t h = rw t (h (grind (arith, t, l)))

abbrev row : ℕ → List ℕ → List Place
row e xs = map (λ phy. record { expander = e; phy = phy }) xs

other_row : (p : Place) (e : ℕ) (xs : List ℕ) → (p.expander == e) ≡ false → filter (is_place p) (row e xs) ≡ []
other_row p e [] t = refl
other_row p e (x ∷ xs) t = rw t (other_row p e xs t)

own_row : (p : Place) (e : ℕ) (xs : List ℕ) → (p.expander == e) ≡ true → filter (is_place p) (row e xs) ≡ row e (filter (λ x. p.phy == x) xs)
own_row p e [] t = refl
own_row p e (x ∷ xs) t = by_test (p.phy == x) refl (own_row p e xs t)
  where
    by_test : (b : Bool) → (p.phy == x) ≡ b → filter (is_place p) (row e xs) ≡ row e (filter (λ x. p.phy == x) xs)
        → (if p.expander == e && p.phy == x then record { expander = e; phy = x } ∷ filter (is_place p) (row e xs) else filter (is_place p) (row e xs)) ≡ row e (if p.phy == x then x ∷ filter (λ x. p.phy == x) xs else filter (λ x. p.phy == x) xs)
    by_test true u h = rw (t, u) (ap (λ ys. record { expander = e; phy = x } ∷ ys) h)
    by_test false u h = rw (t, u) h

no_row : (p : Place) (e : ℕ) (phys : List ℕ) → p.expander < e → filter (is_place p) (places_from e phys) ≡ []
unfolding places_from
no_row p e [] l = refl
no_row p e (n ∷ phys) l =
    let t : (p.expander == e) ≡ false = grind (arith, l) in
    filter-append (is_place p) (phys_of e n) (places_from (e + 1) phys) ∙ ap₂ (λ xs ys. xs ++ ys) (other_row p e (range_with_len 0 n) t) (no_row p (e + 1) phys (omega (arith, l)))

one_place : (p : Place) (e m : ℕ) (phys : List ℕ) → p.expander ≡ e + m → p.phy < slice_index phys m → filter (is_place p) (places_from e phys) ≡ p ∷ []
unfolding places_from
one_place p e m [] s l = absurd (omega (arith, l))
one_place p e zero (n ∷ phys) s l =
    let same : p.expander ≡ e = omega (arith, s) in
    let t : (p.expander == e) ≡ true = grind (arith, same) in
    let here : filter (is_place p) (phys_of e n) ≡ p ∷ [] = own_row p e (range_with_len 0 n) t ∙ (ap (row e) (one_of_row p.phy 0 n (omega arith) (omega (arith, l))) ∙ ap (λ x. record { expander = x; phy = p.phy } ∷ []) (sym same)) in
    filter-append (is_place p) (phys_of e n) (places_from (e + 1) phys) ∙ ap₂ (λ xs ys. xs ++ ys) here (no_row p (e + 1) phys (omega (arith, same)))
one_place p e (suc m) (n ∷ phys) s l =
    let t : (p.expander == e) ≡ false = grind (arith, s) in
    filter-append (is_place p) (phys_of e n) (places_from (e + 1) phys) ∙ ap₂ (λ xs ys. xs ++ ys) (other_row p e (range_with_len 0 n) t) (one_place p (e + 1) m phys (omega (arith, s)) l)

-- ---- a discovery

-- the news of a disk where it stands
abbrev pub news_of : FabricDisk → Option Place → List Back
news_of d None = []
news_of d (Some p) = plugged_news d p ∷ []

abbrev pub discovered_of : Option FabricDisk → List Back
discovered_of None = []
discovered_of (Some d) = news_of d d.at

module _ (f : Fabric) (h : Apart f) (once : (a : ℕ) → how_many (has_address a) f.disks ≤ 1) (a : ℕ) where
  abbrev told_at : Place → List Back → Option FabricDisk → List Back
  told_at q rest o = Rattle.std.specs.List.cons_option (option_map (λ disk. plugged_news disk q) o) rest

  other_news : (q : Place) (d : FabricDisk) (rest : List Back) → (d.address == a) ≡ false → notices_of a (plugged_news d q ∷ rest) ≡ notices_of a rest
  other_news q d rest t = notices_of-cons a (plugged_news d q) rest ∙ ap (λ b. if b then plugged_news d q ∷ notices_of a rest else notices_of a rest) t

  own_news : (q : Place) (d : FabricDisk) (rest : List Back) → (d.address == a) ≡ true → notices_of a (plugged_news d q ∷ rest) ≡ plugged_news d q ∷ notices_of a rest
  own_news q d rest t = notices_of-cons a (plugged_news d q) rest ∙ ap (λ b. if b then plugged_news d q ∷ notices_of a rest else notices_of a rest) t

  no_news : disk_of f a ≡ None → (ps : List Place) → notices_of a (filter_map (plugged_there f) ps) ≡ []
  no_news e [] = notices_of-nil a
  no_news e (q ∷ ps) = by_disk (find (stands_at q.expander q.phy) f.disks) refl (no_news e ps)
    where
      by_address : (d : FabricDisk) (b : Bool) → (d.address == a) ≡ b → find (stands_at q.expander q.phy) f.disks ≡ Some d → notices_of a (filter_map (plugged_there f) ps) ≡ [] → notices_of a (told_at q (filter_map (plugged_there f) ps) (Some d)) ≡ []
      by_address d true t s r =
          let n = found_counted (has_address a) (stands_at q.expander q.phy) f.disks d s t in let z = Rattle.law_handles.proofs.Plugged.none_found (has_address a) f.disks e in absurd (omega (arith, n, z))
      by_address d false t s r = other_news q d (filter_map (plugged_there f) ps) t ∙ r

      by_disk : (o : Option FabricDisk) → find (stands_at q.expander q.phy) f.disks ≡ o → notices_of a (filter_map (plugged_there f) ps) ≡ [] → notices_of a (told_at q (filter_map (plugged_there f) ps) o) ≡ []
      by_disk None s r = r
      by_disk (Some d) s r = by_address d (d.address == a) refl s r

  module _ (d : FabricDisk) (e : disk_of f a ≡ Some d) where
    own : (d.address == a) ≡ true
    own = found_passes (has_address a) f.disks d e

    some_news : (ps : List Place) → notices_of a (filter_map (plugged_there f) ps) ≡ map (λ q. plugged_news d q) (filter (λ q. stands_at q.expander q.phy d) ps)
    some_news [] = notices_of-nil a
    some_news (q ∷ ps) = by_tests (stands_at q.expander q.phy d) refl (find (stands_at q.expander q.phy) f.disks) refl (some_news ps)
      where
        tail : List Back
        tail = map (λ q. plugged_news d q) (filter (λ q. stands_at q.expander q.phy d) ps)

        by_address : (x : FabricDisk) (b : Bool) → (x.address == a) ≡ b → stands_at q.expander q.phy d ≡ false → find (stands_at q.expander q.phy) f.disks ≡ Some x → notices_of a (filter_map (plugged_there f) ps) ≡ tail
            → notices_of a (told_at q (filter_map (plugged_there f) ps) (Some x)) ≡ tail
        by_address x true t u s r =
            let same : Some d ≡ Some x = sym e ∙ found_only (has_address a) (stands_at q.expander q.phy) f.disks x (once a) s t in
            let z : d ≡ x = cc in
            let v : stands_at q.expander q.phy d ≡ true = ap (stands_at q.expander q.phy) z ∙ found_passes (stands_at q.expander q.phy) f.disks x s in
            absurd (cc)
        by_address x false t u s r = other_news q x (filter_map (plugged_there f) ps) t ∙ r

        by_tests : (b : Bool) → stands_at q.expander q.phy d ≡ b → (o : Option FabricDisk) → find (stands_at q.expander q.phy) f.disks ≡ o → notices_of a (filter_map (plugged_there f) ps) ≡ tail
            → notices_of a (told_at q (filter_map (plugged_there f) ps) (find (stands_at q.expander q.phy) f.disks)) ≡ map (λ q. plugged_news d q) (if b then q ∷ filter (λ q. stands_at q.expander q.phy d) ps else filter (λ q. stands_at q.expander q.phy d) ps)
        by_tests true u o s r =
            let s2 = found_only (stands_at q.expander q.phy) (has_address a) f.disks d (h.apart q.expander q.phy) e u in
            ap (λ x. notices_of a (told_at q (filter_map (plugged_there f) ps) x)) s2 ∙ (own_news q d (filter_map (plugged_there f) ps) own ∙ ap (λ xs. plugged_news d q ∷ xs) r)
        by_tests false u None s r = ap (λ x. notices_of a (told_at q (filter_map (plugged_there f) ps) x)) s ∙ r
        by_tests false u (Some x) s r = ap (λ y. notices_of a (told_at q (filter_map (plugged_there f) ps) y)) s ∙ by_address x (x.address == a) refl u s r

    nowhere : (ps : List Place) → d.at ≡ None → filter (λ q. stands_at q.expander q.phy d) ps ≡ []
    nowhere [] n = refl
    nowhere (q ∷ ps) n = let t : stands_at q.expander q.phy d ≡ false = ap (is_at q.expander q.phy) n in rw t (nowhere ps n)

    somewhere : (p : Place) (ps : List Place) → d.at ≡ Some p → filter (λ q. stands_at q.expander q.phy d) ps ≡ filter (is_place p) ps
    somewhere p [] n = refl
    somewhere p (q ∷ ps) n =
        let t : stands_at q.expander q.phy d ≡ is_place p q = ap (is_at q.expander q.phy) n in
        ap₂ (λ b xs. if b then q ∷ xs else xs) t (somewhere p ps n)

    found : (o : Option Place) → d.at ≡ o → notices_of a (all_plugged f) ≡ news_of d o
    found None n = some_news (places_from 0 f.phys) ∙ ap (map (λ q. plugged_news d q)) (nowhere (places_from 0 f.phys) n)
    found (Some p) n =
        let there : p.phy < slice_index f.phys p.expander = (let t = found_all f.disks e h.there p n in grind (arith, t)) in
        some_news (places_from 0 f.phys) ∙ ap (map (λ q. plugged_news d q)) (somewhere p (places_from 0 f.phys) n ∙ one_place p 0 p.expander f.phys (omega arith) there)
      where
        found_all : (ds : List FabricDisk) → find (has_address a) ds ≡ Some d → All (StandsThere f.phys) ds → StandsThere f.phys d
        found_all [] s k = absurd (cc)
        found_all (y ∷ ys) s k = by_test (y.address == a) s (λ t. found_all ys t (All-tail (StandsThere f.phys) y ys k))
          where
            by_test : (b : Bool) → cond b (Some y) (find (has_address a) ys) ≡ Some d → (find (has_address a) ys ≡ Some d → StandsThere f.phys d) → StandsThere f.phys d
            by_test true s r = let same : y ≡ d = cc in subst (StandsThere f.phys) same (All-head (StandsThere f.phys) y ys k)
            by_test false s r = r s

  pub discovered : notices_of a (all_plugged f) ≡ discovered_of (disk_of f a)
  discovered = by_disk (disk_of f a) refl
    where
      by_disk : (o : Option FabricDisk) → disk_of f a ≡ o → notices_of a (all_plugged f) ≡ discovered_of o
      by_disk None e = no_news e (places_from 0 f.phys)
      by_disk (Some d) e = found d e d.at refl
