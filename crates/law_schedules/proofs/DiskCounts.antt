-- Disks of the fabric, counted: one that is plugged or unplugged changes each count by itself alone, and where each plugged
-- disk has a phy of its own the phys that have a disk are as many as the plugged disks.
use Rattle.std.proofs.Common.{◌≡◌, ℕ, zero, suc, ◌+◌, ◌<◌, ◌≤◌, ◌==◌, ◌&&◌, ◌||◌, Bool, true, false, not, cond, if◌then◌else◌, List, [], ◌∷◌, ◌++◌, length, map, filter_map, slice_index, Option, Some, None, is_some, refl, ap, sym, ◌∙◌, arith}
use Rattle.std.specs.List.{cons_option, filter, find, list_any, range_with_len}
use Rattle.std.specs.Option.{option_and_then, option_map}
use Rattle.std.proofs.lemmas.Bool.Decides.{nat_tests}
use Rattle.mpt_trace.specs.declared.item.Back.{Back}
use Rattle.mpt_rules.specs.Fabric.Disks.{changed_if, has_address, is_at, phys_of, places_from, plugged_news, stands_at, with_disk}
use Rattle.mpt_rules.specs.Fabric.Parts.{FabricDisk, Place}
use Rattle.mpt_rules.specs.World.Counts.{how_many, one_if}
use Rattle.mpt_rules.proofs.Counts.{how_many-append}
use Rattle.law_flights.proofs.KnownOnce.{none_counted}

-- ---- lists

pub counted_cons : {X : Type 0} (test : X → Bool) (x : X) (xs : List X) → how_many test (x ∷ xs) ≡ one_if (test x) + how_many test xs
unfolding how_many
counted_cons test x xs = refl

pub counted_nil : {X : Type 0} (test : X → Bool) → how_many test [] ≡ 0
unfolding how_many
counted_nil test = refl

pub any_counted : {X : Type 0} (test : X → Bool) (xs : List X) → list_any test xs ≡ true → 1 ≤ how_many test xs
any_counted test [] e = absurd (cc)
any_counted test (x ∷ xs) e = by_test (test x) e (any_counted test xs) (counted_cons test x xs) refl
  where
    by_test : (b : Bool) → (b || list_any test xs) ≡ true → (list_any test xs ≡ true → 1 ≤ how_many test xs) → how_many test (x ∷ xs) ≡ one_if (test x) + how_many test xs → test x ≡ b → 1 ≤ how_many test (x ∷ xs)
    by_test true e ih c t = let o = ap one_if t in omega (arith, c, o)
    by_test false e ih c t = let h = ih e in omega (arith, h, c)

-- a count of 0 or 1 says whether there is one
pub any_is : {X : Type 0} (test : X → Bool) (xs : List X) (b : Bool) → how_many test xs ≡ one_if b → list_any test xs ≡ b
any_is test xs b e = by_any (list_any test xs) refl b e
  where
    by_any : (a : Bool) → list_any test xs ≡ a → (b : Bool) → how_many test xs ≡ one_if b → list_any test xs ≡ b
    by_any true t true e = t
    by_any false t false e = t
    by_any true t false e = let h = any_counted test xs t in absurd (omega (arith, h, e))
    by_any false t true e = let h = none_counted test xs t in absurd (omega (arith, h, e))

pub is_any : {X : Type 0} (test : X → Bool) (xs : List X) → how_many test xs ≤ 1 → how_many test xs ≡ one_if (list_any test xs)
is_any test xs l = by_any (list_any test xs) refl
  where
    by_any : (a : Bool) → list_any test xs ≡ a → how_many test xs ≡ one_if a
    by_any true t = let h = any_counted test xs t in omega (arith, h, l)
    by_any false t = none_counted test xs t

pub length_filtered : {X : Type 0} (test : X → Bool) (xs : List X) → length (filter test xs) ≡ how_many test xs
length_filtered test [] = sym (counted_nil test)
length_filtered test (x ∷ xs) = by_test (test x) refl (length_filtered test xs) (counted_cons test x xs)
  where
    by_test : (b : Bool) → test x ≡ b → length (filter test xs) ≡ how_many test xs → how_many test (x ∷ xs) ≡ one_if (test x) + how_many test xs → length (if b then x ∷ filter test xs else filter test xs) ≡ how_many test (x ∷ xs)
    by_test true t ih c = let o = ap one_if t in omega (arith, ih, c, o)
    by_test false t ih c = let o = ap one_if t in omega (arith, ih, c, o)

-- what passes, and what doesn't
pub both_lengths : {X : Type 0} (test : X → Bool) (xs : List X) → length (filter (λ (x : X). not (test x)) xs) + how_many test xs ≡ length xs
both_lengths test [] = ap (λ (n : ℕ). 0 + n) (counted_nil test)
both_lengths test (x ∷ xs) = by_test (test x) refl (both_lengths test xs) (counted_cons test x xs)
  where
    by_test : (b : Bool) → test x ≡ b → length (filter (λ (y : _). not (test y)) xs) + how_many test xs ≡ length xs → how_many test (x ∷ xs) ≡ one_if (test x) + how_many test xs
        → length (if not b then x ∷ filter (λ (y : _). not (test y)) xs else filter (λ (y : _). not (test y)) xs) + how_many test (x ∷ xs) ≡ length (x ∷ xs)
    by_test true t ih c = let o = ap one_if t in omega (arith, ih, c, o)
    by_test false t ih c = let o = ap one_if t in omega (arith, ih, c, o)

-- where none passes all stay
pub all_stay : {X : Type 0} (test : X → Bool) (xs : List X) → how_many test xs ≡ 0 → filter (λ (x : X). not (test x)) xs ≡ xs
all_stay test [] e = refl
all_stay test (x ∷ xs) e = by_test (test x) refl (all_stay test xs) (counted_cons test x xs)
  where
    by_test : (b : Bool) → test x ≡ b → (how_many test xs ≡ 0 → filter (λ (y : _). not (test y)) xs ≡ xs) → how_many test (x ∷ xs) ≡ one_if (test x) + how_many test xs
        → (if not b then x ∷ filter (λ (y : _). not (test y)) xs else filter (λ (y : _). not (test y)) xs) ≡ x ∷ xs
    by_test true t ih c = let o = ap one_if t in absurd (omega (arith, e, c, o))
    by_test false t ih c = ap (λ (ys : List _). x ∷ ys) (ih (omega (arith, e, c)))

pub counted_map : {X Y : Type 0} (f : X → Y) (test : Y → Bool) (xs : List X) → how_many test (map f xs) ≡ how_many (λ (x : X). test (f x)) xs
unfolding how_many
counted_map f test [] = refl
counted_map f test (x ∷ xs) = let h = counted_map f test xs in omega (arith, h)

pub any_map : {X Y : Type 0} (f : X → Y) (test : Y → Bool) (xs : List X) → list_any test (map f xs) ≡ list_any (λ (x : X). test (f x)) xs
any_map f test [] = refl
any_map f test (x ∷ xs) = ap (λ (b : Bool). test (f x) || b) (any_map f test xs)

pub filter_map_both : {X Y : Type 0} (f : X → Y) (test : Y → Bool) (xs : List X) → filter test (map f xs) ≡ map f (filter (λ (x : X). test (f x)) xs)
filter_map_both f test [] = refl
filter_map_both f test (x ∷ xs) = by_test (test (f x)) (filter_map_both f test xs)
  where
    by_test : (b : Bool) → filter test (map f xs) ≡ map f (filter (λ (y : _). test (f y)) xs) → (if b then f x ∷ filter test (map f xs) else filter test (map f xs)) ≡ map f (if b then x ∷ filter (λ (y : _). test (f y)) xs else filter (λ (y : _). test (f y)) xs)
    by_test true ih = ap (λ (ys : List _). f x ∷ ys) ih
    by_test false ih = ih

pub length_map : {X Y : Type 0} (f : X → Y) (xs : List X) → length (map f xs) ≡ length xs
length_map f [] = refl
length_map f (x ∷ xs) = ap suc (length_map f xs)

pub length_append : {X : Type 0} (xs ys : List X) → length (xs ++ ys) ≡ length xs + length ys
length_append [] ys = omega arith
length_append (x ∷ xs) ys = let h = length_append xs ys in omega (arith, h)

-- ---- one disk is changed

abbrev pub is_plugged_disk : FabricDisk → Bool
is_plugged_disk disk = is_some disk.at

abbrev pub plug_at : List FabricDisk → ℕ → Option Place
plug_at disks address = option_and_then (λ (disk : FabricDisk). disk.at) (find (has_address address) disks)

module _ (a : ℕ) (change : FabricDisk → FabricDisk) (same : (d : FabricDisk) → (change d).address ≡ d.address) where
  address_stays : (d : FabricDisk) → (changed_if a change d).address ≡ d.address
  address_stays d = by_test (d.address == a)
    where
      by_test : (b : Bool) → (if b then change d else d).address ≡ d.address
      by_test true = same d
      by_test false = refl

  -- without a disk of the address nothing is
  none_changed : (disks : List FabricDisk) → how_many (has_address a) disks ≡ 0 → with_disk a change disks ≡ disks
  none_changed [] e = refl
  none_changed (d ∷ ds) e = by_test (d.address == a) refl (none_changed ds) (counted_cons (has_address a) d ds)
    where
      by_test : (b : Bool) → (d.address == a) ≡ b → (how_many (has_address a) ds ≡ 0 → with_disk a change ds ≡ ds) → how_many (has_address a) (d ∷ ds) ≡ one_if (has_address a d) + how_many (has_address a) ds
          → (if b then change d else d) ∷ with_disk a change ds ≡ d ∷ ds
      by_test true t ih c = let o = ap one_if t in absurd (omega (arith, e, c, o))
      by_test false t ih c = ap (λ (xs : List FabricDisk). d ∷ xs) (ih (omega (arith, e, c)))

  -- a count changes by that of the one disk
  pub count_changed : (test : FabricDisk → Bool) (d0 : FabricDisk) (disks : List FabricDisk) → find (has_address a) disks ≡ Some d0 → how_many (has_address a) disks ≤ 1
      → how_many test (with_disk a change disks) + one_if (test d0) ≡ how_many test disks + one_if (test (change d0))
  count_changed test d0 [] f l = absurd (cc)
  count_changed test d0 (d ∷ ds) f l = by_test (d.address == a) refl f (count_changed test d0 ds) (counted_cons (has_address a) d ds)
    where
      by_test : (b : Bool) → (d.address == a) ≡ b → (if b then Some d else find (has_address a) ds) ≡ Some d0
          → (find (has_address a) ds ≡ Some d0 → how_many (has_address a) ds ≤ 1 → how_many test (with_disk a change ds) + one_if (test d0) ≡ how_many test ds + one_if (test (change d0)))
          → how_many (has_address a) (d ∷ ds) ≡ one_if (has_address a d) + how_many (has_address a) ds
          → how_many test ((if b then change d else d) ∷ with_disk a change ds) + one_if (test d0) ≡ how_many test (d ∷ ds) + one_if (test (change d0))
      by_test true t f ih c =
          let o = ap one_if t in
          let is : d ≡ d0 = cc in
          let none : how_many (has_address a) ds ≡ 0 = omega (arith, c, o, l) in
          let rest = ap (how_many test) (none_changed ds none) in
          let x = counted_cons test (change d) (with_disk a change ds) in
          let y = counted_cons test d ds in
          let p = ap (λ (k : FabricDisk). one_if (test k)) is in
          let q = ap (λ (k : FabricDisk). one_if (test (change k))) is in
          omega (arith, rest, x, y, p, q)
      by_test false t f ih c =
          let o = ap one_if t in
          let h = ih f (omega (arith, c, o, l)) in
          let x = counted_cons test d (with_disk a change ds) in
          let y = counted_cons test d ds in
          omega (arith, h, x, y)

  -- where a disk of an address is found
  pub found_changed : (b : ℕ) (disks : List FabricDisk) → find (has_address b) (with_disk a change disks) ≡ option_map (changed_if a change) (find (has_address b) disks)
  found_changed b [] = refl
  found_changed b (d ∷ ds) =
      ap (λ (n : ℕ). if n == b then Some (changed_if a change d) else find (has_address b) (with_disk a change ds)) (address_stays d) ∙ by_test (d.address == b) (found_changed b ds)
    where
      by_test : (c : Bool) → find (has_address b) (with_disk a change ds) ≡ option_map (changed_if a change) (find (has_address b) ds)
          → (if c then Some (changed_if a change d) else find (has_address b) (with_disk a change ds)) ≡ option_map (changed_if a change) (if c then Some d else find (has_address b) ds)
      by_test true ih = refl
      by_test false ih = ih

  pub found_address : (b : ℕ) (disks : List FabricDisk) (d : FabricDisk) → find (has_address b) disks ≡ Some d → (d.address == b) ≡ true
  found_address b [] d f = absurd (cc)
  found_address b (x ∷ xs) d f = by_test (x.address == b) refl f (found_address b xs d)
    where
      by_test : (c : Bool) → (x.address == b) ≡ c → (if c then Some x else find (has_address b) xs) ≡ Some d → (find (has_address b) xs ≡ Some d → (d.address == b) ≡ true) → (d.address == b) ≡ true
      by_test true t f ih = let is : x ≡ d = cc in ap (λ (k : FabricDisk). k.address == b) (sym is) ∙ t
      by_test false t f ih = ih f

  -- where the disks of an address stand
  pub plug_changed : (b : ℕ) (disks : List FabricDisk) → plug_at (with_disk a change disks) b ≡ cond (b == a) (option_and_then (λ (d : FabricDisk). (change d).at) (find (has_address b) disks)) (plug_at disks b)
  plug_changed b disks = ap (option_and_then (λ (d : FabricDisk). d.at)) (found_changed b disks) ∙ by_found (find (has_address b) disks) refl
    where
      by_found : (o : Option FabricDisk) → find (has_address b) disks ≡ o
          → option_and_then (λ (d : FabricDisk). d.at) (option_map (changed_if a change) o) ≡ cond (b == a) (option_and_then (λ (d : FabricDisk). (change d).at) o) (option_and_then (λ (d : FabricDisk). d.at) o)
      by_found None f = by_key (b == a) None
        where
          by_key : (c : Bool) (o : Option Place) → o ≡ cond c o o
          by_key true o = refl
          by_key false o = refl
      by_found (Some d) f =
          let t = found_address b disks d f in
          let is : d.address ≡ b = grind (arith, nat_tests, t) in
          ap (λ (n : ℕ). (if n == a then change d else d).at) is ∙ by_key (b == a)
        where
          by_key : (c : Bool) → (if c then change d else d).at ≡ cond c (change d).at d.at
          by_key true = refl
          by_key false = refl

-- ---- phys

abbrev pub IsPlaced : List ℕ → Option Place → Type 0
IsPlaced phys None = Unit {0}
IsPlaced phys (Some place) = place.phy < slice_index phys place.expander

abbrev pub ArePlaced : List ℕ → List FabricDisk → Type 0
ArePlaced phys [] = Unit {0}
ArePlaced phys (d ∷ ds) = IsPlaced phys d.at × ArePlaced phys ds

pub placed_changed : (phys : List ℕ) (f : FabricDisk → FabricDisk) → ((d : FabricDisk) → IsPlaced phys d.at → IsPlaced phys (f d).at) → (disks : List FabricDisk) → ArePlaced phys disks → ArePlaced phys (map f disks)
placed_changed phys f each [] h = tt
placed_changed phys f each (d ∷ ds) h = (each d h.0, placed_changed phys f each ds h.1)

abbrev is_this : ℕ → ℕ → Place → Bool
is_this expander phy place = expander == place.expander && phy == place.phy

-- how often a number stands in a range
not_in_range : (phy a n : ℕ) → phy < a → how_many (λ (x : ℕ). phy == x) (range_with_len a n) ≡ 0
not_in_range phy a zero l = counted_nil (λ (x : ℕ). phy == x)
not_in_range phy a (suc n) l =
    let h = not_in_range phy (a + 1) n (omega (arith, l)) in
    let c = counted_cons (λ (x : ℕ). phy == x) a (range_with_len (a + 1) n) in
    let t : (phy == a) ≡ false = grind (arith, nat_tests, l) in
    let o = ap one_if t in
    omega (arith, h, c, o)

in_range : (phy a n : ℕ) → a ≤ phy → phy < a + n → how_many (λ (x : ℕ). phy == x) (range_with_len a n) ≡ 1
in_range phy a zero l m = absurd (omega (arith, l, m))
in_range phy a (suc n) l m = by_key (phy == a) refl (in_range phy (a + 1) n) (counted_cons (λ (x : ℕ). phy == x) a (range_with_len (a + 1) n))
  where
    by_key : (b : Bool) → (phy == a) ≡ b → (a + 1 ≤ phy → phy < a + 1 + n → how_many (λ (x : ℕ). phy == x) (range_with_len (a + 1) n) ≡ 1)
        → how_many (λ (x : ℕ). phy == x) (a ∷ range_with_len (a + 1) n) ≡ one_if (phy == a) + how_many (λ (x : ℕ). phy == x) (range_with_len (a + 1) n)
        → how_many (λ (x : ℕ). phy == x) (a ∷ range_with_len (a + 1) n) ≡ 1
    by_key true t ih c =
        let same : phy ≡ a = grind (arith, nat_tests, t) in
        let h = not_in_range phy (a + 1) n (omega (arith, same)) in
        let o = ap one_if t in
        omega (arith, h, c, o)
    by_key false t ih c =
        let apart : a + 1 ≤ phy = grind (arith, nat_tests, t, l) in
        let h = ih apart (omega (arith, m)) in
        let o = ap one_if t in
        omega (arith, h, c, o)

-- and a phy among those of an expander
own_phys : (expander phy count : ℕ) → phy < count → how_many (is_this expander phy) (phys_of expander count) ≡ 1
own_phys expander phy count l =
    counted_map (λ (p : ℕ). record { expander = expander; phy = p }) (is_this expander phy) (range_with_len 0 count)
    ∙ (same_counts (range_with_len 0 count) ∙ in_range phy 0 count (omega arith) (omega (arith, l)))
  where
    same_counts : (xs : List ℕ) → how_many (λ (p : ℕ). (expander == expander) && (phy == p)) xs ≡ how_many (λ (p : ℕ). phy == p) xs
    same_counts xs =
        let t : (expander == expander) ≡ true = grind (arith, nat_tests) in
        ap (λ (b : Bool). how_many (λ (p : ℕ). b && (phy == p)) xs) t

other_phys : (expander phy e count : ℕ) → (expander == e) ≡ false → how_many (is_this expander phy) (phys_of e count) ≡ 0
other_phys expander phy e count t = counted_map (λ (p : ℕ). record { expander = e; phy = p }) (is_this expander phy) (range_with_len 0 count) ∙ none (range_with_len 0 count)
  where
    none : (xs : List ℕ) → how_many (λ (p : ℕ). (expander == e) && (phy == p)) xs ≡ 0
    none [] = counted_nil (λ (p : ℕ). (expander == e) && (phy == p))
    none (x ∷ xs) =
        let h = none xs in
        let c = counted_cons (λ (p : ℕ). (expander == e) && (phy == p)) x xs in
        let o = ap (λ (b : Bool). one_if (b && (phy == x))) t in
        omega (arith, h, c, o)

later_phys : (expander phy e : ℕ) (counts : List ℕ) → expander < e → how_many (is_this expander phy) (places_from e counts) ≡ 0
unfolding places_from
later_phys expander phy e [] l = counted_nil (is_this expander phy)
later_phys expander phy e (count ∷ counts) l =
    let a = how_many-append (is_this expander phy) (phys_of e count) (places_from (e + 1) counts) in
    let x = other_phys expander phy e count (grind (arith, nat_tests, l)) in
    let y = later_phys expander phy (e + 1) counts (omega (arith, l)) in
    omega (arith, a, x, y)

-- each phy stands once among all places
place_once : (counts : List ℕ) (e i phy : ℕ) → phy < slice_index counts i → how_many (is_this (e + i) phy) (places_from e counts) ≡ 1
unfolding places_from
place_once [] e i phy l = absurd (none i l)
  where
    none : (i : ℕ) → phy < slice_index [] i → ⊥
    none zero l = omega (arith, l)
    none (suc i) l = omega (arith, l)
place_once (count ∷ counts) e zero phy l =
    let same : e + 0 ≡ e = omega arith in
    let a = how_many-append (is_this (e + 0) phy) (phys_of e count) (places_from (e + 1) counts) in
    let x : how_many (is_this (e + 0) phy) (phys_of e count) ≡ 1 = ap (λ (n : ℕ). how_many (is_this n phy) (phys_of e count)) same ∙ own_phys e phy count l in
    let y = later_phys (e + 0) phy (e + 1) counts (omega arith) in
    omega (arith, a, x, y)
place_once (count ∷ counts) e (suc i) phy l =
    let a = how_many-append (is_this (e + suc i) phy) (phys_of e count) (places_from (e + 1) counts) in
    let far : (e + suc i == e) ≡ false = grind (arith, nat_tests) in
    let x = other_phys (e + suc i) phy e count far in
    let h = place_once counts (e + 1) i phy l in
    let n : e + 1 + i ≡ e + suc i = omega arith in
    let y = ap (λ (k : ℕ). how_many (is_this k phy) (places_from (e + 1) counts)) n in
    omega (arith, a, x, h, y)

-- ---- the phys that have a disk

-- all disks at all these places
abbrev stand_counts : List FabricDisk → List Place → ℕ
stand_counts disks [] = 0
stand_counts disks (place ∷ places) = how_many (stands_at place.expander place.phy) disks + stand_counts disks places

no_stands : (places : List Place) → stand_counts [] places ≡ 0
no_stands [] = refl
no_stands (place ∷ places) = let h = no_stands places in let c = counted_nil (stands_at place.expander place.phy) in omega (arith, h, c)

more_stands : (d : FabricDisk) (ds : List FabricDisk) (places : List Place) → stand_counts (d ∷ ds) places ≡ how_many (λ (place : Place). stands_at place.expander place.phy d) places + stand_counts ds places
more_stands d ds [] = let c = counted_nil (λ (place : Place). stands_at place.expander place.phy d) in omega (arith, c)
more_stands d ds (place ∷ places) =
    let h = more_stands d ds places in
    let c = counted_cons (stands_at place.expander place.phy) d ds in
    let e = counted_cons (λ (p : Place). stands_at p.expander p.phy d) place places in
    omega (arith, h, c, e)

-- a disk stands at one place, if it is plugged
disk_once : (phys : List ℕ) (o : Option Place) → IsPlaced phys o → how_many (λ (place : Place). is_at place.expander place.phy o) (places_from 0 phys) ≡ one_if (is_some o)
disk_once phys None h = none (places_from 0 phys)
  where
    none : (places : List Place) → how_many (λ (place : Place). is_at place.expander place.phy None) places ≡ 0
    none [] = counted_nil (λ (place : Place). is_at place.expander place.phy None)
    none (p ∷ ps) = let i = none ps in let c = counted_cons (λ (place : Place). is_at place.expander place.phy None) p ps in omega (arith, i, c)
disk_once phys (Some place) h =
    let n : 0 + place.expander ≡ place.expander = omega arith in
    ap (λ (k : ℕ). how_many (is_this k place.phy) (places_from 0 phys)) (sym n) ∙ place_once phys 0 place.expander place.phy h

all_stands : (phys : List ℕ) (disks : List FabricDisk) → ArePlaced phys disks → stand_counts disks (places_from 0 phys) ≡ how_many is_plugged_disk disks
all_stands phys [] h = no_stands (places_from 0 phys) ∙ sym (counted_nil is_plugged_disk)
all_stands phys (d ∷ ds) h =
    let m = more_stands d ds (places_from 0 phys) in
    let o = disk_once phys d.at h.0 in
    let i = all_stands phys ds h.1 in
    let c = counted_cons is_plugged_disk d ds in
    omega (arith, m, o, i, c)

-- the news of the plugged disks
module _ (disks : List FabricDisk) (single : (e p : ℕ) → how_many (stands_at e p) disks ≤ 1) where
  abbrev news_at : Place → Option Back
  news_at place = option_map (λ (d : FabricDisk). plugged_news d place) (find (stands_at place.expander place.phy) disks)

  found_any : {X Y : Type 0} (f : X → Y) (test : X → Bool) (xs : List X) → is_some (option_map f (find test xs)) ≡ list_any test xs
  found_any f test [] = refl
  found_any f test (x ∷ xs) = by_test (test x) (found_any f test xs)
    where
      by_test : (b : Bool) → is_some (option_map f (find test xs)) ≡ list_any test xs → is_some (option_map f (if b then Some x else find test xs)) ≡ (b || list_any test xs)
      by_test true ih = refl
      by_test false ih = ih

  news_counted : (places : List Place) → length (filter_map news_at places) ≡ stand_counts disks places
  news_counted [] = refl
  news_counted (place ∷ places) =
      let i = is_any (stands_at place.expander place.phy) disks (single place.expander place.phy) in
      let f = ap one_if (found_any (λ (d : FabricDisk). plugged_news d place) (stands_at place.expander place.phy) disks) in
      by_news (news_at place) refl (news_counted places) (i ∙ sym f)
    where
      by_news : (o : Option Back) → news_at place ≡ o → length (filter_map news_at places) ≡ stand_counts disks places → how_many (stands_at place.expander place.phy) disks ≡ one_if (is_some (news_at place))
          → length (cons_option o (filter_map news_at places)) ≡ how_many (stands_at place.expander place.phy) disks + stand_counts disks places
      by_news None e ih c = let o = ap (λ (x : Option Back). one_if (is_some x)) e in omega (arith, ih, c, o)
      by_news (Some x) e ih c = let o = ap (λ (y : Option Back). one_if (is_some y)) e in omega (arith, ih, c, o)

  pub as_many_news : (phys : List ℕ) → ArePlaced phys disks → length (filter_map news_at (places_from 0 phys)) ≡ how_many is_plugged_disk disks
  as_many_news phys h = news_counted (places_from 0 phys) ∙ all_stands phys disks h
