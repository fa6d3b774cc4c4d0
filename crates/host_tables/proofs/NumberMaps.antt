-- Maps from numbers, one entry of which stands beside the tree.
use Rattle.std.proofs.Common.{◌≡◌, ℕ, Bool, true, false, cond, List, [], ◌∷◌, Option, Some, None, refl, sym, ap, ◌∙◌, inl, inr, eqb, map as each, ◌+◌, length, is_some, arith}
use Rattle.std.specs.Ordering.{eq_by_cmp, is_eq, nat_cmp}
use Rattle.std.specs.Cmp.{eq_by_cmp_equiv, nat_cmp_total, unsigned_tied}
use Rattle.std.specs.Option.{option_or}
use Rattle.std.specs.Map.{keys_of, lookup}
use Rattle.std.specs.List.Sorted.{IsStrictlySortedBy}
use Rattle.std.specs.Option.{is_none}
use Rattle.std.specs.BTreeMap as tree
use Rattle.std.specs.BTreeMap.{BTreeMap}
use Rattle.std.specs.FinMap as map
use Rattle.std.specs.FinMap.{entries, entries-insert, find, len-empty, len-entries, len-insert, put, get-from_entries, get-insert, get-remove, nat_cmp-IsAntisymmetric, same_map}
use Rattle.std.proofs.lemmas.Bool.{cases_Bool}
use Rattle.std.proofs.lemmas.List.{length-map}
use Rattle.host_tables.specs.Numbered.{newest_at, newest_without, with_newest}

pub turned : (a b : ℕ) → eq_by_cmp nat_cmp a b ≡ eq_by_cmp nat_cmp b a
turned a b = (eq_by_cmp_equiv nat_cmp_total).symm a b

-- the test of a number against a key, in the map's words
pub same_test : (k n : ℕ) → eq_by_cmp nat_cmp n k ≡ eqb k n
same_test k n = turned n k ∙ unsigned_tied k n

key_of : (q k n : ℕ) → eqb k n ≡ false → eq_by_cmp nat_cmp q n ≡ true → eq_by_cmp nat_cmp q k ≡ false
key_of q k n differs is = grind (arith, same_test n q, same_test k q)

module _ {V : Type 0} where
  found : (es : List (ℕ × V)) (q : ℕ) → lookup (λ k. is_eq (nat_cmp q k)) es ≡ find nat_cmp q es
  found [] q = refl
  found (e ∷ es) q = ap (cond (eq_by_cmp nat_cmp q e.0) (Some e.1)) (found es q)

  -- the tree as a map
  pub get-settled : (t : BTreeMap ℕ V) (q : ℕ) → tree.get nat_cmp t q ≡ map.get (map.from_entries {R = nat_cmp} t.entries) q
  get-settled t q = found t.entries q ∙ sym (get-from_entries nat_cmp_total t.entries q)

  pub settled-insert : (t u : BTreeMap ℕ V) (n : ℕ) (v : V) → ((q : ℕ) → tree.get nat_cmp u q ≡ cond (is_eq (nat_cmp n q)) (Some v) (tree.get nat_cmp t q)) → map.from_entries {R = nat_cmp} u.entries ≡ map.insert (map.from_entries t.entries) n v
  settled-insert t u n v is =
      same_map nat_cmp_total nat_cmp-IsAntisymmetric _ _ (λ q.
      sym (get-settled u q) ∙ is q
      ∙ ap (λ (b : Bool). cond b (Some v) (tree.get nat_cmp t q)) (turned n q)
      ∙ ap (cond (eq_by_cmp nat_cmp q n) (Some v)) (get-settled t q)
      ∙ sym (get-insert nat_cmp_total (map.from_entries t.entries) n v q))

  pub settled-remove : (t u : BTreeMap ℕ V) (n : ℕ) → ((q : ℕ) → tree.get nat_cmp u q ≡ cond (is_eq (nat_cmp n q)) None (tree.get nat_cmp t q)) → map.from_entries {R = nat_cmp} u.entries ≡ map.remove (map.from_entries t.entries) n
  settled-remove t u n is =
      same_map nat_cmp_total nat_cmp-IsAntisymmetric _ _ (λ q.
      sym (get-settled u q) ∙ is q
      ∙ ap (λ (b : Bool). cond b None (tree.get nat_cmp t q)) (turned n q)
      ∙ ap (cond (eq_by_cmp nat_cmp q n) None) (get-settled t q)
      ∙ sym (get-remove nat_cmp_total (map.from_entries t.entries) n q))

  twice : (b : Bool) (x y : Option V) → cond b None (cond b x y) ≡ cond b None y
  twice true x y = refl
  twice false x y = refl

  -- a number that was put just now goes
  remove-insert : (m : map.FinMap nat_cmp V) (n : ℕ) (v : V) → map.remove (map.insert m n v) n ≡ map.remove m n
  remove-insert m n v =
      same_map nat_cmp_total nat_cmp-IsAntisymmetric _ _ (λ q.
      get-remove nat_cmp_total (map.insert m n v) n q
      ∙ ap (cond (eq_by_cmp nat_cmp q n) None) (get-insert nat_cmp_total m n v q)
      ∙ twice (eq_by_cmp nat_cmp q n) (Some v) (map.get m q)
      ∙ sym (get-remove nat_cmp_total m n q))

  apart : (a b : Bool) (x y : Option V) → (a ≡ true → b ≡ false) → cond a None (cond b x y) ≡ cond b x (cond a None y)
  apart true b x y differs = rw (differs refl) refl
  apart false b x y differs = refl

  remove-insert_other : (m : map.FinMap nat_cmp V) (k n : ℕ) (v : V) → eqb k n ≡ false → map.remove (map.insert m k v) n ≡ map.insert (map.remove m n) k v
  remove-insert_other m k n v differs =
      same_map nat_cmp_total nat_cmp-IsAntisymmetric _ _ (λ q.
      get-remove nat_cmp_total (map.insert m k v) n q
      ∙ ap (cond (eq_by_cmp nat_cmp q n) None) (get-insert nat_cmp_total m k v q)
      ∙ apart (eq_by_cmp nat_cmp q n) (eq_by_cmp nat_cmp q k) (Some v) (map.get m q) (key_of q k n differs)
      ∙ ap (cond (eq_by_cmp nat_cmp q k) (Some v)) (sym (get-remove nat_cmp_total m n q))
      ∙ sym (get-insert nat_cmp_total (map.remove m n) k v q))

  -- what a number has, with the entry that stands beside
  pub get-with_newest : (o : Option (ℕ × V)) (m : map.FinMap nat_cmp V) (n : ℕ) → map.get (with_newest o m) n ≡ option_or (newest_at o n) (map.get m n)
  get-with_newest None m n = refl
  get-with_newest (Some e) m n =
      get-insert nat_cmp_total m e.0 e.1 n
      ∙ ap (λ (b : Bool). cond b (Some e.1) (map.get m n)) (same_test e.0 n)
      ∙ by_test (eqb e.0 n)
    where
      by_test : (b : Bool) → cond b (Some e.1) (map.get m n) ≡ option_or (cond b (Some e.1) None) (map.get m n)
      by_test true = refl
      by_test false = refl

  -- a number goes from both
  pub remove-with_newest : (o : Option (ℕ × V)) (m : map.FinMap nat_cmp V) (n : ℕ) → with_newest (newest_without o n) (map.remove m n) ≡ map.remove (with_newest o m) n
  remove-with_newest None m n = refl
  remove-with_newest (Some e) m n =
      elim (cases_Bool (eqb e.0 n)) [
        | inl same ↦ let k : e.0 ≡ n = grind (arith, same) in rw (same, k) (sym (remove-insert m n e.1))
        | inr differs ↦ rw differs (sym (remove-insert_other m e.0 n e.1 differs))
      ]

  -- a tree without entries
  pub empty_tree : (t : BTreeMap ℕ V) → t.entries ≡ [] → map.from_entries {R = nat_cmp} t.entries ≡ map.empty
  empty_tree t none = rw none refl

  none_long : (es : List (ℕ × V)) → length es ≡ 0 → es ≡ []
  none_long [] none = refl
  none_long (e ∷ es) none = absurd (omega arith)

  -- the entries of a tree are those of its map
  pub entries-tree : (es : List (ℕ × V)) → IsStrictlySortedBy nat_cmp (keys_of es) → entries (map.from_entries {R = nat_cmp} es) ≡ es
  unfolding IsStrictlySortedBy
  entries-tree [] sorted = none_long _ (sym (len-entries map.empty) ∙ len-empty nat_cmp V)
  entries-tree (e ∷ []) sorted =
      entries-insert nat_cmp_total (map.from_entries {R = nat_cmp} []) e.0 e.1 ∙ ap (put nat_cmp e.0 e.1) (entries-tree [] tt)
  entries-tree (e ∷ f ∷ es) sorted =
      entries-insert nat_cmp_total (map.from_entries {R = nat_cmp} (f ∷ es)) e.0 e.1
      ∙ ap (put nat_cmp e.0 e.1) (entries-tree (f ∷ es) sorted.1)
      ∙ rw sorted.0.0 refl

  -- where no entry stands beside the tree, its keys are the map's
  pub keys-tree : (o : Option (ℕ × V)) (es : List (ℕ × V)) → is_none o ≡ true → IsStrictlySortedBy nat_cmp (keys_of es) → map.keys (with_newest o (map.from_entries {R = nat_cmp} es)) ≡ keys_of es
  keys-tree None es none sorted = ap (each (λ (e : ℕ × V). e.0)) (entries-tree es sorted)
  keys-tree (Some e) es none sorted = absurd (cc)

  -- a tree without entries has no keys
  pub no_keys : (es : List (ℕ × V)) → length es ≡ 0 → keys_of es ≡ []
  no_keys [] none = refl
  no_keys (e ∷ es) none = absurd (omega arith)

  -- how many entries a tree and the newest one are
  abbrev pub length_with : Option (ℕ × V) → BTreeMap ℕ V → ℕ
  length_with None t = length t.entries
  length_with (Some e) t = cond (is_some (tree.get nat_cmp t e.0)) (length t.entries) (length t.entries + 1)

  -- a map has as many keys as entries
  length-keys : (m : map.FinMap nat_cmp V) → length (map.keys m) ≡ map.len m
  length-keys m = length-map (entries m) (λ e. e.0) ∙ sym (len-entries m)

  -- a tree's map is as long as the tree
  len-tree : (es : List (ℕ × V)) → IsStrictlySortedBy nat_cmp (keys_of es) → map.len (map.from_entries {R = nat_cmp} es) ≡ length es
  len-tree es sorted = len-entries (map.from_entries {R = nat_cmp} es) ∙ ap length (entries-tree es sorted)

  -- the newest entry makes it longer where its number is new
  len-newest : (t : BTreeMap ℕ V) (n : ℕ) (v : V) → IsStrictlySortedBy nat_cmp (keys_of t.entries) → map.len (map.insert (map.from_entries {R = nat_cmp} t.entries) n v) ≡ cond (is_some (tree.get nat_cmp t n)) (length t.entries) (length t.entries + 1)
  len-newest t n v sorted =
      len-insert nat_cmp_total (map.from_entries t.entries) n v
      ∙ ap (λ (o : Option V). cond (is_some o) (map.len (map.from_entries {R = nat_cmp} t.entries)) (map.len (map.from_entries {R = nat_cmp} t.entries) + 1)) (sym (get-settled t n))
      ∙ ap (λ (k : ℕ). cond (is_some (tree.get nat_cmp t n)) k (k + 1)) (len-tree t.entries sorted)

  -- how many numbers there are, with the entry that stands beside the tree
  pub len-with_newest : (o : Option (ℕ × V)) (t : BTreeMap ℕ V) → IsStrictlySortedBy nat_cmp (keys_of t.entries) → map.len (with_newest o (map.from_entries {R = nat_cmp} t.entries)) ≡ length_with o t
  len-with_newest None t sorted = len-tree t.entries sorted
  len-with_newest (Some e) t sorted = len-newest t e.0 e.1 sorted

  -- and how many keys
  pub keys-with_newest : (o : Option (ℕ × V)) (t : BTreeMap ℕ V) → IsStrictlySortedBy nat_cmp (keys_of t.entries) → length (map.keys (with_newest o (map.from_entries {R = nat_cmp} t.entries))) ≡ length_with o t
  keys-with_newest o t sorted = length-keys (with_newest o (map.from_entries t.entries)) ∙ len-with_newest o t sorted
