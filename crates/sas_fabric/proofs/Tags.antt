-- The set of the tags that the queued tasks have.
use Rattle.std.proofs.Common.{◌≡◌, ◌≢◌, ℕ, suc, ◌+◌, ◌<◌, Bool, true, false, cond, not, ◌||◌, List, [], ◌∷◌, ◌++◌, eqb, length, length-append, get_or, take, drop, Option, Some, None, refl, sym, ap, ◌∙◌, subst, inl, inr, append_assoc, append-nil, add-one, arith}
use Rattle.std.specs.Prelude.{is_some}
use Rattle.std.specs.BTreeSet.{BTreeSet, contains}
use Rattle.std.specs.List.{filter, find, list_any}
use Rattle.std.specs.Ordering.{is_eq, nat_cmp}
use Rattle.std.proofs.Math.Seq.{drop-cons, get_or-append_seam}
use Rattle.std.proofs.lemmas.Bool.{cases_Bool, cases_eq, eq-eqb, eqb-true, ne_eqb, not-false, or_parts, or_right}
use Rattle.std.proofs.lemmas.Bool.Decides.{nat_tests}
use Rattle.std.proofs.lemmas.List.{drop_all, take-append-drop, take_all}
use Rattle.std.proofs.lemmas.List.Elements.{filter_more}
use Rattle.std.proofs.Math.Bool.{or-false}
use Rattle.mpt_rules.specs.declared.task.Task.{Task}
use Rattle.mpt_rules.specs.Fabric.Tasks.{has_tag, is_for, tasks_for_others, tasks_without}
use Rattle.sas_fabric.specs.Tasks.{HaveOwnTags, IsTagged}
use Rattle.sas_fabric.proofs.Lists.{list_any-append, list_any-filter, list_any-find, list_any-without}

itself : (n : ℕ) → is_eq (nat_cmp n n) ≡ true
itself n = grind (arith, nat_tests)

apart : (a b : ℕ) → a ≢ b → is_eq (nat_cmp a b) ≡ false
apart a b differs = grind (arith, nat_tests, differs)

-- no tags and no tasks
pub IsTagged-nil : (tags : BTreeSet ℕ) → tags.keys ≡ [] → IsTagged tags []
IsTagged-nil tags empty = record { same = λ tag. ap (λ ks. list_any (λ k. is_eq (nat_cmp tag k)) ks) empty }

-- a tag is put in, or is taken out
abbrev pub Changes : BTreeSet ℕ → BTreeSet ℕ → ℕ → Bool → Type 0
Changes tags new changed there = (tag : ℕ) → contains nat_cmp new tag ≡ cond (is_eq (nat_cmp changed tag)) there (contains nat_cmp tags tag)

-- a task comes in behind, and its tag with it
pub IsTagged-push : (tags new : BTreeSet ℕ) (tasks : List Task) (task : Task) → IsTagged tags tasks → Changes tags new task.tag true → IsTagged new (tasks ++ task ∷ [])
IsTagged-push tags new tasks task is changes = record { same = same }
  where
    same : (tag : ℕ) → contains nat_cmp new tag ≡ list_any (has_tag tag) (tasks ++ task ∷ [])
    same tag =
        let now : list_any (has_tag tag) (tasks ++ task ∷ []) ≡ (list_any (has_tag tag) tasks || (eqb task.tag tag || false)) = list_any-append (has_tag tag) tasks (task ∷ []) in
        elim (cases_eq task.tag tag) [
          | inl this ↦
              changes tag
              ∙ (ap (λ b. cond b true (contains nat_cmp tags tag)) (ap (λ n. is_eq (nat_cmp n tag)) this ∙ itself tag)
              ∙ sym (now ∙ (ap (λ b. list_any (has_tag tag) tasks || (b || false)) (eq-eqb task.tag tag this) ∙ or_right (list_any (has_tag tag) tasks) true refl)))
          | inr differs ↦
              changes tag
              ∙ (ap (λ b. cond b true (contains nat_cmp tags tag)) (apart task.tag tag differs)
              ∙ (is.same tag ∙ sym (now ∙ (ap (λ b. list_any (has_tag tag) tasks || (b || false)) (ne_eqb task.tag tag differs) ∙ or-false (list_any (has_tag tag) tasks)))))
        ]

-- the task of a tag leaves, and its tag goes
pub IsTagged-without : (tags new : BTreeSet ℕ) (tasks : List Task) (gone : ℕ) → IsTagged tags tasks → Changes tags new gone false → IsTagged new (tasks_without gone tasks)
IsTagged-without tags new tasks gone is changes = record { same = same }
  where
    fails : (tag : ℕ) → gone ≢ tag → (task : Task) → not (has_tag gone task) ≡ false → has_tag tag task ≡ false
    fails tag differs task left =
        ne_eqb task.tag tag (λ this. differs (sym (eqb-true task.tag gone (not-false (eqb task.tag gone) left)) ∙ this))

    same : (tag : ℕ) → contains nat_cmp new tag ≡ list_any (has_tag tag) (tasks_without gone tasks)
    same tag =
        elim (cases_eq gone tag) [
          | inl this ↦ rw (changes tag, this, itself tag) (sym (list_any-without (has_tag tag) tasks))
          | inr differs ↦
              rw (changes tag, apart gone tag differs, is.same tag)
              (sym (list_any-filter (has_tag tag) (λ (task : Task). not (has_tag gone task)) tasks (fails tag differs)))
        ]

-- a tag that isn't there is no task's
pub untagged : (tags : BTreeSet ℕ) (tasks : List Task) (tag : ℕ) → IsTagged tags tasks → contains nat_cmp tags tag ≡ false → find (has_tag tag) tasks ≡ None
untagged tags tasks tag is none =
    of (find (has_tag tag) tasks) (sym (list_any-find (has_tag tag) tasks) ∙ sym (is.same tag) ∙ none)
  where
    of : (o : Option Task) → is_some o ≡ false → o ≡ None
    of None e = refl
    of (Some task) e = absurd (cc)

-- ---- the tasks of a disk leave, one after the other

-- what is left once those among the first were taken out
abbrev pub left : ℕ → ℕ → List Task → List Task
left address i tasks = tasks_for_others address (take i tasks) ++ drop i tasks

pub left_first : (address : ℕ) (tasks : List Task) → left address 0 tasks ≡ tasks
left_first address tasks = refl

pub left_all : (address i : ℕ) (tasks : List Task) → length tasks ≡ i → left address i tasks ≡ tasks_for_others address tasks
left_all address i tasks past =
    rw (take_all i tasks (omega (arith, past)), drop_all i tasks (omega (arith, past))) (append-nil (tasks_for_others address tasks))

-- a tag that none of these has
none_has : (tag : ℕ) (tasks : List Task) → ((k : ℕ) (d : Task) → k < length tasks → (get_or tasks k d).tag ≢ tag) → list_any (has_tag tag) tasks ≡ false
none_has tag [] others = refl
none_has tag (task ∷ tasks) others = rw (ne_eqb task.tag tag (others 0 task (omega arith))) (none_has tag tasks (λ k d within. others (suc k) d (omega (arith, within))))

-- no other task has a task's tag
none_around : (before : List Task) (task : Task) (after : List Task) → HaveOwnTags (before ++ task ∷ after)
    → (list_any (has_tag task.tag) before ≡ false) × (list_any (has_tag task.tag) after ≡ false)
none_around [] task after own = (refl, none_has task.tag after (λ k d within same. own 0 (suc k) d (omega arith) (omega (arith, within)) (sym same)))
none_around (x ∷ xs) task after own =
    let rest = none_around xs task after (λ i j d less within. own (suc i) (suc j) d (omega (arith, less)) (omega (arith, within))) in
    let here : get_or (xs ++ task ∷ after) (length xs) task ≡ task = get_or-append_seam xs task after task in
    let long = length-append xs (task ∷ after) in
    (rw (ne_eqb x.tag task.tag (λ same. own 0 (suc (length xs)) task (omega arith) (omega (arith, long)) (same ∙ ap (λ (t : Task). t.tag) (sym here)))) rest.0, rest.1)

fewer : (p q : Task → Bool) (tasks : List Task) → list_any p tasks ≡ false → list_any p (filter q tasks) ≡ false
fewer p q [] none = refl
fewer p q (task ∷ tasks) none =
    let both = or_parts (p task) (list_any p tasks) none in
    elim (cases_Bool (q task)) [
      | inl yes' ↦ rw (yes', both.0) (fewer p q tasks both.1)
      | inr no' ↦ rw no' (fewer p q tasks both.1)
    ]

module _ (address i : ℕ) (tasks : List Task) (task : Task) (within : i < length tasks) (read : task ≡ get_or tasks i task) where
  rest : drop i tasks ≡ task ∷ drop (i + 1) tasks
  rest = drop-cons tasks i task within ∙ (ap (λ t. t ∷ drop (suc i) tasks) (sym read) ∙ ap (λ n. task ∷ drop n tasks) (sym (add-one i)))

  parts : tasks ≡ take i tasks ++ task ∷ drop (i + 1) tasks
  parts = sym (take-append-drop i tasks) ∙ ap (λ r. take i tasks ++ r) rest

  -- a task for another disk stays
  pub left_same : is_for address task ≡ false → left address (i + 1) tasks ≡ left address i tasks
  left_same other =
      rw (filter_more (λ t. not (is_for address t)) tasks i task within, ← read, other, rest)
      (append_assoc (tasks_for_others address (take i tasks)) (task ∷ []) (drop (i + 1) tasks))

  -- one for the disk leaves
  pub left_less : is_for address task ≡ true → left address (i + 1) tasks ≡ tasks_for_others address (take i tasks) ++ drop (i + 1) tasks
  left_less this =
      rw (filter_more (λ t. not (is_for address t)) tasks i task within, ← read, this, append-nil (tasks_for_others address (take i tasks))) refl

  -- and its tag with it
  pub IsTagged-less : (tags new : BTreeSet ℕ) → HaveOwnTags tasks → is_for address task ≡ true → IsTagged tags (left address i tasks) → Changes tags new task.tag false
      → IsTagged new (left address (i + 1) tasks)
  IsTagged-less tags new own this is changes = record { same = same }
    where
      before : List Task
      before = tasks_for_others address (take i tasks)

      after : List Task
      after = drop (i + 1) tasks

      now : (tag : ℕ) → list_any (has_tag tag) (left address (i + 1) tasks) ≡ (list_any (has_tag tag) before || list_any (has_tag tag) after)
      now tag = ap (list_any (has_tag tag)) (left_less this) ∙ list_any-append (has_tag tag) before after

      same : (tag : ℕ) → contains nat_cmp new tag ≡ list_any (has_tag tag) (left address (i + 1) tasks)
      same tag =
          elim (cases_eq task.tag tag) [
            | inl equal ↦
                let none = none_around (take i tasks) task after (subst HaveOwnTags parts own) in
                let first : list_any (has_tag tag) before ≡ false = fewer (has_tag tag) (λ t. not (is_for address t)) (take i tasks) (rw equal at none.0) in
                let last : list_any (has_tag tag) after ≡ false = rw equal at none.1 in
                rw (changes tag, equal, itself tag, now tag, first, last) refl
            | inr differs ↦
                let old : contains nat_cmp tags tag ≡ (list_any (has_tag tag) before || list_any (has_tag tag) after) =
                is.same tag ∙ (ap (λ r. list_any (has_tag tag) (before ++ r)) rest ∙ (list_any-append (has_tag tag) before (task ∷ after)
                ∙ ap (λ b. list_any (has_tag tag) before || (b || list_any (has_tag tag) after)) (ne_eqb task.tag tag differs))) in
                rw (changes tag, apart task.tag tag differs, now tag) old
          ]
