-- The open requests, as the code has them and as the machine does.
use Rattle.std.proofs.Common.{◌≡◌, ℕ, ◌+◌, ◌-◌, Bool, true, false, cond, if◌then◌else◌, Option, Some, None, refl, sym, ap, ◌∙◌, arith}
use Rattle.std.specs.Option.{is_some, option_map}
use Rattle.std.specs.Ordering.{eq_by_cmp, is_eq, nat_cmp}
use Rattle.std.specs.Cmp.{eq_by_cmp_equiv, nat_cmp_total}
use Rattle.std.specs.BTreeMap as tree
use Rattle.std.specs.BTreeMap.{BTreeMap, btree_map_len}
use Rattle.std.specs.FinMap as finmap
use Rattle.std.specs.FinMap.{FinMap, get-insert, get-remove, len-insert, len-remove}
use Rattle.mpt_trace.specs.declared.command_form.CommandForm.{CommandForm}
use Rattle.mpt_trace.specs.Command.{command_named}
use Rattle.mpt_wire.specs.Machine.State.{OpenRequest}
use Rattle.disk_machine.specs.Machine.{HasRequests, command_in}

turned : (a b : ℕ) → is_eq (nat_cmp a b) ≡ eq_by_cmp nat_cmp b a
turned a b = (eq_by_cmp_equiv nat_cmp_total).symm a b

by_test : {A B C : Type 0} (f : A → C) (g : B → C) (b : Bool) (x : Option A) (y : Option B) (p : Option A) (q : Option B) → option_map f x ≡ option_map g y → option_map f p ≡ option_map g q → option_map f (cond b x p) ≡ option_map g (cond b y q)
by_test f g true x y p q here apart = here
by_test f g false x y p q here apart = apart

same_some : {A B C : Type 0} (f : A → C) (g : B → C) (x : Option A) (y : Option B) → option_map f x ≡ option_map g y → is_some x ≡ is_some y
same_some f g None None is = refl
same_some f g None (Some y) is = cc
same_some f g (Some x) None is = cc
same_some f g (Some x) (Some y) is = refl

-- a request opens
pub HasRequests-insert : (t u : BTreeMap ℕ CommandForm) (requests : FinMap nat_cmp OpenRequest) (n : ℕ) (form : CommandForm) (r : OpenRequest) → r.command ≡ command_named form → ((q : ℕ) → tree.get nat_cmp u q ≡ cond (is_eq (nat_cmp n q)) (Some form) (tree.get nat_cmp t q)) → HasRequests t requests → HasRequests u (finmap.insert requests n r)
HasRequests-insert t u requests n form r named is has =
    λ q. rw (is q, turned n q, get-insert nat_cmp_total requests n r q)
    (by_test command_named command_in (eq_by_cmp nat_cmp q n) (Some form) (Some r) (tree.get nat_cmp t q) (finmap.get requests q) (ap Some (sym named)) (has q))

-- a request is answered
pub HasRequests-remove : (t u : BTreeMap ℕ CommandForm) (requests : FinMap nat_cmp OpenRequest) (n : ℕ) → ((q : ℕ) → tree.get nat_cmp u q ≡ cond (is_eq (nat_cmp n q)) None (tree.get nat_cmp t q)) → HasRequests t requests → HasRequests u (finmap.remove requests n)
HasRequests-remove t u requests n is has =
    λ q. rw (is q, turned n q, get-remove nat_cmp_total requests n q)
    (by_test command_named command_in (eq_by_cmp nat_cmp q n) None None (tree.get nat_cmp t q) (finmap.get requests q) refl (has q))

-- how many are open after one more
pub length-after_insert : (t u : BTreeMap ℕ CommandForm) (requests : FinMap nat_cmp OpenRequest) (n : ℕ) (r : OpenRequest) (o : Option CommandForm) → o ≡ tree.get nat_cmp t n → HasRequests t requests → btree_map_len t ≡ finmap.len requests → btree_map_len u ≡ btree_map_len t + (if is_some o then 0 else 1) → btree_map_len u ≡ finmap.len (finmap.insert requests n r)
length-after_insert t u requests n r o old has many is =
    let some : is_some o ≡ is_some (finmap.get requests n) = ap is_some old ∙ same_some command_named command_in _ _ (has n) in
    let now : btree_map_len u ≡ finmap.len requests + (if is_some (finmap.get requests n) then 0 else 1) = rw (← many, ← some) is in
    now ∙ by_cases (is_some (finmap.get requests n)) (finmap.len requests) ∙ sym (len-insert nat_cmp_total requests n r)
  where
    by_cases : (b : Bool) (m : ℕ) → m + (if b then 0 else 1) ≡ cond b m (m + 1)
    by_cases true m = omega arith
    by_cases false m = refl

-- and after one less
pub length-after_remove : (t u : BTreeMap ℕ CommandForm) (requests : FinMap nat_cmp OpenRequest) (n : ℕ) (o : Option CommandForm) → o ≡ tree.get nat_cmp t n → HasRequests t requests → btree_map_len t ≡ finmap.len requests → btree_map_len u + (if is_some o then 1 else 0) ≡ btree_map_len t → btree_map_len u ≡ finmap.len (finmap.remove requests n)
length-after_remove t u requests n o old has many is =
    let some : is_some o ≡ is_some (finmap.get requests n) = ap is_some old ∙ same_some command_named command_in _ _ (has n) in
    let before : btree_map_len u + (if is_some (finmap.get requests n) then 1 else 0) ≡ finmap.len requests = rw (← many, ← some) is in
    by_cases (is_some (finmap.get requests n)) (btree_map_len u) (finmap.len requests) before ∙ sym (len-remove nat_cmp_total requests n)
  where
    by_cases : (b : Bool) (k m : ℕ) → k + (if b then 1 else 0) ≡ m → k ≡ cond b (m - 1) m
    by_cases true k m is = omega arith
    by_cases false k m is = omega arith
