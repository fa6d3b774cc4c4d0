-- Each plan that a text stands for keeps the limits: by one walk over its lines, with what was declared so far.
use Rattle.std.proofs.Common.{◌≡◌, ◌≢◌, ℕ, suc, ◌+◌, ◌<◌, ◌≤◌, ◌^◌, ◌==◌, ◌&&◌, ◌||◌, not, nat_le, Bool, true, false, cond, List, [], ◌∷◌, ◌++◌, length, get_or, Option, Some, None, Result, Ok, Err, Ordering, Less, Equal, Greater, refl, subst, sym, ap, ◌∙◌, arith}
use Rattle.std.specs.Prelude.{All, AllPairs}
use Rattle.std.specs.List.{list_any}
use Rattle.std.specs.Ordering.{match_ordering, nat_cmp}
use Rattle.std.specs.BTreeSet.{insert_key}
use Rattle.std.proofs.lemmas.Bool.{and_parts}
use Rattle.std.proofs.lemmas.Grind.{common_steps}
use Rattle.std.proofs.lemmas.List.{length-append}
use Rattle.std.proofs.lemmas.List.Elements.{All-append, All-cons, All-nil, All-weaker}
use Rattle.std.proofs.lemmas.List.Quantifiers.{all_pairs_push}
use Rattle.std.proofs.lemmas.Map.Lookups.{exact_unsigned}
use Rattle.mpt_lines.specs.declared.fault.Cause.{Cause}
use Rattle.mpt_lines.specs.declared.fault.Cause.TheVariants.{Many, Order}
use Rattle.mpt_lines.specs.declared.statement.PlanStatement.{PlanStatement}
use Rattle.mpt_lines.specs.declared.statement.PlanStatement.TheVariants as plan
use Rattle.mpt_lines.specs.declared.statement.Statement.{Statement}
use Rattle.mpt_lines.specs.declared.statement.Statement.TheVariants as statement
use Rattle.mpt_lines.specs.Numbers.{◌>>=◌}
use Rattle.mpt_lines.specs.Statements.{plan_line}
use Rattle.mpt_lines.specs.Words.{lines, words}
use Rattle.mpt_trace.specs.declared.disk_spec.DiskSpec.{DiskSpec}
use Rattle.mpt_trace.specs.declared.input.Input.{Input}
use Rattle.mpt_trace.specs.declared.input.Input.TheVariants as input
use Rattle.mpt_script.specs.declared.line.Line.{Line}
use Rattle.mpt_script.specs.declared.line.Line.TheVariants as line
use Rattle.mpt_script.specs.Allowed.{is_address, statement_fits}
use Rattle.mpt_script.specs.Declarations.{Declared, after, is_misplaced, is_repeated, is_too_many, is_unknown, line_of}
use Rattle.mpt_script.specs.PlanParts.{PlanParts}
use Rattle.mpt_script.specs.PlanState.{PlanState}
use Rattle.mpt_script.specs.Planning.{begun, extended, is_crowded, is_fabric, is_numbered, is_out_of_block, judged_line, nothing_planned, onto_last, placed, plan_judged, planned_after, with_submitter}
use Rattle.mpt_script.specs.Plans.{plan_from, plan_of, plan_value, went_on}
use Rattle.mpt_script.specs.Schedules.{Fault, next_number, says_nothing}
use Rattle.mpt_script.proofs.Accepted.{bind_ok, ok_value}
use Rattle.mpt_script.proofs.PlanLines.{Fits, plan_line_fits}
use Rattle.mpt_script.proofs.ReadAllowed.{by_causes, or_parts}
use Rattle.mpt_rules.specs.World.Settings.{IsFromTo}
use Rattle.law_plans.specs.Limits.{KeepsPlanLimits}

-- ---- numbers

below : (most n : ℕ) → nat_le n most ≡ true → n ≤ most
below most n h = grind (arith, common_steps, h)

above : (least n : ℕ) → nat_le least n ≡ true → least ≤ n
above least n h = grind (arith, common_steps, h)

between : (least most n : ℕ) → (nat_le least n && nat_le n most) ≡ true → IsFromTo least most n
between least most n h = let p = and_parts (nat_le least n) (nat_le n most) h in (above least n p.0, below most n p.1)

address_small : (a : ℕ) → is_address a ≡ true → a < 256 ^ 8
address_small a h = let k = below 18446744073709551615 a h in omega (arith, k)

not_within : (most n : ℕ) → nat_le most n ≡ false → n < most
not_within most n h = grind (arith, common_steps, h)

-- ---- an address among those that were declared

abbrev has : List ℕ → ℕ → Bool
has addresses address = list_any (λ a. a == address) addresses

equal_is : (k x : ℕ) → nat_cmp k x ≡ Equal → k ≡ x
equal_is k x e = exact_unsigned k x e

-- inserting a new one makes the list longer by one
longer : (xs : List ℕ) (k : ℕ) → has xs k ≡ false → length (insert_key nat_cmp xs k) ≡ length xs + 1
longer [] k h = refl
longer (x ∷ xs) k h = by_order (nat_cmp k x) refl (longer xs k (grind (arith, common_steps, h)))
  where
    by_order : (o : Ordering) → nat_cmp k x ≡ o → length (insert_key nat_cmp xs k) ≡ length xs + 1
        → length (match_ordering o (k ∷ x ∷ xs) (x ∷ xs) (x ∷ insert_key nat_cmp xs k)) ≡ length (x ∷ xs) + 1
    by_order Less e more = omega arith
    by_order Equal e more = let same = equal_is k x e in grind (arith, common_steps, h, same)
    by_order Greater e more = omega (arith, more)

-- an address stands in the longer list exactly where it is the new one or stood there
either : (xs : List ℕ) (k a : ℕ) → has (insert_key nat_cmp xs k) a ≡ ((k == a) || has xs a)
either [] k a = refl
either (x ∷ xs) k a = by_order (nat_cmp k x) refl (either xs k a)
  where
    by_order : (o : Ordering) → nat_cmp k x ≡ o → has (insert_key nat_cmp xs k) a ≡ ((k == a) || has xs a)
        → has (match_ordering o (k ∷ x ∷ xs) (x ∷ xs) (x ∷ insert_key nat_cmp xs k)) a ≡ ((k == a) || has (x ∷ xs) a)
    by_order Less e more = refl
    by_order Equal e more = let same = equal_is k x e in grind (arith, common_steps, same)
    by_order Greater e more = grind (arith, common_steps, more)

-- ---- what holds of the plan while it is read

abbrev HasAddress : List ℕ → DiskSpec → Type 0
HasAddress addresses d = has addresses d.address ≡ true

abbrev AreApart : DiskSpec → DiskSpec → Type 0
AreApart d e = d.address ≢ e.address

abbrev HasSmallAddress : DiskSpec → Type 0
HasSmallAddress d = d.address < 256 ^ 8

abbrev HasFewBlocks : DiskSpec → Type 0
HasFewBlocks d = IsFromTo 1 1024 d.blocks

-- the disks, with the addresses that were declared
record DisksKeep (addresses : List ℕ) (disks : List DiskSpec) : Type 0 where
  known : All (HasAddress addresses) disks
  counted : length disks ≡ length addresses
  few : length disks ≤ 64
  apart : AllPairs AreApart disks
  small : All HasSmallAddress disks
  blocks : All HasFewBlocks disks

-- the expanders, as they were declared
record PhysKeep (declared phys : List ℕ) : Type 0 where
  same : declared ≡ phys
  few : length phys ≤ 16
  narrow : All (IsFromTo 1 22) phys

record PlanKeeps (d : Declared) (parts : PlanParts) : Type 0 where
  queues : IsFromTo 1 8 parts.queues
  disks : DisksKeep d.addresses parts.disks
  phys : PhysKeep d.phys parts.phys
  submitters : length parts.submitters ≤ 8

nothing_keeps : PlanKeeps (nothing_planned).declared (nothing_planned).plan
nothing_keeps = record {
  queues = (omega arith, omega arith);
  disks = record {
    known = All-nil (HasAddress []);
    counted = refl;
    few = omega arith;
    apart = λ i j x l k. absurd (omega (arith, l, k));
    small = All-nil HasSmallAddress;
    blocks = All-nil HasFewBlocks;
  };
  phys = record { same = refl; few = omega arith; narrow = All-nil (IsFromTo 1 22) };
  submitters = omega arith;
}

-- ---- one line more

push_all : {X : Type 0} (P : X → Type 0) (xs : List X) (x : X) → All P xs → P x → All P (xs ++ x ∷ [])
push_all P xs x h here = All-append P xs (x ∷ []) h (All-cons P x [] here (All-nil P))

-- an address that was declared isn't a new one
apart_from : (addresses : List ℕ) (old new : ℕ) → has addresses old ≡ true → has addresses new ≡ false → old ≢ new
apart_from addresses old new known fresh same = let there : has addresses new ≡ true = subst (λ a. has addresses a ≡ true) same known in cc

still_known : (addresses : List ℕ) (new a : ℕ) → has addresses a ≡ true → has (insert_key nat_cmp addresses new) a ≡ true
still_known addresses new a h = let e = either addresses new a in grind (arith, common_steps, h, e)

now_known : (addresses : List ℕ) (new : ℕ) → has (insert_key nat_cmp addresses new) new ≡ true
now_known addresses new = let e = either addresses new new in grind (arith, common_steps, e)

disk_kept : (addresses : List ℕ) (disks : List DiskSpec) (x : DiskSpec) → statement_fits (statement.Disk x) ≡ true → has addresses x.address ≡ false → nat_le 64 (length addresses) ≡ false
    → DisksKeep addresses disks → DisksKeep (insert_key nat_cmp addresses x.address) (disks ++ x ∷ [])
disk_kept addresses disks x fits new room k =
    let most = and_parts (is_address x.address && nat_le 1 x.blocks) (nat_le x.blocks 1024) fits in
    let least = and_parts (is_address x.address) (nat_le 1 x.blocks) most.0 in
    let less : length addresses < 64 = not_within 64 (length addresses) room in
    let one_more = longer addresses x.address new in
    let more : length (disks ++ x ∷ []) ≡ length disks + 1 = length-append disks (x ∷ []) in
    let counted = k.counted in
    record {
      known = push_all (HasAddress (insert_key nat_cmp addresses x.address)) disks x
          (All-weaker (HasAddress addresses) (HasAddress (insert_key nat_cmp addresses x.address)) (λ d h. still_known addresses x.address d.address h) disks k.known)
          (now_known addresses x.address);
      counted = omega (arith, one_more, more, counted);
      few = omega (arith, more, counted, less);
      apart = all_pairs_push AreApart disks x k.apart (λ i d l. apart_from addresses (get_or disks i d).address x.address (k.known i d l) new);
      small = push_all HasSmallAddress disks x k.small (address_small x.address least.0);
      blocks = push_all HasFewBlocks disks x k.blocks (above 1 x.blocks least.1, below 1024 x.blocks most.1);
    }

phys_kept : (declared phys : List ℕ) (x : ℕ) → (nat_le 1 x && nat_le x 22) ≡ true → nat_le 16 (length declared) ≡ false → PhysKeep declared phys → PhysKeep (declared ++ x ∷ []) (phys ++ x ∷ [])
phys_kept declared phys x fits room k =
    let less : length declared < 16 = not_within 16 (length declared) room in
    let same : length declared ≡ length phys = ap length k.same in
    let more : length (phys ++ x ∷ []) ≡ length phys + 1 = length-append phys (x ∷ []) in
    record {
      same = ap (λ (ps : List ℕ). ps ++ x ∷ []) k.same;
      few = omega (arith, less, same, more);
      narrow = push_all (IsFromTo 1 22) phys x k.narrow (between 1 22 x fits);
    }

length-onto_last : (xs : List (List Input)) (given : Input) → length (onto_last xs given) ≡ length xs
length-onto_last [] given = refl
length-onto_last (x ∷ []) given = refl
length-onto_last (x ∷ y ∷ others) given = ap suc (length-onto_last (y ∷ others) given)

-- an input more is no disk, no expander and no submitter, whatever block it stands in
placed_disks : (p : PlanState) (x : Input) → (placed p.block p.plan x).disks ≡ p.plan.disks
placed_disks p x = grind arith

placed_phys : (p : PlanState) (x : Input) → (placed p.block p.plan x).phys ≡ p.plan.phys
placed_phys p x = grind arith

placed_queues : (p : PlanState) (x : Input) → (placed p.block p.plan x).queues ≡ p.plan.queues
placed_queues p x = grind arith

placed_submitters : (p : PlanState) (x : Input) → length (placed p.block p.plan x).submitters ≡ length p.plan.submitters
placed_submitters p x = let same = length-onto_last p.plan.submitters x in grind (arith, same)

told_kept : (p : PlanState) (x : Input) → PlanKeeps p.declared p.plan → PlanKeeps (after p.declared (line.Input x)) (placed p.block p.plan x)
told_kept p x h = record {
  queues = subst (λ n. IsFromTo 1 8 n) (sym (placed_queues p x)) h.queues;
  disks = subst (λ (disks : List DiskSpec). DisksKeep p.declared.addresses disks) (sym (placed_disks p x)) h.disks;
  phys = subst (λ (phys : List ℕ). PhysKeep p.declared.phys phys) (sym (placed_phys p x)) h.phys;
  submitters = subst (λ n. n ≤ 8) (sym (placed_submitters p x)) h.submitters;
}

-- no cause holds of an answered statement
record Passed (p : PlanState) (said : Statement) : Type 0 where
  new : is_repeated p.declared said ≡ false
  within : is_too_many p.declared said ≡ false

passed : (p : PlanState) (said : Statement) (l : Line) → judged_line p said ≡ Ok l → Passed p said × (line_of said ≡ l)
passed p said l h =
    let parts = by_causes (is_misplaced p.declared said || is_out_of_block p.block said) (is_repeated p.declared said || is_numbered p said) (is_too_many p.declared said || is_crowded p said) (is_unknown p.declared said) (line_of said) l h in
    let again = or_parts (is_repeated p.declared said) (is_numbered p said) parts.1 in
    let many = or_parts (is_too_many p.declared said) (is_crowded p said) parts.2 in
    (record { new = again.0; within = many.0 }, parts.4)

line_kept : (p : PlanState) (said : Statement) → statement_fits said ≡ true → Passed p said → PlanKeeps p.declared p.plan → PlanKeeps (after p.declared (line_of said)) (extended p.block p.plan (line_of said))
line_kept p (statement.Queues q) fits c h = record { queues = between 1 8 q fits; disks = h.disks; phys = h.phys; submitters = h.submitters }
line_kept p (statement.Disk x) fits c h = record {
  queues = h.queues;
  disks = disk_kept p.declared.addresses p.plan.disks x fits c.new c.within h.disks;
  phys = h.phys;
  submitters = h.submitters;
}
line_kept p (statement.Expander number x) fits c h = record {
  queues = h.queues;
  disks = h.disks;
  phys = phys_kept p.declared.phys p.plan.phys x fits c.within h.phys;
  submitters = h.submitters;
}
line_kept p (statement.Plug at e phy) fits c h = told_kept p (input.Plug at e phy) h
line_kept p (statement.Unplug at) fits c h = told_kept p (input.Unplug at) h
line_kept p (statement.Host x) fits c h = told_kept p x h
line_kept p (statement.Choice choice count) fits c h = record { queues = h.queues; disks = h.disks; phys = h.phys; submitters = h.submitters }
line_kept p statement.Drain fits c h = record { queues = h.queues; disks = h.disks; phys = h.phys; submitters = h.submitters }

submitter_kept : (p : PlanState) → nat_le 8 (length p.plan.submitters) ≡ false → PlanKeeps p.declared p.plan → PlanKeeps (begun p.declared) (with_submitter p.plan)
submitter_kept p room h =
    let less : length p.plan.submitters < 8 = not_within 8 (length p.plan.submitters) room in
    let none : List Input = [] in
    let more : length (p.plan.submitters ++ none ∷ []) ≡ length p.plan.submitters + 1 = length-append p.plan.submitters (none ∷ []) in
    record { queues = h.queues; disks = h.disks; phys = h.phys; submitters = omega (arith, less, more) }

fabric_kept : (p : PlanState) → PlanKeeps p.declared p.plan → PlanKeeps (begun p.declared) p.plan
fabric_kept p h = record { queues = h.queues; disks = h.disks; phys = h.phys; submitters = h.submitters }

-- ---- what a line of the text says

module _ {L : Type 0} where
  submitter_causes : (a b : Bool) (x l : L) → cond a (Err Order) (cond b (Err Many) (Ok x)) ≡ Ok l → (b ≡ false) × (x ≡ l)
  submitter_causes true b x l h = cc
  submitter_causes false true x l h = cc
  submitter_causes false false x l h = (refl, cc)

  fabric_causes : (a : Bool) (x l : L) → cond a (Err Order) (Ok x) ≡ Ok l → x ≡ l
  fabric_causes true x l h = cc
  fabric_causes false x l h = cc

  some_value : (x y : L) → Some x ≡ Some y → x ≡ y
  some_value x y e = cc

step : (p : PlanState) (said : PlanStatement) (l : _) → Fits said → plan_judged p said ≡ Ok l → PlanKeeps p.declared p.plan → PlanKeeps (planned_after p l).declared (planned_after p l).plan
step p (plan.Line said) l fits j h =
    let v = bind_ok (judged_line p said) _ l j in
    let c = passed p said v.0 v.1 in
    let kept : PlanKeeps (after p.declared v.0) (extended p.block p.plan v.0) = subst (λ (m : Line). PlanKeeps (after p.declared m) (extended p.block p.plan m)) c.1 (line_kept p said fits.1 c.0 h) in
    subst (λ (m : _). PlanKeeps (planned_after p m).declared (planned_after p m).plan) (ok_value _ l v.2) kept
step p (plan.Submitter number) l fits j h =
    let c = submitter_causes (is_fabric p.block || not (number == length p.plan.submitters)) (nat_le 8 (length p.plan.submitters)) _ l j in
    subst (λ (m : _). PlanKeeps (planned_after p m).declared (planned_after p m).plan) c.1 (submitter_kept p c.0 h)
step p plan.Fabric l fits j h =
    subst (λ (m : _). PlanKeeps (planned_after p m).declared (planned_after p m).plan) (fabric_causes (is_fabric p.block) _ l j) (fabric_kept p h)

-- what a line that says something said
said_by : (b : Bool) (found : Result PlanStatement Cause) (p : PlanState) (l : _) → cond b (Ok None) (found >>= plan_judged p >>= (λ value. Ok (Some value))) ≡ Ok (Some l) → (said : PlanStatement) × (found ≡ Ok said) × (plan_judged p said ≡ Ok l)
said_by true found p l h = cc
said_by false (Err cause) p l h = cc
said_by false (Ok said) p l h =
    let j = bind_ok (plan_judged p said) _ (Some l) h in
    (said, refl, j.1 ∙ ap Ok (some_value j.0 l (ok_value (Some j.0) (Some l) j.2)))

-- ---- whole texts

keeps : (p : PlanState) → PlanKeeps p.declared p.plan → KeepsPlanLimits p.plan
keeps p h = record {
  setting = record {
    few_disks = h.disks.few;
    addresses = h.disks.small;
    apart = h.disks.apart;
    blocks = h.disks.blocks;
    few_expanders = h.phys.few;
    phys = h.phys.narrow;
    few_queues = h.queues;
  };
  submitters = omega (arith, h.submitters);
}

ended : (p : PlanState) (parts : PlanParts) → PlanKeeps p.declared p.plan → (let r : Result PlanParts Fault = Ok p.plan in r) ≡ Ok parts → KeepsPlanLimits parts
ended p parts h e = subst KeepsPlanLimits (ok_parts p.plan parts e) (keeps p h)
  where
    ok_parts : (x y : PlanParts) → (let r : Result PlanParts Fault = Ok x in r) ≡ Ok y → x ≡ y
    ok_parts x y e = cc

last_piece : (b : Bool) (p : PlanState) (fault : Fault) (parts : PlanParts) → PlanKeeps p.declared p.plan → cond b (Ok p.plan) (Err fault) ≡ Ok parts → KeepsPlanLimits parts
last_piece true p fault parts h e = ended p parts h e
last_piece false p fault parts h e = cc

read_on : (number : ℕ) (p : PlanState) (pieces : List (List ℕ)) (parts : PlanParts) → PlanKeeps p.declared p.plan → plan_from number p pieces ≡ Ok parts → KeepsPlanLimits parts
unfolding plan_from
read_on number p [] parts h e = ended p parts h e
read_on number p (rest ∷ []) parts h e = last_piece (length rest == 0) p _ parts h e
read_on number p (text ∷ next ∷ others) parts h e = went (plan_value p text) refl e (λ p' h' e'. read_on (next_number number) p' (next ∷ others) parts h' e')
  where
    went : (found : Result (Option _) Cause) → plan_value p text ≡ found → went_on number p found (λ now. plan_from (next_number number) now (next ∷ others)) ≡ Ok parts
        → ((p' : PlanState) → PlanKeeps p'.declared p'.plan → plan_from (next_number number) p' (next ∷ others) ≡ Ok parts → KeepsPlanLimits parts) → KeepsPlanLimits parts
    went (Err cause) is e more = cc
    went (Ok None) is e more = more p h e
    went (Ok (Some l)) is e more =
        let said = said_by (says_nothing text) (plan_line (words text)) p l is in
        more (planned_after p l) (step p said.0 l (plan_line_fits (words text) said.0 said.1) said.2 h) e

pub plan_keeps_limits : (text : List ℕ) (parts : PlanParts) → plan_of text ≡ Ok parts → KeepsPlanLimits parts
plan_keeps_limits text parts e = read_on 1 nothing_planned (lines text) parts nothing_keeps e
