-- Each case keeps that the fabric is off but between the discovery and the next link.
use Rattle.std.proofs.Common.{◌≡◌, ℕ, zero, suc, ◌+◌, ◌-◌, ◌<◌, ◌≤◌, ◌==◌, ◌&&◌, ◌||◌, not, cond, if◌then◌else◌, nat_lt, Bool, true, false, List, [], ◌∷◌, ◌++◌, map, length, get_or, replicate, set, slice_set, Option, Some, None, is_some, refl, ap, sym, ◌∙◌, subst, arith, append_assoc}
use Rattle.std.proofs.lemmas.Bool.{eqb-true}
use Rattle.std.specs.List.{filter, find, position}
use Rattle.mpi_doorbell.specs.DoorRegisters.{is_fault}
use Rattle.mpi_doorbell.specs.declared.state.IocState.{IocState}
use Rattle.mpi_doorbell.specs.declared.state.IocState.TheVariants as ioc_state
use Rattle.mpt_wire.specs.Messages.Fields.{dev_handle_in, smid_in, task_mid_in}
use Rattle.mpt_trace.specs.declared.item.Back.{Back}
use Rattle.mpt_trace.specs.declared.item.Back.TheVariants as back
use Rattle.mpt_trace.specs.declared.item.Down.{Down}
use Rattle.mpt_trace.specs.declared.item.Out.{Out}
use Rattle.mpt_trace.specs.declared.item.Out.TheVariants as out
use Rattle.mpt_rules.specs.declared.at_fabric.AtFabric.{AtFabric}
use Rattle.mpt_rules.specs.declared.at_fabric.AtFabric.TheVariants as at
use Rattle.mpt_rules.specs.declared.task.Task.{Task}
use Rattle.mpt_rules.specs.World.Counts.{how_many, one_if}
use Rattle.mpt_rules.specs.Fabric.Calls as fab
use Rattle.mpt_rules.specs.Fabric.Calls.{is_calm}
use Rattle.mpt_rules.specs.World.FabricCounts.{is_discover, is_discovered, is_link, is_linked}
use Rattle.mpt_rules.specs.Fabric.Parts.{Fabric}
use Rattle.mpt_rules.specs.Fabric.Tasks as tasks
use Rattle.mpt_rules.specs.Ioc.Back.{is_port_enable}
use Rattle.mpt_rules.proofs.Counts.{how_many-append}
use Rattle.law_facts.specs.Words.{is_discover_or_stop, is_order, is_stop, others}
use Rattle.law_moves.proofs.Counted.{all_pass, fewer_pass, filtered, how_many-cons, how_many-nil, none_passes, others-append, others-cons, others-nil}

-- ---- over fields

-- the fabric is off, and nothing is asked of it but to name disks
pub record Dark (on : Bool) (queued : List Task) (notices : List Back) (o : List Out) (b : List Back) : Type 0 where
  pub off : on ≡ false
  pub no_tasks : queued ≡ []
  pub no_notices : notices ≡ []
  pub only_calm : others is_calm b ≡ 0
  pub only_discover : others is_discover_or_stop o ≡ 0

abbrev pub has_asked_of : Bool → List Out → Bool
has_asked_of enabled o = enabled && (how_many is_discover o == 0)

abbrev pub is_dark_of : Bool → Bool → Bool → List Out → Bool
is_dark_of live reset enabled o = (not live && not reset) || (live && not (has_asked_of enabled o))

pub record FabricStands (live reset enabled : Bool) (n : ℕ) (on : Bool) (queued : List Task) (notices : List Back) (o : List Out) (b : List Back) : Type 0 where
  pub dark : is_dark_of live reset enabled o ≡ true → Dark on queued notices o b
  pub lit : live ≡ true → has_asked_of enabled o ≡ true → on ≡ true
  pub orders : 1 ≤ length queued + how_many is_order o → (on ≡ true) × (how_many is_discover o ≡ 0)
  pub one : reset ≡ false → how_many is_discover o + how_many is_discovered b ≡ n
  pub at_most : how_many is_discover o + how_many is_discovered b ≤ 1
  pub asked : 1 ≤ n → enabled ≡ true

pub false_true : (c : Bool) → c ≡ false → c ≡ true → ⊥
false_true true e f = cc
false_true false e f = cc

-- the lists move, with as many questions and answers, and no more orders than there were
pub moved : (live reset enabled : Bool) (n : ℕ) (on : Bool) (queued queued2 : List Task) (notices notices2 : List Back) (o o2 : List Out) (b b2 : List Back)
    → how_many is_discover o2 ≡ how_many is_discover o → how_many is_discovered b2 ≡ how_many is_discovered b
    → (1 ≤ length queued2 + how_many is_order o2 → 1 ≤ length queued + how_many is_order o)
    → (Dark on queued notices o b → Dark on queued2 notices2 o2 b2)
    → FabricStands live reset enabled n on queued notices o b → FabricStands live reset enabled n on queued2 notices2 o2 b2
moved live reset enabled n on queued queued2 notices notices2 o o2 b b2 d c r k s =
    let i : has_asked_of enabled o2 ≡ has_asked_of enabled o = ap (λ m. enabled && (m == 0)) d in
    record {
      dark = λ e. k (s.dark (ap (λ y. (not live && not reset) || (live && not y)) (sym i) ∙ e));
      lit = λ l e. s.lit l (sym i ∙ e);
      orders = λ l. let t = s.orders (r l) in (t.0, d ∙ t.1);
      one = λ e. let t = s.one e in omega (arith, t, d, c);
      at_most = let t = s.at_most in omega (arith, t, d, c);
      asked = s.asked;
    }

-- an order is there: the fabric isn't dark
not_dark_order : {on : Bool} {queued : List Task} {notices b : List Back} (x : Out) (o : List Out) → is_discover_or_stop x ≡ false → Dark on queued notices (x ∷ o) b → ⊥
not_dark_order x o e k =
    let z = k.only_discover in
    let c = others-cons is_discover_or_stop x o in
    let f : one_if (not (is_discover_or_stop x)) ≡ 1 = ap (λ y. one_if (not y)) e in
    absurd (omega (arith, z, c, f))

-- ---- numbers

pub one_more : {X : Type 0} (test : X → Bool) (xs : List X) (x : X) → how_many test (xs ++ x ∷ []) ≡ how_many test xs + one_if (test x)
one_more test xs x = let a = how_many-append test xs (x ∷ []) in let c = how_many-cons test x [] in let n = how_many-nil test in omega (arith, a, c, n)

pub other_more : {X : Type 0} (test : X → Bool) (xs : List X) (x : X) → others test (xs ++ x ∷ []) ≡ others test xs + one_if (not (test x))
other_more test xs x = let a = others-append test xs (x ∷ []) in let c = others-cons test x [] in let n = others-nil test in omega (arith, a, c, n)

pub no_enables : (n : ℕ) → how_many is_port_enable (replicate n None) ≡ 0
no_enables zero = how_many-nil is_port_enable
no_enables (suc n) = let c = how_many-cons is_port_enable None (replicate n None) in let h = no_enables n in omega (arith, c, h)

-- a dark fabric has no question asked and answered
pub dark_answers : {on : Bool} {queued : List Task} {notices : List Back} {o : List Out} (b : List Back) → Dark on queued notices o b → how_many is_discovered b ≡ 0
dark_answers b k = none_passes is_calm is_discovered calm_apart b k.only_calm
  where
    calm_apart : (x : Back) → is_calm x ≡ true → is_discovered x ≡ false
    calm_apart back.Calm e = refl
    calm_apart (back.Result tag r) e = absurd (cc)
    calm_apart (back.Gone tag) e = absurd (cc)
    calm_apart (back.Terminated tag) e = absurd (cc)
    calm_apart (back.Aborted smid found) e = absurd (cc)
    calm_apart (back.Cleared smid count) e = absurd (cc)
    calm_apart (back.Plugged address plug expander phy) e = absurd (cc)
    calm_apart (back.Unplugged address plug expander phy) e = absurd (cc)
    calm_apart back.Discovered e = absurd (cc)
    calm_apart (back.Linked n) e = absurd (cc)

pub dark_orders : {on : Bool} {queued : List Task} {notices b : List Back} (o : List Out) → Dark on queued notices o b → how_many is_order o ≡ 0
dark_orders o k = none_passes is_discover_or_stop is_order apart o k.only_discover
  where
    apart : (x : Out) → is_discover_or_stop x ≡ true → is_order x ≡ false
    apart out.Discover e = refl
    apart out.Stop e = refl
    apart (out.Link n) e = absurd (cc)
    apart (out.Task tag address command) e = absurd (cc)
    apart (out.Abort smid task) e = absurd (cc)
    apart (out.TargetReset smid address) e = absurd (cc)

-- ---- the fabric's own moves: what it tells has no answer to the question for disks

abbrev is_told : Back → Bool
is_told x = not (is_discovered x)

pub gone_told : (ts : List Task) → how_many is_discovered (map tasks.gone ts) ≡ 0
gone_told [] = how_many-nil is_discovered
gone_told (t ∷ ts) = let c = how_many-cons is_discovered (tasks.gone t) (map tasks.gone ts) in let h = gone_told ts in omega (arith, c, h)

terminated_told : (ts : List Task) → how_many is_discovered (map tasks.terminated ts) ≡ 0
terminated_told [] = how_many-nil is_discovered
terminated_told (t ∷ ts) = let c = how_many-cons is_discovered (tasks.terminated t) (map tasks.terminated ts) in let h = terminated_told ts in omega (arith, c, h)

pub filter_length : {X : Type 0} (keep : X → Bool) (xs : List X) → length (filter keep xs) ≤ length xs
filter_length keep [] = omega arith
filter_length keep (x ∷ xs) = by_test (keep x) (filter_length keep xs)
  where
    by_test : (c : Bool) → length (filter keep xs) ≤ length xs → length (if c then x ∷ filter keep xs else filter keep xs) ≤ length (x ∷ xs)
    by_test true h = omega (arith, h)
    by_test false h = omega (arith, h)

-- what a task, an abort, a target reset leave
pub record Served (queued queued2 : List Task) (notices notices2 : List Back) (was is : Bool) (told told2 : List Back) : Type 0 where
  pub added : List Back
  pub told_is : told2 ≡ told ++ added
  pub none : how_many is_discovered added ≡ 0
  pub notices_is : notices2 ≡ notices
  pub on_is : is ≡ was

module _ (f : Fabric) where
  abbrev ServedBy : Fabric → Type 0
  ServedBy k = Served f.tasks k.tasks f.notices k.notices f.on k.on f.out k.out

  one_told : (x : Back) → is_discovered x ≡ false → how_many is_discovered (x ∷ []) ≡ 0
  one_told x e = let c = how_many-cons is_discovered x [] in let n = how_many-nil {X = Back} is_discovered in let z : one_if (is_discovered x) ≡ 0 = ap one_if e in omega (arith, c, n, z)

  pub serves : (x : Out) → is_order x ≡ true → ServedBy (fab.takes_out f x)
  serves (out.Task tag address command) e = by_test (tasks.may_queue f tag address)
    where
      by_test : (c : Bool) → ServedBy (tasks.with_task_taken_if c f tag address command)
      by_test true = record { added = []; told_is = sym (Rattle.std.proofs.Common.append-nil f.out); none = how_many-nil is_discovered; notices_is = refl; on_is = refl }
      by_test false = record { added = back.Gone tag ∷ []; told_is = refl; none = one_told (back.Gone tag) refl; notices_is = refl; on_is = refl }
  serves (out.Abort smid task) e = by_test (tasks.is_queued f task)
    where
      by_test : (c : Bool) → ServedBy (tasks.after_abort_if c f smid task)
      by_test true =
          record {
            added = back.Terminated task ∷ back.Aborted smid true ∷ [];
            told_is = refl;
            none = (let a = how_many-cons is_discovered (back.Terminated task) (back.Aborted smid true ∷ []) in let c = one_told (back.Aborted smid true) refl in omega (arith, a, c));
            notices_is = refl;
            on_is = refl;
          }
      by_test false = record { added = back.Aborted smid false ∷ []; told_is = refl; none = one_told (back.Aborted smid false) refl; notices_is = refl; on_is = refl }
  serves (out.TargetReset smid address) e =
      let ts = tasks.tasks_for address f.tasks in
      record {
        added = map tasks.terminated (tasks.tasks_for address f.tasks) ++ back.Cleared smid (length (tasks.tasks_for address f.tasks)) ∷ [];
        told_is = refl;
        none = (let a = how_many-append is_discovered (map tasks.terminated (tasks.tasks_for address f.tasks)) (back.Cleared smid (length (tasks.tasks_for address f.tasks)) ∷ []) in let t = terminated_told (tasks.tasks_for address f.tasks) in let c = one_told (back.Cleared smid (length (tasks.tasks_for address f.tasks))) refl in omega (arith, a, t, c));
        notices_is = refl;
        on_is = refl;
      }
  serves out.Discover e = absurd (cc)
  serves (out.Link n) e = absurd (cc)
  serves out.Stop e = absurd (cc)

-- the disks that are named
named_told : (f : Fabric) (ps : List Rattle.mpt_rules.specs.Fabric.Parts.Place) → how_many is_discovered (Rattle.std.specs.List.filter_map (Rattle.mpt_rules.specs.Fabric.Disks.plugged_there f) ps) ≡ 0
named_told f [] = how_many-nil is_discovered
named_told f (p ∷ ps) = by_disk (find (Rattle.mpt_rules.specs.Fabric.Disks.stands_at p.expander p.phy) f.disks) (named_told f ps)
  where
    by_disk : (o : Option Rattle.mpt_rules.specs.Fabric.Parts.FabricDisk) → how_many is_discovered (Rattle.std.specs.List.filter_map (Rattle.mpt_rules.specs.Fabric.Disks.plugged_there f) ps) ≡ 0
        → how_many is_discovered (Rattle.std.specs.List.cons_option (Rattle.std.specs.Option.option_map (λ disk. Rattle.mpt_rules.specs.Fabric.Disks.plugged_news disk p) o) (Rattle.std.specs.List.filter_map (Rattle.mpt_rules.specs.Fabric.Disks.plugged_there f) ps)) ≡ 0
    by_disk None h = h
    by_disk (Some d) h = let a = how_many-cons is_discovered (Rattle.mpt_rules.specs.Fabric.Disks.plugged_news d p) (Rattle.std.specs.List.filter_map (Rattle.mpt_rules.specs.Fabric.Disks.plugged_there f) ps) in omega (arith, a, h)

pub discover_told : (f : Fabric) → how_many is_discovered (fab.takes_out f out.Discover).out ≡ how_many is_discovered f.out + 1
discover_told f =
    let ps = Rattle.mpt_rules.specs.Fabric.Disks.places_from 0 f.phys in
    let a = how_many-append is_discovered f.out (Rattle.mpt_rules.specs.Fabric.Disks.all_plugged f ++ back.Discovered ∷ []) in
    let b = one_more is_discovered (Rattle.mpt_rules.specs.Fabric.Disks.all_plugged f) back.Discovered in
    let c = named_told f (Rattle.mpt_rules.specs.Fabric.Disks.places_from 0 f.phys) in
    omega (arith, a, b, c)

-- ---- items of the lane out, over fields

module _ (live reset enabled : Bool) (n : ℕ) (w_back : List Back) (f : Fabric) (rest : List Out) where
  abbrev Stands : Fabric → List Out → Type 0
  Stands k o = FabricStands live reset enabled n k.on k.tasks k.notices o (w_back ++ k.out)

  -- an order is served
  pub takes_order : (x : Out) → is_order x ≡ true → is_discover x ≡ false → is_discover_or_stop x ≡ false → Stands f (x ∷ rest) → Stands (fab.takes_out f x) rest
  takes_order x e d nd s =
      let v = serves f x e in
      let c = how_many-cons is_discover x rest in let c0 : one_if (is_discover x) ≡ 0 = ap one_if d in
      let o = how_many-cons is_order x rest in let o1 : one_if (is_order x) ≡ 1 = ap one_if e in
      let a = how_many-append is_discovered w_back (f.out ++ v.added) in let a1 = how_many-append is_discovered f.out v.added in let a2 = how_many-append is_discovered w_back f.out in let a3 = v.none in
      let td = ap (λ xs. how_many is_discovered (w_back ++ xs)) v.told_is in
      subst (λ on. FabricStands live reset enabled n on (fab.takes_out f x).tasks (fab.takes_out f x).notices rest (w_back ++ (fab.takes_out f x).out)) (sym v.on_is)
      (moved live reset enabled n f.on f.tasks (fab.takes_out f x).tasks f.notices (fab.takes_out f x).notices (x ∷ rest) rest (w_back ++ f.out) (w_back ++ (fab.takes_out f x).out)
      (omega (arith, c, c0)) (omega (arith, td, a, a1, a2, a3)) (λ y. omega (arith, o, o1)) (λ k. absurd (not_dark_order x rest nd k)) s)

  -- the last word
  pub takes_stop : Stands f (out.Stop ∷ rest) → Stands f rest
  takes_stop s =
      let c = how_many-cons is_discover out.Stop rest in let o = how_many-cons is_order out.Stop rest in let z = others-cons is_discover_or_stop out.Stop rest in
      moved live reset enabled n f.on f.tasks f.tasks f.notices f.notices (out.Stop ∷ rest) rest (w_back ++ f.out) (w_back ++ f.out) (omega (arith, c)) refl (λ y. omega (arith, o, y))
      (λ k. let m = k.only_discover in record { off = k.off; no_tasks = k.no_tasks; no_notices = k.no_notices; only_calm = k.only_calm; only_discover = omega (arith, m, z) }) s

  -- the question for disks
  pub takes_discover : (reset ≡ false → enabled ≡ true) → (reset ≡ false → live ≡ true) → (live ≡ true → reset ≡ false) → Stands f (out.Discover ∷ rest) → Stands (fab.takes_out f out.Discover) rest
  takes_discover en lv nr s =
      let c = how_many-cons is_discover out.Discover rest in let o = how_many-cons is_order out.Discover rest in
      let am = s.at_most in
      let a = how_many-append is_discovered w_back f.out in let a1 = how_many-append is_discovered w_back (fab.takes_out f out.Discover).out in let a2 = discover_told f in
      let none : how_many is_discover rest ≡ 0 = omega (arith, am, c) in
      let nz : (how_many is_discover rest == 0) ≡ true = ap (λ m. m == 0) none in
      record {
        dark = λ e. absurd (is_lit live reset enabled (how_many is_discover rest == 0) nz en lv nr e);
        lit = λ l e. refl;
        orders = λ l. (refl, none);
        one = λ e. let t = s.one e in omega (arith, t, c, a, a1, a2);
        at_most = omega (arith, am, c, a, a1, a2);
        asked = s.asked;
      }
    where
      is_lit : (l r e z : Bool) → z ≡ true → (r ≡ false → e ≡ true) → (r ≡ false → l ≡ true) → (l ≡ true → r ≡ false) → ((not l && not r) || (l && not (e && z))) ≡ true → ⊥
      is_lit true true e z y en lv nr q = absurd (cc (nr refl))
      is_lit true false e z y en lv nr q = let f = en refl in lit e z f y q
        where
          lit : (e z : Bool) → e ≡ true → z ≡ true → not (e && z) ≡ true → ⊥
          lit true true f y q = cc
          lit true false f y q = cc
          lit false z f y q = cc
      is_lit false true e z y en lv nr q = cc
      is_lit false false e z y en lv nr q = cc (lv refl)

  -- a link, in RESET
  pub takes_link : (g : ℕ) → reset ≡ true → live ≡ false → others is_stop rest ≡ 0 → Stands f (out.Link g ∷ rest) → Stands (fab.takes_out f (out.Link g)) rest
  takes_link g r l z s =
      let none = none_passes is_stop is_discover stop_apart rest z in
      let order = none_passes is_stop is_order stop_order rest z in
      let c = how_many-cons is_discover (out.Link g) rest in
      let am = s.at_most in
      let a = how_many-append is_discovered w_back f.out in let a1 = how_many-append is_discovered w_back (filter is_calm f.out ++ back.Linked g ∷ []) in let a2 = one_more is_discovered (filter is_calm f.out) (back.Linked g) in
      let a3 = filtered is_discovered is_calm f.out in
      record {
        dark = λ e. absurd (no_dark live reset l r e);
        lit = λ y e. absurd (false_true live l y);
        orders = λ y. absurd (omega (arith, y, order));
        one = λ e. absurd (false_true reset e r);
        at_most = omega (arith, am, none, c, a, a1, a2, a3);
        asked = s.asked;
      }
    where
      stop_apart : (x : Out) → is_stop x ≡ true → is_discover x ≡ false
      stop_apart out.Stop e = refl
      stop_apart out.Discover e = absurd (cc)
      stop_apart (out.Link n) e = refl
      stop_apart (out.Task tag address command) e = refl
      stop_apart (out.Abort smid task) e = refl
      stop_apart (out.TargetReset smid address) e = refl

      stop_order : (x : Out) → is_stop x ≡ true → is_order x ≡ false
      stop_order out.Stop e = refl
      stop_order out.Discover e = refl
      stop_order (out.Link n) e = refl
      stop_order (out.Task tag address command) e = absurd (cc)
      stop_order (out.Abort smid task) e = absurd (cc)
      stop_order (out.TargetReset smid address) e = absurd (cc)

      no_dark : (a c : Bool) → a ≡ false → c ≡ true → ((not a && not c) || (a && not (has_asked_of enabled rest))) ≡ true → ⊥
      no_dark false true e f q = cc
      no_dark true c e f q = cc
      no_dark false false e f q = cc
