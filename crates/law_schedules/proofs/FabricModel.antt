-- The model of what is queued at the fabric goes with the fabric: each case of the fabric that a schedule can make.
use Rattle.std.proofs.Common.{◌≡◌, ℕ, ◌+◌, ◌-◌, ◌<◌, ◌≤◌, ◌==◌, ◌&&◌, Bool, true, false, not, cond, if◌then◌else◌, List, [], ◌∷◌, ◌++◌, drop, length, map, slice_index, Option, Some, None, is_some, refl, ap, ap₂, sym, subst, ◌∙◌, arith}
use Rattle.std.specs.List.{cons_option, filter, filter_map, find, list_any}
use Rattle.std.specs.Option.{option_and_then, option_map}
use Rattle.std.proofs.lemmas.Bool.Decides.{nat_tests}
use Rattle.std.proofs.lemmas.List.{map-append}
use Rattle.std.proofs.lemmas.List.Elements.{filter-append}
use Rattle.scsi_disk.specs.declared.command.Command.{Command}
use Rattle.mpt_trace.specs.declared.input.Input.TheVariants as input
use Rattle.mpt_trace.specs.declared.item.Back.{Back}
use Rattle.mpt_trace.specs.declared.item.Back.TheVariants as back
use Rattle.mpt_trace.specs.declared.item.Out.{Out}
use Rattle.mpt_trace.specs.declared.item.Out.TheVariants as out
use Rattle.mpt_wire.specs.Fits.Queued.{Queued, QueuedTask, announced, has_queued_address, has_queued_tag, input_granted, is_plugged_in, noticed, out_taken, task_arrives, tasks_taken}
use Rattle.mpt_rules.specs.declared.task.Task.{Task}
use Rattle.mpt_rules.specs.Fabric.Calls.{after_discover, after_plug, after_unplug, is_calm, plugged_once_more, takes_out, with_notice}
use Rattle.mpt_rules.specs.Fabric.Disks.{all_plugged, changed_if, has_address, places_from, plugged_news, plugged_there, stands_at, unplugged_news, with_disk}
use Rattle.mpt_rules.specs.Fabric.Parts.{Fabric, FabricDisk, Place}
use Rattle.mpt_rules.specs.Fabric.Tasks.{aborts_task, after_abort_if, after_task, clears, gone, has_tag, is_for, is_queued, may_queue, performed_at, tasks_for, tasks_for_others, tasks_without, terminated, told_also, with_task_taken, with_task_taken_if}
use Rattle.mpt_rules.specs.World.Counts.{how_many, one_if}
use Rattle.mpt_rules.proofs.Counts.{how_many-append}
use Rattle.law_flights.proofs.KnownOnce.{count_filter, none_counted}
use Rattle.law_schedules.proofs.DiskCounts.{ArePlaced, IsPlaced, all_stay, any_is, any_map, as_many_news, both_lengths, count_changed, counted_cons, counted_nil, filter_map_both, is_any, is_plugged_disk, length_append, length_filtered, length_map, placed_changed, plug_at, plug_changed}

abbrev pub as_queued_task : Task → QueuedTask
as_queued_task task = record { tag = task.tag; address = task.address }

-- the model's fields, and the fabric's
pub record FitsFabric (on : Bool) (plugged : List ℕ) (tasks : List QueuedTask) (notices to_put : ℕ) (fabric_on : Bool) (fabric_tasks : List Task) (fabric_notices fabric_out : List Back) (disks : List FabricDisk) (phys : List ℕ) : Type 0 where
  pub on_is : on ≡ fabric_on
  pub tasks_are : tasks ≡ map as_queued_task fabric_tasks
  pub notices_are : notices ≡ length fabric_notices
  pub to_put_are : to_put ≡ length fabric_out
  pub plugged_once : (a : ℕ) → how_many (λ (x : ℕ). x == a) plugged ≡ one_if (is_some (plug_at disks a))
  pub as_many : length plugged ≡ how_many is_plugged_disk disks
  -- and of the fabric by itself
  pub tags : (tag : ℕ) → how_many (has_tag tag) fabric_tasks ≤ 1
  pub no_calm : filter is_calm fabric_out ≡ []
  pub notices_calm : filter is_calm fabric_notices ≡ []
  pub addresses : (a : ℕ) → how_many (has_address a) disks ≤ 1
  pub single : (e p : ℕ) → how_many (stands_at e p) disks ≤ 1
  pub placed : ArePlaced phys disks

abbrev pub FabricFits : Queued → Fabric → Type 0
FabricFits g f = FitsFabric g.on g.plugged g.tasks g.notices g.to_put f.on f.tasks f.notices f.out f.disks f.phys

-- ---- lists

-- news that isn't calm
calm_more : (xs ys : List Back) → filter is_calm xs ≡ [] → filter is_calm ys ≡ [] → filter is_calm (xs ++ ys) ≡ []
calm_more xs ys e f = filter-append is_calm xs ys ∙ (ap (λ (zs : List Back). zs ++ filter is_calm ys) e ∙ f)

calm_none : (f : Task → Back) → ((t : Task) → is_calm (f t) ≡ false) → (ts : List Task) → filter is_calm (map f ts) ≡ []
calm_none f h [] = refl
calm_none f h (t ∷ ts) = ap (λ (b : Bool). if b then f t ∷ filter is_calm (map f ts) else filter is_calm (map f ts)) (h t) ∙ calm_none f h ts

tags_fewer : (keep : Task → Bool) (ts : List Task) → ((tag : ℕ) → how_many (has_tag tag) ts ≤ 1) → (tag : ℕ) → how_many (has_tag tag) (filter keep ts) ≤ 1
tags_fewer keep ts h tag = let a = count_filter (has_tag tag) keep ts in let b = h tag in omega (arith, a, b)

-- ---- what the controller asks

module _ (g : Queued) (f : Fabric) (h : FabricFits g f) where
  -- tasks that pass a test are taken, with more news beside one for each
  taken : (test : QueuedTask → Bool) (own : Task → Bool) (more : ℕ) (told : List Back) → ((t : Task) → test (as_queued_task t) ≡ own t) → how_many own f.tasks + more ≡ length told → filter is_calm told ≡ []
      → FitsFabric g.on g.plugged (filter (λ (t : QueuedTask). not (test t)) g.tasks) g.notices (g.to_put + length (filter test g.tasks) + more) f.on (filter (λ (t : Task). not (own t)) f.tasks) f.notices (f.out ++ told) f.disks f.phys
  taken test own more told same count calm =
      record {
        on_is = h.on_is;
        tasks_are = ap (filter (λ (t : QueuedTask). not (test t))) h.tasks_are ∙ (filter_map_both as_queued_task (λ (t : QueuedTask). not (test t)) f.tasks ∙ ap (map as_queued_task) (kept f.tasks));
        notices_are = h.notices_are;
        to_put_are =
            let p = h.to_put_are in
            let l = ap (λ (ts : List QueuedTask). length (filter test ts)) h.tasks_are in
            let m = ap length (filter_map_both as_queued_task test f.tasks) ∙ length_map as_queued_task (filter (λ (t : Task). test (as_queued_task t)) f.tasks) in
            let n = ap length (passed f.tasks) ∙ length_filtered own f.tasks in
            let a = length_append f.out told in
            omega (arith, p, l, m, n, a, count);
        plugged_once = h.plugged_once;
        as_many = h.as_many;
        tags = tags_fewer (λ (t : Task). not (own t)) f.tasks h.tags;
        no_calm = calm_more f.out told h.no_calm calm;
        notices_calm = h.notices_calm;
        addresses = h.addresses;
        single = h.single;
        placed = h.placed;
      }
    where
      passed : (ts : List Task) → filter (λ (t : Task). test (as_queued_task t)) ts ≡ filter own ts
      passed [] = refl
      passed (t ∷ ts) = ap₂ (λ (b : Bool) (xs : List Task). if b then t ∷ xs else xs) (same t) (passed ts)

      kept : (ts : List Task) → filter (λ (t : Task). not (test (as_queued_task t))) ts ≡ filter (λ (t : Task). not (own t)) ts
      kept [] = refl
      kept (t ∷ ts) = ap₂ (λ (b : Bool) (xs : List Task). if not b then t ∷ xs else xs) (same t) (kept ts)

  -- news alone
  told_more : (told : List Back) (n : ℕ) → n ≡ length told → filter is_calm told ≡ [] → FitsFabric g.on g.plugged g.tasks g.notices (g.to_put + n) f.on f.tasks f.notices (f.out ++ told) f.disks f.phys
  told_more told n e calm =
      record {
        on_is = h.on_is;
        tasks_are = h.tasks_are;
        notices_are = h.notices_are;
        to_put_are = let p = h.to_put_are in let a = length_append f.out told in omega (arith, p, a, e);
        plugged_once = h.plugged_once;
        as_many = h.as_many;
        tags = h.tags;
        no_calm = calm_more f.out told h.no_calm calm;
        notices_calm = h.notices_calm;
        addresses = h.addresses;
        single = h.single;
        placed = h.placed;
      }

  -- whether a task may be queued, as both have it
  queued_both : (tag : ℕ) → list_any (has_queued_tag tag) g.tasks ≡ is_queued f tag
  queued_both tag = ap (list_any (has_queued_tag tag)) h.tasks_are ∙ any_map as_queued_task (has_queued_tag tag) f.tasks

  plugged_both : (a : ℕ) → is_plugged_in a g ≡ is_some (plug_at f.disks a)
  plugged_both a = any_is (λ (x : ℕ). x == a) g.plugged (is_some (plug_at f.disks a)) (h.plugged_once a)

  may_both : (tag a : ℕ) → (g.on && is_plugged_in a g && not (list_any (has_queued_tag tag) g.tasks)) ≡ may_queue f tag a
  may_both tag a = ap₂ (λ (x y : Bool). x && y && not (list_any (has_queued_tag tag) g.tasks)) h.on_is (plugged_both a) ∙ ap (λ (z : Bool). f.on && is_some (plug_at f.disks a) && not z) (queued_both tag)

  -- a task comes
  task_came : (tag a : ℕ) (command : Command) → FabricFits (task_arrives (record { tag = tag; address = a }) g) (with_task_taken f tag a command)
  task_came tag a command =
      subst (λ (b : Bool). FabricFits (if b then record g { tasks = g.tasks ++ record { tag = tag; address = a } ∷ [] } else record g { to_put = g.to_put + 1 }) (with_task_taken f tag a command)) (sym (may_both tag a)) (by_may (may_queue f tag a) refl)
    where
      not_queued : (x y z : Bool) → (x && y && not z) ≡ true → z ≡ false
      not_queued true true true e = absurd (cc)
      not_queued true true false e = refl
      not_queued true false z e = absurd (cc)
      not_queued false y z e = absurd (cc)

      by_may : (b : Bool) → may_queue f tag a ≡ b → FabricFits (if b then record g { tasks = g.tasks ++ record { tag = tag; address = a } ∷ [] } else record g { to_put = g.to_put + 1 }) (with_task_taken_if b f tag a command)
      by_may false e = told_more (back.Gone tag ∷ []) 1 refl refl
      by_may true e =
          record {
            on_is = h.on_is;
            tasks_are = ap (λ (ts : List QueuedTask). ts ++ record { tag = tag; address = a } ∷ []) h.tasks_are ∙ sym (map-append as_queued_task f.tasks (record { tag = tag; address = a; command = command } ∷ []));
            notices_are = h.notices_are;
            to_put_are = h.to_put_are;
            plugged_once = h.plugged_once;
            as_many = h.as_many;
            tags = λ k. one_more k (tag == k) refl;
            no_calm = h.no_calm;
            notices_calm = h.notices_calm;
            addresses = h.addresses;
            single = h.single;
            placed = h.placed;
          }
        where
          task : Task
          task = record { tag = tag; address = a; command = command }

          none : how_many (has_tag tag) f.tasks ≡ 0
          none = none_counted (has_tag tag) f.tasks (not_queued f.on (is_some (plug_at f.disks a)) (is_queued f tag) e)

          one_more : (k : ℕ) (b : Bool) → (tag == k) ≡ b → how_many (has_tag k) (f.tasks ++ task ∷ []) ≤ 1
          one_more k true t =
              let same : tag ≡ k = grind (arith, nat_tests, t) in
              let z = ap (λ (n : ℕ). how_many (has_tag n) f.tasks) same in
              let m = how_many-append (has_tag k) f.tasks (task ∷ []) in
              let c = counted_cons (has_tag k) task [] in
              let n = counted_nil (has_tag k) in
              let o = ap one_if t in
              let x = none in
              omega (arith, z, m, c, n, o, x)
          one_more k false t =
              let m = how_many-append (has_tag k) f.tasks (task ∷ []) in
              let c = counted_cons (has_tag k) task [] in
              let n = counted_nil (has_tag k) in
              let o = ap one_if t in
              let l = h.tags k in
              omega (arith, m, c, n, o, l)

  -- an abort
  abort_came : (smid tag : ℕ) → FabricFits (tasks_taken (has_queued_tag tag) 1 g) (aborts_task f smid tag)
  abort_came smid tag = by_queued (is_queued f tag) refl
    where
      by_queued : (b : Bool) → is_queued f tag ≡ b → FabricFits (tasks_taken (has_queued_tag tag) 1 g) (after_abort_if b f smid tag)
      by_queued true e =
          let o = is_any (has_tag tag) f.tasks (h.tags tag) in
          let x = ap one_if e in
          taken (has_queued_tag tag) (has_tag tag) 1 (back.Terminated tag ∷ back.Aborted smid true ∷ []) (λ t. refl) (omega (arith, o, x)) refl
      by_queued false e =
          let z = none_counted (has_tag tag) f.tasks e in
          subst (λ (ts : List Task). FitsFabric g.on g.plugged (filter (λ (t : QueuedTask). not (has_queued_tag tag t)) g.tasks) g.notices (g.to_put + length (filter (has_queued_tag tag) g.tasks) + 1) f.on ts f.notices (f.out ++ back.Aborted smid false ∷ []) f.disks f.phys)
          (all_stay (has_tag tag) f.tasks z)
          (taken (has_queued_tag tag) (has_tag tag) 1 (back.Aborted smid false ∷ []) (λ t. refl) (omega (arith, z)) refl)

  -- a target reset
  reset_came : (smid a : ℕ) → FabricFits (tasks_taken (has_queued_address a) 1 g) (clears f smid a)
  reset_came smid a =
      let l = length_append (map terminated (tasks_for a f.tasks)) (back.Cleared smid (length (tasks_for a f.tasks)) ∷ []) in
      let m = length_map terminated (tasks_for a f.tasks) in
      let n = length_filtered (is_for a) f.tasks in
      taken (has_queued_address a) (is_for a) 1 (map terminated (tasks_for a f.tasks) ++ back.Cleared smid (length (tasks_for a f.tasks)) ∷ []) (λ t. refl) (omega (arith, l, m, n))
      (calm_more (map terminated (tasks_for a f.tasks)) (back.Cleared smid (length (tasks_for a f.tasks)) ∷ []) (calm_none terminated (λ t. refl) (tasks_for a f.tasks)) refl)

  -- the question for disks
  discover_came : FabricFits (out_taken out.Discover g) (after_discover f)
  discover_came =
      record {
        on_is = refl;
        tasks_are = h.tasks_are;
        notices_are = h.notices_are;
        to_put_are =
            let p = h.to_put_are in
            let a = length_append f.out (all_plugged f ++ back.Discovered ∷ []) in
            let b = length_append (all_plugged f) (back.Discovered ∷ []) in
            let n = as_many_news f.disks h.single f.phys h.placed in
            let m = h.as_many in
            omega (arith, p, a, b, n, m);
        plugged_once = h.plugged_once;
        as_many = h.as_many;
        tags = h.tags;
        no_calm = calm_more f.out (all_plugged f ++ back.Discovered ∷ []) h.no_calm (calm_more (all_plugged f) (back.Discovered ∷ []) (news_calm (places_from 0 f.phys)) refl);
        notices_calm = h.notices_calm;
        addresses = h.addresses;
        single = h.single;
        placed = h.placed;
      }
    where
      news_calm : (places : List Place) → filter is_calm (filter_map (plugged_there f) places) ≡ []
      news_calm [] = refl
      news_calm (place ∷ places) = by_found (find (stands_at place.expander place.phy) f.disks) (news_calm places)
        where
          by_found : (o : Option FabricDisk) → filter is_calm (filter_map (plugged_there f) places) ≡ []
              → filter is_calm (cons_option (option_map (λ (disk : FabricDisk). plugged_news disk place) o) (filter_map (plugged_there f) places)) ≡ []
          by_found None ih = ih
          by_found (Some d) ih = ih

  -- a link
  link_came : (generation : ℕ) → FabricFits (out_taken (out.Link generation) g) (takes_out f (out.Link generation))
  link_came generation =
      record {
        on_is = refl;
        tasks_are = refl;
        notices_are = refl;
        to_put_are = sym (ap (λ (xs : List Back). length (xs ++ back.Linked generation ∷ [])) h.no_calm);
        plugged_once = h.plugged_once;
        as_many = h.as_many;
        tags = λ tag. let n = counted_nil (has_tag tag) in omega (arith, n);
        no_calm = ap (λ (xs : List Back). filter is_calm (xs ++ back.Linked generation ∷ [])) h.no_calm;
        notices_calm = refl;
        addresses = h.addresses;
        single = h.single;
        placed = h.placed;
      }

  pub item_came : (x : Out) → FabricFits (out_taken x g) (takes_out f x)
  item_came (out.Task tag address command) = task_came tag address command
  item_came (out.Abort smid task) = abort_came smid task
  item_came (out.TargetReset smid address) = reset_came smid address
  item_came out.Discover = discover_came
  item_came (out.Link generation) = link_came generation
  item_came out.Stop = h

  -- ---- what the fabric does by itself

  pub notice_said : (notice : Back) (rest : List Back) → f.notices ≡ notice ∷ rest → FabricFits (announced g) (record f { notices = rest; out = f.out ++ notice ∷ [] })
  notice_said notice rest e =
      record {
        on_is = h.on_is;
        tasks_are = h.tasks_are;
        notices_are = let n = h.notices_are in let l = ap length e in omega (arith, n, l);
        to_put_are = let p = h.to_put_are in let a = length_append f.out (notice ∷ []) in omega (arith, p, a);
        plugged_once = h.plugged_once;
        as_many = h.as_many;
        tags = h.tags;
        no_calm = calm_more f.out (notice ∷ []) h.no_calm (ap (λ (b : Bool). if b then notice ∷ [] else []) first_calm);
        notices_calm = rest_calm;
        addresses = h.addresses;
        single = h.single;
        placed = h.placed;
      }
    where
      split : (b : Bool) → is_calm notice ≡ b → (if is_calm notice then notice ∷ filter is_calm rest else filter is_calm rest) ≡ [] → (is_calm notice ≡ false) × (filter is_calm rest ≡ [])
      split true t z = let p : notice ∷ filter is_calm rest ≡ [] = sym (ap (λ (b : Bool). if b then notice ∷ filter is_calm rest else filter is_calm rest) t) ∙ z in absurd (cc)
      split false t z = (t, sym (ap (λ (b : Bool). if b then notice ∷ filter is_calm rest else filter is_calm rest) t) ∙ z)

      both : (is_calm notice ≡ false) × (filter is_calm rest ≡ [])
      both = split (is_calm notice) refl (sym (ap (filter is_calm) e) ∙ h.notices_calm)

      first_calm : is_calm notice ≡ false
      first_calm = both.0

      rest_calm : filter is_calm rest ≡ []
      rest_calm = both.1

  pub item_put : (x : Back) (rest : List Back) → f.out ≡ x ∷ rest → FabricFits (record g { to_put = g.to_put - 1 }) (record f { out = drop 1 f.out })
  item_put x rest e =
      record {
        on_is = h.on_is;
        tasks_are = h.tasks_are;
        notices_are = h.notices_are;
        to_put_are = let p = h.to_put_are in let l = ap length e in let m = ap (λ (xs : List Back). length (drop 1 xs)) e in omega (arith, p, l, m);
        plugged_once = h.plugged_once;
        as_many = h.as_many;
        tags = h.tags;
        no_calm = ap (λ (xs : List Back). filter is_calm (drop 1 xs)) e ∙ rest_calm (is_calm x) refl (sym (ap (filter is_calm) e) ∙ h.no_calm);
        notices_calm = h.notices_calm;
        addresses = h.addresses;
        single = h.single;
        placed = h.placed;
      }
    where
      rest_calm : (b : Bool) → is_calm x ≡ b → (if is_calm x then x ∷ filter is_calm rest else filter is_calm rest) ≡ [] → filter is_calm rest ≡ []
      rest_calm true t z = let p : x ∷ filter is_calm rest ≡ [] = sym (ap (λ (b : Bool). if b then x ∷ filter is_calm rest else filter is_calm rest) t) ∙ z in absurd (cc)
      rest_calm false t z = sym (ap (λ (b : Bool). if b then x ∷ filter is_calm rest else filter is_calm rest) t) ∙ z

  -- a task is performed
  pub task_ran : (tag : ℕ) (task : Task) → find (has_tag tag) f.tasks ≡ Some task → FabricFits (tasks_taken (has_queued_tag tag) 0 g) (after_task f task (performed_at f task.address task.command))
  task_ran tag task e =
      let is : task.tag ≡ tag = by_find f.tasks e in
      let one : how_many (has_tag tag) f.tasks ≡ 1 = let l = h.tags tag in let a = any_found f.tasks e in omega (arith, l, a) in
      subst (λ (k : ℕ). FitsFabric g.on g.plugged (filter (λ (t : QueuedTask). not (has_queued_tag tag t)) g.tasks) g.notices (g.to_put + length (filter (has_queued_tag tag) g.tasks) + 0) f.on (tasks_without k f.tasks) f.notices
      (f.out ++ back.Result k (performed_at f task.address task.command).result ∷ [])
      (with_disk task.address (λ (disk : FabricDisk). record disk { bytes = (performed_at f task.address task.command).bytes }) f.disks) f.phys) (sym is)
      (with_bytes f.phys task.address (performed_at f task.address task.command).bytes
      (taken (has_queued_tag tag) (has_tag tag) 0 (back.Result tag (performed_at f task.address task.command).result ∷ []) (λ t. refl) (omega (arith, one)) refl))
    where
      by_find : (ts : List Task) → find (has_tag tag) ts ≡ Some task → task.tag ≡ tag
      by_find [] z = absurd (cc)
      by_find (t ∷ ts) z = by_test (t.tag == tag) refl z (by_find ts)
        where
          by_test : (b : Bool) → (t.tag == tag) ≡ b → (if b then Some t else find (has_tag tag) ts) ≡ Some task → (find (has_tag tag) ts ≡ Some task → task.tag ≡ tag) → task.tag ≡ tag
          by_test true k z ih = let same : t ≡ task = cc in let n : t.tag ≡ tag = grind (arith, nat_tests, k) in ap (λ (x : Task). x.tag) (sym same) ∙ n
          by_test false k z ih = ih z

      any_found : (ts : List Task) → find (has_tag tag) ts ≡ Some task → 1 ≤ how_many (has_tag tag) ts
      any_found [] z = absurd (cc)
      any_found (t ∷ ts) z = by_test (t.tag == tag) refl z (any_found ts) (counted_cons (has_tag tag) t ts)
        where
          by_test : (b : Bool) → (t.tag == tag) ≡ b → (if b then Some t else find (has_tag tag) ts) ≡ Some task → (find (has_tag tag) ts ≡ Some task → 1 ≤ how_many (has_tag tag) ts) → how_many (has_tag tag) (t ∷ ts) ≡ one_if (has_tag tag t) + how_many (has_tag tag) ts → 1 ≤ how_many (has_tag tag) (t ∷ ts)
          by_test true k z ih c = let o = ap one_if k in omega (arith, c, o)
          by_test false k z ih c = let i = ih z in omega (arith, c, i)

      -- other bytes stand where those before did
      with_bytes : (phys : List ℕ) (a : ℕ) (bytes : List ℕ) → {on : Bool} {plugged : List ℕ} {tasks : List QueuedTask} {notices to_put : ℕ} {fabric_on : Bool} {fabric_tasks : List Task} {fabric_notices fabric_out : List Back}
          → FitsFabric on plugged tasks notices to_put fabric_on fabric_tasks fabric_notices fabric_out f.disks phys
          → FitsFabric on plugged tasks notices to_put fabric_on fabric_tasks fabric_notices fabric_out (with_disk a (λ (disk : FabricDisk). record disk { bytes = bytes }) f.disks) phys
      with_bytes phys a bytes k =
          record {
            on_is = k.on_is;
            tasks_are = k.tasks_are;
            notices_are = k.notices_are;
            to_put_are = k.to_put_are;
            plugged_once = λ b. k.plugged_once b ∙ ap (λ (o : Option Place). one_if (is_some o)) (sym (plug_changed a change (λ d. refl) b f.disks ∙ same_plug b (b == a)));
            as_many = k.as_many ∙ sym (same_count is_plugged_disk (λ d. refl) f.disks);
            tags = k.tags;
            no_calm = k.no_calm;
            notices_calm = k.notices_calm;
            addresses = λ b. let c = same_count (has_address b) (λ d. refl) f.disks in let l = k.addresses b in omega (arith, c, l);
            single = λ e p. let c = same_count (stands_at e p) (λ d. refl) f.disks in let l = k.single e p in omega (arith, c, l);
            placed = placed_changed phys (changed_if a change) (λ d p. by_place d p (d.address == a)) f.disks k.placed;
          }
        where
          change : FabricDisk → FabricDisk
          change disk = record disk { bytes = bytes }

          same_plug : (b : ℕ) (c : Bool) → cond c (option_and_then (λ (d : FabricDisk). (change d).at) (find (has_address b) f.disks)) (plug_at f.disks b) ≡ plug_at f.disks b
          same_plug b true = refl
          same_plug b false = refl

          same_count : (test : FabricDisk → Bool) → ((d : FabricDisk) → test (change d) ≡ test d) → (ds : List FabricDisk) → how_many test (with_disk a change ds) ≡ how_many test ds
          same_count test s [] = refl
          same_count test s (d ∷ ds) =
              let x = counted_cons test (changed_if a change d) (with_disk a change ds) in
              let y = counted_cons test d ds in
              let i = same_count test s ds in
              let o = by_test (d.address == a) in
              omega (arith, x, y, i, o)
            where
              by_test : (b : Bool) → one_if (test (if b then change d else d)) ≡ one_if (test d)
              by_test true = ap one_if (s d)
              by_test false = refl

          by_place : (d : FabricDisk) → IsPlaced phys d.at → (b : Bool) → IsPlaced phys (if b then change d else d).at
          by_place d p true = p
          by_place d p false = p

  -- ---- plugs

  -- whether news is a notice: while the fabric is on
  pub plugged_granted : (disk : FabricDisk) (place : Place) → find (has_address disk.address) f.disks ≡ Some disk → disk.at ≡ None → how_many (stands_at place.expander place.phy) f.disks ≡ 0 → place.phy < slice_index f.phys place.expander
      → FabricFits (input_granted (input.Plug disk.address place.expander place.phy) g) (after_plug f disk place)
  plugged_granted disk place e free empty there = by_on f.on h.on_is
    where
      change : FabricDisk → FabricDisk
      change = plugged_once_more place

      disks : List FabricDisk
      disks = with_disk disk.address change f.disks

      address : (d : FabricDisk) → (change d).address ≡ d.address
      address d = refl

      once : (a : ℕ) → how_many (λ (x : ℕ). x == a) (g.plugged ++ disk.address ∷ []) ≡ one_if (is_some (plug_at disks a))
      once a =
          let m = how_many-append (λ (x : ℕ). x == a) g.plugged (disk.address ∷ []) in
          let c = counted_cons (λ (x : ℕ). x == a) disk.address [] in
          let n = counted_nil (λ (x : ℕ). x == a) in
          let o = h.plugged_once a in
          let p = ap (λ (w : Option Place). one_if (is_some w)) (plug_changed disk.address change address a f.disks) in
          by_key (a == disk.address) refl (omega (arith, m, c, n, o)) p
        where
          by_key : (b : Bool) → (a == disk.address) ≡ b → how_many (λ (x : ℕ). x == a) (g.plugged ++ disk.address ∷ []) ≡ one_if (is_some (plug_at f.disks a)) + one_if (disk.address == a)
              → one_if (is_some (plug_at disks a)) ≡ one_if (is_some (cond (a == disk.address) (option_and_then (λ (d : FabricDisk). (change d).at) (find (has_address a) f.disks)) (plug_at f.disks a)))
              → how_many (λ (x : ℕ). x == a) (g.plugged ++ disk.address ∷ []) ≡ one_if (is_some (plug_at disks a))
          by_key true t w p =
              let same : a ≡ disk.address = grind (arith, nat_tests, t) in
              let back_test : (disk.address == a) ≡ true = grind (arith, nat_tests, same) in
              let one = ap one_if back_test in
              let was : is_some (plug_at f.disks a) ≡ false = ap (λ (k : ℕ). is_some (plug_at f.disks k)) same ∙ (ap (λ (z : Option FabricDisk). is_some (option_and_then (λ (d : FabricDisk). d.at) z)) e ∙ ap is_some free) in
              let none = ap one_if was in
              let now : one_if (is_some (cond (a == disk.address) (option_and_then (λ (d : FabricDisk). (change d).at) (find (has_address a) f.disks)) (plug_at f.disks a))) ≡ 1 =
              ap (λ (b : Bool). one_if (is_some (cond b (option_and_then (λ (d : FabricDisk). (change d).at) (find (has_address a) f.disks)) (plug_at f.disks a)))) t
              ∙ (ap (λ (k : ℕ). one_if (is_some (option_and_then (λ (d : FabricDisk). (change d).at) (find (has_address k) f.disks)))) same ∙ ap (λ (z : Option FabricDisk). one_if (is_some (option_and_then (λ (d : FabricDisk). (change d).at) z))) e) in
              omega (arith, w, p, one, none, now)
          by_key false t w p =
              let back_test : (disk.address == a) ≡ false = grind (arith, nat_tests, t) in
              let zero_one = ap one_if back_test in
              let now = ap (λ (b : Bool). one_if (is_some (cond b (option_and_then (λ (d : FabricDisk). (change d).at) (find (has_address a) f.disks)) (plug_at f.disks a)))) t in
              omega (arith, w, p, zero_one, now)

      as_plugged : (notices : ℕ) (told : List Back) → notices ≡ length told → filter is_calm told ≡ [] → FitsFabric g.on (g.plugged ++ disk.address ∷ []) g.tasks notices g.to_put f.on f.tasks told f.out disks f.phys
      as_plugged notices told n calm =
          record {
            on_is = h.on_is;
            tasks_are = h.tasks_are;
            notices_are = n;
            to_put_are = h.to_put_are;
            plugged_once = once;
            as_many =
                let c = count_changed disk.address change address is_plugged_disk disk f.disks e (h.addresses disk.address) in
                let o = ap (λ (w : Option Place). one_if (is_some w)) free in
                let l = length_append g.plugged (disk.address ∷ []) in
                let m = h.as_many in
                omega (arith, c, o, l, m);
            tags = h.tags;
            no_calm = h.no_calm;
            notices_calm = calm;
            addresses = λ a. let c = count_changed disk.address change address (has_address a) disk f.disks e (h.addresses disk.address) in let l = h.addresses a in omega (arith, c, l);
            single = λ x p. one_place x p;
            placed = placed_changed f.phys (changed_if disk.address change) (λ d p. by_place d p (d.address == disk.address)) f.disks h.placed;
          }
        where
          by_place : (d : FabricDisk) → IsPlaced f.phys d.at → (b : Bool) → IsPlaced f.phys (if b then change d else d).at
          by_place d p true = there
          by_place d p false = p

          one_place : (x p : ℕ) → how_many (stands_at x p) disks ≤ 1
          one_place x p =
              let c = count_changed disk.address change address (stands_at x p) disk f.disks e (h.addresses disk.address) in
              by_test (place.expander == x && place.phy == p) refl c
            where
              by_test : (b : Bool) → (place.expander == x && place.phy == p) ≡ b → how_many (stands_at x p) disks + one_if (stands_at x p disk) ≡ how_many (stands_at x p) f.disks + one_if (place.expander == x && place.phy == p) → how_many (stands_at x p) disks ≤ 1
              by_test true t c =
                  let both = and_both (place.expander == x) (place.phy == p) t in
                  let b0 = both.0 in
                  let b1 = both.1 in
                  let ex : place.expander ≡ x = grind (arith, nat_tests, b0) in
                  let ph : place.phy ≡ p = grind (arith, nat_tests, b1) in
                  let z : how_many (stands_at x p) f.disks ≡ 0 = sym (ap₂ (λ (u v : ℕ). how_many (stands_at u v) f.disks) ex ph) ∙ empty in
                  let o = ap one_if t in
                  omega (arith, c, z, o)
                where
                  and_both : (u v : Bool) → (u && v) ≡ true → (u ≡ true) × (v ≡ true)
                  and_both true true q = (refl, refl)
                  and_both true false q = absurd (cc)
                  and_both false v q = absurd (cc)
              by_test false t c = let o = ap one_if t in let l = h.single x p in omega (arith, c, o, l)

      by_on : (b : Bool) → g.on ≡ b → FabricFits (noticed (record g { plugged = g.plugged ++ disk.address ∷ [] })) (with_notice b (plugged_news (change disk) place) (record f { disks = disks }))
      by_on true o =
          subst (λ (b : Bool). FabricFits (if b then record g { plugged = g.plugged ++ disk.address ∷ []; notices = g.notices + 1 } else record g { plugged = g.plugged ++ disk.address ∷ [] }) (with_notice true (plugged_news (change disk) place) (record f { disks = disks }))) (sym o)
          (as_plugged (g.notices + 1) (f.notices ++ plugged_news (change disk) place ∷ []) (let n = h.notices_are in let l = length_append f.notices (plugged_news (change disk) place ∷ []) in omega (arith, n, l)) (calm_more f.notices (plugged_news (change disk) place ∷ []) h.notices_calm refl))
      by_on false o =
          subst (λ (b : Bool). FabricFits (if b then record g { plugged = g.plugged ++ disk.address ∷ []; notices = g.notices + 1 } else record g { plugged = g.plugged ++ disk.address ∷ [] }) (with_notice false (plugged_news (change disk) place) (record f { disks = disks }))) (sym o)
          (as_plugged g.notices f.notices h.notices_are h.notices_calm)

  -- ---- unplugs

  pub unplugged_granted : (disk : FabricDisk) (place : Place) → find (has_address disk.address) f.disks ≡ Some disk → disk.at ≡ Some place → FabricFits (input_granted (input.Unplug disk.address) g) (after_unplug f disk place)
  unplugged_granted disk place e at = by_on f.on h.on_is
    where
      change : FabricDisk → FabricDisk
      change d = record d { at = None }

      disks : List FabricDisk
      disks = with_disk disk.address change f.disks

      address : (d : FabricDisk) → (change d).address ≡ d.address
      address d = refl

      was_one : how_many (λ (x : ℕ). x == disk.address) g.plugged ≡ 1
      was_one = h.plugged_once disk.address ∙ ap (λ (o : Option FabricDisk). one_if (is_some (option_and_then (λ (d : FabricDisk). d.at) o))) e ∙ ap (λ (w : Option Place). one_if (is_some w)) at

      gone_at : (a : ℕ) → option_and_then (λ (d : FabricDisk). (change d).at) (find (has_address a) f.disks) ≡ None
      gone_at a = by_found (find (has_address a) f.disks)
        where
          by_found : (o : Option FabricDisk) → option_and_then (λ (d : FabricDisk). (change d).at) o ≡ None
          by_found None = refl
          by_found (Some d) = refl

      others_left : List ℕ
      others_left = filter (λ (x : ℕ). not (x == disk.address)) g.plugged

      left_count : (a : ℕ) (xs : List ℕ) → how_many (λ (x : ℕ). x == a) (filter (λ (x : ℕ). not (x == disk.address)) xs) ≡ cond (a == disk.address) 0 (how_many (λ (x : ℕ). x == a) xs)
      left_count a [] = counted_nil (λ (x : ℕ). x == a) ∙ sym (by_key (a == disk.address) (counted_nil (λ (x : ℕ). x == a)))
        where
          by_key : (b : Bool) → how_many (λ (x : ℕ). x == a) [] ≡ 0 → cond b 0 (how_many (λ (x : ℕ). x == a) []) ≡ 0
          by_key true n = refl
          by_key false n = n
      left_count a (x ∷ xs) = by_keys (x == disk.address) refl (a == disk.address) refl (left_count a xs) (counted_cons (λ (y : ℕ). y == a) x xs)
        where
          by_keys : (b : Bool) → (x == disk.address) ≡ b → (c : Bool) → (a == disk.address) ≡ c
              → how_many (λ (y : ℕ). y == a) (filter (λ (y : ℕ). not (y == disk.address)) xs) ≡ cond (a == disk.address) 0 (how_many (λ (y : ℕ). y == a) xs)
              → how_many (λ (y : ℕ). y == a) (x ∷ xs) ≡ one_if (x == a) + how_many (λ (y : ℕ). y == a) xs
              → how_many (λ (y : ℕ). y == a) (if not b then x ∷ filter (λ (y : ℕ). not (y == disk.address)) xs else filter (λ (y : ℕ). not (y == disk.address)) xs) ≡ cond c 0 (how_many (λ (y : ℕ). y == a) (x ∷ xs))
          by_keys true t true u ih n = ih ∙ ap (λ (z : Bool). cond z 0 (how_many (λ (y : ℕ). y == a) xs)) u
          by_keys true t false u ih n =
              let apart : (x == a) ≡ false = grind (arith, nat_tests, t, u) in
              let o = ap one_if apart in
              let i = ih ∙ ap (λ (z : Bool). cond z 0 (how_many (λ (y : ℕ). y == a) xs)) u in
              omega (arith, n, o, i)
          by_keys false t true u ih n =
              let apart : (x == a) ≡ false = grind (arith, nat_tests, t, u) in
              let o = ap one_if apart in
              let m = counted_cons (λ (y : ℕ). y == a) x (filter (λ (y : ℕ). not (y == disk.address)) xs) in
              let i = ih ∙ ap (λ (z : Bool). cond z 0 (how_many (λ (y : ℕ). y == a) xs)) u in
              omega (arith, m, o, i)
          by_keys false t false u ih n =
              let m = counted_cons (λ (y : ℕ). y == a) x (filter (λ (y : ℕ). not (y == disk.address)) xs) in
              let i = ih ∙ ap (λ (z : Bool). cond z 0 (how_many (λ (y : ℕ). y == a) xs)) u in
              omega (arith, m, n, i)

      as_unplugged : (notices : ℕ) (told : List Back) → notices ≡ length told → filter is_calm told ≡ [] → FitsFabric g.on others_left (filter (λ (t : QueuedTask). not (has_queued_address disk.address t)) g.tasks) notices (g.to_put + length (filter (has_queued_address disk.address) g.tasks) + 0) f.on (tasks_for_others disk.address f.tasks) told (f.out ++ map gone (tasks_for disk.address f.tasks)) disks f.phys
      as_unplugged notices told n calm =
          let l = length_map gone (tasks_for disk.address f.tasks) in
          let m = length_filtered (is_for disk.address) f.tasks in
          let k = taken (has_queued_address disk.address) (is_for disk.address) 0 (map gone (tasks_for disk.address f.tasks)) (λ t. refl) (omega (arith, l, m)) (calm_none gone (λ t. refl) (tasks_for disk.address f.tasks)) in
          record {
            on_is = k.on_is;
            tasks_are = k.tasks_are;
            notices_are = n;
            to_put_are = k.to_put_are;
            plugged_once = λ a. left_count a g.plugged ∙ (by_key a (a == disk.address) (h.plugged_once a) ∙ ap (λ (w : Option Place). one_if (is_some w)) (sym (plug_changed disk.address change address a f.disks)));
            as_many =
                let c = count_changed disk.address change address is_plugged_disk disk f.disks e (h.addresses disk.address) in
                let o = ap (λ (w : Option Place). one_if (is_some w)) at in
                let b = both_lengths (λ (x : ℕ). x == disk.address) g.plugged in
                let w = was_one in
                let z = h.as_many in
                omega (arith, c, o, b, w, z);
            tags = k.tags;
            no_calm = k.no_calm;
            notices_calm = calm;
            addresses = λ a. let c = count_changed disk.address change address (has_address a) disk f.disks e (h.addresses disk.address) in let z = h.addresses a in omega (arith, c, z);
            single = λ x p. let c = count_changed disk.address change address (stands_at x p) disk f.disks e (h.addresses disk.address) in let z = h.single x p in omega (arith, c, z);
            placed = placed_changed f.phys (changed_if disk.address change) (λ d p. by_place d p (d.address == disk.address)) f.disks h.placed;
          }
        where
          by_place : (d : FabricDisk) → IsPlaced f.phys d.at → (b : Bool) → IsPlaced f.phys (if b then change d else d).at
          by_place d p true = tt
          by_place d p false = p

          by_key : (a : ℕ) (b : Bool) → how_many (λ (x : ℕ). x == a) g.plugged ≡ one_if (is_some (plug_at f.disks a))
              → cond b 0 (how_many (λ (x : ℕ). x == a) g.plugged) ≡ one_if (is_some (cond b (option_and_then (λ (d : FabricDisk). (change d).at) (find (has_address a) f.disks)) (plug_at f.disks a)))
          by_key a true n = ap (λ (w : Option Place). one_if (is_some w)) (sym (gone_at a))
          by_key a false n = n

      by_on : (b : Bool) → g.on ≡ b → FabricFits (input_granted (input.Unplug disk.address) g) (with_notice b (unplugged_news disk place)
          (told_also (record f { disks = disks; tasks = tasks_for_others disk.address f.tasks }) (map gone (tasks_for disk.address f.tasks))))
      by_on true o =
          subst (λ (b : Bool). FabricFits (if b then record (tasks_taken (has_queued_address disk.address) 0 (record g { plugged = others_left })) { notices = g.notices + 1 } else tasks_taken (has_queued_address disk.address) 0 (record g { plugged = others_left }))
          (with_notice true (unplugged_news disk place) (told_also (record f { disks = disks; tasks = tasks_for_others disk.address f.tasks }) (map gone (tasks_for disk.address f.tasks))))) (sym o)
          (as_unplugged (g.notices + 1) (f.notices ++ unplugged_news disk place ∷ []) (let n = h.notices_are in let l = length_append f.notices (unplugged_news disk place ∷ []) in omega (arith, n, l)) (calm_more f.notices (unplugged_news disk place ∷ []) h.notices_calm refl))
      by_on false o =
          subst (λ (b : Bool). FabricFits (if b then record (tasks_taken (has_queued_address disk.address) 0 (record g { plugged = others_left })) { notices = g.notices + 1 } else tasks_taken (has_queued_address disk.address) 0 (record g { plugged = others_left }))
          (with_notice false (unplugged_news disk place) (told_also (record f { disks = disks; tasks = tasks_for_others disk.address f.tasks }) (map gone (tasks_for disk.address f.tasks))))) (sym o)
          (as_unplugged g.notices f.notices h.notices_are h.notices_calm)
