-- What the fabric tells of aborts and target resets: one end for each that it takes, and none else.
use Rattle.std.proofs.Common.{◌≡◌, ℕ, ◌+◌, ◌≤◌, ◌==◌, Bool, true, false, if◌then◌else◌, List, [], ◌∷◌, ◌++◌, map, length, Option, Some, None, refl, arith}
use Rattle.std.specs.List.{cons_option, filter, filter_map, find}
use Rattle.std.specs.Option.{option_map}
use Rattle.mpt_trace.specs.declared.item.Back.{Back}
use Rattle.mpt_trace.specs.declared.item.Back.TheVariants as back
use Rattle.mpt_trace.specs.declared.item.Out.{Out}
use Rattle.mpt_trace.specs.declared.item.Out.TheVariants as out
use Rattle.mpt_rules.specs.declared.task.Task.{Task}
use Rattle.mpt_rules.specs.Fabric.Calls as fab
use Rattle.mpt_rules.specs.Fabric.Disks.{all_plugged, disk_of, places_from, plugged_news, plugged_there, stands_at, unplugged_news, with_disk}
use Rattle.mpt_rules.specs.Fabric.Parts.{Fabric, FabricDisk, Place}
use Rattle.mpt_rules.specs.Fabric.Tasks as tasks
use Rattle.mpt_rules.specs.World.Counts.{one_if}
use Rattle.mpt_rules.specs.World.FabricCounts.{abort_end_count, is_abort_by, is_abort_end_of, is_reset_by, is_reset_end_of, reset_end_count}
use Rattle.mpt_rules.proofs.FabricCounts.{abort_end_count-append, abort_end_count-cons, abort_end_count-nil, reset_end_count-append, reset_end_count-cons, reset_end_count-nil}

module _ (q : ℕ) where
  -- what is told of the ends of an abort or a target reset
  abbrev pub ends : List Back → ℕ
  ends xs = abort_end_count q xs + reset_end_count q xs

  abbrev pub one_end : Back → ℕ
  one_end x = one_if (is_abort_end_of q x) + one_if (is_reset_end_of q x)

  pub first_end : (x : Back) (xs : List Back) → ends (x ∷ xs) ≡ one_end x + ends xs
  first_end x xs = let a = abort_end_count-cons q x xs in let b = reset_end_count-cons q x xs in omega (arith, a, b)

  pub no_end : ends [] ≡ 0
  no_end = let a = abort_end_count-nil q in let b = reset_end_count-nil q in omega (arith, a, b)

  pub both_ends : (xs ys : List Back) → ends (xs ++ ys) ≡ ends xs + ends ys
  both_ends xs ys = let a = abort_end_count-append q xs ys in let b = reset_end_count-append q xs ys in omega (arith, a, b)

  pub last_end : (xs : List Back) (x : Back) → ends (xs ++ x ∷ []) ≡ ends xs + one_end x
  last_end xs x = let a = both_ends xs (x ∷ []) in let b = first_end x [] in let c = no_end in omega (arith, a, b, c)

  none_mapped : (g : Task → Back) → ((t : Task) → one_end (g t) ≡ 0) → (ts : List Task) → ends (map g ts) ≡ 0
  none_mapped g e [] = no_end
  none_mapped g e (t ∷ ts) = let a = first_end (g t) (map g ts) in let b = none_mapped g e ts in let c = e t in omega (arith, a, b, c)

  none_named : (f : Fabric) (ps : List Place) → ends (filter_map (plugged_there f) ps) ≡ 0
  none_named f [] = no_end
  none_named f (p ∷ ps) = by_disk (find (stands_at p.expander p.phy) f.disks) (none_named f ps)
    where
      by_disk : (o : Option FabricDisk) → ends (filter_map (plugged_there f) ps) ≡ 0 → ends (cons_option (option_map (λ disk. plugged_news disk p) o) (filter_map (plugged_there f) ps)) ≡ 0
      by_disk None h = h
      by_disk (Some d) h = let a = first_end (plugged_news d p) (filter_map (plugged_there f) ps) in omega (arith, a, h)

  fewer_left : (test : Back → Bool) (xs : List Back) → ends (filter test xs) ≤ ends xs
  fewer_left test [] = omega arith
  fewer_left test (x ∷ xs) = by_test (test x) (fewer_left test xs)
    where
      by_test : (b : Bool) → ends (filter test xs) ≤ ends xs → ends (if b then x ∷ filter test xs else filter test xs) ≤ ends (x ∷ xs)
      by_test true l = let a = first_end x xs in let c = first_end x (filter test xs) in omega (arith, a, c, l)
      by_test false l = let a = first_end x xs in omega (arith, a, l)

  -- ---- the fabric's calls

  taken : (f : Fabric) (x : Out) → ends (fab.takes_out f x).out ≤ ends f.out + (one_if (is_abort_by q x) + one_if (is_reset_by q x))
  taken f (out.Task tag address command) = by_test (tasks.may_queue f tag address)
    where
      by_test : (b : Bool) → ends (tasks.with_task_taken_if b f tag address command).out ≤ ends f.out + 0
      by_test true = omega arith
      by_test false = let a = last_end f.out (back.Gone tag) in omega (arith, a)
  taken f (out.Abort smid task) = by_test (tasks.is_queued f task)
    where
      by_test : (b : Bool) → ends (tasks.after_abort_if b f smid task).out ≤ ends f.out + (one_if (smid == q) + 0)
      by_test true = let a = both_ends f.out (back.Terminated task ∷ back.Aborted smid true ∷ []) in let b = first_end (back.Terminated task) (back.Aborted smid true ∷ []) in let c = first_end (back.Aborted smid true) [] in let d = no_end in omega (arith, a, b, c, d)
      by_test false = let a = last_end f.out (back.Aborted smid false) in omega (arith, a)
  taken f (out.TargetReset smid address) =
      let mine = tasks.tasks_for address f.tasks in let x = back.Cleared smid (length mine) in
      let a = both_ends f.out (map tasks.terminated mine ++ x ∷ []) in let b = both_ends (map tasks.terminated mine) (x ∷ []) in
      let c = none_mapped tasks.terminated (λ t. refl) mine in let d = first_end x [] in let e = no_end in
      omega (arith, a, b, c, d, e)
  taken f out.Discover =
      let ps = all_plugged f in
      let a = both_ends f.out (ps ++ back.Discovered ∷ []) in let b = both_ends ps (back.Discovered ∷ []) in let c = none_named f (places_from 0 f.phys) in let d = first_end back.Discovered [] in let e = no_end in
      omega (arith, a, b, c, d, e)
  taken f (out.Link generation) = let a = last_end (filter fab.is_calm f.out) (back.Linked generation) in let b = fewer_left fab.is_calm f.out in omega (arith, a, b)
  taken f out.Stop = omega arith

  pub takes_ends : (f : Fabric) (x : Out) → ends (fab.takes_out f x).out ≤ ends f.out + (one_if (is_abort_by q x) + one_if (is_reset_by q x))
  takes_ends f x = taken f x

  pub runs_ends : (f : Fabric) (tag : ℕ) → ends (fab.runs f tag).part.out ≤ ends f.out
  runs_ends f tag = by_task (find (tasks.has_tag tag) f.tasks)
    where
      by_task : (o : Option Task) → ends (tasks.runs_task f o).part.out ≤ ends f.out
      by_task None = omega arith
      by_task (Some t) = let a = last_end f.out (back.Result t.tag (tasks.performed_at f t.address t.command).result) in omega (arith, a)

  noticed : (f g : Fabric) (x : Back) (b : Bool) → ends g.out ≤ ends f.out → ends (fab.with_notice b x g).out ≤ ends f.out
  noticed f g x true l = l
  noticed f g x false l = l

  pub plugs_ends : (f : Fabric) (address expander phy : ℕ) → ends (fab.fabric_plugs f address expander phy).part.out ≤ ends f.out
  plugs_ends f address expander phy = by_disk (disk_of f address)
    where
      by_cause : (o : Option fab.PlugRefusal) (d : FabricDisk) (p : Place) → ends (fab.plugs_unless o f d p).part.out ≤ ends f.out
      by_cause (Some cause) d p = omega arith
      by_cause None d p = noticed f (record f { disks = with_disk d.address (fab.plugged_once_more p) f.disks }) (plugged_news (fab.plugged_once_more p d) p) f.on (omega arith)

      by_disk : (o : Option FabricDisk) → ends (fab.plugs_disk o f expander phy).part.out ≤ ends f.out
      by_disk None = omega arith
      by_disk (Some d) = by_cause (fab.plug_refusal f d expander phy) d (record { expander = expander; phy = phy })

  pub unplugs_ends : (f : Fabric) (address : ℕ) → ends (fab.fabric_unplugs f address).part.out ≤ ends f.out
  unplugs_ends f address = by_disk (disk_of f address)
    where
      by_place : (o : Option Place) (d : FabricDisk) → ends (fab.fabric_unplugs_from o f d).part.out ≤ ends f.out
      by_place None d = omega arith
      by_place (Some p) d =
          let news = map tasks.gone (tasks.tasks_for d.address f.tasks) in
          noticed f (tasks.told_also (record f { disks = with_disk d.address (λ (old : FabricDisk). record old { at = None }) f.disks; tasks = tasks.tasks_for_others d.address f.tasks }) news) (unplugged_news d p) f.on
          (let a = both_ends f.out news in let b = none_mapped tasks.gone (λ t. refl) (tasks.tasks_for d.address f.tasks) in omega (arith, a, b))

      by_disk : (o : Option FabricDisk) → ends (fab.unplugs_disk o f).part.out ≤ ends f.out
      by_disk None = omega arith
      by_disk (Some d) = by_place d.at d
