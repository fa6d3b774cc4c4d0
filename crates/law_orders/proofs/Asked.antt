-- The fabric's own cases: it takes an order, tells a notice or that it is calm, puts an item, performs a task, and disks come and go.
use Rattle.std.proofs.Common.{◌≡◌, ℕ, ◌≤◌, ◌&&◌, not, Bool, true, false, if◌then◌else◌, List, [], ◌∷◌, ◌++◌, Option, Some, None, refl, ap, sym, ◌∙◌, arith, append_assoc}
use Rattle.std.specs.List.{filter, find}
use Rattle.mpt_trace.specs.declared.item.Back.{Back}
use Rattle.mpt_trace.specs.declared.item.Back.TheVariants as back
use Rattle.mpt_trace.specs.declared.item.Out.{Out}
use Rattle.mpt_trace.specs.declared.item.Out.TheVariants as out
use Rattle.mpt_rules.specs.Fabric.Calls as fab
use Rattle.mpt_rules.specs.Fabric.Disks.{all_plugged, disk_of, places_from, plugged_news, plugged_there, stands_at}
use Rattle.mpt_rules.specs.Fabric.Parts.{Fabric, FabricDisk, Place}
use Rattle.mpt_rules.specs.Fabric.Tasks.{has_tag}
use Rattle.mpt_rules.specs.Ioc.Parts.{state_of}
use Rattle.mpt_rules.specs.Ioc.Tables.{is_reset}
use Rattle.mpt_rules.specs.Law.{NothingIsStrange}
use Rattle.mpt_rules.specs.World.Counts.{one_if}
use Rattle.mpt_rules.specs.World.FabricCounts as fc
use Rattle.mpt_rules.specs.World.FabricCounts.{abort_end_count, gone_count, link_count, linked_count, reset_end_count, result_count, sent_abort_count, sent_reset_count, sent_task_count, task_count, terminated_count}
use Rattle.mpt_rules.specs.World.Lines.{back_line}
use Rattle.mpt_rules.specs.World.State.{World}
use Rattle.mpt_rules.proofs.FabricCounts as fcp
use Rattle.law_facts.specs.Clock.{in_begun}
use Rattle.law_facts.specs.Facts.{Facts}
use Rattle.law_facts.specs.History.{History}
use Rattle.law_facts.specs.Notices.{is_notice}
use Rattle.law_facts.specs.Words.{behind, is_stop, others}
use Rattle.law_frames.proofs.FabricTokens as fabric_tokens
use Rattle.law_frames.proofs.FabricTokens.{SameTokens}
use Rattle.law_moves.proofs.Counted.{behind-cons, others-append, others-cons, others-nil}
use Rattle.law_orders.proofs.Words.{calm_only, NoWords, clash, ended_on, is_wordless, one_wordless, plugged_wordless, state_reset, stopped, wordless}
use Rattle.law_orders.proofs.Orders.{Fewer, Less, Stands}
use Rattle.law_orders.proofs.Orders as at_hand

notice_wordless : (x : Back) → is_notice x ≡ true → is_wordless x ≡ true
notice_wordless (back.Plugged address plug expander phy) e = refl
notice_wordless (back.Unplugged address plug expander phy) e = refl
notice_wordless (back.Result tag r) e = absurd (cc)
notice_wordless (back.Gone tag) e = absurd (cc)
notice_wordless (back.Terminated tag) e = absurd (cc)
notice_wordless (back.Aborted q found) e = absurd (cc)
notice_wordless (back.Cleared q count) e = absurd (cc)
notice_wordless back.Discovered e = absurd (cc)
notice_wordless (back.Linked generation) e = absurd (cc)
notice_wordless back.Calm e = absurd (cc)

-- calm words alone
calm : (xs : List Back) → others fab.is_calm (filter fab.is_calm xs) ≡ 0
calm [] = others-nil fab.is_calm
calm (x ∷ xs) = by_test (fab.is_calm x) refl (calm xs)
  where
    by_test : (b : Bool) → fab.is_calm x ≡ b → others fab.is_calm (filter fab.is_calm xs) ≡ 0 → others fab.is_calm (if b then x ∷ filter fab.is_calm xs else filter fab.is_calm xs) ≡ 0
    by_test true t z = let a = others-cons fab.is_calm x (filter fab.is_calm xs) in let o = ap (λ b. one_if (not b)) t in omega (arith, a, o, z)
    by_test false t z = z

-- news behind the line back
record More (s : ℕ) (lane own news : List Back) : Type 0 where
  ends : ended_on s (lane ++ (own ++ news)) ≡ ended_on s (lane ++ own)
  aborts : abort_end_count s (lane ++ (own ++ news)) ≡ abort_end_count s (lane ++ own)
  resets : reset_end_count s (lane ++ (own ++ news)) ≡ reset_end_count s (lane ++ own)

more : (s : ℕ) (lane own news : List Back) → NoWords s news → More s lane own news
more s lane own news n =
    let n1 = n.ends in let n2 = n.aborts in let n3 = n.resets in
    let a1 = fcp.result_count-append s lane (own ++ news) in let a2 = fcp.result_count-append s own news in let a3 = fcp.result_count-append s lane own in
    let b1 = fcp.gone_count-append s lane (own ++ news) in let b2 = fcp.gone_count-append s own news in let b3 = fcp.gone_count-append s lane own in
    let c1 = fcp.terminated_count-append s lane (own ++ news) in let c2 = fcp.terminated_count-append s own news in let c3 = fcp.terminated_count-append s lane own in
    let d1 = fcp.abort_end_count-append s lane (own ++ news) in let d2 = fcp.abort_end_count-append s own news in let d3 = fcp.abort_end_count-append s lane own in
    let e1 = fcp.reset_end_count-append s lane (own ++ news) in let e2 = fcp.reset_end_count-append s own news in let e3 = fcp.reset_end_count-append s lane own in
    record { ends = omega (arith, n1, a1, a2, a3, b1, b2, b3, c1, c2, c3); aborts = omega (arith, n2, d1, d2, d3); resets = omega (arith, n3, e1, e2, e3) }

module _ (s : ℕ) (least : 1 ≤ s) (most : s ≤ 280) (w : World) (h : History) (f : Facts w h) (plain : NothingIsStrange w) where
  -- the fabric alone, and the line out
  by_fabric : (g : Fabric) (lane : List Out) → SameTokens s w (record w { fabric = g; out = lane }) → Stands s least most (record w { fabric = g; out = lane })
  by_fabric g lane t = at_hand.same s least most w h f plain (record w { fabric = g; out = lane }) t refl refl (λ r z. record { nowhere = z; slot_is = refl })

  -- without the front of the line out, where it has no order
  record Orderless (x : Out) : Type 0 where
    tasks : fc.is_task_of s x ≡ false
    aborts : fc.is_abort_by s x ≡ false
    resets : fc.is_reset_by s x ≡ false

  -- wordless news
  newly : (g : Fabric) (news : List Back) → g.tasks ≡ w.fabric.tasks → g.out ≡ w.fabric.out ++ news → NoWords s news → SameTokens s w (record w { fabric = g })
  newly g news t o n =
      let m = more s w.back w.fabric.out news n in
      let m1 = m.ends in let m2 = m.aborts in let m3 = m.resets in
      let t1 = ap (task_count s) t in
      let e = ap (λ xs. ended_on s (w.back ++ xs)) o in
      let a = ap (λ xs. abort_end_count s (w.back ++ xs)) o in
      let r = ap (λ xs. reset_end_count s (w.back ++ xs)) o in
      record { commands = omega (arith, m1, t1, e); aborts = omega (arith, m2, a); resets = omega (arith, m3, r) }

  passed : (g : Fabric) (x : Out) (rest : List Out) → w.out ≡ x ∷ rest → Orderless x → SameTokens s w (record w { fabric = g }) → SameTokens s w (record w { fabric = g; out = rest })
  passed g x rest e n t =
      let f1 = fcp.sent_task_count-cons s x (rest ++ w.ioc.out) in let f2 = fcp.sent_abort_count-cons s x (rest ++ w.ioc.out) in let f3 = fcp.sent_reset_count-cons s x (rest ++ w.ioc.out) in
      let g1 = ap (λ xs. sent_task_count s (xs ++ w.ioc.out)) e in let g2 = ap (λ xs. sent_abort_count s (xs ++ w.ioc.out)) e in let g3 = ap (λ xs. sent_reset_count s (xs ++ w.ioc.out)) e in
      let n1 = ap one_if n.tasks in let n2 = ap one_if n.aborts in let n3 = ap one_if n.resets in
      let t1 = t.commands in let t2 = t.aborts in let t3 = t.resets in
      record { commands = omega (arith, f1, g1, n1, t1); aborts = omega (arith, f2, g2, n2, t2); resets = omega (arith, f3, g3, n3, t3) }

  few : task_count s w.fabric.tasks ≤ 1
  few = at_hand.few_tasks s least most w h f plain

  -- a link: all that was there is dropped, but what is on its way back
  linked : (g : ℕ) (rest : List Out) → w.out ≡ out.Link g ∷ rest → Stands s least most (record w { fabric = fab.takes_out w.fabric (out.Link g); out = rest })
  linked g rest e =
      at_hand.fewer s least most w h f plain v fewer_now (state_reset (state_of w.ioc) resets).0 (λ r. clash (is_reset (state_of w.ioc)) resets r)
      (λ r p. at_hand.older s least most w h f plain v fewer_now r (λ z. record { nowhere = z; slot_is = refl }) p)
    where
      v : World
      v = record w { fabric = fab.takes_out w.fabric (out.Link g); out = rest }

      resets : is_reset (state_of w.ioc) ≡ true
      resets =
          let a = f.clock.one_link.one in
          let b = ap (λ xs. link_count (xs ++ w.ioc.out)) e in
          let c = fcp.link_count-cons (out.Link g) (rest ++ w.ioc.out) in
          in_it (in_begun w) (is_reset (state_of w.ioc)) (omega (arith, a, b, c))
        where
          in_it : (a b : Bool) → 1 ≤ one_if (a && b) → b ≡ true
          in_it true true l = refl
          in_it true false l = absurd (omega (arith, l))
          in_it false b l = absurd (omega (arith, l))

      line : others is_stop (rest ++ w.ioc.out) ≡ 0
      line =
          let a = f.clock.one_link.behind_link in
          let b = ap (λ xs. others is_stop (behind fc.is_link (xs ++ w.ioc.out))) e in
          let c = ap (others is_stop) (behind-cons fc.is_link (out.Link g) (rest ++ w.ioc.out)) in
          omega (arith, a, b, c)

      fewer_now : Fewer s least most w h f plain v
      fewer_now =
          let n = stopped s (rest ++ w.ioc.out) line in
          let n1 = n.tasks in let n2 = n.aborts in let n3 = n.resets in
          let xs = filter fab.is_calm w.fabric.out in
          let q = calm_only s xs (calm w.fabric.out) in
          let q1 = q.ends in let q2 = q.aborts in let q3 = q.resets in
          let m = more s w.back xs (back.Linked g ∷ []) (one_wordless s (back.Linked g) refl) in
          let m1 = m.ends in let m2 = m.aborts in let m3 = m.resets in
          let a1 = fcp.result_count-append s w.back xs in let a2 = fcp.result_count-append s w.back w.fabric.out in
          let b1 = fcp.gone_count-append s w.back xs in let b2 = fcp.gone_count-append s w.back w.fabric.out in
          let c1 = fcp.terminated_count-append s w.back xs in let c2 = fcp.terminated_count-append s w.back w.fabric.out in
          let d1 = fcp.abort_end_count-append s w.back xs in let d2 = fcp.abort_end_count-append s w.back w.fabric.out in
          let e1 = fcp.reset_end_count-append s w.back xs in let e2 = fcp.reset_end_count-append s w.back w.fabric.out in
          let t0 = fcp.task_count-nil s in
          record { commands = omega (arith, n1, q1, m1, a1, a2, b1, b2, c1, c2, t0); aborts = omega (arith, n2, q2, m2, d1, d2); resets = omega (arith, n3, q3, m3, e1, e2) }

  pub fabric_takes : (x : Out) (rest : List Out) → w.out ≡ x ∷ rest → Stands s least most (record w { fabric = fab.takes_out w.fabric x; out = rest })
  fabric_takes (out.Task tag address command) rest e = by_fabric (fab.takes_out w.fabric (out.Task tag address command)) rest (fabric_tokens.takes_task s w few tag address command rest e)
  fabric_takes (out.Abort smid tag) rest e = by_fabric (fab.takes_out w.fabric (out.Abort smid tag)) rest (fabric_tokens.takes_abort s w few smid tag rest e)
  fabric_takes (out.TargetReset smid address) rest e = by_fabric (fab.takes_out w.fabric (out.TargetReset smid address)) rest (fabric_tokens.takes_reset s w few smid address rest e)
  fabric_takes out.Discover rest e =
      let g : Fabric = fab.after_discover w.fabric in
      let n = wordless s (all_plugged w.fabric ++ back.Discovered ∷ [])
      (let a = others-append is_wordless (all_plugged w.fabric) (back.Discovered ∷ []) in
      let b = plugged_wordless w.fabric (places_from 0 w.fabric.phys) in
      let c = others-cons is_wordless back.Discovered [] in
      let d = others-nil is_wordless in
      omega (arith, a, b, c, d)) in
      by_fabric g rest (passed g out.Discover rest e (record { tasks = refl; aborts = refl; resets = refl }) (newly g (all_plugged w.fabric ++ back.Discovered ∷ []) refl refl n))
  fabric_takes (out.Link g) rest e = linked g rest e
  fabric_takes out.Stop rest e = by_fabric w.fabric rest (passed w.fabric out.Stop rest e (record { tasks = refl; aborts = refl; resets = refl }) (record { commands = refl; aborts = refl; resets = refl }))

  pub fabric_says : (x : Back) (rest : List Back) → w.fabric.notices ≡ x ∷ rest → Stands s least most (record w { fabric = record w.fabric { notices = rest; out = w.fabric.out ++ x ∷ [] } })
  fabric_says x rest e =
      let g : Fabric = record w.fabric { notices = rest; out = w.fabric.out ++ x ∷ [] } in
      by_fabric g w.out (newly g (x ∷ []) refl refl (one_wordless s x (notice_wordless x is)))
    where
      is : is_notice x ≡ true
      is =
          let a = f.notices.fit.kinds in
          let b = ap (others is_notice) e in
          let c = others-cons is_notice x rest in
          by_one (is_notice x) (omega (arith, a, b, c))
        where
          by_one : (b : Bool) → one_if (not b) ≡ 0 → b ≡ true
          by_one true z = refl
          by_one false z = absurd (omega (arith, z))

  pub fabric_puts : (x : Back) (rest : List Back) → w.fabric.out ≡ x ∷ rest → Stands s least most (record w { fabric = record w.fabric { out = rest }; back = w.back ++ x ∷ [] })
  fabric_puts x rest e =
      let v : World = record w { fabric = record w.fabric { out = rest }; back = w.back ++ x ∷ [] } in
      let line : back_line v ≡ back_line w = append_assoc w.back (x ∷ []) rest ∙ ap (λ o. w.back ++ o) (sym e) in
      let a = ap (ended_on s) line in let b = ap (abort_end_count s) line in let c = ap (reset_end_count s) line in
      at_hand.same s least most w h f plain v (record { commands = omega (arith, a); aborts = omega (arith, b); resets = omega (arith, c) }) refl refl (λ r z. record { nowhere = z; slot_is = refl })

  pub fabric_runs : (tag : ℕ) → Stands s least most (record w { fabric = (fab.runs w.fabric tag).part })
  fabric_runs tag = by_fabric (fab.runs w.fabric tag).part w.out (fabric_tokens.runs s w few tag (find (has_tag tag) w.fabric.tasks) refl)

  still : Stands s least most w
  still = at_hand.here s least most w h f plain

  pub plugs : (address expander phy : ℕ) → Stands s least most (record w { fabric = (fab.fabric_plugs w.fabric address expander phy).part })
  plugs address expander phy = by_disk (disk_of w.fabric address)
    where
      by_refusal : (disk : FabricDisk) (o : Option fab.PlugRefusal) → Stands s least most (record w { fabric = (fab.plugs_unless o w.fabric disk (record { expander = expander; phy = phy })).part })
      by_refusal disk (Some cause) = still
      by_refusal disk None = by_on w.fabric.on
        where
          by_on : (b : Bool) → Stands s least most (record w { fabric = fab.with_notice b (plugged_news (fab.plugged_once_more (record { expander = expander; phy = phy }) disk) (record { expander = expander; phy = phy })) (record w.fabric { disks = Rattle.mpt_rules.specs.Fabric.Disks.with_disk disk.address (fab.plugged_once_more (record { expander = expander; phy = phy })) w.fabric.disks }) })
          by_on true = by_fabric _ w.out (record { commands = refl; aborts = refl; resets = refl })
          by_on false = by_fabric _ w.out (record { commands = refl; aborts = refl; resets = refl })

      by_disk : (o : Option FabricDisk) → Stands s least most (record w { fabric = (fab.plugs_disk o w.fabric expander phy).part })
      by_disk None = still
      by_disk (Some disk) = by_refusal disk (fab.plug_refusal w.fabric disk expander phy)

  pub unplugs : (address : ℕ) → Stands s least most (record w { fabric = (fab.fabric_unplugs w.fabric address).part })
  unplugs address = by_disk (disk_of w.fabric address)
    where
      by_place : (disk : FabricDisk) (o : Option Place) → Stands s least most (record w { fabric = (fab.fabric_unplugs_from o w.fabric disk).part })
      by_place disk None = still
      by_place disk (Some place) = by_fabric (fab.after_unplug w.fabric disk place) w.out (fabric_tokens.lost s w few disk place w.fabric.on (Rattle.mpt_rules.specs.Fabric.Disks.unplugged_news disk place))

      by_disk : (o : Option FabricDisk) → Stands s least most (record w { fabric = (fab.unplugs_disk o w.fabric).part })
      by_disk None = still
      by_disk (Some disk) = by_place disk disk.at

  pub calms : Stands s least most (record w { fabric = fab.calms w.fabric })
  calms = by_fabric (fab.calms w.fabric) w.out (newly (fab.calms w.fabric) (back.Calm ∷ []) refl refl (one_wordless s back.Calm refl))
