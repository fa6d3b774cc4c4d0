-- Every case keeps that nothing that uses a handle stands behind its remove device.
use Rattle.std.proofs.Common.{◌≡◌, ℕ, ◌≤◌, List, [], ◌∷◌, ◌++◌, ap, sym, ◌∙◌, subst, append_assoc}
use Rattle.removal.specs.Handles.{IsHandle}
use Rattle.mpt_trace.specs.declared.item.Down.{Down}
use Rattle.mpt_trace.specs.declared.item.Down.TheVariants as down
use Rattle.mpt_rules.specs.declared.post.Post.{Post}
use Rattle.mpt_rules.specs.Host.Returns.{after_sent}
use Rattle.mpt_rules.specs.Ioc.Takes.{takes_down}
use Rattle.mpt_rules.specs.Law.{NothingIsStrange}
use Rattle.mpt_rules.specs.World.Cases.{Case, entries, happens}
use Rattle.mpt_rules.specs.World.Counts.{how_many}
use Rattle.mpt_rules.specs.World.Lines.{down_line, normal_line, normal_posts}
use Rattle.mpt_rules.specs.World.State.{World}
use Rattle.law_facts.specs.Facts.{Facts}
use Rattle.law_facts.specs.History.{History, history_after}
use Rattle.law_facts.specs.Words.{is_calm_said, is_off, is_post, slot}
use Rattle.law_moves.proofs.Cases.{Owes, kept}
use Rattle.law_removals.proofs.Behind.{After}
use Rattle.law_removals.proofs.HostBehaves.{Behaves, Fewer, More, looked, stopped, taken, told}
use Rattle.law_removals.proofs.IocStays.{back_queues, work_queues}
use Rattle.law_removals.specs.Removing.{LastInLine}
use Rattle.law_removals.proofs.Lasts.{fewer_posts, kept_host, more_posts}
use Rattle.law_removals.proofs.Lines.{Drops, Part, down_taken, part_append, part_itself, shrunk}

module _ (w : World) (h : History) (f : Facts w h) (plain : NothingIsStrange w) (g : ℕ) (i : IsHandle g) where
  abbrev Keeps : World → Type 0
  Keeps v = (k : History) → After w h v k → LastInLine v g

  -- the host stays
  by_part : (ns : List Post) → Part ns (normal_line w) → (how_many (Rattle.law_facts.specs.Handles.is_remove_post w g) ns ≤ 1) × (how_many (Rattle.law_facts.specs.Handles.uses_handle w g) (Rattle.law_facts.specs.Words.behind (Rattle.law_facts.specs.Handles.is_remove_post w g) ns) ≡ 0)
  by_part ns p = kept_host w h f g i ns p

  same : Keeps w
  same k a = let z = by_part (normal_line w) (part_itself (normal_line w)) in record { one = z.0; last = z.1 }

  -- the host's cases
  behaves : (v : World) → Behaves w v → Keeps v
  behaves v (Fewer p r) k a = fewer_posts w h f g i v k a p
  behaves v (More n hand news above e r z y) k a = more_posts w h f g i v k a n hand news e z

  -- ---- a put

  put_line : (x : Down) (rest : List Down) → w.host.out ≡ x ∷ rest → w.ioc.normal ++ normal_posts ((w.down ++ x ∷ []) ++ rest) ≡ normal_line w
  put_line x rest e = ap (λ xs. w.ioc.normal ++ normal_posts xs) (append_assoc w.down (x ∷ []) rest ∙ ap (λ xs. w.down ++ xs) (sym e))

  put_part : (x : Down) (rest : List Down) → w.host.out ≡ x ∷ rest → Part (w.ioc.normal ++ normal_posts ((w.down ++ x ∷ []) ++ rest)) (normal_line w)
  put_part x rest e = subst (λ ps. Part ps (normal_line w)) (sym (put_line x rest e)) (part_itself (normal_line w))

  sent : (x : Down) (rest : List Down) → w.host.out ≡ x ∷ rest → Keeps (record w { host = after_sent w.host x rest; down = w.down ++ x ∷ [] })
  sent (down.Post d fr p) rest e k a = let z = by_part _ (put_part (down.Post d fr p) rest e) in record { one = z.0; last = z.1 }
  sent (down.Write reg value) rest e k a = let z = by_part _ (put_part (down.Write reg value) rest e) in record { one = z.0; last = z.1 }
  sent (down.Read reg) rest e k a = let z = by_part _ (put_part (down.Read reg) rest e) in record { one = z.0; last = z.1 }
  sent (down.Return address j) rest e k a = let z = by_part _ (put_part (down.Return address j) rest e) in record { one = z.0; last = z.1 }
  sent down.Stop rest e k a = let z = by_part _ (put_part down.Stop rest e) in record { one = z.0; last = z.1 }

  -- ---- the controller

  queue_part : (ns : List Post) → Part ns w.ioc.normal → Part (ns ++ normal_posts (down_line w)) (normal_line w)
  queue_part ns p = part_append ns w.ioc.normal (normal_posts (down_line w)) (normal_posts (down_line w)) p (part_itself (normal_posts (down_line w)))

  take_part : (x : Down) (rest : List Down) → w.down ≡ x ∷ rest → Part ((takes_down w.ioc x).part.normal ++ normal_posts (rest ++ w.host.out)) (normal_line w)
  take_part x rest e = subst (λ xs. Part ((takes_down w.ioc x).part.normal ++ normal_posts (rest ++ w.host.out)) (w.ioc.normal ++ normal_posts (xs ++ w.host.out))) (sym e) (down_taken w.ioc (rest ++ w.host.out) x).normal

  owed : Owes Keeps w
  owed =
      record {
        host_puts = λ x rest e. sent x rest e;
        host_takes = λ queue x rest e s. behaves _ (taken w h f plain queue x rest e);
        host_told = λ j n. behaves _ (told w h f plain j);
        host_looks = λ e. behaves _ (looked w h f plain);
        host_stops = λ e. behaves _ (stopped w h f plain);
        ioc_takes = λ x rest e k a. (let z = by_part _ (take_part x rest e) in record { one = z.0; last = z.1 });
        ioc_high = λ p rest e k a. (let z = by_part _ (queue_part _ (shrunk w.ioc.normal _ (work_queues (record w.ioc { high = rest }) p).normal)) in record { one = z.0; last = z.1 });
        ioc_normal = λ p rest e k a. (let z = by_part _ (queue_part _ (subst (Part _) (sym e) (Drops p _ rest (shrunk rest _ (work_queues (record w.ioc { normal = rest }) p).normal)))) in record { one = z.0; last = z.1 });
        ioc_puts_out = λ x rest e k a. (let z = same k in let y = by_part (normal_line w) (part_itself (normal_line w)) in record { one = y.0; last = y.1 });
        ioc_takes_back = λ x rest e k a. (let z = by_part _ (queue_part _ (subst (λ ns. Part ns w.ioc.normal) (sym (back_queues w.ioc x).normal) (part_itself w.ioc.normal))) in record { one = z.0; last = z.1 });
        ioc_puts = λ queue y rest z e u k a. (let x = by_part (normal_line w) (part_itself (normal_line w)) in record { one = x.0; last = x.1 });
        fabric_takes = λ x rest e k a. (let y = by_part (normal_line w) (part_itself (normal_line w)) in record { one = y.0; last = y.1 });
        fabric_says = λ x rest e k a. (let y = by_part (normal_line w) (part_itself (normal_line w)) in record { one = y.0; last = y.1 });
        fabric_puts = λ x rest e k a. (let y = by_part (normal_line w) (part_itself (normal_line w)) in record { one = y.0; last = y.1 });
        fabric_runs = λ tag address e k a. (let y = by_part (normal_line w) (part_itself (normal_line w)) in record { one = y.0; last = y.1 });
        plugs = λ address expander phy k a. (let y = by_part (normal_line w) (part_itself (normal_line w)) in record { one = y.0; last = y.1 });
        unplugs = λ address k a. (let y = by_part (normal_line w) (part_itself (normal_line w)) in record { one = y.0; last = y.1 });
        calms = λ k a. (let y = by_part (normal_line w) (part_itself (normal_line w)) in record { one = y.0; last = y.1 });
      }

-- LastOfHandle.one and .last
pub lasts_kept : (w : World) (h : History) (c : Case) → Facts w h → NothingIsStrange w → After w h (happens w c) (history_after h (entries w c)) → (g : ℕ) → IsHandle g → LastInLine (happens w c) g
lasts_kept w h c f plain a g i = kept (Keeps w h f plain g i) w plain (owed w h f plain g i) (same w h f plain g i) c (history_after h (entries w c)) a
