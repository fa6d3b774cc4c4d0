-- No target reset of a handle is on its way where that of its removal waits at the controller.
use Rattle.std.proofs.Common.{◌≡◌, ℕ, zero, suc, ◌+◌, ◌≤◌, ◌==◌, ◌&&◌, ◌||◌, Bool, true, false, List, [], ◌∷◌, ◌++◌, refl, ap, sym, ◌∙◌, subst, arith}
use Rattle.std.specs.Prelude.{All}
use Rattle.std.specs.List.{list_any}
use Rattle.std.proofs.lemmas.List.Elements.{All-head}
use Rattle.std.proofs.lemmas.Bool.{eqb-true}
use Rattle.smid_pool.specs.Pool.{Slot, Free, Open, Parked}
use Rattle.removal.specs.Handles.{IsHandle}
use Rattle.removal.specs.declared.phase.Phase.TheVariants as phase
use Rattle.mpi_doorbell.specs.declared.state.IocState.{IocState}
use Rattle.mpi_doorbell.specs.declared.state.IocState.TheVariants as ioc_state
use Rattle.mpt_wire.specs.Messages.Fields.{dev_handle_in, smid_in}
use Rattle.mpt_trace.specs.declared.item.Down.{Down}
use Rattle.mpt_trace.specs.declared.item.Down.TheVariants as down
use Rattle.mpt_rules.specs.declared.at_fabric.HeldReset.{HeldReset as WaitingReset}
use Rattle.mpt_rules.specs.declared.post.Post.{Post}
use Rattle.mpt_rules.specs.declared.request.Request.{Request}
use Rattle.mpt_rules.specs.declared.request.Request.TheVariants as request
use Rattle.mpt_rules.specs.Host.Parts.{Host}
use Rattle.mpt_rules.specs.Host.Returns.{after_sent}
use Rattle.mpt_rules.specs.Ioc.Back as news
use Rattle.mpt_rules.specs.Ioc.Commands.{is_held_for}
use Rattle.mpt_rules.specs.Ioc.Parts.{Ioc, state_of}
use Rattle.mpt_rules.specs.Ioc.Steps as step
use Rattle.mpt_rules.specs.Ioc.Tables.{is_held_as, is_operational, is_ready}
use Rattle.mpt_rules.specs.Ioc.Takes.{takes_down}
use Rattle.mpt_rules.specs.Law.{NothingIsStrange}
use Rattle.mpt_rules.specs.World.Cases.{Case, entries, happens}
use Rattle.mpt_rules.specs.World.Counts.{how_many, one_if, queued_count}
use Rattle.mpt_rules.specs.World.Lines.{down_line, high_line, high_posts, is_high}
use Rattle.mpt_rules.specs.World.State.{World}
use Rattle.mpt_rules.proofs.Counts.{how_many-append, queued_count-append}
use Rattle.law_facts.specs.Clock.{in_normal, is_linked_up, is_live}
use Rattle.law_facts.specs.Facts.{Facts}
use Rattle.law_facts.specs.Handles.{RecordHasPhase, is_leave_post, is_target_reset_post, leaves, phase_of}
use Rattle.law_facts.specs.History.{History, history_after}
use Rattle.law_facts.specs.Messages.{HeldIs, HeldIsOf, PostIs, PostIsRecord}
use Rattle.law_facts.specs.Words.{slot}
use Rattle.law_flights.proofs.HostHolds.{in_table}
use Rattle.law_messages.proofs.Agreeing.{all_last, all_same}
use Rattle.law_moves.proofs.Cases.{Owes, kept}
use Rattle.law_moves.proofs.Counted.{how_many-cons, how_many-nil, later, later-is, later-opened}
use Rattle.law_moves.proofs.IocTakes.{takes}
use Rattle.law_moves.proofs.Phases.{and_false}
use Rattle.law_removals.proofs.Behind.{After, clash, still_open}
use Rattle.law_removals.proofs.Grown.{high_flags}
use Rattle.law_removals.proofs.HostBehaves.{Behaves, Fewer, More, looked, stopped, taken, told}
use Rattle.law_removals.proofs.HostLines.{FreshHigh}
use Rattle.law_removals.proofs.IocStays.{back_queues, work_queues}
use Rattle.law_removals.proofs.Lines.{Drops, Part, down_taken, part_append, part_count, part_itself, same_count}
use Rattle.law_removals.proofs.ResetsBound.{all_and, high_few, line_dead}
use Rattle.law_leaving.specs.Resets.{HeldLast, HeldReset}
use Rattle.law_leaving.proofs.HeldStays.{AsBefore, Joined, Joins, any_counts, back_held, counts_any, fewer_held, own_held, some_held, taken_held, work_held}
use Rattle.law_leaving.proofs.Ordered.{fresh_reset, leave_named, line_records, under_all}

-- it waits for the handle as the removal's
abbrev pub is_removals : Host → ℕ → WaitingReset → Bool
is_removals host handle r = is_held_for handle r && leaves handle (slot host r.smid)

operating : (x : IocState) → is_operational x ≡ true → is_ready x ≡ true → ⊥
operating ioc_state.Reset a b = cc
operating ioc_state.Ready a b = cc
operating ioc_state.Operational a b = cc
operating (ioc_state.Fault code) a b = cc

module _ (w : World) (h : History) (f : Facts w h) (plain : NothingIsStrange w) (g : ℕ) (i : IsHandle g) where
  abbrev Keeps : World → Type 0
  Keeps v = (k : History) → After w h v k → HeldReset v g

  before : is_live w ≡ true → 1 ≤ how_many (is_removals w.host g) w.ioc.held → how_many (is_target_reset_post g) (high_line w) ≡ 0
  before l c = (f.handles.each g i).resets.held l (counts_any (is_removals w.host g) w.ioc.held c)

  -- the line loses posts, and no more waits
  stays : (ns : List Post) (hs : List WaitingReset) → Part ns (high_line w) → how_many (is_removals w.host g) hs ≤ how_many (is_removals w.host g) w.ioc.held → list_any (is_removals w.host g) hs ≡ true → how_many (is_target_reset_post g) ns ≡ 0
  stays ns hs p l e = by_live (is_live w) refl
    where
      by_live : (b : Bool) → is_live w ≡ b → how_many (is_target_reset_post g) ns ≡ 0
      by_live true y = let c = any_counts (is_removals w.host g) hs e in let z = before y (omega (arith, c, l)) in let q = part_count (is_target_reset_post g) ns (high_line w) p in omega (arith, z, q)
      by_live false y =
          let z = ap (how_many (is_target_reset_post g)) (line_dead w h f plain y) in let n = how_many-nil (is_target_reset_post g) in let q = part_count (is_target_reset_post g) ns (high_line w) p in omega (arith, z, n, q)

  itself : list_any (is_removals w.host g) w.ioc.held ≡ true → how_many (is_target_reset_post g) (high_line w) ≡ 0
  itself e = stays (high_line w) w.ioc.held (part_itself (high_line w)) (omega arith) e

  -- ---- the host

  module _ (v : World) (same_ioc : v.ioc ≡ w.ioc) (k : History) (a : After w h v k) (live : is_live v ≡ true) where
    live_too : is_live w ≡ true
    live_too = sym (ap (λ (j : Ioc). is_operational j.door.state) same_ioc) ∙ live

    undead : is_linked_up w ≡ true → ⊥
    undead u = operating (state_of w.ioc) live_too (and_false _ _ u).1

    held_open : (r : WaitingReset) (y : Slot Request) → slot w.host r.smid ≡ y → HeldIsOf r.handle y → 1 ≤ how_many (is_held_as r.smid) w.ioc.held → slot v.host r.smid ≡ slot w.host r.smid
    held_open r (Open (request.TargetReset x)) e z l = still_open w h f v k a undead r.smid (request.TargetReset x) e (omega (arith, l)) ∙ sym e
    held_open r (Open (request.Leave x)) e z l = still_open w h f v k a undead r.smid (request.Leave x) e (omega (arith, l)) ∙ sym e
    held_open r (Open (request.Command n)) e z l = absurd z
    held_open r (Open (request.Abort n t)) e z l = absurd z
    held_open r (Open (request.Page q)) e z l = absurd z
    held_open r (Open (request.Remove q)) e z l = absurd z
    held_open r (Open (request.Ack x c)) e z l = absurd z
    held_open r (Open request.Notification) e z l = absurd z
    held_open r (Open request.PortEnable) e z l = absurd z
    held_open r Free e z l = absurd z
    held_open r Parked e z l = absurd z

    -- what waits has the record that it had
    held_same : All (λ (r : WaitingReset). is_removals v.host g r ≡ is_removals w.host g r) w.ioc.held
    held_same =
        all_same (λ (r : WaitingReset). HeldIs w r × (1 ≤ how_many (is_held_as r.smid) w.ioc.held)) (λ (r : WaitingReset). is_removals v.host g r ≡ is_removals w.host g r)
        (λ r z. ap (λ y. is_held_for g r && leaves g y) (held_open r (slot w.host r.smid) refl z.0 z.1)) w.ioc.held
        (all_and (HeldIs w) (λ (r : WaitingReset). 1 ≤ how_many (is_held_as r.smid) w.ioc.held) w.ioc.held f.messages.held (own_held w.ioc.held))

    count_same : how_many (is_removals v.host g) w.ioc.held ≡ how_many (is_removals w.host g) w.ioc.held
    count_same = same_count (is_removals v.host g) (is_removals w.host g) w.ioc.held held_same

    module _ (some : 1 ≤ how_many (is_removals v.host g) w.ioc.held) where
      none_before : how_many (is_target_reset_post g) (high_line w) ≡ 0
      none_before = let c = count_same in before live_too (omega (arith, some, c))

      -- the removal's that waits
      waiting : (r : WaitingReset) × (is_removals v.host g r ≡ true) × (1 ≤ how_many (is_held_as r.smid) w.ioc.held)
      waiting = some_held (is_removals v.host g) (λ (r : WaitingReset). 1 ≤ how_many (is_held_as r.smid) w.ioc.held) w.ioc.held (own_held w.ioc.held) some

      its_record : slot v.host waiting.0.smid ≡ Open (request.Leave g)
      its_record = leave_named g (slot v.host waiting.0.smid) (second (is_held_for g waiting.0) (leaves g (slot v.host waiting.0.smid)) waiting.1)
        where
          second : (a b : Bool) → (a && b) ≡ true → b ≡ true
          second true b e = e
          second false b e = absurd (cc)

      module _ (normal : in_normal v ≡ true) (hand : ℕ) (above : List Post) (high : high_line v ≡ high_line w ++ above) (new : All (λ (p : Post). FreshHigh w hand v.host p (slot v.host (smid_in p.descriptor))) above) where
        its_phase : phase_of v g ≡ phase.Resetting waiting.0.smid
        its_phase = (subst (RecordHasPhase v waiting.0.smid) its_record (a.phases.records normal waiting.0.smid)).1

        above_records : All (PostIsRecord v k) above
        above_records = all_last (PostIsRecord v k) (high_line w) above (subst (All (PostIsRecord v k)) high (line_records v k a.posts))

        none_above : how_many (is_target_reset_post g) above ≡ 0
        none_above =
            let s = waiting.0.smid in
            let u = under_all (is_target_reset_post g) waiting.0.smid above
            (all_same (λ (q : Post). PostIsRecord v k q × FreshHigh w hand v.host q (slot v.host (smid_in q.descriptor))) (λ (q : Post). is_target_reset_post g q ≡ true → smid_in q.descriptor ≡ waiting.0.smid)
            (λ q y. fresh_reset w hand v k normal (a.phases.records normal) g waiting.0.smid its_phase q y.0 y.1) above
            (all_and (PostIsRecord v k) (λ (q : Post). FreshHigh w hand v.host q (slot v.host (smid_in q.descriptor))) above above_records new)) in
            let z = in_table v.host.pool waiting.0.smid (Open (request.Leave g)) its_record (λ y. absurd (cc)) in
            let t = a.sizes.pool in
            let m = a.once waiting.0.smid z.0 (omega (arith, z, t)) in
            let o = waiting.2 in
            let n = ap (λ (j : Ioc). how_many (is_held_as waiting.0.smid) j.held) same_ioc in
            let q = queued_count-append waiting.0.smid v.ioc.high (high_posts (down_line v)) in
            let r = high_few w h f plain waiting.0.smid (down_line v) in
            let y = ap (queued_count waiting.0.smid) high in
            let x = queued_count-append waiting.0.smid (high_line w) above in
            omega (arith, u, m, o, n, q, r, y, x)

        more : how_many (is_target_reset_post g) (high_line v) ≡ 0
        more = let b = none_before in let c = none_above in let e = ap (how_many (is_target_reset_post g)) high in let d = how_many-append (is_target_reset_post g) (high_line w) above in omega (arith, b, c, e, d)

      behaves : Behaves w v → how_many (is_target_reset_post g) (high_line v) ≡ 0
      behaves (Fewer p r) = let b = none_before in let c = part_count (is_target_reset_post g) (high_line v) (high_line w) r in omega (arith, b, c)
      behaves (More n hand news above e high z y) = more n hand above high y

    host : Behaves w v → list_any (is_removals v.host g) v.ioc.held ≡ true → how_many (is_target_reset_post g) (high_line v) ≡ 0
    host b e = behaves (any_counts (is_removals v.host g) w.ioc.held (ap (λ (j : Ioc). list_any (is_removals v.host g) j.held) (sym same_ioc) ∙ e)) b

  -- ---- a put

  put_part : (x : Down) (rest : List Down) → w.host.out ≡ x ∷ rest → Part (w.ioc.high ++ high_posts ((w.down ++ x ∷ []) ++ rest)) (high_line w)
  put_part x rest e =
      subst (λ ps. Part ps (high_line w)) (sym (ap (λ xs. w.ioc.high ++ high_posts xs) (Rattle.std.proofs.Common.append_assoc w.down (x ∷ []) rest ∙ ap (λ xs. w.down ++ xs) (sym e)))) (part_itself (high_line w))

  sent : (x : Down) (rest : List Down) → w.host.out ≡ x ∷ rest → Keeps (record w { host = after_sent w.host x rest; down = w.down ++ x ∷ [] })
  sent (down.Post d fr p) rest e k a l y = stays _ w.ioc.held (put_part (down.Post d fr p) rest e) (omega arith) y
  sent (down.Write reg value) rest e k a l y = stays _ w.ioc.held (put_part (down.Write reg value) rest e) (omega arith) y
  sent (down.Read reg) rest e k a l y = stays _ w.ioc.held (put_part (down.Read reg) rest e) (omega arith) y
  sent (down.Return address j) rest e k a l y = stays _ w.ioc.held (put_part (down.Return address j) rest e) (omega arith) y
  sent down.Stop rest e k a l y = stays _ w.ioc.held (put_part down.Stop rest e) (omega arith) y

  -- ---- the controller

  queue_part : (ns : List Post) → Part ns w.ioc.high → Part (ns ++ high_posts (down_line w)) (high_line w)
  queue_part ns p = part_append ns w.ioc.high (high_posts (down_line w)) (high_posts (down_line w)) p (part_itself (high_posts (down_line w)))

  take_part : (x : Down) (rest : List Down) → w.down ≡ x ∷ rest → Part ((takes_down w.ioc x).part.high ++ high_posts (rest ++ w.host.out)) (high_line w)
  take_part x rest e = subst (λ xs. Part ((takes_down w.ioc x).part.high ++ high_posts (rest ++ w.host.out)) (w.ioc.high ++ high_posts (xs ++ w.host.out))) (sym e) (down_taken w.ioc (rest ++ w.host.out) x).high

  item_taken : (x : Down) (rest : List Down) → w.down ≡ x ∷ rest → is_operational (takes_down w.ioc x).part.door.state ≡ true → list_any (is_removals w.host g) (takes_down w.ioc x).part.held ≡ true → how_many (is_target_reset_post g) ((takes_down w.ioc x).part.high ++ high_posts (rest ++ w.host.out)) ≡ 0
  item_taken x rest e l y =
      let z = taken_held w.ioc x (takes_down w.ioc x).part (takes w.ioc f.doorbell.sound.waits f.clock.phase_table.whole x) l in
      let n = ap (how_many (is_removals w.host g)) z in
      stays _ (takes_down w.ioc x).part.held (take_part x rest e) (omega (arith, n)) y

  -- a post that is worked, and may join what waits; N is what its queue leaves
  module _ (p : Post) (ns : List Post) (part : Part ns (high_line w)) (own : is_leave_post w g p ≡ true → how_many (is_target_reset_post g) ns ≡ 0) where
    joined : (hs : List WaitingReset) → Joined p w.ioc.held hs → list_any (is_removals w.host g) hs ≡ true → how_many (is_target_reset_post g) ns ≡ 0
    joined hs AsBefore y = stays ns w.ioc.held part (omega arith) y
    joined hs Joins y = by_old (how_many (is_removals w.host g) w.ioc.held) refl
      where
        r : WaitingReset
        r = record { smid = smid_in p.descriptor; handle = dev_handle_in p.frame }

        second : (a b : Bool) → 1 ≤ one_if (a && b) → b ≡ true
        second true true e = refl
        second true false e = absurd (omega (arith, e))
        second false b e = absurd (omega (arith, e))

        by_old : (c : ℕ) → how_many (is_removals w.host g) w.ioc.held ≡ c → how_many (is_target_reset_post g) ns ≡ 0
        by_old (suc c) z = stays ns w.ioc.held part (omega arith) (counts_any (is_removals w.host g) w.ioc.held (omega (arith, z)))
        by_old zero z =
            let c = any_counts (is_removals w.host g) (w.ioc.held ++ record { smid = smid_in p.descriptor; handle = dev_handle_in p.frame } ∷ []) y in
            let d = how_many-append (is_removals w.host g) w.ioc.held (record { smid = smid_in p.descriptor; handle = dev_handle_in p.frame } ∷ []) in
            let e = how_many-cons (is_removals w.host g) (record { smid = smid_in p.descriptor; handle = dev_handle_in p.frame }) [] in
            let n = how_many-nil (is_removals w.host g) in
            own (second (dev_handle_in p.frame == g) (leaves g (slot w.host (smid_in p.descriptor))) (omega (arith, z, c, d, e, n)))

  -- behind the removal's own, none stands
  high_own : (p : Post) (rest : List Post) → w.ioc.high ≡ p ∷ rest → is_leave_post w g p ≡ true → how_many (is_target_reset_post g) (rest ++ high_posts (down_line w)) ≡ 0
  high_own p rest e t = by_live (is_live w) refl
    where
      line : high_line w ≡ p ∷ (rest ++ high_posts (down_line w))
      line = ap (λ xs. xs ++ high_posts (down_line w)) e

      by_live : (b : Bool) → is_live w ≡ b → how_many (is_target_reset_post g) (rest ++ high_posts (down_line w)) ≡ 0
      by_live true l =
          later-opened (is_leave_post w g) (is_target_reset_post g) p (rest ++ high_posts (down_line w)) t
          (subst (λ xs. later (is_leave_post w g) (is_target_reset_post g) xs ≡ 0) line (sym (later-is (is_leave_post w g) (is_target_reset_post g) (high_line w)) ∙ (f.handles.each g i).resets.last l))
      by_live false l = (let z : p ∷ (rest ++ high_posts (down_line w)) ≡ [] = sym line ∙ line_dead w h f plain l in absurd (cc))

  -- a removal's target reset isn't in the normal queue
  normal_own : (p : Post) (rest : List Post) → w.ioc.normal ≡ p ∷ rest → is_leave_post w g p ≡ true → how_many (is_target_reset_post g) (high_line w) ≡ 0
  normal_own p rest e t =
      let o = leave_named g (slot w.host (smid_in p.descriptor)) t in
      let r : PostIs w h p (Open (request.Leave g)) = subst (PostIs w h p) o (All-head (PostIsRecord w h) p rest (subst (All (PostIsRecord w h)) e f.messages.normal)) in
      let z = in_table w.host.pool (smid_in p.descriptor) (Open (request.Leave g)) o (λ y. absurd (cc)) in
      let u = f.flights.sizes.pool in
      let high : is_high p.descriptor ≡ true = ap is_high r.0.0 ∙ high_flags (smid_in p.descriptor) (omega (arith, z, u)) in
      let s = f.flights.sorted.normal in let c = ap (how_many (λ (q : Post). is_high q.descriptor)) e in let d = how_many-cons (λ (q : Post). is_high q.descriptor) p rest in let n = ap one_if high in
      absurd (omega (arith, s, c, d, n))

  owed : Owes Keeps w
  owed =
      record {
        host_puts = λ x rest e. sent x rest e;
        host_takes = λ queue x rest e s k a l. host _ refl k a l (taken w h f plain queue x rest e);
        host_told = λ j n k a l. host _ refl k a l (told w h f plain j);
        host_looks = λ e k a l. host _ refl k a l (looked w h f plain);
        host_stops = λ e k a l. host _ refl k a l (stopped w h f plain);
        ioc_takes = λ x rest e k a l y. item_taken x rest e l y;
        ioc_high = λ p rest e k a l y. (let q = work_queues (record w.ioc { high = rest }) p in
            subst (λ ns. how_many (is_target_reset_post g) (ns ++ high_posts (down_line w)) ≡ 0) (sym q.high)
            (joined p (rest ++ high_posts (down_line w)) (queue_part rest (subst (Part rest) (sym e) (Drops p rest rest (part_itself rest)))) (high_own p rest e) (step.works_on (record w.ioc { high = rest }) p).part.held (work_held (record w.ioc { high = rest }) p) y));
        ioc_normal = λ p rest e k a l y. (let q = work_queues (record w.ioc { normal = rest }) p in
            subst (λ ns. how_many (is_target_reset_post g) (ns ++ high_posts (down_line w)) ≡ 0) (sym q.high)
            (joined p (high_line w) (part_itself (high_line w)) (normal_own p rest e) (step.works_on (record w.ioc { normal = rest }) p).part.held (work_held (record w.ioc { normal = rest }) p) y));
        ioc_puts_out = λ x rest e k a l y. itself y;
        ioc_takes_back = λ x rest e k a l y. stays _ (news.takes_back w.ioc x).part.held (queue_part _ (subst (λ ns. Part ns w.ioc.high) (sym (back_queues w.ioc x).high) (part_itself w.ioc.high))) (fewer_held (is_removals w.host g) w.ioc.held _ (back_held w.ioc x)) y;
        ioc_puts = λ queue y rest z e u k a l t. itself t;
        fabric_takes = λ x rest e k a l y. itself y;
        fabric_says = λ x rest e k a l y. itself y;
        fabric_puts = λ x rest e k a l y. itself y;
        fabric_runs = λ tag address e k a l y. itself y;
        plugs = λ address expander phy k a l y. itself y;
        unplugs = λ address k a l y. itself y;
        calms = λ k a l y. itself y;
      }

-- ResetsInOrder.held
pub held_last : (w : World) (h : History) (c : Case) → Facts w h → NothingIsStrange w → After w h (happens w c) (history_after h (entries w c)) → HeldLast (happens w c)
held_last w h c f plain a g i = kept (Keeps w h f plain g i) w plain (owed w h f plain g i) (λ k b l y. itself w h f plain g i y) c (history_after h (entries w c)) a
