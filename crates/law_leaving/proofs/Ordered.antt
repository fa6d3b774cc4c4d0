-- No target reset of a handle stands behind that of its removal.
use Rattle.std.proofs.Common.{◌≡◌, ℕ, zero, suc, ◌+◌, ◌≤◌, ◌==◌, ◌&&◌, Bool, true, false, if◌then◌else◌, List, [], ◌∷◌, ◌++◌, refl, ap, sym, ◌∙◌, subst, arith, append_assoc}
use Rattle.std.specs.Prelude.{All}
use Rattle.std.proofs.lemmas.Bool.{eqb-true}
use Rattle.std.proofs.lemmas.List.Elements.{All-append, All-cons, All-head, All-nil, All-tail}
use Rattle.smid_pool.specs.Pool.{Slot, Free, Open, Parked}
use Rattle.removal.specs.Handles.{IsHandle}
use Rattle.removal.specs.declared.phase.Phase.TheVariants as phase
use Rattle.scsi_msgs.specs.TaskAsk.{task_ask_layout, task_ask_values}
use Rattle.mpi_layout.specs.Rows.{field}
use Rattle.mpt_messages.specs.declared.host_ask.HostAsk.TheVariants as ask
use Rattle.mpt_wire.specs.Messages.Fields.{abort_task, dev_handle_in, smid_in, target_reset, task_type_in}
use Rattle.mpt_trace.specs.declared.item.Down.{Down}
use Rattle.mpt_trace.specs.declared.item.Down.TheVariants as down
use Rattle.mpt_rules.specs.declared.post.Post.{Post}
use Rattle.mpt_rules.specs.declared.request.Request.{Request}
use Rattle.mpt_rules.specs.declared.request.Request.TheVariants as request
use Rattle.mpt_rules.specs.Host.Posts.{frame_asked}
use Rattle.mpt_rules.specs.Host.Returns.{after_sent}
use Rattle.mpt_rules.specs.Ioc.Parts.{Ioc}
use Rattle.mpt_rules.specs.Ioc.Tables.{is_operational, is_post_of}
use Rattle.mpt_rules.specs.Ioc.Takes.{takes_down}
use Rattle.mpt_rules.specs.Law.{NothingIsStrange}
use Rattle.mpt_rules.specs.World.Cases.{Case, entries, happens}
use Rattle.mpt_rules.specs.World.Counts.{how_many, one_if, post_count, queued_count}
use Rattle.mpt_rules.specs.World.Lines.{down_line, high_line, high_post, high_posts, is_high}
use Rattle.mpt_rules.specs.World.State.{World}
use Rattle.mpt_rules.proofs.Counts.{queued_count-append, queued_count-cons, queued_count-nil}
use Rattle.mpt_rules.proofs.Lines.{high_posts-cons, high_posts-nil}
use Rattle.std.specs.List.{cons_option}
use Rattle.law_facts.specs.Clock.{in_normal, is_live}
use Rattle.law_facts.specs.Facts.{Facts}
use Rattle.law_facts.specs.Handles.{RecordHasPhase, is_leave_post, is_target_reset_post, leaves, phase_of}
use Rattle.law_facts.specs.History.{History, history_after}
use Rattle.law_facts.specs.Messages.{DownIsRecord, PostIs, PostIsRecord}
use Rattle.law_facts.specs.Words.{behind, slot}
use Rattle.law_flights.proofs.HostHolds.{in_table}
use Rattle.law_messages.specs.Posts.{PostsStand}
use Rattle.law_messages.proofs.Agreeing.{all_last, all_same, same}
use Rattle.law_moves.proofs.Cases.{Owes, kept}
use Rattle.law_moves.proofs.Counted.{how_many-cons, how_many-nil, later, later-cons, later-first, later-is, later-more, later-nil, later-none}
use Rattle.law_removals.proofs.Behind.{After, clash, had_record}
use Rattle.law_removals.proofs.HostBehaves.{Behaves, Fewer, More, looked, stopped, taken, told}
use Rattle.law_removals.proofs.HostLines.{FreshHigh}
use Rattle.law_removals.proofs.IocStays.{back_queues, work_queues}
use Rattle.law_removals.proofs.Lasts.{own_counts, some_post, under_one}
use Rattle.law_removals.proofs.Lines.{Drops, Part, down_taken, part_append, part_count, part_itself, part_later, same_count, same_later}
use Rattle.law_removals.proofs.Removed.{dead}
use Rattle.law_removals.proofs.ResetsBound.{all_and, high_few, in_posts, line_dead, part_all}
use Rattle.law_leaving.specs.Resets.{LastReset, LastResets}

-- ---- lists

-- a count of posts that all have one identifier
pub under_all : (test : Post → Bool) (s : ℕ) (xs : List Post) → All (λ (p : Post). test p ≡ true → smid_in p.descriptor ≡ s) xs → how_many test xs ≤ queued_count s xs
under_all test s [] a = let z = how_many-nil test in omega (arith, z)
under_all test s (x ∷ xs) a =
    let c = how_many-cons test x xs in let d = queued_count-cons s x xs in
    let h = under_all test s xs (All-tail (λ (p : Post). test p ≡ true → smid_in p.descriptor ≡ s) x xs a) in
    let t = by_test (test x) refl (All-head (λ (p : Post). test p ≡ true → smid_in p.descriptor ≡ s) x xs a) in omega (arith, c, d, h, t)
  where
    by_test : (b : Bool) → test x ≡ b → (test x ≡ true → smid_in x.descriptor ≡ s) → one_if b ≤ one_if (is_post_of s x)
    by_test false t n = omega arith
    by_test true t n = let u : one_if (is_post_of s x) ≡ 1 = ap (λ j. one_if (j == s)) (n t) ∙ ap one_if (same s) in omega (arith, u)

-- of few of a kind, none stands behind one of them
few_later : (t p : Post → Bool) (xs : List Post) → All (λ x. t x ≡ true → p x ≡ true) xs → how_many p xs ≤ 1 → later t p xs ≡ 0
few_later t p [] a l = later-nil t p
few_later t p (x ∷ xs) a l = by_test (t x) refl (later-cons t p x xs) (λ m. few_later t p xs (All-tail (λ y. t y ≡ true → p y ≡ true) x xs a) m)
  where
    by_test : (b : Bool) → t x ≡ b → later t p (x ∷ xs) ≡ Rattle.std.proofs.Common.cond b (how_many p xs) (later t p xs) → (how_many p xs ≤ 1 → later t p xs ≡ 0) → later t p (x ∷ xs) ≡ 0
    by_test true e z f =
        let c = how_many-cons p x xs in
        let o : one_if (p x) ≡ 1 = ap one_if (All-head (λ y. t y ≡ true → p y ≡ true) x xs a e) in omega (arith, c, o, l, z)
    by_test false e z f = let c = how_many-cons p x xs in z ∙ f (omega (arith, c, l))

-- ---- posts of the high line, and their records

high_records : (v : World) (k : History) (xs : List Down) → All (DownIsRecord v k) xs → All (PostIsRecord v k) (high_posts xs)
high_records v k [] a = subst (All (PostIsRecord v k)) (sym high_posts-nil) (All-nil (PostIsRecord v k))
high_records v k (x ∷ xs) a = subst (All (PostIsRecord v k)) (sym (high_posts-cons x xs)) (by_item x (All-head (DownIsRecord v k) x xs a) (high_records v k xs (All-tail (DownIsRecord v k) x xs a)))
  where
    by_item : (x : Down) → DownIsRecord v k x → All (PostIsRecord v k) (high_posts xs) → All (PostIsRecord v k) (cons_option (high_post x) (high_posts xs))
    by_item (down.Post d fr p) r b = by_high (is_high d)
      where
        by_high : (c : Bool) → All (PostIsRecord v k) (cons_option (if c then Rattle.std.proofs.Common.Some (record { descriptor = d; frame = fr; payload = p }) else Rattle.std.proofs.Common.None) (high_posts xs))
        by_high true = All-cons (PostIsRecord v k) (record { descriptor = d; frame = fr; payload = p }) (high_posts xs) r b
        by_high false = b
    by_item (down.Write reg value) r b = b
    by_item (down.Read reg) r b = b
    by_item (down.Return address i) r b = b
    by_item down.Stop r b = b

pub line_records : (v : World) (k : History) → PostsStand v k → All (PostIsRecord v k) (high_line v)
line_records v k p = All-append (PostIsRecord v k) v.ioc.high (high_posts (down_line v)) p.high (high_records v k (down_line v) p.down)

reset_type : (x : ℕ) → task_type_in (frame_asked (ask.Task x target_reset 0)) ≡ target_reset
unfolding task_ask_layout task_ask_values field
reset_type x = refl

abort_type : (x task : ℕ) → (task_type_in (frame_asked (ask.Task x abort_task task)) == target_reset) ≡ false
unfolding task_ask_layout task_ask_values field
abort_type x task = refl

pub leave_named : (g : ℕ) (y : Slot Request) → leaves g y ≡ true → y ≡ Open (request.Leave g)
leave_named g (Open (request.Leave k)) t = ap (λ j. Open (request.Leave j)) (eqb-true k g t)
leave_named g (Open (request.Remove k)) t = absurd (cc)
leave_named g (Open (request.Command n)) t = absurd (cc)
leave_named g (Open (request.Abort n k)) t = absurd (cc)
leave_named g (Open (request.TargetReset a)) t = absurd (cc)
leave_named g (Open (request.Page k)) t = absurd (cc)
leave_named g (Open (request.Ack e c)) t = absurd (cc)
leave_named g (Open request.Notification) t = absurd (cc)
leave_named g (Open request.PortEnable) t = absurd (cc)
leave_named g Free t = absurd (cc)
leave_named g Parked t = absurd (cc)

-- a removal's target reset is one of its handle
pub leave_resets : (v : World) (k : History) (g : ℕ) (p : Post) → PostIsRecord v k p → is_leave_post v g p ≡ true → is_target_reset_post g p ≡ true
leave_resets v k g p r t =
    let a : PostIs v k p (Open (request.Leave g)) = subst (PostIs v k p) (leave_named g (slot v.host (smid_in p.descriptor)) t) r in
    ap (λ m. (m == target_reset) && (dev_handle_in p.frame == g)) (ap task_type_in a.0.1 ∙ reset_type (dev_handle_in p.frame)) ∙ (ap (λ m. (target_reset == target_reset) && (m == g)) a.1 ∙ own target_reset g)
  where
    own : (m n : ℕ) → ((m == m) && (n == n)) ≡ true
    own m n = ap (λ b. b && (n == n)) (same m) ∙ same n

both : (a b : Bool) → (a && b) ≡ true → (a ≡ true) × (b ≡ true)
both true b e = (refl, e)
both false b e = absurd (cc)

same_reset : (m n : ℕ) → phase.Resetting m ≡ phase.Resetting n → m ≡ n
same_reset m n e = cc

-- a new target reset of a handle whose removal's is open is that one
pub fresh_reset : (w : World) (hand : ℕ) (v : World) (k : History) (n : in_normal v ≡ true) (records : (s : ℕ) → RecordHasPhase v s (slot v.host s)) (g s : ℕ) → phase_of v g ≡ phase.Resetting s
    → (p : Post) → PostIsRecord v k p → FreshHigh w hand v.host p (slot v.host (smid_in p.descriptor)) → is_target_reset_post g p ≡ true → smid_in p.descriptor ≡ s
fresh_reset w hand v k n records g s e p r z t = by_slot (slot v.host (smid_in p.descriptor)) refl r z
  where
    aimed : dev_handle_in p.frame ≡ g
    aimed = eqb-true (dev_handle_in p.frame) g (both (task_type_in p.frame == target_reset) (dev_handle_in p.frame == g) t).1

    by_slot : (y : Slot Request) → slot v.host (smid_in p.descriptor) ≡ y → PostIs v k p y → FreshHigh w hand v.host p y → smid_in p.descriptor ≡ s
    by_slot (Open (request.Leave j)) o r z =
        let x : RecordHasPhase v (smid_in p.descriptor) (Open (request.Leave j)) = subst (RecordHasPhase v (smid_in p.descriptor)) o (records (smid_in p.descriptor)) in
        same_reset (smid_in p.descriptor) s (sym x.1 ∙ (ap (phase_of v) (sym r.1 ∙ aimed) ∙ e))
    by_slot (Open (request.TargetReset a)) o r z = (let x : phase.Ready a ≡ phase.Resetting s = sym z.2 ∙ (ap (phase_of v) aimed ∙ e) in absurd (cc))
    by_slot (Open (request.Abort m task)) o r z =
        let x = (both (task_type_in p.frame == target_reset) (dev_handle_in p.frame == g) t).0 in
        clash (task_type_in p.frame == target_reset) x (ap (λ y. task_type_in y == target_reset) r.0.1 ∙ abort_type (dev_handle_in p.frame) task)
    by_slot (Open (request.Command m)) o r z = absurd z
    by_slot (Open (request.Page q)) o r z = absurd z
    by_slot (Open (request.Remove q)) o r z = absurd z
    by_slot (Open (request.Ack x c)) o r z = absurd z
    by_slot (Open request.Notification) o r z = absurd z
    by_slot (Open request.PortEnable) o r z = absurd z
    by_slot Free o r z = absurd z
    by_slot Parked o r z = absurd z

module _ (w : World) (h : History) (f : Facts w h) (plain : NothingIsStrange w) (g : ℕ) (i : IsHandle g) where
  was_last : is_live w ≡ true → later (is_leave_post w g) (is_target_reset_post g) (high_line w) ≡ 0
  was_last l = sym (later-is (is_leave_post w g) (is_target_reset_post g) (high_line w)) ∙ (f.handles.each g i).resets.last l

  abbrev Keeps : World → Type 0
  Keeps v = (k : History) → After w h v k → LastReset v g

  -- the host stays, and the line loses posts
  stays : (ns : List Post) → Part ns (high_line w) → how_many (is_target_reset_post g) (behind (is_leave_post w g) ns) ≡ 0
  stays ns p = by_live (is_live w) refl
    where
      nothing : (xs : List Post) → xs ≡ [] → later (is_leave_post w g) (is_target_reset_post g) xs ≡ 0
      nothing xs e = ap (later (is_leave_post w g) (is_target_reset_post g)) e ∙ later-nil (is_leave_post w g) (is_target_reset_post g)

      by_live : (b : Bool) → is_live w ≡ b → how_many (is_target_reset_post g) (behind (is_leave_post w g) ns) ≡ 0
      by_live true l = later-is (is_leave_post w g) (is_target_reset_post g) ns ∙ part_later (is_leave_post w g) (is_target_reset_post g) ns (high_line w) p (was_last l)
      by_live false l = later-is (is_leave_post w g) (is_target_reset_post g) ns ∙ part_later (is_leave_post w g) (is_target_reset_post g) ns (high_line w) p (nothing (high_line w) (line_dead w h f plain l))

  -- ---- the host

  module _ (v : World) (same_ioc : v.ioc ≡ w.ioc) (k : History) (a : After w h v k) (live : is_live v ≡ true) where
    live_too : is_live w ≡ true
    live_too = sym (ap (λ (j : Ioc). is_operational j.door.state) same_ioc) ∙ live

    leave_same : All (λ (p : Post). is_leave_post v g p ≡ is_leave_post w g p) (high_line w)
    leave_same =
        all_same (λ (p : Post). 1 ≤ queued_count (smid_in p.descriptor) (high_line w)) (λ (p : Post). is_leave_post v g p ≡ is_leave_post w g p)
        (λ p l. let m = in_posts w h f plain (smid_in p.descriptor) l in ap (leaves g) (had_record w h f v k a (dead w h f (smid_in p.descriptor) m) (smid_in p.descriptor) m)) (high_line w) (own_counts (high_line w))

    resets_same : (xs : List Post) → All (λ (p : Post). is_target_reset_post g p ≡ is_target_reset_post g p) xs
    resets_same [] = All-nil (λ (p : Post). is_target_reset_post g p ≡ is_target_reset_post g p)
    resets_same (x ∷ xs) = All-cons (λ (p : Post). is_target_reset_post g p ≡ is_target_reset_post g p) x xs refl (resets_same xs)

    now_last : later (is_leave_post v g) (is_target_reset_post g) (high_line w) ≡ 0
    now_last = same_later (is_leave_post v g) (is_leave_post w g) (is_target_reset_post g) (is_target_reset_post g) (high_line w) leave_same (resets_same (high_line w)) ∙ was_last live_too

    fewer : Part (high_line v) (high_line w) → how_many (is_target_reset_post g) (behind (is_leave_post v g) (high_line v)) ≡ 0
    fewer p = later-is (is_leave_post v g) (is_target_reset_post g) (high_line v) ∙ part_later (is_leave_post v g) (is_target_reset_post g) (high_line v) (high_line w) p now_last

    module _ (normal : in_normal v ≡ true) (hand : ℕ) (above : List Post) (high : high_line v ≡ high_line w ++ above) (new : All (λ (p : Post). FreshHigh w hand v.host p (slot v.host (smid_in p.descriptor))) above) where
      leaving : (p : Post) → is_leave_post v g p ≡ true → phase_of v g ≡ phase.Resetting (smid_in p.descriptor)
      leaving p t = (subst (RecordHasPhase v (smid_in p.descriptor)) (leave_named g (slot v.host (smid_in p.descriptor)) t) (a.phases.records normal (smid_in p.descriptor))).1

      above_records : All (PostIsRecord v k) above
      above_records = all_last (PostIsRecord v k) (high_line w) above (subst (All (PostIsRecord v k)) high (line_records v k a.posts))

      -- an identifier is in one post of the line
      once : (p : Post) → is_leave_post v g p ≡ true → queued_count (smid_in p.descriptor) (high_line w) + queued_count (smid_in p.descriptor) above ≤ 1
      once p t =
          let s = smid_in p.descriptor in
          let z = in_table v.host.pool (smid_in p.descriptor) (Open (request.Leave g)) (leave_named g (slot v.host (smid_in p.descriptor)) t) (λ u. absurd (cc)) in
          let u = a.sizes.pool in
          let m = a.once (smid_in p.descriptor) z.0 (omega (arith, z, u)) in
          let q = queued_count-append (smid_in p.descriptor) v.ioc.high (high_posts (down_line v)) in
          let r = high_few w h f plain (smid_in p.descriptor) (down_line v) in
          let y = ap (queued_count (smid_in p.descriptor)) high in
          let x = queued_count-append (smid_in p.descriptor) (high_line w) above in
          omega (arith, m, q, r, y, x)

      few : (p : Post) → is_leave_post v g p ≡ true → how_many (is_target_reset_post g) above ≤ queued_count (smid_in p.descriptor) above
      few p t =
          under_all (is_target_reset_post g) (smid_in p.descriptor) above
          (all_same (λ (q : Post). PostIsRecord v k q × FreshHigh w hand v.host q (slot v.host (smid_in q.descriptor))) (λ (q : Post). is_target_reset_post g q ≡ true → smid_in q.descriptor ≡ smid_in p.descriptor)
          (λ q y. fresh_reset w hand v k normal (a.phases.records normal) g (smid_in p.descriptor) (leaving p t) q y.0 y.1) above
          (all_and (PostIsRecord v k) (λ (q : Post). FreshHigh w hand v.host q (slot v.host (smid_in q.descriptor))) above above_records new))

      more : how_many (is_target_reset_post g) (behind (is_leave_post v g) (high_line v)) ≡ 0
      more = later-is (is_leave_post v g) (is_target_reset_post g) (high_line v) ∙ (ap (later (is_leave_post v g) (is_target_reset_post g)) high ∙ by_old (how_many (is_leave_post v g) (high_line w)) refl)
        where
          by_new : (c : ℕ) → how_many (is_leave_post v g) above ≡ c → later (is_leave_post v g) (is_target_reset_post g) above ≡ 0
          by_new zero z = later-none (is_leave_post v g) (is_target_reset_post g) above z
          by_new (suc c) z =
              let x = some_post (is_leave_post v g) above (omega (arith, z)) in
              let o = once x.0 x.1 in let l = few x.0 x.1 in
              few_later (is_leave_post v g) (is_target_reset_post g) above (all_same (PostIsRecord v k) (λ (q : Post). is_leave_post v g q ≡ true → is_target_reset_post g q ≡ true) (λ q r. leave_resets v k g q r) above above_records) (omega (arith, o, l))

          by_old : (c : ℕ) → how_many (is_leave_post v g) (high_line w) ≡ c → later (is_leave_post v g) (is_target_reset_post g) (high_line w ++ above) ≡ 0
          by_old zero z = later-first (is_leave_post v g) (is_target_reset_post g) (high_line w) above z ∙ by_new (how_many (is_leave_post v g) above) refl
          by_old (suc c) z =
              let x = some_post (is_leave_post v g) (high_line w) (omega (arith, z)) in
              let o = once x.0 x.1 in let l = few x.0 x.1 in
              let q = under_one (is_leave_post v g) (smid_in x.0.descriptor) (λ p t. same_reset (smid_in p.descriptor) (smid_in x.0.descriptor) (sym (leaving p t) ∙ leaving x.0 x.1)) (high_line w) in
              later-more (is_leave_post v g) (is_target_reset_post g) (high_line w) above now_last (omega (arith, o, l, q, z))

    behaves : Behaves w v → how_many (is_target_reset_post g) (behind (is_leave_post v g) (high_line v)) ≡ 0
    behaves (Fewer p r) = fewer r
    behaves (More n hand news above e high z y) = more n hand above high y

  -- ---- a put

  put_part : (x : Down) (rest : List Down) → w.host.out ≡ x ∷ rest → Part (w.ioc.high ++ high_posts ((w.down ++ x ∷ []) ++ rest)) (high_line w)
  put_part x rest e =
      subst (λ ps. Part ps (high_line w)) (sym (ap (λ xs. w.ioc.high ++ high_posts xs) (append_assoc w.down (x ∷ []) rest ∙ ap (λ xs. w.down ++ xs) (sym e)))) (part_itself (high_line w))

  sent : (x : Down) (rest : List Down) → w.host.out ≡ x ∷ rest → Keeps (record w { host = after_sent w.host x rest; down = w.down ++ x ∷ [] })
  sent (down.Post d fr p) rest e k a l = stays _ (put_part (down.Post d fr p) rest e)
  sent (down.Write reg value) rest e k a l = stays _ (put_part (down.Write reg value) rest e)
  sent (down.Read reg) rest e k a l = stays _ (put_part (down.Read reg) rest e)
  sent (down.Return address j) rest e k a l = stays _ (put_part (down.Return address j) rest e)
  sent down.Stop rest e k a l = stays _ (put_part down.Stop rest e)

  -- ---- the controller

  queue_part : (ns : List Post) → Part ns w.ioc.high → Part (ns ++ high_posts (down_line w)) (high_line w)
  queue_part ns p = part_append ns w.ioc.high (high_posts (down_line w)) (high_posts (down_line w)) p (part_itself (high_posts (down_line w)))

  take_part : (x : Down) (rest : List Down) → w.down ≡ x ∷ rest → Part ((takes_down w.ioc x).part.high ++ high_posts (rest ++ w.host.out)) (high_line w)
  take_part x rest e = subst (λ xs. Part ((takes_down w.ioc x).part.high ++ high_posts (rest ++ w.host.out)) (w.ioc.high ++ high_posts (xs ++ w.host.out))) (sym e) (down_taken w.ioc (rest ++ w.host.out) x).high

  itself : how_many (is_target_reset_post g) (behind (is_leave_post w g) (high_line w)) ≡ 0
  itself = stays (high_line w) (part_itself (high_line w))

  owed : Owes Keeps w
  owed =
      record {
        host_puts = λ x rest e. sent x rest e;
        host_takes = λ queue x rest e s k a l. behaves _ refl k a l (taken w h f plain queue x rest e);
        host_told = λ j n k a l. behaves _ refl k a l (told w h f plain j);
        host_looks = λ e k a l. behaves _ refl k a l (looked w h f plain);
        host_stops = λ e k a l. behaves _ refl k a l (stopped w h f plain);
        ioc_takes = λ x rest e k a l. stays _ (take_part x rest e);
        ioc_high = λ p rest e k a l. stays _ (queue_part _ (subst (λ ns. Part ns w.ioc.high) (sym (work_queues (record w.ioc { high = rest }) p).high) (subst (Part rest) (sym e) (Drops p rest rest (part_itself rest)))));
        ioc_normal = λ p rest e k a l. stays _ (queue_part _ (subst (λ ns. Part ns w.ioc.high) (sym (work_queues (record w.ioc { normal = rest }) p).high) (part_itself w.ioc.high)));
        ioc_puts_out = λ x rest e k a l. itself;
        ioc_takes_back = λ x rest e k a l. stays _ (queue_part _ (subst (λ ns. Part ns w.ioc.high) (sym (back_queues w.ioc x).high) (part_itself w.ioc.high)));
        ioc_puts = λ queue y rest z e u k a l. itself;
        fabric_takes = λ x rest e k a l. itself;
        fabric_says = λ x rest e k a l. itself;
        fabric_puts = λ x rest e k a l. itself;
        fabric_runs = λ tag address e k a l. itself;
        plugs = λ address expander phy k a l. itself;
        unplugs = λ address k a l. itself;
        calms = λ k a l. itself;
      }

-- ResetsInOrder.last
pub last_resets : (w : World) (h : History) (c : Case) → Facts w h → NothingIsStrange w → After w h (happens w c) (history_after h (entries w c)) → LastResets (happens w c)
last_resets w h c f plain a g i = kept (Keeps w h f plain g i) w plain (owed w h f plain g i) (λ k b l. itself w h f plain g i) c (history_after h (entries w c)) a
