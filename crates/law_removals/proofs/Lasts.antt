-- Nothing that uses a handle stands behind its remove device, and no target reset of it behind that of its removal.
use Rattle.std.proofs.Common.{◌≡◌, ℕ, zero, suc, ◌≤◌, ◌==◌, ◌||◌, Bool, true, false, List, [], ◌∷◌, ◌++◌, Option, Some, None, refl, ap, sym, ◌∙◌, subst, arith}
use Rattle.std.specs.Prelude.{All}
use Rattle.std.specs.FinMap as finmap
use Rattle.std.proofs.lemmas.Bool.{eqb-true}
use Rattle.std.proofs.lemmas.List.Elements.{All-cons, All-head, All-nil, All-tail}
use Rattle.smid_pool.specs.Pool.{Slot, Free, Open, Parked}
use Rattle.removal.specs.Handles.{IsHandle, phase_at}
use Rattle.removal.specs.declared.phase.Phase.TheVariants as phase
use Rattle.mpt_wire.specs.Messages.Fields.{smid_in}
use Rattle.mpt_rules.specs.declared.post.Post.{Post}
use Rattle.mpt_rules.specs.declared.request.Request.{Request}
use Rattle.mpt_rules.specs.declared.request.Request.TheVariants as request
use Rattle.mpt_rules.specs.Host.Parts.{Cmd}
use Rattle.mpt_rules.specs.Ioc.Tables.{is_post_of}
use Rattle.mpt_rules.specs.World.Counts.{how_many, one_if, queued_count}
use Rattle.mpt_rules.specs.World.Lines.{down_line, normal_line, normal_posts}
use Rattle.mpt_rules.specs.World.State.{World}
use Rattle.mpt_rules.proofs.Counts.{queued_count-append, queued_count-cons}
use Rattle.law_facts.specs.Clock.{in_normal}
use Rattle.law_facts.specs.Facts.{Facts}
use Rattle.law_facts.specs.Handles.{RecordHasPhase, is_command_to, is_page_request, is_remove_post, is_remove_request, is_to, phase_of, removes, uses_handle}
use Rattle.law_facts.specs.History.{History}
use Rattle.law_facts.specs.Words.{behind, slot}
use Rattle.law_lights.proofs.Ones.{normal_few}
use Rattle.law_messages.proofs.Agreeing.{all_same}
use Rattle.law_moves.proofs.Counted.{how_many-cons, how_many-nil, later, later-is, later-more, later-none}
use Rattle.law_removals.specs.Removing.{LastInLine}
use Rattle.law_removals.proofs.Behind.{After, had_record, posted, still_named}
use Rattle.law_removals.proofs.HostLines.{FreshNormal, is_ready_phase}
use Rattle.law_removals.proofs.Grown.{is_out_there}
use Rattle.law_removals.proofs.Lines.{Part, part_count, part_later, same_count, same_later}
use Rattle.law_removals.proofs.Removed.{dead}

-- ---- each post of a list is counted there

own_key : (s : ℕ) → one_if (s == s) ≡ 1
own_key s = grind arith

pub own_counts : (xs : List Post) → All (λ (p : Post). 1 ≤ queued_count (smid_in p.descriptor) xs) xs
own_counts [] = All-nil (λ (p : Post). 1 ≤ queued_count (smid_in p.descriptor) [])
own_counts (x ∷ xs) =
    All-cons (λ (p : Post). 1 ≤ queued_count (smid_in p.descriptor) (x ∷ xs)) x xs
    (let c = queued_count-cons (smid_in x.descriptor) x xs in let o = own_key (smid_in x.descriptor) in omega (arith, c, o))
    (all_same (λ (p : Post). 1 ≤ queued_count (smid_in p.descriptor) xs) (λ (p : Post). 1 ≤ queued_count (smid_in p.descriptor) (x ∷ xs)) (λ p l. let c = queued_count-cons (smid_in p.descriptor) x xs in omega (arith, c, l)) xs (own_counts xs))

-- a count of posts that all have one identifier
pub under_one : (test : Post → Bool) (s : ℕ) → ((p : Post) → test p ≡ true → smid_in p.descriptor ≡ s) → (xs : List Post) → how_many test xs ≤ queued_count s xs
under_one test s n [] = let a = how_many-nil test in omega (arith, a)
under_one test s n (x ∷ xs) = (let c = how_many-cons test x xs in let d = queued_count-cons s x xs in let h = under_one test s n xs in let t = by_test (test x) refl in omega (arith, c, d, h, t))
  where
    by_test : (b : Bool) → test x ≡ b → one_if b ≤ one_if (is_post_of s x)
    by_test false t = omega arith
    by_test true t = let z = n x t in let o = own_key s in let u : one_if (is_post_of s x) ≡ 1 = ap (λ j. one_if (j == s)) z ∙ o in omega (arith, u)

-- one of a kind is there
pub some_post : (test : Post → Bool) (xs : List Post) → 1 ≤ how_many test xs → (p : Post) × (test p ≡ true)
some_post test [] l = let a = how_many-nil test in absurd (omega (arith, a, l))
some_post test (x ∷ xs) l = by_test (test x) refl (λ m. some_post test xs m)
  where
    by_test : (b : Bool) → test x ≡ b → (1 ≤ how_many test xs → (p : Post) × (test p ≡ true)) → (p : Post) × (test p ≡ true)
    by_test true t r = (x, t)
    by_test false t r = let c = how_many-cons test x xs in let z = ap one_if t in r (omega (arith, c, z, l))

pub some_new : (test : Post → Bool) (P : Post → Type 0) (xs : List Post) → All P xs → 1 ≤ how_many test xs → (p : Post) × (test p ≡ true) × P p
some_new test P [] a l = let z = how_many-nil test in absurd (omega (arith, z, l))
some_new test P (x ∷ xs) a l = by_test (test x) refl (λ m. some_new test P xs (All-tail P x xs a) m)
  where
    by_test : (b : Bool) → test x ≡ b → (1 ≤ how_many test xs → (p : Post) × (test p ≡ true) × P p) → (p : Post) × (test p ≡ true) × P p
    by_test true t r = (x, t, All-head P x xs a)
    by_test false t r = let c = how_many-cons test x xs in let z = ap one_if t in r (omega (arith, c, z, l))

none_by : (test : Post → Bool) (P : Post → Type 0) → ((p : Post) → P p → test p ≡ false) → (xs : List Post) → All P xs → how_many test xs ≡ 0
none_by test P n [] a = how_many-nil test
none_by test P n (x ∷ xs) a = let c = how_many-cons test x xs in let z = ap one_if (n x (All-head P x xs a)) in let h = none_by test P n xs (All-tail P x xs a) in omega (arith, c, z, h)

-- the record that a test of removals names
removal_named : (g : ℕ) (y : Slot Request) → is_remove_request g y ≡ true → y ≡ Open (request.Remove g)
removal_named g (Open (request.Remove k)) t = ap (λ j. Open (request.Remove j)) (eqb-true k g t)
removal_named g (Open (request.Command n)) t = absurd (cc)
removal_named g (Open (request.Abort n k)) t = absurd (cc)
removal_named g (Open (request.TargetReset a)) t = absurd (cc)
removal_named g (Open (request.Leave k)) t = absurd (cc)
removal_named g (Open (request.Page k)) t = absurd (cc)
removal_named g (Open (request.Ack e c)) t = absurd (cc)
removal_named g (Open request.Notification) t = absurd (cc)
removal_named g (Open request.PortEnable) t = absurd (cc)
removal_named g Free t = absurd (cc)
removal_named g Parked t = absurd (cc)

same_removal : (m n : ℕ) → phase.Removing m ≡ phase.Removing n → m ≡ n
same_removal m n e = cc

module _ (w : World) (h : History) (f : Facts w h) (g : ℕ) (i : IsHandle g) where
  was_one : removes w g ≤ 1
  was_one = (f.handles.each g i).last.one

  was_last : later (is_remove_post w g) (uses_handle w g) (normal_line w) ≡ 0
  was_last = sym (later-is (is_remove_post w g) (uses_handle w g) (normal_line w)) ∙ (f.handles.each g i).last.last

  -- the host stays, and the line loses posts
  pub kept_host : (ns : List Post) → Part ns (normal_line w) → (how_many (is_remove_post w g) ns ≤ 1) × (how_many (uses_handle w g) (behind (is_remove_post w g) ns) ≡ 0)
  kept_host ns p =
      let c = part_count (is_remove_post w g) ns (normal_line w) p in let o = was_one in
      (omega (arith, c, o), later-is (is_remove_post w g) (uses_handle w g) ns ∙ part_later (is_remove_post w g) (uses_handle w g) ns (normal_line w) p was_last)

  pub in_posts : (s : ℕ) → 1 ≤ queued_count s (normal_line w) → 1 ≤ posted w s
  in_posts s l = let a = queued_count-append s w.ioc.normal (normal_posts (down_line w)) in let b = normal_few s (down_line w) in omega (arith, a, b, l)

  module _ (v : World) (k : History) (a : After w h v k) where
    command_same : (s : ℕ) (y : Slot Request) → slot w.host s ≡ y → 1 ≤ posted w s → is_command_to v g y ≡ is_command_to w g y
    command_same s (Open (request.Command n)) e l = ap (is_to g) (still_named w h f v k a (dead w h f s l) s n e (omega (arith, l)))
    command_same s (Open (request.Abort n t)) e l = refl
    command_same s (Open (request.TargetReset x)) e l = refl
    command_same s (Open (request.Leave x)) e l = refl
    command_same s (Open (request.Page x)) e l = refl
    command_same s (Open (request.Remove x)) e l = refl
    command_same s (Open (request.Ack x c)) e l = refl
    command_same s (Open request.Notification) e l = refl
    command_same s (Open request.PortEnable) e l = refl
    command_same s Free e l = refl
    command_same s Parked e l = refl

    removal_same : All (λ (p : Post). is_remove_post v g p ≡ is_remove_post w g p) (normal_line w)
    removal_same =
        all_same (λ (p : Post). 1 ≤ queued_count (smid_in p.descriptor) (normal_line w)) (λ (p : Post). is_remove_post v g p ≡ is_remove_post w g p)
        (λ p l. let m = in_posts (smid_in p.descriptor) l in ap (is_remove_request g) (had_record w h f v k a (dead w h f (smid_in p.descriptor) m) (smid_in p.descriptor) m)) (normal_line w) (own_counts (normal_line w))

    uses_same : All (λ (p : Post). uses_handle v g p ≡ uses_handle w g p) (normal_line w)
    uses_same =
        all_same (λ (p : Post). 1 ≤ queued_count (smid_in p.descriptor) (normal_line w)) (λ (p : Post). uses_handle v g p ≡ uses_handle w g p)
        (λ p l. (let m = in_posts (smid_in p.descriptor) l in
        ap (λ y. is_command_to v g y || is_page_request g y) (had_record w h f v k a (dead w h f (smid_in p.descriptor) m) (smid_in p.descriptor) m)
        ∙ ap (λ b. b || is_page_request g (slot w.host (smid_in p.descriptor))) (command_same (smid_in p.descriptor) (slot w.host (smid_in p.descriptor)) refl m))) (normal_line w) (own_counts (normal_line w))

    now_last : later (is_remove_post v g) (uses_handle v g) (normal_line w) ≡ 0
    now_last = same_later (is_remove_post v g) (is_remove_post w g) (uses_handle v g) (uses_handle w g) (normal_line w) removal_same uses_same ∙ was_last

    -- the host's posts are some of those that it had
    pub fewer_posts : Part (normal_line v) (normal_line w) → LastInLine v g
    fewer_posts p =
        let c = part_count (is_remove_post v g) (normal_line v) (normal_line w) p in let o = was_one in
        let s = same_count (is_remove_post v g) (is_remove_post w g) (normal_line w) removal_same in
        record {
          one = omega (arith, c, o, s);
          last = later-is (is_remove_post v g) (uses_handle v g) (normal_line v) ∙ part_later (is_remove_post v g) (uses_handle v g) (normal_line v) (normal_line w) p now_last;
        }

    module _ (normal : in_normal v ≡ true) where
      removing : (p : Post) → is_remove_post v g p ≡ true → phase_of v g ≡ phase.Removing (smid_in p.descriptor)
      removing p t = (subst (RecordHasPhase v (smid_in p.descriptor)) (removal_named g (slot v.host (smid_in p.descriptor)) t) (a.phases.records normal (smid_in p.descriptor))).1

      -- one remove device at most, since its identifier is in one place
      pub one_removal : removes v g ≤ 1
      one_removal = by_count (removes v g) refl
        where
          by_count : (n : ℕ) → removes v g ≡ n → removes v g ≤ 1
          by_count zero e = omega (arith, e)
          by_count (suc n) e =
              let x = some_post (is_remove_post v g) (normal_line v) (omega (arith, e)) in
              let o = removal_named g (slot v.host (smid_in x.0.descriptor)) x.1 in
              let z = Rattle.law_flights.proofs.HostHolds.in_table v.host.pool (smid_in x.0.descriptor) (Open (request.Remove g)) o (λ u. absurd (cc)) in
              let t = a.sizes.pool in
              let m = a.once (smid_in x.0.descriptor) z.0 (omega (arith, z, t)) in
              let c = under_one (is_remove_post v g) (smid_in x.0.descriptor) (λ p y. same_removal (smid_in p.descriptor) (smid_in x.0.descriptor) (sym (removing p y) ∙ removing x.0 x.1)) (normal_line v) in
              let q = queued_count-append (smid_in x.0.descriptor) v.ioc.normal (normal_posts (down_line v)) in
              let r = normal_few (smid_in x.0.descriptor) (down_line v) in
              omega (arith, m, c, q, r)

      -- what is new uses no handle that is being removed
      news_apart : (hand s : ℕ) → phase_of v g ≡ phase.Removing s → (y : Slot Request) → FreshNormal w hand v.host y → (is_command_to v g y || is_page_request g y) ≡ false
      news_apart hand s e (Open (request.Command n)) z = by_cmd (finmap.get v.host.cmds n) z
        where
          by_cmd : (o : Option Cmd) → ((c : Cmd) → o ≡ Some c → is_ready_phase (phase_at v.host.phases c.handle) ≡ true) → (is_to g o || false) ≡ false
          by_cmd None z = refl
          by_cmd (Some c) z = by_key (c.handle == g) refl
            where
              by_key : (b : Bool) → (c.handle == g) ≡ b → (b || false) ≡ false
              by_key false t = refl
              by_key true t = let r = z c refl in let u : phase_at v.host.phases c.handle ≡ phase.Removing s = ap (phase_at v.host.phases) (eqb-true c.handle g t) ∙ e in let q = ap is_ready_phase u in absurd (cc)
      news_apart hand s e (Open (request.Page k2)) z = by_key (k2 == g) refl
        where
          by_key : (b : Bool) → (k2 == g) ≡ b → b ≡ false
          by_key false t = refl
          by_key true t = let r = z.1 in let u : phase_at v.host.phases k2 ≡ phase.Removing s = ap (phase_at v.host.phases) (eqb-true k2 g t) ∙ e in let q = ap is_out_there u in absurd (cc)
      news_apart hand s e (Open (request.Abort n t)) z = refl
      news_apart hand s e (Open (request.TargetReset x)) z = refl
      news_apart hand s e (Open (request.Leave x)) z = refl
      news_apart hand s e (Open (request.Remove x)) z = refl
      news_apart hand s e (Open (request.Ack x c)) z = refl
      news_apart hand s e (Open request.Notification) z = refl
      news_apart hand s e (Open request.PortEnable) z = refl
      news_apart hand s e Free z = refl
      news_apart hand s e Parked z = refl

      -- and more posts behind those
      pub more_posts : (hand : ℕ) (news : List Post) → normal_line v ≡ normal_line w ++ news → All (λ (p : Post). FreshNormal w hand v.host (slot v.host (smid_in p.descriptor))) news → LastInLine v g
      more_posts hand news e n = record { one = one_removal; last = later-is (is_remove_post v g) (uses_handle v g) (normal_line v) ∙ by_count (removes v g) refl }
        where
          by_count : (c : ℕ) → removes v g ≡ c → later (is_remove_post v g) (uses_handle v g) (normal_line v) ≡ 0
          by_count zero z = later-none (is_remove_post v g) (uses_handle v g) (normal_line v) z
          by_count (suc c) z =
              let x = some_post (is_remove_post v g) (normal_line v) (omega (arith, z)) in
              subst (λ xs. later (is_remove_post v g) (uses_handle v g) xs ≡ 0) (sym e)
              (later-more (is_remove_post v g) (uses_handle v g) (normal_line w) news now_last
              (none_by (uses_handle v g) (λ (p : Post). FreshNormal w hand v.host (slot v.host (smid_in p.descriptor))) (λ p y. news_apart hand (smid_in x.0.descriptor) (removing x.0 x.1) (slot v.host (smid_in p.descriptor)) y) news n))
