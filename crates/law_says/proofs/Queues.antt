-- The controller's queues are no longer than there are identifiers of their kinds: each post is of an identifier of its queue's
-- classes, and none is there twice.
use Rattle.std.proofs.Common.{◌≡◌, ℕ, zero, suc, ◌+◌, ◌-◌, ◌*◌, ◌<◌, ◌≤◌, ◌==◌, ◌%◌, ◌^◌, ◌⊎◌, inl, inr, nat_le, not, Bool, true, false, if◌then◌else◌, List, [], ◌∷◌, length, All, Option, Some, None, refl, ap, sym, ◌∙◌, subst, arith}
use Rattle.std.specs.FinMap as finmap
use Rattle.std.specs.List.{filter}
use Rattle.std.proofs.lemmas.List.Elements.{All-head, All-tail}
use Rattle.smid_pool.specs.Class.{IsIn}
use Rattle.smid_pool.specs.Pool.{Slot, Free, Open, Parked}
use Rattle.smid_pool.specs.declared.class.Class.TheVariants as class
use Rattle.mpi_rings.specs.declared.request_descriptor.PostKind.{PostKind}
use Rattle.mpi_rings.specs.declared.request_descriptor.PostKind.TheVariants as kind
use Rattle.mpi_rings.specs.RequestDescriptor.{flags_of}
use Rattle.mpt_wire.specs.Messages.Fields.{post_descriptor, smid_in}
use Rattle.mpt_wire.specs.Machine.State.{OpenRequest}
use Rattle.mpt_rules.specs.declared.post.Post.{Post}
use Rattle.mpt_rules.specs.declared.request.Request.{Request}
use Rattle.mpt_rules.specs.declared.request.Request.TheVariants as request
use Rattle.mpt_rules.specs.World.Counts.{how_many, one_if, queued_count}
use Rattle.mpt_rules.specs.World.Lines.{is_high}
use Rattle.mpt_rules.specs.Host.Parts.{Cmd, host_queue_count}
use Rattle.mpt_rules.specs.Ioc.Tables.{is_post_of}
use Rattle.mpt_rules.specs.Law.{QueuesAreShort}
use Rattle.mpt_rules.specs.World.State.{World}
use Rattle.mpt_rules.proofs.Counts.{queued_count-cons, queued_count-nil}
use Rattle.law_facts.specs.Facts.{Facts}
use Rattle.law_facts.specs.Flights.{RecordStands}
use Rattle.law_facts.specs.History.{History}
use Rattle.law_facts.specs.Messages.{CommandPost, PostIs, PostIsRecord}
use Rattle.law_facts.specs.Words.{others, slot}
use Rattle.law_moves.proofs.Counted.{false_by_none, how_many-cons, others-cons}
use Rattle.law_says.proofs.Slots.{recorded}

-- ---- a list whose keys are m numbers, each at most once, is no longer than m

-- each post has an identifier from a on, of m
abbrev AllWithin : ℕ → ℕ → List Post → Type 0
AllWithin a m [] = Unit {0}
AllWithin a m (x ∷ xs) = (a < smid_in x.descriptor) × (smid_in x.descriptor ≤ a + m) × AllWithin a m xs

without : ℕ → List Post → List Post
without s xs = filter (λ x. not (is_post_of s x)) xs

-- what is left is shorter by the posts that went
shorter : (s : ℕ) (xs : List Post) → length xs ≡ queued_count s xs + length (without s xs)
unfolding without
shorter s [] = let z = queued_count-nil s in omega (arith, z)
shorter s (x ∷ xs) = by_test (is_post_of s x) (shorter s xs) (queued_count-cons s x xs)
  where
    by_test : (b : Bool) → length xs ≡ queued_count s xs + length (filter (λ x. not (is_post_of s x)) xs) → queued_count s (x ∷ xs) ≡ one_if b + queued_count s xs
        → suc (length xs) ≡ queued_count s (x ∷ xs) + length (if not b then x ∷ filter (λ x. not (is_post_of s x)) xs else filter (λ x. not (is_post_of s x)) xs)
    by_test true h c = omega (arith, h, c)
    by_test false h c = omega (arith, h, c)

-- another identifier stands in what passes no more often than before
fewer : (keep : Post → Bool) (j : ℕ) (xs : List Post) → queued_count j (filter keep xs) ≤ queued_count j xs
fewer keep j [] = omega arith
fewer keep j (x ∷ xs) = by_test (keep x) (fewer keep j xs) (queued_count-cons j x xs)
  where
    by_test : (b : Bool) → queued_count j (filter keep xs) ≤ queued_count j xs → queued_count j (x ∷ xs) ≡ one_if (is_post_of j x) + queued_count j xs → queued_count j (if b then x ∷ filter keep xs else filter keep xs) ≤ queued_count j (x ∷ xs)
    by_test true h c = let d = queued_count-cons j x (filter keep xs) in omega (arith, h, c, d)
    by_test false h c = omega (arith, h, c)

-- without the last identifier the range is one shorter
range_less : (a m : ℕ) (xs : List Post) → AllWithin a (suc m) xs → AllWithin a m (without (a + suc m) xs)
unfolding without
range_less a m [] h = tt
range_less a m (x ∷ xs) h = by_test (is_post_of (a + suc m) x) refl (range_less a m xs h.2)
  where
    by_test : (b : Bool) → is_post_of (a + suc m) x ≡ b → AllWithin a m (filter (λ x. not (is_post_of (a + suc m) x)) xs)
        → AllWithin a m (if not b then x ∷ filter (λ x. not (is_post_of (a + suc m) x)) xs else filter (λ x. not (is_post_of (a + suc m) x)) xs)
    by_test true t r = r
    by_test false t r = let h0 = h.0 in let h1 = h.1 in (h0, grind (arith, t, h1), r)

none_within : (a : ℕ) (xs : List Post) → AllWithin a 0 xs → length xs ≤ 0
none_within a [] h = omega arith
none_within a (x ∷ xs) h = let h0 = h.0 in let h1 = h.1 in absurd (omega (arith, h0, h1))

no_more : (a m : ℕ) (xs : List Post) → AllWithin a m xs → ((s : ℕ) → a < s → s ≤ a + m → queued_count s xs ≤ 1) → length xs ≤ m
unfolding without
no_more a zero xs h c = none_within a xs h
no_more a (suc m) xs h c =
    let s = a + suc m in
    let ih = no_more a m (without s xs) (range_less a m xs h) (λ j p q. let f = fewer (λ x. not (is_post_of s x)) j xs in let g = c j p (omega (arith, q)) in omega (arith, f, g)) in
    let l = shorter s xs in
    let o = c s (omega arith) (omega arith) in
    omega (arith, ih, l, o)

-- the normal queue has two ranges
is_low : Post → Bool
is_low x = nat_le (smid_in x.descriptor) 256

both_parts : (xs : List Post) → length xs ≡ length (filter is_low xs) + length (filter (λ x. not (is_low x)) xs)
both_parts [] = refl
both_parts (x ∷ xs) = by_test (is_low x) (both_parts xs)
  where
    by_test : (b : Bool) → length xs ≡ length (filter is_low xs) + length (filter (λ x. not (is_low x)) xs)
        → suc (length xs) ≡ length (if b then x ∷ filter is_low xs else filter is_low xs) + length (if not b then x ∷ filter (λ x. not (is_low x)) xs else filter (λ x. not (is_low x)) xs)
    by_test true h = omega (arith, h)
    by_test false h = omega (arith, h)

-- ---- of which class a post's identifier is

flags_posted : (f m s h : ℕ) → f < 256 → (f + m * 2 ^ 8 + s * 2 ^ 16 + h * 2 ^ 48) % 2 ^ 8 ≡ f
flags_posted f m s h a = omega arith

-- what the kind of a post says of its queue
high_by_kind : PostKind → Bool
high_by_kind kind.ScsiIo = false
high_by_kind kind.HighPriority = true
high_by_kind kind.Default = false

high_is : (k : PostKind) (m s h : ℕ) → is_high (post_descriptor k m s h) ≡ high_by_kind k
unfolding high_by_kind
high_is kind.ScsiIo m s h = ap (λ n. n == flags_of kind.HighPriority) (flags_posted 0 m s h (omega arith))
high_is kind.HighPriority m s h = ap (λ n. n == flags_of kind.HighPriority) (flags_posted 6 m s h (omega arith))
high_is kind.Default m s h = ap (λ n. n == flags_of kind.HighPriority) (flags_posted 8 m s h (omega arith))

-- the high queue's identifiers are those of one class, the other's those of two
abbrev IsPlaced : Bool → ℕ → Type 0
IsPlaced true s = IsIn class.High s
IsPlaced false s = IsIn class.ScsiIo s ⊎ IsIn class.Internal s

module _ (w : World) (h : History) (f : Facts w h) where
  placed : (p : Post) (s : ℕ) (r : Slot Request) → RecordStands w s r → PostIs w h p r → IsPlaced (is_high p.descriptor) s
  unfolding high_by_kind
  placed p s (Open (request.Command n)) st i = command (finmap.get w.host.cmds n) (finmap.get h.machine.requests n) i
    where
      command : (c : Option Cmd) (r : Option OpenRequest) → CommandPost w p c r → IsPlaced (is_high p.descriptor) s
      command (Some c) (Some r) i = subst (λ b. IsPlaced b s) (sym (ap is_high i.0 ∙ high_is kind.ScsiIo ((c.smid - 1) % host_queue_count w.host) c.smid c.handle)) (inl st.0)
      command (Some c) None i = absurd i
      command None r i = absurd i
  placed p s (Open (request.Abort n task)) st i = subst (λ b. IsPlaced b s) (sym (ap is_high i.0.0 ∙ high_is kind.HighPriority 0 (smid_in p.descriptor) 0)) st.0
  placed p s (Open (request.TargetReset address)) st i = subst (λ b. IsPlaced b s) (sym (ap is_high i.0 ∙ high_is kind.HighPriority 0 (smid_in p.descriptor) 0)) st
  placed p s (Open (request.Leave handle)) st i = subst (λ b. IsPlaced b s) (sym (ap is_high i.0.0 ∙ high_is kind.HighPriority 0 (smid_in p.descriptor) 0)) st
  placed p s (Open (request.Page handle)) st i = subst (λ b. IsPlaced b s) (sym (ap is_high i.0 ∙ high_is kind.Default 0 (smid_in p.descriptor) 0)) (inr st)
  placed p s (Open (request.Remove handle)) st i = subst (λ b. IsPlaced b s) (sym (ap is_high i.0 ∙ high_is kind.Default 0 (smid_in p.descriptor) 0)) (inr st)
  placed p s (Open (request.Ack event context)) st i = subst (λ b. IsPlaced b s) (sym (ap is_high i.0 ∙ high_is kind.Default 0 (smid_in p.descriptor) 0)) (inr st)
  placed p s (Open request.Notification) st i = subst (λ b. IsPlaced b s) (sym (ap is_high i.0 ∙ high_is kind.Default 0 (smid_in p.descriptor) 0)) (inr st)
  placed p s (Open request.PortEnable) st i = subst (λ b. IsPlaced b s) (sym (ap is_high i.0 ∙ high_is kind.Default 0 (smid_in p.descriptor) 0)) (inr st)
  placed p s Free st i = absurd i
  placed p s Parked st i = absurd i

  post_placed : (p : Post) → PostIsRecord w h p → IsPlaced (is_high p.descriptor) (smid_in p.descriptor)
  post_placed p i = placed p (smid_in p.descriptor) (slot w.host (smid_in p.descriptor)) (recorded w h f (smid_in p.descriptor) (PostIs w h p) (λ n. n) i) i

  -- ---- the two queues

  -- both ranges of the posts with one before them, which is in the first or not
  abbrev Both : Post → List Post → Bool → Type 0
  Both x xs b =
      AllWithin 0 256 (if b then x ∷ filter (λ x. nat_le (smid_in x.descriptor) 256) xs else filter (λ x. nat_le (smid_in x.descriptor) 256) xs)
      × AllWithin 264 16 (if not b then x ∷ filter (λ x. not (nat_le (smid_in x.descriptor) 256)) xs else filter (λ x. not (nat_le (smid_in x.descriptor) 256)) xs)

  high_within : (xs : List Post) → All (PostIsRecord w h) xs → others (λ (p : Post). is_high p.descriptor) xs ≡ 0 → AllWithin 256 8 xs
  high_within [] a z = tt
  high_within (x ∷ xs) a z =
      let c = others-cons (λ (p : Post). is_high p.descriptor) x xs in
      let i : IsIn class.High (smid_in x.descriptor) = subst (λ b. IsPlaced b (smid_in x.descriptor)) (by_none (is_high x.descriptor) (omega (arith, c, z))) (post_placed x (All-head (PostIsRecord w h) x xs a)) in
      (i.0, i.1, high_within xs (All-tail (PostIsRecord w h) x xs a) (omega (arith, c, z)))
    where
      by_none : (b : Bool) → one_if (not b) ≡ 0 → b ≡ true
      by_none true z = refl
      by_none false z = absurd (omega (arith, z))

  normal_within : (xs : List Post) → All (PostIsRecord w h) xs → how_many (λ (p : Post). is_high p.descriptor) xs ≡ 0 → AllWithin 0 256 (filter is_low xs) × AllWithin 264 16 (filter (λ x. not (is_low x)) xs)
  unfolding is_low
  normal_within [] a z = (tt, tt)
  normal_within (x ∷ xs) a z =
      let c = how_many-cons (λ (p : Post). is_high p.descriptor) x xs in
      let i : IsIn class.ScsiIo (smid_in x.descriptor) ⊎ IsIn class.Internal (smid_in x.descriptor) = subst (λ b. IsPlaced b (smid_in x.descriptor)) (false_by_none (is_high x.descriptor) (omega (arith, c, z))) (post_placed x (All-head (PostIsRecord w h) x xs a)) in
      by_class i (normal_within xs (All-tail (PostIsRecord w h) x xs a) (omega (arith, c, z)))
    where
      low : (s : ℕ) → s ≤ 256 → nat_le s 256 ≡ true
      low s l = grind (arith, l)

      high : (s : ℕ) → 264 < s → nat_le s 256 ≡ false
      high s l = grind (arith, l)

      by_class : IsIn class.ScsiIo (smid_in x.descriptor) ⊎ IsIn class.Internal (smid_in x.descriptor)
          → AllWithin 0 256 (filter (λ x. nat_le (smid_in x.descriptor) 256) xs) × AllWithin 264 16 (filter (λ x. not (nat_le (smid_in x.descriptor) 256)) xs)
          → Both x xs (nat_le (smid_in x.descriptor) 256)
      by_class (inl i) t = subst (Both x xs) (sym (low (smid_in x.descriptor) i.1)) ((i.0, i.1, t.0), t.1)
      by_class (inr i) t = subst (Both x xs) (sym (high (smid_in x.descriptor) i.0)) (t.0, (i.0, i.1, t.1))

  once : (s : ℕ) → (1 ≤ s) × (s ≤ 280) → queued_count s w.ioc.high + queued_count s w.ioc.normal ≤ 1
  once s r = let a = (f.flights.identifiers s r.0 r.1).at_most in omega (arith, a)

  high_say : length w.ioc.high ≤ 8
  high_say = no_more 256 8 w.ioc.high (high_within w.ioc.high f.messages.high f.flights.sorted.high) (λ s a m. let o = once s (omega (arith, a), omega (arith, m)) in omega (arith, o))

  low_say : length (filter is_low w.ioc.normal) ≤ 256
  low_say =
      no_more 0 256 (filter is_low w.ioc.normal) (normal_within w.ioc.normal f.messages.normal f.flights.sorted.normal).0
      (λ s a m. let o = once s (omega (arith, a), omega (arith, m)) in let g = fewer is_low s w.ioc.normal in omega (arith, o, g))

  rest_say : length (filter (λ x. not (is_low x)) w.ioc.normal) ≤ 16
  rest_say =
      no_more 264 16 (filter (λ x. not (is_low x)) w.ioc.normal) (normal_within w.ioc.normal f.messages.normal f.flights.sorted.normal).1
      (λ s a m. let o = once s (omega (arith, a), omega (arith, m)) in let g = fewer (λ x. not (is_low x)) s w.ioc.normal in omega (arith, o, g))

  pub queues_say : QueuesAreShort w
  queues_say = (high_say, let a = low_say in let b = rest_say in let l = both_parts w.ioc.normal in omega (arith, a, b, l))
