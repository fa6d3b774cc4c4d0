-- The identifiers of task management: what the host does with them, and what the rule makes of it.
use Rattle.std.proofs.Common.{◌≡◌, ℕ, zero, suc, ◌+◌, ◌-◌, ◌<◌, ◌≤◌, ◌==◌, not, cond, if◌then◌else◌, Bool, true, false, List, [], ◌∷◌, ◌++◌, append-nil, filter_map, length, map, set, length-set, Option, Some, None, refl, ap, sym, ◌∙◌, subst, arith}
use Rattle.std.specs.List.{cons_option}
use Rattle.std.proofs.lemmas.Bool.{eqb-true}
use Rattle.std.proofs.lemmas.Bool.Decides.{nat_tests}
use Rattle.std.proofs.lemmas.List.Elements.{filter_map-append}
use Rattle.smid_pool.specs.Pool.{Free, Open, Slot, is_free, is_open, least_free, slot_of}
use Rattle.smid_pool.specs.declared.class.Class.TheVariants as class
use Rattle.mpi_rings.specs.declared.request_descriptor.PostKind.{PostKind}
use Rattle.mpi_rings.specs.declared.request_descriptor.PostKind.TheVariants as post
use Rattle.mpt_trace.specs.declared.item.Down.{Down}
use Rattle.mpt_trace.specs.declared.item.Down.TheVariants as down
use Rattle.mpt_wire.specs.Machine.State.{put_at}
use Rattle.mpt_wire.specs.Messages.Fields.{post_descriptor, smid_in}
use Rattle.mpt_wire.specs.Queues.LeastPosts.{Another, ClassHeld, freed, granted_next, least_closed_from, least_of, made_with, makes}
use Rattle.mpt_rules.specs.declared.request.Request.{Request}
use Rattle.mpt_rules.specs.declared.request.Request.TheVariants as request
use Rattle.mpt_rules.specs.Host.Parts.{Host}
use Rattle.mpt_rules.specs.Host.Posts as asks
use Rattle.law_facts.specs.Ties.{another, made_as, made_by}
use Rattle.law_flights.proofs.Descriptors.{kind_posted, smid_posted}
use Rattle.law_flights.proofs.HostHolds.{slot_of-set}
use Rattle.law_flights.proofs.Least.{least_is}
use Rattle.law_classes.proofs.Leasts.{of_class}

-- ---- the least

all_open : (f : ℕ → Bool) (from n k : ℕ) → least_closed_from f from n ≡ None → from ≤ k → k < from + n → f k ≡ true
all_open f from zero k e a b = absurd (omega (arith, a, b))
all_open f from (suc n) k e a b = by_test (f from) refl e (λ x l. all_open f (from + 1) n k x l (omega (arith, b)))
  where
    later : (x : Bool) → (from == k) ≡ x → f from ≡ true → (from + 1 ≤ k → f k ≡ true) → f k ≡ true
    later true t g next = subst (λ j. f j ≡ true) (eqb-true from k t) g
    later false t g next = let d : from < k = grind (arith, a, t) in next (omega (arith, d))

    by_test : (x : Bool) → f from ≡ x → (if x then least_closed_from f (from + 1) n else Some from) ≡ None → (least_closed_from f (from + 1) n ≡ None → from + 1 ≤ k → f k ≡ true) → f k ≡ true
    by_test true g e next = later (from == k) refl g (next e)
    by_test false g e next = absurd (cc)

one_closed : (f : ℕ → Bool) (s from n : ℕ) → ((k : ℕ) → from ≤ k → k < from + n → (k == s) ≡ false → f k ≡ true) → f s ≡ false → from ≤ s → s < from + n → least_closed_from f from n ≡ Some s
one_closed f s from zero a e l m = absurd (omega (arith, l, m))
one_closed f s from (suc n) a e l m = by_key (from == s) refl (λ d. one_closed f s (from + 1) n (λ k p q. a k (omega (arith, p)) (omega (arith, q))) e d (omega (arith, m)))
  where
    by_key : (x : Bool) → (from == s) ≡ x → (from + 1 ≤ s → least_closed_from f (from + 1) n ≡ Some s) → (if f from then least_closed_from f (from + 1) n else Some from) ≡ Some s
    by_key true t next =
        let z = eqb-true from s t in
        let c : f from ≡ false = ap f z ∙ e in
        ap (λ b. if b then least_closed_from f (from + 1) n else Some from) c ∙ ap Some z
    by_key false t next =
        let d : from < s = grind (arith, l, t) in
        ap (λ b. if b then least_closed_from f (from + 1) n else Some from) (a from (omega arith) (omega arith) t) ∙ next (omega (arith, d))

-- ---- what the rule has

pub record HighFits (pool : List (Slot Request)) (out : List Down) (waits : List ℕ) (held : ClassHeld) : Type 0 where
  pub long : length pool ≡ 280
  pub made : held.made ≡ filter_map (made_by post.HighPriority) out
  pub waiting : held.waiting ≡ map another waits
  pub opened : (s : ℕ) → 257 ≤ s → s ≤ 264 → held.is_open s ≡ is_open (slot_of pool s)
  pub taken : (s : ℕ) → 257 ≤ s → s ≤ 264 → is_open (slot_of pool s) ≡ not (is_free (slot_of pool s))

abbrev pub Fits : Host → ClassHeld → Type 0
Fits h held = HighFits h.pool h.out h.wait_high held

pub least_same : (pool : List (Slot Request)) (out : List Down) (waits : List ℕ) (held : ClassHeld) → HighFits pool out waits held → least_of post.HighPriority held ≡ least_free class.High pool
least_same pool out waits held z = of_class class.High held.is_open pool z.long (λ s i. let a = i.0 in let b = i.1 in z.opened s (omega (arith, a)) (omega (arith, b)) ∙ z.taken s (omega (arith, a)) (omega (arith, b)))

-- ---- the outbox

made_on : (out xs : List Down) (made ys : List ℕ) → made ≡ filter_map (made_by post.HighPriority) out → filter_map (made_by post.HighPriority) xs ≡ ys → made ++ ys ≡ filter_map (made_by post.HighPriority) (out ++ xs)
made_on out xs made ys m e = ap (λ l. l ++ ys) m ∙ (ap (λ l. filter_map (made_by post.HighPriority) out ++ l) (sym e) ∙ sym (filter_map-append (made_by post.HighPriority) out xs))

-- no post of task management goes out
pub silent : (pool : List (Slot Request)) (out xs : List Down) (waits : List ℕ) (held : ClassHeld) → filter_map (made_by post.HighPriority) xs ≡ [] → HighFits pool out waits held → HighFits pool (out ++ xs) waits held
silent pool out xs waits held e z =
    record { long = z.long; made = sym (append-nil held.made) ∙ made_on out xs held.made [] z.made e; waiting = z.waiting; opened = z.opened; taken = z.taken }

not_high : (kind : PostKind) (m s t : ℕ) (frame payload : List ℕ) → m < 256 → s < 65536 → made_as post.HighPriority (Some kind) (smid_in (post_descriptor kind m s t)) frame ≡ None → filter_map (made_by post.HighPriority) (down.Post (post_descriptor kind m s t) frame payload ∷ []) ≡ []
not_high kind m s t frame payload a b e =
    ap (λ o. cons_option o []) (ap (λ k. made_as post.HighPriority k (smid_in (post_descriptor kind m s t)) frame) (kind_posted kind m s t a b) ∙ e)

pub default_is_none : (s : ℕ) (frame payload : List ℕ) → s < 65536 → filter_map (made_by post.HighPriority) (down.Post (post_descriptor post.Default 0 s 0) frame payload ∷ []) ≡ []
default_is_none s frame payload b = not_high post.Default 0 s 0 frame payload (omega arith) b refl

pub command_is_none : (m s t : ℕ) (frame payload : List ℕ) → m < 256 → s < 65536 → filter_map (made_by post.HighPriority) (down.Post (post_descriptor post.ScsiIo m s t) frame payload ∷ []) ≡ []
command_is_none m s t frame payload a b = not_high post.ScsiIo m s t frame payload a b refl

high_is_one : (s : ℕ) (frame payload : List ℕ) → s < 65536 → filter_map (made_by post.HighPriority) (down.Post (post_descriptor post.HighPriority 0 s 0) frame payload ∷ []) ≡ s ∷ []
high_is_one s frame payload b =
    ap (λ o. cons_option o [])
    (ap (λ k. made_as post.HighPriority k (smid_in (post_descriptor post.HighPriority 0 s 0)) frame) (kind_posted post.HighPriority 0 s 0 (omega arith) b) ∙ ap Some (smid_posted post.HighPriority 0 s 0 (omega arith) b))

-- ---- a slot is written

-- of another class
pub beside : (pool : List (Slot Request)) (out : List Down) (waits : List ℕ) (held : ClassHeld) (s : ℕ) (y : Slot Request) → 1 ≤ s → s ≤ 280 → ((k : ℕ) → 257 ≤ k → k ≤ 264 → (k == s) ≡ false) → HighFits pool out waits held → HighFits (set pool (s - 1) y) out waits held
beside pool out waits held s y a b d z =
    record {
      long = length-set pool (s - 1) y ∙ z.long;
      made = z.made;
      waiting = z.waiting;
      opened = λ k l m. z.opened k l m ∙ ap is_open (sym (same k l m));
      taken = λ k l m. ap is_open (same k l m) ∙ (z.taken k l m ∙ ap (λ x. not (is_free x)) (sym (same k l m)));
    }
  where
    same : (k : ℕ) → 257 ≤ k → k ≤ 264 → slot_of (set pool (s - 1) y) k ≡ slot_of pool k
    same k l m = slot_of-set pool s k y a (let t = z.long in omega (arith, a, b, t)) ∙ ap (λ c. cond c y (slot_of pool k)) (d k l m)

low_apart : (s : ℕ) → s ≤ 256 → (k : ℕ) → 257 ≤ k → k ≤ 264 → (k == s) ≡ false
low_apart s a k l m = grind (arith, nat_tests, a, l)

above_apart : (s : ℕ) → 265 ≤ s → (k : ℕ) → 257 ≤ k → k ≤ 264 → (k == s) ≡ false
above_apart s a k l m = grind (arith, nat_tests, a, m)

pub below : (pool : List (Slot Request)) (out : List Down) (waits : List ℕ) (held : ClassHeld) (s : ℕ) (y : Slot Request) → 1 ≤ s → s ≤ 256 → HighFits pool out waits held → HighFits (set pool (s - 1) y) out waits held
below pool out waits held s y a b z = beside pool out waits held s y a (omega (arith, b)) (low_apart s b) z

pub above : (pool : List (Slot Request)) (out : List Down) (waits : List ℕ) (held : ClassHeld) (s : ℕ) (y : Slot Request) → 265 ≤ s → s ≤ 280 → HighFits pool out waits held → HighFits (set pool (s - 1) y) out waits held
above pool out waits held s y a b z = beside pool out waits held s y (omega (arith, a)) b (above_apart s a) z

-- of the class
abbrev held_at : ClassHeld → ℕ → Bool → ClassHeld
held_at held s b = record held { is_open = put_at s b held.is_open }

within : (pool : List (Slot Request)) (out : List Down) (waits : List ℕ) (held : ClassHeld) (s : ℕ) (b : Bool) (y : Slot Request) → 257 ≤ s → s ≤ 264 → is_open y ≡ b → is_open y ≡ not (is_free y) → HighFits pool out waits held → HighFits (set pool (s - 1) y) out waits (held_at held s b)
within pool out waits held s b y l m e f z =
    record {
      long = length-set pool (s - 1) y ∙ z.long;
      made = z.made;
      waiting = z.waiting;
      opened = λ k p q. by_key k p q (k == s) ∙ ap is_open (sym (at k));
      taken = λ k p q. ap is_open (at k) ∙ (by_taken k p q (k == s) ∙ ap (λ x. not (is_free x)) (sym (at k)));
    }
  where
    at : (k : ℕ) → slot_of (set pool (s - 1) y) k ≡ cond (k == s) y (slot_of pool k)
    at k = slot_of-set pool s k y (omega (arith, l)) (let t = z.long in omega (arith, l, m, t))

    by_key : (k : ℕ) → 257 ≤ k → k ≤ 264 → (c : Bool) → (if c then b else held.is_open k) ≡ is_open (cond c y (slot_of pool k))
    by_key k p q true = sym e
    by_key k p q false = z.opened k p q

    by_taken : (k : ℕ) → 257 ≤ k → k ≤ 264 → (c : Bool) → is_open (cond c y (slot_of pool k)) ≡ not (is_free (cond c y (slot_of pool k)))
    by_taken k p q true = f
    by_taken k p q false = z.taken k p q

-- ---- a post of the class

pub posted : (pool : List (Slot Request)) (out : List Down) (waits : List ℕ) (held : ClassHeld) (s : ℕ) (r : Request) (frame payload : List ℕ) → 257 ≤ s → s ≤ 264 → HighFits pool out waits held
    → HighFits (set pool (s - 1) (Open r)) (out ++ down.Post (post_descriptor post.HighPriority 0 s 0) frame payload ∷ []) waits (record held { is_open = put_at s true held.is_open; made = held.made ++ s ∷ [] })
posted pool out waits held s r frame payload l m z =
    let w = within pool out waits held s true (Open r) l m refl refl z in
    record { long = w.long; made = made_on out (down.Post (post_descriptor post.HighPriority 0 s 0) frame payload ∷ []) held.made (s ∷ []) z.made (high_is_one s frame payload (omega (arith, m))); waiting = w.waiting; opened = w.opened; taken = w.taken }

-- it is posted under the least identifier, or waits
pub asks_leave : (h : Host) (handle : ℕ) (held : ClassHeld) → Fits h held → Fits (asks.asks_leave h handle) (makes post.HighPriority Another held)
asks_leave h handle held z = subst (λ o. Fits (asks.asks_leave h handle) (made_with o Another held)) (sym (least_same h.pool h.out h.wait_high held z)) (by_free (least_free class.High h.pool) refl)
  where
    by_free : (o : Option ℕ) → least_free class.High h.pool ≡ o → Fits (asks.posts_leave_or_waits h handle o) (made_with o Another held)
    by_free None e = record { long = z.long; made = z.made; waiting = ap (λ l. l ++ Another ∷ []) z.waiting ∙ joined h.wait_high; opened = z.opened; taken = z.taken }
      where
        joined : (xs : List ℕ) → map another xs ++ Another ∷ [] ≡ map another (xs ++ handle ∷ [])
        joined [] = refl
        joined (x ∷ xs) = ap (λ l. Another ∷ l) (joined xs)
    by_free (Some s) e =
        let i = (least_is class.High h.pool s e).inside in let i0 = i.0 in let i1 = i.1 in
        posted h.pool h.out h.wait_high held s (request.Leave handle) _ [] (omega (arith, i0)) (omega (arith, i1)) z

-- a task that finds the least
pub asked : (pool : List (Slot Request)) (out : List Down) (waits : List ℕ) (held : ClassHeld) (s : ℕ) (r : Request) (frame : List ℕ) → least_free class.High pool ≡ Some s → HighFits pool out waits held
    → HighFits (set pool (s - 1) (Open r)) (out ++ down.Post (post_descriptor post.HighPriority 0 s 0) frame [] ∷ []) waits (makes post.HighPriority Another held)
asked pool out waits held s r frame e z =
    let i = (least_is class.High pool s e).inside in let i0 = i.0 in let i1 = i.1 in
    subst (λ o. HighFits (set pool (s - 1) (Open r)) (out ++ down.Post (post_descriptor post.HighPriority 0 s 0) frame [] ∷ []) waits (made_with o Another held)) (sym (least_same pool out waits held z ∙ e))
    (posted pool out waits held s r frame [] (omega (arith, i0)) (omega (arith, i1)) z)

-- an identifier is freed, and given on
pub frees_high : (h : Host) (s : ℕ) (held : ClassHeld) → 257 ≤ s → s ≤ 264 → (1 ≤ length h.wait_high → least_of post.HighPriority held ≡ None) → Fits h held → Fits (asks.frees_high h s) (freed post.HighPriority s held)
frees_high h s held l m full z = subst (λ ws. Fits (asks.frees_high h s) (granted_next post.HighPriority ws (held_at held s false))) (sym z.waiting) (by_list h.wait_high refl)
  where
    free : HighFits (set h.pool (s - 1) Free) h.out h.wait_high (held_at held s false)
    free = within h.pool h.out h.wait_high held s false Free l m refl refl z

    by_list : (xs : List ℕ) → h.wait_high ≡ xs → Fits (asks.gives_high (asks.frees h s) s xs) (granted_next post.HighPriority (map another xs) (held_at held s false))
    by_list [] e = free
    by_list (handle ∷ rest) e = subst (λ o. Fits (asks.posts_leave (record (asks.frees h s) { wait_high = rest }) s handle) (made_with o Another (record (held_at held s false) { waiting = map another rest }))) (sym one) given
      where
        one : least_closed_from (put_at s false held.is_open) 257 8 ≡ Some s
        one =
            one_closed (put_at s false held.is_open) s 257 8
            (λ k a b d. ap (λ c. if c then false else held.is_open k) d ∙ all_open held.is_open 257 8 k (full (subst (λ ys. 1 ≤ length ys) (sym e) (omega arith))) a b)
            (let t : (s == s) ≡ true = grind arith in ap (λ c. if c then false else held.is_open s) t) l (omega (arith, m))

        mid : HighFits (set h.pool (s - 1) Free) h.out rest (record (held_at held s false) { waiting = map another rest })
        mid = record { long = free.long; made = free.made; waiting = refl; opened = free.opened; taken = free.taken }

        given : Fits (asks.posts_leave (record (asks.frees h s) { wait_high = rest }) s handle) (record { is_open = put_at s true (put_at s false held.is_open); made = held.made ++ s ∷ []; waiting = map another rest })
        given = posted (set h.pool (s - 1) Free) h.out rest (record (held_at held s false) { waiting = map another rest }) s (request.Leave handle) _ [] l m mid
