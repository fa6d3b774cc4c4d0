-- Lists that lose elements: what stands behind what in them, and the lines of posts in the cases in which the host stays.
use Rattle.std.proofs.Common.{◌≡◌, ℕ, ◌+◌, ◌≤◌, ◌==◌, ◌&&◌, ◌||◌, cond, not, Bool, true, false, if◌then◌else◌, List, [], ◌∷◌, ◌++◌, Option, Some, None, refl, ap, sym, ◌∙◌, subst, arith, append_assoc, append-nil}
use Rattle.std.specs.Prelude.{All}
use Rattle.std.specs.List.{filter}
use Rattle.std.proofs.lemmas.Bool.{eqb-true}
use Rattle.std.proofs.lemmas.List.Elements.{All-head, All-tail}
use Rattle.mpi_doorbell.specs.DoorRegisters.{is_fault, register_written}
use Rattle.mpi_doorbell.specs.declared.effect.Effect.{Effect}
use Rattle.mpi_doorbell.specs.declared.effect.Effect.TheVariants as effect
use Rattle.mpi_rings.specs.RequestDescriptor.{flags_of}
use Rattle.mpi_rings.specs.declared.request_descriptor.PostKind.{PostKind}
use Rattle.mpi_rings.specs.declared.request_descriptor.PostKind.TheVariants as post
use Rattle.mpt_wire.specs.Messages.Fields.{flags_in, kind_by_flags, kind_in, smid_in}
use Rattle.mpt_trace.specs.declared.item.Down.{Down}
use Rattle.mpt_trace.specs.declared.item.Down.TheVariants as down
use Rattle.mpt_rules.specs.declared.post.Post.{Post}
use Rattle.mpt_rules.specs.Ioc.Parts.{Ioc}
use Rattle.mpt_rules.specs.Ioc.Posts as posts
use Rattle.mpt_rules.specs.Ioc.Registers as registers
use Rattle.mpt_rules.specs.Ioc.Tables.{is_operational, is_unanswered}
use Rattle.mpt_rules.specs.Ioc.Takes as adapter
use Rattle.mpt_rules.specs.World.Counts.{how_many, one_if}
use Rattle.mpt_rules.specs.World.Lines.{high_posts, is_high, normal_posts}
use Rattle.mpt_rules.proofs.Lines.{high_posts-cons, normal_posts-cons}
use Rattle.law_moves.proofs.Counted.{how_many-cons, how_many-nil, later, later-cons, later-le, later-nil}
use Rattle.law_moves.proofs.IocTakes as leaf
use Rattle.law_moves.proofs.IocTakes.{shook}
use Rattle.law_removals.proofs.IocStays.{Loses, Shrinks, Stays}

-- the first list is the second without some of its elements
pub data Part {X : Type 0} : List X → List X → Type 0 where
  Empty : Part [] []
  Keeps : (x : X) (xs ys : List X) → Part xs ys → Part (x ∷ xs) (x ∷ ys)
  Drops : (x : X) (xs ys : List X) → Part xs ys → Part xs (x ∷ ys)

pub part_itself : {X : Type 0} (xs : List X) → Part xs xs
part_itself [] = Empty
part_itself (x ∷ xs) = Keeps x xs xs (part_itself xs)

pub part_none : {X : Type 0} (xs : List X) → Part [] xs
part_none [] = Empty
part_none (x ∷ xs) = Drops x [] xs (part_none xs)

pub part_append : {X : Type 0} (us vs cs ds : List X) → Part us vs → Part cs ds → Part (us ++ cs) (vs ++ ds)
part_append us vs cs ds Empty q = q
part_append us vs cs ds (Keeps x xs ys p) q = Keeps x (xs ++ cs) (ys ++ ds) (part_append xs ys cs ds p q)
part_append us vs cs ds (Drops x xs ys p) q = Drops x (xs ++ cs) (ys ++ ds) (part_append xs ys cs ds p q)

pub part_filter : {X : Type 0} (test : X → Bool) (xs : List X) → Part (filter test xs) xs
part_filter test [] = Empty
part_filter test (x ∷ xs) = by_test (test x) (part_filter test xs)
  where
    by_test : (b : Bool) → Part (filter test xs) xs → Part (if b then x ∷ filter test xs else filter test xs) (x ∷ xs)
    by_test true p = Keeps x (filter test xs) xs p
    by_test false p = Drops x (filter test xs) xs p

pub part_count : {X : Type 0} (test : X → Bool) (xs ys : List X) → Part xs ys → how_many test xs ≤ how_many test ys
part_count test xs ys Empty = omega arith
part_count test xs ys (Keeps x us vs p) = let a = how_many-cons test x us in let b = how_many-cons test x vs in let h = part_count test us vs p in omega (arith, a, b, h)
part_count test xs ys (Drops x us vs p) = let b = how_many-cons test x vs in let h = part_count test us vs p in omega (arith, b, h)

-- what stands behind nothing in the whole list does so in the part
pub part_later : {X : Type 0} (t p : X → Bool) (xs ys : List X) → Part xs ys → later t p ys ≡ 0 → later t p xs ≡ 0
part_later t p xs ys Empty z = z
part_later t p xs ys (Keeps x us vs q) z = by_test (t x) (later-cons t p x us) (later-cons t p x vs) (part_count p us vs q) (λ w. part_later t p us vs q w)
  where
    by_test : (b : Bool) → later t p (x ∷ us) ≡ cond b (how_many p us) (later t p us) → later t p (x ∷ vs) ≡ cond b (how_many p vs) (later t p vs) → how_many p us ≤ how_many p vs → (later t p vs ≡ 0 → later t p us ≡ 0) → later t p (x ∷ us) ≡ 0
    by_test true e f l g = omega (arith, e, f, l, z)
    by_test false e f l g = e ∙ g (sym f ∙ z)
part_later t p xs ys (Drops x us vs q) z = by_test (t x) (later-cons t p x vs) (part_count p us vs q) (later-le t p us) (λ w. part_later t p us vs q w)
  where
    by_test : (b : Bool) → later t p (x ∷ vs) ≡ cond b (how_many p vs) (later t p vs) → how_many p us ≤ how_many p vs → later t p us ≤ how_many p us → (later t p vs ≡ 0 → later t p us ≡ 0) → later t p us ≡ 0
    by_test true e l m g = omega (arith, e, l, m, z)
    by_test false e l m g = g (sym e ∙ z)

-- tests that agree on a list
pub same_count : {X : Type 0} (p q : X → Bool) (xs : List X) → All (λ x. p x ≡ q x) xs → how_many p xs ≡ how_many q xs
same_count p q [] a = how_many-nil p ∙ sym (how_many-nil q)
same_count p q (x ∷ xs) a = let c = how_many-cons p x xs in let d = how_many-cons q x xs in let h = same_count p q xs (All-tail (λ y. p y ≡ q y) x xs a) in let e = ap one_if (All-head (λ y. p y ≡ q y) x xs a) in omega (arith, c, d, h, e)

pub same_later : {X : Type 0} (t u p q : X → Bool) (xs : List X) → All (λ x. t x ≡ u x) xs → All (λ x. p x ≡ q x) xs → later t p xs ≡ later u q xs
same_later t u p q [] a b = later-nil t p ∙ sym (later-nil u q)
same_later t u p q (x ∷ xs) a b =
    let e = All-head (λ y. t y ≡ u y) x xs a in
    let c = same_count p q xs (All-tail (λ y. p y ≡ q y) x xs b) in
    let h = same_later t u p q xs (All-tail (λ y. t y ≡ u y) x xs a) (All-tail (λ y. p y ≡ q y) x xs b) in
    later-cons t p x xs ∙ (ap (λ k. cond k (how_many p xs) (later t p xs)) e ∙ (ap (λ n. cond (u x) n (later t p xs)) c ∙ (ap (λ n. cond (u x) (how_many q xs) n) h ∙ sym (later-cons u q x xs))))

pub shrunk : (xs ys : List Post) → Shrinks xs ys → Part ys xs
shrunk xs ys Stays = part_itself xs
shrunk xs ys (Loses test) = part_filter test xs

-- ---- the controller takes an item: both lines stay, but for what is dropped

abbrev pub NormalIn : Ioc → List Down → List Post
NormalIn i xs = i.normal ++ normal_posts xs

abbrev pub HighIn : Ioc → List Down → List Post
HighIn i xs = i.high ++ high_posts xs

-- an item that is no post
abbrev pub HasPost : Down → Type 0
HasPost (down.Post d f p) = Unit {0}
HasPost x = ⊥

pub record LinesIn (i k : Ioc) (x : Down) (xs : List Down) : Type 0 where
  pub normal : Part (NormalIn k xs) (NormalIn i (x ∷ xs))
  pub high : Part (HighIn k xs) (HighIn i (x ∷ xs))

normal_option : (o : Option Post) (ps : List Post) → Part ps (Rattle.std.specs.List.cons_option o ps)
normal_option None ps = part_itself ps
normal_option (Some p) ps = Drops p ps ps (part_itself ps)

-- the item is dropped, and so may be what is queued
dropped : (i k : Ioc) (x : Down) (xs : List Down) → Part k.normal i.normal → Part k.high i.high → LinesIn i k x xs
dropped i k x xs n h =
    record {
      normal = part_append k.normal i.normal (normal_posts xs) (normal_posts (x ∷ xs)) n (subst (Part (normal_posts xs)) (sym (normal_posts-cons x xs)) (normal_option (Rattle.mpt_rules.specs.World.Lines.normal_post x) (normal_posts xs)));
      high = part_append k.high i.high (high_posts xs) (high_posts (x ∷ xs)) h (subst (Part (high_posts xs)) (sym (high_posts-cons x xs)) (normal_option (Rattle.mpt_rules.specs.World.Lines.high_post x) (high_posts xs)));
    }

same_queues : (i k : Ioc) (x : Down) (xs : List Down) → k.normal ≡ i.normal → k.high ≡ i.high → LinesIn i k x xs
same_queues i k x xs e f = dropped i k x xs (subst (λ ps. Part ps i.normal) (sym e) (part_itself i.normal)) (subst (λ ps. Part ps i.high) (sym f) (part_itself i.high))

module _ (i : Ioc) (d : ℕ) (f p : List ℕ) (xs : List Down) where
  abbrev it : Post
  it = record { descriptor = d; frame = f; payload = p }

  abbrev Out : Ioc → Type 0
  Out k = LinesIn i k (down.Post d f p) xs

  normal_end : is_high d ≡ false → Part ((i.normal ++ it ∷ []) ++ normal_posts xs) (i.normal ++ normal_posts (down.Post d f p ∷ xs))
  normal_end e =
      let a : normal_posts (down.Post d f p ∷ xs) ≡ it ∷ normal_posts xs = normal_posts-cons (down.Post d f p) xs ∙ ap (λ b. Rattle.std.specs.List.cons_option (if b then None else Some it) (normal_posts xs)) e in
      subst (λ ys. Part ((i.normal ++ it ∷ []) ++ normal_posts xs) (i.normal ++ ys)) (sym a) (subst (λ ys. Part ys (i.normal ++ (it ∷ normal_posts xs))) (sym (append_assoc i.normal (it ∷ []) (normal_posts xs))) (part_itself (i.normal ++ (it ∷ normal_posts xs))))

  high_end : is_high d ≡ true → Part ((i.high ++ it ∷ []) ++ high_posts xs) (i.high ++ high_posts (down.Post d f p ∷ xs))
  high_end e =
      let a : high_posts (down.Post d f p ∷ xs) ≡ it ∷ high_posts xs = high_posts-cons (down.Post d f p) xs ∙ ap (λ b. Rattle.std.specs.List.cons_option (if b then Some it else None) (high_posts xs)) e in
      subst (λ ys. Part ((i.high ++ it ∷ []) ++ high_posts xs) (i.high ++ ys)) (sym a) (subst (λ ys. Part ys (i.high ++ (it ∷ high_posts xs))) (sym (append_assoc i.high (it ∷ []) (high_posts xs))) (part_itself (i.high ++ (it ∷ high_posts xs))))

  flags_high : (k : PostKind) → kind_in d ≡ Some k → is_high d ≡ true → kind_by_flags (flags_of post.HighPriority) ≡ Some k
  flags_high k e t = sym (ap kind_by_flags (eqb-true (flags_in d) (flags_of post.HighPriority) t)) ∙ e

  kind_low : (k : PostKind) → kind_in d ≡ Some k → (kind_by_flags (flags_of post.HighPriority) ≡ Some k → ⊥) → is_high d ≡ false
  kind_low k e n = by_test (is_high d) refl
    where
      by_test : (b : Bool) → is_high d ≡ b → b ≡ false
      by_test false t = refl
      by_test true t = absurd (n (flags_high k e t))

  queued : (k : PostKind) → kind_in d ≡ Some k → Out (posts.with_post_queued i it k)
  queued post.ScsiIo e =
      let b = same_queues i i (down.Post d f p) xs refl refl in
      record { normal = normal_end (kind_low post.ScsiIo e (λ z. absurd (cc))); high = b.high }
  queued post.Default e =
      let b = same_queues i i (down.Post d f p) xs refl refl in
      record { normal = normal_end (kind_low post.Default e (λ z. absurd (cc))); high = b.high }
  queued post.HighPriority e =
      let b = same_queues i i (down.Post d f p) xs refl refl in
      record { normal = b.normal; high = high_end (by_tests (flags_in d == flags_of post.ScsiIo) (flags_in d == flags_of post.HighPriority) (flags_in d == flags_of post.Default) e) }
    where
      by_tests : (a b c : Bool) → (if a then Some post.ScsiIo else (if b then Some post.HighPriority else (if c then Some post.Default else None))) ≡ Some post.HighPriority → b ≡ true
      by_tests true b c e = absurd (cc)
      by_tests false true c e = refl
      by_tests false false true e = absurd (cc)
      by_tests false false false e = absurd (cc)

  by_kind : (o : Option PostKind) → kind_in d ≡ o → Out (posts.posts_if i it o)
  by_kind None e = same_queues i (posts.posts_if i it None) (down.Post d f p) xs refl refl
  by_kind (Some k) e = by_tests (not (posts.is_in_class (posts.class_of k) (smid_in d))) (is_unanswered i (smid_in d))
    where
      by_tests : (a b : Bool) → Out (if a then Rattle.mpt_rules.specs.Ioc.Tables.faults i posts.bad_post else if b then Rattle.mpt_rules.specs.Ioc.Tables.faults i posts.identifier_in_use else posts.with_post_queued i it k)
      by_tests true b = same_queues i (Rattle.mpt_rules.specs.Ioc.Tables.faults i posts.bad_post) (down.Post d f p) xs refl refl
      by_tests false true = same_queues i (Rattle.mpt_rules.specs.Ioc.Tables.faults i posts.identifier_in_use) (down.Post d f p) xs refl refl
      by_tests false false = queued k e

  posted : Out (adapter.takes_down i (down.Post d f p)).part
  posted = by_state (is_operational i.door.state)
    where
      by_state : (b : Bool) → Out (if b then posts.ioc_takes_post i d f p else i)
      by_state true = by_kind (kind_in d) refl
      by_state false = same_queues i i (down.Post d f p) xs refl refl

module _ (i : Ioc) (xs : List Down) where
  shaken : (j k : Ioc) → leaf.Shook j k → (k.normal ≡ j.normal) × (k.high ≡ j.high)
  shaken j k (leaf.Stays t e) = (ap (λ (y : Ioc). y.normal) e, ap (λ (y : Ioc). y.high) e)
  shaken j k (leaf.ComesUp r t e) = (ap (λ (y : Ioc). y.normal) e, ap (λ (y : Ioc). y.high) e)

  written : (reg value : ℕ) (x : Effect) → LinesIn i (registers.after_effect (record i { door = (register_written i.door reg value).registers }) x).part (down.Write reg value) xs
  written reg value effect.None = same_queues i (record i { door = (register_written i.door reg value).registers }) (down.Write reg value) xs refl refl
  written reg value (effect.Fault code) = same_queues i (registers.after_effect (record i { door = (register_written i.door reg value).registers }) (effect.Fault code)).part (down.Write reg value) xs refl refl
  written reg value (effect.Asked count bytes) =
      let j : Ioc = record i { door = (register_written i.door reg value).registers } in
      let q = shaken j (registers.handshakes j (Rattle.std.proofs.Common.take count bytes)) (shook j (Rattle.std.proofs.Common.take count bytes)) in
      same_queues i (registers.handshakes j (Rattle.std.proofs.Common.take count bytes)) (down.Write reg value) xs q.0 q.1
  written reg value effect.UnitReset = dropped i (registers.after_effect (record i { door = (register_written i.door reg value).registers }) effect.UnitReset).part (down.Write reg value) xs (part_none i.normal) (part_none i.high)
  written reg value effect.AdapterReset = dropped i (registers.after_effect (record i { door = (register_written i.door reg value).registers }) effect.AdapterReset).part (down.Write reg value) xs (part_none i.normal) (part_none i.high)

  returned : (address index : ℕ) → LinesIn i (adapter.takes_down i (down.Return address index)).part (down.Return address index) xs
  returned address index = by_state (is_operational i.door.state)
    where
      by_test : (b : Bool) → LinesIn i (if b then Rattle.mpt_rules.specs.Ioc.Tables.faults i posts.bad_return else record i { ring = i.ring ++ posts.frame_near address ∷ [] }) (down.Return address index) xs
      by_test true = same_queues i (Rattle.mpt_rules.specs.Ioc.Tables.faults i posts.bad_return) (down.Return address index) xs refl refl
      by_test false = same_queues i (record i { ring = i.ring ++ posts.frame_near address ∷ [] }) (down.Return address index) xs refl refl

      by_state : (b : Bool) → LinesIn i (if b then posts.ioc_takes_return i address else i) (down.Return address index) xs
      by_state true = by_test (not (posts.is_frame_address address) || posts.frame_here i (posts.frame_near address))
      by_state false = same_queues i i (down.Return address index) xs refl refl

  stopped : LinesIn i (adapter.takes_down i down.Stop).part down.Stop xs
  stopped = by_fault (is_fault i.door.state)
    where
      by_fault : (b : Bool) → LinesIn i (if b then i else Rattle.mpt_rules.specs.Ioc.Replies.with_out_item i Rattle.mpt_trace.specs.declared.item.Out.TheVariants.Stop) down.Stop xs
      by_fault true = same_queues i i down.Stop xs refl refl
      by_fault false = same_queues i (Rattle.mpt_rules.specs.Ioc.Replies.with_out_item i Rattle.mpt_trace.specs.declared.item.Out.TheVariants.Stop) down.Stop xs refl refl

  pub down_taken : (x : Down) → LinesIn i (adapter.takes_down i x).part x xs
  down_taken (down.Post d f p) = posted i d f p xs
  down_taken (down.Write reg value) = written reg value (register_written i.door reg value).effect
  down_taken (down.Read reg) = same_queues i (adapter.takes_down i (down.Read reg)).part (down.Read reg) xs refl refl
  down_taken (down.Return address index) = returned address index
  down_taken down.Stop = stopped
