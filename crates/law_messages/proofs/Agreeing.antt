-- What a record says of a post holds in another world too, where that has as much of the record's number.
use Rattle.std.proofs.Common.{◌≡◌, ◌≢◌, ℕ, ◌+◌, ◌-◌, ◌%◌, ◌==◌, ◌⊎◌, inl, inr, Bool, true, false, List, [], ◌∷◌, ◌++◌, Option, Some, None, refl, ap, sym, ◌∙◌, subst, arith}
use Rattle.std.specs.Prelude.{All}
use Rattle.std.specs.FinMap as finmap
use Rattle.std.specs.Ordering.{nat_cmp}
use Rattle.std.proofs.lemmas.Bool.{eqb-true}
use Rattle.std.proofs.lemmas.List.Elements.{All-append, All-cons, All-head, All-nil, All-tail}
use Rattle.smid_pool.specs.Pool.{Slot, Free, Open, Parked, is_open}
use Rattle.mpi_rings.specs.declared.request_descriptor.PostKind.TheVariants as post
use Rattle.mpt_wire.specs.Machine.State.{OpenRequest}
use Rattle.mpt_wire.specs.Messages.Fields.{dev_handle_in, post_descriptor, smid_in}
use Rattle.mpt_trace.specs.declared.item.Down.{Down}
use Rattle.mpt_trace.specs.declared.item.Down.TheVariants as down
use Rattle.mpt_rules.specs.declared.post.Post.{Post}
use Rattle.mpt_rules.specs.declared.request.Request.{Request}
use Rattle.mpt_rules.specs.declared.request.Request.TheVariants as request
use Rattle.mpt_rules.specs.Host.Parts.{Cmd, host_queue_count}
use Rattle.mpt_rules.specs.World.Counts.{how_many, one_if, post_count, queued_count}
use Rattle.mpt_rules.specs.World.Places.{is_posted_as}
use Rattle.mpt_rules.specs.World.State.{World}
use Rattle.mpt_rules.specs.Ioc.Tables.{is_post_of}
use Rattle.law_facts.specs.History.{History}
use Rattle.law_facts.specs.Messages.{CommandPost, DownIsRecord, HasHandleOf, PostIs, PostIsRecord}
use Rattle.law_facts.specs.Words.{is_post, slot}
use Rattle.mpt_rules.proofs.Counts.{post_count-cons, post_count-nil, queued_count-cons, queued_count-nil}
use Rattle.law_moves.proofs.Counted.{how_many-cons}

abbrev pub Cmds : Type 0
Cmds = finmap.FinMap nat_cmp Cmd

abbrev pub Opens : Type 0
Opens = finmap.FinMap nat_cmp OpenRequest

-- ---- lists of which some pass no test

pub not_both : {T : Type 0} (b : Bool) → b ≡ false → b ≡ true → T
not_both true e f = absurd (cc)
not_both false e f = absurd (cc)

pub same : (n : ℕ) → (n == n) ≡ true
same n = grind arith

pub differ : (n s : ℕ) → (n == s) ≡ false → n ≢ s
differ n s e f = not_both (s == s) (subst (λ m. (m == s) ≡ false) f e) (same s)

pub turned_true : (x y : ℕ) → (x == y) ≡ true → (y == x) ≡ true
turned_true x y t = ap (λ n. y == n) (eqb-true x y t) ∙ same y

pub turned_false : (x y : ℕ) → (x == y) ≡ false → (y == x) ≡ false
turned_false x y t = by_test (y == x) refl
  where
    by_test : (b : Bool) → (y == x) ≡ b → b ≡ false
    by_test false e = refl
    by_test true e = not_both (x == y) t (turned_true y x e)

pub all_passing : {X : Type 0} (test : X → Bool) (P Q : X → Type 0) → ((x : X) → test x ≡ false → P x → Q x) → (xs : List X) → how_many test xs ≡ 0 → All P xs → All Q xs
all_passing test P Q f [] z a = All-nil Q
all_passing test P Q f (x ∷ xs) z a = by_test (test x) refl (how_many-cons test x xs) (λ y. all_passing test P Q f xs y (All-tail P x xs a))
  where
    by_test : (b : Bool) → test x ≡ b → how_many test (x ∷ xs) ≡ one_if (test x) + how_many test xs → (how_many test xs ≡ 0 → All Q xs) → All Q (x ∷ xs)
    by_test true e c t = let o : one_if (test x) ≡ 1 = ap one_if e in absurd (omega (arith, z, c, o))
    by_test false e c t = let o : one_if (test x) ≡ 0 = ap one_if e in All-cons Q x xs (f x e (All-head P x xs a)) (t (omega (arith, z, c, o)))

pub all_posted : (s : ℕ) (P Q : Down → Type 0) → ((x : Down) → is_posted_as s x ≡ false → P x → Q x) → (xs : List Down) → post_count s xs ≡ 0 → All P xs → All Q xs
unfolding post_count
all_posted s P Q f xs z a = all_passing (is_posted_as s) P Q f xs z a

pub all_queued : (s : ℕ) (P Q : Post → Type 0) → ((p : Post) → is_post_of s p ≡ false → P p → Q p) → (xs : List Post) → queued_count s xs ≡ 0 → All P xs → All Q xs
unfolding queued_count
all_queued s P Q f xs z a = all_passing (is_post_of s) P Q f xs z a

pub all_same : {X : Type 0} (P Q : X → Type 0) → ((x : X) → P x → Q x) → (xs : List X) → All P xs → All Q xs
all_same P Q f [] a = All-nil Q
all_same P Q f (x ∷ xs) a = All-cons Q x xs (f x (All-head P x xs a)) (all_same P Q f xs (All-tail P x xs a))

pub all_first : {X : Type 0} (P : X → Type 0) (xs ys : List X) → All P (xs ++ ys) → All P xs
all_first P [] ys a = All-nil P
all_first P (x ∷ xs) ys a = All-cons P x xs (All-head P x (xs ++ ys) a) (all_first P xs ys (All-tail P x (xs ++ ys) a))

pub all_last : {X : Type 0} (P : X → Type 0) (xs ys : List X) → All P (xs ++ ys) → All P ys
all_last P [] ys a = a
all_last P (x ∷ xs) ys a = all_last P xs ys (All-tail P x (xs ++ ys) a)

pub all_one : {X : Type 0} (P : X → Type 0) (x : X) → P x → All P (x ∷ [])
all_one P x p = All-cons P x [] p (All-nil P)

pub all_more : {X : Type 0} (P : X → Type 0) (xs : List X) (x : X) → All P xs → P x → All P (xs ++ x ∷ [])
all_more P xs x a p = All-append P xs (x ∷ []) a (all_one P x p)

-- what isn't a post is as its record names it
pub no_post_fits : (w : World) (h : History) (x : Down) → is_post x ≡ false → DownIsRecord w h x
no_post_fits w h (down.Post d f p) e = absurd (cc)
no_post_fits w h (down.Write reg value) e = tt
no_post_fits w h (down.Read reg) e = tt
no_post_fits w h (down.Return address index) e = tt
no_post_fits w h down.Stop e = tt

pub no_posts_fit : (w : World) (h : History) (xs : List Down) → how_many is_post xs ≡ 0 → All (DownIsRecord w h) xs
no_posts_fit w h xs z = all_passing is_post (λ x. Unit {0}) (DownIsRecord w h) (λ x e u. no_post_fits w h x e) xs z (each xs)
  where
    each : (ys : List Down) → All (λ x. Unit {0}) ys
    each [] = All-nil (λ x. Unit {0})
    each (y ∷ ys) = All-cons (λ x. Unit {0}) y ys tt (each ys)

-- ---- what host and machine have of a request's number

-- the host has the command as before; one that an abort names may be closed meanwhile
abbrev pub CmdsAgree : Cmds → Cmds → Request → Type 0
CmdsAgree before after (request.Command n) = finmap.get after n ≡ finmap.get before n
CmdsAgree before after (request.Abort n task) = (finmap.get after n ≡ finmap.get before n) ⊎ (finmap.get after n ≡ None)
CmdsAgree before after r = Unit {0}

abbrev pub OpensAgree : Opens → Opens → Request → Type 0
OpensAgree before after (request.Command n) = finmap.get after n ≡ finmap.get before n
OpensAgree before after r = Unit {0}

pub cmds_stay : (c : Cmds) (r : Request) → CmdsAgree c c r
cmds_stay c (request.Command n) = refl
cmds_stay c (request.Abort n task) = inl refl
cmds_stay c (request.TargetReset address) = tt
cmds_stay c (request.Leave handle) = tt
cmds_stay c (request.Page handle) = tt
cmds_stay c (request.Remove handle) = tt
cmds_stay c (request.Ack event context) = tt
cmds_stay c request.Notification = tt
cmds_stay c request.PortEnable = tt

pub cmds_follow : (a b c : Cmds) (r : Request) → CmdsAgree a b r → CmdsAgree b c r → CmdsAgree a c r
cmds_follow a b c (request.Command n) x y = y ∙ x
cmds_follow a b c (request.Abort n task) x (inr y) = inr y
cmds_follow a b c (request.Abort n task) (inl x) (inl y) = inl (y ∙ x)
cmds_follow a b c (request.Abort n task) (inr x) (inl y) = inr (y ∙ x)
cmds_follow a b c (request.TargetReset address) x y = tt
cmds_follow a b c (request.Leave handle) x y = tt
cmds_follow a b c (request.Page handle) x y = tt
cmds_follow a b c (request.Remove handle) x y = tt
cmds_follow a b c (request.Ack event context) x y = tt
cmds_follow a b c request.Notification x y = tt
cmds_follow a b c request.PortEnable x y = tt

pub opens_stay : (c : Opens) (r : Request) → OpensAgree c c r
opens_stay c (request.Command n) = refl
opens_stay c (request.Abort n task) = tt
opens_stay c (request.TargetReset address) = tt
opens_stay c (request.Leave handle) = tt
opens_stay c (request.Page handle) = tt
opens_stay c (request.Remove handle) = tt
opens_stay c (request.Ack event context) = tt
opens_stay c request.Notification = tt
opens_stay c request.PortEnable = tt

pub opens_equal : (a b : Opens) (r : Request) → b ≡ a → OpensAgree a b r
opens_equal a b r e = subst (λ x. OpensAgree a x r) (sym e) (opens_stay a r)

pub handle_stays : (g : ℕ) (o p : Option Cmd) → (p ≡ o) ⊎ (p ≡ None) → HasHandleOf g o → HasHandleOf g p
handle_stays g o p (inl e) a = subst (HasHandleOf g) (sym e) a
handle_stays g o p (inr e) a = subst (HasHandleOf g) (sym e) tt

module _ (w : World) (h : History) (v : World) (k : History) (queues : host_queue_count v.host ≡ host_queue_count w.host) where
  command_moves : (p : Post) (c : Option Cmd) (r : Option OpenRequest) → CommandPost w p c r → CommandPost v p c r
  command_moves p None r a = a
  command_moves p (Some c) None a = a
  command_moves p (Some c) (Some r) a = (subst (λ q. p.descriptor ≡ post_descriptor post.ScsiIo ((c.smid - 1) % q) c.smid c.handle) (sym queues) a.0, a.1, a.2)

  pub post_moves : (p : Post) (r : Request) → CmdsAgree w.host.cmds v.host.cmds r → OpensAgree h.machine.requests k.machine.requests r → PostIs w h p (Open r) → PostIs v k p (Open r)
  post_moves p (request.Command n) c o a =
      subst (λ x. CommandPost v p x (finmap.get k.machine.requests n)) (sym c) (subst (λ x. CommandPost v p (finmap.get w.host.cmds n) x) (sym o) (command_moves p (finmap.get w.host.cmds n) (finmap.get h.machine.requests n) a))
  post_moves p (request.Abort n task) c o a = (a.0, handle_stays (dev_handle_in p.frame) (finmap.get w.host.cmds n) (finmap.get v.host.cmds n) c a.1)
  post_moves p (request.TargetReset address) c o a = a
  post_moves p (request.Leave handle) c o a = a
  post_moves p (request.Page handle) c o a = a
  post_moves p (request.Remove handle) c o a = a
  post_moves p (request.Ack event context) c o a = a
  post_moves p request.Notification c o a = a
  post_moves p request.PortEnable c o a = a

-- ---- identifiers keep their records, but one

pub record Follows (w : World) (h : History) (v : World) (k : History) (hand : ℕ) : Type 0 where
  pub queues : host_queue_count v.host ≡ host_queue_count w.host
  pub slots : (s : ℕ) (r : Request) → s ≢ hand → slot w.host s ≡ Open r → slot v.host s ≡ Open r
  pub cmds : (s : ℕ) (r : Request) → s ≢ hand → slot w.host s ≡ Open r → CmdsAgree w.host.cmds v.host.cmds r
  pub opens : (s : ℕ) (r : Request) → s ≢ hand → slot w.host s ≡ Open r → OpensAgree h.machine.requests k.machine.requests r

module _ (w : World) (h : History) (v : World) (k : History) (hand : ℕ) (f : Follows w h v k hand) where
  pub record_moves : (p : Post) → smid_in p.descriptor ≢ hand → PostIsRecord w h p → PostIsRecord v k p
  record_moves p n a = by_slot (slot w.host (smid_in p.descriptor)) refl a
    where
      by_slot : (x : Slot Request) → slot w.host (smid_in p.descriptor) ≡ x → PostIs w h p x → PostIsRecord v k p
      by_slot Free e a = absurd a
      by_slot Parked e a = absurd a
      by_slot (Open r) e a = subst (PostIs v k p) (sym (f.slots (smid_in p.descriptor) r n e)) (post_moves w h v k f.queues p r (f.cmds (smid_in p.descriptor) r n e) (f.opens (smid_in p.descriptor) r n e) a)

  pub item_moves : (x : Down) → is_posted_as hand x ≡ false → DownIsRecord w h x → DownIsRecord v k x
  item_moves (down.Post d g p) n a = record_moves (record { descriptor = d; frame = g; payload = p }) (differ (smid_in d) hand n) a
  item_moves (down.Write reg value) n a = tt
  item_moves (down.Read reg) n a = tt
  item_moves (down.Return address index) n a = tt
  item_moves down.Stop n a = tt

  pub items_move : (xs : List Down) → post_count hand xs ≡ 0 → All (DownIsRecord w h) xs → All (DownIsRecord v k) xs
  items_move xs z a = all_posted hand (DownIsRecord w h) (DownIsRecord v k) item_moves xs z a

  pub queue_moves : (xs : List Post) → queued_count hand xs ≡ 0 → All (PostIsRecord w h) xs → All (PostIsRecord v k) xs
  queue_moves xs z a = all_queued hand (PostIsRecord w h) (PostIsRecord v k) (λ p n. record_moves p (differ (smid_in p.descriptor) hand n)) xs z a

-- an identifier that isn't open has no posts
module _ (w : World) (h : History) (s : ℕ) (closed : is_open (slot w.host s) ≡ false) where
  none_of : (p : Post) (y : Slot Request) → is_open y ≡ false → PostIs w h p y → ⊥
  none_of p Free e f = f
  none_of p Parked e f = f
  none_of p (Open r) e f = absurd (cc)

  not_post_of : (p : Post) → PostIsRecord w h p → (smid_in p.descriptor == s) ≡ false
  not_post_of p b = by_key (smid_in p.descriptor == s) refl
    where
      by_key : (c : Bool) → (smid_in p.descriptor == s) ≡ c → c ≡ false
      by_key false t = refl
      by_key true t = absurd (none_of p (slot w.host s) closed (subst (λ n. PostIs w h p (slot w.host n)) (eqb-true (smid_in p.descriptor) s t) b))

  not_posted_as : (x : Down) → DownIsRecord w h x → is_posted_as s x ≡ false
  not_posted_as (down.Post d f p) b = not_post_of (record { descriptor = d; frame = f; payload = p }) b
  not_posted_as (down.Write reg value) b = refl
  not_posted_as (down.Read reg) b = refl
  not_posted_as (down.Return address index) b = refl
  not_posted_as down.Stop b = refl

  pub none_posted : (xs : List Down) → All (DownIsRecord w h) xs → post_count s xs ≡ 0
  none_posted [] a = post_count-nil s
  none_posted (x ∷ xs) a =
      let c = post_count-cons s x xs in let n = ap one_if (not_posted_as x (All-head (DownIsRecord w h) x xs a)) in let t = none_posted xs (All-tail (DownIsRecord w h) x xs a) in
      omega (arith, c, n, t)

  pub none_queued : (xs : List Post) → All (PostIsRecord w h) xs → queued_count s xs ≡ 0
  none_queued [] a = queued_count-nil s
  none_queued (x ∷ xs) a =
      let c = queued_count-cons s x xs in let n = ap one_if (not_post_of x (All-head (PostIsRecord w h) x xs a)) in let t = none_queued xs (All-tail (PostIsRecord w h) x xs a) in
      omega (arith, c, n, t)
