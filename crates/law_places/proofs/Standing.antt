-- Where all facts hold of a world, each identifier stands in it as `law_flights` says: found once at most, in the turn of its place.
use Rattle.std.proofs.Common.{◌≡◌, ℕ, zero, suc, ◌+◌, ◌*◌, ◌-◌, ◌%◌, ◌<◌, ◌≤◌, ◌==◌, nat_le, Bool, true, false, not, if◌then◌else◌, List, [], ◌∷◌, get_or, map, All, Option, Some, None, is_some, option_map, refl, ap, sym, ◌∙◌, subst, arith, mod-lt}
use Rattle.std.specs.FinMap as finmap
use Rattle.std.proofs.lemmas.List.{get_or_past}
use Rattle.std.proofs.lemmas.List.Elements.{All-head, All-tail}
use Rattle.smid_pool.specs.Class.{IsIn}
use Rattle.smid_pool.specs.Pool.{Slot, Free, Open, Parked, slot_of}
use Rattle.smid_pool.specs.declared.class.Class.{Class}
use Rattle.smid_pool.specs.declared.class.Class.TheVariants as class
use Rattle.mpi_rings.specs.declared.request_descriptor.PostKind.{PostKind}
use Rattle.mpi_rings.specs.declared.request_descriptor.PostKind.TheVariants as post
use Rattle.mpi_rings.specs.RequestDescriptor.{flags_of}
use Rattle.mpt_wire.specs.Machine.Causes.{is_resetting}
use Rattle.mpt_wire.specs.Machine.State.{OpenRequest}
use Rattle.mpt_wire.specs.Messages.Fields.{flags_in, kind_in, smid_in}
use Rattle.mpt_trace.specs.declared.item.Down.{Down}
use Rattle.mpt_trace.specs.declared.item.Down.TheVariants as down
use Rattle.mpt_rules.specs.declared.at_fabric.AtFabric.{AtFabric}
use Rattle.mpt_rules.specs.declared.at_fabric.AtFabric.TheVariants as at
use Rattle.mpt_rules.specs.declared.at_fabric.HeldReset.{HeldReset}
use Rattle.mpt_rules.specs.declared.post.Post.{Post}
use Rattle.mpt_rules.specs.declared.request.Request.{Request}
use Rattle.mpt_rules.specs.declared.request.Request.TheVariants as request
use Rattle.mpt_rules.specs.declared.said.Said.{Said}
use Rattle.mpt_rules.specs.declared.said.Said.TheVariants as said
use Rattle.mpt_rules.specs.Host.Parts.{Cmd, host_queue_count}
use Rattle.mpt_rules.specs.Ioc.Posts.{class_of, is_in_class}
use Rattle.mpt_rules.specs.Ioc.Places.{is_reply_of}
use Rattle.mpt_rules.specs.World.Counts.{how_many, one_if, post_count, queued_count, reply_count}
use Rattle.mpt_rules.specs.World.Lines.{down_line, is_high, said_of, up_line}
use Rattle.mpt_rules.specs.World.PlaceCounts.{replies_on, smid_count}
use Rattle.mpt_rules.specs.World.Places.{is_posted_as}
use Rattle.mpt_rules.specs.World.State.{World}
use Rattle.mpt_rules.proofs.Counts.{post_count-append, post_count-cons, post_count-nil, queued_count-cons, queued_count-nil, reply_count-append, reply_count-cons, reply_count-nil}
use Rattle.law_facts.specs.Facts.{Facts}
use Rattle.law_facts.specs.Flights.{RecordStands, turn_at}
use Rattle.law_facts.specs.History.{History}
use Rattle.law_facts.specs.Messages.{AnswersBy, CommandAt, CommandPost, DownIsRecord, HeldIs, HeldIsOf, KeptIs, PostIs, PostIsRecord, RequestIs, SaidIs}
use Rattle.law_facts.specs.Words.{others, slot}
use Rattle.law_flights.specs.Classes.{IsClassed, is_misfit, is_of_kind, misfits}
use Rattle.law_flights.specs.Flights as flight
use Rattle.law_flights.specs.Flights.{asked_at, at_fabric, at_host, held_as, replied_to, said_to, unopened}
use Rattle.law_flights.proofs.Descriptors.{kind_posted}
use Rattle.law_flights.proofs.HostHolds.{misfits-append, misfits-cons, misfits-nil, unopened-free}
use Rattle.law_flights.proofs.IocCarries.{IsNamed, is_placed, strays, strays-cons, strays-nil}
use Rattle.law_flights.proofs.Standing.{Stands, found}
use Rattle.law_flights.proofs.Tables.{held_as-cons, held_as-nil}
use Rattle.law_flights.proofs.World as world
use Rattle.law_moves.proofs.Counted.{false_by_none, how_many-cons, others-cons}
use Rattle.law_places.specs.Further.{VectorsFit}
use Rattle.law_places.proofs.Premises.{all_zero}

clash : {X : Type 0} (b : Bool) → b ≡ true → b ≡ false → X
clash true x y = absurd (cc)
clash false x y = absurd (cc)

-- ---- the class of a post

in_class : (c : Class) (s : ℕ) → IsIn c s → is_in_class c s ≡ true
in_class c s i = let a = i.0 in let b = i.1 in grind arith

-- the kind that the descriptor's flags name, and the class that goes with it
pub record PostStands (d s : ℕ) : Type 0 where
  pub kind : PostKind
  pub is : kind_in d ≡ Some kind
  pub classed : is_in_class (class_of kind) s ≡ true

abbrev is_high_kind : PostKind → Bool
is_high_kind post.ScsiIo = false
is_high_kind post.HighPriority = true
is_high_kind post.Default = false

high_kind : (d : ℕ) (k : PostKind) → kind_in d ≡ Some k → is_high d ≡ is_high_kind k
high_kind d k e = by_tests (flags_in d == flags_of post.ScsiIo) (flags_in d == flags_of post.HighPriority) (flags_in d == flags_of post.Default) refl refl e
  where
    apart : (n : ℕ) → (n == 0) ≡ true → (n == 6) ≡ false
    apart n e = grind (arith, e)

    by_tests : (a b c : Bool) → (flags_in d == 0) ≡ a → (flags_in d == 6) ≡ b → (if a then Some post.ScsiIo else if b then Some post.HighPriority else if c then Some post.Default else None) ≡ Some k → b ≡ is_high_kind k
    by_tests true b c x y e = let z : post.ScsiIo ≡ k = cc in sym y ∙ (apart (flags_in d) x ∙ ap is_high_kind z)
    by_tests false true c x y e = let z : post.HighPriority ≡ k = cc in ap is_high_kind z
    by_tests false false true x y e = let z : post.Default ≡ k = cc in ap is_high_kind z
    by_tests false false false x y e = absurd (cc)

placed_high : (d s : ℕ) → PostStands d s → is_high d ≡ true → is_placed true (kind_in d) s ≡ true
placed_high d s p e = ap (λ k. is_placed true k s) p.is ∙ by_kind p.kind (sym (high_kind d p.kind p.is) ∙ e) p.classed
  where
    by_kind : (k : PostKind) → is_high_kind k ≡ true → is_in_class (class_of k) s ≡ true → is_placed true (Some k) s ≡ true
    by_kind post.ScsiIo e c = absurd (cc)
    by_kind post.HighPriority e c = c
    by_kind post.Default e c = absurd (cc)

placed_normal : (d s : ℕ) → PostStands d s → is_high d ≡ false → is_placed false (kind_in d) s ≡ true
placed_normal d s p e = ap (λ k. is_placed false k s) p.is ∙ by_kind p.kind (sym (high_kind d p.kind p.is) ∙ e) p.classed
  where
    by_kind : (k : PostKind) → is_high_kind k ≡ false → is_in_class (class_of k) s ≡ true → is_placed false (Some k) s ≡ true
    by_kind post.ScsiIo e c = c
    by_kind post.HighPriority e c = absurd (cc)
    by_kind post.Default e c = c

of_kind : (d s : ℕ) → PostStands d s → is_of_kind (kind_in d) s ≡ true
of_kind d s p = ap (λ k. is_of_kind k s) p.is ∙ p.classed

none_there : (b : Bool) → b ≡ true → one_if (not b) ≡ 0
none_there true e = refl
none_there false e = absurd (cc)

-- ---- the count of the law's statement is this one

pub same_count : (w : World) (s : ℕ) → 1 ≤ s → smid_count w s ≡ found s w.host w.ioc w.down w.up
unfolding unopened asked_at held_as said_to replied_to
same_count w zero p = absurd (omega arith)
same_count w (suc k) p = let a = post_count-append (suc k) w.down w.host.out in omega (arith, a)

pub same_turn : (w : World) (s : ℕ) → 1 ≤ s → turn_at w s ≡ post_count s w.down + (2 * flight.at_ioc s w.ioc + 3 * replied_to s w.up)
unfolding unopened asked_at held_as said_to replied_to
same_turn w zero p = absurd (omega arith)
same_turn w (suc k) p = refl

-- the identifiers of requests
class_within : (c : Class) (s : ℕ) → IsIn c s → IsClassed s Free
class_within c s i = tt

-- the turn of an identifier, from 0 where there is none
abbrev pub turn_now : History → ℕ → ℕ
turn_now h s = if nat_le s 280 then h.turn s else 0

module _ (w : World) (h : History) (f : Facts w h) where
  -- past the table nothing is open
  pub far_free : (s : ℕ) → 280 < s → slot w.host s ≡ Free
  far_free zero l = absurd (omega (arith, l))
  far_free (suc i) l = let z = f.flights.sizes.pool in get_or_past w.host.pool i Free (omega (arith, l, z))

  -- ---- posts are made as their records say

  stands_as : (p : Post) (s : ℕ) → s ≤ 280 → smid_in p.descriptor ≡ s → (r : Slot Request) → RecordStands w s r → PostIs w h p r → PostStands p.descriptor s
  stands_as p s m e (Open (request.Command k)) st i = command (finmap.get w.host.cmds k) (finmap.get h.machine.requests k) st.1 i
    where
      command : (c : Option Cmd) (r : Option OpenRequest) → option_map (λ (c : Cmd). c.smid) c ≡ Some s → CommandPost w p c r → PostStands p.descriptor s
      command (Some c) (Some r) g i =
          let q : c.smid ≡ s = cc in
          let fq = f.flights.sizes.few_queues in let sq = f.flights.sizes.some_queue in
          let l = mod-lt (c.smid - 1) sq in
          record { kind = post.ScsiIo; is = ap kind_in i.0 ∙ kind_posted post.ScsiIo ((c.smid - 1) % host_queue_count w.host) c.smid c.handle (omega (arith, l, fq)) (omega (arith, q, m)); classed = in_class class.ScsiIo s st.0 }
      command (Some c) None g i = absurd i
      command None r g i = absurd i
  stands_as p s m e (Open (request.Abort k task)) st i = record { kind = post.HighPriority; is = ap kind_in i.0.0 ∙ kind_posted post.HighPriority 0 (smid_in p.descriptor) 0 (omega arith) (omega (arith, e, m)); classed = in_class class.High s st.0 }
  stands_as p s m e (Open (request.TargetReset address)) st i = record { kind = post.HighPriority; is = ap kind_in i.0 ∙ kind_posted post.HighPriority 0 (smid_in p.descriptor) 0 (omega arith) (omega (arith, e, m)); classed = in_class class.High s st }
  stands_as p s m e (Open (request.Leave handle)) st i = record { kind = post.HighPriority; is = ap kind_in i.0.0 ∙ kind_posted post.HighPriority 0 (smid_in p.descriptor) 0 (omega arith) (omega (arith, e, m)); classed = in_class class.High s st }
  stands_as p s m e (Open (request.Page handle)) st i = record { kind = post.Default; is = ap kind_in i.0 ∙ kind_posted post.Default 0 (smid_in p.descriptor) 0 (omega arith) (omega (arith, e, m)); classed = in_class class.Internal s st }
  stands_as p s m e (Open (request.Remove handle)) st i = record { kind = post.Default; is = ap kind_in i.0 ∙ kind_posted post.Default 0 (smid_in p.descriptor) 0 (omega arith) (omega (arith, e, m)); classed = in_class class.Internal s st }
  stands_as p s m e (Open (request.Ack event context)) st i = record { kind = post.Default; is = ap kind_in i.0 ∙ kind_posted post.Default 0 (smid_in p.descriptor) 0 (omega arith) (omega (arith, e, m)); classed = in_class class.Internal s st }
  stands_as p s m e (Open request.Notification) st i = record { kind = post.Default; is = ap kind_in i.0 ∙ kind_posted post.Default 0 (smid_in p.descriptor) 0 (omega arith) (omega (arith, e, m)); classed = in_class class.Internal s st }
  stands_as p s m e (Open request.PortEnable) st i = record { kind = post.Default; is = ap kind_in i.0 ∙ kind_posted post.Default 0 (smid_in p.descriptor) 0 (omega arith) (omega (arith, e, m)); classed = in_class class.Internal s st }
  stands_as p s m e Free st i = absurd i
  stands_as p s m e Parked st i = absurd i

  -- what a post names is an identifier
  pub named_post : (p : Post) (s : ℕ) → PostIs w h p (slot w.host s) → (1 ≤ s) × (s ≤ 280)
  named_post p zero i = absurd i
  named_post p (suc k) i = by_test (nat_le (suc k) 280) refl
    where
      by_test : (c : Bool) → nat_le (suc k) 280 ≡ c → (1 ≤ suc k) × (suc k ≤ 280)
      by_test true t = (omega arith, grind (arith, t))
      by_test false t = absurd (subst (PostIs w h p) (far_free (suc k) (grind (arith, t))) i)

  pub post_stands : (p : Post) → PostIsRecord w h p → PostStands p.descriptor (smid_in p.descriptor)
  post_stands p i =
      let m = named_post p (smid_in p.descriptor) i in
      stands_as p (smid_in p.descriptor) m.1 refl (slot w.host (smid_in p.descriptor)) (f.flights.identifiers (smid_in p.descriptor) m.0 m.1).recorded i

  high_sorted : (ps : List Post) → All (PostIsRecord w h) ps → others (λ (p : Post). is_high p.descriptor) ps ≡ 0 → strays true ps ≡ 0
  high_sorted [] a z = strays-nil true
  high_sorted (p ∷ ps) a z =
      let oc = others-cons (λ (p : Post). is_high p.descriptor) p ps in
      let sc = strays-cons true p ps in
      let r = high_sorted ps (All-tail (PostIsRecord w h) p ps a) (omega (arith, z, oc)) in
      let hi = true_of (is_high p.descriptor) (omega (arith, z, oc)) in
      let o = none_there (is_placed true (kind_in p.descriptor) (smid_in p.descriptor)) (placed_high p.descriptor (smid_in p.descriptor) (post_stands p (All-head (PostIsRecord w h) p ps a)) hi) in
      omega (arith, sc, r, o)
    where
      true_of : (b : Bool) → one_if (not b) ≡ 0 → b ≡ true
      true_of true e = refl
      true_of false e = absurd (omega (arith, e))

  normal_sorted : (ps : List Post) → All (PostIsRecord w h) ps → how_many (λ (p : Post). is_high p.descriptor) ps ≡ 0 → strays false ps ≡ 0
  normal_sorted [] a z = strays-nil false
  normal_sorted (p ∷ ps) a z =
      let oc = how_many-cons (λ (p : Post). is_high p.descriptor) p ps in
      let sc = strays-cons false p ps in
      let r = normal_sorted ps (All-tail (PostIsRecord w h) p ps a) (omega (arith, z, oc)) in
      let lo = false_by_none (is_high p.descriptor) (omega (arith, z, oc)) in
      let o = none_there (is_placed false (kind_in p.descriptor) (smid_in p.descriptor)) (placed_normal p.descriptor (smid_in p.descriptor) (post_stands p (All-head (PostIsRecord w h) p ps a)) lo) in
      omega (arith, sc, r, o)

  fit : (xs : List Down) → All (DownIsRecord w h) xs → misfits xs ≡ 0
  fit [] a = misfits-nil
  fit (x ∷ xs) a =
      let c = misfits-cons x xs in
      let r = fit xs (All-tail (DownIsRecord w h) x xs a) in
      let o = one x (All-head (DownIsRecord w h) x xs a) in
      omega (arith, c, r, o)
    where
      one : (x : Down) → DownIsRecord w h x → one_if (is_misfit x) ≡ 0
      one (down.Post d g p) i = none_there (is_of_kind (kind_in d) (smid_in d)) (of_kind d (smid_in d) (post_stands (record { descriptor = d; frame = g; payload = p }) i))
      one (down.Write reg value) i = refl
      one (down.Read reg) i = refl
      one (down.Return address index) i = refl
      one down.Stop i = refl

  -- ---- of what is no identifier nothing is on its way

  module _ (s : ℕ) (far : 280 < s) where
    key : (i : ℕ) (P : Slot Request → Type 0) → P (slot w.host i) → (i == s) ≡ true → P Free
    key i P p e = let same : i ≡ s = grind (arith, e) in subst P (ap (λ k. slot w.host k) same ∙ far_free s far) p

    by_key : (i : ℕ) → ((i == s) ≡ true → ⊥) → one_if (i == s) ≡ 0
    by_key i no_it = by_bool (i == s) no_it
      where
        by_bool : (c : Bool) → (c ≡ true → ⊥) → one_if c ≡ 0
        by_bool true g = absurd (g refl)
        by_bool false g = refl

    none_posted : (xs : List Down) → All (DownIsRecord w h) xs → post_count s xs ≡ 0
    none_posted [] a = post_count-nil s
    none_posted (x ∷ xs) a =
        let c = post_count-cons s x xs in
        let r = none_posted xs (All-tail (DownIsRecord w h) x xs a) in
        let o = one x (All-head (DownIsRecord w h) x xs a) in
        omega (arith, c, r, o)
      where
        one : (x : Down) → DownIsRecord w h x → one_if (is_posted_as s x) ≡ 0
        one (down.Post d g p) i = by_key (smid_in d) (λ e. key (smid_in d) (PostIs w h (record { descriptor = d; frame = g; payload = p })) i e)
        one (down.Write reg value) i = refl
        one (down.Read reg) i = refl
        one (down.Return address index) i = refl
        one down.Stop i = refl

    none_queued : (ps : List Post) → All (PostIsRecord w h) ps → queued_count s ps ≡ 0
    none_queued [] a = queued_count-nil s
    none_queued (p ∷ ps) a =
        let c = queued_count-cons s p ps in
        let r = none_queued ps (All-tail (PostIsRecord w h) p ps a) in
        let o = by_key (smid_in p.descriptor) (λ e. key (smid_in p.descriptor) (PostIs w h p) (All-head (PostIsRecord w h) p ps a) e) in
        omega (arith, c, r, o)

    none_held : (xs : List HeldReset) → All (HeldIs w) xs → held_as s xs ≡ 0
    none_held [] a = held_as-nil s
    none_held (x ∷ xs) a =
        let c = held_as-cons s x xs in
        let r = none_held xs (All-tail (HeldIs w) x xs a) in
        let o = by_key x.smid (λ e. key x.smid (HeldIsOf x.handle) (All-head (HeldIs w) x xs a) e) in
        omega (arith, c, r, o)

    none_said : (queue : ℕ) (xs : List Said) → All (SaidIs w h queue) xs → reply_count s xs ≡ 0
    none_said queue [] a = reply_count-nil s
    none_said queue (x ∷ xs) a =
        let c = reply_count-cons s x xs in
        let r = none_said queue xs (All-tail (SaidIs w h queue) x xs a) in
        let o = one x (All-head (SaidIs w h queue) x xs a) in
        omega (arith, c, r, o)
      where
        one : (x : Said) → SaidIs w h queue x → one_if (is_reply_of s x) ≡ 0
        one (said.Success q page sense) i = by_key q (λ e. key q (AnswersBy w h queue q (said.Success q page sense)) i e)
        one (said.Framed zero g page sense) i = by_key 0 (λ e. let z : 0 ≡ s = grind (arith, e) in omega (arith, z, far))
        one (said.Framed (suc q) g page sense) i = by_key (suc q) (λ e. key (suc q) (AnswersBy w h queue (suc q) (said.Framed (suc q) g page sense)) i e)
        one (said.Value v) i = refl
        one (said.Mark g) i = refl
        one said.Calm i = refl

    none_asked : asked_at s w.ioc.requests ≡ 0
    unfolding asked_at
    none_asked = by_place s far
      where
        no_request : Option AtFabric
        no_request = None

        by_place : (i : ℕ) → 280 < i → one_if (is_some (at_fabric w.ioc.requests i)) ≡ 0
        by_place zero l = refl
        by_place (suc i) l = let z = f.flights.sizes.requests in ap (λ (o : Option AtFabric). one_if (is_some o)) (get_or_past w.ioc.requests i None (omega (arith, l, z)))

    line : (i : ℕ) → reply_count s (map said_of (get_or w.up i [])) + reply_count s (get_or w.ioc.up i []) ≡ 0
    line i = sym (reply_count-append s (map said_of (get_or w.up i [])) (get_or w.ioc.up i [])) ∙ none_said i (up_line w i) (f.messages.said i)

    pub none_found : (unopened s w.host.pool ≡ 1) × (post_count s w.host.out + (post_count s w.down + (flight.at_ioc s w.ioc + replied_to s w.up)) ≡ 0)
    unfolding said_to replied_to
    none_found =
        let u = unopened-free s w.host.pool (far_free s far) in
        let pa = post_count-append s w.down w.host.out in
        let p = none_posted (down_line w) f.messages.down in
        let a1 = none_queued w.ioc.high f.messages.high in
        let a2 = none_queued w.ioc.normal f.messages.normal in
        let a3 = none_asked in
        let a4 = none_held w.ioc.held f.messages.held in
        let a6 = all_zero (reply_count s) w.ioc.up (λ i m. let z = line i in omega (arith, z)) in
        let a7 = all_zero (replies_on s) w.up (λ i m. let z = line i in omega (arith, z)) in
        (u, omega (arith, pa, p, a1, a2, a3, a4, a6, a7))

  -- ---- each identifier stands

  classed : (s : ℕ) → IsClassed s (slot_of w.host.pool s)
  classed zero = tt
  classed (suc k) = by_test (nat_le (suc k) 280) refl
    where
      by_slot : (x : Slot Request) → RecordStands w (suc k) x → IsClassed (suc k) x
      by_slot Free i = tt
      by_slot Parked i = tt
      by_slot (Open (request.Command m)) i = i.0
      by_slot (Open (request.Abort m task)) i = i.0
      by_slot (Open (request.TargetReset address)) i = i
      by_slot (Open (request.Leave handle)) i = i
      by_slot (Open (request.Page handle)) i = i
      by_slot (Open (request.Remove handle)) i = i
      by_slot (Open (request.Ack event context)) i = i
      by_slot (Open request.Notification) i = i
      by_slot (Open request.PortEnable) i = i

      by_test : (c : Bool) → nat_le (suc k) 280 ≡ c → IsClassed (suc k) (slot_of w.host.pool (suc k))
      by_test true t = by_slot (slot_of w.host.pool (suc k)) (f.flights.identifiers (suc k) (omega arith) (grind (arith, t))).recorded
      by_test false t = subst (IsClassed (suc k)) (sym (far_free (suc k) (grind (arith, t)))) tt

  queue_named : (s : ℕ) → IsNamed (host_queue_count w.host) (at_fabric w.ioc.requests s)
  queue_named zero = tt
  queue_named (suc k) = by_request (at_fabric w.ioc.requests (suc k)) (f.messages.requests (suc k))
    where
      kept : (handle queue len : ℕ) (written : Option ℕ) (c : Option Cmd) (r : Option OpenRequest) → KeptIs w (suc k) handle queue len written c r → queue < host_queue_count w.host
      kept handle queue len written (Some c) (Some r) i = let e = i.1 in let l = mod-lt (suc k - 1) f.flights.sizes.some_queue in omega (arith, e, l)
      kept handle queue len written (Some c) None i = absurd i
      kept handle queue len written None r i = absurd i

      by_slot : (handle queue len : ℕ) (written : Option ℕ) (x : Slot Request) → CommandAt w h (suc k) handle queue len written x → queue < host_queue_count w.host
      by_slot handle queue len written (Open (request.Command m)) i = kept handle queue len written (finmap.get w.host.cmds m) (finmap.get h.machine.requests m) i
      by_slot handle queue len written (Open (request.Abort m task)) i = absurd i
      by_slot handle queue len written (Open (request.TargetReset address)) i = absurd i
      by_slot handle queue len written (Open (request.Leave hd)) i = absurd i
      by_slot handle queue len written (Open (request.Page hd)) i = absurd i
      by_slot handle queue len written (Open (request.Remove hd)) i = absurd i
      by_slot handle queue len written (Open (request.Ack event context)) i = absurd i
      by_slot handle queue len written (Open request.Notification) i = absurd i
      by_slot handle queue len written (Open request.PortEnable) i = absurd i
      by_slot handle queue len written Free i = absurd i
      by_slot handle queue len written Parked i = absurd i

      by_request : (o : Option AtFabric) → RequestIs w h (suc k) o → IsNamed (host_queue_count w.host) o
      by_request None i = tt
      by_request (Some (at.Command handle queue len written)) i = by_slot handle queue len written (slot w.host (suc k)) i
      by_request (Some (at.Abort handle)) i = tt
      by_request (Some (at.TargetReset handle)) i = tt
      by_request (Some at.PortEnable) i = tt

  -- the counts of an identifier
  pub record Counted (s : ℕ) : Type 0 where
    pub most : found s w.host w.ioc w.down w.up ≤ 1
    pub all : is_resetting w.host.mode ≡ false → found s w.host w.ioc w.down w.up ≡ 1
    pub turned : 0 < found s w.host w.ioc w.down w.up → turn_now h s % 4 ≡ post_count s w.down + (2 * flight.at_ioc s w.ioc + 3 * replied_to s w.up)

  counted : (s : ℕ) → 1 ≤ s → Counted s
  counted s l = by_test (nat_le s 280) refl
    where
      near : (s : ℕ) → 1 ≤ s → s ≤ 280 → turn_now h s ≡ h.turn s → Counted s
      near s l m t =
          let i = f.flights.identifiers s l m in
          let e = same_count w s l in
          let a = i.at_most in
          record {
            most = omega (arith, a, e);
            all = λ r. let b = i.found r in omega (arith, b, e);
            turned = λ p. let g = i.turn (omega (arith, a, e, p)) in ap (λ x. x % 4) t ∙ (g ∙ same_turn w s l);
          }

      past : (s : ℕ) → 280 < s → turn_now h s ≡ 0 → Counted s
      past s m t =
          let z = none_found s m in
          let u = z.0 in
          let v = z.1 in
          record { most = omega (arith, u, v); all = λ r. omega (arith, u, v); turned = λ p. ap (λ x. x % 4) t ∙ omega (arith, v) }

      by_test : (c : Bool) → nat_le s 280 ≡ c → Counted s
      by_test true t = near s l (grind (arith, t)) (ap (λ c. if c then h.turn s else 0) t)
      by_test false t = past s (grind (arith, t)) (ap (λ c. if c then h.turn s else 0) t)

  module _ (vectors : VectorsFit w) where
    pub stands : (s : ℕ) → 1 ≤ s → Stands s (host_queue_count w.host) (turn_now h s) w.host w.ioc w.down w.up
    stands s l =
        let c = counted s l in
        let a = misfits-append w.down w.host.out in
        let m = fit (down_line w) f.messages.down in
        let e = f.flights.sizes.lanes in
        record {
          host_holds = record { table = f.flights.sizes.pool; queues = refl; number = refl; classed = classed; fit = omega (arith, a, m); resets = refl };
          ioc_carries = record {
            queues = f.flights.sizes.outboxes;
            vectored = omega (arith, vectors, e);
            table = f.flights.sizes.requests;
            number = omega arith;
            named = queue_named;
            high_sorted = high_sorted w.ioc.high f.messages.high f.flights.sorted.high;
            normal_sorted = normal_sorted w.ioc.normal f.messages.normal f.flights.sorted.normal;
          };
          lanes = e;
          fit = omega (arith, a, m);
          most = c.most;
          all = c.all;
          turned = c.turned;
        }

    pub all_stand : world.AllStand (host_queue_count w.host) f.flights.sizes.some_queue f.flights.sizes.few_queues w
    all_stand s l = (turn_now h s, stands s l)
