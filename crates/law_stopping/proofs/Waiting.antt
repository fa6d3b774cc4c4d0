-- What waits of a command's aborts, and what the replies that wait say, by the places of their items.
use Rattle.std.proofs.Common.{◌≡◌, ℕ, zero, suc, ◌+◌, ◌<◌, ◌≤◌, ◌==◌, ◌&&◌, ◌⊎◌, inl, inr, nat_le, not, Bool, true, false, List, [], ◌∷◌, get_or, Option, Some, None, is_some, refl, ap, sym, ◌∙◌, subst, arith}
use Rattle.std.specs.Prelude.{All}
use Rattle.std.specs.FinMap as finmap
use Rattle.std.specs.List.{sum_by}
use Rattle.std.proofs.lemmas.Bool.{eqb-true}
use Rattle.std.proofs.lemmas.List.Sums.{sum_by-cons}
use Rattle.smid_pool.specs.Pool.{Slot, Free, Open, Parked}
use Rattle.smid_pool.specs.Class.{IsIn}
use Rattle.smid_pool.specs.declared.class.Class.TheVariants as class
use Rattle.mpt_wire.specs.Messages.Fields.{termination_count_in}
use Rattle.mpt_wire.specs.Messages.Naming.{said_in}
use Rattle.mpt_wire.specs.Paths.TerminationCounts.{AReset, AnAbort, Awaited, Counted, HighPost, NoPost, NotSent, Progress, Replied}
use Rattle.mpt_rules.specs.declared.request.Request.{Request}
use Rattle.mpt_rules.specs.declared.request.Request.TheVariants as request
use Rattle.mpt_rules.specs.declared.said.Said.{Said}
use Rattle.mpt_rules.specs.declared.said.Said.TheVariants as said
use Rattle.mpt_rules.specs.Host.Parts.{Cmd}
use Rattle.mpt_rules.specs.Ioc.Places.{is_reply_of}
use Rattle.mpt_rules.specs.Ioc.Replies.{outbox_of}
use Rattle.mpt_rules.specs.Ioc.Tables.{request_at}
use Rattle.mpt_rules.specs.World.Counts.{how_many, one_if, post_count, queued_count, reply_count}
use Rattle.mpt_rules.specs.World.State.{World}
use Rattle.mpt_rules.proofs.Counts.{reply_count-cons}
use Rattle.law_facts.specs.Clock.{is_live}
use Rattle.law_facts.specs.Facts.{Facts}
use Rattle.law_facts.specs.Flights.{AbortNames, NamedOnce, NamesOpen, RecordStands, namings}
use Rattle.law_facts.specs.History.{History}
use Rattle.law_facts.specs.Paths.{CountOfKind, is_held_slot, is_stop, is_unsent, is_waiting_abort, opened, stops, takes_out, waiting_aborts}
use Rattle.law_facts.specs.Words.{is_command_asked, is_reply, names_task, slot}
use Rattle.law_flights.proofs.HostHolds.{in_table}
use Rattle.law_moves.proofs.Counted.{fewer_pass, how_many-cons}
use Rattle.law_messages.proofs.Agreeing.{not_both, same}
use Rattle.law_messages.proofs.Known.{classed, inside}
use Rattle.law_asked.proofs.Lists.{all_both, each_counted}
use Rattle.law_counts.proofs.CountsKept.{Counted_in, counted_all, first_box}
use Rattle.law_paths.proofs.Staging.{counted_has}

-- ---- tests of numbers

pub le_true : (n m : ℕ) → nat_le n m ≡ true → n ≤ m
le_true n m e = grind (arith, e)

pub le_false : (n m : ℕ) → nat_le n m ≡ false → m < n
le_false n m e = grind (arith, e)

-- ---- aborts that wait

pub waiting-cons : (w : World) (s q : ℕ) (r : Slot Request) (rs : List (Slot Request)) → waiting_aborts w s q (r ∷ rs) ≡ one_if (is_waiting_abort w s q r) + waiting_aborts w s (q + 1) rs
unfolding waiting_aborts
waiting-cons w s q r rs = refl

pub waiting-nil : (w : World) (s q : ℕ) → waiting_aborts w s q [] ≡ 0
unfolding waiting_aborts
waiting-nil w s q = refl

pub waiting_at : (w : World) (s i : ℕ) (rs : List (Slot Request)) (j : ℕ) → is_waiting_abort w s (i + j) (get_or rs j Free) ≡ true → 1 ≤ waiting_aborts w s i rs
waiting_at w s i [] j e = absurd (cc)
waiting_at w s i (r ∷ rs) zero e =
    let z : i + 0 ≡ i = omega arith in
    let o : one_if (is_waiting_abort w s i r) ≡ 1 = ap one_if (subst (λ n. is_waiting_abort w s n r ≡ true) z e) in
    let c = waiting-cons w s i r rs in omega (arith, o, c)
waiting_at w s i (r ∷ rs) (suc j) e =
    let z : i + suc j ≡ (i + 1) + j = omega arith in
    let y = waiting_at w s (i + 1) rs j (subst (λ n. is_waiting_abort w s n (get_or rs j Free) ≡ true) z e) in
    let c = waiting-cons w s i r rs in omega (arith, y, c)

-- where an abort's item is, once it was put and before its reply is
abbrev pub underway : World → ℕ → ℕ
underway w q = post_count q w.down + (queued_count q w.ioc.high + (one_if (is_some (request_at w.ioc q)) + sum_by (reply_count q) w.ioc.up))

pub not_zero : (n : ℕ) → 1 ≤ n → not (n == 0) ≡ true
not_zero zero l = absurd (omega (arith, l))
not_zero (suc n) l = grind arith

pub waits_there : (w : World) (s q n : ℕ) → 1 ≤ underway w q → is_waiting_abort w s q (Open (request.Abort n s)) ≡ true
waits_there w s q n c = ap (λ b. b && not (underway w q == 0)) (same s) ∙ not_zero (underway w q) c

pub waiting_here : (w : World) (s q n : ℕ) → slot w.host q ≡ Open (request.Abort n s) → 1 ≤ underway w q → 1 ≤ waiting_aborts w s 1 w.host.pool
waiting_here w s zero n e c = absurd (cc)
waiting_here w s (suc j) n e c = waiting_at w s 1 w.host.pool j (let z : 1 + j ≡ suc j = omega arith in subst (λ i. is_waiting_abort w s i (get_or w.host.pool j Free) ≡ true) (sym z) (ap (is_waiting_abort w s (suc j)) e ∙ waits_there w s (suc j) n c))

-- ---- replies that say that the command was stopped

pub first_of : (a b : Bool) → (a && b) ≡ true → a ≡ true
first_of true b e = refl
first_of false b e = absurd (cc)

pub stop_replies : (s : ℕ) (x : Said) → is_stop s x ≡ true → is_reply_of s x ≡ true
stop_replies s (said.Framed q frame page sense) e = first_of (q == s) (stops (said_in (Some frame))) e
stop_replies s (said.Success q page sense) e = absurd (cc)
stop_replies s (said.Value value) e = absurd (cc)
stop_replies s (said.Mark generation) e = absurd (cc)
stop_replies s said.Calm e = absurd (cc)

pub stops_few : (s : ℕ) (xs : List Said) → how_many (is_stop s) xs ≤ reply_count s xs
unfolding reply_count
stops_few s xs = fewer_pass (is_stop s) (is_reply_of s) (stop_replies s) xs

pub sums_few : (s : ℕ) (boxes : List (List Said)) → sum_by (how_many (is_stop s)) boxes ≤ sum_by (reply_count s) boxes
sums_few s [] = omega arith
sums_few s (b ∷ bs) = let a = sum_by-cons (how_many (is_stop s)) b bs in let c = sum_by-cons (reply_count s) b bs in let d = stops_few s b in let e = sums_few s bs in omega (arith, a, c, d, e)

-- the first of a box
pub first_stops : (s : ℕ) (boxes : List (List Said)) (queue : ℕ) (y : Said) (rest : List Said) → get_or boxes queue [] ≡ y ∷ rest → is_stop s y ≡ true → 1 ≤ sum_by (how_many (is_stop s)) boxes
first_stops s [] queue y rest e t = absurd (cc)
first_stops s (b ∷ bs) zero y rest e t =
    let z : b ≡ y ∷ rest = e in let a = sum_by-cons (how_many (is_stop s)) b bs in let c = ap (how_many (is_stop s)) z in let d = how_many-cons (is_stop s) y rest in
    let o : one_if (is_stop s y) ≡ 1 = ap one_if t in omega (arith, a, c, d, o)
first_stops s (b ∷ bs) (suc i) y rest e t = let a = sum_by-cons (how_many (is_stop s)) b bs in let c = first_stops s bs i y rest e t in omega (arith, a, c)

-- a reply that says something else is none of these
pub stops_less : (s : ℕ) (boxes : List (List Said)) (queue : ℕ) (y : Said) (rest : List Said) → get_or boxes queue [] ≡ y ∷ rest → is_reply_of s y ≡ true → is_stop s y ≡ false
    → sum_by (how_many (is_stop s)) boxes + 1 ≤ sum_by (reply_count s) boxes
stops_less s [] queue y rest e t n = absurd (cc)
stops_less s (b ∷ bs) zero y rest e t n =
    let z : b ≡ y ∷ rest = e in
    let a = sum_by-cons (how_many (is_stop s)) b bs in let c = ap (how_many (is_stop s)) z in let d = how_many-cons (is_stop s) y rest in let o : one_if (is_stop s y) ≡ 0 = ap one_if n in
    let a2 = sum_by-cons (reply_count s) b bs in let c2 = ap (reply_count s) z in let d2 = reply_count-cons s y rest in let o2 : one_if (is_reply_of s y) ≡ 1 = ap one_if t in
    let x = stops_few s rest in let y2 = sums_few s bs in
    omega (arith, a, c, d, o, a2, c2, d2, o2, x, y2)
stops_less s (b ∷ bs) (suc i) y rest e t n =
    let a = sum_by-cons (how_many (is_stop s)) b bs in let a2 = sum_by-cons (reply_count s) b bs in let c = stops_less s bs i y rest e t n in let d = stops_few s b in
    omega (arith, a, a2, c, d)

-- ---- what is open

pub unsent_is : (g : HighPost) (s : ℕ) → is_unsent g s ≡ true → g ≡ AnAbort s NotSent
unsent_is (AnAbort task NotSent) s e = ap (λ m. AnAbort m NotSent) (eqb-true task s e)
unsent_is (AnAbort task Awaited) s e = absurd (cc)
unsent_is (AnAbort task (Counted n)) s e = absurd (cc)
unsent_is (AReset p) s e = absurd (cc)
unsent_is NoPost s e = absurd (cc)
unsent_is Replied s e = absurd (cc)

pub opened_abort : (p : Progress) (x : Slot Request) (t : ℕ) (r : Progress) → opened p x ≡ AnAbort t r → (n : ℕ) × (x ≡ Open (request.Abort n t))
opened_abort p (Open (request.Abort n task)) t r e = let z : task ≡ t = cc in (n, ap (λ m. Open (request.Abort n m)) z)
opened_abort p (Open (request.Command n)) t r e = absurd (cc)
opened_abort p (Open (request.TargetReset address)) t r e = absurd (cc)
opened_abort p (Open (request.Leave handle)) t r e = absurd (cc)
opened_abort p (Open (request.Page handle)) t r e = absurd (cc)
opened_abort p (Open (request.Remove handle)) t r e = absurd (cc)
opened_abort p (Open (request.Ack event context)) t r e = absurd (cc)
opened_abort p (Open request.Notification) t r e = absurd (cc)
opened_abort p (Open request.PortEnable) t r e = absurd (cc)
opened_abort p Free t r e = absurd (cc)
opened_abort p Parked t r e = absurd (cc)

module _ (w : World) (h : History) (f : Facts w h) where
  -- an identifier of a command that has one, or is kept for its abort
  pub record HeldAt (s : ℕ) : Type 0 where
    pub least : 1 ≤ s
    pub most : s ≤ 256
    pub held : is_held_slot (slot w.host s) ≡ true

  pub command_held : (s n : ℕ) → slot w.host s ≡ Open (request.Command n) → HeldAt s
  command_held s n e = let c = classed w h f s (request.Command n) e in record { least = omega (arith, c); most = omega (arith, c); held = ap is_held_slot e }

  pub parked_held : (s : ℕ) → slot w.host s ≡ Parked → HeldAt s
  parked_held s e =
      let t = in_table w.host.pool s Parked e (λ z. cc) in let t0 = t.0 in let t1 = t.1 in let l = f.flights.sizes.pool in
      let c = subst (RecordStands w s) e (f.flights.identifiers s t0 (omega (arith, t0, t1, l))).recorded in
      record { least = t0; most = omega (arith, c); held = ap is_held_slot e }

  -- what an abort names is held
  pub named_held : (q n s : ℕ) → slot w.host q ≡ Open (request.Abort n s) → HeldAt s
  named_held q n s e = by_cmd (finmap.get w.host.cmds n) refl (let i = inside w h f q (request.Abort n s) e in subst (AbortNames w) e (f.flights.identifiers q i.0 i.1).names)
    where
      by_cmd : (o : Option Cmd) → finmap.get w.host.cmds n ≡ o → NamesOpen w s o → HeldAt s
      by_cmd (Some c) g z = command_held s n (subst (λ j. slot w.host j ≡ Open (request.Command n)) z ((f.flights.numbers n).command c g))
      by_cmd None g z = parked_held s z

  -- a reply waits only at a controller that is OPERATIONAL
  pub live_by_reply : (queue : ℕ) (y : Said) (rest : List Said) → outbox_of w.ioc queue ≡ y ∷ rest → is_reply y ≡ true → is_live w ≡ true
  live_by_reply queue y rest e r = by_live (is_live w) refl
    where
      by_live : (b : Bool) → is_live w ≡ b → b ≡ true
      by_live true l = refl
      by_live false l =
          let z = f.clock.no_reply_before_init.outboxes l queue in let a = ap (how_many is_reply) e in let c = how_many-cons is_reply y rest in let o : one_if (is_reply y) ≡ 1 = ap one_if r in
          absurd (omega (arith, z, a, c, o))

  pub live_by_count : (q : ℕ) (xs : List Said) → outbox_of w.ioc 0 ≡ xs → 1 ≤ how_many is_reply xs → is_live w ≡ true
  live_by_count q xs e r = by_live (is_live w) refl
    where
      by_live : (b : Bool) → is_live w ≡ b → b ≡ true
      by_live true l = refl
      by_live false l = let z = f.clock.no_reply_before_init.outboxes l 0 in let a = ap (how_many is_reply) e in absurd (omega (arith, z, a, r))

  -- ---- of the aborts of s

  module _ (s : ℕ) where
    -- an abort of s
    pub record Naming (q : ℕ) : Type 0 where
      pub number : ℕ
      pub opens : slot w.host q ≡ Open (request.Abort number s)
      pub least : 257 ≤ q
      pub most : q ≤ 264

    -- whose reply waits
    pub naming : (q : ℕ) (frame page sense : List ℕ) (p : Progress) → CountOfKind w h (said.Framed q frame page sense) → h.high q ≡ AnAbort s p → Naming q
    naming q frame page sense p k e = by_tests (nat_le 257 q) (nat_le q 264) refl refl
      where
        none : {T : Type 0} → h.high q ≡ NoPost → T
        none z = let a : NoPost ≡ AnAbort s p = sym z ∙ e in absurd (cc)

        of_kind : 257 ≤ q → q ≤ 264 → (h.high q ≡ opened NotSent (slot w.host q)) ⊎ (h.high q ≡ opened (Counted (termination_count_in frame)) (slot w.host q)) → Naming q
        of_kind l m (inl z) = let a = opened_abort NotSent (slot w.host q) s p (sym z ∙ e) in record { number = a.0; opens = a.1; least = l; most = m }
        of_kind l m (inr z) = let a = opened_abort (Counted (termination_count_in frame)) (slot w.host q) s p (sym z ∙ e) in record { number = a.0; opens = a.1; least = l; most = m }

        by_tests : (a b : Bool) → nat_le 257 q ≡ a → nat_le q 264 ≡ b → Naming q
        by_tests true true x y = let l = le_true 257 q x in let m = le_true q 264 y in of_kind l m (k l m)
        by_tests false b x y = let l = le_false 257 q x in none (f.paths.only_high q (inl (omega (arith, l)))).1
        by_tests true false x y = let l = le_false q 264 y in none (f.paths.only_high q (inr (omega (arith, l)))).1

    -- one that takes s out of the queue, among these
    pub record Taker (xs : List Said) : Type 0 where
      pub key : ℕ
      pub names : Naming key
      pub counted : 1 ≤ reply_count key xs

    takes : (xs : List Said) (y : Said) → takes_out h s y ≡ true → CountOfKind w h y × Counted_in xs y → Taker xs
    takes xs (said.Framed q frame page sense) t k = let u = unsent_is (h.high q) s (first_of (is_unsent (h.high q) s) (termination_count_in frame == 1) t) in record { key = q; names = naming q frame page sense NotSent k.0 u; counted = k.1 }
    takes xs (said.Success q page sense) t k = absurd (cc)
    takes xs (said.Value value) t k = absurd (cc)
    takes xs (said.Mark generation) t k = absurd (cc)
    takes xs said.Calm t k = absurd (cc)

    pub taker : (xs : List Said) → All (CountOfKind w h) xs → 1 ≤ how_many (takes_out h s) xs → Taker xs
    taker xs a c = counted_has (takes_out h s) (λ y. CountOfKind w h y × Counted_in xs y) (Taker xs) (takes xs) xs (all_both (CountOfKind w h) (Counted_in xs) xs a (counted_all xs)) c

    -- where none waits, none takes it out
    pub none_takes : waiting_aborts w s 1 w.host.pool ≡ 0 → how_many (takes_out h s) (outbox_of w.ioc 0) ≡ 0
    none_takes z = by_count (how_many (takes_out h s) (outbox_of w.ioc 0)) refl
      where
        by_count : (n : ℕ) → how_many (takes_out h s) (outbox_of w.ioc 0) ≡ n → n ≡ 0
        by_count zero e = refl
        by_count (suc n) e =
            let t = taker (outbox_of w.ioc 0) f.paths.kinds (omega (arith, e)) in
            let b = first_box t.key w.ioc.up in let c = t.counted in
            let a = waiting_here w s t.key t.names.number t.names.opens (omega (arith, b, c)) in
            absurd (omega (arith, a, z))

-- ---- one abort names s

pub has_pass : {X : Type 0} (test : X → Bool) (d : X) → test d ≡ false → (xs : List X) (i : ℕ) → test (get_or xs i d) ≡ true → 1 ≤ how_many test xs
has_pass test d n [] i t = let z : true ≡ false = sym t ∙ n in absurd (cc)
has_pass test d n (x ∷ xs) zero t = let c = how_many-cons test x xs in let o : one_if (test x) ≡ 1 = ap one_if t in omega (arith, c, o)
has_pass test d n (x ∷ xs) (suc i) t = let c = how_many-cons test x xs in let y = has_pass test d n xs i t in omega (arith, c, y)

two_pass : {X : Type 0} (test : X → Bool) (d : X) → test d ≡ false → (xs : List X) (i j : ℕ) → (i ≡ j → ⊥) → test (get_or xs i d) ≡ true → test (get_or xs j d) ≡ true → 2 ≤ how_many test xs
two_pass test d n [] i j a t u = let z : true ≡ false = sym t ∙ n in absurd (cc)
two_pass test d n (x ∷ xs) zero zero a t u = absurd (a refl)
two_pass test d n (x ∷ xs) zero (suc j) a t u = let c = how_many-cons test x xs in let o : one_if (test x) ≡ 1 = ap one_if t in let y = has_pass test d n xs j u in omega (arith, c, o, y)
two_pass test d n (x ∷ xs) (suc i) zero a t u = let c = how_many-cons test x xs in let o : one_if (test x) ≡ 1 = ap one_if u in let y = has_pass test d n xs i t in omega (arith, c, o, y)
two_pass test d n (x ∷ xs) (suc i) (suc j) a t u = let c = how_many-cons test x xs in let y = two_pass test d n xs i j (λ z. a (ap suc z)) t u in omega (arith, c, y)

names_it : (s n : ℕ) (x : Slot Request) → x ≡ Open (request.Abort n s) → names_task s x ≡ true
names_it s n x e = ap (names_task s) e ∙ same s

module _ (w : World) (h : History) (f : Facts w h) (s : ℕ) where
  once : (x : Slot Request) → NamedOnce w s x → namings w s ≤ 1
  once Free a = omega (arith, a)
  once Parked a = omega (arith, a)
  once (Open r) a = a

  pub one_names : 1 ≤ s → s ≤ 256 → (q p n m : ℕ) → slot w.host q ≡ Open (request.Abort n s) → slot w.host p ≡ Open (request.Abort m s) → (q == p) ≡ true
  one_names l k zero p n m a b = absurd (cc)
  one_names l k (suc i) zero n m a b = absurd (cc)
  one_names l k (suc i) (suc j) n m a b = by_key (suc i == suc j) refl
    where
      by_key : (c : Bool) → (suc i == suc j) ≡ c → c ≡ true
      by_key true t = refl
      by_key false t =
          let o = once (slot w.host s) (f.flights.identifiers s l (omega (arith, k))).named in
          let y = two_pass (names_task s) Free refl w.host.pool i j (λ z. let g : (suc i == suc i) ≡ false = ap (λ x. suc i == suc x) z ∙ t in not_both (suc i == suc i) g (same (suc i)))
          (names_it s n (slot w.host (suc i)) a) (names_it s m (slot w.host (suc j)) b) in
          absurd (omega (arith, o, y))
