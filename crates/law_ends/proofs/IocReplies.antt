-- A controller replies to an identifier at most as often as it was posted, whatever is brought to it.
use Rattle.std.proofs.Common.{◌≡◌, ℕ, zero, suc, ◌+◌, ◌<◌, ◌≤◌, ◌==◌, Bool, true, false, cond, if◌then◌else◌, not, ◌||◌, List, [], ◌∷◌, ◌++◌, length, get_or, replicate, Option, Some, None, refl, ap, sym, subst, ◌∙◌, arith}
use Rattle.std.specs.Prelude.{count_by, nat_lt, slice_get}
use Rattle.std.specs.List.{list_any}
use Rattle.std.proofs.lemmas.Bool.Decides.{nat_tests}
use Rattle.std.proofs.lemmas.List.Sums.{sum_by-append, sum_by-cons}
use Rattle.mpi_doorbell.specs.DoorRegisters.{DoorRegisters, register_written}
use Rattle.mpi_doorbell.specs.declared.effect.Effect.{Effect}
use Rattle.mpi_doorbell.specs.declared.effect.Effect.TheVariants as effect
use Rattle.mpi_rings.specs.declared.request_descriptor.PostKind.{PostKind}
use Rattle.mpi_rings.specs.declared.request_descriptor.PostKind.TheVariants as post
use Rattle.mpt_trace.specs.declared.entry.Entry.{Entry}
use Rattle.mpt_trace.specs.declared.entry.Entry.TheVariants as entry
use Rattle.mpt_trace.specs.declared.item.Down.{Down}
use Rattle.mpt_trace.specs.declared.item.Down.TheVariants as down
use Rattle.mpt_trace.specs.declared.item.Out.{Out}
use Rattle.mpt_trace.specs.declared.item.Up.{Up}
use Rattle.mpt_trace.specs.declared.item.Up.TheVariants as up
use Rattle.mpt_wire.specs.Messages.Fields.{kind_in, smid_in}
use Rattle.mpt_wire.specs.Walks.Passes.{EachEntry}
use Rattle.mpt_rules.proofs.Counts.{queued_count-nil, reply_count-nil}
use Rattle.mpt_rules.specs.declared.at_fabric.AtFabric.{AtFabric}
use Rattle.mpt_rules.specs.declared.at_fabric.HeldReset.{HeldReset}
use Rattle.mpt_rules.specs.declared.post.Post.{Post}
use Rattle.mpt_rules.specs.declared.said.Said.{Said}
use Rattle.mpt_rules.specs.Ioc.Parts.{Ioc, new_ioc}
use Rattle.mpt_rules.specs.Ioc.Places.{is_reply_of}
use Rattle.mpt_rules.specs.Ioc.Posts as posts
use Rattle.mpt_rules.specs.Ioc.Registers.{after_effect}
use Rattle.mpt_rules.specs.Ioc.Replies as say
use Rattle.mpt_rules.specs.Ioc.Resets.{forgets}
use Rattle.mpt_rules.specs.Ioc.Sending.{front_out, front_up_of, front_up_on, up_of, up_sent_on}
use Rattle.mpt_rules.specs.Ioc.Steps.{steps_high_on, steps_normal_on, works_on}
use Rattle.mpt_rules.specs.Ioc.Tables as table
use Rattle.mpt_rules.specs.Ioc.Takes.{takes_back, takes_down}
use Rattle.mpt_rules.specs.World.Counts.{one_if}
use Rattle.mpt_rules.specs.World.Lines.{said_of}
use Rattle.ioc_core.specs.Plays.{after_moves, moved, placed, puts_out, puts_up, talk_from}
use Rattle.ioc_core.specs.declared.moves.IocMove.{IocMove}
use Rattle.ioc_core.specs.declared.moves.IocMove.TheVariants as move
use Rattle.ioc_core.specs.declared.moves.IocSaid.{IocSaid}
use Rattle.ioc_core.specs.declared.moves.IocSaid.TheVariants as said
use Rattle.law_flights.specs.Classes.{is_of_kind}
use Rattle.law_flights.specs.Flights.{at_ioc, held_as, said_to}
use Rattle.law_flights.proofs.IocCalls as calls
use Rattle.law_flights.proofs.IocCarries.{Carries, is_placed, strays, strays-cons, strays-nil}
use Rattle.law_flights.proofs.IocTakes as takes
use Rattle.law_flights.proofs.IocTakes.{asked_fresh, fresh_at, length_fresh, said_to-cons, said_to-nil}
use Rattle.law_flights.proofs.IocWorks as works
use Rattle.law_flights.proofs.Rising.{same_identifier}
use Rattle.law_flights.proofs.Tables.{held_as-cons, held_as-nil}
use Rattle.law_flights.proofs.WorkLeaves.{works_leaf}
use Rattle.law_moves.proofs.IocWords.{IsIocWord, back_words, works_words}
use Rattle.law_ends.proofs.Rooms.{HasRoom, answered_is, none_asked, none_queued, room_back, room_down, room_high, room_made, room_normal}
use Rattle.law_ends.specs.IocEnds.{IsFresh, IsMade, IsReset, RepliesAreForPosts, ioc_reached, is_post_under, is_reply_under, is_reset_move, is_unbind_all}

-- ---- counts

pub count_append : {X : Type 0} (test : X → Bool) (xs ys : List X) → count_by test (xs ++ ys) ≡ count_by test xs + count_by test ys
count_append test xs ys = sum_by-append (λ x. cond (test x) 1 0) xs ys

pub count_cons : {X : Type 0} (test : X → Bool) (x : X) (xs : List X) → count_by test (x ∷ xs) ≡ one_if (test x) + count_by test xs
count_cons test x xs = sum_by-cons (λ y. cond (test y) 1 0) x xs

pub count_one : {X : Type 0} (test : X → Bool) (x : X) → count_by test (x ∷ []) ≡ one_if (test x)
count_one test x = let c = count_cons test x [] in omega (arith, c)

none_held : (s : ℕ) (xs : List HeldReset) → list_any (table.is_held_as s) xs ≡ false → held_as s xs ≡ 0
none_held s [] e = held_as-nil s
none_held s (x ∷ xs) e = by_test (table.is_held_as s x) e (none_held s xs) (held_as-cons s x xs)
  where
    by_test : (b : Bool) → (b || list_any (table.is_held_as s) xs) ≡ false → (list_any (table.is_held_as s) xs ≡ false → held_as s xs ≡ 0) → held_as s (x ∷ xs) ≡ one_if b + held_as s xs → held_as s (x ∷ xs) ≡ 0
    by_test true t ih c = absurd (cc)
    by_test false t ih c = let z = ih t in omega (arith, c, z)

-- ---- resets

-- only a reset unbinds all
no_word : (es : List Entry) → EachEntry IsIocWord es → list_any is_unbind_all es ≡ false
no_word [] w = refl
no_word (e ∷ es) w = by_entry e w.0 (no_word es w.1)
  where
    by_entry : (x : Entry) → IsIocWord x → list_any is_unbind_all es ≡ false → (is_unbind_all x || list_any is_unbind_all es) ≡ false
    by_entry (entry.Bind handle address plug) w ih = ih
    by_entry (entry.Unbind handle) w ih = ih
    by_entry _ w ih = absurd w

not_both : (b : Bool) → b ≡ false → b ≡ true → ⊥
not_both true e f = cc
not_both false e f = cc

-- it leaves what a controller keeps that forgets all
abbrev pub Forgot : Ioc → Ioc → Type 0
Forgot ioc k = (door : DoorRegisters) × (k ≡ forgets (record ioc { door = door }))

written_forgot : (ioc : Ioc) (d : DoorRegisters) (e : Effect) → list_any is_unbind_all (after_effect (record ioc { door = d }) e).entries ≡ true → Forgot ioc (after_effect (record ioc { door = d }) e).part
written_forgot ioc d effect.None r = absurd (cc)
written_forgot ioc d (effect.Asked count bytes) r = absurd (cc)
written_forgot ioc d effect.UnitReset r = (d, refl)
written_forgot ioc d effect.AdapterReset r = (d, refl)
written_forgot ioc d (effect.Fault code) r = absurd (cc)

high_none : (ioc : Ioc) (ps : List Post) → list_any is_unbind_all (steps_high_on ioc ps).told ≡ true → ⊥
high_none ioc [] r = cc
high_none ioc (p ∷ rest) r = not_both (list_any is_unbind_all (works_on (record ioc { high = rest }) p).entries) (no_word _ (works_words (record ioc { high = rest }) p)) r

normal_none : (ioc : Ioc) (ps : List Post) → list_any is_unbind_all (steps_normal_on ioc ps).told ≡ true → ⊥
normal_none ioc [] r = cc
normal_none ioc (p ∷ rest) r = not_both (list_any is_unbind_all (works_on (record ioc { normal = rest }) p).entries) (no_word _ (works_words (record ioc { normal = rest }) p)) r

up_none : (ioc : Ioc) (queue : ℕ) (o : Option Up) → list_any is_unbind_all (puts_up ioc queue o).told ≡ true → ⊥
up_none ioc queue None r = cc
up_none ioc queue (Some y) r = cc

out_none : (ioc : Ioc) (o : Option Out) → list_any is_unbind_all (puts_out ioc o).told ≡ true → ⊥
out_none ioc None r = cc
out_none ioc (Some y) r = cc

pub reset_forgot : (ioc : Ioc) (m : IocMove) → is_reset_move ioc m ≡ true → Forgot ioc (moved ioc m).part
reset_forgot ioc (move.Down (down.Write reg value)) r = written_forgot ioc (register_written ioc.door reg value).registers (register_written ioc.door reg value).effect r
reset_forgot ioc (move.Down (down.Read reg)) r = absurd (cc)
reset_forgot ioc (move.Down (down.Post d frame payload)) r = absurd (cc)
reset_forgot ioc (move.Down (down.Return address index)) r = absurd (cc)
reset_forgot ioc (move.Down down.Stop) r = absurd (cc)
reset_forgot ioc (move.Back item) r = absurd (not_both (list_any is_unbind_all (takes_back ioc item).entries) (no_word _ (back_words ioc item)) r)
reset_forgot ioc move.High r = absurd (high_none ioc ioc.high r)
reset_forgot ioc move.Normal r = absurd (normal_none ioc ioc.normal r)
reset_forgot ioc move.PutUp r = absurd (up_none ioc 0 (front_up_on ioc 0) r)
reset_forgot ioc (move.PutUpOn queue) r = absurd (up_none ioc queue (front_up_on ioc queue) r)
reset_forgot ioc move.PutOut r = absurd (out_none ioc (front_out ioc) r)

-- ---- what a controller has of each identifier

module _ (n : ℕ) (some : 1 ≤ n) where
  abbrev pub CarriesIoc : ℕ → ℕ → Ioc → Type 0
  CarriesIoc s k ioc = Carries s 0 k n ioc.high ioc.normal ioc.up ioc.requests ioc.held ioc.vectors

  -- it is sound, and has nothing of what no descriptor can name
  pub record Keeps (ioc : Ioc) : Type 0 where
    pub room : HasRoom ioc
    pub carries : (s : ℕ) → 1 ≤ s → CarriesIoc s (at_ioc s ioc) ioc
    pub small : (s : ℕ) → 65536 ≤ s → at_ioc s ioc ≡ 0

  -- what a move leaves of an identifier that the controller had so often, with so many replies said and posts brought
  pub record Goes (s had replies brought : ℕ) (ioc : Ioc) : Type 0 where
    pub has : ℕ
    pub carries : CarriesIoc s has ioc
    pub bound : has + replies ≤ had + brought

  as_before : (s brought : ℕ) (ioc k : Ioc) → CarriesIoc s (at_ioc s ioc) k → Goes s (at_ioc s ioc) 0 brought k
  as_before s brought ioc k c = record { has = at_ioc s ioc; carries = c; bound = omega arith }

  -- ---- items of the host

  writes_go : (s brought : ℕ) (positive : 1 ≤ s) (ioc k : Ioc) (e : Effect) → CarriesIoc s (at_ioc s ioc) k → Goes s (at_ioc s ioc) 0 brought (after_effect k e).part
  writes_go s brought positive ioc k effect.None c = as_before s brought ioc k c
  writes_go s brought positive ioc k (effect.Asked count bytes) c = as_before s brought ioc (after_effect k (effect.Asked count bytes)).part (takes.does s n positive some (at_ioc s ioc) k (effect.Asked count bytes) c)
  writes_go s brought positive ioc k effect.UnitReset c = record { has = 0; carries = takes.does s n positive some (at_ioc s ioc) k effect.UnitReset c; bound = omega arith }
  writes_go s brought positive ioc k effect.AdapterReset c = record { has = 0; carries = takes.does s n positive some (at_ioc s ioc) k effect.AdapterReset c; bound = omega arith }
  writes_go s brought positive ioc k (effect.Fault code) c = as_before s brought ioc (table.faults k code) c

  -- a post that is queued
  queued_is : (d : ℕ) (frame payload : List ℕ) (ioc : Ioc) (x : PostKind) → table.is_operational ioc.door.state ≡ true → kind_in d ≡ Some x → posts.is_in_class (posts.class_of x) (smid_in d) ≡ true → table.is_unanswered ioc (smid_in d) ≡ false
      → posts.with_post_queued ioc (record { descriptor = d; frame = frame; payload = payload }) x ≡ (takes_down ioc (down.Post d frame payload)).part
  queued_is d frame payload ioc x o k a u =
      let p : Post = record { descriptor = d; frame = frame; payload = payload } in
      sym
      (ap (λ (b : Bool). if b then posts.posts_if ioc p (kind_in d) else ioc) o
      ∙ (ap (λ (y : Option PostKind). posts.posts_if ioc p y) k
      ∙ (ap (λ (b : Bool). if not b then table.faults ioc posts.bad_post else if table.is_unanswered ioc (smid_in d) then table.faults ioc posts.identifier_in_use else posts.with_post_queued ioc p x) a
      ∙ ap (λ (b : Bool). if b then table.faults ioc posts.identifier_in_use else posts.with_post_queued ioc p x) u)))

  kind_is : (x : PostKind) (o : Option PostKind) (s : ℕ) → o ≡ Some x → posts.is_in_class (posts.class_of x) s ≡ true → is_of_kind o s ≡ true
  kind_is x None s e a = absurd (cc)
  kind_is post.ScsiIo (Some y) s e a = subst (λ (o : Option PostKind). is_of_kind o s ≡ true) (sym e) a
  kind_is post.HighPriority (Some y) s e a = subst (λ (o : Option PostKind). is_of_kind o s ≡ true) (sym e) a
  kind_is post.Default (Some y) s e a = subst (λ (o : Option PostKind). is_of_kind o s ≡ true) (sym e) a

  posts_go : (s : ℕ) (positive : 1 ≤ s) (ioc : Ioc) (d : ℕ) (frame payload : List ℕ) → CarriesIoc s (at_ioc s ioc) ioc → Goes s (at_ioc s ioc) 0 (one_if (smid_in d == s)) (takes_down ioc (down.Post d frame payload)).part
  posts_go s positive ioc d frame payload c = by_state (table.is_operational ioc.door.state) refl
    where
      p : Post
      p = record { descriptor = d; frame = frame; payload = payload }

      brought : ℕ
      brought = one_if (smid_in d == s)

      queues : (x : PostKind) → table.is_operational ioc.door.state ≡ true → kind_in d ≡ Some x → posts.is_in_class (posts.class_of x) (smid_in d) ≡ true → table.is_unanswered ioc (smid_in d) ≡ false → Goes s (at_ioc s ioc) 0 brought (posts.with_post_queued ioc p x)
      queues x o k a u =
          let own = answered_is (smid_in d) ioc u in
          let z = c.number in
          let more : Carries s (one_if (smid_in d == s)) (at_ioc s ioc + one_if (smid_in d == s)) n ioc.high ioc.normal ioc.up ioc.requests ioc.held ioc.vectors =
          record { queues = c.queues; vectored = c.vectored; table = c.table; number = omega (arith, z); named = c.named; high_sorted = c.high_sorted; normal_sorted = c.normal_sorted } in
          let t = takes.takes_post s n positive some (at_ioc s ioc + one_if (smid_in d == s)) d frame payload ioc o (kind_is x (kind_in d) (smid_in d) k a)
          (record { high = none_queued (smid_in d) ioc.high own.high; normal = none_queued (smid_in d) ioc.normal own.normal; requests = none_asked (smid_in d) ioc.requests own.asked; held = none_held (smid_in d) ioc.held own.held }) more in
          record { has = at_ioc s ioc + one_if (smid_in d == s); carries = subst (λ (j : Ioc). CarriesIoc s (at_ioc s ioc + one_if (smid_in d == s)) j) (sym (queued_is d frame payload ioc x o k a u)) t; bound = omega arith }

      by_tests : (x : PostKind) (a u : Bool) → table.is_operational ioc.door.state ≡ true → kind_in d ≡ Some x → posts.is_in_class (posts.class_of x) (smid_in d) ≡ a → table.is_unanswered ioc (smid_in d) ≡ u
          → Goes s (at_ioc s ioc) 0 brought (if not a then table.faults ioc posts.bad_post else if u then table.faults ioc posts.identifier_in_use else posts.with_post_queued ioc p x)
      by_tests x false u o k e f = as_before s brought ioc (table.faults ioc posts.bad_post) c
      by_tests x true true o k e f = as_before s brought ioc (table.faults ioc posts.identifier_in_use) c
      by_tests x true false o k e f = queues x o k e f

      by_kind : (o : Option PostKind) → table.is_operational ioc.door.state ≡ true → kind_in d ≡ o → Goes s (at_ioc s ioc) 0 brought (posts.posts_if ioc p o)
      by_kind None o k = as_before s brought ioc (table.faults ioc posts.bad_post) c
      by_kind (Some x) o k = by_tests x (posts.is_in_class (posts.class_of x) (smid_in d)) (table.is_unanswered ioc (smid_in d)) o k refl refl

      by_state : (b : Bool) → table.is_operational ioc.door.state ≡ b → Goes s (at_ioc s ioc) 0 brought (if b then posts.ioc_takes_post ioc d frame payload else ioc)
      by_state true o = by_kind (kind_in d) o refl
      by_state false o = as_before s brought ioc ioc c

  down_goes : (s : ℕ) (positive : 1 ≤ s) (ioc : Ioc) (item : Down) → CarriesIoc s (at_ioc s ioc) ioc → Goes s (at_ioc s ioc) 0 (one_if (is_post_under s (move.Down item))) (takes_down ioc item).part
  down_goes s positive ioc (down.Write reg value) c = writes_go s 0 positive ioc (record ioc { door = (register_written ioc.door reg value).registers }) (register_written ioc.door reg value).effect c
  down_goes s positive ioc (down.Read reg) c = as_before s 0 ioc (takes_down ioc (down.Read reg)).part (takes.takes_read s n positive some (at_ioc s ioc) reg ioc c)
  down_goes s positive ioc (down.Post d frame payload) c = posts_go s positive ioc d frame payload c
  down_goes s positive ioc (down.Return address index) c = as_before s 0 ioc (takes_down ioc (down.Return address index)).part (takes.takes_return s n positive some (at_ioc s ioc) address index ioc c)
  down_goes s positive ioc down.Stop c = as_before s 0 ioc (takes_down ioc down.Stop).part (takes.takes_stop s n positive some (at_ioc s ioc) ioc c)

  -- ---- what is put

  inside : (ioc : Ioc) (queue : ℕ) (x : Said) (rest : List Said) → length ioc.up ≡ n → get_or ioc.up queue [] ≡ x ∷ rest → queue < n
  inside ioc queue x rest l e = by_place (nat_lt queue (length ioc.up)) refl
    where
      none : List Said
      none = []

      by_place : (b : Bool) → nat_lt queue (length ioc.up) ≡ b → queue < n
      by_place true t = grind (arith, nat_tests, t, l)
      by_place false t =
          let past : length ioc.up ≤ queue = grind (arith, nat_tests, t) in
          let p = Rattle.std.proofs.lemmas.List.get_or_past ioc.up queue none past in
          absurd (cc)

  -- the replies that are said at a place
  abbrev pub replies_said : ℕ → ℕ → List IocSaid → ℕ
  replies_said s place items = count_by (is_reply_under s) (placed place items)

  said_reply_is : (s place : ℕ) (y : Up) → is_reply_under s (place, said.Up y) ≡ is_reply_of s (said_of y)
  said_reply_is s place (up.Value value) = refl
  said_reply_is s place (up.Reply d None page sense) = refl
  said_reply_is s place (up.Reply d (Some frame) page sense) = refl
  said_reply_is s place (up.Mark generation) = refl
  said_reply_is s place up.Calm = refl

  -- a reply that waits for a queue is to an identifier that a descriptor can name
  pub is_low : (t queue : ℕ) (ioc : Ioc) (x : Said) (rest : List Said) → Keeps ioc → get_or ioc.up queue [] ≡ x ∷ rest → is_reply_of t x ≡ true → t < 65536
  is_low t queue ioc x rest keeps e is = by_bound (nat_lt t 65536) refl
    where
      by_bound : (b : Bool) → nat_lt t 65536 ≡ b → t < 65536
      by_bound true u = grind (arith, nat_tests, u)
      by_bound false u =
          let past : 65536 ≤ t = grind (arith, nat_tests, u) in
          let c = keeps.carries t (omega (arith, past)) in
          let g = takes.sends_up t n (omega (arith, past)) some (at_ioc t ioc) queue ioc x rest (inside ioc queue x rest c.queues e) e c in
          let z = g.number in
          let none = keeps.small t past in
          let one : one_if (is_reply_of t x) ≡ 1 = ap one_if is in
          absurd (omega (arith, z, none, one))

  sent_goes : (s place queue : ℕ) (positive : 1 ≤ s) (ioc : Ioc) (x : Said) (rest : List Said) (y : Up) → Keeps ioc → get_or ioc.up queue [] ≡ x ∷ rest → up_of x (slice_get ioc.ring 0) ≡ Some y
      → Goes s (at_ioc s ioc) (replies_said s place (said.Up y ∷ [])) 0 (up_sent_on ioc queue)
  sent_goes s place queue positive ioc x rest y keeps e front =
      let c = keeps.carries s positive in
      let l = inside ioc queue x rest c.queues e in
      let g = takes.sends_up s n positive some (at_ioc s ioc) queue ioc x rest l e c in
      let z = g.number in
      let low : (t : ℕ) → is_reply_of t x ≡ true → t < 65536 = λ t is. is_low t queue ioc x rest keeps e is in
      let same = ap one_if (said_reply_is s place y ∙ same_identifier s x (slice_get ioc.ring 0) y low front) in
      let one = count_one (is_reply_under s) (place, said.Up y) in
      record {
        has = at_ioc s (up_sent_on ioc queue);
        carries = record { queues = g.queues; vectored = g.vectored; table = g.table; number = omega arith; named = g.named; high_sorted = g.high_sorted; normal_sorted = g.normal_sorted };
        bound = omega (arith, z, same, one);
      }

  puts_go : (s place queue : ℕ) (positive : 1 ≤ s) (ioc : Ioc) → Keeps ioc → Goes s (at_ioc s ioc) (replies_said s place (puts_up ioc queue (front_up_on ioc queue)).said) 0 (puts_up ioc queue (front_up_on ioc queue)).part
  puts_go s place queue positive ioc keeps = by_outbox (say.outbox_of ioc queue) refl
    where
      by_front : (x : Said) (rest : List Said) (o : Option Up) → get_or ioc.up queue [] ≡ x ∷ rest → up_of x (slice_get ioc.ring 0) ≡ o → Goes s (at_ioc s ioc) (replies_said s place (puts_up ioc queue o).said) 0 (puts_up ioc queue o).part
      by_front x rest None e f = as_before s 0 ioc ioc (keeps.carries s positive)
      by_front x rest (Some y) e f = sent_goes s place queue positive ioc x rest y keeps e f

      by_outbox : (xs : List Said) → get_or ioc.up queue [] ≡ xs → Goes s (at_ioc s ioc) (replies_said s place (puts_up ioc queue (front_up_of (slice_get xs 0) (slice_get ioc.ring 0))).said) 0 (puts_up ioc queue (front_up_of (slice_get xs 0) (slice_get ioc.ring 0))).part
      by_outbox [] e = as_before s 0 ioc ioc (keeps.carries s positive)
      by_outbox (x ∷ rest) e = by_front x rest (up_of x (slice_get ioc.ring 0)) e refl

  out_goes : (s place : ℕ) (positive : 1 ≤ s) (ioc : Ioc) (o : Option Out) → CarriesIoc s (at_ioc s ioc) ioc → Goes s (at_ioc s ioc) (replies_said s place (puts_out ioc o).said) 0 (puts_out ioc o).part
  out_goes s place positive ioc None c = as_before s 0 ioc ioc c
  out_goes s place positive ioc (Some x) c = as_before s 0 ioc (Rattle.mpt_rules.specs.Ioc.Sending.out_sent ioc) c

  -- ---- every move

  goes : (s place : ℕ) (positive : 1 ≤ s) (ioc : Ioc) (m : IocMove) → Keeps ioc → Goes s (at_ioc s ioc) (replies_said s place (moved ioc m).said) (one_if (is_post_under s m)) (moved ioc m).part
  goes s place positive ioc (move.Down item) keeps = down_goes s positive ioc item (keeps.carries s positive)
  goes s place positive ioc (move.Back item) keeps = as_before s 0 ioc (takes_back ioc item).part (calls.takes_back s n positive some (at_ioc s ioc) ioc item (keeps.carries s positive))
  goes s place positive ioc move.High keeps = as_before s 0 ioc (steps_high_on ioc ioc.high).part (works.steps_high s n positive some (at_ioc s ioc) ioc ioc.high refl (record { once = keeps.room }) (keeps.carries s positive))
  goes s place positive ioc move.Normal keeps = as_before s 0 ioc (steps_normal_on ioc ioc.normal).part (works.steps_normal s n positive some (at_ioc s ioc) ioc ioc.normal refl (record { once = keeps.room }) (keeps.carries s positive))
  goes s place positive ioc move.PutUp keeps = puts_go s place 0 positive ioc keeps
  goes s place positive ioc (move.PutUpOn queue) keeps = puts_go s place queue positive ioc keeps
  goes s place positive ioc move.PutOut keeps = out_goes s place positive ioc (front_out ioc) (keeps.carries s positive)

  -- ---- room

  front_placed : (high : Bool) (p : Post) (rest : List Post) → strays high (p ∷ rest) ≡ 0 → is_placed high (kind_in p.descriptor) (smid_in p.descriptor) ≡ true
  front_placed high p rest z = let c = strays-cons high p rest in by_bool (is_placed high (kind_in p.descriptor) (smid_in p.descriptor)) (omega (arith, c, z))
    where
      by_bool : (b : Bool) → one_if (not b) ≡ 0 → b ≡ true
      by_bool true z = refl
      by_bool false z = absurd (omega (arith, z))

  high_room : (ioc : Ioc) (ps : List Post) → ioc.high ≡ ps → Keeps ioc → HasRoom (steps_high_on ioc ps).part
  high_room ioc [] e keeps = keeps.room
  high_room ioc (p ∷ rest) e keeps =
      let c = keeps.carries 1 (omega arith) in
      let i = works.identifier 1 n (omega arith) some true (kind_in p.descriptor) (smid_in p.descriptor) (front_placed true p rest (subst (λ (xs : List Post). strays true xs ≡ 0) e c.high_sorted)) in
      let t = c.table in
      let least = i.0 in
      let most = i.1 in
      room_high ioc p rest (works_on (record ioc { high = rest }) p) e least (omega (arith, t, least, most)) (works_leaf (record ioc { high = rest }) p) keeps.room

  normal_room : (ioc : Ioc) (ps : List Post) → ioc.normal ≡ ps → Keeps ioc → HasRoom (steps_normal_on ioc ps).part
  normal_room ioc [] e keeps = keeps.room
  normal_room ioc (p ∷ rest) e keeps =
      let c = keeps.carries 1 (omega arith) in
      let i = works.identifier 1 n (omega arith) some false (kind_in p.descriptor) (smid_in p.descriptor) (front_placed false p rest (subst (λ (xs : List Post). strays false xs ≡ 0) e c.normal_sorted)) in
      let t = c.table in
      let least = i.0 in
      let most = i.1 in
      room_normal ioc p rest (works_on (record ioc { normal = rest }) p) e least (omega (arith, t, least, most)) (works_leaf (record ioc { normal = rest }) p) keeps.room

  put_room : (ioc : Ioc) (queue : ℕ) (o : Option Up) → HasRoom ioc → HasRoom (puts_up ioc queue o).part
  put_room ioc queue None h = h
  put_room ioc queue (Some y) h = h

  out_room : (ioc : Ioc) (o : Option Out) → HasRoom ioc → HasRoom (puts_out ioc o).part
  out_room ioc None h = h
  out_room ioc (Some y) h = h

  room_after : (ioc : Ioc) (m : IocMove) → Keeps ioc → HasRoom (moved ioc m).part
  room_after ioc (move.Down item) keeps = room_down ioc item keeps.room
  room_after ioc (move.Back item) keeps = room_back ioc item keeps.room
  room_after ioc move.High keeps = high_room ioc ioc.high refl keeps
  room_after ioc move.Normal keeps = normal_room ioc ioc.normal refl keeps
  room_after ioc move.PutUp keeps = put_room ioc 0 (front_up_on ioc 0) keeps.room
  room_after ioc (move.PutUpOn queue) keeps = put_room ioc queue (front_up_on ioc queue) keeps.room
  room_after ioc move.PutOut keeps = out_room ioc (front_out ioc) keeps.room

  -- ---- lists of moves

  post_is_small : (s : ℕ) (m : IocMove) → 65536 ≤ s → one_if (is_post_under s m) ≡ 0
  post_is_small s (move.Down (down.Post d frame payload)) l =
      let low : smid_in d < 65536 = omega arith in
      let other : (smid_in d == s) ≡ false = grind (arith, nat_tests, low, l) in
      ap one_if other
  post_is_small s _ l = refl

  number_is : (s k : ℕ) (ioc : Ioc) → CarriesIoc s k ioc → at_ioc s ioc ≡ k
  number_is s k ioc c = let z = c.number in omega (arith, z)

  pub keeps_after : (ioc : Ioc) (m : IocMove) → Keeps ioc → Keeps (moved ioc m).part
  keeps_after ioc m keeps =
      record {
        room = room_after ioc m keeps;
        carries = λ s positive.
            let g = goes s 0 positive ioc m keeps in
            subst (λ (k : ℕ). CarriesIoc s k (moved ioc m).part) (sym (number_is s g.has (moved ioc m).part g.carries)) g.carries;
        small = λ s l.
            let g = goes s 0 (omega (arith, l)) ioc m keeps in
            let is = number_is s g.has (moved ioc m).part g.carries in
            let b = g.bound in
            let none = keeps.small s l in
            let no_post = post_is_small s m l in
            omega (arith, is, b, none, no_post);
      }

  pub counted : (s place : ℕ) (ioc : Ioc) (moves : List IocMove) → 1 ≤ s → Keeps ioc → count_by (is_reply_under s) (talk_from place ioc moves) ≤ at_ioc s ioc + count_by (is_post_under s) moves
  unfolding talk_from
  counted s place ioc [] positive keeps = omega arith
  counted s place ioc (m ∷ moves) positive keeps =
      let g = goes s place positive ioc m keeps in
      let is = number_is s g.has (moved ioc m).part g.carries in
      let b = g.bound in
      let rest = counted s (place + 1) (moved ioc m).part moves positive (keeps_after ioc m keeps) in
      let a = count_append (is_reply_under s) (placed place (moved ioc m).said) (talk_from (place + 1) (moved ioc m).part moves) in
      let c = count_cons (is_post_under s) m moves in
      omega (arith, is, b, rest, a, c)

  pub all_keep : (ioc : Ioc) (moves : List IocMove) → Keeps ioc → Keeps (after_moves ioc moves)
  unfolding after_moves
  all_keep ioc [] keeps = keeps
  all_keep ioc (m ∷ moves) keeps = all_keep (moved ioc m).part moves (keeps_after ioc m keeps)

  -- ---- a beginning

  none_said : (s q : ℕ) → said_to s (replicate q []) ≡ 0
  none_said s zero = said_to-nil s
  none_said s (suc q) = let a = said_to-cons s [] (replicate q []) in let b = reply_count-nil s in let h = none_said s q in omega (arith, a, b, h)

  made_carries : (phys : List ℕ) (s : ℕ) → CarriesIoc s 0 (new_ioc phys n)
  made_carries phys s =
      let a = queued_count-nil s in
      let b = asked_fresh s 280 in
      let d = held_as-nil s in
      let e = none_said s n in
      record {
        queues = length_fresh {X = List Said} n [];
        vectored = omega arith;
        table = length_fresh {X = Option AtFabric} 280 None;
        number = omega (arith, a, b, d, e);
        named = λ x. subst (Rattle.law_flights.proofs.IocCarries.IsNamed n) (sym (fresh_at 280 x)) tt;
        high_sorted = strays-nil true;
        normal_sorted = strays-nil false;
      }

  made_keeps : (phys : List ℕ) → Keeps (new_ioc phys n)
  made_keeps phys =
      record {
        room = room_made phys n;
        carries = λ s positive. subst (λ (k : ℕ). CarriesIoc s k (new_ioc phys n)) (sym (number_is s 0 (new_ioc phys n) (made_carries phys s))) (made_carries phys s);
        small = λ s l. number_is s 0 (new_ioc phys n) (made_carries phys s);
      }

  reset_carries : (ioc : Ioc) (m : IocMove) (s : ℕ) → 1 ≤ s → is_reset_move ioc m ≡ true → Keeps ioc → CarriesIoc s 0 (moved ioc m).part
  reset_carries ioc m s positive r keeps =
      let f = reset_forgot ioc m r in
      subst (CarriesIoc s 0) (sym f.1) (takes.forgets s n positive some (at_ioc s ioc) (record ioc { door = f.0 }) (keeps.carries s positive))

  -- a controller that was just made or reset has nothing of any identifier
  pub record Starts (ioc : Ioc) : Type 0 where
    pub keeps : Keeps ioc
    pub none : (s : ℕ) → 1 ≤ s → at_ioc s ioc ≡ 0

  pub reached_keeps : (phys : List ℕ) (moves : List IocMove) → Keeps (ioc_reached phys n moves)
  reached_keeps phys moves = all_keep (new_ioc phys n) moves (made_keeps phys)

  pub fresh_starts : (phys : List ℕ) (ioc : Ioc) → IsFresh phys n ioc → Starts ioc
  fresh_starts phys ioc (IsMade e) = subst Starts (sym e) (record { keeps = made_keeps phys; none = λ s positive. number_is s 0 (new_ioc phys n) (made_carries phys s) })
  fresh_starts phys ioc (IsReset moves m r e) =
      let keeps = reached_keeps phys moves in
      subst Starts (sym e)
      (record {
        keeps = keeps_after (ioc_reached phys n moves) m keeps;
        none = λ s positive. number_is s 0 (moved (ioc_reached phys n moves) m).part (reset_carries (ioc_reached phys n moves) m s positive r keeps);
      })

pub replies_law : RepliesAreForPosts
replies_law phys q ioc moves smid some fresh positive =
    let starts = fresh_starts q some phys ioc fresh in
    let c = counted q some smid 0 ioc moves positive starts.keeps in
    let z = starts.none smid positive in
    omega (arith, c, z)
