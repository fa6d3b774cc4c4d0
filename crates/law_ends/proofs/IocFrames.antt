-- A controller uses a reply frame at most as often as it was returned, whatever is brought to it.
use Rattle.std.proofs.Common.{◌≡◌, ℕ, ◌+◌, ◌<◌, ◌≤◌, ◌==◌, Bool, true, false, if◌then◌else◌, not, ◌&&◌, ◌||◌, List, [], ◌∷◌, ◌++◌, get_or, Option, Some, None, refl, ap, sym, subst, ◌∙◌, arith}
use Rattle.std.specs.Prelude.{count_by, drop, nat_lt, slice_get}
use Rattle.std.proofs.lemmas.Bool.Decides.{nat_tests}
use Rattle.mpi_doorbell.specs.DoorRegisters.{register_written}
use Rattle.mpi_doorbell.specs.declared.effect.Effect.{Effect}
use Rattle.mpi_doorbell.specs.declared.effect.Effect.TheVariants as effect
use Rattle.mpt_trace.specs.declared.item.Down.{Down}
use Rattle.mpt_trace.specs.declared.item.Down.TheVariants as down
use Rattle.mpt_trace.specs.declared.item.Out.{Out}
use Rattle.mpt_trace.specs.declared.item.Up.{Up}
use Rattle.mpt_trace.specs.declared.item.Up.TheVariants as up
use Rattle.mpt_wire.specs.Messages.Fields.{address_descriptor, frame_address_in, reply_frame_address, success_descriptor}
use Rattle.mpt_rules.specs.declared.post.Post.{Post}
use Rattle.mpt_rules.specs.declared.said.Said.{Said}
use Rattle.mpt_rules.specs.declared.said.Said.TheVariants as word
use Rattle.mpt_rules.specs.Ioc.Parts.{Ioc}
use Rattle.mpt_rules.specs.Ioc.Places.{is_reply_of}
use Rattle.mpt_rules.specs.Ioc.Posts as posts
use Rattle.mpt_rules.specs.Ioc.Registers.{after_effect}
use Rattle.mpt_rules.specs.Ioc.Replies as say
use Rattle.mpt_rules.specs.Ioc.Sending.{front_out, front_up_of, front_up_on, needs_frame, up_of}
use Rattle.mpt_rules.specs.Ioc.Steps.{steps_high_on, steps_normal_on}
use Rattle.mpt_rules.specs.Ioc.Tables as table
use Rattle.mpt_rules.specs.Ioc.Takes.{takes_back, takes_down}
use Rattle.mpt_rules.specs.World.Counts.{one_if}
use Rattle.ioc_core.specs.Plays.{moved, placed, puts_out, puts_up, talk_from}
use Rattle.ioc_core.specs.declared.moves.IocMove.{IocMove}
use Rattle.ioc_core.specs.declared.moves.IocMove.TheVariants as move
use Rattle.ioc_core.specs.declared.moves.IocSaid.{IocSaid}
use Rattle.ioc_core.specs.declared.moves.IocSaid.TheVariants as said
use Rattle.law_frames.proofs.IocRing as rings
use Rattle.law_ends.proofs.IocReplies.{Keeps, count_append, count_cons, count_one, fresh_starts, is_low, keeps_after, reset_forgot}
use Rattle.law_ends.specs.IocEnds.{FramesAreReturned, IsFresh, IsMade, IsReset, ioc_reached, is_reply_at, is_return_at}

module _ (a : ℕ) where
  -- the ring has the reply frame of the address so often
  is_at : ℕ → Bool
  is_at frame = reply_frame_address frame == a

  abbrev ring_count : List ℕ → ℕ
  ring_count ring = count_by is_at ring

  abbrev uses_said : ℕ → List IocSaid → ℕ
  uses_said place items = count_by (is_reply_at a) (placed place items)

  -- a move leaves the ring so
  abbrev Bounds : List ℕ → ℕ → ℕ → List ℕ → Type 0
  Bounds before uses returned after = ring_count after + uses ≤ ring_count before + returned

  stays : (before after : List ℕ) → after ≡ before → (returned : ℕ) → Bounds before 0 returned after
  stays before after e returned = let z = ap ring_count e in omega (arith, z)

  -- ---- items of the host

  after_write : (ioc : Ioc) (e : Effect) → Bounds ioc.ring 0 0 (after_effect ioc e).part.ring
  after_write ioc effect.None = omega arith
  after_write ioc (effect.Asked count bytes) = stays ioc.ring _ (rings.asked ioc.ring ioc.generation ioc count bytes (record { ring_is = refl; generation_is = refl })).ring_is 0
  after_write ioc effect.UnitReset = omega arith
  after_write ioc effect.AdapterReset = omega arith
  after_write ioc (effect.Fault code) = omega arith

  -- a frame is returned
  after_return : (ioc : Ioc) (address : ℕ) → Bounds ioc.ring 0 (one_if (address == a)) (Rattle.mpt_rules.specs.Ioc.Takes.returns_if_operational ioc address).ring
  unfolding is_at
  after_return ioc address = by_state (table.is_operational ioc.door.state)
    where
      returned : ℕ
      returned = one_if (address == a)

      by_frame : (b c : Bool) → posts.is_frame_address address ≡ b → Bounds ioc.ring 0 (one_if (address == a)) (if not b || c then table.faults ioc posts.bad_return else record ioc { ring = ioc.ring ++ posts.frame_near address ∷ [] }).ring
      by_frame false c e = omega arith
      by_frame true true e = omega arith
      by_frame true false e =
          let same : reply_frame_address (posts.frame_near address) ≡ address = by_both (reply_frame_address (posts.frame_near address) == address) (nat_lt (posts.frame_near address) 64) refl e in
          let p = count_append is_at ioc.ring (posts.frame_near address ∷ []) in
          let one = count_one is_at (posts.frame_near address) in
          let is : one_if (is_at (posts.frame_near address)) ≡ one_if (address == a) = ap (λ (x : ℕ). one_if (x == a)) same in
          omega (arith, p, one, is)
        where
          by_both : (x y : Bool) → (reply_frame_address (posts.frame_near address) == address) ≡ x → (x && y) ≡ true → reply_frame_address (posts.frame_near address) ≡ address
          by_both true y t u = grind (arith, nat_tests, t)
          by_both false y t u = absurd (cc)

      by_state : (b : Bool) → Bounds ioc.ring 0 (one_if (address == a)) (if b then posts.ioc_takes_return ioc address else ioc).ring
      by_state true = by_frame (posts.is_frame_address address) (posts.frame_here ioc (posts.frame_near address)) refl
      by_state false = omega arith

  after_down : (ioc : Ioc) (item : Down) → Bounds ioc.ring 0 (one_if (is_return_at a (move.Down item))) (takes_down ioc item).part.ring
  after_down ioc (down.Write reg value) = after_write (record ioc { door = (register_written ioc.door reg value).registers }) (register_written ioc.door reg value).effect
  after_down ioc (down.Read reg) = omega arith
  after_down ioc (down.Post d frame payload) = stays ioc.ring _ (rings.takes_post ioc.ring ioc.generation ioc d frame payload (record { ring_is = refl; generation_is = refl })).ring_is 0
  after_down ioc (down.Return address index) = after_return ioc address
  after_down ioc down.Stop = stays ioc.ring _ (rings.takes_stop ioc.ring ioc.generation ioc (record { ring_is = refl; generation_is = refl })).ring_is 0

  -- ---- work steps

  after_high : (ioc : Ioc) (ps : List Post) → Bounds ioc.ring 0 0 (steps_high_on ioc ps).part.ring
  after_high ioc [] = omega arith
  after_high ioc (p ∷ rest) = stays ioc.ring _ (rings.works_on ioc.ring ioc.generation (record ioc { high = rest }) p (record { ring_is = refl; generation_is = refl })).ring_is 0

  after_normal : (ioc : Ioc) (ps : List Post) → Bounds ioc.ring 0 0 (steps_normal_on ioc ps).part.ring
  after_normal ioc [] = omega arith
  after_normal ioc (p ∷ rest) = stays ioc.ring _ (rings.works_on ioc.ring ioc.generation (record ioc { normal = rest }) p (record { ring_is = refl; generation_is = refl })).ring_is 0

  -- ---- what is put

  addressed : (s x : ℕ) → s < 65536 → frame_address_in (address_descriptor s x) ≡ x
  addressed s x l = omega arith

  abbrev ring_sent : List Said → List ℕ → List ℕ
  ring_sent outbox ring = if needs_frame (slice_get outbox 0) then drop 1 ring else ring

  front : (place : ℕ) (x : Said) (rest : List Said) (ring : List ℕ) (y : Up) → ((t : ℕ) → is_reply_of t x ≡ true → t < 65536) → up_of x (slice_get ring 0) ≡ Some y → Bounds ring (uses_said place (said.Up y ∷ [])) 0 (ring_sent (x ∷ rest) ring)
  unfolding is_at
  front place (word.Value value) rest ring y low e =
      let z : up.Value value ≡ y = cc in
      subst (λ (u : Up). Bounds ring (uses_said place (said.Up u ∷ [])) 0 ring) z (let c = count_one (is_reply_at a) (place, said.Up (up.Value value)) in omega (arith, c))
  front place (word.Success smid page sense) rest ring y low e =
      let z : up.Reply (success_descriptor smid) None page sense ≡ y = cc in
      subst (λ (u : Up). Bounds ring (uses_said place (said.Up u ∷ [])) 0 ring) z (let c = count_one (is_reply_at a) (place, said.Up (up.Reply (success_descriptor smid) None page sense)) in omega (arith, c))
  front place (word.Framed smid frame page sense) rest [] y low e = absurd (cc)
  front place (word.Framed smid frame page sense) rest (f ∷ fs) y low e =
      let z : up.Reply (address_descriptor smid (reply_frame_address f)) (Some frame) page sense ≡ y = cc in
      let l : smid < 65536 = low smid (grind arith) in
      subst (λ (u : Up). Bounds (f ∷ fs) (uses_said place (said.Up u ∷ [])) 0 fs) z
      (let c = count_one (is_reply_at a) (place, said.Up (up.Reply (address_descriptor smid (reply_frame_address f)) (Some frame) page sense)) in
      let d = count_cons is_at f fs in
      let is = ap (λ (x : ℕ). one_if (x == a)) (addressed smid (reply_frame_address f) l) in
      omega (arith, c, d, is))
  front place (word.Mark generation) rest ring y low e =
      let z : up.Mark generation ≡ y = cc in
      subst (λ (u : Up). Bounds ring (uses_said place (said.Up u ∷ [])) 0 ring) z (let c = count_one (is_reply_at a) (place, said.Up (up.Mark generation)) in omega (arith, c))
  front place word.Calm rest ring y low e =
      let z : up.Calm ≡ y = cc in
      subst (λ (u : Up). Bounds ring (uses_said place (said.Up u ∷ [])) 0 ring) z (let c = count_one (is_reply_at a) (place, said.Up up.Calm) in omega (arith, c))

  module _ (n : ℕ) (some : 1 ≤ n) where
    after_put : (place queue : ℕ) (ioc : Ioc) → Keeps n some ioc → Bounds ioc.ring (uses_said place (puts_up ioc queue (front_up_on ioc queue)).said) 0 (puts_up ioc queue (front_up_on ioc queue)).part.ring
    after_put place queue ioc keeps = by_outbox (say.outbox_of ioc queue) refl
      where
        by_front : (x : Said) (rest : List Said) (o : Option Up) → get_or ioc.up queue [] ≡ x ∷ rest → up_of x (slice_get ioc.ring 0) ≡ o → Bounds ioc.ring (uses_said place (puts_up ioc queue o).said) 0 (puts_up ioc queue o).part.ring
        by_front x rest None e f = omega arith
        by_front x rest (Some y) e f =
            let b = front place x rest ioc.ring y (λ t is. is_low n some t queue ioc x rest keeps e is) f in
            subst (λ (outbox : List Said). Bounds ioc.ring (uses_said place (said.Up y ∷ [])) 0 (ring_sent outbox ioc.ring)) (sym e) b

        by_outbox : (xs : List Said) → get_or ioc.up queue [] ≡ xs → Bounds ioc.ring (uses_said place (puts_up ioc queue (front_up_of (slice_get xs 0) (slice_get ioc.ring 0))).said) 0 (puts_up ioc queue (front_up_of (slice_get xs 0) (slice_get ioc.ring 0))).part.ring
        by_outbox [] e = omega arith
        by_outbox (x ∷ rest) e = by_front x rest (up_of x (slice_get ioc.ring 0)) e refl

    after_out : (place : ℕ) (ioc : Ioc) (o : Option Out) → Bounds ioc.ring (uses_said place (puts_out ioc o).said) 0 (puts_out ioc o).part.ring
    after_out place ioc None = omega arith
    after_out place ioc (Some x) = let c = count_one (is_reply_at a) (place, said.Out x) in omega (arith, c)

    after_move : (place : ℕ) (ioc : Ioc) (m : IocMove) → Keeps n some ioc → Bounds ioc.ring (uses_said place (moved ioc m).said) (one_if (is_return_at a m)) (moved ioc m).part.ring
    after_move place ioc (move.Down item) keeps = after_down ioc item
    after_move place ioc (move.Back item) keeps = stays ioc.ring _ (rings.takes_back ioc.ring ioc.generation ioc item (record { ring_is = refl; generation_is = refl })).ring_is 0
    after_move place ioc move.High keeps = after_high ioc ioc.high
    after_move place ioc move.Normal keeps = after_normal ioc ioc.normal
    after_move place ioc move.PutUp keeps = after_put place 0 ioc keeps
    after_move place ioc (move.PutUpOn queue) keeps = after_put place queue ioc keeps
    after_move place ioc move.PutOut keeps = after_out place ioc (front_out ioc)

    counted : (place : ℕ) (ioc : Ioc) (moves : List IocMove) → Keeps n some ioc → count_by (is_reply_at a) (talk_from place ioc moves) ≤ ring_count ioc.ring + count_by (is_return_at a) moves
    unfolding talk_from
    counted place ioc [] keeps = omega arith
    counted place ioc (m ∷ moves) keeps =
        let b = after_move place ioc m keeps in
        let rest = counted (place + 1) (moved ioc m).part moves (keeps_after n some ioc m keeps) in
        let x = count_append (is_reply_at a) (placed place (moved ioc m).said) (talk_from (place + 1) (moved ioc m).part moves) in
        let c = count_cons (is_return_at a) m moves in
        omega (arith, b, rest, x, c)

-- ---- a beginning

fresh_ring : (phys : List ℕ) (q : ℕ) (ioc : Ioc) → IsFresh phys q ioc → ioc.ring ≡ []
fresh_ring phys q ioc (IsMade e) = ap (λ (x : Ioc). x.ring) e
fresh_ring phys q ioc (IsReset moves m r e) = ap (λ (x : Ioc). x.ring) e ∙ ap (λ (x : Ioc). x.ring) (reset_forgot (ioc_reached phys q moves) m r).1

pub frames_law : FramesAreReturned
frames_law phys q ioc moves address some fresh =
    let c = counted address q some 0 ioc moves (fresh_starts q some phys ioc fresh).keeps in
    let z = ap (count_by (is_at address)) (fresh_ring phys q ioc fresh) in
    omega (arith, c, z)
