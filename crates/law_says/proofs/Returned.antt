-- The frame of a reply that comes up is one that the host returned: it is in no other place, so not at the host.
use Rattle.std.proofs.Common.{◌≡◌, ℕ, ◌<◌, ◌≤◌, ◌==◌, ◌&&◌, nat_lt, not, Bool, true, false, List, [], ◌∷◌, get_or, Some, None, refl, ap, sym, ◌∙◌, subst, arith}
use Rattle.std.proofs.lemmas.Bool.{eqb-true}
use Rattle.std.proofs.lemmas.List.{get_or_default}
use Rattle.mpt_trace.specs.declared.item.Up.{Up}
use Rattle.mpt_trace.specs.declared.item.Up.TheVariants as up
use Rattle.mpt_wire.specs.Messages.Fields.{frame_address_in, reply_frame_address}
use Rattle.mpt_rules.specs.declared.host_frame.HostFrame.{HostFrame}
use Rattle.mpt_rules.specs.declared.host_frame.HostFrame.TheVariants as frame
use Rattle.mpt_rules.specs.declared.why.Why.TheVariants as why
use Rattle.mpt_rules.specs.Host.Returns.{frame_of, is_away, is_frame_address, is_frame_away}
use Rattle.mpt_rules.specs.Host.Strange.{is_returned, not_returned}
use Rattle.mpt_rules.specs.World.Counts.{one_if, return_count, use_count}
use Rattle.mpt_rules.specs.World.PlaceCounts.{is_held_frame}
use Rattle.mpt_rules.specs.World.State.{World, up_on}
use Rattle.mpt_rules.proofs.Counts.{return_count-append, use_count-cons, use_count-nil}
use Rattle.law_facts.specs.Facts.{Facts}
use Rattle.law_facts.specs.Flights.{is_in_a_frame}
use Rattle.law_facts.specs.History.{History}
use Rattle.law_facts.specs.Words.{is_out_frame, others}
use Rattle.law_moves.proofs.Counted.{others-nil}
use Rattle.law_says.proofs.Fronts.{no_why}
use Rattle.law_says.proofs.Sums.{first_passes, sum_at}

both : (a b : Bool) → (a && b) ≡ true → (a ≡ true) × (b ≡ true)
both true b e = (refl, e)
both false b e = absurd (cc)

both_true : (a b : Bool) → a ≡ true → b ≡ true → (a && b) ≡ true
both_true true true e g = refl
both_true true false e g = absurd (cc)
both_true false b e g = absurd (cc)

-- neither held nor in a return
away : (x : HostFrame) → one_if (is_held_frame x) ≡ 0 → one_if (is_out_frame x) ≡ 0 → is_away x ≡ true
away frame.Held a b = absurd (omega (arith, a))
away frame.Out a b = absurd (omega (arith, b))
away frame.Away a b = refl

module _ (w : World) (h : History) (f : Facts w h) (queue d : ℕ) (bytes page sense : List ℕ) (rest : List Up) (front : up_on w queue ≡ up.Reply d (Some bytes) page sense ∷ rest) where
  x : Up
  x = up.Reply d (Some bytes) page sense

  is_a_frame : is_frame_address (frame_address_in d) ≡ true
  unfolding x
  is_a_frame =
      let z = f.flights.frames_are_frames.lanes in
      let n : others is_in_a_frame [] ≡ 0 = others-nil is_in_a_frame in
      let s = sum_at (others is_in_a_frame) [] n w.up queue in
      let o : others is_in_a_frame (up_on w queue) ≤ 0 = omega (arith, s, z) in
      first_passes is_in_a_frame x rest (subst (λ xs. others is_in_a_frame xs ≤ 0) front o)

  number : ℕ
  number = frame_of (frame_address_in d)

  is_number : (reply_frame_address number == frame_address_in d) ≡ true
  unfolding number
  is_number = (both (reply_frame_address (frame_of (frame_address_in d)) == frame_address_in d) (nat_lt (frame_of (frame_address_in d)) 64) is_a_frame).0

  below : number < 64
  unfolding number
  below = less (frame_of (frame_address_in d)) (both (reply_frame_address (frame_of (frame_address_in d)) == frame_address_in d) (nat_lt (frame_of (frame_address_in d)) 64) is_a_frame).1
    where
      less : (n : ℕ) → nat_lt n 64 ≡ true → n < 64
      less n t = grind (arith, t)

  -- one use of it is on the lane
  used : (queue_uses : ℕ) → queue_uses ≡ use_count number (up_on w queue) → 1 ≤ queue_uses
  unfolding x
  used n e =
      let c = ap (use_count number) front ∙ use_count-cons number x rest in
      let o : one_if (frame_address_in d == reply_frame_address number) ≡ 1 = ap one_if (ap (λ m. frame_address_in d == m) (eqb-true (reply_frame_address number) (frame_address_in d) is_number) ∙ same (frame_address_in d)) in
      omega (arith, c, o, e)
    where
      same : (n : ℕ) → (n == n) ≡ true
      same n = grind arith

  nowhere_else : (one_if (is_held_frame (get_or w.host.frames number frame.Away)) ≡ 0) × (return_count number w.host.out ≡ 0)
  nowhere_else =
      let m = (f.flights.frames number (let b = below in omega (arith, b))).at_most in
      let u = used (use_count number (up_on w queue)) refl in
      let s = sum_at (use_count number) [] (use_count-nil number) w.up queue in
      let a = return_count-append number w.down w.host.out in
      (omega (arith, m, u, s), omega (arith, m, u, s, a))

  is_not_here : is_frame_away w.host number ≡ true
  is_not_here =
      let n = nowhere_else in let n1 = n.1 in
      let o = (f.flights.frames number (let b = below in omega (arith, b))).out in
      let z = f.flights.sizes.frames in
      let same : get_or w.host.frames number frame.Away ≡ get_or w.host.frames number frame.Held = get_or_default w.host.frames number frame.Away frame.Held (let b = below in omega (arith, b, z)) in
      away (get_or w.host.frames number frame.Held) (sym (ap (λ y. one_if (is_held_frame y)) same) ∙ n.0) (o ∙ n1)

  pub returned : not_returned w.host d (Some bytes) ≡ None
  unfolding number
  returned =
      no_why (not (is_returned w.host (frame_address_in d))) (why.NotReturned (frame_address_in d))
      (ap not (both_true (is_frame_address (frame_address_in d)) (is_frame_away w.host (frame_of (frame_address_in d))) is_a_frame is_not_here))
