-- Where an identifier has at most one place, that place is the one that is told; and so of a reply frame.
use Rattle.std.proofs.Common.{◌≡◌, ℕ, ◌+◌, ◌≤◌, Bool, true, false, not, ◌||◌, if◌then◌else◌, List, [], ◌∷◌, Some, None, is_some, slice_index_or, refl, ap, sym, ◌∙◌, arith, inl, inr, ◌⊎◌}
use Rattle.std.specs.Prelude.{sum_by}
use Rattle.std.specs.List.{list_any}
use Rattle.std.proofs.lemmas.List.Sums.{sum_by-cons}
use Rattle.mpt_trace.specs.declared.item.Down.{Down}
use Rattle.mpt_trace.specs.declared.item.Up.{Up}
use Rattle.mpt_trace.specs.declared.item.Up.TheVariants as up
use Rattle.smid_pool.specs.Pool as pool
use Rattle.smid_pool.specs.Pool.{Slot, is_open, slot_of}
use Rattle.mpt_rules.specs.declared.host_frame.HostFrame.{HostFrame}
use Rattle.mpt_rules.specs.declared.host_frame.HostFrame.TheVariants as frame
use Rattle.mpt_rules.specs.declared.post.Post.{Post}
use Rattle.mpt_rules.specs.declared.request.Request.{Request}
use Rattle.mpt_rules.specs.declared.said.Said.{Said}
use Rattle.mpt_rules.specs.Ioc.Places.{is_reply_of}
use Rattle.mpt_rules.specs.Ioc.Tables.{is_held_as, is_post_of, request_at}
use Rattle.mpt_rules.specs.Ioc.Takes.{AtTheFabric, InHighQueue, InNormalQueue, InUpOutbox, frame_here, smid_at}
use Rattle.mpt_rules.specs.Law.{FramePlacesAreTold, FramesHaveOnePlace, IdentifiersHaveOnePlace, SmidPlacesAreTold}
use Rattle.mpt_rules.specs.World.Counts.{how_many, one_if, post_count, queued_count, reply_count, return_count, use_count}
use Rattle.mpt_rules.specs.World.Lines.{down_line, said_of}
use Rattle.mpt_rules.specs.World.PlaceCounts.{frame_count, is_held_frame, is_this_number, replies_on, smid_count}
use Rattle.mpt_rules.specs.World.Places.{FramePlace, SmidPlace, is_answered_by, is_in_frame, is_posted_as, is_return_of, place_at_ioc, place_of_frame, place_of_slot}
use Rattle.mpt_rules.specs.World.PlacesTold.{FramePlaceIsTold, SmidPlaceIsTold, frame_found, is_free_slot, is_parked_slot, smid_found}
use Rattle.mpt_rules.specs.World.State.{World}
use Rattle.mpt_rules.proofs.Counts.{post_count-append, return_count-append}
use Rattle.law_flights.proofs.KnownOnce.{none_counted}

-- ---- what is found is counted

any_counted : {X : Type 0} (test : X → Bool) (xs : List X) → list_any test xs ≡ true → 1 ≤ how_many test xs
unfolding how_many
any_counted test [] e = absurd (cc)
any_counted test (x ∷ xs) e = by_test (test x) e (any_counted test xs)
  where
    by_test : (b : Bool) → (b || list_any test xs) ≡ true → (list_any test xs ≡ true → 1 ≤ how_many test xs) → 1 ≤ one_if b + how_many test xs
    by_test true e ih = omega arith
    by_test false e ih = let h = ih e in omega (arith, h)

-- over all queues
module _ {X : Type 0} (test : X → Bool) (count : List X → ℕ) (counts : (xs : List X) → count xs ≡ how_many test xs) where
  any_summed : (xss : List (List X)) → list_any (list_any test) xss ≡ true → 1 ≤ sum_by count xss
  any_summed [] e = absurd (cc)
  any_summed (xs ∷ xss) e = by_test (list_any test xs) refl e (any_summed xss) (sum_by-cons count xs xss)
    where
      by_test : (b : Bool) → list_any test xs ≡ b → (b || list_any (list_any test) xss) ≡ true → (list_any (list_any test) xss ≡ true → 1 ≤ sum_by count xss) → sum_by count (xs ∷ xss) ≡ count xs + sum_by count xss → 1 ≤ sum_by count (xs ∷ xss)
      by_test true t e ih c = let n = counts xs in let a = any_counted test xs t in omega (arith, n, a, c)
      by_test false t e ih c = let h = ih e in omega (arith, h, c)

  none_summed : (xss : List (List X)) → list_any (list_any test) xss ≡ false → sum_by count xss ≡ 0
  none_summed [] e = refl
  none_summed (xs ∷ xss) e = by_test (list_any test xs) refl e (none_summed xss) (sum_by-cons count xs xss)
    where
      by_test : (b : Bool) → list_any test xs ≡ b → (b || list_any (list_any test) xss) ≡ false → (list_any (list_any test) xss ≡ false → sum_by count xss ≡ 0) → sum_by count (xs ∷ xss) ≡ count xs + sum_by count xss → sum_by count (xs ∷ xss) ≡ 0
      by_test true t e ih c = absurd (cc)
      by_test false t e ih c = let h = ih e in let n = counts xs in let a = none_counted test xs t in omega (arith, h, c, n, a)

posts_are : (smid : ℕ) (xs : List Down) → post_count smid xs ≡ how_many (is_posted_as smid) xs
unfolding post_count
posts_are smid xs = refl

queued_are : (smid : ℕ) (xs : List Post) → queued_count smid xs ≡ how_many (is_post_of smid) xs
unfolding queued_count
queued_are smid xs = refl

replies_are : (smid : ℕ) (xs : List Said) → reply_count smid xs ≡ how_many (is_reply_of smid) xs
unfolding reply_count
replies_are smid xs = refl

returns_are : (number : ℕ) (xs : List Down) → return_count number xs ≡ how_many (is_return_of number) xs
unfolding return_count
returns_are number xs = refl

uses_are : (number : ℕ) (xs : List Up) → use_count number xs ≡ how_many (is_in_frame number) xs
unfolding use_count
uses_are number xs = refl

-- a reply on a lane
reply_on : (smid : ℕ) (x : Up) → is_reply_of smid (said_of x) ≡ is_answered_by smid x
reply_on smid (up.Value value) = refl
reply_on smid (up.Reply descriptor None page sense) = refl
reply_on smid (up.Reply descriptor (Some bytes) page sense) = refl
reply_on smid (up.Mark generation) = refl
reply_on smid up.Calm = refl

answers_are : (smid : ℕ) (xs : List Up) → replies_on smid xs ≡ how_many (is_answered_by smid) xs
unfolding reply_count how_many
answers_are smid [] = refl
answers_are smid (x ∷ xs) =
    let h = answers_are smid xs in
    let e = ap one_if (reply_on smid x) in
    omega (arith, h, e)

-- ---- an identifier

module _ (w : World) (smid : ℕ) (one : smid_count w smid ≤ 1) where
  lanes : post_count smid (down_line w) ≡ post_count smid w.down + post_count smid w.host.out
  lanes = post_count-append smid w.down w.host.out

  abbrev Found : SmidPlace → Type 0
  Found p = smid_found w smid p ≡ smid_count w smid

  -- an open one, that is none of the host's nor on the lane down
  module _ (closed : one_if (not (is_open (slot_of w.host.pool smid))) ≡ 0) (none_out : post_count smid w.host.out ≡ 0) (none_down : post_count smid w.down ≡ 0) where
    at_ioc : (a b c d e : Bool) → list_any (is_post_of smid) w.ioc.high ≡ a → list_any (is_post_of smid) w.ioc.normal ≡ b → (is_some (request_at w.ioc smid) || list_any (is_held_as smid) w.ioc.held) ≡ c
        → list_any (list_any (is_reply_of smid)) w.ioc.up ≡ d → list_any (list_any (is_answered_by smid)) w.up ≡ e
        → Found (place_at_ioc w smid (if a then Some InHighQueue else if b then Some InNormalQueue else if c then Some AtTheFabric else if d then Some InUpOutbox else None))
    at_ioc true b c d e f g h i j =
        let n = queued_are smid w.ioc.high in
        let m = any_counted (is_post_of smid) w.ioc.high f in
        omega (arith, one, lanes, closed, none_out, none_down, n, m)
    at_ioc false true c d e f g h i j =
        let n = queued_are smid w.ioc.normal in
        let m = any_counted (is_post_of smid) w.ioc.normal g in
        omega (arith, one, lanes, closed, none_out, none_down, n, m)
    at_ioc false false true d e f g h i j =
        let m = some_there (is_some (request_at w.ioc smid)) h in
        omega (arith, one, lanes, closed, none_out, none_down, m)
      where
        some_there : (k : Bool) → (k || list_any (is_held_as smid) w.ioc.held) ≡ true → 1 ≤ one_if k + how_many (is_held_as smid) w.ioc.held
        some_there true e = omega arith
        some_there false e = let a = any_counted (is_held_as smid) w.ioc.held e in omega (arith, a)
    at_ioc false false false true e f g h i j =
        let m = any_summed (is_reply_of smid) (reply_count smid) (replies_are smid) w.ioc.up i in
        omega (arith, one, lanes, closed, none_out, none_down, m)
    at_ioc false false false false e f g h i j =
        let n = queued_are smid w.ioc.high in
        let n2 = none_counted (is_post_of smid) w.ioc.high f in
        let m = queued_are smid w.ioc.normal in
        let m2 = none_counted (is_post_of smid) w.ioc.normal g in
        let k = none_there (is_some (request_at w.ioc smid)) h in
        let r = none_summed (is_reply_of smid) (reply_count smid) (replies_are smid) w.ioc.up i in
        by_lane e j (omega (arith, lanes, closed, none_out, none_down, n, n2, m, m2, k, r))
      where
        none_there : (k : Bool) → (k || list_any (is_held_as smid) w.ioc.held) ≡ false → one_if k + how_many (is_held_as smid) w.ioc.held ≡ 0
        none_there true e = absurd (cc)
        none_there false e = let a = none_counted (is_held_as smid) w.ioc.held e in omega (arith, a)

        by_lane : (b : Bool) → list_any (list_any (is_answered_by smid)) w.up ≡ b → smid_count w smid ≡ sum_by (replies_on smid) w.up → Found (place_at_ioc w smid None)
        by_lane b t s = by_bool b t
          where
            by_bool : (b : Bool) → list_any (list_any (is_answered_by smid)) w.up ≡ b → smid_found w smid (if list_any (list_any (is_answered_by smid)) w.up then SmidPlace.UpLane else SmidPlace.Void) ≡ smid_count w smid
            by_bool true t = ap (λ (x : Bool). smid_found w smid (if x then SmidPlace.UpLane else SmidPlace.Void)) t ∙ sym s
            by_bool false t = ap (λ (x : Bool). smid_found w smid (if x then SmidPlace.UpLane else SmidPlace.Void)) t ∙ (sym (none_summed (is_answered_by smid) (replies_on smid) (answers_are smid) w.up t) ∙ sym s)

  by_slot : (slot : Slot Request) → slot_of w.host.pool smid ≡ slot → Found (place_of_slot w smid slot)
  by_slot pool.Free e =
      let f = ap (λ (x : Slot Request). one_if (is_free_slot x)) e in
      let o = ap (λ (x : Slot Request). one_if (not (is_open x))) e in
      omega (arith, one, f, o)
  by_slot pool.Parked e =
      let f = ap (λ (x : Slot Request). one_if (is_parked_slot x)) e in
      let o = ap (λ (x : Slot Request). one_if (not (is_open x))) e in
      omega (arith, one, f, o)
  by_slot (pool.Open r) e =
      let o = ap (λ (x : Slot Request). one_if (not (is_open x))) e in
      by_tests (list_any (is_posted_as smid) w.host.out) (list_any (is_posted_as smid) w.down) refl refl o
    where
      by_tests : (a b : Bool) → list_any (is_posted_as smid) w.host.out ≡ a → list_any (is_posted_as smid) w.down ≡ b → one_if (not (is_open (slot_of w.host.pool smid))) ≡ 0
          → Found (if a then SmidPlace.HostOut else (if b then SmidPlace.DownLane else place_at_ioc w smid (smid_at w.ioc smid)))
      by_tests true b f g o =
          let n = posts_are smid w.host.out in
          let m = any_counted (is_posted_as smid) w.host.out f in
          omega (arith, one, lanes, o, n, m)
      by_tests false true f g o =
          let n = posts_are smid w.down in
          let m = any_counted (is_posted_as smid) w.down g in
          omega (arith, one, lanes, o, n, m)
      by_tests false false f g o =
          at_ioc o (posts_are smid w.host.out ∙ none_counted (is_posted_as smid) w.host.out f) (posts_are smid w.down ∙ none_counted (is_posted_as smid) w.down g)
          (list_any (is_post_of smid) w.ioc.high) (list_any (is_post_of smid) w.ioc.normal) (is_some (request_at w.ioc smid) || list_any (is_held_as smid) w.ioc.held)
          (list_any (list_any (is_reply_of smid)) w.ioc.up) (list_any (list_any (is_answered_by smid)) w.up) refl refl refl refl refl

  pub smid_told : SmidPlaceIsTold w smid
  smid_told = by_slot (slot_of w.host.pool smid) refl

-- ---- a reply frame

module _ (w : World) (number : ℕ) (one : frame_count w number ≤ 1) where
  returned : return_count number (down_line w) ≡ return_count number w.down + return_count number w.host.out
  returned = return_count-append number w.down w.host.out

  abbrev FrameFound : FramePlace → Type 0
  FrameFound p = frame_found w number p ≡ frame_count w number

  away : (a b c d : Bool) → list_any (is_return_of number) w.host.out ≡ a → list_any (is_return_of number) w.down ≡ b → list_any (is_this_number number) w.ioc.ring ≡ c → list_any (list_any (is_in_frame number)) w.up ≡ d
      → one_if (is_held_frame (slice_index_or w.host.frames number frame.Away)) ≡ 0
      → FrameFound (if a then FramePlace.HostOut else (if b then FramePlace.DownLane else (if c then FramePlace.Ring else (if d then FramePlace.UpLane else FramePlace.Void))))
  away true b c d e f g h o = let n = returns_are number w.host.out in let m = any_counted (is_return_of number) w.host.out e in omega (arith, one, returned, o, n, m)
  away false true c d e f g h o = let n = returns_are number w.down in let m = any_counted (is_return_of number) w.down f in omega (arith, one, returned, o, n, m)
  away false false true d e f g h o = let m = any_counted (is_this_number number) w.ioc.ring g in omega (arith, one, returned, o, m)
  away false false false true e f g h o = let m = any_summed (is_in_frame number) (use_count number) (uses_are number) w.up h in omega (arith, one, returned, o, m)
  away false false false false e f g h o =
      let n = returns_are number w.host.out in
      let n2 = none_counted (is_return_of number) w.host.out e in
      let m = returns_are number w.down in
      let m2 = none_counted (is_return_of number) w.down f in
      let k = none_counted (is_this_number number) w.ioc.ring g in
      let r = none_summed (is_in_frame number) (use_count number) (uses_are number) w.up h in
      omega (arith, returned, o, n, n2, m, m2, k, r)

  by_frame : (f : HostFrame) → slice_index_or w.host.frames number frame.Away ≡ f → FrameFound (place_of_frame w number f)
  by_frame frame.Held e = let o = ap (λ (x : HostFrame). one_if (is_held_frame x)) e in omega (arith, one, o)
  by_frame frame.Out e =
      away (list_any (is_return_of number) w.host.out) (list_any (is_return_of number) w.down) (frame_here w.ioc number) (list_any (list_any (is_in_frame number)) w.up) refl refl refl refl (ap (λ (x : HostFrame). one_if (is_held_frame x)) e)
  by_frame frame.Away e =
      away (list_any (is_return_of number) w.host.out) (list_any (is_return_of number) w.down) (frame_here w.ioc number) (list_any (list_any (is_in_frame number)) w.up) refl refl refl refl (ap (λ (x : HostFrame). one_if (is_held_frame x)) e)

  pub frame_told : FramePlaceIsTold w number
  frame_told = by_frame (slice_index_or w.host.frames number frame.Away) refl

-- ---- all of a world

few : {A : Type 0} (n : ℕ) → (n ≡ 1) ⊎ ((n ≡ 0) × A) → n ≤ 1
few n (inl e) = omega (arith, e)
few n (inr e) = let z = e.0 in omega (arith, z)

pub smids_told : (w : World) → IdentifiersHaveOnePlace w → SmidPlacesAreTold w
smids_told w h smid low high = smid_told w smid (few (smid_count w smid) (h smid low high))

pub frames_told : (w : World) → FramesHaveOnePlace w → FramePlacesAreTold w
frames_told w h number high = frame_told w number (few (frame_count w number) (h number high))
