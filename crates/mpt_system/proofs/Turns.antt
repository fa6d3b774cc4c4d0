-- Turns that follow each other.
use Rattle.std.proofs.Common.{◌≡◌, ℕ, zero, suc, ◌+◌, ◌-◌, ◌<◌, ◌≤◌, List, [], ◌∷◌, ◌++◌, map, length, take, drop, get_or, Result, Ok, Err, inl, inr, refl, sym, ap, ◌∙◌, subst, append-nil, append_assoc, arith, add-one, add-zero, zero-add}
use Rattle.std.specs.List.{range_with_len}
use Rattle.std.proofs.lemmas.List.FromFn.{map-range_with_len_more}
use Rattle.std.specs.Prelude.{IsErr}
use Rattle.mpt_trace.specs.declared.choice.Choice.{Choice}
use Rattle.mpt_trace.specs.declared.entry.Entry.{Entry}
use Rattle.mpt_trace.specs.declared.choice.Choice.TheVariants as choice
use Rattle.mpt_wire.specs.Fits.Lines.{Chooses, LineTurn, RunsOldest, Tries, Try, above, tries_of_round}
use Rattle.mpt_rules.specs.Outcome.{Happening}
use Rattle.mpt_rules.specs.World.Drain.{behind}
use Rattle.mpt_rules.specs.World.State.{World, nothing, queues_of}
use Rattle.mpt_rules.specs.World.TurnsDone.{does_turn, does_turns}
use Rattle.law_replays.proofs.Turns.{does_turns-append}
use Rattle.mpt_system.specs.Turns.{HasTurned, TurnedSoFar, tries_it}
use Rattle.mpt_system.specs.Whole.{Halted, Stays, Whole, after}

-- ---- what happens after what

-- the whole with other entries
abbrev with_entries : World → List Entry → Whole
with_entries w es = record { world = w; entries = es; pending = [] }

pub after_behind : (s : Whole) (o p : Happening World) → after s (behind o.entries p) ≡ after (after s o) p
after_behind s o p = ap (with_entries p.part) (sym (append_assoc s.entries o.entries p.entries))

-- nothing happens
pub after_nothing : (s : Whole) → s.pending ≡ [] → s ≡ after s (nothing s.world)
after_nothing s e = ap (λ ps. record s { pending = ps }) e ∙ ap (with_entries s.world) (sym (append-nil s.entries))

-- one turn
pub one_turn : (w : World) (t : LineTurn) → does_turns w (t ∷ []) ≡ does_turn w t
unfolding does_turns
one_turn w t = ap (with_told (does_turn w t).part) (append-nil (does_turn w t).entries)
  where
    with_told : World → List Entry → Happening World
    with_told v es = record { part = v; entries = es }

-- turns, and others behind them
pub turns_behind : (s : Whole) (ts us : List LineTurn) → after s (does_turns s.world (ts ++ us)) ≡ after (after s (does_turns s.world ts)) (does_turns (does_turns s.world ts).part us)
turns_behind s ts us = ap (after s) (does_turns-append s.world ts us) ∙ after_behind s (does_turns s.world ts) (does_turns (does_turns s.world ts).part us)

-- ---- what was done so far

-- memory was wanting at a turn: it was done, or not
pub halted_turn : (s new : Whole) (t : LineTurn) → Halted s (does_turn s.world t) new → TurnedSoFar s (t ∷ []) new
unfolding does_turns
halted_turn s new t (inl h) =
    record { done = []; rest = t ∷ []; parts = refl; happened = record { world = h.world; entries = h.entries ∙ sym (append-nil s.entries) } }
halted_turn s new t (inr h) =
    record {
      done = t ∷ [];
      rest = [];
      parts = refl;
      happened = record { world = h.world ∙ ap (λ (o : Happening World). o.part) (sym (one_turn s.world t)); entries = h.entries ∙ ap (λ (o : Happening World). s.entries ++ o.entries) (sym (one_turn s.world t)) };
    }

-- none was
pub stays_so_far : (s new : Whole) (ts : List LineTurn) → Stays s new → TurnedSoFar s ts new
unfolding does_turns
stays_so_far s new ts h =
    record { done = []; rest = ts; parts = refl; happened = record { world = h.world; entries = h.entries ∙ sym (append-nil s.entries) } }

-- and there are others behind
pub so_far_more : (s new : Whole) (ts us : List LineTurn) → TurnedSoFar s ts new → TurnedSoFar s (ts ++ us) new
so_far_more s new ts us h =
    record { done = h.done; rest = h.rest ++ us; parts = sym (append_assoc h.done h.rest us) ∙ ap (λ xs. xs ++ us) h.parts; happened = h.happened }

-- and there were others before
pub so_far_behind : (s new : Whole) (ts us : List LineTurn) → TurnedSoFar (after s (does_turns s.world ts)) us new → TurnedSoFar s (ts ++ us) new
so_far_behind s new ts us h =
    record {
      done = ts ++ h.done;
      rest = h.rest;
      parts = append_assoc ts h.done h.rest ∙ ap (λ xs. ts ++ xs) h.parts;
      happened = record {
        world = h.happened.world ∙ ap (λ (x : Whole). x.world) (sym (turns_behind s ts h.done));
        entries = h.happened.entries ∙ ap (λ (x : Whole). x.entries) (sym (turns_behind s ts h.done));
      };
    }

-- ---- one after the other

module _ {A E : Type 0} where
  at_turned : (s new : Whole) (ts us : List LineTurn) (r : Result A E) → HasTurned (after s (does_turns s.world ts)) us r new → HasTurned s (ts ++ us) r new
  at_turned s new ts us (Ok done) h = h ∙ sym (turns_behind s ts us)
  at_turned s new ts us (Err error) h = so_far_behind s new ts us h

  -- what follows turns that were done
  pub then_turned : (s middle new : Whole) (ts us : List LineTurn) (r : Result A E) → middle ≡ after s (does_turns s.world ts) → HasTurned middle us r new → HasTurned s (ts ++ us) r new
  then_turned s middle new ts us r e h = at_turned s new ts us r (subst (λ m. HasTurned m us r new) e h)

-- a try that was made
pub turn_made : (s new : Whole) (t : LineTurn) → new ≡ after s (does_turn s.world t) → new ≡ after s (does_turns s.world (t ∷ []))
turn_made s new t e = e ∙ ap (after s) (sym (one_turn s.world t))

-- one turn more
pub turn_more : (s middle new : Whole) (ts : List LineTurn) (t : LineTurn) → middle ≡ after s (does_turns s.world ts) → new ≡ after middle (does_turn middle.world t)
    → new ≡ after s (does_turns s.world (ts ++ t ∷ []))
turn_more s middle new ts t e h =
    then_turned {A = Unit {0}} {E = Unit {0}} s middle new ts (t ∷ []) (Ok tt) e (h ∙ ap (after middle) (sym (one_turn middle.world t)))

-- memory was wanting at a turn behind those that were done
pub turn_halted : (s middle new : Whole) (ts : List LineTurn) (t : LineTurn) (us : List LineTurn) → middle ≡ after s (does_turns s.world ts)
    → Halted middle (does_turn middle.world t) new → TurnedSoFar s (ts ++ t ∷ us) new
turn_halted s middle new ts t us e h =
    then_turned {A = Unit {0}} {E = Unit {0}} s middle new ts (t ∷ us) (Err tt) e (so_far_more middle new (t ∷ []) us (halted_turn middle new t h))

-- memory was wanting, whatever the error says
pub so_far : {A E : Type 0} (s new : Whole) (ts : List LineTurn) (r : Result A E) → IsErr r → TurnedSoFar s ts new → HasTurned s ts r new
so_far s new ts (Ok done) e h = absurd (cc)
so_far s new ts (Err error) e h = h

-- nothing is pending, and nothing was done
pub none_turned : (s : Whole) → s.pending ≡ [] → s ≡ after s (does_turns s.world [])
unfolding does_turns
none_turned s e = after_nothing s e

-- ---- lists of turns

-- those before a place, and the one there
map_suc : {X : Type 0} (f : X → LineTurn) (xs : List X) (i : ℕ) (d : X) → i < length xs → map f (take (suc i) xs) ≡ map f (take i xs) ++ f (get_or xs i d) ∷ []
map_suc f [] i d h = absurd (omega arith)
map_suc f (y ∷ ys) zero d h = refl
map_suc f (y ∷ ys) (suc i) d h = ap (λ ts. f y ∷ ts) (map_suc f ys i d (omega arith))

pub map_more : {X : Type 0} (f : X → LineTurn) (xs : List X) (i : ℕ) (d : X) → i < length xs → map f (take (i + 1) xs) ≡ map f (take i xs) ++ f (get_or xs i d) ∷ []
map_more f xs i d h = rw (add-one i) (map_suc f xs i d h)

-- and those behind it
seam_suc : {X : Type 0} (f : X → LineTurn) (xs : List X) (i : ℕ) (d : X) → i < length xs → map f xs ≡ map f (take i xs) ++ f (get_or xs i d) ∷ map f (drop (suc i) xs)
seam_suc f [] i d h = absurd (omega arith)
seam_suc f (y ∷ ys) zero d h = refl
seam_suc f (y ∷ ys) (suc i) d h = ap (λ ts. f y ∷ ts) (seam_suc f ys i d (omega arith))

pub map_seam : {X : Type 0} (f : X → LineTurn) (xs : List X) (i : ℕ) (d : X) → i < length xs → map f xs ≡ map f (take i xs) ++ f (get_or xs i d) ∷ map f (drop (i + 1) xs)
map_seam f xs i d h = rw (add-one i) (seam_suc f xs i d h)

-- the numbers from one on, parted
range_seam : (f : ℕ → LineTurn) (a n m : ℕ) → map f (range_with_len a (n + suc m)) ≡ map f (range_with_len a n) ++ f (a + n) ∷ map f (range_with_len (a + n + 1) m)
range_seam f a zero m = rw (zero-add (suc m), add-zero a) refl
range_seam f a (suc n) m =
    let size : suc n + suc m ≡ suc (n + suc m) = omega arith in
    let place : a + 1 + n ≡ a + suc n = omega arith in
    ap (λ k. map f (range_with_len a k)) size
    ∙ ap (λ ts. f a ∷ ts) (range_seam f (a + 1) n m ∙ ap (λ k. map f (range_with_len (a + 1) n) ++ f k ∷ map f (range_with_len (k + 1) m)) place)

-- ---- a turn for each reply queue above 0

-- the turns of the queues from 1 to below this one
abbrev pub below : (ℕ → LineTurn) → ℕ → List LineTurn
below f i = map f (range_with_len 1 (i - 1))

module _ (f : ℕ → LineTurn) (s middle new : Whole) (i : ℕ) (least : 1 ≤ i) (done : middle ≡ after s (does_turns s.world (below f i))) where
  pub above_more : new ≡ after middle (does_turn middle.world (f i)) → new ≡ after s (does_turns s.world (below f (i + 1)))
  above_more h =
      let size : i - 1 + 1 ≡ i + 1 - 1 = omega arith in
      let more : map f (range_with_len 1 (i - 1 + 1)) ≡ below f i ++ f i ∷ [] = map-range_with_len_more f 1 (i - 1) i (omega arith) in
      turn_more s middle new (below f i) (f i) done h ∙ ap (λ ts. after s (does_turns s.world ts)) (sym more ∙ ap (λ k. map f (range_with_len 1 k)) size)

  pub above_halted : (q : ℕ) → i < q → Halted middle (does_turn middle.world (f i)) new → TurnedSoFar s (map f (above q)) new
  above_halted q h halted =
      let size : i - 1 + suc (q - i - 1) ≡ q - 1 = omega arith in
      let place : 1 + (i - 1) ≡ i = omega arith in
      let rest : List LineTurn = map f (range_with_len (1 + (i - 1) + 1) (q - i - 1)) in
      let parts : below f i ++ f i ∷ rest ≡ map f (above q) =
      ap (λ k. below f i ++ f k ∷ rest) (sym place) ∙ (sym (range_seam f 1 (i - 1) (q - i - 1)) ∙ ap (λ k. map f (range_with_len 1 k)) size) in
      subst (λ ts. TurnedSoFar s ts new) parts (turn_halted s middle new (below f i) (f i) rest done halted)

  pub above_all : (q : ℕ) → q ≤ i → i ≤ 1 + (q - 1) → middle ≡ after s (does_turns s.world (map f (above q)))
  above_all q h g = let size : i - 1 ≡ q - 1 = omega arith in done ∙ ap (λ k. after s (does_turns s.world (map f (range_with_len 1 k)))) size

-- ---- a round

-- the tries of a round, in the parts in which they are made
maps : (f g : ℕ → Try) (xs ys : List ℕ) (h : Try) → map Tries (map f xs ++ h ∷ map g ys) ≡ map (λ q. Tries (f q)) xs ++ Tries h ∷ map (λ q. Tries (g q)) ys
maps f g [] ys h = ap (λ ts. Tries h ∷ ts) (map_twice ys)
  where
    map_twice : (ys : List ℕ) → map Tries (map g ys) ≡ map (λ q. Tries (g q)) ys
    map_twice [] = refl
    map_twice (y ∷ ys) = ap (λ ts. Tries (g y) ∷ ts) (map_twice ys)
maps f g (x ∷ xs) ys h = ap (λ ts. Tries (f x) ∷ ts) (maps f g xs ys h)

abbrev pub first_tries : List Choice
first_tries = choice.HostPut ∷ choice.IocTake ∷ choice.IocHigh ∷ choice.IocNormal ∷ choice.IocOut ∷ choice.FabricTake ∷ []

abbrev pub next_tries : List Choice
next_tries = choice.FabricSay ∷ choice.FabricPut ∷ choice.IocBack ∷ choice.IocPut ∷ []

abbrev pub puts_above : ℕ → List LineTurn
puts_above q = map (λ queue. tries_it (choice.IocPutOn queue)) (above q)

abbrev pub takes_above : ℕ → List LineTurn
takes_above q = map (λ queue. tries_it (choice.HostTakeOn queue)) (above q)

-- and what is behind each part
abbrev pub behind_put : ℕ → List LineTurn
behind_put q = map tries_it (choice.HostTake ∷ []) ++ takes_above q

abbrev pub behind_next : ℕ → List LineTurn
behind_next q = puts_above q ++ behind_put q

abbrev pub behind_oldest : ℕ → List LineTurn
behind_oldest q = map tries_it next_tries ++ behind_next q

abbrev pub behind_first : ℕ → List LineTurn
behind_first q = (Tries RunsOldest ∷ []) ++ behind_oldest q

round_parts : (q : ℕ) → map tries_it first_tries ++ behind_first q ≡ map Tries (tries_of_round q)
round_parts q =
    ap (λ ts. tries_it choice.HostPut ∷ tries_it choice.IocTake ∷ tries_it choice.IocHigh ∷ tries_it choice.IocNormal ∷ tries_it choice.IocOut ∷ tries_it choice.FabricTake
    ∷ Tries RunsOldest ∷ tries_it choice.FabricSay ∷ tries_it choice.FabricPut ∷ tries_it choice.IocBack ∷ tries_it choice.IocPut ∷ ts)
    (sym (maps (λ queue. Chooses (choice.IocPutOn queue)) (λ queue. Chooses (choice.HostTakeOn queue)) (above q) (above q) (Chooses choice.HostTake)))

-- memory was wanting, and there are others behind
pub err_more : {A E : Type 0} (s new : Whole) (ts us : List LineTurn) (r : Result A E) → IsErr r → TurnedSoFar s ts new → HasTurned s (ts ++ us) r new
err_more s new ts us r e h = so_far s new (ts ++ us) r e (so_far_more s new ts us h)

pub as_round : {A E : Type 0} (s new : Whole) (q : ℕ) (r : Result A E) → q ≡ queues_of s.world → HasTurned s (map tries_it first_tries ++ behind_first q) r new
    → HasTurned s (map Tries (tries_of_round (queues_of s.world))) r new
as_round s new q r size h =
    subst (λ k. HasTurned s (map Tries (tries_of_round k)) r new) size (subst (λ ts. HasTurned s ts r new) (round_parts q) h)
