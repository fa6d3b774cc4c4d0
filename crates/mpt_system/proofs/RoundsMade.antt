-- Rounds that follow each other.
use Rattle.std.proofs.Common.{◌≡◌, ℕ, zero, suc, ◌+◌, ◌-◌, ◌<◌, Bool, true, false, List, [], ◌++◌, map, refl, sym, ap, ◌∙◌, subst, append-nil, append_assoc, add-one, Result, Ok, Err, arith}
use Rattle.std.specs.Prelude.{OnErr}
use Rattle.mpt_wire.specs.Fits.Lines.{LineTurn, Tries, tries_of_round, rounds as turns_of_rounds}
use Rattle.mpt_rules.specs.Outcome.{Happening}
use Rattle.mpt_rules.specs.World.Drain.{behind, drain_with, round, rounds_with, world_quiet}
use Rattle.mpt_rules.specs.World.State.{World, nothing, queues_of}
use Rattle.mpt_rules.specs.World.TurnsDone.{does_turns}
use Rattle.law_replays.proofs.Turns.{round_turned, rounded}
use Rattle.mpt_system.specs.Turns.{DrainedSoFar, TurnedSoFar}
use Rattle.mpt_system.specs.Whole.{Stays, Whole, after}
use Rattle.mpt_system.proofs.Turns.{after_behind, after_nothing, so_far_behind, stays_so_far, turns_behind}

-- the turns of a round
abbrev pub turns_of_round : ℕ → List LineTurn
turns_of_round q = map Tries (tries_of_round q)

-- ---- what a drain does

-- a round, where the world isn't quiet
drain_step : (k : ℕ) (w : World) → world_quiet w ≡ false → drain_with (suc k) w ≡ behind (round w).entries (drain_with k (round w).part)
unfolding drain_with
drain_step k w e = by_quiet (world_quiet w) e
  where
    by_quiet : (b : Bool) → b ≡ false → (let o : Happening World = elim b [
      | true ↦ nothing w
      | false ↦ (let first : Happening World = round w in behind first.entries (drain_with k first.part))
    ] in o ≡ behind (round w).entries (drain_with k (round w).part))
    by_quiet true h = absurd (cc)
    by_quiet false h = refl

count_step : (k : ℕ) (w : World) → world_quiet w ≡ false → rounds_with (suc k) w ≡ 1 + rounds_with k (round w).part
unfolding rounds_with
count_step k w e = by_quiet (world_quiet w) e
  where
    by_quiet : (b : Bool) → b ≡ false → (let n : ℕ = elim b [ true ↦ 0 | false ↦ 1 + rounds_with k (round w).part ] in n ≡ 1 + rounds_with k (round w).part)
    by_quiet true h = absurd (cc)
    by_quiet false h = refl

-- nothing, where it is
drain_still : (k : ℕ) (w : World) → world_quiet w ≡ true → drain_with k w ≡ nothing w
unfolding drain_with
drain_still zero w e = refl
drain_still (suc k) w e = by_quiet (world_quiet w) e
  where
    by_quiet : (b : Bool) → b ≡ true → (let o : Happening World = elim b [
      | true ↦ nothing w
      | false ↦ (let first : Happening World = round w in behind first.entries (drain_with k first.part))
    ] in o ≡ nothing w)
    by_quiet true h = refl
    by_quiet false h = absurd (cc)

count_still : (k : ℕ) (w : World) → world_quiet w ≡ true → rounds_with k w ≡ 0
unfolding rounds_with
count_still zero w e = refl
count_still (suc k) w e = by_quiet (world_quiet w) e
  where
    by_quiet : (b : Bool) → b ≡ true → (let n : ℕ = elim b [ true ↦ 0 | false ↦ 1 + rounds_with k (round w).part ] in n ≡ 0)
    by_quiet true h = refl
    by_quiet false h = absurd (cc)

drain_none : (w : World) → drain_with 0 w ≡ nothing w
unfolding drain_with
drain_none w = refl

count_none : (w : World) → rounds_with 0 w ≡ 0
unfolding rounds_with
count_none w = refl

-- ---- turns of rounds

-- one round more may be made first or last
turns_more : (q n : ℕ) → turns_of_round q ++ turns_of_rounds q n ≡ turns_of_rounds q n ++ turns_of_round q
turns_more q zero = append-nil (turns_of_round q)
turns_more q (suc n) =
    ap (λ ts. turns_of_round q ++ ts) (turns_more q n) ∙ sym (append_assoc (turns_of_round q) (turns_of_rounds q n) (turns_of_round q))

no_turns : (w : World) → does_turns w [] ≡ nothing w
unfolding does_turns
no_turns w = refl

-- ---- the rounds that were made

-- after so many of at most so many rounds
pub record Made (old : Whole) (most made : ℕ) (now : Whole) : Type 0 where
  pub written : now.pending ≡ []
  pub queues : queues_of now.world ≡ queues_of old.world
  pub turned : now ≡ after old (does_turns old.world (turns_of_rounds (queues_of old.world) made))
  pub ahead : after old (drain_with most old.world) ≡ after now (drain_with (most - made) now.world)
  pub counted : rounds_with most old.world ≡ made + rounds_with (most - made) now.world

pub none_made : (old : Whole) (most : ℕ) → old.pending ≡ [] → Made old most 0 old
none_made old most e =
    record {
      written = e;
      queues = refl;
      turned = after_nothing old e ∙ ap (after old) (sym (no_turns old.world));
      ahead = ap (λ k. after old (drain_with k old.world)) (omega arith);
      counted = let k : most - 0 ≡ most = omega arith in sym (ap (λ j. 0 + rounds_with j old.world) k ∙ omega arith);
    }

module _ (old now new : Whole) (most made : ℕ) (so : Made old most made now) where
  pub one_more : made < most → world_quiet now.world ≡ false → new ≡ after now (does_turns now.world (turns_of_round (queues_of now.world))) → Made old most (made + 1) new
  one_more h busy e =
      let q : ℕ = queues_of old.world in
      let left : most - made ≡ suc (most - (made + 1)) = omega arith in
      let is_round : round now.world ≡ does_turns now.world (turns_of_round (queues_of now.world)) = round_turned (queues_of now.world) now.world refl in
      let next : new ≡ after now (round now.world) = e ∙ ap (after now) (sym is_round) in
      let part : new.world ≡ (round now.world).part = ap (λ (x : Whole). x.world) next in
      let k : ℕ = most - (made + 1) in
      record {
        written = ap (λ (x : Whole). x.pending) next;
        queues = ap queues_of part ∙ (rounded now.world ∙ so.queues);
        turned = turned_more q e;
        ahead = so.ahead ∙ (ap (λ j. after now (drain_with j now.world)) left
            ∙ (ap (after now) (drain_step k now.world busy) ∙ (after_behind now (round now.world) (drain_with k (round now.world).part)
            ∙ sym (ap (λ (x : Whole). after x (drain_with k x.world)) next))));
        counted = so.counted ∙ (ap (λ j. made + rounds_with j now.world) left ∙ (ap (λ j. made + j) (count_step k now.world busy)
            ∙ (ap (λ v. made + (1 + rounds_with k v)) (sym part) ∙ omega arith)));
      }
    where
      turned_more : (q : ℕ) → new ≡ after now (does_turns now.world (turns_of_round (queues_of now.world)))
          → new ≡ after old (does_turns old.world (turns_of_rounds (queues_of old.world) (made + 1)))
      turned_more q e =
          let p : ℕ = queues_of old.world in
          let at : new ≡ after now (does_turns now.world (turns_of_round p)) = e ∙ ap (λ n. after now (does_turns now.world (turns_of_round n))) so.queues in
          let from : new ≡ after (after old (does_turns old.world (turns_of_rounds p made))) (does_turns (does_turns old.world (turns_of_rounds p made)).part (turns_of_round p)) =
          at ∙ ap (λ (x : Whole). after x (does_turns x.world (turns_of_round p))) so.turned in
          from ∙ (sym (turns_behind old (turns_of_rounds p made) (turns_of_round p))
          ∙ (ap (λ ts. after old (does_turns old.world ts)) (sym (turns_more p made)) ∙ ap (λ n. after old (does_turns old.world (turns_of_rounds p n))) (sym (add-one made))))

  -- memory was wanting in a round
  pub wanted : TurnedSoFar now (turns_of_round (queues_of now.world)) new → DrainedSoFar old new
  wanted h =
      let p : ℕ = queues_of old.world in
      let at : TurnedSoFar now (turns_of_round p) new = subst (λ n. TurnedSoFar now (turns_of_round n) new) so.queues h in
      let from : TurnedSoFar (after old (does_turns old.world (turns_of_rounds p made))) (turns_of_round p) new = subst (λ x. TurnedSoFar x (turns_of_round p) new) so.turned at in
      record {
        rounds = suc made;
        turned = subst (λ ts. TurnedSoFar old ts new) (sym (turns_more p made)) (so_far_behind old new (turns_of_rounds p made) (turns_of_round p) from);
      }

-- the world is quiet, or as many rounds were made as may be
module _ (old now : Whole) (most made : ℕ) (so : Made old most made now) where
  pub still : world_quiet now.world ≡ true → now ≡ after old (drain_with most old.world)
  still e = after_nothing now so.written ∙ (ap (after now) (sym (drain_still (most - made) now.world e)) ∙ sym so.ahead)

  pub still_count : world_quiet now.world ≡ true → made ≡ rounds_with most old.world
  still_count e = let none = count_still (most - made) now.world e in omega (arith, none, so.counted)

  pub all_made : most ≡ made → now ≡ after old (drain_with most old.world)
  all_made e =
      let left : most - made ≡ 0 = omega arith in
      after_nothing now so.written ∙ (ap (after now) (sym (ap (λ k. drain_with k now.world) left ∙ drain_none now.world)) ∙ sym so.ahead)

  pub all_count : most ≡ made → most ≡ rounds_with most old.world
  all_count e =
      let left : most - made ≡ 0 = omega arith in
      let none : rounds_with (most - made) now.world ≡ 0 = ap (λ k. rounds_with k now.world) left ∙ count_none now.world in
      omega (arith, none, so.counted)

-- memory was wanting before the first round
pub none_drained : (old new : Whole) → Stays old new → DrainedSoFar old new
none_drained old new h = record { rounds = 0; turned = stays_so_far old new (turns_of_rounds (queues_of old.world) 0) h }

-- a fact holds whatever error there was
pub on_err : {A E : Type 0} (r : Result A E) (P : Type 0) → P → OnErr r P
on_err (Ok done) P p = tt
on_err (Err error) P p = p
