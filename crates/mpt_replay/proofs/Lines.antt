-- Lines that are carried out one after the other.
use Rattle.std.proofs.Common.{◌≡◌, ℕ, zero, suc, ◌+◌, ◌-◌, ◌<◌, List, [], ◌∷◌, ◌++◌, replicate, Option, Some, None, Result, Ok, Err, refl, sym, ap, ◌∙◌, subst, append-nil, arith}
use Rattle.std.specs.Prelude.{IsErr, OnErr, OnOk}
use Rattle.std.specs.List.{cons_option}
use Rattle.std.proofs.lemmas.List.{replicate-append-replicate, replicate_more}
use Rattle.mpt_trace.specs.declared.choice.Choice.{Choice}
use Rattle.mpt_trace.specs.declared.entry.Entry.{Entry}
use Rattle.mpt_trace.specs.declared.input.Input.{Input}
use Rattle.mpt_wire.specs.Fits.Lines.{Asked, Asks, Drained, Line, LineTurn, Stepped, Steps, rounds, turns}
use Rattle.mpt_rules.specs.Outcome.{Happening}
use Rattle.mpt_rules.specs.World.Cases.{Chosen, Told, case_of}
use Rattle.mpt_rules.specs.World.Drain.{behind, drain_rounds, drains}
use Rattle.mpt_rules.specs.World.Replays.{carries_out, replays, steps}
use Rattle.mpt_rules.specs.World.State.{World, queues_of}
use Rattle.mpt_rules.specs.World.TurnsDone.{does_turns}
use Rattle.mpt_rules.specs.World.Weight.{weight}
use Rattle.law_replays.proofs.Turns.{drain_turned}
use Rattle.mpt_system.proofs.Turns.{after_behind, after_nothing, halted_turn, none_turned, one_turn, so_far_behind, so_far_more, stays_so_far, turn_more}
use Rattle.mpt_system.specs.Turns.{DrainedSoFar, TurnedSoFar}
use Rattle.mpt_system.specs.Whole.{Halted, Stays, Whole, after}
use Rattle.law_replays.specs.Schedules.{carried_in}
use Rattle.mpt_script.specs.declared.line.Line.{Line as ScriptLine}
use Rattle.mpt_replay.specs.Carrying.{CarriedOutSoFar, HasCarriedOut}
use Rattle.mpt_replay.proofs.Lanes.{turns_keep}

-- ---- the turns of a line

-- with so many rounds, where it is a drain
line_turns : ℕ → ℕ → Line → List LineTurn
line_turns q n (Asked i) = Asks i ∷ []
line_turns q n (Stepped c k) = replicate k (Steps c)
line_turns q n Drained = rounds q n

line_drains : ℕ → Line → List ℕ
line_drains n (Asked i) = []
line_drains n (Stepped c k) = []
line_drains n Drained = n ∷ []

turns_first : (q n : ℕ) (ds : List ℕ) (x : Line) (ls : List Line) → turns q (line_drains n x ++ ds) (x ∷ ls) ≡ line_turns q n x ++ turns q ds ls
unfolding line_turns line_drains
turns_first q n ds (Asked i) ls = refl
turns_first q n ds (Stepped c k) ls = refl
turns_first q n ds Drained ls = refl

steps_turned : (k : ℕ) (c : Choice) (w : World) → steps k c w ≡ does_turns w (replicate k (Steps c))
unfolding steps does_turns
steps_turned zero c w = refl
steps_turned (suc k) c w = ap (behind (case_of w (Chosen c)).entries) (steps_turned k c (case_of w (Chosen c)).part)

-- a line is carried out by its turns
turned : (w : World) (x : Line) → carries_out w x ≡ does_turns w (line_turns (queues_of w) (drain_rounds w) x)
unfolding line_turns
turned w (Asked i) = sym (one_turn w (Asks i))
turned w (Stepped c k) = steps_turned k c w
turned w Drained = drain_turned (queues_of w) (weight w) w refl

-- ---- one line

one_line : (w : World) (x : Line) → replays w (x ∷ []) ≡ carries_out w x
unfolding replays
one_line w x = ap (with_told (carries_out w x).part) (append-nil (carries_out w x).entries)
  where
    with_told : World → List Entry → Happening World
    with_told v es = record { part = v; entries = es }

-- a line, and others behind it
line_before : (s : Whole) (x : Line) (ls : List Line) → after s (replays s.world (x ∷ ls)) ≡ after (after s (carries_out s.world x)) (replays (carries_out s.world x).part ls)
unfolding replays
line_before s x ls = after_behind s (carries_out s.world x) (replays (carries_out s.world x).part ls)

pub no_lines : (s : Whole) → s.pending ≡ [] → s ≡ after s (replays s.world [])
unfolding replays
no_lines s e = after_nothing s e

-- a line of the head leaves what was there
pub head_line : (s : Whole) (l : ScriptLine) → s.pending ≡ [] → carried_in l ≡ None → s ≡ after s (replays s.world (cons_option (carried_in l) []))
head_line s l e head = no_lines s e ∙ ap (λ o. after s (replays s.world (cons_option o []))) (sym head)

-- ---- memory was wanting

-- in lines behind one that was carried out
so_far_behind_line : (s new : Whole) (x : Line) (ls : List Line) → CarriedOutSoFar (after s (carries_out s.world x)) ls new → CarriedOutSoFar s (x ∷ ls) new
so_far_behind_line s new x ls h =
    let q : ℕ = queues_of s.world in
    let n : ℕ = drain_rounds s.world in
    let ts : List LineTurn = line_turns q n x in
    let at : CarriedOutSoFar (after s (does_turns s.world ts)) ls new = subst (λ (o : Happening World). CarriedOutSoFar (after s o) ls new) (turned s.world x) h in
    let more : TurnedSoFar (after s (does_turns s.world ts)) (turns q at.drains ls) new =
    subst (λ m. TurnedSoFar (after s (does_turns s.world ts)) (turns m at.drains ls) new) (turns_keep ts s.world) at.turned in
    record {
      drains = line_drains n x ++ at.drains;
      turned = subst (λ us. TurnedSoFar s us new) (sym (turns_first q n at.drains x ls)) (so_far_behind s new ts (turns q at.drains ls) more);
    }

-- the turns of a line, and those of others behind it
more_turns : (q : ℕ) (ds : List ℕ) (x : Line) (ls : List Line) → (us : List LineTurn) × (turns q ds (x ∷ []) ++ us ≡ turns q ds (x ∷ ls))
more_turns q ds (Asked i) ls = (turns q ds ls, refl)
more_turns q ds (Stepped c k) ls = (turns q ds ls, ap (λ ts. ts ++ turns q ds ls) (append-nil (replicate k (Steps c))))
more_turns q [] Drained ls = (turns q [] ls, refl)
more_turns q (n ∷ ds) Drained ls = (turns q ds ls, ap (λ ts. ts ++ turns q ds ls) (append-nil (rounds q n)))

-- in the first line
so_far_in_line : (s new : Whole) (x : Line) (ls : List Line) → CarriedOutSoFar s (x ∷ []) new → CarriedOutSoFar s (x ∷ ls) new
so_far_in_line s new x ls h =
    let q : ℕ = queues_of s.world in
    let more = more_turns q h.drains x ls in
    record { drains = h.drains; turned = subst (λ ts. TurnedSoFar s ts new) more.1 (so_far_more s new (turns q h.drains (x ∷ [])) more.0 h.turned) }

-- before the first
so_far_before : (s new : Whole) (ls : List Line) → CarriedOutSoFar s [] new → CarriedOutSoFar s ls new
so_far_before s new ls h = record { drains = []; turned = so_far_more s new [] (turns (queues_of s.world) [] ls) h.turned }

-- ---- the lines of a list so far

pub record CarriedOut (old now : Whole) (lines rest : List Line) : Type 0 where
  pub written : now.pending ≡ []
  pub ahead : after old (replays old.world lines) ≡ after now (replays now.world rest)
  pub so_far : (new : Whole) → CarriedOutSoFar now rest new → CarriedOutSoFar old lines new

pub none_carried_out : (old : Whole) (lines : List Line) → old.pending ≡ [] → CarriedOut old old lines lines
none_carried_out old lines e = record { written = e; ahead = refl; so_far = λ new h. h }

module _ (old now new : Whole) (lines rest : List Line) where
  -- one line more, if it is one that is carried out
  pub one_carried_out : (o : Option Line) → CarriedOut old now lines (cons_option o rest) → new ≡ after now (replays now.world (cons_option o [])) → CarriedOut old new lines rest
  one_carried_out None so e =
      let same : now ≡ new = no_lines now so.written ∙ sym e in subst (λ (x : Whole). CarriedOut old x lines rest) same so
  one_carried_out (Some x) so e =
      let at : new ≡ after now (carries_out now.world x) = e ∙ ap (after now) (one_line now.world x) in
      record {
        written = ap (λ (z : Whole). z.pending) at;
        ahead = so.ahead ∙ (line_before now x rest ∙ sym (ap (λ (z : Whole). after z (replays z.world rest)) at));
        so_far = λ z h. so.so_far z (so_far_behind_line now z x rest (subst (λ (y : Whole). CarriedOutSoFar y rest z) at h));
      }

  -- memory was wanting in it
  pub one_so_far : (o : Option Line) → CarriedOut old now lines (cons_option o rest) → CarriedOutSoFar now (cons_option o []) new → CarriedOutSoFar old lines new
  one_so_far None so h = so.so_far new (so_far_before now new rest h)
  one_so_far (Some x) so h = so.so_far new (so_far_in_line now new x rest h)

pub all_carried_out : (old now : Whole) (lines : List Line) → CarriedOut old now lines [] → now ≡ after old (replays old.world lines)
all_carried_out old now lines so = no_lines now so.written ∙ sym so.ahead

-- ---- what is answered

module _ {A E : Type 0} where
  pub on_wanted : (old new : Whole) (lines : List Line) (r : Result A E) → IsErr r → CarriedOutSoFar old lines new → HasCarriedOut old lines r new
  on_wanted old new lines (Ok done) e h = absurd (cc)
  on_wanted old new lines (Err error) e h = h

-- of an input
pub input_so_far : (s new : Whole) (i : Input) → Halted s (case_of s.world (Told i)) new → CarriedOutSoFar s (Asked i ∷ []) new
input_so_far s new i h = record { drains = []; turned = halted_turn s new (Asks i) h }

pub input_stays : (s new : Whole) (i : Input) → Stays s new → CarriedOutSoFar s (Asked i ∷ []) new
input_stays s new i h = record { drains = []; turned = stays_so_far s new (Asks i ∷ []) h }

pub input_carried_out : (s new : Whole) (i : Input) → new ≡ after s (case_of s.world (Told i)) → new ≡ after s (replays s.world (Asked i ∷ []))
input_carried_out s new i e = e ∙ ap (after s) (sym (one_line s.world (Asked i)))

pub input_told : {A E : Type 0} (s new : Whole) (i : Input) (r : Result A E) → OnOk r (new ≡ after s (case_of s.world (Told i))) → OnErr r (Halted s (case_of s.world (Told i)) new)
    → HasCarriedOut s (Asked i ∷ []) r new
input_told s new i (Ok done) ok err = input_carried_out s new i ok
input_told s new i (Err error) ok err = input_so_far s new i err

-- of a drain
pub drain_so_far : (s new : Whole) → DrainedSoFar s new → CarriedOutSoFar s (Drained ∷ []) new
drain_so_far s new h =
    record { drains = h.rounds ∷ []; turned = subst (λ ts. TurnedSoFar s ts new) (sym (append-nil (rounds (queues_of s.world) h.rounds))) h.turned }

pub drain_carried_out : (s new : Whole) → new ≡ after s (drains s.world) → new ≡ after s (replays s.world (Drained ∷ []))
drain_carried_out s new e = e ∙ ap (after s) (sym (one_line s.world Drained))

-- ---- steps of a choice

-- so many were made
abbrev pub IsSteppedTo : Whole → Choice → ℕ → Whole → Type 0
IsSteppedTo old c i now = now ≡ after old (does_turns old.world (replicate i (Steps c)))

module _ (old now new : Whole) (c : Choice) (i k : ℕ) (so : IsSteppedTo old c i now) where
  pub step_more : new ≡ after now (does_turns now.world (Steps c ∷ [])) → IsSteppedTo old c (i + 1) new
  step_more e =
      turn_more old now new (replicate i (Steps c)) (Steps c) so (e ∙ ap (after now) (one_turn now.world (Steps c)))
      ∙ ap (λ ts. after old (does_turns old.world ts)) (replicate_more i (Steps c))

  pub step_so_far : i < k → TurnedSoFar now (Steps c ∷ []) new → CarriedOutSoFar old (Stepped c k ∷ []) new
  step_so_far less h =
      let left : ℕ = k - i - 1 in
      let size : i + suc left ≡ k = omega arith in
      let parts : replicate i (Steps c) ++ replicate (suc left) (Steps c) ≡ replicate k (Steps c) ++ [] =
      replicate-append-replicate i (suc left) (Steps c) ∙ (ap (λ n. replicate n (Steps c)) size ∙ sym (append-nil (replicate k (Steps c)))) in
      let at : TurnedSoFar (after old (does_turns old.world (replicate i (Steps c)))) (replicate (suc left) (Steps c)) new =
      subst (λ (z : Whole). TurnedSoFar z (replicate (suc left) (Steps c)) new) so (so_far_more now new (Steps c ∷ []) (replicate left (Steps c)) h) in
      record { drains = []; turned = subst (λ ts. TurnedSoFar old ts new) parts (so_far_behind old new (replicate i (Steps c)) (replicate (suc left) (Steps c)) at) }

pub steps_carried_out : (old now : Whole) (c : Choice) (i k : ℕ) → i ≡ k → IsSteppedTo old c i now → now ≡ after old (replays old.world (Stepped c k ∷ []))
steps_carried_out old now c i k e so =
    so ∙ (ap (λ n. after old (does_turns old.world (replicate n (Steps c)))) e
    ∙ (ap (after old) (sym (steps_turned k c old.world)) ∙ ap (after old) (sym (one_line old.world (Stepped c k)))))

pub no_steps : (old : Whole) (c : Choice) → old.pending ≡ [] → IsSteppedTo old c 0 old
no_steps old c e = none_turned old e
