-- What a schedule does, some list of cases does.
use Rattle.std.proofs.Common.{◌≡◌, ℕ, zero, suc, Bool, true, false, List, [], ◌∷◌, ◌++◌, Option, Some, None, map, replicate, take, refl, ap, subst, sym, ◌∙◌, append-nil, append_assoc}
use Rattle.std.specs.Prelude.{All}
use Rattle.std.specs.List.{AllByRecursion}
use Rattle.std.proofs.lemmas.List.Elements.{All-append, All-cons, All-from_recursion, All-head, All-map, All-nil, All-replicate, All-tail, All-take}
use Rattle.mpt_trace.specs.declared.choice.Choice.{Choice}
use Rattle.mpt_wire.specs.Fits.Lines.{Line, Asked, Stepped, Drained, LineTurn, Asks, Steps, Tries, Try, rounds, tries_of_round, turns}
use Rattle.mpt_rules.specs.Outcome.{Happening}
use Rattle.mpt_rules.specs.Law.{IsLine, IsOfCases}
use Rattle.mpt_rules.specs.World.Cases.{Case, Chosen, Told, case_of, entries, happens, moves_or_idles, run, trace}
use Rattle.mpt_rules.specs.World.Drain.{behind, choice_of, drain_with, drains, followed_by, moves_if, round, tries, tries_choice, world_quiet}
use Rattle.mpt_rules.specs.World.Moves.{moves}
use Rattle.mpt_rules.specs.World.Replays.{carries_out, replays, steps}
use Rattle.mpt_rules.specs.World.Settings.{IsCase, Setting, first_world}
use Rattle.mpt_rules.specs.World.State.{World, nothing, queues_of}
use Rattle.mpt_rules.specs.World.TurnsDone.{does_turn, does_turns}
use Rattle.mpt_rules.specs.World.Weight.{weight}

-- from a world, the outcome is that of allowed cases
record OfCases (w : World) (o : Happening World) : Type 0 where
  pub cases : List Case
  pub allowed : AllByRecursion IsCase cases
  pub traced : o.entries ≡ trace w cases
  pub reached : o.part ≡ run w cases

trace-append : (w : World) (cs ds : List Case) → trace w (cs ++ ds) ≡ trace w cs ++ trace (run w cs) ds
trace-append w [] ds = refl
trace-append w (c ∷ cs) ds =
    ap (λ es. entries w c ++ es) (trace-append (happens w c) cs ds) ∙ sym (append_assoc (entries w c) (trace (happens w c) cs) (trace (run (happens w c) cs) ds))

run-append : (w : World) (cs ds : List Case) → run w (cs ++ ds) ≡ run (run w cs) ds
run-append w [] ds = refl
run-append w (c ∷ cs) ds = run-append (happens w c) cs ds

allowed-append : (cs ds : List Case) → AllByRecursion IsCase cs → AllByRecursion IsCase ds → AllByRecursion IsCase (cs ++ ds)
allowed-append [] ds a b = b
allowed-append (c ∷ cs) ds a b = (a.0, allowed-append cs ds a.1 b)

-- nothing happens
none : (w : World) → OfCases w (nothing w)
none w = record { cases = []; allowed = tt; traced = refl; reached = refl }

-- one case happens
one : (w : World) (c : Case) → IsCase c → OfCases w (case_of w c)
one w c a = record { cases = c ∷ []; allowed = (a, tt); traced = sym (append-nil (entries w c)); reached = refl }

-- one outcome, and another from the world that it leaves
and_then : (w : World) (o p : Happening World) → OfCases w o → OfCases o.part p → OfCases w (behind o.entries p)
and_then w o p a b =
    let second : OfCases (run w a.cases) p = subst (λ v. OfCases v p) a.reached b in
    record {
      cases = a.cases ++ second.cases;
      allowed = allowed-append a.cases second.cases a.allowed second.allowed;
      traced = ap (λ es. es ++ p.entries) a.traced ∙ (ap (λ es. trace w a.cases ++ es) second.traced ∙ sym (trace-append w a.cases second.cases));
      reached = second.reached ∙ sym (run-append w a.cases second.cases);
    }

-- ---- a drain

tried_choice : (w : World) (c : Option Choice) → OfCases w (tries_choice w c)
tried_choice w None = none w
tried_choice w (Some c) = by_move (moves w c) refl
  where
    by_move : (o : Option (Happening World)) → moves w c ≡ o → OfCases w (moves_if w o)
    by_move None e = none w
    by_move (Some o) e = subst (λ m. OfCases w (moves_or_idles w c m)) e (one w (Chosen c) tt)

tried : (w : World) (t : Try) → OfCases w (tries w t)
tried w t = tried_choice w (choice_of w t)

followed : (w : World) (o : Happening World) (ts : List Try) → OfCases w o → OfCases w (followed_by o ts)
unfolding followed_by
followed w o [] a = a
followed w o (t ∷ ts) a = and_then w o (followed_by (tries o.part t) ts) a (followed o.part (tries o.part t) ts (tried o.part t))

rounded : (w : World) → OfCases w (round w)
rounded w = followed w (nothing w) (tries_of_round (queues_of w)) (none w)

drained_with : (fuel : ℕ) (w : World) → OfCases w (drain_with fuel w)
unfolding drain_with
drained_with zero w = none w
drained_with (suc fuel) w = by_quiet (world_quiet w) (and_then w (round w) (drain_with fuel (round w).part) (rounded w) (drained_with fuel (round w).part))
  where
    by_quiet : (b : Bool) → OfCases w (behind (round w).entries (drain_with fuel (round w).part)) → OfCases w (elim b [
      | true ↦ nothing w
      | false ↦ (let first : Happening World = round w in behind first.entries (drain_with fuel first.part))
    ])
    by_quiet true more = none w
    by_quiet false more = more

-- ---- lines and turns

stepped : (count : ℕ) (c : Choice) (w : World) → OfCases w (steps count c w)
unfolding steps
stepped zero c w = none w
stepped (suc more) c w = and_then w (case_of w (Chosen c)) (steps more c (happens w (Chosen c))) (one w (Chosen c) tt) (stepped more c (happens w (Chosen c)))

carried_out : (s : Setting) (w : World) (line : Line) → IsLine s line → OfCases w (carries_out w line)
carried_out s w (Asked input) a = one w (Told input) a.0
carried_out s w (Stepped choice count) a = stepped count choice w
carried_out s w Drained a = drained_with (weight w) w

replayed : (s : Setting) (w : World) (lines : List Line) → All (IsLine s) lines → OfCases w (replays w lines)
unfolding replays
replayed s w [] a = none w
replayed s w (line ∷ lines) a =
    and_then w (carries_out w line) (replays (carries_out w line).part lines) (carried_out s w line (All-head (IsLine s) line lines a))
    (replayed s (carries_out w line).part lines (All-tail (IsLine s) line lines a))

-- the outcome is that of a list of cases
of_cases : (s : Setting) (o : Happening World) → OfCases (first_world s) o → IsOfCases s o
of_cases s o a = record { cases = a.cases; allowed = All-from_recursion IsCase a.cases a.allowed; traced = a.traced; reached = a.reached }

pub replays_of_cases : (s : Setting) (lines : List Line) → All (IsLine s) lines → IsOfCases s (replays (first_world s) lines)
replays_of_cases s lines a = of_cases s (replays (first_world s) lines) (replayed s (first_world s) lines a)

-- ---- turns

-- a turn that a line allows
abbrev IsTurn : LineTurn → Type 0
IsTurn (Asks input) = IsCase (Told input)
IsTurn (Steps choice) = Unit {0}
IsTurn (Tries try) = Unit {0}

turned : (w : World) (t : LineTurn) → IsTurn t → OfCases w (does_turn w t)
turned w (Asks input) a = one w (Told input) a
turned w (Steps choice) a = one w (Chosen choice) tt
turned w (Tries try) a = tried w try

turned_all : (w : World) (ts : List LineTurn) → All IsTurn ts → OfCases w (does_turns w ts)
unfolding does_turns
turned_all w [] a = none w
turned_all w (t ∷ ts) a =
    and_then w (does_turn w t) (does_turns (does_turn w t).part ts) (turned w t (All-head IsTurn t ts a))
    (turned_all (does_turn w t).part ts (All-tail IsTurn t ts a))

tries_allowed : (ts : List Try) → All IsTurn (map Tries ts)
tries_allowed ts = All-map IsTurn Tries ts (λ k d h. tt)

rounds_allowed : (queues n : ℕ) → All IsTurn (rounds queues n)
rounds_allowed queues zero = All-nil IsTurn
rounds_allowed queues (suc n) =
    All-append IsTurn (map Tries (tries_of_round queues)) (rounds queues n) (tries_allowed (tries_of_round queues)) (rounds_allowed queues n)

turns_allowed : (s : Setting) (queues : ℕ) (drains : List ℕ) (lines : List Line) → All (IsLine s) lines → All IsTurn (turns queues drains lines)
turns_allowed s queues drains [] a = All-nil IsTurn
turns_allowed s queues drains (Asked input ∷ lines) a =
    All-cons IsTurn (Asks input) (turns queues drains lines) (All-head (IsLine s) (Asked input) lines a).0
    (turns_allowed s queues drains lines (All-tail (IsLine s) (Asked input) lines a))
turns_allowed s queues drains (Stepped choice count ∷ lines) a =
    All-append IsTurn (replicate count (Steps choice)) (turns queues drains lines) (All-replicate IsTurn count (Steps choice) tt)
    (turns_allowed s queues drains lines (All-tail (IsLine s) (Stepped choice count) lines a))
turns_allowed s queues [] (Drained ∷ lines) a = turns_allowed s queues [] lines (All-tail (IsLine s) Drained lines a)
turns_allowed s queues (n ∷ drains) (Drained ∷ lines) a =
    All-append IsTurn (rounds queues n) (turns queues drains lines) (rounds_allowed queues n)
    (turns_allowed s queues drains lines (All-tail (IsLine s) Drained lines a))

pub runs_so_far_of_cases : (s : Setting) (lines : List Line) (drains : List ℕ) (done : ℕ) → All (IsLine s) lines
    → IsOfCases s (does_turns (first_world s) (take done (turns s.queues drains lines)))
runs_so_far_of_cases s lines drains done a =
    of_cases s (does_turns (first_world s) (take done (turns s.queues drains lines)))
    (turned_all (first_world s) (take done (turns s.queues drains lines))
    (All-take IsTurn done (turns s.queues drains lines) (turns_allowed s s.queues drains lines a)))
