-- What a host tells over a list of moves answers each number once, behind its accept.
use Rattle.std.proofs.Common.{◌≡◌, ℕ, ◌+◌, ◌≤◌, ◌==◌, Bool, true, false, if◌then◌else◌, List, [], ◌∷◌, ◌++◌, length, map, Option, Some, None, refl, ap, sym, subst, ◌∙◌, arith}
use Rattle.std.specs.Prelude.{nat_lt, slice_get, count_by, Result, Ok}
use Rattle.std.specs.FinSet as finset
use Rattle.std.specs.Ordering.{nat_cmp}
use Rattle.std.proofs.lemmas.Bool.Decides.{nat_tests}
use Rattle.std.proofs.lemmas.List.Elements.{filter_map-append}
use Rattle.mpt_trace.specs.Command.{command_named}
use Rattle.mpt_trace.specs.declared.entry.Entry.{Entry}
use Rattle.mpt_trace.specs.declared.entry.Entry.TheVariants as entry
use Rattle.mpt_trace.specs.declared.host_state.HostState.{HostState}
use Rattle.mpt_trace.specs.declared.host_state.HostState.TheVariants as state
use Rattle.mpt_trace.specs.declared.input.Input.{Input}
use Rattle.mpt_trace.specs.declared.input.Input.TheVariants as input
use Rattle.mpt_trace.specs.declared.item.Down.{Down}
use Rattle.mpt_trace.specs.declared.item.Up.{Up}
use Rattle.mpt_trace.specs.declared.outcome.Outcome.{Outcome as Ending}
use Rattle.mpt_trace.specs.declared.refusal.Refusal.{Refusal}
use Rattle.mpt_trace.specs.declared.refusal.RefusedCall.TheVariants as call
use Rattle.mpt_wire.specs.Walks.Passes.{EachEntry, Passes, state_after}
use Rattle.mpt_wire.proofs.Passing.{passes_append, state_after-append, each_append}
use Rattle.mpt_rules.specs.declared.why.Why.{Why}
use Rattle.mpt_rules.specs.Host.Inputs.{diag_resets_in, granted_unless, host_cause_of_abort, host_cause_of_submit, host_cause_of_target_reset, starts_in, unit_resets_in}
use Rattle.mpt_rules.specs.Host.Parts.{Host, new_host}
use Rattle.mpt_rules.specs.Host.Strange.{why_strange}
use Rattle.mpt_rules.specs.Host.Takes.{hears_up, takes_unless, takes_up}
use Rattle.mpt_rules.specs.Law.{is_accept, is_answer}
use Rattle.mpt_rules.specs.Outcome.{Called}
use Rattle.mpt_rules.specs.Session.OpenCases.{HostCase}
use Rattle.mpt_rules.specs.Session.OpenCases as open_cases
use Rattle.mpt_rules.specs.World.Counts.{one_if}
use Rattle.mpt_rules.specs.World.Inputs.{by_option, by_result, host_told}
use Rattle.mpt_rules.specs.World.Moves.{told_of}
use Rattle.host_core.specs.Asking.{with_refusal}
use Rattle.host_core.specs.Faults.{refusal_by}
use Rattle.host_core.specs.Plays.{after_moves, asked_move, moved, passed_over, placed, puts_down, taken_move, talk_from}
use Rattle.host_core.specs.declared.moves.HostMove.{HostMove}
use Rattle.host_core.specs.declared.moves.HostMove.TheVariants as move
use Rattle.host_core.specs.declared.moves.HostSaid.{HostSaid}
use Rattle.host_core.specs.declared.moves.HostSaid.TheVariants as said
use Rattle.law_moves.proofs.HostWords.{EndsIt, HostTells, IsHostWord, Words, host_tells}
use Rattle.law_moves.proofs.InputWords.{IsInputWord, input_words}
use Rattle.law_parties.proofs.AnsweredOnce.{accepts_counted, answers_counted, at_most_one, none_yet}
use Rattle.law_parties.proofs.Numbers.{all_are_free}
use Rattle.law_parties.proofs.Tallies.{Counts, HasTally, Tally, TallyAsks, tally_next}
use Rattle.law_parties.proofs.TallyCases.{host_counts}
use Rattle.law_ends.specs.HostEnds.{AnswersAreDue, HostsAnswerOnce, entries_told, entry_told}

-- ---- the entries of a move

abbrev pub answer_entry : Option HostSaid → List Entry
answer_entry None = []
answer_entry (Some (said.Down item)) = []
answer_entry (Some (said.Told e)) = e ∷ []
answer_entry (Some (said.Strange why)) = []

abbrev pub move_entries : Called Host (Option HostSaid) → List Entry
move_entries c = answer_entry c.answer ++ c.told

abbrev pub all_entries : Host → List HostMove → List Entry
all_entries host [] = []
all_entries host (m ∷ moves) = move_entries (moved host m) ++ all_entries (moved host m).part moves

told_placed : (place : ℕ) (told : List Entry) → entries_told (map (λ (s : HostSaid). (place, s)) (map said.Told told)) ≡ told
told_placed place [] = refl
told_placed place (e ∷ told) = ap (λ t. e ∷ t) (told_placed place told)

placed_entries : (place : ℕ) (answer : Option HostSaid) (told : List Entry) → entries_told (placed place answer told) ≡ answer_entry answer ++ told
placed_entries place None told = told_placed place told
placed_entries place (Some (said.Down item)) told = told_placed place told
placed_entries place (Some (said.Told e)) told = ap (λ t. e ∷ t) (told_placed place told)
placed_entries place (Some (said.Strange why)) told = told_placed place told

pub talk_entries : (place : ℕ) (host : Host) (moves : List HostMove) → entries_told (talk_from place host [] moves) ≡ all_entries host moves
unfolding talk_from
talk_entries place host [] = refl
talk_entries place host (m ∷ moves) =
    filter_map-append entry_told (placed place (moved host m).answer (moved host m).told) (talk_from (place + 1) (moved host m).part [] moves)
    ∙ (ap (λ t. t ++ entries_told (talk_from (place + 1) (moved host m).part [] moves)) (placed_entries place (moved host m).answer (moved host m).told)
    ∙ ap (λ t. move_entries (moved host m) ++ t) (talk_entries (place + 1) (moved host m).part moves))

-- ---- a move is a case

-- an input that is given to the host has its entries behind it
abbrev pub input_move : Host → Input → List Entry
input_move host i = move_entries (moved host (move.Input i))

started : (host : Host) (m : HostState) → (by_option input.Start call.Start (starts_in host m)).entries ≡ entry.Given input.Start ∷ move_entries (asked_move (with_refusal (entry.Refuse call.Start) (starts_in host m).answer (starts_in host m)))
started host state.Off = refl
started host state.Starting = refl
started host state.Up = refl
started host state.Resetting = refl

reset : (host : Host) (m : HostState) → (by_option input.Reset call.Reset (diag_resets_in host m)).entries ≡ entry.Given input.Reset ∷ move_entries (asked_move (with_refusal (entry.Refuse call.Reset) (diag_resets_in host m).answer (diag_resets_in host m)))
reset host state.Off = refl
reset host state.Starting = refl
reset host state.Up = refl
reset host state.Resetting = refl

unit_reset : (host : Host) (m : HostState) → (by_option input.UnitReset call.UnitReset (unit_resets_in host m)).entries ≡ entry.Given input.UnitReset ∷ move_entries (asked_move (with_refusal (entry.Refuse call.UnitReset) (unit_resets_in host m).answer (unit_resets_in host m)))
unit_reset host state.Off = refl
unit_reset host state.Starting = refl
unit_reset host state.Up = refl
unit_reset host state.Resetting = refl

granted : (i : Input) (refuse : Refusal → Entry) (cause : Option Refusal) (host after : Host) (told : List Entry) (smid : ℕ)
    → let c : Called Host (Result ℕ Refusal) = granted_unless cause host (record { part = after; told = told; answer = Ok smid }) in
    (by_result i refuse c).entries ≡ entry.Given i ∷ move_entries (asked_move (with_refusal refuse (refusal_by c.answer) c))
granted i refuse None host after told smid = refl
granted i refuse (Some cause) host after told smid = refl

abbrev pub IsShown : Host → Input → Type 0
IsShown host i = (host_told host i).entries ≡ entry.Given i ∷ input_move host i

shown_submit : (host : Host) (n address : ℕ) (form : _) → IsShown host (input.Submit n address form)
shown_submit host n address form = granted (input.Submit n address form) (entry.RefuseSubmit n) (host_cause_of_submit host n address (command_named form)) host _ _ _

shown_abort : (host : Host) (n : ℕ) → IsShown host (input.Abort n)
shown_abort host n = granted (input.Abort n) (entry.Refuse (call.Abort n)) (host_cause_of_abort host n) host _ _ _

shown_target : (host : Host) (address : ℕ) → IsShown host (input.TargetReset address)
shown_target host address = granted (input.TargetReset address) (entry.Refuse (call.TargetReset address)) (host_cause_of_target_reset host address) host _ _ _

-- what is told of an input is an accept or a refusal
pub input_entries : (host : Host) (i : Input) → EachEntry IsInputWord (input_move host i)
input_entries host i = by_input i
  where
    by_given : (x : Input) → IsShown host x → EachEntry IsInputWord (input_move host x)
    by_given x is = (subst (EachEntry IsInputWord) is (input_words host x)).1

    by_input : (x : Input) → EachEntry IsInputWord (input_move host x)
    by_input input.Start = by_given input.Start (started host host.mode)
    by_input (input.Submit k address form) = by_given (input.Submit k address form) (shown_submit host k address form)
    by_input (input.Abort k) = by_given (input.Abort k) (shown_abort host k)
    by_input (input.TargetReset address) = by_given (input.TargetReset address) (shown_target host address)
    by_input input.Reset = by_given input.Reset (reset host host.mode)
    by_input input.UnitReset = by_given input.UnitReset (unit_reset host host.mode)
    by_input (input.Plug address expander phy) = tt
    by_input (input.Unplug address) = tt

took : (host : Host) (queue : ℕ) (next : Up) (o : Option Why) → told_of (takes_unless host queue next o).answer (takes_unless host queue next o).told ≡ move_entries (taken_move (takes_unless host queue next o))
took host queue next None = refl
took host queue next (Some why) = refl

-- ---- each move keeps the tally

module _ (n : ℕ) where
  abbrev pub CountsMove : Tally → Called Host (Option HostSaid) → Type 0
  CountsMove g c = Counts n g (move_entries c) c.part

  module _ (g : Tally) where
    given : (host : Host) (i : Input) (es : List Entry) → (host_told host i).entries ≡ entry.Given i ∷ es → HasTally n g host → Counts n g es (host_told host i).part
    given host i es is h =
        let c = subst (λ (t : List Entry). Counts n g t (host_told host i).part) is (host_counts n g host (HostCase.Told i) h) in
        record { passes = c.passes.1; tied = c.tied }

    input_counts : (host : Host) (i : Input) → HasTally n g host → CountsMove g (moved host (move.Input i))
    input_counts host input.Start h = given host input.Start (input_move host input.Start) (started host host.mode) h
    input_counts host (input.Submit k address form) h = given host (input.Submit k address form) (input_move host (input.Submit k address form)) (shown_submit host k address form) h
    input_counts host (input.Abort k) h = given host (input.Abort k) (input_move host (input.Abort k)) (shown_abort host k) h
    input_counts host (input.TargetReset address) h = given host (input.TargetReset address) (input_move host (input.TargetReset address)) (shown_target host address) h
    input_counts host input.Reset h = given host input.Reset (input_move host input.Reset) (reset host host.mode) h
    input_counts host input.UnitReset h = given host input.UnitReset (input_move host input.UnitReset) (unit_reset host host.mode) h
    input_counts host (input.Plug address expander phy) h = record { passes = tt; tied = h }
    input_counts host (input.Unplug address) h = record { passes = tt; tied = h }

    take_counts : (host : Host) (queue : ℕ) (next : Up) → HasTally n g host → CountsMove g (taken_move (takes_up host queue next))
    take_counts host queue next h =
        let c = host_counts n g host (HostCase.Takes queue next) h in
        subst (λ (t : List Entry). Counts n g t (takes_up host queue next).part) (took host queue next (why_strange host queue next)) (record { passes = c.passes.1; tied = c.tied })

    put_counts : (host : Host) (items : List Down) → Counts n g (open_cases.puts_down host items).entries (open_cases.puts_down host items).part → HasTally n g host → CountsMove g (puts_down host (slice_get items 0))
    put_counts host [] c h = record { passes = tt; tied = h }
    put_counts host (x ∷ rest) c h = record { passes = tt; tied = c.tied }

    pub move_counts : (host : Host) (m : HostMove) → HasTally n g host → CountsMove g (moved host m)
    move_counts host (move.Input i) h = input_counts host i h
    move_counts host (move.Up next) h = take_counts host 0 next h
    move_counts host (move.UpOn queue next) h = by_queue (nat_lt queue (length host.indices))
      where
        by_queue : (b : Bool) → CountsMove g (if b then taken_move (takes_up host queue next) else passed_over host)
        by_queue true = take_counts host queue next h
        by_queue false = record { passes = tt; tied = h }
    move_counts host move.PutDown h = put_counts host host.out (host_counts n g host HostCase.Puts h) h

  pub moves_count : (g : Tally) (host : Host) (moves : List HostMove) → HasTally n g host → Counts n g (all_entries host moves) (after_moves host moves)
  unfolding after_moves
  moves_count g host [] h = record { passes = tt; tied = h }
  moves_count g host (m ∷ moves) h =
      let next : Host = (moved host m).part in
      let es : List Entry = move_entries (moved host m) in
      let c = move_counts g host m h in
      let rest = moves_count (state_after (tally_next n) g es) next moves c.tied in
      record {
        passes = passes_append (tally_next n) (TallyAsks n) g es (all_entries next moves) c.passes rest.passes;
        tied = subst (λ (r : Tally). HasTally n r (after_moves next moves)) (sym (state_after-append (tally_next n) g es (all_entries next moves))) rest.tied;
      }

  -- ---- an answer comes behind the accept

  abbrev pub DueAsks : Tally → Entry → Type 0
  DueAsks g (entry.Answer k how) = (k == n) ≡ true → 1 ≤ g.accepts
  DueAsks g _ = Unit {0}

  abbrev pub IsDue : Tally → List Entry → Type 0
  IsDue g es = Passes (tally_next n) DueAsks g es

  -- no answer among them
  no_answer : (g : Tally) (e : Entry) → IsInputWord e → DueAsks g e
  no_answer g (entry.Answer k how) w = absurd w
  no_answer g _ w = tt

  no_answers : (g : Tally) (es : List Entry) → EachEntry IsInputWord es → IsDue g es
  no_answers g [] w = tt
  no_answers g (e ∷ es) w = (no_answer g e w.0, no_answers (tally_next n g e) es w.1)

  -- no accept among them
  abbrev pub IsNoAccept : Entry → Type 0
  IsNoAccept (entry.Accept k address smid) = ⊥
  IsNoAccept _ = Unit {0}

  word_no_accept : (e : Entry) → IsHostWord e → IsNoAccept e
  word_no_accept (entry.Accept k address smid) w = absurd w
  word_no_accept _ w = tt

  words_no_accept : (es : List Entry) → EachEntry IsHostWord es → EachEntry IsNoAccept es
  words_no_accept [] w = tt
  words_no_accept (e ∷ es) w = (word_no_accept e w.0, words_no_accept es w.1)

  tells_no_accept : (es : List Entry) → HostTells es → EachEntry IsNoAccept es
  tells_no_accept es (Words words) = words_no_accept es words
  tells_no_accept es (EndsIt told words is) = subst (EachEntry IsNoAccept) (sym is) (each_append IsNoAccept told (entry.ResetDone ∷ []) (words_no_accept told words) (tt, tt))

  accepts_stay : (g : Tally) (e : Entry) → IsNoAccept e → (tally_next n g e).accepts ≡ g.accepts
  accepts_stay g (entry.Accept k address smid) w = absurd w
  accepts_stay g _ w = refl

  all_accepts_stay : (g : Tally) (es : List Entry) → EachEntry IsNoAccept es → (state_after (tally_next n) g es).accepts ≡ g.accepts
  all_accepts_stay g [] w = refl
  all_accepts_stay g (e ∷ es) w = all_accepts_stay (tally_next n g e) es w.1 ∙ accepts_stay g e w.0

  answers_rise : (g : Tally) (e : Entry) → g.answers ≤ (tally_next n g e).answers
  answers_rise g (entry.Answer k how) = omega arith
  answers_rise g _ = omega arith

  all_answers_rise : (g : Tally) (es : List Entry) → g.answers ≤ (state_after (tally_next n) g es).answers
  all_answers_rise g [] = omega arith
  all_answers_rise g (e ∷ es) = let a = answers_rise g e in let b = all_answers_rise (tally_next n g e) es in omega (arith, a, b)

  due_without : (g : Tally) (es : List Entry) → EachEntry IsNoAccept es → (state_after (tally_next n) g es).answers ≤ (state_after (tally_next n) g es).accepts → IsDue g es
  due_without g [] w l = tt
  due_without g (e ∷ es) w l = (by_entry e w.0 (all_accepts_stay (tally_next n g e) es w.1) (all_answers_rise (tally_next n g e) es) l, due_without (tally_next n g e) es w.1 l)
    where
      by_entry : (x : Entry) → IsNoAccept x → (state_after (tally_next n) (tally_next n g x) es).accepts ≡ (tally_next n g x).accepts → (tally_next n g x).answers ≤ (state_after (tally_next n) (tally_next n g x) es).answers
          → (state_after (tally_next n) (tally_next n g x) es).answers ≤ (state_after (tally_next n) (tally_next n g x) es).accepts → DueAsks g x
      by_entry (entry.Answer k how) w a b l = λ is. let one = ap one_if is in omega (arith, a, b, l, one)
      by_entry _ w a b l = tt

  module _ (g : Tally) where
    input_due : (host : Host) (i : Input) → IsDue g (input_move host i)
    input_due host i = no_answers g (input_move host i) (input_entries host i)

    take_due : (host : Host) (queue : ℕ) (next : Up) → CountsMove g (taken_move (takes_up host queue next)) → IsDue g (move_entries (taken_move (takes_up host queue next)))
    take_due host queue next c = by_why (why_strange host queue next) c
      where
        by_why : (o : Option Why) → CountsMove g (taken_move (takes_unless host queue next o)) → IsDue g (move_entries (taken_move (takes_unless host queue next o)))
        by_why None c = let answers = c.tied.answers in due_without g (hears_up host queue next).entries (tells_no_accept (hears_up host queue next).entries (host_tells host queue next)) (omega (arith, answers))
        by_why (Some why) c = tt

    put_due : (host : Host) (o : Option Down) → IsDue g (move_entries (puts_down host o))
    put_due host None = tt
    put_due host (Some x) = tt

    move_due : (host : Host) (m : HostMove) → HasTally n g host → IsDue g (move_entries (moved host m))
    move_due host (move.Input i) h = input_due host i
    move_due host (move.Up next) h = take_due host 0 next (take_counts g host 0 next h)
    move_due host (move.UpOn queue next) h = by_queue (nat_lt queue (length host.indices))
      where
        by_queue : (b : Bool) → IsDue g (move_entries (if b then taken_move (takes_up host queue next) else passed_over host))
        by_queue true = take_due host queue next (take_counts g host queue next h)
        by_queue false = tt
    move_due host move.PutDown h = put_due host (slice_get host.out 0)

  moves_due : (g : Tally) (host : Host) (moves : List HostMove) → HasTally n g host → IsDue g (all_entries host moves)
  moves_due g host [] h = tt
  moves_due g host (m ∷ moves) h =
      let es : List Entry = move_entries (moved host m) in
      passes_append (tally_next n) DueAsks g es (all_entries (moved host m).part moves) (move_due g host m h)
      (moves_due (state_after (tally_next n) g es) (moved host m).part moves (move_counts g host m h).tied)

  due_behind : (g : Tally) (t u : List Entry) → IsDue g (t ++ u) → IsDue (state_after (tally_next n) g t) u
  due_behind g [] u p = p
  due_behind g (e ∷ t) u p = due_behind (tally_next n g e) t u p.1

  accepts_rise : (g : Tally) (e : Entry) → g.accepts ≤ (tally_next n g e).accepts
  accepts_rise g (entry.Accept k address smid) = omega arith
  accepts_rise g _ = omega arith

  all_accepts_rise : (g : Tally) (es : List Entry) → g.accepts ≤ (state_after (tally_next n) g es).accepts
  all_accepts_rise g [] = omega arith
  all_accepts_rise g (e ∷ es) = let a = accepts_rise g e in let b = all_accepts_rise (tally_next n g e) es in omega (arith, a, b)

  -- ---- a new host

  pub has_none : (q : ℕ) → HasTally n (none_yet n) (new_host q)
  has_none q = all_are_free n 0 0 finset.empty (sym (ap one_if (finset.contains-empty nat_cmp n))) refl

  few : (q : ℕ) (moves : List HostMove) → (count_by (is_accept n) (all_entries (new_host q) moves) ≤ 1) × (count_by (is_answer n) (all_entries (new_host q) moves) ≤ 1)
  few q moves =
      let c = (moves_count (none_yet n) (new_host q) moves (has_none q)).tied in
      let x = c.accepts in
      let y = c.answers in
      let a = accepts_counted n (none_yet n) (all_entries (new_host q) moves) in
      let b = answers_counted n (none_yet n) (all_entries (new_host q) moves) in
      let m = at_most_one (finset.contains (after_moves (new_host q) moves).accepted n) in
      (omega (arith, x, a, m), omega (arith, x, y, a, b, m))

  due_by : (q : ℕ) (moves : List HostMove) (how : Ending) (before after : List Entry) → all_entries (new_host q) moves ≡ before ++ entry.Answer n how ∷ after → count_by (is_accept n) before ≡ 1
  due_by q moves how before after is =
      let rest : List Entry = entry.Answer n how ∷ after in
      let due = due_behind (none_yet n) before rest (subst (IsDue (none_yet n)) is (moves_due (none_yet n) (new_host q) moves (has_none q))) in
      let l = due.0 (grind (arith, nat_tests)) in
      let c = (moves_count (none_yet n) (new_host q) moves (has_none q)).tied.accepts in
      let same = ap (λ (t : List Entry). (state_after (tally_next n) (none_yet n) t).accepts) is in
      let parts = ap (λ (r : Tally). r.accepts) (state_after-append (tally_next n) (none_yet n) before rest) in
      let up = all_accepts_rise (state_after (tally_next n) (none_yet n) before) rest in
      let m = at_most_one (finset.contains (after_moves (new_host q) moves).accepted n) in
      let a = accepts_counted n (none_yet n) before in
      omega (arith, l, c, same, parts, up, m, a)

pub answered_law : HostsAnswerOnce
answered_law q moves =
    subst AnswersAreDue (sym (talk_entries 0 (new_host q) moves)) (record { accepted = λ n. (few n q moves).0; answered = λ n. (few n q moves).1; due = λ n how before after is. due_by n q moves how before after is })
