-- What a host keeps, whatever a controller does to it.
use Rattle.std.specs.Prelude.{◌≡◌, ℕ, ◌+◌, ◌<◌, ◌≤◌, List, [], ◌∷◌, ◌++◌, All, Option, Some, None, count_by, length, map}
use Rattle.std.specs.List.{filter_map}
use Rattle.mpt_trace.specs.declared.entry.Entry.{Entry}
use Rattle.mpt_trace.specs.declared.entry.Entry.TheVariants as entry
use Rattle.mpt_trace.specs.declared.outcome.Outcome.{Outcome as Ending}
use Rattle.mpt_rules.specs.declared.why.Why.{Why}
use Rattle.mpt_rules.specs.Host.Parts.{Host, new_host}
use Rattle.mpt_rules.specs.Law.{is_accept, is_answer}
use Rattle.host_core.specs.Plays.{after_moves, moved, talk_from}
use Rattle.host_core.specs.declared.moves.HostMove.{HostMove}
use Rattle.host_core.specs.declared.moves.HostSaid.{HostSaid}
use Rattle.host_core.specs.declared.moves.HostSaid.TheVariants as said

-- ---- what is said

-- what a host says over a list of moves, where nothing that it told waits to be asked for
abbrev pub host_talk : Host → List HostMove → List (ℕ × HostSaid)
host_talk host moves = talk_from 0 host [] moves

-- the entry that is told, if one is
abbrev pub entry_told : ℕ × HostSaid → Option Entry
entry_told (place, said.Down item) = None
entry_told (place, said.Told e) = Some e
entry_told (place, said.Strange why) = None

-- the entries that are told, in their order
abbrev pub entries_told : List (ℕ × HostSaid) → List Entry
entries_told talk = filter_map entry_told talk

-- ---- answers

-- no number is accepted twice or answered twice, and each that is answered was accepted before
pub record AnswersAreDue (t : List Entry) : Type 0 where
  pub accepted : (n : ℕ) → count_by (is_accept n) t ≤ 1
  pub answered : (n : ℕ) → count_by (is_answer n) t ≤ 1
  pub due : (n : ℕ) (how : Ending) (before after : List Entry) → t ≡ before ++ entry.Answer n how ∷ after → count_by (is_accept n) before ≡ 1

-- it is so of what a new host tells, with any number of reply queues, over any list of moves
abbrev pub HostsAnswerOnce : Type 0
HostsAnswerOnce = (q : ℕ) (moves : List HostMove) → AnswersAreDue (entries_told (host_talk (new_host q) moves))

-- ---- strange items

-- the same is said at the next place
abbrev pub one_later : ℕ × HostSaid → ℕ × HostSaid
one_later (place, s) = (place + 1, s)

-- the short talk is the long one without the one thing that is said at a place, and what is said behind it has the next
-- place in the long one
pub record IsWithout (at : ℕ) (what : HostSaid) (long short : List (ℕ × HostSaid)) : Type 0 where
  pub earlier : List (ℕ × HostSaid)
  pub later : List (ℕ × HostSaid)
  pub long_is : long ≡ earlier ++ (at, what) ∷ map one_later later
  pub short_is : short ≡ earlier ++ later
  pub before : All (λ (s : ℕ × HostSaid). s.0 < at) earlier
  pub behind : All (λ (s : ℕ × HostSaid). at ≤ s.0) later

-- a move that brings a strange item, behind some moves and before others, says why, and else nothing is as if it weren't there
pub record IsPassedOver (host : Host) (before : List HostMove) (strange : HostMove) (after : List HostMove) (why : Why) : Type 0 where
  pub part : after_moves host (before ++ strange ∷ after) ≡ after_moves host (before ++ after)
  pub talk : IsWithout (length before) (said.Strange why) (host_talk host (before ++ strange ∷ after)) (host_talk host (before ++ after))

-- it is so of any host
abbrev pub StrangeChangesNothing : Type 0
StrangeChangesNothing =
    (host : Host) (before : List HostMove) (strange : HostMove) (after : List HostMove) (why : Why)
    → (moved (after_moves host before) strange).answer ≡ Some (said.Strange why) → IsPassedOver host before strange after why
