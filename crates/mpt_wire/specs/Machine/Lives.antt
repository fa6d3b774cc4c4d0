-- The life of a request in a list of steps: it is accepted, runs at most once, at its disk, and has one answer.
use Rattle.std.specs.Prelude.{◌≡◌, ℕ, ◌==◌, if◌then◌else◌, List, [], ◌∷◌, filter_map, Option, Some, None}
use Rattle.mpt_trace.specs.declared.outcome.Outcome.{Outcome}
use Rattle.mpt_trace.specs.declared.outcome.Outcome.TheVariants as outcome
use Rattle.mpt_wire.specs.Machine.Causes as calls
use Rattle.mpt_wire.specs.Machine.Steps.{Step, Grants, Runs, Answers}

-- what happens to a request
pub data LifeEvent : Type 0 where
  IsAccepted : (address : ℕ) → LifeEvent
  RunsAt : (address : ℕ) → LifeEvent
  IsAnswered : (how : Outcome) → LifeEvent

-- what the step is to the request n
abbrev pub life_event_of : ℕ → Step → Option LifeEvent
life_event_of n (Grants (calls.Submit k a command)) = if n == k then Some (IsAccepted a) else None
life_event_of n (Runs k a) = if n == k then Some (RunsAt a) else None
life_event_of n (Answers k how) = if n == k then Some (IsAnswered how) else None
life_event_of n _ = None

-- the answers of a request that has run, and of one that hasn't
abbrev pub AnswersRun : Outcome → Type 0
AnswersRun (outcome.Done result) = Unit {0}
AnswersRun outcome.Reset = Unit {0}
AnswersRun _ = ⊥

abbrev pub AnswersUnrun : Outcome → Type 0
AnswersUnrun (outcome.Done result) = ⊥
AnswersUnrun _ = Unit {0}

-- what may happen to a request that has run
abbrev pub LifeAfterRun : List LifeEvent → Type 0
LifeAfterRun [] = Unit {0}
LifeAfterRun (IsAnswered how ∷ marks) = AnswersRun how × (marks ≡ [])
LifeAfterRun _ = ⊥

-- to one that was accepted for the address
abbrev pub LifeAt : ℕ → List LifeEvent → Type 0
LifeAt a [] = Unit {0}
LifeAt a (RunsAt b ∷ marks) = (b ≡ a) × LifeAfterRun marks
LifeAt a (IsAnswered how ∷ marks) = AnswersUnrun how × (marks ≡ [])
LifeAt a _ = ⊥

-- and from the beginning on
abbrev pub Life : List LifeEvent → Type 0
Life [] = Unit {0}
Life (IsAccepted a ∷ marks) = LifeAt a marks
Life _ = ⊥

-- each request has one life
abbrev pub HaveOneLife : List Step → Type 0
HaveOneLife steps = (n : ℕ) → Life (filter_map (life_event_of n) steps)
