-- What turns leave: inputs, steps of choices, and the tries of a drain.
use Rattle.std.specs.Prelude.{◌≡◌, ℕ, ◌++◌, List, Result, Ok, Err}
use Rattle.mpt_trace.specs.declared.choice.Choice.{Choice}
use Rattle.mpt_wire.specs.Fits.Lines.{Chooses, LineTurn, Tries, rounds as turns_of_rounds}
use Rattle.mpt_rules.specs.World.State.{queues_of}
use Rattle.mpt_rules.specs.World.TurnsDone.{does_turns}
use Rattle.mpt_system.specs.Whole.{Happened, Whole, after}

-- memory was wanting: the first of these turns were done, and no other
pub record TurnedSoFar (old : Whole) (turns : List LineTurn) (new : Whole) : Type 0 where
  pub done : List LineTurn
  pub rest : List LineTurn
  pub parts : done ++ rest ≡ turns
  pub happened : Happened old (does_turns old.world done) new

-- all of these turns were done, or memory was wanting
abbrev pub HasTurned : {A E : Type 0} → Whole → List LineTurn → Result A E → Whole → Type 0
HasTurned old turns (Ok done) new = new ≡ after old (does_turns old.world turns)
HasTurned old turns (Err error) new = TurnedSoFar old turns new

-- a drain, as far as it came: the first turns of some number of rounds
pub record DrainedSoFar (old new : Whole) : Type 0 where
  pub rounds : ℕ
  pub turned : TurnedSoFar old (turns_of_rounds (queues_of old.world) rounds) new

-- the try of a choice
abbrev pub tries_it : Choice → LineTurn
tries_it choice = Tries (Chooses choice)
