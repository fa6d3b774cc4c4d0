-- The facts of identifiers, reply frames and what is at the fabric that are shown of the world behind a case.
use Rattle.std.specs.Prelude.{◌≡◌, ◌≢◌, ℕ, ◌%◌, ◌≤◌, false, sum_by, List}
use Rattle.mpt_wire.specs.Machine.Causes.{is_resetting}
use Rattle.mpt_wire.specs.Queues.Frames.{frame_stage}
use Rattle.mpt_wire.specs.Queues.Identifiers.{smid_stage}
use Rattle.mpt_wire.specs.Walks.Cycles.{TurnAsks, turn_next}
use Rattle.mpt_wire.specs.Walks.Passes.{Passes}
use Rattle.mpt_trace.specs.declared.entry.Entry.{Entry}
use Rattle.mpt_rules.specs.Law.{FramesHaveOnePlace, IdentifiersHaveOnePlace}
use Rattle.mpt_rules.specs.World.Lines.{down_line}
use Rattle.mpt_rules.specs.World.PlaceCounts.{smid_count}
use Rattle.mpt_rules.specs.World.State.{World}
use Rattle.law_facts.specs.Flights.{Frame, HeldResets, QueuesSorted, Sizes, is_frame_number, is_in_a_frame, names_a_frame, turn_at}
use Rattle.law_facts.specs.History.{History}
use Rattle.law_facts.specs.Words.{others}

-- of an identifier, that it has one place, and the turn of it
pub record IsPlaced (w : World) (h : History) (s : ℕ) : Type 0 where
  pub at_most : smid_count w s ≤ 1
  pub found : is_resetting w.host.mode ≡ false → smid_count w s ≡ 1
  pub turn : smid_count w s ≡ 1 → h.turn s % 4 ≡ turn_at w s

-- what returns and replies name are frames
pub record FramesAreNamed (w : World) : Type 0 where
  pub returned : others names_a_frame (down_line w) ≡ 0
  pub ring : others is_frame_number w.ioc.ring ≡ 0
  pub lanes : sum_by (others is_in_a_frame) w.up ≡ 0

pub record ShownPlaces (w : World) (h : History) : Type 0 where
  pub sizes : Sizes w
  pub sorted : QueuesSorted w
  pub identifiers : (s : ℕ) → 1 ≤ s → s ≤ 280 → IsPlaced w h s
  pub frames : (a : ℕ) → a ≤ 63 → Frame w h a
  pub frames_are_named : FramesAreNamed w
  pub held : (handle : ℕ) → HeldResets w handle

-- entries pass the rules of the two cycles behind what was said
pub record TurnsKept (h : History) (t : List Entry) : Type 0 where
  pub identifiers : (s : ℕ) → s ≢ 0 → Passes (turn_next (smid_stage s)) (TurnAsks (smid_stage s)) (h.turn s) t
  pub frames : (address : ℕ) → Passes (turn_next (frame_stage address)) (TurnAsks (frame_stage address)) (h.frame_turn address) t

-- each identifier and each reply frame has one place, or none where a reset that goes on dropped its item
pub record HavePlaces (w : World) : Type 0 where
  pub identifiers : IdentifiersHaveOnePlace w
  pub frames : FramesHaveOnePlace w
