-- What is shown of the aborts of a command, and of what the view knows of target resets.
use Rattle.std.specs.Prelude.{◌≡◌, ◌≢◌, ℕ, ◌%◌, ◌≤◌, true, false, not}
use Rattle.mpt_wire.specs.Paths.Stops.{IsFair}
use Rattle.mpt_rules.specs.World.Counts.{post_count}
use Rattle.mpt_rules.specs.World.PlaceCounts.{smid_count}
use Rattle.mpt_rules.specs.World.State.{World}
use Rattle.law_facts.specs.History.{History}
use Rattle.law_facts.specs.Paths.{has_task, is_open_high, replies_put, stage_of}
use Rattle.law_facts.specs.Words.{is_abort_asked, is_command_asked, slot}

-- the life of each identifier is fair
abbrev pub LivesAreFair : History → Type 0
LivesAreFair h = (s : ℕ) → IsFair (h.stopping s).life

-- a further fact: the view knows what was put under an identifier of task management, whatever a reset dropped of it
abbrev pub TurnsKnown : World → History → Type 0
TurnsKnown w h = (q : ℕ) → 257 ≤ q → q ≤ 264 → is_open_high (slot w.host q) ≡ true → h.turn q % 4 ≢ 0 → h.so_far.is_target_reset q ≡ not (is_abort_asked (slot w.host q))

-- and so what is past the host's outbox
abbrev pub ResetsKnown : World → History → Type 0
ResetsKnown w h = (q : ℕ) → 257 ≤ q → q ≤ 264 → 1 ≤ smid_count w q → post_count q w.host.out ≡ 0 → is_open_high (slot w.host q) ≡ true → h.so_far.is_target_reset q ≡ not (is_abort_asked (slot w.host q))

pub record TargetsKnown (w : World) (h : History) : Type 0 where
  pub resets : ResetsKnown w h
  pub further : TurnsKnown w h

-- of a command to which no reply was put: it has a task exactly where its path says so, and nothing was said of it
pub record RepliesAwaited (w : World) (h : History) : Type 0 where
  pub tasked : (s : ℕ) → is_command_asked (slot w.host s) ≡ true → replies_put w s ≡ 0 → (h.stopping s).life.tasked ≡ has_task (stage_of h s)
  pub replied : (s : ℕ) → is_command_asked (slot w.host s) ≡ true → replies_put w s ≡ 0 → ((h.stopping s).life.stopped ≡ false) × ((h.stopping s).life.other ≡ false)
