-- What is shown of a start, over all cases: of a world of which all facts hold, and those of a start.
use Rattle.std.proofs.Common.{refl, ◌∙◌}
use Rattle.mpt_rules.specs.World.Cases.{Case, happens}
use Rattle.mpt_rules.specs.Law.{NothingIsStrange}
use Rattle.mpt_rules.specs.World.Settings.{Setting, first_world}
use Rattle.mpt_rules.specs.World.State.{World}
use Rattle.law_facts.specs.Facts.{Facts}
use Rattle.law_facts.specs.Flights.{Sizes}
use Rattle.law_facts.specs.History.{History}
use Rattle.law_facts.specs.DoorAhead.{DoorIsSound, InitQueues, written_ahead}
use Rattle.mpt_rules.specs.World.Counts.{how_many}
use Rattle.law_clock.specs.Premises.{Before}
use Rattle.law_doors.proofs.DoorsKept.{resets_heeded}
use Rattle.law_starts.specs.Starts.{LiveAtInit, OffIsFresh, StartFindsReady, StartsStand}
use Rattle.law_starts.proofs.HoldsKept.{holds_kept}
use Rattle.law_starts.proofs.KnowsKept.{knows_kept}
use Rattle.law_starts.proofs.LiveKept.{live_kept}
use Rattle.law_starts.proofs.OffKept.{off_kept}
use Rattle.law_starts.proofs.LookKept.{look_kept}
use Rattle.law_starts.proofs.QueuesWorld.{queues_kept, whole_ahead}
use Rattle.law_starts.proofs.WrittenKept.{written_kept}

module _ (w : World) (h : History) (f : Facts w h) (plain : NothingIsStrange w) where
  pub before : Before w h
  before = record { facts = f; plain = plain; heeded = resets_heeded w h f }

pub starts_kept : (w : World) (h : History) (c : Case) → Facts w h → NothingIsStrange w → StartsStand w → StartsStand (happens w c)
starts_kept w h c f plain s =
    let b = before w h f plain in
    record { nothing_holds = holds_kept w h b s.nothing_holds c; nothing_is_written = written_kept w h b s.nothing_is_written c; knows_no_host = knows_kept w h b s.knows_no_host c; queues_asked = queues_kept w h b s c }

pub sound_stands : (w : World) (h : History) (c : Case) → Facts w h → NothingIsStrange w → StartsStand w → DoorIsSound (happens w c)
sound_stands w h c f plain s =
    let b = before w h f plain in
    let n = holds_kept w h b s.nothing_holds c in
    record { whole = whole_ahead w h b s c; hold = n.hold; hold_ahead = n.hold_ahead; waits = n.waits }

pub look_stands : (w : World) (h : History) (c : Case) → Facts w h → NothingIsStrange w → StartsStand w → StartFindsReady (happens w c)
look_stands w h c f plain s = look_kept w h (before w h f plain) s.nothing_is_written c

pub live_stands : (w : World) (h : History) (c : Case) → Facts w h → NothingIsStrange w → StartsStand w → LiveAtInit (happens w c)
live_stands w h c f plain s = live_kept w h (before w h f plain) s c

pub off_stands : (w : World) (h : History) (c : Case) → Facts w h → NothingIsStrange w → OffIsFresh (happens w c)
off_stands w h c f plain = off_kept w h (before w h f plain) c

pub all_queues : (w : World) → StartsStand w → Sizes w → InitQueues w
all_queues w s z l = s.queues_asked.now l ∙ z.lanes

-- and at first nothing goes on
pub starts_at_first : (s : Setting) → StartsStand (first_world s)
unfolding how_many written_ahead
starts_at_first s =
    record {
      nothing_holds = record { writes = refl; read = λ d m a. absurd (cc); hold = refl; hold_ahead = refl; waits = refl };
      nothing_is_written = record { look = λ e. refl; reset = λ e. refl };
      knows_no_host = λ l. refl;
      queues_asked = record { now = λ l. absurd (cc); ahead = λ l. absurd (cc) };
    }
