-- What is shown of the doorbell as a whole.
use Rattle.mpt_rules.specs.World.Cases.{Case, happens}
use Rattle.mpt_rules.specs.Law.{NothingIsStrange}
use Rattle.mpt_rules.specs.World.Settings.{Setting, first_world}
use Rattle.mpt_rules.specs.World.State.{World}
use Rattle.law_facts.specs.DoorAhead.{Doorbell}
use Rattle.law_facts.specs.Facts.{Facts}
use Rattle.law_facts.specs.Flights.{Sizes}
use Rattle.law_facts.specs.History.{History}
use Rattle.law_doors.proofs.StageWorld.{stage_kept}
use Rattle.law_starts.proofs.StartsKept.{all_queues, before, sound_stands, starts_at_first, starts_kept}
use Rattle.law_steps.proofs.StepsStand.{adapter_stands, reset_steps_stand}
use Rattle.law_locks.proofs.LocksStand.{handshakes_kept, lock_step_of, rests_kept, stand_at_first}
use Rattle.law_fresh.proofs.FreshStands.{bare_at_first, bare_stands, fresh_stands}
use Rattle.law_bells.specs.Talks.{TalksStand}

pub talks_kept : (w : World) (h : History) (c : Case) → Facts w h → NothingIsStrange w → TalksStand w → TalksStand (happens w c)
talks_kept w h c f plain t = record { starts = starts_kept w h c f plain t.starts; handshakes = handshakes_kept w h c f plain t.starts t.handshakes; bare = bare_stands w h c f plain t.bare }

pub talks_at_first : (s : Setting) → TalksStand (first_world s)
talks_at_first s = record { starts = starts_at_first s; handshakes = stand_at_first s; bare = bare_at_first s }

pub doorbell_kept : (w : World) (h : History) (c : Case) → Facts w h → NothingIsStrange w → TalksStand w → Sizes (happens w c) → Doorbell (happens w c)
doorbell_kept w h c f plain t z =
    let k = talks_kept w h c f plain t in let st = stage_kept w h (before w h f plain) c in
    record {
      sound = sound_stands w h c f plain t.starts;
      adapter = adapter_stands w h c f plain;
      stage = st;
      rests = rests_kept w h c f plain t.starts t.handshakes;
      lock_step = lock_step_of (happens w c) k.handshakes k.starts st z;
      reset_steps = reset_steps_stand w h c f plain t.starts;
      fresh_start = fresh_stands w h c f plain t.starts t.bare;
      init_queues = all_queues (happens w c) k.starts z;
    }
