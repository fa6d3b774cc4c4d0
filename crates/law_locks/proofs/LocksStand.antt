-- What is shown of handshakes, over all cases.
use Rattle.std.proofs.Common.{None, refl}
use Rattle.mpt_rules.specs.World.Cases.{Case, happens}
use Rattle.mpt_rules.specs.Law.{NothingIsStrange}
use Rattle.mpt_rules.specs.World.Settings.{Setting, first_world}
use Rattle.mpt_rules.specs.World.State.{World, queues_of}
use Rattle.law_facts.specs.DoorAhead.{DoorRests, LockStep, StageFits, door_ahead, value_coming}
use Rattle.law_facts.specs.Facts.{Facts}
use Rattle.law_facts.specs.Flights.{Sizes}
use Rattle.law_facts.specs.History.{History}
use Rattle.law_doors.proofs.Started.{started_kept}
use Rattle.law_starts.specs.Starts.{StartsStand}
use Rattle.law_starts.proofs.LookKept.{look_kept}
use Rattle.law_starts.proofs.StartsKept.{before}
use Rattle.law_locks.specs.Locks.{HandshakesStand}
use Rattle.law_locks.proofs.InStep.{lock_steps}
use Rattle.law_locks.proofs.Locked.{unmanned}
use Rattle.law_locks.proofs.LocksKept.{locks_kept}

pub handshakes_kept : (w : World) (h : History) (c : Case) → Facts w h → NothingIsStrange w → StartsStand w → HandshakesStand w → HandshakesStand (happens w c)
handshakes_kept w h c f plain s l = (locks_kept w h (before w h f plain) s l c).shakes

pub rests_kept : (w : World) (h : History) (c : Case) → Facts w h → NothingIsStrange w → StartsStand w → HandshakesStand w → DoorRests (happens w c)
rests_kept w h c f plain s l =
    let b = before w h f plain in let k = locks_kept w h b s l c in
    record { handshake = k.handshake; status = k.status; started = started_kept w h b c; look = look_kept w h b s.nothing_is_written c }

pub lock_step_of : (w : World) → HandshakesStand w → StartsStand w → StageFits w → Sizes w → LockStep w
lock_step_of w l s st z = lock_steps w l st z s.knows_no_host

-- at first there is no machine
pub stand_at_first : (s : Setting) → HandshakesStand (first_world s)
stand_at_first s = unmanned (queues_of (first_world s)) None (first_world s).host.mode (first_world s).host.stage (door_ahead (first_world s)) (value_coming (first_world s)) refl
