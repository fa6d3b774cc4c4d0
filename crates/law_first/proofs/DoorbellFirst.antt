-- The facts of the doorbell hold of the first world.
use Rattle.std.proofs.Common.{◌≡◌, refl, ap}
use Rattle.removal.specs.declared.phase.Phase.TheVariants as phase
use Rattle.smid_pool.specs.Pool.{Free, is_taken}
use Rattle.mpt_rules.specs.declared.host_frame.HostFrame.TheVariants as frame
use Rattle.mpt_rules.specs.Host.Removal.{is_absent}
use Rattle.mpt_rules.specs.World.PlaceCounts.{is_held_frame}
use Rattle.mpt_rules.specs.World.Settings.{Setting, first_world}
use Rattle.mpt_rules.specs.World.State.{World}
use Rattle.law_facts.specs.DoorAhead.{Doorbell, DoorIsSound, DoorRests, FreshStart, IsFresh, LockStep, ResetSteps, StageFits, door_ahead, written_ahead}
use Rattle.law_facts.specs.Words.{is_diagnostic_write, is_unit_write}
use Rattle.law_moves.proofs.Counted.{how_many-nil}
use Rattle.law_first.proofs.ClockFirst.{never}
use Rattle.law_first.proofs.Empty.{all_of, none_of}

module _ (s : Setting) where
  abbrev w : World
  w = first_world s

  ahead : door_ahead w ≡ w.ioc.door
  unfolding written_ahead
  ahead = refl

  sound : DoorIsSound w
  sound = record { whole = ap (λ (r : Rattle.mpi_doorbell.specs.DoorRegisters.DoorRegisters). Rattle.mpi_doorbell.specs.DoorRegisters.is_fault r.state) ahead; hold = refl; hold_ahead = ap (λ (r : Rattle.mpi_doorbell.specs.DoorRegisters.DoorRegisters). r.hold_reset) ahead; waits = refl }

  stage_fits : StageFits w
  stage_fits = record { machine = λ door e. absurd (cc); late = λ m e. never e; none = λ m e. refl; goes_on = λ e. never e; off = λ e. never e }

  rests : DoorRests w
  rests =
      record {
        handshake = λ e. ap (λ (r : Rattle.mpi_doorbell.specs.DoorRegisters.DoorRegisters). r.handshake) ahead;
        status = λ e. ap (λ (r : Rattle.mpi_doorbell.specs.DoorRegisters.DoorRegisters). r.ioc2sys) ahead;
        started = λ e. never e;
        look = λ e. absurd (cc);
      }

  lock_step : LockStep w
  lock_step = record { steps = λ door a e. absurd (cc); value = λ door value e. absurd (cc); who_init = λ n l. refl }

  reset_steps : ResetSteps w
  reset_steps =
      record {
        step = λ door x e. absurd (cc);
        value = λ door x value e. absurd (cc);
        late = λ e. never e;
        diagnostic = λ e. how_many-nil is_unit_write;
        unit = λ e. how_many-nil is_diagnostic_write;
      }

  fresh : IsFresh w
  fresh =
      record {
        pool = none_of is_taken 280 Free refl;
        frames = all_of is_held_frame 64 frame.Held refl;
        phases = all_of is_absent 64 phase.Absent refl;
        wait_high = refl;
        wait_internal = refl;
      }

  fresh_start : FreshStart w
  fresh_start = record { fresh = λ e. never e; init = λ e. never e; off = λ e. fresh; given_up = λ e. never e }

  pub doorbell_first : Doorbell w
  doorbell_first =
      record {
        sound = sound;
        adapter = refl;
        stage = stage_fits;
        rests = rests;
        lock_step = lock_step;
        reset_steps = reset_steps;
        fresh_start = fresh_start;
        init_queues = λ e. never e;
      }
