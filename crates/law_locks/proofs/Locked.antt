-- What is kept of handshakes, over fields: of the host, of the door ahead, and of the value on its way.
use Rattle.std.proofs.Common.{◌≡◌, ℕ, ◌==◌, ◌&&◌, ◌||◌, ◌⊎◌, inl, inr, not, Bool, true, false, List, ◌++◌, Option, Some, None, is_none, refl, ap, sym, ◌∙◌, subst}
use Rattle.mpi_doorbell.specs.DoorRegisters.{DoorRegisters, register_value}
use Rattle.mpi_doorbell.specs.Handshake.{Idle}
use Rattle.mpi_doorbell.specs.HostDoor.{HostDoor, register_of}
use Rattle.mpi_doorbell.specs.declared.stage.Reading.{Reading}
use Rattle.mpi_doorbell.specs.declared.stage.Reading.TheVariants as reading
use Rattle.mpi_doorbell.specs.declared.stage.Stage.TheVariants as door_stage
use Rattle.mpi_doorbell.specs.declared.registers.TheConstants.{DOORBELL, HOST_DIAGNOSTIC, HOST_INTERRUPT_STATUS}
use Rattle.mpt_messages.specs.declared.host_ask.HostAsk.{HostAsk}
use Rattle.mpt_wire.specs.Messages.DoorbellWords.{asked_bytes, replied_bytes}
use Rattle.mpt_wire.specs.Machine.Causes.{is_resetting}
use Rattle.mpt_trace.specs.declared.host_state.HostState.{HostState}
use Rattle.mpt_trace.specs.declared.item.Down.{Down}
use Rattle.mpt_rules.specs.declared.stage.Stage.{Stage}
use Rattle.mpt_rules.specs.declared.stage.Stage.TheVariants as stage
use Rattle.mpt_rules.specs.Host.Parts.{Host}
use Rattle.mpt_rules.specs.Ioc.Parts.{Ioc}
use Rattle.law_facts.specs.DoorAhead.{is_look, is_unit, written_ahead}
use Rattle.law_doors.proofs.Ahead.{core}
use Rattle.law_locks.specs.Locks.{Collected, HasAnswered, HeardOut, IsHearing, IsSending, IsUnasked, IsUnopened, ShakesAt, ShakesStand, ask_of_stage, reply_due}

-- ---- the reply index is nothing to a handshake

module _ (r s : DoorRegisters) (e : core r ≡ core s) where
  unasked_alike : IsUnasked r → IsUnasked s
  unasked_alike u = record { state = sym (ap (λ (c : DoorRegisters). c.state) e) ∙ u.state; who_init = sym (ap (λ (c : DoorRegisters). c.who_init) e) ∙ u.who_init }

  module _ (q : ℕ) (a : HostAsk) (d : HostDoor) where
    unopened_alike : IsUnopened a d r → IsUnopened a d s
    unopened_alike p = record { unsent = p.unsent; reply = p.reply; handshake = sym (ap (λ (c : DoorRegisters). c.handshake) e) ∙ p.handshake; status = sym (ap (λ (c : DoorRegisters). c.ioc2sys) e) ∙ p.status; unasked = unasked_alike p.unasked }

    sending_alike : IsSending a d r → IsSending a d s
    sending_alike p = record { reply = p.reply; collected = subst (Collected (asked_bytes a) d.unsent) (ap (λ (c : DoorRegisters). c.handshake) e) p.collected; unasked = unasked_alike p.unasked }

    hearing_alike : IsHearing q a d r → IsHearing q a d s
    hearing_alike p =
        record {
          unsent = p.unsent;
          heard = subst (HeardOut (replied_bytes (reply_due q a)) d.reply) (ap (λ (c : DoorRegisters). c.handshake) e) p.heard;
          interrupt = sym (ap (λ (c : DoorRegisters). c.ioc2sys) e) ∙ p.interrupt;
          answered = record { state = sym (ap (λ (c : DoorRegisters). c.state) e) ∙ p.answered.state; who_init = sym (ap (λ (c : DoorRegisters). c.who_init) e) ∙ p.answered.who_init };
        }

    pub shakes_alike : (x : Reading) → ShakesAt q a d r x → ShakesAt q a d s x
    shakes_alike reading.Used p = unopened_alike p
    shakes_alike reading.LeftOver p = unopened_alike p
    shakes_alike reading.Opened p = (sending_alike p.0, sym (ap (λ (c : DoorRegisters). c.ioc2sys) e) ∙ p.1)
    shakes_alike reading.Taken (inl p) = inl (sending_alike p)
    shakes_alike reading.Taken (inr p) = inr (hearing_alike p)
    shakes_alike reading.News p = hearing_alike p
    shakes_alike reading.Word p = hearing_alike p
    shakes_alike reading.Unlocked p = absurd p
    shakes_alike reading.ResetOver p = absurd p
    shakes_alike (reading.State k) p = absurd p
    shakes_alike reading.UnitReset p = absurd p
    shakes_alike reading.Doorbell p = absurd p

  at_doorbell : register_value r DOORBELL ≡ register_value s DOORBELL
  at_doorbell = ap (λ (c : DoorRegisters). register_value c DOORBELL) e

  at_diagnostic : register_value r HOST_DIAGNOSTIC ≡ register_value s HOST_DIAGNOSTIC
  at_diagnostic = ap (λ (c : DoorRegisters). register_value c HOST_DIAGNOSTIC) e

  at_status : register_value r HOST_INTERRUPT_STATUS ≡ register_value s HOST_INTERRUPT_STATUS
  at_status = ap (λ (c : DoorRegisters). register_value c HOST_INTERRUPT_STATUS) e

  pub reads_alike : (x : Reading) → register_value r (register_of x) ≡ register_value s (register_of x)
  reads_alike reading.Used = at_doorbell
  reads_alike reading.LeftOver = at_status
  reads_alike reading.Opened = at_status
  reads_alike reading.Taken = at_status
  reads_alike reading.News = at_status
  reads_alike reading.Word = at_doorbell
  reads_alike reading.Unlocked = at_diagnostic
  reads_alike reading.ResetOver = at_diagnostic
  reads_alike (reading.State k) = at_doorbell
  reads_alike reading.UnitReset = at_status
  reads_alike reading.Doorbell = at_doorbell

-- ---- what is kept

-- where the door rests, over fields
abbrev pub rests_of : Option HostDoor → HostState → Stage → Bool → ℕ → ℕ → Bool
rests_of machine mode s reading asked generation =
    (is_none machine && not ((is_resetting mode && not (asked == generation)) && (reading && is_none machine))) || (is_look s || ((is_resetting mode && (asked == generation)) || is_unit s))

pub record LockHolds (q : ℕ) (machine : Option HostDoor) (mode : HostState) (s : Stage) (rests : Bool) (door : DoorRegisters) (coming : Option ℕ) : Type 0 where
  pub shakes : ShakesStand q machine mode s door coming
  pub handshake : rests ≡ true → door.handshake ≡ Idle
  pub status : rests ≡ true → door.ioc2sys ≡ false

abbrev pub LockOn : ℕ → Host → Ioc → List Down → Option ℕ → Type 0
LockOn q x i line coming = LockHolds q x.machine x.mode x.stage (rests_of x.machine x.mode x.stage x.reading x.asked i.generation) (written_ahead i line).door coming

-- of a door that differs in the index at most
pub lock_alike : (q : ℕ) (machine : Option HostDoor) (mode : HostState) (s : Stage) (rests : Bool) (r t : DoorRegisters) (coming : Option ℕ) → core r ≡ core t → LockHolds q machine mode s rests r coming → LockHolds q machine mode s rests t coming
lock_alike q machine mode s rests r t coming e p =
    record {
      shakes = record { stands = λ d a x m f g. shakes_alike r t e q a d x (p.shakes.stands d a x m f g); value = λ d x v m n g c. p.shakes.value d x v m n g c ∙ reads_alike r t e x };
      handshake = λ c. sym (ap (λ (z : DoorRegisters). z.handshake) e) ∙ p.handshake c;
      status = λ c. sym (ap (λ (z : DoorRegisters). z.ioc2sys) e) ∙ p.status c;
    }

no_door : {T : Type 0} (d : HostDoor) → None ≡ Some d → T
no_door d e = absurd (cc)

some_door : (c d : HostDoor) → Some c ≡ Some d → c ≡ d
some_door c d e = cc

same_ask : (a c : HostAsk) → Some a ≡ Some c → a ≡ c
same_ask a c e = cc

same_reading : (x y : Reading) → door_stage.Awaits x ≡ door_stage.Awaits y → x ≡ y
same_reading x y e = cc

none_some : {T : Type 0} (v : ℕ) → None ≡ Some v → T
none_some v e = absurd (cc)

-- without a machine
pub unmanned : (q : ℕ) (machine : Option HostDoor) (mode : HostState) (s : Stage) (door : DoorRegisters) (coming : Option ℕ) → machine ≡ None → ShakesStand q machine mode s door coming
unmanned q machine mode s door coming n = record { stands = λ d a x m f g. no_door d (sym n ∙ m); value = λ d x v m r g c. no_door d (sym n ∙ m) }

-- nothing is asked, and no value is on its way
pub unasking : (q : ℕ) (machine : Option HostDoor) (mode : HostState) (s : Stage) (door : DoorRegisters) (coming : Option ℕ) → ask_of_stage q s ≡ None → coming ≡ None → ShakesStand q machine mode s door coming
unasking q machine mode s door coming n c = record { stands = λ d a x m f g. absurd (none_ask a (sym n ∙ f)); value = λ d x v m r g e. none_some v (sym c ∙ e) }
  where
    none_ask : (a : HostAsk) → None ≡ Some a → ⊥
    none_ask a e = cc

-- a machine that waits, while no value is on its way
pub manned : (q : ℕ) (d : HostDoor) (mode : HostState) (s : Stage) (door : DoorRegisters) (coming : Option ℕ) (a : HostAsk) (x : Reading) → ask_of_stage q s ≡ Some a → d.stage ≡ door_stage.Awaits x → ShakesAt q a d door x → coming ≡ None → ShakesStand q (Some d) mode s door coming
manned q d mode s door coming a x k at p c =
    record {
      stands = λ d2 a2 x2 m f g.
          let e : d ≡ d2 = some_door d d2 m in
          let y : x ≡ x2 = same_reading x x2 (sym at ∙ (ap (λ (z : HostDoor). z.stage) e ∙ g)) in
          let b : a ≡ a2 = same_ask a a2 (sym k ∙ f) in
          subst (λ z. ShakesAt q a2 d2 door z) y (subst (λ z. ShakesAt q a2 z door x) e (subst (λ z. ShakesAt q z d door x) b p));
      value = λ d2 x2 v m r g e. none_some v (sym c ∙ e);
    }
