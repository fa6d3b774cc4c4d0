-- What is kept of the words of a handshake, over the host, the controller's generation, what a read of the Doorbell gives, and the rule's state.
use Rattle.std.proofs.Common.{◌≡◌, ℕ, ◌≤◌, ◌==◌, ◌&&◌, not, Bool, true, false, Option, Some, None, if◌then◌else◌, is_none, is_some, refl, ap, sym, ◌∙◌, subst}
use Rattle.mpi_doorbell.specs.DoorRegisters.{DoorRegisters, doorbell_value, register_value}
use Rattle.mpi_doorbell.specs.HostDoor.{HostDoor}
use Rattle.mpi_doorbell.specs.declared.registers.TheConstants.{DOORBELL}
use Rattle.std.proofs.lemmas.Bool.{eqb-true}
use Rattle.mpt_messages.specs.declared.host_ask.HostAsk.{HostAsk}
use Rattle.mpt_wire.specs.Machine.Causes.{is_resetting}
use Rattle.mpt_wire.specs.Messages.DoorbellWords.{IsTalk, Talk, is_over, value_heard, word_heard}
use Rattle.mpt_rules.specs.declared.stage.Stage.{Stage}
use Rattle.mpt_rules.specs.declared.stage.Stage.TheVariants as stage
use Rattle.mpt_rules.specs.Host.Parts.{Host, host_queue_count}
use Rattle.mpt_rules.specs.World.Counts.{how_many, is_register_write, read_count}
use Rattle.mpt_rules.specs.World.State.{World}
use Rattle.law_facts.specs.DoorAhead.{asked_in, awaits, door_ahead, first_read, is_diagnostic, value_coming}
use Rattle.law_facts.specs.History.{History}
use Rattle.law_facts.specs.Ties.{SaidAt, TalkTied, or_put, register_awaited, talk_with, value_of}
use Rattle.law_locks.specs.Locks.{ask_of_stage}
use Rattle.law_talks.specs.Talking.{TalkGoesOn, TalkStands}

-- a reset that waits for an older value, and one that the controller has begun
abbrev pub waits_of : Host → ℕ → Bool
waits_of x g = (is_resetting x.mode && not (x.asked == g)) && (x.reading && is_none x.machine)

abbrev pub begun_of : Host → ℕ → Bool
begun_of x g = is_resetting x.mode && (x.asked == g)

pub record TalkHolds (q : ℕ) (x : Host) (g v : ℕ) (talk : Talk) (reading : Option ℕ) (n : ℕ) : Type 0 where
  pub reads : x.reading ≡ true → read_count x.out ≡ 0 → is_some reading ≡ true
  pub register : (door : HostDoor) → x.machine ≡ Some door → or_put (first_read x.out) reading ≡ register_awaited (awaits door.stage)
  pub begun : IsTalk q talk
  pub said : (door : HostDoor) (a : HostAsk) → x.machine ≡ Some door → ask_of_stage q x.stage ≡ Some a → SaidAt a door (talk_with talk x.out) (awaits door.stage)
  pub over : ask_of_stage q x.stage ≡ None → waits_of x g ≡ false → is_over (talk_with talk x.out) ≡ true
  pub late : waits_of x g ≡ true → IsTalk q (value_heard (talk_with talk x.out) (or_put (first_read x.out) reading) v)
  pub unit : waits_of x g ≡ true → is_diagnostic x.stage ≡ false → is_over (talk_with talk x.out) ≡ true
  pub asked : is_resetting x.mode ≡ true → 1 ≤ n
  pub none_asked : is_resetting x.mode ≡ false → n ≡ 0
  pub go_on : TalkGoesOn q n talk x.out
  pub quiet : x.machine ≡ None → begun_of x g ≡ true → how_many is_register_write x.out ≡ 0

-- what a read of the Doorbell gives: the value that is on its way, or what the door ahead reads
abbrev pub given : Option ℕ → DoorRegisters → ℕ
given (Some v) door = v
given None door = doorbell_value door

abbrev pub bell_of : World → ℕ
bell_of w = given (value_coming w) (door_ahead w)

-- nothing else is read of a value
pub reads_bell : (w : World) (t : Talk) (r : Option ℕ) → value_heard t r (value_of w (value_coming w) r) ≡ value_heard t r (given (value_coming w) (door_ahead w))
reads_bell w t None = refl
reads_bell w t (Some reg) = by_value (value_coming w)
  where
    by_test : (c : Bool) → (reg == DOORBELL) ≡ c → (let u : Talk = if c then word_heard t (register_value (door_ahead w) reg) else t in let y : Talk = if c then word_heard t (doorbell_value (door_ahead w)) else t in u ≡ y)
    by_test true e = ap (λ n. word_heard t (register_value (door_ahead w) n)) (eqb-true reg DOORBELL e)
    by_test false e = refl

    by_value : (o : Option ℕ) → value_heard t (Some reg) (value_of w o (Some reg)) ≡ value_heard t (Some reg) (given o (door_ahead w))
    by_value (Some v) = refl
    by_value None = by_test (reg == DOORBELL) refl

same_ask : (w : World) (z : Stage) → asked_in w z ≡ ask_of_stage (host_queue_count w.host) z
same_ask w stage.Idle = refl
same_ask w stage.Start = refl
same_ask w stage.StartReset = refl
same_ask w stage.Facts = refl
same_ask w stage.PortFacts = refl
same_ask w stage.Init = refl
same_ask w stage.Look = refl
same_ask w stage.DiagnosticReset = refl
same_ask w stage.UnitReset = refl

abbrev pub TalkOn : ℕ → World → Talk → Option ℕ → ℕ → Type 0
TalkOn q w talk reading n = TalkHolds q w.host w.ioc.generation (given (value_coming w) (door_ahead w)) talk reading n

-- it is what the facts say
pub of_tied : (w : World) (h : History) → TalkTied w h → TalkStands w h → TalkOn (host_queue_count w.host) w h.door.talk h.door.reading h.door.asked
of_tied w h t f =
    record {
      reads = t.reading;
      register = t.register;
      begun = t.begun;
      said = λ d a m e. t.said d a m (same_ask w w.host.stage ∙ e);
      over = λ e n. t.over (same_ask w w.host.stage ∙ e) n;
      late = λ n. subst (IsTalk (host_queue_count w.host)) (reads_bell w (talk_with h.door.talk w.host.out) (or_put (first_read w.host.out) h.door.reading)) (t.late n);
      unit = t.unit;
      asked = t.asked;
      none_asked = t.none_asked;
      go_on = f.go_on;
      quiet = f.quiet;
    }

pub to_tied : (w : World) (h : History) → TalkOn (host_queue_count w.host) w h.door.talk h.door.reading h.door.asked → TalkTied w h
to_tied w h t =
    record {
      reading = t.reads;
      register = t.register;
      begun = t.begun;
      said = λ d a m e. t.said d a m (sym (same_ask w w.host.stage) ∙ e);
      over = λ e n. t.over (sym (same_ask w w.host.stage) ∙ e) n;
      late = λ n. subst (IsTalk (host_queue_count w.host)) (sym (reads_bell w (talk_with h.door.talk w.host.out) (or_put (first_read w.host.out) h.door.reading))) (t.late n);
      unit = t.unit;
      asked = t.asked;
      none_asked = t.none_asked;
    }
