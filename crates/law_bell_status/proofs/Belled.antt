-- What is kept of the interrupt status, over fields: of the host, of the door, of the line down and of the values on their way.
use Rattle.std.proofs.Common.{◌≡◌, ℕ, ◌≤◌, ◌==◌, ◌&&◌, ◌||◌, not, Bool, true, false, List, [], ◌∷◌, Option, Some, None, refl}
use Rattle.mpi_doorbell.specs.Handshake.{Handshake, Idle, Collects, Asked, Replies, is_idle, is_replying}
use Rattle.mpi_doorbell.specs.HostDoor.{HostDoor, register_of}
use Rattle.mpi_doorbell.specs.declared.registers.TheConstants.{DOORBELL_USED, HOST_INTERRUPT_STATUS}
use Rattle.mpi_doorbell.specs.declared.stage.Reading.{Reading}
use Rattle.mpi_doorbell.specs.declared.stage.Stage.TheVariants as door_stage
use Rattle.mpt_wire.specs.Machine.Causes.{is_up}
use Rattle.mpt_wire.specs.Messages.Registers.{Bell, has_bit}
use Rattle.mpt_trace.specs.declared.host_state.HostState.{HostState}
use Rattle.mpt_trace.specs.declared.item.Down.{Down}
use Rattle.mpt_rules.specs.Host.Takes.{is_starting}
use Rattle.mpt_rules.specs.Ioc.Replies.{outbox_of}
use Rattle.mpt_rules.specs.World.Counts.{how_many}
use Rattle.mpt_rules.specs.World.Lines.{down_line}
use Rattle.mpt_rules.specs.World.State.{World}
use Rattle.law_facts.specs.DoorAhead.{first_value, value_coming}
use Rattle.law_facts.specs.Ties.{BellTied, ReadsAre, is_status_write}
use Rattle.law_bell_status.specs.Bells.{BellStands, DoorFits, IsHeard, is_talk_write, is_word_write}
use Rattle.law_bell_status.proofs.Rung.{Rung}

pub record BellHolds (machine : Option HostDoor) (mode : HostState) (h : Handshake) (status : Bool) (line : List Down) (coming outbox : Option ℕ) (b : Bell) : Type 0 where
  pub rung : Rung h status b
  pub used : is_replying h ≡ true → ((is_starting mode || is_up mode) || not (how_many is_status_write line == 0)) ≡ true → b.used ≡ true
  pub ended : (is_idle h && status) ≡ true → 1 ≤ how_many is_status_write line → b.used ≡ false
  pub reads : ReadsAre outbox b.reads
  pub value : (value : ℕ) → (is_starting mode || is_up mode) ≡ true → is_replying h ≡ true → b.reads ≡ None ∷ [] → outbox ≡ Some value → has_bit value DOORBELL_USED ≡ true
  pub fits : DoorFits h status
  pub one : how_many is_talk_write line ≤ 1
  pub opens : (is_idle h && status) ≡ true → how_many is_word_write line ≡ 0
  pub heard : (d : HostDoor) (x : Reading) (v : ℕ) → machine ≡ Some d → d.stage ≡ door_stage.Awaits x → (register_of x == HOST_INTERRUPT_STATUS) ≡ false → coming ≡ Some v → IsHeard b v

abbrev pub BellOn : World → Bell → Type 0
BellOn w b = BellHolds w.host.machine w.host.mode w.ioc.door.handshake w.ioc.door.ioc2sys (down_line w) (value_coming w) (first_value (outbox_of w.ioc 0)) b

-- it is what the facts say
pub of_facts : (w : World) (b : Bell) → BellTied w b → BellStands w b → BellOn w b
of_facts w b t f =
    record {
      rung = record { rings = t.rings; dwords = t.dwords; replying = t.replying };
      used = t.used;
      ended = λ e. t.ended (idle_unreplying w.ioc.door.handshake w.ioc.door.ioc2sys e) (answering w.ioc.door.handshake w.ioc.door.ioc2sys e);
      reads = t.reads;
      value = t.value;
      fits = f.fits;
      one = f.one;
      opens = f.opens;
      heard = f.heard;
    }
  where
    idle_unreplying : (h : Handshake) (s : Bool) → (is_idle h && s) ≡ true → is_replying h ≡ false
    idle_unreplying Idle s e = refl
    idle_unreplying (Collects m x) s e = refl
    idle_unreplying (Asked x) s e = refl
    idle_unreplying (Replies x) s e = absurd (cc)

    answering : (h : Handshake) (s : Bool) → (is_idle h && s) ≡ true → (is_replying h || (is_idle h && s)) ≡ true
    answering Idle s e = e
    answering (Collects m x) s e = e
    answering (Asked x) s e = e
    answering (Replies x) s e = refl

pub to_tied : (w : World) (b : Bell) → BellOn w b → BellTied w b
to_tied w b t =
    record {
      rings = t.rung.rings;
      dwords = t.rung.dwords;
      replying = t.rung.replying;
      used = t.used;
      ended = λ e a. t.ended (second (is_replying w.ioc.door.handshake) (is_idle w.ioc.door.handshake && w.ioc.door.ioc2sys) e a);
      reads = t.reads;
      value = t.value;
    }
  where
    second : (a c : Bool) → a ≡ false → (a || c) ≡ true → c ≡ true
    second true c e f = absurd (cc)
    second false c e f = f

pub to_stands : (w : World) (b : Bell) → BellOn w b → BellStands w b
to_stands w b t = record { fits = t.fits; one = t.one; opens = t.opens; heard = t.heard }
