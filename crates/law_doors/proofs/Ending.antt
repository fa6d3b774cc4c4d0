-- How a handshake ends: with a word that is its last, whereupon its interrupt is cleared; no message is asked then.
use Rattle.std.proofs.Common.{◌≡◌, ℕ, zero, suc, ◌==◌, ◌||◌, Bool, true, false, if◌then◌else◌, List, [], ◌∷◌, length, drop, Option, Some, None, refl, ap, sym, ◌∙◌, subst}
use Rattle.byteorder.specs.Endian.{little_number}
use Rattle.mpi_doorbell.specs.Bytes.{has, padded}
use Rattle.mpi_doorbell.specs.DoorRegisters.{DoorRegisters, is_fault, quietly, register_written, status_written}
use Rattle.mpi_doorbell.specs.HostDoor.{HostDoor, Stepped, reads, refuses, register_of, writes}
use Rattle.mpi_doorbell.specs.HostHandshake.{hears_end, is_bad_length, is_whole, opening_dword, opens, sends, takes_word, with_word}
use Rattle.mpi_doorbell.specs.HostSteps.{hears, hears_reading, next_step}
use Rattle.mpi_doorbell.specs.Meeting.{AsksAndEnds, LeadsIn, LeadsTo, Talk, effect_on, round, step_taken, value_given}
use Rattle.mpi_doorbell.specs.declared.effect.Effect.{Effect}
use Rattle.mpi_doorbell.specs.declared.effect.Effect.TheVariants as effect
use Rattle.mpi_doorbell.specs.declared.registers.TheConstants.{DOORBELL, DOORBELL_USED, HOST_INTERRUPT_STATUS, IOC2SYS_DB_STATUS, SYS2IOC_DB_STATUS}
use Rattle.mpi_doorbell.specs.declared.stage.Reading.{Reading}
use Rattle.mpi_doorbell.specs.declared.stage.Reading.TheVariants as reading
use Rattle.mpi_doorbell.specs.declared.stage.Stage.TheVariants.{Reads, Awaits, Opens, Finishes, Ended}
use Rattle.mpi_doorbell.specs.declared.step.DoorStep.{DoorStep}
use Rattle.mpi_doorbell.specs.declared.step.DoorStep.TheVariants as step
use Rattle.mpt_trace.specs.declared.item.Down.{Down}
use Rattle.mpt_trace.specs.declared.item.Down.TheVariants as down
use Rattle.mpt_rules.specs.Host.Doorbell.{turn_from, next_turn}
use Rattle.law_facts.specs.DoorAhead.{is_handshake_reading}
use Rattle.law_facts.specs.Words.{others}

-- the last write of a handshake
abbrev pub clears_last : HostDoor → Stepped
clears_last d = writes d Finishes HOST_INTERRUPT_STATUS 0

-- ---- what a turn that is done began with

module _ (d : HostDoor) (v count : ℕ) (bytes : List ℕ) where
  abbrev EndsSo : Stepped → Type 0
  EndsSo s = (turn_from 8 s.door s.step).step ≡ step.Done count bytes → (s ≡ clears_last d) × (has v DOORBELL_USED ≡ false)

  either : (b : Bool) (x y : Stepped) → EndsSo x → EndsSo y → EndsSo (if b then x else y)
  either true x y p q = p
  either false x y p q = q

  reads_on : (e : HostDoor) (x : Reading) → EndsSo (reads e x)
  unfolding turn_from
  reads_on e x q = let z : step.Read (register_of x) ≡ step.Done count bytes = q in absurd (cc)

  refused : (e : HostDoor) (at value : ℕ) → EndsSo (refuses e at value)
  unfolding turn_from
  refused e at value q = let z : step.Refused at value ≡ step.Done count bytes = q in absurd (cc)

  -- a write, and then a read
  writes_on : (e : HostDoor) (x : Reading) (reg value : ℕ) → EndsSo (writes e (Reads x) reg value)
  unfolding turn_from
  writes_on e x reg value q = let z : step.Read (register_of x) ≡ step.Done count bytes = q in absurd (cc)

  opens_on : (e : HostDoor) → EndsSo (writes e Opens HOST_INTERRUPT_STATUS 0)
  unfolding turn_from
  opens_on e q = let z : step.Read (register_of reading.Opened) ≡ step.Done count bytes = q in absurd (cc)

  sends_on : EndsSo (sends d)
  sends_on = either (length d.unsent == 0) (reads d reading.News) (writes (record d { unsent = drop 4 d.unsent }) (Reads reading.Taken) DOORBELL (little_number 4 d.unsent)) (reads_on d reading.News) (writes_on (record d { unsent = drop 4 d.unsent }) reading.Taken DOORBELL (little_number 4 d.unsent))

  unused : (b : Bool) → has v DOORBELL_USED ≡ b → EndsSo (if b then reads d reading.Word else clears_last d)
  unused true e = reads_on d reading.Word
  unused false e = λ q. (refl, e)

  ends_so : (x : Reading) → is_handshake_reading x ≡ true → EndsSo (hears_reading d x v)
  ends_so reading.Used e = either (has v DOORBELL_USED) (refuses d 1 v) (reads d reading.LeftOver) (refused d 1 v) (reads_on d reading.LeftOver)
  ends_so reading.LeftOver e = either (has v IOC2SYS_DB_STATUS) (writes d Opens HOST_INTERRUPT_STATUS 0) (opens d) (opens_on d) (writes_on d reading.Opened DOORBELL (opening_dword d.unsent))
  ends_so reading.Opened e = either (has v IOC2SYS_DB_STATUS) (writes d (Reads reading.Taken) HOST_INTERRUPT_STATUS 0) (reads d reading.Opened) (writes_on d reading.Taken HOST_INTERRUPT_STATUS 0) (reads_on d reading.Opened)
  ends_so reading.Taken e = either (has v SYS2IOC_DB_STATUS) (reads d reading.Taken) (sends d) (reads_on d reading.Taken) sends_on
  ends_so reading.News e = either (has v IOC2SYS_DB_STATUS) (reads d reading.Word) (reads d reading.News) (reads_on d reading.Word) (reads_on d reading.News)
  ends_so reading.Word e =
      either (is_whole d.reply) (hears_end d v) (takes_word d v)
      (unused (has v DOORBELL_USED) refl)
      (either (is_bad_length d.reply v) (refuses d 6 v) (writes (with_word d v) (Reads reading.News) HOST_INTERRUPT_STATUS 0) (refused d 6 v) (writes_on (with_word d v) reading.News HOST_INTERRUPT_STATUS 0))
  ends_so reading.Doorbell e = absurd (cc)
  ends_so reading.Unlocked e = absurd (cc)
  ends_so reading.ResetOver e = absurd (cc)
  ends_so (reading.State k) e = absurd (cc)
  ends_so reading.UnitReset e = absurd (cc)

  -- the Doorbell isn't used any more, and the interrupt is cleared
  pub ends_by_clearing : (x : Reading) → d.stage ≡ Awaits x → is_handshake_reading x ≡ true → (next_turn d (Some v)).step ≡ step.Done count bytes → (next_step d (Some v) ≡ clears_last d) × (has v DOORBELL_USED ≡ false)
  ends_by_clearing x at e = subst (λ s. EndsSo (hears d s v)) (sym at) (ends_so x e)

-- that is its one write
pub cleared_writes : (d : HostDoor) (v : ℕ) → next_step d (Some v) ≡ clears_last d → (next_turn d (Some v)).writes ≡ down.Write HOST_INTERRUPT_STATUS 0 ∷ []
unfolding turn_from
cleared_writes d v e = ap (λ (s : Stepped). (turn_from 8 s.door s.step).writes) e

-- ---- a handshake's machine writes the Doorbell and clears interrupts

abbrev pub is_shaking : Down → Bool
is_shaking (down.Write reg value) = (reg == DOORBELL) || (reg == HOST_INTERRUPT_STATUS)
is_shaking _ = false

module _ (d : HostDoor) where
  abbrev WritesSo : Stepped → Type 0
  WritesSo s = others is_shaking (turn_from 8 s.door s.step).writes ≡ 0

  one_of : (b : Bool) (x y : Stepped) → WritesSo x → WritesSo y → WritesSo (if b then x else y)
  one_of true x y p q = p
  one_of false x y p q = q

  none_read : (e : HostDoor) (x : Reading) → WritesSo (reads e x)
  unfolding turn_from others
  none_read e x = refl

  none_refused : (e : HostDoor) (at value : ℕ) → WritesSo (refuses e at value)
  unfolding turn_from others
  none_refused e at value = refl

  one_dword : (e : HostDoor) (x : Reading) (value : ℕ) → WritesSo (writes e (Reads x) DOORBELL value)
  unfolding turn_from others
  one_dword e x value = refl

  one_clear : (e : HostDoor) (x : Reading) (value : ℕ) → WritesSo (writes e (Reads x) HOST_INTERRUPT_STATUS value)
  unfolding turn_from others
  one_clear e x value = refl

  both : (e : HostDoor) → WritesSo (writes e Opens HOST_INTERRUPT_STATUS 0)
  unfolding turn_from others
  both e = refl

  last_clear : (e : HostDoor) → WritesSo (clears_last e)
  unfolding turn_from others
  last_clear e = refl

  sent_so : WritesSo (sends d)
  sent_so = one_of (length d.unsent == 0) (reads d reading.News) (writes (record d { unsent = drop 4 d.unsent }) (Reads reading.Taken) DOORBELL (little_number 4 d.unsent)) (none_read d reading.News) (one_dword (record d { unsent = drop 4 d.unsent }) reading.Taken (little_number 4 d.unsent))

  writes_so : (x : Reading) (v : ℕ) → is_handshake_reading x ≡ true → WritesSo (hears_reading d x v)
  writes_so reading.Used v e = one_of (has v DOORBELL_USED) (refuses d 1 v) (reads d reading.LeftOver) (none_refused d 1 v) (none_read d reading.LeftOver)
  writes_so reading.LeftOver v e = one_of (has v IOC2SYS_DB_STATUS) (writes d Opens HOST_INTERRUPT_STATUS 0) (opens d) (both d) (one_dword d reading.Opened (opening_dword d.unsent))
  writes_so reading.Opened v e = one_of (has v IOC2SYS_DB_STATUS) (writes d (Reads reading.Taken) HOST_INTERRUPT_STATUS 0) (reads d reading.Opened) (one_clear d reading.Taken 0) (none_read d reading.Opened)
  writes_so reading.Taken v e = one_of (has v SYS2IOC_DB_STATUS) (reads d reading.Taken) (sends d) (none_read d reading.Taken) sent_so
  writes_so reading.News v e = one_of (has v IOC2SYS_DB_STATUS) (reads d reading.Word) (reads d reading.News) (none_read d reading.Word) (none_read d reading.News)
  writes_so reading.Word v e =
      one_of (is_whole d.reply) (hears_end d v) (takes_word d v)
      (one_of (has v DOORBELL_USED) (reads d reading.Word) (clears_last d) (none_read d reading.Word) (last_clear d))
      (one_of (is_bad_length d.reply v) (refuses d 6 v) (writes (with_word d v) (Reads reading.News) HOST_INTERRUPT_STATUS 0) (none_refused d 6 v) (one_clear (with_word d v) reading.News 0))
  writes_so reading.Doorbell v e = absurd (cc)
  writes_so reading.Unlocked v e = absurd (cc)
  writes_so reading.ResetOver v e = absurd (cc)
  writes_so (reading.State k) v e = absurd (cc)
  writes_so reading.UnitReset v e = absurd (cc)

  pub shaking_writes : (x : Reading) (v : ℕ) → d.stage ≡ Awaits x → is_handshake_reading x ≡ true → others is_shaking (next_turn d (Some v)).writes ≡ 0
  shaking_writes x v at e = subst (λ s. WritesSo (hears d s v)) (sym at) (writes_so x v e)

-- ---- no message is asked any more

module _ (message reply : List ℕ) where
  never_ended : (n : ℕ) (e : HostDoor) (r : DoorRegisters) → LeadsIn (AsksAndEnds message reply) n (record { host = record e { stage = Ended }; value = None; registers = r }) → ⊥
  never_ended zero e r h = let q : effect.None ≡ effect.Asked (length message) (padded message) = h.asked in cc
  never_ended (suc n) e r h = never_ended n e r h.1

  never_finished : (n : ℕ) (e : HostDoor) (r : DoorRegisters) → LeadsIn (AsksAndEnds message reply) n (record { host = record e { stage = Finishes }; value = None; registers = r }) → ⊥
  never_finished zero e r h = let q : effect.None ≡ effect.Asked (length message) (padded message) = h.asked in cc
  never_finished (suc n) e r h = never_ended n e r h.1

  clears_quietly : (r : DoorRegisters) → (register_written r HOST_INTERRUPT_STATUS 0).effect ≡ effect.None
  clears_quietly r = by_fault (is_fault r.state)
    where
      by_fault : (b : Bool) → (if b then quietly r else quietly (status_written r)).effect ≡ effect.None
      by_fault true = refl
      by_fault false = refl

  pub never_cleared : (n : ℕ) (d : HostDoor) (v : ℕ) (r : DoorRegisters) → next_step d (Some v) ≡ clears_last d → LeadsIn (AsksAndEnds message reply) n (record { host = d; value = Some v; registers = r }) → ⊥
  never_cleared zero d v r e h =
      let q : effect.Asked (length message) (padded message) ≡ effect.None = sym h.asked ∙ (ap (λ (k : Stepped). (step_taken k.step r).effect) e ∙ clears_quietly r) in cc
  never_cleared (suc n) d v r e h =
      let t : round (record { host = d; value = Some v; registers = r }) ≡ record { host = record d { stage = Finishes }; value = None; registers = (register_written r HOST_INTERRUPT_STATUS 0).registers } =
      ap (λ (k : Stepped). let x : Talk = record { host = k.door; value = value_given k.step r; registers = (step_taken k.step r).registers } in x) e in
      never_finished n d (register_written r HOST_INTERRUPT_STATUS 0).registers (subst (LeadsIn (AsksAndEnds message reply) n) t h.1)
