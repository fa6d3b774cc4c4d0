-- A turn of a handshake as far as the reply queues go: it asks what the host has to say, or nothing.
use Rattle.std.proofs.Common.{◌≡◌, ℕ, zero, suc, ◌==◌, ◌||◌, Bool, true, false, if◌then◌else◌, List, [], ◌∷◌, bit_and, bit_or, drop, length, slice_get, Option, Some, None, refl, ap, sym, ◌∙◌, subst, arith}
use Rattle.byteorder.specs.Endian.{little_bytes, little_number}
use Rattle.mpi_doorbell.specs.Bytes.{has, padded}
use Rattle.mpi_doorbell.specs.DoorRegisters.{register_written}
use Rattle.mpi_doorbell.specs.HostDoor.{HostDoor, Stepped, finishes, reads, refuses, state_step, writes}
use Rattle.mpi_doorbell.specs.HostHandshake.{hears_end, is_bad_length, is_whole, opening_dword, opens, sends, takes_word, with_word}
use Rattle.mpi_doorbell.specs.HostReset.{reset_keys, without, writes_key_or_reads}
use Rattle.mpi_doorbell.specs.HostSteps.{acts, hears, hears_reading, next_step}
use Rattle.mpi_doorbell.specs.Meeting.{AsksAndEnds, IsDoneWith, LeadsIn, Talk, round, step_taken, value_given}
use Rattle.mpi_doorbell.specs.declared.effect.Effect.TheVariants as effect
use Rattle.mpi_doorbell.specs.declared.registers.TheConstants.{DIAG_HOLD_IOC_RESET, DIAG_RESET_ADAPTER, DIAG_WRITE_ENABLE, DOORBELL, DOORBELL_USED, HOST_DIAGNOSTIC, HOST_INTERRUPT_STATUS, IOC2SYS_DB_STATUS, IOC_STATE_FAULT, IOC_STATE_MASK, IOC_STATE_OPERATIONAL, IOC_STATE_READY, SYS2IOC_DB_STATUS, WRITE_SEQUENCE}
use Rattle.mpi_doorbell.specs.declared.stage.Reading.{Reading}
use Rattle.mpi_doorbell.specs.declared.stage.Reading.TheVariants as reading
use Rattle.mpi_doorbell.specs.declared.stage.ResetKind.TheVariants as kind
use Rattle.mpi_doorbell.specs.declared.stage.Stage.{Stage as DoorStage}
use Rattle.mpi_doorbell.specs.declared.stage.Stage.TheVariants.{Awaits, Ended, Finishes, Locks, Opens, Reads, ResetsUnit, WritesKey}
use Rattle.mpi_doorbell.specs.declared.step.DoorStep.{DoorStep}
use Rattle.mpi_doorbell.specs.declared.step.DoorStep.TheVariants as step
use Rattle.mpt_messages.specs.declared.host_ask.HostAsk.{HostAsk}
use Rattle.mpt_wire.specs.Messages.DoorbellWords.{asked_bytes}
use Rattle.mpt_rules.specs.Host.Doorbell.{turn_from}
use Rattle.mpt_rules.specs.Ioc.Parts.{Ioc}
use Rattle.law_facts.specs.DoorAhead.{does_still, writes_still, written_ahead}
use Rattle.law_moves.proofs.Registers.{writes_are}
use Rattle.law_starts.proofs.QueuesTurns.{AsksFor, QueuesIn, asks_so, quietly_written}

-- ---- behind a dword the machine reads

abbrev DwordThenReads : Stepped → Type 0
DwordThenReads s = (value : ℕ) → s.step ≡ step.Write DOORBELL value → (x : Reading) × (s.door.stage ≡ Reads x)

module _ (d : HostDoor) where
  either : (b : Bool) (x y : Stepped) → DwordThenReads x → DwordThenReads y → DwordThenReads (if b then x else y)
  either true x y p q = p
  either false x y p q = q

  refused : (at n : ℕ) → DwordThenReads (refuses d at n)
  refused at n value e = absurd (cc)

  read_on : (x : Reading) → DwordThenReads (reads d x)
  read_on x value e = absurd (cc)

  finished : (bytes : List ℕ) → DwordThenReads (finishes d bytes)
  finished bytes value e = absurd (cc)

  -- a write of another register
  other : (next : DoorStage) (reg n : ℕ) → (reg == DOORBELL) ≡ false → DwordThenReads (writes d next reg n)
  other next reg n z value e = absurd (apart (ap of_step e))
    where
      of_step : DoorStep → ℕ
      of_step (step.Write r v) = r
      of_step (step.Read r) = 0
      of_step (step.Done count bytes) = 0
      of_step (step.Refused at v) = 0

      apart : reg ≡ DOORBELL → ⊥
      apart q = let c : true ≡ false = sym (ap (λ m. m == DOORBELL) q) ∙ z in cc

  dword : (x : Reading) (n : ℕ) (e : HostDoor) → DwordThenReads (writes e (Reads x) DOORBELL n)
  dword x n e value q = (x, refl)

  heard : (x : Reading) (v : ℕ) → DwordThenReads (hears_reading d x v)
  heard reading.Used v = either (has v DOORBELL_USED) (refuses d 1 v) (reads d reading.LeftOver) (refused 1 v) (read_on reading.LeftOver)
  heard reading.LeftOver v = either (has v IOC2SYS_DB_STATUS) (writes d Opens HOST_INTERRUPT_STATUS 0) (opens d) (other Opens HOST_INTERRUPT_STATUS 0 refl) (dword reading.Opened (opening_dword d.unsent) d)
  heard reading.Opened v = either (has v IOC2SYS_DB_STATUS) (writes d (Reads reading.Taken) HOST_INTERRUPT_STATUS 0) (reads d reading.Opened) (other (Reads reading.Taken) HOST_INTERRUPT_STATUS 0 refl) (read_on reading.Opened)
  heard reading.Taken v =
      either (has v SYS2IOC_DB_STATUS) (reads d reading.Taken) (sends d) (read_on reading.Taken)
      (either (length d.unsent == 0) (reads d reading.News) (writes (record d { unsent = drop 4 d.unsent }) (Reads reading.Taken) DOORBELL (little_number 4 d.unsent)) (read_on reading.News) (dword reading.Taken (little_number 4 d.unsent) (record d { unsent = drop 4 d.unsent })))
  heard reading.News v = either (has v IOC2SYS_DB_STATUS) (reads d reading.Word) (reads d reading.News) (read_on reading.Word) (read_on reading.News)
  heard reading.Word v =
      either (is_whole d.reply) (hears_end d v) (takes_word d v)
      (either (has v DOORBELL_USED) (reads d reading.Word) (writes d Finishes HOST_INTERRUPT_STATUS 0) (read_on reading.Word) (other Finishes HOST_INTERRUPT_STATUS 0 refl))
      (either (is_bad_length d.reply v) (refuses d 6 v) (writes (with_word d v) (Reads reading.News) HOST_INTERRUPT_STATUS 0) (refused 6 v) (λ value e. (reading.News, refl)))
  heard reading.Unlocked v = either (has v DIAG_WRITE_ENABLE) (writes d (Reads reading.ResetOver) HOST_DIAGNOSTIC (bit_or v DIAG_RESET_ADAPTER)) (refuses d 21 v) (other (Reads reading.ResetOver) HOST_DIAGNOSTIC (bit_or v DIAG_RESET_ADAPTER) refl) (refused 21 v)
  heard reading.ResetOver v = either (has v DIAG_RESET_ADAPTER) (reads d reading.ResetOver) (writes d Locks HOST_DIAGNOSTIC (without v DIAG_HOLD_IOC_RESET)) (read_on reading.ResetOver) (other Locks HOST_DIAGNOSTIC (without v DIAG_HOLD_IOC_RESET) refl)
  heard (reading.State k) v =
      either (bit_and v IOC_STATE_MASK == IOC_STATE_READY) (finishes d []) (if (bit_and v IOC_STATE_MASK == IOC_STATE_FAULT) || (bit_and v IOC_STATE_MASK == IOC_STATE_OPERATIONAL) then refuses d (state_step k) v else reads d (reading.State k)) (finished [])
      (either ((bit_and v IOC_STATE_MASK == IOC_STATE_FAULT) || (bit_and v IOC_STATE_MASK == IOC_STATE_OPERATIONAL)) (refuses d (state_step k) v) (reads d (reading.State k)) (refused (state_step k) v) (read_on (reading.State k)))
  heard reading.UnitReset v = either (has v SYS2IOC_DB_STATUS) (reads d reading.UnitReset) (reads d (reading.State kind.MessageUnit)) (read_on reading.UnitReset) (read_on (reading.State kind.MessageUnit))
  heard reading.Doorbell v = finished (little_bytes 4 v)

  stood : DwordThenReads (Rattle.mpi_doorbell.specs.HostSteps.stands d)
  stood value e = absurd (cc)

  heard_at : (s : DoorStage) (v : ℕ) → DwordThenReads (hears d s v)
  heard_at (Awaits x) v = heard x v
  heard_at (Reads x) v = stood
  heard_at Opens v = stood
  heard_at (WritesKey place) v = stood
  heard_at Locks v = stood
  heard_at ResetsUnit v = stood
  heard_at Finishes v = stood
  heard_at Ended v = stood

  acted_at : (s : DoorStage) → DwordThenReads (acts d s)
  acted_at (Reads x) = read_on x
  acted_at (Awaits x) = stood
  acted_at Opens = dword reading.Opened (opening_dword d.unsent) d
  acted_at (WritesKey place) = by_key (slice_get reset_keys place)
    where
      by_key : (o : Option ℕ) → DwordThenReads (writes_key_or_reads d place o)
      by_key (Some key) = other (WritesKey (Rattle.std.proofs.Common.◌+◌ place 1)) WRITE_SEQUENCE key refl
      by_key None = read_on reading.Unlocked
  acted_at Locks = λ value e. (reading.State kind.Diagnostic, refl)
  acted_at ResetsUnit = λ value e. (reading.UnitReset, refl)
  acted_at Finishes = finished d.reply
  acted_at Ended = stood

dword_then : (d : HostDoor) (v : Option ℕ) → DwordThenReads (next_step d v)
dword_then d None = acted_at d d.stage
dword_then d (Some v) = heard_at d d.stage v

-- so the turn is over with it
none_behind : (f : ℕ) (d : HostDoor) (x : Reading) → d.stage ≡ Reads x → (turn_from f (next_step d None).door (next_step d None).step).writes ≡ []
unfolding turn_from
none_behind zero d x e = refl
none_behind (suc f) d x e = ap (λ s. (turn_from (suc f) (acts d s).door (acts d s).step).writes) e

-- ---- a turn

module _ (q : ℕ) (few : Rattle.std.proofs.Common.◌≤◌ q 8) (Q : Talk → Type 0) (at_end : (d : HostDoor) (v : Option ℕ) (i : Ioc) (reg value : ℕ) → QueuesIn q i → Q (record { host = d; value = v; registers = i.door }) → (next_step d v).step ≡ step.Write reg value → QueuesIn q (writes_still i reg value) × (reg ≡ DOORBELL)) where
  -- what the rest of a turn is given, and owes
  abbrev NextLeads : HostDoor → Option ℕ → ℕ → Ioc → Type 0
  NextLeads d v m i2 = LeadsIn Q m (record { host = (next_step d v).door; value = None; registers = i2.door })

  abbrev TailOwes : ℕ → HostDoor → Option ℕ → Ioc → Type 0
  TailOwes f d v i2 = QueuesIn q (written_ahead i2 (turn_from f (next_step (next_step d v).door None).door (next_step (next_step d v).door None).step).writes)

  abbrev Ahead : ℕ → HostDoor → Option ℕ → Ioc → Type 0
  Ahead f d v i = QueuesIn q (written_ahead i (turn_from f (next_step d v).door (next_step d v).step).writes)

  pub talks : (f n : ℕ) (d : HostDoor) (v : Option ℕ) (i : Ioc) → QueuesIn q i → LeadsIn Q n (record { host = d; value = v; registers = i.door }) → Ahead f d v i
  unfolding turn_from written_ahead
  talks zero n d v i p l = p
  talks (suc f) n d v i p l = by_step (next_step d v).step refl n l (λ m i2 p2 l2. talks f m (next_step d v).door None i2 p2 l2)
    where
      wrote : (reg value : ℕ) → (next_step d v).step ≡ step.Write reg value → (n : ℕ) → LeadsIn Q n (record { host = d; value = v; registers = i.door }) → ((m : ℕ) (i2 : Ioc) → QueuesIn q i2 → NextLeads d v m i2 → TailOwes f d v i2) → TailOwes f d v (writes_still i reg value)
      wrote reg value e zero l ih =
          let a = at_end d v i reg value p l e in
          let r = dword_then d v value (e ∙ ap (λ m. step.Write m value) a.1) in
          subst (λ ws. QueuesIn q (written_ahead (writes_still i reg value) ws)) (sym (none_behind f (next_step d v).door r.0 r.1)) a.0
      wrote reg value e (suc m) l ih =
          let g : (register_written i.door reg value).effect ≡ effect.None = sym (ap (λ s. (step_taken s i.door).effect) e) ∙ l.0 in
          let c : (writes_still i reg value).door ≡ (register_written i.door reg value).registers = ap (λ x. (does_still (record i { door = (register_written i.door reg value).registers }) x).door) g in
          let t : round (record { host = d; value = v; registers = i.door }) ≡ record { host = (next_step d v).door; value = None; registers = (register_written i.door reg value).registers } =
          ap (λ s. let k : Talk = record { host = (next_step d v).door; value = value_given s i.door; registers = (step_taken s i.door).registers } in k) e in
          let l2 = subst (LeadsIn Q m) t l.1 in
          ih m (writes_still i reg value) (quietly_written q few i reg value p (λ count bytes z. never count bytes (sym g ∙ z)) (λ code z. no_fault code (sym g ∙ z))) (subst (λ r. LeadsIn Q m (record { host = (next_step d v).door; value = None; registers = r })) (sym c) l2)
        where
          never : (count : ℕ) (bytes : List ℕ) → effect.None ≡ effect.Asked count bytes → ⊥
          never count bytes z = cc

          no_fault : (code : ℕ) → effect.None ≡ effect.Fault code → ⊥
          no_fault code z = cc

      by_step : (s : DoorStep) → (next_step d v).step ≡ s → (n : ℕ) → LeadsIn Q n (record { host = d; value = v; registers = i.door }) → ((m : ℕ) (i2 : Ioc) → QueuesIn q i2 → NextLeads d v m i2 → TailOwes f d v i2) → QueuesIn q (written_ahead i (turn_from (suc f) (next_step d v).door s).writes)
      by_step (step.Write reg value) e n l ih = wrote reg value e n l ih
      by_step (step.Read reg) e n l ih = p
      by_step (step.Done count bytes) e n l ih = p
      by_step (step.Refused at value) e n l ih = p

-- with a message that is to be asked, and with its reply
module _ (q : ℕ) (few : Rattle.std.proofs.Common.◌≤◌ q 8) (a : HostAsk) (g : AsksFor q a) (reply : List ℕ) where
  pub asks_on : (f n : ℕ) (d : HostDoor) (v : Option ℕ) (i : Ioc) → QueuesIn q i → LeadsIn (AsksAndEnds (asked_bytes a) reply) n (record { host = d; value = v; registers = i.door }) → QueuesIn q (written_ahead i (turn_from f (next_step d v).door (next_step d v).step).writes)
  asks_on = talks q few (AsksAndEnds (asked_bytes a) reply) (λ d v i reg value p z e.
      let y : (register_written i.door reg value).effect ≡ effect.Asked (length (asked_bytes a)) (padded (asked_bytes a)) = sym (ap (λ s. (step_taken s i.door).effect) e) ∙ z.asked in
      (asks_so q few i reg value p a g y, (writes_are i.door reg value p.waits).asked (length (asked_bytes a)) (padded (asked_bytes a)) y))

  pub reads_on : (f n : ℕ) (d : HostDoor) (v : Option ℕ) (i : Ioc) → QueuesIn q i → LeadsIn (IsDoneWith reply) n (record { host = d; value = v; registers = i.door }) → QueuesIn q (written_ahead i (turn_from f (next_step d v).door (next_step d v).step).writes)
  reads_on = talks q few (IsDoneWith reply) (λ d v i reg value p z e. absurd (never reg value (sym e ∙ z)))
    where
      never : (reg value : ℕ) → step.Write reg value ≡ step.Done (length reply) (padded reply) → ⊥
      never reg value e = cc
