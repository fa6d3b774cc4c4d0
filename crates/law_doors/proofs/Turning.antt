-- What a machine's turn ends with: with a read of what it waits for, of its own kind, or with its end.
use Rattle.std.proofs.Common.{◌≡◌, ℕ, zero, suc, ◌+◌, ◌≤◌, ◌==◌, ◌&&◌, ◌||◌, ◌⊎◌, inl, inr, not, Bool, true, false, if◌then◌else◌, List, [], ◌∷◌, ◌++◌, bit_and, slice_get, Option, Some, None, refl, ap, sym, ◌∙◌, subst, arith}
use Rattle.mpi_doorbell.specs.Bytes.{has}
use Rattle.mpi_doorbell.specs.HostDoor.{HostDoor, Stepped, finishes, reads, refuses, register_of, state_step, writes}
use Rattle.mpi_doorbell.specs.HostHandshake.{is_bad_length, is_whole, opens, sends}
use Rattle.mpi_doorbell.specs.HostReset.{reset_keys, writes_key_or_reads}
use Rattle.mpi_doorbell.specs.HostSteps.{acts, hears, hears_reading, next_step}
use Rattle.mpi_doorbell.specs.declared.registers.TheConstants.{DOORBELL_USED, DIAG_RESET_ADAPTER, DIAG_WRITE_ENABLE, IOC2SYS_DB_STATUS, SYS2IOC_DB_STATUS, IOC_STATE_FAULT, IOC_STATE_MASK, IOC_STATE_OPERATIONAL, IOC_STATE_READY}
use Rattle.mpi_doorbell.specs.declared.stage.Reading.{Reading}
use Rattle.mpi_doorbell.specs.declared.stage.Reading.TheVariants as reading
use Rattle.mpi_doorbell.specs.declared.stage.ResetKind.TheVariants as kind
use Rattle.mpi_doorbell.specs.declared.stage.Stage.{Stage as DoorStage}
use Rattle.mpi_doorbell.specs.declared.stage.Stage.TheVariants.{Reads, Awaits, Opens, WritesKey, Locks, ResetsUnit, Finishes, Ended}
use Rattle.mpi_doorbell.specs.declared.step.DoorStep.{DoorStep}
use Rattle.mpi_doorbell.specs.declared.step.DoorStep.TheVariants as step
use Rattle.mpt_trace.specs.declared.item.Down.{Down}
use Rattle.mpt_trace.specs.declared.item.Down.TheVariants as down
use Rattle.mpt_rules.specs.declared.stage.Stage.{Stage}
use Rattle.mpt_rules.specs.declared.stage.Stage.TheVariants as stage
use Rattle.mpt_rules.specs.World.Counts.{how_many}
use Rattle.mpt_rules.specs.Host.Doorbell.{DoorTurn, turn_from, next_turn}
use Rattle.mpt_rules.specs.World.Weight.{is_read}
use Rattle.law_facts.specs.DoorAhead.{ReadsFor, first_read}
use Rattle.law_moves.proofs.Counted.{how_many-cons}

-- a handshake, a look, or a reset by either register
pub data Kind : Type 0 where
  Shakes : Kind
  Looks : Kind
  Diagnoses : Kind
  Units : Kind

abbrev pub kind_read : Reading → Kind
kind_read reading.Used = Shakes
kind_read reading.LeftOver = Shakes
kind_read reading.Opened = Shakes
kind_read reading.Taken = Shakes
kind_read reading.News = Shakes
kind_read reading.Word = Shakes
kind_read reading.Doorbell = Looks
kind_read reading.Unlocked = Diagnoses
kind_read reading.ResetOver = Diagnoses
kind_read (reading.State kind.Diagnostic) = Diagnoses
kind_read (reading.State kind.MessageUnit) = Units
kind_read reading.UnitReset = Units

abbrev pub IsOf : Kind → DoorStage → Type 0
IsOf k (Reads x) = kind_read x ≡ k
IsOf k (Awaits x) = kind_read x ≡ k
IsOf k Opens = Shakes ≡ k
IsOf k (WritesKey place) = Diagnoses ≡ k
IsOf k Locks = Diagnoses ≡ k
IsOf k ResetsUnit = Units ≡ k
IsOf k Finishes = Shakes ≡ k
IsOf k Ended = Unit {0}

pub record WaitsFor (k : Kind) (s : DoorStage) (reg : ℕ) : Type 0 where
  pub x : Reading
  pub at : s ≡ Awaits x
  pub register : register_of x ≡ reg
  pub kind_is : kind_read x ≡ k

abbrev pub StepFits : Kind → DoorStage → DoorStep → Type 0
StepFits k s (step.Read reg) = WaitsFor k s reg
StepFits k s (step.Write reg value) = IsOf k s
StepFits k s (step.Done count bytes) = Unit {0}
StepFits k s (step.Refused at value) = Unit {0}

abbrev pub SteppedFits : Kind → Stepped → Type 0
SteppedFits k s = StepFits k s.door.stage s.step

either : (k : Kind) (b : Bool) (x y : Stepped) → SteppedFits k x → SteppedFits k y → SteppedFits k (if b then x else y)
either k true x y p q = p
either k false x y p q = q

module _ (d : HostDoor) (k : Kind) where
  reads_fits : (x : Reading) → kind_read x ≡ k → SteppedFits k (reads d x)
  reads_fits x e = record { x = x; at = refl; register = refl; kind_is = e }

  pub acts_fits : (s : DoorStage) → IsOf k s → SteppedFits k (acts d s)
  acts_fits (Reads x) e = reads_fits x e
  acts_fits (Awaits x) e = tt
  acts_fits Opens e = e
  acts_fits (WritesKey place) e = by_key (slice_get reset_keys place)
    where
      by_key : (o : Option ℕ) → SteppedFits k (writes_key_or_reads d place o)
      by_key (Some key) = e
      by_key None = reads_fits reading.Unlocked e
  acts_fits Locks e = e
  acts_fits ResetsUnit e = e
  acts_fits Finishes e = tt
  acts_fits Ended e = tt

  sends_fits : Shakes ≡ k → SteppedFits k (sends d)
  sends_fits e = either k (Rattle.std.proofs.Common.length d.unsent == 0) (reads d reading.News) _ (reads_fits reading.News e) e

  pub hears_fits : (x : Reading) (v : ℕ) → kind_read x ≡ k → SteppedFits k (hears_reading d x v)
  hears_fits reading.Used v e = either k (has v DOORBELL_USED) (refuses d 1 v) (reads d reading.LeftOver) tt (reads_fits reading.LeftOver e)
  hears_fits reading.LeftOver v e = either k (has v IOC2SYS_DB_STATUS) _ (opens d) e e
  hears_fits reading.Opened v e = either k (has v IOC2SYS_DB_STATUS) _ (reads d reading.Opened) e (reads_fits reading.Opened e)
  hears_fits reading.Taken v e = either k (has v SYS2IOC_DB_STATUS) (reads d reading.Taken) (sends d) (reads_fits reading.Taken e) (sends_fits e)
  hears_fits reading.News v e = either k (has v IOC2SYS_DB_STATUS) (reads d reading.Word) (reads d reading.News) (reads_fits reading.Word e) (reads_fits reading.News e)
  hears_fits reading.Word v e =
      either k (is_whole d.reply) _ _
      (either k (has v DOORBELL_USED) (reads d reading.Word) _ (reads_fits reading.Word e) e)
      (either k (is_bad_length d.reply v) (refuses d 6 v) _ tt e)
  hears_fits reading.Unlocked v e = either k (has v DIAG_WRITE_ENABLE) _ (refuses d 21 v) e tt
  hears_fits reading.ResetOver v e = either k (has v DIAG_RESET_ADAPTER) (reads d reading.ResetOver) _ (reads_fits reading.ResetOver e) e
  hears_fits (reading.State r) v e =
      either k (bit_and v IOC_STATE_MASK == IOC_STATE_READY) (finishes d []) _ tt
      (either k ((bit_and v IOC_STATE_MASK == IOC_STATE_FAULT) || (bit_and v IOC_STATE_MASK == IOC_STATE_OPERATIONAL)) (refuses d (state_step r) v) (reads d (reading.State r)) tt (reads_fits (reading.State r) e))
  hears_fits reading.UnitReset v e = either k (has v SYS2IOC_DB_STATUS) (reads d reading.UnitReset) (reads d (reading.State kind.MessageUnit)) (reads_fits reading.UnitReset e) (reads_fits (reading.State kind.MessageUnit) e)
  hears_fits reading.Doorbell v e = tt

pub turn_fits : (n : ℕ) (k : Kind) (d : HostDoor) (s : DoorStep) → StepFits k d.stage s → StepFits k (turn_from n d s).door.stage (turn_from n d s).step
unfolding turn_from
turn_fits zero k d s e = e
turn_fits (suc n) k d (step.Write reg value) e = turn_fits n k (next_step d None).door (next_step d None).step (acts_fits d k d.stage e)
turn_fits (suc n) k d (step.Read reg) e = e
turn_fits (suc n) k d (step.Done count bytes) e = e
turn_fits (suc n) k d (step.Refused at value) e = e

-- behind the value that it waits for
pub value_turn : (d : HostDoor) (x : Reading) (v : ℕ) → d.stage ≡ Awaits x → StepFits (kind_read x) (next_turn d (Some v)).door.stage (next_turn d (Some v)).step
value_turn d x v at = turn_fits 8 (kind_read x) (next_step d (Some v)).door (next_step d (Some v)).step (subst (λ s. SteppedFits (kind_read x) (hears d s v)) (sym at) (hears_fits d (kind_read x) x v refl))

-- at its beginning
pub first_turn : (d : HostDoor) (k : Kind) → IsOf k d.stage → StepFits k (next_turn d None).door.stage (next_turn d None).step
first_turn d k e = turn_fits 8 k (next_step d None).door (next_step d None).step (acts_fits d k d.stage e)

-- ---- what each stage's machine reads

pub data StageKind : Stage → Kind → Type 0 where
  ForStart : StageKind stage.Start Looks
  ForLook : StageKind stage.Look Looks
  ForFacts : StageKind stage.Facts Shakes
  ForPortFacts : StageKind stage.PortFacts Shakes
  ForInit : StageKind stage.Init Shakes
  ForDiagnostic : StageKind stage.DiagnosticReset Diagnoses
  ForUnit : StageKind stage.UnitReset Units

shaking : (x : Reading) → kind_read x ≡ Shakes → Rattle.law_facts.specs.DoorAhead.is_handshake_reading x ≡ true
shaking reading.Used e = refl
shaking reading.LeftOver e = refl
shaking reading.Opened e = refl
shaking reading.Taken e = refl
shaking reading.News e = refl
shaking reading.Word e = refl
shaking reading.Doorbell e = absurd (cc)
shaking reading.Unlocked e = absurd (cc)
shaking reading.ResetOver e = absurd (cc)
shaking (reading.State kind.Diagnostic) e = absurd (cc)
shaking (reading.State kind.MessageUnit) e = absurd (cc)
shaking reading.UnitReset e = absurd (cc)

looking : (x : Reading) → kind_read x ≡ Looks → x ≡ reading.Doorbell
looking reading.Doorbell e = refl
looking reading.Used e = absurd (cc)
looking reading.LeftOver e = absurd (cc)
looking reading.Opened e = absurd (cc)
looking reading.Taken e = absurd (cc)
looking reading.News e = absurd (cc)
looking reading.Word e = absurd (cc)
looking reading.Unlocked e = absurd (cc)
looking reading.ResetOver e = absurd (cc)
looking (reading.State kind.Diagnostic) e = absurd (cc)
looking (reading.State kind.MessageUnit) e = absurd (cc)
looking reading.UnitReset e = absurd (cc)

diagnosing : (x : Reading) → kind_read x ≡ Diagnoses → (x ≡ reading.Unlocked) ⊎ ((x ≡ reading.ResetOver) ⊎ (x ≡ reading.State kind.Diagnostic))
diagnosing reading.Unlocked e = inl refl
diagnosing reading.ResetOver e = inr (inl refl)
diagnosing (reading.State kind.Diagnostic) e = inr (inr refl)
diagnosing (reading.State kind.MessageUnit) e = absurd (cc)
diagnosing reading.UnitReset e = absurd (cc)
diagnosing reading.Doorbell e = absurd (cc)
diagnosing reading.Used e = absurd (cc)
diagnosing reading.LeftOver e = absurd (cc)
diagnosing reading.Opened e = absurd (cc)
diagnosing reading.Taken e = absurd (cc)
diagnosing reading.News e = absurd (cc)
diagnosing reading.Word e = absurd (cc)

resetting_unit : (x : Reading) → kind_read x ≡ Units → (x ≡ reading.UnitReset) ⊎ (x ≡ reading.State kind.MessageUnit)
resetting_unit reading.UnitReset e = inl refl
resetting_unit (reading.State kind.MessageUnit) e = inr refl
resetting_unit (reading.State kind.Diagnostic) e = absurd (cc)
resetting_unit reading.Unlocked e = absurd (cc)
resetting_unit reading.ResetOver e = absurd (cc)
resetting_unit reading.Doorbell e = absurd (cc)
resetting_unit reading.Used e = absurd (cc)
resetting_unit reading.LeftOver e = absurd (cc)
resetting_unit reading.Opened e = absurd (cc)
resetting_unit reading.Taken e = absurd (cc)
resetting_unit reading.News e = absurd (cc)
resetting_unit reading.Word e = absurd (cc)

pub reads_for : (s : Stage) (k : Kind) (x : Reading) → StageKind s k → kind_read x ≡ k → ReadsFor s x
reads_for _ k x ForStart e = looking x e
reads_for _ k x ForLook e = looking x e
reads_for _ k x ForFacts e = shaking x e
reads_for _ k x ForPortFacts e = shaking x e
reads_for _ k x ForInit e = shaking x e
reads_for _ k x ForDiagnostic e = diagnosing x e
reads_for _ k x ForUnit e = resetting_unit x e

handshake_kind : (x : Reading) → Rattle.law_facts.specs.DoorAhead.is_handshake_reading x ≡ true → Shakes ≡ kind_read x
handshake_kind reading.Used e = refl
handshake_kind reading.LeftOver e = refl
handshake_kind reading.Opened e = refl
handshake_kind reading.Taken e = refl
handshake_kind reading.News e = refl
handshake_kind reading.Word e = refl
handshake_kind reading.Doorbell e = absurd (cc)
handshake_kind reading.Unlocked e = absurd (cc)
handshake_kind reading.ResetOver e = absurd (cc)
handshake_kind (reading.State r) e = absurd (cc)
handshake_kind reading.UnitReset e = absurd (cc)

pub stage_kind : (s : Stage) (x : Reading) → ReadsFor s x → StageKind s (kind_read x)
stage_kind stage.Idle x r = absurd r
stage_kind stage.Start x r = subst (λ k. StageKind stage.Start k) (sym (ap kind_read r)) ForStart
stage_kind stage.StartReset x r = absurd r
stage_kind stage.Facts x r = subst (λ k. StageKind stage.Facts k) (handshake_kind x r) ForFacts
stage_kind stage.PortFacts x r = subst (λ k. StageKind stage.PortFacts k) (handshake_kind x r) ForPortFacts
stage_kind stage.Init x r = subst (λ k. StageKind stage.Init k) (handshake_kind x r) ForInit
stage_kind stage.Look x r = subst (λ k. StageKind stage.Look k) (sym (ap kind_read r)) ForLook
stage_kind stage.DiagnosticReset x (inl e) = subst (λ k. StageKind stage.DiagnosticReset k) (sym (ap kind_read e)) ForDiagnostic
stage_kind stage.DiagnosticReset x (inr (inl e)) = subst (λ k. StageKind stage.DiagnosticReset k) (sym (ap kind_read e)) ForDiagnostic
stage_kind stage.DiagnosticReset x (inr (inr e)) = subst (λ k. StageKind stage.DiagnosticReset k) (sym (ap kind_read e)) ForDiagnostic
stage_kind stage.UnitReset x (inl e) = subst (λ k. StageKind stage.UnitReset k) (sym (ap kind_read e)) ForUnit
stage_kind stage.UnitReset x (inr e) = subst (λ k. StageKind stage.UnitReset k) (sym (ap kind_read e)) ForUnit

-- ---- the first read of a line

pub first_of_read : (xs : List Down) (reg : ℕ) → how_many is_read xs ≡ 0 → first_read (xs ++ down.Read reg ∷ []) ≡ Some reg
unfolding first_read
first_of_read [] reg z = refl
first_of_read (down.Write r v ∷ xs) reg z = let c = how_many-cons is_read (down.Write r v) xs in first_of_read xs reg (omega (arith, c, z))
first_of_read (down.Read r ∷ xs) reg z = let c = how_many-cons is_read (down.Read r) xs in absurd (omega (arith, c, z))
first_of_read (down.Post d f p ∷ xs) reg z = let c = how_many-cons is_read (down.Post d f p) xs in first_of_read xs reg (omega (arith, c, z))
first_of_read (down.Return a i ∷ xs) reg z = let c = how_many-cons is_read (down.Return a i) xs in first_of_read xs reg (omega (arith, c, z))
first_of_read (down.Stop ∷ xs) reg z = let c = how_many-cons is_read down.Stop xs in first_of_read xs reg (omega (arith, c, z))

-- more without a read
pub first_more : (xs ys : List Down) → how_many is_read ys ≡ 0 → first_read (xs ++ ys) ≡ first_read xs
unfolding first_read
first_more [] [] z = refl
first_more [] (down.Write r v ∷ ys) z = let c = how_many-cons is_read (down.Write r v) ys in first_more [] ys (omega (arith, c, z))
first_more [] (down.Read r ∷ ys) z = let c = how_many-cons is_read (down.Read r) ys in absurd (omega (arith, c, z))
first_more [] (down.Post d f p ∷ ys) z = let c = how_many-cons is_read (down.Post d f p) ys in first_more [] ys (omega (arith, c, z))
first_more [] (down.Return a i ∷ ys) z = let c = how_many-cons is_read (down.Return a i) ys in first_more [] ys (omega (arith, c, z))
first_more [] (down.Stop ∷ ys) z = let c = how_many-cons is_read down.Stop ys in first_more [] ys (omega (arith, c, z))
first_more (down.Write r v ∷ xs) ys z = first_more xs ys z
first_more (down.Read r ∷ xs) ys z = refl
first_more (down.Post d f p ∷ xs) ys z = first_more xs ys z
first_more (down.Return a i ∷ xs) ys z = first_more xs ys z
first_more (down.Stop ∷ xs) ys z = first_more xs ys z

-- a front that is no read
pub first_passed : (x : Down) (xs : List Down) → is_read x ≡ false → first_read (x ∷ xs) ≡ first_read xs
unfolding first_read
first_passed (down.Write r v) xs e = refl
first_passed (down.Read r) xs e = absurd (cc)
first_passed (down.Post d f p) xs e = refl
first_passed (down.Return a i) xs e = refl
first_passed down.Stop xs e = refl

-- a turn's writes are no reads
pub writes_no_reads : (n : ℕ) (d : HostDoor) (s : DoorStep) → how_many is_read (turn_from n d s).writes ≡ 0
unfolding turn_from
writes_no_reads zero d s = Rattle.law_moves.proofs.Counted.how_many-nil is_read
writes_no_reads (suc n) d (step.Write reg value) =
    let h = writes_no_reads n (next_step d None).door (next_step d None).step in
    let c = how_many-cons is_read (down.Write reg value) (turn_from n (next_step d None).door (next_step d None).step).writes in
    omega (arith, h, c)
writes_no_reads (suc n) d (step.Read reg) = Rattle.law_moves.proofs.Counted.how_many-nil is_read
writes_no_reads (suc n) d (step.Done count bytes) = Rattle.law_moves.proofs.Counted.how_many-nil is_read
writes_no_reads (suc n) d (step.Refused at value) = Rattle.law_moves.proofs.Counted.how_many-nil is_read

-- a turn that ends with a write made too many of them: none of a reset does
abbrev pub IsWriteStep : DoorStep → Type 0
IsWriteStep (step.Write reg value) = Unit {0}
IsWriteStep _ = ⊥

-- so many writes at most
abbrev pub IsShort : ℕ → HostDoor → DoorStep → Type 0
IsShort f d (step.Read reg) = Unit {0}
IsShort f d (step.Done count bytes) = Unit {0}
IsShort f d (step.Refused at value) = Unit {0}
IsShort zero d (step.Write reg value) = ⊥
IsShort (suc f) d (step.Write reg value) = IsShort f (next_step d None).door (next_step d None).step

pub short_ends : (n : ℕ) (d : HostDoor) (s : DoorStep) → IsShort n d s → IsWriteStep (turn_from n d s).step → ⊥
unfolding turn_from
short_ends zero d (step.Write reg value) h i = h
short_ends zero d (step.Read reg) h i = i
short_ends zero d (step.Done count bytes) h i = i
short_ends zero d (step.Refused at value) h i = i
short_ends (suc n) d (step.Write reg value) h i = short_ends n (next_step d None).door (next_step d None).step h i
short_ends (suc n) d (step.Read reg) h i = i
short_ends (suc n) d (step.Done count bytes) h i = i
short_ends (suc n) d (step.Refused at value) h i = i

either_short : (b : Bool) (x y : Stepped) → IsShort 8 x.door x.step → IsShort 8 y.door y.step → (n : Stepped) → n ≡ (if b then x else y) → IsShort 8 n.door n.step
either_short true x y p q n e = subst (λ (k : Stepped). IsShort 8 k.door k.step) (sym e) p
either_short false x y p q n e = subst (λ (k : Stepped). IsShort 8 k.door k.step) (sym e) q

-- behind a value a turn makes two writes at most
pub value_short : (d : HostDoor) (x : Reading) (v : ℕ) → IsShort 8 (hears_reading d x v).door (hears_reading d x v).step
value_short d reading.Used v = either_short (has v DOORBELL_USED) (refuses d 1 v) (reads d reading.LeftOver) tt tt _ refl
value_short d reading.LeftOver v = either_short (has v IOC2SYS_DB_STATUS) (writes d Opens Rattle.mpi_doorbell.specs.declared.registers.TheConstants.HOST_INTERRUPT_STATUS 0) (opens d) tt tt _ refl
value_short d reading.Opened v = either_short (has v IOC2SYS_DB_STATUS) (writes d (Reads reading.Taken) Rattle.mpi_doorbell.specs.declared.registers.TheConstants.HOST_INTERRUPT_STATUS 0) (reads d reading.Opened) tt tt _ refl
value_short d reading.Taken v = either_short (has v SYS2IOC_DB_STATUS) (reads d reading.Taken) (sends d) tt sent _ refl
  where
    sent : IsShort 8 (sends d).door (sends d).step
    sent = either_short (Rattle.std.proofs.Common.length d.unsent == 0) (reads d reading.News) (writes (record d { unsent = Rattle.std.proofs.Common.drop 4 d.unsent }) (Reads reading.Taken) Rattle.mpi_doorbell.specs.declared.registers.TheConstants.DOORBELL (Rattle.byteorder.specs.Endian.little_number 4 d.unsent)) tt tt _ refl
value_short d reading.News v = either_short (has v IOC2SYS_DB_STATUS) (reads d reading.Word) (reads d reading.News) tt tt _ refl
value_short d reading.Word v = either_short (is_whole d.reply) (Rattle.mpi_doorbell.specs.HostHandshake.hears_end d v) (Rattle.mpi_doorbell.specs.HostHandshake.takes_word d v) ended word _ refl
  where
    ended : IsShort 8 (Rattle.mpi_doorbell.specs.HostHandshake.hears_end d v).door (Rattle.mpi_doorbell.specs.HostHandshake.hears_end d v).step
    ended = either_short (has v DOORBELL_USED) (reads d reading.Word) (writes d Finishes Rattle.mpi_doorbell.specs.declared.registers.TheConstants.HOST_INTERRUPT_STATUS 0) tt tt _ refl

    word : IsShort 8 (Rattle.mpi_doorbell.specs.HostHandshake.takes_word d v).door (Rattle.mpi_doorbell.specs.HostHandshake.takes_word d v).step
    word = either_short (is_bad_length d.reply v) (refuses d 6 v) (writes (Rattle.mpi_doorbell.specs.HostHandshake.with_word d v) (Reads reading.News) Rattle.mpi_doorbell.specs.declared.registers.TheConstants.HOST_INTERRUPT_STATUS 0) tt tt _ refl
value_short d reading.Unlocked v = either_short (has v DIAG_WRITE_ENABLE) (writes d (Reads reading.ResetOver) Rattle.mpi_doorbell.specs.declared.registers.TheConstants.HOST_DIAGNOSTIC (Rattle.std.specs.Int.Bits.bit_or v DIAG_RESET_ADAPTER)) (refuses d 21 v) tt tt _ refl
value_short d reading.ResetOver v = either_short (has v DIAG_RESET_ADAPTER) (reads d reading.ResetOver) (writes d Locks Rattle.mpi_doorbell.specs.declared.registers.TheConstants.HOST_DIAGNOSTIC (Rattle.mpi_doorbell.specs.HostReset.without v Rattle.mpi_doorbell.specs.declared.registers.TheConstants.DIAG_HOLD_IOC_RESET)) tt tt _ refl
value_short d (reading.State r) v = either_short (bit_and v IOC_STATE_MASK == IOC_STATE_READY) (finishes d []) (if (bit_and v IOC_STATE_MASK == IOC_STATE_FAULT) || (bit_and v IOC_STATE_MASK == IOC_STATE_OPERATIONAL) then refuses d (state_step r) v else reads d (reading.State r)) tt rest _ refl
  where
    rest : IsShort 8 (if (bit_and v IOC_STATE_MASK == IOC_STATE_FAULT) || (bit_and v IOC_STATE_MASK == IOC_STATE_OPERATIONAL) then refuses d (state_step r) v else reads d (reading.State r)).door (if (bit_and v IOC_STATE_MASK == IOC_STATE_FAULT) || (bit_and v IOC_STATE_MASK == IOC_STATE_OPERATIONAL) then refuses d (state_step r) v else reads d (reading.State r)).step
    rest = either_short ((bit_and v IOC_STATE_MASK == IOC_STATE_FAULT) || (bit_and v IOC_STATE_MASK == IOC_STATE_OPERATIONAL)) (refuses d (state_step r) v) (reads d (reading.State r)) tt tt _ refl
value_short d reading.UnitReset v = either_short (has v SYS2IOC_DB_STATUS) (reads d reading.UnitReset) (reads d (reading.State kind.MessageUnit)) tt tt _ refl
value_short d reading.Doorbell v = tt

-- so its last step is no write
pub value_ends : (d : HostDoor) (x : Reading) (v : ℕ) → d.stage ≡ Awaits x → IsWriteStep (next_turn d (Some v)).step → ⊥
value_ends d x v at i =
    short_ends 8 (next_step d (Some v)).door (next_step d (Some v)).step
    (subst (λ s. IsShort 8 (hears d s v).door (hears d s v).step) (sym at) (value_short d x v)) i
