-- The parties as they ended, by what led them there.
use Rattle.std.specs.Prelude.{◌≡◌, ℕ, ◌+◌, false, List, [], ◌∷◌, length, Result, IfOk}
use Rattle.mpt_trace.specs.declared.entry.Entry.{Entry}
use Rattle.mpt_trace.specs.declared.parties.Party.{Party}
use Rattle.mpt_trace.specs.declared.parties.Party.TheVariants as party
use Rattle.mpt_rules.specs.Fabric.Parts.{Fabric, new_fabric}
use Rattle.mpt_rules.specs.Host.Parts.{Host, new_host}
use Rattle.mpt_rules.specs.Ioc.Parts.{Ioc, new_ioc}
use Rattle.mpt_rules.specs.Outcome.{Happening}
use Rattle.mpt_rules.specs.Session.Journals.{Row}
use Rattle.mpt_rules.specs.Session.OpenCases.{fabric_does, host_does, ioc_does}
use Rattle.host_core.specs.Driver.{Driver}
use Rattle.ioc_core.specs.Seen.{IocSeen}
use Rattle.mpt_journal.specs.Journal.{HeldRow}
use Rattle.mpt_live.specs.Recorded.{LeadsTo, submitter_enters}
use Rattle.mpt_live.specs.Submitters.{NumberedEnd}
use Rattle.mpt_script.specs.PlanParts.{PlanParts}
use Rattle.live_journals.specs.Parties.{first_recorded}
use Rattle.live_session.specs.declared.ending.Left.{Left}

-- some cases led a party from what it was at first to this, with this journal
pub record HasLed {P C : Type 0} (does : P → C → Happening P) (first : P) (party : Party) (last : P) (row : Row Entry) : Type 0 where
  pub clock : ℕ
  pub led : LeadsTo does (first_recorded first party) (record { part = last; row = row; clock = clock })

-- a submitter's end as it begins
abbrev pub Begins : ℕ → NumberedEnd → Type 0
Begins number end = (end.number ≡ number) × (end.recorded ≡ first_recorded tt (party.Submitter number))

-- the submitters from a number on as they begin
abbrev pub SubmittersBegin : ℕ → List NumberedEnd → Type 0
SubmittersBegin i [] = Unit {0}
SubmittersBegin i (end ∷ ends) = Begins i end × SubmittersBegin (i + 1) ends

-- a submitter's end after its work: some cases led it there, unless memory was wanting
pub record HasRun (old new : NumberedEnd) : Type 0 where
  pub number : new.number ≡ old.number
  pub led : new.is_spent ≡ false → LeadsTo (submitter_enters old.number) old.recorded new.recorded

-- the submitters from a number on, each where some cases led it, unless memory was wanting for it
abbrev pub SubmittersRan : ℕ → List NumberedEnd → Type 0
SubmittersRan i [] = Unit {0}
SubmittersRan i (end ∷ ends) = (end.is_spent ≡ false → LeadsTo (submitter_enters i) (first_recorded tt (party.Submitter i)) end.recorded) × SubmittersRan (i + 1) ends

-- the submitters from a number on, of these journals
abbrev pub SubmittersLeft : ℕ → List HeldRow → Type 0
SubmittersLeft i [] = Unit {0}
SubmittersLeft i (journal ∷ journals) = HasLed (submitter_enters i) tt (party.Submitter i) tt journal.row × SubmittersLeft (i + 1) journals

-- where the host's work ended, some cases led it there
abbrev pub HostLed : {E : Type 0} → Host → Result (Driver × HeldRow) E → Type 0
HostLed first result = IfOk result (λ left. HasLed host_does first party.Host left.0.host left.1.row)

-- and the controller's
abbrev pub IocLed : {E : Type 0} → Ioc → Result (IocSeen × HeldRow) E → Type 0
IocLed first result = IfOk result (λ left. HasLed ioc_does first party.Ioc left.0.part left.1.row)

-- and the fabric's
abbrev pub FabricLed : {E : Type 0} → Fabric → Result (Fabric × HeldRow) E → Type 0
FabricLed first result = IfOk result (λ left. HasLed fabric_does first party.Fabric left.0 left.1.row)

-- each party is where some cases led it from this, and there are so many submitters
pub record PartiesLeft (first_host : Host) (first_ioc : Ioc) (first_fabric : Fabric) (n : ℕ) (left : Left) : Type 0 where
  pub host : HasLed host_does first_host party.Host left.host.0.host left.host.1.row
  pub ioc : HasLed ioc_does first_ioc party.Ioc left.ioc.0.part left.ioc.1.row
  pub fabric : HasLed fabric_does first_fabric party.Fabric left.fabric.0 left.fabric.1.row
  pub submitters : SubmittersLeft 0 left.submitters.items
  pub count : length left.submitters.items ≡ n

-- and the parties were those of a plan
abbrev pub PlanLeft : PlanParts → Left → Type 0
PlanLeft plan left =
    PartiesLeft (new_host plan.queues) (new_ioc plan.phys plan.queues) (new_fabric plan.disks plan.phys) (length plan.submitters) left
