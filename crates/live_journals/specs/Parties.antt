-- The parties of a session where their cases have led them, and the session that they show.
use Rattle.std.specs.Prelude.{◌≡◌, ◌<◌, ◌+◌, ℕ, List, [], ◌∷◌, All, length, map}
use Rattle.mpt_trace.specs.declared.entry.Entry.{Entry}
use Rattle.mpt_trace.specs.declared.entry.Entry.TheVariants as entry
use Rattle.mpt_trace.specs.declared.parties.Party.{Party}
use Rattle.mpt_trace.specs.declared.parties.Party.TheVariants as party
use Rattle.mpt_trace.specs.ReadingSchedule.{IsInput}
use Rattle.mpt_rules.specs.Fabric.Parts.{Fabric, new_fabric}
use Rattle.mpt_rules.specs.Host.Parts.{Host, new_host}
use Rattle.mpt_rules.specs.Ioc.Parts.{Ioc, new_ioc}
use Rattle.mpt_rules.specs.Session.Journals.{Row, all_merged, moment_values}
use Rattle.mpt_rules.specs.Session.OpenCases.{fabric_does, host_does, ioc_does}
use Rattle.mpt_rules.specs.Session.Sessions.{IsSession, Session, journals, last_fabric, last_host, last_ioc, session_trace}
use Rattle.mpt_rules.specs.World.Settings.{Setting}
use Rattle.mpt_journal.specs.Laws.{by_entries}
use Rattle.mpt_live.specs.Recorded.{LeadsTo, Recorded, submitter_enters}

-- a party as it begins: its journal is empty, its clock at 0
abbrev pub first_recorded : {P : Type 0} → P → Party → Recorded P
first_recorded part party = record { part = part; row = record { party = party; moments = [] }; clock = 0 }

-- the submitters from a number on, each where some cases led it
abbrev pub SubmittersLed : ℕ → List (Recorded (Unit {0})) → Type 0
SubmittersLed i [] = Unit {0}
SubmittersLed i (r ∷ rs) = LeadsTo (submitter_enters i) (first_recorded tt (party.Submitter i)) r × SubmittersLed (i + 1) rs

-- the parties with their journals; the submitters by their number from 0
pub record RecordedParties : Type 0 where
  pub host : Recorded Host
  pub ioc : Recorded Ioc
  pub fabric : Recorded Fabric
  pub submitters : List (Recorded (Unit {0}))

-- their journals, in the order of the parties
abbrev pub rows_of_parties : RecordedParties → List (Row Entry)
rows_of_parties p = p.host.row ∷ p.ioc.row ∷ p.fabric.row ∷ map (λ (r : Recorded (Unit {0})). r.row) p.submitters

-- the entries of all journals, by rising stamp and party
abbrev pub entries_of_parties : RecordedParties → List Entry
entries_of_parties p = moment_values (all_merged (rows_of_parties p))

-- an input that was entered has numbers that an input can have
abbrev pub IsEnteredInput : Entry → Type 0
IsEnteredInput (entry.Given input) = IsInput input
IsEnteredInput _ = Unit {0}

-- each party is where some cases led it from what it was at first
pub record PartiesLed (s : Setting) (p : RecordedParties) : Type 0 where
  pub host : LeadsTo host_does (first_recorded (new_host s.queues) party.Host) p.host
  pub ioc : LeadsTo ioc_does (first_recorded (new_ioc s.phys s.queues) party.Ioc) p.ioc
  pub fabric : LeadsTo fabric_does (first_recorded (new_fabric s.disks s.phys) party.Fabric) p.fabric
  pub submitters : SubmittersLed 0 p.submitters
  pub few : length p.submitters < 9
  pub inputs : All IsEnteredInput (entries_of_parties p)

-- the session leaves the parties so; entry by entry these are its journals, and this is its trace
pub record LeavesParties (s : Setting) (p : RecordedParties) (x : Session) : Type 0 where
  pub session : IsSession s x
  pub submitters : length x.submitters ≡ length p.submitters
  pub journals : rows_of_parties p ≡ map by_entries (journals s x)
  pub trace : entries_of_parties p ≡ session_trace s x
  pub host : p.host.part ≡ last_host s x
  pub ioc : p.ioc.part ≡ last_ioc s x
  pub fabric : p.fabric.part ≡ last_fabric s x

-- whatever led the parties there, some session leaves them so
abbrev pub JournalsMakeSessions : Type 0
JournalsMakeSessions = (s : Setting) (p : RecordedParties) → PartiesLed s p → (x : Session) × LeavesParties s p x
