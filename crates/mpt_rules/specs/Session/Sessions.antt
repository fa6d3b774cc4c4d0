-- A session: the cases of each party with their stamps, and the trace that their journals make.
use Rattle.std.specs.Prelude.{◌≡◌, ℕ, ◌+◌, ◌<◌, true, false, List, [], ◌∷◌, All, filter_map, length}
use Rattle.mpt_trace.specs.declared.entry.Entry.{Entry}
use Rattle.mpt_trace.specs.declared.lane.LaneName.{LaneName}
use Rattle.mpt_trace.specs.declared.parties.Party.TheVariants as party
use Rattle.mpt_trace.specs.ReadingSchedule.{IsInput}
use Rattle.mpt_wire.specs.Queues.Lanes.{put_on_lane, taken_from}
use Rattle.mpt_rules.specs.Host.Parts.{Host, new_host}
use Rattle.mpt_rules.specs.Ioc.Parts.{Ioc, new_ioc}
use Rattle.mpt_rules.specs.Fabric.Parts.{Fabric, new_fabric}
use Rattle.mpt_rules.specs.Host.Takes.{host_waits}
use Rattle.mpt_rules.specs.Ioc.Takes.{ioc_quiet}
use Rattle.mpt_rules.specs.Fabric.Calls.{fabric_quiet}
use Rattle.mpt_rules.specs.Session.OpenCases.{HostCase, IocCase, FabricCase, SubmitterCase, host_does, ioc_does, fabric_does}
use Rattle.mpt_rules.specs.Session.Journals.{At, Rises, Row, fabric_journal, host_journal, ioc_journal, merge, submitter_journal}
use Rattle.mpt_rules.specs.World.Settings.{Setting}

-- the cases of the parties; the submitters by their number from 0
pub record Session : Type 0 where
  pub host : List (At HostCase)
  pub ioc : List (At IocCase)
  pub fabric : List (At FabricCase)
  pub submitters : List (List (At SubmitterCase))

-- the numbers of the inputs are those that an input can have
abbrev pub IsHostCase : At HostCase → Type 0
IsHostCase c = OfCase c.value
  where
    OfCase : HostCase → Type 0
    OfCase (HostCase.Told input) = IsInput input
    OfCase _ = Unit {0}

abbrev pub IsFabricCase : At FabricCase → Type 0
IsFabricCase c = OfCase c.value
  where
    OfCase : FabricCase → Type 0
    OfCase (FabricCase.Told input) = IsInput input
    OfCase _ = Unit {0}

-- in each journal the stamps rise from case to case
pub record IsSession (s : Setting) (x : Session) : Type 0 where
  pub host : Rises x.host
  pub ioc : Rises x.ioc
  pub fabric : Rises x.fabric
  pub submitters : All (λ cases. Rises cases) x.submitters
  pub few_submitters : length x.submitters < 9
  pub told_host : All IsHostCase x.host
  pub told_fabric : All IsFabricCase x.fabric

-- the journals of the submitters from a number on
abbrev pub submitter_rows : ℕ → List (List (At SubmitterCase)) → List (Row (List Entry))
submitter_rows i [] = []
submitter_rows i (cases ∷ rest) = record { party = party.Submitter i; moments = submitter_journal i cases } ∷ submitter_rows (i + 1) rest

-- the journals of all parties
abbrev pub journals : Setting → Session → List (Row (List Entry))
journals s x =
    record { party = party.Host; moments = host_journal (new_host s.queues) x.host }
    ∷ record { party = party.Ioc; moments = ioc_journal (new_ioc s.phys s.queues) x.ioc }
    ∷ record { party = party.Fabric; moments = fabric_journal (new_fabric s.disks s.phys) x.fabric }
    ∷ submitter_rows 0 x.submitters

-- the trace: all entries by rising stamp and party
abbrev pub session_trace : Setting → Session → List Entry
session_trace s x = merge (journals s x)

-- ---- the end of a session

-- a party after its cases
abbrev pub host_after : Host → List (At HostCase) → Host
host_after host [] = host
host_after host (c ∷ cs) = host_after (host_does host c.value).part cs

abbrev pub ioc_after : Ioc → List (At IocCase) → Ioc
ioc_after ioc [] = ioc
ioc_after ioc (c ∷ cs) = ioc_after (ioc_does ioc c.value).part cs

abbrev pub fabric_after : Fabric → List (At FabricCase) → Fabric
fabric_after fabric [] = fabric
fabric_after fabric (c ∷ cs) = fabric_after (fabric_does fabric c.value).part cs

-- the parties as a session leaves them
abbrev pub last_host : Setting → Session → Host
last_host s x = host_after (new_host s.queues) x.host

abbrev pub last_ioc : Setting → Session → Ioc
last_ioc s x = ioc_after (new_ioc s.phys s.queues) x.ioc

abbrev pub last_fabric : Setting → Session → Fabric
last_fabric s x = fabric_after (new_fabric s.disks s.phys) x.fabric

-- all that was put on a lane was taken, no party has anything left to do, and the host waits for nothing
pub record EndsQuiet (s : Setting) (x : Session) : Type 0 where
  pub taken : (lane : LaneName) → filter_map (taken_from lane) (session_trace s x) ≡ filter_map (put_on_lane lane) (session_trace s x)
  pub host : (last_host s x).out ≡ []
  pub waits : host_waits (last_host s x) ≡ false
  pub ioc : ioc_quiet (last_ioc s x) ≡ true
  pub fabric : fabric_quiet (last_fabric s x) ≡ true
