-- The cases of each party by itself, where an item that it takes is given.
use Rattle.std.specs.Prelude.{ℕ, Bool, true, false, List, [], ◌∷◌, ◌++◌, Option, Some, None}
use Rattle.mpt_trace.specs.declared.entry.Entry.{Entry}
use Rattle.mpt_trace.specs.declared.entry.Entry.TheVariants as entry
use Rattle.mpt_trace.specs.declared.input.Input.{Input}
use Rattle.mpt_trace.specs.declared.item.Ask.{Ask}
use Rattle.mpt_trace.specs.declared.item.Back.{Back}
use Rattle.mpt_trace.specs.declared.item.Down.{Down}
use Rattle.mpt_trace.specs.declared.item.Item.TheVariants as item
use Rattle.mpt_trace.specs.declared.item.Out.{Out}
use Rattle.mpt_trace.specs.declared.item.Tell.{Tell}
use Rattle.mpt_trace.specs.declared.item.Up.{Up}
use Rattle.mpt_trace.specs.declared.lane.LaneName.TheVariants as lane
use Rattle.mpt_rules.specs.declared.why.Why.{Why}
use Rattle.mpt_rules.specs.Host.Parts.{Host}
use Rattle.mpt_rules.specs.Ioc.Parts.{Ioc}
use Rattle.mpt_rules.specs.Fabric.Parts.{Fabric}
use Rattle.mpt_rules.specs.Host.Takes.{takes_up, down_sent}
use Rattle.mpt_rules.specs.Ioc.Takes.{takes_down, takes_back, steps_high, steps_normal, front_up_on, up_sent_on, front_out, out_sent}
use Rattle.mpt_rules.specs.Fabric.Calls.{takes_out, announces, calms, fabric_sent, runs}
use Rattle.mpt_rules.specs.Outcome.{Happening, Called}
use Rattle.mpt_rules.specs.World.State.{up_lane}
use Rattle.mpt_rules.specs.World.Moves.{told_of}
use Rattle.mpt_rules.specs.World.Inputs.{host_told, fabric_told}
use Rattle.mpt_rules.specs.World.Cases.{is_free, looks_if, stops_if}

-- a case of the host
pub data HostCase : Type 0 where
  Told : (input : Input) → HostCase
  Puts : HostCase
  Takes : (queue : ℕ) (next : Up) → HostCase
  Looks : HostCase
  Stops : HostCase
  -- it takes what a submitter asks, and tells a submitter something
  TakesAsk : (submitter : ℕ) (ask : Ask) → HostCase
  PutsTell : (submitter : ℕ) (tell : Tell) → HostCase

-- a case of the controller
pub data IocCase : Type 0 where
  TakesDown : (next : Down) → IocCase
  WorksHigh : IocCase
  WorksNormal : IocCase
  PutsOut : IocCase
  TakesBack : (next : Back) → IocCase
  PutsUp : (queue : ℕ) → IocCase

-- a case of the fabric
pub data FabricCase : Type 0 where
  Told : (input : Input) → FabricCase
  Takes : (next : Out) → FabricCase
  Says : FabricCase
  Puts : FabricCase
  Runs : (tag : ℕ) → FabricCase
  Calms : FabricCase

-- a case of a submitter
pub data SubmitterCase : Type 0 where
  PutsAsk : (ask : Ask) → SubmitterCase
  TakesTell : (tell : Tell) → SubmitterCase

-- the party goes on like this, and nothing is entered
abbrev pub open_silent : {P : Type 0} → P → Happening P
open_silent part = record { part = part; entries = [] }

-- the party goes on like this, and one thing is entered
abbrev pub entered : {P : Type 0} → P → Entry → Happening P
entered part e = record { part = part; entries = e ∷ [] }

-- ---- the host

-- the host puts its next item, if there is one
abbrev pub puts_down : Host → List Down → Happening Host
puts_down host [] = open_silent host
puts_down host (next ∷ rest) = entered (down_sent host) (entry.Put lane.Down (item.Down next))

-- the host has taken an item
abbrev pub took_up : ℕ → Up → Called Host (Option Why) → Happening Host
took_up queue next called =
    record { part = called.part; entries = entry.Take (up_lane queue) (item.Up next) ∷ told_of called.answer called.told }

-- what a case of the host leaves
abbrev pub host_does : Host → HostCase → Happening Host
host_does host (HostCase.Told input) = host_told host input
host_does host HostCase.Puts = puts_down host host.out
host_does host (HostCase.Takes queue next) = took_up queue next (takes_up host queue next)
host_does host HostCase.Looks = open_silent (looks_if (is_free host) host)
host_does host HostCase.Stops = open_silent (stops_if (is_free host) host)
host_does host (HostCase.TakesAsk submitter ask) = entered host (entry.Take (lane.Ask submitter) (item.Ask ask))
host_does host (HostCase.PutsTell submitter tell) = entered host (entry.Put (lane.Tell submitter) (item.Tell tell))

-- ---- the controller

-- the controller has taken an item, with this entry
abbrev pub took : Entry → Happening Ioc → Happening Ioc
took e outcome = record { part = outcome.part; entries = e ∷ outcome.entries }

-- the controller after a work step, if there was one
abbrev pub worked_if : Ioc → Bool → Ioc → List Entry → Happening Ioc
worked_if ioc false open_worked told = open_silent ioc
worked_if ioc true open_worked told = record { part = open_worked; entries = told }

-- the controller makes a work step
abbrev pub open_worked : Ioc → Called Ioc Bool → Happening Ioc
open_worked ioc called = worked_if ioc called.answer called.part called.told

-- the controller puts its next item for the fabric, if there is one
abbrev pub puts_out : Ioc → Option Out → Happening Ioc
puts_out ioc None = open_silent ioc
puts_out ioc (Some next) = entered (out_sent ioc) (entry.Put lane.Out (item.Out next))

-- the controller puts its next item of a reply queue, if there is one
abbrev pub puts_up : Ioc → ℕ → Option Up → Happening Ioc
puts_up ioc queue None = open_silent ioc
puts_up ioc queue (Some next) = entered (up_sent_on ioc queue) (entry.Put (up_lane queue) (item.Up next))

-- what a case of the controller leaves
abbrev pub ioc_does : Ioc → IocCase → Happening Ioc
ioc_does ioc (TakesDown next) = took (entry.Take lane.Down (item.Down next)) (takes_down ioc next)
ioc_does ioc WorksHigh = open_worked ioc (steps_high ioc)
ioc_does ioc WorksNormal = open_worked ioc (steps_normal ioc)
ioc_does ioc PutsOut = puts_out ioc (front_out ioc)
ioc_does ioc (TakesBack next) = took (entry.Take lane.Back (item.Back next)) (takes_back ioc next)
ioc_does ioc (PutsUp queue) = puts_up ioc queue (front_up_on ioc queue)

-- ---- the fabric

-- the fabric tells its first notice, if there is one
abbrev pub says_or_not : Fabric → Option Fabric → Happening Fabric
says_or_not fabric None = open_silent fabric
says_or_not fabric (Some said) = open_silent said

-- the fabric has performed a task, if there was one
abbrev pub ran : Fabric → ℕ → Option ℕ → Fabric → Happening Fabric
ran fabric tag None after = open_silent fabric
ran fabric tag (Some address) after = entered after (entry.Run address tag)

-- the fabric performs the task of a tag
abbrev pub runs_tag : Fabric → ℕ → Called Fabric (Option ℕ) → Happening Fabric
runs_tag fabric tag called = ran fabric tag called.answer called.part

-- the fabric puts its next item, if there is one
abbrev pub puts_back : Fabric → List Back → Happening Fabric
puts_back fabric [] = open_silent fabric
puts_back fabric (next ∷ rest) = entered (fabric_sent fabric) (entry.Put lane.Back (item.Back next))

-- what a case of the fabric leaves
abbrev pub fabric_does : Fabric → FabricCase → Happening Fabric
fabric_does fabric (FabricCase.Told input) = fabric_told fabric input
fabric_does fabric (FabricCase.Takes next) = entered (takes_out fabric next) (entry.Take lane.Out (item.Out next))
fabric_does fabric FabricCase.Says = says_or_not fabric (announces fabric)
fabric_does fabric FabricCase.Puts = puts_back fabric fabric.out
fabric_does fabric (FabricCase.Runs tag) = runs_tag fabric tag (runs fabric tag)
fabric_does fabric FabricCase.Calms = open_silent (calms fabric)

-- ---- a submitter, which has no part

-- the entry of a case of a submitter
abbrev pub submitter_does : ℕ → SubmitterCase → List Entry
submitter_does submitter (PutsAsk ask) = entry.Put (lane.Ask submitter) (item.Ask ask) ∷ []
submitter_does submitter (TakesTell tell) = entry.Take (lane.Tell submitter) (item.Tell tell) ∷ []

-- ---- all of them

-- a case of one of the parties
pub data Open : Type 0 where
  ByHost : (c : HostCase) → Open
  ByIoc : (c : IocCase) → Open
  ByFabric : (c : FabricCase) → Open
  BySubmitter : (submitter : ℕ) (c : SubmitterCase) → Open

-- the entries of a list of cases, in which each party goes by itself
abbrev pub open_trace : Host → Ioc → Fabric → List Open → List Entry
open_trace host ioc fabric [] = []
open_trace host ioc fabric (ByHost c ∷ cs) = (host_does host c).entries ++ open_trace (host_does host c).part ioc fabric cs
open_trace host ioc fabric (ByIoc c ∷ cs) = (ioc_does ioc c).entries ++ open_trace host (ioc_does ioc c).part fabric cs
open_trace host ioc fabric (ByFabric c ∷ cs) = (fabric_does fabric c).entries ++ open_trace host ioc (fabric_does fabric c).part cs
open_trace host ioc fabric (BySubmitter i c ∷ cs) = submitter_does i c ++ open_trace host ioc fabric cs
