-- What is said of each party of a session by itself, and of the merge of their journals.
use Rattle.std.specs.Prelude.{◌≡◌, ◌<◌, ◌^◌, Bool, true, false, List, [], ◌∷◌, All, filter, filter_map, flat_map, length, map, Option, Some, None}
use Rattle.std.specs.List.{list_any}
use Rattle.mpi_doorbell.specs.DoorRegisters.{is_fault}
use Rattle.mpt_trace.specs.declared.entry.Entry.{Entry}
use Rattle.mpt_trace.specs.declared.input.Input.TheVariants as input
use Rattle.mpt_trace.specs.declared.item.Item.{Item}
use Rattle.mpt_trace.specs.declared.item.Item.TheVariants as item
use Rattle.mpt_trace.specs.declared.lane.LaneName.{LaneName}
use Rattle.mpt_wire.specs.Walks.Ahead.{is_of}
use Rattle.mpt_wire.specs.Fits.Plan.{AsksAreDone, FabricDoes, HostDoesAsks, NoMoreAsks, Order, TellsPut, asks_of}
use Rattle.mpt_rules.specs.Fabric.Parts.{new_fabric}
use Rattle.mpt_rules.specs.Host.Takes.{takes_up}
use Rattle.mpt_rules.specs.Host.Parts.{Host, new_host}
use Rattle.mpt_rules.specs.Ioc.Parts.{Ioc}
use Rattle.mpt_rules.specs.Session.Journals.{At, Block, Of, Row, TakesFollow, all_merged, fabric_journal, host_journal, is_not_after, puts_of, takes_of}
use Rattle.mpt_rules.specs.Session.OpenCases.{HostCase, IocCase, PutsAsk, SubmitterCase, TakesTell, host_does, ioc_does}
use Rattle.mpt_rules.specs.Session.Sessions.{Session, journals, session_trace}
use Rattle.mpt_rules.specs.World.Settings.{Setting}

-- ---- a party by itself

-- what the host takes in the case isn't strange
abbrev pub IsntStrange : Host → HostCase → Type 0
IsntStrange host (HostCase.Takes queue next) = (takes_up host queue next).answer ≡ None
IsntStrange host _ = Unit {0}

-- in none of the cases is it
abbrev pub NoneIsStrange : Host → List (At HostCase) → Type 0
NoneIsStrange host [] = Unit {0}
NoneIsStrange host (c ∷ cs) = IsntStrange host c.value × NoneIsStrange (host_does host c.value).part cs

-- the controller isn't in FAULT, before any of the cases and behind them
abbrev pub NoneFaults : Ioc → List (At IocCase) → Type 0
NoneFaults ioc [] = is_fault ioc.door.state ≡ false
NoneFaults ioc (c ∷ cs) = (is_fault ioc.door.state ≡ false) × NoneFaults (ioc_does ioc c.value).part cs

-- the controller behind cases, whatever they bring
abbrev pub ioc_behind : Ioc → List IocCase → Ioc
ioc_behind ioc [] = ioc
ioc_behind ioc (c ∷ cs) = ioc_behind (ioc_does ioc c).part cs

-- the host is told to start
abbrev pub is_start : At HostCase → Bool
is_start c = starts c.value
  where
    starts : HostCase → Bool
    starts (HostCase.Told input.Start) = true
    starts _ = false

abbrev pub IsStarted : Session → Type 0
IsStarted x = list_any is_start x.host ≡ true

-- ---- the plan

-- the entries of a journal, in order
abbrev pub entries_in : List Block → List Entry
entries_in journal = flat_map (λ (block : Block). block.value) journal

-- what a submitter asks
abbrev pub ask_put : At SubmitterCase → Option Item
ask_put c = put c.value
  where
    put : SubmitterCase → Option Item
    put (PutsAsk ask) = Some (item.Ask ask)
    put (TakesTell tell) = None

-- each party does by itself what the plan says: the submitters ask their lines, the host starts, does each line as it
-- takes it and tells each submitter of its own numbers, and the fabric does its own lines
pub record Follows (order : Order) (s : Setting) (x : Session) : Type 0 where
  pub asks : map (filter_map ask_put) x.submitters ≡ map asks_of order.submitters
  pub host : HostDoesAsks (entries_in (host_journal (new_host s.queues) x.host))
  pub next : AsksAreDone (entries_in (host_journal (new_host s.queues) x.host))
  pub tells : TellsPut 0 order.submitters (entries_in (host_journal (new_host s.queues) x.host))
  pub no_more : NoMoreAsks (length order.submitters) (entries_in (host_journal (new_host s.queues) x.host))
  pub fabric : FabricDoes order (entries_in (fabric_journal (new_fabric s.disks s.phys) x.fabric))

-- ---- the merge

-- each moment isn't after the next
abbrev pub IsByStamp : {X : Type 0} → List (Of X) → Type 0
IsByStamp [] = Unit {0}
IsByStamp (x ∷ []) = Unit {0}
IsByStamp (x ∷ y ∷ rest) = (is_not_after x y ≡ true) × IsByStamp (y ∷ rest)

-- a journal is the part of its party: its entries, in its order
abbrev pub IsPartOf : List Entry → Row (List Entry) → Type 0
IsPartOf t row = filter (is_of row.party) t ≡ entries_in row.moments

-- the cases stand by rising stamp and party, and each party's part of the trace is its journal in order. That the entries
-- of a case stand together is so by what a merge is: it is a list of whole cases
pub record IsMerged (s : Setting) (x : Session) : Type 0 where
  pub sorted : IsByStamp (all_merged (journals s x))
  pub parts : All (IsPartOf (session_trace s x)) (journals s x)

-- ---- stamps

-- every stamp is one that the clock of the lanes can have
abbrev pub IsStamp : {X : Type 0} → At X → Type 0
IsStamp c = c.stamp < 2 ^ 62

pub record StampsFit (x : Session) : Type 0 where
  pub host : All IsStamp x.host
  pub ioc : All IsStamp x.ioc
  pub fabric : All IsStamp x.fabric
  pub submitters : All (λ cases. All IsStamp cases) x.submitters

-- what all journals put on a lane, and what they take from it
abbrev pub puts_in : LaneName → List (Row (List Entry)) → List (At Item)
puts_in lane rows = flat_map (λ (row : Row (List Entry)). puts_of lane row.moments) rows

abbrev pub takes_in : LaneName → List (Row (List Entry)) → List (At Item)
takes_in lane rows = flat_map (λ (row : Row (List Entry)). takes_of lane row.moments) rows

-- what is taken from each lane was put there, in its order, and with a lesser stamp
abbrev pub TakesAreLater : Setting → Session → Type 0
TakesAreLater s x = (lane : LaneName) → TakesFollow (puts_in lane (journals s x)) (takes_in lane (journals s x))
