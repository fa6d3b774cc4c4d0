-- Journals, block by block, and their merge by stamps.
use Rattle.std.specs.Prelude.{ℕ, ◌+◌, ◌<◌, ◌==◌, ◌≡◌, nat_lt, nat_le, Bool, true, false, ◌&&◌, ◌||◌, List, [], ◌∷◌, filter_map, flat_map, Option, Some, None, if◌then◌else◌}
use Rattle.mpt_trace.specs.declared.entry.Entry.{Entry}
use Rattle.mpt_trace.specs.declared.entry.Entry.TheVariants as entry
use Rattle.mpt_trace.specs.declared.item.Item.{Item}
use Rattle.mpt_trace.specs.declared.lane.LaneName.{LaneName}
use Rattle.mpt_wire.specs.Queues.Lanes.{same_lane}
use Rattle.mpt_trace.specs.declared.parties.Party.{Party}
use Rattle.mpt_trace.specs.declared.parties.Party.TheVariants as party
use Rattle.mpt_rules.specs.Host.Parts.{Host}
use Rattle.mpt_rules.specs.Ioc.Parts.{Ioc}
use Rattle.mpt_rules.specs.Fabric.Parts.{Fabric}
use Rattle.mpt_rules.specs.Session.OpenCases.{HostCase, IocCase, FabricCase, SubmitterCase, Open, ByHost, ByIoc, ByFabric, BySubmitter, host_does, ioc_does, fabric_does, submitter_does}

-- the value of a moment of a party's clock
pub record At (X : Type 0) : Type 0 where
  pub stamp : ℕ
  pub value : X

-- the entries of one case of a party, which have one stamp
abbrev pub Block : Type 0
Block = At (List Entry)

-- ---- the journals of the parties

-- the blocks of the host's cases
abbrev pub host_journal : Host → List (At HostCase) → List Block
host_journal host [] = []
host_journal host (c ∷ cs) = record { stamp = c.stamp; value = (host_does host c.value).entries } ∷ host_journal (host_does host c.value).part cs

-- the blocks of the controller's cases
abbrev pub ioc_journal : Ioc → List (At IocCase) → List Block
ioc_journal ioc [] = []
ioc_journal ioc (c ∷ cs) = record { stamp = c.stamp; value = (ioc_does ioc c.value).entries } ∷ ioc_journal (ioc_does ioc c.value).part cs

-- the blocks of the fabric's cases
abbrev pub fabric_journal : Fabric → List (At FabricCase) → List Block
fabric_journal fabric [] = []
fabric_journal fabric (c ∷ cs) = record { stamp = c.stamp; value = (fabric_does fabric c.value).entries } ∷ fabric_journal (fabric_does fabric c.value).part cs

-- the blocks of a submitter's cases
abbrev pub submitter_journal : ℕ → List (At SubmitterCase) → List Block
submitter_journal submitter [] = []
submitter_journal submitter (c ∷ cs) = record { stamp = c.stamp; value = submitter_does submitter c.value } ∷ submitter_journal submitter cs

-- the host's cases as cases of any party
abbrev pub host_moments : List (At HostCase) → List (At Open)
host_moments [] = []
host_moments (c ∷ cs) = record { stamp = c.stamp; value = ByHost c.value } ∷ host_moments cs

-- the controller's cases as cases of any party
abbrev pub ioc_moments : List (At IocCase) → List (At Open)
ioc_moments [] = []
ioc_moments (c ∷ cs) = record { stamp = c.stamp; value = ByIoc c.value } ∷ ioc_moments cs

-- the fabric's cases as cases of any party
abbrev pub fabric_moments : List (At FabricCase) → List (At Open)
fabric_moments [] = []
fabric_moments (c ∷ cs) = record { stamp = c.stamp; value = ByFabric c.value } ∷ fabric_moments cs

-- a submitter's cases as cases of any party
abbrev pub by_submitter : ℕ → List (At SubmitterCase) → List (At Open)
by_submitter submitter [] = []
by_submitter submitter (c ∷ cs) = record { stamp = c.stamp; value = BySubmitter submitter c.value } ∷ by_submitter submitter cs

-- ---- the merge

-- a party's number
abbrev pub party_number : Party → ℕ
party_number party.Host = 0
party_number party.Ioc = 1
party_number party.Fabric = 2
party_number (party.Submitter i) = 3 + i

-- the value of a moment of the party of a number
pub record Of (X : Type 0) : Type 0 where
  pub number : ℕ
  pub at : At X

-- the first moment isn't after the second: stamps decide, and where they are equal the numbers of the parties
abbrev pub is_not_after : {X : Type 0} → Of X → Of X → Bool
is_not_after x y = nat_lt x.at.stamp y.at.stamp || (x.at.stamp == y.at.stamp && nat_le x.number y.number)

-- the moments of the party of a number
abbrev pub all_of : {X : Type 0} → ℕ → List (At X) → List (Of X)
all_of number [] = []
all_of number (x ∷ xs) = record { number = number; at = x } ∷ all_of number xs

-- x goes before the first of ys that it isn't after, and what is left of both follows
abbrev pub placed : {X : Type 0} → Of X → (List (Of X) → List (Of X)) → List (Of X) → List (Of X)
placed x others [] = x ∷ others []
placed x others (y ∷ ys) = if is_not_after x y then x ∷ others (y ∷ ys) else y ∷ placed x others ys

-- two lists of rising moments in one
abbrev pub merged : {X : Type 0} → List (Of X) → List (Of X) → List (Of X)
merged [] ys = ys
merged (x ∷ xs) ys = placed x (merged xs) ys

-- the moments of one party
pub record Row (X : Type 0) : Type 0 where
  pub party : Party
  pub moments : List (At X)

-- the moments of all parties in one list, by rising stamp and party number
abbrev pub all_merged : {X : Type 0} → List (Row X) → List (Of X)
all_merged [] = []
all_merged (row ∷ rows) = merged (all_of (party_number row.party) row.moments) (all_merged rows)

-- the values of moments, in order
abbrev pub moment_values : {X : Type 0} → List (Of X) → List X
moment_values [] = []
moment_values (x ∷ xs) = x.at.value ∷ moment_values xs

-- the entries of a block
abbrev pub entries_of : Of (List Entry) → List Entry
entries_of block = block.at.value

-- the merge of journals: all their entries by rising stamp and party number, each block whole
abbrev pub merge : List (Row (List Entry)) → List Entry
merge journals = flat_map entries_of (all_merged journals)

-- ---- stamps

-- the first moment of a list is later than a stamp
abbrev pub Later : {X : Type 0} → ℕ → List (At X) → Type 0
Later stamp [] = Unit {0}
Later stamp (x ∷ xs) = stamp < x.stamp

-- stamps strictly rise from moment to moment
abbrev pub Rises : {X : Type 0} → List (At X) → Type 0
Rises [] = Unit {0}
Rises (x ∷ xs) = Later x.stamp xs × Rises xs

-- ---- what was put on a lane, and what was taken from it, with the stamps of their entries

-- the lanes are the same
abbrev pub at_if : Bool → ℕ → Item → Option (At Item)
at_if true stamp item = Some (record { stamp = stamp; value = item })
at_if false stamp item = None

-- the item that an entry puts on a lane, if it puts one there
abbrev pub put_in : LaneName → ℕ → Entry → Option (At Item)
put_in name stamp (entry.Put lane item) = at_if (same_lane name lane) stamp item
put_in name stamp _ = None

-- the item that an entry takes from a lane, if it takes one there
abbrev pub taken_in : LaneName → ℕ → Entry → Option (At Item)
taken_in name stamp (entry.Take lane item) = at_if (same_lane name lane) stamp item
taken_in name stamp _ = None

-- the items that a journal puts on a lane
abbrev pub puts_of : LaneName → List Block → List (At Item)
puts_of name journal = flat_map (λ (block : Block). filter_map (put_in name block.stamp) block.value) journal

-- the items that a journal takes from a lane
abbrev pub takes_of : LaneName → List Block → List (At Item)
takes_of name journal = flat_map (λ (block : Block). filter_map (taken_in name block.stamp) block.value) journal

-- the takes are of the first items that were put, in order, each with a greater stamp than its item's
abbrev pub TakesFollow : List (At Item) → List (At Item) → Type 0
TakesFollow puts [] = Unit {0}
TakesFollow [] (t ∷ takes) = ⊥
TakesFollow (p ∷ puts) (t ∷ takes) = (p.value ≡ t.value) × (p.stamp < t.stamp) × TakesFollow puts takes
