-- The journals of a session: they are of different parties, their stamps rise, and each has its own party's entries; so
-- their merge is sorted, and each party's part of it is its journal.
use Rattle.std.proofs.Common.{◌≡◌, ◌≢◌, ℕ, ◌+◌, ◌<◌, true, List, [], ◌∷◌, arith}
use Rattle.std.specs.Prelude.{All}
use Rattle.std.proofs.lemmas.List.Elements.{All-cons, All-head, All-nil, All-tail, All-weaker}
use Rattle.mpt_trace.specs.declared.entry.Entry.{Entry}
use Rattle.mpt_trace.specs.declared.parties.Party.{Party}
use Rattle.mpt_trace.specs.declared.parties.Party.TheVariants as party
use Rattle.mpt_rules.specs.Fabric.Parts.{Fabric, new_fabric}
use Rattle.mpt_rules.specs.Host.Parts.{Host, new_host}
use Rattle.mpt_rules.specs.Ioc.Parts.{Ioc, new_ioc}
use Rattle.mpt_rules.specs.Session.Journals.{At, Block, Rises, Row, fabric_journal, host_journal, ioc_journal, party_number, submitter_journal}
use Rattle.mpt_rules.specs.Session.OpenCases.{FabricCase, HostCase, IocCase, SubmitterCase, fabric_does, host_does, ioc_does, submitter_does}
use Rattle.mpt_rules.specs.Session.Parts.{IsMerged}
use Rattle.mpt_rules.specs.Session.Sessions.{IsSession, Session, journals, submitter_rows}
use Rattle.mpt_rules.specs.World.Settings.{Setting}
use Rattle.mpt_journal.specs.Laws.{AreOfOthers, CasesRise, HasOwnCases, PartiesDiffer, StampsNeverFall}
use Rattle.mpt_journal.proofs.Cases.{cases_are_shown}
use Rattle.mpt_journal.proofs.Stamps.{merged_by_stamp}
use Rattle.mpt_journal.proofs.Whole.{never_falls}
use Rattle.law_parties.proofs.InPlace.{Opens, fabric_opens, host_opens, ioc_opens, submitter_opens}
use Rattle.law_parties.proofs.Owned.{AreOwned, IsOwned, fabric_owned, host_owned, ioc_owned, own_of, submitter_owned}
use Rattle.mpt_wire.specs.Walks.Ahead.{is_of}

-- ---- the stamps of a journal rise

host_rises : (host : Host) (cs : List (At HostCase)) → Rises cs → Rises (host_journal host cs)
host_rises host [] h = tt
host_rises host (c ∷ []) h = (tt, tt)
host_rises host (c ∷ d ∷ cs) h = (h.0, host_rises (host_does host c.value).part (d ∷ cs) h.1)

ioc_rises : (ioc : Ioc) (cs : List (At IocCase)) → Rises cs → Rises (ioc_journal ioc cs)
ioc_rises ioc [] h = tt
ioc_rises ioc (c ∷ []) h = (tt, tt)
ioc_rises ioc (c ∷ d ∷ cs) h = (h.0, ioc_rises (ioc_does ioc c.value).part (d ∷ cs) h.1)

fabric_rises : (fabric : Fabric) (cs : List (At FabricCase)) → Rises cs → Rises (fabric_journal fabric cs)
fabric_rises fabric [] h = tt
fabric_rises fabric (c ∷ []) h = (tt, tt)
fabric_rises fabric (c ∷ d ∷ cs) h = (h.0, fabric_rises (fabric_does fabric c.value).part (d ∷ cs) h.1)

submitter_rises : (submitter : ℕ) (cs : List (At SubmitterCase)) → Rises cs → Rises (submitter_journal submitter cs)
submitter_rises submitter [] h = tt
submitter_rises submitter (c ∷ []) h = (tt, tt)
submitter_rises submitter (c ∷ d ∷ cs) h = (h.0, submitter_rises submitter (d ∷ cs) h.1)

rows_rise : (i : ℕ) (xs : List (List (At SubmitterCase))) → All (λ cases. Rises cases) xs → All CasesRise (submitter_rows i xs)
rows_rise i [] h = All-nil CasesRise
rows_rise i (cases ∷ rest) h =
    All-cons CasesRise (record { party = party.Submitter i; moments = submitter_journal i cases }) (submitter_rows (i + 1) rest)
    (submitter_rises i cases (All-head (λ (cs : List (At SubmitterCase)). Rises cs) cases rest h))
    (rows_rise (i + 1) rest (All-tail (λ (cs : List (At SubmitterCase)). Rises cs) cases rest h))

-- ---- its entries are its party's, and the first of a case stands by itself

pub record IsWholeCase (party : Party) (block : Block) : Type 0 where
  pub owned : AreOwned party block.value
  pub opens : Opens block.value

pub host_whole : (host : Host) (cs : List (At HostCase)) → All (IsWholeCase party.Host) (host_journal host cs)
host_whole host [] = All-nil (IsWholeCase party.Host)
host_whole host (c ∷ cs) =
    All-cons (IsWholeCase party.Host) (record { stamp = c.stamp; value = (host_does host c.value).entries }) (host_journal (host_does host c.value).part cs)
    (record { owned = host_owned host c.value; opens = host_opens host c.value }) (host_whole (host_does host c.value).part cs)

pub ioc_whole : (ioc : Ioc) (cs : List (At IocCase)) → All (IsWholeCase party.Ioc) (ioc_journal ioc cs)
ioc_whole ioc [] = All-nil (IsWholeCase party.Ioc)
ioc_whole ioc (c ∷ cs) =
    All-cons (IsWholeCase party.Ioc) (record { stamp = c.stamp; value = (ioc_does ioc c.value).entries }) (ioc_journal (ioc_does ioc c.value).part cs)
    (record { owned = ioc_owned ioc c.value; opens = ioc_opens ioc c.value }) (ioc_whole (ioc_does ioc c.value).part cs)

pub fabric_whole : (fabric : Fabric) (cs : List (At FabricCase)) → All (IsWholeCase party.Fabric) (fabric_journal fabric cs)
fabric_whole fabric [] = All-nil (IsWholeCase party.Fabric)
fabric_whole fabric (c ∷ cs) =
    All-cons (IsWholeCase party.Fabric) (record { stamp = c.stamp; value = (fabric_does fabric c.value).entries }) (fabric_journal (fabric_does fabric c.value).part cs)
    (record { owned = fabric_owned fabric c.value; opens = fabric_opens fabric c.value }) (fabric_whole (fabric_does fabric c.value).part cs)

pub submitter_whole : (i : ℕ) (cs : List (At SubmitterCase)) → All (IsWholeCase (party.Submitter i)) (submitter_journal i cs)
submitter_whole i [] = All-nil (IsWholeCase (party.Submitter i))
submitter_whole i (c ∷ cs) =
    All-cons (IsWholeCase (party.Submitter i)) (record { stamp = c.stamp; value = submitter_does i c.value }) (submitter_journal i cs)
    (record { owned = submitter_owned i c.value; opens = submitter_opens i c.value }) (submitter_whole i cs)

-- all of a journal's cases are
abbrev pub HasWholeCases : Row (List Entry) → Type 0
HasWholeCases row = All (IsWholeCase row.party) row.moments

rows_whole : (i : ℕ) (xs : List (List (At SubmitterCase))) → All HasWholeCases (submitter_rows i xs)
rows_whole i [] = All-nil HasWholeCases
rows_whole i (cases ∷ rest) =
    All-cons HasWholeCases (record { party = party.Submitter i; moments = submitter_journal i cases }) (submitter_rows (i + 1) rest)
    (submitter_whole i cases) (rows_whole (i + 1) rest)

own_cases : (row : Row (List Entry)) → HasWholeCases row → HasOwnCases row
own_cases row h =
    All-weaker (IsWholeCase row.party) (λ (b : Block). All (λ (e : Entry). is_of row.party e ≡ true) b.value)
    (λ b w. All-weaker (IsOwned row.party) (λ (e : Entry). is_of row.party e ≡ true) (λ e o. own_of row.party e o) b.value w.owned) row.moments h

-- ---- no two are of one party

-- a party whose number is lower than those of the submitters from i on is none of them
lower_apart : (p : Party) (i : ℕ) (xs : List (List (At SubmitterCase))) → party_number p < 3 + i → AreOfOthers p (submitter_rows i xs)
lower_apart p i [] l = All-nil (λ (r : Row (List Entry)). party_number r.party ≢ party_number p)
lower_apart p i (cases ∷ rest) l =
    All-cons (λ (r : Row (List Entry)). party_number r.party ≢ party_number p) (record { party = party.Submitter i; moments = submitter_journal i cases }) (submitter_rows (i + 1) rest)
    (omega (arith, l)) (lower_apart p (i + 1) rest (omega (arith, l)))

rows_differ : (i : ℕ) (xs : List (List (At SubmitterCase))) → PartiesDiffer (submitter_rows i xs)
rows_differ i [] = tt
rows_differ i (cases ∷ rest) = (lower_apart (party.Submitter i) (i + 1) rest (omega arith), rows_differ (i + 1) rest)

-- ---- a session

module _ (s : Setting) (x : Session) where
  abbrev host_row : Row (List Entry)
  host_row = record { party = party.Host; moments = host_journal (new_host s.queues) x.host }

  abbrev ioc_row : Row (List Entry)
  ioc_row = record { party = party.Ioc; moments = ioc_journal (new_ioc s.phys s.queues) x.ioc }

  abbrev fabric_row : Row (List Entry)
  fabric_row = record { party = party.Fabric; moments = fabric_journal (new_fabric s.disks s.phys) x.fabric }

  abbrev other_rows : List (Row (List Entry))
  other_rows = submitter_rows 0 x.submitters

  pub journals_rise : IsSession s x → All CasesRise (journals s x)
  journals_rise h =
      All-cons CasesRise host_row (ioc_row ∷ fabric_row ∷ other_rows) (host_rises (new_host s.queues) x.host h.host)
      (All-cons CasesRise ioc_row (fabric_row ∷ other_rows) (ioc_rises (new_ioc s.phys s.queues) x.ioc h.ioc)
      (All-cons CasesRise fabric_row other_rows (fabric_rises (new_fabric s.disks s.phys) x.fabric h.fabric)
      (rows_rise 0 x.submitters h.submitters)))

  pub journals_whole : All HasWholeCases (journals s x)
  journals_whole =
      All-cons HasWholeCases host_row (ioc_row ∷ fabric_row ∷ other_rows) (host_whole (new_host s.queues) x.host)
      (All-cons HasWholeCases ioc_row (fabric_row ∷ other_rows) (ioc_whole (new_ioc s.phys s.queues) x.ioc)
      (All-cons HasWholeCases fabric_row other_rows (fabric_whole (new_fabric s.disks s.phys) x.fabric)
      (rows_whole 0 x.submitters)))

  pub journals_own : All HasOwnCases (journals s x)
  journals_own = All-weaker HasWholeCases HasOwnCases own_cases (journals s x) journals_whole

  apart_from : (p : Party) (row : Row (List Entry)) (rows : List (Row (List Entry))) → party_number row.party ≢ party_number p → AreOfOthers p rows → AreOfOthers p (row ∷ rows)
  apart_from p row rows differ rest = All-cons (λ (r : Row (List Entry)). party_number r.party ≢ party_number p) row rows differ rest

  pub journals_differ : PartiesDiffer (journals s x)
  journals_differ =
      let of_host : AreOfOthers party.Host (ioc_row ∷ fabric_row ∷ other_rows) =
      apart_from party.Host ioc_row (fabric_row ∷ other_rows) (omega arith) (apart_from party.Host fabric_row other_rows (omega arith) (lower_apart party.Host 0 x.submitters (omega arith))) in
      let of_ioc : AreOfOthers party.Ioc (fabric_row ∷ other_rows) = apart_from party.Ioc fabric_row other_rows (omega arith) (lower_apart party.Ioc 0 x.submitters (omega arith)) in
      (of_host, (of_ioc, (lower_apart party.Fabric 0 x.submitters (omega arith), rows_differ 0 x.submitters)))

pub merged : (s : Setting) (x : Session) → IsSession s x → IsMerged s x
merged s x h =
    let rises : All CasesRise (journals s x) = journals_rise s x h in
    record {
      sorted = merged_by_stamp (journals s x) (All-weaker CasesRise StampsNeverFall (λ row r. never_falls row.moments r) (journals s x) rises);
      parts = cases_are_shown (journals s x) (journals_differ s x) rises (journals_own s x);
    }
