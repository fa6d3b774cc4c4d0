-- Some session leaves the parties as their cases led them.
use Rattle.std.proofs.Common.{◌≡◌, ◌<◌, ◌∙◌, ◌+◌, ℕ, suc, List, [], ◌∷◌, ap, length, map, refl, subst, sym}
use Rattle.std.specs.Prelude.{All, flat_map}
use Rattle.std.proofs.lemmas.List.Elements.{All-cons, All-nil}
use Rattle.mpt_trace.specs.declared.entry.Entry.{Entry}
use Rattle.mpt_trace.specs.declared.parties.Party.{Party}
use Rattle.mpt_trace.specs.declared.parties.Party.TheVariants as party
use Rattle.mpt_rules.specs.Fabric.Parts.{Fabric, new_fabric}
use Rattle.mpt_rules.specs.Host.Parts.{Host, new_host}
use Rattle.mpt_rules.specs.Ioc.Parts.{Ioc, new_ioc}
use Rattle.mpt_rules.specs.Outcome.{Happening}
use Rattle.mpt_rules.specs.Session.Journals.{At, Block, Rises, Row, all_merged, all_of, fabric_journal, host_journal, ioc_journal, moment_values, party_number, submitter_journal}
use Rattle.mpt_rules.specs.Session.OpenCases.{FabricCase, HostCase, IocCase, SubmitterCase, fabric_does, host_does, ioc_does}
use Rattle.mpt_rules.specs.Session.Sessions.{IsFabricCase, IsHostCase, IsSession, Session, fabric_after, host_after, ioc_after, journals, submitter_rows}
use Rattle.mpt_rules.specs.World.Settings.{Setting}
use Rattle.mpt_journal.specs.Laws.{CasesRise, by_entries, each_of}
use Rattle.mpt_journal.proofs.Whole.{merge-entries}
use Rattle.mpt_live.specs.Recorded.{LeadsTo, Recorded, submitter_enters}
use Rattle.live_journals.specs.Parties.{IsEnteredInput, LeavesParties, PartiesLed, RecordedParties, SubmittersLed, first_recorded, rows_of_parties}
use Rattle.live_journals.proofs.Cases.{IsLed, StandFor, Stands, blocks_of, blocks_rise, is_led, left_by, stand_for}
use Rattle.live_journals.proofs.ToldCases.{fabric_stands, host_stands}
use Rattle.live_journals.proofs.Merged.{OfEach, of_blocks, of_rows}

-- ---- the journals and the ends of the rules

host_blocks : (host : Host) (cs : List (At HostCase)) → host_journal host cs ≡ blocks_of host_does host cs
host_blocks host [] = refl
host_blocks host (c ∷ cs) = ap (λ (bs : List Block). record { stamp = c.stamp; value = (host_does host c.value).entries } ∷ bs) (host_blocks (host_does host c.value).part cs)

ioc_blocks : (ioc : Ioc) (cs : List (At IocCase)) → ioc_journal ioc cs ≡ blocks_of ioc_does ioc cs
ioc_blocks ioc [] = refl
ioc_blocks ioc (c ∷ cs) = ap (λ (bs : List Block). record { stamp = c.stamp; value = (ioc_does ioc c.value).entries } ∷ bs) (ioc_blocks (ioc_does ioc c.value).part cs)

fabric_blocks : (fabric : Fabric) (cs : List (At FabricCase)) → fabric_journal fabric cs ≡ blocks_of fabric_does fabric cs
fabric_blocks fabric [] = refl
fabric_blocks fabric (c ∷ cs) = ap (λ (bs : List Block). record { stamp = c.stamp; value = (fabric_does fabric c.value).entries } ∷ bs) (fabric_blocks (fabric_does fabric c.value).part cs)

submitter_blocks : (i : ℕ) (cs : List (At SubmitterCase)) → submitter_journal i cs ≡ blocks_of (submitter_enters i) tt cs
submitter_blocks i [] = refl
submitter_blocks i (c ∷ cs) = ap (λ (bs : List Block). record { stamp = c.stamp; value = (submitter_enters i tt c.value).entries } ∷ bs) (submitter_blocks i cs)

host_left : (host : Host) (cs : List (At HostCase)) → host_after host cs ≡ left_by host_does host cs
host_left host [] = refl
host_left host (c ∷ cs) = host_left (host_does host c.value).part cs

ioc_left : (ioc : Ioc) (cs : List (At IocCase)) → ioc_after ioc cs ≡ left_by ioc_does ioc cs
ioc_left ioc [] = refl
ioc_left ioc (c ∷ cs) = ioc_left (ioc_does ioc c.value).part cs

fabric_left : (fabric : Fabric) (cs : List (At FabricCase)) → fabric_after fabric cs ≡ left_by fabric_does fabric cs
fabric_left fabric [] = refl
fabric_left fabric (c ∷ cs) = fabric_left (fabric_does fabric c.value).part cs

-- ---- one party

-- the cases of a session that leave a party so, with its journal
record Shown {P C : Type 0} (does : P → C → Happening P) (Fits : At C → Type 0) (party : Party) (first : P) (to : Recorded P) : Type 0 where
  pub cases : List (At C)
  pub rises : Rises cases
  pub fit : All Fits cases
  pub part : to.part ≡ left_by does first cases
  pub row : to.row ≡ by_entries (record { party = party; moments = blocks_of does first cases })

module _ {P C : Type 0} (does : P → C → Happening P) (Fits : At C → Type 0) (party : Party) (first : P) (to : Recorded P) where
  shown_by : (cases : List (At C)) → IsLed does (first_recorded first party) cases to → StandFor does Fits first cases → Shown does Fits party first to
  shown_by cases led s = record {
    cases = s.cases;
    rises = s.rises led.rises;
    fit = s.fit;
    part = led.part ∙ sym s.left;
    row = led.row ∙ sym (ap (λ (bs : List Block). by_entries (record { party = party; moments = bs })) s.blocks);
  }

  shown : ((part : P) (c : At C) → All IsEnteredInput (does part c.value).entries → Stands does Fits part c)
      → LeadsTo does (first_recorded first party) to → OfEach IsEnteredInput (all_of (party_number to.row.party) to.row.moments) → Shown does Fits party first to
  shown stands led each =
      let is : IsLed does (first_recorded first party) led.cases to = is_led does (first_recorded first party) led.cases to led.led in
      let here : OfEach IsEnteredInput (all_of (party_number party) (flat_map each_of (blocks_of does first led.cases))) =
      subst (λ (row : Row Entry). OfEach IsEnteredInput (all_of (party_number row.party) row.moments)) is.row each in
      shown_by led.cases is
      (stand_for does Fits IsEnteredInput stands first led.cases (of_blocks IsEnteredInput (party_number party) (blocks_of does first led.cases) here))

-- ---- the controller and the submitters, which are told nothing

AnyCase : {C : Type 0} → At C → Type 0
AnyCase c = Unit {0}

any_stands : {P C : Type 0} (does : P → C → Happening P) (part : P) (c : At C) → All IsEnteredInput (does part c.value).entries → Stands does AnyCase part c
unfolding AnyCase
any_stands does part c h = record { other = c; fits = tt; stamp = refl; same = refl }

-- the submitters of a session from a number on
record SubmittersShown (i : ℕ) (rs : List (Recorded (Unit {0}))) : Type 0 where
  pub cases : List (List (At SubmitterCase))
  pub rises : All (λ (cs : List (At SubmitterCase)). Rises cs) cases
  pub as_many : length cases ≡ length rs
  pub rows : map (λ (r : Recorded (Unit {0})). r.row) rs ≡ map by_entries (submitter_rows i cases)
  pub rows_rise : All CasesRise (submitter_rows i cases)

submitters_shown : (i : ℕ) (rs : List (Recorded (Unit {0}))) → SubmittersLed i rs → SubmittersShown i rs
submitters_shown i [] h = record { cases = []; rises = All-nil (λ (cs : List (At SubmitterCase)). Rises cs); as_many = refl; rows = refl; rows_rise = All-nil CasesRise }
submitters_shown i (r ∷ rs) h =
    let led : IsLed (submitter_enters i) (first_recorded tt (party.Submitter i)) h.0.cases r = is_led (submitter_enters i) (first_recorded tt (party.Submitter i)) h.0.cases r h.0.led in
    let others : SubmittersShown (i + 1) rs = submitters_shown (i + 1) rs h.1 in
    let row : Row (List Entry) = record { party = party.Submitter i; moments = submitter_journal i h.0.cases } in
    let blocks : submitter_journal i h.0.cases ≡ blocks_of (submitter_enters i) tt h.0.cases = submitter_blocks i h.0.cases in
    record {
      cases = h.0.cases ∷ others.cases;
      rises = All-cons (λ (cs : List (At SubmitterCase)). Rises cs) h.0.cases others.cases led.rises others.rises;
      as_many = ap suc others.as_many;
      rows = ap (λ (first : Row Entry). first ∷ map (λ (x : Recorded (Unit {0})). x.row) rs) (led.row ∙ sym (ap (λ (bs : List Block). by_entries (record { party = party.Submitter i; moments = bs })) blocks))
          ∙ ap (λ (rest : List (Row Entry)). by_entries row ∷ rest) others.rows;
      rows_rise = All-cons CasesRise row (submitter_rows (i + 1) others.cases)
          (subst (λ (bs : List Block). Rises bs) (sym blocks) (blocks_rise (submitter_enters i) tt h.0.cases led.rises)) others.rows_rise;
    }

-- ---- all of them

module _ (s : Setting) (p : RecordedParties)
    (a : Shown host_does IsHostCase party.Host (new_host s.queues) p.host)
    (b : Shown ioc_does AnyCase party.Ioc (new_ioc s.phys s.queues) p.ioc)
    (c : Shown fabric_does IsFabricCase party.Fabric (new_fabric s.disks s.phys) p.fabric)
    (d : SubmittersShown 0 p.submitters) where
  abbrev made : Session
  made = record { host = a.cases; ioc = b.cases; fabric = c.cases; submitters = d.cases }

  -- ---- its journals

  abbrev host_row : Row (List Entry)
  host_row = record { party = party.Host; moments = host_journal (new_host s.queues) a.cases }

  abbrev ioc_row : Row (List Entry)
  ioc_row = record { party = party.Ioc; moments = ioc_journal (new_ioc s.phys s.queues) b.cases }

  abbrev fabric_row : Row (List Entry)
  fabric_row = record { party = party.Fabric; moments = fabric_journal (new_fabric s.disks s.phys) c.cases }

  host_is : p.host.row ≡ by_entries host_row
  host_is = a.row ∙ sym (ap (λ (bs : List Block). by_entries (record { party = party.Host; moments = bs })) (host_blocks (new_host s.queues) a.cases))

  ioc_is : p.ioc.row ≡ by_entries ioc_row
  ioc_is = b.row ∙ sym (ap (λ (bs : List Block). by_entries (record { party = party.Ioc; moments = bs })) (ioc_blocks (new_ioc s.phys s.queues) b.cases))

  fabric_is : p.fabric.row ≡ by_entries fabric_row
  fabric_is = c.row ∙ sym (ap (λ (bs : List Block). by_entries (record { party = party.Fabric; moments = bs })) (fabric_blocks (new_fabric s.disks s.phys) c.cases))

  journals_are : rows_of_parties p ≡ map by_entries (journals s made)
  journals_are = λ i. host_is i ∷ ioc_is i ∷ fabric_is i ∷ d.rows i

  -- ---- their stamps

  host_rises : CasesRise host_row
  host_rises = subst (λ (bs : List Block). Rises bs) (sym (host_blocks (new_host s.queues) a.cases)) (blocks_rise host_does (new_host s.queues) a.cases a.rises)

  ioc_rises : CasesRise ioc_row
  ioc_rises = subst (λ (bs : List Block). Rises bs) (sym (ioc_blocks (new_ioc s.phys s.queues) b.cases)) (blocks_rise ioc_does (new_ioc s.phys s.queues) b.cases b.rises)

  fabric_rises : CasesRise fabric_row
  fabric_rises = subst (λ (bs : List Block). Rises bs) (sym (fabric_blocks (new_fabric s.disks s.phys) c.cases)) (blocks_rise fabric_does (new_fabric s.disks s.phys) c.cases c.rises)

  all_rise : All CasesRise (journals s made)
  all_rise =
      All-cons CasesRise host_row (ioc_row ∷ fabric_row ∷ submitter_rows 0 d.cases) host_rises
      (All-cons CasesRise ioc_row (fabric_row ∷ submitter_rows 0 d.cases) ioc_rises
      (All-cons CasesRise fabric_row (submitter_rows 0 d.cases) fabric_rises d.rows_rise))

  -- ---- the whole

  is_session : length p.submitters < 9 → IsSession s made
  is_session few = record {
    host = a.rises;
    ioc = b.rises;
    fabric = c.rises;
    submitters = d.rises;
    few_submitters = subst (λ n. n < 9) (sym d.as_many) few;
    told_host = a.fit;
    told_fabric = c.fit;
  }

  leaves : length p.submitters < 9 → LeavesParties s p made
  leaves few = record {
    session = is_session few;
    submitters = d.as_many;
    journals = journals_are;
    trace = ap (λ (rows : List (Row Entry)). moment_values (all_merged rows)) journals_are ∙ merge-entries (journals s made) all_rise;
    host = a.part ∙ sym (host_left (new_host s.queues) a.cases);
    ioc = b.part ∙ sym (ioc_left (new_ioc s.phys s.queues) b.cases);
    fabric = c.part ∙ sym (fabric_left (new_fabric s.disks s.phys) c.cases);
  }

pub session_of : (s : Setting) (p : RecordedParties) → PartiesLed s p → (x : Session) × LeavesParties s p x
session_of s p h =
    let each = of_rows IsEnteredInput (rows_of_parties p) h.inputs in
    let a : Shown host_does IsHostCase party.Host (new_host s.queues) p.host = shown host_does IsHostCase party.Host (new_host s.queues) p.host host_stands h.host each.0 in
    let b : Shown ioc_does AnyCase party.Ioc (new_ioc s.phys s.queues) p.ioc = shown ioc_does AnyCase party.Ioc (new_ioc s.phys s.queues) p.ioc (any_stands ioc_does) h.ioc each.1.0 in
    let c : Shown fabric_does IsFabricCase party.Fabric (new_fabric s.disks s.phys) p.fabric =
    shown fabric_does IsFabricCase party.Fabric (new_fabric s.disks s.phys) p.fabric fabric_stands h.fabric each.1.1.0 in
    let d : SubmittersShown 0 p.submitters = submitters_shown 0 p.submitters h.submitters in
    (made s p a b c d, leaves s p a b c d h.few)
