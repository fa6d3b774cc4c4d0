-- Where each party does what the plan says, the trace of the session fits the plan: each part of a plan speaks of the
-- entries of one party, which are its journal.
use Rattle.std.proofs.Common.{◌≡◌, ◌≢◌, ℕ, ◌+◌, ◌≤◌, ◌==◌, Bool, true, false, if◌then◌else◌, List, [], ◌∷◌, ◌++◌, length, map, Option, Some, None, refl, ap, sym, subst, ◌∙◌, arith}
use Rattle.std.specs.Prelude.{All, filter, filter_map}
use Rattle.std.specs.List.{cons_option, find}
use Rattle.std.proofs.lemmas.Bool.Decides.{nat_tests}
use Rattle.std.proofs.lemmas.List.{length-map}
use Rattle.std.proofs.lemmas.List.Elements.{All-cons, All-head, All-nil, All-tail}
use Rattle.mpt_trace.specs.Parties.{party_of, putter}
use Rattle.mpt_trace.specs.declared.entry.Entry.{Entry}
use Rattle.mpt_trace.specs.declared.entry.Entry.TheVariants as entry
use Rattle.mpt_trace.specs.declared.input.Input.{Input}
use Rattle.mpt_trace.specs.declared.input.Input.TheVariants as input
use Rattle.mpt_trace.specs.declared.item.Item.{Item}
use Rattle.mpt_trace.specs.declared.lane.LaneName.{LaneName}
use Rattle.mpt_trace.specs.declared.lane.LaneName.TheVariants as lane
use Rattle.mpt_trace.specs.declared.parties.Party.{Party}
use Rattle.mpt_trace.specs.declared.parties.Party.TheVariants as party
use Rattle.mpt_wire.specs.Fits.Plan.{AsksAreDone, AsksPut, FitsPlan, IsDoneNext, NoMoreAsks, Order, TellsPut, asks_of, input_of, line_asked, tell_of}
use Rattle.mpt_wire.specs.Queues.Lanes.{put_on_lane, same_lane}
use Rattle.mpt_wire.specs.Walks.Ahead.{is_of, next_own, same_party}
use Rattle.mpt_rules.specs.Fabric.Parts.{new_fabric}
use Rattle.mpt_rules.specs.Host.Parts.{new_host}
use Rattle.mpt_rules.specs.Ioc.Parts.{new_ioc}
use Rattle.mpt_rules.specs.Session.Journals.{At, Row, all_merged, fabric_journal, host_journal, ioc_journal, moment_values, party_number, submitter_journal}
use Rattle.mpt_rules.specs.Session.OpenCases.{PutsAsk, SubmitterCase, TakesTell, submitter_does}
use Rattle.mpt_rules.specs.Session.Parts.{Follows, IsPartOf, ask_put, entries_in}
use Rattle.mpt_rules.specs.Session.Sessions.{IsSession, Session, journals, session_trace, submitter_rows}
use Rattle.mpt_rules.specs.World.Settings.{Setting}
use Rattle.mpt_journal.specs.Laws.{AreOfOthers, by_entries}
use Rattle.mpt_journal.proofs.Cases.{cases_are_shown, others-entries, own-entries}
use Rattle.mpt_journal.proofs.Parts.{filter-values, own-none}
use Rattle.mpt_journal.proofs.Whole.{merge-entries}
use Rattle.law_parties.proofs.InPlace.{party_same}
use Rattle.law_sessions.proofs.Blocks.{session_in_place, session_no_idle}
use Rattle.law_sessions.proofs.Journals.{journals_differ, journals_own, journals_rise}
use Rattle.law_sessions.proofs.Lanes.{lane_same}

-- ---- what is picked of a party's entries alone

module _ {Y : Type 0} (p : Party) (pick : Entry → Option Y) (none : (e : Entry) → is_of p e ≡ false → pick e ≡ None) where
  -- is picked of its part
  picked_of : (t : List Entry) → filter_map pick t ≡ filter_map pick (filter (is_of p) t)
  picked_of [] = refl
  picked_of (e ∷ t) = by_party (is_of p e) refl (picked_of t)
    where
      by_party : (b : Bool) → is_of p e ≡ b → filter_map pick t ≡ filter_map pick (filter (is_of p) t) → cons_option (pick e) (filter_map pick t) ≡ filter_map pick (if b then e ∷ filter (is_of p) t else filter (is_of p) t)
      by_party true q ih = ap (λ (zs : List Y). cons_option (pick e) zs) ih
      by_party false q ih = ap (λ (o : Option Y). cons_option o (filter_map pick t)) (none e q) ∙ ih

party_itself : (p : Party) → same_party p p ≡ true
party_itself party.Host = refl
party_itself party.Ioc = refl
party_itself party.Fabric = refl
party_itself (party.Submitter i) = grind (arith, nat_tests)

-- the party's input
input_other : (p : Party) (e : Entry) → is_of p e ≡ false → input_of p e ≡ None
input_other p (entry.Given given) h = rw h refl
input_other p _ h = refl

-- the line that the host takes
line_other : (e : Entry) → is_of party.Host e ≡ false → line_asked e ≡ None
line_other (entry.Take (lane.Ask i) x) h = absurd (cc)
line_other (entry.Take _ x) h = refl
line_other _ h = refl

-- what is put on a lane
put_other : (name : LaneName) (e : Entry) → is_of (putter name) e ≡ false → put_on_lane name e ≡ None
put_other name (entry.Put l item) h = by_lane (same_lane l name) refl
  where
    by_lane : (b : Bool) → same_lane l name ≡ b → (if b then Some item else None) ≡ None
    by_lane false t = refl
    by_lane true t =
        let same : l ≡ name = lane_same l name t in
        let own : same_party (putter name) (putter name) ≡ true = party_itself (putter name) in
        absurd (let z : same_party (putter name) (putter name) ≡ false = subst (λ (k : LaneName). same_party (putter k) (putter name) ≡ false) same h in cc)
put_other name _ h = refl

-- what a submitter is told
tell_other : (lines : List Input) (e : Entry) → is_of party.Host e ≡ false → tell_of lines e ≡ None
tell_other lines (entry.Answer n outcome) h = absurd (cc)
tell_other lines (entry.RefuseSubmit n cause) h = absurd (cc)
tell_other lines _ h = refl

-- ---- the host's next entry

find_own : (p : Party) (t : List Entry) → find (is_of p) (filter (is_of p) t) ≡ find (is_of p) t
find_own p [] = refl
find_own p (e ∷ t) = by_party (is_of p e) refl (find_own p t)
  where
    by_party : (b : Bool) → is_of p e ≡ b → find (is_of p) (filter (is_of p) t) ≡ find (is_of p) t
        → find (is_of p) (if b then e ∷ filter (is_of p) t else filter (is_of p) t) ≡ (if b then Some e else find (is_of p) t)
    by_party true q ih = rw q refl
    by_party false q ih = ih

-- of the host's part, so of the trace
done_ahead : (t : List Entry) → AsksAreDone (filter (is_of party.Host) t) → AsksAreDone t
done_ahead [] d = tt
done_ahead (e ∷ t) d = by_party (is_of party.Host e) refl d (λ z. done_ahead t z)
  where
    by_party : (b : Bool) → is_of party.Host e ≡ b → AsksAreDone (if b then e ∷ filter (is_of party.Host) t else filter (is_of party.Host) t) → (AsksAreDone (filter (is_of party.Host) t) → AsksAreDone t)
        → IsDoneNext (line_asked e) (next_own e t) × AsksAreDone t
    by_party true q d ih =
        let host : party_of e ≡ party.Host = party_same (party_of e) party.Host q in
        let same : next_own e (filter (is_of party.Host) t) ≡ next_own e t = subst (λ (r : Party). find (is_of r) (filter (is_of party.Host) t) ≡ find (is_of r) t) (sym host) (find_own party.Host t) in
        (subst (IsDoneNext (line_asked e)) same d.0, ih d.1)
    by_party false q d ih = (subst (λ (o : Option Input). IsDoneNext o (next_own e t)) (sym (line_other e q)) tt, ih d)

-- ---- what a submitter asks

asked_first : (i stamp : ℕ) (v : SubmitterCase) (rest : List Entry) (cases : List (At SubmitterCase)) → filter_map (put_on_lane (lane.Ask i)) rest ≡ filter_map ask_put cases
    → filter_map (put_on_lane (lane.Ask i)) (submitter_does i v ++ rest) ≡ cons_option (ask_put (record { stamp = stamp; value = v })) (filter_map ask_put cases)
asked_first i stamp (PutsAsk ask) rest cases e =
    let same : (i == i) ≡ true = grind (arith, nat_tests) in
    rw same (ap (λ (zs : List Item). Rattle.mpt_trace.specs.declared.item.Item.TheVariants.Ask ask ∷ zs) e)
asked_first i stamp (TakesTell tell) rest cases e = e

puts_asked : (i : ℕ) (cases : List (At SubmitterCase)) → filter_map (put_on_lane (lane.Ask i)) (entries_in (submitter_journal i cases)) ≡ filter_map ask_put cases
puts_asked i [] = refl
puts_asked i (c ∷ cs) = asked_first i c.stamp c.value (entries_in (submitter_journal i cs)) cs (puts_asked i cs)

asks_put : (t : List Entry) (i : ℕ) (xs : List (List (At SubmitterCase))) (os : List (List Input)) → map (filter_map ask_put) xs ≡ map asks_of os → All (IsPartOf t) (submitter_rows i xs) → AsksPut i os t
asks_put t i xs [] e h = tt
asks_put t i [] (lines ∷ os) e h = absurd (cc)
asks_put t i (cases ∷ xs) (lines ∷ os) e h =
    let row : Row (List Entry) = record { party = party.Submitter i; moments = submitter_journal i cases } in
    let part : filter (is_of (party.Submitter i)) t ≡ entries_in (submitter_journal i cases) = All-head (IsPartOf t) row (submitter_rows (i + 1) xs) h in
    let first : filter_map ask_put cases ≡ asks_of lines = cc in
    let others : map (filter_map ask_put) xs ≡ map asks_of os = cc in (
      picked_of (party.Submitter i) (put_on_lane (lane.Ask i)) (put_other (lane.Ask i)) t ∙ (ap (filter_map (put_on_lane (lane.Ask i))) part ∙ (puts_asked i cases ∙ first)),
      asks_put t (i + 1) xs os others (All-tail (IsPartOf t) row (submitter_rows (i + 1) xs) h),
    )

-- a submitter that isn't there has none of the rows
higher_apart : (k i : ℕ) (xs : List (List (At SubmitterCase))) → i + length xs ≤ k → AreOfOthers (party.Submitter k) (submitter_rows i xs)
higher_apart k i [] l = All-nil (λ (r : Row (List Entry)). party_number r.party ≢ party_number (party.Submitter k))
higher_apart k i (cases ∷ rest) l =
    All-cons (λ (r : Row (List Entry)). party_number r.party ≢ party_number (party.Submitter k)) (record { party = party.Submitter i; moments = submitter_journal i cases }) (submitter_rows (i + 1) rest)
    (omega (arith, l)) (higher_apart k (i + 1) rest (omega (arith, l)))

-- ---- a session

module _ (s : Setting) (x : Session) (h : IsSession s x) where
  abbrev host_row : Row (List Entry)
  host_row = record { party = party.Host; moments = host_journal (new_host s.queues) x.host }

  abbrev ioc_row : Row (List Entry)
  ioc_row = record { party = party.Ioc; moments = ioc_journal (new_ioc s.phys s.queues) x.ioc }

  abbrev fabric_row : Row (List Entry)
  fabric_row = record { party = party.Fabric; moments = fabric_journal (new_fabric s.disks s.phys) x.fabric }

  abbrev rows : List (Row (List Entry))
  rows = submitter_rows 0 x.submitters

  abbrev by_host : List Entry
  by_host = entries_in (host_journal (new_host s.queues) x.host)

  abbrev by_fabric : List Entry
  by_fabric = entries_in (fabric_journal (new_fabric s.disks s.phys) x.fabric)

  parts : All (IsPartOf (session_trace s x)) (journals s x)
  parts = cases_are_shown (journals s x) (journals_differ s x) (journals_rise s x h) (journals_own s x)

  host_part : filter (is_of party.Host) (session_trace s x) ≡ by_host
  host_part = All-head (IsPartOf (session_trace s x)) host_row (ioc_row ∷ fabric_row ∷ rows) parts

  behind_host : All (IsPartOf (session_trace s x)) (ioc_row ∷ fabric_row ∷ rows)
  behind_host = All-tail (IsPartOf (session_trace s x)) host_row (ioc_row ∷ fabric_row ∷ rows) parts

  behind_ioc : All (IsPartOf (session_trace s x)) (fabric_row ∷ rows)
  behind_ioc = All-tail (IsPartOf (session_trace s x)) ioc_row (fabric_row ∷ rows) behind_host

  fabric_part : filter (is_of party.Fabric) (session_trace s x) ≡ by_fabric
  fabric_part = All-head (IsPartOf (session_trace s x)) fabric_row rows behind_ioc

  submitter_parts : All (IsPartOf (session_trace s x)) rows
  submitter_parts = All-tail (IsPartOf (session_trace s x)) fabric_row rows behind_ioc

  -- what is picked of the host's entries alone
  of_host : {Y : Type 0} (pick : Entry → Option Y) → ((e : Entry) → is_of party.Host e ≡ false → pick e ≡ None) → filter_map pick (session_trace s x) ≡ filter_map pick by_host
  of_host pick none = picked_of party.Host pick none (session_trace s x) ∙ ap (filter_map pick) host_part

  -- a party without a journal has no entry
  none_of : (p : Party) → AreOfOthers p (journals s x) → filter (is_of p) (session_trace s x) ≡ []
  none_of p others =
      let entries : List (Row Entry) = map by_entries (journals s x) in
      ap (filter (is_of p)) (sym (merge-entries (journals s x) (journals_rise s x h)))
      ∙ (filter-values p (all_merged entries) ∙ ap moment_values (own-none p entries (others-entries p (journals s x) others) (own-entries (journals s x) (journals_own s x))))

  others_than : (k : ℕ) → length x.submitters ≤ k → AreOfOthers (party.Submitter k) (journals s x)
  others_than k l =
      All-cons (λ (r : Row (List Entry)). party_number r.party ≢ party_number (party.Submitter k)) host_row (ioc_row ∷ fabric_row ∷ rows) (omega arith)
      (All-cons (λ (r : Row (List Entry)). party_number r.party ≢ party_number (party.Submitter k)) ioc_row (fabric_row ∷ rows) (omega arith)
      (All-cons (λ (r : Row (List Entry)). party_number r.party ≢ party_number (party.Submitter k)) fabric_row rows (omega arith) (higher_apart k 0 x.submitters (omega (arith, l)))))

  tells_put : (i : ℕ) (os : List (List Input)) → TellsPut i os by_host → TellsPut i os (session_trace s x)
  tells_put i [] f = tt
  tells_put i (lines ∷ os) f = (
    of_host (put_on_lane (lane.Tell i)) (put_other (lane.Tell i)) ∙ (f.0 ∙ sym (of_host (tell_of lines) (tell_other lines))),
    tells_put (i + 1) os f.1,
  )

  module _ (order : Order) (f : Follows order s x) where
    as_many : length x.submitters ≡ length order.submitters
    as_many = sym (length-map x.submitters (filter_map ask_put)) ∙ (ap length f.asks ∙ length-map order.submitters asks_of)

    no_more : NoMoreAsks (length order.submitters) (session_trace s x)
    no_more i =
        let k : ℕ = length order.submitters + i in
        let many = as_many in (
          picked_of (party.Submitter k) (put_on_lane (lane.Ask k)) (put_other (lane.Ask k)) (session_trace s x) ∙ ap (filter_map (put_on_lane (lane.Ask k))) (none_of (party.Submitter k) (others_than k (omega (arith, many)))),
          of_host (put_on_lane (lane.Tell k)) (put_other (lane.Tell k)) ∙ (f.no_more i).1,
        )

    fits : FitsPlan order (session_trace s x)
    fits =
        record {
          asks = asks_put (session_trace s x) 0 x.submitters order.submitters f.asks submitter_parts;
          no_more = no_more;
          host = of_host (input_of party.Host) (input_other party.Host) ∙ (f.host ∙ ap (λ (zs : List Input). input.Start ∷ zs) (sym (of_host line_asked line_other)));
          next = done_ahead (session_trace s x) (subst AsksAreDone (sym host_part) f.next);
          fabric = picked_of party.Fabric (input_of party.Fabric) (input_other party.Fabric) (session_trace s x) ∙ (ap (filter_map (input_of party.Fabric)) fabric_part ∙ f.fabric);
          tells = tells_put 0 order.submitters f.tells;
          no_idle = session_no_idle s x;
          in_place = session_in_place s x;
        }

pub plans_law : (s : Setting) (x : Session) (order : Order) → IsSession s x → Follows order s x → FitsPlan order (session_trace s x)
plans_law s x order h f = fits s x h order f
