-- What holds of every world holds of the parties of a session, before each case and behind the last.
use Rattle.std.proofs.Common.{◌≡◌, ℕ, zero, suc, ◌+◌, false, List, [], ◌∷◌, Option, Some, None, refl, ap, sym, subst, ◌∙◌}
use Rattle.std.specs.Prelude.{All, filter_map, flat_map}
use Rattle.std.specs.List.{AllByRecursion, cons_option}
use Rattle.std.proofs.lemmas.List.{length-replicate}
use Rattle.std.proofs.lemmas.List.Elements.{All-from_recursion}
use Rattle.mpi_doorbell.specs.DoorRegisters.{is_fault}
use Rattle.mpt_trace.specs.declared.entry.Entry.{Entry}
use Rattle.mpt_trace.specs.declared.entry.Entry.TheVariants as entry
use Rattle.mpt_trace.specs.declared.item.Item.TheVariants as item
use Rattle.mpt_trace.specs.declared.item.Item.{Item}
use Rattle.mpt_trace.specs.declared.lane.LaneName.{LaneName}
use Rattle.mpt_trace.specs.declared.lane.LaneName.TheVariants as lane
use Rattle.mpt_trace.specs.declared.parties.Party.TheVariants as party
use Rattle.mpt_wire.specs.Queues.Lanes.{LaneAsks, LanesInOrder, lane_next}
use Rattle.mpt_wire.specs.Walks.Passes.{Passes}
use Rattle.mpt_wire.proofs.Lanes.{lanes_pass}
use Rattle.mpt_rules.specs.Host.Parts.{new_host}
use Rattle.mpt_rules.specs.Host.Takes.{takes_up}
use Rattle.mpt_rules.specs.Ioc.Parts.{new_ioc}
use Rattle.mpt_rules.specs.Law.{NothingFaults, NothingIsStrange, SessionsAreNeverStrange, SessionsNeverFault}
use Rattle.mpt_rules.specs.Outcome.{Happening}
use Rattle.mpt_rules.specs.Session.Journals.{At, Of, all_merged, all_of, by_submitter, entries_of, fabric_moments, host_moments, ioc_moments, merged, party_number}
use Rattle.mpt_rules.specs.Session.OpenCases.{ByFabric, ByHost, ByIoc, BySubmitter, FabricCase, HostCase, IocCase, Open, SubmitterCase}
use Rattle.mpt_rules.specs.Session.Parts.{IsntStrange, NoneFaults, NoneIsStrange}
use Rattle.mpt_rules.specs.Session.Sessions.{IsSession, Session, session_trace}
use Rattle.mpt_rules.specs.World.Cases.{Case, run}
use Rattle.mpt_rules.specs.World.Settings.{IsCase, OfEveryWorld, Setting, first_world}
use Rattle.mpt_rules.specs.World.State.{World, up_lane, up_on}
use Rattle.law_sessions.proofs.Blocks.{Each}
use Rattle.law_sessions.proofs.ClosedCases.{Closes, IsGiven, IsNone, IsOne, SameQueues, LanesTied, after, closes, first_up, parties_of}
use Rattle.law_sessions.proofs.Lanes.{picked_left, picked_right}
use Rattle.law_sessions.proofs.MergedCases.{Of_each, Parties, case_rows, does, done, first_parties, session_done, submitter_cases}
use Rattle.law_sessions.proofs.OfCases.{PassesAll, given_all, none_on, passes_behind, passes_front}

-- what is asked of the parties before each case, and behind the last
module _ (Q : Parties → Type 0) (S : Parties → Open → Type 0) where
  abbrev pub EachState : Parties → List (Of Open) → Type 0
  EachState p [] = Q p
  EachState p (m ∷ ms) = Q p × S p m.at.value × EachState (does p m.at.value).part ms

  module _ (P : World → Type 0) (state : (w : World) → P w → Q (parties_of w))
      (step : (g : LaneName → List Item) (w : World) (c : Open) → P w → SameQueues w → LanesTied g w → ((l : LaneName) → Passes (lane_next l) (LaneAsks l) (g l) (does (parties_of w) c).entries) → S (parties_of w) c) where
    all_states : (g : LaneName → List Item) (w : World) (ms : List (Of Open)) → ((cases : List Case) → AllByRecursion IsCase cases → P (run w cases)) → SameQueues w → LanesTied g w → Each (Of_each IsGiven) ms → PassesAll g (parties_of w) ms → EachState (parties_of w) ms
    all_states g w [] every same tied given asks = state w (every [] tt)
    all_states g w (m ∷ ms) every same tied given asks =
        let front : (l : LaneName) → Passes (lane_next l) (LaneAsks l) (g l) (does (parties_of w) m.at.value).entries =
        λ l. passes_front (lane_next l) (LaneAsks l) (g l) (does (parties_of w) m.at.value).entries (flat_map entries_of (done (does (parties_of w) m.at.value).part ms)) (asks l) in (
          state w (every [] tt),
          step g w m.at.value (every [] tt) same tied front,
          by_case (closes g w same tied m.at.value given.0 front) (λ v e k t a. all_states (after g (does (parties_of w) m.at.value).entries) v ms e k t given.1 a),
        )
      where
        behind : PassesAll (after g (does (parties_of w) m.at.value).entries) (does (parties_of w) m.at.value).part ms
        behind l = passes_behind (lane_next l) (LaneAsks l) (g l) (does (parties_of w) m.at.value).entries (flat_map entries_of (done (does (parties_of w) m.at.value).part ms)) (asks l)

        by_case : Closes g w (does (parties_of w) m.at.value)
            → ((v : World) → ((cases : List Case) → AllByRecursion IsCase cases → P (run v cases)) → SameQueues v → LanesTied (after g (does (parties_of w) m.at.value).entries) v → PassesAll (after g (does (parties_of w) m.at.value).entries) (parties_of v) ms → EachState (parties_of v) ms)
            → EachState (does (parties_of w) m.at.value).part ms
        by_case (IsNone part none t) ih =
            subst (λ (q : Parties). EachState q ms) (sym part) (ih w every same t (subst (λ (q : Parties). PassesAll (after g (does (parties_of w) m.at.value).entries) q ms) part behind))
        by_case (IsOne c r allowed is part told k t) ih =
            subst (λ (q : Parties). EachState q ms) part
            (ih r.part (λ cases a. subst (λ (o : Happening World). P (run o.part cases)) is (every (c ∷ cases) (allowed, a))) k t
            (subst (λ (q : Parties). PassesAll (after g (does (parties_of w) m.at.value).entries) q ms) (sym part) behind))

    pub session_states : (s : Setting) (x : Session) → IsSession s x → LanesInOrder (session_trace s x) → ((cases : List Case) → All IsCase cases → P (run (first_world s) cases)) → EachState (first_parties s) (all_merged (case_rows x))
    session_states s x h lanes every =
        let ms : List (Of Open) = all_merged (case_rows x) in
        let same : flat_map entries_of (done (first_parties s) ms) ≡ session_trace s x = ap (flat_map entries_of) (session_done s x) in
        all_states (λ l. []) (first_world s) ms (λ cases a. every cases (All-from_recursion IsCase cases a)) (length-replicate s.queues [] ∙ sym (length-replicate s.queues [])) (λ l k. none_on l s.queues) (given_all s x h)
        (λ l. subst (λ (t : List Entry). Passes (lane_next l) (LaneAsks l) [] t) (sym same) (lanes_pass (session_trace s x) lanes l))

-- ---- the cases of one party

abbrev ioc_of : ℕ → Open → Option (At IocCase)
ioc_of stamp (ByIoc c) = Some (record { stamp = stamp; value = c })
ioc_of stamp _ = None

abbrev ioc_case : Of Open → Option (At IocCase)
ioc_case m = ioc_of m.at.stamp m.at.value

abbrev host_of : ℕ → Open → Option (At HostCase)
host_of stamp (ByHost c) = Some (record { stamp = stamp; value = c })
host_of stamp _ = None

abbrev host_case : Of Open → Option (At HostCase)
host_case m = host_of m.at.stamp m.at.value

iocs_own : (k : ℕ) (cs : List (At IocCase)) → filter_map ioc_case (all_of k (ioc_moments cs)) ≡ cs
iocs_own k [] = refl
iocs_own k (c ∷ cs) = ap (λ (zs : List (At IocCase)). c ∷ zs) (iocs_own k cs)

hosts_own : (k : ℕ) (cs : List (At HostCase)) → filter_map host_case (all_of k (host_moments cs)) ≡ cs
hosts_own k [] = refl
hosts_own k (c ∷ cs) = ap (λ (zs : List (At HostCase)). c ∷ zs) (hosts_own k cs)

iocs_of_host : (k : ℕ) (cs : List (At HostCase)) → filter_map ioc_case (all_of k (host_moments cs)) ≡ []
iocs_of_host k [] = refl
iocs_of_host k (c ∷ cs) = iocs_of_host k cs

hosts_of_ioc : (k : ℕ) (cs : List (At IocCase)) → filter_map host_case (all_of k (ioc_moments cs)) ≡ []
hosts_of_ioc k [] = refl
hosts_of_ioc k (c ∷ cs) = hosts_of_ioc k cs

iocs_of_fabric : (k : ℕ) (cs : List (At FabricCase)) → filter_map ioc_case (all_of k (fabric_moments cs)) ≡ []
iocs_of_fabric k [] = refl
iocs_of_fabric k (c ∷ cs) = iocs_of_fabric k cs

hosts_of_fabric : (k : ℕ) (cs : List (At FabricCase)) → filter_map host_case (all_of k (fabric_moments cs)) ≡ []
hosts_of_fabric k [] = refl
hosts_of_fabric k (c ∷ cs) = hosts_of_fabric k cs

iocs_of_submitter : (k i : ℕ) (cs : List (At SubmitterCase)) → filter_map ioc_case (all_of k (by_submitter i cs)) ≡ []
iocs_of_submitter k i [] = refl
iocs_of_submitter k i (c ∷ cs) = iocs_of_submitter k i cs

hosts_of_submitter : (k i : ℕ) (cs : List (At SubmitterCase)) → filter_map host_case (all_of k (by_submitter i cs)) ≡ []
hosts_of_submitter k i [] = refl
hosts_of_submitter k i (c ∷ cs) = hosts_of_submitter k i cs

iocs_of_submitters : (i : ℕ) (xs : List (List (At SubmitterCase))) → filter_map ioc_case (all_merged (submitter_cases i xs)) ≡ []
iocs_of_submitters i [] = refl
iocs_of_submitters i (cases ∷ rest) =
    picked_right ioc_case (all_of (party_number (party.Submitter i)) (by_submitter i cases)) (all_merged (submitter_cases (i + 1) rest)) (iocs_of_submitter (party_number (party.Submitter i)) i cases) ∙ iocs_of_submitters (i + 1) rest

hosts_of_submitters : (i : ℕ) (xs : List (List (At SubmitterCase))) → filter_map host_case (all_merged (submitter_cases i xs)) ≡ []
hosts_of_submitters i [] = refl
hosts_of_submitters i (cases ∷ rest) =
    picked_right host_case (all_of (party_number (party.Submitter i)) (by_submitter i cases)) (all_merged (submitter_cases (i + 1) rest)) (hosts_of_submitter (party_number (party.Submitter i)) i cases) ∙ hosts_of_submitters (i + 1) rest

module _ (x : Session) where
  abbrev others : List (Of Open)
  others = all_merged (submitter_cases 0 x.submitters)

  abbrev fabrics : List (Of Open)
  fabrics = merged (all_of 2 (fabric_moments x.fabric)) others

  abbrev iocs : List (Of Open)
  iocs = merged (all_of 1 (ioc_moments x.ioc)) fabrics

  iocs_are : filter_map ioc_case (all_merged (case_rows x)) ≡ x.ioc
  iocs_are =
      picked_right ioc_case (all_of 0 (host_moments x.host)) iocs (iocs_of_host 0 x.host)
      ∙ (picked_left ioc_case (all_of 1 (ioc_moments x.ioc)) fabrics (picked_right ioc_case (all_of 2 (fabric_moments x.fabric)) others (iocs_of_fabric 2 x.fabric) ∙ iocs_of_submitters 0 x.submitters)
      ∙ iocs_own 1 x.ioc)

  hosts_are : filter_map host_case (all_merged (case_rows x)) ≡ x.host
  hosts_are =
      picked_left host_case (all_of 0 (host_moments x.host)) iocs
      (picked_right host_case (all_of 1 (ioc_moments x.ioc)) fabrics (hosts_of_ioc 1 x.ioc)
      ∙ (picked_right host_case (all_of 2 (fabric_moments x.fabric)) others (hosts_of_fabric 2 x.fabric) ∙ hosts_of_submitters 0 x.submitters))
      ∙ hosts_own 0 x.host

-- ---- no fault

abbrev IsSound : Parties → Type 0
IsSound p = is_fault p.ioc.door.state ≡ false

abbrev NoAsk : Parties → Open → Type 0
NoAsk p c = Unit {0}

faults_from : (p : Parties) (ms : List (Of Open)) → EachState IsSound NoAsk p ms → NoneFaults p.ioc (filter_map ioc_case ms)
faults_from p [] h = h
faults_from p (m ∷ ms) h = by_value m.at.value h.0 (faults_from (does p m.at.value).part ms h.2)
  where
    by_value : (v : Open) → is_fault p.ioc.door.state ≡ false → NoneFaults (does p v).part.ioc (filter_map ioc_case ms) → NoneFaults p.ioc (cons_option (ioc_of m.at.stamp v) (filter_map ioc_case ms))
    by_value (ByIoc c) f ih = (f, ih)
    by_value (ByHost c) f ih = ih
    by_value (ByFabric c) f ih = ih
    by_value (BySubmitter i c) f ih = ih

pub faults_law : OfEveryWorld NothingFaults → SessionsNeverFault
faults_law every s x i h lanes =
    subst (NoneFaults (new_ioc s.phys s.queues)) (iocs_are x)
    (faults_from (first_parties s) (all_merged (case_rows x)) (session_states IsSound NoAsk NothingFaults (λ w f. f) (λ g w c f k t a. tt) s x h lanes (λ cases a. every s cases i a)))

-- ---- nothing strange

abbrev AnyState : Parties → Type 0
AnyState p = Unit {0}

abbrev IsPlainCase : Parties → Open → Type 0
IsPlainCase p (ByHost c) = IsntStrange p.host c
IsPlainCase p _ = Unit {0}

plain_step : (g : LaneName → List Item) (w : World) (c : Open) → NothingIsStrange w → SameQueues w → LanesTied g w → ((l : LaneName) → Passes (lane_next l) (LaneAsks l) (g l) (does (parties_of w) c).entries) → IsPlainCase (parties_of w) c
plain_step g w (ByHost (HostCase.Takes queue next)) nothing same tied asks = by_queue queue (asks (up_lane queue)).0
  where
    by_queue : (q : ℕ) → LaneAsks (up_lane q) (g (up_lane q)) (entry.Take (up_lane q) (item.Up next)) → (takes_up w.host q next).answer ≡ None
    by_queue zero a = let f = first_up g w same tied 0 next (up_on w 0) (tied lane.Up refl) a in nothing 0 next f.0 f.1
    by_queue (suc q) a = let f = first_up g w same tied (suc q) next (up_on w (suc q)) (tied (lane.UpOn (suc q)) refl) a in nothing (suc q) next f.0 f.1
plain_step g w (ByHost (HostCase.Told i)) nothing same tied asks = tt
plain_step g w (ByHost HostCase.Puts) nothing same tied asks = tt
plain_step g w (ByHost HostCase.Looks) nothing same tied asks = tt
plain_step g w (ByHost HostCase.Stops) nothing same tied asks = tt
plain_step g w (ByHost (HostCase.TakesAsk i a)) nothing same tied asks = tt
plain_step g w (ByHost (HostCase.PutsTell i t)) nothing same tied asks = tt
plain_step g w (ByIoc c) nothing same tied asks = tt
plain_step g w (ByFabric c) nothing same tied asks = tt
plain_step g w (BySubmitter i c) nothing same tied asks = tt

strange_from : (p : Parties) (ms : List (Of Open)) → EachState AnyState IsPlainCase p ms → NoneIsStrange p.host (filter_map host_case ms)
strange_from p [] h = tt
strange_from p (m ∷ ms) h = by_value m.at.value h.1 (strange_from (does p m.at.value).part ms h.2)
  where
    by_value : (v : Open) → IsPlainCase p v → NoneIsStrange (does p v).part.host (filter_map host_case ms) → NoneIsStrange p.host (cons_option (host_of m.at.stamp v) (filter_map host_case ms))
    by_value (ByHost c) a ih = (a, ih)
    by_value (ByIoc c) a ih = ih
    by_value (ByFabric c) a ih = ih
    by_value (BySubmitter i c) a ih = ih

pub strange_law : OfEveryWorld NothingIsStrange → SessionsAreNeverStrange
strange_law every s x i h lanes =
    subst (NoneIsStrange (new_host s.queues)) (hosts_are x)
    (strange_from (first_parties s) (all_merged (case_rows x)) (session_states AnyState IsPlainCase NothingIsStrange (λ w f. tt) plain_step s x h lanes (λ cases a. every s cases i a)))
