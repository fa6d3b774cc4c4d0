-- What a session does is what some list of cases does.
use Rattle.std.proofs.Common.{◌≡◌, ℕ, zero, suc, ◌+◌, not, List, [], ◌∷◌, ◌++◌, get_or, map, replicate, refl, ap, sym, subst, ◌∙◌}
use Rattle.std.specs.Prelude.{All, flat_map}
use Rattle.std.specs.List.{AllByRecursion}
use Rattle.std.proofs.lemmas.List.{length-replicate}
use Rattle.std.proofs.lemmas.List.Elements.{All-from_recursion, All-head, All-tail, filter-append}
use Rattle.mpt_trace.specs.declared.entry.Entry.{Entry}
use Rattle.mpt_trace.specs.declared.item.Item.{Item}
use Rattle.mpt_trace.specs.declared.item.Item.TheVariants as item
use Rattle.mpt_trace.specs.declared.lane.LaneName.{LaneName}
use Rattle.mpt_trace.specs.declared.lane.LaneName.TheVariants as lane
use Rattle.mpt_trace.specs.declared.parties.Party.TheVariants as party
use Rattle.mpt_wire.specs.Queues.Lanes.{LaneAsks, lane_next}
use Rattle.mpt_wire.specs.Walks.Passes.{Passes, state_after}
use Rattle.mpt_wire.proofs.Lanes.{lanes_pass}
use Rattle.mpt_rules.specs.Outcome.{Happening}
use Rattle.mpt_rules.specs.Session.Journals.{At, Of, all_merged, all_of, by_submitter, entries_of, fabric_moments, host_moments, ioc_moments, merged, party_number}
use Rattle.mpt_rules.specs.Session.OpenCases.{ByFabric, ByHost, FabricCase, HostCase, IocCase, Open, SubmitterCase}
use Rattle.mpt_rules.specs.Session.Sessions.{IsFabricCase, IsHostCase, IsSession, Session, last_fabric, last_host, last_ioc, session_trace}
use Rattle.mpt_rules.specs.World.Cases.{Case, run, trace}
use Rattle.mpt_rules.specs.World.Settings.{IsCase, Setting, first_world}
use Rattle.mpt_rules.specs.World.State.{World}
use Rattle.law_flights.proofs.Lanes.{lane_items}
use Rattle.law_sessions.specs.OfCases.{SessionsAreOfCases, is_talk, without_talk}
use Rattle.law_sessions.proofs.Blocks.{Each, each_merged}
use Rattle.law_sessions.proofs.ClosedCases.{Closes, IsGiven, IsNone, IsOne, SameQueues, LanesTied, after, closes, parties_of}
use Rattle.law_sessions.proofs.MergedCases.{Of_each, Parties, case_rows, does, done, first_parties, left_by, session_done, session_left, submitter_cases}

-- ---- a rule over entries and over what follows them

module _ {G : Type 0} (next : G → Entry → G) (asks : G → Entry → Type 0) where
  pub passes_front : (g : G) (t u : List Entry) → Passes next asks g (t ++ u) → Passes next asks g t
  passes_front g [] u p = tt
  passes_front g (e ∷ t) u p = (p.0, passes_front (next g e) t u p.1)

  pub passes_behind : (g : G) (t u : List Entry) → Passes next asks g (t ++ u) → Passes next asks (state_after next g t) u
  passes_behind g [] u p = p
  passes_behind g (e ∷ t) u p = passes_behind (next g e) t u p.1

-- ---- case by case

-- what the cases do from a world on is what cases of the world do
record OfWorld (w : World) (ms : List (Of Open)) : Type 0 where
  pub cases : List Case
  pub allowed : AllByRecursion IsCase cases
  pub traced : without_talk (flat_map entries_of (done (parties_of w) ms)) ≡ trace w cases
  pub reached : left_by (parties_of w) ms ≡ parties_of (run w cases)

abbrev pub PassesAll : (LaneName → List Item) → Parties → List (Of Open) → Type 0
PassesAll g p ms = (l : LaneName) → Passes (lane_next l) (LaneAsks l) (g l) (flat_map entries_of (done p ms))

goes_on : (g : LaneName → List Item) (w : World) (ms : List (Of Open)) → SameQueues w → LanesTied g w → Each (Of_each IsGiven) ms → PassesAll g (parties_of w) ms → OfWorld w ms
goes_on g w [] same tied given asks = record { cases = []; allowed = tt; traced = refl; reached = refl }
goes_on g w (m ∷ ms) same tied given asks =
    by_case (closes g w same tied m.at.value given.0 (λ l. passes_front (lane_next l) (LaneAsks l) (g l) (does (parties_of w) m.at.value).entries (flat_map entries_of (done (does (parties_of w) m.at.value).part ms)) (asks l)))
    (λ v k t a. goes_on (after g (does (parties_of w) m.at.value).entries) v ms k t given.1 a)
  where
    o : Happening Parties
    o = does (parties_of w) m.at.value

    behind : PassesAll (after g (does (parties_of w) m.at.value).entries) (does (parties_of w) m.at.value).part ms
    behind l = passes_behind (lane_next l) (LaneAsks l) (g l) (does (parties_of w) m.at.value).entries (flat_map entries_of (done (does (parties_of w) m.at.value).part ms)) (asks l)

    parted : (q : Parties) → without_talk ((does (parties_of w) m.at.value).entries ++ flat_map entries_of (done q ms)) ≡ without_talk (does (parties_of w) m.at.value).entries ++ without_talk (flat_map entries_of (done q ms))
    parted q = filter-append (λ (e : Entry). not (is_talk e)) (does (parties_of w) m.at.value).entries (flat_map entries_of (done q ms))

    by_case : Closes g w (does (parties_of w) m.at.value)
        → ((v : World) → SameQueues v → LanesTied (after g (does (parties_of w) m.at.value).entries) v → PassesAll (after g (does (parties_of w) m.at.value).entries) (parties_of v) ms → OfWorld v ms)
        → OfWorld w (m ∷ ms)
    by_case (IsNone part none t) ih =
        let r = ih w same t (subst (λ (q : Parties). PassesAll (after g (does (parties_of w) m.at.value).entries) q ms) part behind) in
        record {
          cases = r.cases;
          allowed = r.allowed;
          traced = parted (does (parties_of w) m.at.value).part
              ∙ (ap (λ (zs : List Entry). zs ++ without_talk (flat_map entries_of (done (does (parties_of w) m.at.value).part ms))) none
              ∙ (ap (λ (q : Parties). without_talk (flat_map entries_of (done q ms))) part ∙ r.traced));
          reached = ap (λ (q : Parties). left_by q ms) part ∙ r.reached;
        }
    by_case (IsOne c v allowed is part told k t) ih =
        let r = ih v.part k t (subst (λ (q : Parties). PassesAll (after g (does (parties_of w) m.at.value).entries) q ms) (sym part) behind) in
        record {
          cases = c ∷ r.cases;
          allowed = (allowed, r.allowed);
          traced = parted (does (parties_of w) m.at.value).part
              ∙ (ap (λ (zs : List Entry). zs ++ without_talk (flat_map entries_of (done (does (parties_of w) m.at.value).part ms))) told
              ∙ (ap (λ (q : Parties). v.entries ++ without_talk (flat_map entries_of (done q ms))) (sym part)
              ∙ (ap (λ (zs : List Entry). v.entries ++ zs) r.traced ∙ sym (ap (λ (z : Happening World). z.entries ++ trace z.part r.cases) is))));
          reached = ap (λ (q : Parties). left_by q ms) (sym part) ∙ (r.reached ∙ sym (ap (λ (z : Happening World). parties_of (run z.part r.cases)) is));
        }

-- ---- the first world

pub none_on : (l : LaneName) (n : ℕ) → [] ≡ lane_items l [] (replicate n []) [] []
none_on lane.Down n = refl
none_on lane.Up n = by_count n
  where
    by_count : (n : ℕ) → [] ≡ lane_items lane.Up [] (replicate n []) [] []
    by_count zero = refl
    by_count (suc n) = refl
none_on (lane.UpOn zero) n = refl
none_on (lane.UpOn (suc j)) n = by_count n (suc j)
  where
    by_count : (n j : ℕ) → [] ≡ map item.Up (get_or (replicate n []) j [])
    by_count zero j = refl
    by_count (suc n) zero = refl
    by_count (suc n) (suc j) = by_count n j
none_on lane.Out n = refl
none_on lane.Back n = refl
none_on (lane.Ask j) n = refl
none_on (lane.Tell j) n = refl

-- ---- the inputs of a session

given_host : (k : ℕ) (cs : List (At HostCase)) → All IsHostCase cs → Each (Of_each IsGiven) (all_of k (host_moments cs))
given_host k [] h = tt
given_host k (c ∷ cs) h = (by_value c.stamp c.value (All-head IsHostCase c cs h), given_host k cs (All-tail IsHostCase c cs h))
  where
    by_value : (stamp : ℕ) (v : HostCase) → IsHostCase (record { stamp = stamp; value = v }) → IsGiven (ByHost v)
    by_value stamp (HostCase.Told i) z = z
    by_value stamp HostCase.Puts z = tt
    by_value stamp (HostCase.Takes queue next) z = tt
    by_value stamp HostCase.Looks z = tt
    by_value stamp HostCase.Stops z = tt
    by_value stamp (HostCase.TakesAsk i x) z = tt
    by_value stamp (HostCase.PutsTell i x) z = tt

given_ioc : (k : ℕ) (cs : List (At IocCase)) → Each (Of_each IsGiven) (all_of k (ioc_moments cs))
given_ioc k [] = tt
given_ioc k (c ∷ cs) = (tt, given_ioc k cs)

given_fabric : (k : ℕ) (cs : List (At FabricCase)) → All IsFabricCase cs → Each (Of_each IsGiven) (all_of k (fabric_moments cs))
given_fabric k [] h = tt
given_fabric k (c ∷ cs) h = (by_value c.stamp c.value (All-head IsFabricCase c cs h), given_fabric k cs (All-tail IsFabricCase c cs h))
  where
    by_value : (stamp : ℕ) (v : FabricCase) → IsFabricCase (record { stamp = stamp; value = v }) → IsGiven (ByFabric v)
    by_value stamp (FabricCase.Told i) z = z
    by_value stamp (FabricCase.Takes next) z = tt
    by_value stamp FabricCase.Says z = tt
    by_value stamp FabricCase.Puts z = tt
    by_value stamp (FabricCase.Runs tag) z = tt
    by_value stamp FabricCase.Calms z = tt

given_submitter : (k i : ℕ) (cs : List (At SubmitterCase)) → Each (Of_each IsGiven) (all_of k (by_submitter i cs))
given_submitter k i [] = tt
given_submitter k i (c ∷ cs) = (tt, given_submitter k i cs)

given_submitters : (i : ℕ) (xs : List (List (At SubmitterCase))) → Each (Of_each IsGiven) (all_merged (submitter_cases i xs))
given_submitters i [] = tt
given_submitters i (cases ∷ rest) =
    each_merged (Of_each IsGiven) (all_of (party_number (party.Submitter i)) (by_submitter i cases)) (all_merged (submitter_cases (i + 1) rest)) (given_submitter (party_number (party.Submitter i)) i cases) (given_submitters (i + 1) rest)

pub given_all : (s : Setting) (x : Session) → IsSession s x → Each (Of_each IsGiven) (all_merged (case_rows x))
given_all s x h =
    let others : List (Of Open) = all_merged (submitter_cases 0 x.submitters) in
    let fabrics : List (Of Open) = merged (all_of 2 (fabric_moments x.fabric)) others in
    each_merged (Of_each IsGiven) (all_of 0 (host_moments x.host)) (merged (all_of 1 (ioc_moments x.ioc)) fabrics) (given_host 0 x.host h.told_host)
    (each_merged (Of_each IsGiven) (all_of 1 (ioc_moments x.ioc)) fabrics (given_ioc 1 x.ioc)
    (each_merged (Of_each IsGiven) (all_of 2 (fabric_moments x.fabric)) others (given_fabric 2 x.fabric h.told_fabric) (given_submitters 0 x.submitters)))

-- ---- a session

pub of_cases_law : SessionsAreOfCases
of_cases_law s x h lanes =
    let ms : List (Of Open) = all_merged (case_rows x) in
    let same : flat_map entries_of (done (first_parties s) ms) ≡ session_trace s x = ap (flat_map entries_of) (session_done s x) in
    let asks : PassesAll (λ l. []) (parties_of (first_world s)) ms = λ l. subst (λ (t : List Entry). Passes (lane_next l) (LaneAsks l) [] t) (sym same) (lanes_pass (session_trace s x) lanes l) in
    let o : OfWorld (first_world s) ms = goes_on (λ l. []) (first_world s) ms (length-replicate s.queues [] ∙ sym (length-replicate s.queues [])) (λ l k. none_on l s.queues) (given_all s x h) asks in
    let reached : record { host = last_host s x; ioc = last_ioc s x; fabric = last_fabric s x } ≡ parties_of (run (first_world s) o.cases) = sym (session_left s x) ∙ o.reached in (
      o.cases,
      record {
        allowed = All-from_recursion IsCase o.cases o.allowed;
        traced = ap without_talk (sym same) ∙ o.traced;
        host = ap (λ (q : Parties). q.host) reached;
        ioc = ap (λ (q : Parties). q.ioc) reached;
        fabric = ap (λ (q : Parties). q.fabric) reached;
      },
    )
