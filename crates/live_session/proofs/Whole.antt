-- What the parties left is a session of the plan.
use Rattle.std.proofs.Common.{◌≡◌, ◌<◌, ◌+◌, ℕ, suc, List, [], ◌∷◌, length, map, refl, sym, subst, ap, ◌∙◌, arith}
use Rattle.std.specs.Prelude.{All}
use Rattle.mpt_trace.specs.declared.entry.Entry.{Entry}
use Rattle.mpt_trace.specs.declared.summary.Summary.{Summary}
use Rattle.mpt_wire.specs.Machine.Reports.{last_machine}
use Rattle.mpt_rules.specs.Fabric.Parts.{Fabric, new_fabric}
use Rattle.mpt_rules.specs.Host.Parts.{Host, new_host}
use Rattle.mpt_rules.specs.Ioc.Parts.{Ioc, new_ioc}
use Rattle.mpt_rules.specs.Session.Journals.{all_merged, moment_values}
use Rattle.mpt_rules.specs.Session.Sessions.{IsSession, Session, journals, last_fabric, last_host, last_ioc, session_trace}
use Rattle.mpt_rules.specs.World.Summaries.{summary_with}
use Rattle.mpt_journal.specs.Journal.{HeldRow, rows_of}
use Rattle.mpt_journal.specs.Laws.{by_entries}
use Rattle.mpt_live.specs.Recorded.{Recorded}
use Rattle.mpt_script.specs.PlanParts.{PlanParts}
use Rattle.law_plans.specs.Limits.{plan_setting}
use Rattle.live_journals.specs.Parties.{IsEnteredInput, JournalsMakeSessions, LeavesParties, PartiesLed, RecordedParties, SubmittersLed, entries_of_parties, rows_of_parties}
use Rattle.live_session.specs.declared.ending.Left.{Left}
use Rattle.live_session.specs.Ended.{are_quiet, summary_at_end}
use Rattle.live_session.specs.Left.{PartiesLeft, PlanLeft, SubmittersLeft}
use Rattle.live_session.proofs.Sized.{last_phases}

-- ---- the submitters

-- the submitters of these journals, with the clocks that led there
abbrev recorded : (i : ℕ) (js : List HeldRow) → SubmittersLeft i js → List (Recorded (Unit {0}))
recorded i [] h = []
recorded i (j ∷ js) h = record { part = tt; row = j.row; clock = h.0.clock } ∷ recorded (i + 1) js h.1

recorded_led : (i : ℕ) (js : List HeldRow) (h : SubmittersLeft i js) → SubmittersLed i (recorded i js h)
recorded_led i [] h = tt
recorded_led i (j ∷ js) h = (h.0.led, recorded_led (i + 1) js h.1)

recorded_rows : (i : ℕ) (js : List HeldRow) (h : SubmittersLeft i js) → map (λ (r : Recorded (Unit {0})). r.row) (recorded i js h) ≡ rows_of js
recorded_rows i [] h = refl
recorded_rows i (j ∷ js) h = ap (λ rows. j.row ∷ rows) (recorded_rows (i + 1) js h.1)

recorded_length : (i : ℕ) (js : List HeldRow) (h : SubmittersLeft i js) → length (recorded i js h) ≡ length js
recorded_length i [] h = refl
recorded_length i (j ∷ js) h = ap suc (recorded_length (i + 1) js h.1)

-- ---- the parties

abbrev parties_of : (plan : PlanParts) (left : Left) → PlanLeft plan left → RecordedParties
parties_of plan left h =
    record {
      host = record { part = left.host.0.host; row = left.host.1.row; clock = h.host.clock };
      ioc = record { part = left.ioc.0.part; row = left.ioc.1.row; clock = h.ioc.clock };
      fabric = record { part = left.fabric.0; row = left.fabric.1.row; clock = h.fabric.clock };
      submitters = recorded 0 left.submitters.items h.submitters;
    }

-- all journals of the parties, in order
abbrev pub journals_left : Left → List HeldRow
journals_left left = left.host.1 ∷ left.ioc.1 ∷ left.fabric.1 ∷ left.submitters.items

rows_left : (plan : PlanParts) (left : Left) (h : PlanLeft plan left) → rows_of_parties (parties_of plan left h) ≡ rows_of (journals_left left)
rows_left plan left h = ap (λ rows. left.host.1.row ∷ left.ioc.1.row ∷ left.fabric.1.row ∷ rows) (recorded_rows 0 left.submitters.items h.submitters)

entries_left : (plan : PlanParts) (left : Left) (h : PlanLeft plan left) → entries_of_parties (parties_of plan left h) ≡ moment_values (all_merged (rows_of (journals_left left)))
entries_left plan left h = ap (λ rows. moment_values (all_merged rows)) (rows_left plan left h)

parties_led : (plan : PlanParts) (left : Left) (h : PlanLeft plan left) → length plan.submitters < 9 → All IsEnteredInput (moment_values (all_merged (rows_of (journals_left left))))
    → PartiesLed (plan_setting plan) (parties_of plan left h)
parties_led plan left h few inputs =
    record {
      host = h.host.led;
      ioc = h.ioc.led;
      fabric = h.fabric.led;
      submitters = recorded_led 0 left.submitters.items h.submitters;
      few = let n = recorded_length 0 left.submitters.items h.submitters in let m = h.count in omega (arith, n, m, few);
      inputs = subst (λ t. All IsEnteredInput t) (sym (entries_left plan left h)) inputs;
    }

-- the parties of a plan, where they were these at first
pub plan_left : (plan : PlanParts) (left : Left) (host : Host) (ioc : Ioc) (fabric : Fabric) (n : ℕ) → PartiesLeft host ioc fabric n left
    → host ≡ new_host plan.queues → ioc ≡ new_ioc plan.phys plan.queues → fabric ≡ new_fabric plan.disks plan.phys → n ≡ length plan.submitters → PlanLeft plan left
plan_left plan left host ioc fabric n p host_is ioc_is fabric_is n_is =
    let a = subst (λ (x : Host). PartiesLeft x ioc fabric n left) host_is p in
    let b = subst (λ (x : Ioc). PartiesLeft (new_host plan.queues) x fabric n left) ioc_is a in
    let d = subst (λ (x : Fabric). PartiesLeft (new_host plan.queues) (new_ioc plan.phys plan.queues) x n left) fabric_is b in
    subst (λ k. PartiesLeft (new_host plan.queues) (new_ioc plan.phys plan.queues) (new_fabric plan.disks plan.phys) k left) n_is d

-- ---- the session

-- a session of the plan was held, which left the parties so, with their journals and this trace
pub record IsHeld (plan : PlanParts) (left : Left) (t : List Entry) : Type 0 where
  pub session : Session
  pub is_session : IsSession (plan_setting plan) session
  pub submitters : length session.submitters ≡ length plan.submitters
  pub rows : rows_of (journals_left left) ≡ map by_entries (journals (plan_setting plan) session)
  pub trace : t ≡ session_trace (plan_setting plan) session
  pub host : left.host.0.host ≡ last_host (plan_setting plan) session
  pub ioc : left.ioc.0.part ≡ last_ioc (plan_setting plan) session
  pub fabric : left.fabric.0 ≡ last_fabric (plan_setting plan) session

held_by : (plan : PlanParts) (left : Left) (h : PlanLeft plan left) (x : Session) → LeavesParties (plan_setting plan) (parties_of plan left h) x → IsHeld plan left (moment_values (all_merged (rows_of (journals_left left))))
held_by plan left h x l =
    record {
      session = x;
      is_session = l.session;
      submitters = l.submitters ∙ (recorded_length 0 left.submitters.items h.submitters ∙ h.count);
      rows = sym (rows_left plan left h) ∙ l.journals;
      trace = sym (entries_left plan left h) ∙ l.trace;
      host = l.host;
      ioc = l.ioc;
      fabric = l.fabric;
    }

pub is_held : JournalsMakeSessions → (plan : PlanParts) (left : Left) (t : List Entry) → PlanLeft plan left → length plan.submitters < 9
    → t ≡ moment_values (all_merged (rows_of (journals_left left))) → All IsEnteredInput t → IsHeld plan left t
is_held law plan left t h few merged inputs =
    let there : All IsEnteredInput (moment_values (all_merged (rows_of (journals_left left)))) = subst (λ es. All IsEnteredInput es) merged inputs in
    let made = law (plan_setting plan) (parties_of plan left h) (parties_led plan left h few there) in
    subst (λ es. IsHeld plan left es) (sym merged) (held_by plan left h made.0 made.1)

pub held_of : JournalsMakeSessions → (plan : PlanParts) (left : Left) (slice items : List HeldRow) (t es : List Entry) → PlanLeft plan left → length plan.submitters < 9
    → t ≡ moment_values (all_merged (rows_of slice)) → slice ≡ items → items ≡ journals_left left → es ≡ t → All IsEnteredInput es → IsHeld plan left t
held_of law plan left slice items t es h few merged same whole shown inputs =
    is_held law plan left t h few (merged ∙ ap (λ (js : List HeldRow). moment_values (all_merged (rows_of js))) (same ∙ whole)) (subst (λ (x : List Entry). All IsEnteredInput x) shown inputs)

-- ---- its summary

-- the summary of a trace that parties ended like this
abbrev pub summary_left : PlanParts → Host → Ioc → Fabric → List Entry → Summary
summary_left plan host ioc fabric t = summary_with (last_machine plan.disks t) host.phases (are_quiet host ioc fabric) t

pub summary_held : (plan : PlanParts) (left : Left) (t : List Entry) (k : IsHeld plan left t) → summary_left plan left.host.0.host left.ioc.0.part left.fabric.0 t ≡ summary_at_end (plan_setting plan) k.session
summary_held plan left t k =
    ap (λ (host : Host). summary_left plan host left.ioc.0.part left.fabric.0 t) k.host
    ∙ (ap (λ (ioc : Ioc). summary_left plan (last_host (plan_setting plan) k.session) ioc left.fabric.0 t) k.ioc
    ∙ (ap (λ (fabric : Fabric). summary_left plan (last_host (plan_setting plan) k.session) (last_ioc (plan_setting plan) k.session) fabric t) k.fabric
    ∙ ap (λ es. summary_left plan (last_host (plan_setting plan) k.session) (last_ioc (plan_setting plan) k.session) (last_fabric (plan_setting plan) k.session) es) k.trace))

pub held_phases : (plan : PlanParts) (left : Left) (t : List Entry) → IsHeld plan left t → length left.host.0.host.phases ≡ 64
held_phases plan left t k = ap (λ (host : Host). length host.phases) k.host ∙ last_phases (plan_setting plan) k.session
