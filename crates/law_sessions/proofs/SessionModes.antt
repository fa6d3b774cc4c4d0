-- The machine's mode after a session's trace is the mode of its last host.
use Rattle.std.proofs.Common.{◌≡◌, List, [], ◌∷◌, ◌++◌, refl, ap, sym, ◌∙◌}
use Rattle.std.specs.Prelude.{flat_map}
use Rattle.mpt_trace.specs.declared.entry.Entry.{Entry}
use Rattle.mpt_trace.specs.declared.host_state.HostState.TheVariants as state
use Rattle.mpt_trace.specs.declared.parties.Party.TheVariants as party
use Rattle.mpt_rules.specs.Session.Journals.{Of, all_merged, entries_of}
use Rattle.mpt_rules.specs.Session.OpenCases.{ByFabric, ByHost, ByIoc, BySubmitter, Open, fabric_does, host_does, ioc_does, submitter_does}
use Rattle.mpt_rules.specs.Session.Sessions.{Session, last_host, session_trace}
use Rattle.mpt_rules.specs.World.Settings.{Setting}
use Rattle.mpt_wire.specs.Machine.View.{machine_after}
use Rattle.law_parties.proofs.HostModes.{NoRefusal, all_plain, host_agrees}
use Rattle.law_parties.proofs.InPlace.{host_opens}
use Rattle.law_parties.proofs.ModesAgree.{by_host, by_other, others_plain}
use Rattle.law_parties.proofs.Owned.{fabric_owned, host_owned, ioc_owned, submitter_owned}
use Rattle.law_parties.proofs.TraceModes.{machine_mode, mode_trace}
use Rattle.law_sessions.proofs.MergedCases.{Parties, case_rows, does, done, first_parties, left_by, session_done, session_left}

case_first : (p : Parties) (c : Open) (rest : List Entry) → NoRefusal rest → NoRefusal ((does p c).entries ++ rest)
case_first p (ByHost c) rest n = by_host (host_does p.host c).entries rest (host_opens p.host c) (host_owned p.host c) n
case_first p (ByIoc c) rest n = by_other party.Ioc refl (ioc_does p.ioc c).entries rest (ioc_owned p.ioc c) n
case_first p (ByFabric c) rest n = by_other party.Fabric refl (fabric_does p.fabric c).entries rest (fabric_owned p.fabric c) n
case_first p (BySubmitter i c) rest n = by_other (party.Submitter i) refl (submitter_does i c) rest (submitter_owned i c) n

pub no_refusal : (p : Parties) (ms : List (Of Open)) → NoRefusal (flat_map entries_of (done p ms))
no_refusal p [] = λ c. refl
no_refusal p (m ∷ ms) = case_first p m.at.value (flat_map entries_of (done (does p m.at.value).part ms)) (no_refusal (does p m.at.value).part ms)

case_agrees : (p : Parties) (c : Open) (rest : List Entry) → NoRefusal rest → mode_trace p.host.mode ((does p c).entries ++ rest) ≡ mode_trace (does p c).part.host.mode rest
case_agrees p (ByHost c) rest n = host_agrees p.host c rest n
case_agrees p (ByIoc c) rest n = all_plain p.host.mode (ioc_does p.ioc c).entries rest (others_plain party.Ioc refl (ioc_does p.ioc c).entries (ioc_owned p.ioc c))
case_agrees p (ByFabric c) rest n = all_plain p.host.mode (fabric_does p.fabric c).entries rest (others_plain party.Fabric refl (fabric_does p.fabric c).entries (fabric_owned p.fabric c))
case_agrees p (BySubmitter i c) rest n = all_plain p.host.mode (submitter_does i c) rest (others_plain (party.Submitter i) refl (submitter_does i c) (submitter_owned i c))

all_agree : (p : Parties) (ms : List (Of Open)) → mode_trace p.host.mode (flat_map entries_of (done p ms)) ≡ (left_by p ms).host.mode
all_agree p [] = refl
all_agree p (m ∷ ms) =
    case_agrees p m.at.value (flat_map entries_of (done (does p m.at.value).part ms)) (no_refusal (does p m.at.value).part ms) ∙ all_agree (does p m.at.value).part ms

pub session_modes : (s : Setting) (x : Session) → (machine_after s.disks (session_trace s x)).mode ≡ (last_host s x).mode
session_modes s x =
    machine_mode s.disks (session_trace s x)
    ∙ (ap (λ (zs : List (Of (List Entry))). mode_trace state.Off (flat_map entries_of zs)) (sym (session_done s x))
    ∙ (all_agree (first_parties s) (all_merged (case_rows x)) ∙ ap (λ (q : Parties). q.host.mode) (session_left s x)))
