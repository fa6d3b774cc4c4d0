-- Each submission of a session is accepted under the least free identifier, whatever its lanes do.
use Rattle.std.proofs.Common.{◌≡◌, ℕ, ◌≤◌, List, [], ◌∷◌, ◌++◌, Option, None, subst}
use Rattle.std.specs.Prelude.{flat_map}
use Rattle.std.specs.FinMap as finmap
use Rattle.std.specs.FinSet as finset
use Rattle.mpt_trace.specs.declared.entry.Entry.{Entry}
use Rattle.mpt_trace.specs.declared.entry.Entry.TheVariants as entry
use Rattle.mpt_trace.specs.declared.input.Input.TheVariants as input
use Rattle.mpt_trace.specs.declared.parties.Party.TheVariants as party
use Rattle.mpt_wire.specs.Queues.LeastFree.{Holder, LeastAsks, holders_next, no_holders}
use Rattle.mpt_wire.specs.Walks.Ahead.{PassesAhead, state_ahead}
use Rattle.mpt_wire.proofs.Ahead.{passes_joined}
use Rattle.mpt_wire.proofs.LeastFree.{least_are_accepted}
use Rattle.mpt_rules.specs.Law.{LeastIdentifiersAreTaken}
use Rattle.mpt_rules.specs.Session.Journals.{Of, all_merged, entries_of}
use Rattle.mpt_rules.specs.Session.OpenCases.{ByFabric, ByHost, ByIoc, BySubmitter, Open, SubmitterCase, fabric_does, host_does, ioc_does, submitter_does}
use Rattle.mpt_rules.specs.Session.Sessions.{Session, session_trace}
use Rattle.mpt_rules.specs.World.Settings.{Setting}
use Rattle.law_parties.proofs.HostModes.{NoRefusal}
use Rattle.law_parties.proofs.Owned.{IsOwned, fabric_owned, ioc_owned, submitter_owned}
use Rattle.law_identifiers.proofs.Holders.{IsSilent}
use Rattle.law_identifiers.proofs.HeldRequests.{renewed}
use Rattle.law_identifiers.proofs.LeastTaken.{AllHold, IsNoAccept, Takes, fabric_silent, host_takes, ioc_silent, others_take}
use Rattle.law_sessions.proofs.MergedCases.{Parties, case_rows, does, done, first_parties, session_done}
use Rattle.law_sessions.proofs.SessionModes.{no_refusal}

submitter_silent : (i : ℕ) (e : Entry) → IsOwned (party.Submitter i) e → IsSilent e × IsNoAccept e
submitter_silent i (entry.Accept n a x) own = absurd (cc)
submitter_silent i (entry.Answer n how) own = absurd (cc)
submitter_silent i (entry.AbortEnd n how) own = absurd (cc)
submitter_silent i entry.ResetDone own = absurd (cc)
submitter_silent i (entry.Given (input.Abort n)) own = absurd (cc)
submitter_silent i _ own = (tt, tt)

case_takes : (holders : ℕ → Option Holder) (p : Parties) (c : Open) (later : List Entry) → NoRefusal later → AllHold holders p.host → Takes holders (does p c).entries later (does p c).part.host
case_takes holders p (ByHost c) later n all = host_takes holders p.host c later n all
case_takes holders p (ByIoc c) later n all = others_take party.Ioc ioc_silent holders p.host (ioc_does p.ioc c).entries later (ioc_owned p.ioc c) all
case_takes holders p (ByFabric c) later n all = others_take party.Fabric fabric_silent holders p.host (fabric_does p.fabric c).entries later (fabric_owned p.fabric c) all
case_takes holders p (BySubmitter i c) later n all = others_take (party.Submitter i) (submitter_silent i) holders p.host (submitter_does i c) later (submitter_owned i c) all

all_take : (holders : ℕ → Option Holder) (p : Parties) (ms : List (Of Open)) → AllHold holders p.host → PassesAhead holders_next LeastAsks holders (flat_map entries_of (done p ms))
all_take holders p [] all = tt
all_take holders p (m ∷ ms) all =
    let later : List Entry = flat_map entries_of (done (does p m.at.value).part ms) in
    let t = case_takes holders p m.at.value later (no_refusal (does p m.at.value).part ms) all in
    passes_joined holders_next LeastAsks holders (does p m.at.value).entries later t.passes (all_take (state_ahead holders_next holders (does p m.at.value).entries later) (does p m.at.value).part ms t.tied)

pub session_least : (s : Setting) (x : Session) → LeastIdentifiersAreTaken s (session_trace s x)
session_least s x =
    least_are_accepted (session_trace s x)
    (subst (λ (zs : List (Of (List Entry))). PassesAhead holders_next LeastAsks no_holders (flat_map entries_of zs)) (session_done s x)
    (all_take no_holders (first_parties s) (all_merged (case_rows x)) (λ k few. renewed k few None finmap.empty finmap.empty finset.empty tt)))
