-- How a call ends that gives an identifier, where it is refused; and what it tells, where that is nothing.
use Rattle.std.proofs.Common.{◌≡◌, ℕ, List, [], ◌++◌, ◌∙◌, Option, Some, None, Result, Ok, Err, append-nil, refl, sym, subst}
use Rattle.mpt_trace.specs.declared.entry.Entry.{Entry}
use Rattle.mpt_trace.specs.declared.refusal.Refusal.{Refusal}
use Rattle.mpt_rules.specs.declared.request.Request.TheVariants as request
use Rattle.mpt_rules.specs.Host.Inputs.{cmd_of, given, granted_unless, host_aborts, host_cause_of_abort, host_cause_of_target_reset, host_resets_target, next_smid, ready_handle_at, with_abort_asked}
use Rattle.mpt_rules.specs.Host.Parts.{Host}
use Rattle.mpt_rules.specs.Host.Posts.{posts_task}
use Rattle.mpt_rules.specs.Outcome.{Called}
use Rattle.mpt_wire.specs.Messages.Fields.{target_reset}
use Rattle.smid_pool.specs.declared.class.Class.TheVariants.{High}
use Rattle.mpt_c_messages.specs.declared.call_code.CallCode.{CallCode}
use Rattle.host_core.specs.Driver.{Driver, IsSame}
use Rattle.host_core.specs.Faults.{refusal_by}
use Rattle.mpt_c_hosts.specs.Asking.{BeginsAs, Refuses}

cause_of : (r : Result ℕ Refusal) (why : Refusal) → Some why ≡ refusal_by r → r ≡ Err why
cause_of (Ok smid) why is = cc
cause_of (Err cause) why is = cc

-- a call that is refused, or finds no memory, changes nothing
pub refused_as : (old new : Driver) (smid cause cause' : ℕ) (call : Called Host (Result ℕ Refusal)) (answer : CallCode) (found : Option Refusal)
    → Refuses found cause cause' answer → found ≡ refusal_by call.answer → IsSame old new → BeginsAs old new smid smid cause cause' call answer
refused_as old new smid cause cause' call answer None ends is same =
    subst (λ (a : CallCode). BeginsAs old new smid smid cause cause' call a) (sym ends.0) (refl, ends.1, same)
refused_as old new smid cause cause' call answer (Some why) ends is same =
    subst (λ (a : CallCode). BeginsAs old new smid smid cause cause' call a) (sym ends.0) (why, cause_of call.answer why is, ends.1, refl, same)

told-silent : (cause : Option Refusal) (host after : Host) (smid : ℕ) → (granted_unless cause host (given after [] smid)).told ≡ []
told-silent None host after smid = refl
told-silent (Some cause) host after smid = refl

told_none : (new old had : List Entry) → new ≡ old → had ≡ [] → new ≡ old ++ had
told_none new old had same none = rw none (same ∙ sym (append-nil old))

-- an abort tells nothing
pub abort_tells : (host : Host) (n : ℕ) (new old : List Entry) → new ≡ old → new ≡ old ++ (host_aborts host n).told
abort_tells host n new old same =
    told_none new old (host_aborts host n).told same (told-silent (host_cause_of_abort host n) host (with_abort_asked host n (cmd_of host n) (next_smid host High)) (next_smid host High))

-- nor does a target reset
pub target_tells : (host : Host) (address : ℕ) (new old : List Entry) → new ≡ old → new ≡ old ++ (host_resets_target host address).told
target_tells host address new old same =
    let smid : ℕ = next_smid host High in
    told_none new old (host_resets_target host address).told same
    (told-silent (host_cause_of_target_reset host address) host (posts_task host smid (request.TargetReset address) (ready_handle_at host address) target_reset 0) smid)
