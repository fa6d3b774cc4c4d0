-- What the host enters of a call that is granted or refused.
use Rattle.std.proofs.Common.{◌≡◌, ◌∙◌, ℕ, List, [], ◌∷◌, ◌++◌, ap, refl, subst, sym}
use Rattle.std.specs.Prelude.{Err, None, Ok, OnOk, Option, Result, Some, option_to_list}
use Rattle.mpt_rules.specs.Session.Journals.{Row}
use Rattle.mpt_rules.specs.Session.OpenCases.{HostCase, host_does}
use Rattle.mpt_live.specs.Recorded.{Recorded, after_case, next_stamp, stamped_with}
use Rattle.mpt_trace.specs.declared.entry.Entry.{Entry}
use Rattle.mpt_trace.specs.declared.entry.Entry.TheVariants as entry
use Rattle.mpt_trace.specs.declared.input.Input.{Input}
use Rattle.mpt_trace.specs.declared.refusal.Refusal.{Refusal}
use Rattle.mpt_trace.specs.Command.{command_named}
use Rattle.mpt_trace.specs.declared.command_form.CommandForm.{CommandForm}
use Rattle.mpt_trace.specs.declared.input.Input.TheVariants as input
use Rattle.mpt_trace.specs.declared.refusal.RefusedCall.TheVariants as call
use Rattle.mpt_rules.specs.Host.Inputs.{given, granted_unless, host_aborts, host_cause_of_abort, host_cause_of_submit, host_cause_of_target_reset, host_resets_target, host_submits}
use Rattle.mpt_rules.specs.Host.Parts.{Host}
use Rattle.mpt_rules.specs.World.Inputs.{by_result, host_told}
use Rattle.host_core.specs.Faults.{refusal_by}

module _ (line : Input) (refused : Refusal → Entry) (host granted : Host) (told : List Entry) (smid : ℕ) where
  pub granted_entries : (cause : Option Refusal) → None ≡ refusal_by (granted_unless cause host (given granted told smid)).answer
      → (by_result line refused (granted_unless cause host (given granted told smid))).entries ≡ entry.Given line ∷ told
  granted_entries (Some c) is = cc
  granted_entries None is = refl

  pub granted_told : (cause : Option Refusal) → None ≡ refusal_by (granted_unless cause host (given granted told smid)).answer
      → (granted_unless cause host (given granted told smid)).told ≡ told
  granted_told (Some c) is = cc
  granted_told None is = refl

  pub refused_entries : (cause : Option Refusal) (c : Refusal) → Some c ≡ refusal_by (granted_unless cause host (given granted told smid)).answer
      → (by_result line refused (granted_unless cause host (given granted told smid))).entries ≡ entry.Given line ∷ refused c ∷ []
  refused_entries (Some d) c is = cc
  refused_entries None c is = cc

  pub refused_part : (cause : Option Refusal) (c : Refusal) → Some c ≡ refusal_by (granted_unless cause host (given granted told smid)).answer
      → (granted_unless cause host (given granted told smid)).part ≡ host
  refused_part (Some d) c is = refl
  refused_part None c is = cc

-- ---- aborts

pub abort_granted : (host : Host) (n : ℕ) → None ≡ refusal_by (host_aborts host n).answer → (host_told host (input.Abort n)).entries ≡ entry.Given (input.Abort n) ∷ []
abort_granted host n is = granted_entries (input.Abort n) (entry.Refuse (call.Abort n)) host _ [] _ (host_cause_of_abort host n) is

pub abort_refused : (host : Host) (n : ℕ) (c : Refusal) → Some c ≡ refusal_by (host_aborts host n).answer
    → (host_told host (input.Abort n)).entries ≡ entry.Given (input.Abort n) ∷ entry.Refuse (call.Abort n) c ∷ []
abort_refused host n c is = refused_entries (input.Abort n) (entry.Refuse (call.Abort n)) host _ [] _ (host_cause_of_abort host n) c is

pub abort_stays : (host : Host) (n : ℕ) (c : Refusal) → Some c ≡ refusal_by (host_aborts host n).answer → (host_told host (input.Abort n)).part ≡ host
abort_stays host n c is = refused_part (input.Abort n) (entry.Refuse (call.Abort n)) host _ [] _ (host_cause_of_abort host n) c is

-- ---- target resets

pub target_granted : (host : Host) (address : ℕ) → None ≡ refusal_by (host_resets_target host address).answer
    → (host_told host (input.TargetReset address)).entries ≡ entry.Given (input.TargetReset address) ∷ []
target_granted host address is = granted_entries (input.TargetReset address) (entry.Refuse (call.TargetReset address)) host _ [] _ (host_cause_of_target_reset host address) is

pub target_refused : (host : Host) (address : ℕ) (c : Refusal) → Some c ≡ refusal_by (host_resets_target host address).answer
    → (host_told host (input.TargetReset address)).entries ≡ entry.Given (input.TargetReset address) ∷ entry.Refuse (call.TargetReset address) c ∷ []
target_refused host address c is = refused_entries (input.TargetReset address) (entry.Refuse (call.TargetReset address)) host _ [] _ (host_cause_of_target_reset host address) c is

pub target_stays : (host : Host) (address : ℕ) (c : Refusal) → Some c ≡ refusal_by (host_resets_target host address).answer → (host_told host (input.TargetReset address)).part ≡ host
target_stays host address c is = refused_part (input.TargetReset address) (entry.Refuse (call.TargetReset address)) host _ [] _ (host_cause_of_target_reset host address) c is

-- ---- submissions

pub submit_granted : (host : Host) (n address : ℕ) (form : CommandForm) → None ≡ refusal_by (host_submits host n address (command_named form)).answer
    → (host_told host (input.Submit n address form)).entries ≡ entry.Given (input.Submit n address form) ∷ (host_submits host n address (command_named form)).told
submit_granted host n address form is =
    let cause = host_cause_of_submit host n address (command_named form) in
    granted_entries (input.Submit n address form) (entry.RefuseSubmit n) host _ _ _ cause is
    ∙ ap (λ told. entry.Given (input.Submit n address form) ∷ told) (sym (granted_told (input.Submit n address form) (entry.RefuseSubmit n) host _ _ _ cause is))

pub submit_refused : (host : Host) (n address : ℕ) (form : CommandForm) (c : Refusal) → Some c ≡ refusal_by (host_submits host n address (command_named form)).answer
    → (host_told host (input.Submit n address form)).entries ≡ entry.Given (input.Submit n address form) ∷ entry.RefuseSubmit n c ∷ []
submit_refused host n address form c is =
    refused_entries (input.Submit n address form) (entry.RefuseSubmit n) host _ _ _ (host_cause_of_submit host n address (command_named form)) c is

pub submit_stays : (host : Host) (n address : ℕ) (form : CommandForm) (c : Refusal) → Some c ≡ refusal_by (host_submits host n address (command_named form)).answer
    → (host_told host (input.Submit n address form)).part ≡ host
submit_stays host n address form c is =
    refused_part (input.Submit n address form) (entry.RefuseSubmit n) host _ _ _ (host_cause_of_submit host n address (command_named form)) c is

-- ---- the host after its input was recorded

told_there : {T E : Type 0} (r : Result T E) (line : Input) (refusal : Option Entry) (before : Recorded Host) (asked : Host) (told : List Entry) (after : Host) (row : Row Entry)
    → asked ≡ (host_told before.part line).part → entry.Given line ∷ (option_to_list refusal ++ told) ≡ (host_told before.part line).entries
    → after ≡ asked → OnOk r (row ≡ stamped_with before.row (next_stamp before) (entry.Given line ∷ (option_to_list refusal ++ told)))
    → OnOk r (record { part = after; row = row; clock = next_stamp before } ≡ after_case host_does before (record { stamp = next_stamp before; value = HostCase.Told line }))
told_there (Err e) line refusal before asked told after row part entries same kept = tt
told_there (Ok x) line refusal before asked told after row part entries same kept =
    let p = same ∙ part in
    let q = kept ∙ ap (stamped_with before.row (next_stamp before)) entries in
    λ i. record { part = p i; row = q i; clock = next_stamp before }

pub told_left : {T E : Type 0} (r : Result T E) (line : Input) (refusal : Option Entry) (before now : Recorded Host) (asked : Host) (told : List Entry) (after : Host) (row : Row Entry)
    → before ≡ now → asked ≡ (host_told before.part line).part → entry.Given line ∷ (option_to_list refusal ++ told) ≡ (host_told before.part line).entries
    → after ≡ asked → OnOk r (row ≡ stamped_with before.row (next_stamp before) (entry.Given line ∷ (option_to_list refusal ++ told)))
    → OnOk r (record { part = after; row = row; clock = next_stamp before } ≡ after_case host_does now (record { stamp = next_stamp now; value = HostCase.Told line }))
told_left r line refusal before now asked told after row is part entries same kept =
    subst
    (λ (x : Recorded Host). OnOk r (record { part = after; row = row; clock = next_stamp before } ≡ after_case host_does x (record { stamp = next_stamp x; value = HostCase.Told line })))
    is (told_there r line refusal before asked told after row part entries same kept)
