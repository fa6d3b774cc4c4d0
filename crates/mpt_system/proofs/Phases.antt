-- The counts of handles by their phases, one handle after the other.
use Rattle.std.proofs.Common.{◌≡◌, ℕ, ◌+◌, ◌-◌, ◌<◌, ◌≤◌, Bool, true, List, [], ◌∷◌, ◌++◌, length, take, get_or, sym, ap, ◌∙◌, arith}
use Rattle.std.specs.Prelude.{count_by}
use Rattle.std.proofs.lemmas.Grind.{common_steps}
use Rattle.std.proofs.lemmas.List.{length-take-le, take_all, take_more}
use Rattle.std.proofs.lemmas.List.Sums.{count_by-le-length}
use Rattle.removal.specs.declared.phase.Phase.{Phase}
use Rattle.removal.specs.declared.phase.Phase.TheVariants as phase
use Rattle.disk_machine.specs.Summary.{parts_with}
use Rattle.disk_machine.specs.declared.parts_summary.PartsSummary.{PartsSummary}
use Rattle.host_core.specs.Places.{host_phase}
use Rattle.mpt_rules.specs.Host.Parts.{Host}
use Rattle.mpt_rules.specs.Host.Removal.{is_disk_handle}
use Rattle.mpt_rules.specs.World.Summaries.{is_reading_phase, is_removing_phase, is_resetting_phase, is_waiting_phase}
use Rattle.mpt_system.specs.Phases.{HasRoomForOne}

-- the phase of the handle at a place
pub phase_there : (host : Host) (place : ℕ) → place < 64 → host_phase host (0x0009 + place) ≡ get_or host.phases place phase.Absent
phase_there host place less =
    let is : is_disk_handle (0x0009 + place) ≡ true = grind (arith, common_steps, less) in
    let at : 0x0009 + place - 0x0009 ≡ place = omega arith in
    rw is (ap (λ k. get_or host.phases k phase.Absent) at)

-- there is room for one more of 64
pub room_there : (phases : List Phase) (quiet : Bool) (place : ℕ) (parts : PartsSummary) → length phases ≡ 64 → place < 64 → parts ≡ parts_with (take place phases) quiet → HasRoomForOne parts
room_there phases quiet place parts size less so =
    let long : length (take place phases) ≡ place = length-take-le place phases (omega arith) in
    let few : (test : Phase → Bool) → count_by test (take place phases) ≤ place = λ test. let most = count_by-le-length test (take place phases) in omega (arith, long, most) in
    record {
      reading = let e = ap (λ (p : PartsSummary). p.reading) so in let most = few is_reading_phase in omega (arith, e, most);
      waiting = let e = ap (λ (p : PartsSummary). p.waiting) so in let most = few is_waiting_phase in omega (arith, e, most);
      resetting = let e = ap (λ (p : PartsSummary). p.resetting) so in let most = few is_resetting_phase in omega (arith, e, most);
      removing = let e = ap (λ (p : PartsSummary). p.removing) so in let most = few is_removing_phase in omega (arith, e, most);
    }

-- one more is counted
pub handle_more : (phases : List Phase) (quiet : Bool) (place : ℕ) (p : Phase) (parts : PartsSummary) → place < length phases → p ≡ get_or phases place phase.Absent
    → parts ≡ parts_with (take place phases ++ p ∷ []) quiet → parts ≡ parts_with (take (place + 1) phases) quiet
handle_more phases quiet place p parts less is so =
    so ∙ ap (λ ps. parts_with ps quiet) (ap (λ x. take place phases ++ x ∷ []) is ∙ sym (take_more phases place phase.Absent less))

pub all_handles : (phases : List Phase) (quiet : Bool) (place : ℕ) (parts : PartsSummary) → length phases ≡ 64 → 64 ≤ place → parts ≡ parts_with (take place phases) quiet → parts ≡ parts_with phases quiet
all_handles phases quiet place parts size past so = so ∙ ap (λ ps. parts_with ps quiet) (take_all place phases (omega arith))
