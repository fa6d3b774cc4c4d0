-- What a reset tells of the identifiers, one after the other.
use Rattle.std.proofs.Common.{◌≡◌, ◌∙◌, ℕ, suc, ◌+◌, ◌<◌, [], ◌∷◌, ◌++◌, List, length, take, get_or, refl, ap, arith}
use Rattle.std.specs.List.{filter_map}
use Rattle.std.proofs.Math.Seq.{take-suc}
use Rattle.std.proofs.lemmas.List.Elements.{filter_map-append}
use Rattle.smid_pool.specs.Pool.{Free, Open, Parked, Slot, record_of, slot_of}
use Rattle.mpt_rules.specs.declared.request.Request.{Request}
use Rattle.mpt_rules.specs.declared.request.Request.TheVariants as request
use Rattle.mpt_rules.specs.Host.Resets.{reset_target}
use Rattle.host_core.specs.Resets.{target_told}

one_told : (slot : Slot Request) → filter_map reset_target (slot ∷ []) ≡ target_told (record_of slot)
one_told Free = refl
one_told Parked = refl
one_told (Open (request.TargetReset address)) = refl
one_told (Open (request.Command n)) = refl
one_told (Open (request.Abort n task)) = refl
one_told (Open (request.Leave handle)) = refl
one_told (Open (request.Page handle)) = refl
one_told (Open (request.Remove handle)) = refl
one_told (Open (request.Ack event context)) = refl
one_told (Open request.Notification) = refl
one_told (Open request.PortEnable) = refl

-- one identifier more
pub targets-more : (pool : List (Slot Request)) (i : ℕ) → i < length pool →
    filter_map reset_target (take (i + 1) pool) ≡ filter_map reset_target (take i pool) ++ target_told (record_of (slot_of pool (i + 1)))
targets-more pool i within =
    let next : i + 1 ≡ suc i = omega arith in
    rw (next, take-suc pool i Free within)
    (filter_map-append reset_target (take i pool) (get_or pool i Free ∷ [])
    ∙ ap (λ (told : List _). filter_map reset_target (take i pool) ++ told) (one_told (get_or pool i Free)))
