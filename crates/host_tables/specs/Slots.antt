-- What the host's identifiers keep.
use Rattle.std.specs.Prelude.{◌≡◌, ℕ, ◌≤◌, Bool, true, false, List, Option, Some}
use Rattle.smid_pool.specs.Pool.{Slot, Open, slot_of}
use Rattle.mpt_rules.specs.declared.request.Request.{Request}
use Rattle.mpt_rules.specs.declared.request.Request.TheVariants as request

-- the request is of the internal class
abbrev pub is_internal : Request → Bool
is_internal (request.Command n) = false
is_internal (request.Abort n task) = false
is_internal (request.TargetReset address) = false
is_internal (request.Leave handle) = false
is_internal (request.Page handle) = true
is_internal (request.Remove handle) = true
is_internal (request.Ack event context) = true
is_internal request.Notification = true
is_internal request.PortEnable = true

-- it is a target reset that was asked from outside
abbrev pub is_target_reset_request : Option Request → Bool
is_target_reset_request (Some (request.TargetReset address)) = true
is_target_reset_request _ = false

-- the identifier is of the internal class
abbrev pub IsInternalSmid : ℕ → Type 0
IsInternalSmid smid = (265 ≤ smid) × (smid ≤ 280)

-- a request of the internal class has an identifier of that class
abbrev pub IsSorted : List (Slot Request) → Type 0
IsSorted slots = (smid : ℕ) (r : Request) → slot_of slots smid ≡ Open r → is_internal r ≡ true → IsInternalSmid smid
