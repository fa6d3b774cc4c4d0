-- An item of the lane down, as C has it.
use Rattle.std.specs.Prelude.{◌≡◌, ℕ, List, length, slice_get, Option, Some, None}
use Rattle.mpt_trace.specs.declared.item.Down.{Down}
use Rattle.mpt_trace.specs.declared.item.Down.TheVariants as down
use Rattle.mpt_rules.specs.Host.Returns.{down_sent}
use Rattle.mpt_c_messages.specs.declared.call_code.CallCode.{CallCode}
use Rattle.mpt_c_messages.specs.declared.call_code.CallCode.TheVariants as code
use Rattle.host_core.specs.Driver.{Driver, IsSame}
use Rattle.mpt_c_messages.specs.Putting.{over}
use Rattle.mpt_c_hosts.specs.declared.down.DownHead.{DownHead}

-- what stands before the item's data
abbrev pub down_head : Down → DownHead
down_head (down.Write reg value) = record { descriptor = 0; kind = 1; value = value; at = reg; data_length = 0 }
down_head (down.Read reg) = record { descriptor = 0; kind = 2; value = 0; at = reg; data_length = 0 }
down_head (down.Post descriptor frame bytes) =
    record { descriptor = descriptor; kind = 3; value = 0; at = 0; data_length = length bytes }
down_head (down.Return address index) = record { descriptor = 0; kind = 4; value = address; at = index; data_length = 0 }
down_head down.Stop = record { descriptor = 0; kind = 5; value = 0; at = 0; data_length = 0 }

-- the frame after it
abbrev pub request_frame_after : Down → List ℕ → List ℕ
request_frame_after (down.Post descriptor frame bytes) old = frame
request_frame_after _ old = old

-- the data after it
abbrev pub request_data_after : Down → List ℕ → List ℕ
request_data_after (down.Post descriptor frame bytes) old = over bytes old
request_data_after _ old = old

-- C has the item, or, without one, what it had
abbrev pub FillsDown : DownHead → DownHead → List ℕ → List ℕ → List ℕ → List ℕ → Option Down → Type 0
FillsDown head head' frame frame' bytes bytes' (Some item) =
    (head' ≡ down_head item) × (frame' ≡ request_frame_after item frame) × (bytes' ≡ request_data_after item bytes)
FillsDown head head' frame frame' bytes bytes' None = (head' ≡ head) × (frame' ≡ frame) × (bytes' ≡ bytes)

-- Ok: C has what was next on the lane, which is gone from it. Nothing: nothing is put there. ShortBuffer: nothing changed
abbrev pub PutsDown : Driver → Driver → (Option Down → Type 0) → CallCode → Type 0
PutsDown old new fills code.Ok =
    (item : Down) × (slice_get old.host.out 0 ≡ Some item) × fills (Some item) × (new.host ≡ down_sent old.host)
    × (new.told ≡ old.told)
PutsDown old new fills code.Nothing = (slice_get old.host.out 0 ≡ None) × fills None × IsSame old new
PutsDown old new fills code.ShortBuffer = fills None × IsSame old new
PutsDown old new fills _ = ⊥
