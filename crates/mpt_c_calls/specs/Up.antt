-- An item of a lane up, as C has it.
use Rattle.std.specs.Prelude.{◌≡◌, ℕ, List, length, Option, Some, None}
use Rattle.mpt_trace.specs.declared.item.Up.{Up}
use Rattle.mpt_trace.specs.declared.item.Up.TheVariants as up
use Rattle.mpt_rules.specs.Ioc.Sending.{front_up_on, up_sent_on}
use Rattle.mpt_c_messages.specs.declared.call_code.CallCode.{CallCode}
use Rattle.mpt_c_messages.specs.declared.call_code.CallCode.TheVariants as code
use Rattle.ioc_core.specs.Seen.{IocSeen}
use Rattle.mpt_c_messages.specs.declared.up_head.UpHead.{UpHead}
use Rattle.mpt_c_messages.specs.Putting.{over}
use Rattle.mpt_c_calls.specs.Down.{IsSameIoc}

-- 1 where a reply has a frame
abbrev pub frame_count : Option (List ℕ) → ℕ
frame_count None = 0
frame_count (Some frame) = 1

abbrev pub head_with : ℕ → ℕ → UpHead
head_with kind value = record { descriptor = 0; kind = kind; value = value; has_frame = 0; page_length = 0; sense_length = 0 }

-- what stands before the item's data
abbrev pub up_head : Up → UpHead
up_head (up.Value value) = head_with 1 value
up_head (up.Reply descriptor frame page sense) = record {
  descriptor = descriptor;
  kind = 2;
  value = 0;
  has_frame = frame_count frame;
  page_length = length page;
  sense_length = length sense;
}
up_head (up.Mark generation) = head_with 3 generation
up_head up.Calm = head_with 4 0

-- the frame after it
abbrev pub frame_or : Option (List ℕ) → List ℕ → List ℕ
frame_or None old = old
frame_or (Some frame) old = frame

abbrev pub frame_after : Up → List ℕ → List ℕ
frame_after (up.Reply descriptor frame page sense) old = frame_or frame old
frame_after _ old = old

-- the data after it
abbrev pub page_after : Up → List ℕ → List ℕ
page_after (up.Reply descriptor frame page sense) old = over page old
page_after _ old = old

abbrev pub sense_after : Up → List ℕ → List ℕ
sense_after (up.Reply descriptor frame page sense) old = over sense old
sense_after _ old = old

-- C has the item, or, without one, what it had
abbrev pub FillsUp : UpHead → UpHead → List ℕ → List ℕ → List ℕ → List ℕ → List ℕ → List ℕ → Option Up → Type 0
FillsUp head head' frame frame' page page' sense sense' (Some item) =
    (head' ≡ up_head item) × (frame' ≡ frame_after item frame) × (page' ≡ page_after item page) × (sense' ≡ sense_after item sense)
FillsUp head head' frame frame' page page' sense sense' None =
    (head' ≡ head) × (frame' ≡ frame) × (page' ≡ page) × (sense' ≡ sense)

-- Ok: C has what was next on the lane, which is gone from it. Nothing: nothing is put there now. Else nothing changed
abbrev pub PutsUp : IocSeen → IocSeen → ℕ → (Option Up → Type 0) → CallCode → Type 0
PutsUp old new queue fills code.Ok =
    (item : Up) × (front_up_on old.part queue ≡ Some item) × fills (Some item) × (new.part ≡ up_sent_on old.part queue)
    × (new.told ≡ old.told)
PutsUp old new queue fills code.Nothing = (front_up_on old.part queue ≡ None) × fills None × IsSameIoc old new
PutsUp old new queue fills code.ShortBuffer = fills None × IsSameIoc old new
PutsUp old new queue fills code.NoMemory = fills None × IsSameIoc old new
PutsUp old new queue fills _ = ⊥
