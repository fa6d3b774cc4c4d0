-- Where an identifier and a reply frame are.
use Rattle.std.specs.Prelude.{ℕ, ◌==◌, Bool, false, slice_index_or, Option, Some, None, if◌then◌else◌}
use Rattle.std.specs.List.{list_any}
use Rattle.smid_pool.specs.Pool as pool
use Rattle.smid_pool.specs.Pool.{Slot, slot_of}
use Rattle.mpt_wire.specs.Messages.Fields.{smid_in, frame_address_in, reply_frame_address}
use Rattle.mpt_trace.specs.declared.item.Down.{Down}
use Rattle.mpt_trace.specs.declared.item.Down.TheVariants as down
use Rattle.mpt_trace.specs.declared.item.Up.{Up}
use Rattle.mpt_trace.specs.declared.item.Up.TheVariants as up
use Rattle.mpt_rules.specs.declared.host_frame.HostFrame.{HostFrame}
use Rattle.mpt_rules.specs.declared.host_frame.HostFrame.TheVariants as frame
use Rattle.mpt_rules.specs.declared.request.Request.{Request}
use Rattle.mpt_rules.specs.Ioc.Takes.{IocPlace, InHighQueue, InNormalQueue, AtTheFabric, InUpOutbox, smid_at, frame_here}
use Rattle.mpt_rules.specs.World.State.{World}

-- ---- what names an identifier, and what names a reply frame

-- the item posts a request under this identifier
abbrev pub is_posted_as : ℕ → Down → Bool
is_posted_as smid (down.Post descriptor frame payload) = smid_in descriptor == smid
is_posted_as smid _ = false

-- the item of a lane up is a reply to this identifier
abbrev pub is_answered_by : ℕ → Up → Bool
is_answered_by smid (up.Reply descriptor frame page sense) = smid_in descriptor == smid
is_answered_by smid _ = false

-- the item returns this reply frame
abbrev pub is_return_of : ℕ → Down → Bool
is_return_of number (down.Return address index) = address == reply_frame_address number
is_return_of number _ = false

-- the item is a reply in this frame
abbrev pub is_in_frame : ℕ → Up → Bool
is_in_frame number (up.Reply descriptor (Some frame) page sense) = frame_address_in descriptor == reply_frame_address number
is_in_frame number _ = false

-- ---- the places

-- the places of an identifier
pub data SmidPlace : Type 0 where
  Free : SmidPlace
  Parked : SmidPlace
  HostOut : SmidPlace
  DownLane : SmidPlace
  HighQueue : SmidPlace
  NormalQueue : SmidPlace
  AtFabric : SmidPlace
  UpOut : SmidPlace
  UpLane : SmidPlace
  Void : SmidPlace

-- an identifier that the controller has at this place, or not at all
abbrev pub place_at_ioc : World → ℕ → Option IocPlace → SmidPlace
place_at_ioc w smid (Some InHighQueue) = SmidPlace.HighQueue
place_at_ioc w smid (Some InNormalQueue) = SmidPlace.NormalQueue
place_at_ioc w smid (Some AtTheFabric) = SmidPlace.AtFabric
place_at_ioc w smid (Some InUpOutbox) = SmidPlace.UpOut
place_at_ioc w smid None = if list_any (list_any (is_answered_by smid)) w.up then SmidPlace.UpLane else SmidPlace.Void

-- the place of an identifier with this slot in the pool
abbrev pub place_of_slot : World → ℕ → Slot Request → SmidPlace
place_of_slot w smid pool.Free = SmidPlace.Free
place_of_slot w smid pool.Parked = SmidPlace.Parked
place_of_slot w smid (pool.Open value) =
    if list_any (is_posted_as smid) w.host.out then SmidPlace.HostOut
    else (if list_any (is_posted_as smid) w.down then SmidPlace.DownLane
    else place_at_ioc w smid (smid_at w.ioc smid))

-- where an identifier is: the first of these places that has it. It is nowhere only where a reset dropped its item
abbrev pub smid_place : World → ℕ → SmidPlace
smid_place w smid = place_of_slot w smid (slot_of w.host.pool smid)

-- the places of a reply frame
pub data FramePlace : Type 0 where
  Host : FramePlace
  HostOut : FramePlace
  DownLane : FramePlace
  Ring : FramePlace
  UpLane : FramePlace
  Void : FramePlace

-- the place of a reply frame that the host knows so
abbrev pub place_of_frame : World → ℕ → HostFrame → FramePlace
place_of_frame w number frame.Held = FramePlace.Host
place_of_frame w number _ =
    if list_any (is_return_of number) w.host.out then FramePlace.HostOut
    else (if list_any (is_return_of number) w.down then FramePlace.DownLane
    else (if frame_here w.ioc number then FramePlace.Ring
    else (if list_any (list_any (is_in_frame number)) w.up then FramePlace.UpLane
    else FramePlace.Void)))

-- where a reply frame is: the first of these places that has it. It is nowhere only where a reset dropped its item
abbrev pub frame_place : World → ℕ → FramePlace
frame_place w number = place_of_frame w number (slice_index_or w.host.frames number frame.Away)
