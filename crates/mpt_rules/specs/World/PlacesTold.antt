-- What `places` tells: the place of an identifier, and of a reply frame, is the one where it is found.
use Rattle.std.specs.Prelude.{◌≡◌, ℕ, ◌+◌, Bool, true, false, sum_by, slice_index_or, is_some}
use Rattle.smid_pool.specs.Pool as pool
use Rattle.smid_pool.specs.Pool.{Slot, slot_of}
use Rattle.mpt_rules.specs.declared.host_frame.HostFrame.TheVariants as frame
use Rattle.mpt_rules.specs.declared.request.Request.{Request}
use Rattle.mpt_rules.specs.World.Counts.{one_if, how_many, post_count, queued_count, reply_count, return_count, use_count}
use Rattle.mpt_rules.specs.Ioc.Tables.{is_held_as, request_at}
use Rattle.mpt_rules.specs.World.PlaceCounts.{frame_count, is_held_frame, is_this_number, replies_on, smid_count}
use Rattle.mpt_rules.specs.World.Places.{FramePlace, SmidPlace, frame_place, smid_place}
use Rattle.mpt_rules.specs.World.State.{World}

abbrev pub is_free_slot : Slot Request → Bool
is_free_slot pool.Free = true
is_free_slot pool.Parked = false
is_free_slot (pool.Open value) = false

abbrev pub is_parked_slot : Slot Request → Bool
is_parked_slot pool.Free = false
is_parked_slot pool.Parked = true
is_parked_slot (pool.Open value) = false

-- how often an identifier is found at a place
abbrev pub smid_found : World → ℕ → SmidPlace → ℕ
smid_found w smid SmidPlace.Free = one_if (is_free_slot (slot_of w.host.pool smid))
smid_found w smid SmidPlace.Parked = one_if (is_parked_slot (slot_of w.host.pool smid))
smid_found w smid SmidPlace.HostOut = post_count smid w.host.out
smid_found w smid SmidPlace.DownLane = post_count smid w.down
smid_found w smid SmidPlace.HighQueue = queued_count smid w.ioc.high
smid_found w smid SmidPlace.NormalQueue = queued_count smid w.ioc.normal
smid_found w smid SmidPlace.AtFabric = one_if (is_some (request_at w.ioc smid)) + how_many (is_held_as smid) w.ioc.held
smid_found w smid SmidPlace.UpOut = sum_by (reply_count smid) w.ioc.up
smid_found w smid SmidPlace.UpLane = sum_by (replies_on smid) w.up
smid_found w smid SmidPlace.Void = 0

-- how often a reply frame is found at a place
abbrev pub frame_found : World → ℕ → FramePlace → ℕ
frame_found w number FramePlace.Host = one_if (is_held_frame (slice_index_or w.host.frames number frame.Away))
frame_found w number FramePlace.HostOut = return_count number w.host.out
frame_found w number FramePlace.DownLane = return_count number w.down
frame_found w number FramePlace.Ring = how_many (is_this_number number) w.ioc.ring
frame_found w number FramePlace.UpLane = sum_by (use_count number) w.up
frame_found w number FramePlace.Void = 0

-- all that is found of the identifier is found at the place that is told
abbrev pub SmidPlaceIsTold : World → ℕ → Type 0
SmidPlaceIsTold w smid = smid_found w smid (smid_place w smid) ≡ smid_count w smid

abbrev pub FramePlaceIsTold : World → ℕ → Type 0
FramePlaceIsTold w number = frame_found w number (frame_place w number) ≡ frame_count w number
