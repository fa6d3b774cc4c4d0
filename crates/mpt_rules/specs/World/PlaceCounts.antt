-- In how many places an identifier is, and a reply frame.
use Rattle.std.specs.Prelude.{ℕ, ◌+◌, ◌==◌, Bool, true, false, not, List, map, sum_by, slice_index_or, is_some}
use Rattle.smid_pool.specs.Pool.{is_open, slot_of}
use Rattle.mpt_trace.specs.declared.item.Up.{Up}
use Rattle.mpt_rules.specs.declared.host_frame.HostFrame.{HostFrame}
use Rattle.mpt_rules.specs.declared.host_frame.HostFrame.TheVariants as frame
use Rattle.mpt_rules.specs.World.Counts.{one_if, how_many, post_count, queued_count, reply_count, return_count, use_count}
use Rattle.mpt_rules.specs.World.Lines.{down_line, said_of}
use Rattle.mpt_rules.specs.Ioc.Tables.{is_held_as, request_at}
use Rattle.mpt_rules.specs.World.State.{World}

-- the replies to an identifier on a lane up
abbrev pub replies_on : ℕ → List Up → ℕ
replies_on smid items = reply_count smid (map said_of items)

-- how often an identifier is found: free or parked, in a post on its way or in a queue, at the fabric or waiting for
-- what is there, in a reply
abbrev pub smid_count : World → ℕ → ℕ
smid_count w smid =
    one_if (not (is_open (slot_of w.host.pool smid)))
    + (post_count smid (down_line w) + (queued_count smid w.ioc.high + (queued_count smid w.ioc.normal
    + (one_if (is_some (request_at w.ioc smid)) + (how_many (is_held_as smid) w.ioc.held
    + (sum_by (reply_count smid) w.ioc.up + sum_by (replies_on smid) w.up))))))

abbrev pub is_held_frame : HostFrame → Bool
is_held_frame frame.Held = true
is_held_frame frame.Out = false
is_held_frame frame.Away = false

abbrev pub is_this_number : ℕ → ℕ → Bool
is_this_number n m = m == n

-- how often a reply frame is found: at the host, in a return on its way, in the reply free ring, in a reply on a lane
abbrev pub frame_count : World → ℕ → ℕ
frame_count w number =
    one_if (is_held_frame (slice_index_or w.host.frames number frame.Away))
    + (return_count number (down_line w) + (how_many (is_this_number number) w.ioc.ring + sum_by (use_count number) w.up))
