-- How much a controller has to do.
use Rattle.std.specs.Prelude.{ℕ, ◌+◌, length, sum_by}
use Rattle.mpt_rules.specs.Ioc.Parts.{Ioc}
use Rattle.mpt_rules.specs.World.Weight.{gone_bindings, pending_requests, queued_posts, said_items, waiting_addresses}

-- what it puts, values not counted; the posts that aren't processed; the handles that are to be removed; the disks that
-- wait for a handle; and what is at the fabric or waits for that
abbrev pub ioc_things : Ioc → ℕ
ioc_things ioc =
    sum_by said_items ioc.up + length ioc.out + queued_posts ioc + gone_bindings ioc + waiting_addresses ioc
    + pending_requests ioc
