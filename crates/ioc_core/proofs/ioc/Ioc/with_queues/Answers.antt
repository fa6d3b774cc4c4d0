use Rattle.std.proofs.Common.{refl}
use Rattle.ioc_core.proofs.ioc.Ioc.with_queues.Goals as goal

pub returns : goal.returns
returns c =
    rw (c.in_ok-posts.ensures, c.in_ok-lists.ensures, c.in_ok-disks.ensures, c.in_ok-free.ensures, c.in_ok-requests.ensures, c.new-6.ensures, c.new-7.ensures) refl
