use Rattle.std.proofs.Common.{sym}
use Rattle.host_core.proofs.Posts.{posts_internal-is}
use Rattle.host_core.proofs.host.Host.ask_internal.Goals as goal

pub returns-in-Some-clause-host : goal.returns-in-Some-clause-host
returns-in-Some-clause-host c =
    rw (← c.self.view_is, ← c.in-Some.ensures.least, c.push_internal.ensures, c.grant.ensures, c.in-Some.ensures.opened)
    (sym (posts_internal-is _ c.in-Some.smid c.args.request c.requires.class))
