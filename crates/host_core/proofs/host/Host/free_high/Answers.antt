use Rattle.std.proofs.Common.{◌≡◌, ◌∙◌, [], refl, sym, ap}
use Rattle.host_tables.specs.Lists.{Lists}
use Rattle.host_core.specs.contracts.host.Host.{the_view}
use Rattle.host_core.proofs.Posts.{gives_high-is, none_waits}
use Rattle.host_core.proofs.host.Host.free_high.Goals as goal

pub returns-in-Some-clause-host : goal.returns-in-Some-clause-host
returns-in-Some-clause-host c =
    rw (← c.self.view_is, c.in-Some.ensures.first, c.push_leave.ensures, c.grant.ensures, c.reopen.ensures, c.in-Some.ensures.rest)
    (sym (gives_high-is (the_view c.self.inside).host c.args.smid c.in-Some.handle _))

pub returns-in-None-clause-host : goal.returns-in-None-clause-host
returns-in-None-clause-host c =
    let none : c.self.inside.lists.high ≡ [] = none_waits c.self.inside.lists.high (c.in-None.ensures.first ∙ ap (λ (l : Lists). l.high) c.in-None.ensures.rest) in
    rw (← c.self.view_is, c.free.ensures, c.in-None.ensures.rest, none) refl
