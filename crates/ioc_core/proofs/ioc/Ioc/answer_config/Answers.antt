use Rattle.std.proofs.Common.{refl}
use Rattle.ioc_core.proofs.Works.{config_refused}
use Rattle.ioc_core.proofs.ioc.Ioc.answer_config.Goals as goal

pub returns-in-Some-clause-part : goal.returns-in-Some-clause-part
returns-in-Some-clause-part c =
    let refused = config_refused c.args.self.now.part c.args.post.now c.in-Some.status (c.in-Some.ensures c.args.post.now.frame c.requires.stands) in
    rw (c.end_config.ensures.part, c.empty-nothing.ensures, refused) refl

pub answer_page-requires-clause-passes : goal.answer_page-requires-clause-passes
answer_page-requires-clause-passes c = c.in-None.ensures c.args.post.now.frame c.requires.stands
