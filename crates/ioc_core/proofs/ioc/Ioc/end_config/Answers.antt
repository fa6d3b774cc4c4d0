use Rattle.std.proofs.Common.{refl}
use Rattle.ioc_requests.proofs.Named.{config_ask_named}
use Rattle.ioc_core.proofs.ioc.Ioc.end_config.Goals as goal

pub returns-clause-part : goal.returns-clause-part
returns-clause-part c =
    let named = config_ask_named c.args.ask.now c.args.post.now.frame c.requires.stands in
    rw (c.say_on.ensures.part, c.paged-said.ensures, c.smid_of.ensures, named.action, named.ext_page_type) refl
