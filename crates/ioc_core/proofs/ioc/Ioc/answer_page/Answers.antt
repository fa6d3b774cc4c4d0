use Rattle.std.proofs.Common.{◌∙◌, sym, refl}
use Rattle.ioc_core.proofs.Works.{config_paged, config_pageless}
use Rattle.ioc_core.proofs.ioc.Ioc.answer_page.Goals as goal

pub returns-in-Some-clause-part : goal.returns-in-Some-clause-part
returns-in-Some-clause-part c =
    let paged = config_paged c.args.self.now.part c.args.post.now c.in-Some.page c.requires.passes (sym c.in-Some.is ∙ c.requires.given) in
    rw (c.end_config.ensures.part, paged) refl

pub returns-in-None-clause-part : goal.returns-in-None-clause-part
returns-in-None-clause-part c =
    let pageless = config_pageless c.args.self.now.part c.args.post.now c.requires.passes (sym c.in-None.is ∙ c.requires.given) in
    rw (c.end_config-in-None.ensures.part, c.empty-nothing.ensures, pageless) refl
