use Rattle.std.proofs.Common.{◌∙◌, Bool, sym, ap}
use Rattle.mpt_rules.specs.Ioc.Parts.{Ioc}
use Rattle.mpt_rules.specs.Ioc.Steps.{refuses}
use Rattle.mpt_rules.specs.Outcome.{Called}
use Rattle.ioc_requests.specs.declared.asked.PostRead.TheVariants as read
use Rattle.ioc_core.proofs.FrontRead.{was_front}
use Rattle.ioc_core.proofs.ioc.Ioc.serve.Goals as goal

pub returns-in-Refused-clause-part : goal.returns-in-Refused-clause-part
returns-in-Refused-clause-part c =
    let front = was_front c.args.queue c.args.self.now.part c.args.smid (read.Refused c.in-Refused.kind c.in-Refused.fault) c.take_front-post.result (rw c.in-Refused.is at c.requires.front) c.take_front-post.ensures.value in
    c.refuse.ensures.part ∙ ap (λ (i : Ioc). refuses i c.take_front-post.result c.in-Refused.kind c.in-Refused.fault) c.take_front-post.ensures.part ∙ sym (ap (λ (o : Called Ioc Bool). o.part) front.done)
