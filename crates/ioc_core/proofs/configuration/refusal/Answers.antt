use Rattle.ioc_core.proofs.Works.{config_action, config_passes, config_type}
use Rattle.ioc_core.proofs.configuration.refusal.Goals as goal

pub returns-then-other_action : goal.returns-then-other_action
returns-then-other_action c = λ frame stands. config_action c.args.ask.now frame stands c.if-other_action.true

pub returns-then-other_type : goal.returns-then-other_type
returns-then-other_type c = λ frame stands. config_type c.args.ask.now frame stands c.if-other_action.false c.if-other_type.true

pub returns-else-other_type : goal.returns-else-other_type
returns-else-other_type c = λ frame stands. config_passes c.args.ask.now frame stands c.if-other_action.false c.if-other_type.false
