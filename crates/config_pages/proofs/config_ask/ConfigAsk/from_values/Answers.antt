use Rattle.std.proofs.Common.{refl}
use Rattle.config_pages.specs.ConfigAsk.{config_ask_layout, config_ask_values}
use Rattle.config_pages.proofs.config_ask.ConfigAsk.from_values.Goals as goal

pub returns : goal.returns
unfolding config_ask_layout config_ask_values
returns c = refl
