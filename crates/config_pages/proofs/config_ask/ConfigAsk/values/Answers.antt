use Rattle.config_pages.specs.ConfigAsk.{config_ask_values}
use Rattle.config_pages.proofs.config_ask.ConfigAsk.values.Goals as goal

pub returns : goal.returns
unfolding config_ask_values
returns c = cc
