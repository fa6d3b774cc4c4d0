use Rattle.config_pages.specs.ConfigAsk.{config_ask_layout}
use Rattle.config_pages.proofs.config_ask.ConfigAsk.layout.Goals as goal

pub returns : goal.returns
unfolding config_ask_layout
returns c = c.new.ensures
