use Rattle.event_msgs.specs.EventAsk.{event_ask_values}
use Rattle.event_msgs.proofs.event_ask.EventAsk.values.Goals as goal

pub returns : goal.returns
unfolding event_ask_values
returns c = cc
