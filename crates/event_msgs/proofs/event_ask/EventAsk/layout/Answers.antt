use Rattle.event_msgs.specs.EventAsk.{event_ask_layout}
use Rattle.event_msgs.proofs.event_ask.EventAsk.layout.Goals as goal

pub returns : goal.returns
unfolding event_ask_layout
returns c = c.new.ensures
