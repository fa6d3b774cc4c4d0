use Rattle.std.proofs.Common.{refl}
use Rattle.event_msgs.specs.EventAsk.{event_ask_layout, event_ask_values}
use Rattle.event_msgs.proofs.event_ask.EventAsk.from_values.Goals as goal

pub returns : goal.returns
unfolding event_ask_layout event_ask_values
returns c = refl
