use Rattle.config_pages.specs.ConfigReply.{config_reply_layout}
use Rattle.config_pages.proofs.config_reply.ConfigReply.layout.Goals as goal

pub returns : goal.returns
unfolding config_reply_layout
returns c = c.new.ensures
