use Rattle.std.proofs.Common.{refl}
use Rattle.config_pages.specs.ConfigReply.{config_reply_layout, config_reply_values}
use Rattle.config_pages.proofs.config_reply.ConfigReply.from_values.Goals as goal

pub returns : goal.returns
unfolding config_reply_layout config_reply_values
returns c = refl
