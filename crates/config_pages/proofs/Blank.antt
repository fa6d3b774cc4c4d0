-- A blank message has in each row 0 or the first number that the row's rule names.
use Rattle.std.proofs.Common.{◌≡◌, refl}
use Rattle.mpi_layout.specs.Rows.{blank_values}
use Rattle.config_pages.specs.declared.config_ask.TheConstants.ConfigAsk as config_ask
use Rattle.config_pages.specs.ConfigAsk.{config_ask_layout, config_ask_values}
use Rattle.config_pages.specs.declared.config_reply.TheConstants.ConfigReply as config_reply
use Rattle.config_pages.specs.ConfigReply.{config_reply_layout, config_reply_values}
use Rattle.config_pages.specs.declared.device_page0.TheConstants.DevicePage0 as device_page0
use Rattle.config_pages.specs.DevicePage0.{device_page0_layout, device_page0_values}

config_ask-blank : config_ask_values config_ask.BLANK ≡ blank_values config_ask_layout
unfolding config_ask_layout config_ask_values
config_ask-blank = refl

config_reply-blank : config_reply_values config_reply.BLANK ≡ blank_values config_reply_layout
unfolding config_reply_layout config_reply_values
config_reply-blank = refl

device_page0-blank : device_page0_values device_page0.BLANK ≡ blank_values device_page0_layout
unfolding device_page0_layout device_page0_values
device_page0-blank = refl
