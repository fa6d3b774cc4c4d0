use Rattle.config_pages.specs.DevicePage0.{device_page0_layout}
use Rattle.config_pages.proofs.device_page0.DevicePage0.layout.Goals as goal

pub returns : goal.returns
unfolding device_page0_layout
returns c = c.new.ensures
