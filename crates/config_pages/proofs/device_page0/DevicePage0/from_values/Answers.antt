use Rattle.std.proofs.Common.{refl}
use Rattle.config_pages.specs.DevicePage0.{device_page0_layout, device_page0_values}
use Rattle.config_pages.proofs.device_page0.DevicePage0.from_values.Goals as goal

pub returns : goal.returns
unfolding device_page0_layout device_page0_values
returns c = refl
