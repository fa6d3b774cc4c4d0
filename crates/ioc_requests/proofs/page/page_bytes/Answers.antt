use Rattle.std.proofs.Common.{◌≡◌, ap, ◌∙◌, rules}
use Rattle.config_pages.specs.DevicePage0.{device_page0_layout, device_page0_values}
use Rattle.config_pages.specs.declared.device_page0.DevicePage0.{DevicePage0}
use Rattle.mpt_messages.specs.FrameBytes.{layout_bytes}
use Rattle.mpt_rules.specs.Ioc.Configuration.{page_bytes}
use Rattle.ioc_requests.proofs.Pages.{page_whole}
use Rattle.ioc_requests.proofs.page.page_bytes.Goals as goal

pub returns : goal.returns
returns c =
    let whole = page_whole c.device_page.result c.encode_device_page0.new.out (search rules) c.first_bytes.ensures.bytes c.encode_device_page0.ensures.stands in
    let is : c.encode_device_page0.new.out ≡ page_bytes c.args.handle c.args.address c.args.expander c.args.phy =
    whole ∙ ap (λ (m : DevicePage0). layout_bytes device_page0_layout (device_page0_values m)) c.device_page.ensures.page in
    rw is at c.first_bytes.ensures.value
