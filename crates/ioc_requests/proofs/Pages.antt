-- The bytes of a page.
use Rattle.std.proofs.Common.{◌≡◌, ℕ, ◌<◌, List, length, get_or, sym, ◌∙◌, refl, arith}
use Rattle.std.proofs.lemmas.List.{take_all}
use Rattle.mpi_layout.specs.Rows.{IsTiled}
use Rattle.config_pages.specs.DevicePage0.{DevicePage0Stands, device_page0_layout, device_page0_values}
use Rattle.config_pages.specs.declared.device_page0.DevicePage0.{DevicePage0}
use Rattle.mpt_messages.specs.FrameBytes.{layout_bytes}
use Rattle.mpt_messages.proofs.RowsBytes.{stands_front}

page_long : device_page0_layout.length ≡ 56
unfolding device_page0_layout
page_long = refl

page_tiled : IsTiled device_page0_layout
unfolding device_page0_layout
page_tiled = refl

-- the bytes that stand for a page, and no more, are the page's
pub page_whole : (m : DevicePage0) (bytes : List ℕ) → length bytes ≡ 56 → ((k : ℕ) → get_or bytes k 0 < 256) → DevicePage0Stands m bytes → bytes ≡ layout_bytes device_page0_layout (device_page0_values m)
page_whole m bytes long small stands =
    sym (take_all 56 bytes (omega (arith, long))) ∙ stands_front device_page0_layout 56 (device_page0_values m) bytes page_long page_tiled small stands
