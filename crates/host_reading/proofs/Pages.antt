-- SAS Device Page 0 that was read.
use Rattle.std.proofs.Common.{◌≡◌, ℕ, ◌==◌, false, List, get_or, Some, refl, ap}
use Rattle.mpi_layout.specs.declared.fault.Fault.{Fault}
use Rattle.mpi_layout.specs.Rows.{first_fault}
use Rattle.mpi_layout.proofs.Moves.{Stands-no_fault}
use Rattle.config_pages.specs.declared.device_page0.DevicePage0.{DevicePage0}
use Rattle.config_pages.specs.DevicePage0.{DevicePage0Stands, device_page0_layout, device_page0_values}
use Rattle.mpt_wire.specs.Messages.Fields.{page_dev_handle_in}
use Rattle.mpt_rules.specs.Host.Strange.{is_page_for}

-- DevHandle of the page
handle_of_page : (m : DevicePage0) (page : List ℕ) → DevicePage0Stands m page → page_dev_handle_in page ≡ m.dev_handle
unfolding device_page0_layout device_page0_values
handle_of_page m page stands = ap (λ vs. get_or vs 13 0) stands.numbers

pub page_read : (m : DevicePage0) (page : List ℕ) (handle : ℕ) → DevicePage0Stands m page → (m.dev_handle == handle) ≡ is_page_for handle page
page_read m page handle stands =
    rw (Stands-no_fault device_page0_layout (device_page0_values m) page stands, handle_of_page m page stands) refl

pub page_refused : (fault : Fault) (page : List ℕ) (handle : ℕ) → first_fault device_page0_layout page ≡ Some fault → false ≡ is_page_for handle page
page_refused fault page handle refused = rw refused refl
