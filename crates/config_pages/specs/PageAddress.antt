-- The page address of a SAS Device Page.
use Rattle.std.specs.Prelude.{ℕ}
use Rattle.mpi_names.specs.declared.config.TheConstants.{MPI2_SAS_DEVICE_PGAD_FORM_HANDLE}
use Rattle.config_pages.specs.declared.page_form.PageForm.{PageForm}
use Rattle.config_pages.specs.declared.page_form.PageForm.TheVariants.{Next, ByHandle}

-- mpi2_cnfg.h: MPI2_SAS_DEVICE_PGAD_FORM_GET_NEXT_HANDLE is 0
abbrev pub form_bits : PageForm → ℕ
form_bits Next = 0x0000_0000
form_bits ByHandle = MPI2_SAS_DEVICE_PGAD_FORM_HANDLE
