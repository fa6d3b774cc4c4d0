-- The page that the controller answers of a disk.
use Rattle.std.specs.Prelude.{ℕ, ◌+◌}
use Rattle.config_pages.specs.declared.device_page0.DevicePage0.{DevicePage0}
use Rattle.mpi_names.specs.declared.config.TheConstants.{MPI2_CONFIG_PAGETYPE_EXTENDED, MPI2_SASDEVICE0_PAGEVERSION, SAS_DEVICE_PAGE_0_DWORDS}
use Rattle.mpi_names.specs.declared.handle.TheConstants.{FIRST_EXPANDER_HANDLE}
use Rattle.config_pages.specs.declared.device_page0.TheConstants.DevicePage0.{BLANK as blank_device_page0}

-- the device handle of an expander
abbrev pub expander_handle : ℕ → ℕ
expander_handle expander = FIRST_EXPANDER_HANDLE + expander

-- SAS Device Page 0 of the disk with this handle and SAS address at a phy of an expander
abbrev pub disk_page : ℕ → ℕ → ℕ → ℕ → DevicePage0
disk_page handle address expander phy = record blank_device_page0 {
  page_version = MPI2_SASDEVICE0_PAGEVERSION;
  page_type = MPI2_CONFIG_PAGETYPE_EXTENDED;
  ext_page_length = SAS_DEVICE_PAGE_0_DWORDS;
  slot = phy;
  enclosure_handle = 1;
  sas_address = address;
  parent_dev_handle = expander_handle expander;
  phy_num = phy;
  dev_handle = handle;
  device_info = 0x0000_0401;
  flags = 0x0001;
  max_port_connections = 1;
  device_name = address;
}
