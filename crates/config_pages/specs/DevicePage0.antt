-- SAS Device Page 0: its layout, the numbers of its fields, and the bytes that stand for it.
use Rattle.std.specs.Prelude.{ℕ, List, [], ◌∷◌, codes}
use Rattle.mpi_layout.specs.Rows.{Shape, Stands, bytes, number}
use Rattle.mpi_layout.specs.declared.row.Rule.TheVariants.{Any, Is}
use Rattle.config_pages.specs.declared.device_page0.DevicePage0.{DevicePage0}

-- mpi2_cnfg.h, MPI2_CONFIG_PAGE_SAS_DEV_0
unfoldable pub device_page0_layout : Shape
device_page0_layout = record {
  length = 56;
  rows =
      number 0x00 1 (codes "PageVersion") Any
      ∷ number 0x01 1 (codes "Reserved") Any
      ∷ number 0x02 1 (codes "PageNumber") (Is 0)
      ∷ number 0x03 1 (codes "PageType") Any
      ∷ number 0x04 2 (codes "ExtPageLength") Any
      ∷ number 0x06 1 (codes "ExtPageType") (Is 0x12)
      ∷ number 0x07 1 (codes "Reserved") Any
      ∷ number 0x08 2 (codes "Slot") Any
      ∷ number 0x0a 2 (codes "EnclosureHandle") Any
      ∷ number 0x0c 8 (codes "SASAddress") Any
      ∷ number 0x14 2 (codes "ParentDevHandle") Any
      ∷ number 0x16 1 (codes "PhyNum") Any
      ∷ number 0x17 1 (codes "AccessStatus") Any
      ∷ number 0x18 2 (codes "DevHandle") Any
      ∷ number 0x1a 1 (codes "AttachedPhyIdentifier") Any
      ∷ number 0x1b 1 (codes "ZoneGroup") Any
      ∷ number 0x1c 4 (codes "DeviceInfo") Any
      ∷ number 0x20 2 (codes "Flags") Any
      ∷ number 0x22 1 (codes "PhysicalPort") Any
      ∷ number 0x23 1 (codes "MaxPortConnections") Any
      ∷ number 0x24 8 (codes "DeviceName") Any
      ∷ bytes 0x2c 8 (codes "Rest") Any
      ∷ bytes 0x34 4 (codes "Rest") Any
      ∷ [];
}

-- the numbers of the fields in the layout's order
unfoldable pub device_page0_values : DevicePage0 → List ℕ
device_page0_values m =
    m.page_version ∷ m.reserved_01 ∷ m.page_number ∷ m.page_type ∷ m.ext_page_length
    ∷ m.ext_page_type ∷ m.reserved_07 ∷ m.slot ∷ m.enclosure_handle ∷ m.sas_address
    ∷ m.parent_dev_handle ∷ m.phy_num ∷ m.access_status ∷ m.dev_handle ∷ m.attached_phy_identifier
    ∷ m.zone_group ∷ m.device_info ∷ m.flags ∷ m.physical_port ∷ m.max_port_connections
    ∷ m.device_name ∷ m.rest_2c ∷ m.rest_34 ∷ []

-- the bytes stand for the message
abbrev pub DevicePage0Stands : DevicePage0 → List ℕ → Type 0
DevicePage0Stands m bytes = Stands device_page0_layout (device_page0_values m) bytes
