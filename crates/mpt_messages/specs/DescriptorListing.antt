-- The listings of descriptors and of SAS Device Page 0.
use Rattle.std.specs.Prelude.{ℕ, List, codes}
use Rattle.config_pages.specs.declared.device_page0.DevicePage0.{DevicePage0}
use Rattle.config_pages.specs.DevicePage0.{device_page0_layout, device_page0_values}
use Rattle.mpi_rings.specs.declared.reply_descriptor.ReplyDescriptor.{ReplyDescriptor}
use Rattle.mpi_rings.specs.declared.request_descriptor.RequestDescriptor.{RequestDescriptor}
use Rattle.mpi_rings.specs.ReplyDescriptor.{layout_of, reply_values}
use Rattle.mpi_rings.specs.RequestDescriptor.{request_layout, request_values}
use Rattle.mpt_messages.specs.Listing.{listing_text}

abbrev pub request_descriptor_listing : RequestDescriptor → List ℕ
request_descriptor_listing d = listing_text (codes "request-descriptor") request_layout (request_values d)

abbrev pub reply_descriptor_listing : ReplyDescriptor → List ℕ
reply_descriptor_listing d = listing_text (codes "reply-descriptor") (layout_of d) (reply_values d)

abbrev pub page_listing : DevicePage0 → List ℕ
page_listing page = listing_text (codes "sas-device-page-0") device_page0_layout (device_page0_values page)
