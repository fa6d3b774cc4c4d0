-- Configuration requests: SAS Device Page 0 is the one page that the controller has.
use Rattle.std.specs.Prelude.{ℕ, ◌==◌, Bool, ◌&&◌, ◌||◌, not, if◌then◌else◌, List, [], ◌∷◌, take, bit_and, Option, Some, None}
use Rattle.config_pages.specs.DevicePage0.{device_page0_layout, device_page0_values}
use Rattle.config_pages.specs.PageAddress.{form_bits}
use Rattle.config_pages.specs.declared.page_form.PageForm.TheVariants.{Next, ByHandle}
use Rattle.mpt_messages.specs.DevicePage.{disk_page}
use Rattle.mpt_messages.specs.FrameBytes.{layout_bytes}
use Rattle.mpt_messages.specs.IocFrames.{reply_frame}
use Rattle.mpt_messages.specs.declared.ioc_reply.IocReply.TheVariants as reply
use Rattle.mpt_wire.specs.Messages.Fields.{action_in, ext_page_type_in, page_address_in, page_buffer_in, page_number_in, page_type_in, smid_in}
use Rattle.mpt_rules.specs.declared.binding.Binding.{Binding}
use Rattle.mpt_rules.specs.declared.binding.Binding.TheVariants as binding
use Rattle.mpt_rules.specs.declared.post.Post.{Post}
use Rattle.mpt_rules.specs.declared.said.Said.TheVariants as said
use Rattle.mpt_rules.specs.declared.status.TheConstants.{IOC_STATUS_CONFIG_INVALID_ACTION, IOC_STATUS_CONFIG_INVALID_PAGE, IOC_STATUS_CONFIG_INVALID_TYPE, IOC_STATUS_SUCCESS}
use Rattle.mpt_rules.specs.Ioc.Parts.{Ioc}
use Rattle.mpt_rules.specs.Ioc.Replies.{says_on}
use Rattle.mpt_rules.specs.Ioc.Tables.{binding_of, next_present}

-- Action: mpi2_cnfg.h, MPI2_CONFIG_ACTION_PAGE_HEADER
abbrev pub header_action : ℕ
header_action = 0x00

-- Action: mpi2_cnfg.h, MPI2_CONFIG_ACTION_PAGE_READ_CURRENT
abbrev pub read_action : ℕ
read_action = 0x01

-- PageType, its low four bits: mpi2_cnfg.h, MPI2_CONFIG_PAGETYPE_EXTENDED
abbrev pub extended_page : ℕ
extended_page = 0x0f

-- ExtPageType: mpi2_cnfg.h, MPI2_CONFIG_EXTPAGETYPE_SAS_DEVICE
abbrev pub sas_device_page : ℕ
sas_device_page = 0x12

-- ---- the page that is asked for

-- the form of the page address: mpi2_cnfg.h, MPI2_SAS_DEVICE_PGAD_FORM_MASK
abbrev pub form_in : List ℕ → ℕ
form_in frame = bit_and (page_address_in frame) 0xf000_0000

-- its handle: mpi2_cnfg.h, MPI2_SAS_DEVICE_PGAD_HANDLE_MASK
abbrev pub page_handle_in : List ℕ → ℕ
page_handle_in frame = bit_and (page_address_in frame) 0xffff

-- the handle whose page is asked for, by the form of the page address: the given one, or the next one of a plugged disk
abbrev pub handle_asked : Ioc → List ℕ → Option ℕ
handle_asked ioc frame =
    if form_in frame == form_bits ByHandle then Some (page_handle_in frame)
    else if form_in frame == form_bits Next then next_present ioc (page_handle_in frame)
    else None

-- the bytes of a disk's page
abbrev pub page_bytes : ℕ → ℕ → ℕ → ℕ → List ℕ
page_bytes handle address expander phy = layout_bytes device_page0_layout (device_page0_values (disk_page handle address expander phy))

-- the page of a handle that stands for a plugged disk
abbrev pub page_of : ℕ → Binding → Option (List ℕ)
page_of handle binding.Unbound = None
page_of handle (binding.Present address plug expander phy) = Some (page_bytes handle address expander phy)
page_of handle (binding.Gone address) = None

-- the page of the handle that was found, if one was
abbrev pub page_at : Ioc → Option ℕ → Option (List ℕ)
page_at ioc None = None
page_at ioc (Some handle) = page_of handle (binding_of ioc handle)

-- the page that the request asks for: there is page 0 alone
abbrev pub page_wanted : Ioc → List ℕ → Option (List ℕ)
page_wanted ioc frame = if page_number_in frame == 0 then page_at ioc (handle_asked ioc frame) else None

-- ---- the answer

-- a configuration request is answered with this IOCStatus and this page
abbrev pub ends_config : Ioc → Post → ℕ → List ℕ → Ioc
ends_config ioc p status page =
    says_on ioc 0 (said.Framed (smid_in p.descriptor) (reply_frame (reply.Config (action_in p.frame) (ext_page_type_in p.frame) status)) page [] ∷ [])

-- what a request gets of the page: a read as much as its element has room for, a header nothing
abbrev pub page_given : List ℕ → List ℕ → List ℕ
page_given frame page = if action_in frame == read_action then take (page_buffer_in frame) page else []

-- a request is answered by the page that it asks for, if there is one
abbrev pub gives_page : Ioc → Post → Option (List ℕ) → Ioc
gives_page ioc p None = ends_config ioc p IOC_STATUS_CONFIG_INVALID_PAGE []
gives_page ioc p (Some page) = ends_config ioc p IOC_STATUS_SUCCESS (page_given p.frame page)

-- the action isn't one that the controller has
abbrev pub is_other_action : List ℕ → Bool
is_other_action frame = not (action_in frame == header_action) && not (action_in frame == read_action)

-- the type isn't that of a SAS device page
abbrev pub is_other_type : List ℕ → Bool
is_other_type frame = not (bit_and (page_type_in frame) 0x0f == extended_page) || not (ext_page_type_in frame == sas_device_page)

-- a configuration request whose frame stands for one
abbrev pub works_config : Ioc → Post → Ioc
works_config ioc p =
    if is_other_action p.frame then ends_config ioc p IOC_STATUS_CONFIG_INVALID_ACTION []
    else if is_other_type p.frame then ends_config ioc p IOC_STATUS_CONFIG_INVALID_TYPE []
    else gives_page ioc p (page_wanted ioc p.frame)
