-- Which handle, identifier and address an item of a lane names.
use Rattle.std.specs.Prelude.{ℕ, Bool, true, false, ◌&&◌, ◌==◌, Option, Some, None, is_none, List}
use Rattle.std.specs.Bool.{then_some}
use Rattle.mpi_layout.specs.Rows.{first_fault}
use Rattle.config_pages.specs.ConfigReply.{config_reply_layout}
use Rattle.config_pages.specs.DevicePage0.{device_page0_layout}
use Rattle.mpt_messages.specs.Function.{byte_of}
use Rattle.mpt_messages.specs.declared.function.Function.TheVariants as function
use Rattle.mpt_trace.specs.declared.item.Item.TheVariants as item
use Rattle.mpt_trace.specs.declared.item.Down.{Down}
use Rattle.mpt_trace.specs.declared.item.Down.TheVariants as down
use Rattle.mpt_trace.specs.declared.item.Up.{Up}
use Rattle.mpt_trace.specs.declared.item.Up.TheVariants as up
use Rattle.mpt_trace.specs.declared.parties.Party.{Party}
use Rattle.mpt_trace.specs.declared.parties.Party.TheVariants as party
use Rattle.mpt_trace.specs.declared.entry.Entry.{Entry}
use Rattle.mpt_wire.specs.Messages.Fields.{Change, controlled_handle_in, dev_handle_in, function_in, operation_in, page_dev_handle_in, page_sas_address_in, remove_device, smid_in}
use Rattle.mpt_trace.specs.Parties.{party_of}
use Rattle.mpt_wire.specs.Machine.SoFar.{asks_target_reset, changes_of_item}

abbrev pub is_ioc : Party → Bool
is_ioc party.Host = false
is_ioc party.Ioc = true
is_ioc party.Fabric = false
is_ioc (party.Submitter i) = false

-- the entry is one of the controller
abbrev pub is_controllers : Entry → Bool
is_controllers e = is_ioc (party_of e)

-- a post by its identifier and the handle that its frame names
pub record Aimed : Type 0 where
  pub smid : ℕ
  pub handle : ℕ

-- any post, with its frame's DevHandle
abbrev pub post_in : Down → Option Aimed
post_in (down.Post descriptor frame payload) = Some (record { smid = smid_in descriptor; handle = dev_handle_in frame })
post_in _ = None

abbrev pub is_removal : List ℕ → Bool
is_removal frame = (function_in frame == byte_of function.UnitControl) && (operation_in frame == remove_device)

-- a remove device post
abbrev pub removal_posted : Down → Option Aimed
removal_posted (down.Post descriptor frame payload) = then_some (is_removal frame) (record { smid = smid_in descriptor; handle = controlled_handle_in frame })
removal_posted _ = None

-- a target reset post
abbrev pub reset_posted : Down → Option Aimed
reset_posted (down.Post descriptor frame payload) = then_some (asks_target_reset frame) (record { smid = smid_in descriptor; handle = dev_handle_in frame })
reset_posted _ = None

-- the identifier that a reply names; an event names 0
abbrev pub reply_smid_in : Up → Option ℕ
reply_smid_in (up.Reply descriptor frame page sense) = Some (smid_in descriptor)
reply_smid_in _ = None

-- the changes that an event tells, in its order
abbrev pub changes_told : Up → List Change
changes_told i = changes_of_item (item.Up i)

-- a disk as its SAS Device Page 0 names it
pub record Disk : Type 0 where
  pub handle : ℕ
  pub address : ℕ

-- a SAS Device Page 0 behind a configuration reply
abbrev pub is_device_page : List ℕ → List ℕ → Bool
is_device_page frame page = is_none (first_fault config_reply_layout frame) && is_none (first_fault device_page0_layout page)

-- the disk of the device page that a reply carries, by the page's own DevHandle and SASAddress
abbrev pub page_carried : Up → Option Disk
page_carried (up.Reply descriptor (Some frame) page sense) =
    then_some (is_device_page frame page) (record { handle = page_dev_handle_in page; address = page_sas_address_in page })
page_carried _ = None
