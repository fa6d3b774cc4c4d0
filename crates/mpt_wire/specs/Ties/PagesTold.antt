-- A device page is read of the handle that was asked: it is that of the disk to which the handle is bound, with the phy at
-- which that disk was plugged. A read that succeeds has such a page, and any other reply has none but a command's data.
use Rattle.std.specs.Prelude.{◌≡◌, ℕ, ◌==◌, ◌&&◌, Bool, true, List, ◌∷◌, ◌++◌, Option, Some, None}
use Rattle.std.specs.Bool.{MatchBool}
use Rattle.config_pages.specs.DevicePage0.{device_page0_layout, device_page0_values}
use Rattle.mpt_messages.specs.DevicePage.{disk_page}
use Rattle.mpt_messages.specs.FrameBytes.{layout_bytes, message_frame}
use Rattle.mpt_messages.specs.Function.{byte_of}
use Rattle.mpt_messages.specs.HostFrames.{host_message}
use Rattle.mpt_messages.specs.declared.function.Function.TheVariants as function
use Rattle.mpt_messages.specs.declared.host_ask.HostAsk.TheVariants as ask
use Rattle.mpt_trace.specs.declared.lane.LaneName.{LaneName}
use Rattle.mpt_trace.specs.declared.item.Item.TheVariants as item
use Rattle.mpt_trace.specs.declared.item.Down.TheVariants as down
use Rattle.mpt_trace.specs.declared.item.Up.TheVariants as up
use Rattle.mpt_trace.specs.declared.entry.Entry.{Entry}
use Rattle.mpt_trace.specs.declared.entry.Entry.TheVariants as entry
use Rattle.mpt_wire.specs.Ties.Attached.{Attached, Attachment, WasPluggedAt, attached_next, nothing_attached}
use Rattle.mpt_wire.specs.Handles.Bindings.{IsBoundTo}
use Rattle.mpt_wire.specs.Messages.Fields.{function_in, ioc_status_in, smid_in}
use Rattle.mpt_wire.specs.Ties.LastPosts.{IsLastPost}
use Rattle.mpt_wire.specs.Machine.State.{put_at}
use Rattle.mpt_wire.specs.Messages.Naming.{success}
use Rattle.mpt_wire.specs.Walks.Passes.{Passes}

-- SAS Device Page 0 of a disk under a handle
abbrev pub page_of_disk : ℕ → Attachment → List ℕ
page_of_disk handle disk = layout_bytes device_page0_layout (device_page0_values (disk_page handle disk.plug.address disk.place.expander disk.place.phy))

-- the reply to a read that succeeds
abbrev pub is_read_reply : List ℕ → Bool
is_read_reply frame = function_in frame == byte_of function.Config && ioc_status_in frame == success

-- ---- over the entries before

-- the page is that of the handle that the last post of the identifier reads: it has the address of the plug to which the
-- handle is bound, and the expander and the phy of the `plugged` behind that binding
pub record IsPageOfPlug (before : List Entry) (s : ℕ) (page : List ℕ) : Type 0 where
  pub handle : ℕ
  pub disk : Attachment
  pub asked : IsLastPost before s (message_frame (host_message (ask.PageRead s handle)))
  pub bound : IsBoundTo before handle disk.plug
  pub plugged : WasPluggedAt bound.earlier disk.plug disk.place
  pub bytes : page ≡ page_of_disk handle disk

-- each read that succeeds has such a page
abbrev pub PagesAreOfPlugs : List Entry → Type 0
PagesAreOfPlugs t =
    (before after : List Entry) (lane : LaneName) (descriptor : ℕ) (frame page sense : List ℕ)
    → t ≡ before ++ entry.Put lane (item.Up (up.Reply descriptor (Some frame) page sense)) ∷ after → is_read_reply frame ≡ true
    → IsPageOfPlug before (smid_in descriptor) page

-- ---- as a rule that goes over the entries

pub record PageReads : Type 0 where
  pub attached : Attached
  -- by identifier: the frame of its last post
  pub asked : ℕ → Option (List ℕ)

abbrev pub no_page_reads : PageReads
no_page_reads = record { attached = nothing_attached; asked = λ s. None }

abbrev pub asked_next : (ℕ → Option (List ℕ)) → Entry → (ℕ → Option (List ℕ))
asked_next asked (entry.Put lane (item.Down (down.Post descriptor frame payload))) = put_at (smid_in descriptor) (Some frame) asked
asked_next asked _ = asked

abbrev pub page_reads_next : PageReads → Entry → PageReads
page_reads_next g e = record { attached = attached_next g.attached e; asked = asked_next g.asked e }

-- the page is that of the disk under the handle that the request reads
pub record IsPageAsked (g : Attached) (smid : ℕ) (request : Option (List ℕ)) (page : List ℕ) : Type 0 where
  pub handle : ℕ
  pub disk : Attachment
  pub asked : request ≡ Some (message_frame (host_message (ask.PageRead smid handle)))
  pub bound : g.disk handle ≡ Some disk
  pub bytes : page ≡ page_of_disk handle disk

abbrev pub PageReadAsks : PageReads → Entry → Type 0
PageReadAsks g (entry.Put lane (item.Up (up.Reply descriptor (Some frame) page sense))) =
    MatchBool (is_read_reply frame) (IsPageAsked g.attached (smid_in descriptor) (g.asked (smid_in descriptor)) page) (Unit {0})
PageReadAsks g _ = Unit {0}

abbrev pub PagesAreOfDisks : List Entry → Type 0
PagesAreOfDisks t = Passes page_reads_next PageReadAsks no_page_reads t
