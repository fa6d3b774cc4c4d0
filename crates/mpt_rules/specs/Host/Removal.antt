-- Device handles at the host: disks that are added, whose page is read, that don't respond, and that are removed.
use Rattle.std.specs.Prelude.{ℕ, ◌==◌, nat_le, ◌&&◌, not, Bool, true, false, List, [], ◌∷◌, ◌++◌, Option, Some, None, if◌then◌else◌}
use Rattle.std.specs.List.{filter, filter_map}
use Rattle.removal.specs.declared.handles.TheConstants.{FIRST_HANDLE, LAST_HANDLE}
use Rattle.removal.specs.declared.phase.Phase.{Phase}
use Rattle.removal.specs.declared.phase.Phase.TheVariants as phase
use Rattle.removal.specs.Handles.{phase_at, with_phase}
use Rattle.removal.specs.Phases.{after_added, after_gone, after_page, after_removed, after_task_done, lost_address}
use Rattle.mpt_trace.specs.declared.entry.Entry.{Entry}
use Rattle.mpt_trace.specs.declared.entry.Entry.TheVariants as entry
use Rattle.mpt_wire.specs.Messages.Fields.{Change, changes_in, event_context_in, event_in, target_added, target_not_responding}
use Rattle.mpt_rules.specs.declared.request.Request.{Request}
use Rattle.mpt_rules.specs.declared.request.Request.TheVariants as request
use Rattle.mpt_rules.specs.Outcome.{Happening}
use Rattle.mpt_rules.specs.Host.Parts.{Host}
use Rattle.mpt_rules.specs.Host.Posts.{asks_internal, asks_leave, frees_high, frees_internal}

-- the host, and nothing is told
abbrev pub quietly : Host → Happening Host
quietly host = record { part = host; entries = [] }

-- the handle may be a disk's
abbrev pub is_disk_handle : ℕ → Bool
is_disk_handle handle = nat_le FIRST_HANDLE handle && nat_le handle LAST_HANDLE

-- the host with another phase of this handle
abbrev pub with_phase_of : Host → ℕ → Phase → Host
with_phase_of host handle p = record host { phases = with_phase host.phases handle p }

-- ---- a disk is added: its page is read

-- a handle that isn't absent stays as it is
abbrev pub after_handle_added : Host → ℕ → Phase → Host
after_handle_added host handle phase.Absent = asks_internal (with_phase_of host handle (after_added phase.Absent)) (request.Page handle)
after_handle_added host handle phase.WaitRead = host
after_handle_added host handle (phase.Reading smid) = host
after_handle_added host handle (phase.Ready address) = host
after_handle_added host handle phase.WaitHigh = host
after_handle_added host handle (phase.Resetting smid) = host
after_handle_added host handle phase.WaitInternal = host
after_handle_added host handle (phase.Removing smid) = host

-- ---- a disk isn't responding: its handle is removed

-- the request reads the page of this handle
abbrev pub is_page_of : ℕ → Request → Bool
is_page_of handle (request.Page h) = h == handle
is_page_of handle (request.Command n) = false
is_page_of handle (request.Abort n task) = false
is_page_of handle (request.TargetReset address) = false
is_page_of handle (request.Leave h) = false
is_page_of handle (request.Remove h) = false
is_page_of handle (request.Ack event context) = false
is_page_of handle request.Notification = false
is_page_of handle request.PortEnable = false

-- the page read of a handle doesn't wait any more
abbrev pub without_page : ℕ → List Request → List Request
without_page handle requests = filter (λ r. not (is_page_of handle r)) requests

-- a ready disk is told as lost
abbrev pub lost_told : ℕ → Option ℕ → List Entry
lost_told handle None = []
lost_told handle (Some address) = entry.Lost address handle ∷ []

-- the removal begins with a target reset
abbrev pub begins_removal : Host → ℕ → Phase → Happening Host
begins_removal host handle p =
    record {
      part = asks_leave (record host { phases = with_phase host.phases handle (after_gone p); wait_internal = without_page handle host.wait_internal }) handle;
      entries = lost_told handle (lost_address p);
    }

-- a handle that is absent, or is removed already, stays as it is
abbrev pub after_handle_lost : Host → ℕ → Phase → Happening Host
after_handle_lost host handle phase.WaitRead = begins_removal host handle phase.WaitRead
after_handle_lost host handle (phase.Reading smid) = begins_removal host handle (phase.Reading smid)
after_handle_lost host handle (phase.Ready address) = begins_removal host handle (phase.Ready address)
after_handle_lost host handle phase.Absent = quietly host
after_handle_lost host handle phase.WaitHigh = quietly host
after_handle_lost host handle (phase.Resetting smid) = quietly host
after_handle_lost host handle phase.WaitInternal = quietly host
after_handle_lost host handle (phase.Removing smid) = quietly host

-- ---- events

-- what a change of a disk's handle causes: the host acts on these two alone
abbrev pub hears_status : Host → ℕ → ℕ → Happening Host
hears_status host handle status =
    if status == target_added then quietly (after_handle_added host handle (phase_at host.phases handle))
    else (if status == target_not_responding then after_handle_lost host handle (phase_at host.phases handle) else quietly host)

-- a handle that no disk can have causes nothing
abbrev pub hears_change : Host → Change → Happening Host
hears_change host c = if is_disk_handle c.handle then hears_status host c.handle c.status else quietly host

-- what was told before
abbrev pub after_told : List Entry → Happening Host → Happening Host
after_told entries later = record { part = later.part; entries = entries ++ later.entries }

-- the changes, one after the other
unfoldable pub hears_changes : Host → List Change → Happening Host
hears_changes host [] = quietly host
hears_changes host (c ∷ cs) = after_told (hears_change host c).entries (hears_changes (hears_change host c).part cs)

-- an event is acknowledged, whatever it is, and then its changes are heard
abbrev pub hears_event : Host → List ℕ → Happening Host
hears_event host frame = hears_changes (asks_internal host (request.Ack (event_in frame) (event_context_in frame))) (changes_in frame)

-- ---- replies to what the removal and the page read asked. The phase changes before the identifier is given on

-- a page that the handle reads makes it ready
abbrev pub ready_told : ℕ → ℕ → Phase → Option ℕ → List Entry
ready_told handle smid (phase.Reading s) (Some address) = if s == smid then entry.Ready address handle ∷ [] else []
ready_told handle smid p page = []

-- the page read was answered, with the disk's address or without: a page that the handle doesn't read is dropped
abbrev pub reads_page : Host → ℕ → ℕ → Option ℕ → Happening Host
reads_page host smid handle page =
    record {
      part = frees_internal (with_phase_of host handle (after_page (phase_at host.phases handle) smid page)) smid;
      entries = ready_told handle smid (phase_at host.phases handle) page;
    }

-- the handle's target is reset under this identifier
abbrev pub is_reset_under : ℕ → Phase → Bool
is_reset_under smid (phase.Resetting s) = s == smid
is_reset_under smid p = false

-- the target reset of a removal was answered: the remove device follows
abbrev pub left : Host → ℕ → ℕ → Host
left host smid handle =
    let freed : Host = frees_high (with_phase_of host handle (after_task_done (phase_at host.phases handle) smid)) smid in
    if is_reset_under smid (phase_at host.phases handle) then asks_internal freed (request.Remove handle) else freed

-- the remove device was answered
abbrev pub removed : Host → ℕ → ℕ → Host
removed host smid handle = frees_internal (with_phase_of host handle (after_removed (phase_at host.phases handle) smid)) smid

-- ---- an event that can't be

-- no disk has the handle
abbrev pub is_absent : Phase → Bool
is_absent phase.Absent = true
is_absent p = false

-- the disk's handle that a change names as added
abbrev pub added_handle : Change → Option ℕ
added_handle c = if (c.status == target_added) && is_disk_handle c.handle then Some c.handle else None

-- the disks' handles that the changes name as added
abbrev pub added_handles : List Change → List ℕ
added_handles changes = filter_map added_handle changes

-- the first of these handles that isn't absent as it is named: one that is named twice isn't the second time
unfoldable pub first_not_absent : List Phase → List ℕ → Option ℕ
first_not_absent phases [] = None
first_not_absent phases (handle ∷ handles) =
    if is_absent (phase_at phases handle) then first_not_absent (with_phase phases handle (after_added phase.Absent)) handles else Some handle
