-- Disks that come and go: the handles that they are given, and the events that tell of them.
use Rattle.std.specs.Prelude.{ℕ, ◌+◌, ◌%◌, ◌^◌, ◌==◌, nat_lt, Bool, true, false, ◌||◌, not, if◌then◌else◌, List, [], ◌∷◌, ◌++◌, length, slice_index, Option, Some, None, is_some}
use Rattle.std.specs.List.{filter, list_any}
use Rattle.std.specs.FinSet as set
use Rattle.mpt_messages.specs.declared.ioc_reply.IocReply.TheVariants as reply
use Rattle.mpt_trace.specs.declared.entry.Entry.TheVariants as entry
use Rattle.mpt_rules.specs.declared.binding.Binding.{Binding}
use Rattle.mpt_rules.specs.declared.binding.Binding.TheVariants as binding
use Rattle.mpt_rules.specs.declared.binding.Waiting.{Waiting}
use Rattle.mpt_rules.specs.Ioc.Parts.{Ioc}
use Rattle.mpt_rules.specs.Ioc.Replies.{ioc_answers}
use Rattle.mpt_rules.specs.Ioc.Tables.{binding_of, handle_of, least_unbound, silently, with_binding}
use Rattle.mpt_rules.specs.Outcome.{Happening}

-- ---- events

-- a topology event: of the handle at a phy of an expander, added or else no longer responding
abbrev pub tells_change : Ioc → ℕ → ℕ → ℕ → Bool → Ioc
tells_change ioc handle expander phy added =
    ioc_answers
    (record ioc { context = (ioc.context + 1) % 2 ^ 32; unacked = set.insert ioc.unacked ioc.context })
    0
    (reply.Topology ioc.context handle expander (slice_index ioc.phys expander) phy added)

-- a topology event is made only while such events are let through
abbrev pub changes : Ioc → ℕ → ℕ → ℕ → Bool → Ioc
changes ioc handle expander phy added = if ioc.through then tells_change ioc handle expander phy added else ioc

-- ---- disks that come

-- a plugged disk is given the handle, or waits until one is unbound
abbrev pub binds_to : Ioc → Waiting → Option ℕ → Happening Ioc
binds_to ioc disk None = silently (record ioc { waiting = ioc.waiting ++ disk ∷ [] })
binds_to ioc disk (Some handle) =
    record {
      part = changes (with_binding ioc handle (binding.Present disk.address disk.plug disk.expander disk.phy)) handle disk.expander disk.phy true;
      entries = entry.Bind handle disk.address disk.plug ∷ [];
    }

-- a plugged disk is given the least unbound handle
abbrev pub binds : Ioc → Waiting → Happening Ioc
binds ioc disk = binds_to ioc disk (least_unbound ioc)

-- a disk of the address waits for a handle
abbrev pub waits_at : ℕ → Waiting → Bool
waits_at address disk = disk.address == address

-- the disk of the address has a handle, or waits for one
abbrev pub is_known : Ioc → ℕ → Bool
is_known ioc address = is_some (handle_of ioc address) || list_any (waits_at address) ioc.waiting

-- a disk is plugged; one that is known, or at an expander that isn't there, is passed over
abbrev pub ioc_plugs : Ioc → Waiting → Happening Ioc
ioc_plugs ioc disk = if is_known ioc disk.address || not (nat_lt disk.expander (length ioc.phys)) then silently ioc else binds ioc disk

-- of the disks that wait the first is given the least unbound handle
abbrev pub binds_first : Ioc → List Waiting → Happening Ioc
binds_first ioc [] = silently ioc
binds_first ioc (disk ∷ others) = binds (record ioc { waiting = others }) disk

-- the disk that waits longest is given a handle, if one waits
abbrev pub binds_waiting : Ioc → Happening Ioc
binds_waiting ioc = binds_first ioc ioc.waiting

-- ---- disks that go

-- the handle's disk is gone; the event has the place where it was plugged
abbrev pub ioc_loses : Ioc → ℕ → Binding → Ioc
ioc_loses ioc handle binding.Unbound = ioc
ioc_loses ioc handle (binding.Present address plug expander phy) = changes (with_binding ioc handle (binding.Gone address)) handle expander phy false
ioc_loses ioc handle (binding.Gone address) = ioc

-- a disk is unplugged, by its handle: it is gone, or without a handle it doesn't wait any more
abbrev pub ioc_unplugs_from : Ioc → ℕ → Option ℕ → Ioc
ioc_unplugs_from ioc address None = record ioc { waiting = filter (λ disk. not (waits_at address disk)) ioc.waiting }
ioc_unplugs_from ioc address (Some handle) = ioc_loses ioc handle (binding_of ioc handle)

-- the disk of an address is unplugged
abbrev pub ioc_unplugs : Ioc → ℕ → Ioc
ioc_unplugs ioc address = ioc_unplugs_from ioc address (handle_of ioc address)
