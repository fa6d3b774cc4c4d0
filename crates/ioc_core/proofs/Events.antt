-- A change's event in its two parts is the change's event.
use Rattle.std.proofs.Common.{◌≡◌, ℕ, ◌+◌, ◌%◌, ◌^◌, Bool, true, false, not, ◌&&◌, cond, if◌then◌else◌, List, [], ◌∷◌, ◌++◌, drop, slice_index, Some, None, refl, sym, ap, ◌∙◌}
use Rattle.std.specs.FinSet as set
use Rattle.std.specs.List.{slice_get}
use Rattle.std.specs.Ordering.{nat_cmp}
use Rattle.ioc_replies.proofs.Members.{put_back}
use Rattle.mpt_messages.specs.declared.ioc_reply.IocReply.TheVariants as reply
use Rattle.mpt_trace.specs.declared.entry.Entry.TheVariants as entry
use Rattle.mpt_rules.specs.declared.binding.Binding.{Binding}
use Rattle.mpt_rules.specs.declared.binding.Binding.TheVariants as binding
use Rattle.mpt_rules.specs.declared.binding.Waiting.{Waiting}
use Rattle.mpt_rules.specs.declared.status.TheConstants.{IOC_STATUS_SUCCESS}
use Rattle.mpt_rules.specs.Ioc.Bindings.{binds, binds_first, binds_to, changes, ioc_loses, tells_change}
use Rattle.mpt_rules.specs.Ioc.Parts.{Ioc}
use Rattle.mpt_rules.specs.Ioc.Replies.{ioc_answers}
use Rattle.mpt_rules.specs.Ioc.Requests.{after_unbind}
use Rattle.mpt_rules.specs.Ioc.Tables.{silently, with_binding}
use Rattle.ioc_tables.specs.Bindings.{after_bind, after_leaving, binding_for, least_free, with_binding_at}
use Rattle.ioc_core.specs.Removing.{noted, removes_for, with_event}

pub event_told : (ioc : Ioc) (handle expander phy : ℕ) (added : Bool) → with_event (noted ioc) handle expander phy added ≡ changes ioc handle expander phy added
event_told ioc handle expander phy added = by_through ioc.through
  where
    by_through : (b : Bool) →
        (if b then ioc_answers (record ioc { unacked = if b then set.insert ioc.unacked ioc.context else ioc.unacked; context = (ioc.context + 1) % 2 ^ 32 }) 0 (reply.Topology ioc.context handle expander (slice_index ioc.phys expander) phy added)
        else record ioc { unacked = if b then set.insert ioc.unacked ioc.context else ioc.unacked })
        ≡ (if b then tells_change ioc handle expander phy added else ioc)
    by_through true = refl
    by_through false = refl

-- a disk is given the handle
bound_to : (ioc : Ioc) (disk : Waiting) (handle : ℕ)
    → binds_to ioc disk (Some handle) ≡ record { part = with_event (noted (with_binding ioc handle (binding_for disk))) handle disk.expander disk.phy true; entries = entry.Bind handle disk.address disk.plug ∷ [] }
bound_to ioc disk handle =
    let e = sym (event_told (with_binding ioc handle (binding_for disk)) handle disk.expander disk.phy true) in
    rw e refl

pub binds_bound : (ioc : Ioc) (disk : Waiting) (handle : ℕ) → least_free ioc.bindings ≡ Some handle
    → binds ioc disk ≡ record { part = with_event (record (noted ioc) { bindings = after_bind disk (Some handle) ioc.bindings }) handle disk.expander disk.phy true; entries = entry.Bind handle disk.address disk.plug ∷ [] }
binds_bound ioc disk handle free = ap (binds_to ioc disk) free ∙ bound_to ioc disk handle

pub binds_waits : (ioc : Ioc) (disk : Waiting) → least_free ioc.bindings ≡ None → binds ioc disk ≡ silently (record ioc { waiting = ioc.waiting ++ disk ∷ [] })
binds_waits ioc disk none = ap (binds_to ioc disk) none

-- a handle's plugged disk goes
pub loses_present : (ioc : Ioc) (handle address plug expander phy : ℕ) (b : Binding) → b ≡ binding.Present address plug expander phy
    → ioc_loses ioc handle b ≡ with_event (record (noted ioc) { bindings = after_leaving handle b ioc.bindings }) handle expander phy false
loses_present ioc handle address plug expander phy b is = rw is (sym (event_told (with_binding ioc handle (binding.Gone address)) handle expander phy false))

-- a handle is unbound, and its request answered
abbrev freed : Ioc → ℕ → ℕ → ℕ → Ioc
freed ioc smid handle operation = ioc_answers (with_binding ioc handle binding.Unbound) smid (reply.Removed handle operation IOC_STATUS_SUCCESS)

-- a handle is unbound, and none waits
pub removes_alone : (ioc : Ioc) (smid handle operation : ℕ) → slice_get ioc.waiting 0 ≡ None
    → removes_for ioc smid handle operation ≡ record { part = ioc_answers (with_binding ioc handle binding.Unbound) smid (reply.Removed handle operation IOC_STATUS_SUCCESS); entries = entry.Unbind handle ∷ [] }
removes_alone ioc smid handle operation none = ap (after_unbind handle) (nobody ioc.waiting none)
  where
    nobody : (waiting : List Waiting) → slice_get waiting 0 ≡ None → binds_first (freed ioc smid handle operation) waiting ≡ silently (freed ioc smid handle operation)
    nobody [] is = refl
    nobody (x ∷ xs) is = absurd (cc)

-- a handle is unbound, and the disk that waits longest is given one
pub removes_first : (ioc : Ioc) (smid handle operation given : ℕ) (first : Waiting) → slice_get ioc.waiting 0 ≡ Some first → least_free (with_binding_at handle binding.Unbound ioc.bindings) ≡ Some given
    → removes_for ioc smid handle operation
    ≡ record {
      part = with_event
          (ioc_answers
          (record (noted ioc) { bindings = after_bind first (Some given) (with_binding_at handle binding.Unbound ioc.bindings); waiting = drop 1 ioc.waiting })
          smid (reply.Removed handle operation IOC_STATUS_SUCCESS))
          given first.expander first.phy true;
      entries = entry.Unbind handle ∷ entry.Bind given first.address first.plug ∷ [];
    }
removes_first ioc smid handle operation given first is free = ap (after_unbind handle) (somebody ioc.waiting is)
  where
    somebody : (waiting : List Waiting) → slice_get waiting 0 ≡ Some first
        → binds_first (freed ioc smid handle operation) waiting
        ≡ record {
          part = with_event
              (ioc_answers
              (record (noted ioc) { bindings = after_bind first (Some given) (with_binding_at handle binding.Unbound ioc.bindings); waiting = drop 1 waiting })
              smid (reply.Removed handle operation IOC_STATUS_SUCCESS))
              given first.expander first.phy true;
          entries = entry.Bind given first.address first.plug ∷ [];
        }
    somebody [] e = absurd (cc)
    somebody (x ∷ xs) e =
        let same : x ≡ first = cc in
        rw same (ap (binds_to (record (freed ioc smid handle operation) { waiting = xs }) first) free ∙ bound_to (record (freed ioc smid handle operation) { waiting = xs }) first given)

-- a context that was noted is forgotten again
pub forgotten : (ioc s : Ioc) (new : Bool) → s ≡ noted ioc → new ≡ (ioc.through && not (set.contains ioc.unacked ioc.context)) → record s { unacked = cond new (set.remove s.unacked s.context) s.unacked } ≡ ioc
forgotten ioc s new is new_is =
    rw (is, new_is)
    (ap (λ (u : set.FinSet nat_cmp). let r : Ioc = record ioc { unacked = u } in r) (put_back ioc.through ioc.unacked ioc.context))
