-- SAS IO unit control doesn't look at the queues of posts, and leaves them.
use Rattle.std.proofs.Common.{◌≡◌, ℕ, ◌==◌, Bool, true, false, if◌then◌else◌, List, [], ◌∷◌, drop, Option, Some, None, refl, ap, ◌∙◌}
use Rattle.mpt_wire.specs.Messages.Fields.{controlled_handle_in, operation_in, remove_device}
use Rattle.mpt_rules.specs.declared.binding.Binding.{Binding}
use Rattle.mpt_rules.specs.declared.binding.Binding.TheVariants as binding
use Rattle.mpt_rules.specs.declared.binding.Waiting.{Waiting}
use Rattle.mpt_rules.specs.declared.post.Post.{Post}
use Rattle.mpt_rules.specs.declared.status.TheConstants.{IOC_STATUS_BUSY, IOC_STATUS_INVALID_FIELD, IOC_STATUS_SUCCESS}
use Rattle.mpt_rules.specs.Ioc.Bindings.{binds_first, binds_to, changes, tells_change}
use Rattle.mpt_rules.specs.Ioc.Parts.{Ioc}
use Rattle.mpt_rules.specs.Ioc.Requests.{after_unbind, ioc_ends_removal, removes, removes_gone, removes_if, works_unit_control}
use Rattle.mpt_rules.specs.Ioc.Tables.{binding_of, has_commands, least_unbound, silently, with_binding}
use Rattle.mpt_rules.specs.Outcome.{Happening}
use Rattle.ioc_core.specs.Working.{posts_in, without_front}
use Rattle.ioc_core.specs.declared.steps.PostQueue.{PostQueue}
use Rattle.ioc_core.specs.declared.steps.PostQueue.TheVariants as queue

-- the controller with other queues
abbrev queued : List Post → List Post → Ioc → Ioc
queued high normal ioc = record ioc { high = high; normal = normal }

abbrev all_queued : List Post → List Post → Happening Ioc → Happening Ioc
all_queued high normal o = record { part = queued high normal o.part; entries = o.entries }

module _ (h n : List Post) where
  changed : (i : Ioc) (handle expander phy : ℕ) (added : Bool) → changes (queued h n i) handle expander phy added ≡ queued h n (changes i handle expander phy added)
  changed i handle expander phy added = by_through i.through
    where
      by_through : (b : Bool) → (if b then tells_change (queued h n i) handle expander phy added else queued h n i) ≡ queued h n (if b then tells_change i handle expander phy added else i)
      by_through true = refl
      by_through false = refl

  bound_to : (i : Ioc) (disk : Waiting) (o : Option ℕ) → binds_to (queued h n i) disk o ≡ all_queued h n (binds_to i disk o)
  bound_to i disk None = refl
  bound_to i disk (Some handle) =
      let c = changed (with_binding i handle (binding.Present disk.address disk.plug disk.expander disk.phy)) handle disk.expander disk.phy true in
      rw c refl

  bound_first : (i : Ioc) (disks : List Waiting) → binds_first (queued h n i) disks ≡ all_queued h n (binds_first i disks)
  bound_first i [] = refl
  bound_first i (disk ∷ disks) = bound_to (record i { waiting = disks }) disk (least_unbound (record i { waiting = disks }))

  removed : (i : Ioc) (p : Post) → removes (queued h n i) p ≡ all_queued h n (removes i p)
  removed i p = ap (after_unbind (controlled_handle_in p.frame)) (bound_first (ioc_ends_removal (with_binding i (controlled_handle_in p.frame) binding.Unbound) p IOC_STATUS_SUCCESS) i.waiting)

  removed_gone : (i : Ioc) (p : Post) → removes_gone (queued h n i) p ≡ all_queued h n (removes_gone i p)
  removed_gone i p = by_commands (has_commands i (controlled_handle_in p.frame))
    where
      by_commands : (b : Bool) → (if b then silently (ioc_ends_removal (queued h n i) p IOC_STATUS_BUSY) else removes (queued h n i) p) ≡ all_queued h n (if b then silently (ioc_ends_removal i p IOC_STATUS_BUSY) else removes i p)
      by_commands true = refl
      by_commands false = removed i p

  removed_if : (i : Ioc) (p : Post) (b : Binding) → removes_if (queued h n i) p b ≡ all_queued h n (removes_if i p b)
  removed_if i p binding.Unbound = refl
  removed_if i p (binding.Present address plug expander phy) = refl
  removed_if i p (binding.Gone address) = removed_gone i p

  controlled : (i : Ioc) (p : Post) → works_unit_control (queued h n i) p ≡ all_queued h n (works_unit_control i p)
  controlled i p = by_operation (operation_in p.frame == remove_device)
    where
      by_operation : (b : Bool) → (if b then removes_if (queued h n i) p (binding_of i (controlled_handle_in p.frame)) else silently (ioc_ends_removal (queued h n i) p IOC_STATUS_INVALID_FIELD))
          ≡ all_queued h n (if b then removes_if i p (binding_of i (controlled_handle_in p.frame)) else silently (ioc_ends_removal i p IOC_STATUS_INVALID_FIELD))
      by_operation true = removed_if i p (binding_of i (controlled_handle_in p.frame))
      by_operation false = refl

-- the queues are as before
kept : (i : Ioc) (p : Post) → works_unit_control i p ≡ all_queued i.high i.normal (works_unit_control i p)
kept i p = controlled i.high i.normal i p

pub control_without : (q : PostQueue) (i : Ioc) (p : Post) → works_unit_control (without_front q i) p ≡ record { part = without_front q (works_unit_control i p).part; entries = (works_unit_control i p).entries }
control_without queue.High i p =
    controlled (drop 1 i.high) i.normal i p ∙ high_back
  where
    high_back : all_queued (drop 1 i.high) i.normal (works_unit_control i p) ≡ record { part = without_front queue.High (works_unit_control i p).part; entries = (works_unit_control i p).entries }
    high_back =
        let high = ap (λ (o : Happening Ioc). o.part.high) (kept i p) in
        let normal = ap (λ (o : Happening Ioc). o.part.normal) (kept i p) in
        rw (high, normal) refl
control_without queue.Normal i p = controlled i.high (drop 1 i.normal) i p ∙ normal_back
  where
    normal_back : all_queued i.high (drop 1 i.normal) (works_unit_control i p) ≡ record { part = without_front queue.Normal (works_unit_control i p).part; entries = (works_unit_control i p).entries }
    normal_back =
        let high = ap (λ (o : Happening Ioc). o.part.high) (kept i p) in
        let normal = ap (λ (o : Happening Ioc). o.part.normal) (kept i p) in
        rw (high, normal) refl

-- the front of a queue stays
pub control_keeps : (q : PostQueue) (i : Ioc) (p : Post) → posts_in q (works_unit_control i p).part ≡ posts_in q i
control_keeps queue.High i p = ap (λ (o : Happening Ioc). o.part.high) (kept i p)
control_keeps queue.Normal i p = ap (λ (o : Happening Ioc). o.part.normal) (kept i p)
