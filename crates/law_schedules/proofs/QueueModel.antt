-- The model of the controller's queues goes with the controller, where it queues each post that it takes and an abort that it
-- processes stands.
use Rattle.std.proofs.Common.{◌≡◌, ℕ, ◌==◌, ◌&&◌, ◌||◌, nat_lt, Bool, true, false, not, if◌then◌else◌, List, [], ◌∷◌, ◌++◌, drop, length, map, slice_index, Option, Some, None, refl, ap, ap₂, sym, subst, ◌∙◌, arith}
use Rattle.std.specs.List.{filter, find, list_any}
use Rattle.std.proofs.lemmas.List.{map-append}
use Rattle.mpi_doorbell.specs.DoorRegisters.{is_fault}
use Rattle.mpi_layout.specs.Rows.{field}
use Rattle.mpi_rings.specs.RequestDescriptor.{flags_of}
use Rattle.mpi_rings.specs.declared.request_descriptor.PostKind.{PostKind}
use Rattle.mpi_rings.specs.declared.request_descriptor.PostKind.TheVariants as post
use Rattle.mpt_messages.specs.Function.{byte_of, function_of}
use Rattle.mpt_messages.specs.Refusal.{request_refusal, request_refusal_as}
use Rattle.mpt_messages.specs.declared.fault.MsgFault.{MsgFault}
use Rattle.mpt_messages.specs.declared.fault.MsgFault.TheVariants as refusal
use Rattle.mpt_messages.specs.declared.function.Function.{Function}
use Rattle.mpt_messages.specs.declared.function.Function.TheVariants as function
use Rattle.mpt_messages.specs.declared.function.Kind.TheVariants as kind
use Rattle.mpt_trace.specs.declared.item.Back.{Back}
use Rattle.mpt_wire.specs.Fits.Queued.{Queued, QueuedPost, is_named, is_scsi_io, high_processed, normal_processed, post_taken}
use Rattle.mpt_wire.specs.Messages.Fields.{abort_task, controlled_handle_in, dev_handle_in, flags_in, function_in, kind_by_flags, kind_in, smid_in, target_reset, task_mid_in, task_type_in}
use Rattle.mpt_wire.specs.Messages.Naming.{is_abort, is_high_priority}
use Rattle.mpt_rules.specs.declared.binding.Binding.{Binding}
use Rattle.mpt_rules.specs.declared.binding.Binding.TheVariants as binding
use Rattle.mpt_rules.specs.declared.binding.Waiting.{Waiting}
use Rattle.mpt_rules.specs.declared.post.Post.{Post}
use Rattle.mpt_rules.specs.Ioc.Back.{takes_back}
use Rattle.mpt_rules.specs.Ioc.Bindings as bind
use Rattle.mpt_rules.specs.Ioc.Commands as commands
use Rattle.mpt_rules.specs.Ioc.Parts.{Ioc, state_of}
use Rattle.mpt_rules.specs.Ioc.Posts as posts
use Rattle.mpt_rules.specs.Ioc.Replies.{says_on}
use Rattle.mpt_rules.specs.Ioc.Requests as ask
use Rattle.mpt_rules.specs.declared.status.TheConstants.{IOC_STATUS_SUCCESS}
use Rattle.mpt_rules.specs.Ioc.Steps as step
use Rattle.mpt_rules.specs.Ioc.Tables as table
use Rattle.mpt_rules.specs.Ioc.Takes.{posts_if_operational}
use Rattle.mpt_rules.specs.Ioc.Tasks as tasks
use Rattle.mpt_rules.specs.Outcome.{Happening}
use Rattle.law_flights.proofs.KnownOnce.{none_counted}
use Rattle.law_flights.proofs.Leaves.{Bound, Calmed, Done, Ended, Hears, Linked, Lost, Passed, Unawaited, Waits, back_leaf}
use Rattle.law_flights.proofs.WorkLeaves.{AbortEnds, AbortSends, Acks, Dropped, Enables, EndsPlainly, Notifies, PageEnds, PageGiven, Refuses, RemovalEnds, Removes, ResetEnds, ResetHolds, ResetSends, ScsiEnds, ScsiSends, Stops, Strays, TaskFails, Works, works_leaf}
use Rattle.law_schedules.proofs.DiskCounts.{all_stay, filter_map_both}

abbrev pub as_queued_post : Post → QueuedPost
as_queued_post p = record { descriptor = p.descriptor; frame = p.frame }

abbrev pub is_high_post : Post → Bool
is_high_post p = is_high_priority (kind_in p.descriptor)

pub record FitsQueues (high normal : List QueuedPost) (ioc_high ioc_normal : List Post) : Type 0 where
  pub high_are : high ≡ map as_queued_post ioc_high
  pub normal_are : normal ≡ map as_queued_post ioc_normal
  -- no post of high priority is in the normal queue
  pub plain : list_any is_high_post ioc_normal ≡ false

abbrev pub QueuesFit : Queued → Ioc → Type 0
QueuesFit g ioc = FitsQueues g.high g.normal ioc.high ioc.normal

-- ---- both queues as they were

pub record SameQueue (i : Ioc) (o : Happening Ioc) : Type 0 where
  pub high_is : o.part.high ≡ i.high
  pub normal_is : o.part.normal ≡ i.normal

to : (i : Ioc) (x o : Happening Ioc) → o ≡ x → SameQueue i x → SameQueue i o
to i x o e s = subst (SameQueue i) (sym e) s

same : (i : Ioc) → SameQueue i (table.silently i)
same i = record { high_is = refl; normal_is = refl }

releases_same : (i k : Ioc) (handle : ℕ) → k.high ≡ i.high → k.normal ≡ i.normal → SameQueue i (table.silently (commands.releases k handle))
releases_same i k handle a b = by_commands (table.has_commands k handle)
  where
    by_commands : (c : Bool) → SameQueue i (table.silently (if c then k else commands.answers_held k handle))
    by_commands true = record { high_is = a; normal_is = b }
    by_commands false = record { high_is = a; normal_is = b }

changes_same : (i k : Ioc) (handle expander phy : ℕ) (added : Bool) → k.high ≡ i.high → k.normal ≡ i.normal → SameQueue i (table.silently (bind.changes k handle expander phy added))
changes_same i k handle expander phy added a b = by_through k.through
  where
    by_through : (c : Bool) → SameQueue i (table.silently (if c then bind.tells_change k handle expander phy added else k))
    by_through true = record { high_is = a; normal_is = b }
    by_through false = record { high_is = a; normal_is = b }

bound_same : (i k : Ioc) (disk : Waiting) (o : Option ℕ) → k.high ≡ i.high → k.normal ≡ i.normal → SameQueue i (bind.binds_to k disk o)
bound_same i k disk None a b = record { high_is = a; normal_is = b }
bound_same i k disk (Some handle) a b =
    let s = changes_same i (table.with_binding k handle (binding.Present disk.address disk.plug disk.expander disk.phy)) handle disk.expander disk.phy true a b in
    record { high_is = s.high_is; normal_is = s.normal_is }

first_same : (i k : Ioc) (ds : List Waiting) → k.high ≡ i.high → k.normal ≡ i.normal → SameQueue i (bind.binds_first k ds)
first_same i k [] a b = record { high_is = a; normal_is = b }
first_same i k (d ∷ ds) a b = bound_same i (record k { waiting = ds }) d (table.least_unbound (record k { waiting = ds })) a b

-- ---- a post that isn't of high priority

no_high : {A : Type 0} (o : Option PostKind) → o ≡ Some post.HighPriority → is_high_priority o ≡ false → A
no_high o k n = let z : true ≡ false = sym (ap is_high_priority k) ∙ n in absurd (cc)

work_same : (i : Ioc) (p : Post) (o : Happening Ioc) → Works i p o → is_high_post p ≡ false → SameQueue i o
work_same i p o (Dropped k e) n = to i _ o e (same i)
work_same i p o (Refuses k f d r e) n = to i _ o e (record { high_is = refl; normal_is = refl })
work_same i p o (ScsiEnds status k c e) n = to i _ o e (record { high_is = refl; normal_is = refl })
work_same i p o (ScsiSends address plug expander phy k c b e) n = to i _ o e (record { high_is = refl; normal_is = refl })
work_same i p o (Stops stop k f e) n = no_high (kind_in p.descriptor) k n
work_same i p o (AbortSends k f t e) n = no_high (kind_in p.descriptor) k n
work_same i p o (AbortEnds k f t e) n = no_high (kind_in p.descriptor) k n
work_same i p o (ResetSends address plug expander phy k b e) n = no_high (kind_in p.descriptor) k n
work_same i p o (ResetHolds address k b t e) n = no_high (kind_in p.descriptor) k n
work_same i p o (ResetEnds status k e) n = no_high (kind_in p.descriptor) k n
work_same i p o (TaskFails k e) n = no_high (kind_in p.descriptor) k n
work_same i p o (PageEnds status k e) n = to i _ o e (record { high_is = refl; normal_is = refl })
work_same i p o (PageGiven page k w e) n = to i _ o e (record { high_is = refl; normal_is = refl })
work_same i p o (Enables k a e) n = to i _ o e (record { high_is = refl; normal_is = refl })
work_same i p o (Notifies k e) n = to i _ o e (record { high_is = refl; normal_is = refl })
work_same i p o (Acks k t e) n = to i _ o e (record { high_is = refl; normal_is = refl })
work_same i p o (EndsPlainly f status k e) n = to i _ o e (record { high_is = refl; normal_is = refl })
work_same i p o (RemovalEnds status k e) n = to i _ o e (record { high_is = refl; normal_is = refl })
work_same i p o (Removes address k f b c e) n =
    let s = first_same i (ask.ioc_ends_removal (table.with_binding i (controlled_handle_in p.frame) binding.Unbound) p IOC_STATUS_SUCCESS) i.waiting refl refl in
    to i _ o e (record { high_is = s.high_is; normal_is = s.normal_is })
work_same i p o (Strays k r e) n = to i _ o e (same i)

-- ---- task management

function_field : (frame : List ℕ) → function_in frame ≡ slice_index frame 3
unfolding field
function_field frame = omega arith

task_as : (frame : List ℕ) (o : Option Function) → request_refusal_as kind.HighPriority frame o ≡ None → o ≡ Some function.TaskManagement
task_as frame None e = absurd (cc)
task_as frame (Some function.ScsiIo) e = absurd (cc)
task_as frame (Some function.TaskManagement) e = refl
task_as frame (Some function.IocInit) e = absurd (cc)
task_as frame (Some function.IocFacts) e = absurd (cc)
task_as frame (Some function.PortFacts) e = absurd (cc)
task_as frame (Some function.Config) e = absurd (cc)
task_as frame (Some function.PortEnable) e = absurd (cc)
task_as frame (Some function.EventNotification) e = absurd (cc)
task_as frame (Some function.EventAck) e = absurd (cc)
task_as frame (Some function.UnitControl) e = absurd (cc)

-- the byte of task management alone has its function
task_byte : (n : ℕ) → function_of n ≡ Some function.TaskManagement → (n == byte_of function.TaskManagement) ≡ true
task_byte n e = by_scsi (n == byte_of function.ScsiIo) refl e
  where
    others : (a b c d x y z w : Bool) → (if a then Some function.IocInit else if b then Some function.IocFacts else if c then Some function.Config else if d then Some function.PortFacts else if x then Some function.PortEnable else if y then Some function.EventNotification else if z then Some function.EventAck else if w then Some function.UnitControl else None) ≡ Some function.TaskManagement → ⊥
    others true b c d x y z w e = cc
    others false true c d x y z w e = cc
    others false false true d x y z w e = cc
    others false false false true x y z w e = cc
    others false false false false true y z w e = cc
    others false false false false false true z w e = cc
    others false false false false false false true w e = cc
    others false false false false false false false true e = cc
    others false false false false false false false false e = cc

    by_task : (b : Bool) → (n == byte_of function.TaskManagement) ≡ b
        → (if b then Some function.TaskManagement else if n == byte_of function.IocInit then Some function.IocInit else if n == byte_of function.IocFacts then Some function.IocFacts else if n == byte_of function.Config then Some function.Config else if n == byte_of function.PortFacts then Some function.PortFacts else if n == byte_of function.PortEnable then Some function.PortEnable else if n == byte_of function.EventNotification then Some function.EventNotification else if n == byte_of function.EventAck then Some function.EventAck else if n == byte_of function.UnitControl then Some function.UnitControl else None) ≡ Some function.TaskManagement
        → (n == byte_of function.TaskManagement) ≡ true
    by_task true t e = t
    by_task false t e = absurd (others (n == byte_of function.IocInit) (n == byte_of function.IocFacts) (n == byte_of function.Config) (n == byte_of function.PortFacts) (n == byte_of function.PortEnable) (n == byte_of function.EventNotification) (n == byte_of function.EventAck) (n == byte_of function.UnitControl) e)

    by_scsi : (a : Bool) → (n == byte_of function.ScsiIo) ≡ a
        → (if a then Some function.ScsiIo else if n == byte_of function.TaskManagement then Some function.TaskManagement else if n == byte_of function.IocInit then Some function.IocInit else if n == byte_of function.IocFacts then Some function.IocFacts else if n == byte_of function.Config then Some function.Config else if n == byte_of function.PortFacts then Some function.PortFacts else if n == byte_of function.PortEnable then Some function.PortEnable else if n == byte_of function.EventNotification then Some function.EventNotification else if n == byte_of function.EventAck then Some function.EventAck else if n == byte_of function.UnitControl then Some function.UnitControl else None) ≡ Some function.TaskManagement
        → (n == byte_of function.TaskManagement) ≡ true
    by_scsi true t e = absurd (cc)
    by_scsi false t e = by_task (n == byte_of function.TaskManagement) refl e

task_function : (frame : List ℕ) → request_refusal kind.HighPriority frame ≡ None → (function_in frame == byte_of function.TaskManagement) ≡ true
task_function frame e = by_length (nat_lt (length frame) 12) e
  where
    by_length : (b : Bool) → (if b then Some (refusal.Short 12 (length frame)) else request_refusal_as kind.HighPriority frame (function_of (slice_index frame 3))) ≡ None → (function_in frame == byte_of function.TaskManagement) ≡ true
    by_length true h = absurd (cc)
    by_length false h = ap (λ (n : ℕ). n == byte_of function.TaskManagement) (function_field frame) ∙ task_byte (slice_index frame 3) (task_as frame (function_of (slice_index frame 3)) h)

-- a post that is named is one that is stopped
named_both : (frame : List ℕ) (q : Post) → is_named frame (as_queued_post q) ≡ tasks.is_scsi_post (task_mid_in frame) (dev_handle_in frame) q
named_both frame q = ap (λ (b : Bool). b && smid_in q.descriptor == task_mid_in frame && dev_handle_in q.frame == dev_handle_in frame) (by_flags (flags_in q.descriptor))
  where
    by_flags : (n : ℕ) → is_scsi_io (kind_by_flags n) ≡ (n == flags_of post.ScsiIo)
    by_flags n = by_tests (n == flags_of post.ScsiIo) (n == flags_of post.HighPriority) (n == flags_of post.Default)
      where
        by_tests : (a b c : Bool) → is_scsi_io (if a then Some post.ScsiIo else (if b then Some post.HighPriority else (if c then Some post.Default else None))) ≡ a
        by_tests true b c = refl
        by_tests false true c = refl
        by_tests false false true = refl
        by_tests false false false = refl

-- the normal queue without what an abort names
abbrev without : List ℕ → List Post → List Post
without frame normal = filter (λ (q : Post). not (tasks.is_scsi_post (task_mid_in frame) (dev_handle_in frame) q)) normal

pub model_without : (frame : List ℕ) (normal : List Post) → filter (λ (q : QueuedPost). not (is_named frame q)) (map as_queued_post normal) ≡ map as_queued_post (without frame normal)
model_without frame normal = filter_map_both as_queued_post (λ (q : QueuedPost). not (is_named frame q)) normal ∙ ap (map as_queued_post) (each normal)
  where
    each : (xs : List Post) → filter (λ (q : Post). not (is_named frame (as_queued_post q))) xs ≡ without frame xs
    each [] = refl
    each (x ∷ xs) = ap₂ (λ (b : Bool) (ys : List Post). if not b then x ∷ ys else ys) (named_both frame x) (each xs)

-- what a step of the high queue leaves of the queues
pub record Stopping (i : Ioc) (b : Bool) (frame : List ℕ) (o : Happening Ioc) : Type 0 where
  pub high_is : o.part.high ≡ i.high
  pub normal_is : o.part.normal ≡ (if b then without frame i.normal else i.normal)

find_none : {X : Type 0} (test : X → Bool) (xs : List X) → find test xs ≡ None → list_any test xs ≡ false
find_none test [] e = refl
find_none test (x ∷ xs) e = by_test (test x) e (find_none test xs)
  where
    by_test : (b : Bool) → (if b then Some x else find test xs) ≡ None → (find test xs ≡ None → list_any test xs ≡ false) → (b || list_any test xs) ≡ false
    by_test true e ih = absurd (cc)
    by_test false e ih = ih e

abort_stops : (i : Ioc) (p : Post) → Stopping i true p.frame (table.silently (tasks.ioc_aborts i (smid_in p.descriptor) (task_mid_in p.frame) (dev_handle_in p.frame)))
abort_stops i p = by_found (find (tasks.is_scsi_post (task_mid_in p.frame) (dev_handle_in p.frame)) i.normal) refl
  where
    by_found : (o : Option Post) → find (tasks.is_scsi_post (task_mid_in p.frame) (dev_handle_in p.frame)) i.normal ≡ o → Stopping i true p.frame (table.silently (tasks.ioc_aborts_if i (smid_in p.descriptor) (task_mid_in p.frame) (dev_handle_in p.frame) o))
    by_found (Some q) e = record { high_is = refl; normal_is = refl }
    by_found None e = by_sent (table.is_command_of (dev_handle_in p.frame) (table.request_at i (task_mid_in p.frame)))
      where
        stay : i.normal ≡ without p.frame i.normal
        stay = sym (all_stay (tasks.is_scsi_post (task_mid_in p.frame) (dev_handle_in p.frame)) i.normal (none_counted (tasks.is_scsi_post (task_mid_in p.frame) (dev_handle_in p.frame)) i.normal (find_none (tasks.is_scsi_post (task_mid_in p.frame) (dev_handle_in p.frame)) i.normal e)))

        by_sent : (c : Bool) → Stopping i true p.frame (table.silently (if c then tasks.sends_abort i (smid_in p.descriptor) (task_mid_in p.frame) (dev_handle_in p.frame) else tasks.ioc_ends_abort i (smid_in p.descriptor) (dev_handle_in p.frame) 0))
        by_sent true = record { high_is = refl; normal_is = stay }
        by_sent false = record { high_is = refl; normal_is = stay }

reset_stops : (i : Ioc) (p : Post) → Stopping i false p.frame (table.silently (tasks.ioc_resets_target i (smid_in p.descriptor) (dev_handle_in p.frame) (table.binding_of i (dev_handle_in p.frame))))
reset_stops i p = by_binding (table.binding_of i (dev_handle_in p.frame))
  where
    by_binding : (b : Binding) → Stopping i false p.frame (table.silently (tasks.ioc_resets_target i (smid_in p.descriptor) (dev_handle_in p.frame) b))
    by_binding binding.Unbound = record { high_is = refl; normal_is = refl }
    by_binding (binding.Present address plug expander phy) = record { high_is = refl; normal_is = refl }
    by_binding (binding.Gone address) = by_commands (table.has_commands i (dev_handle_in p.frame))
      where
        by_commands : (c : Bool) → Stopping i false p.frame (table.silently (if c then record i { held = i.held ++ record { smid = smid_in p.descriptor; handle = dev_handle_in p.frame } ∷ [] } else tasks.ends_target_reset i (smid_in p.descriptor) (dev_handle_in p.frame) IOC_STATUS_SUCCESS 0))
        by_commands true = record { high_is = refl; normal_is = refl }
        by_commands false = record { high_is = refl; normal_is = refl }

task_stops : (i : Ioc) (p : Post) → Stopping i (task_type_in p.frame == abort_task) p.frame (table.silently (tasks.works_task i p))
task_stops i p = by_types (task_type_in p.frame == abort_task) (task_type_in p.frame == target_reset)
  where
    by_types : (a b : Bool) → Stopping i a p.frame (table.silently (if a then tasks.ioc_aborts i (smid_in p.descriptor) (task_mid_in p.frame) (dev_handle_in p.frame) else if b then tasks.ioc_resets_target i (smid_in p.descriptor) (dev_handle_in p.frame) (table.binding_of i (dev_handle_in p.frame)) else tasks.fails_task i (smid_in p.descriptor) (dev_handle_in p.frame) (task_type_in p.frame)))
    by_types true b = abort_stops i p
    by_types false true = reset_stops i p
    by_types false false = record { high_is = refl; normal_is = refl }

-- a post of the high queue, whatever its kind, where an abort stands
pub high_stops : (i : Ioc) (p : Post) → (is_abort p.descriptor p.frame ≡ true → request_refusal kind.HighPriority p.frame ≡ None) → Stopping i (is_abort p.descriptor p.frame) p.frame (step.works_on i p)
high_stops i p stands = by_high (is_high_post p) refl
  where
    other : is_high_post p ≡ false → Stopping i (is_abort p.descriptor p.frame) p.frame (step.works_on i p)
    other n =
        let s = work_same i p (step.works_on i p) (works_leaf i p) n in
        let none : is_abort p.descriptor p.frame ≡ false = ap (λ (b : Bool). b && function_in p.frame == byte_of function.TaskManagement && task_type_in p.frame == abort_task) n in
        record { high_is = s.high_is; normal_is = s.normal_is ∙ sym (ap (λ (b : Bool). if b then without p.frame i.normal else i.normal) none) }

    high_kind : (o : Option PostKind) → is_high_priority o ≡ true → o ≡ Some post.HighPriority
    high_kind None e = absurd (cc)
    high_kind (Some post.ScsiIo) e = absurd (cc)
    high_kind (Some post.HighPriority) e = refl
    high_kind (Some post.Default) e = absurd (cc)

    by_refusal : is_high_post p ≡ true → (r : Option MsgFault) → request_refusal kind.HighPriority p.frame ≡ r → Stopping i (is_abort p.descriptor p.frame) p.frame (step.works_unless i p post.HighPriority r)
    by_refusal h (Some f) e =
        let none : is_abort p.descriptor p.frame ≡ false = by_abort (is_abort p.descriptor p.frame) refl in
        record { high_is = refl; normal_is = sym (ap (λ (b : Bool). if b then without p.frame i.normal else i.normal) none) }
      where
        by_abort : (b : Bool) → is_abort p.descriptor p.frame ≡ b → b ≡ false
        by_abort false t = refl
        by_abort true t = let z : None ≡ Some f = sym (stands t) ∙ e in absurd (cc)
    by_refusal h None e =
        let is : is_abort p.descriptor p.frame ≡ (task_type_in p.frame == abort_task) = ap₂ (λ (a b : Bool). a && b && task_type_in p.frame == abort_task) h (task_function p.frame e) in
        subst (λ (b : Bool). Stopping i b p.frame (step.works_unless i p post.HighPriority None)) (sym is) (task_stops i p)

    by_high : (b : Bool) → is_high_post p ≡ b → Stopping i (is_abort p.descriptor p.frame) p.frame (step.works_on i p)
    by_high false n = other n
    by_high true h = subst (λ (o : Option PostKind). Stopping i (is_abort p.descriptor p.frame) p.frame (step.works_kind i p o)) (sym (high_kind (kind_in p.descriptor) h)) (by_refusal h (request_refusal kind.HighPriority p.frame) refl)

-- ---- the model's steps

filtered_plain : (keep : Post → Bool) (xs : List Post) → list_any is_high_post xs ≡ false → list_any is_high_post (filter keep xs) ≡ false
filtered_plain keep [] e = refl
filtered_plain keep (x ∷ xs) e = by_tests (is_high_post x) refl (keep x) e (filtered_plain keep xs)
  where
    by_tests : (a : Bool) → is_high_post x ≡ a → (b : Bool) → (a || list_any is_high_post xs) ≡ false → (list_any is_high_post xs ≡ false → list_any is_high_post (filter keep xs) ≡ false) → list_any is_high_post (if b then x ∷ filter keep xs else filter keep xs) ≡ false
    by_tests true t b e ih = absurd (cc)
    by_tests false t true e ih = ap (λ (c : Bool). c || list_any is_high_post (filter keep xs)) t ∙ ih e
    by_tests false t false e ih = ih e

module _ (g : Queued) (i : Ioc) (h : QueuesFit g i) where
  pub high_step : (p : Post) (rest : List Post) → i.high ≡ p ∷ rest → (is_abort p.descriptor p.frame ≡ true → request_refusal kind.HighPriority p.frame ≡ None) → QueuesFit (high_processed g g.high) (step.works_on (record i { high = rest }) p).part
  high_step p rest e stands =
      let s = high_stops (record i { high = rest }) p stands in
      subst (λ (xs : List QueuedPost). QueuesFit (high_processed g xs) (step.works_on (record i { high = rest }) p).part) (sym (h.high_are ∙ ap (map as_queued_post) e))
      (record {
        high_are = ap (map as_queued_post) (sym s.high_is);
        normal_are = by_abort (is_abort p.descriptor p.frame) ∙ ap (map as_queued_post) (sym s.normal_is);
        plain = ap (list_any is_high_post) s.normal_is ∙ still (is_abort p.descriptor p.frame);
      })
    where
      by_abort : (b : Bool) → (if b then filter (λ (q : QueuedPost). not (is_named p.frame q)) g.normal else g.normal) ≡ map as_queued_post (if b then without p.frame i.normal else i.normal)
      by_abort true = ap (filter (λ (q : QueuedPost). not (is_named p.frame q))) h.normal_are ∙ model_without p.frame i.normal
      by_abort false = h.normal_are

      still : (b : Bool) → list_any is_high_post (if b then without p.frame i.normal else i.normal) ≡ false
      still true = filtered_plain (λ (q : Post). not (tasks.is_scsi_post (task_mid_in p.frame) (dev_handle_in p.frame) q)) i.normal h.plain
      still false = h.plain

  pub normal_step : (p : Post) (rest : List Post) → i.normal ≡ p ∷ rest → QueuesFit (normal_processed g) (step.works_on (record i { normal = rest }) p).part
  normal_step p rest e =
      let plain = plain_front (is_high_post p) refl (sym (ap (list_any is_high_post) e) ∙ h.plain) in
      let s = work_same (record i { normal = rest }) p (step.works_on (record i { normal = rest }) p) (works_leaf (record i { normal = rest }) p) plain.0 in
      record {
        high_are = h.high_are ∙ ap (map as_queued_post) (sym s.high_is);
        normal_are = ap (drop 1) (h.normal_are ∙ ap (map as_queued_post) e) ∙ ap (map as_queued_post) (sym s.normal_is);
        plain = ap (list_any is_high_post) s.normal_is ∙ plain.1;
      }
    where
      plain_front : (b : Bool) → is_high_post p ≡ b → (is_high_post p || list_any is_high_post rest) ≡ false → (is_high_post p ≡ false) × (list_any is_high_post rest ≡ false)
      plain_front true t z = let y : true ≡ false = sym (ap (λ (c : Bool). c || list_any is_high_post rest) t) ∙ z in absurd (cc)
      plain_front false t z = (t, sym (ap (λ (c : Bool). c || list_any is_high_post rest) t) ∙ z)

  -- a post that is taken, by a controller that is OPERATIONAL and doesn't fault
  pub post_came : (descriptor : ℕ) (frame payload : List ℕ) → table.is_operational (state_of i) ≡ true → is_fault (posts_if_operational i descriptor frame payload).door.state ≡ false
      → QueuesFit (post_taken (record { descriptor = descriptor; frame = frame }) g) (posts_if_operational i descriptor frame payload)
  post_came descriptor frame payload live sound = by_state (table.is_operational (state_of i)) live sound
    where
      p : Post
      p = record { descriptor = descriptor; frame = frame; payload = payload }

      more : (xs : List Post) → is_high_post p ≡ false → list_any is_high_post xs ≡ false → list_any is_high_post (xs ++ p ∷ []) ≡ false
      more [] n z = ap (λ (c : Bool). c || false) n
      more (x ∷ xs) n z = by_test (is_high_post x) refl z (more xs n)
        where
          by_test : (b : Bool) → is_high_post x ≡ b → (b || list_any is_high_post xs) ≡ false → (list_any is_high_post xs ≡ false → list_any is_high_post (xs ++ p ∷ []) ≡ false) → (is_high_post x || list_any is_high_post (xs ++ p ∷ [])) ≡ false
          by_test true t z ih = absurd (cc)
          by_test false t z ih = ap (λ (c : Bool). c || list_any is_high_post (xs ++ p ∷ [])) t ∙ ih z

      by_kind : (k : PostKind) → kind_in descriptor ≡ Some k → QueuesFit (post_taken (record { descriptor = descriptor; frame = frame }) g) (posts.with_post_queued i p k)
      by_kind post.HighPriority e =
          subst (λ (b : Bool). QueuesFit (if b then record g { high = g.high ++ as_queued_post p ∷ [] } else record g { normal = g.normal ++ as_queued_post p ∷ [] }) (posts.with_post_queued i p post.HighPriority)) (sym (ap is_high_priority e))
          (record { high_are = ap (λ (xs : List QueuedPost). xs ++ as_queued_post p ∷ []) h.high_are ∙ sym (map-append as_queued_post i.high (p ∷ [])); normal_are = h.normal_are; plain = h.plain })
      by_kind post.ScsiIo e =
          subst (λ (b : Bool). QueuesFit (if b then record g { high = g.high ++ as_queued_post p ∷ [] } else record g { normal = g.normal ++ as_queued_post p ∷ [] }) (posts.with_post_queued i p post.ScsiIo)) (sym (ap is_high_priority e))
          (record { high_are = h.high_are; normal_are = ap (λ (xs : List QueuedPost). xs ++ as_queued_post p ∷ []) h.normal_are ∙ sym (map-append as_queued_post i.normal (p ∷ [])); plain = more i.normal (ap is_high_priority e) h.plain })
      by_kind post.Default e =
          subst (λ (b : Bool). QueuesFit (if b then record g { high = g.high ++ as_queued_post p ∷ [] } else record g { normal = g.normal ++ as_queued_post p ∷ [] }) (posts.with_post_queued i p post.Default)) (sym (ap is_high_priority e))
          (record { high_are = h.high_are; normal_are = ap (λ (xs : List QueuedPost). xs ++ as_queued_post p ∷ []) h.normal_are ∙ sym (map-append as_queued_post i.normal (p ∷ [])); plain = more i.normal (ap is_high_priority e) h.plain })

      by_tests : (k : PostKind) → kind_in descriptor ≡ Some k → (a b : Bool) → is_fault (if not a then table.faults i posts.bad_post else if b then table.faults i posts.identifier_in_use else posts.with_post_queued i p k).door.state ≡ false
          → QueuesFit (post_taken (record { descriptor = descriptor; frame = frame }) g) (if not a then table.faults i posts.bad_post else if b then table.faults i posts.identifier_in_use else posts.with_post_queued i p k)
      by_tests k e false b n = absurd (cc)
      by_tests k e true true n = absurd (cc)
      by_tests k e true false n = by_kind k e

      by_name : (o : Option PostKind) → kind_in descriptor ≡ o → is_fault (posts.posts_if i p o).door.state ≡ false → QueuesFit (post_taken (record { descriptor = descriptor; frame = frame }) g) (posts.posts_if i p o)
      by_name None e n = absurd (cc)
      by_name (Some k) e n = by_tests k e (posts.is_in_class (posts.class_of k) (smid_in descriptor)) (table.is_unanswered i (smid_in descriptor)) n

      by_state : (c : Bool) → c ≡ true → is_fault (if c then posts.ioc_takes_post i descriptor frame payload else i).door.state ≡ false → QueuesFit (post_taken (record { descriptor = descriptor; frame = frame }) g) (if c then posts.ioc_takes_post i descriptor frame payload else i)
      by_state true l n = by_name (kind_in descriptor) refl n
      by_state false l n = absurd (cc)

  -- news of the fabric leaves the queues
  heard_same : (x : Back) (o : Happening Ioc) → Hears i x o → SameQueue i o
  heard_same x o (Passed e) = to i _ o e (same i)
  heard_same x o (Ended tag handle queue len written r e) = to i _ o e (releases_same i (says_on (table.without_request i tag) queue _) handle refl refl)
  heard_same x o (Done smid r answer a e) = to i _ o e (record { high_is = refl; normal_is = refl })
  heard_same x o (Bound disk handle l k e) = to i _ o e (bound_same i i disk (Some handle) refl refl)
  heard_same x o (Waits disk l k e) = to i _ o e (record { high_is = refl; normal_is = refl })
  heard_same x o (Lost handle address plug expander phy b e) = to i _ o e (changes_same i (table.with_binding i handle (binding.Gone address)) handle expander phy false refl refl)
  heard_same x o (Unawaited address n e) = to i _ o e (record { high_is = refl; normal_is = refl })
  heard_same x o (Linked generation r e) = to i _ o e (record { high_is = refl; normal_is = refl })
  heard_same x o (Calmed e) = to i _ o e (record { high_is = refl; normal_is = refl })

  kept_so : (o : Happening Ioc) → SameQueue i o → QueuesFit g o.part
  kept_so o s = record { high_are = h.high_are ∙ ap (map as_queued_post) (sym s.high_is); normal_are = h.normal_are ∙ ap (map as_queued_post) (sym s.normal_is); plain = ap (list_any is_high_post) s.normal_is ∙ h.plain }

  pub news_came : (x : Back) → QueuesFit g (takes_back i x).part
  news_came x = kept_so (takes_back i x) (heard_same x (takes_back i x) (back_leaf i x))
