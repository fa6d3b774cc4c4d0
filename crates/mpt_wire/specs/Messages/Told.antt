-- What the host tells of a reply is what the reply says: the handle of a disk that is ready or lost, and how an abort
-- or a target reset ended.
use Rattle.std.specs.Prelude.{◌≡◌, ℕ, ◌==◌, ◌&&◌, true, nat_lt, bit_and, if◌then◌else◌, List, Option, Some, None}
use Rattle.std.specs.List.{list_any}
use Rattle.mpi_names.specs.declared.ioc_status.TheConstants.{MPI2_IOCSTATUS_MASK}
use Rattle.mpt_trace.specs.declared.item.Item.TheVariants as item
use Rattle.mpt_trace.specs.declared.item.Down.TheVariants as down
use Rattle.mpt_trace.specs.declared.item.Up.{Up}
use Rattle.mpt_trace.specs.declared.item.Up.TheVariants as up
use Rattle.mpt_trace.specs.declared.outcome.AbortOutcome.{AbortOutcome}
use Rattle.mpt_trace.specs.declared.outcome.AbortOutcome.TheVariants as abort
use Rattle.mpt_trace.specs.declared.outcome.TargetOutcome.{TargetOutcome}
use Rattle.mpt_trace.specs.declared.outcome.TargetOutcome.TheVariants as target
use Rattle.mpt_trace.specs.declared.entry.Entry.{Entry}
use Rattle.mpt_trace.specs.declared.entry.Entry.TheVariants as entry
use Rattle.mpt_wire.specs.Messages.Fields.{changes_in, dev_handle_in, ioc_status_in, page_dev_handle_in, page_sas_address_in, smid_in, target_not_responding, task_mid_in, termination_count_in}
use Rattle.mpt_wire.specs.Machine.State.{put_at}
use Rattle.mpt_wire.specs.Messages.Naming.{is_abort, is_target_reset_post, success}
use Rattle.mpt_wire.specs.Walks.Passes.{Passes}

pub record Hearing : Type 0 where
  -- the last item that the host took from a lane up
  pub last : Option Up
  -- the address that was last told as ready with the handle
  pub address_of : ℕ → Option ℕ
  -- by high priority identifier: the command's identifier that its last abort names, and the address that was ready
  -- with the handle of its last target reset as that was put
  pub abort_of : ℕ → Option ℕ
  pub reset_of : ℕ → Option ℕ
  -- the number of the last accept under the identifier
  pub number_of : ℕ → Option ℕ

abbrev pub nothing_heard : Hearing
nothing_heard = record { last = None; address_of = λ h. None; abort_of = λ q. None; reset_of = λ q. None; number_of = λ s. None }

abbrev pub post_heard : ℕ → List ℕ → Hearing → Hearing
post_heard descriptor frame g =
    if is_abort descriptor frame then record g { abort_of = put_at (smid_in descriptor) (Some (task_mid_in frame)) g.abort_of }
    else (if is_target_reset_post descriptor frame then record g { reset_of = put_at (smid_in descriptor) (g.address_of (dev_handle_in frame)) g.reset_of } else g)

abbrev pub hearing_next : Hearing → Entry → Hearing
hearing_next g (entry.Put lane (item.Down (down.Post descriptor frame payload))) = post_heard descriptor frame g
hearing_next g (entry.Take lane (item.Up taken)) = record g { last = Some taken }
hearing_next g (entry.Ready address handle) = record g { address_of = put_at handle (Some address) g.address_of }
hearing_next g (entry.Accept n address smid) = record g { number_of = put_at smid (Some n) g.number_of }
hearing_next g _ = g

-- the reply that was taken has a page of the handle with the address
abbrev pub IsPageTold : Option Up → ℕ → ℕ → Type 0
IsPageTold (Some (up.Reply descriptor frame page sense)) address handle = (page_sas_address_in page ≡ address) × (page_dev_handle_in page ≡ handle)
IsPageTold _ address handle = ⊥

-- the reply that was taken is an event that says that the handle's disk doesn't respond
abbrev pub SaysDeparted : Option Up → ℕ → Type 0
SaysDeparted (Some (up.Reply descriptor (Some frame) page sense)) handle =
    (smid_in descriptor ≡ 0) × (list_any (λ change. change.handle == handle && change.status == target_not_responding) (changes_in frame) ≡ true)
SaysDeparted _ handle = ⊥

-- the value is there, and is this
abbrev pub IsSomeOf : Option ℕ → ℕ → Type 0
IsSomeOf None x = ⊥
IsSomeOf (Some y) x = y ≡ x

-- the status without its flag for log info
abbrev pub status_under_mask : List ℕ → ℕ
status_under_mask frame = bit_and (ioc_status_in frame) MPI2_IOCSTATUS_MASK

-- an abort stopped its command where its reply has SUCCESS and a count above 0
abbrev pub abort_outcome : List ℕ → AbortOutcome
abort_outcome frame = if status_under_mask frame == success && nat_lt 0 (termination_count_in frame) then abort.Stopped else abort.NotFound

-- the number of the command that the abort with this identifier names
abbrev pub number_aborted : Hearing → Option ℕ → Option ℕ
number_aborted g None = None
number_aborted g (Some task) = g.number_of task

-- the reply that was taken is that of an abort of n, and says this
abbrev pub AbortSays : Hearing → Option Up → ℕ → AbortOutcome → Type 0
AbortSays g last n abort.Reset = Unit {0}
AbortSays g (Some (up.Reply descriptor (Some frame) page sense)) n how = IsSomeOf (number_aborted g (g.abort_of (smid_in descriptor))) n × (how ≡ abort_outcome frame)
AbortSays g _ n how = ⊥

-- the reply that was taken is that of a target reset of the address, and has this count
abbrev pub TargetResetSays : Hearing → Option Up → ℕ → TargetOutcome → Type 0
TargetResetSays g last address target.Reset = Unit {0}
TargetResetSays g (Some (up.Reply descriptor (Some frame) page sense)) address (target.Done count) = IsSomeOf (g.reset_of (smid_in descriptor)) address × (count ≡ termination_count_in frame)
TargetResetSays g _ address how = ⊥

-- `ready` tells the page that was taken, `lost` the departure and the handle with which the disk was ready, and the
-- ends of aborts and target resets their replies
abbrev pub HearingAsks : Hearing → Entry → Type 0
HearingAsks g (entry.Ready address handle) = IsPageTold g.last address handle
HearingAsks g (entry.Lost address handle) = SaysDeparted g.last handle × IsSomeOf (g.address_of handle) address
HearingAsks g (entry.AbortEnd n how) = AbortSays g g.last n how
HearingAsks g (entry.TargetEnd address how) = TargetResetSays g g.last address how
HearingAsks g _ = Unit {0}

abbrev pub RepliesAreTold : List Entry → Type 0
RepliesAreTold t = Passes hearing_next HearingAsks nothing_heard t
