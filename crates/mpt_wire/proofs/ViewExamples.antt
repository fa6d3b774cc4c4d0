-- Views that compute: what an entry says by what stands before it and what comes next.
use Rattle.std.proofs.Common.{◌≡◌, ℕ, List, [], ◌∷◌, ◌++◌, replicate, Some, refl}
use Rattle.mpi_layout.specs.Rows.{field}
use Rattle.mpi_rings.specs.declared.request_descriptor.PostKind.TheVariants as post
use Rattle.mpt_trace.specs.declared.command_form.CommandForm.TheVariants as form
use Rattle.mpt_trace.specs.declared.input.Input.TheVariants as input
use Rattle.mpt_trace.specs.declared.lane.LaneName.TheVariants as lane
use Rattle.mpt_trace.specs.declared.item.Item.TheVariants as item
use Rattle.mpt_trace.specs.declared.item.Down.TheVariants as down
use Rattle.mpt_trace.specs.declared.item.Up.TheVariants as up
use Rattle.mpt_trace.specs.declared.outcome.TargetOutcome.TheVariants as target
use Rattle.mpt_trace.specs.declared.refusal.Refusal.TheVariants as refusal
use Rattle.mpt_trace.specs.declared.refusal.RefusedCall.TheVariants as call
use Rattle.mpt_trace.specs.declared.entry.Entry.{Entry}
use Rattle.mpt_trace.specs.declared.entry.Entry.TheVariants as entry
use Rattle.mpt_trace.specs.Command.{command_named}
use Rattle.mpt_wire.specs.Messages.Fields.{post_descriptor, address_descriptor, changes_from}
use Rattle.mpt_wire.specs.Machine.Causes as calls
use Rattle.mpt_wire.specs.Machine.Causes.{Start, Submit, Abort, TargetReset, Plug, Reset}
use Rattle.mpt_wire.specs.Machine.Steps.{Grants, Refuses, GetsUp, Runs, GetsReady, Leaves, HasLeft, EndsTargetReset, EndsReset, Fails}
use Rattle.mpt_wire.specs.Machine.View.{view, ViewIsRun, departures}
use Rattle.mpt_wire.specs.Machine.SoFar.{announced_after}

-- ---- calls and refusals

-- a call that is refused next is refused, and says no step of its own; what others do between plays no part
refused_next : view (entry.Given input.Start ∷ entry.UnbindAll ∷ entry.Refuse call.Start refusal.AlreadyStarted ∷ []) ≡ Refuses Start refusal.AlreadyStarted ∷ []
refused_next = refl

-- a refusal of another call isn't one of this
refused_another : view (entry.Given (input.Abort 1) ∷ entry.Refuse (call.Abort 2) refusal.NotOpen ∷ []) ≡ Grants (Abort 1) ∷ Refuses (Abort 2) refusal.NotOpen ∷ []
refused_another = refl

-- a refused plug names its phy
refused_plug : view (entry.Given (input.Plug 5 0 3) ∷ entry.HostUp ∷ entry.Refuse (call.Plug 5) refusal.Occupied ∷ []) ≡ GetsUp ∷ Refuses (Plug 5 (record { expander = 0; phy = 3 })) refusal.Occupied ∷ []
refused_plug = refl

-- a refused submission has its command
refused_submission : view (entry.Given (input.Submit 1 5 form.Tur) ∷ entry.RefuseSubmit 1 refusal.NoDevice ∷ []) ≡ Refuses (Submit 1 5 (command_named form.Tur)) refusal.NoDevice ∷ []
refused_submission = refl

-- ---- entries that say no step of a machine

-- a submission whose answer isn't the host's next entry
unanswered : view (entry.Given (input.Submit 1 5 form.Tur) ∷ entry.HostUp ∷ entry.Accept 1 5 1 ∷ []) ≡ Fails ∷ GetsUp ∷ Fails ∷ []
unanswered = refl

-- an accept without a submission
unasked : view (entry.Accept 1 5 1 ∷ []) ≡ Fails ∷ []
unasked = refl

-- a run of a tag that no accept has
untagged : ViewIsRun [] (entry.Run 5 1 ∷ []) → ⊥
untagged h = h.0

-- a disk that is ready without a bind
unbound : ViewIsRun [] (entry.Ready 5 9 ∷ []) → ⊥
unbound h = h.0

-- a run says the number of the last accept with its tag, and a disk's readiness the last bind's plug
last_of_each : view (entry.Given (input.Submit 1 5 form.Tur) ∷ entry.Accept 1 5 1 ∷ entry.Given (input.Submit 2 6 form.Tur) ∷ entry.Accept 2 6 1 ∷ entry.Run 6 1 ∷ entry.Bind 9 5 1 ∷ entry.Bind 9 5 2 ∷ entry.Ready 5 9 ∷ [])
    ≡ Grants (Submit 1 5 (command_named form.Tur)) ∷ Grants (Submit 2 6 (command_named form.Tur)) ∷ Runs 2 6 ∷ GetsReady 5 2 ∷ []
last_of_each = refl

-- ---- departures

-- a topology change list with one change of handle 0009
abbrev change_frame : ℕ → List ℕ
change_frame status = replicate 20 0 ++ (0x1c ∷ 0 ∷ []) ++ replicate 14 0 ++ (1 ∷ 0 ∷ 0 ∷ 0 ∷ []) ++ 9 ∷ 0 ∷ 0 ∷ status ∷ []

abbrev changed : ℕ → Entry
changed status = entry.Take lane.Up (item.Up (up.Reply (address_descriptor 0 65536) (Some (change_frame status)) [] []))

-- a disk that was announced departs once, whatever the vacant bit says
departs : view (changed 1 ∷ changed 0x82 ∷ changed 2 ∷ []) ≡ Leaves ∷ []
unfolding field changes_from departures announced_after
departs = refl

-- a disk that wasn't announced since the last reset doesn't
not_announced : view (changed 1 ∷ entry.ResetDone ∷ changed 2 ∷ []) ≡ EndsReset ∷ []
unfolding field changes_from departures announced_after
not_announced = refl

-- nor does any while a reset is on its way
during_a_reset : view (changed 1 ∷ entry.Given input.Reset ∷ changed 2 ∷ []) ≡ Grants Reset ∷ []
unfolding field changes_from departures announced_after
during_a_reset = refl

-- but a reset that is refused is none
reset_refused : view (changed 1 ∷ entry.Given input.Reset ∷ entry.Refuse call.Reset refusal.NotStarted ∷ changed 2 ∷ []) ≡ Refuses Reset refusal.NotStarted ∷ Leaves ∷ []
unfolding field changes_from departures announced_after
reset_refused = refl

-- ---- target resets

abbrev asks_reset : Entry
asks_reset = entry.Put lane.Down (item.Down (down.Post (post_descriptor post.HighPriority 0 257 0) (9 ∷ 0 ∷ 0 ∷ 1 ∷ 0 ∷ 3 ∷ []) []))

abbrev asks_abort : Entry
asks_abort = entry.Put lane.Down (item.Down (down.Post (post_descriptor post.HighPriority 0 257 0) (9 ∷ 0 ∷ 0 ∷ 1 ∷ 0 ∷ 1 ∷ []) []))

abbrev takes_reply : Entry
takes_reply = entry.Take lane.Up (item.Up (up.Reply (address_descriptor 257 65536) (Some []) [] []))

-- the reply of a target reset that nobody is told of ends a departure
lets_go : view (asks_reset ∷ takes_reply ∷ entry.Given (input.Unplug 5) ∷ entry.HostUp ∷ []) ≡ HasLeft ∷ Grants (calls.Unplug 5) ∷ GetsUp ∷ []
unfolding field
lets_go = refl

-- one that the host tells of next was asked for
was_asked_for : view (asks_reset ∷ takes_reply ∷ entry.TargetEnd 5 (target.Done 0) ∷ []) ≡ EndsTargetReset 5 (target.Done 0) ∷ []
unfolding field
was_asked_for = refl

-- an abort's reply ends none
of_an_abort : view (asks_reset ∷ asks_abort ∷ takes_reply ∷ []) ≡ []
unfolding field
of_an_abort = refl
