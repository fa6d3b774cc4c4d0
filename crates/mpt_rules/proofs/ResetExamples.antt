-- Resets that are asked, their marks and their end, and the steps of a start.
use Rattle.std.proofs.Common.{◌≡◌, ℕ, List, [], ◌∷◌, Bool, true, false, Some, None, refl}
use Rattle.std.specs.Prelude.{slice_index_or}
use Rattle.std.specs.Ordering.{nat_cmp}
use Rattle.std.specs.FinMap as map
use Rattle.std.specs.FinMap.{entries-from_sorted}
use Rattle.ioc_msgs.specs.IocFacts.{ioc_facts_layout, ioc_facts_values}
use Rattle.mpi_doorbell.specs.declared.registers.TheConstants.{IOC_STATE_READY, DIAG_WRITE_ENABLE}
use Rattle.mpi_doorbell.specs.declared.stage.Reading.TheVariants.{Unlocked, State}
use Rattle.mpi_doorbell.specs.declared.stage.ResetKind.TheVariants.{MessageUnit}
use Rattle.mpi_doorbell.specs.declared.stage.Stage.TheVariants.{Awaits}
use Rattle.smid_pool.specs.Pool.{Open, all_free, slot_of, with_slot}
use Rattle.removal.specs.declared.phase.Phase.TheVariants as phase
use Rattle.removal.specs.Handles.{phase_at}
use Rattle.mpt_trace.specs.declared.entry.Entry.{Entry}
use Rattle.mpt_trace.specs.declared.entry.Entry.TheVariants as entry
use Rattle.mpt_trace.specs.declared.host_state.HostState.TheVariants as state
use Rattle.mpt_trace.specs.declared.item.Up.TheVariants as up
use Rattle.mpt_trace.specs.declared.outcome.Outcome.TheVariants as outcome
use Rattle.mpt_trace.specs.declared.outcome.AbortOutcome.TheVariants as abort
use Rattle.mpt_trace.specs.declared.outcome.TargetOutcome.TheVariants as target
use Rattle.mpt_rules.specs.declared.host_frame.HostFrame.TheVariants.{Held, Away}
use Rattle.mpt_rules.specs.declared.request.Request.TheVariants as request
use Rattle.mpt_rules.specs.declared.stage.Stage.TheVariants as stage
use Rattle.mpt_rules.specs.Host.Parts.{Cmd, Host}
use Rattle.mpt_rules.specs.Host.Doorbell.{turn_from}
use Rattle.mpt_rules.specs.Host.Takes.{diag_resets, host_waits, looks, host_resets_target, takes_up, unit_resets}
use Rattle.mpt_rules.proofs.HostUp.{disk, host_up, puts_of, read, resetting, up_with, wrote}

-- ---- a diagnostic reset is asked

-- a post is in the outbox, and two lists wait
abbrev busy : Host
busy = record (host_resets_target host_up disk).part { wait_high = 0x000a ∷ []; wait_internal = request.Page 0x000b ∷ [] }

-- the post is taken out, and the keys and a read of HostDiagnostic follow
diagnostic : puts_of (diag_resets busy).part ≡ wrote 0x04 0x0 ∷ wrote 0x04 0xF ∷ wrote 0x04 0x4 ∷ wrote 0x04 0xB ∷ wrote 0x04 0x2 ∷ wrote 0x04 0x7 ∷ wrote 0x04 0xD ∷ read 0x08 ∷ []
unfolding turn_from
diagnostic = refl

diagnostic_mode : (diag_resets busy).part.mode ≡ state.Resetting
unfolding turn_from
diagnostic_mode = refl

-- its request stays open
diagnostic_open : slot_of (diag_resets busy).part.pool 257 ≡ Open (request.TargetReset disk)
unfolding turn_from
diagnostic_open = refl

diagnostic_high : (diag_resets busy).part.wait_high ≡ []
unfolding turn_from
diagnostic_high = refl

diagnostic_internal : (diag_resets busy).part.wait_internal ≡ []
unfolding turn_from
diagnostic_internal = refl

diagnostic_asked : (diag_resets (record busy { asked = 0xffff_ffff })).part.asked ≡ 0
unfolding turn_from
diagnostic_asked = refl

-- frames are returned until the write that begins the reset is in the outbox
diagnostic_returning : (diag_resets busy).part.returning ≡ true
unfolding turn_from
diagnostic_returning = refl

-- HostDiagnostic is unlocked: the next write begins the reset
abbrev unlocked : Host
unlocked = record (resetting host_up) { stage = stage.DiagnosticReset; reading = true; machine = Some (record { stage = Awaits Unlocked; unsent = []; reply = [] }) }

reset_written : puts_of (takes_up unlocked 0 (up.Value DIAG_WRITE_ENABLE)).part ≡ wrote 0x08 0x84 ∷ read 0x08 ∷ []
unfolding turn_from
reset_written = refl

no_more_returns : (takes_up unlocked 0 (up.Value DIAG_WRITE_ENABLE)).part.returning ≡ false
unfolding turn_from
no_more_returns = refl

-- ---- a message unit reset is asked: its first write begins it

unit : puts_of (unit_resets host_up).part ≡ wrote 0x00 0x4000_0000 ∷ read 0x30 ∷ []
unfolding turn_from
unit = refl

unit_returning : (unit_resets host_up).part.returning ≡ false
unfolding turn_from
unit_returning = refl

-- ---- a reset is asked while a read is outstanding

abbrev asked_late : Host
asked_late = (unit_resets (looks host_up)).part

-- it begins as the value comes, which is dropped
late : puts_of asked_late ≡ read 0x00 ∷ []
unfolding turn_from
late = refl

late_returning : asked_late.returning ≡ true
unfolding turn_from
late_returning = refl

late_machine : asked_late.machine ≡ None
unfolding turn_from
late_machine = refl

late_begins : puts_of (takes_up asked_late 0 (up.Value 0)).part ≡ read 0x00 ∷ wrote 0x00 0x4000_0000 ∷ read 0x30 ∷ []
unfolding turn_from
late_begins = refl

late_begun : (takes_up asked_late 0 (up.Value 0)).part.returning ≡ false
unfolding turn_from
late_begun = refl

-- ---- its end

-- what is open: two submissions, an abort and two target resets
abbrev cmds_open : List (ℕ × Cmd)
cmds_open = (3, record { smid = 2; handle = 0x0009 }) ∷ (8, record { smid = 1; handle = 0x0009 }) ∷ []

abbrev aborts_open : List (ℕ × ℕ)
aborts_open = (3, 257) ∷ []

abbrev much_open : Host
much_open =
    record (up_with 2) {
      cmds = map.from_sorted cmds_open;
      aborts = map.from_sorted aborts_open;
      pool =
          with_slot 1 (Open (request.Command 8)) (with_slot 2 (Open (request.Command 3)) (with_slot 257 (Open (request.Abort 3 2))
          (with_slot 258 (Open (request.TargetReset 5)) (with_slot 259 (Open (request.TargetReset 4)) all_free))));
    }

-- the host waits for READY, and has the mark of the queue above 0 or not
abbrev waits : Bool → Host
waits marked =
    record (resetting much_open) {
      stage = stage.UnitReset;
      reading = true;
      machine = Some (record { stage = Awaits (State MessageUnit); unsent = []; reply = [] });
      returning = false;
      marks = false ∷ marked ∷ [];
    }

-- READY without the mark: the host waits on
no_mark_yet : (takes_up (waits false) 0 (up.Value IOC_STATE_READY)).told ≡ []
unfolding turn_from
no_mark_yet = refl

no_mark_yet_mode : (takes_up (waits false) 0 (up.Value IOC_STATE_READY)).part.mode ≡ state.Resetting
unfolding turn_from
no_mark_yet_mode = refl

no_mark_yet_ready : (takes_up (waits false) 0 (up.Value IOC_STATE_READY)).part.door_ready ≡ true
unfolding turn_from
no_mark_yet_ready = refl

no_mark_yet_waits : host_waits (record host_up { mode = state.Resetting; marks = false ∷ false ∷ []; door_ready = true }) ≡ true
no_mark_yet_waits = refl

-- the mark without READY
no_ready_yet : (takes_up (waits false) 1 (up.Mark 0)).part.marks ≡ false ∷ true ∷ []
unfolding turn_from
no_ready_yet = refl

no_ready_yet_told : (takes_up (waits false) 1 (up.Mark 0)).told ≡ []
unfolding turn_from
no_ready_yet_told = refl

-- READY after the mark, and the mark after READY
abbrev all_told : List Entry
all_told =
    entry.Answer 3 outcome.Reset ∷ entry.Answer 8 outcome.Reset ∷ entry.AbortEnd 3 abort.Reset
    ∷ entry.TargetEnd 5 target.Reset ∷ entry.TargetEnd 4 target.Reset ∷ entry.ResetDone ∷ []

done : (takes_up (waits true) 0 (up.Value IOC_STATE_READY)).told ≡ all_told
unfolding turn_from ioc_facts_layout ioc_facts_values
done = simp (entries-from_sorted nat_cmp cmds_open tt, entries-from_sorted nat_cmp aborts_open tt) refl

done_by_mark : (takes_up (record (waits false) { reading = false; machine = None; door_ready = true }) 1 (up.Mark 0)).told ≡ all_told
unfolding turn_from ioc_facts_layout ioc_facts_values
done_by_mark = simp (entries-from_sorted nat_cmp cmds_open tt, entries-from_sorted nat_cmp aborts_open tt) refl

abbrev after : Host
after = (takes_up (waits true) 0 (up.Value IOC_STATE_READY)).part

-- the start goes on with IOC Facts
done_mode : after.mode ≡ state.Starting
unfolding turn_from ioc_facts_layout ioc_facts_values
done_mode = refl

done_puts : puts_of after ≡ read 0x00 ∷ []
unfolding turn_from ioc_facts_layout ioc_facts_values
done_puts = refl

done_stage : after.stage ≡ stage.Facts
unfolding turn_from ioc_facts_layout ioc_facts_values
done_stage = refl

done_pool : after.pool ≡ all_free
unfolding turn_from ioc_facts_layout ioc_facts_values
done_pool = refl

done_phase : phase_at after.phases 0x0009 ≡ phase.Absent
unfolding turn_from ioc_facts_layout ioc_facts_values
done_phase = refl

done_frame : slice_index_or after.frames 0 Away ≡ Held
unfolding turn_from ioc_facts_layout ioc_facts_values
done_frame = refl

done_returning : after.returning ≡ true
unfolding turn_from ioc_facts_layout ioc_facts_values
done_returning = refl

-- with one queue READY alone ends it
done_without_marks : (takes_up (record (waits false) { marks = false ∷ []; indices = 0 ∷ [] }) 0 (up.Value IOC_STATE_READY)).part.mode ≡ state.Starting
unfolding turn_from ioc_facts_layout ioc_facts_values
done_without_marks = refl
