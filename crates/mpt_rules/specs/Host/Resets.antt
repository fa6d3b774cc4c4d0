-- A reset that was asked: how it begins, its marks, and its end.
use Rattle.std.specs.Prelude.{ℕ, ◌+◌, ◌%◌, ◌^◌, Bool, true, false, ◌&&◌, List, [], ◌∷◌, ◌++◌, drop, replicate, slice_set, Option, Some, None, if◌then◌else◌}
use Rattle.std.specs.Prelude.{map as each}
use Rattle.std.specs.List.{filter, filter_map, list_all}
use Rattle.std.specs.FinMap as map
use Rattle.mpi_doorbell.specs.HostDoor.{HostDoor}
use Rattle.mpi_doorbell.specs.HostSteps.{diagnostic_reset, unit_reset}
use Rattle.removal.specs.Handles.{all_absent}
use Rattle.smid_pool.specs.Pool.{Slot, Open, all_free}
use Rattle.mpt_trace.specs.declared.item.Down.{Down}
use Rattle.mpt_trace.specs.declared.item.Down.TheVariants as down
use Rattle.mpt_trace.specs.declared.entry.Entry.{Entry}
use Rattle.mpt_trace.specs.declared.entry.Entry.TheVariants as entry
use Rattle.mpt_trace.specs.declared.host_state.HostState.TheVariants as state
use Rattle.mpt_trace.specs.declared.outcome.Outcome.TheVariants as outcome
use Rattle.mpt_trace.specs.declared.outcome.AbortOutcome.TheVariants as abort
use Rattle.mpt_trace.specs.declared.outcome.TargetOutcome.TheVariants as target
use Rattle.mpt_rules.specs.declared.host_frame.HostFrame.TheVariants.{Held}
use Rattle.mpt_rules.specs.declared.request.Request.{Request}
use Rattle.mpt_rules.specs.declared.request.Request.TheVariants as request
use Rattle.mpt_rules.specs.declared.stage.Stage.{Stage}
use Rattle.mpt_rules.specs.declared.stage.Stage.TheVariants as stage
use Rattle.mpt_rules.specs.Outcome.{Happening}
use Rattle.mpt_rules.specs.Host.Parts.{Host, host_queue_count}
use Rattle.mpt_rules.specs.Host.Doorbell.{begins, begins_facts}
use Rattle.mpt_rules.specs.Host.Returns.{reply_frame_count}

-- ---- it is asked

-- the item isn't a post
abbrev pub is_no_post : Down → Bool
is_no_post (down.Post descriptor frame payload) = false
is_no_post (down.Write reg value) = true
is_no_post (down.Read reg) = true
is_no_post (down.Return address index) = true
is_no_post down.Stop = true

-- no mark was taken yet
abbrev pub marks_not_taken : Host → List Bool
marks_not_taken host = replicate (host_queue_count host) false

-- the posts leave the outbox, nothing waits for an identifier any more, and the machine is given up
abbrev pub gives_up : Host → Stage → Host
gives_up host stage =
    record host {
      mode = state.Resetting;
      out = filter is_no_post host.out;
      wait_high = [];
      wait_internal = [];
      machine = None;
      stage = stage;
      asked = (host.asked + 1) % 2 ^ 32;
      door_ready = false;
      marks = marks_not_taken host;
    }

-- it begins at once, or where a read is outstanding as its value comes
abbrev pub with_reset_asked : Host → Stage → HostDoor → Host
with_reset_asked host stage door = if host.reading then gives_up host stage else begins (gives_up host stage) stage door

-- the value came that was outstanding as the reset was asked: it is dropped, and the reset begins
abbrev pub begins_late : Host → Stage → Host
begins_late host stage.DiagnosticReset = begins host stage.DiagnosticReset diagnostic_reset
begins_late host stage.UnitReset = begins host stage.UnitReset unit_reset
begins_late host stage.Idle = host
begins_late host stage.Start = host
begins_late host stage.StartReset = host
begins_late host stage.Facts = host
begins_late host stage.PortFacts = host
begins_late host stage.Init = host
begins_late host stage.Look = host

-- ---- it is done

-- a mark comes on each queue above 0
abbrev pub has_all_marks : Host → Bool
has_all_marks host = list_all (λ taken. taken) (drop 1 host.marks)

-- what was open is answered: the submissions and the aborts by rising number, the target resets by rising identifier

-- a submission
abbrev pub reset_answer : ℕ → Entry
reset_answer n = entry.Answer n outcome.Reset

-- an abort
abbrev pub reset_abort : ℕ → Entry
reset_abort n = entry.AbortEnd n abort.Reset

-- a target reset that was asked from outside
abbrev pub reset_target : Slot Request → Option Entry
reset_target (Open (request.TargetReset address)) = Some (entry.TargetEnd address target.Reset)
reset_target slot = None

-- all of them, and that the reset is done
abbrev pub reset_told : Host → List Entry
reset_told host =
    each reset_answer (map.keys host.cmds)
    ++ (each reset_abort (map.keys host.aborts)
    ++ (filter_map reset_target host.pool
    ++ entry.ResetDone ∷ []))

-- all identifiers are free, all frames are the host's, and no disk has a handle; the numbers that were accepted stay
abbrev pub renewed : Host → Host
renewed host =
    record host {
      mode = state.Starting;
      pool = all_free;
      cmds = map.empty;
      aborts = map.empty;
      phases = all_absent;
      frames = replicate reply_frame_count Held;
      returning = true;
      door_ready = false;
    }

-- the reset is told as done, and the start goes on with IOC Facts
abbrev pub ends_reset : Host → Happening Host
ends_reset host = record { part = begins_facts (renewed host); entries = reset_told host }

-- it is done once the Doorbell has read READY and all marks were taken
abbrev pub ends_reset_if_over : Host → Happening Host
ends_reset_if_over host = if host.door_ready && has_all_marks host then ends_reset host else record { part = host; entries = [] }

-- the Doorbell has read READY
abbrev pub hears_ready : Host → Happening Host
hears_ready host = ends_reset_if_over (record host { door_ready = true })

-- the mark of a queue was taken
abbrev pub hears_mark : Host → ℕ → Happening Host
hears_mark host queue = ends_reset_if_over (record host { marks = slice_set host.marks queue true })
