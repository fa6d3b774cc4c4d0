-- What the host tells of an item that it takes: answers, that it is up, that a disk is ready or lost, and the end of a reset as the last.
use Rattle.std.proofs.Common.{◌≡◌, ℕ, Bool, true, false, ◌&&◌, if◌then◌else◌, List, [], ◌∷◌, ◌++◌, map, filter_map, slice_set, take, Option, Some, None, refl, sym, ap, ◌∙◌, arith, append_assoc}
use Rattle.std.specs.FinMap as finmap
use Rattle.mpi_doorbell.specs.HostDoor.{HostDoor}
use Rattle.mpi_doorbell.specs.declared.step.DoorStep.{DoorStep}
use Rattle.mpi_doorbell.specs.declared.step.DoorStep.TheVariants as step
use Rattle.smid_pool.specs.Pool.{Slot, Free, Open, Parked}
use Rattle.removal.specs.declared.phase.Phase.{Phase}
use Rattle.removal.specs.declared.phase.Phase.TheVariants as phase
use Rattle.removal.specs.Handles.{phase_at}
use Rattle.mpt_wire.specs.Messages.Fields.{Change, smid_in}
use Rattle.mpt_trace.specs.declared.entry.Entry.{Entry}
use Rattle.mpt_trace.specs.declared.entry.Entry.TheVariants as entry
use Rattle.mpt_trace.specs.declared.item.Up.{Up}
use Rattle.mpt_trace.specs.declared.item.Up.TheVariants as upward
use Rattle.mpt_wire.specs.Walks.Passes.{EachEntry}
use Rattle.mpt_rules.specs.declared.request.Request.{Request}
use Rattle.mpt_rules.specs.declared.request.Request.TheVariants as request
use Rattle.mpt_rules.specs.declared.stage.Stage.{Stage}
use Rattle.mpt_rules.specs.declared.stage.Stage.TheVariants as stage
use Rattle.mpt_rules.specs.Outcome.{Happening}
use Rattle.mpt_rules.specs.Host.Takes.{hears_up}
use Rattle.mpt_rules.specs.Host.Parts.{Host}
use Rattle.mpt_rules.specs.Host.Doorbell.{puts_turn, next_turn}
use Rattle.mpt_rules.specs.Host.Removal.{hears_change, hears_changes, hears_event, after_handle_lost, quietly, ready_told}
use Rattle.mpt_rules.specs.Host.Replies.{Heard, hears_answer, heard_of, hears_reply_to, reply_bytes, request_of, takes_entry, with_frame_heard, unless_resetting}
use Rattle.mpt_rules.specs.Host.Resets.{ends_reset, ends_reset_if_over, has_all_marks, reset_answer, reset_abort, reset_target, reset_told}
use Rattle.mpt_rules.specs.Host.Values.{after_turn, ends_stage, hears_value_at}
use Rattle.mpt_wire.specs.Machine.Causes.{is_resetting}

-- neither an input nor a move, nor the controller's, nor the end of a reset
abbrev pub IsHostWord : Entry → Type 0
IsHostWord entry.HostUp = Unit {0}
IsHostWord (entry.Ready address handle) = Unit {0}
IsHostWord (entry.Lost address handle) = Unit {0}
IsHostWord (entry.Answer n how) = Unit {0}
IsHostWord (entry.AbortEnd n how) = Unit {0}
IsHostWord (entry.TargetEnd address how) = Unit {0}
IsHostWord _ = ⊥

word_append : (t u : List Entry) → EachEntry IsHostWord t → EachEntry IsHostWord u → EachEntry IsHostWord (t ++ u)
word_append [] u a b = b
word_append (e ∷ t) u a b = (a.0, word_append t u a.1 b)

-- ---- events

word_loses : (host : Host) (h : ℕ) (p : Phase) → EachEntry IsHostWord (after_handle_lost host h p).entries
word_loses host h phase.WaitRead = tt
word_loses host h (phase.Reading smid) = tt
word_loses host h (phase.Ready address) = (tt, tt)
word_loses host h phase.Absent = tt
word_loses host h phase.WaitHigh = tt
word_loses host h (phase.Resetting smid) = tt
word_loses host h phase.WaitInternal = tt
word_loses host h (phase.Removing smid) = tt

word_change : (host : Host) (c : Change) → EachEntry IsHostWord (hears_change host c).entries
word_change host c = let l = word_loses host c.handle (phase_at host.phases c.handle) in grind (arith, l)

word_changes : (host : Host) (cs : List Change) → EachEntry IsHostWord (hears_changes host cs).entries
unfolding hears_changes
word_changes host [] = tt
word_changes host (c ∷ cs) = word_append _ _ (word_change host c) (word_changes (hears_change host c).part cs)

-- ---- replies

word_ready : (h smid : ℕ) (p : Phase) (page : Option ℕ) → EachEntry IsHostWord (ready_told h smid p page)
word_ready h smid p page = grind arith

word_unless : (host : Host) (smid : ℕ) (o : Happening Host) → EachEntry IsHostWord o.entries → EachEntry IsHostWord (unless_resetting host smid o).entries
word_unless host smid o t = grind (arith, t)

word_answer : (host : Host) (smid : ℕ) (r : Request) (reply : Heard) → EachEntry IsHostWord (hears_answer host smid r reply).entries
word_answer host smid (request.Command n) reply = (tt, tt)
word_answer host smid (request.Abort n task) reply = (tt, tt)
word_answer host smid (request.TargetReset address) reply = (tt, tt)
word_answer host smid (request.Leave handle) reply = word_unless host smid _ tt
word_answer host smid (request.Page handle) reply = word_unless host smid _ (word_ready handle smid (phase_at host.phases handle) _)
word_answer host smid (request.Remove handle) reply = word_unless host smid _ tt
word_answer host smid (request.Ack event context) reply = word_unless host smid _ tt
word_answer host smid request.Notification reply = word_unless host smid _ tt
word_answer host smid request.PortEnable reply = word_unless host smid _ (tt, tt)

pub word_reply_to : (host : Host) (smid : ℕ) (r : Option Request) (reply : Heard) → EachEntry IsHostWord (hears_reply_to host smid r reply).entries
word_reply_to host smid None reply = by_mode (is_resetting host.mode)
  where
    by_mode : (b : Bool) → EachEntry IsHostWord (if b then quietly host else hears_event host (reply_bytes reply)).entries
    by_mode true = tt
    by_mode false = word_changes _ _
word_reply_to host smid (Some r) reply = word_answer host smid r reply

-- ---- the end of a reset

word_each : (f : ℕ → Entry) → ((n : ℕ) → IsHostWord (f n)) → (ns : List ℕ) → EachEntry IsHostWord (map f ns)
word_each f h [] = tt
word_each f h (n ∷ ns) = (h n, word_each f h ns)

word_targets : (xs : List (Slot Request)) → EachEntry IsHostWord (filter_map reset_target xs)
word_targets [] = tt
word_targets (Free ∷ xs) = word_targets xs
word_targets (Parked ∷ xs) = word_targets xs
word_targets (Open (request.Command n) ∷ xs) = word_targets xs
word_targets (Open (request.Abort n task) ∷ xs) = word_targets xs
word_targets (Open (request.TargetReset address) ∷ xs) = (tt, word_targets xs)
word_targets (Open (request.Leave handle) ∷ xs) = word_targets xs
word_targets (Open (request.Page handle) ∷ xs) = word_targets xs
word_targets (Open (request.Remove handle) ∷ xs) = word_targets xs
word_targets (Open (request.Ack event context) ∷ xs) = word_targets xs
word_targets (Open request.Notification ∷ xs) = word_targets xs
word_targets (Open request.PortEnable ∷ xs) = word_targets xs

-- words, and as the last the end of a reset
pub data HostTells (t : List Entry) : Type 0 where
  Words : EachEntry IsHostWord t → HostTells t
  EndsIt : (told : List Entry) → EachEntry IsHostWord told → t ≡ told ++ entry.ResetDone ∷ [] → HostTells t

-- whether a reset ends
abbrev pub ends_in : {t : List Entry} → HostTells t → Bool
ends_in (Words w) = false
ends_in (EndsIt told w e) = true

pub reset_words : (host : Host) → HostTells (reset_told host)
reset_words host =
    let a = word_each reset_answer (λ n. tt) (finmap.keys host.cmds) in
    let b = word_each reset_abort (λ n. tt) (finmap.keys host.aborts) in
    let c = word_targets host.pool in
    EndsIt (map reset_answer (finmap.keys host.cmds) ++ (map reset_abort (finmap.keys host.aborts) ++ filter_map reset_target host.pool))
    (word_append _ _ a (word_append _ _ b c))
    (sym (append_assoc (map reset_answer (finmap.keys host.cmds)) (map reset_abort (finmap.keys host.aborts) ++ filter_map reset_target host.pool) (entry.ResetDone ∷ [])
    ∙ ap (λ v. map reset_answer (finmap.keys host.cmds) ++ v) (append_assoc (map reset_abort (finmap.keys host.aborts)) (filter_map reset_target host.pool) (entry.ResetDone ∷ []))))

over : (host : Host) → HostTells (ends_reset_if_over host).entries
over host = by_end (host.door_ready && has_all_marks host)
  where
    by_end : (b : Bool) → HostTells (if b then ends_reset host else record { part = host; entries = [] }).entries
    by_end true = reset_words host
    by_end false = Words tt

of_stage : (host : Host) (s : Stage) (bytes : List ℕ) → HostTells (ends_stage host s bytes).entries
of_stage host stage.Idle bytes = Words tt
of_stage host stage.Start bytes = Words tt
of_stage host stage.StartReset bytes = Words tt
of_stage host stage.Facts bytes = Words tt
of_stage host stage.PortFacts bytes = Words tt
of_stage host stage.Init bytes = Words tt
of_stage host stage.Look bytes = Words tt
of_stage host stage.DiagnosticReset bytes = over (record host { door_ready = true })
of_stage host stage.UnitReset bytes = over (record host { door_ready = true })

of_turn : (host : Host) (s : Stage) (x : DoorStep) → HostTells (after_turn host s x).entries
of_turn host s (step.Done count bytes) = of_stage host s (take count bytes)
of_turn host s (step.Read reg) = Words tt
of_turn host s (step.Write reg value) = Words tt
of_turn host s (step.Refused at value) = Words tt

of_value : (host : Host) (door : Option HostDoor) (value : ℕ) → HostTells (hears_value_at host door value).entries
of_value host None value = Words tt
of_value host (Some door) value = of_turn (puts_turn host (next_turn door (Some value))) host.stage (next_turn door (Some value)).step

pub host_tells : (host : Host) (queue : ℕ) (x : Up) → HostTells (hears_up host queue x).entries
host_tells host queue (upward.Value value) = of_value (record host { reading = false }) host.machine value
host_tells host queue (upward.Reply d f page sense) = Words (word_reply_to (takes_entry (with_frame_heard host d f) queue) (smid_in d) (request_of host (smid_in d)) (heard_of d f page sense))
host_tells host queue (upward.Mark generation) = over (record host { marks = slice_set host.marks queue true })
host_tells host queue upward.Calm = Words tt
