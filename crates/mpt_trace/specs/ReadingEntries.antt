-- Entries read back, by their words.
use Rattle.std.specs.Prelude.{ℕ, ◌^◌, ◌<◌, ◌-◌, if◌then◌else◌, Option, Some, None, option_map, List, [], ◌∷◌, codes, length, take}
use Rattle.mpt_trace.specs.declared.entry.Entry.{Entry}
use Rattle.mpt_trace.specs.declared.entry.Entry.TheVariants as entry
use Rattle.mpt_trace.specs.declared.item.Item.{Item}
use Rattle.mpt_trace.specs.declared.lane.LaneName.{LaneName}
use Rattle.mpt_trace.specs.declared.outcome.Outcome.{Outcome}
use Rattle.mpt_trace.specs.declared.outcome.AbortOutcome.{AbortOutcome}
use Rattle.mpt_trace.specs.declared.outcome.AbortOutcome.TheVariants as abort
use Rattle.mpt_trace.specs.declared.outcome.TargetOutcome.{TargetOutcome}
use Rattle.mpt_trace.specs.declared.outcome.TargetOutcome.TheVariants as target
use Rattle.mpt_trace.specs.declared.refusal.Refusal.{Refusal}
use Rattle.mpt_trace.specs.declared.refusal.RefusedCall.{RefusedCall}
use Rattle.mpt_trace.specs.declared.refusal.RefusedCall.TheVariants as call
use Rattle.mpt_trace.specs.Reading.{IsNumber, hexadecimal, is_word, number, words}
use Rattle.mpt_trace.specs.ReadingSchedule.{IsChoice, IsInput, choice_in, input_in}
use Rattle.mpt_trace.specs.ReadingItems.{IsItem, IsLane, IsOfLane, IsOutcome, answer_in, cause_in, moved_in, refused_in}

abbrev pub bind_in : List (List ℕ) → Option Entry
bind_in (h ∷ a ∷ p ∷ []) = Some (entry.Bind (hexadecimal 2 h) (hexadecimal 8 a) (number p))
bind_in _ = None

abbrev pub unbind_in : List (List ℕ) → Option Entry
unbind_in (h ∷ []) = if is_word h (codes "all") then Some entry.UnbindAll else Some (entry.Unbind (hexadecimal 2 h))
unbind_in _ = None

abbrev pub run_in : List (List ℕ) → Option Entry
run_in (a ∷ t ∷ []) = Some (entry.Run (hexadecimal 8 a) (number t))
run_in _ = None

abbrev pub up_told_in : List (List ℕ) → Option Entry
up_told_in [] = Some entry.HostUp
up_told_in _ = None

-- an address and a handle
abbrev pub device_in : (ℕ → ℕ → Entry) → List (List ℕ) → Option Entry
device_in told (a ∷ h ∷ []) = Some (told (hexadecimal 8 a) (hexadecimal 2 h))
device_in told _ = None

abbrev pub accept_in : List (List ℕ) → Option Entry
accept_in (n ∷ a ∷ s ∷ []) = Some (entry.Accept (number n) (hexadecimal 8 a) (number s))
accept_in _ = None

-- an address and a cause
abbrev pub refused_at_in : List (List ℕ) → Option (ℕ × Refusal)
refused_at_in [] = None
refused_at_in (a ∷ rest) = option_map (λ cause. (hexadecimal 8 a, cause)) (cause_in rest)

abbrev pub refuse_in : List (List ℕ) → Option Entry
refuse_in [] = None
refuse_in (w ∷ rest) =
    if is_word w (codes "submit") then option_map (λ (p : ℕ × Refusal). entry.RefuseSubmit p.0 p.1) (refused_in rest)
    else (if is_word w (codes "start") then option_map (entry.Refuse call.Start) (cause_in rest)
    else (if is_word w (codes "reset") then option_map (entry.Refuse call.Reset) (cause_in rest)
    else (if is_word w (codes "unit") then option_map (entry.Refuse call.UnitReset) (cause_in rest)
    else (if is_word w (codes "abort") then option_map (λ (p : ℕ × Refusal). entry.Refuse (call.Abort p.0) p.1) (refused_in rest)
    else (if is_word w (codes "treset") then option_map (λ (p : ℕ × Refusal). entry.Refuse (call.TargetReset p.0) p.1) (refused_at_in rest)
    else (if is_word w (codes "plug") then option_map (λ (p : ℕ × Refusal). entry.Refuse (call.Plug p.0) p.1) (refused_at_in rest)
    else (if is_word w (codes "unplug") then option_map (λ (p : ℕ × Refusal). entry.Refuse (call.Unplug p.0) p.1) (refused_at_in rest) else None)))))))

abbrev pub abort_outcome_in : List (List ℕ) → Option AbortOutcome
abort_outcome_in (w ∷ []) =
    if is_word w (codes "stopped") then Some abort.Stopped
    else (if is_word w (codes "not-found") then Some abort.NotFound
    else (if is_word w (codes "reset") then Some abort.Reset else None))
abort_outcome_in _ = None

abbrev pub abort_end_in : List (List ℕ) → Option Entry
abort_end_in [] = None
abort_end_in (n ∷ rest) = option_map (entry.AbortEnd (number n)) (abort_outcome_in rest)

abbrev pub target_outcome_in : List (List ℕ) → Option TargetOutcome
target_outcome_in (w ∷ []) = if is_word w (codes "reset") then Some target.Reset else None
target_outcome_in (w ∷ a ∷ []) = if is_word w (codes "done") then Some (target.Done (number a)) else None
target_outcome_in _ = None

abbrev pub target_end_in : List (List ℕ) → Option Entry
target_end_in [] = None
target_end_in (a ∷ rest) = option_map (entry.TargetEnd (hexadecimal 8 a)) (target_outcome_in rest)

abbrev pub reset_told_in : List (List ℕ) → Option Entry
reset_told_in (w ∷ []) = if is_word w (codes "done") then Some entry.ResetDone else None
reset_told_in _ = None

-- an entry
abbrev pub entry_in : List (List ℕ) → Option Entry
entry_in [] = None
entry_in (w ∷ rest) =
    if is_word w (codes "in") then option_map entry.Given (input_in rest)
    else (if is_word w (codes "idle") then option_map entry.Idle (choice_in rest)
    else (if is_word w (codes "put") then option_map (λ (p : LaneName × Item). entry.Put p.0 p.1) (moved_in rest)
    else (if is_word w (codes "take") then option_map (λ (p : LaneName × Item). entry.Take p.0 p.1) (moved_in rest)
    else (if is_word w (codes "bind") then bind_in rest
    else (if is_word w (codes "unbind") then unbind_in rest
    else (if is_word w (codes "run") then run_in rest
    else (if is_word w (codes "up") then up_told_in rest
    else (if is_word w (codes "ready") then device_in entry.Ready rest
    else (if is_word w (codes "lost") then device_in entry.Lost rest
    else (if is_word w (codes "accept") then accept_in rest
    else (if is_word w (codes "refuse") then refuse_in rest
    else (if is_word w (codes "answer") then option_map (λ (p : ℕ × Outcome). entry.Answer p.0 p.1) (answer_in rest)
    else (if is_word w (codes "abort") then abort_end_in rest
    else (if is_word w (codes "treset") then target_end_in rest
    else (if is_word w (codes "reset") then reset_told_in rest else None)))))))))))))))

-- the entry of a line, whose last byte is its end
abbrev pub entry_read : List ℕ → Option Entry
entry_read line = entry_in (words (take (length line - 1) line))

-- ---- what words can say

abbrev pub IsCall : RefusedCall → Type 0
IsCall (call.Abort n) = IsNumber n
IsCall (call.TargetReset address) = address < 256 ^ 8
IsCall (call.Plug address) = address < 256 ^ 8
IsCall (call.Unplug address) = address < 256 ^ 8
IsCall _ = Unit {0}

abbrev pub IsTargetOutcome : TargetOutcome → Type 0
IsTargetOutcome (target.Done count) = IsNumber count
IsTargetOutcome target.Reset = Unit {0}

-- an entry whose item, if it has one, is of its lane's kind, and whose numbers fit their words
abbrev pub IsEntry : Entry → Type 0
IsEntry (entry.Given input) = IsInput input
IsEntry (entry.Idle choice) = IsChoice choice
IsEntry (entry.Put lane item) = IsOfLane lane item × IsLane lane × IsItem item
IsEntry (entry.Take lane item) = IsOfLane lane item × IsLane lane × IsItem item
IsEntry (entry.Bind handle address plug) = (handle < 256 ^ 2) × (address < 256 ^ 8) × IsNumber plug
IsEntry (entry.Unbind handle) = handle < 256 ^ 2
IsEntry entry.UnbindAll = Unit {0}
IsEntry (entry.Run address tag) = (address < 256 ^ 8) × IsNumber tag
IsEntry entry.HostUp = Unit {0}
IsEntry (entry.Ready address handle) = (address < 256 ^ 8) × (handle < 256 ^ 2)
IsEntry (entry.Lost address handle) = (address < 256 ^ 8) × (handle < 256 ^ 2)
IsEntry (entry.Accept n address smid) = IsNumber n × (address < 256 ^ 8) × IsNumber smid
IsEntry (entry.RefuseSubmit n cause) = IsNumber n
IsEntry (entry.Refuse call cause) = IsCall call
IsEntry (entry.Answer n outcome) = IsNumber n × IsOutcome outcome
IsEntry (entry.AbortEnd n outcome) = IsNumber n
IsEntry (entry.TargetEnd address outcome) = (address < 256 ^ 8) × IsTargetOutcome outcome
IsEntry entry.ResetDone = Unit {0}

-- an entry whose item, if it has one, is of its lane's kind
abbrev pub MovesItsKind : Entry → Type 0
MovesItsKind (entry.Put lane item) = IsOfLane lane item
MovesItsKind (entry.Take lane item) = IsOfLane lane item
MovesItsKind _ = Unit {0}
