-- The lines of a trace.
use Rattle.std.specs.Prelude.{ℕ, Bool, true, false, List, ◌++◌, codes, decimal}
use Rattle.std.specs.List.{flat_map}
use Rattle.mpt_trace.specs.declared.entry.Entry.{Entry}
use Rattle.mpt_trace.specs.declared.entry.Entry.TheVariants as entry
use Rattle.mpt_trace.specs.declared.outcome.AbortOutcome.{AbortOutcome}
use Rattle.mpt_trace.specs.declared.outcome.AbortOutcome.TheVariants as abort
use Rattle.mpt_trace.specs.declared.outcome.TargetOutcome.{TargetOutcome}
use Rattle.mpt_trace.specs.declared.outcome.TargetOutcome.TheVariants as target
use Rattle.mpt_trace.specs.declared.refusal.RefusedCall.{RefusedCall}
use Rattle.mpt_trace.specs.declared.refusal.RefusedCall.TheVariants as call
use Rattle.mpt_trace.specs.Numbers.{address_text, handle_text, line_end}
use Rattle.mpt_trace.specs.Schedule.{choice_line, input_line}
use Rattle.mpt_trace.specs.Items.{answer_text, cause_text, item_text, lane_text, refuse_submit_text}

-- how an abort ended
abbrev pub abort_text : AbortOutcome → List ℕ
abort_text abort.Stopped = codes "stopped"
abort_text abort.NotFound = codes "not-found"
abort_text abort.Reset = codes "reset"

-- how a target reset ended
abbrev pub target_text : TargetOutcome → List ℕ
target_text (target.Done count) = codes "done " ++ decimal count
target_text target.Reset = codes "reset"

-- a refused call other than a submission
abbrev pub call_text : RefusedCall → List ℕ
call_text call.Start = codes "start"
call_text call.Reset = codes "reset"
call_text call.UnitReset = codes "unit"
call_text (call.Abort n) = codes "abort " ++ decimal n
call_text (call.TargetReset address) = codes "treset " ++ address_text address
call_text (call.Plug address) = codes "plug " ++ address_text address
call_text (call.Unplug address) = codes "unplug " ++ address_text address

-- an entry, without the end of its line
abbrev pub words_of_entry : Entry → List ℕ
words_of_entry (entry.Given input) = codes "in " ++ input_line input
words_of_entry (entry.Idle choice) = codes "idle " ++ choice_line choice
words_of_entry (entry.Put lane item) = codes "put " ++ lane_text lane ++ codes " " ++ item_text item
words_of_entry (entry.Take lane item) = codes "take " ++ lane_text lane ++ codes " " ++ item_text item
words_of_entry (entry.Bind handle address plug) = codes "bind " ++ handle_text handle ++ codes " " ++ address_text address ++ codes " " ++ decimal plug
words_of_entry (entry.Unbind handle) = codes "unbind " ++ handle_text handle
words_of_entry entry.UnbindAll = codes "unbind all"
words_of_entry (entry.Run address tag) = codes "run " ++ address_text address ++ codes " " ++ decimal tag
words_of_entry entry.HostUp = codes "up"
words_of_entry (entry.Ready address handle) = codes "ready " ++ address_text address ++ codes " " ++ handle_text handle
words_of_entry (entry.Lost address handle) = codes "lost " ++ address_text address ++ codes " " ++ handle_text handle
words_of_entry (entry.Accept n address smid) = codes "accept " ++ decimal n ++ codes " " ++ address_text address ++ codes " " ++ decimal smid
words_of_entry (entry.RefuseSubmit n cause) = refuse_submit_text n cause
words_of_entry (entry.Refuse call cause) = codes "refuse " ++ call_text call ++ codes " " ++ cause_text cause
words_of_entry (entry.Answer n outcome) = answer_text n outcome
words_of_entry (entry.AbortEnd n outcome) = codes "abort " ++ decimal n ++ codes " " ++ abort_text outcome
words_of_entry (entry.TargetEnd address outcome) = codes "treset " ++ address_text address ++ codes " " ++ target_text outcome
words_of_entry entry.ResetDone = codes "reset done"

-- an entry's line
abbrev pub entry_line : Entry → List ℕ
entry_line e = words_of_entry e ++ line_end

-- the lines of a trace
abbrev pub entry_lines : List Entry → List ℕ
entry_lines t = flat_map entry_line t

-- the entries that a short report shows: all but inputs, idle choices, puts and takes
abbrev pub is_in_show : Entry → Bool
is_in_show (entry.Given _) = false
is_in_show (entry.Idle _) = false
is_in_show (entry.Put _ _) = false
is_in_show (entry.Take _ _) = false
is_in_show _ = true
