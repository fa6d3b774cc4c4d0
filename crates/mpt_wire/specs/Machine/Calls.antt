-- Calls and their refusals as entries of a trace.
use Rattle.std.specs.Prelude.{ℕ, ◌==◌, ◌&&◌, Bool, true, false, if◌then◌else◌, Option, Some, None}
use Rattle.mpt_trace.specs.declared.input.Input.{Input}
use Rattle.mpt_trace.specs.declared.input.Input.TheVariants as input
use Rattle.mpt_trace.specs.declared.refusal.RefusedCall.{RefusedCall}
use Rattle.mpt_trace.specs.declared.refusal.RefusedCall.TheVariants as call
use Rattle.mpt_trace.specs.declared.entry.Entry.{Entry}
use Rattle.mpt_trace.specs.declared.entry.Entry.TheVariants as entry
use Rattle.mpt_trace.specs.Command.{command_named}
use Rattle.mpt_wire.specs.Machine.Causes.{Call, Start, Submit, Abort, TargetReset, Reset, UnitReset, Plug, Unplug}

-- the call that an input makes
abbrev pub call_of : Input → Call
call_of input.Start = Start
call_of (input.Submit n a form) = Submit n a (command_named form)
call_of (input.Abort n) = Abort n
call_of (input.TargetReset a) = TargetReset a
call_of input.Reset = Reset
call_of input.UnitReset = UnitReset
call_of (input.Plug a expander phy) = Plug a (record { expander = expander; phy = phy })
call_of (input.Unplug a) = Unplug a

-- a refusal that says this is one of the call
abbrev pub is_of_call : Call → RefusedCall → Bool
is_of_call Start call.Start = true
is_of_call (Abort n) (call.Abort k) = k == n
is_of_call (TargetReset a) (call.TargetReset b) = b == a
is_of_call Reset call.Reset = true
is_of_call UnitReset call.UnitReset = true
is_of_call (Plug a place) (call.Plug b) = b == a
is_of_call (Unplug a) (call.Unplug b) = b == a
is_of_call _ _ = false

-- the entry, if there is one, is a refusal of the call
abbrev pub is_call_refused : Call → Option Entry → Bool
is_call_refused c (Some (entry.Refuse call cause)) = is_of_call c call
is_call_refused c _ = false

-- the entry, if there is one, accepts the submission or refuses it
abbrev pub is_call_answered : ℕ → Option Entry → Bool
is_call_answered n (Some (entry.Accept k a s)) = k == n
is_call_answered n (Some (entry.RefuseSubmit k cause)) = k == n
is_call_answered n _ = false

-- the submission that an entry of its number and address accepts: the last that was said
abbrev pub submitted : Option Call → ℕ → ℕ → Option Call
submitted (Some (Submit k b command)) n a = if k == n && b == a then Some (Submit k b command) else None
submitted _ n a = None

-- the submission that an entry of its number refuses
abbrev pub refused_submit : Option Call → ℕ → Option Call
refused_submit (Some (Submit k b command)) n = if k == n then Some (Submit k b command) else None
refused_submit _ n = None

-- the plug that an entry of its address refuses
abbrev pub refused_plug_call : Option Call → ℕ → Option Call
refused_plug_call (Some (Plug b place)) a = if b == a then Some (Plug b place) else None
refused_plug_call _ a = None

-- the call that a refusal names, given the last call of the fabric
abbrev pub refused_call : Option Call → RefusedCall → Option Call
refused_call last call.Start = Some Start
refused_call last call.Reset = Some Reset
refused_call last call.UnitReset = Some UnitReset
refused_call last (call.Abort n) = Some (Abort n)
refused_call last (call.TargetReset a) = Some (TargetReset a)
refused_call last (call.Plug a) = refused_plug_call last a
refused_call last (call.Unplug a) = Some (Unplug a)
