-- What the host tells of an input: the input, and that it is accepted or refused.
use Rattle.std.proofs.Common.{ℕ, Bool, true, false, List, [], ◌∷◌, Option, Some, None, arith}
use Rattle.scsi_disk.specs.declared.command.Command.{Command}
use Rattle.mpt_trace.specs.declared.entry.Entry.{Entry}
use Rattle.mpt_trace.specs.declared.entry.Entry.TheVariants as entry
use Rattle.mpt_trace.specs.declared.host_state.HostState.{HostState}
use Rattle.mpt_trace.specs.declared.host_state.HostState.TheVariants as state
use Rattle.mpt_trace.specs.declared.input.Input.{Input}
use Rattle.mpt_trace.specs.declared.input.Input.TheVariants as input
use Rattle.mpt_trace.specs.declared.refusal.Refusal.{Refusal}
use Rattle.mpt_trace.specs.declared.refusal.RefusedCall.{RefusedCall}
use Rattle.mpt_wire.specs.Walks.Passes.{EachEntry}
use Rattle.mpt_rules.specs.Host.Parts.{Host}
use Rattle.mpt_rules.specs.Host.Inputs.{starts_in}
use Rattle.mpt_rules.proofs.HostCalls.{submits_by}
use Rattle.mpt_rules.specs.World.Inputs.{host_told}

abbrev pub IsInputWord : Entry → Type 0
IsInputWord (entry.Given i) = Unit {0}
IsInputWord (entry.Accept n address smid) = Unit {0}
IsInputWord (entry.RefuseSubmit n cause) = Unit {0}
IsInputWord (entry.Refuse call cause) = Unit {0}
IsInputWord _ = ⊥

-- what holds of each of the four kinds
pub any_of : (P : Entry → Type 0) → ((i : Input) → P (entry.Given i)) → ((n address smid : ℕ) → P (entry.Accept n address smid)) → ((n : ℕ) (c : Refusal) → P (entry.RefuseSubmit n c)) → ((r : RefusedCall) (c : Refusal) → P (entry.Refuse r c)) → (e : Entry) → IsInputWord e → P e
any_of P a b c d (entry.Given i) h = a i
any_of P a b c d (entry.Accept n address smid) h = b n address smid
any_of P a b c d (entry.RefuseSubmit n cause) h = c n cause
any_of P a b c d (entry.Refuse call cause) h = d call cause
any_of P a b c d (entry.Bind handle address plug) h = absurd h
any_of P a b c d (entry.Unbind handle) h = absurd h
any_of P a b c d entry.HostUp h = absurd h
any_of P a b c d (entry.Ready address handle) h = absurd h
any_of P a b c d (entry.Lost address handle) h = absurd h
any_of P a b c d (entry.Answer n how) h = absurd h
any_of P a b c d (entry.AbortEnd n how) h = absurd h
any_of P a b c d (entry.TargetEnd address how) h = absurd h
any_of P a b c d (entry.Idle x) h = absurd h
any_of P a b c d (entry.Put l i) h = absurd h
any_of P a b c d (entry.Take l i) h = absurd h
any_of P a b c d entry.UnbindAll h = absurd h
any_of P a b c d (entry.Run address tag) h = absurd h
any_of P a b c d entry.ResetDone h = absurd h

word_submit : (host : Host) (n address : ℕ) (command : Command) (i : Input) (f : Refusal → Entry) → ((c : Refusal) → IsInputWord (f c)) → (used mode : Bool) (handle : Option ℕ) (fits : Bool) (smid : Option ℕ) →
    EachEntry IsInputWord (Rattle.mpt_rules.specs.World.Inputs.by_result i f (submits_by host n address command used mode handle fits smid)).entries
word_submit host n address command i f h true mode handle fits smid = (tt, (h _, tt))
word_submit host n address command i f h false false handle fits smid = (tt, (h _, tt))
word_submit host n address command i f h false true None fits smid = (tt, (h _, tt))
word_submit host n address command i f h false true (Some x) false smid = (tt, (h _, tt))
word_submit host n address command i f h false true (Some x) true None = (tt, (h _, tt))
word_submit host n address command i f h false true (Some x) true (Some s) = (tt, (tt, tt))

pub input_words : (host : Host) (i : Input) → EachEntry IsInputWord (host_told host i).entries
input_words host input.Start = by_mode host.mode
  where
    by_mode : (m : HostState) → EachEntry IsInputWord (Rattle.mpt_rules.specs.World.Inputs.by_option input.Start Rattle.mpt_trace.specs.declared.refusal.RefusedCall.TheVariants.Start (starts_in host m)).entries
    by_mode state.Off = (tt, tt)
    by_mode state.Starting = (tt, (tt, tt))
    by_mode state.Up = (tt, (tt, tt))
    by_mode state.Resetting = (tt, (tt, tt))
input_words host (input.Submit n address form) = word_submit host n address (Rattle.mpt_trace.specs.Command.command_named form) (input.Submit n address form) (entry.RefuseSubmit n) (λ c. tt) _ _ _ _ _
input_words host (input.Abort n) = grind arith
input_words host (input.TargetReset address) = grind arith
input_words host input.Reset = grind arith
input_words host input.UnitReset = grind arith
input_words host (input.Plug address expander phy) = tt
input_words host (input.Unplug address) = tt
