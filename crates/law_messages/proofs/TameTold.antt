-- What is told opens and closes no request, but for an accept and the answer to a command.
use Rattle.std.proofs.Common.{◌≡◌, ℕ, Bool, true, false, if◌then◌else◌, List, [], ◌∷◌, Option, Some, None, Result, refl, arith}
use Rattle.mpi_doorbell.specs.declared.effect.Effect.{Effect}
use Rattle.mpi_doorbell.specs.declared.effect.Effect.TheVariants as effect
use Rattle.mpi_doorbell.specs.DoorRegisters.{register_written}
use Rattle.removal.specs.Handles.{phase_at}
use Rattle.removal.specs.declared.phase.Phase.{Phase}
use Rattle.removal.specs.declared.phase.Phase.TheVariants as phase
use Rattle.mpt_wire.specs.Machine.Causes.{is_resetting}
use Rattle.mpt_wire.specs.Messages.Fields.{Change}
use Rattle.mpt_wire.specs.Walks.Passes.{EachEntry}
use Rattle.mpt_trace.specs.declared.entry.Entry.{Entry}
use Rattle.mpt_trace.specs.declared.entry.Entry.TheVariants as entry
use Rattle.mpt_trace.specs.declared.host_state.HostState.{HostState}
use Rattle.mpt_trace.specs.declared.host_state.HostState.TheVariants as state
use Rattle.mpt_trace.specs.declared.input.Input.{Input}
use Rattle.mpt_trace.specs.declared.item.Back.{Back}
use Rattle.mpt_trace.specs.declared.item.Down.{Down}
use Rattle.mpt_trace.specs.declared.item.Down.TheVariants as down
use Rattle.mpt_trace.specs.declared.refusal.Refusal.{Refusal}
use Rattle.mpt_trace.specs.declared.refusal.RefusedCall.{RefusedCall}
use Rattle.mpt_rules.specs.declared.post.Post.{Post}
use Rattle.mpt_rules.specs.declared.request.Request.{Request}
use Rattle.mpt_rules.specs.declared.request.Request.TheVariants as request
use Rattle.mpt_rules.specs.Host.Inputs as inputs
use Rattle.mpt_rules.specs.Host.Parts.{Cmd, Host}
use Rattle.mpt_rules.specs.Host.Removal.{after_handle_lost, hears_change, hears_changes, hears_event, quietly, ready_told}
use Rattle.mpt_rules.specs.Host.Replies.{Heard, hears_answer, hears_reply_to, reply_bytes, unless_resetting}
use Rattle.mpt_rules.specs.Ioc.Parts.{Ioc}
use Rattle.mpt_rules.specs.Ioc.Registers.{after_effect}
use Rattle.mpt_rules.specs.Ioc.Steps as step
use Rattle.mpt_rules.specs.Ioc.Takes as adapter
use Rattle.mpt_rules.specs.Outcome.{Called, Happening}
use Rattle.mpt_rules.specs.World.Inputs.{by_option, by_result, refused_or}
use Rattle.mpt_rules.proofs.HostCalls.{aborts_by, resets_target_by}
use Rattle.law_moves.proofs.CasesTold.{IsPlugWord}
use Rattle.law_moves.proofs.IocWords.{IsIocWord, back_words, works_words}
use Rattle.law_messages.proofs.Requests.{IsTame, tame_append}

-- ---- the controller

word_tame : (e : Entry) → IsIocWord e → IsTame e
word_tame (entry.Bind handle address plug) w = tt
word_tame (entry.Unbind handle) w = tt
word_tame (entry.Accept n a s) w = absurd w
word_tame (entry.Answer n how) w = absurd w
word_tame (entry.Run a q) w = absurd w
word_tame _ w = tt

words_tame : (t : List Entry) → EachEntry IsIocWord t → EachEntry IsTame t
words_tame [] w = tt
words_tame (e ∷ t) w = (word_tame e w.0, words_tame t w.1)

pub works_tame : (i : Ioc) (p : Post) → EachEntry IsTame (step.works_on i p).entries
works_tame i p = words_tame (step.works_on i p).entries (works_words i p)

pub back_tame : (i : Ioc) (x : Back) → EachEntry IsTame (adapter.takes_back i x).entries
back_tame i x = words_tame (adapter.takes_back i x).entries (back_words i x)

effect_tame : (i : Ioc) (f : Effect) → EachEntry IsTame (after_effect i f).entries
effect_tame i effect.None = tt
effect_tame i (effect.Asked count bytes) = tt
effect_tame i effect.UnitReset = (tt, tt)
effect_tame i effect.AdapterReset = (tt, tt)
effect_tame i (effect.Fault code) = tt

pub down_tame : (i : Ioc) (x : Down) → EachEntry IsTame (adapter.takes_down i x).entries
down_tame i (down.Write reg value) = effect_tame (record i { door = (register_written i.door reg value).registers }) (register_written i.door reg value).effect
down_tame i (down.Read reg) = tt
down_tame i (down.Post d f p) = tt
down_tame i (down.Return address index) = tt
down_tame i down.Stop = tt

plug_tame : (e : Entry) → IsPlugWord e → IsTame e
plug_tame (entry.Given i) w = tt
plug_tame (entry.Refuse call cause) w = tt
plug_tame (entry.Accept n a s) w = absurd w
plug_tame (entry.Answer n how) w = absurd w
plug_tame (entry.Run a q) w = absurd w
plug_tame _ w = tt

pub plugs_tame : (t : List Entry) → EachEntry IsPlugWord t → EachEntry IsTame t
plugs_tame [] w = tt
plugs_tame (e ∷ t) w = (plug_tame e w.0, plugs_tame t w.1)

-- ---- events

loses : (host : Host) (h : ℕ) (p : Phase) → EachEntry IsTame (after_handle_lost host h p).entries
loses host h phase.WaitRead = tt
loses host h (phase.Reading smid) = tt
loses host h (phase.Ready address) = (tt, tt)
loses host h phase.Absent = tt
loses host h phase.WaitHigh = tt
loses host h (phase.Resetting smid) = tt
loses host h phase.WaitInternal = tt
loses host h (phase.Removing smid) = tt

change : (host : Host) (c : Change) → EachEntry IsTame (hears_change host c).entries
change host c = let l = loses host c.handle (phase_at host.phases c.handle) in grind (arith, l)

changes : (host : Host) (cs : List Change) → EachEntry IsTame (hears_changes host cs).entries
unfolding hears_changes
changes host [] = tt
changes host (c ∷ cs) = tame_append _ _ (change host c) (changes (hears_change host c).part cs)

-- ---- replies

ready : (h smid : ℕ) (p : Phase) (page : Option ℕ) → EachEntry IsTame (ready_told h smid p page)
ready h smid p page = grind arith

unless : (host : Host) (smid : ℕ) (o : Happening Host) → EachEntry IsTame o.entries → EachEntry IsTame (unless_resetting host smid o).entries
unless host smid o t = grind (arith, t)

abbrev pub is_command : Request → Bool
is_command (request.Command n) = true
is_command r = false

answer : (host : Host) (smid : ℕ) (r : Request) (v : Heard) → is_command r ≡ false → EachEntry IsTame (hears_answer host smid r v).entries
answer host smid (request.Command n) v e = absurd (cc)
answer host smid (request.Abort n task) v e = (tt, tt)
answer host smid (request.TargetReset address) v e = (tt, tt)
answer host smid (request.Leave handle) v e = unless host smid _ tt
answer host smid (request.Page handle) v e = unless host smid _ (ready handle smid (phase_at host.phases handle) _)
answer host smid (request.Remove handle) v e = unless host smid _ tt
answer host smid (request.Ack event context) v e = unless host smid _ tt
answer host smid request.Notification v e = unless host smid _ tt
answer host smid request.PortEnable v e = unless host smid _ (tt, tt)

-- one that isn't to a command
pub reply_tame : (host : Host) (smid : ℕ) (o : Option Request) (v : Heard) → ((r : Request) → o ≡ Some r → is_command r ≡ false) → EachEntry IsTame (hears_reply_to host smid o v).entries
reply_tame host smid None v n = by_mode (is_resetting host.mode)
  where
    by_mode : (b : Bool) → EachEntry IsTame (if b then quietly host else hears_event host (reply_bytes v)).entries
    by_mode true = tt
    by_mode false = changes _ _
reply_tame host smid (Some r) v n = answer host smid r v (n r refl)

-- ---- inputs

refused_tame : (refused : Refusal → Entry) (o : Option Refusal) (t : List Entry) → ((c : Refusal) → IsTame (refused c)) → EachEntry IsTame t → EachEntry IsTame (refused_or refused o t)
refused_tame refused None t f a = a
refused_tame refused (Some c) t f a = (f c, tt)

pub option_tame : (i : Input) (call : RefusedCall) (c : Called Host (Option Refusal)) → EachEntry IsTame c.told → EachEntry IsTame (by_option i call c).entries
option_tame i call c a = (tt, refused_tame (entry.Refuse call) c.answer c.told (λ x. tt) a)

pub result_tame : (i : Input) (refused : Refusal → Entry) (c : Called Host (Result ℕ Refusal)) → ((x : Refusal) → IsTame (refused x)) → EachEntry IsTame c.told → EachEntry IsTame (by_result i refused c).entries
result_tame i refused c f a = (tt, refused_tame refused (Rattle.mpt_rules.specs.World.Inputs.cause_of c.answer) c.told f a)

pub starts_tame : (host : Host) (m : HostState) → EachEntry IsTame (inputs.starts_in host m).told
starts_tame host state.Off = tt
starts_tame host state.Starting = tt
starts_tame host state.Up = tt
starts_tame host state.Resetting = tt

pub diag_tame : (host : Host) (m : HostState) → EachEntry IsTame (inputs.diag_resets_in host m).told
diag_tame host state.Off = tt
diag_tame host state.Starting = tt
diag_tame host state.Up = tt
diag_tame host state.Resetting = tt

pub unit_tame : (host : Host) (m : HostState) → EachEntry IsTame (inputs.unit_resets_in host m).told
unit_tame host state.Off = tt
unit_tame host state.Starting = tt
unit_tame host state.Up = tt
unit_tame host state.Resetting = tt

pub aborts_tame : (host : Host) (n : ℕ) (up : Bool) (c : Option Cmd) (there o : Option ℕ) → EachEntry IsTame (aborts_by host n up c there o).told
aborts_tame host n false c there o = tt
aborts_tame host n true None there o = tt
aborts_tame host n true (Some c) (Some x) o = tt
aborts_tame host n true (Some c) None None = tt
aborts_tame host n true (Some c) None (Some s) = tt

pub targets_tame : (host : Host) (address : ℕ) (up : Bool) (handle o : Option ℕ) → EachEntry IsTame (resets_target_by host address up handle o).told
targets_tame host address false handle o = tt
targets_tame host address true None o = tt
targets_tame host address true (Some x) None = tt
targets_tame host address true (Some x) (Some s) = tt
