-- Entries that leave what disks answered: all but an accept and a run.
use Rattle.std.proofs.Common.{◌≡◌, ℕ, ◌==◌, ◌&&◌, Bool, true, false, if◌then◌else◌, List, [], ◌∷◌, ◌++◌, Option, Some, None, refl, ap, ◌∙◌, sym, subst}
use Rattle.mpt_wire.specs.Machine.Calls.{call_of, is_call_answered, is_call_refused, refused_call, refused_submit}
use Rattle.mpt_wire.specs.Machine.Causes as calls
use Rattle.mpt_wire.specs.Machine.Causes.{Call}
use Rattle.mpt_wire.specs.Machine.SoFar.{SoFar}
use Rattle.mpt_wire.specs.Machine.State.{Machine}
use Rattle.mpt_wire.specs.Machine.Steps.{Fails, GetsReady, Grants, after_abort_end, after_all}
use Rattle.mpt_wire.specs.Machine.View.{Seen, given_steps, seen_next, step_if, steps_of}
use Rattle.mpt_wire.specs.Walks.Ahead.{next_own, state_ahead}
use Rattle.mpt_wire.specs.Walks.Passes.{EachEntry}
use Rattle.mpt_trace.specs.declared.entry.Entry.{Entry}
use Rattle.mpt_trace.specs.declared.entry.Entry.TheVariants as entry
use Rattle.mpt_trace.specs.declared.input.Input.{Input}
use Rattle.mpt_trace.specs.declared.input.Input.TheVariants as input
use Rattle.mpt_trace.specs.declared.outcome.AbortOutcome.{AbortOutcome}
use Rattle.mpt_trace.specs.declared.outcome.AbortOutcome.TheVariants as abort
use Rattle.mpt_rules.specs.Host.Parts.{Host}
use Rattle.mpt_rules.specs.Host.Takes.{hears_up}
use Rattle.mpt_trace.specs.declared.item.Up.{Up}
use Rattle.law_moves.proofs.CasesTold.{IsPlugWord}
use Rattle.law_moves.proofs.HostWords.{EndsIt, HostTells, IsHostWord, Words, host_tells}
use Rattle.law_machine.proofs.Silent.{IsSilent}
use Rattle.law_paths.proofs.Entries.{IsQuiet}
use Rattle.law_disks.proofs.Dry.{refuses}
use Rattle.law_disks.proofs.Takes.{take_leaves}
use Rattle.law_outcomes.proofs.Stages.{IsDull}

abbrev Same : Machine → Machine → Type 0
Same m o = o.outcome ≡ m.outcome

granted : (m : Machine) (c : Call) (b : Bool) → Same m (after_all m (Grants c ∷ [])) → Same m (after_all m (if b then [] else Grants c ∷ []))
granted m c true s = refl
granted m c false s = s

given : (m : Machine) (i : Input) (ahead : Option Entry) → Same m (after_all m (given_steps (call_of i) ahead))
given m input.Start ahead = granted m calls.Start (is_call_refused calls.Start ahead) refl
given m (input.Submit n a form) ahead = by_test (is_call_answered n ahead)
  where
    by_test : (b : Bool) → Same m (after_all m (if b then [] else Fails ∷ []))
    by_test true = refl
    by_test false = refl
given m (input.Abort n) ahead = granted m (calls.Abort n) (is_call_refused (calls.Abort n) ahead) refl
given m (input.TargetReset a) ahead = granted m (calls.TargetReset a) (is_call_refused (calls.TargetReset a) ahead) refl
given m input.Reset ahead = granted m calls.Reset (is_call_refused calls.Reset ahead) refl
given m input.UnitReset ahead = granted m calls.UnitReset (is_call_refused calls.UnitReset ahead) refl
given m (input.Plug a e p) ahead = let c = call_of (input.Plug a e p) in granted m c (is_call_refused c ahead) refl
given m (input.Unplug a) ahead = granted m (calls.Unplug a) (is_call_refused (calls.Unplug a) ahead) refl

ends : (m : Machine) (n : ℕ) (how : AbortOutcome) → Same m (after_abort_end m n how)
ends m n abort.Stopped = refl
ends m n abort.NotFound = refl
ends m n abort.Reset = refl

readied : (m : Machine) (a : ℕ) (o : Option ℕ) → Same m (after_all m (step_if o (λ k. GetsReady a k) ∷ []))
readied m a None = refl
readied m a (Some k) = refl

dull_entry : (m : Machine) (g : SoFar) (e : Entry) (ahead : Option Entry) → IsDull e → Same m (after_all m (steps_of g e ahead))
dull_entry m g (entry.Given i) ahead d = given m i ahead
dull_entry m g (entry.Take l x) ahead d = let t = take_leaves m g l x ahead in ap (λ (o : Machine). o.outcome) t.1
dull_entry m g (entry.Run a s) ahead d = absurd d
dull_entry m g (entry.Accept n a s) ahead d = absurd d
dull_entry m g (entry.RefuseSubmit n c) ahead d = ap (λ (o : Machine). o.outcome) (refuses m (refused_submit g.host_call n) c)
dull_entry m g (entry.Refuse call c) ahead d = ap (λ (o : Machine). o.outcome) (refuses m (refused_call g.fabric_call call) c)
dull_entry m g (entry.Ready a h) ahead d = readied m a (g.plug_of h)
dull_entry m g (entry.AbortEnd n how) ahead d = ends m n how
dull_entry m g entry.HostUp ahead d = refl
dull_entry m g (entry.Lost a h) ahead d = refl
dull_entry m g (entry.Answer n how) ahead d = refl
dull_entry m g (entry.TargetEnd a how) ahead d = refl
dull_entry m g entry.ResetDone ahead d = refl
dull_entry m g (entry.Idle x) ahead d = refl
dull_entry m g (entry.Put l x) ahead d = refl
dull_entry m g (entry.Bind h a k) ahead d = refl
dull_entry m g (entry.Unbind h) ahead d = refl
dull_entry m g entry.UnbindAll ahead d = refl

pub dull_outcome : (g : Seen) (t : List Entry) → EachEntry IsDull t → (state_ahead seen_next g t []).machine.outcome ≡ g.machine.outcome
dull_outcome g [] d = refl
dull_outcome g (e ∷ t) d = dull_outcome (seen_next g e (next_own e (t ++ []))) t d.1 ∙ dull_entry g.machine g.so_far e (next_own e (t ++ [])) d.0

-- ---- what is told

silent_dull : (e : Entry) → IsSilent e → IsDull e
silent_dull (entry.Accept n a s) w = absurd w
silent_dull (entry.Run a s) w = absurd w
silent_dull _ w = tt

pub silents_dull : (t : List Entry) → EachEntry IsSilent t → EachEntry IsDull t
silents_dull [] w = tt
silents_dull (e ∷ t) w = (silent_dull e w.0, silents_dull t w.1)

word_dull : (e : Entry) → IsHostWord e → IsDull e
word_dull (entry.Accept n a s) w = absurd w
word_dull (entry.Run a s) w = absurd w
word_dull _ w = tt

words_dull : (t : List Entry) → EachEntry IsHostWord t → EachEntry IsDull t
words_dull [] w = tt
words_dull (e ∷ t) w = (word_dull e w.0, words_dull t w.1)

dull_end : (t : List Entry) → EachEntry IsHostWord t → EachEntry IsDull (t ++ entry.ResetDone ∷ [])
dull_end [] w = (tt, tt)
dull_end (e ∷ t) w = (word_dull e w.0, dull_end t w.1)

tells_dull : (t : List Entry) → HostTells t → EachEntry IsDull t
tells_dull t (Words w) = words_dull t w
tells_dull t (EndsIt told w e) = subst (EachEntry IsDull) (sym e) (dull_end told w)

pub item_dull : (host : Host) (queue : ℕ) (x : Up) → EachEntry IsDull (hears_up host queue x).entries
item_dull host queue x = tells_dull (hears_up host queue x).entries (host_tells host queue x)

quiet_dull : (e : Entry) → IsQuiet e → IsDull e
quiet_dull (entry.Accept n a s) w = absurd w
quiet_dull (entry.Run a s) w = absurd w
quiet_dull _ w = tt

pub quiets_dull : (t : List Entry) → EachEntry IsQuiet t → EachEntry IsDull t
quiets_dull [] w = tt
quiets_dull (e ∷ t) w = (quiet_dull e w.0, quiets_dull t w.1)

plug_dull : (e : Entry) → IsPlugWord e → IsDull e
plug_dull (entry.Accept n a s) w = absurd w
plug_dull (entry.Run a s) w = absurd w
plug_dull _ w = tt

pub plugs_dull : (t : List Entry) → EachEntry IsPlugWord t → EachEntry IsDull t
plugs_dull [] w = tt
plugs_dull (e ∷ t) w = (plug_dull e w.0, plugs_dull t w.1)
