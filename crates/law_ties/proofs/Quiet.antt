-- Entries that put nothing and take nothing, and a rule that passes them over.
use Rattle.std.proofs.Common.{◌≡◌, ℕ, List, [], ◌∷◌, None, refl, sym, subst}
use Rattle.mpt_trace.specs.declared.entry.Entry.{Entry}
use Rattle.mpt_trace.specs.declared.entry.Entry.TheVariants as entry
use Rattle.mpt_trace.specs.declared.input.Input.{Input}
use Rattle.mpt_trace.specs.declared.item.Up.{Up}
use Rattle.mpt_wire.specs.Walks.Passes.{EachEntry, Passes, state_after}
use Rattle.mpt_rules.specs.Host.Parts.{Host}
use Rattle.mpt_rules.specs.Host.Takes.{hears_up}
use Rattle.mpt_rules.specs.World.Inputs.{host_told}
use Rattle.law_flights.proofs.HostQuiet.{IsQuiet, quiet, quiet_taken}
use Rattle.law_flights.proofs.HostTold.{told_input}
use Rattle.law_moves.proofs.CasesTold.{IsPlugWord}

module _ {G : Type 0} (Q : Entry → Type 0) (next : G → Entry → G) (asks : G → Entry → Type 0)
    (stays : (g : G) (e : Entry) → Q e → next g e ≡ g) (free : (g : G) (e : Entry) → Q e → asks g e) where
  pub state_stays : (g : G) (t : List Entry) → EachEntry Q t → state_after next g t ≡ g
  state_stays g [] h = refl
  state_stays g (e ∷ t) h = subst (λ x. state_after next x t ≡ g) (sym (stays g e h.0)) (state_stays g t h.1)

  pub passes_over : (g : G) (t : List Entry) → EachEntry Q t → Passes next asks g t
  passes_over g [] h = tt
  passes_over g (e ∷ t) h = (free g e h.0, subst (λ x. Passes next asks x t) (sym (stays g e h.0)) (passes_over g t h.1))

plug_one : (e : Entry) → IsPlugWord e → IsQuiet e
plug_one (entry.Given i) h = tt
plug_one (entry.Refuse call cause) h = tt
plug_one (entry.Idle x) h = absurd h
plug_one (entry.Put l i) h = h
plug_one (entry.Take l i) h = h
plug_one (entry.Bind handle address plug) h = absurd h
plug_one (entry.Unbind handle) h = absurd h
plug_one entry.UnbindAll h = absurd h
plug_one (entry.Run address tag) h = absurd h
plug_one entry.HostUp h = absurd h
plug_one (entry.Ready address handle) h = absurd h
plug_one (entry.Lost address handle) h = absurd h
plug_one (entry.Accept n address smid) h = absurd h
plug_one (entry.RefuseSubmit n cause) h = absurd h
plug_one (entry.Answer n outcome) h = absurd h
plug_one (entry.AbortEnd n outcome) h = absurd h
plug_one (entry.TargetEnd address outcome) h = absurd h
plug_one entry.ResetDone h = absurd h

-- the words of a plug or an unplug, of an input of the host, and of an item that it takes
pub quiet_plug : (t : List Entry) → EachEntry IsPlugWord t → EachEntry IsQuiet t
quiet_plug [] h = tt
quiet_plug (e ∷ t) h = (plug_one e h.0, quiet_plug t h.1)

pub quiet_input : (host : Host) (i : Input) → EachEntry IsQuiet (host_told host i).entries
quiet_input host i = quiet _ (told_input host i)

pub quiet_item : (host : Host) (queue : ℕ) (x : Up) → EachEntry IsQuiet (hears_up host queue x).entries
quiet_item host queue x = quiet_taken host queue x None
