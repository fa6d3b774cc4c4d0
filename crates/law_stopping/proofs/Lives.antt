-- The life of a command, entry by entry: most are nothing to it.
use Rattle.std.proofs.Common.{◌≡◌, ℕ, ◌<◌, Bool, true, false, if◌then◌else◌, List, [], ◌∷◌, Option, Some, None, refl, ap, sym, ◌∙◌, subst, arith}
use Rattle.mpt_trace.specs.declared.entry.Entry.{Entry}
use Rattle.mpt_trace.specs.declared.entry.Entry.TheVariants as entry
use Rattle.mpt_wire.specs.Paths.Stops.{IsAwaited, IsFair, StopAsks, StopLife, Stopping, life_after, life_mark, new_life, stopping_next}
use Rattle.mpt_wire.specs.Paths.TerminationCounts.{HighPost}
use Rattle.mpt_wire.specs.Queues.LeastFree.{is_accept_with}
use Rattle.mpt_wire.specs.Walks.Passes.{EachEntry, Passes, state_after}
use Rattle.law_flights.proofs.HostQuiet.{IsQuiet}
use Rattle.law_moves.proofs.CasesTold.{IsPlugWord}

-- whatever is open, it is nothing to the command of s
abbrev pub IsNothing : ℕ → Entry → Type 0
IsNothing s e = (highs : ℕ → HighPost) → life_mark s highs e ≡ None

quiet_one : (s : ℕ) (e : Entry) → IsQuiet e → IsNothing s e
quiet_one s (entry.Put l i) h = absurd h
quiet_one s (entry.Take l i) h = λ g. refl
quiet_one s (entry.Given i) h = λ g. refl
quiet_one s (entry.Idle x) h = λ g. refl
quiet_one s (entry.Bind handle address plug) h = λ g. refl
quiet_one s (entry.Unbind handle) h = λ g. refl
quiet_one s entry.UnbindAll h = λ g. refl
quiet_one s (entry.Run address tag) h = λ g. refl
quiet_one s entry.HostUp h = λ g. refl
quiet_one s (entry.Ready address handle) h = λ g. refl
quiet_one s (entry.Lost address handle) h = λ g. refl
quiet_one s (entry.Accept n address smid) h = λ g. refl
quiet_one s (entry.RefuseSubmit n cause) h = λ g. refl
quiet_one s (entry.Refuse call cause) h = λ g. refl
quiet_one s (entry.Answer n outcome) h = λ g. refl
quiet_one s (entry.AbortEnd n outcome) h = λ g. refl
quiet_one s (entry.TargetEnd address outcome) h = λ g. refl
quiet_one s entry.ResetDone h = λ g. refl

pub quiet_nothing : (s : ℕ) (t : List Entry) → EachEntry IsQuiet t → EachEntry (IsNothing s) t
quiet_nothing s [] h = tt
quiet_nothing s (e ∷ t) h = (quiet_one s e h.0, quiet_nothing s t h.1)

plug_one : (s : ℕ) (e : Entry) → IsPlugWord e → IsNothing s e
plug_one s (entry.Given i) h = λ g. refl
plug_one s (entry.Refuse call cause) h = λ g. refl
plug_one s (entry.Put l i) h = absurd h
plug_one s _ h = λ g. refl

pub plug_nothing : (s : ℕ) (t : List Entry) → EachEntry IsPlugWord t → EachEntry (IsNothing s) t
plug_nothing s [] h = tt
plug_nothing s (e ∷ t) h = (plug_one s e h.0, plug_nothing s t h.1)

-- ---- fair lives

pub fair_new : IsFair new_life
fair_new = record { at_most_one = omega arith; no_task = λ l. absurd (omega (arith, l)); no_other = λ l. absurd (omega (arith, l)); one = λ e. absurd (cc) }

pub accepted_fair : (b : Bool) (l : StopLife) → IsFair l → IsFair (if b then new_life else l)
accepted_fair true l f = fair_new
accepted_fair false l f = f

-- an entry with this mark is as the rule asks
pub asks_of : (s : ℕ) (g : Stopping) (e : Entry) → IsAwaited g.life (life_mark s g.highs e) → IsFair (life_after g.life (life_mark s g.highs e)) → StopAsks s g e
asks_of s g e a f = (a, accepted_fair (is_accept_with s e) (life_after g.life (life_mark s g.highs e)) f)

pub asks_nothing : (s : ℕ) (g : Stopping) (e : Entry) → IsNothing s e → IsFair g.life → StopAsks s g e
asks_nothing s g e n f = asks_of s g e (subst (IsAwaited g.life) (sym (n g.highs)) tt) (subst (λ m. IsFair (life_after g.life m)) (sym (n g.highs)) f)

pub passes_nothing : (s : ℕ) (g : Stopping) (t : List Entry) → EachEntry (IsNothing s) t → IsFair g.life → Passes (stopping_next s) (StopAsks s) g t
passes_nothing s g [] a f = tt
passes_nothing s g (e ∷ t) a f = let x = asks_nothing s g e a.0 f in (x, passes_nothing s (stopping_next s g e) t a.1 x.1)

-- behind entries that pass it is fair
pub fair_behind : (s : ℕ) (g : Stopping) (t : List Entry) → IsFair g.life → Passes (stopping_next s) (StopAsks s) g t → IsFair (state_after (stopping_next s) g t).life
fair_behind s g [] f p = f
fair_behind s g (e ∷ t) f p = fair_behind s (stopping_next s g e) t p.0.1 p.1
