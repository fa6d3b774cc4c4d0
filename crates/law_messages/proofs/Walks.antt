-- What entries do to what a trace knows of commands: an accept makes one known under its identifier, its answer ends that,
-- and nothing else changes it.
use Rattle.std.proofs.Common.{◌≡◌, ℕ, ◌==◌, ◌||◌, map, Bool, true, false, if◌then◌else◌, List, [], ◌∷◌, ◌++◌, Option, Some, None, refl, ap, sym, ◌∙◌, subst}
use Rattle.std.specs.List.{list_any}
use Rattle.mpt_wire.specs.Machine.SoFar.{SoFar, after_entry, after_put}
use Rattle.mpt_wire.specs.Machine.View.{Seen, seen_next}
use Rattle.mpt_wire.specs.Paths.Commands.{Known, Live, known_next, live_after}
use Rattle.mpt_wire.specs.Paths.Stages.{Walk, walk_next}
use Rattle.mpt_wire.specs.Walks.Ahead.{next_own, state_ahead}
use Rattle.mpt_wire.specs.Walks.Passes.{EachEntry, state_after}
use Rattle.mpt_trace.specs.Command.{command_named}
use Rattle.mpt_trace.specs.declared.command_form.CommandForm.{CommandForm}
use Rattle.mpt_trace.specs.declared.entry.Entry.{Entry}
use Rattle.mpt_trace.specs.declared.entry.Entry.TheVariants as entry
use Rattle.mpt_trace.specs.declared.input.Input.TheVariants as input
use Rattle.mpt_trace.specs.declared.item.Down.TheVariants as down
use Rattle.mpt_trace.specs.declared.item.Item.{Item}
use Rattle.mpt_trace.specs.declared.item.Item.TheVariants as item
use Rattle.mpt_trace.specs.declared.lane.LaneName.{LaneName}
use Rattle.mpt_trace.specs.declared.lane.LaneName.TheVariants as lane
use Rattle.mpt_trace.specs.declared.outcome.Outcome.{Outcome}
use Rattle.mpt_trace.specs.declared.outcome.Outcome.TheVariants as outcome
use Rattle.mpt_rules.specs.Host.Resets.{reset_answer}
use Rattle.law_messages.proofs.Requests.{IsNoAccept, IsTame, tame_no_accept}

entry_live : (s : ℕ) (k : Known) (e : Entry) → IsTame e → (known_next s k e).live ≡ k.live
entry_live s k (entry.Given i) t = refl
entry_live s k (entry.Accept n a q) t = absurd t
entry_live s k (entry.Answer n how) t = absurd t
entry_live s k (entry.Idle x) t = refl
entry_live s k (entry.Put l x) t = refl
entry_live s k (entry.Take l x) t = refl
entry_live s k (entry.Bind handle a p) t = refl
entry_live s k (entry.Unbind handle) t = refl
entry_live s k entry.UnbindAll t = refl
entry_live s k (entry.Run a q) t = absurd t
entry_live s k entry.HostUp t = refl
entry_live s k (entry.Ready a handle) t = refl
entry_live s k (entry.Lost a handle) t = refl
entry_live s k (entry.RefuseSubmit n cause) t = refl
entry_live s k (entry.Refuse call cause) t = refl
entry_live s k (entry.AbortEnd n how) t = refl
entry_live s k (entry.TargetEnd a how) t = refl
entry_live s k entry.ResetDone t = refl

pub tame_live : (s : ℕ) (g : Walk) (t : List Entry) → EachEntry IsTame t → (state_after (walk_next s) g t).known.live ≡ g.known.live
tame_live s g [] a = refl
tame_live s g (e ∷ t) a = tame_live s (walk_next s g e) t a.1 ∙ entry_live s g.known e a.0

-- an item is taken, and a command answered
pub answered_live : (s : ℕ) (g : Walk) (e : Entry) (n : ℕ) (how : Outcome) → IsTame e → (state_after (walk_next s) g (e ∷ entry.Answer n how ∷ [])).known.live ≡ live_after g.known.live n
answered_live s g e n how t = ap (λ o. live_after o n) (entry_live s g.known e t)

-- a submission is accepted
pub accepted_live : (q : ℕ) (g : Walk) (n a s : ℕ) (form : CommandForm) → (state_after (walk_next q) g (entry.Given (input.Submit n a form) ∷ entry.Accept n a s ∷ [])).known.live ≡ (if s == q then Some (record { number = n; address = a; command = command_named form }) else g.known.live)
accepted_live q g n a s form = by_key (s == q) (record { submitted = command_named form; live = Some (record { number = n; address = a; command = command_named form }) }) (record { submitted = command_named form; live = g.known.live })
  where
    by_key : (b : Bool) (x y : Known) → (if b then x else y).live ≡ (if b then x.live else y.live)
    by_key true x y = refl
    by_key false x y = refl

-- the end of a reset
pub over_live : (q : ℕ) (ns : List ℕ) (g : Walk) (u : List Entry) → EachEntry IsTame u → ((l : Live) → g.known.live ≡ Some l → list_any (λ n. l.number == n) ns ≡ true) → (state_after (walk_next q) g (map reset_answer ns ++ u)).known.live ≡ None
over_live q [] g u a f = tame_live q g u a ∙ none g.known.live f
  where
    none : (o : Option Live) → ((l : Live) → o ≡ Some l → false ≡ true) → o ≡ None
    none None f = refl
    none (Some l) f = let c = f l refl in absurd (cc)
over_live q (n ∷ ns) g u a f = over_live q ns (walk_next q g (entry.Answer n outcome.Reset)) u a (λ l e. left g.known.live f l e)
  where
    left : (o : Option Live) → ((l : Live) → o ≡ Some l → ((l.number == n) || list_any (λ m. l.number == m) ns) ≡ true) → (l : Live) → live_after o n ≡ Some l → list_any (λ m. l.number == m) ns ≡ true
    left None f l e = absurd (cc)
    left (Some x) f l e = by_key (x.number == n) refl e
      where
        by_key : (b : Bool) → (x.number == n) ≡ b → (if b then None else Some x) ≡ Some l → list_any (λ m. l.number == m) ns ≡ true
        by_key true t e = absurd (cc)
        by_key false t e =
            let z : x ≡ l = some_is x l e in
            subst (λ (y : Live). list_any (λ m. y.number == m) ns ≡ true) z (sym (ap (λ b. b || list_any (λ m. x.number == m) ns) t) ∙ f x refl)
          where
            some_is : (x l : Live) → Some x ≡ Some l → x ≡ l
            some_is x l e = cc

-- ---- numbers by identifier

put_numbers : (x : Item) (g : SoFar) → (after_put x g).number_of ≡ g.number_of
put_numbers (item.Down (down.Post d f p)) g = refl
put_numbers (item.Down (down.Write reg value)) g = refl
put_numbers (item.Down (down.Read reg)) g = refl
put_numbers (item.Down (down.Return address index)) g = refl
put_numbers (item.Down down.Stop) g = refl
put_numbers (item.Up x) g = refl
put_numbers (item.Out x) g = refl
put_numbers (item.Back x) g = refl
put_numbers (item.Ask x) g = refl
put_numbers (item.Tell x) g = refl

lane_put : (g : SoFar) (l : LaneName) (x : Item) (ahead : Option Entry) → (after_entry g (entry.Put l x) ahead).number_of ≡ g.number_of
lane_put g lane.Down x ahead = put_numbers x g
lane_put g lane.Up x ahead = refl
lane_put g (lane.UpOn queue) x ahead = refl
lane_put g lane.Out x ahead = refl
lane_put g lane.Back x ahead = refl
lane_put g (lane.Ask i) x ahead = refl
lane_put g (lane.Tell i) x ahead = refl

lane_take : (g : SoFar) (l : LaneName) (x : Item) (ahead : Option Entry) → (after_entry g (entry.Take l x) ahead).number_of ≡ g.number_of
lane_take g lane.Down x ahead = refl
lane_take g lane.Up x ahead = refl
lane_take g (lane.UpOn queue) x ahead = refl
lane_take g lane.Out x ahead = refl
lane_take g lane.Back x ahead = refl
lane_take g (lane.Ask i) x ahead = refl
lane_take g (lane.Tell i) x ahead = refl

entry_numbers : (g : SoFar) (e : Entry) (ahead : Option Entry) → IsNoAccept e → (after_entry g e ahead).number_of ≡ g.number_of
entry_numbers g (entry.Given i) ahead t = refl
entry_numbers g (entry.Accept n a q) ahead t = absurd t
entry_numbers g (entry.Answer n how) ahead t = refl
entry_numbers g (entry.Idle x) ahead t = refl
entry_numbers g (entry.Put l x) ahead t = lane_put g l x ahead
entry_numbers g (entry.Take l x) ahead t = lane_take g l x ahead
entry_numbers g (entry.Bind handle a p) ahead t = refl
entry_numbers g (entry.Unbind handle) ahead t = refl
entry_numbers g entry.UnbindAll ahead t = refl
entry_numbers g (entry.Run a q) ahead t = refl
entry_numbers g entry.HostUp ahead t = refl
entry_numbers g (entry.Ready a handle) ahead t = refl
entry_numbers g (entry.Lost a handle) ahead t = refl
entry_numbers g (entry.RefuseSubmit n cause) ahead t = refl
entry_numbers g (entry.Refuse call cause) ahead t = refl
entry_numbers g (entry.AbortEnd n how) ahead t = refl
entry_numbers g (entry.TargetEnd a how) ahead t = refl
entry_numbers g entry.ResetDone ahead t = refl

pub numbers_stay : (g : Seen) (t : List Entry) → EachEntry IsNoAccept t → (state_ahead seen_next g t []).so_far.number_of ≡ g.so_far.number_of
numbers_stay g [] a = refl
numbers_stay g (e ∷ t) a = numbers_stay (seen_next g e (next_own e (t ++ []))) t a.1 ∙ entry_numbers g.so_far e (next_own e (t ++ [])) a.0

pub accepted_number : (g : Seen) (q n a s : ℕ) (form : CommandForm) → (state_ahead seen_next g (entry.Given (input.Submit n a form) ∷ entry.Accept n a s ∷ []) []).so_far.number_of q ≡ (if q == s then Some n else g.so_far.number_of q)
accepted_number g q n a s form = refl

pub tame_numbers : (g : Seen) (t : List Entry) → EachEntry IsTame t → (state_ahead seen_next g t []).so_far.number_of ≡ g.so_far.number_of
tame_numbers g t a = numbers_stay g t (each t a)
  where
    each : (t : List Entry) → EachEntry IsTame t → EachEntry IsNoAccept t
    each [] a = tt
    each (e ∷ t) a = (tame_no_accept e a.0, each t a.1)
