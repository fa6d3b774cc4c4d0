-- The last plug that was told of a handle is the one to which it is bound, whatever is entered.
use Rattle.std.proofs.Common.{◌≡◌, ℕ, ◌==◌, Bool, true, false, if◌then◌else◌, List, [], ◌∷◌, ◌++◌, Option, Some, None, refl, ap, sym, ◌∙◌, subst}
use Rattle.mpt_wire.specs.Handles.Bindings.{Plug, bound_next}
use Rattle.mpt_wire.specs.Handles.Plugs.{Serving, served_next}
use Rattle.mpt_wire.specs.Machine.SoFar.{SoFar, after_entry, after_put}
use Rattle.mpt_wire.specs.Machine.View.{Seen, seen_next}
use Rattle.mpt_wire.specs.Walks.Ahead.{next_own, state_ahead}
use Rattle.mpt_wire.specs.Walks.Passes.{state_after}
use Rattle.mpt_trace.specs.declared.entry.Entry.{Entry}
use Rattle.mpt_trace.specs.declared.entry.Entry.TheVariants as entry
use Rattle.mpt_trace.specs.declared.item.Down.TheVariants as down
use Rattle.mpt_trace.specs.declared.item.Item.{Item}
use Rattle.mpt_trace.specs.declared.item.Item.TheVariants as item
use Rattle.mpt_trace.specs.declared.lane.LaneName.{LaneName}
use Rattle.mpt_trace.specs.declared.lane.LaneName.TheVariants as lane
use Rattle.mpt_rules.specs.World.Cases.{Case, entries}
use Rattle.mpt_rules.specs.World.State.{World}
use Rattle.law_facts.specs.Facts.{Facts}
use Rattle.law_facts.specs.History.{History, history_after}
use Rattle.law_handles.proofs.Aimed.{served_bound}
use Rattle.law_targets.specs.Targets.{PlugsAreTold}

-- of one handle
abbrev pub Tells : (ℕ → Option Plug) → (ℕ → Option ℕ) → ℕ → Type 0
Tells bound plugs handle = (p : Plug) → bound handle ≡ Some p → plugs handle ≡ Some p.number

put_plugs : (x : Item) (g : SoFar) → (after_put x g).plug_of ≡ g.plug_of
put_plugs (item.Down (down.Post d f p)) g = refl
put_plugs (item.Down (down.Write reg value)) g = refl
put_plugs (item.Down (down.Read reg)) g = refl
put_plugs (item.Down (down.Return address index)) g = refl
put_plugs (item.Down down.Stop) g = refl
put_plugs (item.Up x) g = refl
put_plugs (item.Out x) g = refl
put_plugs (item.Back x) g = refl
put_plugs (item.Ask x) g = refl
put_plugs (item.Tell x) g = refl

lane_put : (g : SoFar) (l : LaneName) (x : Item) (ahead : Option Entry) → (after_entry g (entry.Put l x) ahead).plug_of ≡ g.plug_of
lane_put g lane.Down x ahead = put_plugs x g
lane_put g lane.Up x ahead = refl
lane_put g (lane.UpOn queue) x ahead = refl
lane_put g lane.Out x ahead = refl
lane_put g lane.Back x ahead = refl
lane_put g (lane.Ask i) x ahead = refl
lane_put g (lane.Tell i) x ahead = refl

lane_take : (g : SoFar) (l : LaneName) (x : Item) (ahead : Option Entry) → (after_entry g (entry.Take l x) ahead).plug_of ≡ g.plug_of
lane_take g lane.Down x ahead = refl
lane_take g lane.Up x ahead = refl
lane_take g (lane.UpOn queue) x ahead = refl
lane_take g lane.Out x ahead = refl
lane_take g lane.Back x ahead = refl
lane_take g (lane.Ask i) x ahead = refl
lane_take g (lane.Tell i) x ahead = refl

told_next : (b : ℕ → Option Plug) (g : SoFar) (e : Entry) (ahead : Option Entry) (handle : ℕ) → Tells b g.plug_of handle → Tells (bound_next b e) (after_entry g e ahead).plug_of handle
told_next b g (entry.Bind k a n) ahead handle t p e = by_key (handle == k) e
  where
    by_key : (c : Bool) → (if c then Some (record { address = a; number = n }) else b handle) ≡ Some p → (if c then Some n else g.plug_of handle) ≡ Some p.number
    by_key true e = let same : record { address = a; number = n } ≡ p = cc in ap (λ (q : Plug). Some q.number) same
    by_key false e = t p e
told_next b g (entry.Unbind k) ahead handle t p e = by_key (handle == k) e
  where
    by_key : (c : Bool) → (if c then None else b handle) ≡ Some p → g.plug_of handle ≡ Some p.number
    by_key true e = absurd (cc)
    by_key false e = t p e
told_next b g entry.UnbindAll ahead handle t p e = absurd (cc)
told_next b g (entry.Put l x) ahead handle t p e = ap (λ f. f handle) (lane_put g l x ahead) ∙ t p e
told_next b g (entry.Take l x) ahead handle t p e = ap (λ f. f handle) (lane_take g l x ahead) ∙ t p e
told_next b g (entry.Given i) ahead handle t p e = t p e
told_next b g (entry.Idle x) ahead handle t p e = t p e
told_next b g (entry.Run a tag) ahead handle t p e = t p e
told_next b g entry.HostUp ahead handle t p e = t p e
told_next b g (entry.Ready a k) ahead handle t p e = t p e
told_next b g (entry.Lost a k) ahead handle t p e = t p e
told_next b g (entry.Accept n a s) ahead handle t p e = t p e
told_next b g (entry.RefuseSubmit n cause) ahead handle t p e = t p e
told_next b g (entry.Refuse call cause) ahead handle t p e = t p e
told_next b g (entry.Answer n how) ahead handle t p e = t p e
told_next b g (entry.AbortEnd n how) ahead handle t p e = t p e
told_next b g (entry.TargetEnd a how) ahead handle t p e = t p e
told_next b g entry.ResetDone ahead handle t p e = t p e

told_after : (handle : ℕ) (t : List Entry) (s : Serving) (g : Seen) → Tells s.bound g.so_far.plug_of handle → Tells (state_after served_next s t).bound (state_ahead seen_next g t []).so_far.plug_of handle
told_after handle [] s g k = k
told_after handle (e ∷ t) s g k =
    told_after handle t (served_next s e) (seen_next g e (next_own e (t ++ [])))
    (subst (λ b. Tells b (after_entry g.so_far e (next_own e (t ++ []))).plug_of handle) (sym (served_bound s e)) (told_next s.bound g.so_far e (next_own e (t ++ [])) handle k))

-- HostKnown.plug
pub plugs_told : (w : World) (h : History) (c : Case) → Facts w h → PlugsAreTold (history_after h (entries w c))
plugs_told w h c f handle p i = told_after handle (entries w c) h.serving (record { machine = h.machine; so_far = h.so_far }) ((f.handles.each handle i).known.plug) p
