-- What the rule of counts makes of entries, and what the view knows of target resets: what isn't put or taken changes nothing.
use Rattle.std.proofs.Common.{◌≡◌, ℕ, Bool, true, false, if◌then◌else◌, List, [], ◌∷◌, ◌++◌, Option, refl, sym, ◌∙◌, subst}
use Rattle.mpt_trace.specs.declared.entry.Entry.{Entry}
use Rattle.mpt_trace.specs.declared.entry.Entry.TheVariants as entry
use Rattle.mpt_trace.specs.declared.item.Back.TheVariants as back
use Rattle.mpt_trace.specs.declared.item.Down.TheVariants as downward
use Rattle.mpt_trace.specs.declared.item.Item.{Item}
use Rattle.mpt_trace.specs.declared.item.Item.TheVariants as item
use Rattle.mpt_trace.specs.declared.item.Out.TheVariants as out
use Rattle.mpt_trace.specs.declared.item.Up.TheVariants as upward
use Rattle.mpt_trace.specs.declared.lane.LaneName.{LaneName}
use Rattle.mpt_trace.specs.declared.lane.LaneName.TheVariants as lane
use Rattle.mpt_wire.specs.Machine.SoFar.{SoFar, after_entry, after_put}
use Rattle.mpt_wire.specs.Machine.View.{Seen, seen_next}
use Rattle.mpt_wire.specs.Paths.TerminationCounts.{HighAsks, HighPost, NoPost, high_next}
use Rattle.mpt_wire.specs.Walks.Ahead.{next_own, state_ahead}
use Rattle.mpt_wire.specs.Walks.Passes.{EachEntry, Passes, state_after}
use Rattle.law_facts.specs.History.{History, history_after}
use Rattle.law_flights.proofs.HostQuiet.{IsQuiet}

-- ---- what is quiet

pub quiet_stays : (q : ℕ) (g : HighPost) (e : Entry) → IsQuiet e → high_next q g e ≡ g
quiet_stays q g (entry.Given i) h = refl
quiet_stays q g (entry.Idle x) h = refl
quiet_stays q g (entry.Put l i) h = absurd h
quiet_stays q g (entry.Take l i) h = absurd h
quiet_stays q g (entry.Bind handle address plug) h = refl
quiet_stays q g (entry.Unbind handle) h = refl
quiet_stays q g entry.UnbindAll h = refl
quiet_stays q g (entry.Run address tag) h = refl
quiet_stays q g entry.HostUp h = refl
quiet_stays q g (entry.Ready address handle) h = refl
quiet_stays q g (entry.Lost address handle) h = refl
quiet_stays q g (entry.Accept n address smid) h = refl
quiet_stays q g (entry.RefuseSubmit n cause) h = refl
quiet_stays q g (entry.Refuse call cause) h = refl
quiet_stays q g (entry.Answer n outcome) h = refl
quiet_stays q g (entry.AbortEnd n outcome) h = refl
quiet_stays q g (entry.TargetEnd address outcome) h = refl
quiet_stays q g entry.ResetDone h = refl

pub quiet_free : (q : ℕ) (g : HighPost) (e : Entry) → IsQuiet e → HighAsks q g e
quiet_free q g (entry.Given i) h = tt
quiet_free q g (entry.Idle x) h = tt
quiet_free q g (entry.Put l i) h = absurd h
quiet_free q g (entry.Take l i) h = absurd h
quiet_free q g (entry.Bind handle address plug) h = tt
quiet_free q g (entry.Unbind handle) h = tt
quiet_free q g entry.UnbindAll h = tt
quiet_free q g (entry.Run address tag) h = tt
quiet_free q g entry.HostUp h = tt
quiet_free q g (entry.Ready address handle) h = tt
quiet_free q g (entry.Lost address handle) h = tt
quiet_free q g (entry.Accept n address smid) h = tt
quiet_free q g (entry.RefuseSubmit n cause) h = tt
quiet_free q g (entry.Refuse call cause) h = tt
quiet_free q g (entry.Answer n outcome) h = tt
quiet_free q g (entry.AbortEnd n outcome) h = tt
quiet_free q g (entry.TargetEnd address outcome) h = tt
quiet_free q g entry.ResetDone h = tt

pub state_stays : (q : ℕ) (g : HighPost) (t : List Entry) → EachEntry IsQuiet t → state_after (high_next q) g t ≡ g
state_stays q g [] h = refl
state_stays q g (e ∷ t) h = subst (λ x. state_after (high_next q) x t ≡ g) (sym (quiet_stays q g e h.0)) (state_stays q g t h.1)

pub passes_over : (q : ℕ) (g : HighPost) (t : List Entry) → EachEntry IsQuiet t → Passes (high_next q) (HighAsks q) g t
passes_over q g [] h = tt
passes_over q g (e ∷ t) h = (quiet_free q g e h.0, subst (λ x. Passes (high_next q) (HighAsks q) x t) (sym (quiet_stays q g e h.0)) (passes_over q g t h.1))

-- ---- no post is put

-- every entry but the put of a post
abbrev pub IsNoPost : Entry → Type 0
IsNoPost (entry.Put l (item.Down (downward.Post d f p))) = ⊥
IsNoPost _ = Unit {0}

same_if : (b : Bool) (g : HighPost) → (if b then g else g) ≡ g
same_if true g = refl
same_if false g = refl

down_none : (q : ℕ) (l : LaneName) (x : Item) → IsNoPost (entry.Put l x) → high_next q NoPost (entry.Put l x) ≡ NoPost
down_none q l (item.Down (downward.Post d f p)) h = absurd h
down_none q l (item.Down (downward.Write reg value)) h = refl
down_none q l (item.Down (downward.Read reg)) h = refl
down_none q l (item.Down (downward.Return a i)) h = refl
down_none q l (item.Down downward.Stop) h = refl
down_none q l (item.Up (upward.Reply d f page sense)) h = same_if _ NoPost
down_none q l (item.Up (upward.Value value)) h = refl
down_none q l (item.Up (upward.Mark generation)) h = refl
down_none q l (item.Up upward.Calm) h = refl
down_none q l (item.Out (out.Task tag address command)) h = refl
down_none q l (item.Out (out.Abort smid task)) h = same_if _ NoPost
down_none q l (item.Out (out.TargetReset smid address)) h = same_if _ NoPost
down_none q l (item.Out out.Discover) h = refl
down_none q l (item.Out (out.Link generation)) h = refl
down_none q l (item.Out out.Stop) h = refl
down_none q l (item.Back x) h = refl
down_none q l (item.Ask x) h = refl
down_none q l (item.Tell x) h = refl

take_none : (q : ℕ) (l : LaneName) (x : Item) → high_next q NoPost (entry.Take l x) ≡ NoPost
take_none q l (item.Down x) = refl
take_none q l (item.Up x) = refl
take_none q l (item.Out x) = refl
take_none q l (item.Back (back.Aborted smid found)) = same_if _ NoPost
take_none q l (item.Back (back.Cleared smid count)) = same_if _ NoPost
take_none q l (item.Back (back.Result tag r)) = refl
take_none q l (item.Back (back.Gone tag)) = refl
take_none q l (item.Back (back.Terminated tag)) = refl
take_none q l (item.Back (back.Plugged a p e f)) = refl
take_none q l (item.Back (back.Unplugged a p e f)) = refl
take_none q l (item.Back back.Discovered) = refl
take_none q l (item.Back (back.Linked generation)) = refl
take_none q l (item.Back back.Calm) = refl
take_none q l (item.Ask x) = refl
take_none q l (item.Tell x) = refl

-- where nothing is open nothing opens
pub none_stays : (q : ℕ) (e : Entry) → IsNoPost e → high_next q NoPost e ≡ NoPost
none_stays q (entry.Put l x) h = down_none q l x h
none_stays q (entry.Take l x) h = take_none q l x
none_stays q (entry.Given i) h = refl
none_stays q (entry.Idle x) h = refl
none_stays q (entry.Bind handle address plug) h = refl
none_stays q (entry.Unbind handle) h = refl
none_stays q entry.UnbindAll h = refl
none_stays q (entry.Run address tag) h = refl
none_stays q entry.HostUp h = refl
none_stays q (entry.Ready address handle) h = refl
none_stays q (entry.Lost address handle) h = refl
none_stays q (entry.Accept n address smid) h = refl
none_stays q (entry.RefuseSubmit n cause) h = refl
none_stays q (entry.Refuse call cause) h = refl
none_stays q (entry.Answer n outcome) h = refl
none_stays q (entry.AbortEnd n outcome) h = refl
none_stays q (entry.TargetEnd address outcome) h = refl
none_stays q entry.ResetDone h = refl

-- ---- what the view knows of target resets

put_resets : (x : Item) (l : LaneName) (g : SoFar) → IsNoPost (entry.Put l x) → (after_put x g).is_target_reset ≡ g.is_target_reset
put_resets (item.Down (downward.Post d f p)) l g h = absurd h
put_resets (item.Down (downward.Write reg value)) l g h = refl
put_resets (item.Down (downward.Read reg)) l g h = refl
put_resets (item.Down (downward.Return a i)) l g h = refl
put_resets (item.Down downward.Stop) l g h = refl
put_resets (item.Up x) l g h = refl
put_resets (item.Out x) l g h = refl
put_resets (item.Back x) l g h = refl
put_resets (item.Ask x) l g h = refl
put_resets (item.Tell x) l g h = refl

lane_put : (g : SoFar) (l : LaneName) (x : Item) (ahead : Option Entry) → IsNoPost (entry.Put l x) → (after_entry g (entry.Put l x) ahead).is_target_reset ≡ g.is_target_reset
lane_put g lane.Down x ahead h = put_resets x lane.Down g h
lane_put g lane.Up x ahead h = refl
lane_put g (lane.UpOn queue) x ahead h = refl
lane_put g lane.Out x ahead h = refl
lane_put g lane.Back x ahead h = refl
lane_put g (lane.Ask i) x ahead h = refl
lane_put g (lane.Tell i) x ahead h = refl

lane_take : (g : SoFar) (l : LaneName) (x : Item) (ahead : Option Entry) → (after_entry g (entry.Take l x) ahead).is_target_reset ≡ g.is_target_reset
lane_take g lane.Down x ahead = refl
lane_take g lane.Up x ahead = refl
lane_take g (lane.UpOn queue) x ahead = refl
lane_take g lane.Out x ahead = refl
lane_take g lane.Back x ahead = refl
lane_take g (lane.Ask i) x ahead = refl
lane_take g (lane.Tell i) x ahead = refl

entry_resets : (g : SoFar) (e : Entry) (ahead : Option Entry) → IsNoPost e → (after_entry g e ahead).is_target_reset ≡ g.is_target_reset
entry_resets g (entry.Given i) ahead t = refl
entry_resets g (entry.Accept n a q) ahead t = refl
entry_resets g (entry.Answer n how) ahead t = refl
entry_resets g (entry.Idle x) ahead t = refl
entry_resets g (entry.Put l x) ahead t = lane_put g l x ahead t
entry_resets g (entry.Take l x) ahead t = lane_take g l x ahead
entry_resets g (entry.Bind handle a p) ahead t = refl
entry_resets g (entry.Unbind handle) ahead t = refl
entry_resets g entry.UnbindAll ahead t = refl
entry_resets g (entry.Run a q) ahead t = refl
entry_resets g entry.HostUp ahead t = refl
entry_resets g (entry.Ready a handle) ahead t = refl
entry_resets g (entry.Lost a handle) ahead t = refl
entry_resets g (entry.RefuseSubmit n cause) ahead t = refl
entry_resets g (entry.Refuse call cause) ahead t = refl
entry_resets g (entry.AbortEnd n how) ahead t = refl
entry_resets g (entry.TargetEnd a how) ahead t = refl
entry_resets g entry.ResetDone ahead t = refl

seen_resets : (g : Seen) (t : List Entry) → EachEntry IsNoPost t → (state_ahead seen_next g t []).so_far.is_target_reset ≡ g.so_far.is_target_reset
seen_resets g [] a = refl
seen_resets g (e ∷ t) a = seen_resets (seen_next g e (next_own e (t ++ []))) t a.1 ∙ entry_resets g.so_far e (next_own e (t ++ [])) a.0

pub resets_stay : (h : History) (t : List Entry) → EachEntry IsNoPost t → (history_after h t).so_far.is_target_reset ≡ h.so_far.is_target_reset
resets_stay h t a = seen_resets (record { machine = h.machine; so_far = h.so_far }) t a

-- what is quiet puts no post
quiet_no_post : (e : Entry) → IsQuiet e → IsNoPost e
quiet_no_post (entry.Given i) h = tt
quiet_no_post (entry.Idle x) h = tt
quiet_no_post (entry.Put l i) h = absurd h
quiet_no_post (entry.Take l i) h = absurd h
quiet_no_post (entry.Bind handle address plug) h = tt
quiet_no_post (entry.Unbind handle) h = tt
quiet_no_post entry.UnbindAll h = tt
quiet_no_post (entry.Run address tag) h = tt
quiet_no_post entry.HostUp h = tt
quiet_no_post (entry.Ready address handle) h = tt
quiet_no_post (entry.Lost address handle) h = tt
quiet_no_post (entry.Accept n address smid) h = tt
quiet_no_post (entry.RefuseSubmit n cause) h = tt
quiet_no_post (entry.Refuse call cause) h = tt
quiet_no_post (entry.Answer n outcome) h = tt
quiet_no_post (entry.AbortEnd n outcome) h = tt
quiet_no_post (entry.TargetEnd address outcome) h = tt
quiet_no_post entry.ResetDone h = tt

pub quiet_no_posts : (t : List Entry) → EachEntry IsQuiet t → EachEntry IsNoPost t
quiet_no_posts [] h = tt
quiet_no_posts (e ∷ t) h = (quiet_no_post e h.0, quiet_no_posts t h.1)
