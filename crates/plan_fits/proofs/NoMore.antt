-- Nothing is put on the lanes of submitters that aren't there, exactly where no entry puts anything on one.
use Rattle.std.proofs.Common.{◌≡◌, ◌∙◌, ◌+◌, ◌-◌, ℕ, ◌==◌, not, Bool, true, false, if◌then◌else◌, List, [], ◌∷◌, Option, Some, None, filter_map, refl, sym, ap, arith}
use Rattle.std.specs.List.{cons_option, list_any}
use Rattle.mpt_trace.specs.declared.entry.Entry.{Entry}
use Rattle.mpt_trace.specs.declared.entry.Entry.TheVariants as entry
use Rattle.mpt_trace.specs.declared.item.Item.{Item}
use Rattle.mpt_trace.specs.declared.lane.LaneName.{LaneName}
use Rattle.mpt_trace.specs.declared.lane.LaneName.TheVariants as lane
use Rattle.mpt_wire.specs.Fits.Plan.{NoMoreAsks}
use Rattle.mpt_wire.specs.Queues.Lanes.{put_on_lane, same_lane}
use Rattle.plan_fits.specs.Told.{is_lane_beyond, is_put_beyond}

not_asked : (n i : ℕ) (l : LaneName) → is_lane_beyond n l ≡ false → same_lane l (lane.Ask (n + i)) ≡ false
not_asked n i lane.Down near = refl
not_asked n i lane.Up near = refl
not_asked n i (lane.UpOn k) near = refl
not_asked n i lane.Out near = refl
not_asked n i lane.Back near = refl
not_asked n i (lane.Ask k) near = grind (arith, near)
not_asked n i (lane.Tell k) near = refl

not_told : (n i : ℕ) (l : LaneName) → is_lane_beyond n l ≡ false → same_lane l (lane.Tell (n + i)) ≡ false
not_told n i lane.Down near = refl
not_told n i lane.Up near = refl
not_told n i (lane.UpOn k) near = refl
not_told n i lane.Out near = refl
not_told n i lane.Back near = refl
not_told n i (lane.Ask k) near = refl
not_told n i (lane.Tell k) near = grind (arith, near)

-- an entry that puts nothing beyond puts nothing on such a lane
nothing : (n : ℕ) (name : LaneName) (e : Entry) → ((l : LaneName) → is_lane_beyond n l ≡ false → same_lane l name ≡ false) → is_put_beyond n e ≡ false → put_on_lane name e ≡ None
nothing n name (entry.Put l item) far near = ap (λ (b : Bool). if b then Some item else None) (far l near)
nothing n name (entry.Given input) far near = refl
nothing n name (entry.Idle choice) far near = refl
nothing n name (entry.Take l item) far near = refl
nothing n name (entry.Bind handle address plug) far near = refl
nothing n name (entry.Unbind handle) far near = refl
nothing n name entry.UnbindAll far near = refl
nothing n name (entry.Run address tag) far near = refl
nothing n name entry.HostUp far near = refl
nothing n name (entry.Ready address handle) far near = refl
nothing n name (entry.Lost address handle) far near = refl
nothing n name (entry.Accept k address smid) far near = refl
nothing n name (entry.RefuseSubmit k cause) far near = refl
nothing n name (entry.Refuse call cause) far near = refl
nothing n name (entry.Answer k outcome) far near = refl
nothing n name (entry.AbortEnd k outcome) far near = refl
nothing n name (entry.TargetEnd address outcome) far near = refl
nothing n name entry.ResetDone far near = refl

one : (n : ℕ) (name : LaneName) (e : Entry) (t : List Entry) → ((l : LaneName) → is_lane_beyond n l ≡ false → same_lane l name ≡ false) → is_put_beyond n e ≡ false → filter_map (put_on_lane name) (e ∷ t) ≡ filter_map (put_on_lane name) t
one n name e t far near = ap (λ (o : Option Item). cons_option o (filter_map (put_on_lane name) t)) (nothing n name e far near)

-- such an entry may be left out
pub left_out : (n : ℕ) (e : Entry) (t : List Entry) → is_put_beyond n e ≡ false → (NoMoreAsks n (e ∷ t) → NoMoreAsks n t) × (NoMoreAsks n t → NoMoreAsks n (e ∷ t))
left_out n e t near = (
  λ (bare : NoMoreAsks n (e ∷ t)) i. (sym (one n (lane.Ask (n + i)) e t (not_asked n i) near) ∙ (bare i).0, sym (one n (lane.Tell (n + i)) e t (not_told n i) near) ∙ (bare i).1),
  λ (bare : NoMoreAsks n t) i. (one n (lane.Ask (n + i)) e t (not_asked n i) near ∙ (bare i).0, one n (lane.Tell (n + i)) e t (not_told n i) near ∙ (bare i).1),
)

some : {X : Type 0} (x : X) (xs : List X) → x ∷ xs ≡ [] → ⊥
some x xs is = grind (arith, is)

same : (k : ℕ) → (k == k) ≡ true
same k = grind (arith)

shown : (k : ℕ) (o : Bool) (item : Item) (t : List Item) → o ≡ true → cons_option (if o then Some item else None) t ≡ item ∷ t
shown k o item t is = ap (λ (b : Bool). cons_option (if b then Some item else None) t) is

at_lane : (n : ℕ) (l : LaneName) (item : Item) (t : List Entry) → is_lane_beyond n l ≡ true → NoMoreAsks n (entry.Put l item ∷ t) → ⊥
at_lane n lane.Down item t far bare = grind (arith, far)
at_lane n lane.Up item t far bare = grind (arith, far)
at_lane n (lane.UpOn k) item t far bare = grind (arith, far)
at_lane n lane.Out item t far bare = grind (arith, far)
at_lane n lane.Back item t far bare = grind (arith, far)
at_lane n (lane.Ask k) item t far bare =
    some item (filter_map (put_on_lane (lane.Ask (n + (k - n)))) t) (sym (shown k (k == n + (k - n)) item (filter_map (put_on_lane (lane.Ask (n + (k - n)))) t) (grind (arith, far))) ∙ (bare (k - n)).0)
at_lane n (lane.Tell k) item t far bare =
    some item (filter_map (put_on_lane (lane.Tell (n + (k - n)))) t) (sym (shown k (k == n + (k - n)) item (filter_map (put_on_lane (lane.Tell (n + (k - n)))) t) (grind (arith, far))) ∙ (bare (k - n)).1)

-- an entry that puts something beyond is one too many
broken : (n : ℕ) (e : Entry) (t : List Entry) → is_put_beyond n e ≡ true → NoMoreAsks n (e ∷ t) → ⊥
broken n (entry.Put l item) t far bare = at_lane n l item t far bare
broken n (entry.Given input) t far bare = grind (arith, far)
broken n (entry.Idle choice) t far bare = grind (arith, far)
broken n (entry.Take l item) t far bare = grind (arith, far)
broken n (entry.Bind handle address plug) t far bare = grind (arith, far)
broken n (entry.Unbind handle) t far bare = grind (arith, far)
broken n entry.UnbindAll t far bare = grind (arith, far)
broken n (entry.Run address tag) t far bare = grind (arith, far)
broken n entry.HostUp t far bare = grind (arith, far)
broken n (entry.Ready address handle) t far bare = grind (arith, far)
broken n (entry.Lost address handle) t far bare = grind (arith, far)
broken n (entry.Accept k address smid) t far bare = grind (arith, far)
broken n (entry.RefuseSubmit k cause) t far bare = grind (arith, far)
broken n (entry.Refuse call cause) t far bare = grind (arith, far)
broken n (entry.Answer k outcome) t far bare = grind (arith, far)
broken n (entry.AbortEnd k outcome) t far bare = grind (arith, far)
broken n (entry.TargetEnd address outcome) t far bare = grind (arith, far)
broken n entry.ResetDone t far bare = grind (arith, far)

law_after : (n : ℕ) (e : Entry) (t : List Entry) → (list_any (is_put_beyond n) t ≡ false → NoMoreAsks n t) × (NoMoreAsks n t → list_any (is_put_beyond n) t ≡ false) → (b : Bool) → is_put_beyond n e ≡ b → (list_any (is_put_beyond n) (e ∷ t) ≡ false → NoMoreAsks n (e ∷ t)) × (NoMoreAsks n (e ∷ t) → list_any (is_put_beyond n) (e ∷ t) ≡ false)
law_after n e t rest true is = (λ none. absurd (grind (arith, is, none)), λ bare. absurd (broken n e t is bare))
law_after n e t rest false is = (
  λ none. (left_out n e t is).1 (rest.0 (grind (arith, is, none))),
  λ bare. grind (arith, is, rest.1 ((left_out n e t is).0 bare)),
)

-- nothing is put beyond exactly where no entry puts anything there
pub no_more_law : (n : ℕ) (t : List Entry) → (list_any (is_put_beyond n) t ≡ false → NoMoreAsks n t) × (NoMoreAsks n t → list_any (is_put_beyond n) t ≡ false)
no_more_law n [] = (λ none i. (refl, refl), λ bare. refl)
no_more_law n (e ∷ t) = law_after n e t (no_more_law n t) (is_put_beyond n e) refl

-- where the submitters ask their lines, the rest is whether something is put beyond
pub asked_all : {A : Type 0} (n : ℕ) (t : List Entry) (b : Bool) → A → b ≡ list_any (is_put_beyond n) t → (not b ≡ true → A × NoMoreAsks n t) × (A × NoMoreAsks n t → not b ≡ true)
asked_all n t true a is = (λ bare. absurd (grind (arith, bare)), λ both. absurd (grind (arith, is, (no_more_law n t).1 both.1)))
asked_all n t false a is = (λ bare. (a, (no_more_law n t).0 (sym is)), λ both. refl)
