-- Where takes are later than their puts, each lane of the merge is a queue: what is on it, with the stamps, goes along.
use Rattle.std.proofs.Common.{◌≡◌, ◌≢◌, ℕ, ◌≤◌, ◌==◌, Bool, true, false, if◌then◌else◌, MatchBool, List, [], ◌∷◌, ◌++◌, map, drop, Option, Some, None, refl, ap, sym, subst, ◌∙◌, arith, append_assoc, append-nil, inl, inr}
use Rattle.std.specs.Prelude.{All, filter_map, flat_map}
use Rattle.std.specs.List.{cons_option}
use Rattle.std.proofs.lemmas.Bool.{cases_Bool}
use Rattle.std.proofs.lemmas.Bool.Decides.{nat_tests}
use Rattle.std.proofs.lemmas.List.{map-append}
use Rattle.std.proofs.lemmas.List.Elements.{All-cons, All-head, All-nil, All-tail, filter_map-append}
use Rattle.mpt_trace.specs.Parties.{putter, taker}
use Rattle.mpt_trace.specs.declared.entry.Entry.{Entry}
use Rattle.mpt_trace.specs.declared.entry.Entry.TheVariants as entry
use Rattle.mpt_trace.specs.declared.item.Item.{Item}
use Rattle.mpt_trace.specs.declared.lane.LaneName.{LaneName}
use Rattle.mpt_trace.specs.declared.lane.LaneName.TheVariants as lane
use Rattle.mpt_trace.specs.declared.parties.Party.{Party}
use Rattle.mpt_wire.specs.Queues.Lanes.{IsFirst, LaneAsks, LanesInOrder, lane_next, same_lane}
use Rattle.mpt_wire.specs.Walks.Ahead.{is_of}
use Rattle.mpt_wire.specs.Walks.Passes.{Passes}
use Rattle.mpt_wire.proofs.Lanes.{lanes_in_order}
use Rattle.mpt_rules.specs.Session.Journals.{At, Block, Of, Row, TakesFollow, all_merged, all_of, at_if, is_not_after, merged, moment_values, party_number, placed, put_in, taken_in}
use Rattle.mpt_rules.specs.Session.Parts.{TakesAreLater, puts_in, takes_in}
use Rattle.mpt_rules.specs.Session.Sessions.{IsSession, Session, journals, session_trace}
use Rattle.mpt_rules.specs.World.Settings.{Setting}
use Rattle.mpt_journal.specs.Laws.{AreOfOthers, CasesRise, HasOwnEntries, NotBefore, PartiesDiffer, RisesOrStays, by_entries, each_of}
use Rattle.mpt_journal.proofs.Cases.{differ-entries, own-entries}
use Rattle.mpt_journal.proofs.Merges.{merged-nil}
use Rattle.mpt_journal.proofs.Parts.{number-from_same}
use Rattle.mpt_journal.proofs.Stamps.{IsntBefore, Sorted, before-through, sorted-all_merged}
use Rattle.mpt_journal.proofs.Whole.{all_of-front, keyed, merge-entries, never_falls}
use Rattle.law_sessions.proofs.Journals.{journals_differ, journals_own, journals_rise}

-- ---- what is picked out of a merge

module _ {X Y : Type 0} (pick : Of X → Option Y) where
  -- where nothing is picked of the second list
  picked-placed_left : (x : Of X) (xs : List (Of X)) → ((ys : List (Of X)) → filter_map pick ys ≡ [] → filter_map pick (merged xs ys) ≡ filter_map pick xs)
      → (ys : List (Of X)) → filter_map pick ys ≡ [] → filter_map pick (placed x (merged xs) ys) ≡ filter_map pick (x ∷ xs)
  picked-placed_left x xs rest [] h = ap (λ (zs : List (Of X)). filter_map pick (x ∷ zs)) (merged-nil xs)
  picked-placed_left x xs rest (y ∷ ys) h = elim (cases_Bool (is_not_after x y)) [
    | inl goes ↦ rw goes (ap (λ (zs : List Y). cons_option (pick x) zs) (rest (y ∷ ys) h))
    | inr waits ↦ rw waits (by_pick (pick y) h (picked-placed_left x xs rest ys))
  ]
    where
      by_pick : (o : Option Y) → cons_option o (filter_map pick ys) ≡ [] → (filter_map pick ys ≡ [] → filter_map pick (placed x (merged xs) ys) ≡ filter_map pick (x ∷ xs))
          → cons_option o (filter_map pick (placed x (merged xs) ys)) ≡ filter_map pick (x ∷ xs)
      by_pick None e ih = ih e
      by_pick (Some z) e ih = absurd (cc)

  pub picked_left : (xs ys : List (Of X)) → filter_map pick ys ≡ [] → filter_map pick (merged xs ys) ≡ filter_map pick xs
  picked_left [] ys h = h
  picked_left (x ∷ xs) ys h = picked-placed_left x xs (picked_left xs) ys h

  -- and where nothing is picked of the first
  picked-placed_right : (x : Of X) (xs : List (Of X)) → pick x ≡ None → ((ys : List (Of X)) → filter_map pick (merged xs ys) ≡ filter_map pick ys)
      → (ys : List (Of X)) → filter_map pick (placed x (merged xs) ys) ≡ filter_map pick ys
  picked-placed_right x xs none rest [] = rw none (rest [])
  picked-placed_right x xs none rest (y ∷ ys) = elim (cases_Bool (is_not_after x y)) [
    | inl goes ↦ rw (goes, none) (rest (y ∷ ys))
    | inr waits ↦ rw waits (ap (λ (zs : List Y). cons_option (pick y) zs) (picked-placed_right x xs none rest ys))
  ]

  pub picked_right : (xs ys : List (Of X)) → filter_map pick xs ≡ [] → filter_map pick (merged xs ys) ≡ filter_map pick ys
  picked_right [] ys h = refl
  picked_right (x ∷ xs) ys h = by_pick (pick x) refl h (λ zs none. picked_right xs zs none)
    where
      by_pick : (o : Option Y) → pick x ≡ o → cons_option o (filter_map pick xs) ≡ [] → ((zs : List (Of X)) → filter_map pick xs ≡ [] → filter_map pick (merged xs zs) ≡ filter_map pick zs)
          → filter_map pick (placed x (merged xs) ys) ≡ filter_map pick ys
      by_pick None e none ih = picked-placed_right x xs e (λ zs. ih zs none) ys
      by_pick (Some z) e none ih = absurd (cc)

-- ---- what one party's entries alone have

module _ (at : ℕ → Entry → Option (At Item)) (p : Party) where
  -- what is picked of a moment, with its stamp
  abbrev at_moment : Of Entry → Option (At Item)
  at_moment m = at m.at.stamp m.at.value

  module _ (others : (party : Party) → party_number party ≢ party_number p → (stamp : ℕ) (e : Entry) → is_of party e ≡ true → at stamp e ≡ None) where
    none_of_row : (party : Party) (n : ℕ) (moments : List (At Entry)) → party_number party ≢ party_number p → All (λ (m : At Entry). is_of party m.value ≡ true) moments → filter_map at_moment (all_of n moments) ≡ []
    none_of_row party n [] differ own = refl
    none_of_row party n (m ∷ ms) differ own =
        let none : at m.stamp m.value ≡ None = others party differ m.stamp m.value (All-head (λ (x : At Entry). is_of party x.value ≡ true) m ms own) in
        rw none (none_of_row party n ms differ (All-tail (λ (x : At Entry). is_of party x.value ≡ true) m ms own))

    -- none of the rows is the party's
    none_of_others : (rows : List (Row Entry)) → AreOfOthers p rows → All HasOwnEntries rows → filter_map at_moment (all_merged rows) ≡ []
    none_of_others [] differ own = refl
    none_of_others (row ∷ rows) differ own =
        picked_right at_moment (all_of (party_number row.party) row.moments) (all_merged rows)
        (none_of_row row.party (party_number row.party) row.moments (All-head (λ (r : Row Entry). party_number r.party ≢ party_number p) row rows differ) (All-head HasOwnEntries row rows own))
        ∙ none_of_others rows (All-tail (λ (r : Row Entry). party_number r.party ≢ party_number p) row rows differ) (All-tail HasOwnEntries row rows own)

    abbrev of_row : Row Entry → List (At Item)
    of_row row = filter_map at_moment (all_of (party_number row.party) row.moments)

    none_of_rows : (rows : List (Row Entry)) → AreOfOthers p rows → All HasOwnEntries rows → flat_map of_row rows ≡ []
    none_of_rows [] differ own = refl
    none_of_rows (row ∷ rows) differ own =
        ap (λ (zs : List (At Item)). zs ++ flat_map of_row rows)
        (none_of_row row.party (party_number row.party) row.moments (All-head (λ (r : Row Entry). party_number r.party ≢ party_number p) row rows differ) (All-head HasOwnEntries row rows own))
        ∙ none_of_rows rows (All-tail (λ (r : Row Entry). party_number r.party ≢ party_number p) row rows differ) (All-tail HasOwnEntries row rows own)

    same_others : (party : Party) (rows : List (Row Entry)) → party_number party ≡ party_number p → AreOfOthers party rows → AreOfOthers p rows
    same_others party rows same differ = subst (λ n. All (λ (r : Row Entry). party_number r.party ≢ n) rows) same differ

    -- the merge has what the rows have, one after the other: but one they have nothing
    pub picked : (rows : List (Row Entry)) → PartiesDiffer rows → All HasOwnEntries rows → filter_map at_moment (all_merged rows) ≡ flat_map of_row rows
    picked [] differ own = refl
    picked (row ∷ rows) differ own = by_party (party_number row.party == party_number p) refl (picked rows differ.1 (All-tail HasOwnEntries row rows own))
      where
        by_party : (b : Bool) → (party_number row.party == party_number p) ≡ b → filter_map at_moment (all_merged rows) ≡ flat_map of_row rows → filter_map at_moment (all_merged (row ∷ rows)) ≡ of_row row ++ flat_map of_row rows
        by_party true t ih =
            let same : party_number row.party ≡ party_number p = grind (arith, nat_tests, t) in
            let apart : AreOfOthers p rows = same_others row.party rows same differ.0 in
            let rest : All HasOwnEntries rows = All-tail HasOwnEntries row rows own in
            picked_left at_moment (all_of (party_number row.party) row.moments) (all_merged rows) (none_of_others rows apart rest)
            ∙ (sym (append-nil (of_row row)) ∙ ap (λ (zs : List (At Item)). of_row row ++ zs) (sym (none_of_rows rows apart rest)))
        by_party false t ih =
            let apart : party_number row.party ≢ party_number p = λ e. absurd (grind (arith, nat_tests, t, e)) in
            let none : of_row row ≡ [] = none_of_row row.party (party_number row.party) row.moments apart (All-head HasOwnEntries row rows own) in
            picked_right at_moment (all_of (party_number row.party) row.moments) (all_merged rows) none
            ∙ (ih ∙ ap (λ (zs : List (At Item)). zs ++ flat_map of_row rows) (sym none))

  -- of whole cases

  values_picked : (n stamp : ℕ) (es : List Entry) → filter_map at_moment (map (keyed stamp n) es) ≡ filter_map (at stamp) es
  values_picked n stamp [] = refl
  values_picked n stamp (e ∷ es) = ap (λ (zs : List (At Item)). cons_option (at stamp e) zs) (values_picked n stamp es)

  abbrev of_blocks : List Block → List (At Item)
  of_blocks blocks = flat_map (λ (block : Block). filter_map (at block.stamp) block.value) blocks

  blocks_picked : (n : ℕ) (blocks : List Block) → filter_map at_moment (all_of n (flat_map each_of blocks)) ≡ of_blocks blocks
  blocks_picked n [] = refl
  blocks_picked n (b ∷ bs) =
      ap (filter_map at_moment) (all_of-front n b.stamp b.value (flat_map each_of bs))
      ∙ (filter_map-append at_moment (map (keyed b.stamp n) b.value) (all_of n (flat_map each_of bs))
      ∙ (ap (λ (zs : List (At Item)). zs ++ filter_map at_moment (all_of n (flat_map each_of bs))) (values_picked n b.stamp b.value)
      ∙ ap (λ (zs : List (At Item)). filter_map (at b.stamp) b.value ++ zs) (blocks_picked n bs)))

  pub rows_picked : (rows : List (Row (List Entry))) → flat_map (λ (row : Row Entry). filter_map at_moment (all_of (party_number row.party) row.moments)) (map by_entries rows)
      ≡ flat_map (λ (row : Row (List Entry)). of_blocks row.moments) rows
  rows_picked [] = refl
  rows_picked (row ∷ rows) =
      ap (λ (zs : List (At Item)). zs ++ flat_map (λ (r : Row Entry). filter_map at_moment (all_of (party_number r.party) r.moments)) (map by_entries rows)) (blocks_picked (party_number row.party) row.moments)
      ∙ ap (λ (zs : List (At Item)). of_blocks row.moments ++ zs) (rows_picked rows)

-- ---- who puts on a lane, and who takes

pub lane_same : (a b : LaneName) → same_lane a b ≡ true → a ≡ b
lane_same lane.Down lane.Down h = refl
lane_same lane.Up lane.Up h = refl
lane_same (lane.UpOn i) (lane.UpOn j) h = ap lane.UpOn (grind (arith, nat_tests, h))
lane_same lane.Out lane.Out h = refl
lane_same lane.Back lane.Back h = refl
lane_same (lane.Ask i) (lane.Ask j) h = ap lane.Ask (grind (arith, nat_tests, h))
lane_same (lane.Tell i) (lane.Tell j) h = ap lane.Tell (grind (arith, nat_tests, h))
lane_same _ _ h = absurd (cc)

lane_other : (a b : LaneName) → same_lane a b ≡ same_lane b a
lane_other (lane.UpOn i) (lane.UpOn j) = grind (arith, nat_tests)
lane_other (lane.Ask i) (lane.Ask j) = grind (arith, nat_tests)
lane_other (lane.Tell i) (lane.Tell j) = grind (arith, nat_tests)
lane_other lane.Down lane.Down = refl
lane_other lane.Up lane.Up = refl
lane_other lane.Out lane.Out = refl
lane_other lane.Back lane.Back = refl
lane_other _ _ = refl

module _ (name : LaneName) where
  at_other : (p : Party) (l : LaneName) (stamp : ℕ) (item : Item) → party_number p ≢ party_number (putter name) → is_of p (entry.Put l item) ≡ true → at_if (same_lane name l) stamp item ≡ None
  at_other p l stamp item differ own = by_lane (same_lane name l) refl
    where
      by_lane : (b : Bool) → same_lane name l ≡ b → at_if b stamp item ≡ None
      by_lane false t = refl
      by_lane true t = absurd (differ (sym (number-from_same (putter l) p own) ∙ ap (λ (k : LaneName). party_number (putter k)) (sym (lane_same name l t))))

  taken_other : (p : Party) (l : LaneName) (stamp : ℕ) (item : Item) → party_number p ≢ party_number (taker name) → is_of p (entry.Take l item) ≡ true → at_if (same_lane name l) stamp item ≡ None
  taken_other p l stamp item differ own = by_lane (same_lane name l) refl
    where
      by_lane : (b : Bool) → same_lane name l ≡ b → at_if b stamp item ≡ None
      by_lane false t = refl
      by_lane true t = absurd (differ (sym (number-from_same (taker l) p own) ∙ ap (λ (k : LaneName). party_number (taker k)) (sym (lane_same name l t))))

  put_by_others : (p : Party) → party_number p ≢ party_number (putter name) → (stamp : ℕ) (e : Entry) → is_of p e ≡ true → put_in name stamp e ≡ None
  put_by_others p differ stamp (entry.Put l item) own = at_other p l stamp item differ own
  put_by_others p differ stamp _ own = refl

  taken_by_others : (p : Party) → party_number p ≢ party_number (taker name) → (stamp : ℕ) (e : Entry) → is_of p e ≡ true → taken_in name stamp e ≡ None
  taken_by_others p differ stamp (entry.Take l item) own = taken_other p l stamp item differ own
  taken_by_others p differ stamp _ own = refl

  -- ---- the walk over the merge

  abbrev put_at : Of Entry → Option (At Item)
  put_at m = put_in name m.at.stamp m.at.value

  abbrev taken_at : Of Entry → Option (At Item)
  taken_at m = taken_in name m.at.stamp m.at.value

  -- the first item has the stamp or a later one
  abbrev FromOn : ℕ → List (At Item) → Type 0
  FromOn stamp [] = Unit {0}
  FromOn stamp (x ∷ xs) = stamp ≤ x.stamp

  -- what is put from a moment on isn't put before it
  put_from : (s n : ℕ) (ms : List (Of Entry)) → IsntBefore s n ms → Sorted ms → FromOn s (filter_map put_at ms)
  put_from s n [] h sorted = tt
  put_from s n (m ∷ ms) h sorted = by_entry m.at.value (put_from s n ms (through ms sorted.0) sorted.1)
    where
      through : (zs : List (Of Entry)) → IsntBefore m.at.stamp m.number zs → IsntBefore s n zs
      through [] z = tt
      through (z ∷ zs) k = before-through s n m.at.stamp m.number z.at.stamp z.number h k

      first : s ≤ m.at.stamp
      first = grind (arith, nat_tests, h)

      by_lane : (b : Bool) (item : Item) → FromOn s (filter_map put_at ms) → FromOn s (cons_option (at_if b m.at.stamp item) (filter_map put_at ms))
      by_lane true item ih = first
      by_lane false item ih = ih

      by_entry : (e : Entry) → FromOn s (filter_map put_at ms) → FromOn s (cons_option (put_in name m.at.stamp e) (filter_map put_at ms))
      by_entry (entry.Put l item) ih = by_lane (same_lane name l) item ih
      by_entry _ ih = ih

  abbrev items_of : List (At Item) → List Item
  items_of xs = map (λ (x : At Item). x.value) xs

  -- what is on the lane, and what is put and taken from here on
  abbrev Follows : List (At Item) → List (Of Entry) → Type 0
  Follows waits ms = TakesFollow (waits ++ filter_map put_at ms) (filter_map taken_at ms)

  abbrev PassesOn : List (At Item) → List (Of Entry) → Type 0
  PassesOn waits ms = Passes (lane_next name) (LaneAsks name) (items_of waits) (moment_values ms)

  -- a put
  put_passes : (b : Bool) (waits : List (At Item)) (stamp : ℕ) (item : Item) (ms : List (Of Entry)) → ((ws : List (At Item)) → Follows ws ms → PassesOn ws ms)
      → TakesFollow (waits ++ cons_option (at_if b stamp item) (filter_map put_at ms)) (filter_map taken_at ms)
      → Passes (lane_next name) (LaneAsks name) (if b then items_of waits ++ item ∷ [] else items_of waits) (moment_values ms)
  put_passes false waits stamp item ms ih h = ih waits h
  put_passes true waits stamp item ms ih h =
      let x : At Item = record { stamp = stamp; value = item } in
      subst (λ (is : List Item). Passes (lane_next name) (LaneAsks name) is (moment_values ms)) (map-append (λ (y : At Item). y.value) waits (x ∷ []))
      (ih (waits ++ x ∷ []) (subst (λ (ps : List (At Item)). TakesFollow ps (filter_map taken_at ms)) (sym (append_assoc waits (x ∷ []) (filter_map put_at ms))) h))

  -- a take
  none_waits : (stamp : ℕ) (item : Item) (puts takes : List (At Item)) → FromOn stamp puts → TakesFollow puts (record { stamp = stamp; value = item } ∷ takes) → ⊥
  none_waits stamp item [] takes from h = h
  none_waits stamp item (x ∷ puts) takes from h = let l = h.1 in omega (arith, from, l)

  take_passes : (b : Bool) (waits : List (At Item)) (stamp : ℕ) (item : Item) (ms : List (Of Entry)) → FromOn stamp (filter_map put_at ms) → ((ws : List (At Item)) → Follows ws ms → PassesOn ws ms)
      → TakesFollow (waits ++ filter_map put_at ms) (cons_option (at_if b stamp item) (filter_map taken_at ms))
      → MatchBool b (IsFirst item (items_of waits)) (Unit {0}) × Passes (lane_next name) (LaneAsks name) (if b then drop 1 (items_of waits) else items_of waits) (moment_values ms)
  take_passes false waits stamp item ms from ih h = (tt, ih waits h)
  take_passes true [] stamp item ms from ih h = absurd (none_waits stamp item (filter_map put_at ms) (filter_map taken_at ms) from h)
  take_passes true (x ∷ waits) stamp item ms from ih h = ((items_of waits, ap (λ (i : Item). i ∷ items_of waits) h.0), ih waits h.2)

  walks : (waits : List (At Item)) (ms : List (Of Entry)) → Sorted ms → Follows waits ms → PassesOn waits ms
  walks waits [] sorted h = tt
  walks waits (m ∷ ms) sorted h = by_entry m.at.value (put_from m.at.stamp m.number ms sorted.0 sorted.1) (λ ws f. walks ws ms sorted.1 f) h
    where
      by_entry : (e : Entry) → FromOn m.at.stamp (filter_map put_at ms) → ((ws : List (At Item)) → Follows ws ms → PassesOn ws ms)
          → TakesFollow (waits ++ cons_option (put_in name m.at.stamp e) (filter_map put_at ms)) (cons_option (taken_in name m.at.stamp e) (filter_map taken_at ms))
          → LaneAsks name (items_of waits) e × Passes (lane_next name) (LaneAsks name) (lane_next name (items_of waits) e) (moment_values ms)
      by_entry (entry.Put l item) from ih h = (
        tt,
        put_passes (same_lane l name) waits m.at.stamp item ms ih
            (subst (λ (b : Bool). TakesFollow (waits ++ cons_option (at_if b m.at.stamp item) (filter_map put_at ms)) (filter_map taken_at ms)) (lane_other name l) h),
      )
      by_entry (entry.Take l item) from ih h = take_passes (same_lane l name) waits m.at.stamp item ms from ih
          (subst (λ (b : Bool). TakesFollow (waits ++ filter_map put_at ms) (cons_option (at_if b m.at.stamp item) (filter_map taken_at ms))) (lane_other name l) h)
      by_entry _ from ih h = (tt, ih waits h)

-- ---- the entries one by one are by stamp

-- the entries of a case, before later ones
case_stays : (stamp : ℕ) (es : List Entry) (rest : List (At Entry)) → NotBefore stamp rest → RisesOrStays rest
    → NotBefore stamp (map (λ (e : Entry). record { stamp = stamp; value = e }) es ++ rest) × RisesOrStays (map (λ (e : Entry). record { stamp = stamp; value = e }) es ++ rest)
case_stays stamp [] rest from stays = (from, stays)
case_stays stamp (e ∷ es) rest from stays = (omega arith, case_stays stamp es rest from stays)

entries_from : (s : ℕ) (blocks : List Block) → NotBefore s blocks → RisesOrStays blocks → NotBefore s (flat_map each_of blocks)
entries_from s [] h r = tt
entries_from s (b ∷ bs) h r = by_values b.value (entries_from s bs (through bs r.0) r.1)
  where
    through : (cs : List Block) → NotBefore b.stamp cs → NotBefore s cs
    through [] k = tt
    through (c ∷ cs) k = omega (arith, h, k)

    by_values : (es : List Entry) → NotBefore s (flat_map each_of bs) → NotBefore s (map (λ (e : Entry). record { stamp = b.stamp; value = e }) es ++ flat_map each_of bs)
    by_values [] ih = ih
    by_values (e ∷ es) ih = h

entries_stay : (blocks : List Block) → RisesOrStays blocks → RisesOrStays (flat_map each_of blocks)
entries_stay [] r = tt
entries_stay (b ∷ bs) r = (case_stays b.stamp b.value (flat_map each_of bs) (entries_from b.stamp bs r.0 r.1) (entries_stay bs r.1)).1

rows_stay : (rows : List (Row (List Entry))) → All CasesRise rows → All (λ (row : Row Entry). RisesOrStays row.moments) (map by_entries rows)
rows_stay [] h = All-nil (λ (row : Row Entry). RisesOrStays row.moments)
rows_stay (row ∷ rows) h =
    All-cons (λ (r : Row Entry). RisesOrStays r.moments) (by_entries row) (map by_entries rows)
    (entries_stay row.moments (never_falls row.moments (All-head CasesRise row rows h))) (rows_stay rows (All-tail CasesRise row rows h))

-- ---- a session

pub lanes_law : (s : Setting) (x : Session) → IsSession s x → TakesAreLater s x → LanesInOrder (session_trace s x)
lanes_law s x h later = lanes_in_order (session_trace s x) (λ name. of_lane name)
  where
    rows : List (Row (List Entry))
    rows = journals s x

    moments : List (Of Entry)
    moments = all_merged (map by_entries rows)

    rises : All CasesRise rows
    rises = journals_rise s x h

    sorted : Sorted moments
    sorted = sorted-all_merged (map by_entries rows) (rows_stay rows rises)

    differ : PartiesDiffer (map by_entries rows)
    differ = differ-entries rows (journals_differ s x)

    own : All HasOwnEntries (map by_entries rows)
    own = own-entries rows (journals_own s x)

    puts : (name : LaneName) → filter_map (put_at name) moments ≡ puts_in name rows
    puts name = picked (put_in name) (putter name) (put_by_others name) (map by_entries rows) differ own ∙ rows_picked (put_in name) (putter name) rows

    takes : (name : LaneName) → filter_map (taken_at name) moments ≡ takes_in name rows
    takes name = picked (taken_in name) (taker name) (taken_by_others name) (map by_entries rows) differ own ∙ rows_picked (taken_in name) (taker name) rows

    follows : (name : LaneName) → TakesFollow (filter_map (put_at name) moments) (filter_map (taken_at name) moments)
    follows name =
        subst (λ (ps : List (At Item)). TakesFollow ps (filter_map (taken_at name) moments)) (sym (puts name))
        (subst (λ (ts : List (At Item)). TakesFollow (puts_in name rows) ts) (sym (takes name)) (later name))

    of_lane : (name : LaneName) → Passes (lane_next name) (LaneAsks name) [] (session_trace s x)
    of_lane name = subst (λ (t : List Entry). Passes (lane_next name) (LaneAsks name) [] t) (merge-entries rows rises) (walks name [] moments sorted (follows name))
