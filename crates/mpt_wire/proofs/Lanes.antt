-- A lane is a queue at each entry exactly where in every prefix of the trace a prefix of what was put on it was taken.
use Rattle.std.proofs.Common.{ℕ, zero, suc, Bool, true, false, if◌then◌else◌, List, [], ◌∷◌, ◌++◌, take, drop, filter_map, Some, None, MatchBool, refl, ap, sym, ◌∙◌, append_assoc, append-nil}
use Rattle.std.specs.List.{cons_option}
use Rattle.mpt_trace.specs.declared.lane.LaneName.{LaneName}
use Rattle.mpt_trace.specs.declared.item.Item.{Item}
use Rattle.mpt_trace.specs.declared.entry.Entry.{Entry}
use Rattle.mpt_trace.specs.declared.entry.Entry.TheVariants as entry
use Rattle.mpt_wire.specs.Queues.Lanes.{same_lane, put_on_lane, taken_from, IsPrefixOf, LanesInOrder, IsFirst, lane_next, LaneAsks, LanesPass}
use Rattle.mpt_wire.specs.Walks.Passes.{Passes}

-- what is put later joins the lane
put_more : {X : Type 0} (items : List X) (x : X) (puts taken : List X) → IsPrefixOf taken ((items ++ x ∷ []) ++ puts) → IsPrefixOf taken (items ++ x ∷ puts)
put_more items x puts taken h = (h.0, h.1 ∙ append_assoc items (x ∷ []) puts)

-- what is taken was the first on the lane
take_more : {X : Type 0} (items : List X) (x : X) (puts taken : List X) → IsFirst x items → IsPrefixOf taken (drop 1 items ++ puts) → IsPrefixOf (x ∷ taken) (items ++ puts)
take_more items x puts taken first h = rw first.1 (h.0, ap (λ l. x ∷ l) (rw first.1 at h.1))

first_of : {X : Type 0} (items : List X) (x : X) → IsPrefixOf (x ∷ []) (items ++ []) → IsFirst x items
first_of items x p = (p.0, sym (p.1 ∙ append-nil items))

rest_of : {X : Type 0} (items : List X) (x : X) (puts taken : List X) → IsFirst x items → IsPrefixOf (x ∷ taken) (items ++ puts) → IsPrefixOf taken (drop 1 items ++ puts)
rest_of items x puts taken f p = rw f.1 (p.0, ap (drop 1) (rw f.1 at p.1))

put_of : {X : Type 0} (items : List X) (x : X) (puts taken : List X) → IsPrefixOf taken (items ++ x ∷ puts) → IsPrefixOf taken ((items ++ x ∷ []) ++ puts)
put_of items x puts taken p = (p.0, p.1 ∙ sym (append_assoc items (x ∷ []) puts))

module _ (lane : LaneName) where
  -- what was taken from the lane in the first k entries, behind these items, was on it or put there
  abbrev IsInOrderFrom : List Item → List Entry → Type 0
  IsInOrderFrom items t = (k : ℕ) → IsPrefixOf (filter_map (taken_from lane) (take k t)) (items ++ filter_map (put_on_lane lane) (take k t))

  put_step : (b : Bool) (items : List Item) (item : Item) (puts taken : List Item) → IsPrefixOf taken ((if b then items ++ item ∷ [] else items) ++ puts) → IsPrefixOf taken (items ++ cons_option (if b then Some item else None) puts)
  put_step true items item puts taken h = put_more items item puts taken h
  put_step false items item puts taken h = h

  take_step : (b : Bool) (items : List Item) (item : Item) (puts taken : List Item) → MatchBool b (IsFirst item items) (Unit {0}) → IsPrefixOf taken ((if b then drop 1 items else items) ++ puts) → IsPrefixOf (cons_option (if b then Some item else None) taken) (items ++ puts)
  take_step true items item puts taken first h = take_more items item puts taken first h
  take_step false items item puts taken first h = h

  pub in_order_from : (items : List Item) (t : List Entry) → Passes (lane_next lane) (LaneAsks lane) items t → IsInOrderFrom items t
  in_order_from items t h zero = (items ++ [], refl)
  in_order_from items [] h (suc k) = (items ++ [], refl)
  in_order_from items (entry.Put l item ∷ t) h (suc k) = put_step (same_lane l lane) items item _ _ (in_order_from (lane_next lane items (entry.Put l item)) t h.1 k)
  in_order_from items (entry.Take l item ∷ t) h (suc k) = take_step (same_lane l lane) items item _ _ h.0 (in_order_from (lane_next lane items (entry.Take l item)) t h.1 k)
  in_order_from items (_ ∷ t) h (suc k) = in_order_from items t h.1 k

  put_back : (b : Bool) (items : List Item) (item : Item) (puts taken : List Item) → IsPrefixOf taken (items ++ cons_option (if b then Some item else None) puts) → IsPrefixOf taken ((if b then items ++ item ∷ [] else items) ++ puts)
  put_back true items item puts taken h = put_of items item puts taken h
  put_back false items item puts taken h = h

  asks_back : (b : Bool) (items : List Item) (item : Item) → IsPrefixOf (cons_option (if b then Some item else None) []) (items ++ []) → MatchBool b (IsFirst item items) (Unit {0})
  asks_back true items item h = first_of items item h
  asks_back false items item h = tt

  take_back : (b : Bool) (items : List Item) (item : Item) (puts taken : List Item) → MatchBool b (IsFirst item items) (Unit {0}) → IsPrefixOf (cons_option (if b then Some item else None) taken) (items ++ puts) → IsPrefixOf taken ((if b then drop 1 items else items) ++ puts)
  take_back true items item puts taken first h = rest_of items item puts taken first h
  take_back false items item puts taken first h = h

  pub passes_from : (items : List Item) (t : List Entry) → IsInOrderFrom items t → Passes (lane_next lane) (LaneAsks lane) items t
  passes_from items [] h = tt
  passes_from items (entry.Put l item ∷ t) h = (tt, passes_from (lane_next lane items (entry.Put l item)) t (λ k. put_back (same_lane l lane) items item _ _ (h (suc k))))
  passes_from items (entry.Take l item ∷ t) h =
      let first = asks_back (same_lane l lane) items item (h 1) in
      (first, passes_from (lane_next lane items (entry.Take l item)) t (λ k. take_back (same_lane l lane) items item _ _ first (h (suc k))))
  passes_from items (_ ∷ t) h = (tt, passes_from items t (λ k. h (suc k)))

pub lanes_in_order : (t : List Entry) → LanesPass t → LanesInOrder t
lanes_in_order t h lane = in_order_from lane [] t (h lane)

pub lanes_pass : (t : List Entry) → LanesInOrder t → LanesPass t
lanes_pass t h lane = passes_from lane [] t (h lane)
