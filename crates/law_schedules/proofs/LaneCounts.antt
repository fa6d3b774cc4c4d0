-- All that was put on a lane was taken exactly where the lane's rule has nothing on it.
use Rattle.std.proofs.Common.{◌≡◌, ℕ, ◌+◌, ◌≤◌, ◌==◌, Bool, true, false, if◌then◌else◌, List, [], ◌∷◌, ◌++◌, drop, filter_map, length, Some, None, MatchBool, ap, sym, subst, ◌∙◌, append_assoc, append-nil, arith}
use Rattle.std.specs.List.{cons_option}
use Rattle.std.proofs.lemmas.Bool.Decides.{nat_tests}
use Rattle.mpt_trace.specs.declared.entry.Entry.{Entry}
use Rattle.mpt_trace.specs.declared.entry.Entry.TheVariants as entry
use Rattle.mpt_trace.specs.declared.item.Item.{Item}
use Rattle.mpt_trace.specs.declared.lane.LaneName.{LaneName}
use Rattle.mpt_wire.specs.Fits.Blocks.{all_taken, is_empty}
use Rattle.mpt_wire.specs.Queues.Lanes.{IsFirst, LaneAsks, lane_next, put_on_lane, same_lane, taken_from}
use Rattle.mpt_wire.specs.Walks.Passes.{Passes, state_after}
use Rattle.mpt_rules.specs.World.Cases as world
use Rattle.mpt_rules.specs.World.Cases.{Case, trace}
use Rattle.mpt_rules.specs.World.Settings.{Setting, first_world}
use Rattle.law_flights.proofs.Lanes.{lane_items}
use Rattle.law_flights.proofs.LanesKept.{lane_is}
use Rattle.law_schedules.proofs.DiskCounts.{length_append}

equal : (a b : ℕ) → a ≡ b + 0 → (a == b) ≡ true
equal a b e = grind (arith, nat_tests, e)

apart : (a b m : ℕ) → a ≡ b + m → 1 ≤ m → (a == b) ≡ false
apart a b m e l = grind (arith, nat_tests, e, l)

module _ (lane : LaneName) where
  put_step : (b : Bool) (items : List Item) (x : Item) (puts taken rest : List Item) → (if b then items ++ x ∷ [] else items) ++ puts ≡ taken ++ rest → items ++ cons_option (if b then Some x else None) puts ≡ taken ++ rest
  put_step true items x puts taken rest h = sym (append_assoc items (x ∷ []) puts) ∙ h
  put_step false items x puts taken rest h = h

  take_step : (b : Bool) (items : List Item) (x : Item) (puts taken rest : List Item) → MatchBool b (IsFirst x items) (Unit {0}) → (if b then drop 1 items else items) ++ puts ≡ taken ++ rest → items ++ puts ≡ cons_option (if b then Some x else None) taken ++ rest
  take_step true items x puts taken rest f h = subst (λ (ys : List Item). drop 1 ys ++ puts ≡ taken ++ rest → ys ++ puts ≡ x ∷ (taken ++ rest)) (sym f.1) (λ z. ap (λ (l : List Item). x ∷ l) z) h
  take_step false items x puts taken rest f h = h

  -- what was put is what was taken, and then what is on the lane
  pub put_is : (items : List Item) (t : List Entry) → Passes (lane_next lane) (LaneAsks lane) items t → items ++ filter_map (put_on_lane lane) t ≡ filter_map (taken_from lane) t ++ state_after (lane_next lane) items t
  put_is items [] h = append-nil items
  put_is items (entry.Put l item ∷ t) h = put_step (same_lane l lane) items item (filter_map (put_on_lane lane) t) (filter_map (taken_from lane) t) (state_after (lane_next lane) (lane_next lane items (entry.Put l item)) t) (put_is (lane_next lane items (entry.Put l item)) t h.1)
  put_is items (entry.Take l item ∷ t) h = take_step (same_lane l lane) items item (filter_map (put_on_lane lane) t) (filter_map (taken_from lane) t) (state_after (lane_next lane) (lane_next lane items (entry.Take l item)) t) h.0 (put_is (lane_next lane items (entry.Take l item)) t h.1)
  put_is items (_ ∷ t) h = put_is items t h.1

  pub taken_all : (t : List Entry) → Passes (lane_next lane) (LaneAsks lane) [] t → all_taken lane t ≡ is_empty (state_after (lane_next lane) [] t)
  taken_all t h =
      by_state (state_after (lane_next lane) [] t)
      (ap (λ (items : List Item). length items) (put_is [] t h) ∙ length_append (filter_map (taken_from lane) t) (state_after (lane_next lane) [] t))
    where
      by_state : (s : List Item) → length (filter_map (put_on_lane lane) t) ≡ length (filter_map (taken_from lane) t) + length s → (length (filter_map (put_on_lane lane) t) == length (filter_map (taken_from lane) t)) ≡ is_empty s
      by_state [] e = equal (length (filter_map (put_on_lane lane) t)) (length (filter_map (taken_from lane) t)) e
      by_state (x ∷ xs) e = apart (length (filter_map (put_on_lane lane) t)) (length (filter_map (taken_from lane) t)) (length (x ∷ xs)) e (omega arith)

-- all that was put on a lane was taken exactly where the world has nothing on it
pub lane_taken : (lane : LaneName) (s : Setting) (cases : List Case) → all_taken lane (trace (first_world s) cases) ≡ is_empty (lane_items lane (world.run (first_world s) cases).down (world.run (first_world s) cases).up (world.run (first_world s) cases).out (world.run (first_world s) cases).back)
lane_taken lane s cases =
    let k = lane_is lane s cases in
    taken_all lane (trace (first_world s) cases) k.0 ∙ ap (λ (items : List Item). is_empty items) k.1
