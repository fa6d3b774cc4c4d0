-- Several lanes of one kind, of which one has one more item.
use Rattle.std.proofs.Common.{◌≡◌, ◌≢◌, ◌∙◌, ◌<◌, ◌==◌, ℕ, Bool, true, false, List, [], ◌∷◌, ◌++◌, ap, append-nil, arith, get_or, length, map, set, subst, sym}
use Rattle.std.specs.List.{cons_option}
use Rattle.std.proofs.lemmas.Bool.Decides.{nat_tests}
use Rattle.std.proofs.lemmas.List.{get_or-map, get_or-set_other, get_or-set_same, length-map, map-set}
use Rattle.std.proofs.Math.Seq.{map-set_same}
use Rattle.mpt_trace.specs.declared.item.Item.{Item}
use Rattle.mpt_rules.specs.Session.Journals.{At, at_if}
use Rattle.mpt_live.specs.Lanes.{LaneEnd, with_item}
use Rattle.mpt_live.specs.Traffic.{items_as, items_of, lanes_of}
use Rattle.mpt_live.specs.declared.sent.Sent.{Sent}
use Rattle.mpt_live.proofs.Kept.{items_with}

-- the end stands at this place
pub record IsAt {T : Type 0} (ends : List (LaneEnd T)) (i : ℕ) (end : LaneEnd T) : Type 0 where
  pub within : i < length ends
  pub is : end ≡ get_or ends i end

pub at_place : {T : Type 0} (ends : List (LaneEnd T)) (j i : ℕ) (end : LaneEnd T) → j ≡ i → j < length ends → end ≡ get_or ends j end → IsAt ends i end
at_place ends j i end same within is = subst (λ k. IsAt ends k end) same (record { within = within; is = is })

module _ {T : Type 0} (kind : T → Item) (ends : List (LaneEnd T)) (i : ℕ) (end : LaneEnd T) (sent : Sent T) (here : i < length ends) (is : end ≡ get_or ends i end) where
  abbrev after : List (LaneEnd T)
  after = set ends i (with_item end sent)

  abbrev all_items : List (List (At Item))
  all_items = map (items_as kind) ends

  -- which lanes they are
  pub several_same : lanes_of after ≡ lanes_of ends
  several_same = map-set_same (λ (e : LaneEnd T). e.lane) ends i (with_item end sent) end (ap (λ (e : LaneEnd T). e.lane) is)

  own_items : get_or all_items i [] ≡ items_as kind end
  own_items = get_or-map (items_as kind) ends i end [] here ∙ ap (items_as kind) (sym is)

  items_set : (j : ℕ) → items_of kind after j ≡ get_or (set all_items i (items_as kind (with_item end sent))) j []
  items_set j = ap (λ xs. get_or xs j []) (map-set (items_as kind) ends i (with_item end sent))

  -- the items of each
  pub several_items : (j : ℕ) (on : Bool) → (j == i) ≡ on → items_of kind after j ≡ items_of kind ends j ++ cons_option (at_if on sent.stamp (kind sent.item)) []
  several_items j true t =
      let same : j ≡ i = grind (arith, nat_tests, t) in
      let within : i < length all_items = subst (λ n. i < n) (sym (length-map ends (items_as kind))) here in
      items_set j ∙ ap (λ k. get_or (set all_items i (items_as kind (with_item end sent))) k []) same
      ∙ get_or-set_same all_items i (items_as kind (with_item end sent)) [] within
      ∙ items_with kind end sent ∙ ap (λ xs. xs ++ record { stamp = sent.stamp; value = kind sent.item } ∷ []) (sym own_items ∙ ap (λ k. get_or all_items k []) (sym same))
  several_items j false t =
      let other : j ≢ i = λ e. absurd (grind (arith, nat_tests, t, e)) in
      items_set j ∙ get_or-set_other all_items i j (items_as kind (with_item end sent)) [] other ∙ sym (append-nil (items_of kind ends j))
