-- A case keeps a journal and its lanes together.
use Rattle.std.proofs.Common.{◌≡◌, ◌<◌, ◌∙◌, ℕ, Bool, true, false, List, [], ◌∷◌, ◌++◌, Option, None, ap, map, refl, sym, subst, append-nil}
use Rattle.std.specs.Prelude.{filter_map}
use Rattle.std.specs.List.{cons_option}
use Rattle.std.proofs.lemmas.List.{map-append}
use Rattle.std.proofs.lemmas.List.Elements.{filter_map-append}
use Rattle.mpt_trace.specs.declared.entry.Entry.{Entry}
use Rattle.mpt_trace.specs.declared.entry.Entry.TheVariants as entry
use Rattle.mpt_trace.specs.declared.item.Item.{Item}
use Rattle.mpt_trace.specs.declared.lane.LaneName.{LaneName}
use Rattle.mpt_wire.specs.Queues.Lanes.{same_lane}
use Rattle.mpt_rules.specs.Session.Journals.{At, at_if, put_in, taken_in}
use Rattle.mpt_live.specs.Lanes.{LaneEnd, with_item}
use Rattle.mpt_live.specs.Recorded.{stamped_with}
use Rattle.mpt_live.specs.Traffic.{Account, AreTaken, KeepsLanes, RecordsLanes, Traffic, items_as, puts_on, takes_on}
use Rattle.mpt_live.specs.declared.sent.Sent.{Sent}

-- ---- what a journal has with entries at its end

module _ (pick : ℕ → Entry → Option (At Item)) where
  abbrev picked : List (At Entry) → List (At Item)
  picked moments = filter_map (λ (m : At Entry). pick m.stamp m.value) moments

  picked_of : (stamp : ℕ) (es : List Entry) → picked (map (λ (e : Entry). record { stamp = stamp; value = e }) es) ≡ filter_map (pick stamp) es
  picked_of stamp [] = refl
  picked_of stamp (e ∷ es) = ap (λ xs. cons_option (pick stamp e) xs) (picked_of stamp es)

  pub picked_with : (ms : List (At Entry)) (stamp : ℕ) (es : List Entry) → picked (ms ++ map (λ (e : Entry). record { stamp = stamp; value = e }) es) ≡ picked ms ++ filter_map (pick stamp) es
  picked_with ms stamp es =
      filter_map-append (λ (m : At Entry). pick m.stamp m.value) ms (map (λ (e : Entry). record { stamp = stamp; value = e }) es)
      ∙ ap (λ xs. picked ms ++ xs) (picked_of stamp es)

-- ---- what was taken, one more at a time

pub taken_on : (rs ts : List (At Item)) (r t : At Item) → r.value ≡ t.value → r.stamp < t.stamp → AreTaken rs ts → AreTaken (rs ++ r ∷ []) (ts ++ t ∷ [])
taken_on [] [] r t same later h = (same, later, tt)
taken_on [] (y ∷ ts) r t same later h = absurd h
taken_on (x ∷ rs) [] r t same later h = absurd h
taken_on (x ∷ rs) (y ∷ ts) r t same later h = (h.0, h.1, taken_on rs ts r t same later h.2)

-- ---- entries that are no puts and no takes

abbrev pub IsOffLanes : Entry → Type 0
IsOffLanes (entry.Put l i) = ⊥
IsOffLanes (entry.Take l i) = ⊥
IsOffLanes _ = Unit {0}

abbrev pub AreOffLanes : List Entry → Type 0
AreOffLanes [] = Unit {0}
AreOffLanes (e ∷ es) = IsOffLanes e × AreOffLanes es

no_put : (name : LaneName) (stamp : ℕ) (e : Entry) → IsOffLanes e → put_in name stamp e ≡ None
no_put name stamp (entry.Put l i) h = absurd h
no_put name stamp _ h = refl

no_take : (name : LaneName) (stamp : ℕ) (e : Entry) → IsOffLanes e → taken_in name stamp e ≡ None
no_take name stamp (entry.Take l i) h = absurd h
no_take name stamp _ h = refl

no_puts : (name : LaneName) (stamp : ℕ) (es : List Entry) → AreOffLanes es → filter_map (put_in name stamp) es ≡ []
no_puts name stamp [] h = refl
no_puts name stamp (e ∷ es) h = ap (λ o. cons_option o (filter_map (put_in name stamp) es)) (no_put name stamp e h.0) ∙ no_puts name stamp es h.1

no_takes : (name : LaneName) (stamp : ℕ) (es : List Entry) → AreOffLanes es → filter_map (taken_in name stamp) es ≡ []
no_takes name stamp [] h = refl
no_takes name stamp (e ∷ es) h = ap (λ o. cons_option o (filter_map (taken_in name stamp) es)) (no_take name stamp e h.0) ∙ no_takes name stamp es h.1

-- ---- an item through an end of a lane

-- an item of the lane l, if the lane is that one
abbrev pub one_on : LaneName → At Item → LaneName → List (At Item)
one_on l at name = cons_option (at_if (same_lane name l) at.stamp at.value) []

-- one more item was sent on a lane
pub record Sends (l : LaneName) (at : At Item) (before after : Traffic) : Type 0 where
  pub sent : (name : LaneName) → after.sent name ≡ before.sent name ++ one_on l at name
  pub received : (name : LaneName) → after.received name ≡ before.received name

-- one more was received from a lane
pub record Receives (l : LaneName) (at : At Item) (before after : Traffic) : Type 0 where
  pub sent : (name : LaneName) → after.sent name ≡ before.sent name
  pub received : (name : LaneName) → after.received name ≡ before.received name ++ one_on l at name

module _ (a b : Account) (stamp : ℕ) (same : b.lanes ≡ a.lanes) where
  -- the case has no put and no take
  pub keeps_off : (es : List Entry) → b.row ≡ stamped_with a.row stamp es → AreOffLanes es → b.traffic ≡ a.traffic → KeepsLanes a b
  keeps_off es row off is = record { records = records; lanes = same }
    where
      records : RecordsLanes a.row a.traffic → RecordsLanes b.row b.traffic
      records h = record {
        puts = λ name.
            ap (puts_on name) row ∙ picked_with (put_in name) a.row.moments stamp es ∙ ap (λ xs. puts_on name a.row ++ xs) (no_puts name stamp es off)
            ∙ append-nil (puts_on name a.row) ∙ h.puts name ∙ ap (λ (t : Traffic). t.sent name) (sym is);
        takes = λ name.
            subst (λ (t : Traffic). AreTaken (t.received name) (takes_on name b.row)) (sym is)
            (subst (AreTaken (a.traffic.received name))
            (sym
            (ap (takes_on name) row ∙ picked_with (taken_in name) a.row.moments stamp es ∙ ap (λ xs. takes_on name a.row ++ xs) (no_takes name stamp es off)
            ∙ append-nil (takes_on name a.row)))
            (h.takes name));
      }

  -- the case puts an item on a lane, and does no more
  pub keeps_put : (l : LaneName) (i : Item) → b.row ≡ stamped_with a.row stamp (entry.Put l i ∷ []) → Sends l (record { stamp = stamp; value = i }) a.traffic b.traffic → KeepsLanes a b
  keeps_put l i row sends = record { records = records; lanes = same }
    where
      records : RecordsLanes a.row a.traffic → RecordsLanes b.row b.traffic
      records h = record {
        puts = λ name.
            ap (puts_on name) row ∙ picked_with (put_in name) a.row.moments stamp (entry.Put l i ∷ [])
            ∙ ap (λ xs. xs ++ one_on l (record { stamp = stamp; value = i }) name) (h.puts name) ∙ sym (sends.sent name);
        takes = λ name.
            subst (λ xs. AreTaken xs (takes_on name b.row)) (sym (sends.received name))
            (subst (AreTaken (a.traffic.received name))
            (sym (ap (takes_on name) row ∙ picked_with (taken_in name) a.row.moments stamp (entry.Put l i ∷ []) ∙ append-nil (takes_on name a.row))) (h.takes name));
      }

  -- the case takes an item from a lane, and tells what is no put and no take
  pub keeps_take : (l : LaneName) (at : At Item) (es : List Entry) → b.row ≡ stamped_with a.row stamp (entry.Take l at.value ∷ es) → at.stamp < stamp → AreOffLanes es → Receives l at a.traffic b.traffic → KeepsLanes a b
  keeps_take l at es row later off receives = record { records = records; lanes = same }
    where
      by_lane : (on : Bool) (rs ts : List (At Item)) → AreTaken rs ts → AreTaken (rs ++ cons_option (at_if on at.stamp at.value) []) (ts ++ cons_option (at_if on stamp at.value) [])
      by_lane true rs ts h = taken_on rs ts at (record { stamp = stamp; value = at.value }) refl later h
      by_lane false rs ts h = subst (λ xs. AreTaken xs (ts ++ [])) (sym (append-nil rs)) (subst (AreTaken rs) (sym (append-nil ts)) h)

      takes_are : (name : LaneName) → takes_on name b.row ≡ takes_on name a.row ++ cons_option (at_if (same_lane name l) stamp at.value) []
      takes_are name =
          ap (takes_on name) row ∙ picked_with (taken_in name) a.row.moments stamp (entry.Take l at.value ∷ es)
          ∙ ap (λ xs. takes_on name a.row ++ cons_option (at_if (same_lane name l) stamp at.value) xs) (no_takes name stamp es off)

      records : RecordsLanes a.row a.traffic → RecordsLanes b.row b.traffic
      records h = record {
        puts = λ name.
            ap (puts_on name) row ∙ picked_with (put_in name) a.row.moments stamp (entry.Take l at.value ∷ es) ∙ ap (λ xs. puts_on name a.row ++ xs) (no_puts name stamp es off)
            ∙ append-nil (puts_on name a.row) ∙ h.puts name ∙ sym (receives.sent name);
        takes = λ name.
            subst (λ xs. AreTaken xs (takes_on name b.row)) (sym (receives.received name))
            (subst (AreTaken (a.traffic.received name ++ one_on l at name)) (sym (takes_are name)) (by_lane (same_lane name l) (a.traffic.received name) (takes_on name a.row) (h.takes name)));
      }

-- ---- one after the other

pub keeps_on : (a b c : Account) → KeepsLanes a b → KeepsLanes b c → KeepsLanes a c
keeps_on a b c p q = record { records = λ h. q.records (p.records h); lanes = q.lanes ∙ p.lanes }

pub keeps_still : (a b : Account) → b ≡ a → KeepsLanes a b
keeps_still a b is = subst (λ (x : Account). KeepsLanes a x) (sym is) (record { records = λ h. h; lanes = refl })

-- ---- what stands for an end with one more item

pub items_with : {T : Type 0} (kind : T → Item) (end : LaneEnd T) (sent : Sent T) → items_as kind (with_item end sent) ≡ items_as kind end ++ record { stamp = sent.stamp; value = kind sent.item } ∷ []
items_with {T = T} kind end sent = map-append (λ (s : Sent T). record { stamp = s.stamp; value = kind s.item }) end.items (sent ∷ [])
