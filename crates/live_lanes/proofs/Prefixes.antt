-- What was received from a closed lane begins what was sent on it.
use Rattle.std.proofs.Common.{◌≡◌, ◌∙◌, ◌<◌, ◌+◌, ◌==◌, ℕ, zero, suc, true, false, List, [], ◌∷◌, ◌++◌, ap, append-nil, arith, if◌then◌else◌, map, refl, sym}
use Rattle.std.proofs.lemmas.Bool.Decides.{nat_tests}
use Rattle.std.proofs.lemmas.List.{map-append}
use Rattle.mpt_trace.specs.declared.item.Item.{Item}
use Rattle.mpt_trace.specs.declared.item.Item.TheVariants as item
use Rattle.mpt_trace.specs.declared.lane.LaneName.{LaneName}
use Rattle.mpt_trace.specs.declared.lane.LaneName.TheVariants as lane
use Rattle.mpt_wire.specs.Queues.Lanes.{IsPrefixOf}
use Rattle.mpt_rules.specs.Session.Journals.{At}
use Rattle.mpt_live.specs.Lanes.{LaneEnd}
use Rattle.mpt_live.specs.Traffic.{SubmitterLanes, fabric_received, fabric_sent, host_received, host_sent, ioc_received, ioc_sent, items_as, items_of, submitter_traffic}
use Rattle.mpt_live.specs.declared.sent.Sent.{Sent}
use Rattle.live_lanes.specs.Closed.{AreClosed, IsClosed, LanesAreClosed, SessionLanes, asks_of, tells_of}

-- ---- a lane, and one of several

module _ {T : Type 0} (kind : T → Item) where
  pub closed_begins : (giver taker : LaneEnd T) → IsClosed giver taker → IsPrefixOf (items_as kind taker) (items_as kind giver)
  closed_begins giver taker h = (
    map (λ (s : Sent T). record { stamp = s.stamp; value = kind s.item }) h.0,
    sym (ap (λ items. map (λ (s : Sent T). record { stamp = s.stamp; value = kind s.item }) items) h.1 ∙ map-append (λ (s : Sent T). record { stamp = s.stamp; value = kind s.item }) taker.items h.0),
  )

  pub one_begins : (givers takers : List (LaneEnd T)) (i : ℕ) → AreClosed givers takers → IsPrefixOf (items_of kind takers i) (items_of kind givers i)
  one_begins [] [] i h = ([], refl)
  one_begins [] (t ∷ takers) i h = absurd h
  one_begins (g ∷ givers) [] i h = absurd h
  one_begins (g ∷ givers) (t ∷ takers) zero h = closed_begins g t h.0
  one_begins (g ∷ givers) (t ∷ takers) (suc i) h = one_begins givers takers i h.1

-- ---- the submitters, one after the other

-- what those from a number on sent on a lane
abbrev pub all_sent : ℕ → List SubmitterLanes → LaneName → List (At Item)
all_sent i [] name = []
all_sent i (l ∷ ls) name = (submitter_traffic i l).sent name ++ all_sent (i + 1) ls name

-- what they received from it
abbrev pub all_received : ℕ → List SubmitterLanes → LaneName → List (At Item)
all_received i [] name = []
all_received i (l ∷ ls) name = (submitter_traffic i l).received name ++ all_received (i + 1) ls name

-- those from a number on have no lane of a lesser number
lower_sent : (i j : ℕ) (ls : List SubmitterLanes) → j < i → all_sent i ls (lane.Ask j) ≡ []
lower_sent i j [] less = refl
lower_sent i j (l ∷ ls) less =
    let other : (j == i) ≡ false = grind (arith, nat_tests, less) in
    ap (λ on. (if on then items_as item.Ask l.ask else []) ++ all_sent (i + 1) ls (lane.Ask j)) other ∙ lower_sent (i + 1) j ls (omega (arith, less))

lower_received : (i j : ℕ) (ls : List SubmitterLanes) → j < i → all_received i ls (lane.Tell j) ≡ []
lower_received i j [] less = refl
lower_received i j (l ∷ ls) less =
    let other : (j == i) ≡ false = grind (arith, nat_tests, less) in
    ap (λ on. (if on then items_as item.Tell l.tell else []) ++ all_received (i + 1) ls (lane.Tell j)) other ∙ lower_received (i + 1) j ls (omega (arith, less))

asked : (i k j : ℕ) (ls : List SubmitterLanes) → j ≡ i + k → all_sent i ls (lane.Ask j) ≡ items_of item.Ask (asks_of ls) k
asked i k j [] e = refl
asked i zero j (l ∷ ls) e =
    let own : (j == i) ≡ true = grind (arith, nat_tests, e) in
    ap (λ on. (if on then items_as item.Ask l.ask else []) ++ all_sent (i + 1) ls (lane.Ask j)) own
    ∙ ap (λ xs. items_as item.Ask l.ask ++ xs) (lower_sent (i + 1) j ls (omega (arith, e))) ∙ append-nil (items_as item.Ask l.ask)
asked i (suc k) j (l ∷ ls) e =
    let other : (j == i) ≡ false = grind (arith, nat_tests, e) in
    ap (λ on. (if on then items_as item.Ask l.ask else []) ++ all_sent (i + 1) ls (lane.Ask j)) other ∙ asked (i + 1) k j ls (omega (arith, e))

told : (i k j : ℕ) (ls : List SubmitterLanes) → j ≡ i + k → all_received i ls (lane.Tell j) ≡ items_of item.Tell (tells_of ls) k
told i k j [] e = refl
told i zero j (l ∷ ls) e =
    let own : (j == i) ≡ true = grind (arith, nat_tests, e) in
    ap (λ on. (if on then items_as item.Tell l.tell else []) ++ all_received (i + 1) ls (lane.Tell j)) own
    ∙ ap (λ xs. items_as item.Tell l.tell ++ xs) (lower_received (i + 1) j ls (omega (arith, e))) ∙ append-nil (items_as item.Tell l.tell)
told i (suc k) j (l ∷ ls) e =
    let other : (j == i) ≡ false = grind (arith, nat_tests, e) in
    ap (λ on. (if on then items_as item.Tell l.tell else []) ++ all_received (i + 1) ls (lane.Tell j)) other ∙ told (i + 1) k j ls (omega (arith, e))

-- a lane that no submitter asks on, or is told on
abbrev IsNoAsk : LaneName → Type 0
IsNoAsk (lane.Ask i) = ⊥
IsNoAsk _ = Unit {0}

abbrev IsNoTell : LaneName → Type 0
IsNoTell (lane.Tell i) = ⊥
IsNoTell _ = Unit {0}

none_sent : (i : ℕ) (ls : List SubmitterLanes) (name : LaneName) → IsNoAsk name → all_sent i ls name ≡ []
none_sent i [] name h = refl
none_sent i (l ∷ ls) (lane.Ask j) h = absurd h
none_sent i (l ∷ ls) lane.Down h = none_sent (i + 1) ls lane.Down h
none_sent i (l ∷ ls) lane.Up h = none_sent (i + 1) ls lane.Up h
none_sent i (l ∷ ls) (lane.UpOn j) h = none_sent (i + 1) ls (lane.UpOn j) h
none_sent i (l ∷ ls) lane.Out h = none_sent (i + 1) ls lane.Out h
none_sent i (l ∷ ls) lane.Back h = none_sent (i + 1) ls lane.Back h
none_sent i (l ∷ ls) (lane.Tell j) h = none_sent (i + 1) ls (lane.Tell j) h

none_received : (i : ℕ) (ls : List SubmitterLanes) (name : LaneName) → IsNoTell name → all_received i ls name ≡ []
none_received i [] name h = refl
none_received i (l ∷ ls) (lane.Tell j) h = absurd h
none_received i (l ∷ ls) lane.Down h = none_received (i + 1) ls lane.Down h
none_received i (l ∷ ls) lane.Up h = none_received (i + 1) ls lane.Up h
none_received i (l ∷ ls) (lane.UpOn j) h = none_received (i + 1) ls (lane.UpOn j) h
none_received i (l ∷ ls) lane.Out h = none_received (i + 1) ls lane.Out h
none_received i (l ∷ ls) lane.Back h = none_received (i + 1) ls lane.Back h
none_received i (l ∷ ls) (lane.Ask j) h = none_received (i + 1) ls (lane.Ask j) h

-- ---- all parties

abbrev pub sent_in : SessionLanes → LaneName → List (At Item)
sent_in l name = host_sent l.host name ++ (ioc_sent l.ioc name ++ (fabric_sent l.fabric name ++ all_sent 0 l.submitters name))

abbrev pub received_in : SessionLanes → LaneName → List (At Item)
received_in l name = host_received l.host name ++ (ioc_received l.ioc name ++ (fabric_received l.fabric name ++ all_received 0 l.submitters name))

begins_by : (xs ys r s : List (At Item)) → r ≡ xs → s ≡ ys → IsPrefixOf xs ys → IsPrefixOf r s
begins_by xs ys r s e f h = (h.0, ap (λ zs. zs ++ h.0) e ∙ h.1 ∙ sym f)

-- lists that stand before nothing
module _ (xs : List (At Item)) where
  alone : (none : List (At Item)) → none ≡ [] → xs ++ none ≡ xs
  alone none e = ap (λ zs. xs ++ zs) e ∙ append-nil xs

module _ (l : SessionLanes) (h : LanesAreClosed l) where
  no_asks : (name : LaneName) → IsNoAsk name → all_sent 0 l.submitters name ≡ []
  no_asks name other = none_sent 0 l.submitters name other

  no_tells : (name : LaneName) → IsNoTell name → all_received 0 l.submitters name ≡ []
  no_tells name other = none_received 0 l.submitters name other

  pub begins : (name : LaneName) → IsPrefixOf (received_in l name) (sent_in l name)
  begins lane.Down =
      begins_by (items_as item.Down l.ioc.down) (items_as item.Down l.host.down) (received_in l lane.Down) (sent_in l lane.Down)
      (alone (items_as item.Down l.ioc.down) (all_received 0 l.submitters lane.Down) (no_tells lane.Down tt))
      (alone (items_as item.Down l.host.down) (all_sent 0 l.submitters lane.Down) (no_asks lane.Down tt)) (closed_begins item.Down l.host.down l.ioc.down h.down)
  begins lane.Up =
      begins_by (items_of item.Up l.host.ups 0) (items_of item.Up l.ioc.ups 0) (received_in l lane.Up) (sent_in l lane.Up)
      (alone (items_of item.Up l.host.ups 0) (all_received 0 l.submitters lane.Up) (no_tells lane.Up tt))
      (alone (items_of item.Up l.ioc.ups 0) (all_sent 0 l.submitters lane.Up) (no_asks lane.Up tt)) (one_begins item.Up l.ioc.ups l.host.ups 0 h.ups)
  begins (lane.UpOn zero) = begins_by [] [] (received_in l (lane.UpOn zero)) (sent_in l (lane.UpOn zero)) (no_tells (lane.UpOn zero) tt) (no_asks (lane.UpOn zero) tt) ([], refl)
  begins (lane.UpOn (suc i)) =
      begins_by (items_of item.Up l.host.ups (suc i)) (items_of item.Up l.ioc.ups (suc i)) (received_in l (lane.UpOn (suc i))) (sent_in l (lane.UpOn (suc i)))
      (alone (items_of item.Up l.host.ups (suc i)) (all_received 0 l.submitters (lane.UpOn (suc i))) (no_tells (lane.UpOn (suc i)) tt))
      (alone (items_of item.Up l.ioc.ups (suc i)) (all_sent 0 l.submitters (lane.UpOn (suc i))) (no_asks (lane.UpOn (suc i)) tt)) (one_begins item.Up l.ioc.ups l.host.ups (suc i) h.ups)
  begins lane.Out =
      begins_by (items_as item.Out l.fabric.out) (items_as item.Out l.ioc.out) (received_in l lane.Out) (sent_in l lane.Out)
      (alone (items_as item.Out l.fabric.out) (all_received 0 l.submitters lane.Out) (no_tells lane.Out tt))
      (alone (items_as item.Out l.ioc.out) (all_sent 0 l.submitters lane.Out) (no_asks lane.Out tt)) (closed_begins item.Out l.ioc.out l.fabric.out h.out)
  begins lane.Back =
      begins_by (items_as item.Back l.ioc.back) (items_as item.Back l.fabric.back) (received_in l lane.Back) (sent_in l lane.Back)
      (alone (items_as item.Back l.ioc.back) (all_received 0 l.submitters lane.Back) (no_tells lane.Back tt))
      (alone (items_as item.Back l.fabric.back) (all_sent 0 l.submitters lane.Back) (no_asks lane.Back tt)) (closed_begins item.Back l.fabric.back l.ioc.back h.back)
  begins (lane.Ask j) =
      begins_by (items_of item.Ask l.host.asks j) (items_of item.Ask (asks_of l.submitters) j) (received_in l (lane.Ask j)) (sent_in l (lane.Ask j))
      (alone (items_of item.Ask l.host.asks j) (all_received 0 l.submitters (lane.Ask j)) (no_tells (lane.Ask j) tt))
      (asked 0 j j l.submitters (omega arith)) (one_begins item.Ask (asks_of l.submitters) l.host.asks j h.asks)
  begins (lane.Tell j) =
      begins_by (items_of item.Tell (tells_of l.submitters) j) (items_of item.Tell l.host.tells j) (received_in l (lane.Tell j)) (sent_in l (lane.Tell j)) (told 0 j j l.submitters (omega arith))
      (alone (items_of item.Tell l.host.tells j) (all_sent 0 l.submitters (lane.Tell j)) (no_asks (lane.Tell j) tt)) (one_begins item.Tell l.host.tells (tells_of l.submitters) j h.tells)
