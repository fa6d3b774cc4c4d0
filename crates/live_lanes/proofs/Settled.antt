-- Lanes that are settled from the last to the first.
use Rattle.std.proofs.Common.{◌≡◌, ◌∙◌, List, [], ◌∷◌, ◌++◌, ap, append-nil, append_assoc, refl, subst, sym}
use Rattle.mpt_live.specs.Lanes.{LaneEnd}
use Rattle.mpt_live.specs.Traffic.{lanes_of}
use Rattle.live_lanes.specs.Closed.{AreClosed, IsClosed}

module _ {T : Type 0} where
  -- the last lanes are the same, and so are those before
  pub record LastSame (takers givers : List (LaneEnd T)) (t g : LaneEnd T) : Type 0 where
    pub before : lanes_of takers ≡ lanes_of givers
    pub last : t.lane ≡ g.lane

  not_none : (xs : List (LaneEnd T)) (x : LaneEnd T) → lanes_of (xs ++ x ∷ []) ≡ [] → ⊥
  not_none [] x e = cc
  not_none (y ∷ xs) x e = cc

  pub last_same : (ts gs : List (LaneEnd T)) (t g : LaneEnd T) → lanes_of (ts ++ t ∷ []) ≡ lanes_of (gs ++ g ∷ []) → LastSame ts gs t g
  last_same [] [] t g e = record { before = refl; last = cc }
  last_same [] (y ∷ gs) t g e =
      let none : lanes_of (gs ++ g ∷ []) ≡ [] = cc in
      absurd (not_none gs g none)
  last_same (x ∷ ts) [] t g e =
      let none : lanes_of (ts ++ t ∷ []) ≡ [] = cc in
      absurd (not_none ts t none)
  last_same (x ∷ ts) (y ∷ gs) t g e =
      let first : x.lane ≡ y.lane = (cc) in
      let rest : lanes_of (ts ++ t ∷ []) ≡ lanes_of (gs ++ g ∷ []) = (cc) in
      let h : LastSame ts gs t g = last_same ts gs t g rest in
      record { before = λ i. first i ∷ h.before i; last = h.last }

  -- of all these lanes some are left, and the others are closed
  pub record AreSettledTo (givers takers givers_left takers_left : List (LaneEnd T)) : Type 0 where
    pub givers_done : List (LaneEnd T)
    pub takers_done : List (LaneEnd T)
    pub givers_are : givers ≡ givers_left ++ givers_done
    pub takers_are : takers ≡ takers_left ++ takers_done
    pub closed : AreClosed givers_done takers_done
    pub lanes : lanes_of takers_left ≡ lanes_of givers_left

  pub begun : (givers takers : List (LaneEnd T)) → lanes_of takers ≡ lanes_of givers → AreSettledTo givers takers givers takers
  begun givers takers same = record { givers_done = []; takers_done = []; givers_are = sym (append-nil givers); takers_are = sym (append-nil takers); closed = tt; lanes = same }

  pub one_more : (givers takers gs ts gs2 ts2 : List (LaneEnd T)) (g t : LaneEnd T) → AreSettledTo givers takers gs ts → gs ≡ gs2 ++ g ∷ [] → ts ≡ ts2 ++ t ∷ [] → IsClosed g t → AreSettledTo givers takers gs2 ts2
  one_more givers takers gs ts gs2 ts2 g t h p q closed =
      let same : LastSame ts2 gs2 t g = last_same ts2 gs2 t g (ap lanes_of (sym q) ∙ h.lanes ∙ ap lanes_of p) in
      record {
        givers_done = g ∷ h.givers_done;
        takers_done = t ∷ h.takers_done;
        givers_are = h.givers_are ∙ ap (λ xs. xs ++ h.givers_done) p ∙ append_assoc gs2 (g ∷ []) h.givers_done;
        takers_are = h.takers_are ∙ ap (λ xs. xs ++ h.takers_done) q ∙ append_assoc ts2 (t ∷ []) h.takers_done;
        closed = (closed, h.closed);
        lanes = same.before;
      }

  pub same_last : (givers takers gs ts gs2 ts2 : List (LaneEnd T)) (g t : LaneEnd T) → AreSettledTo givers takers gs ts → gs ≡ gs2 ++ g ∷ [] → ts ≡ ts2 ++ t ∷ [] → t.lane ≡ g.lane
  same_last givers takers gs ts gs2 ts2 g t h p q = (last_same ts2 gs2 t g (ap lanes_of (sym q) ∙ h.lanes ∙ ap lanes_of p)).last

  none_left : (ts : List (LaneEnd T)) → lanes_of ts ≡ [] → ts ≡ []
  none_left [] e = refl
  none_left (t ∷ ts) e = cc

  pub all_settled : (givers takers gs ts : List (LaneEnd T)) → AreSettledTo givers takers gs ts → gs ≡ [] → AreClosed givers takers
  all_settled givers takers gs ts h none =
      let no_takers : ts ≡ [] = none_left ts (h.lanes ∙ ap lanes_of none) in
      subst (λ (xs : List (LaneEnd T)). AreClosed xs takers) (sym (h.givers_are ∙ ap (λ xs. xs ++ h.givers_done) none))
      (subst (λ (ys : List (LaneEnd T)). AreClosed h.givers_done ys) (sym (h.takers_are ∙ ap (λ xs. xs ++ h.takers_done) no_takers)) h.closed)

  -- a lane has both ends
  pub not_alone : (givers takers gs ts gs2 : List (LaneEnd T)) (g : LaneEnd T) → AreSettledTo givers takers gs ts → gs ≡ gs2 ++ g ∷ [] → ts ≡ [] → ⊥
  not_alone givers takers gs ts gs2 g h p none = not_none gs2 g (ap lanes_of (sym p) ∙ sym h.lanes ∙ ap lanes_of none)
