-- A rule that begins anew at each cut holds of each part as if it were alone.
use Rattle.std.proofs.Common.{◌≡◌, Bool, true, false, List, [], ◌∷◌, refl, if◌then◌else◌}
use Rattle.mpt_trace.specs.declared.entry.Entry.{Entry}
use Rattle.std.specs.Bool.{MatchBool}
use Rattle.mpt_wire.specs.Walks.Passes.{Passes}
use Rattle.mpt_wire.specs.Walks.Segments.{segments, join_first, EachSegment}

module _ {G : Type 0} (next : G → Entry → G) (asks : G → Entry → Type 0) (new : G) (is_cut : Entry → Bool) where
  -- the rule that begins anew
  abbrev pub anew : G → Entry → G
  anew g e = if is_cut e then new else next g e

  abbrev pub AsksAnew : G → Entry → Type 0
  AsksAnew g e = MatchBool (is_cut e) (Unit {0}) (asks g e)

  abbrev Parts : G → List (List Entry) → Type 0
  Parts g [] = Unit {0}
  Parts g (part ∷ parts) = Passes next asks g part × EachSegment (Passes next asks new) parts

  to_each : (ps : List (List Entry)) → Parts new ps → EachSegment (Passes next asks new) ps
  to_each [] h = tt
  to_each (p ∷ ps) h = h

  joined : (g : G) (e : Entry) (ps : List (List Entry)) → asks g e → Parts (next g e) ps → Parts g (join_first e ps)
  joined g e [] a h = ((a, tt), tt)
  joined g e (p ∷ ps) a h = ((a, h.0), h.1)

  one_more : (g : G) (e : Entry) (ps : List (List Entry)) (b : Bool) → MatchBool b (Unit {0}) (asks g e) → Parts (if b then new else next g e) ps → Parts g (if b then [] ∷ ps else join_first e ps)
  one_more g e ps true a h = (tt, to_each ps h)
  one_more g e ps false a h = joined g e ps a h

  in_parts : (g : G) (t : List Entry) → Passes anew AsksAnew g t → Parts g (segments is_cut t)
  in_parts g [] p = (tt, tt)
  in_parts g (e ∷ t) p = one_more g e (segments is_cut t) (is_cut e) p.0 (in_parts (anew g e) t p.1)

  pub each_segment : (t : List Entry) → Passes anew AsksAnew new t → EachSegment (Passes next asks new) (segments is_cut t)
  each_segment t p = to_each (segments is_cut t) (in_parts new t p)

pub each_so : (P Q : List Entry → Type 0) → ((part : List Entry) → P part → Q part) → (ps : List (List Entry)) → EachSegment P ps → EachSegment Q ps
each_so P Q f [] h = tt
each_so P Q f (p ∷ ps) h = (f p h.0, each_so P Q f ps h.1)

module _ {G : Type 0} (next : G → Entry → G) (asks : G → Entry → Type 0) (new : G) (is_cut : Entry → Bool) where
  -- the first part passes from a state on, and each other from the new one
  abbrev PartsFrom : G → List (List Entry) → Type 0
  PartsFrom g [] = ⊥
  PartsFrom g (part ∷ parts) = Passes next asks g part × EachSegment (Passes next asks new) parts

  abbrev Onward : G → Entry → Bool → List (List Entry) → Type 0
  Onward g e b ps = MatchBool b (Unit {0}) (asks g e) × PartsFrom (if b then new else next g e) ps

  first_off : (g : G) (e : Entry) (ps : List (List Entry)) → PartsFrom g (join_first e ps) → (ps ≡ [] → ⊥) → asks g e × PartsFrom (next g e) ps
  first_off g e [] h some = absurd (some refl)
  first_off g e (p ∷ ps) h some = (h.0.0, (h.0.1, h.1))

  as_first : (ps : List (List Entry)) → EachSegment (Passes next asks new) ps → (ps ≡ [] → ⊥) → PartsFrom new ps
  as_first [] h some = absurd (some refl)
  as_first (p ∷ ps) h some = h

  one_less : (g : G) (e : Entry) (ps : List (List Entry)) (b : Bool) → PartsFrom g (if b then [] ∷ ps else join_first e ps) → (ps ≡ [] → ⊥) → Onward g e b ps
  one_less g e ps true h some = (tt, as_first ps h.1 some)
  one_less g e ps false h some = first_off g e ps h some

  some_part : (t : List Entry) → segments is_cut t ≡ [] → ⊥
  some_part [] e = absurd (cc)
  some_part (x ∷ t) e = by_cut (is_cut x) (segments is_cut t) e
    where
      joined_some : (ps : List (List Entry)) → join_first x ps ≡ [] → ⊥
      joined_some [] e = absurd (cc)
      joined_some (p ∷ ps) e = absurd (cc)

      by_cut : (b : Bool) (ps : List (List Entry)) → (if b then [] ∷ ps else join_first x ps) ≡ [] → ⊥
      by_cut true ps e = absurd (cc)
      by_cut false ps e = joined_some ps e

  out_of_parts : (g : G) (t : List Entry) → PartsFrom g (segments is_cut t) → Passes (anew next asks new is_cut) (AsksAnew next asks new is_cut) g t
  out_of_parts g [] h = tt
  out_of_parts g (e ∷ t) h =
      let onward = one_less g e (segments is_cut t) (is_cut e) h (some_part t) in
      (onward.0, out_of_parts (anew next asks new is_cut g e) t onward.1)

  pub passes_anew : (t : List Entry) → EachSegment (Passes next asks new) (segments is_cut t) → Passes (anew next asks new is_cut) (AsksAnew next asks new is_cut) new t
  passes_anew t h = out_of_parts new t (as_first (segments is_cut t) h (some_part t))
