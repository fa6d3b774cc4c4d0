-- The cases of any party: where they lead it, its journal, and cases that stand for them.
use Rattle.std.proofs.Common.{◌≡◌, ◌<◌, ◌∙◌, ℕ, List, [], ◌∷◌, ◌++◌, ap, append_assoc, refl, subst, sym}
use Rattle.std.specs.Prelude.{All, flat_map}
use Rattle.std.proofs.lemmas.List.{append-nil}
use Rattle.std.proofs.lemmas.List.Elements.{All-cons, All-nil}
use Rattle.mpt_trace.specs.declared.entry.Entry.{Entry}
use Rattle.mpt_rules.specs.Outcome.{Happening}
use Rattle.mpt_rules.specs.Session.Journals.{At, Block, Later, Rises}
use Rattle.mpt_journal.specs.Laws.{each_of}
use Rattle.mpt_live.specs.Recorded.{Leads, Recorded, after_case}
use Rattle.live_journals.proofs.Merged.{OfBlocks}

module _ {P C : Type 0} (does : P → C → Happening P) where
  -- a party after its cases
  abbrev pub left_by : P → List (At C) → P
  left_by part [] = part
  left_by part (c ∷ cs) = left_by (does part c.value).part cs

  -- the blocks of its cases
  abbrev pub blocks_of : P → List (At C) → List Block
  blocks_of part [] = []
  blocks_of part (c ∷ cs) = record { stamp = c.stamp; value = (does part c.value).entries } ∷ blocks_of (does part c.value).part cs

  pub blocks_rise : (part : P) (cs : List (At C)) → Rises cs → Rises (blocks_of part cs)
  blocks_rise part [] h = tt
  blocks_rise part (c ∷ []) h = (tt, tt)
  blocks_rise part (c ∷ d ∷ cs) h = (h.0, blocks_rise (does part c.value).part (d ∷ cs) h.1)

  -- ---- where cases lead

  -- what is there where the cases led
  pub record IsLed (from : Recorded P) (cases : List (At C)) (to : Recorded P) : Type 0 where
    pub part : to.part ≡ left_by from.part cases
    pub row : to.row ≡ record { party = from.row.party; moments = from.row.moments ++ flat_map each_of (blocks_of from.part cases) }
    pub later : Later from.clock cases
    pub rises : Rises cases

  pub is_led : (from : Recorded P) (cases : List (At C)) (to : Recorded P) → Leads does from cases to → IsLed from cases to
  is_led from [] to is = record {
    part = ap (λ (r : Recorded P). r.part) (sym is);
    row = ap (λ (r : Recorded P). r.row) (sym is) ∙ sym (ap (λ ms. record { party = from.row.party; moments = ms }) (append-nil from.row.moments));
    later = tt;
    rises = tt;
  }
  is_led from (c ∷ cs) to h =
      let r : IsLed (after_case does from c) cs to = is_led (after_case does from c) cs to h.1 in
      let b : Block = record { stamp = c.stamp; value = (does from.part c.value).entries } in
      record {
        part = r.part;
        row = r.row ∙ ap (λ ms. record { party = from.row.party; moments = ms }) (append_assoc from.row.moments (each_of b) (flat_map each_of (blocks_of (does from.part c.value).part cs)));
        later = h.0;
        rises = (r.later, r.rises);
      }

  -- ---- cases that stand for others

  -- a case that fits, with the stamp of another one, does what that one does
  pub record Stands (Fits : At C → Type 0) (part : P) (c : At C) : Type 0 where
    pub other : At C
    pub fits : Fits other
    pub stamp : other.stamp ≡ c.stamp
    pub same : does part other.value ≡ does part c.value

  -- and so do cases for others
  pub record StandFor (Fits : At C → Type 0) (part : P) (cs : List (At C)) : Type 0 where
    pub cases : List (At C)
    pub fit : All Fits cases
    pub later : (stamp : ℕ) → Later stamp cs → Later stamp cases
    pub rises : Rises cs → Rises cases
    pub left : left_by part cases ≡ left_by part cs
    pub blocks : blocks_of part cases ≡ blocks_of part cs

  module _ (Fits : At C → Type 0) (Holds : Entry → Type 0) where
    pub stand_for : ((part : P) (c : At C) → All Holds (does part c.value).entries → Stands Fits part c)
        → (part : P) (cs : List (At C)) → OfBlocks Holds (blocks_of part cs) → StandFor Fits part cs
    stand_for stands part [] h = record { cases = []; fit = All-nil Fits; later = λ stamp l. tt; rises = λ r. tt; left = refl; blocks = refl }
    stand_for stands part (c ∷ cs) h =
        let s : Stands Fits part c = stands part c h.0 in
        let r : StandFor Fits (does part c.value).part cs = stand_for stands (does part c.value).part cs h.1 in
        record {
          cases = s.other ∷ r.cases;
          fit = All-cons Fits s.other r.cases s.fits r.fit;
          later = λ stamp l. subst (λ n. stamp < n) (sym s.stamp) l;
          rises = λ rises. (r.later s.other.stamp (subst (λ n. Later n cs) (sym s.stamp) rises.0), r.rises rises.1);
          left = ap (λ (o : Happening P). left_by o.part r.cases) s.same ∙ r.left;
          blocks = ap (λ (o : Happening P). record { stamp = s.other.stamp; value = o.entries } ∷ blocks_of o.part r.cases) s.same
              ∙ ap (λ n. record { stamp = n; value = (does part c.value).entries } ∷ blocks_of (does part c.value).part r.cases) s.stamp
              ∙ ap (λ (bs : List Block). record { stamp = c.stamp; value = (does part c.value).entries } ∷ bs) r.blocks;
        }
