-- An end, move by move.
use Rattle.std.proofs.Common.{◌≡◌, Bool, true, false, refl, subst, sym}
use Rattle.std.specs.Prelude.{Err, IfOk, Ok, Result}
use Rattle.mpt_rules.specs.Outcome.{Happening}
use Rattle.mpt_live.specs.Ends.{End, EndSteps}
use Rattle.mpt_live.specs.Recorded.{LeadsTo, Recorded}
use Rattle.mpt_live.specs.Traffic.{Account, KeepsLanes}
use Rattle.mpt_live.proofs.Kept.{keeps_on, keeps_still}
use Rattle.mpt_live.proofs.Leads.{leads_far, leads_nowhere}

-- an end of which nothing is told but its journal and its lanes
abbrev pub bare : {P L : Type 0} → Recorded P → L → End P L
bare recorded lanes = record { recorded = recorded; lanes = lanes; has_ended = true; is_spent = true }

module _ {P C L : Type 0} (does : P → C → Happening P) (account : Recorded P → L → Account) where
  abbrev of_end : End P L → Account
  of_end end = account end.recorded end.lanes

  -- where some cases led an end, and that its journal and its lanes were kept together
  pub record IsLed (first to : End P L) : Type 0 where
    pub cases : LeadsTo does first.recorded to.recorded
    pub lanes : KeepsLanes (of_end first) (of_end to)

  pub led_nowhere : (first : End P L) → IsLed first first
  led_nowhere first = record { cases = leads_nowhere does first.recorded; lanes = keeps_still (of_end first) (of_end first) refl }

  -- the same where it is called otherwise before
  pub led_by_name : (a now : End P L) → a ≡ now → IsLed now a
  led_by_name a now is = subst (λ (x : End P L). IsLed x a) is (led_nowhere a)

  pub led_far : (first a to : End P L) → IsLed first a → LeadsTo does a.recorded to.recorded → KeepsLanes (of_end a) (of_end to) → IsLed first to
  led_far first a to h cases lanes = record {
    cases = leads_far does first.recorded a.recorded to.recorded h.cases cases;
    lanes = keeps_on (of_end first) (of_end a) (of_end to) h.lanes lanes;
  }

  -- the same where nothing but the lanes and the journal counts
  same_lanes : (a b : End P L) → b.recorded ≡ a.recorded → b.lanes ≡ a.lanes → of_end b ≡ of_end a
  same_lanes a b p q = λ i. account (p i) (q i)

  pub led_on : (first a to : End P L) (made : Bool) → IsLed first a → EndSteps does of_end a made to → IsLed first to
  led_on first a to true h q = led_far first a to h q.0 q.1
  led_on first a to false h q = record {
    cases = subst (λ (r : Recorded P). LeadsTo does first.recorded r) (sym q.0) h.cases;
    lanes = subst (λ (x : Account). KeepsLanes (of_end first) x) (sym (same_lanes a to q.0 q.1)) h.lanes;
  }

  -- an end whatever it is called before the move
  pub moved_from : (a now : End P L) (recorded : Recorded P) (lanes : L) (made : Bool) → a ≡ now → EndSteps does of_end (bare a.recorded a.lanes) made (bare recorded lanes)
      → EndSteps does of_end now made (bare recorded lanes)
  moved_from a now recorded lanes true is p = subst (λ (x : End P L). EndSteps does of_end x true (bare recorded lanes)) is p
  moved_from a now recorded lanes false is p = subst (λ (x : End P L). EndSteps does of_end x false (bare recorded lanes)) is p

  pub moved_to : (a now b : End P L) (made : Bool) → a ≡ now → EndSteps does of_end (bare a.recorded a.lanes) made (bare b.recorded b.lanes) → EndSteps does of_end now made b
  moved_to a now b true is p = moved_from a now b.recorded b.lanes true is p
  moved_to a now b false is p = moved_from a now b.recorded b.lanes false is p

  pub if_moved : {E : Type 0} (r : Result Bool E) (a now b : End P L) → a ≡ now → IfOk r (λ made. EndSteps does of_end (bare a.recorded a.lanes) made (bare b.recorded b.lanes))
      → IfOk r (λ made. EndSteps does of_end now made b)
  if_moved (Ok made) a now b is p = moved_to a now b made is p
  if_moved (Err e) a now b is p = tt
