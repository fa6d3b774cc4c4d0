-- Lists of cases, one after the other.
use Rattle.std.proofs.Common.{◌≡◌, ◌<◌, List, [], ◌∷◌, ◌++◌, refl, subst, arith, sym}
use Rattle.std.specs.Prelude.{Bool, true, false, ℕ, Err, IfOk, None, Ok, Option, Result, Some}
use Rattle.mpt_rules.specs.Outcome.{Happening}
use Rattle.mpt_rules.specs.Session.Journals.{At}
use Rattle.mpt_live.specs.Recorded.{Leads, LeadsTo, Made, MadeOf, Recorded, Steps, after_case, next_stamp, stamp_after}

module _ {P C : Type 0} (does : P → C → Happening P) where
  pub leads_nowhere : (r : Recorded P) → LeadsTo does r r
  leads_nowhere r = record { cases = []; led = refl }

  leads_on : (cs ds : List (At C)) (a b c : Recorded P) → Leads does a cs b → Leads does b ds c → Leads does a (cs ++ ds) c
  leads_on [] ds a b c p q = subst (λ (x : Recorded P). Leads does x ds c) (sym p) q
  leads_on (x ∷ xs) ds a b c p q = (p.0, leads_on xs ds (after_case does a x) b c p.1 q)

  pub leads_far : (a b c : Recorded P) → LeadsTo does a b → LeadsTo does b c → LeadsTo does a c
  leads_far a b c p q = record { cases = p.cases ++ q.cases; led = leads_on p.cases q.cases a b c p.led q.led }

  pub leads_by : (a b : Recorded P) (c : At C) → a.clock < c.stamp → b ≡ after_case does a c → LeadsTo does a b
  leads_by a b c later is = record { cases = c ∷ []; led = (later, sym is) }

  -- from where the party was, whatever it is called
  leads_from : (a b c : Recorded P) → a ≡ b → LeadsTo does a c → LeadsTo does b c
  leads_from a b c is p = subst (λ (x : Recorded P). LeadsTo does x c) is p

  -- ---- a step

  pub steps_lead : (a b : Recorded P) (made : Bool) → Steps does a made b → LeadsTo does a b
  steps_lead a b true p = p
  steps_lead a b false is = record { cases = []; led = sym is }

  pub steps_made : (c : C) (a b : Recorded P) (made : Bool) → Made does c a made b → Steps does a made b
  steps_made c a b true is = leads_by a b (record { stamp = next_stamp a; value = c }) (omega arith) is
  steps_made c a b false is = is

  steps_from : (a b c : Recorded P) (made : Bool) → a ≡ b → Steps does a made c → Steps does b made c
  steps_from a b c made is p = subst (λ (x : Recorded P). Steps does x made c) is p

  pub if_made : {E : Type 0} (r : Result Bool E) (c : C) (a b to : Recorded P) → a ≡ b → IfOk r (λ made. Made does c a made to) → IfOk r (λ made. Steps does b made to)
  if_made (Ok made) c a b to is p = steps_from a b to made is (steps_made c a to made p)
  if_made (Err e) c a b to is p = tt

  made_of : {X : Type 0} (case_of : X → C) (x : Option X) (a b : Recorded P) (made : Bool) → MadeOf does case_of x a made b → Steps does a made b
  made_of case_of None a b made is = rw is.0 is.1
  made_of case_of (Some x) a b made is = steps_made (case_of x) a b made is

  pub if_made_of : {E X : Type 0} (r : Result Bool E) (case_of : X → C) (x : Option X) (a b to : Recorded P) → a ≡ b → IfOk r (λ made. MadeOf does case_of x a made to) → IfOk r (λ made. Steps does b made to)
  if_made_of (Ok made) case_of x a b to is p = steps_from a b to made is (made_of case_of x a to made p)
  if_made_of (Err e) case_of x a b to is p = tt

  -- ---- a case

  pub leads_taken : (c : C) (stamp : ℕ) (a b to : Recorded P) → a ≡ b → to ≡ after_case does a (record { stamp = stamp_after a stamp; value = c }) → LeadsTo does b to
  leads_taken c stamp a b to is p = leads_from a b to is (leads_by a to (record { stamp = stamp_after a stamp; value = c }) (omega arith) p)

  pub leads_next : (c : C) (a b to : Recorded P) → a ≡ b → to ≡ after_case does a (record { stamp = next_stamp a; value = c }) → LeadsTo does b to
  leads_next c a b to is p = leads_from a b to is (leads_by a to (record { stamp = next_stamp a; value = c }) (omega arith) p)

  pub steps_there : (c : C) (a b to : Recorded P) (made : Bool) → a ≡ b → Made does c a made to → Steps does b made to
  steps_there c a b to made is p = steps_from a b to made is (steps_made c a to made p)

  pub leads_there : (c : C) (a b to : Recorded P) (made : Bool) → a ≡ b → Made does c a made to → LeadsTo does b to
  leads_there c a b to made is p = steps_lead b to made (steps_there c a b to made is p)
