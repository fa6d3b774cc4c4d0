-- The cases of a submitter, pump by pump.
use Rattle.std.proofs.Common.{◌≡◌, ℕ, subst}
use Rattle.mpt_live.specs.Recorded.{LeadsTo, Recorded, submitter_enters}
use Rattle.mpt_live.proofs.Leads.{leads_far}

pub goes_farther : (n m : ℕ) → n ≡ m → (a b to : Recorded (Unit {0})) → LeadsTo (submitter_enters m) a b → LeadsTo (submitter_enters n) b to → LeadsTo (submitter_enters m) a to
goes_farther n m same a b to p q = leads_far (submitter_enters m) a b to p (subst (λ k. LeadsTo (submitter_enters k) b to) same q)
