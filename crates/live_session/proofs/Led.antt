-- What led a party to its end.
use Rattle.std.proofs.Common.{◌≡◌, sym, subst}
use Rattle.mpt_trace.specs.declared.entry.Entry.{Entry}
use Rattle.mpt_trace.specs.declared.parties.Party.{Party}
use Rattle.mpt_rules.specs.Outcome.{Happening}
use Rattle.mpt_rules.specs.Session.Journals.{Row}
use Rattle.mpt_live.specs.Recorded.{LeadsTo, Recorded}
use Rattle.live_journals.specs.Parties.{first_recorded}
use Rattle.live_session.specs.Left.{HasLed}

module _ {P C : Type 0} (does : P → C → Happening P) where
  pub has_led : (first : P) (party : Party) (from to : Recorded P) (last : P) (row : Row Entry) → from ≡ first_recorded first party → LeadsTo does from to
      → last ≡ to.part → row ≡ to.row → HasLed does first party last row
  has_led first party from to last row begins led part_is row_is =
      let there : LeadsTo does (first_recorded first party) to = subst (λ (r : Recorded P). LeadsTo does r to) begins led in
      let with_part : LeadsTo does (first_recorded first party) (record { part = last; row = to.row; clock = to.clock }) = subst (λ (p : P). LeadsTo does (first_recorded first party) (record { part = p; row = to.row; clock = to.clock })) (sym part_is) there in
      record { clock = to.clock; led = subst (λ (r : Row Entry). LeadsTo does (first_recorded first party) (record { part = last; row = r; clock = to.clock })) (sym row_is) with_part }
