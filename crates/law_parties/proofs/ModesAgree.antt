-- The machine's mode after the trace of a list of cases is the host's.
use Rattle.std.proofs.Common.{◌≡◌, Bool, true, false, if◌then◌else◌, List, [], ◌∷◌, ◌++◌, Some, refl, ap, sym, subst, ◌∙◌}
use Rattle.std.specs.List.{find}
use Rattle.std.proofs.lemmas.List.Elements.{All-head, All-tail}
use Rattle.mpt_trace.specs.Parties.{party_of}
use Rattle.mpt_trace.specs.declared.entry.Entry.{Entry}
use Rattle.mpt_trace.specs.declared.entry.Entry.TheVariants as entry
use Rattle.mpt_trace.specs.declared.input.Input.TheVariants as input
use Rattle.mpt_trace.specs.declared.parties.Party.{Party}
use Rattle.mpt_trace.specs.declared.parties.Party.TheVariants as party
use Rattle.mpt_wire.specs.Machine.Calls.{is_call_refused}
use Rattle.mpt_wire.specs.Machine.Causes.{Call}
use Rattle.mpt_wire.specs.Ties.ToldInPlace.{is_told_behind}
use Rattle.mpt_wire.specs.Walks.Ahead.{is_of, same_party}
use Rattle.mpt_wire.specs.Walks.Passes.{EachEntry}
use Rattle.mpt_rules.specs.Law.{ModesAgree}
use Rattle.mpt_rules.specs.Host.Parts.{Host}
use Rattle.mpt_rules.specs.Outcome.{Happening}
use Rattle.mpt_rules.specs.Session.OpenCases.{fabric_does, host_does, ioc_does}
use Rattle.mpt_rules.specs.World.Cases.{Case, case_of, happens, run, trace}
use Rattle.mpt_rules.specs.World.Settings.{Setting, first_world}
use Rattle.mpt_rules.specs.World.State.{World}
use Rattle.law_parties.proofs.HostModes.{KeepsMode, NoRefusal, all_plain, host_agrees}
use Rattle.law_parties.proofs.InPlace.{Opens, host_opens, party_same}
use Rattle.law_parties.proofs.OfParty.{Idles, OfFabric, OfHost, OfIoc, OfParty, of_party}
use Rattle.law_parties.proofs.Owned.{AreOwned, IsOwned, fabric_owned, host_owned, ioc_owned, own_of}
use Rattle.law_parties.proofs.TraceModes.{machine_mode, mode_trace}

-- ---- the host's next entry is no refusal: a case begins with an entry that stands by itself

first_not_refused : (c : Call) (e : Entry) → is_told_behind e ≡ false → is_call_refused c (Some e) ≡ false
first_not_refused c (entry.Refuse call cause) h = absurd (cc)
first_not_refused c _ h = refl

pub by_host : (es rest : List Entry) → Opens es → AreOwned party.Host es → NoRefusal rest → NoRefusal (es ++ rest)
by_host [] rest first own n = n
by_host (e ∷ es) rest first own n =
    λ c. let host : is_of party.Host e ≡ true = own_of party.Host e (All-head (IsOwned party.Host) e es own) in rw host (first_not_refused c e first)

module _ (p : Party) (other : same_party p party.Host ≡ false) where
  not_host : (e : Entry) → is_of p e ≡ true → is_of party.Host e ≡ false
  not_host e h = subst (λ (q : Party). same_party q party.Host ≡ false) (sym (party_same (party_of e) p h)) other

  pub by_other : (es rest : List Entry) → AreOwned p es → NoRefusal rest → NoRefusal (es ++ rest)
  by_other [] rest own n = n
  by_other (e ∷ es) rest own n =
      λ c. let skip : is_of party.Host e ≡ false = not_host e (own_of p e (All-head (IsOwned p) e es own)) in rw skip (by_other es rest (All-tail (IsOwned p) e es own) n c)

  -- what another party enters leaves the mode
  other_plain : (e : Entry) → is_of party.Host e ≡ false → KeepsMode e
  other_plain (entry.Given input.Start) h = absurd (cc)
  other_plain (entry.Given input.Reset) h = absurd (cc)
  other_plain (entry.Given input.UnitReset) h = absurd (cc)
  other_plain entry.HostUp h = absurd (cc)
  other_plain entry.ResetDone h = absurd (cc)
  other_plain (entry.Given i) h = tt
  other_plain _ h = tt

  pub others_plain : (es : List Entry) → AreOwned p es → EachEntry KeepsMode es
  others_plain [] own = tt
  others_plain (e ∷ es) own = (other_plain e (not_host e (own_of p e (All-head (IsOwned p) e es own))), others_plain es (All-tail (IsOwned p) e es own))

idle_first : (e : Entry) (rest : List Entry) → is_told_behind e ≡ false → NoRefusal rest → NoRefusal (e ∷ rest)
idle_first e rest first n = λ c. by_party c (is_of party.Host e)
  where
    by_party : (c : Call) (b : Bool) → is_call_refused c (if b then Some e else find (is_of party.Host) rest) ≡ false
    by_party c true = first_not_refused c e first
    by_party c false = n c

case_first : (w : World) (o : Happening World) (rest : List Entry) → OfParty w o → NoRefusal rest → NoRefusal (o.entries ++ rest)
case_first w o rest (Idles c same is) n = subst (λ (es : List Entry). NoRefusal (es ++ rest)) (sym is) (idle_first (entry.Idle c) rest refl n)
case_first w o rest (OfHost c host ioc is) n = subst (λ (es : List Entry). NoRefusal (es ++ rest)) (sym is) (by_host (host_does w.host c).entries rest (host_opens w.host c) (host_owned w.host c) n)
case_first w o rest (OfIoc c host ioc is) n = subst (λ (es : List Entry). NoRefusal (es ++ rest)) (sym is) (by_other party.Ioc refl (ioc_does w.ioc c).entries rest (ioc_owned w.ioc c) n)
case_first w o rest (OfFabric c host ioc is) n = subst (λ (es : List Entry). NoRefusal (es ++ rest)) (sym is) (by_other party.Fabric refl (fabric_does w.fabric c).entries rest (fabric_owned w.fabric c) n)

pub no_refusal : (w : World) (cases : List Case) → NoRefusal (trace w cases)
no_refusal w [] = λ c. refl
no_refusal w (c ∷ cases) = case_first w (case_of w c) (trace (happens w c) cases) (of_party w c) (no_refusal (happens w c) cases)

-- ---- every world

case_agrees : (w : World) (o : Happening World) (rest : List Entry) → OfParty w o → NoRefusal rest → mode_trace w.host.mode (o.entries ++ rest) ≡ mode_trace o.part.host.mode rest
case_agrees w o rest (Idles c same is) n =
    ap (λ (es : List Entry). mode_trace w.host.mode (es ++ rest)) is ∙ ap (λ (v : World). mode_trace v.host.mode rest) (sym same)
case_agrees w o rest (OfHost c host ioc is) n =
    ap (λ (es : List Entry). mode_trace w.host.mode (es ++ rest)) is ∙ (host_agrees w.host c rest n ∙ ap (λ (h : Host). mode_trace h.mode rest) (sym host))
case_agrees w o rest (OfIoc c host ioc is) n =
    ap (λ (es : List Entry). mode_trace w.host.mode (es ++ rest)) is
    ∙ (all_plain w.host.mode (ioc_does w.ioc c).entries rest (others_plain party.Ioc refl (ioc_does w.ioc c).entries (ioc_owned w.ioc c)) ∙ ap (λ (h : Host). mode_trace h.mode rest) (sym host))
case_agrees w o rest (OfFabric c host ioc is) n =
    ap (λ (es : List Entry). mode_trace w.host.mode (es ++ rest)) is
    ∙ (all_plain w.host.mode (fabric_does w.fabric c).entries rest (others_plain party.Fabric refl (fabric_does w.fabric c).entries (fabric_owned w.fabric c)) ∙ ap (λ (h : Host). mode_trace h.mode rest) (sym host))

all_agree : (w : World) (cases : List Case) → mode_trace w.host.mode (trace w cases) ≡ (run w cases).host.mode
all_agree w [] = refl
all_agree w (c ∷ cases) = case_agrees w (case_of w c) (trace (happens w c) cases) (of_party w c) (no_refusal (happens w c) cases) ∙ all_agree (happens w c) cases

pub modes_law : (s : Setting) (cases : List Case) → ModesAgree s cases
modes_law s cases = machine_mode s.disks (trace (first_world s) cases) ∙ all_agree (first_world s) cases
