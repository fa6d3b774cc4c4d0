-- What is told stands behind an entry of its own party: each case begins with an entry that stands by itself, and its
-- entries are of one party.
use Rattle.std.proofs.Common.{◌≡◌, ℕ, Bool, true, false, List, [], ◌∷◌, Option, Some, None, refl, ap, sym, subst, arith}
use Rattle.std.proofs.lemmas.Bool.Decides.{nat_tests}
use Rattle.std.proofs.lemmas.List.Elements.{All-head, All-tail}
use Rattle.mpt_trace.specs.Parties.{party_of}
use Rattle.mpt_trace.specs.declared.entry.Entry.{Entry}
use Rattle.mpt_trace.specs.declared.entry.Entry.TheVariants as entry
use Rattle.mpt_trace.specs.declared.input.Input.{Input}
use Rattle.mpt_trace.specs.declared.input.Input.TheVariants as input
use Rattle.mpt_trace.specs.declared.item.Back.{Back}
use Rattle.mpt_trace.specs.declared.item.Down.{Down}
use Rattle.mpt_trace.specs.declared.item.Out.{Out}
use Rattle.mpt_trace.specs.declared.item.Up.{Up}
use Rattle.mpt_trace.specs.declared.parties.Party.{Party}
use Rattle.mpt_trace.specs.declared.parties.Party.TheVariants as party
use Rattle.mpt_trace.specs.declared.refusal.Refusal.{Refusal}
use Rattle.mpt_trace.specs.declared.refusal.RefusedCall.{RefusedCall}
use Rattle.mpt_trace.specs.declared.refusal.RefusedCall.TheVariants as call
use Rattle.mpt_wire.specs.Ties.ToldInPlace.{IsBehind, TellsInPlace, is_told_behind, last_party_next}
use Rattle.mpt_wire.specs.Walks.Ahead.{is_of, same_party}
use Rattle.mpt_wire.specs.Walks.Passes.{EachEntry, Passes, state_after}
use Rattle.mpt_wire.proofs.Passing.{passes_append}
use Rattle.mpt_rules.specs.declared.post.Post.{Post}
use Rattle.mpt_rules.specs.Fabric.Calls.{PlugRefusal, announces, fabric_plugs, fabric_unplugs, runs}
use Rattle.mpt_rules.specs.Fabric.Parts.{Fabric}
use Rattle.mpt_rules.specs.Host.Parts.{Host}
use Rattle.mpt_rules.specs.Ioc.Parts.{Ioc}
use Rattle.mpt_rules.specs.Ioc.Steps.{steps_high_on, steps_normal_on, works_on}
use Rattle.mpt_rules.specs.Ioc.Takes.{front_out, front_up_on}
use Rattle.mpt_rules.specs.Outcome.{Called, Happening}
use Rattle.mpt_rules.specs.Session.OpenCases.{FabricCase, HostCase, IocCase, PutsAsk, PutsOut, PutsUp, SubmitterCase, TakesBack, TakesDown, TakesTell, WorksHigh, WorksNormal, fabric_does, host_does, ioc_does, open_worked, puts_back, puts_down, puts_out, puts_up, ran, says_or_not, submitter_does}
use Rattle.mpt_rules.specs.World.Cases.{Case, case_of, entries, happens, trace}
use Rattle.mpt_rules.specs.World.Inputs.{by_plug, fabric_told, host_told, refused_plug_entered, told_cause}
use Rattle.mpt_rules.specs.World.Settings.{Setting, first_world}
use Rattle.mpt_rules.specs.World.State.{World}
use Rattle.law_moves.proofs.IocWords.{IsIocWord, works_words}
use Rattle.law_parties.proofs.OfParty.{Idles, OfFabric, OfHost, OfIoc, OfParty, of_party}
use Rattle.law_parties.proofs.Owned.{AreOwned, IsOwned, fabric_owned, host_owned, ioc_owned, own_of}

-- ---- the first entry of a case

-- the first entry stands by itself
abbrev pub Opens : List Entry → Type 0
Opens [] = Unit {0}
Opens (e ∷ es) = is_told_behind e ≡ false

put_down : (host : Host) (items : List Down) → Opens (puts_down host items).entries
put_down host [] = tt
put_down host (next ∷ rest) = refl

told : (host : Host) (i : Input) → Opens (host_told host i).entries
told host input.Start = refl
told host (input.Submit n address form) = refl
told host (input.Abort n) = refl
told host (input.TargetReset address) = refl
told host input.Reset = refl
told host input.UnitReset = refl
told host (input.Plug address expander phy) = tt
told host (input.Unplug address) = tt

pub host_opens : (host : Host) (c : HostCase) → Opens (host_does host c).entries
host_opens host (HostCase.Told input) = told host input
host_opens host HostCase.Puts = put_down host host.out
host_opens host (HostCase.Takes queue next) = refl
host_opens host HostCase.Looks = tt
host_opens host HostCase.Stops = tt
host_opens host (HostCase.TakesAsk submitter ask) = refl
host_opens host (HostCase.PutsTell submitter tell) = refl

word_opens : (es : List Entry) → EachEntry IsIocWord es → Opens es
word_opens [] h = tt
word_opens (e ∷ es) h = by_entry e h.0
  where
    by_entry : (e : Entry) → IsIocWord e → is_told_behind e ≡ false
    by_entry (entry.Bind handle address plug) w = refl
    by_entry (entry.Unbind handle) w = refl
    by_entry _ w = absurd w

high : (ioc : Ioc) (posts : List Post) → Opens (open_worked ioc (steps_high_on ioc posts)).entries
high ioc [] = tt
high ioc (p ∷ rest) = word_opens (works_on (record ioc { high = rest }) p).entries (works_words (record ioc { high = rest }) p)

normal : (ioc : Ioc) (posts : List Post) → Opens (open_worked ioc (steps_normal_on ioc posts)).entries
normal ioc [] = tt
normal ioc (p ∷ rest) = word_opens (works_on (record ioc { normal = rest }) p).entries (works_words (record ioc { normal = rest }) p)

put_out : (ioc : Ioc) (o : Option Out) → Opens (puts_out ioc o).entries
put_out ioc None = tt
put_out ioc (Some next) = refl

put_up : (ioc : Ioc) (queue : ℕ) (o : Option Up) → Opens (puts_up ioc queue o).entries
put_up ioc queue None = tt
put_up ioc queue (Some next) = refl

pub ioc_opens : (ioc : Ioc) (c : IocCase) → Opens (ioc_does ioc c).entries
ioc_opens ioc (TakesDown next) = refl
ioc_opens ioc WorksHigh = high ioc ioc.high
ioc_opens ioc WorksNormal = normal ioc ioc.normal
ioc_opens ioc PutsOut = put_out ioc (front_out ioc)
ioc_opens ioc (TakesBack next) = refl
ioc_opens ioc (PutsUp queue) = put_up ioc queue (front_up_on ioc queue)

plug_refused : (fabric : Fabric) (i : Input) (c : RefusedCall) (cause : Option Refusal) → Opens (refused_plug_entered fabric i c cause).entries
plug_refused fabric i c None = tt
plug_refused fabric i c (Some cause) = refl

plugged : (i : Input) (c : RefusedCall) (o : Option PlugRefusal) (fabric : Fabric) → Opens (by_plug i c o fabric).entries
plugged i c None fabric = refl
plugged i c (Some refused) fabric = plug_refused fabric i c (told_cause refused)

fabric_told_opens : (fabric : Fabric) (i : Input) → Opens (fabric_told fabric i).entries
fabric_told_opens fabric (input.Plug address expander phy) =
    let called : Called Fabric (Option PlugRefusal) = fabric_plugs fabric address expander phy in
    plugged (input.Plug address expander phy) (call.Plug address) called.answer called.part
fabric_told_opens fabric (input.Unplug address) =
    let called : Called Fabric (Option PlugRefusal) = fabric_unplugs fabric address in
    plugged (input.Unplug address) (call.Unplug address) called.answer called.part
fabric_told_opens fabric _ = tt

said : (fabric : Fabric) (o : Option Fabric) → Opens (says_or_not fabric o).entries
said fabric None = tt
said fabric (Some after) = tt

run_opens : (fabric : Fabric) (tag : ℕ) (o : Option ℕ) (after : Fabric) → Opens (ran fabric tag o after).entries
run_opens fabric tag None after = tt
run_opens fabric tag (Some address) after = refl

put_back : (fabric : Fabric) (items : List Back) → Opens (puts_back fabric items).entries
put_back fabric [] = tt
put_back fabric (next ∷ rest) = refl

pub fabric_opens : (fabric : Fabric) (c : FabricCase) → Opens (fabric_does fabric c).entries
fabric_opens fabric (FabricCase.Told input) = fabric_told_opens fabric input
fabric_opens fabric (FabricCase.Takes next) = refl
fabric_opens fabric FabricCase.Says = said fabric (announces fabric)
fabric_opens fabric FabricCase.Puts = put_back fabric fabric.out
fabric_opens fabric (FabricCase.Runs tag) = run_opens fabric tag (runs fabric tag).answer (runs fabric tag).part
fabric_opens fabric FabricCase.Calms = tt

pub submitter_opens : (submitter : ℕ) (c : SubmitterCase) → Opens (submitter_does submitter c)
submitter_opens submitter (PutsAsk ask) = refl
submitter_opens submitter (TakesTell tell) = refl

-- ---- the rule over the entries of a case

pub party_same : (p q : Party) → same_party p q ≡ true → p ≡ q
party_same party.Host party.Host h = refl
party_same party.Ioc party.Ioc h = refl
party_same party.Fabric party.Fabric h = refl
party_same (party.Submitter i) (party.Submitter j) h = ap party.Submitter (grind (arith, nat_tests, h))
party_same _ _ h = absurd (cc)

abbrev pub IsInPlace : Option Party → Entry → Type 0
IsInPlace last e = IsBehind (is_told_behind e) last e

-- behind an entry of the party
behind_own : (p : Party) (last : Party) (es : List Entry) → last ≡ p → AreOwned p es → Passes last_party_next IsInPlace (Some last) es
behind_own p last [] e own = tt
behind_own p last (x ∷ es) e own =
    let mine : is_of p x ≡ true = own_of p x (All-head (IsOwned p) x es own) in
    (by_told (is_told_behind x) (subst (λ (q : Party). is_of q x ≡ true) (sym e) mine), behind_own p (party_of x) es (party_same (party_of x) p mine) (All-tail (IsOwned p) x es own))
  where
    by_told : (b : Bool) → is_of last x ≡ true → IsBehind b (Some last) x
    by_told true m = m
    by_told false m = tt

pub case_passes : (p : Party) (last : Option Party) (es : List Entry) → Opens es → AreOwned p es → Passes last_party_next IsInPlace last es
case_passes p last [] first own = tt
case_passes p last (x ∷ es) first own =
    (subst (λ (b : Bool). IsBehind b last x) (sym first) tt, behind_own p (party_of x) es (party_same (party_of x) p (own_of p x (All-head (IsOwned p) x es own))) (All-tail (IsOwned p) x es own))

-- ---- every world

world_case : (w : World) (last : Option Party) (o : Happening World) → OfParty w o → Passes last_party_next IsInPlace last o.entries
world_case w last o (Idles c same is) = subst (Passes last_party_next IsInPlace last) (sym is) (tt, tt)
world_case w last o (OfHost c host ioc is) = subst (Passes last_party_next IsInPlace last) (sym is) (case_passes party.Host last (host_does w.host c).entries (host_opens w.host c) (host_owned w.host c))
world_case w last o (OfIoc c host ioc is) = subst (Passes last_party_next IsInPlace last) (sym is) (case_passes party.Ioc last (ioc_does w.ioc c).entries (ioc_opens w.ioc c) (ioc_owned w.ioc c))
world_case w last o (OfFabric c host ioc is) = subst (Passes last_party_next IsInPlace last) (sym is) (case_passes party.Fabric last (fabric_does w.fabric c).entries (fabric_opens w.fabric c) (fabric_owned w.fabric c))

world_cases : (w : World) (last : Option Party) (cases : List Case) → Passes last_party_next IsInPlace last (trace w cases)
world_cases w last [] = tt
world_cases w last (c ∷ cases) =
    passes_append last_party_next IsInPlace last (entries w c) (trace (happens w c) cases) (world_case w last (case_of w c) (of_party w c))
    (world_cases (happens w c) (state_after last_party_next last (entries w c)) cases)

pub tells_law : (s : Setting) (cases : List Case) → TellsInPlace (trace (first_world s) cases)
tells_law s cases = world_cases (first_world s) None cases
