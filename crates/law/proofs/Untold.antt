-- A rule that sees the next entry of the same party looks for what was told of the entry alone. What a later case makes begins
-- with nothing that is told, so that each rule goes over joined cases as over each by itself.
use Rattle.std.proofs.Common.{◌≡◌, ℕ, ◌==◌, Bool, true, false, not, ◌&&◌, ◌||◌, if◌then◌else◌, List, [], ◌∷◌, ◌++◌, Option, Some, None, find, refl, sym, ap, ◌∙◌, subst}
use Rattle.mpt_trace.specs.Parties.{party_of}
use Rattle.mpt_trace.specs.declared.entry.Entry.{Entry}
use Rattle.mpt_trace.specs.declared.entry.Entry.TheVariants as entry
use Rattle.mpt_trace.specs.declared.input.Input.{Input}
use Rattle.mpt_trace.specs.declared.input.Input.TheVariants as input
use Rattle.mpt_trace.specs.declared.item.Item.{Item}
use Rattle.mpt_trace.specs.declared.item.Item.TheVariants as item
use Rattle.mpt_trace.specs.declared.item.Up.TheVariants as up
use Rattle.mpt_trace.specs.declared.item.Down.{Down}
use Rattle.mpt_trace.specs.declared.item.Down.TheVariants as down
use Rattle.mpt_trace.specs.declared.lane.LaneName.TheVariants as lane
use Rattle.mpt_trace.specs.declared.parties.Party.{Party}
use Rattle.mpt_trace.specs.declared.parties.Party.TheVariants as party
use Rattle.mpt_wire.specs.Machine.Calls.{call_of, is_call_answered, is_call_refused}
use Rattle.mpt_wire.specs.Machine.Causes as calls
use Rattle.mpt_wire.specs.Machine.Causes.{Call}
use Rattle.mpt_wire.specs.Machine.SoFar.{SoFar, is_reset_asked, last_call, so_far_next}
use Rattle.mpt_wire.specs.Machine.Steps.{Fails, Grants, HasLeft, IsRunFrom, Step, after_all}
use Rattle.mpt_wire.specs.Machine.View.{SeenAsks, departures, given_steps, heard_steps, is_target_end, let_go, seen_next, steps_of}
use Rattle.mpt_wire.specs.Queues.LeastPosts.{Another, Giving, GivingAsks, caused, event_heard, freed_by, given_input, giving_by, giving_next, is_high_call, is_of_kind, makes_high, makes_internal, reply_heard, without_posts}
use Rattle.mpi_rings.specs.declared.request_descriptor.PostKind.TheVariants as post
use Rattle.mpt_messages.specs.Function.{byte_of}
use Rattle.mpt_messages.specs.declared.function.Function.TheVariants as function
use Rattle.mpt_wire.specs.Messages.Fields.{changes_in, function_in, smid_in}
use Rattle.mpt_wire.specs.Ties.ToldInPlace.{IsBehind, is_told_behind, last_party_next}
use Rattle.mpt_wire.specs.Walks.Ahead.{PassesAhead, PassesBefore, is_of, next_own, same_party, state_ahead}
use Rattle.mpt_wire.specs.Walks.Passes.{Passes, state_after}
use Rattle.mpt_wire.proofs.Ahead.{passes_joined}
use Rattle.mpt_wire.proofs.Passing.{passes_append}
use Rattle.mpt_rules.specs.Outcome.{Happening}
use Rattle.mpt_rules.specs.Session.OpenCases.{fabric_does, host_does, ioc_does}
use Rattle.mpt_rules.specs.World.Cases.{Case, case_of, entries, happens, trace}
use Rattle.mpt_rules.specs.World.State.{World}
use Rattle.law_parties.proofs.InPlace.{IsInPlace, case_passes, fabric_opens, host_opens, ioc_opens, party_same}
use Rattle.law_parties.proofs.OfParty.{Idles, OfFabric, OfHost, OfIoc, OfParty, of_party}
use Rattle.law_parties.proofs.Owned.{fabric_owned, host_owned, ioc_owned}

-- the entry, if there is one, isn't told behind another
abbrev StandsAlone : Option Entry → Type 0
StandsAlone None = Unit {0}
StandsAlone (Some e) = is_told_behind e ≡ false

-- the first entry of each party stands by itself
abbrev pub Opens : List Entry → Type 0
Opens t = (p : Party) → StandsAlone (find (is_of p) t)

opens_empty : Opens []
opens_empty p = tt

-- ---- entries that are told in place open so

-- the last party is another
abbrev IsOther : Party → Option Party → Type 0
IsOther p None = Unit {0}
IsOther p (Some q) = same_party q p ≡ false

untold_first : (p : Party) (e : Entry) (told : Bool) (last : Option Party) → IsOther p last → is_of p e ≡ true → IsBehind told last e → told ≡ false
untold_first p e false last o is h = refl
untold_first p e true None o is h = absurd h
untold_first p e true (Some q) o is h =
    let same : same_party q p ≡ true = subst (λ (x : Party). same_party x p ≡ true) (party_same (party_of e) q h) is in
    absurd (cc)

opens_by : (p : Party) (last : Option Party) (e : Entry) (t : List Entry) (b : Bool) → is_of p e ≡ b → IsOther p last → IsBehind (is_told_behind e) last e
    → (same_party (party_of e) p ≡ false → StandsAlone (find (is_of p) t)) → StandsAlone (if b then Some e else find (is_of p) t)
opens_by p last e t true is o h later = untold_first p e (is_told_behind e) last o is h
opens_by p last e t false is o h later = later is

opens_from : (p : Party) (last : Option Party) (t : List Entry) → IsOther p last → Passes last_party_next (λ last e. IsBehind (is_told_behind e) last e) last t → StandsAlone (find (is_of p) t)
opens_from p last [] o h = tt
opens_from p last (e ∷ t) o h = opens_by p last e t (is_of p e) refl o h.0 (λ other. opens_from p (Some (party_of e)) t other h.1)

told_in_place_opens : (t : List Entry) → Passes last_party_next (λ last e. IsBehind (is_told_behind e) last e) None t → Opens t
told_in_place_opens t h p = opens_from p None t tt h

-- ---- what a rule sees ahead

module _ {X : Type 0} (f : Option Entry → X) (alone : (a : Option Entry) → StandsAlone a → f a ≡ f None) where
  own_by : (e x : Entry) (t later : List Entry) (b : Bool) → f (next_own e (t ++ later)) ≡ f (next_own e t) → f (if b then Some x else next_own e (t ++ later)) ≡ f (if b then Some x else next_own e t)
  own_by e x t later true same = refl
  own_by e x t later false same = same

  own_same : (e : Entry) (t later : List Entry) → Opens later → f (next_own e (t ++ later)) ≡ f (next_own e t)
  own_same e [] later o = alone (next_own e later) (o (party_of e))
  own_same e (x ∷ t) later o = own_by e x t later (is_of (party_of e) x) (own_same e t later o)

-- a test of what is ahead, likewise
module _ (f : Option Entry → Type 0) (alone : (a : Option Entry) → StandsAlone a → f None → f a) where
  asked_by : (e x : Entry) (t later : List Entry) (b : Bool) → (f (next_own e t) → f (next_own e (t ++ later))) → f (if b then Some x else next_own e t) → f (if b then Some x else next_own e (t ++ later))
  asked_by e x t later true same h = h
  asked_by e x t later false same h = same h

  own_asked : (e : Entry) (t later : List Entry) → Opens later → f (next_own e t) → f (next_own e (t ++ later))
  own_asked e [] later o h = alone (next_own e later) (o (party_of e)) h
  own_asked e (x ∷ t) later o h = asked_by e x t later (is_of (party_of e) x) (own_asked e t later o) h

-- to such a rule what stands alone ahead tells nothing
pub record SeesTold {G : Type 0} (next : G → Entry → Option Entry → G) (asks : G → Entry → Option Entry → Type 0) : Type 0 where
  pub same : (g : G) (e : Entry) (a : Option Entry) → StandsAlone a → next g e a ≡ next g e None
  pub asked : (g : G) (e : Entry) (a : Option Entry) → StandsAlone a → asks g e None → asks g e a

module _ {G : Type 0} (next : G → Entry → Option Entry → G) (asks : G → Entry → Option Entry → Type 0) (s : SeesTold next asks) where
  passes_before : (g : G) (t later : List Entry) → Opens later → PassesAhead next asks g t → PassesBefore next asks g t later
  passes_before g [] later o h = tt
  passes_before g (e ∷ t) later o h = (
    own_asked (asks g e) (s.asked g e) e t later o h.0,
    subst (λ (x : G). PassesBefore next asks x t later) (sym (own_same (next g e) (s.same g e) e t later o)) (passes_before (next g e (next_own e t)) t later o h.1),
  )

  state_before : (g : G) (t later : List Entry) → Opens later → state_ahead next g t later ≡ state_ahead next g t []
  state_before g [] later o = refl
  state_before g (e ∷ t) later o =
      ap (λ (x : G). state_ahead next x t later) (own_same (next g e) (s.same g e) e t later o ∙ sym (own_same (next g e) (s.same g e) e t [] opens_empty))
      ∙ state_before (next g e (next_own e (t ++ []))) t later o

  -- joined entries pass where each part does
  pub joined : (g : G) (t later : List Entry) → Opens later → PassesAhead next asks g t → PassesAhead next asks (state_ahead next g t []) later → PassesAhead next asks g (t ++ later)
  joined g t later o a b =
      passes_joined next asks g t later (passes_before g t later o a) (subst (λ (x : G). PassesAhead next asks x later) (sym (state_before g t later o)) b)

-- ---- the three rules

refused_alone : (c : Call) (a : Option Entry) → StandsAlone a → is_call_refused c a ≡ false
refused_alone c None h = refl
refused_alone c (Some e) h = by_entry e h
  where
    by_entry : (e : Entry) → is_told_behind e ≡ false → is_call_refused c (Some e) ≡ false
    by_entry (entry.Refuse call cause) h = absurd (cc)
    by_entry _ h = refl

answered_alone : (n : ℕ) (a : Option Entry) → StandsAlone a → is_call_answered n a ≡ false
answered_alone n None h = refl
answered_alone n (Some e) h = by_entry e h
  where
    by_entry : (e : Entry) → is_told_behind e ≡ false → is_call_answered n (Some e) ≡ false
    by_entry (entry.Accept k a s) h = absurd (cc)
    by_entry (entry.RefuseSubmit k cause) h = absurd (cc)
    by_entry _ h = refl

end_alone : (a : Option Entry) → StandsAlone a → is_target_end a ≡ false
end_alone None h = refl
end_alone (Some e) h = by_entry e h
  where
    by_entry : (e : Entry) → is_told_behind e ≡ false → is_target_end (Some e) ≡ false
    by_entry (entry.TargetEnd address how) h = absurd (cc)
    by_entry _ h = refl

given_alone : (c : Call) (a : Option Entry) → StandsAlone a → given_steps c a ≡ given_steps c None
given_alone (calls.Submit n address command) a h = ap (λ (b : Bool). if b then [] else Fails ∷ []) (answered_alone n a h)
given_alone c a h = ap (λ (b : Bool). if b then [] else Grants c ∷ []) (refused_alone c a h)

let_go_alone : (g : SoFar) (s : ℕ) (a : Option Entry) → StandsAlone a → let_go g s a ≡ let_go g s None
let_go_alone g s a h = ap (λ (b : Bool). if g.is_target_reset s && not g.resetting && not b then HasLeft ∷ [] else []) (end_alone a h)

heard_alone : (g : SoFar) (i : Item) (a : Option Entry) → StandsAlone a → heard_steps g i a ≡ heard_steps g i None
heard_alone g (item.Up (up.Reply descriptor (Some frame) page sense)) a h =
    ap (λ (l : List Step). if smid_in descriptor == 0 then departures g.resetting g.announced (changes_in frame) else l) (let_go_alone g (smid_in descriptor) a h)
heard_alone g (item.Up (up.Reply descriptor None page sense)) a h = let_go_alone g (smid_in descriptor) a h
heard_alone g (item.Up x) a h = refl
heard_alone g (item.Down x) a h = refl
heard_alone g (item.Out x) a h = refl
heard_alone g (item.Back x) a h = refl
heard_alone g (item.Ask x) a h = refl
heard_alone g (item.Tell x) a h = refl

steps_alone : (g : SoFar) (e : Entry) (a : Option Entry) → StandsAlone a → steps_of g e a ≡ steps_of g e None
steps_alone g (entry.Given i) a h = given_alone (call_of i) a h
steps_alone g (entry.Take lane.Up i) a h = heard_alone g i a h
steps_alone g e a h = refl

reset_alone : (e : Entry) (a : Option Entry) → StandsAlone a → is_reset_asked e a ≡ is_reset_asked e None
reset_alone (entry.Given input.Reset) a h = ap not (refused_alone calls.Reset a h)
reset_alone (entry.Given input.UnitReset) a h = ap not (refused_alone calls.UnitReset a h)
reset_alone e a h = refl

so_far_alone : (g : SoFar) (e : Entry) (a : Option Entry) → StandsAlone a → so_far_next g e a ≡ so_far_next g e None
so_far_alone g (entry.Given i) a h = ap by_reset (reset_alone (entry.Given i) a h)
  where
    by_reset : Bool → SoFar
    by_reset b = record (record g { resetting = g.resetting || b }) { host_call = last_call party.Host g.host_call (entry.Given i); fabric_call = last_call party.Fabric g.fabric_call (entry.Given i) }
so_far_alone g (entry.Put lane.Down i) a h = refl
so_far_alone g (entry.Put l i) a h = refl
so_far_alone g (entry.Take lane.Up i) a h = refl
so_far_alone g (entry.Take l i) a h = refl
so_far_alone g e a h = refl

pub seen_told : SeesTold seen_next SeenAsks
seen_told = record {
  same = λ g e a h. ap (λ (l : List Step). record { machine = after_all g.machine l; so_far = so_far_next g.so_far e a }) (steps_alone g.so_far e a h)
      ∙ ap (λ (x : SoFar). record { machine = after_all g.machine (steps_of g.so_far e None); so_far = x }) (so_far_alone g.so_far e a h);
  asked = λ g e a h asks. subst (λ (l : List Step). IsRunFrom g.machine l) (sym (steps_alone g.so_far e a h)) asks;
}

input_alone : (i : Input) (g : Giving) (a : Option Entry) → StandsAlone a → given_input i a g ≡ given_input i None g
input_alone i g a h = ap (λ (b : Bool). by_tests b (is_reset_asked (entry.Given i) a)) (refused_alone (call_of i) a h) ∙ ap (λ (b : Bool). by_tests false b) (reset_alone (entry.Given i) a h)
  where
    by_tests : Bool → Bool → Giving
    by_tests refused asked =
        if is_high_call i && not refused then makes_high g
        else (if asked then record g { high = without_posts g.high; internal = without_posts g.internal } else g)

reply_alone : (s : ℕ) (frame : List ℕ) (g : Giving) (a : Option Entry) → StandsAlone a → reply_heard s frame a g ≡ reply_heard s frame None g
reply_alone s frame g a h = ap by_end (end_alone a h)
  where
    by_end : Bool → Giving
    by_end b =
        if is_of_kind post.HighPriority s && g.so_far.is_target_reset s && not b then makes_internal Another g
        else (if is_of_kind post.Default s && function_in frame == byte_of function.EventNotification then makes_internal Another g else g)

caused_alone : (s : ℕ) (frame : Option (List ℕ)) (g : Giving) (a : Option Entry) → StandsAlone a → caused s frame a g ≡ caused s frame None g
caused_alone s None g a h = refl
caused_alone s (Some frame) g a h = ap (λ (x : Giving). if s == 0 then event_heard frame g else x) (reply_alone s frame g a h)

giving_alone : (g : Giving) (e : Entry) (a : Option Entry) → StandsAlone a → giving_by g e a ≡ giving_by g e None
giving_alone g (entry.Given i) a h = input_alone i g a h
giving_alone g (entry.Take lane (item.Up (up.Reply descriptor frame page sense))) a h =
    ap (λ (x : Giving). if g.so_far.resetting then freed_both else x) (caused_alone (smid_in descriptor) frame freed_both a h)
  where
    freed_both : Giving
    freed_both = record g { high = freed_by post.HighPriority (smid_in descriptor) g.high; internal = freed_by post.Default (smid_in descriptor) g.internal }
giving_alone g (entry.Take lane (item.Up x)) a h = refl
giving_alone g (entry.Take lane (item.Down x)) a h = refl
giving_alone g (entry.Take lane (item.Out x)) a h = refl
giving_alone g (entry.Take lane (item.Back x)) a h = refl
giving_alone g (entry.Take lane (item.Ask x)) a h = refl
giving_alone g (entry.Take lane (item.Tell x)) a h = refl
giving_alone g (entry.Put lane (item.Down x)) a h = by_down x
  where
    by_down : (x : Down) → giving_by g (entry.Put lane (item.Down x)) a ≡ giving_by g (entry.Put lane (item.Down x)) None
    by_down (down.Post descriptor frame payload) = refl
    by_down x = refl
giving_alone g (entry.Put lane (item.Up x)) a h = refl
giving_alone g (entry.Put lane (item.Out x)) a h = refl
giving_alone g (entry.Put lane (item.Back x)) a h = refl
giving_alone g (entry.Put lane (item.Ask x)) a h = refl
giving_alone g (entry.Put lane (item.Tell x)) a h = refl
giving_alone g e a h = refl

-- what the rule asks of a post doesn't look ahead
posted_alone : (g : Giving) (e : Entry) (a : Option Entry) → GivingAsks g e None → GivingAsks g e a
posted_alone g (entry.Put lane (item.Down (down.Post descriptor frame payload))) a h = h
posted_alone g (entry.Put lane (item.Down x)) a h = tt
posted_alone g (entry.Put lane (item.Up x)) a h = tt
posted_alone g (entry.Put lane (item.Out x)) a h = tt
posted_alone g (entry.Put lane (item.Back x)) a h = tt
posted_alone g (entry.Put lane (item.Ask x)) a h = tt
posted_alone g (entry.Put lane (item.Tell x)) a h = tt
posted_alone g e a h = tt

pub giving_told : SeesTold giving_next GivingAsks
giving_told = record {
  same = λ g e a h. ap (λ (x : Giving). record x { so_far = so_far_next g.so_far e a }) (giving_alone g e a h)
      ∙ ap (λ (x : SoFar). record (giving_by g e None) { so_far = x }) (so_far_alone g.so_far e a h);
  asked = λ g e a h asks. posted_alone g e a asks;
}

-- ---- the entries of cases

in_place : (w : World) (last : Option Party) (o : Happening World) → OfParty w o → Passes last_party_next IsInPlace last o.entries
in_place w last o (Idles c same is) = subst (Passes last_party_next IsInPlace last) (sym is) (tt, tt)
in_place w last o (OfHost c host ioc is) = subst (Passes last_party_next IsInPlace last) (sym is) (case_passes party.Host last (host_does w.host c).entries (host_opens w.host c) (host_owned w.host c))
in_place w last o (OfIoc c host ioc is) = subst (Passes last_party_next IsInPlace last) (sym is) (case_passes party.Ioc last (ioc_does w.ioc c).entries (ioc_opens w.ioc c) (ioc_owned w.ioc c))
in_place w last o (OfFabric c host ioc is) = subst (Passes last_party_next IsInPlace last) (sym is) (case_passes party.Fabric last (fabric_does w.fabric c).entries (fabric_opens w.fabric c) (fabric_owned w.fabric c))

trace_in_place : (w : World) (last : Option Party) (cases : List Case) → Passes last_party_next IsInPlace last (trace w cases)
trace_in_place w last [] = tt
trace_in_place w last (c ∷ cases) =
    passes_append last_party_next IsInPlace last (entries w c) (trace (happens w c) cases) (in_place w last (case_of w c) (of_party w c))
    (trace_in_place (happens w c) (state_after last_party_next last (entries w c)) cases)

-- what cases make opens so, from any world
pub traces_open : (w : World) (cases : List Case) → Opens (trace w cases)
traces_open w cases = told_in_place_opens (trace w cases) (trace_in_place w None cases)
