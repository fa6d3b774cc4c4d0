-- Each submission is accepted under the least free identifier, over every list of cases.
use Rattle.std.proofs.Common.{◌≡◌, ℕ, zero, suc, ◌≤◌, ◌<◌, ◌-◌, ◌+◌, Bool, true, false, not, List, [], ◌∷◌, ◌++◌, drop, get_or, length-take, Option, Some, None, option_map, refl, ap, sym, subst, ◌∙◌, arith, get_or-take, get_or-drop}
use Rattle.std.specs.Prelude.{All, Result}
use Rattle.std.specs.FinMap as finmap
use Rattle.std.specs.FinSet as finset
use Rattle.std.specs.List.{position}
use Rattle.std.proofs.lemmas.List.Elements.{All-head, All-tail}
use Rattle.std.proofs.lemmas.List.Quantifiers.{position-Some}
use Rattle.scsi_disk.specs.Command.{fits}
use Rattle.scsi_disk.specs.declared.command.Command.{Command}
use Rattle.mpt_trace.specs.Command.{command_named}
use Rattle.mpt_trace.specs.declared.entry.Entry.{Entry}
use Rattle.mpt_trace.specs.declared.entry.Entry.TheVariants as entry
use Rattle.mpt_trace.specs.declared.host_state.HostState.{HostState}
use Rattle.mpt_trace.specs.declared.host_state.HostState.TheVariants as state
use Rattle.mpt_trace.specs.declared.input.Input.{Input}
use Rattle.mpt_trace.specs.declared.input.Input.TheVariants as input
use Rattle.mpt_trace.specs.declared.item.Down.{Down}
use Rattle.mpt_trace.specs.declared.item.Item.TheVariants as item
use Rattle.mpt_trace.specs.declared.item.Up.{Up}
use Rattle.mpt_trace.specs.declared.parties.Party.{Party}
use Rattle.mpt_trace.specs.declared.parties.Party.TheVariants as party
use Rattle.mpt_trace.specs.declared.refusal.Refusal.{Refusal}
use Rattle.mpt_trace.specs.declared.refusal.RefusedCall.TheVariants as call
use Rattle.mpt_wire.specs.Fits.Lines.{Line}
use Rattle.mpt_wire.specs.Machine.Causes.{is_up}
use Rattle.mpt_wire.specs.Queues.LeastFree.{Holder, IsLeastFree, LeastAsks, holder_next, holders_next, is_still_held, no_holders}
use Rattle.mpt_wire.specs.Walks.Ahead.{PassesAhead, PassesBefore, next_own, state_ahead}
use Rattle.mpt_wire.specs.Walks.Passes.{EachEntry}
use Rattle.mpt_wire.proofs.Ahead.{passes_joined}
use Rattle.mpt_wire.proofs.LeastFree.{least_are_accepted}
use Rattle.mpt_wire.proofs.Passing.{each_append}
use Rattle.mpt_wire.specs.Messages.Fields.{target_reset}
use Rattle.removal.specs.Handles.{ready_handle}
use Rattle.smid_pool.specs.Pool.{Free, Slot, is_free as is_free_slot, least_free, slot_of, slots_in}
use Rattle.smid_pool.specs.declared.class.Class.TheVariants as class
use Rattle.mpt_rules.proofs.HostCalls.{submits_by}
use Rattle.smid_pool.specs.Class.{before}
use Rattle.mpt_rules.specs.declared.request.Request.{Request}
use Rattle.mpt_rules.specs.declared.request.Request.TheVariants as request
use Rattle.mpt_rules.specs.declared.why.Why.{Why}
use Rattle.mpt_rules.specs.Host.Inputs as inputs
use Rattle.mpt_rules.specs.Host.Parts.{Host}
use Rattle.mpt_rules.specs.Host.Posts.{posts_task}
use Rattle.mpt_rules.specs.Host.Strange.{why_strange}
use Rattle.mpt_rules.specs.Host.Takes.{hears_up, takes_unless}
use Rattle.mpt_rules.specs.Law.{IsLine, LeastIdentifiersAreTaken, ReplaysAreOfCases}
use Rattle.mpt_rules.specs.Outcome.{Called, Happening}
use Rattle.mpt_rules.specs.Session.OpenCases.{HostCase, fabric_does, host_does, ioc_does, puts_down}
use Rattle.mpt_rules.specs.World.Cases.{Case, case_of, entries, happens, trace}
use Rattle.mpt_rules.specs.World.Inputs.{by_option, by_result, cause_of, host_told, refused_or}
use Rattle.mpt_rules.specs.World.Moves.{told_of}
use Rattle.mpt_rules.specs.World.Replays.{replays}
use Rattle.mpt_rules.specs.World.Settings.{IsSetting, Setting, first_world}
use Rattle.mpt_rules.specs.World.State.{World, up_lane}
use Rattle.law_moves.proofs.HostWords.{EndsIt, HostTells, IsHostWord, Words, host_tells}
use Rattle.law_flights.proofs.Least.{least_is}
use Rattle.law_parties.proofs.HostModes.{NoRefusal}
use Rattle.law_parties.proofs.ModesAgree.{no_refusal}
use Rattle.law_parties.proofs.OfParty.{Idles, OfFabric, OfHost, OfIoc, OfParty, of_party}
use Rattle.law_parties.proofs.Owned.{AreOwned, IsOwned, fabric_owned, ioc_owned}
use Rattle.law_identifiers.proofs.Holders.{IsSilent, held_by, state_by, stays}
use Rattle.law_identifiers.proofs.HeldSlots.{Holds}
use Rattle.law_identifiers.proofs.HeldRequests.{renewed}
use Rattle.law_identifiers.proofs.HeldReplies.{silently}
use Rattle.law_identifiers.proofs.HeldCases.{host_follows}

-- ---- all identifiers of SCSI IOs at once

abbrev pub AllHold : (ℕ → Option Holder) → Host → Type 0
AllHold holders host = (s : ℕ) (few : s ≤ 256) → Holds s few (holders s) host

-- the entries pass the rule, and the host goes with its state behind them
pub record Takes (holders : ℕ → Option Holder) (es later : List Entry) (host : Host) : Type 0 where
  pub passes : PassesBefore holders_next LeastAsks holders es later
  pub tied : AllHold (state_ahead holders_next holders es later) host

-- ---- the least free identifier is the least that isn't held

place_of : (pool : List (Slot Request)) (k : ℕ) → 1 ≤ k → slot_of pool k ≡ get_or pool (k - 1) Free
place_of pool zero l = absurd (omega arith)
place_of pool (suc i) l = ap (λ (j : ℕ). get_or pool j Free) (omega arith)

-- those below the place that is found aren't free
below_taken : (pool : List (Slot Request)) (x k : ℕ) → least_free class.ScsiIo pool ≡ Some x → 1 ≤ k → k < x → is_free_slot (slot_of pool k) ≡ false
below_taken pool x k e l m = by_place (position is_free_slot (slots_in class.ScsiIo pool)) refl e
  where
    by_place : (w : Option ℕ) → position is_free_slot (slots_in class.ScsiIo pool) ≡ w → option_map (λ (place : ℕ). before class.ScsiIo + place + 1) w ≡ Some x → is_free_slot (slot_of pool k) ≡ false
    by_place None f g = absurd (cc)
    by_place (Some place) f g =
        let q = position-Some is_free_slot (slots_in class.ScsiIo pool) place Free f in
        let same : x ≡ suc place = grind arith in
        let inside = q.0 in
        let short : place < 256 = omega (arith, inside, length-take 256 (drop 0 pool)) in
        let low : k - 1 < place = omega (arith, same, l, m) in
        let few : k - 1 < 256 = omega (arith, low, short) in
        let place_is : 0 + (k - 1) ≡ k - 1 = omega arith in
        let at : get_or (slots_in class.ScsiIo pool) (k - 1) Free ≡ get_or pool (k - 1) Free = get_or-take 256 (drop 0 pool) (k - 1) Free few ∙ (get_or-drop 0 pool (k - 1) Free ∙ ap (λ (j : ℕ). get_or pool j Free) place_is) in
        ap is_free_slot (place_of pool k l ∙ sym at) ∙ q.2 (k - 1) low

-- ---- entries that accept nothing

abbrev pub IsNoAccept : Entry → Type 0
IsNoAccept (entry.Accept n a x) = ⊥
IsNoAccept _ = Unit {0}

none_asked : (holders : ℕ → Option Holder) (e : Entry) (ahead : Option Entry) → IsNoAccept e → LeastAsks holders e ahead
none_asked holders (entry.Accept n a x) ahead q = absurd q
none_asked holders _ ahead q = tt

passes_none : (holders : ℕ → Option Holder) (es later : List Entry) → EachEntry IsNoAccept es → PassesBefore holders_next LeastAsks holders es later
passes_none holders [] later q = tt
passes_none holders (e ∷ es) later q = (none_asked holders e (next_own e (es ++ later)) q.0, passes_none (holders_next holders e (next_own e (es ++ later))) es later q.1)

-- ---- what a case of the host enters

word_none : (e : Entry) → IsHostWord e → IsNoAccept e
word_none (entry.Accept n a x) w = absurd w
word_none _ w = tt

words_none : (es : List Entry) → EachEntry IsHostWord es → EachEntry IsNoAccept es
words_none [] w = tt
words_none (e ∷ es) w = (word_none e w.0, words_none es w.1)

tells_none : (es : List Entry) → HostTells es → EachEntry IsNoAccept es
tells_none es (Words w) = words_none es w
tells_none es (EndsIt told w is) = subst (EachEntry IsNoAccept) (sym is) (each_append IsNoAccept told (entry.ResetDone ∷ []) (words_none told w) (tt, tt))

take_none : (queue : ℕ) (next : Up) → IsNoAccept (entry.Take (up_lane queue) (item.Up next))
take_none queue next = tt

took_none : (host : Host) (queue : ℕ) (next : Up) (why : Option Why) → EachEntry IsNoAccept (told_of (takes_unless host queue next why).answer (takes_unless host queue next why).told)
took_none host queue next None = tells_none (hears_up host queue next).entries (host_tells host queue next)
took_none host queue next (Some why) = tt

answered_none : (i : Input) (refused : Refusal → Entry) (cause : Option Refusal) (told : List Entry) → ((c : Refusal) → IsNoAccept (refused c)) → EachEntry IsNoAccept told → EachEntry IsNoAccept (entry.Given i ∷ refused_or refused cause told)
answered_none i refused (Some cause) told r q = (tt, (r cause, tt))
answered_none i refused None told r q = (tt, q)

granted_none : (i : Input) (refused : Refusal → Entry) (cause : Option Refusal) (host : Host) (granted : Called Host (Result ℕ Refusal)) → ((c : Refusal) → IsNoAccept (refused c)) → EachEntry IsNoAccept granted.told
    → EachEntry IsNoAccept (by_result i refused (inputs.granted_unless cause host granted)).entries
granted_none i refused (Some cause) host granted r q = (tt, (r cause, tt))
granted_none i refused None host granted r q = answered_none i refused (cause_of granted.answer) granted.told r q

start_none : (host : Host) (m : HostState) → EachEntry IsNoAccept (by_option input.Start call.Start (inputs.starts_in host m)).entries
start_none host state.Off = (tt, tt)
start_none host state.Starting = (tt, (tt, tt))
start_none host state.Up = (tt, (tt, tt))
start_none host state.Resetting = (tt, (tt, tt))

reset_none : (host : Host) (m : HostState) → EachEntry IsNoAccept (by_option input.Reset call.Reset (inputs.diag_resets_in host m)).entries
reset_none host state.Off = (tt, (tt, tt))
reset_none host state.Starting = (tt, tt)
reset_none host state.Up = (tt, tt)
reset_none host state.Resetting = (tt, (tt, tt))

unit_none : (host : Host) (m : HostState) → EachEntry IsNoAccept (by_option input.UnitReset call.UnitReset (inputs.unit_resets_in host m)).entries
unit_none host state.Off = (tt, (tt, tt))
unit_none host state.Starting = (tt, (tt, tt))
unit_none host state.Up = (tt, tt)
unit_none host state.Resetting = (tt, (tt, tt))

module _ (holders : ℕ → Option Holder) (host : Host) (all : AllHold holders host) (later : List Entry) where
  abbrev Passing : List Entry → Type 0
  Passing es = PassesBefore holders_next LeastAsks holders es later

  -- a submission that is accepted has the least identifier that isn't held
  held_there : (k : ℕ) → k ≤ 256 → (e : Entry) (ahead : Option Entry) → IsSilent e → is_still_held (holder_next k (holders k) e ahead) ≡ not (is_free_slot (slot_of host.pool k))
  held_there k few e ahead q = ap is_still_held (stays k (holders k) e ahead q) ∙ (held_by (holders k) ∙ ap (λ (slot : Slot Request). not (is_free_slot slot)) (sym (all k few).slot))

  accepts_least : (e : Entry) (ahead : Option Entry) (x : ℕ) → IsSilent e → least_free class.ScsiIo host.pool ≡ Some x → IsLeastFree (λ (k : ℕ). is_still_held (holder_next k (holders k) e ahead)) x
  accepts_least e ahead x q f =
      let least = least_is class.ScsiIo host.pool x f in
      let inside = least.inside in
      let high : x ≤ 256 = omega (arith, inside) in
      record {
        low = omega (arith, inside);
        high = high;
        free = held_there x high e ahead q ∙ ap (λ (slot : Slot Request). not (is_free_slot slot)) least.free;
        least = λ k from below. held_there k (omega (arith, below, high)) e ahead q ∙ ap not (below_taken host.pool x k f from below);
      }

  submits_pass : (k address : ℕ) (i : Input) (command : Command) (used mode : Bool) (handle : Option ℕ) (fit : Bool) (w : Option ℕ) → IsSilent (entry.Given i) → least_free class.ScsiIo host.pool ≡ w
      → Passing (by_result i (entry.RefuseSubmit k) (submits_by host k address command used mode handle fit w)).entries
  submits_pass k address i command true mode handle fit w q f = (tt, (tt, tt))
  submits_pass k address i command false false handle fit w q f = (tt, (tt, tt))
  submits_pass k address i command false true None fit w q f = (tt, (tt, tt))
  submits_pass k address i command false true (Some y) false w q f = (tt, (tt, tt))
  submits_pass k address i command false true (Some y) true None q f = (tt, (tt, tt))
  submits_pass k address i command false true (Some y) true (Some x) q f =
      (tt, (accepts_least (entry.Given i) (next_own (entry.Given i) (entry.Accept k address x ∷ later)) x q f, tt))

  told_passes : (i : Input) → Passing (host_told host i).entries
  told_passes input.Start = passes_none holders (host_told host input.Start).entries later (start_none host host.mode)
  told_passes (input.Submit k address form) =
      submits_pass k address (input.Submit k address form) (command_named form) (finset.contains host.accepted k) (is_up host.mode) (ready_handle host.phases address) (fits (command_named form)) (least_free class.ScsiIo host.pool) tt refl
  told_passes (input.Abort k) =
      let x : ℕ = inputs.next_smid host class.High in
      passes_none holders (host_told host (input.Abort k)).entries later
      (granted_none (input.Abort k) (entry.Refuse (call.Abort k)) (inputs.host_cause_of_abort host k) host (inputs.given (inputs.with_abort_asked host k (inputs.cmd_of host k) x) [] x) (λ c. tt) tt)
  told_passes (input.TargetReset address) =
      let x : ℕ = inputs.next_smid host class.High in
      passes_none holders (host_told host (input.TargetReset address)).entries later
      (granted_none (input.TargetReset address) (entry.Refuse (call.TargetReset address)) (inputs.host_cause_of_target_reset host address) host
      (inputs.given (posts_task host x (request.TargetReset address) (inputs.ready_handle_at host address) target_reset 0) [] x) (λ c. tt) tt)
  told_passes input.Reset = passes_none holders (host_told host input.Reset).entries later (reset_none host host.mode)
  told_passes input.UnitReset = passes_none holders (host_told host input.UnitReset).entries later (unit_none host host.mode)
  told_passes (input.Plug address expander phy) = tt
  told_passes (input.Unplug address) = tt

  put_passes : (items : List Down) → Passing (puts_down host items).entries
  put_passes [] = tt
  put_passes (x ∷ rest) = (tt, tt)

  host_passes : (c : HostCase) → Passing (host_does host c).entries
  host_passes (HostCase.Told i) = told_passes i
  host_passes HostCase.Puts = put_passes host.out
  host_passes (HostCase.Takes queue next) = passes_none holders (host_does host (HostCase.Takes queue next)).entries later (take_none queue next, took_none host queue next (why_strange host queue next))
  host_passes HostCase.Looks = tt
  host_passes HostCase.Stops = tt
  host_passes (HostCase.TakesAsk submitter x) = (tt, tt)
  host_passes (HostCase.PutsTell submitter x) = (tt, tt)

-- ---- every world

silent_takes : (holders : ℕ → Option Holder) (host : Host) (es later : List Entry) → EachEntry IsSilent es → EachEntry IsNoAccept es → AllHold holders host → Takes holders es later host
silent_takes holders host es later q n all =
    record {
      passes = passes_none holders es later n;
      tied = λ s few. subst (λ (w : Option Holder). Holds s few w host) (sym (state_by s holders es later)) (silently s few (holders s) es host q (all s few) later);
    }

-- what another party enters
pub ioc_silent : (e : Entry) → IsOwned party.Ioc e → IsSilent e × IsNoAccept e
ioc_silent (entry.Accept n a x) own = absurd (cc)
ioc_silent (entry.Answer n how) own = absurd (cc)
ioc_silent (entry.AbortEnd n how) own = absurd (cc)
ioc_silent entry.ResetDone own = absurd (cc)
ioc_silent (entry.Given (input.Abort n)) own = absurd (cc)
ioc_silent _ own = (tt, tt)

pub fabric_silent : (e : Entry) → IsOwned party.Fabric e → IsSilent e × IsNoAccept e
fabric_silent (entry.Accept n a x) own = absurd (cc)
fabric_silent (entry.Answer n how) own = absurd (cc)
fabric_silent (entry.AbortEnd n how) own = absurd (cc)
fabric_silent entry.ResetDone own = absurd (cc)
fabric_silent (entry.Given (input.Abort n)) own = absurd (cc)
fabric_silent _ own = (tt, tt)

module _ (p : Party) (silent : (e : Entry) → IsOwned p e → IsSilent e × IsNoAccept e) where
  all_silent : (es : List Entry) → AreOwned p es → EachEntry IsSilent es
  all_silent [] own = tt
  all_silent (e ∷ es) own = ((silent e (All-head (IsOwned p) e es own)).0, all_silent es (All-tail (IsOwned p) e es own))

  all_none : (es : List Entry) → AreOwned p es → EachEntry IsNoAccept es
  all_none [] own = tt
  all_none (e ∷ es) own = ((silent e (All-head (IsOwned p) e es own)).1, all_none es (All-tail (IsOwned p) e es own))

pub host_takes : (holders : ℕ → Option Holder) (host : Host) (c : HostCase) (later : List Entry) → NoRefusal later → AllHold holders host → Takes holders (host_does host c).entries later (host_does host c).part
host_takes holders host c later n all =
    record {
      passes = host_passes holders host all later c;
      tied = λ s few. subst (λ (v : Option Holder). Holds s few v (host_does host c).part) (sym (state_by s holders (host_does host c).entries later)) (host_follows s few (holders s) host c (all s few) later n);
    }

pub others_take : (p : Party) → ((e : Entry) → IsOwned p e → IsSilent e × IsNoAccept e) → (holders : ℕ → Option Holder) (host : Host) (es later : List Entry) → AreOwned p es → AllHold holders host → Takes holders es later host
others_take p silent holders host es later own all = silent_takes holders host es later (all_silent p silent es own) (all_none p silent es own) all

case_takes : (holders : ℕ → Option Holder) (w : World) (o : Happening World) (later : List Entry) → OfParty w o → NoRefusal later → AllHold holders w.host → Takes holders o.entries later o.part.host
case_takes holders w o later (Idles c same is) n all =
    subst (λ (es : List Entry). Takes holders es later o.part.host) (sym is) (silent_takes holders o.part.host (entry.Idle c ∷ []) later (tt, tt) (tt, tt) (subst (λ (v : World). AllHold holders v.host) (sym same) all))
case_takes holders w o later (OfHost c host ioc is) n all =
    subst (λ (es : List Entry). Takes holders es later o.part.host) (sym is) (subst (Takes holders (host_does w.host c).entries later) (sym host) (host_takes holders w.host c later n all))
case_takes holders w o later (OfIoc c host ioc is) n all =
    subst (λ (es : List Entry). Takes holders es later o.part.host) (sym is)
    (others_take party.Ioc ioc_silent holders o.part.host (ioc_does w.ioc c).entries later (ioc_owned w.ioc c) (subst (AllHold holders) (sym host) all))
case_takes holders w o later (OfFabric c host ioc is) n all =
    subst (λ (es : List Entry). Takes holders es later o.part.host) (sym is)
    (others_take party.Fabric fabric_silent holders o.part.host (fabric_does w.fabric c).entries later (fabric_owned w.fabric c) (subst (AllHold holders) (sym host) all))

all_take : (holders : ℕ → Option Holder) (w : World) (cases : List Case) → AllHold holders w.host → PassesAhead holders_next LeastAsks holders (trace w cases)
all_take holders w [] all = tt
all_take holders w (c ∷ cases) all =
    let later : List Entry = trace (happens w c) cases in
    let t = case_takes holders w (case_of w c) later (of_party w c) (no_refusal (happens w c) cases) all in
    passes_joined holders_next LeastAsks holders (entries w c) later t.passes (all_take (state_ahead holders_next holders (entries w c) later) (happens w c) cases t.tied)

pub least_law : (s : Setting) (cases : List Case) → LeastIdentifiersAreTaken s (trace (first_world s) cases)
least_law s cases = least_are_accepted (trace (first_world s) cases) (all_take no_holders (first_world s) cases (λ x few. renewed x few None finmap.empty finmap.empty finset.empty tt))

pub replays_least : ReplaysAreOfCases → (s : Setting) (lines : List Line) → IsSetting s → All (IsLine s) lines → LeastIdentifiersAreTaken s (replays (first_world s) lines).entries
replays_least of_cases s lines i a = let o = of_cases s lines i a in subst (λ (t : List Entry). LeastIdentifiersAreTaken s t) (sym o.traced) (least_law s o.cases)
