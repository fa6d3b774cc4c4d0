-- What a party's case enters is the party's, and no idle choice.
use Rattle.std.proofs.Common.{◌≡◌, ℕ, zero, suc, Bool, true, false, not, ◌&&◌, List, [], ◌∷◌, Option, Some, None, refl, subst, sym, arith}
use Rattle.std.specs.Prelude.{All, Result}
use Rattle.std.proofs.lemmas.Bool.Decides.{nat_tests}
use Rattle.std.proofs.lemmas.List.Elements.{All-append, All-cons, All-nil}
use Rattle.scsi_disk.specs.declared.command.Command.{Command}
use Rattle.smid_pool.specs.declared.class.Class.TheVariants as class
use Rattle.mpi_doorbell.specs.DoorRegisters.{register_written}
use Rattle.mpi_doorbell.specs.declared.effect.Effect.{Effect}
use Rattle.mpi_doorbell.specs.declared.effect.Effect.TheVariants as effect
use Rattle.mpt_trace.specs.Command.{command_named}
use Rattle.mpt_trace.specs.declared.entry.Entry.{Entry}
use Rattle.mpt_trace.specs.declared.entry.Entry.TheVariants as entry
use Rattle.mpt_trace.specs.declared.host_state.HostState.{HostState}
use Rattle.mpt_trace.specs.declared.host_state.HostState.TheVariants as state
use Rattle.mpt_trace.specs.declared.input.Input.{Input}
use Rattle.mpt_trace.specs.declared.input.Input.TheVariants as input
use Rattle.mpt_trace.specs.declared.item.Back.{Back}
use Rattle.mpt_trace.specs.declared.item.Down.{Down}
use Rattle.mpt_trace.specs.declared.item.Down.TheVariants as down
use Rattle.mpt_trace.specs.declared.item.Item.TheVariants as item
use Rattle.mpt_trace.specs.declared.item.Out.{Out}
use Rattle.mpt_trace.specs.declared.item.Up.{Up}
use Rattle.mpt_trace.specs.declared.lane.LaneName.TheVariants as lane
use Rattle.mpt_trace.specs.declared.parties.Party.{Party}
use Rattle.mpt_trace.specs.declared.parties.Party.TheVariants as party
use Rattle.mpt_trace.specs.declared.refusal.Refusal.{Refusal}
use Rattle.mpt_trace.specs.declared.refusal.Refusal.TheVariants as refusal
use Rattle.mpt_trace.specs.declared.refusal.RefusedCall.{RefusedCall}
use Rattle.mpt_trace.specs.declared.refusal.RefusedCall.TheVariants as call
use Rattle.mpt_wire.specs.Fits.Plan.{is_idle}
use Rattle.mpt_wire.specs.Messages.Fields.{target_reset}
use Rattle.mpt_wire.specs.Walks.Ahead.{is_of}
use Rattle.mpt_wire.specs.Walks.Passes.{EachEntry}
use Rattle.mpt_rules.specs.declared.post.Post.{Post}
use Rattle.mpt_rules.specs.declared.request.Request.TheVariants as request
use Rattle.mpt_rules.specs.declared.why.Why.{Why}
use Rattle.mpt_rules.specs.Fabric.Calls.{PlugRefusal, announces, fabric_plugs, fabric_unplugs, runs}
use Rattle.mpt_rules.specs.Fabric.Parts.{Fabric}
use Rattle.mpt_rules.specs.Host.Inputs.{cmd_of, diag_resets_in, given, granted_unless, host_cause_of_abort, host_cause_of_submit, host_cause_of_target_reset, next_smid, ready_handle_at, starts_in, unit_resets_in, with_abort_asked, with_accepted}
use Rattle.mpt_rules.specs.Host.Parts.{Host}
use Rattle.mpt_rules.specs.Host.Posts.{posts_task}
use Rattle.mpt_rules.specs.Host.Strange.{why_strange}
use Rattle.mpt_rules.specs.Host.Takes.{hears_up, takes_unless}
use Rattle.mpt_rules.specs.Ioc.Parts.{Ioc}
use Rattle.mpt_rules.specs.Ioc.Registers.{after_effect}
use Rattle.mpt_rules.specs.Ioc.Steps.{steps_high_on, steps_normal_on}
use Rattle.mpt_rules.specs.Ioc.Takes.{front_out, front_up_on, takes_back, takes_down}
use Rattle.mpt_rules.specs.Outcome.{Called}
use Rattle.mpt_rules.specs.Session.OpenCases.{FabricCase, HostCase, IocCase, PutsAsk, PutsOut, PutsUp, SubmitterCase, TakesBack, TakesDown, TakesTell, WorksHigh, WorksNormal, fabric_does, host_does, ioc_does, open_worked, puts_back, puts_down, puts_out, puts_up, ran, says_or_not, submitter_does}
use Rattle.mpt_rules.specs.World.Inputs.{by_option, by_plug, by_result, cause_of, fabric_told, host_told, refused_or, refused_plug_entered, told_cause}
use Rattle.mpt_rules.specs.World.Moves.{told_of}
use Rattle.mpt_rules.specs.World.State.{up_lane}
use Rattle.law_moves.proofs.HostWords.{EndsIt, HostTells, IsHostWord, Words, host_tells}
use Rattle.law_moves.proofs.IocWords.{IsIocWord, back_words, works_words}

-- the entry is the party's, and isn't idle
abbrev pub IsOwned : Party → Entry → Type 0
IsOwned party e = (is_of party e && not (is_idle e)) ≡ true

pub own_of : (party : Party) (e : Entry) → IsOwned party e → is_of party e ≡ true
own_of party e h = by_tests (is_of party e) (is_idle e) h
  where
    by_tests : (a b : Bool) → (a && not b) ≡ true → a ≡ true
    by_tests true b t = refl
    by_tests false b t = absurd (cc)

pub own_not_idle : (party : Party) (e : Entry) → IsOwned party e → is_idle e ≡ false
own_not_idle party e h = by_tests (is_of party e) (is_idle e) h
  where
    by_tests : (a b : Bool) → (a && not b) ≡ true → b ≡ false
    by_tests true true t = absurd (cc)
    by_tests true false t = refl
    by_tests false b t = absurd (cc)

-- all of them are
abbrev pub AreOwned : Party → List Entry → Type 0
AreOwned party es = All (IsOwned party) es

none_owned : (party : Party) → AreOwned party []
none_owned party = All-nil (IsOwned party)

also_owned : (party : Party) (e : Entry) (es : List Entry) → IsOwned party e → AreOwned party es → AreOwned party (e ∷ es)
also_owned party e es own rest = All-cons (IsOwned party) e es own rest

one_owned : (party : Party) (e : Entry) → IsOwned party e → AreOwned party (e ∷ [])
one_owned party e own = also_owned party e [] own (none_owned party)

two_owned : (party : Party) (e f : Entry) → IsOwned party e → IsOwned party f → AreOwned party (e ∷ f ∷ [])
two_owned party e f own other = also_owned party e (f ∷ []) own (one_owned party f other)

-- ---- the host

host_word : (e : Entry) → IsHostWord e → IsOwned party.Host e
host_word entry.HostUp h = refl
host_word (entry.Ready address handle) h = refl
host_word (entry.Lost address handle) h = refl
host_word (entry.Answer n how) h = refl
host_word (entry.AbortEnd n how) h = refl
host_word (entry.TargetEnd address how) h = refl
host_word _ h = absurd h

host_words : (es : List Entry) → EachEntry IsHostWord es → AreOwned party.Host es
host_words [] h = none_owned party.Host
host_words (e ∷ es) h = also_owned party.Host e es (host_word e h.0) (host_words es h.1)

told_words : (es : List Entry) → HostTells es → AreOwned party.Host es
told_words es (Words words) = host_words es words
told_words es (EndsIt told words is) =
    subst (AreOwned party.Host) (sym is)
    (All-append (IsOwned party.Host) told (entry.ResetDone ∷ []) (host_words told words) (one_owned party.Host entry.ResetDone refl))

took : (host : Host) (queue : ℕ) (next : Up) (why : Option Why)
    → AreOwned party.Host (told_of (takes_unless host queue next why).answer (takes_unless host queue next why).told)
took host queue next None = told_words (hears_up host queue next).entries (host_tells host queue next)
took host queue next (Some why) = none_owned party.Host

take_up : (queue : ℕ) (next : Up) → IsOwned party.Host (entry.Take (up_lane queue) (item.Up next))
take_up zero next = refl
take_up (suc queue) next = refl

-- an input, and its refusal or what is told of it
answered_owned : (i : Input) (refused : Refusal → Entry) (cause : Option Refusal) (told : List Entry) → IsOwned party.Host (entry.Given i) → ((c : Refusal) → IsOwned party.Host (refused c))
    → AreOwned party.Host told → AreOwned party.Host (entry.Given i ∷ refused_or refused cause told)
answered_owned i refused (Some cause) told given named own = two_owned party.Host (entry.Given i) (refused cause) given (named cause)
answered_owned i refused None told given named own = also_owned party.Host (entry.Given i) told given own

granted_owned : (i : Input) (refused : Refusal → Entry) (cause : Option Refusal) (host : Host) (granted : Called Host (Result ℕ Refusal)) → IsOwned party.Host (entry.Given i)
    → ((c : Refusal) → IsOwned party.Host (refused c)) → AreOwned party.Host granted.told → AreOwned party.Host (by_result i refused (granted_unless cause host granted)).entries
granted_owned i refused (Some cause) host granted given named own = two_owned party.Host (entry.Given i) (refused cause) given (named cause)
granted_owned i refused None host granted given named own = answered_owned i refused (cause_of granted.answer) granted.told given named own

started_owned : (host : Host) (m : HostState) → AreOwned party.Host (by_option input.Start call.Start (starts_in host m)).entries
started_owned host state.Off = one_owned party.Host (entry.Given input.Start) refl
started_owned host state.Starting = two_owned party.Host (entry.Given input.Start) (entry.Refuse call.Start refusal.AlreadyStarted) refl refl
started_owned host state.Up = two_owned party.Host (entry.Given input.Start) (entry.Refuse call.Start refusal.AlreadyStarted) refl refl
started_owned host state.Resetting = two_owned party.Host (entry.Given input.Start) (entry.Refuse call.Start refusal.AlreadyStarted) refl refl

reset_owned : (host : Host) (m : HostState) → AreOwned party.Host (by_option input.Reset call.Reset (diag_resets_in host m)).entries
reset_owned host state.Off = two_owned party.Host (entry.Given input.Reset) (entry.Refuse call.Reset refusal.NotStarted) refl refl
reset_owned host state.Starting = one_owned party.Host (entry.Given input.Reset) refl
reset_owned host state.Up = one_owned party.Host (entry.Given input.Reset) refl
reset_owned host state.Resetting = two_owned party.Host (entry.Given input.Reset) (entry.Refuse call.Reset refusal.AlreadyResetting) refl refl

unit_reset_owned : (host : Host) (m : HostState) → AreOwned party.Host (by_option input.UnitReset call.UnitReset (unit_resets_in host m)).entries
unit_reset_owned host state.Off = two_owned party.Host (entry.Given input.UnitReset) (entry.Refuse call.UnitReset refusal.NotOperational) refl refl
unit_reset_owned host state.Starting = two_owned party.Host (entry.Given input.UnitReset) (entry.Refuse call.UnitReset refusal.NotOperational) refl refl
unit_reset_owned host state.Up = one_owned party.Host (entry.Given input.UnitReset) refl
unit_reset_owned host state.Resetting = two_owned party.Host (entry.Given input.UnitReset) (entry.Refuse call.UnitReset refusal.NotOperational) refl refl

told_owned : (host : Host) (i : Input) → AreOwned party.Host (host_told host i).entries
told_owned host input.Start = started_owned host host.mode
told_owned host (input.Submit n address form) =
    let command : Command = command_named form in
    let handle : ℕ = ready_handle_at host address in
    let smid : ℕ = next_smid host class.ScsiIo in
    granted_owned (input.Submit n address form) (entry.RefuseSubmit n) (host_cause_of_submit host n address command) host
    (given (with_accepted host n address command handle smid) (entry.Accept n address smid ∷ []) smid) refl (λ c. refl) (one_owned party.Host (entry.Accept n address smid) refl)
told_owned host (input.Abort n) =
    let smid : ℕ = next_smid host class.High in
    granted_owned (input.Abort n) (entry.Refuse (call.Abort n)) (host_cause_of_abort host n) host (given (with_abort_asked host n (cmd_of host n) smid) [] smid) refl (λ c. refl) (none_owned party.Host)
told_owned host (input.TargetReset address) =
    let smid : ℕ = next_smid host class.High in
    granted_owned (input.TargetReset address) (entry.Refuse (call.TargetReset address)) (host_cause_of_target_reset host address) host
    (given (posts_task host smid (request.TargetReset address) (ready_handle_at host address) target_reset 0) [] smid) refl (λ c. refl) (none_owned party.Host)
told_owned host input.Reset = reset_owned host host.mode
told_owned host input.UnitReset = unit_reset_owned host host.mode
told_owned host (input.Plug address expander phy) = none_owned party.Host
told_owned host (input.Unplug address) = none_owned party.Host

put_down : (host : Host) (items : List Down) → AreOwned party.Host (puts_down host items).entries
put_down host [] = none_owned party.Host
put_down host (next ∷ rest) = one_owned party.Host (entry.Put lane.Down (item.Down next)) refl

pub host_owned : (host : Host) (c : HostCase) → AreOwned party.Host (host_does host c).entries
host_owned host (HostCase.Told input) = told_owned host input
host_owned host HostCase.Puts = put_down host host.out
host_owned host (HostCase.Takes queue next) = also_owned party.Host (entry.Take (up_lane queue) (item.Up next)) _ (take_up queue next) (took host queue next (why_strange host queue next))
host_owned host HostCase.Looks = none_owned party.Host
host_owned host HostCase.Stops = none_owned party.Host
host_owned host (HostCase.TakesAsk submitter ask) = one_owned party.Host (entry.Take (lane.Ask submitter) (item.Ask ask)) refl
host_owned host (HostCase.PutsTell submitter tell) = one_owned party.Host (entry.Put (lane.Tell submitter) (item.Tell tell)) refl

-- ---- the controller

ioc_word : (e : Entry) → IsIocWord e → IsOwned party.Ioc e
ioc_word (entry.Bind handle address plug) h = refl
ioc_word (entry.Unbind handle) h = refl
ioc_word _ h = absurd h

ioc_words : (es : List Entry) → EachEntry IsIocWord es → AreOwned party.Ioc es
ioc_words [] h = none_owned party.Ioc
ioc_words (e ∷ es) h = also_owned party.Ioc e es (ioc_word e h.0) (ioc_words es h.1)

written : (ioc : Ioc) (e : Effect) → AreOwned party.Ioc (after_effect ioc e).entries
written ioc effect.None = none_owned party.Ioc
written ioc (effect.Asked count bytes) = none_owned party.Ioc
written ioc effect.UnitReset = one_owned party.Ioc entry.UnbindAll refl
written ioc effect.AdapterReset = one_owned party.Ioc entry.UnbindAll refl
written ioc (effect.Fault code) = none_owned party.Ioc

took_down : (ioc : Ioc) (next : Down) → AreOwned party.Ioc (takes_down ioc next).entries
took_down ioc (down.Write reg value) = written (record ioc { door = (register_written ioc.door reg value).registers }) (register_written ioc.door reg value).effect
took_down ioc (down.Read reg) = none_owned party.Ioc
took_down ioc (down.Post descriptor frame payload) = none_owned party.Ioc
took_down ioc (down.Return address index) = none_owned party.Ioc
took_down ioc down.Stop = none_owned party.Ioc

high : (ioc : Ioc) (posts : List Post) → AreOwned party.Ioc (open_worked ioc (steps_high_on ioc posts)).entries
high ioc [] = none_owned party.Ioc
high ioc (p ∷ rest) = ioc_words _ (works_words (record ioc { high = rest }) p)

normal : (ioc : Ioc) (posts : List Post) → AreOwned party.Ioc (open_worked ioc (steps_normal_on ioc posts)).entries
normal ioc [] = none_owned party.Ioc
normal ioc (p ∷ rest) = ioc_words _ (works_words (record ioc { normal = rest }) p)

put_out : (ioc : Ioc) (o : Option Out) → AreOwned party.Ioc (puts_out ioc o).entries
put_out ioc None = none_owned party.Ioc
put_out ioc (Some next) = one_owned party.Ioc (entry.Put lane.Out (item.Out next)) refl

put_up : (ioc : Ioc) (queue : ℕ) (o : Option Up) → AreOwned party.Ioc (puts_up ioc queue o).entries
put_up ioc queue None = none_owned party.Ioc
put_up ioc zero (Some next) = one_owned party.Ioc (entry.Put lane.Up (item.Up next)) refl
put_up ioc (suc queue) (Some next) = one_owned party.Ioc (entry.Put (lane.UpOn (suc queue)) (item.Up next)) refl

pub ioc_owned : (ioc : Ioc) (c : IocCase) → AreOwned party.Ioc (ioc_does ioc c).entries
ioc_owned ioc (TakesDown next) = also_owned party.Ioc (entry.Take lane.Down (item.Down next)) (takes_down ioc next).entries refl (took_down ioc next)
ioc_owned ioc WorksHigh = high ioc ioc.high
ioc_owned ioc WorksNormal = normal ioc ioc.normal
ioc_owned ioc PutsOut = put_out ioc (front_out ioc)
ioc_owned ioc (TakesBack next) = also_owned party.Ioc (entry.Take lane.Back (item.Back next)) (takes_back ioc next).entries refl (ioc_words (takes_back ioc next).entries (back_words ioc next))
ioc_owned ioc (PutsUp queue) = put_up ioc queue (front_up_on ioc queue)

-- ---- the fabric

plug_refused : (fabric : Fabric) (i : Input) (c : RefusedCall) (cause : Option Refusal) → IsOwned party.Fabric (entry.Given i) → ((r : Refusal) → IsOwned party.Fabric (entry.Refuse c r))
    → AreOwned party.Fabric (refused_plug_entered fabric i c cause).entries
plug_refused fabric i c None given refused = none_owned party.Fabric
plug_refused fabric i c (Some cause) given refused = two_owned party.Fabric (entry.Given i) (entry.Refuse c cause) given (refused cause)

plugged : (i : Input) (c : RefusedCall) (o : Option PlugRefusal) (fabric : Fabric) → IsOwned party.Fabric (entry.Given i) → ((r : Refusal) → IsOwned party.Fabric (entry.Refuse c r))
    → AreOwned party.Fabric (by_plug i c o fabric).entries
plugged i c None fabric given refused = one_owned party.Fabric (entry.Given i) given
plugged i c (Some r) fabric given refused = plug_refused fabric i c (told_cause r) given refused

fabric_told_owned : (fabric : Fabric) (i : Input) → AreOwned party.Fabric (fabric_told fabric i).entries
fabric_told_owned fabric (input.Plug address expander phy) =
    let called : Called Fabric (Option PlugRefusal) = fabric_plugs fabric address expander phy in
    plugged (input.Plug address expander phy) (call.Plug address) called.answer called.part refl (λ r. refl)
fabric_told_owned fabric (input.Unplug address) =
    let called : Called Fabric (Option PlugRefusal) = fabric_unplugs fabric address in
    plugged (input.Unplug address) (call.Unplug address) called.answer called.part refl (λ r. refl)
fabric_told_owned fabric _ = none_owned party.Fabric

said : (fabric : Fabric) (o : Option Fabric) → AreOwned party.Fabric (says_or_not fabric o).entries
said fabric None = none_owned party.Fabric
said fabric (Some after) = none_owned party.Fabric

ran_owned : (fabric : Fabric) (tag : ℕ) (o : Option ℕ) (after : Fabric) → AreOwned party.Fabric (ran fabric tag o after).entries
ran_owned fabric tag None after = none_owned party.Fabric
ran_owned fabric tag (Some address) after = one_owned party.Fabric (entry.Run address tag) refl

put_back : (fabric : Fabric) (items : List Back) → AreOwned party.Fabric (puts_back fabric items).entries
put_back fabric [] = none_owned party.Fabric
put_back fabric (next ∷ rest) = one_owned party.Fabric (entry.Put lane.Back (item.Back next)) refl

pub fabric_owned : (fabric : Fabric) (c : FabricCase) → AreOwned party.Fabric (fabric_does fabric c).entries
fabric_owned fabric (FabricCase.Told input) = fabric_told_owned fabric input
fabric_owned fabric (FabricCase.Takes next) = one_owned party.Fabric (entry.Take lane.Out (item.Out next)) refl
fabric_owned fabric FabricCase.Says = said fabric (announces fabric)
fabric_owned fabric FabricCase.Puts = put_back fabric fabric.out
fabric_owned fabric (FabricCase.Runs tag) = ran_owned fabric tag (runs fabric tag).answer (runs fabric tag).part
fabric_owned fabric FabricCase.Calms = none_owned party.Fabric

-- ---- a submitter

pub submitter_owned : (submitter : ℕ) (c : SubmitterCase) → AreOwned (party.Submitter submitter) (submitter_does submitter c)
submitter_owned submitter (PutsAsk ask) = one_owned (party.Submitter submitter) (entry.Put (lane.Ask submitter) (item.Ask ask)) (grind (arith, nat_tests))
submitter_owned submitter (TakesTell tell) = one_owned (party.Submitter submitter) (entry.Take (lane.Tell submitter) (item.Tell tell)) (grind (arith, nat_tests))
