-- Each case keeps that the view knows whether a reset goes on.
use Rattle.std.proofs.Common.{◌≡◌, ℕ, zero, suc, ◌==◌, ◌&&◌, ◌||◌, not, if◌then◌else◌, Bool, true, false, List, [], ◌∷◌, ◌++◌, append-nil, slice_set, take, Option, Some, None, refl, ap, sym, ◌∙◌, subst, arith}
use Rattle.std.specs.FinMap as finmap
use Rattle.std.specs.FinSet as finset
use Rattle.mpi_doorbell.specs.HostDoor.{HostDoor}
use Rattle.mpi_doorbell.specs.HostSteps.{diagnostic_reset, handshake_of_message, look_at_doorbell, unit_reset}
use Rattle.mpt_messages.specs.FrameBytes.{message_bytes}
use Rattle.mpt_messages.specs.HostFrames.{host_message}
use Rattle.mpt_messages.specs.declared.host_ask.HostAsk.{HostAsk}
use Rattle.mpt_messages.specs.declared.host_ask.HostAsk.TheVariants as ask
use Rattle.mpi_doorbell.specs.declared.registers.TheConstants.{IOC_STATE_FAULT, IOC_STATE_OPERATIONAL, IOC_STATE_READY}
use Rattle.mpi_doorbell.specs.declared.step.DoorStep.{DoorStep}
use Rattle.mpi_doorbell.specs.declared.step.DoorStep.TheVariants as step
use Rattle.scsi_disk.specs.Command.{fits}
use Rattle.scsi_disk.specs.declared.command.Command.{Command}
use Rattle.smid_pool.specs.Pool.{least_free}
use Rattle.smid_pool.specs.declared.class.Class.TheVariants as class
use Rattle.removal.specs.Handles.{ready_handle}
use Rattle.mpt_wire.specs.Walks.Ahead.{next_own, state_ahead}
use Rattle.mpt_trace.specs.Command.{command_named}
use Rattle.mpt_wire.specs.Messages.Fields.{smid_in}
use Rattle.mpt_wire.specs.Walks.Passes.{EachEntry}
use Rattle.mpt_wire.specs.Machine.SoFar.{SoFar, after_entry}
use Rattle.mpt_wire.specs.Machine.View.{Seen, seen_next}
use Rattle.mpt_trace.specs.declared.entry.Entry.{Entry}
use Rattle.mpt_trace.specs.declared.entry.Entry.TheVariants as entry
use Rattle.mpt_trace.specs.declared.host_state.HostState.{HostState}
use Rattle.mpt_trace.specs.declared.host_state.HostState.TheVariants as state
use Rattle.mpt_trace.specs.declared.input.Input.{Input}
use Rattle.mpt_trace.specs.declared.input.Input.TheVariants as input
use Rattle.mpt_trace.specs.declared.item.Item.{Item}
use Rattle.mpt_trace.specs.declared.item.Item.TheVariants as item
use Rattle.mpt_trace.specs.declared.item.Down.{Down}
use Rattle.mpt_trace.specs.declared.item.Down.TheVariants as down
use Rattle.mpt_trace.specs.declared.item.Up.{Up}
use Rattle.mpt_trace.specs.declared.item.Up.TheVariants as upward
use Rattle.mpt_trace.specs.declared.lane.LaneName.{LaneName}
use Rattle.mpt_trace.specs.declared.lane.LaneName.TheVariants as lane
use Rattle.mpt_rules.specs.declared.stage.Stage.{Stage}
use Rattle.mpt_rules.specs.declared.stage.Stage.TheVariants as stage
use Rattle.mpt_rules.specs.World.Cases.{Case, entries, happens}
use Rattle.mpt_rules.specs.Host.Takes.{hears_up}
use Rattle.mpt_rules.specs.Host.Doorbell as door
use Rattle.mpt_rules.specs.Host.Doorbell.{DoorTurn, next_turn}
use Rattle.mpt_rules.specs.Host.Inputs as inputs
use Rattle.mpt_rules.specs.Host.Parts.{Cmd, Host}
use Rattle.mpt_rules.specs.Host.Replies.{request_of, takes_entry, with_frame_heard}
use Rattle.mpt_rules.specs.Host.Resets as resets
use Rattle.mpt_rules.specs.Host.Returns.{after_sent}
use Rattle.mpt_rules.specs.Host.Values as values
use Rattle.mpt_rules.specs.World.Inputs.{by_option, by_result, host_told}
use Rattle.mpt_rules.specs.Ioc.Takes as adapter
use Rattle.mpt_rules.specs.Ioc.Steps as ioc_step
use Rattle.mpt_rules.specs.Outcome.{Happening}
use Rattle.mpt_rules.specs.World.State.{World, up_lane}
use Rattle.law_facts.specs.History.{History, history_after}
use Rattle.law_clock.specs.Premises.{Before, Behind}
use Rattle.law_moves.proofs.Cases.{IsHosts}
use Rattle.law_moves.proofs.CasesTold.{IsPlugWord, OwesTold, kept_told}
use Rattle.law_moves.proofs.HostSpeaks as speaks
use Rattle.law_moves.proofs.HostSpeaks.{Rises, Stays, ComesUp}
use Rattle.law_moves.proofs.HostWords.{EndsIt, HostTells, IsHostWord, Words, reset_words, word_reply_to}
use Rattle.law_moves.proofs.IocWords.{IsIocWord, back_words, works_words}
use Rattle.law_resets.proofs.DroppingKept.{each_of}
use Rattle.mpt_wire.specs.Machine.Causes.{is_up, is_resetting}

-- ---- what leaves it as it is

abbrev pub IsNoReset : Entry → Type 0
IsNoReset (entry.Given input.Reset) = ⊥
IsNoReset (entry.Given input.UnitReset) = ⊥
IsNoReset entry.ResetDone = ⊥
IsNoReset _ = Unit {0}

or_false : (c : Bool) → (c || false) ≡ c
or_false true = refl
or_false false = refl

posted : (i : Item) (g : SoFar) → (Rattle.mpt_wire.specs.Machine.SoFar.after_put i g).resetting ≡ g.resetting
posted (item.Down (down.Post d f p)) g = refl
posted (item.Down (down.Write reg value)) g = refl
posted (item.Down (down.Read reg)) g = refl
posted (item.Down (down.Return a i)) g = refl
posted (item.Down down.Stop) g = refl
posted (item.Up x) g = refl
posted (item.Out x) g = refl
posted (item.Back x) g = refl
posted (item.Ask x) g = refl
posted (item.Tell x) g = refl

put : (l : LaneName) (i : Item) (g : SoFar) (a : Option Entry) → (after_entry g (entry.Put l i) a).resetting ≡ g.resetting
put lane.Down i g a = posted i g
put lane.Up i g a = refl
put (lane.UpOn q) i g a = refl
put lane.Out i g a = refl
put lane.Back i g a = refl
put (lane.Ask q) i g a = refl
put (lane.Tell q) i g a = refl

took : (l : LaneName) (i : Item) (g : SoFar) (a : Option Entry) → (after_entry g (entry.Take l i) a).resetting ≡ g.resetting
took lane.Down i g a = refl
took lane.Up i g a = refl
took (lane.UpOn q) i g a = refl
took lane.Out i g a = refl
took lane.Back i g a = refl
took (lane.Ask q) i g a = refl
took (lane.Tell q) i g a = refl

asked : (i : Input) (g : SoFar) (a : Option Entry) → IsNoReset (entry.Given i) → (after_entry g (entry.Given i) a).resetting ≡ g.resetting
asked input.Start g a h = or_false g.resetting
asked (input.Submit n address form) g a h = or_false g.resetting
asked (input.Abort n) g a h = or_false g.resetting
asked (input.TargetReset address) g a h = or_false g.resetting
asked input.Reset g a h = absurd h
asked input.UnitReset g a h = absurd h
asked (input.Plug address expander phy) g a h = or_false g.resetting
asked (input.Unplug address) g a h = or_false g.resetting

still : (g : SoFar) (e : Entry) (a : Option Entry) → IsNoReset e → (after_entry g e a).resetting ≡ g.resetting
still g (entry.Given i) a h = asked i g a h
still g (entry.Put l i) a h = put l i g a
still g (entry.Take l i) a h = took l i g a
still g (entry.Bind handle address plug) a h = refl
still g (entry.Unbind handle) a h = refl
still g entry.UnbindAll a h = refl
still g entry.HostUp a h = refl
still g (entry.Ready address handle) a h = refl
still g (entry.Lost address handle) a h = refl
still g (entry.Answer n how) a h = refl
still g (entry.AbortEnd n how) a h = refl
still g (entry.TargetEnd address how) a h = refl
still g (entry.Idle x) a h = refl
still g (entry.Run address tag) a h = refl
still g (entry.Accept n address smid) a h = refl
still g (entry.RefuseSubmit n cause) a h = refl
still g (entry.Refuse call cause) a h = refl
still g entry.ResetDone a h = absurd h

seen_still : (g : Seen) (t l : List Entry) → EachEntry IsNoReset t → (state_ahead seen_next g t l).so_far.resetting ≡ g.so_far.resetting
seen_still g [] l h = refl
seen_still g (e ∷ t) l h = seen_still (seen_next g e (next_own e (t ++ l))) t l h.1 ∙ still g.so_far e (next_own e (t ++ l)) h.0

seen_append : (g : Seen) (t u : List Entry) → state_ahead seen_next g (t ++ u) [] ≡ state_ahead seen_next (state_ahead seen_next g t u) u []
seen_append g [] u = refl
seen_append g (e ∷ t) u =
    ap (λ xs. state_ahead seen_next (seen_next g e (next_own e xs)) (t ++ u) []) (append-nil (t ++ u))
    ∙ seen_append (seen_next g e (next_own e (t ++ u))) t u

host_word : (e : Entry) → IsHostWord e → IsNoReset e
host_word entry.HostUp h = tt
host_word (entry.Ready address handle) h = tt
host_word (entry.Lost address handle) h = tt
host_word (entry.Answer n how) h = tt
host_word (entry.AbortEnd n how) h = tt
host_word (entry.TargetEnd address how) h = tt
host_word (entry.Given i) h = absurd h
host_word (entry.Idle x) h = tt
host_word (entry.Put l i) h = tt
host_word (entry.Take l i) h = tt
host_word (entry.Bind handle address plug) h = tt
host_word (entry.Unbind handle) h = tt
host_word entry.UnbindAll h = tt
host_word (entry.Run address tag) h = tt
host_word (entry.Accept n address smid) h = tt
host_word (entry.RefuseSubmit n cause) h = tt
host_word (entry.Refuse call cause) h = tt
host_word entry.ResetDone h = h

ioc_word : (e : Entry) → IsIocWord e → IsNoReset e
ioc_word (entry.Bind handle address plug) h = tt
ioc_word (entry.Unbind handle) h = tt
ioc_word (entry.Given i) h = absurd h
ioc_word entry.HostUp h = tt
ioc_word (entry.Ready address handle) h = tt
ioc_word (entry.Lost address handle) h = tt
ioc_word (entry.Answer n how) h = tt
ioc_word (entry.AbortEnd n how) h = tt
ioc_word (entry.TargetEnd address how) h = tt
ioc_word (entry.Idle x) h = tt
ioc_word (entry.Put l i) h = tt
ioc_word (entry.Take l i) h = tt
ioc_word entry.UnbindAll h = tt
ioc_word (entry.Run address tag) h = tt
ioc_word (entry.Accept n address smid) h = tt
ioc_word (entry.RefuseSubmit n cause) h = tt
ioc_word (entry.Refuse call cause) h = tt
ioc_word entry.ResetDone h = h

plug_input : (i : Input) → IsPlugWord (entry.Given i) → IsNoReset (entry.Given i)
plug_input (input.Plug address expander phy) h = tt
plug_input (input.Unplug address) h = tt
plug_input input.Start h = absurd h
plug_input (input.Submit n address form) h = absurd h
plug_input (input.Abort n) h = absurd h
plug_input (input.TargetReset address) h = absurd h
plug_input input.Reset h = absurd h
plug_input input.UnitReset h = absurd h

plug_word : (e : Entry) → IsPlugWord e → IsNoReset e
plug_word (entry.Given i) h = plug_input i h
plug_word (entry.Refuse call cause) h = tt
plug_word (entry.Take l i) h = tt
plug_word entry.UnbindAll h = tt
plug_word (entry.Bind handle address plug) h = tt
plug_word (entry.Unbind handle) h = tt
plug_word entry.HostUp h = tt
plug_word (entry.Ready address handle) h = tt
plug_word (entry.Lost address handle) h = tt
plug_word (entry.Answer n how) h = tt
plug_word (entry.AbortEnd n how) h = tt
plug_word (entry.TargetEnd address how) h = tt
plug_word (entry.Idle x) h = tt
plug_word (entry.Put l i) h = tt
plug_word (entry.Run address tag) h = tt
plug_word (entry.Accept n address smid) h = tt
plug_word (entry.RefuseSubmit n cause) h = tt
plug_word entry.ResetDone h = h

-- ---- what the host tells, with its mode

-- words, and as much of a reset as before; or the end of one
pub data TellsMode (resetting : Bool) (o : Happening Host) : Type 0 where
  GoesOn : EachEntry IsHostWord o.entries → is_resetting o.part.mode ≡ resetting → TellsMode resetting o
  Ends : (told : List Entry) → EachEntry IsHostWord told → o.entries ≡ told ++ entry.ResetDone ∷ [] → is_resetting o.part.mode ≡ false → TellsMode resetting o

turn_mode : (h : Host) (t : DoorTurn) → (door.puts_turn h t).mode ≡ h.mode
turn_mode h t = by_step t.step
  where
    by_step : (s : DoorStep) → (door.puts_step (door.puts_writes h t.writes) t.door s).mode ≡ h.mode
    by_step (step.Read reg) = refl
    by_step (step.Write reg value) = refl
    by_step (step.Done count bytes) = refl
    by_step (step.Refused at value) = refl

pub begins_mode : (h : Host) (s : Stage) (d : HostDoor) → (door.begins h s d).mode ≡ h.mode
begins_mode h s d = turn_mode (record h { stage = s }) (next_turn d None)

handshake_mode : (h : Host) (s : Stage) (a : HostAsk) → (door.begins_handshake h s a).mode ≡ h.mode
handshake_mode h s a = begins_mode h s (handshake_of_message (message_bytes (host_message a)))

pub rise_mode : (a c : HostState) → Rises false a c → c ≡ a
rise_mode a c (Stays e) = e
rise_mode a c (ComesUp u r e) = absurd (cc)

quiet : (r : Bool) (h : Host) → is_resetting h.mode ≡ r → TellsMode r (record { part = h; entries = [] })
quiet r h e = GoesOn tt e

over : (r : Bool) (h : Host) → is_resetting h.mode ≡ r → TellsMode r (resets.ends_reset_if_over h)
over r h e = by_end (h.door_ready && resets.has_all_marks h)
  where
    ended : HostTells (resets.reset_told h) → TellsMode r (resets.ends_reset h)
    ended (Words x) = GoesOn x (absurd (no_end (resets.reset_told h) x refl))
      where
        no_end : (t : List Entry) → EachEntry IsHostWord t → t ≡ resets.reset_told h → ⊥
        no_end t x e = last (Rattle.std.proofs.Common.map resets.reset_answer (finmap.keys h.cmds)) (Rattle.std.proofs.Common.map resets.reset_abort (finmap.keys h.aborts)) (Rattle.std.proofs.Common.filter_map resets.reset_target h.pool) (subst (EachEntry IsHostWord) e x)
          where
            end_of : (c : List Entry) → EachEntry IsHostWord (c ++ entry.ResetDone ∷ []) → ⊥
            end_of [] y = y.0
            end_of (z ∷ c) y = end_of c y.1

            middle : (a c : List Entry) → EachEntry IsHostWord (a ++ (c ++ entry.ResetDone ∷ [])) → ⊥
            middle [] c y = end_of c y
            middle (z ∷ a) c y = middle a c y.1

            last : (d a c : List Entry) → EachEntry IsHostWord (d ++ (a ++ (c ++ entry.ResetDone ∷ []))) → ⊥
            last [] a c y = middle a c y
            last (z ∷ d) a c y = last d a c y.1
    ended (EndsIt told x f) = Ends told x f (ap is_resetting (handshake_mode (resets.renewed h) stage.Facts ask.Facts))

    by_end : (b : Bool) → TellsMode r (if b then resets.ends_reset h else record { part = h; entries = [] })
    by_end true = ended (reset_words h)
    by_end false = quiet r h e

module _ (r : Bool) (h : Host) (e : is_resetting h.mode ≡ r) where
  started : (n : ℕ) → is_resetting (values.starts_by h n).mode ≡ r
  started n = by_tests (n == IOC_STATE_READY) (n == IOC_STATE_OPERATIONAL) (n == IOC_STATE_FAULT)
    where
      by_tests : (x y z : Bool) → is_resetting (if x then door.begins_facts h else if y then door.begins h stage.StartReset unit_reset else if z then door.begins h stage.StartReset diagnostic_reset else values.looks_to_start h).mode ≡ r
      by_tests true y z = ap is_resetting (handshake_mode h stage.Facts ask.Facts) ∙ e
      by_tests false true z = ap is_resetting (begins_mode h stage.StartReset unit_reset) ∙ e
      by_tests false false true = ap is_resetting (begins_mode h stage.StartReset diagnostic_reset) ∙ e
      by_tests false false false = ap is_resetting (begins_mode h stage.Start look_at_doorbell) ∙ e

  of_stage : (s : Stage) (bytes : List ℕ) → TellsMode r (values.ends_stage h s bytes)
  of_stage stage.Idle bytes = quiet r h e
  of_stage stage.Start bytes = quiet r (values.starts_by h (values.state_read bytes)) (started (values.state_read bytes))
  of_stage stage.StartReset bytes = quiet r (door.begins_facts h) (ap is_resetting (handshake_mode h stage.Facts ask.Facts) ∙ e)
  of_stage stage.Facts bytes = quiet r (door.begins_port_facts h) (ap is_resetting (handshake_mode h stage.PortFacts ask.PortFacts) ∙ e)
  of_stage stage.PortFacts bytes = quiet r (door.begins_init h) (ap is_resetting (handshake_mode h stage.Init (ask.Init (Rattle.mpt_rules.specs.Host.Parts.host_queue_count h))) ∙ e)
  of_stage stage.Init bytes = quiet r (values.begins_messages h) (ap is_resetting (rise_mode h.mode (values.begins_messages h).mode (speaks.begins_messages false h).rises) ∙ e)
  of_stage stage.Look bytes = quiet r h e
  of_stage stage.DiagnosticReset bytes = over r (record h { door_ready = true }) e
  of_stage stage.UnitReset bytes = over r (record h { door_ready = true }) e

  of_turn : (s : Stage) (x : DoorStep) → TellsMode r (values.after_turn h s x)
  of_turn s (step.Done count bytes) = of_stage s (take count bytes)
  of_turn s (step.Read reg) = quiet r h e
  of_turn s (step.Write reg value) = quiet r h e
  of_turn s (step.Refused at value) = quiet r h e

late_mode : (h : Host) (s : Stage) → (resets.begins_late h s).mode ≡ h.mode
late_mode h stage.DiagnosticReset = begins_mode h stage.DiagnosticReset diagnostic_reset
late_mode h stage.UnitReset = begins_mode h stage.UnitReset unit_reset
late_mode h stage.Idle = refl
late_mode h stage.Start = refl
late_mode h stage.StartReset = refl
late_mode h stage.Facts = refl
late_mode h stage.PortFacts = refl
late_mode h stage.Init = refl
late_mode h stage.Look = refl

of_value : (h : Host) (o : Option HostDoor) (v : ℕ) → TellsMode (is_resetting h.mode) (values.hears_value_at h o v)
of_value h None v = quiet (is_resetting h.mode) (resets.begins_late h h.stage) (ap is_resetting (late_mode h h.stage))
of_value h (Some d) v = of_turn (is_resetting h.mode) (door.puts_turn h (next_turn d (Some v))) (ap is_resetting (turn_mode h (next_turn d (Some v)))) h.stage (next_turn d (Some v)).step

rise_same : {en : Bool} (a c : HostState) → Rises en a c → is_resetting a ≡ false → is_resetting c ≡ is_resetting a
rise_same a c (Stays e) n = ap is_resetting e
rise_same a c (ComesUp u r e) n = ap is_resetting e ∙ sym n

module _ (h : Host) (none : is_resetting h.mode ≡ true → h.wait_high ≡ []) where
  replied : (queue d : ℕ) (f : Option (List ℕ)) (page sense : List ℕ) (c : Bool) → is_resetting h.mode ≡ c → is_resetting (hears_up h queue (upward.Reply d f page sense)).part.mode ≡ is_resetting h.mode
  replied queue d f page sense false m = rise_same h.mode _ (speaks.says_back (speaks.is_enable (request_of h (smid_in d))) h m queue d f page sense refl).rises m
  replied queue d f page sense true m = ap is_resetting (rise_mode h.mode _ (speaks.hands_back h m (none m) speaks.is_handed_back (λ v. refl) (λ e a i. refl) queue d f page sense).rises)

  pub tells_mode : (queue : ℕ) (x : Up) → TellsMode (is_resetting h.mode) (hears_up h queue x)
  tells_mode queue (upward.Value value) = of_value (record h { reading = false }) h.machine value
  tells_mode queue (upward.Reply d f page sense) =
      GoesOn (word_reply_to (takes_entry (with_frame_heard h d f) queue) (smid_in d) (request_of h (smid_in d)) (Rattle.mpt_rules.specs.Host.Replies.heard_of d f page sense)) (replied queue d f page sense (is_resetting h.mode) refl)
  tells_mode queue (upward.Mark generation) = over (is_resetting h.mode) (record h { marks = slice_set h.marks queue true }) refl
  tells_mode queue upward.Calm = quiet (is_resetting h.mode) h refl

-- ---- inputs

pub word_submit : (host : Host) (n address : ℕ) (command : Command) (i : Input) → IsNoReset (entry.Given i) → (f : Rattle.mpt_trace.specs.declared.refusal.Refusal.Refusal → Entry) → ((c : Rattle.mpt_trace.specs.declared.refusal.Refusal.Refusal) → IsNoReset (f c)) → (used mode : Bool) (handle : Option ℕ) (fits : Bool) (smid : Option ℕ) →
    EachEntry IsNoReset (by_result i f (Rattle.mpt_rules.proofs.HostCalls.submits_by host n address command used mode handle fits smid)).entries
word_submit host n address command i g f h true mode handle fits smid = (g, (h _, tt))
word_submit host n address command i g f h false false handle fits smid = (g, (h _, tt))
word_submit host n address command i g f h false true None fits smid = (g, (h _, tt))
word_submit host n address command i g f h false true (Some x) false smid = (g, (h _, tt))
word_submit host n address command i g f h false true (Some x) true None = (g, (h _, tt))
word_submit host n address command i g f h false true (Some x) true (Some s) = (g, (tt, tt))

pub word_abort : (host : Host) (n : ℕ) (b : Bool) (cmd : Option Cmd) (there o : Option ℕ) → EachEntry IsNoReset (by_result (input.Abort n) (entry.Refuse (Rattle.mpt_trace.specs.declared.refusal.RefusedCall.TheVariants.Abort n)) (Rattle.mpt_rules.proofs.HostCalls.aborts_by host n b cmd there o)).entries
word_abort host n false cmd there o = (tt, (tt, tt))
word_abort host n true None there o = (tt, (tt, tt))
word_abort host n true (Some cmd) (Some x) o = (tt, (tt, tt))
word_abort host n true (Some cmd) None None = (tt, (tt, tt))
word_abort host n true (Some cmd) None (Some s) = (tt, tt)

pub word_target : (host : Host) (address : ℕ) (b : Bool) (handle o : Option ℕ) → EachEntry IsNoReset (by_result (input.TargetReset address) (entry.Refuse (Rattle.mpt_trace.specs.declared.refusal.RefusedCall.TheVariants.TargetReset address)) (Rattle.mpt_rules.proofs.HostCalls.resets_target_by host address b handle o)).entries
word_target host address false handle o = (tt, (tt, tt))
word_target host address true None o = (tt, (tt, tt))
word_target host address true (Some x) None = (tt, (tt, tt))
word_target host address true (Some x) (Some s) = (tt, tt)

module _ (w : World) (h : History) (b : Before w h) where
  g0 : Seen
  g0 = record { machine = h.machine; so_far = h.so_far }

  s : h.so_far.resetting ≡ is_resetting w.host.mode
  s = b.facts.clock.resets_seen.resetting

  abbrev After : List Entry → Bool
  After t = (state_ahead seen_next (record { machine = h.machine; so_far = h.so_far }) t []).so_far.resetting

  abbrev Kept : World → List Entry → Type 0
  Kept v t = Behind v → After t ≡ is_resetting v.host.mode

  calmly : (x : Host) (t : List Entry) → EachEntry IsNoReset t → is_resetting x.mode ≡ is_resetting w.host.mode → After t ≡ is_resetting x.mode
  calmly x t a e = seen_still (record { machine = h.machine; so_far = h.so_far }) t [] a ∙ (s ∙ sym e)

  -- an item is taken
  takes : (queue : ℕ) (x : Up) (o : Happening Host) → TellsMode (is_resetting w.host.mode) o → After (entry.Take (up_lane queue) (item.Up x) ∷ o.entries) ≡ is_resetting o.part.mode
  takes queue x o (GoesOn a e) = calmly o.part (entry.Take (up_lane queue) (item.Up x) ∷ o.entries) (tt, each_of host_word o.entries a) e
  takes queue x o (Ends told a f e) =
      ap (λ t. After (entry.Take (up_lane queue) (item.Up x) ∷ t)) f
      ∙ (ap (λ (y : Seen). y.so_far.resetting) (seen_append (record { machine = h.machine; so_far = h.so_far }) (entry.Take (up_lane queue) (item.Up x) ∷ told) (entry.ResetDone ∷ []))
      ∙ sym e)

  -- a reset is asked, or refused
  asks_mode : (c : Bool) (st : Stage) (d : HostDoor) → (if c then resets.gives_up w.host st else door.begins (resets.gives_up w.host st) st d).mode ≡ state.Resetting
  asks_mode true st d = refl
  asks_mode false st d = begins_mode (resets.gives_up w.host st) st d

  or_true : (c : Bool) → (c || true) ≡ true
  or_true true = refl
  or_true false = refl

  diag : (m : HostState) → w.host.mode ≡ m → After (by_option input.Reset Rattle.mpt_trace.specs.declared.refusal.RefusedCall.TheVariants.Reset (inputs.diag_resets_in w.host m)).entries ≡ is_resetting (inputs.diag_resets_in w.host m).part.mode
  diag state.Off e = or_false h.so_far.resetting ∙ s
  diag state.Starting e = or_true h.so_far.resetting ∙ sym (ap is_resetting (asks_mode w.host.reading stage.DiagnosticReset diagnostic_reset))
  diag state.Up e = or_true h.so_far.resetting ∙ sym (ap is_resetting (asks_mode w.host.reading stage.DiagnosticReset diagnostic_reset))
  diag state.Resetting e = or_false h.so_far.resetting ∙ s

  unit : (m : HostState) → w.host.mode ≡ m → After (by_option input.UnitReset Rattle.mpt_trace.specs.declared.refusal.RefusedCall.TheVariants.UnitReset (inputs.unit_resets_in w.host m)).entries ≡ is_resetting (inputs.unit_resets_in w.host m).part.mode
  unit state.Off e = or_false h.so_far.resetting ∙ s
  unit state.Starting e = or_false h.so_far.resetting ∙ s
  unit state.Up e = or_true h.so_far.resetting ∙ sym (ap is_resetting (asks_mode w.host.reading stage.UnitReset unit_reset))
  unit state.Resetting e = or_false h.so_far.resetting ∙ s

  starts : (m : HostState) → w.host.mode ≡ m → After (by_option input.Start Rattle.mpt_trace.specs.declared.refusal.RefusedCall.TheVariants.Start (inputs.starts_in w.host m)).entries ≡ is_resetting (inputs.starts_in w.host m).part.mode
  starts state.Off e = calmly (inputs.starts_in w.host state.Off).part (entry.Given input.Start ∷ []) (tt, tt) (ap is_resetting (begins_mode (record w.host { mode = state.Starting }) stage.Start look_at_doorbell) ∙ sym (ap is_resetting e))
  starts state.Starting e = calmly w.host (entry.Given input.Start ∷ entry.Refuse Rattle.mpt_trace.specs.declared.refusal.RefusedCall.TheVariants.Start Rattle.mpt_trace.specs.declared.refusal.Refusal.TheVariants.AlreadyStarted ∷ []) (tt, (tt, tt)) refl
  starts state.Up e = calmly w.host (entry.Given input.Start ∷ entry.Refuse Rattle.mpt_trace.specs.declared.refusal.RefusedCall.TheVariants.Start Rattle.mpt_trace.specs.declared.refusal.Refusal.TheVariants.AlreadyStarted ∷ []) (tt, (tt, tt)) refl
  starts state.Resetting e = calmly w.host (entry.Given input.Start ∷ entry.Refuse Rattle.mpt_trace.specs.declared.refusal.RefusedCall.TheVariants.Start Rattle.mpt_trace.specs.declared.refusal.Refusal.TheVariants.AlreadyStarted ∷ []) (tt, (tt, tt)) refl

  told : (i : Input) → IsHosts i → After (host_told w.host i).entries ≡ is_resetting (host_told w.host i).part.mode
  told input.Start t = starts w.host.mode refl
  told (input.Submit n address form) t =
      calmly (host_told w.host (input.Submit n address form)).part (host_told w.host (input.Submit n address form)).entries
      (word_submit w.host n address (command_named form) (input.Submit n address form) tt (entry.RefuseSubmit n) (λ c. tt) (finset.contains w.host.accepted n) (is_up w.host.mode) (ready_handle w.host.phases address) (fits (command_named form)) (least_free class.ScsiIo w.host.pool))
      (ap is_resetting (rise_mode w.host.mode _ (speaks.submits false w.host n address (command_named form) (finset.contains w.host.accepted n) (is_up w.host.mode) (ready_handle w.host.phases address) (fits (command_named form)) (least_free class.ScsiIo w.host.pool)).rises))
  told (input.Abort n) t =
      calmly (host_told w.host (input.Abort n)).part (host_told w.host (input.Abort n)).entries
      (word_abort w.host n (is_up w.host.mode) (finmap.get w.host.cmds n) (finmap.get w.host.aborts n) (least_free class.High w.host.pool))
      (ap is_resetting (rise_mode w.host.mode _ (speaks.aborts false w.host n (is_up w.host.mode) (finmap.get w.host.cmds n) (finmap.get w.host.aborts n) (least_free class.High w.host.pool)).rises))
  told (input.TargetReset address) t =
      calmly (host_told w.host (input.TargetReset address)).part (host_told w.host (input.TargetReset address)).entries
      (word_target w.host address (is_up w.host.mode) (ready_handle w.host.phases address) (least_free class.High w.host.pool))
      (ap is_resetting (rise_mode w.host.mode _ (speaks.targets false w.host address (is_up w.host.mode) (ready_handle w.host.phases address) (least_free class.High w.host.pool)).rises))
  told input.Reset t = diag w.host.mode refl
  told input.UnitReset t = unit w.host.mode refl
  told (input.Plug address expander phy) t = absurd t
  told (input.Unplug address) t = absurd t

  host_puts : (x : Down) (rest : List Down) → After (entry.Put lane.Down (item.Down x) ∷ []) ≡ is_resetting (after_sent w.host x rest).mode
  host_puts (down.Return address index) rest = s
  host_puts (down.Write reg value) rest = s
  host_puts (down.Read reg) rest = s
  host_puts (down.Post d f p) rest = s
  host_puts down.Stop rest = s

  down_words : (x : Down) → EachEntry IsNoReset (adapter.takes_down w.ioc x).entries
  down_words (down.Write reg value) = by_effect (Rattle.mpi_doorbell.specs.DoorRegisters.register_written w.ioc.door reg value).effect
    where
      by_effect : (f : Rattle.mpi_doorbell.specs.declared.effect.Effect.Effect) → EachEntry IsNoReset (Rattle.mpt_rules.specs.Ioc.Registers.after_effect (record w.ioc { door = (Rattle.mpi_doorbell.specs.DoorRegisters.register_written w.ioc.door reg value).registers }) f).entries
      by_effect Rattle.mpi_doorbell.specs.declared.effect.Effect.TheVariants.None = tt
      by_effect (Rattle.mpi_doorbell.specs.declared.effect.Effect.TheVariants.Asked count bytes) = tt
      by_effect Rattle.mpi_doorbell.specs.declared.effect.Effect.TheVariants.UnitReset = (tt, tt)
      by_effect Rattle.mpi_doorbell.specs.declared.effect.Effect.TheVariants.AdapterReset = (tt, tt)
      by_effect (Rattle.mpi_doorbell.specs.declared.effect.Effect.TheVariants.Fault code) = tt
  down_words (down.Read reg) = tt
  down_words (down.Post d f p) = tt
  down_words (down.Return a i) = tt
  down_words down.Stop = tt

  owes : OwesTold Kept w
  owes =
      record {
        idles = λ c v. calmly w.host (entry.Idle c ∷ []) (tt, tt) refl;
        host_puts = λ x rest e v. host_puts x rest;
        host_takes = λ queue x rest e y v. takes queue x (hears_up w.host queue x) (tells_mode w.host (λ r. (b.facts.doorbell.fresh_start.given_up r).0) queue x);
        host_told = λ i t v. told i t;
        host_looks = λ e v. calmly (Rattle.mpt_rules.specs.Host.Takes.looks w.host) [] tt (ap is_resetting (begins_mode w.host stage.Look look_at_doorbell));
        host_stops = λ e v. s;
        no_session = λ v. s;
        ioc_takes = λ x rest e v. calmly w.host (entry.Take lane.Down (item.Down x) ∷ (adapter.takes_down w.ioc x).entries) (tt, down_words x) refl;
        ioc_high = λ p rest e v. calmly w.host (ioc_step.works_on (record w.ioc { high = rest }) p).entries (each_of ioc_word (ioc_step.works_on (record w.ioc { high = rest }) p).entries (works_words (record w.ioc { high = rest }) p)) refl;
        ioc_normal = λ p rest e v. calmly w.host (ioc_step.works_on (record w.ioc { normal = rest }) p).entries (each_of ioc_word (ioc_step.works_on (record w.ioc { normal = rest }) p).entries (works_words (record w.ioc { normal = rest }) p)) refl;
        ioc_puts_out = λ x rest e v. s;
        ioc_takes_back = λ x rest e v. calmly w.host (entry.Take lane.Back (item.Back x) ∷ (adapter.takes_back w.ioc x).entries) (tt, each_of ioc_word (adapter.takes_back w.ioc x).entries (back_words w.ioc x)) refl;
        ioc_puts = λ queue y rest z e u v. calmly w.host (entry.Put (up_lane queue) (item.Up z) ∷ []) (tt, tt) refl;
        fabric_takes = λ x rest e v. s;
        fabric_says = λ x rest e v. s;
        fabric_puts = λ x rest e v. s;
        fabric_runs = λ tag address e v. s;
        plugs = λ address expander phy t a v. calmly w.host t (each_of plug_word t a) refl;
        unplugs = λ address t a v. calmly w.host t (each_of plug_word t a) refl;
        calms = λ v. s;
      }

  pub resetting_kept : (c : Case) → Behind (happens w c) → (history_after h (entries w c)).so_far.resetting ≡ is_resetting (happens w c).host.mode
  resetting_kept c v = kept_told Kept w b.plain owes c v
