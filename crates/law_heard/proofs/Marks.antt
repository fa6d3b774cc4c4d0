-- On each lane above the first the marks of resets are put where they are due, and a reset is done only where its mark was taken.
use Rattle.std.proofs.Common.{◌≡◌, ℕ, zero, suc, ◌+◌, ◌<◌, ◌≤◌, ◌==◌, ◌&&◌, ◌||◌, not, if◌then◌else◌, Bool, true, false, List, [], ◌∷◌, ◌++◌, map, take, drop, slice_get, slice_index_or, slice_set, Option, Some, None, refl, ap, sym, ◌∙◌, subst, arith}
use Rattle.std.proofs.lemmas.Bool.{eqb-true}
use Rattle.std.specs.List.{list_all}
use Rattle.std.specs.Option.{option_or}
use Rattle.mpi_doorbell.specs.HostDoor.{HostDoor}
use Rattle.mpi_doorbell.specs.declared.effect.Effect.TheVariants as effect
use Rattle.mpi_doorbell.specs.declared.effect.Effect.{Effect}
use Rattle.mpi_doorbell.specs.DoorRegisters.{register_written}
use Rattle.mpi_doorbell.specs.declared.stage.Stage.{Stage as DoorStage}
use Rattle.mpi_doorbell.specs.declared.stage.Stage.TheVariants as door_stage
use Rattle.mpi_doorbell.specs.declared.step.DoorStep.{DoorStep}
use Rattle.mpi_doorbell.specs.declared.step.DoorStep.TheVariants as step
use Rattle.mpt_wire.specs.Machine.Causes.{is_resetting}
use Rattle.mpt_wire.specs.Queues.Marks.{Awaits, IsMarkOrDue, ItemAsks, MarkAsks, Marking, Taken, is_mark_item, mark_item, marks_next, taken_on_queue, wait_after_take}
use Rattle.mpt_wire.specs.Walks.Passes.{EachEntry, Passes, state_after}
use Rattle.mpt_trace.specs.declared.entry.Entry.{Entry}
use Rattle.mpt_trace.specs.declared.entry.Entry.TheVariants as entry
use Rattle.mpt_trace.specs.declared.item.Down.{Down}
use Rattle.mpt_trace.specs.declared.item.Down.TheVariants as down
use Rattle.mpt_trace.specs.declared.item.Item.TheVariants as item
use Rattle.mpt_trace.specs.declared.item.Up.{Up}
use Rattle.mpt_trace.specs.declared.item.Up.TheVariants as up
use Rattle.mpt_rules.specs.declared.said.Said.{Said}
use Rattle.mpt_rules.specs.declared.said.Said.TheVariants as said
use Rattle.mpt_messages.specs.declared.host_ask.HostAsk.TheVariants as ask
use Rattle.mpt_rules.specs.declared.stage.Stage.{Stage}
use Rattle.mpt_rules.specs.declared.stage.Stage.TheVariants as stage
use Rattle.mpt_trace.specs.declared.host_state.HostState.{HostState}
use Rattle.mpt_trace.specs.declared.host_state.HostState.TheVariants as state
use Rattle.mpt_rules.specs.Host.Parts.{Host}
use Rattle.mpt_rules.specs.Host.Resets.{ends_reset, ends_reset_if_over, has_all_marks, renewed}
use Rattle.mpt_rules.specs.Host.Replies.{heard_of, request_of, takes_entry, with_frame_heard}
use Rattle.mpt_rules.specs.Host.Strange as strange
use Rattle.mpt_wire.specs.Messages.Fields.{smid_in}
use Rattle.mpt_rules.specs.Host.Strange.{why_strange}
use Rattle.mpt_rules.specs.Host.Takes.{hears_up}
use Rattle.mpt_rules.specs.Host.Values.{after_turn, ends_stage, hears_value_at}
use Rattle.mpt_rules.specs.Ioc.Parts.{Ioc}
use Rattle.mpt_rules.specs.Ioc.Registers.{after_effect}
use Rattle.mpt_rules.specs.Ioc.Replies.{outbox_of}
use Rattle.mpt_rules.specs.Ioc.Sending.{framed_up, up_of}
use Rattle.mpt_rules.specs.Ioc.Steps as step_of
use Rattle.mpt_rules.specs.Ioc.Takes as adapter
use Rattle.mpt_rules.specs.Law.{NothingIsStrange}
use Rattle.mpt_rules.specs.declared.why.Why.TheVariants as why
use Rattle.mpt_rules.specs.Outcome.{Happening}
use Rattle.mpt_rules.specs.World.Cases.{Case, entries, happens}
use Rattle.mpt_rules.specs.World.Counts.{how_many, is_mark, mark_count, one_if}
use Rattle.mpt_rules.specs.World.Inputs.{host_told}
use Rattle.mpt_rules.specs.World.State.{World, queues_of, up_lane, up_on, with_up}
use Rattle.mpt_rules.specs.Host.Doorbell.{begins_facts, next_turn, puts_step, puts_turn, puts_writes}
use Rattle.mpt_rules.proofs.Counts.{how_many-append}
use Rattle.law_facts.specs.Clock.{MarkIsDue, has_mark, in_begun}
use Rattle.law_facts.specs.DoorAhead.{IsInMode, StageFits, WaitsAt}
use Rattle.law_facts.specs.Facts.{Facts}
use Rattle.law_facts.specs.History.{History}
use Rattle.law_clock.specs.Premises.{Before, Behind}
use Rattle.law_clock.proofs.NoReplyKept.{all_behind}
use Rattle.law_clock.proofs.PhaseKept as phase
use Rattle.law_clock.proofs.ValueKept.{false_true}
use Rattle.law_doors.proofs.DoorsKept.{resets_heeded}
use Rattle.law_doors.proofs.StageWorld.{stage_kept}
use Rattle.law_moves.proofs.CasesTold.{IsPlugWord, OwesTold, kept_told}
use Rattle.law_moves.proofs.Counted.{how_many-cons}
use Rattle.law_moves.proofs.HostGoes as goes
use Rattle.law_moves.proofs.HostGoes.{AValue, HostGoes, Values}
use Rattle.law_moves.proofs.HostWords.{EndsIt, HostTells, IsHostWord, Words, host_tells, reset_words, word_reply_to}
use Rattle.law_moves.proofs.InputWords.{IsInputWord, input_words}
use Rattle.law_moves.proofs.IocWords.{IsIocWord, back_words, works_words}
use Rattle.law_moves.proofs.Phases.{and_false, same_is}
use Rattle.law_moves.proofs.Turns.{begins_talk, facts_mild}
use Rattle.law_moves.proofs.Valuing.{HearsValue, IsOverNow, IsReady, SpeaksOn, TurnsOn, UnitLate}
use Rattle.law_resets.proofs.MarksKept as kept

-- ---- why a reset ends

-- words; or the end of a reset, all of whose marks were taken, for this reason
data Told (why : Type 0) (marks : List Bool) (o : Happening Host) : Type 0 where
  Quietly : EachEntry IsHostWord o.entries → Told why marks o
  Ends : (told : List Entry) → EachEntry IsHostWord told → o.entries ≡ told ++ entry.ResetDone ∷ [] → why → list_all (λ t. t) (drop 1 marks) ≡ true → o.part.mode ≡ state.Starting → Told why marks o

told_over : (why : Type 0) (host : Host) → (host.door_ready ≡ true → why) → Told why host.marks (ends_reset_if_over host)
told_over why host f = by_end host.door_ready (has_all_marks host) refl refl
  where
    by_words : has_all_marks host ≡ true → host.door_ready ≡ true → HostTells (ends_reset host).entries → Told why host.marks (ends_reset host)
    by_words a d (Words t) = Quietly t
    by_words a d (EndsIt told t e) = Ends told t e (f d) a (begins_talk (renewed host) stage.Facts ask.Facts facts_mild).mode_is

    by_end : (a b : Bool) → host.door_ready ≡ a → has_all_marks host ≡ b → Told why host.marks (if a && b then ends_reset host else record { part = host; entries = [] })
    by_end true true d m = by_words m d (reset_words host)
    by_end true false d m = Quietly tt
    by_end false b d m = Quietly tt

marks_stay : (host : Host) (d : HostDoor) (x : DoorStep) → (puts_step host d x).marks ≡ host.marks
marks_stay host d (step.Done count bytes) = refl
marks_stay host d (step.Read reg) = refl
marks_stay host d (step.Write reg value) = refl
marks_stay host d (step.Refused at value) = refl

abbrev IsResets : Stage → Type 0
IsResets stage.DiagnosticReset = Unit {0}
IsResets stage.UnitReset = Unit {0}
IsResets _ = ⊥

told_stage : (host : Host) (s : Stage) (bytes : List ℕ) → Told (IsResets s) host.marks (ends_stage host s bytes)
told_stage host stage.Idle bytes = Quietly tt
told_stage host stage.Start bytes = Quietly tt
told_stage host stage.StartReset bytes = Quietly tt
told_stage host stage.Facts bytes = Quietly tt
told_stage host stage.PortFacts bytes = Quietly tt
told_stage host stage.Init bytes = Quietly tt
told_stage host stage.Look bytes = Quietly tt
told_stage host stage.DiagnosticReset bytes = told_over (Unit {0}) (record host { door_ready = true }) (λ d. tt)
told_stage host stage.UnitReset bytes = told_over (Unit {0}) (record host { door_ready = true }) (λ d. tt)

told_turn : (host : Host) (s : Stage) (x : DoorStep) → Told (IsResets s) host.marks (after_turn host s x)
told_turn host s (step.Done count bytes) = told_stage host s (take count bytes)
told_turn host s (step.Read reg) = Quietly tt
told_turn host s (step.Write reg value) = Quietly tt
told_turn host s (step.Refused at value) = Quietly tt

-- a value ends a reset where its machine does
abbrev AtResets : Host → Option HostDoor → Type 0
AtResets host None = ⊥
AtResets host (Some door) = IsResets host.stage

told_value : (host : Host) (door : Option HostDoor) (value : ℕ) → Told (AtResets host door) host.marks (hears_value_at host door value)
told_value host None value = Quietly tt
told_value host (Some door) value =
    let t = next_turn door (Some value) in
    subst (λ m. Told (IsResets host.stage) m (after_turn (puts_turn host t) host.stage t.step)) (marks_stay (puts_writes host t.writes) t.door t.step) (told_turn (puts_turn host t) host.stage t.step)

-- ---- what is told asks nothing of the rule, but for the end of a reset

-- an entry that puts nothing and ends no reset
abbrev pub IsMute : Entry → Type 0
IsMute (entry.Put l i) = ⊥
IsMute entry.ResetDone = ⊥
IsMute _ = Unit {0}

mute_asks : (q : ℕ) (g : Marking) (e : Entry) → IsMute e → MarkAsks q g e
mute_asks q g (entry.Put l i) h = absurd h
mute_asks q g entry.ResetDone h = absurd h
mute_asks q g (entry.Given i) h = tt
mute_asks q g (entry.Refuse call cause) h = tt
mute_asks q g (entry.Idle x) h = tt
mute_asks q g (entry.Take l i) h = tt
mute_asks q g (entry.Bind handle address plug) h = tt
mute_asks q g (entry.Unbind handle) h = tt
mute_asks q g entry.UnbindAll h = tt
mute_asks q g (entry.Run address tag) h = tt
mute_asks q g entry.HostUp h = tt
mute_asks q g (entry.Ready address handle) h = tt
mute_asks q g (entry.Lost address handle) h = tt
mute_asks q g (entry.Accept n address smid) h = tt
mute_asks q g (entry.RefuseSubmit n cause) h = tt
mute_asks q g (entry.Answer n outcome) h = tt
mute_asks q g (entry.AbortEnd n outcome) h = tt
mute_asks q g (entry.TargetEnd address outcome) h = tt

mute_passes : (q : ℕ) (g : Marking) (t : List Entry) → EachEntry IsMute t → Passes (marks_next q) (MarkAsks q) g t
mute_passes q g [] h = tt
mute_passes q g (e ∷ t) h = (mute_asks q g e h.0, mute_passes q (marks_next q g e) t h.1)

each_mute : (Q : Entry → Type 0) → ((e : Entry) → Q e → IsMute e) → (t : List Entry) → EachEntry Q t → EachEntry IsMute t
each_mute Q f [] h = tt
each_mute Q f (e ∷ t) h = (f e h.0, each_mute Q f t h.1)

host_mute : (e : Entry) → IsHostWord e → IsMute e
host_mute entry.HostUp w = tt
host_mute (entry.Ready address handle) w = tt
host_mute (entry.Lost address handle) w = tt
host_mute (entry.Answer n how) w = tt
host_mute (entry.AbortEnd n how) w = tt
host_mute (entry.TargetEnd address how) w = tt
host_mute _ w = absurd w

input_mute : (e : Entry) → IsInputWord e → IsMute e
input_mute (entry.Given i) w = tt
input_mute (entry.Accept n address smid) w = tt
input_mute (entry.RefuseSubmit n cause) w = tt
input_mute (entry.Refuse call cause) w = tt
input_mute _ w = absurd w

ioc_mute : (e : Entry) → IsIocWord e → IsMute e
ioc_mute (entry.Bind handle address plug) w = tt
ioc_mute (entry.Unbind handle) w = tt
ioc_mute _ w = absurd w

plug_mute : (e : Entry) → IsPlugWord e → IsMute e
plug_mute (entry.Given i) w = tt
plug_mute (entry.Refuse call cause) w = tt
plug_mute _ w = absurd w

effect_mute : (i : Ioc) (f : Effect) → EachEntry IsMute (after_effect i f).entries
effect_mute i effect.None = tt
effect_mute i (effect.Asked count bytes) = tt
effect_mute i effect.UnitReset = (tt, tt)
effect_mute i effect.AdapterReset = (tt, tt)
effect_mute i (effect.Fault code) = tt

down_mute : (i : Ioc) (x : Down) → EachEntry IsMute (adapter.takes_down i x).entries
down_mute i (down.Write reg value) = effect_mute (record i { door = (register_written i.door reg value).registers }) (register_written i.door reg value).effect
down_mute i (down.Read reg) = tt
down_mute i (down.Post d f p) = tt
down_mute i (down.Return address index) = tt
down_mute i down.Stop = tt

-- words of the host change nothing of the rule
word_stays : (q : ℕ) (g : Marking) (e : Entry) → IsHostWord e → marks_next q g e ≡ g
word_stays q g entry.HostUp h = refl
word_stays q g (entry.Ready address handle) h = refl
word_stays q g (entry.Lost address handle) h = refl
word_stays q g (entry.Answer n how) h = refl
word_stays q g (entry.AbortEnd n how) h = refl
word_stays q g (entry.TargetEnd address how) h = refl
word_stays q g _ h = absurd h

done_passes : (q : ℕ) (g : Marking) (t : List Entry) → EachEntry IsHostWord t → g.wait ≡ Taken → Passes (marks_next q) (MarkAsks q) g (t ++ entry.ResetDone ∷ [])
done_passes q g [] h e = (e, tt)
done_passes q g (x ∷ t) h e = (mute_asks q g x (host_mute x h.0), subst (λ m. Passes (marks_next q) (MarkAsks q) m (t ++ entry.ResetDone ∷ [])) (sym (word_stays q g x h.0)) (done_passes q g t h.1 e))

-- ---- the world

module _ (w : World) (h : History) (f : Facts w h) (plain : NothingIsStrange w) (n : ℕ) (below : suc n < queues_of w) where
  before : Before w h
  before = record { facts = f; plain = plain; heeded = resets_heeded w h f }

  g0 : Marking
  g0 = h.marking (suc n)

  due : MarkIsDue w h (suc n)
  due = f.clock.resets_seen.each (suc n) (omega arith) below

  abbrev Pass : List Entry → Type 0
  Pass t = Passes (marks_next (suc n)) (MarkAsks (suc n)) (h.marking (suc n)) t

  abbrev Heard : ℕ → Up → Marking
  Heard queue x = marks_next (suc n) (h.marking (suc n)) (entry.Take (up_lane queue) (item.Up x))

  -- ---- the mark was taken where a reset ends

  stays_taken : (queue : ℕ) (x : Up) → in_begun w ≡ true → has_mark w (suc n) ≡ true → (Heard queue x).wait ≡ Taken
  stays_taken queue x b m = ap (λ y. wait_after_take y (taken_on_queue (suc n) (entry.Take (up_lane queue) (item.Up x)))) (due.taken b m)

  flip : (a c : ℕ) → a ≡ c → (c == a) ≡ true
  flip a c e = ap (λ m. c == m) e ∙ same_is c

  of_mark : (queue m : ℕ) → why_strange w.host queue (up.Mark m) ≡ None → in_begun w ≡ true → list_all (λ t. t) (drop 1 (slice_set w.host.marks queue true)) ≡ true → (Heard queue (up.Mark m)).wait ≡ Taken
  of_mark queue m s b a = by_mark (has_mark w (suc n)) refl
    where
      number : m ≡ w.ioc.generation
      number =
          let z = goes.none_of_or (strange.wrong_queue_of_mark queue) (option_or (strange.bad_mark w.host queue m) None) s in
          let y = goes.no_where (not (is_resetting w.host.mode) || (not (m == w.host.asked) || slice_index_or w.host.marks queue true)) _ (goes.none_of_or (strange.bad_mark w.host queue m) None z.1).0 in
          eqb-true m w.host.asked (same (m == w.host.asked) (is_resetting w.host.mode) (slice_index_or w.host.marks queue true) y) ∙ eqb-true w.host.asked w.ioc.generation (and_false (is_resetting w.host.mode) (w.host.asked == w.ioc.generation) b).1
        where
          same : (c d e : Bool) → (not d || (not c || e)) ≡ false → c ≡ true
          same true d e y = refl
          same false true e y = absurd (cc)
          same false false e y = absurd (cc)

      here : has_mark w (suc n) ≡ false → suc n ≡ queue → (Heard queue (up.Mark m)).wait ≡ Taken
      here z q =
          subst (λ k. (Heard k (up.Mark m)).wait ≡ Taken) q
          (ap (λ c. wait_after_take (h.marking (suc n)).wait (if c then Some (item.Up (up.Mark m)) else None)) (same_is (suc n))
          ∙ (ap (λ y. wait_after_take y (Some (item.Up (up.Mark m)))) (due.awaits b z) ∙ ap (λ c. if c then Taken else Awaits w.ioc.generation) (ap (λ k. k == w.ioc.generation) number ∙ same_is w.ioc.generation)))

      by_queue : has_mark w (suc n) ≡ false → (c : Bool) → (suc n == queue) ≡ c → (Heard queue (up.Mark m)).wait ≡ Taken
      by_queue z true q = here z (eqb-true (suc n) queue q)
      by_queue z false q = absurd (false_true (has_mark w (suc n)) z (sym (kept.set_other w h before n below queue q) ∙ all_behind (slice_set w.host.marks queue true) n a))

      by_mark : (c : Bool) → has_mark w (suc n) ≡ c → (Heard queue (up.Mark m)).wait ≡ Taken
      by_mark true z = stays_taken queue (up.Mark m) b z
      by_mark false z = by_queue z (suc n == queue) refl

  -- a reset that a value ends was begun
  resets_mode : (s : Stage) → IsResets s → IsInMode w s → is_resetting w.host.mode ≡ true
  resets_mode stage.DiagnosticReset r i = ap is_resetting i
  resets_mode stage.UnitReset r i = ap is_resetting i
  resets_mode _ r i = absurd r

  not_both : (m : HostState) → m ≡ state.Starting → is_resetting m ≡ true → ⊥
  not_both m e r = false_true (is_resetting m) (ap is_resetting e) r

  begun_by : (x : Host) → HearsValue w x → is_resetting w.host.mode ≡ true → x.mode ≡ state.Starting → in_begun w ≡ true
  begun_by x (TurnsOn c u t d lst) r e = absurd (not_both w.host.mode (sym t.mode_is ∙ e) r)
  begun_by x (UnitLate m y u) r e = absurd (not_both w.host.mode (sym u.turn.mode_is ∙ e) r)
  begun_by x (SpeaksOn m e t k q) r z = absurd (not_both w.host.mode e r)
  begun_by x (IsReady m y l t k a d e) r z = absurd (not_both w.host.mode (sym (ap (λ (i : Host). i.mode) e ∙ t.mode_is) ∙ z) r)
  begun_by x (IsOverNow m y l t k a u) r z = (and_false _ _ l).0

  value_of : (x : Host) → HostGoes w x AValue → HearsValue w x
  value_of x (Values r v fr y) = y

  resetting_at : (door : Option HostDoor) → w.host.machine ≡ door → AtResets w.host door → is_resetting w.host.mode ≡ true
  resetting_at None e r = absurd r
  resetting_at (Some door) e r = by_stage door.stage (f.doorbell.stage.machine door e)
    where
      by_stage : (s : DoorStage) → WaitsAt w s → is_resetting w.host.mode ≡ true
      by_stage (door_stage.Awaits y) a = resets_mode w.host.stage r a.1
      by_stage _ a = absurd a

  ends_of_value : (queue value : ℕ) (why : Type 0) (o : Happening Host) → Told why w.host.marks o → (why → o.part.mode ≡ state.Starting → in_begun w ≡ true) → Passes (marks_next (suc n)) (MarkAsks (suc n)) (Heard queue (up.Value value)) o.entries
  ends_of_value queue value why o (Quietly t) y = mute_passes (suc n) (Heard queue (up.Value value)) o.entries (each_mute IsHostWord host_mute o.entries t)
  ends_of_value queue value why o (Ends told t e r a m) y =
      subst (Passes (marks_next (suc n)) (MarkAsks (suc n)) (Heard queue (up.Value value))) (sym e) (done_passes (suc n) (Heard queue (up.Value value)) told t (stays_taken queue (up.Value value) (y r m) (all_behind w.host.marks n a)))

  ends_of_mark : (queue m : ℕ) → why_strange w.host queue (up.Mark m) ≡ None → (o : Happening Host) → Told (w.host.door_ready ≡ true) (slice_set w.host.marks queue true) o → Passes (marks_next (suc n)) (MarkAsks (suc n)) (Heard queue (up.Mark m)) o.entries
  ends_of_mark queue m s o (Quietly t) = mute_passes (suc n) (Heard queue (up.Mark m)) o.entries (each_mute IsHostWord host_mute o.entries t)
  ends_of_mark queue m s o (Ends told t e d a z) =
      subst (Passes (marks_next (suc n)) (MarkAsks (suc n)) (Heard queue (up.Mark m))) (sym e) (done_passes (suc n) (Heard queue (up.Mark m)) told t (of_mark queue m s (and_false _ _ (f.clock.value_is_last.ready d).linked).0 a))

  host_hears : (queue : ℕ) (x : Up) (rest : List Up) → up_on w queue ≡ x ∷ rest → why_strange w.host queue x ≡ None → StageFits (record (with_up w queue rest) { host = (hears_up w.host queue x).part })
      → Passes (marks_next (suc n)) (MarkAsks (suc n)) (Heard queue x) (hears_up w.host queue x).entries
  host_hears queue (up.Value value) rest e s st =
      ends_of_value queue value (AtResets w.host w.host.machine) (hears_up w.host queue (up.Value value)) (told_value (record w.host { reading = false }) w.host.machine value)
      (λ r m. begun_by (hears_up w.host queue (up.Value value)).part (value_of (hears_up w.host queue (up.Value value)).part (phase.takes_item w h before queue (up.Value value) rest e s st)) (resetting_at w.host.machine refl r) m)
  host_hears queue (up.Mark m) rest e s st = ends_of_mark queue m s (hears_up w.host queue (up.Mark m)) (told_over (w.host.door_ready ≡ true) (record w.host { marks = slice_set w.host.marks queue true }) (λ d. d))
  host_hears queue up.Calm rest e s st = tt
  host_hears queue (up.Reply d g page sense) rest e s st =
      mute_passes (suc n) (Heard queue (up.Reply d g page sense)) (hears_up w.host queue (up.Reply d g page sense)).entries
      (each_mute IsHostWord host_mute (hears_up w.host queue (up.Reply d g page sense)).entries
      (word_reply_to (takes_entry (with_frame_heard w.host d g) queue) (smid_in d) (request_of w.host (smid_in d)) (heard_of d g page sense)))

  -- ---- what is put on this lane

  no_mark : (y : Said) (z : Up) → is_mark y ≡ false → up_of y (slice_get w.ioc.ring 0) ≡ Some z → IsMarkOrDue [] (item.Up z)
  no_mark y (up.Value v) m u = tt
  no_mark y (up.Reply d g page sense) m u = tt
  no_mark y up.Calm m u = tt
  no_mark (said.Mark g) (up.Mark k) m u = absurd (cc)
  no_mark (said.Value v) (up.Mark k) m u = absurd (cc)
  no_mark said.Calm (up.Mark k) m u = absurd (cc)
  no_mark (said.Success s page sense) (up.Mark k) m u = absurd (cc)
  no_mark (said.Framed s g page sense) (up.Mark k) m u = by_free (slice_get w.ioc.ring 0) u
    where
      by_free : (o : Option ℕ) → framed_up s g page sense o ≡ Some (up.Mark k) → IsMarkOrDue [] (item.Up (up.Mark k))
      by_free None i = absurd (cc)
      by_free (Some a) i = absurd (cc)

  put_asks : (y : Said) (rest : List Said) (z : Up) → outbox_of w.ioc (suc n) ≡ y ∷ rest → up_of y (slice_get w.ioc.ring 0) ≡ Some z → IsMarkOrDue (h.marking (suc n)).due (item.Up z)
  unfolding mark_count
  put_asks y rest z e u = by_count (how_many is_mark (outbox_of w.ioc (suc n))) refl
    where
      count : how_many is_mark (outbox_of w.ioc (suc n)) ≡ one_if (is_mark y) + how_many is_mark rest
      count = ap (how_many is_mark) e ∙ how_many-cons is_mark y rest

      unmarked : (b : Bool) → is_mark y ≡ b → how_many is_mark (outbox_of w.ioc (suc n)) ≡ 0 → b ≡ false
      unmarked false i l = refl
      unmarked true i l = let o : one_if (is_mark y) ≡ 1 = ap one_if i in absurd (let k = count in omega (arith, o, l, k))

      some_is : (a c : Said) → Some a ≡ Some c → a ≡ c
      some_is a c e = cc

      some_up : (a c : Up) → Some a ≡ Some c → a ≡ c
      some_up a c e = cc

      by_count : (k : ℕ) → how_many is_mark (outbox_of w.ioc (suc n)) ≡ k → IsMarkOrDue (h.marking (suc n)).due (item.Up z)
      by_count zero l = subst (λ d. IsMarkOrDue d (item.Up z)) (sym (due.none l)) (no_mark y z (unmarked (is_mark y) refl l) u)
      by_count (suc k) l =
          let d = due.due (omega (arith, l)) in
          let s = some_is y (said.Mark w.ioc.generation) (ap (λ xs. slice_get xs 0) (sym e) ∙ d.1) in
          let t = some_up (up.Mark w.ioc.generation) z (sym (ap (λ i. up_of i (slice_get w.ioc.ring 0)) s) ∙ u) in
          subst (λ d. IsMarkOrDue d (item.Up z)) (sym d.0) (ap item.Up (sym t), tt)

  up_asks : (queue : ℕ) (y : Said) (rest : List Said) (z : Up) → outbox_of w.ioc queue ≡ y ∷ rest → up_of y (slice_get w.ioc.ring 0) ≡ Some z → MarkAsks (suc n) (h.marking (suc n)) (entry.Put (up_lane queue) (item.Up z))
  up_asks zero y rest z e u = tt
  up_asks (suc q) y rest z e u = by_queue (suc q == suc n) refl
    where
      by_queue : (c : Bool) → (suc q == suc n) ≡ c → ItemAsks (h.marking (suc n)).due (if c then Some (item.Up z) else None)
      by_queue true i = put_asks y rest z (subst (λ k. outbox_of w.ioc k ≡ y ∷ rest) (eqb-true (suc q) (suc n) i) e) u
      by_queue false i = tt

  -- ---- all cases

  mute : (t : List Entry) → EachEntry IsMute t → Pass t
  mute t a = mute_passes (suc n) (h.marking (suc n)) t a

  OnCase : World → List Entry → Type 0
  OnCase v t = StageFits v → Passes (marks_next (suc n)) (MarkAsks (suc n)) (h.marking (suc n)) t

  owes : OwesTold OnCase w
  unfolding OnCase
  owes =
      record {
        idles = λ c v. (tt, tt);
        host_puts = λ x rest e v. (tt, tt);
        host_takes = λ queue x rest e y v. (tt, host_hears queue x rest e y v);
        host_told = λ i c v. mute (host_told w.host i).entries (each_mute IsInputWord input_mute (host_told w.host i).entries (input_words w.host i));
        host_looks = λ e v. tt;
        host_stops = λ e v. tt;
        no_session = λ v. tt;
        ioc_takes = λ x rest e v. (tt, mute_passes (suc n) _ (adapter.takes_down w.ioc x).entries (down_mute w.ioc x));
        ioc_high = λ p rest e v. mute _ (each_mute IsIocWord ioc_mute _ (works_words (record w.ioc { high = rest }) p));
        ioc_normal = λ p rest e v. mute _ (each_mute IsIocWord ioc_mute _ (works_words (record w.ioc { normal = rest }) p));
        ioc_puts_out = λ x rest e v. (tt, tt);
        ioc_takes_back = λ x rest e v. (tt, mute_passes (suc n) _ _ (each_mute IsIocWord ioc_mute _ (back_words w.ioc x)));
        ioc_puts = λ queue y rest z e u v. (up_asks queue y rest z e u, tt);
        fabric_takes = λ x rest e v. (tt, tt);
        fabric_says = λ x rest e v. tt;
        fabric_puts = λ x rest e v. (tt, tt);
        fabric_runs = λ tag address e v. (tt, tt);
        plugs = λ address expander phy t p v. mute t (each_mute IsPlugWord plug_mute t p);
        unplugs = λ address t p v. mute t (each_mute IsPlugWord plug_mute t p);
        calms = λ v. tt;
      }

  lane_passes : (c : Case) → Pass (entries w c)
  unfolding OnCase
  lane_passes c = kept_told OnCase w plain owes c (stage_kept w h before c)

pub marks_pass : (w : World) (h : History) (c : Case) → Facts w h → NothingIsStrange w → (queue : ℕ) → 1 ≤ queue → queue < queues_of w → Passes (marks_next queue) (MarkAsks queue) (h.marking queue) (entries w c)
marks_pass w h c f plain zero a b = absurd (omega (arith, a))
marks_pass w h c f plain (suc n) a b = lane_passes w h f plain n b c
