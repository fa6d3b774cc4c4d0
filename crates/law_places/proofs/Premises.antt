-- What identifiers and reply frames ask of the other parts follows from the facts.
use Rattle.std.proofs.Common.{◌≡◌, ◌≢◌, ℕ, zero, suc, ◌+◌, ◌<◌, ◌≤◌, ◌==◌, ◌&&◌, ◌||◌, Bool, true, false, if◌then◌else◌, List, [], ◌∷◌, ◌++◌, length, get_or, set, drop, map, take, sum_by, Option, Some, None, is_some, refl, ap, sym, ◌∙◌, subst, arith, slice_set, get_or-set_other}
use Rattle.std.specs.List.{list_all, list_any}
use Rattle.std.proofs.lemmas.List.Sums.{sum_by-cons}
use Rattle.mpi_doorbell.specs.DoorRegisters.{register_written}
use Rattle.mpi_doorbell.specs.HostDoor.{HostDoor}
use Rattle.mpi_doorbell.specs.declared.stage.Stage.{Stage as DoorStage}
use Rattle.mpi_doorbell.specs.declared.stage.Stage.TheVariants as door_stage
use Rattle.mpi_doorbell.specs.declared.state.IocState.{IocState}
use Rattle.mpi_doorbell.specs.declared.state.IocState.TheVariants as ioc_state
use Rattle.mpi_doorbell.specs.declared.step.DoorStep.{DoorStep}
use Rattle.mpi_doorbell.specs.declared.step.DoorStep.TheVariants as step
use Rattle.mpt_messages.specs.declared.host_ask.HostAsk.TheVariants as ask
use Rattle.mpt_messages.specs.FrameBytes.{message_bytes}
use Rattle.mpt_messages.specs.HostFrames.{host_message}
use Rattle.mpi_doorbell.specs.HostSteps.{handshake_of_message}
use Rattle.mpt_wire.specs.Machine.Causes.{is_resetting}
use Rattle.mpt_wire.specs.Messages.Fields.{smid_in}
use Rattle.mpt_wire.specs.Walks.Cycles.{is_reset_end}
use Rattle.mpt_wire.specs.Walks.Passes.{EachEntry}
use Rattle.mpt_trace.specs.declared.choice.Choice.TheVariants as choice
use Rattle.mpt_trace.specs.declared.entry.Entry.{Entry}
use Rattle.mpt_trace.specs.declared.entry.Entry.TheVariants as entry
use Rattle.mpt_trace.specs.declared.host_state.HostState.{HostState}
use Rattle.mpt_trace.specs.declared.item.Down.{Down}
use Rattle.mpt_trace.specs.declared.item.Down.TheVariants as down
use Rattle.mpt_trace.specs.declared.item.Up.{Up}
use Rattle.mpt_trace.specs.declared.item.Up.TheVariants as up
use Rattle.mpt_rules.specs.declared.at_fabric.AtFabric.{AtFabric}
use Rattle.mpt_rules.specs.declared.said.Said.{Said}
use Rattle.mpt_rules.specs.declared.said.Said.TheVariants as said
use Rattle.mpt_rules.specs.declared.stage.Stage.{Stage}
use Rattle.mpt_rules.specs.declared.stage.Stage.TheVariants as stage
use Rattle.mpt_rules.specs.declared.why.Why.{Why}
use Rattle.mpt_rules.specs.World.Counts.{how_many, is_mark, one_if, post_count, queued_count, reply_count}
use Rattle.mpt_rules.specs.World.Weight.{is_said_value}
use Rattle.mpt_rules.specs.Host.Takes.{hears_up, takes_unless}
use Rattle.mpt_rules.specs.Host.Doorbell as door
use Rattle.mpt_rules.specs.Host.Doorbell.{is_reset_item}
use Rattle.mpt_rules.specs.Host.Parts.{Host}
use Rattle.mpt_rules.specs.Host.Replies as replies
use Rattle.mpt_rules.specs.Host.Resets as resets
use Rattle.mpt_rules.specs.Host.Strange.{why_strange}
use Rattle.mpt_rules.specs.Host.Values as values
use Rattle.mpt_rules.specs.Ioc.Parts.{state_of}
use Rattle.mpt_rules.specs.Ioc.Places.{is_reply_of}
use Rattle.mpt_rules.specs.Ioc.Replies.{outbox_of}
use Rattle.mpt_rules.specs.Ioc.Tables.{is_operational, is_ready}
use Rattle.mpt_rules.specs.Law.{NothingIsStrange}
use Rattle.mpt_rules.specs.World.Cases.{Chosen, moves_or_idles}
use Rattle.mpt_rules.specs.World.Lines.{down_line, said_of, up_line}
use Rattle.mpt_rules.specs.World.Moves as move
use Rattle.mpt_rules.specs.World.PlaceCounts.{replies_on}
use Rattle.mpt_rules.specs.World.Places.{is_posted_as}
use Rattle.mpt_rules.specs.World.State.{World, up_on, with_up}
use Rattle.mpt_rules.proofs.Counts.{how_many-append, queued_count-nil}
use Rattle.law_facts.specs.Clock.{Clock, in_begun, is_linked_up, is_live}
use Rattle.law_facts.specs.DoorAhead.{IsInMode, StageFits, WaitsAt}
use Rattle.law_facts.specs.Facts.{Facts}
use Rattle.law_facts.specs.History.{History}
use Rattle.law_facts.specs.Words.{behind, is_bare, is_load, is_reply, is_stray_reset}
use Rattle.law_flights.specs.Flights.{asked_at, at_ioc, held_as, replied_to, said_to}
use Rattle.law_flights.specs.Given.{Given, Resets}
use Rattle.law_flights.proofs.HostMoves.{mode_step}
use Rattle.law_flights.proofs.HostTold.{told_reply_to}
use Rattle.law_flights.proofs.Tables.{held_as-nil}
use Rattle.law_flights.proofs.Told.{IsTold}
use Rattle.law_moves.proofs.Counted.{behind-cons, false_by_none, fewer_pass, how_many-cons}
use Rattle.law_moves.proofs.Hears.{is_reset_stage}
use Rattle.law_moves.proofs.HostGoes.{AMark, AValue, Heard, HostGoes, NoNews, Values, heard_of, is_value, value_is_due}
use Rattle.law_moves.proofs.Phases.{and_false}
use Rattle.law_moves.proofs.Registers.{writes_are}
use Rattle.law_moves.proofs.Valuing.{HearsValue, IsOverNow, IsReady, SpeaksOn, TurnsOn, UnitLate}
use Rattle.law_clock.specs.Premises.{Before}
use Rattle.law_clock.proofs.PhaseKept.{asked_now, takes_item}
use Rattle.law_doors.proofs.StageWorld.{stage_kept}
use Rattle.law_starts.proofs.StartsKept as starts
use Rattle.law_frames.specs.Before.{Before as FramesBefore}

clash : {X : Type 0} (b : Bool) → b ≡ true → b ≡ false → X
clash true x y = absurd (cc)
clash false x y = absurd (cc)

-- ---- words on lists

behind_first : {X : Type 0} (test : X → Bool) (x : X) (xs : List X) → test x ≡ true → behind test (x ∷ xs) ≡ xs
behind_first test x xs t = behind-cons test x xs ∙ ap (λ b. if b then xs else behind test xs) t

pub all_zero : {X : Type 0} (f : List X → ℕ) (xs : List (List X)) → ((i : ℕ) → i < length xs → f (get_or xs i []) ≡ 0) → sum_by f xs ≡ 0
all_zero f [] h = refl
all_zero f (x ∷ xs) h =
    let c = sum_by-cons f x xs in
    let z = h 0 (omega arith) in
    let r = all_zero f xs (λ i l. h (suc i) (omega (arith, l))) in
    omega (arith, c, z, r)

all_true : (xs : List Bool) (i : ℕ) → list_all (λ t. t) xs ≡ true → get_or xs i true ≡ true
all_true [] i e = refl
all_true (x ∷ xs) zero e = (and_false x _ e).0
all_true (x ∷ xs) (suc i) e = all_true xs i (and_false x _ e).1

marks_true : (xs : List Bool) (i : ℕ) → 1 ≤ i → list_all (λ t. t) (drop 1 xs) ≡ true → get_or xs i true ≡ true
marks_true xs zero l e = absurd (omega (arith, l))
marks_true [] (suc i) l e = refl
marks_true (x ∷ xs) (suc i) l e = all_true xs i e

-- nothing in a table where none is something
none_at : (xs : List (Option AtFabric)) (i : ℕ) → how_many is_some xs ≡ 0 → is_some (get_or xs i None) ≡ false
none_at [] i z = refl
none_at (x ∷ xs) zero z = let c = how_many-cons is_some x xs in false_by_none (is_some x) (omega (arith, z, c))
none_at (x ∷ xs) (suc i) z = let c = how_many-cons is_some x xs in none_at xs i (omega (arith, z, c))

none_asked : (q : ℕ) (requests : List (Option AtFabric)) → how_many is_some requests ≡ 0 → asked_at q requests ≡ 0
unfolding asked_at
none_asked zero requests z = refl
none_asked (suc i) requests z = ap one_if (none_at requests i z)

-- a post is a load, and what answers an identifier is a reply
posted_load : (s : ℕ) (x : Down) → is_posted_as s x ≡ true → is_load x ≡ true
posted_load s (down.Post d f p) e = refl
posted_load s (down.Write reg value) e = absurd (cc)
posted_load s (down.Read reg) e = absurd (cc)
posted_load s (down.Return address i) e = absurd (cc)
posted_load s down.Stop e = absurd (cc)

posts_load : (s : ℕ) (xs : List Down) → post_count s xs ≤ how_many is_load xs
unfolding post_count
posts_load s xs = fewer_pass (is_posted_as s) is_load (posted_load s) xs

reply_reply : (s : ℕ) (x : Said) → is_reply_of s x ≡ true → is_reply x ≡ true
reply_reply s (said.Success q page sense) e = refl
reply_reply s (said.Framed q frame page sense) e = refl
reply_reply s (said.Value v) e = absurd (cc)
reply_reply s (said.Mark g) e = absurd (cc)
reply_reply s said.Calm e = absurd (cc)

answers_reply : (s : ℕ) (xs : List Said) → reply_count s xs ≤ how_many is_reply xs
unfolding reply_count
answers_reply s xs = fewer_pass (is_reply_of s) is_reply (reply_reply s) xs

-- ---- how a reset ends

over_mode : (k : Host) → list_any is_reset_end (resets.ends_reset_if_over k).entries ≡ true → is_resetting (resets.ends_reset_if_over k).part.mode ≡ false
over_mode k e = by_tests k.door_ready (resets.has_all_marks k) e
  where
    begun : is_resetting (resets.ends_reset k).part.mode ≡ false
    begun =
        let j : Host = record (resets.renewed k) { stage = stage.Facts } in
        let t = door.next_turn (handshake_of_message (message_bytes (host_message ask.Facts))) None in
        ap is_resetting (mode_step (door.puts_writes j t.writes) t.door t.step)

    by_tests : (x y : Bool) → list_any is_reset_end (if x && y then resets.ends_reset k else record { part = k; entries = [] }).entries ≡ true → is_resetting (if x && y then resets.ends_reset k else record { part = k; entries = [] }).part.mode ≡ false
    by_tests true true e = begun
    by_tests true false e = absurd (cc)
    by_tests false y e = absurd (cc)

pub record EndsBy (s : Stage) (marks : List Bool) (after : HostState) : Type 0 where
  pub resets_stage : is_reset_stage s ≡ true
  pub all_marks : list_all (λ t. t) (drop 1 marks) ≡ true
  pub over : is_resetting after ≡ false

over_marks : (k : Host) → list_any is_reset_end (resets.ends_reset_if_over k).entries ≡ true → (k.door_ready ≡ true) × (resets.has_all_marks k ≡ true)
over_marks k e = by_tests k.door_ready (resets.has_all_marks k) refl refl e
  where
    by_tests : (x y : Bool) → k.door_ready ≡ x → resets.has_all_marks k ≡ y → list_any is_reset_end (if x && y then resets.ends_reset k else record { part = k; entries = [] }).entries ≡ true → (k.door_ready ≡ true) × (resets.has_all_marks k ≡ true)
    by_tests true true s t e = (s, t)
    by_tests true false s t e = absurd (cc)
    by_tests false y s t e = absurd (cc)

stage_ends : (k : Host) (s : Stage) (bytes : List ℕ) → list_any is_reset_end (values.ends_stage k s bytes).entries ≡ true → EndsBy s k.marks (values.ends_stage k s bytes).part.mode
stage_ends k stage.DiagnosticReset bytes e = record { resets_stage = refl; all_marks = (over_marks (record k { door_ready = true }) e).1; over = over_mode (record k { door_ready = true }) e }
stage_ends k stage.UnitReset bytes e = record { resets_stage = refl; all_marks = (over_marks (record k { door_ready = true }) e).1; over = over_mode (record k { door_ready = true }) e }
stage_ends k stage.Idle bytes e = absurd (cc)
stage_ends k stage.Start bytes e = absurd (cc)
stage_ends k stage.StartReset bytes e = absurd (cc)
stage_ends k stage.Facts bytes e = absurd (cc)
stage_ends k stage.PortFacts bytes e = absurd (cc)
stage_ends k stage.Init bytes e = absurd (cc)
stage_ends k stage.Look bytes e = absurd (cc)

turn_ends : (k : Host) (s : Stage) (x : DoorStep) → list_any is_reset_end (values.after_turn k s x).entries ≡ true → EndsBy s k.marks (values.after_turn k s x).part.mode
turn_ends k s (step.Done count bytes) e = stage_ends k s (take count bytes) e
turn_ends k s (step.Read reg) e = absurd (cc)
turn_ends k s (step.Write reg value) e = absurd (cc)
turn_ends k s (step.Refused at value) e = absurd (cc)

step_marks : (k : Host) (d : HostDoor) (x : DoorStep) → (door.puts_step k d x).marks ≡ k.marks
step_marks k d (step.Read reg) = refl
step_marks k d (step.Write reg value) = refl
step_marks k d (step.Done count bytes) = refl
step_marks k d (step.Refused at value) = refl

module _ (w : World) (h : History) (f : Facts w h) (plain : NothingIsStrange w) where
  clock : Clock w h
  clock = f.clock

  b : Before w h
  b = starts.before w h f plain

  pub not_strange : (queue : ℕ) (x : Up) (rest : List Up) → up_on w queue ≡ x ∷ rest → why_strange w.host queue x ≡ None
  not_strange queue x rest e = by_why (why_strange w.host queue x) (plain queue x rest e)
    where
      by_why : (o : Option Why) → (takes_unless w.host queue x o).answer ≡ None → o ≡ None
      by_why None e = refl
      by_why (Some y) e = cc

  -- ---- a write that resets is one that the host counts as such, and was asked

  counted : (reg value : ℕ) → Resets (register_written w.ioc.door reg value).effect → (is_reset_item (down.Write reg value) || is_stray_reset (down.Write reg value)) ≡ true
  counted reg value r = (writes_are w.ioc.door reg value f.doorbell.sound.waits).resets r

  begins : (reg value : ℕ) (rest : List Down) → w.down ≡ down.Write reg value ∷ rest → Resets (register_written w.ioc.door reg value).effect → is_reset_item (down.Write reg value) ≡ true
  begins reg value rest e r =
      let st = clock.one_reset_write.strays in
      let sa = how_many-append is_stray_reset w.down w.host.out in
      let sc = ap (how_many is_stray_reset) e in
      let sd = how_many-cons is_stray_reset (down.Write reg value) rest in
      let no = false_by_none (is_stray_reset (down.Write reg value)) (omega (arith, st, sa, sc, sd)) in
      first (is_reset_item (down.Write reg value)) (is_stray_reset (down.Write reg value)) no (counted reg value r)
    where
      first : (c d : Bool) → d ≡ false → (c || d) ≡ true → c ≡ true
      first true d e f = refl
      first false d e f = clash d f e

  asked : (reg value : ℕ) (rest : List Down) → w.down ≡ down.Write reg value ∷ rest → Resets (register_written w.ioc.door reg value).effect → is_resetting w.host.mode ≡ true
  asked reg value rest e r = (and_false _ _ (and_false _ _ (asked_now w h b (down.Write reg value) rest e (counted reg value r))).0).0

  -- ---- a post comes to a controller that is OPERATIONAL

  live : (d : ℕ) (frame payload : List ℕ) (rest : List Down) → w.down ≡ down.Post d frame payload ∷ rest → is_operational w.ioc.door.state ≡ true
  live d frame payload rest e =
      let a = how_many-append is_load w.down w.host.out in
      let n = ap (how_many is_load) e in
      let c = how_many-cons is_load (down.Post d frame payload) rest in
      clock.loads_before_reset.live (omega (arith, a, n, c))

  -- ---- the end of a reset

  -- the controller is linked, and no queue has a reply left
  pub record IsLast : Type 0 where
    pub linked : is_linked_up w ≡ true
    pub lanes : (i : ℕ) → i < length w.up → how_many is_reply (map said_of (up_on w i)) ≡ 0

  -- what is on a lane is the beginning of its line
  on_line : (i : ℕ) → how_many is_reply (up_line w i) ≡ 0 → how_many is_reply (map said_of (up_on w i)) ≡ 0
  on_line i z = let a = how_many-append is_reply (map said_of (up_on w i)) (outbox_of w.ioc i) in omega (arith, a, z)

  begun : is_linked_up w ≡ true → in_begun w ≡ true
  begun l = (and_false (in_begun w) (is_ready (state_of w.ioc)) l).0

  -- of a queue above 0 whose mark was taken
  marked : (i : ℕ) → 1 ≤ i → i < length w.up → is_linked_up w ≡ true → get_or w.host.marks i true ≡ true → how_many is_reply (map said_of (up_on w i)) ≡ 0
  marked i l m k t = on_line i ((clock.marks.each i l m).over (begun k) t)

  -- a mark is the last
  by_mark : (queue generation : ℕ) (rest : List Up) → up_on w queue ≡ up.Mark generation ∷ rest → w.host.door_ready ≡ true → resets.has_all_marks (record w.host { marks = slice_set w.host.marks queue true }) ≡ true
      → (i : ℕ) → i < length w.up → how_many is_reply (map said_of (up_on w i)) ≡ 0
  by_mark queue generation rest e r m zero l = on_line 0 (clock.value_is_last.ready r).replies
  by_mark queue generation rest e r m (suc k) l = by_key (suc k == queue) refl
    where
      by_key : (c : Bool) → (suc k == queue) ≡ c → how_many is_reply (map said_of (up_on w (suc k))) ≡ 0
      by_key false t =
          let other : suc k ≢ queue = λ h. grind (arith, t, h) in
          let there = marks_true (set w.host.marks queue true) (suc k) (omega arith) m in
          marked (suc k) (omega arith) l (clock.value_is_last.ready r).linked (sym (get_or-set_other w.host.marks queue (suc k) true true other) ∙ there)
      by_key true t =
          let same : suc k ≡ queue = grind (arith, t) in
          let e1 : up_on w (suc k) ≡ up.Mark generation ∷ rest = subst (λ n. up_on w n ≡ up.Mark generation ∷ rest) (sym same) e in
          let z = (clock.marks.each (suc k) (omega arith) l).last in
          let g0 = subst (λ xs. how_many is_reply (behind is_mark (map said_of xs ++ outbox_of w.ioc (suc k))) ≡ 0) e1 z in
          let g = behind_first is_mark (said.Mark generation) (map said_of rest ++ outbox_of w.ioc (suc k)) refl in
          let a = how_many-append is_reply (map said_of rest) (outbox_of w.ioc (suc k)) in
          let g1 = ap (how_many is_reply) g in
          let c = how_many-cons is_reply (said.Mark generation) (map said_of rest) in
          let d = ap (λ xs. how_many is_reply (map said_of xs)) e1 in
          omega (arith, g0, g1, a, c, d)

  -- a value is the last on queue 0
  by_value : (value : ℕ) (rest : List Up) → up_on w 0 ≡ up.Value value ∷ rest → is_linked_up w ≡ true → resets.has_all_marks w.host ≡ true → (i : ℕ) → i < length w.up → how_many is_reply (map said_of (up_on w i)) ≡ 0
  by_value value rest e k m (suc i) l = marked (suc i) (omega arith) l k (marks_true w.host.marks (suc i) (omega arith) m)
  by_value value rest e k m zero l =
      let z = clock.value_is_last.last (begun k) in
      let g0 = subst (λ xs. how_many is_reply (behind is_said_value (map said_of xs ++ outbox_of w.ioc 0)) ≡ 0) e z in
      let g = behind_first is_said_value (said.Value value) (map said_of rest ++ outbox_of w.ioc 0) refl in
      let a = how_many-append is_reply (map said_of rest) (outbox_of w.ioc 0) in
      let g1 = ap (how_many is_reply) g in
      let c = how_many-cons is_reply (said.Value value) (map said_of rest) in
      let d = ap (λ xs. how_many is_reply (map said_of xs)) e in
      omega (arith, g0, g1, a, c, d)

  -- the host's turn with a value that ends a reset found the controller linked
  value_ends : (v : ℕ) (o : Option HostDoor) → w.host.machine ≡ o → list_any is_reset_end (values.hears_value_at (record w.host { reading = false }) o v).entries ≡ true
      → EndsBy w.host.stage w.host.marks (values.hears_value_at (record w.host { reading = false }) o v).part.mode × (is_resetting w.host.mode ≡ true)
  value_ends v None m e = absurd (cc)
  value_ends v (Some d) m e =
      let t = door.next_turn d (Some v) in
      let k : Host = door.puts_writes (record w.host { reading = false }) t.writes in
      let z = turn_ends (door.puts_step k t.door t.step) w.host.stage t.step e in
      let n = subst (λ xs. EndsBy w.host.stage xs (values.after_turn (door.puts_step k t.door t.step) w.host.stage t.step).part.mode) (step_marks k t.door t.step) z in
      (n, by_waits d.stage (f.doorbell.stage.machine d m) n.resets_stage)
    where
      by_stage : (s : Stage) → IsInMode w s → is_reset_stage s ≡ true → is_resetting w.host.mode ≡ true
      by_stage stage.DiagnosticReset i r = ap is_resetting i
      by_stage stage.UnitReset i r = ap is_resetting i
      by_stage stage.Idle i r = absurd (cc)
      by_stage stage.Start i r = absurd (cc)
      by_stage stage.StartReset i r = absurd (cc)
      by_stage stage.Facts i r = absurd (cc)
      by_stage stage.PortFacts i r = absurd (cc)
      by_stage stage.Init i r = absurd (cc)
      by_stage stage.Look i r = absurd (cc)

      by_waits : (x : DoorStage) → WaitsAt w x → is_reset_stage w.host.stage ≡ true → is_resetting w.host.mode ≡ true
      by_waits (door_stage.Awaits y) a r = by_stage w.host.stage a.1 r
      by_waits _ a r = absurd a

  linked_by_value : (k : Host) → is_resetting w.host.mode ≡ true → is_resetting k.mode ≡ false → HearsValue w k → is_linked_up w ≡ true
  linked_by_value k m n (TurnsOn c u t a d) = clash (is_resetting k.mode) (ap is_resetting t.mode_is ∙ m) n
  linked_by_value k m n (UnitLate r g u) = clash (is_resetting k.mode) (ap is_resetting u.turn.mode_is ∙ m) n
  linked_by_value k m n (SpeaksOn j st t q s) = clash (is_resetting w.host.mode) m (ap is_resetting st)
  linked_by_value k m n (IsReady j r l t q a d e) = l
  linked_by_value k m n (IsOverNow j r l t q a u) = l

  linked_by : (k : Host) (t : Heard) → is_value t ≡ true → is_resetting w.host.mode ≡ true → is_resetting k.mode ≡ false → HostGoes w k t → is_linked_up w ≡ true
  linked_by k NoNews y m n g = absurd (cc)
  linked_by k (AMark queue) y m n g = absurd (cc)
  linked_by k AValue y m n (Values r v front hears) = linked_by_value k m n hears

  -- the stage of the host's machine once it has taken an item
  stage_after : (queue : ℕ) (x : Up) (rest : List Up) → up_on w queue ≡ x ∷ rest → StageFits (record (with_up w queue rest) { host = (hears_up w.host queue x).part })
  stage_after queue x rest e =
      subst (λ o. StageFits (move.host_took (with_up w queue rest) queue x (takes_unless w.host queue x o)).part) (not_strange queue x rest e) (taken queue e)
    where
      taken : (queue : ℕ) → up_on w queue ≡ x ∷ rest → StageFits (move.host_took (with_up w queue rest) queue x (takes_unless w.host queue x (why_strange w.host queue x))).part
      taken zero e = subst (λ xs. StageFits (moves_or_idles w choice.HostTake (move.host_takes w 0 xs)).part) e (stage_kept w h b (Chosen choice.HostTake))
      taken (suc q) e = subst (λ xs. StageFits (moves_or_idles w (choice.HostTakeOn (suc q)) (move.host_takes w (suc q) xs)).part) e (stage_kept w h b (Chosen (choice.HostTakeOn (suc q))))

  -- what the host makes of an item that it takes
  pub goes : (queue : ℕ) (x : Up) (rest : List Up) → up_on w queue ≡ x ∷ rest → HostGoes w (hears_up w.host queue x).part (heard_of queue x)
  goes queue x rest e = takes_item w h b queue x rest e (not_strange queue x rest e) (stage_after queue x rest e)

  by_value_linked : (v : ℕ) (rest : List Up) → up_on w 0 ≡ up.Value v ∷ rest → list_any is_reset_end (hears_up w.host 0 (up.Value v)).entries ≡ true → IsLast
  by_value_linked v rest e r =
      let z = value_ends v w.host.machine refl r in
      let l = linked_by (hears_up w.host 0 (up.Value v)).part AValue refl z.1 z.0.over (goes 0 (up.Value v) rest e) in
      record { linked = l; lanes = by_value v rest e l z.0.all_marks }

  pub last : (queue : ℕ) (x : Up) (rest : List Up) → up_on w queue ≡ x ∷ rest → list_any is_reset_end (hears_up w.host queue x).entries ≡ true → IsLast
  last queue (up.Mark generation) rest e r =
      let q = over_marks (record w.host { marks = slice_set w.host.marks queue true }) r in
      record { linked = (clock.value_is_last.ready q.0).linked; lanes = by_mark queue generation rest e q.0 q.1 }
  last queue (up.Value value) rest e r =
      let z = (value_is_due w queue value (not_strange queue (up.Value value) rest e)).0 in
      by_value_linked value rest (subst (λ n. up_on w n ≡ up.Value value ∷ rest) z e) r
  last queue up.Calm rest e r = clash false r refl
  last queue (up.Reply d g page sense) rest e r =
      clash _ r (quiet _ (told_reply_to (replies.takes_entry (replies.with_frame_heard w.host d g) queue) (smid_in d) (replies.request_of w.host (smid_in d)) (replies.heard_of d g page sense)))
    where
      one : (x : Entry) → IsTold x → is_reset_end x ≡ false
      one entry.ResetDone h = absurd h
      one _ h = refl

      quiet : (t : List Entry) → EachEntry IsTold t → list_any is_reset_end t ≡ false
      quiet [] h = refl
      quiet (x ∷ t) h = ap (λ c. c || list_any is_reset_end t) (one x h.0) ∙ quiet t h.1

  -- then nothing has an identifier
  none_left : IsLast → (q : ℕ) → post_count q w.host.out + (post_count q w.down + (at_ioc q w.ioc + replied_to q w.up)) ≡ 0
  unfolding said_to replied_to
  none_left l q =
      let ready = (and_false (in_begun w) (is_ready (state_of w.ioc)) l.linked).1 in
      let dead = by_state (state_of w.ioc) ready in
      let t = clock.tables_empty dead.1 in
      let loads = no_loads (how_many is_load (down_line w)) refl dead.0 in
      let d = how_many-append is_load w.down w.host.out in
      let r1 = posts_load q w.down in
      let r2 = posts_load q w.host.out in
      let n = queued_count-nil q in
      let a1 = ap (queued_count q) t.high in
      let a2 = ap (queued_count q) t.normal in
      let a3 = none_asked q w.ioc.requests t.requests in
      let a4 = ap (held_as q) t.held in
      let a5 = held_as-nil q in
      let a6 = all_zero (reply_count q) w.ioc.up (λ i m. let u = answers_reply q (get_or w.ioc.up i []) in let z = clock.no_reply_before_init.outboxes dead.0 i in omega (arith, u, z)) in
      let a7 = all_zero (replies_on q) w.up (λ i m. let u = answers_reply q (map said_of (up_on w i)) in let z = l.lanes i m in omega (arith, u, z)) in
      omega (arith, loads, d, r1, r2, n, a1, a2, a3, a4, a5, a6, a7)
    where
      by_state : (s : IocState) → is_ready s ≡ true → (is_operational s ≡ false) × (is_bare s ≡ true)
      by_state ioc_state.Reset e = absurd (cc)
      by_state ioc_state.Ready e = (refl, refl)
      by_state ioc_state.Operational e = absurd (cc)
      by_state (ioc_state.Fault code) e = absurd (cc)

      no_loads : (n : ℕ) → how_many is_load (down_line w) ≡ n → is_live w ≡ false → n ≡ 0
      no_loads zero e g = refl
      no_loads (suc n) e g = clash (is_live w) (clock.loads_before_reset.live (omega (arith, e))) g

  -- ---- all of it

  pub given : Given w
  given =
      record {
        live = live;
        asked = asked;
        plain = λ queue d frame page sense rest e. not_strange queue (up.Reply d frame page sense) rest e;
        over = λ queue x rest e r q p. none_left (last queue x rest e r) q;
      }

  pub frames_before : FramesBefore w h
  frames_before = record { facts = f; plain = plain; begins = begins; ready = λ queue value rest e r. (last queue (up.Value value) rest e r).linked }
