-- The host takes a value or a mark, or begins something at the doorbell: posts stay as their records name them, and
-- where a reset ends there is none.
use Rattle.std.proofs.Common.{◌++◌, ◌≡◌, ℕ, zero, suc, ◌==◌, ◌&&◌, Bool, true, false, if◌then◌else◌, List, [], ◌∷◌, slice_set, take, Option, Some, None, is_some, refl, ap, subst, arith, map, filter_map}
use Rattle.std.specs.List.{fold, range_with_len}
use Rattle.std.proofs.lemmas.List.Elements.{All-filter}
use Rattle.std.specs.FinMap as finmap
use Rattle.smid_pool.specs.Pool.{Free, Open, Parked, Slot, all_free}
use Rattle.mpi_doorbell.specs.HostDoor.{HostDoor}
use Rattle.mpi_doorbell.specs.HostSteps.{diagnostic_reset, handshake_of_message, look_at_doorbell, next_step, unit_reset}
use Rattle.mpi_doorbell.specs.declared.registers.TheConstants.{IOC_STATE_FAULT, IOC_STATE_OPERATIONAL, IOC_STATE_READY}
use Rattle.mpi_doorbell.specs.declared.step.DoorStep.{DoorStep}
use Rattle.mpi_doorbell.specs.declared.step.DoorStep.TheVariants as step
use Rattle.mpt_messages.specs.FrameBytes.{message_bytes}
use Rattle.mpt_messages.specs.HostFrames.{host_message}
use Rattle.mpt_messages.specs.declared.host_ask.HostAsk.{HostAsk}
use Rattle.mpt_messages.specs.declared.host_ask.HostAsk.TheVariants as ask
use Rattle.mpt_wire.specs.Machine.Causes.{is_resetting}
use Rattle.mpt_wire.specs.Walks.Passes.{EachEntry}
use Rattle.mpt_trace.specs.declared.entry.Entry.{Entry}
use Rattle.mpt_trace.specs.declared.entry.Entry.TheVariants as entry
use Rattle.mpt_trace.specs.declared.host_state.HostState.TheVariants as state
use Rattle.mpt_trace.specs.declared.item.Down.{Down}
use Rattle.mpt_trace.specs.declared.item.Down.TheVariants as down
use Rattle.mpt_rules.specs.declared.request.Request.{Request}
use Rattle.mpt_rules.specs.declared.request.Request.TheVariants as request
use Rattle.mpt_rules.specs.declared.stage.Stage.{Stage}
use Rattle.mpt_rules.specs.declared.stage.Stage.TheVariants as stage
use Rattle.mpt_rules.specs.Host.Doorbell as door
use Rattle.mpt_rules.specs.Host.Parts.{Host, host_queue_count}
use Rattle.mpt_rules.specs.Host.Resets as resets
use Rattle.mpt_rules.specs.Host.Returns as returns
use Rattle.mpt_rules.specs.Host.Values as values
use Rattle.mpt_rules.specs.Outcome.{Happening}
use Rattle.mpt_rules.specs.World.Counts.{how_many}
use Rattle.mpt_rules.specs.World.State.{World}
use Rattle.mpt_rules.proofs.Counts.{how_many-append}
use Rattle.law_facts.specs.DoorAhead.{IsInMode}
use Rattle.law_facts.specs.History.{History}
use Rattle.law_facts.specs.Messages.{DownIsRecord}
use Rattle.law_facts.specs.Words.{is_post}
use Rattle.law_moves.proofs.Counted.{how_many-cons, how_many-nil}
use Rattle.law_messages.proofs.Requests.{IsTame, tame_append}
use Rattle.law_messages.proofs.HostWalk as walk
use Rattle.law_messages.proofs.HostWalk.{Walk}

-- a turn at the doorbell has no posts
none_written : (m : ℕ) (d : HostDoor) (x : DoorStep) → how_many is_post (door.turn_from m d x).writes ≡ 0
unfolding door.turn_from
none_written zero d x = how_many-nil is_post
none_written (suc m) d (step.Write reg value) =
    let c = how_many-cons is_post (down.Write reg value) (door.turn_from m (next_step d None).door (next_step d None).step).writes in let t = none_written m (next_step d None).door (next_step d None).step in omega (arith, c, t)
none_written (suc m) d (step.Read reg) = how_many-nil is_post
none_written (suc m) d (step.Done count bytes) = how_many-nil is_post
none_written (suc m) d (step.Refused at value) = how_many-nil is_post

none_turned : (d : HostDoor) (v : Option ℕ) → how_many is_post (door.next_turn d v).writes ≡ 0
none_turned d v = none_written 8 (next_step d v).door (next_step d v).step

module _ (w : World) (k : History) (hand : ℕ) where
  abbrev Walks : Host → Type 0
  Walks x = walk.Walks w k hand None x

  -- the host has walked, or a reset is over and there is no post
  pub data Comes (o : Happening Host) : Type 0 where
    Walked : Walks o.part → EachEntry IsTame o.entries → Comes o
    Over : is_resetting w.host.mode ≡ true → o.part.mode ≡ state.Starting → how_many is_post o.part.out ≡ 0 → o.part.pool ≡ all_free → o.part.cmds ≡ finmap.empty → (u : List Entry) → EachEntry IsTame u → o.entries ≡ map resets.reset_answer (finmap.keys w.host.cmds) ++ u → Comes o

  puts_step : (x : Host) (d : HostDoor) (y : DoorStep) → Walks x → Walks (door.puts_step x d y)
  puts_step x d (step.Read reg) a = walk.one_item w k hand None x (down.Read reg) refl a
  puts_step x d (step.Write reg value) a = a
  puts_step x d (step.Done count bytes) a = a
  puts_step x d (step.Refused at value) a = a

  turns : (x : Host) (d : HostDoor) (v : Option ℕ) → Walks x → Walks (door.puts_turn x (door.next_turn d v))
  turns x d v a = puts_step (door.puts_writes x (door.next_turn d v).writes) (door.next_turn d v).door (door.next_turn d v).step (walk.items w k hand None x (door.next_turn d v).writes (none_turned d v) a)

  begins : (x : Host) (s : Stage) (d : HostDoor) → Walks x → Walks (door.begins x s d)
  begins x s d a = turns (record x { stage = s }) d None a

  handshake : (x : Host) (s : Stage) (q : HostAsk) → Walks x → Walks (door.begins_handshake x s q)
  handshake x s q a = begins x s (handshake_of_message (message_bytes (host_message q))) a

  starts_by : (x : Host) (n : ℕ) → Walks x → Walks (values.starts_by x n)
  starts_by x n a = by_tests (n == IOC_STATE_READY) (n == IOC_STATE_OPERATIONAL) (n == IOC_STATE_FAULT)
    where
      by_tests : (c d e : Bool) → Walks (if c then door.begins_facts x else if d then door.begins x stage.StartReset unit_reset else if e then door.begins x stage.StartReset diagnostic_reset else values.looks_to_start x)
      by_tests true d e = handshake x stage.Facts ask.Facts a
      by_tests false true e = begins x stage.StartReset unit_reset a
      by_tests false false true = begins x stage.StartReset diagnostic_reset a
      by_tests false false false = begins x stage.Start look_at_doorbell a

  -- ---- posts that aren't there

  -- what a turn leaves of a host without posts
  record Bare (x y : Host) : Type 0 where
    posts : how_many is_post y.out ≡ 0
    mode : y.mode ≡ x.mode
    pool : y.pool ≡ x.pool
    cmds : y.cmds ≡ x.cmds

  step_none : (x : Host) (d : HostDoor) (y : DoorStep) → how_many is_post x.out ≡ 0 → Bare x (door.puts_step x d y)
  step_none x d (step.Read reg) z = let a = how_many-append is_post x.out (down.Read reg ∷ []) in let c = how_many-cons is_post (down.Read reg) [] in let n = how_many-nil {X = Down} is_post in record { posts = omega (arith, z, a, c, n); mode = refl; pool = refl; cmds = refl }
  step_none x d (step.Write reg value) z = record { posts = z; mode = refl; pool = refl; cmds = refl }
  step_none x d (step.Done count bytes) z = record { posts = z; mode = refl; pool = refl; cmds = refl }
  step_none x d (step.Refused at value) z = record { posts = z; mode = refl; pool = refl; cmds = refl }

  turn_none : (x : Host) (d : HostDoor) (v : Option ℕ) → how_many is_post x.out ≡ 0 → Bare x (door.puts_turn x (door.next_turn d v))
  turn_none x d v z =
      let a = how_many-append is_post x.out (door.next_turn d v).writes in let n = none_turned d v in
      let s = step_none (door.puts_writes x (door.next_turn d v).writes) (door.next_turn d v).door (door.next_turn d v).step (omega (arith, z, a, n)) in record { posts = s.posts; mode = s.mode; pool = s.pool; cmds = s.cmds }

  same_cmds : (x : Host) (d : HostDoor) (y : DoorStep) → (door.puts_step x d y).cmds ≡ x.cmds
  same_cmds x d (step.Read reg) = refl
  same_cmds x d (step.Write reg value) = refl
  same_cmds x d (step.Done count bytes) = refl
  same_cmds x d (step.Refused at value) = refl

  -- what is told beside the answers
  each_tame : (f : ℕ → Entry) → ((n : ℕ) → IsTame (f n)) → (ns : List ℕ) → EachEntry IsTame (map f ns)
  each_tame f h [] = tt
  each_tame f h (n ∷ ns) = (h n, each_tame f h ns)

  targets_tame : (xs : List (Slot Request)) → EachEntry IsTame (filter_map resets.reset_target xs)
  targets_tame [] = tt
  targets_tame (Free ∷ xs) = targets_tame xs
  targets_tame (Parked ∷ xs) = targets_tame xs
  targets_tame (Open (request.Command n) ∷ xs) = targets_tame xs
  targets_tame (Open (request.Abort n task) ∷ xs) = targets_tame xs
  targets_tame (Open (request.TargetReset address) ∷ xs) = (tt, targets_tame xs)
  targets_tame (Open (request.Leave handle) ∷ xs) = targets_tame xs
  targets_tame (Open (request.Page handle) ∷ xs) = targets_tame xs
  targets_tame (Open (request.Remove handle) ∷ xs) = targets_tame xs
  targets_tame (Open (request.Ack event context) ∷ xs) = targets_tame xs
  targets_tame (Open request.Notification ∷ xs) = targets_tame xs
  targets_tame (Open request.PortEnable ∷ xs) = targets_tame xs

  rest_told : Host → List Entry
  rest_told x = map resets.reset_abort (finmap.keys x.aborts) ++ (filter_map resets.reset_target x.pool ++ entry.ResetDone ∷ [])

  rest_tame : (x : Host) → EachEntry IsTame (rest_told x)
  unfolding rest_told
  rest_tame x = tame_append (map resets.reset_abort (finmap.keys x.aborts)) (filter_map resets.reset_target x.pool ++ entry.ResetDone ∷ []) (each_tame resets.reset_abort (λ n. tt) (finmap.keys x.aborts)) (tame_append (filter_map resets.reset_target x.pool) (entry.ResetDone ∷ []) (targets_tame x.pool) (tt, tt))

  over : (x : Host) → x.cmds ≡ w.host.cmds → is_resetting w.host.mode ≡ true → how_many is_post x.out ≡ 0 → Walks x → Comes (resets.ends_reset_if_over x)
  unfolding rest_told
  over x e r z a = by_test (x.door_ready && resets.has_all_marks x)
    where
      by_test : (b : Bool) → Comes (if b then resets.ends_reset x else record { part = x; entries = [] })
      by_test true =
          let t = turn_none (record (resets.renewed x) { stage = stage.Facts }) (handshake_of_message (message_bytes (host_message ask.Facts))) None z in
          Over r t.mode t.posts t.pool t.cmds (rest_told x) (rest_tame x) (ap (λ m. map resets.reset_answer (finmap.keys m) ++ rest_told x) e)
      by_test false = Walked a tt

  -- ---- a value

  late : (x : Host) (s : Stage) → Walks x → Walks (resets.begins_late x s)
  late x stage.DiagnosticReset a = begins x stage.DiagnosticReset diagnostic_reset a
  late x stage.UnitReset a = begins x stage.UnitReset unit_reset a
  late x stage.Idle a = a
  late x stage.Start a = a
  late x stage.StartReset a = a
  late x stage.Facts a = a
  late x stage.PortFacts a = a
  late x stage.Init a = a
  late x stage.Look a = a

  all_returned : (x : Host) (fs : List ℕ) → Walks x → Walks (fold returns.with_return x fs)
  all_returned x [] a = a
  all_returned x (f ∷ fs) a = all_returned (returns.with_return x f) fs (walk.one_item w k hand None x (down.Return _ _) refl a)

  module _ (none : is_resetting w.host.mode ≡ true → how_many is_post w.host.out ≡ 0) where
    ends_stage : (x : Host) (s : Stage) → x.cmds ≡ w.host.cmds → IsInMode w s → (bytes : List ℕ) → (is_resetting w.host.mode ≡ true → how_many is_post x.out ≡ 0) → Walks x → Comes (values.ends_stage x s bytes)
    ends_stage x stage.Idle c i bytes z a = Walked a tt
    ends_stage x stage.Start c i bytes z a = Walked (starts_by x (values.state_read bytes) a) tt
    ends_stage x stage.StartReset c i bytes z a = Walked (handshake x stage.Facts ask.Facts a) tt
    ends_stage x stage.Facts c i bytes z a = Walked (handshake x stage.PortFacts ask.PortFacts a) tt
    ends_stage x stage.PortFacts c i bytes z a = Walked (handshake x stage.Init (ask.Init (host_queue_count x)) a) tt
    ends_stage x stage.Init c i bytes z a = Walked (walk.asks_internal w k hand None (returns.returns_all x) request.Notification (all_returned x (range_with_len 0 returns.reply_frame_count) a)) tt
    ends_stage x stage.Look c i bytes z a = Walked a tt
    ends_stage x stage.DiagnosticReset c i bytes z a = let r = ap is_resetting i in over (record x { door_ready = true }) c r (z r) a
    ends_stage x stage.UnitReset c i bytes z a = let r = ap is_resetting i in over (record x { door_ready = true }) c r (z r) a

    after_turn : (x : Host) (y : DoorStep) → x.cmds ≡ w.host.cmds → IsInMode w w.host.stage → (is_resetting w.host.mode ≡ true → how_many is_post x.out ≡ 0) → Walks x → Comes (values.after_turn x w.host.stage y)
    after_turn x (step.Done count bytes) c i z a = ends_stage x w.host.stage c i (take count bytes) z a
    after_turn x (step.Read reg) c i z a = Walked a tt
    after_turn x (step.Write reg value) c i z a = Walked a tt
    after_turn x (step.Refused at value) c i z a = Walked a tt

    pub value : (o : Option HostDoor) (v : ℕ) → (is_some o ≡ true → IsInMode w w.host.stage) → Walks w.host → Comes (values.hears_value_at (record w.host { reading = false }) o v)
    value None v i a = Walked (late (record w.host { reading = false }) w.host.stage a) tt
    value (Some d) v i a =
        after_turn (door.puts_turn (record w.host { reading = false }) (door.next_turn d (Some v))) (door.next_turn d (Some v)).step (same_cmds (door.puts_writes (record w.host { reading = false }) (door.next_turn d (Some v)).writes) (door.next_turn d (Some v)).door (door.next_turn d (Some v)).step) (i refl) (λ r. (turn_none (record w.host { reading = false }) d (Some v) (none r)).posts) (turns (record w.host { reading = false }) d (Some v) a)

  pub mark : (queue : ℕ) → (w.host.door_ready ≡ true → is_resetting w.host.mode ≡ true) → (is_resetting w.host.mode ≡ true → how_many is_post w.host.out ≡ 0) → Walks w.host → Comes (resets.ends_reset_if_over (record w.host { marks = slice_set w.host.marks queue true }))
  mark queue r none a = by_ready w.host.door_ready refl
    where
      by_ready : (b : Bool) → w.host.door_ready ≡ b → Comes (if b && resets.has_all_marks (record w.host { marks = slice_set w.host.marks queue true }) then resets.ends_reset (record w.host { marks = slice_set w.host.marks queue true }) else record { part = record w.host { marks = slice_set w.host.marks queue true }; entries = [] })
      by_ready true e = subst (λ b. Comes (if b && resets.has_all_marks (record w.host { marks = slice_set w.host.marks queue true }) then resets.ends_reset (record w.host { marks = slice_set w.host.marks queue true }) else record { part = record w.host { marks = slice_set w.host.marks queue true }; entries = [] })) e (over (record w.host { marks = slice_set w.host.marks queue true }) refl (r e) (none (r e)) a)
      by_ready false e = Walked a tt

  -- ---- what the host begins

  pub starts : Walks w.host → Walks (values.looks_to_start (record w.host { mode = state.Starting }))
  starts a = begins (record w.host { mode = state.Starting }) stage.Start look_at_doorbell a

  gives_up : (s : Stage) → Walks w.host → Walks (resets.gives_up w.host s)
  gives_up s a =
      record { table = a.table; queues = a.queues; fit = All-filter resets.is_no_post (DownIsRecord (walk.With w k hand None w.host.pool w.host.cmds w.host.indices) k) w.host.out a.fit; slots = a.slots; agree = a.agree; less = a.less }

  pub asks_reset : (s : Stage) (d : HostDoor) → Walks w.host → Walks (resets.with_reset_asked w.host s d)
  asks_reset s d a = by_read w.host.reading
    where
      by_read : (b : Bool) → Walks (if b then resets.gives_up w.host s else door.begins (resets.gives_up w.host s) s d)
      by_read true = gives_up s a
      by_read false = begins (resets.gives_up w.host s) s d (gives_up s a)

  pub looks : Walks w.host → Walks (Rattle.mpt_rules.specs.Host.Takes.looks w.host)
  looks a = begins w.host stage.Look look_at_doorbell a

  pub stops : Walks w.host → Walks (Rattle.mpt_rules.specs.Host.Takes.stops w.host)
  stops a = walk.one_item w k hand None w.host down.Stop refl a
