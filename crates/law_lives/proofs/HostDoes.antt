-- What the host does in one case, as far as it goes for its records, its phases and its posts.
use Rattle.std.proofs.Common.{◌≡◌, ℕ, zero, suc, ◌==◌, ◌&&◌, ◌||◌, Bool, true, false, if◌then◌else◌, List, [], ◌∷◌, ◌++◌, slice_set, take, Option, Some, None, refl, ap, sym, ◌∙◌, subst, arith}
use Rattle.std.specs.FinMap as finmap
use Rattle.std.specs.FinSet as finset
use Rattle.std.specs.List.{fold, list_any, range_with_len}
use Rattle.std.proofs.lemmas.List.Folds.{list_any-append}
use Rattle.scsi_disk.specs.Command.{fits}
use Rattle.scsi_disk.specs.declared.command.Command.{Command}
use Rattle.smid_pool.specs.Pool.{Slot, least_free}
use Rattle.smid_pool.specs.declared.class.Class.TheVariants as class
use Rattle.removal.specs.Handles.{ready_handle}
use Rattle.removal.specs.declared.phase.Phase.{Phase}
use Rattle.mpi_doorbell.specs.HostDoor.{HostDoor}
use Rattle.mpi_doorbell.specs.HostSteps.{diagnostic_reset, handshake_of_message, look_at_doorbell, next_step, unit_reset}
use Rattle.mpi_doorbell.specs.declared.registers.TheConstants.{IOC_STATE_FAULT, IOC_STATE_OPERATIONAL, IOC_STATE_READY}
use Rattle.mpi_doorbell.specs.declared.stage.Stage.{Stage as DoorStage}
use Rattle.mpi_doorbell.specs.declared.stage.Stage.TheVariants as door_stage
use Rattle.mpi_doorbell.specs.declared.step.DoorStep.{DoorStep}
use Rattle.mpi_doorbell.specs.declared.step.DoorStep.TheVariants as step
use Rattle.mpt_messages.specs.FrameBytes.{message_bytes}
use Rattle.mpt_messages.specs.HostFrames.{host_message}
use Rattle.mpt_messages.specs.declared.host_ask.HostAsk.{HostAsk}
use Rattle.mpt_messages.specs.declared.host_ask.HostAsk.TheVariants as ask
use Rattle.mpt_wire.specs.Machine.Causes.{is_resetting, is_up}
use Rattle.mpt_wire.specs.Messages.Fields.{frame_address_in, target_reset}
use Rattle.mpt_wire.specs.Walks.Cycles.{is_reset_end}
use Rattle.mpt_trace.specs.Command.{command_named}
use Rattle.mpt_trace.specs.declared.entry.Entry.TheVariants as entry
use Rattle.mpt_trace.specs.declared.host_state.HostState.{HostState}
use Rattle.mpt_trace.specs.declared.host_state.HostState.TheVariants as state
use Rattle.mpt_trace.specs.declared.input.Input.{Input}
use Rattle.mpt_trace.specs.declared.input.Input.TheVariants as input
use Rattle.mpt_trace.specs.declared.item.Down.{Down}
use Rattle.mpt_trace.specs.declared.item.Down.TheVariants as down
use Rattle.mpt_trace.specs.declared.item.Up.{Up}
use Rattle.mpt_trace.specs.declared.item.Up.TheVariants as upward
use Rattle.mpt_rules.specs.declared.request.Request.{Request}
use Rattle.mpt_rules.specs.declared.request.Request.TheVariants as request
use Rattle.mpt_rules.specs.declared.stage.Stage.{Stage}
use Rattle.mpt_rules.specs.declared.stage.Stage.TheVariants as stage
use Rattle.mpt_rules.specs.Host.Doorbell as door
use Rattle.mpt_rules.specs.Host.Inputs as inputs
use Rattle.mpt_rules.specs.Host.Parts.{Cmd, Host, host_queue_count}
use Rattle.mpt_rules.specs.Host.Posts as asks
use Rattle.mpt_rules.specs.Host.Replies as replies
use Rattle.mpt_rules.specs.Host.Resets as resets
use Rattle.mpt_rules.specs.Host.Returns as returns
use Rattle.mpt_rules.specs.Host.Takes.{hears_up}
use Rattle.mpt_rules.specs.Host.Values as values
use Rattle.mpt_rules.specs.Law.{NothingIsStrange}
use Rattle.mpt_rules.specs.Outcome.{Happening}
use Rattle.mpt_rules.specs.World.Counts.{how_many}
use Rattle.mpt_rules.specs.World.Inputs.{host_told}
use Rattle.mpt_rules.specs.World.Lines.{high_posts, normal_posts}
use Rattle.mpt_rules.specs.World.State.{World, up_on}
use Rattle.mpt_rules.proofs.HostCalls.{submits_by, aborts_by, resets_target_by}
use Rattle.mpt_rules.proofs.Lines.{high_posts-append, high_posts-cons, high_posts-nil, normal_posts-append, normal_posts-cons, normal_posts-nil}
use Rattle.law_facts.specs.Clock.{is_linked_up}
use Rattle.law_facts.specs.DoorAhead.{IsInMode, WaitsAt}
use Rattle.law_facts.specs.Facts.{Facts}
use Rattle.law_facts.specs.History.{History}
use Rattle.law_facts.specs.Words.{is_post}
use Rattle.law_flights.proofs.HostTold.{ends_reset_told}
use Rattle.law_moves.proofs.Counted.{how_many-cons, how_many-nil}
use Rattle.law_places.proofs.Premises.{last}

-- ---- one host is like another

pub record Like (x : Host) (pool : List (Slot Request)) (phases : List Phase) (cmds : finmap.FinMap Rattle.std.specs.Ordering.nat_cmp Cmd) (wait_high : List ℕ) (wait_internal : List Request) (mode : HostState) (out : List Down) : Type 0 where
  pub pool_is : pool ≡ x.pool
  pub phases_are : phases ≡ x.phases
  pub cmds_are : cmds ≡ x.cmds
  pub high_is : wait_high ≡ x.wait_high
  pub internal_is : wait_internal ≡ x.wait_internal
  pub mode_is : mode ≡ x.mode
  pub normal_out : normal_posts out ≡ normal_posts x.out
  pub high_out : high_posts out ≡ high_posts x.out

abbrev pub Alike : Host → Host → Type 0
Alike x y = Like x y.pool y.phases y.cmds y.wait_high y.wait_internal y.mode y.out

pub itself : (x : Host) → Alike x x
itself x = record { pool_is = refl; phases_are = refl; cmds_are = refl; high_is = refl; internal_is = refl; mode_is = refl; normal_out = refl; high_out = refl }

pub further : (x y z : Host) → Alike x y → Alike y z → Alike x z
further x y z a b =
    record {
      pool_is = b.pool_is ∙ a.pool_is;
      phases_are = b.phases_are ∙ a.phases_are;
      cmds_are = b.cmds_are ∙ a.cmds_are;
      high_is = b.high_is ∙ a.high_is;
      internal_is = b.internal_is ∙ a.internal_is;
      mode_is = b.mode_is ∙ a.mode_is;
      normal_out = b.normal_out ∙ a.normal_out;
      high_out = b.high_out ∙ a.high_out;
    }

-- ---- items that are no posts

pub none_normal : (xs : List Down) → how_many is_post xs ≡ 0 → normal_posts xs ≡ []
none_normal [] z = normal_posts-nil
none_normal (x ∷ xs) z = (let c = how_many-cons is_post x xs in by_item x (omega (arith, c, z)) (none_normal xs (omega (arith, c, z))))
  where
    by_item : (x : Down) → Rattle.mpt_rules.specs.World.Counts.one_if (is_post x) ≡ 0 → normal_posts xs ≡ [] → normal_posts (x ∷ xs) ≡ []
    by_item (down.Post d f p) z e = absurd (omega (arith, z))
    by_item (down.Write reg value) z e = normal_posts-cons (down.Write reg value) xs ∙ e
    by_item (down.Read reg) z e = normal_posts-cons (down.Read reg) xs ∙ e
    by_item (down.Return address i) z e = normal_posts-cons (down.Return address i) xs ∙ e
    by_item down.Stop z e = normal_posts-cons down.Stop xs ∙ e

pub none_high : (xs : List Down) → how_many is_post xs ≡ 0 → high_posts xs ≡ []
none_high [] z = high_posts-nil
none_high (x ∷ xs) z = (let c = how_many-cons is_post x xs in by_item x (omega (arith, c, z)) (none_high xs (omega (arith, c, z))))
  where
    by_item : (x : Down) → Rattle.mpt_rules.specs.World.Counts.one_if (is_post x) ≡ 0 → high_posts xs ≡ [] → high_posts (x ∷ xs) ≡ []
    by_item (down.Post d f p) z e = absurd (omega (arith, z))
    by_item (down.Write reg value) z e = high_posts-cons (down.Write reg value) xs ∙ e
    by_item (down.Read reg) z e = high_posts-cons (down.Read reg) xs ∙ e
    by_item (down.Return address i) z e = high_posts-cons (down.Return address i) xs ∙ e
    by_item down.Stop z e = high_posts-cons down.Stop xs ∙ e

pub append_none : {X : Type 0} (xs ys : List X) → ys ≡ [] → xs ++ ys ≡ xs
append_none [] ys e = e
append_none (x ∷ xs) ys e = ap (λ zs. x ∷ zs) (append_none xs ys e)

pub items : (x y : Host) (xs : List Down) → how_many is_post xs ≡ 0 → Alike x y → Alike x (record y { out = y.out ++ xs })
items x y xs z a =
    record {
      pool_is = a.pool_is;
      phases_are = a.phases_are;
      cmds_are = a.cmds_are;
      high_is = a.high_is;
      internal_is = a.internal_is;
      mode_is = a.mode_is;
      normal_out = normal_posts-append y.out xs ∙ (append_none (normal_posts y.out) (normal_posts xs) (none_normal xs z) ∙ a.normal_out);
      high_out = high_posts-append y.out xs ∙ (append_none (high_posts y.out) (high_posts xs) (none_high xs z) ∙ a.high_out);
    }

pub one_item : (x y : Host) (d : Down) → is_post d ≡ false → Alike x y → Alike x (record y { out = y.out ++ d ∷ [] })
one_item x y d e a = let c = how_many-cons is_post d [] in let n = how_many-nil {X = Down} is_post in let o = ap Rattle.mpt_rules.specs.World.Counts.one_if e in items x y (d ∷ []) (omega (arith, c, n, o)) a

-- a turn at the doorbell has no posts
none_written : (m : ℕ) (d : HostDoor) (x : DoorStep) → how_many is_post (door.turn_from m d x).writes ≡ 0
unfolding door.turn_from
none_written zero d x = how_many-nil is_post
none_written (suc m) d (step.Write reg value) =
    let c = how_many-cons is_post (down.Write reg value) (door.turn_from m (next_step d None).door (next_step d None).step).writes in let t = none_written m (next_step d None).door (next_step d None).step in omega (arith, c, t)
none_written (suc m) d (step.Read reg) = how_many-nil is_post
none_written (suc m) d (step.Done count bytes) = how_many-nil is_post
none_written (suc m) d (step.Refused at value) = how_many-nil is_post

module _ (h : Host) where
  puts_step : (x : Host) (d : HostDoor) (y : DoorStep) → Alike h x → Alike h (door.puts_step x d y)
  puts_step x d (step.Read reg) a = one_item h x (down.Read reg) refl a
  puts_step x d (step.Write reg value) a = a
  puts_step x d (step.Done count bytes) a = a
  puts_step x d (step.Refused at value) a = a

  turns : (x : Host) (d : HostDoor) (v : Option ℕ) → Alike h x → Alike h (door.puts_turn x (door.next_turn d v))
  turns x d v a = puts_step (door.puts_writes x (door.next_turn d v).writes) (door.next_turn d v).door (door.next_turn d v).step (items h x (door.next_turn d v).writes (none_written 8 (next_step d v).door (next_step d v).step) a)

  pub begins : (x : Host) (s : Stage) (d : HostDoor) → Alike h x → Alike h (door.begins x s d)
  begins x s d a = turns (record x { stage = s }) d None a

  pub handshake : (x : Host) (s : Stage) (q : HostAsk) → Alike h x → Alike h (door.begins_handshake x s q)
  handshake x s q a = begins x s (handshake_of_message (message_bytes (host_message q))) a

  starts_by : (x : Host) (n : ℕ) → Alike h x → Alike h (values.starts_by x n)
  starts_by x n a = by_tests (n == IOC_STATE_READY) (n == IOC_STATE_OPERATIONAL) (n == IOC_STATE_FAULT)
    where
      by_tests : (c d e : Bool) → Alike h (if c then door.begins_facts x else if d then door.begins x stage.StartReset unit_reset else if e then door.begins x stage.StartReset diagnostic_reset else values.looks_to_start x)
      by_tests true d e = handshake x stage.Facts ask.Facts a
      by_tests false true e = begins x stage.StartReset unit_reset a
      by_tests false false true = begins x stage.StartReset diagnostic_reset a
      by_tests false false false = begins x stage.Start look_at_doorbell a

  late : (x : Host) (s : Stage) → Alike h x → Alike h (resets.begins_late x s)
  late x stage.DiagnosticReset a = begins x stage.DiagnosticReset diagnostic_reset a
  late x stage.UnitReset a = begins x stage.UnitReset unit_reset a
  late x stage.Idle a = a
  late x stage.Start a = a
  late x stage.StartReset a = a
  late x stage.Facts a = a
  late x stage.PortFacts a = a
  late x stage.Init a = a
  late x stage.Look a = a

  all_returned : (x : Host) (fs : List ℕ) → Alike h x → Alike h (fold returns.with_return x fs)
  all_returned x [] a = a
  all_returned x (f ∷ fs) a = all_returned (returns.with_return x f) fs (one_item h x (down.Return _ _) refl a)

  pub frame_heard : (d : ℕ) (f : Option (List ℕ)) → Alike h (replies.with_frame_heard h d f)
  frame_heard d None = itself h
  frame_heard d (Some f) = by_bool h.returning
    where
      by_bool : (c : Bool) → Alike h (if c then returns.with_return h (returns.frame_of (frame_address_in d)) else returns.keeps h (returns.frame_of (frame_address_in d)))
      by_bool true = one_item h h (down.Return _ _) refl (itself h)
      by_bool false = itself h

  pub entry_taken : (queue d : ℕ) (f : Option (List ℕ)) → Alike h (replies.takes_entry (replies.with_frame_heard h d f) queue)
  entry_taken queue d f = one_item h (replies.with_frame_heard h d f) (down.Write _ _) refl (frame_heard d f)

-- a reset that ends is told as done
end_told : (k : Host) → list_any is_reset_end (resets.ends_reset k).entries ≡ true
end_told k = let e = ends_reset_told k in ap (list_any is_reset_end) e.is ∙ (list_any-append is_reset_end e.told (entry.ResetDone ∷ []) ∙ or_true (list_any is_reset_end e.told))
  where
    or_true : (b : Bool) → (b || true) ≡ true
    or_true true = refl
    or_true false = refl

-- ---- what it does, but with a reply

abbrev pub IsNoReply : Up → Type 0
IsNoReply (upward.Reply d g page sense) = ⊥
IsNoReply x = Unit {0}

pub data HostDoes (w : World) (k : Host) : Type 0 where
  Rests : Alike w.host k → HostDoes w k
  Begins : w.host.mode ≡ state.Off → Alike (record w.host { mode = state.Starting }) k → HostDoes w k
  GivesUp : (s : Stage) → is_resetting w.host.mode ≡ false → Alike (resets.gives_up w.host s) k → HostDoes w k
  Renews : is_resetting w.host.mode ≡ true → is_linked_up w ≡ true → Alike (resets.renewed w.host) k → HostDoes w k
  Notifies : (m : Host) → w.host.mode ≡ state.Starting → Alike w.host m → k ≡ asks.asks_internal m request.Notification → HostDoes w k
  Accepts : (s n address handle : ℕ) (command : Command) → is_up w.host.mode ≡ true → finset.contains w.host.accepted n ≡ false → ready_handle w.host.phases address ≡ Some handle → least_free class.ScsiIo w.host.pool ≡ Some s
      → k ≡ inputs.with_accepted w.host n address command handle s → HostDoes w k
  AsksAbort : (s n : ℕ) (cmd : Cmd) → is_up w.host.mode ≡ true → finmap.get w.host.cmds n ≡ Some cmd → finmap.get w.host.aborts n ≡ None → least_free class.High w.host.pool ≡ Some s → k ≡ inputs.with_abort_asked w.host n cmd s → HostDoes w k
  AsksTarget : (s address handle : ℕ) → is_up w.host.mode ≡ true → ready_handle w.host.phases address ≡ Some handle → least_free class.High w.host.pool ≡ Some s → k ≡ asks.posts_task w.host s (request.TargetReset address) handle target_reset 0 → HostDoes w k

module _ (w : World) (h : History) (f : Facts w h) (plain : NothingIsStrange w) where
  -- it is over where that is told
  abbrev Linked : Happening Host → Type 0
  Linked o = list_any is_reset_end o.entries ≡ true → is_linked_up w ≡ true

  renewed_like : (x : Host) → Alike w.host x → Alike (resets.renewed w.host) (resets.renewed x)
  renewed_like x a = record { pool_is = refl; phases_are = refl; cmds_are = refl; high_is = a.high_is; internal_is = a.internal_is; mode_is = refl; normal_out = a.normal_out; high_out = a.high_out }

  over : (x : Host) → is_resetting w.host.mode ≡ true → Linked (resets.ends_reset_if_over x) → Alike w.host x → HostDoes w (resets.ends_reset_if_over x).part
  over x r l a = by_end (x.door_ready && resets.has_all_marks x) l
    where
      by_end : (c : Bool) → Linked (if c then resets.ends_reset x else record { part = x; entries = [] }) → HostDoes w (if c then resets.ends_reset x else record { part = x; entries = [] }).part
      by_end true l = Renews r (l (end_told x)) (handshake (resets.renewed w.host) (resets.renewed x) stage.Facts ask.Facts (renewed_like x a))
      by_end false l = Rests a

  ends_stage : (x : Host) (s : Stage) (bytes : List ℕ) → IsInMode w s → Linked (values.ends_stage x s bytes) → Alike w.host x → HostDoes w (values.ends_stage x s bytes).part
  ends_stage x stage.Idle bytes i l a = Rests a
  ends_stage x stage.Start bytes i l a = Rests (starts_by w.host x (values.state_read bytes) a)
  ends_stage x stage.StartReset bytes i l a = Rests (handshake w.host x stage.Facts ask.Facts a)
  ends_stage x stage.Facts bytes i l a = Rests (handshake w.host x stage.PortFacts ask.PortFacts a)
  ends_stage x stage.PortFacts bytes i l a = Rests (handshake w.host x stage.Init (ask.Init (host_queue_count x)) a)
  ends_stage x stage.Init bytes i l a = Notifies (returns.returns_all x) i (all_returned w.host x (range_with_len 0 returns.reply_frame_count) a) refl
  ends_stage x stage.Look bytes i l a = Rests a
  ends_stage x stage.DiagnosticReset bytes i l a = over (record x { door_ready = true }) (ap is_resetting i) l a
  ends_stage x stage.UnitReset bytes i l a = over (record x { door_ready = true }) (ap is_resetting i) l a

  after_turn : (x : Host) (y : DoorStep) → IsInMode w w.host.stage → Linked (values.after_turn x w.host.stage y) → Alike w.host x → HostDoes w (values.after_turn x w.host.stage y).part
  after_turn x (step.Done count bytes) i l a = ends_stage x w.host.stage (take count bytes) i l a
  after_turn x (step.Read reg) i l a = Rests a
  after_turn x (step.Write reg value) i l a = Rests a
  after_turn x (step.Refused at value) i l a = Rests a

  in_mode : (d : DoorStage) → WaitsAt w d → IsInMode w w.host.stage
  in_mode (door_stage.Awaits x) a = a.1
  in_mode _ a = absurd a

  value : (o : Option HostDoor) (v : ℕ) → w.host.machine ≡ o → Linked (values.hears_value_at (record w.host { reading = false }) o v) → HostDoes w (values.hears_value_at (record w.host { reading = false }) o v).part
  value None v e l = Rests (late w.host (record w.host { reading = false }) w.host.stage (itself w.host))
  value (Some d) v e l =
      after_turn (door.puts_turn (record w.host { reading = false }) (door.next_turn d (Some v))) (door.next_turn d (Some v)).step (in_mode d.stage (f.doorbell.stage.machine d e)) l (turns w.host (record w.host { reading = false }) d (Some v) (itself w.host))

  mark : (queue : ℕ) → Linked (resets.hears_mark w.host queue) → HostDoes w (resets.hears_mark w.host queue).part
  mark queue l = by_ready w.host.door_ready refl
    where
      marked : Host
      marked = record w.host { marks = slice_set w.host.marks queue true }

      by_ready : (b : Bool) → w.host.door_ready ≡ b → HostDoes w (resets.hears_mark w.host queue).part
      by_ready true e = over (record w.host { marks = slice_set w.host.marks queue true }) (resets_now e) l (itself w.host)
        where
          and_first : (a b : Bool) → (a && b) ≡ true → a ≡ true
          and_first true b t = refl
          and_first false b t = absurd (cc)

          resets_now : w.host.door_ready ≡ true → is_resetting w.host.mode ≡ true
          resets_now e = and_first _ _ (and_first _ _ (f.clock.value_is_last.ready e).linked)
      by_ready false e = subst (λ b. HostDoes w (if b && resets.has_all_marks (record w.host { marks = slice_set w.host.marks queue true }) then resets.ends_reset (record w.host { marks = slice_set w.host.marks queue true }) else record { part = record w.host { marks = slice_set w.host.marks queue true }; entries = [] }).part) (sym e) (Rests (itself w.host))

  -- an item that is taken and is no reply
  pub takes : (queue : ℕ) (x : Up) (rest : List Up) → up_on w queue ≡ x ∷ rest → IsNoReply x → HostDoes w (hears_up w.host queue x).part
  takes queue (upward.Value v) rest e n = value w.host.machine v refl (λ r. (last w h f plain queue (upward.Value v) rest e r).linked)
  takes queue (upward.Mark g) rest e n = mark queue (λ r. (last w h f plain queue (upward.Mark g) rest e r).linked)
  takes queue upward.Calm rest e n = Rests (itself w.host)
  takes queue (upward.Reply d g page sense) rest e n = absurd n

-- ---- inputs

module _ (w : World) where
  asks_reset : (s : Stage) (d : HostDoor) → is_resetting w.host.mode ≡ false → HostDoes w (resets.with_reset_asked w.host s d)
  asks_reset s d m = by_read w.host.reading
    where
      by_read : (c : Bool) → HostDoes w (if c then resets.gives_up w.host s else door.begins (resets.gives_up w.host s) s d)
      by_read true = GivesUp s m (itself (resets.gives_up w.host s))
      by_read false = GivesUp s m (begins (resets.gives_up w.host s) (resets.gives_up w.host s) s d (itself (resets.gives_up w.host s)))

  starts : (m : HostState) → w.host.mode ≡ m → HostDoes w (inputs.starts_in w.host m).part
  starts state.Off e = Begins e (begins (record w.host { mode = state.Starting }) (record w.host { mode = state.Starting }) stage.Start look_at_doorbell (itself (record w.host { mode = state.Starting })))
  starts state.Starting e = Rests (itself w.host)
  starts state.Up e = Rests (itself w.host)
  starts state.Resetting e = Rests (itself w.host)

  diag : (m : HostState) → w.host.mode ≡ m → HostDoes w (inputs.diag_resets_in w.host m).part
  diag state.Off e = Rests (itself w.host)
  diag state.Starting e = asks_reset stage.DiagnosticReset diagnostic_reset (ap is_resetting e)
  diag state.Up e = asks_reset stage.DiagnosticReset diagnostic_reset (ap is_resetting e)
  diag state.Resetting e = Rests (itself w.host)

  unit : (m : HostState) → w.host.mode ≡ m → HostDoes w (inputs.unit_resets_in w.host m).part
  unit state.Off e = Rests (itself w.host)
  unit state.Starting e = Rests (itself w.host)
  unit state.Up e = asks_reset stage.UnitReset unit_reset (ap is_resetting e)
  unit state.Resetting e = Rests (itself w.host)

  submits : (n address : ℕ) (command : Command) (used up : Bool) (handle : Option ℕ) (fit : Bool) (o : Option ℕ) → finset.contains w.host.accepted n ≡ used → is_up w.host.mode ≡ up → ready_handle w.host.phases address ≡ handle → least_free class.ScsiIo w.host.pool ≡ o
      → HostDoes w (submits_by w.host n address command used up handle fit o).part
  submits n address command true up handle fit o a e g i = Rests (itself w.host)
  submits n address command false false handle fit o a e g i = Rests (itself w.host)
  submits n address command false true None fit o a e g i = Rests (itself w.host)
  submits n address command false true (Some x) false o a e g i = Rests (itself w.host)
  submits n address command false true (Some x) true None a e g i = Rests (itself w.host)
  submits n address command false true (Some x) true (Some s) a e g i = Accepts s n address x command e a g i refl

  aborts : (n : ℕ) (up : Bool) (cmd : Option Cmd) (there o : Option ℕ) → is_up w.host.mode ≡ up → finmap.get w.host.cmds n ≡ cmd → finmap.get w.host.aborts n ≡ there → least_free class.High w.host.pool ≡ o → HostDoes w (aborts_by w.host n up cmd there o).part
  aborts n false cmd there o e a g i = Rests (itself w.host)
  aborts n true None there o e a g i = Rests (itself w.host)
  aborts n true (Some cmd) (Some x) o e a g i = Rests (itself w.host)
  aborts n true (Some cmd) None None e a g i = Rests (itself w.host)
  aborts n true (Some cmd) None (Some s) e a g i = AsksAbort s n cmd e a g i refl

  targets : (address : ℕ) (up : Bool) (handle o : Option ℕ) → is_up w.host.mode ≡ up → ready_handle w.host.phases address ≡ handle → least_free class.High w.host.pool ≡ o → HostDoes w (resets_target_by w.host address up handle o).part
  targets address false handle o e a g = Rests (itself w.host)
  targets address true None o e a g = Rests (itself w.host)
  targets address true (Some x) None e a g = Rests (itself w.host)
  targets address true (Some x) (Some s) e a g = AsksTarget s address x e a g refl

  pub told : (i : Input) → HostDoes w (host_told w.host i).part
  told input.Start = starts w.host.mode refl
  told (input.Submit n address form) = submits n address (command_named form) (finset.contains w.host.accepted n) (is_up w.host.mode) (ready_handle w.host.phases address) (fits (command_named form)) (least_free class.ScsiIo w.host.pool) refl refl refl refl
  told (input.Abort n) = aborts n (is_up w.host.mode) (finmap.get w.host.cmds n) (finmap.get w.host.aborts n) (least_free class.High w.host.pool) refl refl refl refl
  told (input.TargetReset address) = targets address (is_up w.host.mode) (ready_handle w.host.phases address) (least_free class.High w.host.pool) refl refl refl
  told input.Reset = diag w.host.mode refl
  told input.UnitReset = unit w.host.mode refl
  told (input.Plug address expander phy) = Rests (itself w.host)
  told (input.Unplug address) = Rests (itself w.host)

  pub looks : HostDoes w (inputs.looks w.host)
  looks = Rests (begins w.host w.host stage.Look look_at_doorbell (itself w.host))

  pub stops : HostDoes w (inputs.stops w.host)
  stops = Rests (one_item w.host w.host down.Stop refl (itself w.host))
