-- Each case keeps that a start begins with nothing at the host, and that nothing waits there while a reset goes on.
use Rattle.std.proofs.Common.{◌≡◌, ℕ, ◌+◌, ◌==◌, ◌&&◌, ◌||◌, ◌⊎◌, inl, inr, not, if◌then◌else◌, Bool, true, false, List, [], ◌∷◌, ◌++◌, map, slice_set, Option, Some, None, is_none, is_some, refl, ap, sym, ◌∙◌, subst, arith}
use Rattle.std.specs.FinMap as finmap
use Rattle.std.specs.FinSet as finset
use Rattle.smid_pool.specs.Pool.{Slot, Free as FreeSlot, Open, Parked, is_taken, least_free, slot_of}
use Rattle.smid_pool.specs.declared.class.Class.TheVariants as class
use Rattle.removal.specs.Handles.{ready_handle}
use Rattle.mpi_doorbell.specs.HostDoor.{HostDoor}
use Rattle.mpt_messages.specs.declared.host_ask.HostAsk.{HostAsk}
use Rattle.mpt_wire.specs.Machine.Causes.{is_up, is_resetting}
use Rattle.mpt_wire.specs.Messages.Fields.{smid_in, target_reset}
use Rattle.mpt_trace.specs.Command.{command_named}
use Rattle.mpt_trace.specs.declared.host_state.HostState.{HostState}
use Rattle.mpt_trace.specs.declared.host_state.HostState.TheVariants as state
use Rattle.mpt_trace.specs.declared.input.Input.{Input}
use Rattle.mpt_trace.specs.declared.input.Input.TheVariants as input
use Rattle.mpt_trace.specs.declared.item.Down.{Down}
use Rattle.mpt_trace.specs.declared.item.Down.TheVariants as down
use Rattle.mpt_trace.specs.declared.item.Up.{Up}
use Rattle.mpt_trace.specs.declared.item.Up.TheVariants as upward
use Rattle.mpt_rules.specs.declared.request.Request.{Request}
use Rattle.mpt_rules.specs.declared.request.Request.TheVariants as request
use Rattle.mpt_rules.specs.declared.stage.Stage.{Stage}
use Rattle.mpt_rules.specs.declared.stage.Stage.TheVariants as stage
use Rattle.mpt_rules.specs.Host.Doorbell as door
use Rattle.mpt_rules.specs.Host.Doorbell.{next_turn}
use Rattle.mpt_rules.specs.Host.Inputs as inputs
use Rattle.mpt_rules.specs.Host.Parts.{Host}
use Rattle.mpt_rules.specs.Host.Posts as posts
use Rattle.mpt_rules.specs.Host.Removal.{is_absent, quietly}
use Rattle.mpt_rules.specs.Host.Replies as replies
use Rattle.mpt_rules.specs.Host.Resets as resets
use Rattle.mpt_rules.specs.Host.Returns.{after_sent, frame_of, keeps, with_frame_back, with_return}
use Rattle.mpt_rules.specs.Host.Strange.{why_strange}
use Rattle.mpt_rules.specs.Host.Takes.{hears_up, is_starting, looks, stops}
use Rattle.mpt_rules.specs.Outcome.{Happening}
use Rattle.mpt_rules.specs.World.Cases.{Case, happens}
use Rattle.mpt_rules.specs.World.Counts.{how_many, one_if}
use Rattle.mpt_rules.specs.World.Inputs.{host_told}
use Rattle.mpt_rules.specs.World.Lines.{down_line}
use Rattle.mpt_rules.specs.World.PlaceCounts.{is_held_frame}
use Rattle.mpt_rules.specs.World.State.{World, up_on, with_up}
use Rattle.mpt_rules.proofs.Counts.{how_many-append}
use Rattle.law_facts.specs.Clock.{in_begun, is_linked_up}
use Rattle.law_facts.specs.DoorAhead.{FreshStart, IsFresh, IsInMode, StageFits}
use Rattle.law_facts.specs.History.{History}
use Rattle.law_facts.specs.Words.{is_load, others}
use Rattle.law_moves.proofs.Cases.{IsHosts, Owes, kept}
use Rattle.law_moves.proofs.Counted.{how_many-cons}
use Rattle.law_moves.proofs.HostGoes as goes
use Rattle.law_moves.proofs.HostGoes.{AValue, heard_of, is_value}
use Rattle.law_moves.proofs.HostSpeaks.{ComesUp, Rises, Stays}
use Rattle.law_moves.proofs.Phases.{and_false}
use Rattle.law_clock.specs.Premises.{Before}
use Rattle.law_clock.proofs.PhaseKept as phase
use Rattle.law_doors.proofs.StageKept.{Begun}
use Rattle.law_doors.proofs.StageWorld.{stage_kept}
use Rattle.law_doors.proofs.Turning.{Kind}
use Rattle.law_starts.proofs.HostAtDoor as at
use Rattle.law_starts.proofs.HostAtDoor.{Asked, AtDoor, Beginning, Begins, Drops, FactsNext, Free, FromOff, GivesUp, InitNext, Keeps, KeepsDoor, Late, Looked, Marked, Next, NextShake, Opened, PortFactsNext, Readied, Renewed, Turns, base_begun, begins_is, contrary}
use Rattle.law_starts.proofs.Resetting.{over_linked}
use Rattle.law_fresh.specs.Bare.{StartsBare}
use Rattle.law_fresh.proofs.Hosts.{keeps_host, not_starting, resetting_starts, up_starts}

-- ---- what the host has

record FreshHost (x : Host) : Type 0 where
  pool : how_many is_taken x.pool ≡ 0
  frames : others is_held_frame x.frames ≡ 0
  phases : others is_absent x.phases ≡ 0
  wait_high : x.wait_high ≡ []
  wait_internal : x.wait_internal ≡ []

fresh_of : (v : World) → FreshHost v.host → IsFresh v
fresh_of v p = record { pool = p.pool; frames = p.frames; phases = p.phases; wait_high = p.wait_high; wait_internal = p.wait_internal }

host_of : (v : World) → IsFresh v → FreshHost v.host
host_of v p = record { pool = p.pool; frames = p.frames; phases = p.phases; wait_high = p.wait_high; wait_internal = p.wait_internal }

-- nothing waits
record NoWaits (x : Host) : Type 0 where
  high : x.wait_high ≡ []
  internal : x.wait_internal ≡ []

renewed_fresh : (y : Host) → NoWaits y → FreshHost (resets.renewed y)
unfolding how_many others
renewed_fresh y p = record { pool = refl; frames = refl; phases = refl; wait_high = p.high; wait_internal = p.internal }

resetting_not : {T : Type 0} (m c : HostState) → is_resetting m ≡ true → m ≡ c → is_resetting c ≡ false → T
resetting_not m c e f n = contrary (is_resetting c) n (ap is_resetting (sym f) ∙ e)

resetting_up : (m : HostState) → is_resetting m ≡ true → is_up m ≡ false
resetting_up state.Resetting e = refl
resetting_up state.Off e = absurd (cc)
resetting_up state.Starting e = absurd (cc)
resetting_up state.Up e = absurd (cc)

shake_mode : (w : World) {p z : Stage} {a : HostAsk} → NextShake w p z a → IsInMode w p → w.host.mode ≡ state.Starting
shake_mode w FactsNext i = i
shake_mode w PortFactsNext i = i
shake_mode w InitNext i = i

-- a machine that begins leaves what waits and what is open
begun_is : (base : Host) (z : Stage) (d : HostDoor) (kd : Kind) (g : Begun d kd) → door.begins base z d ≡ door.puts_read (door.puts_writes (record base { stage = z }) (next_turn d None).writes) (next_turn d None).door g.reg
begun_is base z d kd g = begins_is base z d kd g

begun_fresh : (x base : Host) (z : Stage) (d : HostDoor) (kd : Kind) (g : Begun d kd) → x ≡ door.begins base z d → FreshHost base → FreshHost x
begun_fresh x base z d kd g f p = subst FreshHost (sym (f ∙ begun_is base z d kd g)) (record { pool = p.pool; frames = p.frames; phases = p.phases; wait_high = p.wait_high; wait_internal = p.wait_internal })

begun_waits : (x base : Host) (z : Stage) (d : HostDoor) (kd : Kind) (g : Begun d kd) → x ≡ door.begins base z d → NoWaits base → NoWaits x
begun_waits x base z d kd g f p = subst NoWaits (sym (f ∙ begun_is base z d kd g)) (record { high = p.high; internal = p.internal })

begun_mode : (x base : Host) (z : Stage) (d : HostDoor) (kd : Kind) (g : Begun d kd) → x ≡ door.begins base z d → x.mode ≡ base.mode
begun_mode x base z d kd g f = ap (λ (y : Host). y.mode) (f ∙ begun_is base z d kd g)

-- ---- a reply while a reset goes on

module _ (s : ℕ) where
  frees_waits : (y : Host) → NoWaits y → NoWaits (posts.frees y s)
  frees_waits y p = record { high = p.high; internal = p.internal }

  high_waits : (y : Host) → NoWaits y → NoWaits (posts.frees_high y s)
  high_waits y p = subst NoWaits (sym (ap (posts.gives_high (posts.frees y s) s) p.high)) (frees_waits y p)

  unparked : (y : Host) (task : ℕ) (r : Slot Request) → NoWaits y → NoWaits (replies.unparks y task r)
  unparked y task FreeSlot p = p
  unparked y task Parked p = record { high = p.high; internal = p.internal }
  unparked y task (Open r) p = p

  unless : (y : Host) (o : Happening Host) → is_resetting y.mode ≡ true → NoWaits y → NoWaits (replies.unless_resetting y s o).part
  unless y o m p = subst (λ (c : Bool). NoWaits (if c then quietly (posts.frees y s) else o).part) (sym m) (frees_waits y p)

  answered_waits : (y : Host) (r : Request) (a : replies.Heard) → is_resetting y.mode ≡ true → NoWaits y → NoWaits (replies.hears_answer y s r a).part
  answered_waits y (request.Command n) a m p = record { high = p.high; internal = p.internal }
  answered_waits y (request.Abort n task) a m p = high_waits (replies.closes_abort y n task) (unparked (record y { aborts = finmap.remove y.aborts n }) task (slot_of y.pool task) (record { high = p.high; internal = p.internal }))
  answered_waits y (request.TargetReset address) a m p = high_waits y p
  answered_waits y (request.Leave handle) a m p = unless y _ m p
  answered_waits y (request.Page handle) a m p = unless y _ m p
  answered_waits y (request.Remove handle) a m p = unless y _ m p
  answered_waits y (request.Ack event context) a m p = unless y _ m p
  answered_waits y request.Notification a m p = unless y _ m p
  answered_waits y request.PortEnable a m p = unless y _ m p

  heard_waits : (y : Host) (o : Option Request) (a : replies.Heard) → is_resetting y.mode ≡ true → NoWaits y → NoWaits (replies.hears_reply_to y s o a).part
  heard_waits y (Some r) a m p = answered_waits y r a m p
  heard_waits y None a m p = subst (λ (c : Bool). NoWaits (if c then quietly y else Rattle.mpt_rules.specs.Host.Removal.hears_event y (replies.reply_bytes a)).part) (sym m) p

record Calms (x : Host) : Type 0 where
  mode : is_resetting x.mode ≡ true
  waits : NoWaits x

framed : (y : Host) (d : ℕ) (f : Option (List ℕ)) → Calms y → Calms (replies.with_frame_heard y d f)
framed y d None p = p
framed y d (Some frame) p = by_returning y.returning
  where
    by_returning : (c : Bool) → Calms (if c then with_return y (frame_of (Rattle.mpt_wire.specs.Messages.Fields.frame_address_in d)) else keeps y (frame_of (Rattle.mpt_wire.specs.Messages.Fields.frame_address_in d)))
    by_returning true = record { mode = p.mode; waits = record { high = p.waits.high; internal = p.waits.internal } }
    by_returning false = record { mode = p.mode; waits = record { high = p.waits.high; internal = p.waits.internal } }

replied_waits : (y : Host) (queue d : ℕ) (f : Option (List ℕ)) (page sense : List ℕ) → Calms y → NoWaits (hears_up y queue (upward.Reply d f page sense)).part
replied_waits y queue d f page sense p =
    let g = framed y d f p in
    heard_waits (smid_in d) (replies.takes_entry (replies.with_frame_heard y d f) queue) (replies.request_of y (smid_in d)) (replies.heard_of d f page sense) g.mode (record { high = g.waits.high; internal = g.waits.internal })

-- ---- inputs while a reset goes on

module _ (x : Host) (r : is_resetting x.mode ≡ true) where
  not_up : is_up x.mode ≡ false
  not_up = resetting_up x.mode r

  refused_submit : (n address : ℕ) (c : Rattle.scsi_disk.specs.declared.command.Command.Command) → (inputs.host_submits x n address c).part ≡ x
  refused_submit n address c = by_tests (finset.contains x.accepted n) (is_up x.mode) not_up
    where
      by_tests : (a u : Bool) → u ≡ false
          → (inputs.granted_unless
          (if a then Some Rattle.mpt_trace.specs.declared.refusal.Refusal.TheVariants.NumberUsed else if not u then Some Rattle.mpt_trace.specs.declared.refusal.Refusal.TheVariants.NotOperational else
          if is_none (ready_handle x.phases address) then Some Rattle.mpt_trace.specs.declared.refusal.Refusal.TheVariants.NoDevice
          else if not (Rattle.scsi_disk.specs.Command.fits c) then Some Rattle.mpt_trace.specs.declared.refusal.Refusal.TheVariants.BadLength
          else if is_none (least_free class.ScsiIo x.pool) then Some Rattle.mpt_trace.specs.declared.refusal.Refusal.TheVariants.NoIdentifier else None)
          x (inputs.given (inputs.with_accepted x n address c (inputs.ready_handle_at x address) (inputs.next_smid x class.ScsiIo)) (Rattle.mpt_trace.specs.declared.entry.Entry.TheVariants.Accept n address (inputs.next_smid x class.ScsiIo) ∷ []) (inputs.next_smid x class.ScsiIo))).part ≡ x
      by_tests true u e = refl
      by_tests false true e = absurd (cc)
      by_tests false false e = refl

  refused_abort : (n : ℕ) → (inputs.host_aborts x n).part ≡ x
  refused_abort n = by_test (is_up x.mode) not_up
    where
      by_test : (u : Bool) → u ≡ false
          → (inputs.granted_unless
          (if not u then Some Rattle.mpt_trace.specs.declared.refusal.Refusal.TheVariants.NotOperational
          else if is_none (finmap.get x.cmds n) then Some Rattle.mpt_trace.specs.declared.refusal.Refusal.TheVariants.NotOpen
          else if is_some (finmap.get x.aborts n) then Some Rattle.mpt_trace.specs.declared.refusal.Refusal.TheVariants.AbortOpen
          else if is_none (least_free class.High x.pool) then Some Rattle.mpt_trace.specs.declared.refusal.Refusal.TheVariants.NoIdentifier else None)
          x (inputs.given (inputs.with_abort_asked x n (inputs.cmd_of x n) (inputs.next_smid x class.High)) [] (inputs.next_smid x class.High))).part ≡ x
      by_test true e = absurd (cc)
      by_test false e = refl

  refused_target : (address : ℕ) → (inputs.host_resets_target x address).part ≡ x
  refused_target address = by_test (is_up x.mode) not_up
    where
      by_test : (u : Bool) → u ≡ false
          → (inputs.granted_unless
          (if not u then Some Rattle.mpt_trace.specs.declared.refusal.Refusal.TheVariants.NotOperational
          else if is_none (ready_handle x.phases address) then Some Rattle.mpt_trace.specs.declared.refusal.Refusal.TheVariants.NoDevice
          else if is_none (least_free class.High x.pool) then Some Rattle.mpt_trace.specs.declared.refusal.Refusal.TheVariants.NoIdentifier else None)
          x (inputs.given (posts.posts_task x (inputs.next_smid x class.High) (request.TargetReset address) (inputs.ready_handle_at x address) target_reset 0) [] (inputs.next_smid x class.High))).part ≡ x
      by_test true e = absurd (cc)
      by_test false e = refl

  starts_refused : (m : HostState) → x.mode ≡ m → (inputs.starts_in x m).part ≡ x
  starts_refused state.Off e = resetting_not x.mode state.Off r e refl
  starts_refused state.Starting e = refl
  starts_refused state.Up e = refl
  starts_refused state.Resetting e = refl

  diag_refused : (m : HostState) → x.mode ≡ m → (inputs.diag_resets_in x m).part ≡ x
  diag_refused state.Off e = refl
  diag_refused state.Starting e = resetting_not x.mode state.Starting r e refl
  diag_refused state.Up e = resetting_not x.mode state.Up r e refl
  diag_refused state.Resetting e = refl

  unit_refused : (m : HostState) → x.mode ≡ m → (inputs.unit_resets_in x m).part ≡ x
  unit_refused state.Off e = refl
  unit_refused state.Starting e = refl
  unit_refused state.Up e = resetting_not x.mode state.Up r e refl
  unit_refused state.Resetting e = refl

  refused : (i : Input) → IsHosts i → (host_told x i).part ≡ x
  refused input.Start t = starts_refused x.mode refl
  refused (input.Submit n address form) t = refused_submit n address (command_named form)
  refused (input.Abort n) t = refused_abort n
  refused (input.TargetReset address) t = refused_target address
  refused input.Reset t = diag_refused x.mode refl
  refused input.UnitReset t = unit_refused x.mode refl
  refused (input.Plug address expander phy) t = refl
  refused (input.Unplug address) t = refl

-- ---- all calls

module _ (w : World) (h : History) (b : Before w h) (n : StartsBare w) where
  fs : FreshStart w
  fs = b.facts.doorbell.fresh_start

  resets_none : is_resetting w.host.mode ≡ true → NoWaits w.host
  resets_none m = let g = fs.given_up m in record { high = g.0; internal = g.1 }

  linked_resets : is_linked_up w ≡ true → is_resetting w.host.mode ≡ true
  linked_resets e = (and_false _ _ (and_false (in_begun w) _ e).0).0

  no_machine : {T : Type 0} (x : Host) → x.machine ≡ None → is_some x.machine ≡ true → T
  no_machine x e m = contrary (is_some x.machine) (ap is_some e) m

  -- ---- a start

  started : (x : Host) → FreshHost w.host → x.pool ≡ w.host.pool → x.frames ≡ w.host.frames → x.phases ≡ w.host.phases → x.wait_high ≡ w.host.wait_high → x.wait_internal ≡ w.host.wait_internal → FreshHost x
  started x p a c d e f = record { pool = ap (how_many is_taken) a ∙ p.pool; frames = ap (others is_held_frame) c ∙ p.frames; phases = ap (others is_absent) d ∙ p.phases; wait_high = e ∙ p.wait_high; wait_internal = f ∙ p.wait_internal }

  begun : (x base : Host) (z : Stage) (d : HostDoor) (t : Bool) → Beginning w base z d t → x ≡ door.begins base z d → is_starting x.mode ≡ true → FreshHost x
  begun x base z d t q f s = let g = base_begun q in begun_fresh x base z d g.0 g.1 f (by_base q (begun_mode x base z d g.0 g.1 f))
    where
      by_base : {base : Host} {z : Stage} {d : HostDoor} {t : Bool} → Beginning w base z d t → x.mode ≡ base.mode → FreshHost base
      by_base (FromOff m) e = let p = fs.off m in record { pool = p.pool; frames = p.frames; phases = p.phases; wait_high = p.wait_high; wait_internal = p.wait_internal }
      by_base (Free m r) e = not_starting x.mode state.Up s (e ∙ m) refl
      by_base (Asked z d y m r) e = not_starting x.mode state.Resetting s e refl
      by_base (Late z d y g o a v rest u r) e = contrary (is_starting x.mode) (ap is_starting e ∙ resetting_starts w.host.mode (and_false _ _ (and_false _ _ a).0).0) s
      by_base (Marked queue m r) e = let p = resets_none m in renewed_fresh (record w.host { marks = slice_set w.host.marks queue true }) (record { high = p.high; internal = p.internal })
      by_base (Renewed d y v hv o r) e = let p = resets_none (linked_resets (over_linked w h b d y v hv o r)) in renewed_fresh (record (at.over w d v) { door_ready = true }) (record { high = p.high; internal = p.internal })
      by_base (Next d y v hv o z a q2) e =
          let p = fs.fresh (ap is_starting (shake_mode w q2 hv.in_mode)) (ap is_some hv.machine_is) in
          record { pool = p.pool; frames = p.frames; phases = p.phases; wait_high = p.wait_high; wait_internal = p.wait_internal }

  host : (x : Host) (t : Bool) → AtDoor w x t → (t ≡ false → KeepsDoor w x → is_starting x.mode ≡ true → is_some x.machine ≡ true → x ≡ w.host) → is_starting x.mode ≡ true → is_some x.machine ≡ true → FreshHost x
  host x t (Keeps q) same s m =
      let e = same refl q s m in
      subst FreshHost (sym e) (host_of w (fs.fresh (ap is_starting (sym (ap (λ (y : Host). y.mode) e)) ∙ s) (ap is_some (sym (ap (λ (y : Host). y.machine) e)) ∙ m)))
  host x t (GivesUp z rs r g f) same s m = not_starting x.mode state.Resetting s (ap (λ (y : Host). y.mode) f) refl
  host x t (Drops u c v rest g r f) same s m = no_machine x (ap (λ (y : Host). y.machine) f ∙ u) m
  host x t (Begins base z d t2 q f) same s m = begun x base z d t2 q f s
  host x t (Turns d y v hv reg e f) same s m =
      let g : x ≡ door.puts_read (door.puts_writes (record w.host { reading = false }) (next_turn d (Some v)).writes) (next_turn d (Some v)).door reg =
      f ∙ ap (door.puts_step (door.puts_writes (record w.host { reading = false }) (next_turn d (Some v)).writes) (next_turn d (Some v)).door) e in
      let p = fs.fresh (ap is_starting (sym (ap (λ (z : Host). z.mode) g)) ∙ s) (ap is_some hv.machine_is) in
      started x (host_of w p) (ap (λ (z : Host). z.pool) g) (ap (λ (z : Host). z.frames) g) (ap (λ (z : Host). z.phases) g) (ap (λ (z : Host). z.wait_high) g) (ap (λ (z : Host). z.wait_internal) g)
  host x t (Looked d y v hv o e f) same s m = no_machine x (ap (λ (q : Host). q.machine) f) m
  host x t (Readied d y v hv o e f) same s m = no_machine x (ap (λ (q : Host). q.machine) f) m
  host x t (Opened d y v hv o e q) same s m = no_machine x q.machine_is m

  -- ---- a reset

  gives : (x base : Host) (z : Stage) (d : HostDoor) (t : Bool) → Beginning w base z d t → x ≡ door.begins base z d → is_resetting x.mode ≡ true → NoWaits x
  gives x base z d t q f s = let g = base_begun q in begun_waits x base z d g.0 g.1 f (by_base q (begun_mode x base z d g.0 g.1 f))
    where
      by_base : {base : Host} {z : Stage} {d : HostDoor} {t : Bool} → Beginning w base z d t → x.mode ≡ base.mode → NoWaits base
      by_base (FromOff m) e = resetting_not x.mode state.Starting s e refl
      by_base (Free m r) e = resetting_not x.mode state.Up s (e ∙ m) refl
      by_base (Asked z d y m r) e = record { high = refl; internal = refl }
      by_base (Late z d y g o a v rest u r) e = let p = resets_none (and_false _ _ (and_false _ _ a).0).0 in record { high = p.high; internal = p.internal }
      by_base (Marked queue m r) e = resetting_not x.mode state.Starting s e refl
      by_base (Renewed d y v hv o r) e = resetting_not x.mode state.Starting s e refl
      by_base (Next d y v hv o z a q2) e = resetting_not x.mode state.Starting s (e ∙ shake_mode w q2 hv.in_mode) refl

  host_gives : (x : Host) (t : Bool) → AtDoor w x t → (t ≡ false → is_resetting w.host.mode ≡ true → NoWaits x) → is_resetting x.mode ≡ true → NoWaits x
  host_gives x t (Keeps q) same s = by_mode q.mode_is
    where
      by_mode : (x.mode ≡ w.host.mode) ⊎ ((is_resetting w.host.mode ≡ false) × (w.host.machine ≡ None) × (x.mode ≡ state.Up)) → NoWaits x
      by_mode (inl e) = same refl (ap is_resetting (sym e) ∙ s)
      by_mode (inr e) = resetting_not x.mode state.Up s e.2 refl
  host_gives x t (GivesUp z rs r g f) same s = record { high = ap (λ (y : Host). y.wait_high) f; internal = ap (λ (y : Host). y.wait_internal) f }
  host_gives x t (Drops u c v rest g r f) same s =
      let p = resets_none (ap is_resetting (sym (ap (λ (y : Host). y.mode) f)) ∙ s) in record { high = ap (λ (y : Host). y.wait_high) f ∙ p.high; internal = ap (λ (y : Host). y.wait_internal) f ∙ p.internal }
  host_gives x t (Begins base z d t2 q f) same s = gives x base z d t2 q f s
  host_gives x t (Turns d y v hv reg e f) same s =
      let g : x ≡ door.puts_read (door.puts_writes (record w.host { reading = false }) (next_turn d (Some v)).writes) (next_turn d (Some v)).door reg =
      f ∙ ap (door.puts_step (door.puts_writes (record w.host { reading = false }) (next_turn d (Some v)).writes) (next_turn d (Some v)).door) e in
      let p = resets_none (ap is_resetting (sym (ap (λ (z : Host). z.mode) g)) ∙ s) in
      record { high = ap (λ (z : Host). z.wait_high) g ∙ p.high; internal = ap (λ (z : Host). z.wait_internal) g ∙ p.internal }
  host_gives x t (Looked d y v hv o e f) same s =
      let p = resets_none (ap is_resetting (sym (ap (λ (z : Host). z.mode) f)) ∙ s) in record { high = ap (λ (z : Host). z.wait_high) f ∙ p.high; internal = ap (λ (z : Host). z.wait_internal) f ∙ p.internal }
  host_gives x t (Readied d y v hv o e f) same s =
      let p = resets_none (ap is_resetting (sym (ap (λ (z : Host). z.mode) f)) ∙ s) in record { high = ap (λ (z : Host). z.wait_high) f ∙ p.high; internal = ap (λ (z : Host). z.wait_internal) f ∙ p.internal }
  host_gives x t (Opened d y v hv o e q) same s = by_rise q.rises
    where
      at_init : (z : Stage) → z ≡ stage.Init → IsInMode w z → w.host.mode ≡ state.Starting
      at_init z f i = subst (IsInMode w) f i

      by_rise : {c : Bool} → Rises c w.host.mode x.mode → NoWaits x
      by_rise (Stays f) = resetting_not x.mode state.Starting s (f ∙ at_init w.host.stage e hv.in_mode) refl
      by_rise (ComesUp u r f) = resetting_not x.mode state.Up s f refl

  -- ---- all cases

  record FreshIn (x : Host) : Type 0 where
    fresh : is_starting x.mode ≡ true → is_some x.machine ≡ true → FreshHost x
    given_up : is_resetting x.mode ≡ true → NoWaits x

  still : FreshIn w.host
  still = record { fresh = λ s m. host_of w (fs.fresh s m); given_up = resets_none }

  by_call : (x : Host) (t : Bool) → AtDoor w x t → (t ≡ false → KeepsDoor w x → is_starting x.mode ≡ true → is_some x.machine ≡ true → x ≡ w.host) → (t ≡ false → is_resetting w.host.mode ≡ true → NoWaits x) → FreshIn x
  by_call x t g same none = record { fresh = host x t g same; given_up = host_gives x t g none }

  -- an item that is taken while a reset goes on
  took_waits : (queue : ℕ) (x : Up) → is_value (heard_of queue x) ≡ false → is_resetting w.host.mode ≡ true → NoWaits (hears_up w.host queue x).part
  took_waits queue (upward.Value v) c m = absurd (cc)
  took_waits queue (upward.Reply d f page sense) c m = replied_waits w.host queue d f page sense (record { mode = m; waits = resets_none m })
  took_waits queue (upward.Mark generation) c m = by_over (w.host.door_ready && resets.has_all_marks (record w.host { marks = slice_set w.host.marks queue true }))
    where
      y : Host
      y = record w.host { marks = slice_set w.host.marks queue true }

      p : NoWaits w.host
      p = resets_none m

      by_over : (c : Bool) → NoWaits (if c then resets.ends_reset y else record { part = y; entries = [] }).part
      by_over true =
          let g = Rattle.law_doors.proofs.StageKept.begun_talk Rattle.mpt_messages.specs.declared.host_ask.HostAsk.TheVariants.Facts in
          begun_waits (resets.ends_reset y).part (resets.renewed y) stage.Facts (Rattle.law_starts.proofs.HostAtDoor.asks_with Rattle.mpt_messages.specs.declared.host_ask.HostAsk.TheVariants.Facts) _ g refl (record { high = p.high; internal = p.internal })
      by_over false = record { high = p.high; internal = p.internal }
  took_waits queue upward.Calm c m = resets_none m

  took : (queue : ℕ) (x : Up) (rest : List Up) → up_on w queue ≡ x ∷ rest → why_strange w.host queue x ≡ None → StageFits (record (with_up w queue rest) { host = (hears_up w.host queue x).part }) → FreshIn (hears_up w.host queue x).part
  took queue x rest e why st =
      by_call (hears_up w.host queue x).part (is_value (heard_of queue x)) (at.took w h b queue x rest e why)
      (λ c q s m. keeps_host w n (hears_up w.host queue x).part q (phase.takes_item w h b queue x rest e why st) (λ a. contrary (is_value (heard_of queue x)) c (ap is_value a)) s m) (took_waits queue x)

  told : (i : Input) → IsHosts i → FreshIn (host_told w.host i).part
  told i t =
      by_call (host_told w.host i).part false (at.told w h b i t) (λ c q s m. keeps_host w n (host_told w.host i).part q (goes.told w i t) (λ a. absurd (never a)) s m)
      (λ c m. subst NoWaits (sym (refused w.host m i t)) (resets_none m))
    where
      never : goes.NoNews ≡ AValue → ⊥
      never a = cc

  free_up : Rattle.mpt_rules.specs.World.Cases.is_free w.host ≡ true → is_resetting w.host.mode ≡ false
  free_up e = by_mode w.host.mode (and_false _ _ e).0
    where
      by_mode : (m : HostState) → is_up m ≡ true → is_resetting m ≡ false
      by_mode state.Up e = refl
      by_mode state.Off e = absurd (cc)
      by_mode state.Starting e = absurd (cc)
      by_mode state.Resetting e = absurd (cc)

  looked : Rattle.mpt_rules.specs.World.Cases.is_free w.host ≡ true → FreshIn (looks w.host)
  looked e =
      by_call (looks w.host) false (at.looked w h b e) (λ c q s m. keeps_host w n (looks w.host) q (goes.looks_on w e) (λ a. absurd (never a)) s m) (λ c m. contrary (is_resetting w.host.mode) (free_up e) m)
    where
      never : goes.NoNews ≡ AValue → ⊥
      never a = cc

  stopped : Rattle.mpt_rules.specs.World.Cases.is_free w.host ≡ true → FreshIn (stops w.host)
  stopped e = by_call (stops w.host) false (at.stopped w h b) (λ c q s m. keeps_host w n (stops w.host) q (goes.stops_now w e) (λ a. absurd (never a)) s m) (λ c m. contrary (is_resetting w.host.mode) (free_up e) m)
    where
      never : goes.NoNews ≡ AValue → ⊥
      never a = cc

  -- what is put leaves the host as it is
  sent : (x : Host) → x.mode ≡ w.host.mode → x.machine ≡ w.host.machine → x.pool ≡ w.host.pool → x.frames ≡ w.host.frames → x.phases ≡ w.host.phases → x.wait_high ≡ w.host.wait_high → x.wait_internal ≡ w.host.wait_internal → FreshIn x
  sent x a c d f g i j =
      record {
        fresh = λ s m. started x (host_of w (fs.fresh (ap is_starting (sym a) ∙ s) (ap is_some (sym c) ∙ m))) d f g i j;
        given_up = λ m. let p = resets_none (ap is_resetting (sym a) ∙ m) in record { high = i ∙ p.high; internal = j ∙ p.internal };
      }

  -- a return that is put would be a load
  put : (x : Down) (rest : List Down) → w.host.out ≡ x ∷ rest → FreshIn (after_sent w.host x rest)
  put (down.Return address index) rest e =
      record {
        fresh = λ s m. absurd (loaded (n s m).loads);
        given_up = λ m. let p = resets_none m in record { high = p.high; internal = p.internal };
      }
    where
      loaded : how_many is_load (down_line w) ≡ 0 → ⊥
      loaded z =
          let a = how_many-append is_load w.down w.host.out in let c = ap (how_many is_load) e in let d = how_many-cons is_load (down.Return address index) rest in omega (arith, z, a, c, d)
  put (down.Write reg value) rest e = sent (after_sent w.host (down.Write reg value) rest) refl refl refl refl refl refl refl
  put (down.Read reg) rest e = sent (after_sent w.host (down.Read reg) rest) refl refl refl refl refl refl refl
  put (down.Post d g q) rest e = sent (after_sent w.host (down.Post d g q) rest) refl refl refl refl refl refl refl
  put down.Stop rest e = sent (after_sent w.host down.Stop rest) refl refl refl refl refl refl refl

  abbrev Kept : World → Type 0
  Kept v = StageFits v → FreshIn v.host

  owes : Owes Kept w
  owes =
      record {
        host_puts = λ x rest e v. put x rest e;
        host_takes = λ queue x rest e y v. took queue x rest e y v;
        host_told = λ i t v. told i t;
        host_looks = λ e v. looked e;
        host_stops = λ e v. stopped e;
        ioc_takes = λ x rest e v. still;
        ioc_high = λ p rest e v. still;
        ioc_normal = λ p rest e v. still;
        ioc_puts_out = λ x rest e v. still;
        ioc_takes_back = λ x rest e v. still;
        ioc_puts = λ queue y rest z e g v. still;
        fabric_takes = λ x rest e v. still;
        fabric_says = λ x rest e v. still;
        fabric_puts = λ x rest e v. still;
        fabric_runs = λ tag address e v. still;
        plugs = λ address expander phy v. still;
        unplugs = λ address v. still;
        calms = λ v. still;
      }

  after : (c : Case) → FreshIn (happens w c).host
  after c = kept Kept w b.plain owes (λ v. still) c (stage_kept w h b c)

  pub fresh_kept : (c : Case) → is_starting (happens w c).host.mode ≡ true → is_some (happens w c).host.machine ≡ true → IsFresh (happens w c)
  fresh_kept c s m = fresh_of (happens w c) ((after c).fresh s m)

  pub given_kept : (c : Case) → is_resetting (happens w c).host.mode ≡ true → ((happens w c).host.wait_high ≡ []) × ((happens w c).host.wait_internal ≡ [])
  given_kept c m = let p = (after c).given_up m in (p.high, p.internal)
