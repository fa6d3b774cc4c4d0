-- Each case keeps what the rule of least posts has of task management.
use Rattle.std.proofs.Common.{◌≡◌, ℕ, ◌-◌, ◌≤◌, ◌==◌, not, if◌then◌else◌, Bool, true, false, List, [], ◌∷◌, ◌++◌, drop, filter, filter_map, Option, Some, None, refl, ap, sym, ◌∙◌, subst, arith, mod-lt}
use Rattle.std.specs.FinMap as finmap
use Rattle.std.specs.FinSet as finset
use Rattle.std.specs.List.{cons_option}
use Rattle.std.proofs.lemmas.Bool.Decides.{nat_tests}
use Rattle.event_msgs.specs.EventReply.{event_reply_layout, event_reply_values}
use Rattle.event_msgs.specs.Topology.{topology_layout, topology_values}
use Rattle.event_msgs.specs.TopologyEntry.{topology_entry_layout, topology_entry_values}
use Rattle.mpi_layout.specs.Rows.{field}
use Rattle.scsi_disk.specs.declared.command.Command.{Command}
use Rattle.scsi_disk.specs.Command.{fits as fits_command}
use Rattle.smid_pool.specs.Pool.{Open, least_free}
use Rattle.smid_pool.specs.declared.class.Class.TheVariants as class
use Rattle.removal.specs.Handles.{IsHandle, phase_at, ready_handle, with_phase}
use Rattle.removal.specs.Phases.{after_added, after_gone}
use Rattle.removal.specs.declared.phase.Phase.{Phase}
use Rattle.removal.specs.declared.phase.Phase.TheVariants as phase
use Rattle.mpi_doorbell.specs.HostDoor.{HostDoor}
use Rattle.mpi_doorbell.specs.HostSteps.{diagnostic_reset, look_at_doorbell, unit_reset}
use Rattle.mpi_doorbell.specs.declared.effect.Effect.{Effect}
use Rattle.mpi_doorbell.specs.declared.effect.Effect.TheVariants as effect
use Rattle.mpi_doorbell.specs.DoorRegisters.{register_written}
use Rattle.mpi_rings.specs.declared.request_descriptor.PostKind.{PostKind}
use Rattle.mpi_rings.specs.declared.request_descriptor.PostKind.TheVariants as post
use Rattle.mpt_messages.specs.IocFrames.{reply_frame}
use Rattle.mpt_messages.specs.declared.ioc_reply.IocReply.TheVariants as reply
use Rattle.mpt_trace.specs.Command.{command_named}
use Rattle.mpt_trace.specs.declared.entry.Entry.{Entry}
use Rattle.mpt_trace.specs.declared.entry.Entry.TheVariants as entry
use Rattle.mpt_trace.specs.declared.host_state.HostState.{HostState}
use Rattle.mpt_trace.specs.declared.host_state.HostState.TheVariants as state
use Rattle.mpt_trace.specs.declared.input.Input.{Input}
use Rattle.mpt_trace.specs.declared.input.Input.TheVariants as input
use Rattle.mpt_trace.specs.declared.item.Down.{Down}
use Rattle.mpt_trace.specs.declared.item.Down.TheVariants as down
use Rattle.mpt_trace.specs.declared.item.Item.TheVariants as item
use Rattle.mpt_trace.specs.declared.lane.LaneName.TheVariants as lane
use Rattle.mpt_trace.specs.declared.refusal.Refusal.{Refusal}
use Rattle.mpt_trace.specs.declared.refusal.Refusal.TheVariants as refusal
use Rattle.mpt_trace.specs.declared.refusal.RefusedCall.TheVariants as call
use Rattle.mpt_wire.specs.Machine.Causes.{is_up}
use Rattle.mpt_wire.specs.Messages.Fields.{Change, changes_in, kind_in, smid_in}
use Rattle.mpt_wire.specs.Queues.LeastPosts.{APage, Another, ClassHeld, Giving, after_changes, after_post_put, caused, change_heard, departs, event_heard, freed, freed_by, giving_next, heard, is_notification, is_of_kind, least_of, makes, makes_internal, reply_heard, without_posts}
use Rattle.mpt_wire.specs.Queues.LeastPosts as rule
use Rattle.mpt_wire.specs.Walks.Ahead.{next_own, state_ahead}
use Rattle.mpt_wire.specs.Walks.Passes.{EachEntry}
use Rattle.mpt_rules.proofs.HostCalls.{aborts_by, resets_target_by, submits_by}
use Rattle.mpt_rules.specs.declared.request.Request.TheVariants as request
use Rattle.mpt_rules.specs.declared.stage.Stage.{Stage}
use Rattle.mpt_rules.specs.declared.stage.Stage.TheVariants as stage
use Rattle.mpt_rules.specs.Host.Doorbell as door
use Rattle.mpt_rules.specs.Host.Inputs as inputs
use Rattle.mpt_rules.specs.Host.Parts.{Cmd, Host, host_queue_count}
use Rattle.mpt_rules.specs.Host.Posts as asks
use Rattle.mpt_rules.specs.Host.Removal as removal
use Rattle.mpt_rules.specs.Host.Replies.{Heard}
use Rattle.mpt_rules.specs.Host.Replies as replies
use Rattle.mpt_rules.specs.Host.Resets as resets
use Rattle.mpt_rules.specs.Host.Resets.{is_no_post}
use Rattle.mpt_rules.specs.Host.Returns as returns
use Rattle.mpt_rules.specs.Host.Returns.{after_sent}
use Rattle.mpt_rules.specs.Ioc.Parts.{Ioc}
use Rattle.mpt_rules.specs.Ioc.Registers.{after_effect}
use Rattle.mpt_rules.specs.Ioc.Takes as adapter
use Rattle.mpt_rules.specs.Outcome.{Happening}
use Rattle.mpt_rules.specs.World.Counts.{how_many}
use Rattle.mpt_rules.specs.World.Inputs.{by_option, by_result, host_told}
use Rattle.law_facts.specs.Handles.{is_announced}
use Rattle.law_facts.specs.Messages.{event_like}
use Rattle.law_facts.specs.Ties.{made_as, made_by}
use Rattle.law_facts.specs.Words.{is_post}
use Rattle.law_flights.proofs.Least.{least_is}
use Rattle.law_moves.proofs.CasesTold.{IsPlugWord}
use Rattle.law_moves.proofs.Counted.{how_many-cons}
use Rattle.law_moves.proofs.IocWords.{IsIocWord}
use Rattle.law_given.proofs.HighFits.{Fits, HighFits, asked, asks_leave, below, command_is_none, silent}
use Rattle.law_given.proofs.HighMoves.{asks_internal, begun}

-- ---- what the rule makes of a reply

pub high_of_reply : (g : Giving) (s : ℕ) (frame : Option (List ℕ)) (ahead : Option Entry) → (s == 0) ≡ false → (heard s frame ahead g).high ≡ freed_by post.HighPriority s g.high
high_of_reply g s frame ahead e = by_resetting g.so_far.resetting frame
  where
    both : Giving
    both = record g { high = freed_by post.HighPriority s g.high; internal = freed_by post.Default s g.internal }

    by_tests : (x : List ℕ) (c d : Bool) → (if c then makes_internal Another both else (if d then makes_internal Another both else both)).high ≡ both.high
    by_tests x true d = refl
    by_tests x false true = refl
    by_tests x false false = refl

    by_resetting : (b : Bool) (frame : Option (List ℕ)) → (if b then both else caused s frame ahead both).high ≡ freed_by post.HighPriority s g.high
    by_resetting true frame = refl
    by_resetting false None = refl
    by_resetting false (Some x) = ap (λ b. (if b then event_heard x both else reply_heard s x ahead both).high) e ∙ by_tests x _ _

-- ---- an event

pub change_of : List ℕ → Bool → Change
change_of frame added = record { handle = field frame 0x28 2; status = if added then 1 else 2 }

topology_changes : (context handle expander phys phy : ℕ) (added : Bool) → changes_in (reply_frame (reply.Topology context handle expander phys phy added)) ≡ change_of (reply_frame (reply.Topology context handle expander phys phy added)) added ∷ []
unfolding event_reply_layout event_reply_values topology_layout topology_values topology_entry_layout topology_entry_values field Rattle.mpt_wire.specs.Messages.Fields.changes_from change_of
topology_changes context handle expander phys phy true = refl
topology_changes context handle expander phys phy false = refl

pub changes_are : (frame : List ℕ) (added : Bool) → frame ≡ event_like frame added → changes_in frame ≡ change_of frame added ∷ []
changes_are frame added e = subst (λ x. changes_in x ≡ change_of x added ∷ []) (sym e) (topology_changes _ _ _ _ _ added)

rule_added : (a : ℕ → Bool) (handle : ℕ) (g : Giving) → (change_heard a (record { handle = handle; status = 1 }) g).high ≡ g.high
rule_added a handle g = by_disk (rule.is_disk_handle handle)
  where
    by_disk : (x : Bool) → (if x then makes_internal (APage handle) g else g).high ≡ g.high
    by_disk true = refl
    by_disk false = refl

rule_lost : (a : ℕ → Bool) (handle : ℕ) (g : Giving) → (change_heard a (record { handle = handle; status = 2 }) g).high ≡ (if a handle then makes post.HighPriority Another g.high else g.high)
rule_lost a handle g = by_known (a handle)
  where
    by_known : (x : Bool) → (if x then departs handle g else g).high ≡ (if x then makes post.HighPriority Another g.high else g.high)
    by_known true = refl
    by_known false = refl

host_adds : (m : Host) (handle : ℕ) (p : Phase) (held : ClassHeld) → Fits m held → Fits (removal.after_handle_added m handle p) held
host_adds m handle phase.Absent held z = asks_internal (removal.with_phase_of m handle (after_added phase.Absent)) (request.Page handle) held z
host_adds m handle phase.WaitRead held z = z
host_adds m handle (phase.Reading s) held z = z
host_adds m handle (phase.Ready address) held z = z
host_adds m handle phase.WaitHigh held z = z
host_adds m handle (phase.Resetting s) held z = z
host_adds m handle phase.WaitInternal held z = z
host_adds m handle (phase.Removing s) held z = z

host_added : (m : Host) (handle : ℕ) (held : ClassHeld) → Fits m held → Fits (removal.hears_change m (record { handle = handle; status = 1 })).part held
host_added m handle held z = by_disk (removal.is_disk_handle handle)
  where
    by_disk : (x : Bool) → Fits (if x then removal.quietly (removal.after_handle_added m handle (phase_at m.phases handle)) else removal.quietly m).part held
    by_disk true = host_adds m handle (phase_at m.phases handle) held z
    by_disk false = z

removes : (m : Host) (handle : ℕ) (p : Phase) (held : ClassHeld) → Fits m held → Fits (removal.begins_removal m handle p).part (makes post.HighPriority Another held)
removes m handle p held z = asks_leave (record m { phases = with_phase m.phases handle (after_gone p); wait_internal = removal.without_page handle m.wait_internal }) handle held z

host_loses : (m : Host) (handle : ℕ) (p : Phase) (held : ClassHeld) → Fits m held → Fits (removal.after_handle_lost m handle p).part (if is_announced p then makes post.HighPriority Another held else held)
host_loses m handle phase.WaitRead held z = removes m handle phase.WaitRead held z
host_loses m handle (phase.Reading s) held z = removes m handle (phase.Reading s) held z
host_loses m handle (phase.Ready address) held z = removes m handle (phase.Ready address) held z
host_loses m handle phase.Absent held z = z
host_loses m handle phase.WaitHigh held z = z
host_loses m handle (phase.Resetting s) held z = z
host_loses m handle phase.WaitInternal held z = z
host_loses m handle (phase.Removing s) held z = z

host_lost : (m : Host) (handle : ℕ) (held : ClassHeld) → IsHandle handle → Fits m held → Fits (removal.hears_change m (record { handle = handle; status = 2 })).part (if is_announced (phase_at m.phases handle) then makes post.HighPriority Another held else held)
host_lost m handle held i z = subst (λ b. Fits (if b then removal.after_handle_lost m handle (phase_at m.phases handle) else removal.quietly m).part (if is_announced (phase_at m.phases handle) then makes post.HighPriority Another held else held)) (sym known) (host_loses m handle (phase_at m.phases handle) held z)
  where
    known : removal.is_disk_handle handle ≡ true
    known = let a = i.0 in let b = i.1 in grind (arith, nat_tests, a, b)

pub one_change : (m : Host) (a : ℕ → Bool) (g : Giving) (frame : List ℕ) (added : Bool) → IsHandle (field frame 0x28 2) → a (field frame 0x28 2) ≡ is_announced (phase_at m.phases (field frame 0x28 2)) → Fits m g.high
    → Fits (removal.hears_changes m (change_of frame added ∷ [])).part (after_changes a (change_of frame added ∷ []) g).high
unfolding removal.hears_changes after_changes change_of
one_change m a g frame true i e z = let handle = field frame 0x28 2 in subst (Fits (removal.hears_change m (record { handle = handle; status = 1 })).part) (sym (rule_added a handle g)) (host_added m handle g.high z)
one_change m a g frame false i e z =
    let handle = field frame 0x28 2 in
    subst (Fits (removal.hears_change m (record { handle = handle; status = 2 })).part) (sym (rule_lost a handle g ∙ ap (λ b. if b then makes post.HighPriority Another g.high else g.high) e)) (host_lost m handle g.high i z)

-- ---- the host as it has a reply

pub record Same (h k : Host) : Type 0 where
  pub phases : k.phases ≡ h.phases
  pub waits : k.wait_high ≡ h.wait_high
  pub mode : k.mode ≡ h.mode
  pub pool : k.pool ≡ h.pool

pub same_taken : (h : Host) (queue d : ℕ) (f : Option (List ℕ)) → Same h (replies.takes_entry (replies.with_frame_heard h d f) queue)
same_taken h queue d None = record { phases = refl; waits = refl; mode = refl; pool = refl }
same_taken h queue d (Some f) = by_bool h.returning
  where
    frame : ℕ
    frame = returns.frame_of (Rattle.mpt_wire.specs.Messages.Fields.frame_address_in d)

    by_bool : (c : Bool) → Same h (replies.takes_entry (if c then returns.with_return h frame else returns.keeps h frame) queue)
    by_bool true = record { phases = refl; waits = refl; mode = refl; pool = refl }
    by_bool false = record { phases = refl; waits = refl; mode = refl; pool = refl }

pub phases_asked : (h : Host) (event context : ℕ) → (asks.asks_internal h (request.Ack event context)).phases ≡ h.phases
phases_asked h event context = by_free (least_free class.Internal h.pool)
  where
    by_free : (o : Option ℕ) → (asks.posts_internal_or_waits h (request.Ack event context) o).phases ≡ h.phases
    by_free None = refl
    by_free (Some s) = refl

-- ---- no posts

pub none_made : (xs : List Down) → how_many is_post xs ≡ 0 → filter_map (made_by post.HighPriority) xs ≡ []
none_made [] e = refl
none_made (down.Write reg value ∷ xs) e = let c = how_many-cons is_post (down.Write reg value) xs in none_made xs (omega (arith, c, e))
none_made (down.Read reg ∷ xs) e = let c = how_many-cons is_post (down.Read reg) xs in none_made xs (omega (arith, c, e))
none_made (down.Return address index ∷ xs) e = let c = how_many-cons is_post (down.Return address index) xs in none_made xs (omega (arith, c, e))
none_made (down.Stop ∷ xs) e = let c = how_many-cons is_post down.Stop xs in none_made xs (omega (arith, c, e))
none_made (down.Post d f p ∷ xs) e = let c = how_many-cons is_post (down.Post d f p) xs in absurd (omega (arith, c, e))

none_left : (xs : List Down) → filter_map (made_by post.HighPriority) (filter is_no_post xs) ≡ []
none_left [] = refl
none_left (down.Write reg value ∷ xs) = none_left xs
none_left (down.Read reg ∷ xs) = none_left xs
none_left (down.Return address index ∷ xs) = none_left xs
none_left (down.Stop ∷ xs) = none_left xs
none_left (down.Post d f p ∷ xs) = none_left xs

-- ---- classes

pub kind_high : (s : ℕ) → 257 ≤ s → s ≤ 264 → is_of_kind post.HighPriority s ≡ true
kind_high s l m = grind (arith, nat_tests, l, m)

pub kind_low : (s : ℕ) → s ≤ 256 → is_of_kind post.HighPriority s ≡ false
kind_low s l = grind (arith, nat_tests, l)

pub kind_above : (s : ℕ) → 265 ≤ s → is_of_kind post.HighPriority s ≡ false
kind_above s l = grind (arith, nat_tests, l)

-- ---- what is told of inputs, and by others than the host

module _ (g : Giving) (x : Host) (z : Fits x g.high) where
  pub Told : Happening Host → Type 0
  Told o = Fits o.part (state_ahead giving_next g o.entries []).high

  given_up : (s : Stage) → Fits (resets.gives_up x s) (without_posts g.high)
  given_up s = record { long = z.long; made = sym (none_left x.out); waiting = refl; opened = z.opened; taken = z.taken }

  reset_asked : (s : Stage) (d : HostDoor) → Fits (resets.with_reset_asked x s d) (without_posts g.high)
  reset_asked s d = by_read x.reading
    where
      by_read : (c : Bool) → Fits (if c then resets.gives_up x s else door.begins (resets.gives_up x s) s d) (without_posts g.high)
      by_read true = given_up s
      by_read false = begun (resets.gives_up x s) s d (without_posts g.high) (given_up s)

  starts : (m : HostState) → Told (by_option input.Start call.Start (inputs.starts_in x m))
  unfolding Told
  starts state.Off = begun (record x { mode = state.Starting }) stage.Start look_at_doorbell g.high z
  starts state.Starting = z
  starts state.Up = z
  starts state.Resetting = z

  diagnostic : (m : HostState) → Told (by_option input.Reset call.Reset (inputs.diag_resets_in x m))
  unfolding Told
  diagnostic state.Off = z
  diagnostic state.Starting = reset_asked stage.DiagnosticReset diagnostic_reset
  diagnostic state.Up = reset_asked stage.DiagnosticReset diagnostic_reset
  diagnostic state.Resetting = z

  unit : (m : HostState) → Told (by_option input.UnitReset call.UnitReset (inputs.unit_resets_in x m))
  unfolding Told
  unit state.Off = z
  unit state.Starting = z
  unit state.Up = reset_asked stage.UnitReset unit_reset
  unit state.Resetting = z

  submits : (n address : ℕ) (i : Input) (command : Command) (few : host_queue_count x ≤ 8) (some : 1 ≤ host_queue_count x) (used up : Bool) (handle : Option ℕ) (fit : Bool) (o : Option ℕ) → least_free class.ScsiIo x.pool ≡ o
      → (form : Rattle.mpt_trace.specs.declared.command_form.CommandForm.CommandForm) → i ≡ input.Submit n address form → Told (by_result (input.Submit n address form) (entry.RefuseSubmit n) (submits_by x n address command used up handle fit o))
  unfolding Told
  submits n address i command few some true up handle fit o e form q = z
  submits n address i command few some false false handle fit o e form q = z
  submits n address i command few some false true None fit o e form q = z
  submits n address i command few some false true (Some k) false o e form q = z
  submits n address i command few some false true (Some k) true None e form q = z
  submits n address i command few some false true (Some k) true (Some s) e form q =
      let l = (least_is class.ScsiIo x.pool s e).inside in let l0 = l.0 in let l1 = l.1 in
      let r = mod-lt (s - 1) some in
      below x.pool _ x.wait_high g.high s (Open (request.Command n)) (omega (arith, l0)) (omega (arith, l1))
      (silent x.pool x.out _ x.wait_high g.high (command_is_none (asks.host_queue_of x s) s k (asks.frame_asked (asks.command_asked s k command)) command.payload (omega (arith, r, few)) (omega (arith, l1))) z)

  abort_refused : (n : ℕ) (cause : Refusal) → (state_ahead giving_next g (entry.Given (input.Abort n) ∷ entry.Refuse (call.Abort n) cause ∷ []) []).high ≡ g.high
  abort_refused n cause = let t : (n == n) ≡ true = grind arith in ap (λ b. (if not b then rule.makes_high g else g).high) t

  target_refused : (n : ℕ) (cause : Refusal) → (state_ahead giving_next g (entry.Given (input.TargetReset n) ∷ entry.Refuse (call.TargetReset n) cause ∷ []) []).high ≡ g.high
  target_refused n cause = let t : (n == n) ≡ true = grind arith in ap (λ b. (if not b then rule.makes_high g else g).high) t

  aborts : (n : ℕ) (up : Bool) (cmd : Option Cmd) (there o : Option ℕ) → least_free class.High x.pool ≡ o → Told (by_result (input.Abort n) (entry.Refuse (call.Abort n)) (aborts_by x n up cmd there o))
  unfolding Told
  aborts n false cmd there o e = subst (Fits x) (sym (abort_refused n refusal.NotOperational)) z
  aborts n true None there o e = subst (Fits x) (sym (abort_refused n refusal.NotOpen)) z
  aborts n true (Some c) (Some k) o e = subst (Fits x) (sym (abort_refused n refusal.AbortOpen)) z
  aborts n true (Some c) None None e = subst (Fits x) (sym (abort_refused n refusal.NoIdentifier)) z
  aborts n true (Some c) None (Some s) e = asked x.pool x.out x.wait_high g.high s (request.Abort n c.smid) _ e z

  targets : (address : ℕ) (up : Bool) (handle o : Option ℕ) → least_free class.High x.pool ≡ o → Told (by_result (input.TargetReset address) (entry.Refuse (call.TargetReset address)) (resets_target_by x address up handle o))
  unfolding Told
  targets address false handle o e = subst (Fits x) (sym (target_refused address refusal.NotOperational)) z
  targets address true None o e = subst (Fits x) (sym (target_refused address refusal.NoDevice)) z
  targets address true (Some k) None e = subst (Fits x) (sym (target_refused address refusal.NoIdentifier)) z
  targets address true (Some k) (Some s) e = asked x.pool x.out x.wait_high g.high s (request.TargetReset address) _ e z

  pub told : (i : Input) → host_queue_count x ≤ 8 → 1 ≤ host_queue_count x → Fits (host_told x i).part (state_ahead giving_next g (host_told x i).entries []).high
  unfolding Told
  told input.Start few some = starts x.mode
  told (input.Submit n address form) few some =
      submits n address (input.Submit n address form) (command_named form) few some (finset.contains x.accepted n) (is_up x.mode) (ready_handle x.phases address) (fits_command (command_named form)) (least_free class.ScsiIo x.pool) refl form refl
  told (input.Abort n) few some = aborts n (is_up x.mode) (finmap.get x.cmds n) (finmap.get x.aborts n) (least_free class.High x.pool) refl
  told (input.TargetReset address) few some = targets address (is_up x.mode) (ready_handle x.phases address) (least_free class.High x.pool) refl
  told input.Reset few some = diagnostic x.mode
  told input.UnitReset few some = unit x.mode
  told (input.Plug address expander phy) few some = z
  told (input.Unplug address) few some = z

  -- ---- a put

  pub put : (item : Down) (rest : List Down) → x.out ≡ item ∷ rest → Fits (after_sent x item rest) (giving_next g (entry.Put lane.Down (Rattle.mpt_trace.specs.declared.item.Item.TheVariants.Down item)) None).high
  put (down.Post d frame payload) rest e = by_kind (kind_in d) (z.made ∙ ap (filter_map (made_by post.HighPriority)) e)
    where
      by_kind : (o : Option PostKind) → g.high.made ≡ cons_option (made_as post.HighPriority o (smid_in d) frame) (filter_map (made_by post.HighPriority) rest) → HighFits x.pool rest x.wait_high (after_post_put o (smid_in d) frame g).high
      by_kind None m = record { long = z.long; made = m; waiting = z.waiting; opened = z.opened; taken = z.taken }
      by_kind (Some post.ScsiIo) m = record { long = z.long; made = m; waiting = z.waiting; opened = z.opened; taken = z.taken }
      by_kind (Some post.HighPriority) m = record { long = z.long; made = ap (drop 1) m; waiting = z.waiting; opened = z.opened; taken = z.taken }
      by_kind (Some post.Default) m = by_notice (is_notification frame)
        where
          by_notice : (b : Bool) → HighFits x.pool rest x.wait_high (if b then record g { internal = record g.internal { is_open = Rattle.mpt_wire.specs.Machine.State.put_at (smid_in d) true g.internal.is_open } } else record g { internal = rule.put_first g.internal }).high
          by_notice true = record { long = z.long; made = m; waiting = z.waiting; opened = z.opened; taken = z.taken }
          by_notice false = record { long = z.long; made = m; waiting = z.waiting; opened = z.opened; taken = z.taken }
  put (down.Write reg value) rest e = record { long = z.long; made = z.made ∙ ap (filter_map (made_by post.HighPriority)) e; waiting = z.waiting; opened = z.opened; taken = z.taken }
  put (down.Read reg) rest e = record { long = z.long; made = z.made ∙ ap (filter_map (made_by post.HighPriority)) e; waiting = z.waiting; opened = z.opened; taken = z.taken }
  put (down.Return address index) rest e = record { long = z.long; made = z.made ∙ ap (filter_map (made_by post.HighPriority)) e; waiting = z.waiting; opened = z.opened; taken = z.taken }
  put down.Stop rest e = record { long = z.long; made = z.made ∙ ap (filter_map (made_by post.HighPriority)) e; waiting = z.waiting; opened = z.opened; taken = z.taken }

-- ---- what controller and fabric tell

pub ioc_stays : (g : Giving) (t : List Entry) → EachEntry IsIocWord t → (state_ahead giving_next g t []).high ≡ g.high
ioc_stays g [] a = refl
ioc_stays g (e ∷ t) a = ioc_stays (giving_next g e (next_own e (t ++ []))) t a.1 ∙ word e a.0
  where
    word : (e : Entry) → IsIocWord e → (giving_next g e (next_own e (t ++ []))).high ≡ g.high
    word (entry.Bind handle address plug) w = refl
    word (entry.Unbind handle) w = refl
    word (entry.Put l i) w = absurd w
    word _ w = absurd w

pub plug_stays : (g : Giving) (t : List Entry) → EachEntry IsPlugWord t → (state_ahead giving_next g t []).high ≡ g.high
plug_stays g [] a = refl
plug_stays g (e ∷ t) a = plug_stays (giving_next g e (next_own e (t ++ []))) t a.1 ∙ word e a.0
  where
    word : (e : Entry) → IsPlugWord e → (giving_next g e (next_own e (t ++ []))).high ≡ g.high
    word (entry.Given (input.Plug address expander phy)) w = refl
    word (entry.Given (input.Unplug address)) w = refl
    word (entry.Refuse c cause) w = refl
    word (entry.Given i) w = absurd w
    word _ w = absurd w

effect_stays : (i : Ioc) (f : Effect) (g : Giving) → (state_ahead giving_next g (after_effect i f).entries []).high ≡ g.high
effect_stays i effect.None g = refl
effect_stays i (effect.Asked count bytes) g = refl
effect_stays i effect.UnitReset g = refl
effect_stays i effect.AdapterReset g = refl
effect_stays i (effect.Fault code) g = refl

pub down_stays : (i : Ioc) (y : Down) (g : Giving) → (state_ahead giving_next g (adapter.takes_down i y).entries []).high ≡ g.high
down_stays i (down.Write reg value) g = effect_stays (record i { door = (register_written i.door reg value).registers }) (register_written i.door reg value).effect g
down_stays i (down.Read reg) g = refl
down_stays i (down.Post d f p) g = refl
down_stays i (down.Return address index) g = refl
down_stays i down.Stop g = refl
