-- What the host does with what it takes and is told, beside what the rule of least posts makes of the entries, of task management.
use Rattle.std.proofs.Common.{◌≡◌, ℕ, zero, suc, ◌+◌, ◌-◌, ◌%◌, ◌<◌, ◌≤◌, ◌==◌, ◌&&◌, not, cond, if◌then◌else◌, Bool, true, false, List, [], ◌∷◌, ◌++◌, filter, filter_map, length, map, replicate, set, take, Option, Some, None, refl, ap, sym, ◌∙◌, subst, arith, mod-lt}
use Rattle.std.specs.FinMap as finmap
use Rattle.std.specs.List.{fold, range_with_len}
use Rattle.smid_pool.specs.Pool.{Free, Open, is_free, is_open, least_free}
use Rattle.smid_pool.specs.declared.class.Class.TheVariants as class
use Rattle.mpi_doorbell.specs.HostDoor.{HostDoor}
use Rattle.mpi_doorbell.specs.HostSteps.{diagnostic_reset, handshake_of_message, look_at_doorbell, next_step, unit_reset}
use Rattle.mpi_doorbell.specs.declared.registers.TheConstants.{IOC_STATE_FAULT, IOC_STATE_OPERATIONAL, IOC_STATE_READY}
use Rattle.mpi_doorbell.specs.declared.step.DoorStep.{DoorStep}
use Rattle.mpi_doorbell.specs.declared.step.DoorStep.TheVariants as step
use Rattle.mpi_rings.specs.declared.request_descriptor.PostKind.TheVariants as post
use Rattle.mpt_messages.specs.declared.host_ask.HostAsk.{HostAsk}
use Rattle.mpt_messages.specs.declared.host_ask.HostAsk.TheVariants as ask
use Rattle.mpt_messages.specs.FrameBytes.{message_bytes}
use Rattle.mpt_messages.specs.HostFrames.{host_message}
use Rattle.mpt_trace.specs.declared.entry.Entry.{Entry}
use Rattle.mpt_trace.specs.declared.entry.Entry.TheVariants as entry
use Rattle.mpt_trace.specs.declared.item.Down.{Down}
use Rattle.mpt_trace.specs.declared.item.Down.TheVariants as down
use Rattle.mpt_wire.specs.Messages.Fields.{frame_address_in}
use Rattle.mpt_wire.specs.Queues.LeastPosts.{ClassHeld, Giving, giving_next, none_held}
use Rattle.mpt_wire.specs.Walks.Ahead.{next_own, state_ahead}
use Rattle.mpt_wire.specs.Walks.Passes.{EachEntry}
use Rattle.mpt_rules.specs.declared.request.Request.{Request}
use Rattle.mpt_rules.specs.declared.request.Request.TheVariants as request
use Rattle.mpt_rules.specs.declared.stage.Stage.{Stage}
use Rattle.mpt_rules.specs.declared.stage.Stage.TheVariants as stage
use Rattle.mpt_rules.specs.Host.Doorbell as door
use Rattle.mpt_rules.specs.Host.Doorbell.{next_turn}
use Rattle.mpt_rules.specs.Host.Parts.{Host, host_queue_count}
use Rattle.mpt_rules.specs.Host.Posts as asks
use Rattle.mpt_rules.specs.Host.Replies as replies
use Rattle.mpt_rules.specs.Host.Resets as resets
use Rattle.mpt_rules.specs.Host.Resets.{is_no_post}
use Rattle.mpt_rules.specs.Host.Returns as returns
use Rattle.mpt_rules.specs.Host.Values as values
use Rattle.mpt_rules.specs.Outcome.{Happening}
use Rattle.law_facts.specs.Ties.{made_by}
use Rattle.law_flights.proofs.HostMoves.{AreWrites, is_reset_stage}
use Rattle.law_flights.proofs.HostTurns.{all_free_at}
use Rattle.law_flights.proofs.Least.{least_is}
use Rattle.law_moves.proofs.HostWords.{IsHostWord}
use Rattle.law_given.proofs.HighFits.{Fits, above, default_is_none, silent}

-- ---- requests of the internal class

internal : (h : Host) (s : ℕ) (x : Request) (held : ClassHeld) → 265 ≤ s → s ≤ 280 → Fits h held → Fits (asks.posts_internal h s x) held
internal h s (request.Page handle) held l m z = above h.pool _ h.wait_high held s (Open (request.Page handle)) l m (silent h.pool h.out _ h.wait_high held (default_is_none s _ [] (omega (arith, m))) z)
internal h s (request.Remove handle) held l m z = above h.pool _ h.wait_high held s (Open (request.Remove handle)) l m (silent h.pool h.out _ h.wait_high held (default_is_none s _ [] (omega (arith, m))) z)
internal h s (request.Ack event context) held l m z = above h.pool _ h.wait_high held s (Open (request.Ack event context)) l m (silent h.pool h.out _ h.wait_high held (default_is_none s _ [] (omega (arith, m))) z)
internal h s request.Notification held l m z = above h.pool _ h.wait_high held s (Open request.Notification) l m (silent h.pool h.out _ h.wait_high held (default_is_none s _ [] (omega (arith, m))) z)
internal h s request.PortEnable held l m z = above h.pool _ h.wait_high held s (Open request.PortEnable) l m (silent h.pool h.out _ h.wait_high held (default_is_none s _ [] (omega (arith, m))) z)
internal h s (request.Command n) held l m z = z
internal h s (request.Abort n task) held l m z = z
internal h s (request.TargetReset address) held l m z = z
internal h s (request.Leave handle) held l m z = z

pub asks_internal : (h : Host) (x : Request) (held : ClassHeld) → Fits h held → Fits (asks.asks_internal h x) held
asks_internal h x held z = by_free (least_free class.Internal h.pool) refl
  where
    by_free : (o : Option ℕ) → least_free class.Internal h.pool ≡ o → Fits (asks.posts_internal_or_waits h x o) held
    by_free None e = z
    by_free (Some s) e = let i = (least_is class.Internal h.pool s e).inside in let i0 = i.0 in let i1 = i.1 in internal h s x held (omega (arith, i0)) (omega (arith, i1)) z

pub freed_other : (h : Host) (s : ℕ) (held : ClassHeld) → 265 ≤ s → s ≤ 280 → Fits h held → Fits (asks.frees h s) held
freed_other h s held l m z = above h.pool h.out h.wait_high held s Free l m z

pub frees_internal : (h : Host) (s : ℕ) (held : ClassHeld) → 265 ≤ s → s ≤ 280 → Fits h held → Fits (asks.frees_internal h s) held
frees_internal h s held l m z = by_list h.wait_internal
  where
    by_list : (xs : List Request) → Fits (asks.gives_internal (asks.frees h s) s xs) held
    by_list [] = freed_other h s held l m z
    by_list (x ∷ rest) = internal (record (asks.frees h s) { wait_internal = rest }) s x held l m (freed_other h s held l m z)

-- ---- a frame goes back, and the ring's entry

back : (h : Host) (d : ℕ) (f : Option (List ℕ)) (held : ClassHeld) → Fits h held → Fits (replies.with_frame_heard h d f) held
back h d None held z = z
back h d (Some f) held z = by_bool h.returning
  where
    by_bool : (c : Bool) → Fits (if c then returns.with_return h (returns.frame_of (frame_address_in d)) else returns.keeps h (returns.frame_of (frame_address_in d))) held
    by_bool true = silent h.pool h.out _ h.wait_high held refl z
    by_bool false = z

pub entry_taken : (h : Host) (queue d : ℕ) (f : Option (List ℕ)) (held : ClassHeld) → Fits h held → Fits (replies.takes_entry (replies.with_frame_heard h d f) queue) held
entry_taken h queue d f held z = let k = replies.with_frame_heard h d f in silent k.pool k.out _ k.wait_high held refl (back h d f held z)

-- the last item
pub silent_stop : (h : Host) (held : ClassHeld) → Fits h held → Fits (Rattle.mpt_rules.specs.Host.Inputs.stops h) held
silent_stop h held z = silent h.pool h.out (down.Stop ∷ []) h.wait_high held refl z

-- ---- at the doorbell

writes_are : (m : ℕ) (d : HostDoor) (x : DoorStep) → AreWrites (door.turn_from m d x).writes
unfolding door.turn_from
writes_are zero d x = tt
writes_are (suc m) d (step.Write reg value) = writes_are m (next_step d None).door (next_step d None).step
writes_are (suc m) d (step.Read reg) = tt
writes_are (suc m) d (step.Done count bytes) = tt
writes_are (suc m) d (step.Refused at value) = tt

no_posts_written : (xs : List Down) → AreWrites xs → filter_map (made_by post.HighPriority) xs ≡ []
no_posts_written [] a = refl
no_posts_written (down.Write reg value ∷ xs) a = no_posts_written xs a
no_posts_written (down.Read reg ∷ xs) a = absurd a
no_posts_written (down.Post d f p ∷ xs) a = absurd a
no_posts_written (down.Return address index ∷ xs) a = absurd a
no_posts_written (down.Stop ∷ xs) a = absurd a

returned : (h : Host) (fs : List ℕ) (held : ClassHeld) → Fits h held → Fits (fold returns.with_return h fs) held
returned h [] held z = z
returned h (f ∷ fs) held z = returned (returns.with_return h f) fs held (silent h.pool h.out _ h.wait_high held refl z)

turned : (h : Host) (d : HostDoor) (v : Option ℕ) (held : ClassHeld) → Fits h held → Fits (door.puts_turn h (next_turn d v)) held
turned h d v held z = by_step (next_turn d v).step
  where
    put : Fits (door.puts_writes h (next_turn d v).writes) held
    put = silent h.pool h.out (next_turn d v).writes h.wait_high held (no_posts_written (next_turn d v).writes (writes_are door.most_writes (next_step d v).door (next_step d v).step)) z

    by_step : (s : DoorStep) → Fits (door.puts_step (door.puts_writes h (next_turn d v).writes) (next_turn d v).door s) held
    by_step (step.Read reg) = let k = door.puts_writes h (next_turn d v).writes in silent k.pool k.out _ k.wait_high held refl put
    by_step (step.Write reg value) = put
    by_step (step.Done count bytes) = put
    by_step (step.Refused p value) = put

pub begun : (h : Host) (s : Stage) (d : HostDoor) (held : ClassHeld) → Fits h held → Fits (door.begins h s d) held
begun h s d held z = turned (record h { stage = s }) d None held z

shaken : (h : Host) (s : Stage) (x : HostAsk) (held : ClassHeld) → Fits h held → Fits (door.begins_handshake h s x) held
shaken h s x held z = begun h s (handshake_of_message (message_bytes (host_message x))) held z

-- ---- what is told of an item

pub words_stay : (g : Giving) (t later : List Entry) → EachEntry IsHostWord t → (state_ahead giving_next g t later).high ≡ g.high
words_stay g [] later a = refl
words_stay g (e ∷ t) later a = words_stay (giving_next g e (next_own e (t ++ later))) t later a.1 ∙ word e a.0
  where
    word : (e : Entry) → IsHostWord e → (giving_next g e (next_own e (t ++ later))).high ≡ g.high
    word entry.HostUp w = refl
    word (entry.Ready address handle) w = refl
    word (entry.Lost address handle) w = refl
    word (entry.Answer n how) w = refl
    word (entry.AbortEnd n how) w = refl
    word (entry.TargetEnd address how) w = refl
    word (entry.Put l x) w = absurd w
    word (entry.Take l x) w = absurd w
    word _ w = absurd w

-- whatever is told before the end of a reset
ends_after : (t later : List Entry) → ((g : Giving) → (state_ahead giving_next g later []).high ≡ none_held) → (g : Giving) → (state_ahead giving_next g (t ++ later) []).high ≡ none_held
ends_after [] later e g = e g
ends_after (x ∷ t) later e g = ends_after t later e (giving_next g x (next_own x ((t ++ later) ++ [])))

told_reset : (h : Host) (g : Giving) → (state_ahead giving_next g (resets.reset_told h) []).high ≡ none_held
told_reset h =
    ends_after (map resets.reset_answer (finmap.keys h.cmds)) (map resets.reset_abort (finmap.keys h.aborts) ++ (filter_map resets.reset_target h.pool ++ entry.ResetDone ∷ []))
    (ends_after (map resets.reset_abort (finmap.keys h.aborts)) (filter_map resets.reset_target h.pool ++ entry.ResetDone ∷ [])
    (ends_after (filter_map resets.reset_target h.pool) (entry.ResetDone ∷ []) (λ g. refl)))

-- what the rule has behind what is told
abbrev pub After : Giving → Happening Host → Type 0
After g o = Fits o.part (state_ahead giving_next g o.entries []).high

-- nothing of the class is made, and nothing waits
abbrev pub IsEmpty : ClassHeld → Type 0
IsEmpty held = (held.made ≡ []) × (held.waiting ≡ [])

module _ (g : Giving) where
  pub over : (h : Host) → (h.door_ready ≡ true → IsEmpty g.high) → Fits h g.high → After g (resets.ends_reset_if_over h)
  over h i z = by_tests h.door_ready (resets.has_all_marks h) i
    where
      by_tests : (x y : Bool) → (x ≡ true → IsEmpty g.high) → After g (if x && y then resets.ends_reset h else record { part = h; entries = [] })
      by_tests true true i =
          let e = i refl in
          subst (Fits (door.begins_facts (resets.renewed h))) (sym (told_reset h g))
          (shaken (resets.renewed h) stage.Facts ask.Facts none_held
          (record {
            long = refl;
            made = sym e.0 ∙ z.made;
            waiting = sym e.1 ∙ z.waiting;
            opened = λ s l m. sym (ap is_open (all_free_at 280 s));
            taken = λ s l m. ap is_open (all_free_at 280 s) ∙ sym (ap (λ x. not (is_free x)) (all_free_at 280 s));
          }))
      by_tests true false i = z
      by_tests false y i = z

  late : (h : Host) (s : Stage) → Fits h g.high → Fits (resets.begins_late h s) g.high
  late h stage.DiagnosticReset z = begun h stage.DiagnosticReset diagnostic_reset g.high z
  late h stage.UnitReset z = begun h stage.UnitReset unit_reset g.high z
  late h stage.Idle z = z
  late h stage.Start z = z
  late h stage.StartReset z = z
  late h stage.Facts z = z
  late h stage.PortFacts z = z
  late h stage.Init z = z
  late h stage.Look z = z

  starts_by : (h : Host) (n : ℕ) → Fits h g.high → Fits (values.starts_by h n) g.high
  starts_by h n z = by_tests (n == IOC_STATE_READY) (n == IOC_STATE_OPERATIONAL) (n == IOC_STATE_FAULT)
    where
      by_tests : (x y v : Bool) → Fits (if x then door.begins_facts h else if y then door.begins h stage.StartReset unit_reset else if v then door.begins h stage.StartReset diagnostic_reset else values.looks_to_start h) g.high
      by_tests true y v = shaken h stage.Facts ask.Facts g.high z
      by_tests false true v = begun h stage.StartReset unit_reset g.high z
      by_tests false false true = begun h stage.StartReset diagnostic_reset g.high z
      by_tests false false false = begun h stage.Start look_at_doorbell g.high z

  ended : (h : Host) (s : Stage) (bytes : List ℕ) → (is_reset_stage s ≡ true → IsEmpty g.high) → Fits h g.high → After g (values.ends_stage h s bytes)
  ended h stage.Idle bytes i z = z
  ended h stage.Start bytes i z = starts_by h (values.state_read bytes) z
  ended h stage.StartReset bytes i z = shaken h stage.Facts ask.Facts g.high z
  ended h stage.Facts bytes i z = shaken h stage.PortFacts ask.PortFacts g.high z
  ended h stage.PortFacts bytes i z = shaken h stage.Init (ask.Init (host_queue_count h)) g.high z
  ended h stage.Init bytes i z = asks_internal (returns.returns_all h) request.Notification g.high (returned h (range_with_len 0 returns.reply_frame_count) g.high z)
  ended h stage.Look bytes i z = z
  ended h stage.DiagnosticReset bytes i z = over (record h { door_ready = true }) (λ e. i refl) z
  ended h stage.UnitReset bytes i z = over (record h { door_ready = true }) (λ e. i refl) z

  after_turn : (h : Host) (s : Stage) (x : DoorStep) → (is_reset_stage s ≡ true → IsEmpty g.high) → Fits h g.high → After g (values.after_turn h s x)
  after_turn h s (step.Done count bytes) i z = ended h s (take count bytes) i z
  after_turn h s (step.Read reg) i z = z
  after_turn h s (step.Write reg value) i z = z
  after_turn h s (step.Refused p value) i z = z

  pub valued : (h : Host) (o : Option HostDoor) (v : ℕ) → (Rattle.std.proofs.Common.is_some o ≡ true → is_reset_stage h.stage ≡ true → IsEmpty g.high) → Fits h g.high → After g (values.hears_value_at h o v)
  valued h None v i z = late h h.stage z
  valued h (Some d) v i z = after_turn (door.puts_turn h (next_turn d (Some v))) h.stage (next_turn d (Some v)).step (i refl) (turned h d (Some v) g.high z)
