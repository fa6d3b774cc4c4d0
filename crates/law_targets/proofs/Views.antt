-- What is seen of a handle's phase from outside, whether its disk is announced and its address where that is ready, after each call of the host.
use Rattle.std.proofs.Common.{◌≡◌, ℕ, ◌==◌, ◌&&◌, ◌⊎◌, inl, inr, cond, Bool, true, false, if◌then◌else◌, List, [], ◌∷◌, length, take, slice_set, Option, Some, None, is_some, refl, ap, sym, ◌∙◌, subst, length-set, arith}
use Rattle.std.specs.Prelude.{All}
use Rattle.std.specs.FinMap as finmap
use Rattle.std.specs.FinSet as finset
use Rattle.std.proofs.lemmas.List.Elements.{All-head}
use Rattle.scsi_disk.specs.Command.{fits}
use Rattle.smid_pool.specs.Pool.{Free, Open, Parked, Slot, least_free, slot_of}
use Rattle.smid_pool.specs.declared.class.Class.TheVariants as class
use Rattle.removal.specs.Handles.{IsHandle, all_absent, phase_at, ready_handle, with_phase}
use Rattle.removal.specs.Phases.{after_gone, after_grant, after_page, after_removed, after_task_done}
use Rattle.removal.specs.declared.phase.Phase.{Phase}
use Rattle.removal.specs.declared.phase.Phase.TheVariants as phase
use Rattle.mpi_doorbell.specs.HostDoor.{HostDoor}
use Rattle.mpi_doorbell.specs.HostSteps.{diagnostic_reset, handshake_of_message, look_at_doorbell, unit_reset}
use Rattle.mpi_doorbell.specs.declared.step.DoorStep.{DoorStep}
use Rattle.mpi_doorbell.specs.declared.step.DoorStep.TheVariants as step
use Rattle.mpi_doorbell.specs.declared.registers.TheConstants.{IOC_STATE_FAULT, IOC_STATE_OPERATIONAL, IOC_STATE_READY}
use Rattle.mpt_messages.specs.FrameBytes.{message_bytes}
use Rattle.mpt_messages.specs.HostFrames.{host_message}
use Rattle.mpt_messages.specs.declared.host_ask.HostAsk.TheVariants as ask
use Rattle.mpt_wire.specs.Machine.Causes.{is_resetting, is_up}
use Rattle.mpt_wire.specs.Messages.Fields.{Change, frame_address_in}
use Rattle.mpt_trace.specs.Command.{command_named}
use Rattle.mpt_trace.specs.declared.host_state.HostState.{HostState}
use Rattle.mpt_trace.specs.declared.host_state.HostState.TheVariants as state
use Rattle.mpt_trace.specs.declared.input.Input.{Input}
use Rattle.mpt_trace.specs.declared.input.Input.TheVariants as input
use Rattle.mpt_rules.specs.declared.request.Request.{Request}
use Rattle.mpt_rules.specs.declared.request.Request.TheVariants as request
use Rattle.mpt_rules.specs.declared.stage.Stage.{Stage}
use Rattle.mpt_rules.specs.declared.stage.Stage.TheVariants as stage
use Rattle.mpt_rules.specs.Host.Doorbell as door
use Rattle.mpt_rules.specs.Host.Inputs as inputs
use Rattle.mpt_rules.specs.Host.Parts.{Cmd, Host}
use Rattle.mpt_rules.specs.Host.Posts as asks
use Rattle.mpt_rules.specs.Host.Removal as removal
use Rattle.mpt_rules.specs.Host.Replies as replies
use Rattle.mpt_rules.specs.Host.Resets as resets
use Rattle.mpt_rules.specs.Host.Returns as returns
use Rattle.mpt_rules.specs.Host.Takes.{looks, stops}
use Rattle.mpt_rules.specs.Host.Values as values
use Rattle.mpt_rules.specs.Outcome.{Happening}
use Rattle.mpt_rules.specs.World.Inputs.{host_told}
use Rattle.mpt_rules.proofs.HostCalls.{aborts_by, resets_target_by, submits_by}
use Rattle.law_facts.specs.Handles.{IsWaiting, is_announced, is_ready_at}
use Rattle.law_handles.proofs.Phased.{phase_at-with}
use Rattle.law_moves.proofs.Cases.{IsHosts}

-- ---- what is seen of a phase: none, announced, ready with this address

abbrev pub seen_as : Phase → Option (Option ℕ)
seen_as phase.WaitRead = Some None
seen_as (phase.Reading s) = Some None
seen_as (phase.Ready address) = Some (Some address)
seen_as p = None

abbrev pub ready_of : ℕ → Option (Option ℕ) → Bool
ready_of address None = false
ready_of address (Some None) = false
ready_of address (Some (Some a)) = a == address

pub announced_is : (p : Phase) → is_announced p ≡ is_some (seen_as p)
announced_is phase.Absent = refl
announced_is phase.WaitRead = refl
announced_is (phase.Reading s) = refl
announced_is (phase.Ready address) = refl
announced_is phase.WaitHigh = refl
announced_is (phase.Resetting s) = refl
announced_is phase.WaitInternal = refl
announced_is (phase.Removing s) = refl

pub ready_is : (a : ℕ) (p : Phase) → is_ready_at a p ≡ ready_of a (seen_as p)
ready_is a phase.Absent = refl
ready_is a phase.WaitRead = refl
ready_is a (phase.Reading s) = refl
ready_is a (phase.Ready address) = refl
ready_is a phase.WaitHigh = refl
ready_is a (phase.Resetting s) = refl
ready_is a phase.WaitInternal = refl
ready_is a (phase.Removing s) = refl

seen_grant : (p : Phase) (s : ℕ) → seen_as (after_grant p s) ≡ seen_as p
seen_grant phase.Absent s = refl
seen_grant phase.WaitRead s = refl
seen_grant (phase.Reading q) s = refl
seen_grant (phase.Ready address) s = refl
seen_grant phase.WaitHigh s = refl
seen_grant (phase.Resetting q) s = refl
seen_grant phase.WaitInternal s = refl
seen_grant (phase.Removing q) s = refl

seen_done : (p : Phase) (s : ℕ) → seen_as (after_task_done p s) ≡ seen_as p
seen_done phase.Absent s = refl
seen_done phase.WaitRead s = refl
seen_done (phase.Reading q) s = refl
seen_done (phase.Ready address) s = refl
seen_done phase.WaitHigh s = refl
seen_done (phase.Resetting q) s = by_key (q == s)
  where
    by_key : (b : Bool) → seen_as (if b then phase.WaitInternal else phase.Resetting q) ≡ None
    by_key true = refl
    by_key false = refl
seen_done phase.WaitInternal s = refl
seen_done (phase.Removing q) s = refl

seen_removed : (p : Phase) (s : ℕ) → seen_as (after_removed p s) ≡ seen_as p
seen_removed phase.Absent s = refl
seen_removed phase.WaitRead s = refl
seen_removed (phase.Reading q) s = refl
seen_removed (phase.Ready address) s = refl
seen_removed phase.WaitHigh s = refl
seen_removed (phase.Resetting q) s = refl
seen_removed phase.WaitInternal s = refl
seen_removed (phase.Removing q) s = by_key (q == s)
  where
    by_key : (b : Bool) → seen_as (if b then phase.Absent else phase.Removing q) ≡ None
    by_key true = refl
    by_key false = refl

pub seen_gone : (p : Phase) → seen_as (after_gone p) ≡ None
seen_gone phase.Absent = refl
seen_gone phase.WaitRead = refl
seen_gone (phase.Reading q) = refl
seen_gone (phase.Ready address) = refl
seen_gone phase.WaitHigh = refl
seen_gone (phase.Resetting q) = refl
seen_gone phase.WaitInternal = refl
seen_gone (phase.Removing q) = refl

-- the same is seen of each handle
pub record Views (ps qs : List Phase) : Type 0 where
  pub handles : length qs ≡ 64
  pub same : (g : ℕ) → IsHandle g → seen_as (phase_at qs g) ≡ seen_as (phase_at ps g)

pub unchanged : (ps : List Phase) → length ps ≡ 64 → Views ps ps
unchanged ps n = record { handles = n; same = λ g i. refl }

module _ (ps : List Phase) where
  pub turned : (qs : List Phase) (g0 : ℕ) (p : Phase) → IsHandle g0 → seen_as p ≡ seen_as (phase_at qs g0) → Views ps qs → Views ps (with_phase qs g0 p)
  turned qs g0 p i e v =
      record {
        handles = length-set qs _ p ∙ v.handles;
        same = λ g j. by_key g j (g == g0) refl (phase_at-with qs g0 g p v.handles i j);
      }
    where
      equal : (a b : ℕ) → (a == b) ≡ true → a ≡ b
      equal a b t = grind (arith, t)

      by_key : (g : ℕ) → IsHandle g → (b : Bool) → (g == g0) ≡ b → phase_at (with_phase qs g0 p) g ≡ cond b p (phase_at qs g) → seen_as (phase_at (with_phase qs g0 p) g) ≡ seen_as (phase_at ps g)
      by_key g j true t k = ap seen_as k ∙ (e ∙ (ap (λ x. seen_as (phase_at qs x)) (sym (equal g g0 t)) ∙ v.same g j))
      by_key g j false t k = ap seen_as k ∙ v.same g j

  -- ---- requests that go out

  granted : (h : Host) (g s : ℕ) → IsHandle g → Views ps h.phases → Views ps (asks.grants h g s).phases
  granted h g s i v = turned h.phases g (after_grant (phase_at h.phases g) s) i (seen_grant (phase_at h.phases g) s) v

  leave : (h : Host) (s g : ℕ) → IsHandle g → Views ps h.phases → Views ps (asks.posts_leave h s g).phases
  leave h s g i v = granted h g s i v

  pub asks_leave : (h : Host) (g : ℕ) → IsHandle g → Views ps h.phases → Views ps (asks.asks_leave h g).phases
  asks_leave h g i v = by_free (least_free class.High h.pool)
    where
      by_free : (o : Option ℕ) → Views ps (asks.posts_leave_or_waits h g o).phases
      by_free None = v
      by_free (Some s) = leave h s g i v

  internal : (h : Host) (s : ℕ) (r : Request) → IsWaiting r → Views ps h.phases → Views ps (asks.posts_internal h s r).phases
  internal h s (request.Page g) i v = granted h g s i v
  internal h s (request.Remove g) i v = granted h g s i v
  internal h s (request.Ack event context) i v = v
  internal h s request.Notification i v = v
  internal h s request.PortEnable i v = v
  internal h s (request.Command n) i v = v
  internal h s (request.Abort n task) i v = v
  internal h s (request.TargetReset address) i v = v
  internal h s (request.Leave g) i v = v

  pub asks_internal : (h : Host) (r : Request) → IsWaiting r → Views ps h.phases → Views ps (asks.asks_internal h r).phases
  asks_internal h r i v = by_free (least_free class.Internal h.pool)
    where
      by_free : (o : Option ℕ) → Views ps (asks.posts_internal_or_waits h r o).phases
      by_free None = v
      by_free (Some s) = internal h s r i v

  frees_high : (h : Host) (s : ℕ) → All IsHandle h.wait_high → Views ps h.phases → Views ps (asks.frees_high h s).phases
  frees_high h s a v = by_list h.wait_high a
    where
      by_list : (gs : List ℕ) → All IsHandle gs → Views ps (asks.gives_high (asks.frees h s) s gs).phases
      by_list [] a = v
      by_list (g ∷ rest) a = leave (record (asks.frees h s) { wait_high = rest }) s g (All-head IsHandle g rest a) v

  frees_internal : (h : Host) (s : ℕ) → All IsWaiting h.wait_internal → Views ps h.phases → Views ps (asks.frees_internal h s).phases
  frees_internal h s a v = by_list h.wait_internal a
    where
      by_list : (rs : List Request) → All IsWaiting rs → Views ps (asks.gives_internal (asks.frees h s) s rs).phases
      by_list [] a = v
      by_list (r ∷ rest) a = internal (record (asks.frees h s) { wait_internal = rest }) s r (All-head IsWaiting r rest a) v

  -- ---- replies but those to page reads

  unless : (h : Host) (s : ℕ) (o : Happening Host) → is_resetting h.mode ≡ false → Views ps o.part.phases → Views ps (replies.unless_resetting h s o).part.phases
  unless h s o m v = subst (λ b. Views ps (if b then removal.quietly (asks.frees h s) else o).part.phases) (sym m) v

  abbrev pub IsPageRead : Request → Bool
  IsPageRead (request.Page g) = true
  IsPageRead r = false

  -- a record's handle is a disk's
  abbrev pub NamesDisk : Request → Type 0
  NamesDisk (request.Leave g) = IsHandle g
  NamesDisk (request.Remove g) = IsHandle g
  NamesDisk (request.Page g) = IsHandle g
  NamesDisk r = Unit {0}

  module _ (h : Host) (s : ℕ) (highs : All IsHandle h.wait_high) (internals : All IsWaiting h.wait_internal) (m : is_resetting h.mode ≡ false) (v : Views ps h.phases) where
    unparked : (x : Slot Request) (task : ℕ) (j : Host) → All IsHandle j.wait_high → Views ps j.phases → Views ps (asks.frees_high (replies.unparks j task x) s).phases
    unparked Free task j a k = frees_high j s a k
    unparked (Open r) task j a k = frees_high j s a k
    unparked Parked task j a k = frees_high (asks.frees j task) s a k

    pub answer : (r : Request) (x : replies.Heard) → IsPageRead r ≡ false → NamesDisk r → Views ps (replies.hears_answer h s r x).part.phases
    answer (request.Command n) x p i = v
    answer (request.Abort n task) x p i = unparked (slot_of h.pool task) task (record h { aborts = finmap.remove h.aborts n }) highs v
    answer (request.TargetReset address) x p i = frees_high h s highs v
    answer (request.Leave g) x p i = unless h s (removal.quietly (removal.left h s g)) m (by_under (removal.is_reset_under s (phase_at h.phases g)))
      where
        hp : Host
        hp = removal.with_phase_of h g (after_task_done (phase_at h.phases g) s)

        freed : Views ps (asks.frees_high (removal.with_phase_of h g (after_task_done (phase_at h.phases g) s)) s).phases
        freed = frees_high (removal.with_phase_of h g (after_task_done (phase_at h.phases g) s)) s highs (turned h.phases g (after_task_done (phase_at h.phases g) s) i (seen_done (phase_at h.phases g) s) v)

        by_under : (b : Bool) → Views ps (if b then asks.asks_internal (asks.frees_high (removal.with_phase_of h g (after_task_done (phase_at h.phases g) s)) s) (request.Remove g) else asks.frees_high (removal.with_phase_of h g (after_task_done (phase_at h.phases g) s)) s).phases
        by_under true = asks_internal (asks.frees_high (removal.with_phase_of h g (after_task_done (phase_at h.phases g) s)) s) (request.Remove g) i freed
        by_under false = freed
    answer (request.Page g) x p i = absurd (cc)
    answer (request.Remove g) x p i =
        unless h s (removal.quietly (removal.removed h s g)) m
        (frees_internal (removal.with_phase_of h g (after_removed (phase_at h.phases g) s)) s internals (turned h.phases g (after_removed (phase_at h.phases g) s) i (seen_removed (phase_at h.phases g) s) v))
    answer (request.Ack event context) x p i = unless h s (removal.quietly (asks.frees_internal h s)) m (frees_internal h s internals v)
    answer request.Notification x p i = unless h s (removal.quietly (replies.hears_notified h s)) m (asks_internal (asks.frees_internal h s) request.PortEnable tt (frees_internal h s internals v))
    answer request.PortEnable x p i = unless h s (replies.after_port_enable h s) m (frees_internal h s internals v)

-- a page read's reply
pub page_answer : (ps : List Phase) (h : Host) (s g : ℕ) (x : replies.Heard) → All IsWaiting h.wait_internal → is_resetting h.mode ≡ false
    → Views ps (with_phase h.phases g (after_page (phase_at h.phases g) s (replies.address_read (replies.reply_bytes x) x.page))) → Views ps (replies.hears_answer h s (request.Page g) x).part.phases
page_answer ps h s g x internals m v =
    unless ps h s (removal.reads_page h s g (replies.address_read (replies.reply_bytes x) x.page)) m
    (frees_internal ps (removal.with_phase_of h g (after_page (phase_at h.phases g) s (replies.address_read (replies.reply_bytes x) x.page))) s internals v)

-- ---- an event of one change of a disk's handle

-- what is seen of the handle then
abbrev pub seen_by_status : ℕ → Option (Option ℕ) → Option (Option ℕ)
seen_by_status status before = if status == 1 then Some None else if status == 2 then None else before

module _ (h : Host) (g : ℕ) (handle : IsHandle g) (sized : length h.phases ≡ 64) where
  is_disk : removal.is_disk_handle g ≡ true
  is_disk = let a = handle.0 in let b = handle.1 in grind (arith, a, b)

  -- the handle's phase is replaced
  replaced : (qs : List Phase) (p : Phase) → Views (with_phase h.phases g p) qs → (j : ℕ) → IsHandle j → seen_as (phase_at qs j) ≡ cond (j == g) (seen_as p) (seen_as (phase_at h.phases j))
  replaced qs p v j i = v.same j i ∙ (ap seen_as (phase_at-with h.phases g j p sized handle i) ∙ by_key (j == g))
    where
      by_key : (b : Bool) → seen_as (cond b p (phase_at h.phases j)) ≡ cond b (seen_as p) (seen_as (phase_at h.phases j))
      by_key true = refl
      by_key false = refl

  own : (j : ℕ) → (o : Option (Option ℕ)) → seen_as (phase_at h.phases g) ≡ o → seen_as (phase_at h.phases j) ≡ cond (j == g) o (seen_as (phase_at h.phases j))
  own j o e = by_key (j == g) refl
    where
      equal : (a b : ℕ) → (a == b) ≡ true → a ≡ b
      equal a b t = grind (arith, t)

      by_key : (b : Bool) → (j == g) ≡ b → seen_as (phase_at h.phases j) ≡ cond b o (seen_as (phase_at h.phases j))
      by_key true t = ap (λ x. seen_as (phase_at h.phases x)) (equal j g t) ∙ e
      by_key false t = refl

  pub added : (p : Phase) → phase_at h.phases g ≡ p → removal.is_absent p ≡ true → (j : ℕ) → IsHandle j → seen_as (phase_at (removal.after_handle_added h g p).phases j) ≡ cond (j == g) (Some None) (seen_as (phase_at h.phases j))
  added phase.Absent e t j i =
      let hp : Host = removal.with_phase_of h g phase.WaitRead in
      replaced (asks.asks_internal hp (request.Page g)).phases phase.WaitRead (asks_internal (with_phase h.phases g phase.WaitRead) hp (request.Page g) handle (unchanged (with_phase h.phases g phase.WaitRead) (length-set h.phases _ phase.WaitRead ∙ sized))) j i
  added phase.WaitRead e t j i = absurd (cc)
  added (phase.Reading s) e t j i = absurd (cc)
  added (phase.Ready a) e t j i = absurd (cc)
  added phase.WaitHigh e t j i = absurd (cc)
  added (phase.Resetting s) e t j i = absurd (cc)
  added phase.WaitInternal e t j i = absurd (cc)
  added (phase.Removing s) e t j i = absurd (cc)

  begins : (p : Phase) → (j : ℕ) → IsHandle j → seen_as (phase_at (removal.begins_removal h g p).part.phases j) ≡ cond (j == g) None (seen_as (phase_at h.phases j))
  begins p j i =
      let hp : Host = record h { phases = with_phase h.phases g (after_gone p); wait_internal = removal.without_page g h.wait_internal } in
      replaced (asks.asks_leave hp g).phases (after_gone p) (asks_leave (with_phase h.phases g (after_gone p)) hp g handle (unchanged (with_phase h.phases g (after_gone p)) (length-set h.phases _ (after_gone p) ∙ sized))) j i
      ∙ ap (λ o. cond (j == g) o (seen_as (phase_at h.phases j))) (seen_gone p)

  pub lost : (p : Phase) → phase_at h.phases g ≡ p → (j : ℕ) → IsHandle j → seen_as (phase_at (removal.after_handle_lost h g p).part.phases j) ≡ cond (j == g) None (seen_as (phase_at h.phases j))
  lost phase.WaitRead e j i = begins phase.WaitRead j i
  lost (phase.Reading s) e j i = begins (phase.Reading s) j i
  lost (phase.Ready a) e j i = begins (phase.Ready a) j i
  lost phase.Absent e j i = own j None (ap seen_as e)
  lost phase.WaitHigh e j i = own j None (ap seen_as e)
  lost (phase.Resetting s) e j i = own j None (ap seen_as e)
  lost phase.WaitInternal e j i = own j None (ap seen_as e)
  lost (phase.Removing s) e j i = own j None (ap seen_as e)

  -- a change that adds finds the handle absent
  pub changed : (c : Change) → c.handle ≡ g → (c.status ≡ 1) ⊎ (c.status ≡ 2) → (c.status ≡ 1 → removal.is_absent (phase_at h.phases g) ≡ true) → (j : ℕ) → IsHandle j
      → seen_as (phase_at (removal.hears_change h c).part.phases j) ≡ cond (j == g) (seen_by_status c.status (seen_as (phase_at h.phases g))) (seen_as (phase_at h.phases j))
  changed c e s a j i =
      ap (λ b. seen_as (phase_at (if b then removal.hears_status h c.handle c.status else removal.quietly h).part.phases j)) (ap removal.is_disk_handle e ∙ is_disk)
      ∙ (ap (λ x. seen_as (phase_at (removal.hears_status h x c.status).part.phases j)) e ∙ by_status s a)
    where
      by_status : (c.status ≡ 1) ⊎ (c.status ≡ 2) → (c.status ≡ 1 → removal.is_absent (phase_at h.phases g) ≡ true)
          → seen_as (phase_at (removal.hears_status h g c.status).part.phases j) ≡ cond (j == g) (seen_by_status c.status (seen_as (phase_at h.phases g))) (seen_as (phase_at h.phases j))
      by_status (inl s) a =
          ap (λ x. seen_as (phase_at (removal.hears_status h g x).part.phases j)) s ∙ (added (phase_at h.phases g) refl (a s) j i ∙ ap (λ x. cond (j == g) (seen_by_status x (seen_as (phase_at h.phases g))) (seen_as (phase_at h.phases j))) (sym s))
      by_status (inr s) a =
          ap (λ x. seen_as (phase_at (removal.hears_status h g x).part.phases j)) s ∙ (lost (phase_at h.phases g) refl j i ∙ ap (λ x. cond (j == g) (seen_by_status x (seen_as (phase_at h.phases g))) (seen_as (phase_at h.phases j))) (sym s))

-- ---- what an acknowledgement leaves

pub ack_phases : (h : Host) (event context : ℕ) → (asks.asks_internal h (request.Ack event context)).phases ≡ h.phases
ack_phases h event context = by_free (least_free class.Internal h.pool)
  where
    by_free : (o : Option ℕ) → (asks.posts_internal_or_waits h (request.Ack event context) o).phases ≡ h.phases
    by_free None = refl
    by_free (Some s) = refl

-- ---- the frame, and the ring's entry

pub record Like (h g : Host) : Type 0 where
  pub pool : h.pool ≡ g.pool
  pub phases : h.phases ≡ g.phases
  pub high : h.wait_high ≡ g.wait_high
  pub internal : h.wait_internal ≡ g.wait_internal
  pub mode : h.mode ≡ g.mode

pub framed : (g : Host) (queue d : ℕ) (f : Option (List ℕ)) → Like (replies.takes_entry (replies.with_frame_heard g d f) queue) g
framed g queue d None = record { pool = refl; phases = refl; high = refl; internal = refl; mode = refl }
framed g queue d (Some x) = by_bool g.returning
  where
    by_bool : (b : Bool) → Like (replies.takes_entry (if b then returns.with_return g (returns.frame_of (frame_address_in d)) else returns.keeps g (returns.frame_of (frame_address_in d))) queue) g
    by_bool true = record { pool = refl; phases = refl; high = refl; internal = refl; mode = refl }
    by_bool false = record { pool = refl; phases = refl; high = refl; internal = refl; mode = refl }

-- ---- at the doorbell the host keeps phases and mode, but as a reset ends

pub record Still (h k : Host) : Type 0 where
  pub phases : k.phases ≡ h.phases
  pub mode : k.mode ≡ h.mode

still_step : (k : Host) (d : HostDoor) (x : DoorStep) → Still k (door.puts_step k d x)
still_step k d (step.Read reg) = record { phases = refl; mode = refl }
still_step k d (step.Write reg value) = record { phases = refl; mode = refl }
still_step k d (step.Done count bytes) = record { phases = refl; mode = refl }
still_step k d (step.Refused at value) = record { phases = refl; mode = refl }

still_begins : (k : Host) (s : Stage) (d : HostDoor) → Still k (door.begins k s d)
still_begins k s d = let t = door.next_turn d None in let z = still_step (door.puts_writes (record k { stage = s }) t.writes) t.door t.step in record { phases = z.phases; mode = z.mode }

pub looks_still : (k : Host) → Still k (looks k)
looks_still k = still_begins k stage.Look look_at_doorbell

pub stops_still : (k : Host) → Still k (stops k)
stops_still k = record { phases = refl; mode = refl }

-- ---- inputs

pub record Told (h k : Host) : Type 0 where
  pub phases : k.phases ≡ h.phases
  pub before : is_resetting k.mode ≡ false → is_resetting h.mode ≡ false

told_same : (h : Host) → Told h h
told_same h = record { phases = refl; before = λ e. e }

reset_asked : (h : Host) (s : Stage) (d : HostDoor) → Told h (resets.with_reset_asked h s d)
reset_asked h s d = by_read h.reading
  where
    by_read : (b : Bool) → Told h (if b then resets.gives_up h s else door.begins (resets.gives_up h s) s d)
    by_read true = record { phases = refl; before = λ e. absurd (cc) }
    by_read false = let z = still_begins (resets.gives_up h s) s d in record { phases = z.phases; before = λ e. let y : true ≡ false = sym (ap is_resetting z.mode) ∙ e in absurd (cc) }

starts : (h : Host) (m : HostState) → h.mode ≡ m → Told h (inputs.starts_in h m).part
starts h state.Off e = let z = still_begins (record h { mode = state.Starting }) stage.Start look_at_doorbell in record { phases = z.phases; before = λ x. ap is_resetting e }
starts h state.Starting e = told_same h
starts h state.Up e = told_same h
starts h state.Resetting e = told_same h

diag : (h : Host) (m : HostState) → Told h (inputs.diag_resets_in h m).part
diag h state.Off = told_same h
diag h state.Starting = reset_asked h stage.DiagnosticReset diagnostic_reset
diag h state.Up = reset_asked h stage.DiagnosticReset diagnostic_reset
diag h state.Resetting = told_same h

unit : (h : Host) (m : HostState) → Told h (inputs.unit_resets_in h m).part
unit h state.Off = told_same h
unit h state.Starting = told_same h
unit h state.Up = reset_asked h stage.UnitReset unit_reset
unit h state.Resetting = told_same h

submits : (h : Host) (n address : ℕ) (command : Rattle.scsi_disk.specs.declared.command.Command.Command) (used up : Bool) (handle : Option ℕ) (fit : Bool) (o : Option ℕ) → Told h (submits_by h n address command used up handle fit o).part
submits h n address command true up handle fit o = told_same h
submits h n address command false false handle fit o = told_same h
submits h n address command false true None fit o = told_same h
submits h n address command false true (Some x) false o = told_same h
submits h n address command false true (Some x) true None = told_same h
submits h n address command false true (Some x) true (Some s) = record { phases = refl; before = λ e. e }

aborts : (h : Host) (n : ℕ) (up : Bool) (cmd : Option Cmd) (there o : Option ℕ) → Told h (aborts_by h n up cmd there o).part
aborts h n false cmd there o = told_same h
aborts h n true None there o = told_same h
aborts h n true (Some c) (Some x) o = told_same h
aborts h n true (Some c) None None = told_same h
aborts h n true (Some c) None (Some s) = record { phases = refl; before = λ e. e }

targets : (h : Host) (address : ℕ) (up : Bool) (handle o : Option ℕ) → Told h (resets_target_by h address up handle o).part
targets h address false handle o = told_same h
targets h address true None o = told_same h
targets h address true (Some x) None = told_same h
targets h address true (Some x) (Some s) = record { phases = refl; before = λ e. e }

pub told : (h : Host) (i : Input) → IsHosts i → Told h (host_told h i).part
told h input.Start c = starts h h.mode refl
told h (input.Submit n address form) c = submits h n address (command_named form) (finset.contains h.accepted n) (is_up h.mode) (ready_handle h.phases address) (fits (command_named form)) (least_free class.ScsiIo h.pool)
told h (input.Abort n) c = aborts h n (is_up h.mode) (finmap.get h.cmds n) (finmap.get h.aborts n) (least_free class.High h.pool)
told h (input.TargetReset address) c = targets h address (is_up h.mode) (ready_handle h.phases address) (least_free class.High h.pool)
told h input.Reset c = diag h h.mode
told h input.UnitReset c = unit h h.mode
told h (input.Plug address expander phy) c = absurd c
told h (input.Unplug address) c = absurd c

facts_still : (h : Host) → Still h (door.begins_facts h)
facts_still h = still_begins h stage.Facts (handshake_of_message (message_bytes (host_message ask.Facts)))

-- ---- values and marks

pub data Hears (h : Host) (o : Happening Host) : Type 0 where
  Stays : Still h o.part → o.entries ≡ [] → Hears h o
  Over : (j : Host) → o.part.phases ≡ all_absent → o.entries ≡ resets.reset_told j → Hears h o

silent : (h k : Host) → Still h k → Hears h (removal.quietly k)
silent h k s = Stays s refl

over : (h : Host) → Hears h (resets.ends_reset_if_over h)
over h = by_end (h.door_ready && resets.has_all_marks h)
  where
    by_end : (b : Bool) → Hears h (if b then resets.ends_reset h else record { part = h; entries = [] })
    by_end true = let z = facts_still (resets.renewed h) in Over h z.phases refl
    by_end false = Stays (record { phases = refl; mode = refl }) refl

starts_still : (h : Host) (s : ℕ) → Still h (values.starts_by h s)
starts_still h s = by_state (s == IOC_STATE_READY) (s == IOC_STATE_OPERATIONAL) (s == IOC_STATE_FAULT)
  where
    by_state : (a b c : Bool) → Still h (if a then door.begins_facts h else if b then door.begins h stage.StartReset unit_reset else if c then door.begins h stage.StartReset diagnostic_reset else door.begins h stage.Start look_at_doorbell)
    by_state true b c = facts_still h
    by_state false true c = still_begins h stage.StartReset unit_reset
    by_state false false true = still_begins h stage.StartReset diagnostic_reset
    by_state false false false = still_begins h stage.Start look_at_doorbell

all_returned : (h : Host) (fs : List ℕ) → Still h (Rattle.std.specs.List.fold returns.with_return h fs)
all_returned h [] = record { phases = refl; mode = refl }
all_returned h (f ∷ fs) = let z = all_returned (returns.with_return h f) fs in record { phases = z.phases; mode = z.mode }

notifies : (h : Host) → Still h (asks.asks_internal h request.Notification)
notifies h = by_free (least_free class.Internal h.pool)
  where
    by_free : (o : Option ℕ) → Still h (asks.posts_internal_or_waits h request.Notification o)
    by_free None = record { phases = refl; mode = refl }
    by_free (Some s) = record { phases = refl; mode = refl }

begins_still : (h : Host) → Still h (values.begins_messages h)
begins_still h =
    let a = all_returned h (Rattle.std.specs.List.range_with_len 0 returns.reply_frame_count) in
    let b = notifies (returns.returns_all h) in
    record { phases = b.phases ∙ a.phases; mode = b.mode ∙ a.mode }

of_stage : (h : Host) (s : Stage) (bytes : List ℕ) → Hears h (values.ends_stage h s bytes)
of_stage h stage.Idle bytes = silent h h (record { phases = refl; mode = refl })
of_stage h stage.Start bytes = silent h (values.starts_by h (values.state_read bytes)) (starts_still h (values.state_read bytes))
of_stage h stage.StartReset bytes = silent h (door.begins_facts h) (facts_still h)
of_stage h stage.Facts bytes = silent h (door.begins_port_facts h) (still_begins h stage.PortFacts (handshake_of_message (message_bytes (host_message ask.PortFacts))))
of_stage h stage.PortFacts bytes = silent h (door.begins_init h) (still_begins h stage.Init (handshake_of_message (message_bytes (host_message (ask.Init (Rattle.mpt_rules.specs.Host.Parts.host_queue_count h))))))
of_stage h stage.Init bytes = silent h (values.begins_messages h) (begins_still h)
of_stage h stage.Look bytes = silent h h (record { phases = refl; mode = refl })
of_stage h stage.DiagnosticReset bytes = at_end (over (record h { door_ready = true }))
  where
    at_end : Hears (record h { door_ready = true }) (resets.ends_reset_if_over (record h { door_ready = true })) → Hears h (resets.ends_reset_if_over (record h { door_ready = true }))
    at_end (Stays s e) = Stays (record { phases = s.phases; mode = s.mode }) e
    at_end (Over j p e) = Over j p e
of_stage h stage.UnitReset bytes = at_end (over (record h { door_ready = true }))
  where
    at_end : Hears (record h { door_ready = true }) (resets.ends_reset_if_over (record h { door_ready = true })) → Hears h (resets.ends_reset_if_over (record h { door_ready = true }))
    at_end (Stays s e) = Stays (record { phases = s.phases; mode = s.mode }) e
    at_end (Over j p e) = Over j p e

of_turn : (h : Host) (s : Stage) (d : DoorStep) → Hears h (values.after_turn h s d)
of_turn h s (step.Done count bytes) = of_stage h s (take count bytes)
of_turn h s (step.Read reg) = silent h h (record { phases = refl; mode = refl })
of_turn h s (step.Write reg value) = silent h h (record { phases = refl; mode = refl })
of_turn h s (step.Refused at value) = silent h h (record { phases = refl; mode = refl })

late : (h : Host) (s : Stage) → Still h (resets.begins_late h s)
late h stage.DiagnosticReset = still_begins h stage.DiagnosticReset diagnostic_reset
late h stage.UnitReset = still_begins h stage.UnitReset unit_reset
late h stage.Idle = record { phases = refl; mode = refl }
late h stage.Start = record { phases = refl; mode = refl }
late h stage.StartReset = record { phases = refl; mode = refl }
late h stage.Facts = record { phases = refl; mode = refl }
late h stage.PortFacts = record { phases = refl; mode = refl }
late h stage.Init = record { phases = refl; mode = refl }
late h stage.Look = record { phases = refl; mode = refl }

value_at : (h : Host) (o : Option HostDoor) (value : ℕ) → Hears h (values.hears_value_at h o value)
value_at h None value = silent h (resets.begins_late h h.stage) (late h h.stage)
value_at h (Some d) value =
    let t = door.next_turn d (Some value) in
    let a = still_step (door.puts_writes h t.writes) t.door t.step in
    again t a (of_turn (door.puts_turn h t) h.stage t.step)
  where
    again : (t : door.DoorTurn) → Still (door.puts_writes h t.writes) (door.puts_turn h t) → Hears (door.puts_turn h t) (values.after_turn (door.puts_turn h t) h.stage t.step) → Hears h (values.after_turn (door.puts_turn h t) h.stage t.step)
    again t a (Stays s e) = Stays (record { phases = s.phases ∙ a.phases; mode = s.mode ∙ a.mode }) e
    again t a (Over j p e) = Over j p e

pub value : (h : Host) (x : ℕ) → Hears h (values.hears_value h x)
value h x = again (value_at (record h { reading = false }) h.machine x)
  where
    again : Hears (record h { reading = false }) (values.hears_value_at (record h { reading = false }) h.machine x) → Hears h (values.hears_value_at (record h { reading = false }) h.machine x)
    again (Stays s e) = Stays (record { phases = s.phases; mode = s.mode }) e
    again (Over j p e) = Over j p e

pub mark : (h : Host) (queue : ℕ) → Hears h (resets.hears_mark h queue)
mark h queue = again (over (record h { marks = slice_set h.marks queue true }))
  where
    again : Hears (record h { marks = slice_set h.marks queue true }) (resets.ends_reset_if_over (record h { marks = slice_set h.marks queue true })) → Hears h (resets.ends_reset_if_over (record h { marks = slice_set h.marks queue true }))
    again (Stays s e) = Stays (record { phases = s.phases; mode = s.mode }) e
    again (Over j p e) = Over j p e
