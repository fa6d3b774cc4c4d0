-- What the controller does to the start's two requests: no work on another post, and no item of the fabric, changes whether it is enabled or lets events through, or answers the event notification.
use Rattle.std.proofs.Common.{◌≡◌, ◌≢◌, ℕ, zero, suc, ◌+◌, ◌-◌, ◌%◌, ◌^◌, ◌<◌, ◌≤◌, ◌==◌, ◌&&◌, ◌||◌, ◌⊎◌, inl, inr, not, nat_lt, cond, Bool, true, false, if◌then◌else◌, List, [], ◌∷◌, ◌++◌, get_or, length, map, set, slice_index, Option, Some, None, refl, ap, sym, ◌∙◌, subst, arith}
use Rattle.std.specs.Prelude.{All}
use Rattle.std.specs.List.{filter, find, position}
use Rattle.std.specs.Option.{option_map}
use Rattle.std.proofs.lemmas.Bool.{eqb-true}
use Rattle.std.proofs.lemmas.List.Elements.{All-filter, All-head, All-tail}
use Rattle.smid_pool.specs.Pool.{Free, Open, Parked, Slot}
use Rattle.config_pages.specs.ConfigAsk.{config_ask_layout, config_ask_values}
use Rattle.event_msgs.specs.EventAck.{event_ack_layout, event_ack_values}
use Rattle.event_msgs.specs.EventAsk.{event_ask_layout, event_ask_values}
use Rattle.ioc_msgs.specs.PortEnable.{port_enable_layout, port_enable_values}
use Rattle.ioc_msgs.specs.UnitControl.{unit_control_layout, unit_control_values}
use Rattle.ioc_msgs.specs.declared.port_enable.TheConstants.PortEnable.{BLANK as blank_port_enable}
use Rattle.mpi_layout.proofs.Moves.{Stands-no_fault}
use Rattle.mpi_doorbell.specs.DoorRegisters.{DoorRegisters, is_fault}
use Rattle.mpi_rings.specs.declared.request_descriptor.PostKind.{PostKind}
use Rattle.mpi_rings.specs.declared.request_descriptor.PostKind.TheVariants as post
use Rattle.mpi_rings.specs.RequestDescriptor.{flags_of}
use Rattle.scsi_disk.specs.declared.scsi_result.ScsiResult.{ScsiResult}
use Rattle.mpt_messages.specs.Function.{byte_of, function_of}
use Rattle.mpt_messages.specs.HostFrames.{host_message, notification_asked}
use Rattle.mpt_messages.specs.Refusal.{request_refusal, request_refusal_as}
use Rattle.mpt_messages.specs.declared.fault.MsgFault.{MsgFault}
use Rattle.mpt_messages.specs.declared.fault.MsgFault.TheVariants as refusal
use Rattle.mpt_messages.specs.declared.function.Function.{Function}
use Rattle.mpt_messages.specs.declared.function.Function.TheVariants as function
use Rattle.mpt_messages.specs.declared.host_ask.HostAsk.TheVariants as ask
use Rattle.mpt_messages.specs.declared.function.Kind.TheVariants as kind
use Rattle.mpt_messages.specs.declared.ioc_reply.IocReply.TheVariants as reply
use Rattle.mpt_messages.proofs.FrameStands.{host_frame_stands}
use Rattle.mpt_messages.proofs.FunctionByte.{request_known}
use Rattle.mpt_messages.proofs.HostFits.{ack_fits, notification_fits, page_fits, port_enable_fits, removal_fits}
use Rattle.mpt_wire.specs.Messages.Fields as fields
use Rattle.mpt_wire.specs.Messages.Fields.{controlled_handle_in, flags_in, function_in, kind_in, operation_in, post_descriptor, remove_device, smid_in}
use Rattle.mpt_trace.specs.declared.item.Back.{Back}
use Rattle.mpt_trace.specs.declared.item.Back.TheVariants as back
use Rattle.mpt_rules.specs.declared.at_fabric.AtFabric.{AtFabric}
use Rattle.mpt_rules.specs.declared.at_fabric.AtFabric.TheVariants as at
use Rattle.mpt_rules.specs.declared.at_fabric.HeldReset.{HeldReset}
use Rattle.mpt_rules.specs.declared.binding.Binding.{Binding}
use Rattle.mpt_rules.specs.declared.binding.Binding.TheVariants as binding
use Rattle.mpt_rules.specs.declared.binding.Waiting.{Waiting}
use Rattle.mpt_rules.specs.declared.post.Post.{Post}
use Rattle.mpt_rules.specs.declared.request.Request.{Request}
use Rattle.mpt_rules.specs.declared.request.Request.TheVariants as request
use Rattle.mpt_rules.specs.declared.said.Said.{Said}
use Rattle.mpt_rules.specs.declared.said.Said.TheVariants as said
use Rattle.mpt_rules.specs.declared.status.TheConstants.{IOC_STATUS_BUSY, IOC_STATUS_CONFIG_INVALID_ACTION, IOC_STATUS_CONFIG_INVALID_TYPE, IOC_STATUS_INVALID_FIELD, IOC_STATUS_INVALID_STATE, IOC_STATUS_SUCCESS}
use Rattle.mpt_rules.specs.Host.Posts.{frame_asked}
use Rattle.mpt_rules.specs.Ioc.Back as from_back
use Rattle.mpt_rules.specs.Ioc.Back.{is_port_enable}
use Rattle.mpt_rules.specs.Ioc.Bindings as bind
use Rattle.mpt_rules.specs.Ioc.Commands as commands
use Rattle.mpt_rules.specs.Ioc.Configuration as config
use Rattle.mpt_rules.specs.Ioc.Parts.{Ioc}
use Rattle.mpt_rules.specs.Ioc.Places.{is_reply_of}
use Rattle.mpt_rules.specs.Ioc.Replies as say
use Rattle.mpt_rules.specs.Ioc.Requests as asked
use Rattle.mpt_rules.specs.Ioc.Steps as step
use Rattle.mpt_rules.specs.Ioc.Tables as table
use Rattle.mpt_rules.specs.Ioc.Tables.{is_post_of}
use Rattle.mpt_rules.specs.Ioc.Tasks as tasks
use Rattle.mpt_rules.specs.Outcome.{Happening}
use Rattle.mpt_rules.specs.World.Counts.{how_many, one_if, queued_count}
use Rattle.mpt_rules.specs.World.Lines.{is_high}
use Rattle.mpt_rules.specs.World.State.{World}
use Rattle.mpt_rules.proofs.Counts.{queued_count-cons}
use Rattle.law_facts.specs.Facts.{Facts}
use Rattle.law_facts.specs.History.{History}
use Rattle.law_facts.specs.Messages.{AbortAt, CommandAt, CommandPost, HeldIs, HeldIsOf, IsTarget, PostIs, PostIsRecord, RequestIs}
use Rattle.law_facts.specs.Words.{is_enable_asked, slot}
use Rattle.law_flights.proofs.Descriptors.{kind_posted}
use Rattle.law_flights.proofs.Leaves.{enable_at}
use Rattle.law_flights.proofs.WorkLeaves.{AbortEnds, AbortSends, Acks, Dropped, Enables, EndsPlainly, Notifies, PageEnds, PageGiven, Refuses, RemovalEnds, Removes, ResetEnds, ResetHolds, ResetSends, ScsiEnds, ScsiSends, Stops, Strays, TaskFails, Works, works_leaf}
use Rattle.law_moves.proofs.Counted.{how_many-cons, how_many-nil}
use Rattle.law_moves.proofs.UpLines.{on_line, said_more}
use Rattle.law_messages.proofs.Known.{classed, inside}
use Rattle.law_messages.proofs.PostsKept.{found_all, found_passes}
use Rattle.law_classes.specs.Made.{NotificationsStand}

contrary : {T : Type 0} (c : Bool) → c ≡ false → c ≡ true → T
contrary true e f = absurd (cc)
contrary false e f = absurd (cc)

apart_is : (a b : ℕ) → a ≢ b → (a == b) ≡ false
apart_is a b d = by_test (a == b) refl
  where
    by_test : (c : Bool) → (a == b) ≡ c → c ≡ false
    by_test true e = absurd (d (eqb-true a b e))
    by_test false e = refl

-- ---- frames

function_of_page : (s g : ℕ) → s ≤ 280 → g < 2 ^ 16 → function_of (function_in (frame_asked (ask.PageRead s g))) ≡ Some function.Config
unfolding config_ask_layout config_ask_values
function_of_page s g a l = ap (λ vs. function_of (get_or vs 3 0)) (host_frame_stands (ask.PageRead s g) (page_fits s g a l)).numbers

function_of_removal : (g : ℕ) → g < 2 ^ 16 → function_of (function_in (frame_asked (ask.Remove g))) ≡ Some function.UnitControl
unfolding unit_control_layout unit_control_values
function_of_removal g l = ap (λ vs. function_of (get_or vs 3 0)) (host_frame_stands (ask.Remove g) (removal_fits g l)).numbers

function_of_ack : (event context : ℕ) → event < 2 ^ 16 → context < 2 ^ 32 → function_of (function_in (frame_asked (ask.Ack event context))) ≡ Some function.EventAck
unfolding event_ack_layout event_ack_values
function_of_ack event context a l = ap (λ vs. function_of (get_or vs 2 0)) (host_frame_stands (ask.Ack event context) (ack_fits event context a l)).numbers

pub function_of_enable : function_of (function_in (frame_asked ask.PortEnable)) ≡ Some function.PortEnable
unfolding port_enable_layout port_enable_values
function_of_enable = ap (λ vs. function_of (get_or vs 2 0)) (host_frame_stands ask.PortEnable port_enable_fits).numbers

pub function_of_notice : function_of (function_in (frame_asked ask.Notification)) ≡ Some function.EventNotification
unfolding event_ask_layout event_ask_values
function_of_notice = ap (λ vs. function_of (get_or vs 2 0)) (host_frame_stands ask.Notification notification_fits).numbers

-- events of the list of changes are let through
pub masks_of_notice : fields.event_masks_in (frame_asked ask.Notification) ≡ 0xefff_ffff
unfolding event_ask_layout event_ask_values
masks_of_notice = ap (λ vs. get_or vs 10 0) (host_frame_stands ask.Notification notification_fits).numbers

-- bytes that stand for a request of the default kind
by_length : (b : Bool) (n : ℕ) → nat_lt n 12 ≡ b → 12 ≤ n → b ≡ false
by_length false n t e = refl
by_length true n t e = absurd (grind (arith, t, e))

accepted : (f : Function) (bytes : List ℕ) → Rattle.mpt_messages.specs.Refusal.is_kind (Rattle.mpt_messages.specs.Function.kind_of f) kind.Default ≡ true → 12 ≤ length bytes → function_of (slice_index bytes 3) ≡ Some f → Rattle.mpt_messages.specs.Refusal.request_fault f bytes ≡ None
    → request_refusal (step.way_of post.Default) bytes ≡ None
accepted f bytes k l e n =
    ap (λ b. if b then Some (refusal.Short 12 (length bytes)) else request_refusal_as (step.way_of post.Default) bytes (function_of (slice_index bytes 3))) (by_length (nat_lt (length bytes) 12) (length bytes) refl l)
    ∙ (ap (request_refusal_as (step.way_of post.Default) bytes) e
    ∙ (ap (λ b. if b then option_map Rattle.mpt_messages.specs.Fault.message_fault (Rattle.mpt_messages.specs.Refusal.request_fault f bytes) else Some (refusal.WrongKind (slice_index bytes 3) (step.way_of post.Default))) k
    ∙ ap (option_map Rattle.mpt_messages.specs.Fault.message_fault) n))

pub enable_accepted : request_refusal (step.way_of post.Default) (frame_asked ask.PortEnable) ≡ None
enable_accepted =
    let s = host_frame_stands ask.PortEnable port_enable_fits in
    let r = request_known kind.Default (host_message ask.PortEnable) (frame_asked ask.PortEnable) refl s in
    accepted function.PortEnable (frame_asked ask.PortEnable) refl r.enough (r.byte ∙ sym r.of_message) (Stands-no_fault port_enable_layout (port_enable_values blank_port_enable) (frame_asked ask.PortEnable) s)

pub notice_accepted : request_refusal (step.way_of post.Default) (frame_asked ask.Notification) ≡ None
notice_accepted =
    let s = host_frame_stands ask.Notification notification_fits in
    let r = request_known kind.Default (host_message ask.Notification) (frame_asked ask.Notification) refl s in
    accepted function.EventNotification (frame_asked ask.Notification) refl r.enough (r.byte ∙ sym r.of_message) (Stands-no_fault event_ask_layout (event_ask_values notification_asked) (frame_asked ask.Notification) s)

-- ---- descriptors

default_low : (d : ℕ) → kind_in d ≡ Some post.Default → is_high d ≡ false
default_low d e = by_flags (flags_in d == flags_of post.ScsiIo) (flags_in d == flags_of post.HighPriority) (flags_in d == flags_of post.Default) e
  where
    by_flags : (a b c : Bool) → (if a then Some post.ScsiIo else (if b then Some post.HighPriority else (if c then Some post.Default else None))) ≡ Some post.Default → b ≡ false
    by_flags true b c e = absurd (cc)
    by_flags false true c e = absurd (cc)
    by_flags false false c e = refl

module _ (w : World) (h : History) (f : Facts w h) (stand : NotificationsStand w) where
  -- ---- identifiers

  -- of the event notification, and of the port enable
  abbrev pub Note : ℕ → Type 0
  Note s = slot w.host s ≡ Open request.Notification

  abbrev pub Enable : ℕ → Type 0
  Enable s = slot w.host s ≡ Open request.PortEnable

  note_is : (s : ℕ) → Note s → s ≡ 265
  note_is s e = stand.first s e

  enable_is : (s : ℕ) → Enable s → 265 ≤ s
  enable_is s e = let c = classed w h f s request.PortEnable e in omega (arith, c)

  -- not the identifier of an event notification
  abbrev pub Other : ℕ → Type 0
  Other t = (s : ℕ) → Note s → (t == s) ≡ false

  other_low : (t : ℕ) → t ≤ 264 → Other t
  other_low t l s n = let e = note_is s n in apart_is t s (λ q. absurd (omega (arith, l, e, q)))

  other_slot : (t : ℕ) (x : Slot Request) → slot w.host t ≡ x → (x ≡ Open request.Notification → ⊥) → Other t
  other_slot t x e d s n = apart_is t s (λ q. d (sym e ∙ (ap (slot w.host) q ∙ n)))

  -- a post of another kind than the default is of a low identifier
  low_post : (p : Post) → PostIsRecord w h p → (kind_in p.descriptor ≡ Some post.Default → ⊥) → smid_in p.descriptor ≤ 264
  low_post p a n = by_slot (slot w.host (smid_in p.descriptor)) refl a
    where
      default : {T : Type 0} (r : Request) → slot w.host (smid_in p.descriptor) ≡ Open r → p.descriptor ≡ post_descriptor post.Default 0 (smid_in p.descriptor) 0 → T
      default r e d = let i = inside w h f (smid_in p.descriptor) r e in absurd (n (ap kind_in d ∙ kind_posted post.Default 0 (smid_in p.descriptor) 0 (omega arith) (omega (arith, i))))

      by_slot : (x : Slot Request) → slot w.host (smid_in p.descriptor) ≡ x → PostIs w h p x → smid_in p.descriptor ≤ 264
      by_slot Free e a = absurd a
      by_slot Parked e a = absurd a
      by_slot (Open (request.Command m)) e a = let c = classed w h f (smid_in p.descriptor) (request.Command m) e in omega (arith, c)
      by_slot (Open (request.Abort m task)) e a = let c = classed w h f (smid_in p.descriptor) (request.Abort m task) e in omega (arith, c)
      by_slot (Open (request.TargetReset address)) e a = let c = classed w h f (smid_in p.descriptor) (request.TargetReset address) e in omega (arith, c)
      by_slot (Open (request.Leave handle)) e a = let c = classed w h f (smid_in p.descriptor) (request.Leave handle) e in omega (arith, c)
      by_slot (Open (request.Page handle)) e a = default (request.Page handle) e a.0
      by_slot (Open (request.Remove handle)) e a = default (request.Remove handle) e a.0
      by_slot (Open (request.Ack event context)) e a = default (request.Ack event context) e a.0
      by_slot (Open request.Notification) e a = default request.Notification e a.0
      by_slot (Open request.PortEnable) e a = default request.PortEnable e a.0

  -- ---- a SCSI IO that an abort takes off the queue

  first : (a b : Bool) → (a && b) ≡ true → a ≡ true
  first true b e = refl
  first false b e = absurd (cc)

  scsi_kind : (task handle : ℕ) (p : Post) → tasks.is_scsi_post task handle p ≡ true → kind_in p.descriptor ≡ Some post.ScsiIo
  scsi_kind task handle p t = let z = first _ _ (first _ _ t) in ap (λ b. if b then Some post.ScsiIo else (if flags_in p.descriptor == flags_of post.HighPriority then Some post.HighPriority else (if flags_in p.descriptor == flags_of post.Default then Some post.Default else None))) z

  not_default : (p : Post) → kind_in p.descriptor ≡ Some post.ScsiIo → kind_in p.descriptor ≡ Some post.Default → ⊥
  not_default p e g = let c : Some post.ScsiIo ≡ Some post.Default = sym e ∙ g in cc

  filtered : (task handle s : ℕ) → 265 ≤ s → (xs : List Post) → All (PostIsRecord w h) xs → queued_count s (filter (λ other. not (tasks.is_scsi_post task handle other)) xs) ≡ queued_count s xs
  filtered task handle s l [] a = refl
  filtered task handle s l (x ∷ xs) a = by_test (tasks.is_scsi_post task handle x) refl (filtered task handle s l xs (All-tail (PostIsRecord w h) x xs a))
    where
      rest : List Post
      rest = filter (λ other. not (tasks.is_scsi_post task handle other)) xs

      by_test : (b : Bool) → tasks.is_scsi_post task handle x ≡ b → queued_count s (filter (λ other. not (tasks.is_scsi_post task handle other)) xs) ≡ queued_count s xs
          → queued_count s (if not b then x ∷ filter (λ other. not (tasks.is_scsi_post task handle other)) xs else filter (λ other. not (tasks.is_scsi_post task handle other)) xs) ≡ queued_count s (x ∷ xs)
      by_test false t e = let c = queued_count-cons s x xs in let d = queued_count-cons s x (filter (λ other. not (tasks.is_scsi_post task handle other)) xs) in omega (arith, c, d, e)
      by_test true t e =
          let k = low_post x (All-head (PostIsRecord w h) x xs a) (not_default x (scsi_kind task handle x t)) in
          let c = queued_count-cons s x xs in let o : one_if (is_post_of s x) ≡ 0 = ap one_if (apart_is (smid_in x.descriptor) s (λ q. absurd (omega (arith, k, l, q)))) in
          omega (arith, c, e, o)

  -- ---- what stays of a controller

  module _ (i0 : Ioc) where
    pub record StaysAt (E T : Bool) (d : DoorRegisters) (g : ℕ) (normal : List Post) (up : List (List Said)) : Type 0 where
      pub enabled : E ≡ i0.enabled
      pub through : T ≡ i0.through
      pub door : d ≡ i0.door
      pub generation : g ≡ i0.generation
      pub queued : (s : ℕ) → Enable s → queued_count s normal ≡ queued_count s i0.normal
      pub quiet : (s : ℕ) → Note s → on_line (is_reply_of s) w.up up 0 ≡ on_line (is_reply_of s) w.up i0.up 0

    abbrev pub Stays : Ioc → Type 0
    Stays x = StaysAt x.enabled x.through x.door x.generation x.normal x.up

    pub itself : Stays i0
    itself = record { enabled = refl; through = refl; door = refl; generation = refl; queued = λ s e. refl; quiet = λ s n. refl }

    pub says : (x : Ioc) (q : ℕ) (items : List Said) → ((s : ℕ) → Note s → how_many (is_reply_of s) items ≡ 0) → Stays x → Stays (say.says_on x q items)
    says x q items z a =
        record {
          enabled = a.enabled;
          through = a.through;
          door = a.door;
          generation = a.generation;
          queued = a.queued;
          quiet = λ s n. said_more (is_reply_of s) w.up x.up q 0 items ∙ (by_tests (0 == q) (nat_lt q (length x.up)) (on_line (is_reply_of s) w.up x.up 0) (how_many (is_reply_of s) items) (z s n) ∙ a.quiet s n);
        }
      where
        by_tests : (b c : Bool) (m k : ℕ) → k ≡ 0 → m + cond b (cond c k 0) 0 ≡ m
        by_tests true true m k e = omega (arith, e)
        by_tests true false m k e = omega arith
        by_tests false c m k e = omega arith

    pub says_one : (x : Ioc) (q : ℕ) (y : Said) → ((s : ℕ) → Note s → is_reply_of s y ≡ false) → Stays x → Stays (say.says_on x q (y ∷ []))
    says_one x q y z a = says x q (y ∷ []) (λ s n. let c = how_many-cons (is_reply_of s) y [] in let o = how_many-nil (is_reply_of s) in let e : one_if (is_reply_of s y) ≡ 0 = ap one_if (z s n) in omega (arith, c, o, e)) a

    zero_other : Other 0
    zero_other s n = let e = note_is s n in apart_is 0 s (λ q. absurd (omega (arith, e, q)))

    changes : (x : Ioc) (handle expander phy : ℕ) (added : Bool) → Stays x → Stays (bind.changes x handle expander phy added)
    changes x handle expander phy added a = by_through x.through
      where
        by_through : (c : Bool) → Stays (if c then bind.tells_change x handle expander phy added else x)
        by_through true = says_one (record x { context = (x.context + 1) % 2 ^ 32; unacked = Rattle.std.specs.FinSet.insert x.unacked x.context }) 0 (say.framed 0 (reply.Topology x.context handle expander (slice_index x.phys expander) phy added)) (λ s n. zero_other s n) a
        by_through false = a

    binds_to : (x : Ioc) (disk : Waiting) (o : Option ℕ) → Stays x → Stays (bind.binds_to x disk o).part
    binds_to x disk None a = a
    binds_to x disk (Some handle) a = changes (table.with_binding x handle (binding.Present disk.address disk.plug disk.expander disk.phy)) handle disk.expander disk.phy true a

    binds_first : (x : Ioc) (ds : List Waiting) → Stays x → Stays (bind.binds_first x ds).part
    binds_first x [] a = a
    binds_first x (d ∷ ds) a = binds_to (record x { waiting = ds }) d (table.least_unbound (record x { waiting = ds })) a

    loses : (x : Ioc) (handle : ℕ) (b : Binding) → Stays x → Stays (bind.ioc_loses x handle b)
    loses x handle binding.Unbound a = a
    loses x handle (binding.Gone address) a = a
    loses x handle (binding.Present address plug expander phy) a = changes (table.with_binding x handle (binding.Gone address)) handle expander phy false a

  -- ---- a post of another kind

  module _ (i : Ioc) (p : Post) (low : smid_in p.descriptor ≤ 264) (all : All (PostIsRecord w h) i.normal) where
    abbrev Kept : Happening Ioc → Type 0
    Kept o = Stays i o.part

    to : (o x : Happening Ioc) → o ≡ x → Kept x → Kept o
    to o x e k = subst Kept (sym e) k

    its : Other (smid_in p.descriptor)
    its = other_low (smid_in p.descriptor) low

    answers : (q : ℕ) (g pg sn : List ℕ) → Stays i (say.says_on i q (said.Framed (smid_in p.descriptor) g pg sn ∷ []))
    answers q g pg sn = says_one i i q (said.Framed (smid_in p.descriptor) g pg sn) its (itself i)

    other : (o : Happening Ioc) → Works i p o → (kind_in p.descriptor ≡ Some post.Default → ⊥) → Kept o
    other o (Dropped k e) n = to o _ e (itself i)
    other o (Refuses k g d r e) n = to o _ e (answers (say.ioc_queue_of i k p.descriptor) _ _ _)
    other o (ScsiEnds status k c e) n = to o _ e (answers (commands.scsi_queue i p) _ _ _)
    other o (ScsiSends address plug expander phy k c b e) n = to o _ e (itself i)
    other o (Stops stop k g e) n = to o _ e stopped
      where
        stop_low : smid_in stop.descriptor ≤ 264
        stop_low = low_post stop (found_all (PostIsRecord w h) (tasks.is_scsi_post (fields.task_mid_in p.frame) (fields.dev_handle_in p.frame)) i.normal stop g all) (not_default stop (scsi_kind (fields.task_mid_in p.frame) (fields.dev_handle_in p.frame) stop (found_passes (tasks.is_scsi_post (fields.task_mid_in p.frame) (fields.dev_handle_in p.frame)) i.normal stop g)))

        without : Ioc
        without = record i { normal = filter (λ other. not (tasks.is_scsi_post (fields.task_mid_in p.frame) (fields.dev_handle_in p.frame) other)) i.normal }

        took : Stays i (record i { normal = filter (λ other. not (tasks.is_scsi_post (fields.task_mid_in p.frame) (fields.dev_handle_in p.frame) other)) i.normal })
        took = record { enabled = refl; through = refl; door = refl; generation = refl; queued = λ s e. filtered (fields.task_mid_in p.frame) (fields.dev_handle_in p.frame) s (enable_is s e) i.normal all; quiet = λ s n. refl }

        stopped : Stays i (tasks.stops_queued i (smid_in p.descriptor) (fields.task_mid_in p.frame) (fields.dev_handle_in p.frame) stop)
        stopped =
            says_one i (commands.ends_scsi without stop Rattle.mpt_rules.specs.declared.status.TheConstants.IOC_STATUS_SCSI_TASK_TERMINATED) 0 (say.framed (smid_in p.descriptor) (say.task_ended (fields.dev_handle_in p.frame) fields.abort_task IOC_STATUS_SUCCESS 1)) its
            (says_one i without (commands.scsi_queue without stop) (say.scsi_ended (smid_in stop.descriptor) (fields.dev_handle_in stop.frame) Rattle.mpt_rules.specs.declared.status.TheConstants.IOC_STATUS_SCSI_TASK_TERMINATED) (other_low (smid_in stop.descriptor) stop_low) took)
    other o (AbortSends k g t e) n = to o _ e (itself i)
    other o (AbortEnds k g t e) n = to o _ e (answers 0 _ _ _)
    other o (ResetSends address plug expander phy k b e) n = to o _ e (itself i)
    other o (ResetHolds address k b t e) n = to o _ e (itself i)
    other o (ResetEnds status k e) n = to o _ e (answers 0 _ _ _)
    other o (TaskFails k e) n = to o _ e (answers 0 _ _ _)
    other o (PageEnds status k e) n = absurd (n k)
    other o (PageGiven page k q e) n = absurd (n k)
    other o (Enables k q e) n = absurd (n k)
    other o (Notifies k e) n = absurd (n k)
    other o (Acks k t e) n = absurd (n k)
    other o (EndsPlainly g status k e) n = absurd (n k)
    other o (RemovalEnds status k e) n = absurd (n k)
    other o (Removes address k g b c e) n = absurd (n k)
    other o (Strays k r e) n = absurd (n k)

    pub other_works : (kind_in p.descriptor ≡ Some post.Default → ⊥) → Stays i (step.works_on i p).part
    other_works n = other (step.works_on i p) (works_leaf i p) n

  -- ---- a page read, a remove device, an acknowledgement

  module _ (i : Ioc) (p : Post) (its : Other (smid_in p.descriptor)) where
    replies : (x : Ioc) (q : ℕ) (g pg sn : List ℕ) → Stays i x → Stays i (say.says_on x q (said.Framed (smid_in p.descriptor) g pg sn ∷ []))
    replies x q g pg sn a = says_one i x q (said.Framed (smid_in p.descriptor) g pg sn) its a

    page : Stays i (config.works_config i p)
    page = by_tests (config.is_other_action p.frame) (config.is_other_type p.frame) (config.page_wanted i p.frame)
      where
        by_tests : (a c : Bool) (o : Option (List ℕ)) → Stays i (if a then config.ends_config i p IOC_STATUS_CONFIG_INVALID_ACTION [] else if c then config.ends_config i p IOC_STATUS_CONFIG_INVALID_TYPE [] else config.gives_page i p o)
        by_tests true c o = replies i 0 _ _ _ (itself i)
        by_tests false true o = replies i 0 _ _ _ (itself i)
        by_tests false false None = replies i 0 _ _ _ (itself i)
        by_tests false false (Some page) = replies i 0 _ _ _ (itself i)

    ack : Stays i (asked.works_ack i p)
    ack = by_event (asked.is_of_event i p.frame)
      where
        by_event : (c : Bool)
            → Stays i (if c then asked.ends_plainly (record i { unacked = Rattle.std.specs.FinSet.remove i.unacked (fields.acked_context_in p.frame) }) p (byte_of function.EventAck) IOC_STATUS_SUCCESS else asked.ends_plainly i p (byte_of function.EventAck) IOC_STATUS_INVALID_FIELD)
        by_event true = replies (record i { unacked = Rattle.std.specs.FinSet.remove i.unacked (fields.acked_context_in p.frame) }) 0 _ _ _ (itself i)
        by_event false = replies i 0 _ _ _ (itself i)

    removes : Stays i (asked.removes i p).part
    removes =
        binds_first i (asked.ioc_ends_removal (table.with_binding i (controlled_handle_in p.frame) binding.Unbound) p IOC_STATUS_SUCCESS) i.waiting
        (replies (table.with_binding i (controlled_handle_in p.frame) binding.Unbound) 0 _ _ _ (itself i))

    removal : Stays i (asked.works_unit_control i p).part
    removal = by_operation (operation_in p.frame == remove_device) (table.binding_of i (controlled_handle_in p.frame))
      where
        gone : (c : Bool) → Stays i (if c then table.silently (asked.ioc_ends_removal i p IOC_STATUS_BUSY) else asked.removes i p).part
        gone true = replies i 0 _ _ _ (itself i)
        gone false = removes

        by_operation : (a : Bool) (b : Binding) → Stays i (if a then asked.removes_if i p b else table.silently (asked.ioc_ends_removal i p IOC_STATUS_INVALID_FIELD)).part
        by_operation false b = replies i 0 _ _ _ (itself i)
        by_operation true binding.Unbound = replies i 0 _ _ _ (itself i)
        by_operation true (binding.Present address plug expander phy) = replies i 0 _ _ _ (itself i)
        by_operation true (binding.Gone address) = gone (table.has_commands i (controlled_handle_in p.frame))

    -- of neither of the two functions
    defaults : (g : Option Function) → (g ≡ Some function.EventNotification → ⊥) → (g ≡ Some function.PortEnable → ⊥) → Stays i (step.works_default i p g).part
    defaults None n m = itself i
    defaults (Some function.Config) n m = page
    defaults (Some function.PortEnable) n m = absurd (m refl)
    defaults (Some function.EventNotification) n m = absurd (n refl)
    defaults (Some function.EventAck) n m = ack
    defaults (Some function.UnitControl) n m = removal
    defaults (Some function.ScsiIo) n m = itself i
    defaults (Some function.TaskManagement) n m = itself i
    defaults (Some function.IocInit) n m = itself i
    defaults (Some function.IocFacts) n m = itself i
    defaults (Some function.PortFacts) n m = itself i

    default_works : kind_in p.descriptor ≡ Some post.Default → (g : Function) → function_of (function_in p.frame) ≡ Some g → (Some g ≡ Some function.EventNotification → ⊥) → (Some g ≡ Some function.PortEnable → ⊥) → Stays i (step.works_on i p).part
    default_works k g e n m = subst (λ o. Stays i (step.works_kind i p o).part) (sym k) (by_refusal (request_refusal (step.way_of post.Default) p.frame))
      where
        by_refusal : (r : Option MsgFault) → Stays i (step.works_unless i p post.Default r).part
        by_refusal (Some x) = replies i (say.ioc_queue_of i post.Default p.descriptor) _ _ _ (itself i)
        by_refusal None = subst (λ o. Stays i (step.works_default i p o).part) (sym e) (defaults (Some g) n m)

  -- ---- any post but the two

  fits_of : (s : ℕ) (r : Request) → slot w.host s ≡ Open r → Rattle.law_facts.specs.Limits.RecordFits (Open r)
  fits_of s r o =
      let x = Rattle.law_flights.proofs.HostHolds.in_table w.host.pool s (Open r) o (λ e. absurd (cc)) in
      subst Rattle.law_facts.specs.Limits.RecordFits (Rattle.law_bring_up.proofs.Opening.place_of w.host.pool s x.0 ∙ o) (Rattle.std.proofs.lemmas.List.Elements.All-get_or Rattle.law_facts.specs.Limits.RecordFits w.host.pool (s - 1) Free x.1 f.limits.records)

  pub works : (i : Ioc) (p : Post) → PostIsRecord w h p → All (PostIsRecord w h) i.normal → (slot w.host (smid_in p.descriptor) ≡ Open request.Notification → ⊥) → (slot w.host (smid_in p.descriptor) ≡ Open request.PortEnable → ⊥) → Stays i (step.works_on i p).part
  works i p a all nn ne = by_slot (slot w.host (smid_in p.descriptor)) refl a
    where
      its : Other (smid_in p.descriptor)
      its = other_slot (smid_in p.descriptor) (slot w.host (smid_in p.descriptor)) refl nn

      default_is : (r : Request) → slot w.host (smid_in p.descriptor) ≡ Open r → p.descriptor ≡ post_descriptor post.Default 0 (smid_in p.descriptor) 0 → kind_in p.descriptor ≡ Some post.Default
      default_is r e d = let j = inside w h f (smid_in p.descriptor) r e in ap kind_in d ∙ kind_posted post.Default 0 (smid_in p.descriptor) 0 (omega arith) (omega (arith, j))

      by_kind : (r : Request) → slot w.host (smid_in p.descriptor) ≡ Open r → smid_in p.descriptor ≤ 264 → Stays i (step.works_on i p).part
      by_kind r o l = by_default (kind_in p.descriptor) refl
        where
          not_now : (k : Option PostKind) → kind_in p.descriptor ≡ k → (k ≡ Some post.Default → ⊥) → kind_in p.descriptor ≡ Some post.Default → ⊥
          not_now k e n g = n (sym e ∙ g)

          by_default : (k : Option PostKind) → kind_in p.descriptor ≡ k → Stays i (step.works_on i p).part
          by_default None e = other_works i p l all (not_now None e (λ g. cc))
          by_default (Some post.ScsiIo) e = other_works i p l all (not_now (Some post.ScsiIo) e (λ g. cc))
          by_default (Some post.HighPriority) e = other_works i p l all (not_now (Some post.HighPriority) e (λ g. cc))
          by_default (Some post.Default) e = absurd (never_default e)
            where
              never_default : kind_in p.descriptor ≡ Some post.Default → ⊥
              never_default g = by_record r o a2 g
                where
                  a2 : PostIs w h p (Open r)
                  a2 = subst (PostIs w h p) o a

                  other_kind : (c : PostKind) (m2 s2 h2 : ℕ) → c ≢ post.Default → m2 < 256 → s2 < 65536 → p.descriptor ≡ post_descriptor c m2 s2 h2 → kind_in p.descriptor ≡ Some post.Default → ⊥
                  other_kind c m2 s2 h2 n lm ls d g = let q : Some c ≡ Some post.Default = sym (kind_posted c m2 s2 h2 lm ls) ∙ (ap kind_in (sym d) ∙ g) in n (cc)

                  high : (r2 : Request) → slot w.host (smid_in p.descriptor) ≡ Open r2 → p.descriptor ≡ post_descriptor post.HighPriority 0 (smid_in p.descriptor) 0 → kind_in p.descriptor ≡ Some post.Default → ⊥
                  high r2 o2 d g = let j = inside w h f (smid_in p.descriptor) r2 o2 in other_kind post.HighPriority 0 (smid_in p.descriptor) 0 (λ q. cc) (omega arith) (omega (arith, j)) d g

                  scsi : (m : ℕ) → slot w.host (smid_in p.descriptor) ≡ Open (request.Command m) → (c : Option Rattle.mpt_rules.specs.Host.Parts.Cmd) (o2 : Option Rattle.mpt_wire.specs.Machine.State.OpenRequest) → Rattle.std.specs.FinMap.get w.host.cmds m ≡ c → CommandPost w p c o2 → kind_in p.descriptor ≡ Some post.Default → ⊥
                  scsi m o3 None o2 q z g = z
                  scsi m o3 (Some c) None q z g = z
                  scsi m o3 (Some c) (Some o2) q z g =
                      let k = (f.flights.numbers m).command c q in
                      let j = inside w h f c.smid (request.Command m) k in
                      let x = f.flights.sizes.some_queue in let y = f.flights.sizes.few_queues in
                      let l2 : (c.smid - 1) % Rattle.mpt_rules.specs.Host.Parts.host_queue_count w.host < 256 = (let pos : 0 < Rattle.mpt_rules.specs.Host.Parts.host_queue_count w.host = omega (arith, x) in let z2 = Rattle.std.proofs.Common.mod-lt (c.smid - 1) pos in omega (arith, z2, y)) in
                      other_kind post.ScsiIo ((c.smid - 1) % Rattle.mpt_rules.specs.Host.Parts.host_queue_count w.host) c.smid c.handle (λ q. cc) l2 (omega (arith, j)) z.0 g

                  by_record : (r2 : Request) → slot w.host (smid_in p.descriptor) ≡ Open r2 → PostIs w h p (Open r2) → kind_in p.descriptor ≡ Some post.Default → ⊥
                  by_record (request.Command m) o2 z g = scsi m o2 (Rattle.std.specs.FinMap.get w.host.cmds m) (Rattle.std.specs.FinMap.get h.machine.requests m) refl z g
                  by_record (request.Abort m task) o2 z g = high (request.Abort m task) o2 z.0.0 g
                  by_record (request.TargetReset address) o2 z g = high (request.TargetReset address) o2 z.0 g
                  by_record (request.Leave handle) o2 z g = high (request.Leave handle) o2 z.0.0 g
                  by_record (request.Page handle) o2 z g = let c = classed w h f (smid_in p.descriptor) (request.Page handle) o2 in absurd (omega (arith, c, l))
                  by_record (request.Remove handle) o2 z g = let c = classed w h f (smid_in p.descriptor) (request.Remove handle) o2 in absurd (omega (arith, c, l))
                  by_record (request.Ack event context) o2 z g = let c = classed w h f (smid_in p.descriptor) (request.Ack event context) o2 in absurd (omega (arith, c, l))
                  by_record request.Notification o2 z g = nn o2
                  by_record request.PortEnable o2 z g = ne o2

      by_slot : (x : Slot Request) → slot w.host (smid_in p.descriptor) ≡ x → PostIs w h p x → Stays i (step.works_on i p).part
      by_slot Free e z = absurd z
      by_slot Parked e z = absurd z
      by_slot (Open (request.Command m)) e z = by_kind (request.Command m) e (let c = classed w h f (smid_in p.descriptor) (request.Command m) e in omega (arith, c))
      by_slot (Open (request.Abort m task)) e z = by_kind (request.Abort m task) e (let c = classed w h f (smid_in p.descriptor) (request.Abort m task) e in omega (arith, c))
      by_slot (Open (request.TargetReset address)) e z = by_kind (request.TargetReset address) e (let c = classed w h f (smid_in p.descriptor) (request.TargetReset address) e in omega (arith, c))
      by_slot (Open (request.Leave handle)) e z = by_kind (request.Leave handle) e (let c = classed w h f (smid_in p.descriptor) (request.Leave handle) e in omega (arith, c))
      by_slot (Open (request.Page handle)) e z =
          let j = inside w h f (smid_in p.descriptor) (request.Page handle) e in let k = fits_of (smid_in p.descriptor) (request.Page handle) e in
          default_works i p its (default_is (request.Page handle) e z.0) function.Config (ap (λ x. function_of (function_in x)) z.1 ∙ function_of_page (smid_in p.descriptor) handle j.1 (let c = k.1 in omega (arith, c))) (λ g. cc) (λ g. cc)
      by_slot (Open (request.Remove handle)) e z =
          let k = fits_of (smid_in p.descriptor) (request.Remove handle) e in
          default_works i p its (default_is (request.Remove handle) e z.0) function.UnitControl (ap (λ x. function_of (function_in x)) z.1 ∙ function_of_removal handle (let c = k.1 in omega (arith, c))) (λ g. cc) (λ g. cc)
      by_slot (Open (request.Ack event context)) e z =
          let k = fits_of (smid_in p.descriptor) (request.Ack event context) e in
          default_works i p its (default_is (request.Ack event context) e z.0) function.EventAck (ap (λ x. function_of (function_in x)) z.1 ∙ function_of_ack event context (let c = k.0 in omega (arith, c)) k.1) (λ g. cc) (λ g. cc)
      by_slot (Open request.Notification) e z = absurd (nn e)
      by_slot (Open request.PortEnable) e z = absurd (ne e)

  -- ---- an item of the fabric

  module _ (i : Ioc) (at_is : i.requests ≡ w.ioc.requests) (held_is : i.held ≡ w.ioc.held) where
    request_is : (s : ℕ) (x : Option AtFabric) → table.request_at w.ioc s ≡ x → RequestIs w h s x
    request_is s x e = subst (RequestIs w h s) e (f.messages.requests s)

    -- what is at the fabric is of another identifier
    of_command : (s handle queue len : ℕ) (written : Option ℕ) → table.request_at w.ioc s ≡ Some (at.Command handle queue len written) → Other s
    of_command s handle queue len written e = other_slot s (slot w.host s) refl (λ n. subst (CommandAt w h s handle queue len written) n (request_is s (Some (at.Command handle queue len written)) e))

    of_abort : (s handle : ℕ) → table.request_at w.ioc s ≡ Some (at.Abort handle) → Other s
    of_abort s handle e = other_slot s (slot w.host s) refl (λ n. subst (AbortAt w handle) n (request_is s (Some (at.Abort handle)) e))

    of_reset : (s handle : ℕ) → table.request_at w.ioc s ≡ Some (at.TargetReset handle) → Other s
    of_reset s handle e = other_slot s (slot w.host s) refl (λ n. subst IsTarget n (request_is s (Some (at.TargetReset handle)) e))

    of_enable : (s : ℕ) → table.request_at w.ioc s ≡ Some at.PortEnable → Other s
    of_enable s e = other_slot s (slot w.host s) refl (λ n. let c : false ≡ true = sym (ap is_enable_asked n) ∙ request_is s (Some at.PortEnable) e in cc)

    of_held : (r : HeldReset) → HeldIs w r → Other r.smid
    of_held r a = other_slot r.smid (slot w.host r.smid) refl (λ n. subst (HeldIsOf r.handle) n a)

  held_silent : (s : ℕ) → Note s → (xs : List HeldReset) → All (HeldIs w) xs → how_many (is_reply_of s) (map commands.held_answered xs) ≡ 0
  held_silent s n [] a = how_many-nil (is_reply_of s)
  held_silent s n (x ∷ xs) a =
      let h2 = held_silent s n xs (All-tail (HeldIs w) x xs a) in
      let c = how_many-cons (is_reply_of s) (commands.held_answered x) (map commands.held_answered xs) in
      let o : one_if (is_reply_of s (commands.held_answered x)) ≡ 0 = ap one_if (of_held w.ioc refl refl x (All-head (HeldIs w) x xs a) s n) in
      omega (arith, h2, c, o)

  module _ (i0 : Ioc) where
    released : (x : Ioc) (handle : ℕ) → All (HeldIs w) x.held → Stays i0 x → Stays i0 (commands.releases x handle)
    released x handle d a = by_test (table.has_commands x handle)
      where
        by_test : (c : Bool) → Stays i0 (if c then x else commands.answers_held x handle)
        by_test true = a
        by_test false =
            says i0 (record x { held = filter (λ held. not (commands.is_held_for handle held)) x.held }) 0 (map commands.held_answered (filter (commands.is_held_for handle) x.held))
            (λ s n. held_silent s n (filter (commands.is_held_for handle) x.held) (All-filter (commands.is_held_for handle) (HeldIs w) x.held d)) a

  ended : (s handle queue : ℕ) (answer : Said) → ((q : ℕ) → Note q → is_reply_of q answer ≡ false) → Stays w.ioc (commands.ends_command w.ioc s handle queue answer)
  ended s handle queue answer z = released w.ioc (say.says_on (table.without_request w.ioc s) queue (answer ∷ [])) handle f.messages.held (says_one w.ioc (table.without_request w.ioc s) queue answer z (itself w.ioc))

  result_silent : (s handle len moved : ℕ) (result : ScsiResult) → Other s → (q : ℕ) → Note q → is_reply_of q (commands.result_said s handle len moved result) ≡ false
  result_silent s handle len moved result o q n = by_test (result.status == Rattle.scsi_disk.specs.declared.scsi_result.TheConstants.GOOD && moved == len)
    where
      by_test : (c : Bool) → is_reply_of q (if c then said.Success s result.payload result.sense else said.Framed s (Rattle.mpt_messages.specs.IocFrames.reply_frame (Rattle.mpt_messages.specs.declared.ioc_reply.IocReply.TheVariants.Scsi handle s result.status (commands.result_status moved len) moved (length result.sense))) result.payload result.sense) ≡ false
      by_test true = o q n
      by_test false = o q n

  by_result : (s : ℕ) (result : ScsiResult) (o : Option AtFabric) → table.request_at w.ioc s ≡ o → Stays w.ioc (from_back.takes_result w.ioc s result o)
  by_result s result None e = itself w.ioc
  by_result s result (Some (at.Command handle queue len written)) e = ended s handle queue (commands.result_said s handle len (commands.moved_by written result) result) (result_silent s handle len (commands.moved_by written result) result (of_command w.ioc refl refl s handle queue len written e))
  by_result s result (Some (at.Abort handle)) e = itself w.ioc
  by_result s result (Some (at.TargetReset handle)) e = itself w.ioc
  by_result s result (Some at.PortEnable) e = itself w.ioc

  by_end : (s status : ℕ) (o : Option AtFabric) → table.request_at w.ioc s ≡ o → Stays w.ioc (from_back.takes_end w.ioc s status o)
  by_end s status None e = itself w.ioc
  by_end s status (Some (at.Command handle queue len written)) e = ended s handle queue (say.scsi_ended s handle status) (of_command w.ioc refl refl s handle queue len written e)
  by_end s status (Some (at.Abort handle)) e = itself w.ioc
  by_end s status (Some (at.TargetReset handle)) e = itself w.ioc
  by_end s status (Some at.PortEnable) e = itself w.ioc

  by_abort : (s : ℕ) (found : Bool) (o : Option AtFabric) → table.request_at w.ioc s ≡ o → Stays w.ioc (from_back.takes_aborted w.ioc s found o)
  by_abort s found None e = itself w.ioc
  by_abort s found (Some (at.Command handle queue len written)) e = itself w.ioc
  by_abort s found (Some (at.Abort handle)) e = says_one w.ioc (table.without_request w.ioc s) 0 (say.framed s (say.task_ended handle fields.abort_task IOC_STATUS_SUCCESS (if found then 1 else 0))) (of_abort w.ioc refl refl s handle e) (itself w.ioc)
  by_abort s found (Some (at.TargetReset handle)) e = itself w.ioc
  by_abort s found (Some at.PortEnable) e = itself w.ioc

  by_clear : (s count : ℕ) (o : Option AtFabric) → table.request_at w.ioc s ≡ o → Stays w.ioc (from_back.takes_cleared w.ioc s count o)
  by_clear s count None e = itself w.ioc
  by_clear s count (Some (at.Command handle queue len written)) e = itself w.ioc
  by_clear s count (Some (at.Abort handle)) e = itself w.ioc
  by_clear s count (Some (at.TargetReset handle)) e = says_one w.ioc (table.without_request w.ioc s) 0 (say.framed s (say.task_ended handle fields.target_reset IOC_STATUS_SUCCESS count)) (of_reset w.ioc refl refl s handle e) (itself w.ioc)
  by_clear s count (Some at.PortEnable) e = itself w.ioc

  by_discovery : (o : Option ℕ) → position is_port_enable w.ioc.requests ≡ o → Stays w.ioc (from_back.takes_discovered w.ioc o)
  by_discovery None e = itself w.ioc
  by_discovery (Some place) e =
      let q : suc place ≡ place + 1 = omega arith in
      let there : table.request_at w.ioc (place + 1) ≡ Some at.PortEnable = subst (λ s. table.request_at w.ioc s ≡ Some at.PortEnable) q (enable_at w.ioc place e) in
      says_one w.ioc (table.without_request w.ioc (place + 1)) 0 (say.framed (place + 1) (reply.Plain (byte_of function.PortEnable) IOC_STATUS_SUCCESS)) (of_enable w.ioc refl refl (place + 1) there) (itself w.ioc)

  -- but a link
  abbrev IsNews : Back → Type 0
  IsNews (back.Linked generation) = ⊥
  IsNews _ = Unit {0}

  heard : (x : Back) → IsNews x → Stays w.ioc (from_back.hears w.ioc x).part
  heard (back.Result tag result) n = by_result tag result (table.request_at w.ioc tag) refl
  heard (back.Gone tag) n = by_end tag _ (table.request_at w.ioc tag) refl
  heard (back.Terminated tag) n = by_end tag _ (table.request_at w.ioc tag) refl
  heard (back.Aborted smid found) n = by_abort smid found (table.request_at w.ioc smid) refl
  heard (back.Cleared smid count) n = by_clear smid count (table.request_at w.ioc smid) refl
  heard (back.Plugged address plug expander phy) n = by_test (bind.is_known w.ioc address || not (nat_lt expander (length w.ioc.phys)))
    where
      by_test : (b : Bool) → Stays w.ioc (if b then table.silently w.ioc else bind.binds w.ioc (record { address = address; plug = plug; expander = expander; phy = phy })).part
      by_test true = itself w.ioc
      by_test false = binds_to w.ioc w.ioc (record { address = address; plug = plug; expander = expander; phy = phy }) (table.least_unbound w.ioc) (itself w.ioc)
  heard (back.Unplugged address plug expander phy) n = by_handle (table.handle_of w.ioc address)
    where
      by_handle : (o : Option ℕ) → Stays w.ioc (bind.ioc_unplugs_from w.ioc address o)
      by_handle None = itself w.ioc
      by_handle (Some handle) = loses w.ioc w.ioc handle (table.binding_of w.ioc handle) (itself w.ioc)
  heard back.Discovered n = by_discovery (position is_port_enable w.ioc.requests) refl
  heard (back.Linked generation) n = absurd n
  heard back.Calm n = by_test (is_fault w.ioc.door.state)
    where
      by_test : (b : Bool) → Stays w.ioc (if b then w.ioc else say.says_on w.ioc 0 (said.Calm ∷ []))
      by_test true = itself w.ioc
      by_test false = says_one w.ioc w.ioc 0 said.Calm (λ s n2. refl) (itself w.ioc)

  pub told : (x : Back) → IsNews x → Stays w.ioc (from_back.takes_back w.ioc x).part
  told x n = by_test (from_back.is_heard_in w.ioc.door.state x)
    where
      by_test : (b : Bool) → Stays w.ioc (if b then from_back.hears w.ioc x else table.silently w.ioc).part
      by_test true = heard x n
      by_test false = itself w.ioc
