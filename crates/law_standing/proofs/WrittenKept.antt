-- Each case keeps that the replies in the controller's outboxes are written as it writes them.
use Rattle.std.proofs.Common.{◌≡◌, ◌≢◌, ℕ, zero, suc, ◌+◌, ◌-◌, ◌*◌, ◌%◌, ◌^◌, ◌<◌, ◌≤◌, ◌==◌, ◌&&◌, ◌||◌, not, cond, nat_lt, nat_le, Bool, true, false, if◌then◌else◌, List, [], ◌∷◌, ◌++◌, drop, get_or, length, map, set, slice_get, slice_index, slice_set, take, Option, Some, None, is_none, option_map, refl, ap, sym, ◌∙◌, subst, arith}
use Rattle.std.specs.Prelude.{All}
use Rattle.std.specs.FinSet as set_of
use Rattle.std.specs.List.{filter, find, position}
use Rattle.std.proofs.lemmas.List.Elements.{All-append, All-cons, All-get_or, All-head, All-nil, All-tail}
use Rattle.std.proofs.lemmas.List.Quantifiers.{position-Some}
use Rattle.config_pages.specs.DevicePage0.{device_page0_layout, device_page0_values}
use Rattle.config_pages.specs.ConfigReply.{config_reply_layout}
use Rattle.mpi_layout.specs.Rows.{first_fault}
use Rattle.mpi_rings.specs.declared.request_descriptor.PostKind.{PostKind}
use Rattle.mpi_rings.specs.declared.request_descriptor.PostKind.TheVariants as post
use Rattle.smid_pool.specs.Pool.{Slot, Free, Open, Parked}
use Rattle.mpt_messages.specs.Function.{byte_of}
use Rattle.mpt_messages.specs.declared.function.Function.TheVariants as function
use Rattle.mpt_messages.specs.IocFrames.{reply_frame}
use Rattle.mpt_messages.specs.declared.ioc_reply.IocReply.{IocReply}
use Rattle.mpt_messages.specs.declared.ioc_reply.IocReply.TheVariants as reply
use Rattle.mpt_wire.specs.Handles.Names.{is_device_page}
use Rattle.mpt_wire.specs.Messages.Fields.{abort_task, controlled_handle_in, dev_handle_in, function_in, kind_in, operation_in, action_in, ext_page_type_in, flags_in, page_buffer_in, page_number_in, post_descriptor, smid_in, target_reset, task_mid_in, task_type_in}
use Rattle.mpt_wire.specs.Messages.Standing.{IsDiskPage}
use Rattle.mpt_rules.specs.declared.binding.Binding.{Binding}
use Rattle.mpt_rules.specs.declared.binding.Binding.TheVariants as binding
use Rattle.mpt_rules.specs.declared.binding.Waiting.{Waiting}
use Rattle.mpt_rules.specs.declared.post.Post.{Post}
use Rattle.mpt_rules.specs.declared.request.Request.{Request}
use Rattle.mpt_rules.specs.declared.request.Request.TheVariants as request
use Rattle.mpt_rules.specs.declared.said.Said.{Said}
use Rattle.mpt_rules.specs.declared.said.Said.TheVariants as said
use Rattle.mpt_rules.specs.declared.status.TheConstants.{IOC_STATUS_SCSI_TASK_TERMINATED, IOC_STATUS_SUCCESS}
use Rattle.mpt_rules.specs.Ioc.Bindings as bind
use Rattle.mpt_rules.specs.Ioc.Commands as commands
use Rattle.mpt_rules.specs.Ioc.Configuration as config
use Rattle.mpt_rules.specs.Ioc.Parts.{Ioc}
use Rattle.mpt_rules.specs.Ioc.Replies as say
use Rattle.mpt_rules.specs.Ioc.Requests as ask
use Rattle.mpt_rules.specs.Ioc.Tables as table
use Rattle.mpt_rules.specs.Ioc.Tasks as tasks
use Rattle.mpt_rules.specs.Outcome.{Happening}
use Rattle.mpt_rules.specs.World.State.{World}
use Rattle.law_flights.proofs.Tables.{get_or-set_any}
use Rattle.law_facts.specs.Facts.{Facts}
use Rattle.law_facts.specs.History.{History}
use Rattle.law_facts.specs.Limits.{BindingFits, WaitingFits}
use Rattle.law_facts.specs.Messages.{PostIs, PostIsRecord}
use Rattle.law_facts.specs.Words.{slot}
use Rattle.law_flights.proofs.WorkLeaves.{AbortEnds, AbortSends, Acks, Dropped, Enables, EndsPlainly, Notifies, PageEnds, PageGiven, Refuses, RemovalEnds, Removes, ResetEnds, ResetHolds, ResetSends, ScsiEnds, ScsiSends, Stops, Strays, TaskFails, Works}
use Rattle.mpi_rings.specs.RequestDescriptor.{flags_of}
use Rattle.law_flights.proofs.Descriptors.{kind_posted}
use Rattle.law_messages.proofs.Agreeing.{all_more, not_both}
use Rattle.law_messages.proofs.Known.{classed, inside}
use Rattle.law_messages.proofs.PostsKept.{found_all, found_passes}
use Rattle.law_standing.specs.Written.{FrameIsWritten, IsWritten}
use Rattle.law_standing.proofs.FrameBytes.{AConfig, ANotice, APlain, ARemoval, ATask, IsShort, reply_fields}

-- ---- pages

and_false : (b : Bool) → (b && false) ≡ false
and_false true = refl
and_false false = refl

no_page : (frame : List ℕ) → is_device_page frame [] ≡ false
unfolding device_page0_layout
no_page frame = and_false (is_none (first_fault config_reply_layout frame))

-- what stands for a page is as long as one
long_page : (frame page : List ℕ) → is_device_page frame page ≡ true → (device_page0_layout).length ≤ length page
long_page frame page e = by_test (is_none (first_fault config_reply_layout frame)) (nat_lt (length page) (device_page0_layout).length) refl e
  where
    by_test : (a b : Bool) → nat_lt (length page) (device_page0_layout).length ≡ b → (a && is_none (if b then Some (Rattle.mpi_layout.specs.declared.fault.Fault.TheVariants.Short (device_page0_layout).length (length page)) else option_map (λ row. Rattle.mpi_layout.specs.declared.fault.Fault.TheVariants.Field row.at) (find (Rattle.mpi_layout.specs.Rows.breaks page) (device_page0_layout).rows))) ≡ true → (device_page0_layout).length ≤ length page
    by_test false b t e = absurd (cc)
    by_test true true t e = absurd (cc)
    by_test true false t e = grind (arith, t)

page_tiled : Rattle.mpi_layout.specs.Rows.IsTiled device_page0_layout
unfolding device_page0_layout
page_tiled = refl

page_paired : (handle address expander phy : ℕ) → Rattle.std.proofs.Common.IsTrue (Rattle.mpt_messages.proofs.LayoutStands.pair_up (device_page0_layout).rows (device_page0_values (Rattle.mpt_messages.specs.DevicePage.disk_page handle address expander phy)))
unfolding device_page0_layout device_page0_values
page_paired handle address expander phy = refl

page_length : (handle address expander phy : ℕ) → length (config.page_bytes handle address expander phy) ≡ (device_page0_layout).length
page_length handle address expander phy = Rattle.mpt_messages.proofs.LayoutStands.layout_bytes-length device_page0_layout (device_page0_values (Rattle.mpt_messages.specs.DevicePage.disk_page handle address expander phy)) page_tiled (page_paired handle address expander phy)

taken_whole : (n : ℕ) (xs : List ℕ) → length xs ≤ length (take n xs) → take n xs ≡ xs
taken_whole n xs l = by_less (nat_le (length xs) n) refl
  where
    by_less : (b : Bool) → nat_le (length xs) n ≡ b → take n xs ≡ xs
    by_less true t = Rattle.std.proofs.lemmas.List.take_all n xs (let z : length xs ≤ n = grind (arith, t) in z)
    by_less false t = let m = Rattle.std.proofs.Common.length-take n xs in absurd (grind (arith, t, l, m))

-- a reply with no page
pub short : (s : ℕ) (r : IocReply) → 1 ≤ s → IsShort r → FrameIsWritten s (reply_frame r) []
short s r l i = record { event = λ z. absurd (omega (arith, l, z)); fields = λ z. reply_fields r i; disk_page = λ z e. not_both (is_device_page (reply_frame r) []) (no_page (reply_frame r)) e }

-- a reply to a SCSI IO
pub low : (s : ℕ) (frame page : List ℕ) → 1 ≤ s → s ≤ 256 → FrameIsWritten s frame page
low s frame page l m = record { event = λ z. absurd (omega (arith, l, z)); fields = λ z. absurd (omega (arith, m, z)); disk_page = λ z e. absurd (omega (arith, m, z)) }

-- a page as the controller writes it, or what there is room for
page_stands : (s handle address expander phy n action status : ℕ) (frame : List ℕ) → 1 ≤ s → expander < 16 → (r : IocReply) → IsShort r → FrameIsWritten s (reply_frame r) (if action == config.read_action then take n (config.page_bytes handle address expander phy) else [])
page_stands s handle address expander phy n action status frame l x r i =
    record {
      event = λ z. absurd (omega (arith, l, z));
      fields = λ z. reply_fields r i;
      disk_page = λ z e. by_action (action == config.read_action) e;
    }
  where
    whole : length (config.page_bytes handle address expander phy) ≡ (device_page0_layout).length
    whole = page_length handle address expander phy

    by_action : (b : Bool) → is_device_page (reply_frame r) (if b then take n (config.page_bytes handle address expander phy) else []) ≡ true → IsDiskPage (if b then take n (config.page_bytes handle address expander phy) else [])
    by_action false e = not_both (is_device_page (reply_frame r) []) (no_page (reply_frame r)) e
    by_action true e =
        let g = long_page (reply_frame r) (take n (config.page_bytes handle address expander phy)) e in
        record { handle = handle; address = address; expander = expander; phy = phy; known = x; bytes = taken_whole n (config.page_bytes handle address expander phy) (let w = whole in omega (arith, g, w)) }

all_set : {X : Type 0} (P : X → Type 0) (xs : List X) (n : ℕ) (y : X) → All P xs → P y → All P (set xs n y)
all_set P [] n y a p = All-nil P
all_set P (x ∷ xs) zero y a p = All-cons P y xs p (All-tail P x xs a)
all_set P (x ∷ xs) (suc n) y a p = All-cons P x (set xs n y) (All-head P x xs a) (all_set P xs n y (All-tail P x xs a) p)

-- ---- what the outboxes have

abbrev pub Outboxes : Ioc → Type 0
Outboxes i = (queue : ℕ) → All IsWritten (get_or i.up queue [])

pub said_on : (i : Ioc) (q : ℕ) (items : List Said) → All IsWritten items → Outboxes i → Outboxes (say.says_on i q items)
said_on i q items a w queue = subst (All IsWritten) (sym (get_or-set_any i.up q queue (get_or i.up q [] ++ items) [])) (by_tests (queue == q) (nat_lt q (length i.up)))
  where
    by_tests : (b c : Bool) → All IsWritten (cond b (cond c (get_or i.up q [] ++ items) (get_or i.up queue [])) (get_or i.up queue []))
    by_tests false c = w queue
    by_tests true false = w queue
    by_tests true true = All-append IsWritten (get_or i.up q []) items (w q) a

pub one : (i : Ioc) (q : ℕ) (y : Said) → IsWritten y → Outboxes i → Outboxes (say.says_on i q (y ∷ []))
one i q y a w = said_on i q (y ∷ []) (all_more IsWritten [] y (All-nil IsWritten) a) w

-- ---- what is told of a disk

changed : (i : Ioc) (handle expander phy : ℕ) (added : Bool) → i.context < 2 ^ 32 → handle < 2 ^ 16 → expander < 16 → phy < 2 ^ 8 → ((e : ℕ) → slice_index i.phys e < 2 ^ 8) → Outboxes i → Outboxes (bind.changes i handle expander phy added)
changed i handle expander phy added c l e p ps w = by_through i.through
  where
    by_through : (b : Bool) → Outboxes (if b then bind.tells_change i handle expander phy added else i)
    by_through false = w
    by_through true =
        one (record i { context = (i.context + 1) % 2 ^ 32; unacked = set_of.insert i.unacked i.context }) 0 (say.framed 0 (reply.Topology i.context handle expander (slice_index i.phys expander) phy added))
        (record {
          event = λ z. record { context = i.context; handle = handle; expander = expander; phys = slice_index i.phys expander; phy = phy; added = added; fits = (c, l, e, ps expander, p); is = refl };
          fields = λ z. absurd (omega (arith, z));
          disk_page = λ z g. absurd (omega (arith, z));
        }) w

-- what there is of the disks
pub record Sound (i : Ioc) : Type 0 where
  pub context : i.context < 2 ^ 32
  pub bindings : All BindingFits i.bindings
  pub few : length i.bindings ≡ 64
  pub waiting : All WaitingFits i.waiting
  pub phys : (e : ℕ) → slice_index i.phys e < 2 ^ 8

least_short : (i : Ioc) (handle : ℕ) → length i.bindings ≡ 64 → table.least_unbound i ≡ Some handle → handle < 2 ^ 16
least_short i handle l e = by_place (position table.is_unbound i.bindings) refl e
  where
    by_place : (o : Option ℕ) → position table.is_unbound i.bindings ≡ o → option_map table.handle_at o ≡ Some handle → handle < 2 ^ 16
    by_place None p e = absurd (cc)
    by_place (Some place) p e = let q = (position-Some table.is_unbound i.bindings place binding.Unbound p).0 in let z : table.handle_at place ≡ handle = cc in omega (arith, q, l, z)

pub handle_short : (i : Ioc) (address handle : ℕ) → length i.bindings ≡ 64 → table.handle_of i address ≡ Some handle → handle < 2 ^ 16
handle_short i address handle l e = by_place (position (table.is_present_at address) i.bindings) refl e
  where
    by_place : (o : Option ℕ) → position (table.is_present_at address) i.bindings ≡ o → option_map table.handle_at o ≡ Some handle → handle < 2 ^ 16
    by_place None p e = absurd (cc)
    by_place (Some place) p e = let q = (position-Some (table.is_present_at address) i.bindings place binding.Unbound p).0 in let z : table.handle_at place ≡ handle = cc in omega (arith, q, l, z)

pub binds_to : (i : Ioc) (disk : Waiting) (o : Option ℕ) → table.least_unbound i ≡ o → Sound i → WaitingFits disk → Outboxes i → Outboxes (bind.binds_to i disk o).part
binds_to i disk None e s d w = w
binds_to i disk (Some handle) e s d w =
    let p = d.1 in
    changed (table.with_binding i handle (binding.Present disk.address disk.plug disk.expander disk.phy)) handle disk.expander disk.phy true s.context (least_short i handle s.few e) p.0 (let y = p.1 in omega (arith, y)) s.phys w

binds_first : (i : Ioc) (ds : List Waiting) → Sound i → All WaitingFits ds → Outboxes i → Outboxes (bind.binds_first i ds).part
binds_first i [] s a w = w
binds_first i (d ∷ ds) s a w =
    binds_to (record i { waiting = ds }) d (table.least_unbound (record i { waiting = ds })) refl
    (record { context = s.context; bindings = s.bindings; few = s.few; waiting = All-tail WaitingFits d ds a; phys = s.phys }) (All-head WaitingFits d ds a) w

pub lost : (i : Ioc) (handle : ℕ) (b : Binding) → table.binding_of i handle ≡ b → handle < 2 ^ 16 → BindingFits b → Sound i → Outboxes i → Outboxes (bind.ioc_loses i handle b)
lost i handle binding.Unbound e l d s w = w
lost i handle (binding.Gone address) e l d s w = w
lost i handle (binding.Present address plug expander phy) e l d s w = let p = d.1 in changed (table.with_binding i handle (binding.Gone address)) handle expander phy false s.context l p.0 (let y = p.1 in omega (arith, y)) s.phys w

pub binding_fits : (i : Ioc) (handle : ℕ) → Sound i → BindingFits (table.binding_of i handle)
binding_fits i handle s = by_test (nat_le table.first_handle handle)
  where
    by_place : (n : ℕ) → BindingFits (get_or i.bindings n binding.Unbound)
    by_place n = by_less (nat_lt n (length i.bindings)) refl
      where
        by_less : (b : Bool) → nat_lt n (length i.bindings) ≡ b → BindingFits (get_or i.bindings n binding.Unbound)
        by_less true t = All-get_or BindingFits i.bindings n binding.Unbound (let z : n < length i.bindings = grind (arith, t) in z) s.bindings
        by_less false t = subst BindingFits (sym (Rattle.std.proofs.lemmas.List.get_or_past i.bindings n binding.Unbound (let z : length i.bindings ≤ n = grind (arith, t) in z))) tt

    by_test : (b : Bool) → BindingFits (if b then get_or i.bindings (handle - table.first_handle) binding.Unbound else binding.Unbound)
    by_test false = tt
    by_test true = by_place (handle - table.first_handle)

-- ---- identifiers

module _ (w : World) (h : History) (f : Facts w h) where
  -- a queued post is of an open identifier
  open_post : (p : Post) → PostIsRecord w h p → (r : Request) × (slot w.host (smid_in p.descriptor) ≡ Open r)
  open_post p a = by_slot (slot w.host (smid_in p.descriptor)) refl a
    where
      by_slot : (x : Slot Request) → slot w.host (smid_in p.descriptor) ≡ x → PostIs w h p x → (r : Request) × (slot w.host (smid_in p.descriptor) ≡ Open r)
      by_slot Free e a = absurd a
      by_slot Parked e a = absurd a
      by_slot (Open r) e a = (r, e)

  positive : (p : Post) → PostIsRecord w h p → 1 ≤ smid_in p.descriptor
  positive p a = let o = open_post p a in let i = inside w h f (smid_in p.descriptor) o.0 o.1 in omega (arith, i)

  -- one of a SCSI IO is of a command
  scsi_low : (p : Post) → PostIsRecord w h p → kind_in p.descriptor ≡ Some post.ScsiIo → smid_in p.descriptor ≤ 256
  scsi_low p a k = by_slot (slot w.host (smid_in p.descriptor)) refl a
    where
      few : smid_in p.descriptor < 65536
      few = let o = open_post p a in let i = inside w h f (smid_in p.descriptor) o.0 o.1 in omega (arith, i)

      other : {T : Type 0} (c : PostKind) → c ≢ post.ScsiIo → p.descriptor ≡ post_descriptor c 0 (smid_in p.descriptor) 0 → T
      other c n e = let y = kind_posted c 0 (smid_in p.descriptor) 0 (omega arith) few in let z : Some c ≡ Some post.ScsiIo = sym y ∙ (ap kind_in (sym e) ∙ k) in let q : c ≡ post.ScsiIo = cc in absurd (n q)

      high_apart : post.HighPriority ≢ post.ScsiIo
      high_apart e = cc

      default_apart : post.Default ≢ post.ScsiIo
      default_apart e = cc

      by_slot : (x : Slot Request) → slot w.host (smid_in p.descriptor) ≡ x → PostIs w h p x → smid_in p.descriptor ≤ 256
      by_slot Free e a = absurd a
      by_slot Parked e a = absurd a
      by_slot (Open (request.Command n)) e a = let c = classed w h f (smid_in p.descriptor) (request.Command n) e in omega (arith, c)
      by_slot (Open (request.Abort n task)) e a = let z = a.0 in other post.HighPriority high_apart z.0
      by_slot (Open (request.TargetReset address)) e a = other post.HighPriority high_apart a.0
      by_slot (Open (request.Leave handle)) e a = let z = a.0 in other post.HighPriority high_apart z.0
      by_slot (Open (request.Page handle)) e a = other post.Default default_apart a.0
      by_slot (Open (request.Remove handle)) e a = other post.Default default_apart a.0
      by_slot (Open (request.Ack event context)) e a = other post.Default default_apart a.0
      by_slot (Open request.Notification) e a = other post.Default default_apart a.0
      by_slot (Open request.PortEnable) e a = other post.Default default_apart a.0

  -- ---- a work step

  to : (o x : Happening Ioc) → o ≡ x → Outboxes x.part → Outboxes o.part
  to o x e a = subst (λ (y : Happening Ioc). Outboxes y.part) (sym e) a

  -- the SCSI IO that an abort finds in the queue
  stopped_low : (i : Ioc) (task handle : ℕ) (stop : Post) → All (PostIsRecord w h) i.normal → find (tasks.is_scsi_post task handle) i.normal ≡ Some stop → (1 ≤ smid_in stop.descriptor) × (smid_in stop.descriptor ≤ 256)
  stopped_low i task handle stop a e =
      let r = found_all (PostIsRecord w h) (tasks.is_scsi_post task handle) i.normal stop e a in
      (positive stop r, scsi_low stop r (is_scsi (found_passes (tasks.is_scsi_post task handle) i.normal stop e)))
    where
      first : (a b : Bool) → (a && b) ≡ true → a ≡ true
      first true b e = refl
      first false b e = absurd (cc)

      is_scsi : tasks.is_scsi_post task handle stop ≡ true → kind_in stop.descriptor ≡ Some post.ScsiIo
      is_scsi t = let z = first _ _ (first _ _ t) in ap (λ b. if b then Some post.ScsiIo else (if flags_in stop.descriptor == flags_of post.HighPriority then Some post.HighPriority else (if flags_in stop.descriptor == flags_of post.Default then Some post.Default else None))) z

  pub works : (i : Ioc) (p : Post) (o : Happening Ioc) → Works i p o → PostIsRecord w h p → All (PostIsRecord w h) i.normal → Sound i → Outboxes i → Outboxes o.part
  works i p o (Dropped k e) r q s a = to o _ e a
  works i p o (Refuses k g d x e) r q s a = to o _ e (one i (say.ioc_queue_of i k p.descriptor) (say.framed (smid_in p.descriptor) (reply.Plain (function_in p.frame) (say.refusal_status g))) (short (smid_in p.descriptor) (reply.Plain (function_in p.frame) (say.refusal_status g)) (positive p r) (APlain (function_in p.frame) (say.refusal_status g))) a)
  works i p o (ScsiEnds status k c e) r q s a = to o _ e (one i (commands.scsi_queue i p) (say.scsi_ended (smid_in p.descriptor) (dev_handle_in p.frame) status) (low (smid_in p.descriptor) _ [] (positive p r) (scsi_low p r k)) a)
  works i p o (ScsiSends address plug expander phy k c b e) r q s a = to o _ e a
  works i p o (Stops stop k g e) r q s a =
      let l = stopped_low i (task_mid_in p.frame) (dev_handle_in p.frame) stop q g in
      to o _ e (one (commands.ends_scsi (record i { normal = filter (λ other. not (tasks.is_scsi_post (task_mid_in p.frame) (dev_handle_in p.frame) other)) i.normal }) stop IOC_STATUS_SCSI_TASK_TERMINATED) 0 (say.framed (smid_in p.descriptor) (say.task_ended (dev_handle_in p.frame) abort_task IOC_STATUS_SUCCESS 1))
      (short (smid_in p.descriptor) (say.task_ended (dev_handle_in p.frame) abort_task IOC_STATUS_SUCCESS 1) (positive p r) (ATask (dev_handle_in p.frame) abort_task IOC_STATUS_SUCCESS 0 1))
      (one (record i { normal = filter (λ other. not (tasks.is_scsi_post (task_mid_in p.frame) (dev_handle_in p.frame) other)) i.normal }) (commands.scsi_queue i stop) (say.scsi_ended (smid_in stop.descriptor) (dev_handle_in stop.frame) IOC_STATUS_SCSI_TASK_TERMINATED) (low (smid_in stop.descriptor) _ [] l.0 l.1) a))
  works i p o (AbortSends k g t e) r q s a = to o _ e a
  works i p o (AbortEnds k g t e) r q s a = to o _ e (one i 0 (say.framed (smid_in p.descriptor) (say.task_ended (dev_handle_in p.frame) abort_task IOC_STATUS_SUCCESS 0)) (short (smid_in p.descriptor) (say.task_ended (dev_handle_in p.frame) abort_task IOC_STATUS_SUCCESS 0) (positive p r) (ATask (dev_handle_in p.frame) abort_task IOC_STATUS_SUCCESS 0 0)) a)
  works i p o (ResetSends address plug expander phy k b e) r q s a = to o _ e a
  works i p o (ResetHolds address k b t e) r q s a = to o _ e a
  works i p o (ResetEnds status k e) r q s a = to o _ e (one i 0 (say.framed (smid_in p.descriptor) (say.task_ended (dev_handle_in p.frame) target_reset status 0)) (short (smid_in p.descriptor) (say.task_ended (dev_handle_in p.frame) target_reset status 0) (positive p r) (ATask (dev_handle_in p.frame) target_reset status 0 0)) a)
  works i p o (TaskFails k e) r q s a = to o _ e (one i 0 _ (short (smid_in p.descriptor) _ (positive p r) (ATask (dev_handle_in p.frame) (task_type_in p.frame) _ tasks.not_supported 0)) a)
  works i p o (PageEnds status k e) r q s a = to o _ e (one i 0 (said.Framed (smid_in p.descriptor) (reply_frame (reply.Config (action_in p.frame) (ext_page_type_in p.frame) status)) [] []) (short (smid_in p.descriptor) (reply.Config (action_in p.frame) (ext_page_type_in p.frame) status) (positive p r) (AConfig (action_in p.frame) (ext_page_type_in p.frame) status)) a)
  works i p o (PageGiven page k g e) r q s a = to o _ e (one i 0 (said.Framed (smid_in p.descriptor) (reply_frame (reply.Config (action_in p.frame) (ext_page_type_in p.frame) IOC_STATUS_SUCCESS)) (config.page_given p.frame page) []) (given (page_number_in p.frame == 0) g) a)
    where
      of_page : (handle : ℕ) (b : Binding) → BindingFits b → config.page_of handle b ≡ Some page → FrameIsWritten (smid_in p.descriptor) (reply_frame (reply.Config (action_in p.frame) (ext_page_type_in p.frame) IOC_STATUS_SUCCESS)) (config.page_given p.frame page)
      of_page handle binding.Unbound d e = absurd (cc)
      of_page handle (binding.Gone address) d e = absurd (cc)
      of_page handle (binding.Present address plug expander phy) d e =
          let y = d.1 in let z : config.page_bytes handle address expander phy ≡ page = cc in
          subst (λ x. FrameIsWritten (smid_in p.descriptor) (reply_frame (reply.Config (action_in p.frame) (ext_page_type_in p.frame) IOC_STATUS_SUCCESS)) (config.page_given p.frame x)) z
          (page_stands (smid_in p.descriptor) handle address expander phy (page_buffer_in p.frame) (action_in p.frame) IOC_STATUS_SUCCESS p.frame (positive p r) y.0 (reply.Config (action_in p.frame) (ext_page_type_in p.frame) IOC_STATUS_SUCCESS) (AConfig (action_in p.frame) (ext_page_type_in p.frame) IOC_STATUS_SUCCESS))

      at_handle : (o : Option ℕ) → config.page_at i o ≡ Some page → FrameIsWritten (smid_in p.descriptor) (reply_frame (reply.Config (action_in p.frame) (ext_page_type_in p.frame) IOC_STATUS_SUCCESS)) (config.page_given p.frame page)
      at_handle None e = absurd (cc)
      at_handle (Some handle) e = of_page handle (table.binding_of i handle) (binding_fits i handle s) e

      given : (b : Bool) → (if b then config.page_at i (config.handle_asked i p.frame) else None) ≡ Some page → FrameIsWritten (smid_in p.descriptor) (reply_frame (reply.Config (action_in p.frame) (ext_page_type_in p.frame) IOC_STATUS_SUCCESS)) (config.page_given p.frame page)
      given false e = absurd (cc)
      given true e = at_handle (config.handle_asked i p.frame) e
  works i p o (Enables k n e) r q s a = to o _ e a
  works i p o (Notifies k e) r q s a = to o _ e (one i 0 (say.framed (smid_in p.descriptor) reply.Notified) (short (smid_in p.descriptor) reply.Notified (positive p r) ANotice) a)
  works i p o (Acks k t e) r q s a = to o _ e (one i 0 (say.framed (smid_in p.descriptor) (reply.Plain (byte_of function.EventAck) IOC_STATUS_SUCCESS)) (short (smid_in p.descriptor) (reply.Plain (byte_of function.EventAck) IOC_STATUS_SUCCESS) (positive p r) (APlain (byte_of function.EventAck) IOC_STATUS_SUCCESS)) a)
  works i p o (EndsPlainly g status k e) r q s a = to o _ e (one i 0 (say.framed (smid_in p.descriptor) (reply.Plain g status)) (short (smid_in p.descriptor) (reply.Plain g status) (positive p r) (APlain g status)) a)
  works i p o (RemovalEnds status k e) r q s a = to o _ e (one i 0 (say.framed (smid_in p.descriptor) (reply.Removed (controlled_handle_in p.frame) (operation_in p.frame) status)) (short (smid_in p.descriptor) (reply.Removed (controlled_handle_in p.frame) (operation_in p.frame) status) (positive p r) (ARemoval (controlled_handle_in p.frame) (operation_in p.frame) status)) a)
  works i p o (Removes address k g b c e) r q s a =
      to o _ e (binds_first (ask.ioc_ends_removal (table.with_binding i (controlled_handle_in p.frame) binding.Unbound) p IOC_STATUS_SUCCESS) i.waiting
      (record { context = s.context; bindings = unbound_fits; few = Rattle.std.proofs.Common.length-set i.bindings (controlled_handle_in p.frame - table.first_handle) binding.Unbound ∙ s.few; waiting = s.waiting; phys = s.phys }) s.waiting
      (one (table.with_binding i (controlled_handle_in p.frame) binding.Unbound) 0 (say.framed (smid_in p.descriptor) (reply.Removed (controlled_handle_in p.frame) (operation_in p.frame) IOC_STATUS_SUCCESS)) (short (smid_in p.descriptor) (reply.Removed (controlled_handle_in p.frame) (operation_in p.frame) IOC_STATUS_SUCCESS) (positive p r) (ARemoval (controlled_handle_in p.frame) (operation_in p.frame) IOC_STATUS_SUCCESS)) a))
    where
      unbound_fits : All BindingFits (set i.bindings (controlled_handle_in p.frame - table.first_handle) binding.Unbound)
      unbound_fits = all_set BindingFits i.bindings (controlled_handle_in p.frame - table.first_handle) binding.Unbound s.bindings tt
  works i p o (Strays k x e) r q s a = to o _ e a
