-- Each case keeps that what the controller keeps of an identifier at the fabric, and what is on its way there, is of the identifier's record.
use Rattle.std.proofs.Common.{◌≡◌, ℕ, zero, suc, ◌+◌, ◌-◌, ◌%◌, ◌^◌, ◌<◌, ◌≤◌, ◌==◌, ◌&&◌, ◌||◌, ◌⊎◌, inl, inr, not, nat_lt, cond, Bool, true, false, if◌then◌else◌, List, [], ◌∷◌, ◌++◌, append_assoc, get_or, length, mod-lt, replicate, set, Option, Some, None, is_some, refl, ap, sym, ◌∙◌, subst, arith}
use Rattle.std.specs.Prelude.{All}
use Rattle.std.specs.FinMap as finmap
use Rattle.std.specs.List.{find, position}
use Rattle.std.proofs.lemmas.Bool.{eqb-true}
use Rattle.std.proofs.lemmas.List.{get_or_past}
use Rattle.std.proofs.lemmas.List.Elements.{All-append, All-get_or, All-head, All-nil, All-tail}
use Rattle.hex.specs.Hex.{IsBytes}
use Rattle.smid_pool.specs.Pool.{Free, Open, Parked, Slot}
use Rattle.config_pages.specs.ConfigAsk.{config_ask_layout, config_ask_values}
use Rattle.event_msgs.specs.EventAck.{event_ack_layout, event_ack_values}
use Rattle.event_msgs.specs.EventAsk.{event_ask_layout, event_ask_values}
use Rattle.ioc_msgs.specs.UnitControl.{unit_control_layout, unit_control_values}
use Rattle.scsi_msgs.specs.TaskAsk.{task_ask_layout, task_ask_values}
use Rattle.scsi_disk.specs.declared.command.Command.{Command}
use Rattle.scsi_disk.specs.declared.scsi_result.ScsiResult.{ScsiResult}
use Rattle.mpi_doorbell.specs.DoorRegisters.{is_fault}
use Rattle.mpi_doorbell.specs.declared.state.IocState.{IocState}
use Rattle.mpi_doorbell.specs.declared.state.IocState.TheVariants as ioc_state
use Rattle.mpi_rings.specs.RequestDescriptor.{flags_of}
use Rattle.mpi_rings.specs.declared.request_descriptor.PostKind.{PostKind}
use Rattle.mpi_rings.specs.declared.request_descriptor.PostKind.TheVariants as post
use Rattle.mpt_messages.specs.Function.{function_of}
use Rattle.mpt_messages.specs.HostFrames.{task_asked}
use Rattle.mpt_messages.specs.Refusal.{request_refusal}
use Rattle.mpt_messages.specs.declared.fault.MsgFault.{MsgFault}
use Rattle.mpt_messages.specs.declared.function.Function.{Function}
use Rattle.mpt_messages.specs.declared.function.Function.TheVariants as function
use Rattle.mpt_messages.specs.declared.host_ask.HostAsk.TheVariants as ask
use Rattle.mpt_messages.proofs.FrameStands.{host_frame_stands}
use Rattle.mpt_messages.proofs.HostFits.{ack_fits, notification_fits, page_fits, removal_fits, task_fits}
use Rattle.mpt_wire.specs.Handles.Bindings.{Plug}
use Rattle.mpt_wire.specs.Machine.State.{OpenRequest}
use Rattle.mpt_wire.specs.Messages.Fields as fields
use Rattle.mpt_wire.specs.Messages.Fields.{abort_task, controlled_handle_in, dev_handle_in, function_in, kind_in, msix_in, operation_in, post_descriptor, remove_device, smid_in, target_reset, task_mid_in, task_type_in}
use Rattle.mpt_trace.specs.declared.entry.Entry.{Entry}
use Rattle.mpt_trace.specs.declared.entry.Entry.TheVariants as entry
use Rattle.mpt_trace.specs.declared.item.Back.{Back}
use Rattle.mpt_trace.specs.declared.item.Back.TheVariants as back
use Rattle.mpt_trace.specs.declared.item.Down.{Down}
use Rattle.mpt_trace.specs.declared.item.Item.TheVariants as item
use Rattle.mpt_trace.specs.declared.item.Out.{Out}
use Rattle.mpt_trace.specs.declared.item.Out.TheVariants as out
use Rattle.mpt_trace.specs.declared.lane.LaneName.TheVariants as lane
use Rattle.mpt_rules.specs.declared.at_fabric.AtFabric.{AtFabric}
use Rattle.mpt_rules.specs.declared.at_fabric.AtFabric.TheVariants as at
use Rattle.mpt_rules.specs.declared.binding.Binding.{Binding}
use Rattle.mpt_rules.specs.declared.binding.Binding.TheVariants as binding
use Rattle.mpt_rules.specs.declared.binding.Waiting.{Waiting}
use Rattle.mpt_rules.specs.declared.post.Post.{Post}
use Rattle.mpt_rules.specs.declared.request.Request.{Request}
use Rattle.mpt_rules.specs.declared.request.Request.TheVariants as request
use Rattle.mpt_rules.specs.declared.status.TheConstants.{IOC_STATUS_BUSY, IOC_STATUS_CONFIG_INVALID_ACTION, IOC_STATUS_CONFIG_INVALID_TYPE, IOC_STATUS_INVALID_FIELD, IOC_STATUS_INVALID_SGL, IOC_STATUS_SUCCESS}
use Rattle.mpt_rules.specs.Host.Parts.{Cmd, host_queue_count}
use Rattle.mpt_rules.specs.Host.Posts.{command_asked, frame_asked}
use Rattle.mpt_rules.specs.Host.Returns.{after_sent}
use Rattle.mpt_rules.specs.Host.Takes.{hears_up, looks, stops}
use Rattle.mpt_rules.specs.Fabric.Calls as fab
use Rattle.mpt_rules.specs.Ioc.Back as from_back
use Rattle.mpt_rules.specs.Ioc.Back.{is_port_enable}
use Rattle.mpt_rules.specs.Ioc.Bindings as bind
use Rattle.mpt_rules.specs.Ioc.Commands as commands
use Rattle.mpt_rules.specs.Ioc.Configuration as config
use Rattle.mpt_rules.specs.Ioc.Parts.{Ioc}
use Rattle.mpt_rules.specs.Ioc.Replies as say
use Rattle.mpt_rules.specs.Ioc.Requests as asked
use Rattle.mpt_rules.specs.Ioc.Steps as step
use Rattle.mpt_rules.specs.Ioc.Tables as table
use Rattle.mpt_rules.specs.Ioc.Tables.{is_operational, is_post_of, request_at}
use Rattle.mpt_rules.specs.Ioc.Takes as adapter
use Rattle.mpt_rules.specs.Ioc.Tasks as tasks
use Rattle.mpt_rules.specs.Law.{NothingIsStrange}
use Rattle.mpt_rules.specs.World.Cases.{Case, entries, happens}
use Rattle.mpt_rules.specs.World.Counts.{how_many, one_if, queued_count}
use Rattle.mpt_rules.specs.World.Inputs.{host_told}
use Rattle.mpt_rules.specs.World.Lines.{is_high, normal_line, normal_posts, out_line}
use Rattle.mpt_rules.specs.World.State.{World, up_lane, up_on, with_up}
use Rattle.mpt_rules.proofs.Counts.{queued_count-append, queued_count-cons}
use Rattle.law_facts.specs.Clock.{is_linked_up, is_live}
use Rattle.law_facts.specs.Facts.{Facts}
use Rattle.law_facts.specs.Handles.{BindingIs, ResetIsOf}
use Rattle.law_facts.specs.History.{History, history_after}
use Rattle.law_facts.specs.Limits.{RecordFits}
use Rattle.law_facts.specs.Messages.{AbortAt, AbortSent, CommandAt, CommandPost, IsLiveTask, IsTarget, KeptIs, OutIs, PostIs, PostIsRecord, RequestIs}
use Rattle.law_facts.specs.Words.{is_bare, is_enable_asked, slot}
use Rattle.law_flights.proofs.Decode.{mid_asked}
use Rattle.law_flights.proofs.Descriptors.{kind_posted}
use Rattle.law_flights.proofs.HostHolds.{in_table}
use Rattle.law_flights.proofs.Tables.{get_or-set_any}
use Rattle.law_moves.proofs.Counted.{how_many-cons}
use Rattle.law_moves.proofs.CasesTold.{OwesTold, kept_told}
use Rattle.law_moves.proofs.IocTakes as leaf
use Rattle.law_moves.proofs.IocTakes.{Takes, takes}
use Rattle.law_lights.proofs.Ones.{some_of}
use Rattle.law_standing.proofs.FrameBytes.{field_lt, layout}
use Rattle.law_standing.proofs.PostsPass.{named}
use Rattle.law_messages.proofs.Agreeing.{all_first, all_last, all_more, handle_stays, not_both, same}
use Rattle.law_messages.proofs.Known.{inside}
use Rattle.law_messages.proofs.Leads.{Leads}
use Rattle.law_asked.proofs.AtFabric.{outs_stay}
use Rattle.law_asked.proofs.Firm.{Stay, firm_by_places, not_live_there, stays}
use Rattle.law_asked.proofs.Opened.{CommandOpened, opened}
use Rattle.law_asked.proofs.ReadBack as read
use Rattle.law_requests.specs.Bytes.{CommandsAreBytes, RequestsStand}

-- ---- frames

function_of_page : (s g : ℕ) → s ≤ 280 → g < 2 ^ 16 → function_of (function_in (frame_asked (ask.PageRead s g))) ≡ Some function.Config
unfolding config_ask_layout config_ask_values
function_of_page s g a l = ap (λ vs. function_of (get_or vs 3 0)) (host_frame_stands (ask.PageRead s g) (page_fits s g a l)).numbers

function_of_removal : (g : ℕ) → g < 2 ^ 16 → function_of (function_in (frame_asked (ask.Remove g))) ≡ Some function.UnitControl
unfolding unit_control_layout unit_control_values
function_of_removal g l = ap (λ vs. function_of (get_or vs 3 0)) (host_frame_stands (ask.Remove g) (removal_fits g l)).numbers

function_of_ack : (event context : ℕ) → event < 2 ^ 16 → context < 2 ^ 32 → function_of (function_in (frame_asked (ask.Ack event context))) ≡ Some function.EventAck
unfolding event_ack_layout event_ack_values
function_of_ack event context a l = ap (λ vs. function_of (get_or vs 2 0)) (host_frame_stands (ask.Ack event context) (ack_fits event context a l)).numbers

function_of_notice : function_of (function_in (frame_asked ask.Notification)) ≡ Some function.EventNotification
unfolding event_ask_layout event_ask_values
function_of_notice = ap (λ vs. function_of (get_or vs 2 0)) (host_frame_stands ask.Notification notification_fits).numbers

-- task management of a frame's own handle
task_bytes : (handle task_type task : ℕ) → IsBytes (frame_asked (ask.Task handle task_type task))
task_bytes handle task_type task = layout task_ask_layout (task_ask_values (task_asked handle task_type task)) (128 - 52)

handle_low : (frame : List ℕ) (task_type task : ℕ) → frame ≡ frame_asked (ask.Task (dev_handle_in frame) task_type task) → dev_handle_in frame < 2 ^ 16
handle_low frame task_type task e = field_lt frame 0 2 (subst IsBytes (sym e) (task_bytes (dev_handle_in frame) task_type task))

type_of_task : (handle task_type task : ℕ) → handle < 2 ^ 16 → Rattle.mpt_messages.specs.HostFrames.IsTask task_type task → task_type_in (frame_asked (ask.Task handle task_type task)) ≡ task_type
unfolding task_ask_layout task_ask_values
type_of_task handle task_type task l t = ap (λ vs. get_or vs 4 0) (host_frame_stands (ask.Task handle task_type task) (task_fits handle task_type task l t)).numbers

-- ---- a table of what is at the fabric

abbrev no_request : Option AtFabric
no_request = None

abbrev at_in : List (Option AtFabric) → ℕ → Option AtFabric
at_in xs zero = None
at_in xs (suc place) = get_or xs place None

none_in : (n s : ℕ) → at_in (replicate n no_request) s ≡ None
none_in n zero = refl
none_in n (suc s) = each n s
  where
    each : (n i : ℕ) → get_or (replicate n no_request) i None ≡ None
    each zero i = refl
    each (suc n) zero = refl
    each (suc n) (suc i) = each n i

requested_counts : (xs : List (Option AtFabric)) (s : ℕ) (x : AtFabric) → at_in xs s ≡ Some x → 1 ≤ how_many is_some xs
requested_counts xs zero x e = absurd (cc)
requested_counts xs (suc s) x e = by_place (nat_lt s (length xs)) refl
  where
    by_place : (b : Bool) → nat_lt s (length xs) ≡ b → 1 ≤ how_many is_some xs
    by_place true t = let l : s < length xs = grind (arith, t) in some_of is_some None xs s l (ap is_some e)
    by_place false t = let l : length xs ≤ s = grind (arith, t) in let z = get_or_past xs s no_request l in let q : no_request ≡ Some x = sym z ∙ e in absurd (cc)

below : (m n : ℕ) → m < n → nat_lt m n ≡ true
below m n l = grind (arith, l)

abbrev plug_at : ℕ → ℕ → Plug
plug_at a n = record { address = a; number = n }

same_address : (a n b m : ℕ) → Some (plug_at a n) ≡ Some (plug_at b m) → a ≡ b
same_address a n b m e = let q : plug_at a n ≡ plug_at b m = cc in ap (λ (p : Plug). p.address) q

above_zero : (n : ℕ) → (suc n == 0) ≡ false
above_zero n = grind arith

low_shift : (m s h2 : ℕ) → m < 256 → s < 65536 → msix_in (post_descriptor post.ScsiIo m s h2) ≡ m
low_shift m s h2 a b = omega (arith, a, b)

module _ (w : World) (h : History) (f : Facts w h) where
  -- ---- what is there stays its record's

  not_begun : (s : ℕ) (x : AtFabric) → request_at w.ioc s ≡ Some x → is_linked_up w ≡ true → ⊥
  not_begun s x e g =
      let b = (f.clock.tables_empty (not_live_there w h f g).2).requests in
      let c = requested_counts w.ioc.requests s x e in
      omega (arith, b, c)

  firm : (s : ℕ) (r : Request) (x : AtFabric) → slot w.host s ≡ Open r → request_at w.ioc s ≡ Some x → Rattle.law_asked.proofs.Firm.Firm w h s r
  firm s r x o e = firm_by_places w h f s r o (let q : one_if (is_some (request_at w.ioc s)) ≡ 1 = ap (λ y. one_if (is_some y)) e in omega (arith, q)) (not_begun s x e)

  module _ (v : World) (k : History) (l : Leads w h v.host k) where
    kept_moves : (s handle queue len : ℕ) (written : Option ℕ) (c : Option Cmd) (r : Option OpenRequest) → host_queue_count v.host ≡ host_queue_count w.host → KeptIs w s handle queue len written c r → KeptIs v s handle queue len written c r
    kept_moves s handle queue len written None r q a = absurd a
    kept_moves s handle queue len written (Some c) None q a = absurd a
    kept_moves s handle queue len written (Some c) (Some r) q a = (a.0, a.1 ∙ ap (λ n. (s - 1) % n) (sym q), a.2, a.3)

    command_stays : (s handle queue len : ℕ) (written : Option ℕ) → request_at w.ioc s ≡ Some (at.Command handle queue len written) → (x : Slot Request) → slot w.host s ≡ x → CommandAt w h s handle queue len written x → CommandAt v k s handle queue len written (slot v.host s)
    command_stays s handle queue len written e Free o a = absurd a
    command_stays s handle queue len written e Parked o a = absurd a
    command_stays s handle queue len written e (Open (request.Command n)) o a =
        let z = stays w h f v s (request.Command n) (firm s (request.Command n) _ o e) k l in
        subst (CommandAt v k s handle queue len written) (sym z.opens)
        (subst (λ c. KeptIs v s handle queue len written c (finmap.get k.machine.requests n)) (sym z.cmds)
        (subst (λ r. KeptIs v s handle queue len written (finmap.get w.host.cmds n) r) (sym z.opened) (kept_moves s handle queue len written (finmap.get w.host.cmds n) (finmap.get h.machine.requests n) z.queues a)))
    command_stays s handle queue len written e (Open (request.Abort n task)) o a = absurd a
    command_stays s handle queue len written e (Open (request.TargetReset address)) o a = absurd a
    command_stays s handle queue len written e (Open (request.Leave g)) o a = absurd a
    command_stays s handle queue len written e (Open (request.Page g)) o a = absurd a
    command_stays s handle queue len written e (Open (request.Remove g)) o a = absurd a
    command_stays s handle queue len written e (Open (request.Ack event context)) o a = absurd a
    command_stays s handle queue len written e (Open request.Notification) o a = absurd a
    command_stays s handle queue len written e (Open request.PortEnable) o a = absurd a

    abort_stays : (s handle : ℕ) → request_at w.ioc s ≡ Some (at.Abort handle) → (x : Slot Request) → slot w.host s ≡ x → AbortAt w handle x → AbortAt v handle (slot v.host s)
    abort_stays s handle e Free o a = absurd a
    abort_stays s handle e Parked o a = absurd a
    abort_stays s handle e (Open (request.Abort n task)) o a =
        let z = stays w h f v s (request.Abort n task) (firm s (request.Abort n task) _ o e) k l in
        subst (AbortAt v handle) (sym z.opens) (handle_stays handle (finmap.get w.host.cmds n) (finmap.get v.host.cmds n) z.cmds a)
    abort_stays s handle e (Open (request.Command n)) o a = absurd a
    abort_stays s handle e (Open (request.TargetReset address)) o a = absurd a
    abort_stays s handle e (Open (request.Leave g)) o a = absurd a
    abort_stays s handle e (Open (request.Page g)) o a = absurd a
    abort_stays s handle e (Open (request.Remove g)) o a = absurd a
    abort_stays s handle e (Open (request.Ack event context)) o a = absurd a
    abort_stays s handle e (Open request.Notification) o a = absurd a
    abort_stays s handle e (Open request.PortEnable) o a = absurd a

    target_stays : (s handle : ℕ) → request_at w.ioc s ≡ Some (at.TargetReset handle) → (x : Slot Request) → slot w.host s ≡ x → IsTarget x → IsTarget (slot v.host s)
    target_stays s handle e Free o a = absurd a
    target_stays s handle e Parked o a = absurd a
    target_stays s handle e (Open (request.TargetReset address)) o a = let z = stays w h f v s (request.TargetReset address) (firm s (request.TargetReset address) _ o e) k l in subst IsTarget (sym z.opens) tt
    target_stays s handle e (Open (request.Abort n task)) o a = absurd a
    target_stays s handle e (Open (request.Command n)) o a = absurd a
    target_stays s handle e (Open (request.Leave g)) o a = absurd a
    target_stays s handle e (Open (request.Page g)) o a = absurd a
    target_stays s handle e (Open (request.Remove g)) o a = absurd a
    target_stays s handle e (Open (request.Ack event context)) o a = absurd a
    target_stays s handle e (Open request.Notification) o a = absurd a
    target_stays s handle e (Open request.PortEnable) o a = absurd a

    enable_stays : (s : ℕ) → request_at w.ioc s ≡ Some at.PortEnable → (x : Slot Request) → slot w.host s ≡ x → is_enable_asked x ≡ true → is_enable_asked (slot v.host s) ≡ true
    enable_stays s e Free o a = absurd (cc)
    enable_stays s e Parked o a = absurd (cc)
    enable_stays s e (Open request.PortEnable) o a = let z = stays w h f v s request.PortEnable (firm s request.PortEnable _ o e) k l in ap is_enable_asked z.opens
    enable_stays s e (Open (request.TargetReset address)) o a = absurd (cc)
    enable_stays s e (Open (request.Abort n task)) o a = absurd (cc)
    enable_stays s e (Open (request.Command n)) o a = absurd (cc)
    enable_stays s e (Open (request.Leave g)) o a = absurd (cc)
    enable_stays s e (Open (request.Page g)) o a = absurd (cc)
    enable_stays s e (Open (request.Remove g)) o a = absurd (cc)
    enable_stays s e (Open (request.Ack event context)) o a = absurd (cc)
    enable_stays s e (Open request.Notification) o a = absurd (cc)

    requests_stay : (s : ℕ) → RequestIs v k s (request_at w.ioc s)
    requests_stay s = by_request (request_at w.ioc s) refl (f.messages.requests s)
      where
        by_request : (x : Option AtFabric) → request_at w.ioc s ≡ x → RequestIs w h s x → RequestIs v k s x
        by_request None e a = tt
        by_request (Some (at.Command handle queue len written)) e a = command_stays s handle queue len written e (slot w.host s) refl a
        by_request (Some (at.Abort handle)) e a = abort_stays s handle e (slot w.host s) refl a
        by_request (Some (at.TargetReset handle)) e a = target_stays s handle e (slot w.host s) refl a
        by_request (Some at.PortEnable) e a = enable_stays s e (slot w.host s) refl a

  -- ---- the controller's own part

  module _ (k : History) (l : Leads w h w.host k) (bytes : CommandsAreBytes h) where
    record AskedAt (requests : List (Option AtFabric)) (outs : List Out) : Type 0 where
      each : (s : ℕ) → RequestIs w k s (at_in requests s)
      sent : All (OutIs w k) outs

    abbrev Asked : Ioc → Type 0
    Asked i = AskedAt i.requests i.out

    at_is : (i : Ioc) (s : ℕ) → request_at i s ≡ at_in i.requests s
    at_is i zero = refl
    at_is i (suc s) = refl

    here : Asked w.ioc
    here = record { each = λ s. subst (RequestIs w k s) (at_is w.ioc s) (requests_stay w k l s); sent = all_last (OutIs w k) w.out w.ioc.out (outs_stay w h f w k l) }

    -- something of an identifier is there from now on, or nothing any more
    placed : (xs : List (Option AtFabric)) (s : ℕ) (y : Option AtFabric) → (1 ≤ s) ⊎ (y ≡ None) → RequestIs w k s y → ((q : ℕ) → RequestIs w k q (at_in xs q)) → (q : ℕ) → RequestIs w k q (at_in (set xs (s - 1) y) q)
    placed xs s y b r a zero = tt
    placed xs s y b r a (suc q) = subst (RequestIs w k (suc q)) (sym (get_or-set_any xs (s - 1) q y None)) (by_tests (q == (s - 1)) refl (nat_lt (s - 1) (length xs)) b)
      where
        by_tests : (c : Bool) → (q == (s - 1)) ≡ c → (d : Bool) → (1 ≤ s) ⊎ (y ≡ None) → RequestIs w k (suc q) (cond c (cond d y (get_or xs q None)) (get_or xs q None))
        by_tests false t d b = a (suc q)
        by_tests true t false b = a (suc q)
        by_tests true t true (inl m) = let u : s ≡ suc q = (let z = eqb-true q (s - 1) t in omega (arith, z, m)) in subst (λ n. RequestIs w k n y) u r
        by_tests true t true (inr n) = subst (RequestIs w k (suc q)) (sym n) tt

    without : (i : Ioc) (s : ℕ) → Asked i → Asked (table.without_request i s)
    without i s a = record { each = placed i.requests s None (inr refl) tt a.each; sent = a.sent }

    sends : (i : Ioc) (s : ℕ) (x : AtFabric) (y : Out) → 1 ≤ s → RequestIs w k s (Some x) → OutIs w k y → Asked i → Asked (table.with_request (say.with_out_item i y) s x)
    sends i s x y m r o a = record { each = placed i.requests s (Some x) (inl m) r a.each; sent = all_more (OutIs w k) i.out y a.sent o }

    -- ---- what is told of disks

    changes : (i : Ioc) (handle expander phy : ℕ) (added : Bool) → Asked i → Asked (bind.changes i handle expander phy added)
    changes i handle expander phy added a = by_through i.through
      where
        by_through : (b : Bool) → Asked (if b then bind.tells_change i handle expander phy added else i)
        by_through true = a
        by_through false = a

    binds_to : (i : Ioc) (disk : Waiting) (o : Option ℕ) → Asked i → Asked (bind.binds_to i disk o).part
    binds_to i disk None a = a
    binds_to i disk (Some handle) a = changes (table.with_binding i handle (binding.Present disk.address disk.plug disk.expander disk.phy)) handle disk.expander disk.phy true a

    binds_first : (i : Ioc) (ds : List Waiting) → Asked i → Asked (bind.binds_first i ds).part
    binds_first i [] a = a
    binds_first i (d ∷ ds) a = binds_to (record i { waiting = ds }) d (table.least_unbound (record i { waiting = ds })) a

    loses : (i : Ioc) (handle : ℕ) (b : Binding) → Asked i → Asked (bind.ioc_loses i handle b)
    loses i handle binding.Unbound a = a
    loses i handle (binding.Gone address) a = a
    loses i handle (binding.Present address plug expander phy) a = changes (table.with_binding i handle (binding.Gone address)) handle expander phy false a

    either : (b : Bool) (x y : Ioc) → Asked x → Asked y → Asked (if b then x else y)
    either true x y a c = a
    either false x y a c = c

    -- ---- an item of the fabric

    released : (i : Ioc) (handle : ℕ) → Asked i → Asked (commands.releases i handle)
    released i handle a = either (table.has_commands i handle) i (commands.answers_held i handle) a a

    performed : (tag : ℕ) (r : ScsiResult) (o : Option AtFabric) → Asked (from_back.takes_result w.ioc tag r o)
    performed tag r None = here
    performed tag r (Some (at.Command handle queue len written)) = released (say.says_on (table.without_request w.ioc tag) queue _) handle (without w.ioc tag here)
    performed tag r (Some (at.Abort handle)) = here
    performed tag r (Some (at.TargetReset handle)) = here
    performed tag r (Some at.PortEnable) = here

    ended : (tag status : ℕ) (o : Option AtFabric) → Asked (from_back.takes_end w.ioc tag status o)
    ended tag status None = here
    ended tag status (Some (at.Command handle queue len written)) = released (say.says_on (table.without_request w.ioc tag) queue _) handle (without w.ioc tag here)
    ended tag status (Some (at.Abort handle)) = here
    ended tag status (Some (at.TargetReset handle)) = here
    ended tag status (Some at.PortEnable) = here

    aborted : (s : ℕ) (found : Bool) (o : Option AtFabric) → Asked (from_back.takes_aborted w.ioc s found o)
    aborted s found None = here
    aborted s found (Some (at.Command handle queue len written)) = here
    aborted s found (Some (at.Abort handle)) = without w.ioc s here
    aborted s found (Some (at.TargetReset handle)) = here
    aborted s found (Some at.PortEnable) = here

    cleared : (s count : ℕ) (o : Option AtFabric) → Asked (from_back.takes_cleared w.ioc s count o)
    cleared s count None = here
    cleared s count (Some (at.Command handle queue len written)) = here
    cleared s count (Some (at.Abort handle)) = here
    cleared s count (Some (at.TargetReset handle)) = without w.ioc s here
    cleared s count (Some at.PortEnable) = here

    discovered : (o : Option ℕ) → Asked (from_back.takes_discovered w.ioc o)
    discovered None = here
    discovered (Some place) = without w.ioc (place + 1) here

    plugged : (disk : Waiting) (b : Bool) → Asked (if b then table.silently w.ioc else bind.binds w.ioc disk).part
    plugged disk true = here
    plugged disk false = binds_to w.ioc disk (table.least_unbound w.ioc) here

    unplugged : (address : ℕ) (o : Option ℕ) → Asked (bind.ioc_unplugs_from w.ioc address o)
    unplugged address None = here
    unplugged address (Some handle) = loses w.ioc handle (table.binding_of w.ioc handle) here

    heard : (x : Back) → Asked (from_back.hears w.ioc x).part
    heard (back.Result tag r) = performed tag r (request_at w.ioc tag)
    heard (back.Gone tag) = ended tag _ (request_at w.ioc tag)
    heard (back.Terminated tag) = ended tag _ (request_at w.ioc tag)
    heard (back.Aborted smid found) = aborted smid found (request_at w.ioc smid)
    heard (back.Cleared smid count) = cleared smid count (request_at w.ioc smid)
    heard (back.Plugged address plug expander phy) = plugged (record { address = address; plug = plug; expander = expander; phy = phy }) (bind.is_known w.ioc address || not (nat_lt expander (length w.ioc.phys)))
    heard (back.Unplugged address plug expander phy) = unplugged address (table.handle_of w.ioc address)
    heard back.Discovered = discovered (position is_port_enable w.ioc.requests)
    heard (back.Linked generation) = either (table.is_reset w.ioc.door.state && generation == w.ioc.generation) _ w.ioc here here
    heard back.Calm = either (is_fault w.ioc.door.state) w.ioc _ here here

    took_back : (x : Back) → Asked (adapter.takes_back w.ioc x).part
    took_back x = by_state (from_back.is_heard_in w.ioc.door.state x)
      where
        by_state : (c : Bool) → Asked (if c then from_back.hears w.ioc x else table.silently w.ioc).part
        by_state true = heard x
        by_state false = here

    -- ---- what the host sends

    same_asked : (i : Ioc) → i.requests ≡ w.ioc.requests → i.out ≡ w.ioc.out → Asked i
    same_asked i e g = record { each = subst (λ xs. (s : ℕ) → RequestIs w k s (at_in xs s)) (sym e) (here).each; sent = subst (All (OutIs w k)) (sym g) (here).sent }

    took_down : (x : Down) (i : Ioc) → Takes w.ioc x i → is_fault i.door.state ≡ false → Asked i
    took_down x i (leaf.Faults y m e) n = not_both (is_fault i.door.state) n e
    took_down x i (leaf.Written reg value m r s e) n = same_asked i (ap (λ (y : Ioc). y.requests) e) (ap (λ (y : Ioc). y.out) e)
    took_down x i (leaf.Operates value m r s t e) n = same_asked i (ap (λ (y : Ioc). y.requests) e) (ap (λ (y : Ioc). y.out) e)
    took_down x i (leaf.Forgets reg value d e) n = record { each = λ s. subst (RequestIs w k s) (sym (none_in 280 s)) tt; sent = all_more (OutIs w k) [] _ (All-nil (OutIs w k)) tt }
    took_down x i (leaf.Reads reg value) n = here
    took_down x i (leaf.Posts d g p m o e) n = same_asked i (ap (λ (y : Ioc). y.requests) e) (ap (λ (y : Ioc). y.out) e)
    took_down x i (leaf.DropsPost d g p e) n = here
    took_down x i (leaf.Returns address index m o e) n = same_asked i (ap (λ (y : Ioc). y.requests) e) (ap (λ (y : Ioc). y.out) e)
    took_down x i (leaf.DropsReturn address index e) n = here
    took_down x i leaf.Stops n = record { each = (here).each; sent = all_more (OutIs w k) w.ioc.out out.Stop (here).sent tt }

    -- ---- its work

    module _ (i : Ioc) (p : Post) (a : Asked i) (binding_is : (g : ℕ) → table.binding_of i g ≡ table.binding_of w.ioc g) (vectors_is : i.vectors ≡ w.ioc.vectors) (its : PostIsRecord w h p) (live : is_live w ≡ true) (not_begun_now : is_linked_up w ≡ true → ⊥)
        (there : 1 ≤ queued_count (smid_in p.descriptor) w.ioc.high + (queued_count (smid_in p.descriptor) w.ioc.normal + (one_if (is_some (request_at w.ioc (smid_in p.descriptor))) + how_many (Rattle.mpt_rules.specs.Ioc.Tables.is_held_as (smid_in p.descriptor)) w.ioc.held)))
        (in_normal_line : kind_in p.descriptor ≡ Some post.ScsiIo → 1 ≤ queued_count (smid_in p.descriptor) (normal_line w)) (bound : kind_in p.descriptor ≡ Some post.HighPriority → ResetIsOf w p (slot w.host (smid_in p.descriptor))) where
      kept_record : (r : Request) → slot w.host (smid_in p.descriptor) ≡ Open r → Stay w h w k (smid_in p.descriptor) r
      kept_record r o = stays w h f w (smid_in p.descriptor) r (firm_by_places w h f (smid_in p.descriptor) r o there not_begun_now) k l

      low : (r : Request) → slot w.host (smid_in p.descriptor) ≡ Open r → (1 ≤ smid_in p.descriptor) × (smid_in p.descriptor ≤ 280)
      low r o = inside w h f (smid_in p.descriptor) r o

      kinds : (K : PostKind) → kind_in p.descriptor ≡ Some K → ((g : MsgFault) → Asked (step.refuses i p K g)) → (request_refusal (step.way_of K) p.frame ≡ None → Asked (step.works_as i p K).part) → Asked (step.works_on i p).part
      kinds K e x y = subst (λ o. Asked (step.works_kind i p o).part) (sym e) (by_refusal (request_refusal (step.way_of K) p.frame) refl)
        where
          by_refusal : (o : Option MsgFault) → request_refusal (step.way_of K) p.frame ≡ o → Asked (step.works_unless i p K o).part
          by_refusal (Some g) q = x g
          by_refusal None q = y q

      -- ---- a command

      module _ (n : ℕ) (o : slot w.host (smid_in p.descriptor) ≡ Open (request.Command n)) (x : PostIs w h p (Open (request.Command n))) (c : CommandOpened w h n (smid_in p.descriptor)) where
        made : CommandPost w p (Some c.cmd) (Some c.request)
        made = subst (CommandPost w p (Some c.cmd)) c.asked (subst (λ y. CommandPost w p y (finmap.get h.machine.requests n)) c.named x)

        cmd_low : (1 ≤ c.cmd.smid) × (c.cmd.smid ≤ 256)
        cmd_low = let e = c.smid in let q = c.least in let m = c.most in (omega (arith, e, q), omega (arith, e, m))

        handle_is : Rattle.removal.specs.Handles.IsHandle c.cmd.handle
        handle_is = f.limits.cmds n c.cmd c.named

        handle_short : c.cmd.handle < 2 ^ 16
        handle_short = let q = handle_is in omega (arith, q)

        fit : Rattle.scsi_disk.specs.Command.fits c.request.command ≡ true
        fit = (f.messages.named n).fit c.request c.asked

        of_bytes : IsBytes c.request.command.cdb × (c.request.command.lun ≡ 0)
        of_bytes = bytes n c.request c.asked

        read_handle : dev_handle_in p.frame ≡ c.cmd.handle
        read_handle = let m = made in ap dev_handle_in m.1 ∙ read.handle_read c.request.command fit of_bytes.0 c.cmd.smid c.cmd.handle cmd_low.0 cmd_low.1 handle_short of_bytes.1

        read_command : commands.command_in p.frame p.payload ≡ c.request.command
        read_command = let m = made in ap (λ g. commands.command_in g p.payload) m.1 ∙ (ap (commands.command_in (frame_asked (command_asked c.cmd.smid c.cmd.handle c.request.command))) m.2 ∙ read.command_read c.request.command fit of_bytes.0 c.cmd.smid c.cmd.handle cmd_low.0 cmd_low.1 handle_short of_bytes.1)

        few_queues : (c.cmd.smid - 1) % host_queue_count w.host < host_queue_count w.host
        few_queues = let q = f.flights.sizes.some_queue in let pos : 0 < host_queue_count w.host = omega (arith, q) in mod-lt (c.cmd.smid - 1) pos

        is_kind : kind_in p.descriptor ≡ Some post.ScsiIo
        is_kind = let m = made in let q = few_queues in let y = f.flights.sizes.few_queues in let z = cmd_low in ap kind_in m.0 ∙ kind_posted post.ScsiIo ((c.cmd.smid - 1) % host_queue_count w.host) c.cmd.smid c.cmd.handle (omega (arith, q, y)) (omega (arith, z))

        queue_is : commands.scsi_queue i p ≡ (smid_in p.descriptor - 1) % host_queue_count w.host
        queue_is =
            let m = made in let q = few_queues in let y = f.flights.sizes.few_queues in let z = cmd_low in
            let x : msix_in p.descriptor ≡ (c.cmd.smid - 1) % host_queue_count w.host = ap msix_in m.0 ∙ low_shift ((c.cmd.smid - 1) % host_queue_count w.host) c.cmd.smid c.cmd.handle (omega (arith, q, y)) (omega (arith, z)) in
            let b : i.vectors ≡ host_queue_count w.host = vectors_is ∙ f.doorbell.init_queues live in
            let t : nat_lt (msix_in p.descriptor) i.vectors ≡ true = below (msix_in p.descriptor) i.vectors (omega (arith, x, b, q)) in
            ap (λ d. if d then msix_in p.descriptor else 0) t ∙ (x ∙ ap (λ s. (s - 1) % host_queue_count w.host) c.smid)

        sent_command : (address plug expander phy : ℕ) → table.binding_of i (dev_handle_in p.frame) ≡ binding.Present address plug expander phy → Asked (commands.sends_command i p address (commands.command_in p.frame p.payload))
        sent_command address plug expander phy b =
            sends i (smid_in p.descriptor) (commands.kept_of (dev_handle_in p.frame) (commands.scsi_queue i p) (commands.command_in p.frame p.payload)) (out.Task (smid_in p.descriptor) address (commands.command_in p.frame p.payload)) c.least its_request its_task a
          where
            z : Stay w h w k (smid_in p.descriptor) (request.Command n)
            z = kept_record (request.Command n) o

            its_request : CommandAt w k (smid_in p.descriptor) (dev_handle_in p.frame) (commands.scsi_queue i p) (commands.command_in p.frame p.payload).len (commands.written_by (commands.command_in p.frame p.payload)) (slot w.host (smid_in p.descriptor))
            its_request =
                subst (CommandAt w k (smid_in p.descriptor) (dev_handle_in p.frame) (commands.scsi_queue i p) (commands.command_in p.frame p.payload).len (commands.written_by (commands.command_in p.frame p.payload))) (sym o)
                (subst (λ y. KeptIs w (smid_in p.descriptor) (dev_handle_in p.frame) (commands.scsi_queue i p) (commands.command_in p.frame p.payload).len (commands.written_by (commands.command_in p.frame p.payload)) y (finmap.get k.machine.requests n)) (sym c.named)
                (subst (λ y. KeptIs w (smid_in p.descriptor) (dev_handle_in p.frame) (commands.scsi_queue i p) (commands.command_in p.frame p.payload).len (commands.written_by (commands.command_in p.frame p.payload)) (Some c.cmd) y) (sym (z.opened ∙ c.asked))
                (read_handle, queue_is, ap (λ (y : Command). y.len) read_command, ap commands.written_by read_command)))

            address_is : address ≡ c.request.address
            address_is =
                let g = subst (λ y. BindingIs y (h.serving.bound c.cmd.handle)) (sym (binding_is c.cmd.handle) ∙ (ap (table.binding_of i) (sym read_handle) ∙ b)) (f.handles.each c.cmd.handle handle_is).binds.served in
                let u = f.handles.bound n c.cmd c.request live c.named c.asked (way) in
                same_address address plug c.request.address c.request.plug (sym g ∙ u)
              where
                way : (not (queued_count c.cmd.smid (normal_line w) == 0) || Rattle.law_facts.specs.Words.is_command (request_at w.ioc c.cmd.smid)) ≡ true
                way = let q = in_normal_line is_kind in let e = c.smid in let d : 1 ≤ queued_count c.cmd.smid (normal_line w) = subst (λ j. 1 ≤ queued_count j (normal_line w)) (sym e) q in by_count (queued_count c.cmd.smid (normal_line w)) d
                  where
                    by_count : (m : ℕ) → 1 ≤ m → (not (m == 0) || Rattle.law_facts.specs.Words.is_command (request_at w.ioc c.cmd.smid)) ≡ true
                    by_count zero d = absurd (omega (arith, d))
                    by_count (suc m) d = let e = above_zero m in ap (λ t. not t || Rattle.law_facts.specs.Words.is_command (request_at w.ioc c.cmd.smid)) e

            its_task : IsLiveTask address (commands.command_in p.frame p.payload) (k.walk (smid_in p.descriptor)).known.live
            its_task = subst (IsLiveTask address (commands.command_in p.frame p.payload)) (sym (z.live ∙ c.live)) (address_is, read_command)

        worked_command : Asked (step.works_on i p).part
        worked_command = kinds post.ScsiIo is_kind (λ g. a) (λ r. by_tests (Rattle.mpt_wire.specs.Messages.Fields.handle_in p.descriptor == dev_handle_in p.frame) (commands.is_inconsistent p.frame p.payload) (table.binding_of i (dev_handle_in p.frame)) refl)
          where
            by_tests : (b d : Bool) (e : Binding) → table.binding_of i (dev_handle_in p.frame) ≡ e → Asked (if not b then commands.ends_scsi i p IOC_STATUS_INVALID_FIELD else if d then commands.ends_scsi i p IOC_STATUS_INVALID_SGL else commands.serves_scsi i p e)
            by_tests false d e q = a
            by_tests true true e q = a
            by_tests true false binding.Unbound q = a
            by_tests true false (binding.Gone address) q = a
            by_tests true false (binding.Present address plug expander phy) q = sent_command address plug expander phy q

      -- ---- task management

      high_kind : (r : Request) → slot w.host (smid_in p.descriptor) ≡ Open r → p.descriptor ≡ post_descriptor post.HighPriority 0 (smid_in p.descriptor) 0 → kind_in p.descriptor ≡ Some post.HighPriority
      high_kind r o e = let j = low r o in ap kind_in e ∙ kind_posted post.HighPriority 0 (smid_in p.descriptor) 0 (omega arith) (omega (arith, j))

      task_of_type : (task_type : ℕ) → task_type_in p.frame ≡ task_type → (b d : Bool) → (task_type == abort_task) ≡ b → (task_type == target_reset) ≡ d
          → Asked (if b then tasks.ioc_aborts i (smid_in p.descriptor) (task_mid_in p.frame) (dev_handle_in p.frame) else if d then tasks.ioc_resets_target i (smid_in p.descriptor) (dev_handle_in p.frame) (table.binding_of i (dev_handle_in p.frame)) else tasks.fails_task i (smid_in p.descriptor) (dev_handle_in p.frame) (task_type_in p.frame))
          → Asked (tasks.works_task i p)
      task_of_type t e b d x y z =
          subst (λ c. Asked (if c then tasks.ioc_aborts i (smid_in p.descriptor) (task_mid_in p.frame) (dev_handle_in p.frame) else if task_type_in p.frame == target_reset then tasks.ioc_resets_target i (smid_in p.descriptor) (dev_handle_in p.frame) (table.binding_of i (dev_handle_in p.frame)) else tasks.fails_task i (smid_in p.descriptor) (dev_handle_in p.frame) (task_type_in p.frame))) (sym (ap (λ n. n == abort_task) e ∙ x))
          (subst (λ c. Asked (if b then tasks.ioc_aborts i (smid_in p.descriptor) (task_mid_in p.frame) (dev_handle_in p.frame) else if c then tasks.ioc_resets_target i (smid_in p.descriptor) (dev_handle_in p.frame) (table.binding_of i (dev_handle_in p.frame)) else tasks.fails_task i (smid_in p.descriptor) (dev_handle_in p.frame) (task_type_in p.frame))) (sym (ap (λ n. n == target_reset) e ∙ y)) z)

      worked_abort : (n task : ℕ) → slot w.host (smid_in p.descriptor) ≡ Open (request.Abort n task) → PostIs w h p (Open (request.Abort n task)) → Asked (step.works_on i p).part
      worked_abort n task o x =
          kinds post.HighPriority (high_kind (request.Abort n task) o x.0.0) (λ g. a)
          (λ r. task_of_type abort_task type_is true false refl refl (by_found (find (tasks.is_scsi_post (task_mid_in p.frame) (dev_handle_in p.frame)) i.normal)))
        where
          task_low : (1 ≤ task) × (task ≤ 256)
          task_low = named w h f (smid_in p.descriptor) n task o

          short : dev_handle_in p.frame < 2 ^ 16
          short = handle_low p.frame abort_task task x.0.1

          type_is : task_type_in p.frame ≡ abort_task
          type_is = let u = task_low in ap task_type_in x.0.1 ∙ type_of_task (dev_handle_in p.frame) abort_task task short (inl (refl, u.0, u.1))

          mid_is : task_mid_in p.frame ≡ task
          mid_is = let u = task_low in ap task_mid_in x.0.1 ∙ mid_asked (dev_handle_in p.frame) task short (omega (arith, u))

          sent : Asked (tasks.sends_abort i (smid_in p.descriptor) (task_mid_in p.frame) (dev_handle_in p.frame))
          sent =
              sends i (smid_in p.descriptor) (at.Abort (dev_handle_in p.frame)) (out.Abort (smid_in p.descriptor) (task_mid_in p.frame)) (low (request.Abort n task) o).0
              (subst (AbortAt w (dev_handle_in p.frame)) (sym o) x.1) (subst (AbortSent (task_mid_in p.frame)) (sym o) (sym mid_is)) a

          by_found : (q : Option Post) → Asked (tasks.ioc_aborts_if i (smid_in p.descriptor) (task_mid_in p.frame) (dev_handle_in p.frame) q)
          by_found (Some q) = a
          by_found None = either (table.is_command_of (dev_handle_in p.frame) (request_at i (task_mid_in p.frame))) (tasks.sends_abort i (smid_in p.descriptor) (task_mid_in p.frame) (dev_handle_in p.frame)) (tasks.ioc_ends_abort i (smid_in p.descriptor) (dev_handle_in p.frame) 0) sent a

      reset_type : p.frame ≡ frame_asked (ask.Task (dev_handle_in p.frame) target_reset 0) → task_type_in p.frame ≡ target_reset
      reset_type e = ap task_type_in e ∙ type_of_task (dev_handle_in p.frame) target_reset 0 (handle_low p.frame target_reset 0 e) (inr (refl, refl))

      worked_target : (address : ℕ) → slot w.host (smid_in p.descriptor) ≡ Open (request.TargetReset address) → PostIs w h p (Open (request.TargetReset address)) → Asked (step.works_on i p).part
      worked_target address o x =
          kinds post.HighPriority (high_kind (request.TargetReset address) o x.0) (λ g. a) (λ r. task_of_type target_reset (reset_type x.1) false true refl refl (by_binding (table.binding_of i (dev_handle_in p.frame)) refl))
        where
          its_bound : Rattle.law_facts.specs.Handles.address_of (table.binding_of w.ioc (dev_handle_in p.frame)) ≡ Some address
          its_bound = subst (ResetIsOf w p) o (bound (high_kind (request.TargetReset address) o x.0))

          by_binding : (b : Binding) → table.binding_of i (dev_handle_in p.frame) ≡ b → Asked (tasks.ioc_resets_target i (smid_in p.descriptor) (dev_handle_in p.frame) b)
          by_binding binding.Unbound e = a
          by_binding (binding.Gone g) e = either (table.has_commands i (dev_handle_in p.frame)) (record i { held = i.held ++ record { smid = smid_in p.descriptor; handle = dev_handle_in p.frame } ∷ [] }) (tasks.ends_target_reset i (smid_in p.descriptor) (dev_handle_in p.frame) IOC_STATUS_SUCCESS 0) a a
          by_binding (binding.Present g plug expander phy) e =
              sends i (smid_in p.descriptor) (at.TargetReset (dev_handle_in p.frame)) (out.TargetReset (smid_in p.descriptor) g) (low (request.TargetReset address) o).0
              (subst IsTarget (sym o) tt) (o ∙ ap (λ j. Open (request.TargetReset j)) (its_address (sym its_bound ∙ ap Rattle.law_facts.specs.Handles.address_of (sym (binding_is (dev_handle_in p.frame)) ∙ e)))) a
            where
              its_address : Some address ≡ Some g → address ≡ g
              its_address q = cc

      worked_leave : (g : ℕ) → slot w.host (smid_in p.descriptor) ≡ Open (request.Leave g) → PostIs w h p (Open (request.Leave g)) → Asked (step.works_on i p).part
      worked_leave g o x =
          kinds post.HighPriority (high_kind (request.Leave g) o x.0.0) (λ q. a) (λ r. task_of_type target_reset (reset_type x.0.1) false true refl refl (by_binding (table.binding_of i (dev_handle_in p.frame)) refl))
        where
          its_gone : Rattle.law_facts.specs.Handles.is_gone_handle w g ≡ true
          its_gone = subst (ResetIsOf w p) o (bound (high_kind (request.Leave g) o x.0.0))

          by_binding : (b : Binding) → table.binding_of i (dev_handle_in p.frame) ≡ b → Asked (tasks.ioc_resets_target i (smid_in p.descriptor) (dev_handle_in p.frame) b)
          by_binding binding.Unbound e = a
          by_binding (binding.Gone q) e = either (table.has_commands i (dev_handle_in p.frame)) (record i { held = i.held ++ record { smid = smid_in p.descriptor; handle = dev_handle_in p.frame } ∷ [] }) (tasks.ends_target_reset i (smid_in p.descriptor) (dev_handle_in p.frame) IOC_STATUS_SUCCESS 0) a a
          by_binding (binding.Present q plug expander phy) e =
              let z : Rattle.law_facts.specs.Handles.is_gone_handle w g ≡ false = ap Rattle.mpt_rules.specs.World.Weight.is_gone_binding (sym (ap (table.binding_of w.ioc) x.1) ∙ (sym (binding_is (dev_handle_in p.frame)) ∙ e)) in
              not_both (Rattle.law_facts.specs.Handles.is_gone_handle w g) z its_gone

      -- ---- the default kind

      page : Asked (config.works_config i p)
      page = by_tests (config.is_other_action p.frame) (config.is_other_type p.frame) (config.page_wanted i p.frame)
        where
          by_tests : (b d : Bool) (o : Option (List ℕ)) → Asked (if b then config.ends_config i p IOC_STATUS_CONFIG_INVALID_ACTION [] else if d then config.ends_config i p IOC_STATUS_CONFIG_INVALID_TYPE [] else config.gives_page i p o)
          by_tests true d o = a
          by_tests false true o = a
          by_tests false false None = a
          by_tests false false (Some page) = a

      ack : Asked (asked.works_ack i p)
      ack = either (asked.is_of_event i p.frame) _ _ a a

      removal : Asked (asked.works_unit_control i p).part
      removal = by_operation (operation_in p.frame == remove_device) (table.binding_of i (controlled_handle_in p.frame))
        where
          gone : (b : Bool) → Asked (if b then table.silently (asked.ioc_ends_removal i p IOC_STATUS_BUSY) else asked.removes i p).part
          gone true = a
          gone false = binds_first (asked.ioc_ends_removal (table.with_binding i (controlled_handle_in p.frame) binding.Unbound) p IOC_STATUS_SUCCESS) i.waiting a

          by_operation : (b : Bool) (d : Binding) → Asked (if b then asked.removes_if i p d else table.silently (asked.ioc_ends_removal i p IOC_STATUS_INVALID_FIELD)).part
          by_operation false d = a
          by_operation true binding.Unbound = a
          by_operation true (binding.Present address plug expander phy) = a
          by_operation true (binding.Gone address) = gone (table.has_commands i (controlled_handle_in p.frame))

      defaults : (g : Option Function) → (g ≡ Some function.PortEnable → ⊥) → Asked (step.works_default i p g).part
      defaults None n = a
      defaults (Some function.Config) n = page
      defaults (Some function.PortEnable) n = absurd (n refl)
      defaults (Some function.EventNotification) n = a
      defaults (Some function.EventAck) n = ack
      defaults (Some function.UnitControl) n = removal
      defaults (Some function.ScsiIo) n = a
      defaults (Some function.TaskManagement) n = a
      defaults (Some function.IocInit) n = a
      defaults (Some function.IocFacts) n = a
      defaults (Some function.PortFacts) n = a

      default_kind : (r : Request) → slot w.host (smid_in p.descriptor) ≡ Open r → p.descriptor ≡ post_descriptor post.Default 0 (smid_in p.descriptor) 0 → kind_in p.descriptor ≡ Some post.Default
      default_kind r o e = let j = low r o in ap kind_in e ∙ kind_posted post.Default 0 (smid_in p.descriptor) 0 (omega arith) (omega (arith, j))

      worked_default : (g : Function) → kind_in p.descriptor ≡ Some post.Default → function_of (function_in p.frame) ≡ Some g → (Some g ≡ Some function.PortEnable → ⊥) → Asked (step.works_on i p).part
      worked_default g e q n = kinds post.Default e (λ x. a) (λ r. subst (λ o. Asked (step.works_default i p o).part) (sym q) (defaults (Some g) n))

      worked_enable : slot w.host (smid_in p.descriptor) ≡ Open request.PortEnable → PostIs w h p (Open request.PortEnable) → Asked (step.works_on i p).part
      worked_enable o x = kinds post.Default (default_kind request.PortEnable o x.0) (λ g. a) (λ r. by_function (function_of (function_in p.frame)))
        where
          enabled : Asked (asked.works_enable i p)
          enabled =
              either i.enabled _ (asked.enables i (smid_in p.descriptor)) a
              (sends (record i { enabled = true }) (smid_in p.descriptor) at.PortEnable out.Discover (low request.PortEnable o).0 (ap is_enable_asked o) tt a)

          by_function : (g : Option Function) → Asked (step.works_default i p g).part
          by_function None = a
          by_function (Some function.Config) = page
          by_function (Some function.PortEnable) = enabled
          by_function (Some function.EventNotification) = a
          by_function (Some function.EventAck) = ack
          by_function (Some function.UnitControl) = removal
          by_function (Some function.ScsiIo) = a
          by_function (Some function.TaskManagement) = a
          by_function (Some function.IocInit) = a
          by_function (Some function.IocFacts) = a
          by_function (Some function.PortFacts) = a

      fits_of : (r : Request) → slot w.host (smid_in p.descriptor) ≡ Open r → RecordFits (Open r)
      fits_of r o =
          let x = in_table w.host.pool (smid_in p.descriptor) (Open r) o (λ e. absurd (cc)) in
          subst RecordFits (place_of w.host.pool (smid_in p.descriptor) x.0 ∙ o) (All-get_or RecordFits w.host.pool (smid_in p.descriptor - 1) Free x.1 f.limits.records)
        where
          place_of : (pool : List (Slot Request)) (s : ℕ) → 1 ≤ s → get_or pool (s - 1) Free ≡ Rattle.smid_pool.specs.Pool.slot_of pool s
          place_of pool zero l = absurd (omega (arith, l))
          place_of pool (suc s) l = let e : suc s - 1 ≡ s = omega arith in ap (λ j. get_or pool j Free) e

      worked : Asked (step.works_on i p).part
      worked = by_slot (slot w.host (smid_in p.descriptor)) refl its
        where
          by_slot : (x : Slot Request) → slot w.host (smid_in p.descriptor) ≡ x → PostIs w h p x → Asked (step.works_on i p).part
          by_slot Free o z = absurd z
          by_slot Parked o z = absurd z
          by_slot (Open (request.Command n)) o z = worked_command n o z (opened w h f n (smid_in p.descriptor) o)
          by_slot (Open (request.Abort n task)) o z = worked_abort n task o z
          by_slot (Open (request.TargetReset address)) o z = worked_target address o z
          by_slot (Open (request.Leave g)) o z = worked_leave g o z
          by_slot (Open (request.Page g)) o z = let j = low (request.Page g) o in let q = fits_of (request.Page g) o in worked_default function.Config (default_kind (request.Page g) o z.0) (ap (λ x. function_of (function_in x)) z.1 ∙ function_of_page (smid_in p.descriptor) g j.1 (let c = q.1 in omega (arith, c))) (λ e. cc)
          by_slot (Open (request.Remove g)) o z = let q = fits_of (request.Remove g) o in worked_default function.UnitControl (default_kind (request.Remove g) o z.0) (ap (λ x. function_of (function_in x)) z.1 ∙ function_of_removal g (let c = q.1 in omega (arith, c))) (λ e. cc)
          by_slot (Open (request.Ack event context)) o z = let q = fits_of (request.Ack event context) o in worked_default function.EventAck (default_kind (request.Ack event context) o z.0) (ap (λ x. function_of (function_in x)) z.1 ∙ function_of_ack event context (let c = q.0 in omega (arith, c)) q.1) (λ e. cc)
          by_slot (Open request.Notification) o z = worked_default function.EventNotification (default_kind request.Notification o z.0) (ap (λ x. function_of (function_in x)) z.1 ∙ function_of_notice) (λ e. cc)
          by_slot (Open request.PortEnable) o z = worked_enable o z

-- ---- the kinds of the posts of a queue

kind_low : (d : ℕ) → kind_in d ≡ Some post.ScsiIo → is_high d ≡ false
kind_low d e = by_flags (fields.flags_in d == flags_of post.ScsiIo) refl (fields.flags_in d == flags_of post.HighPriority) refl (fields.flags_in d == flags_of post.Default) e
  where
    by_flags : (a : Bool) → (fields.flags_in d == flags_of post.ScsiIo) ≡ a → (b : Bool) → (fields.flags_in d == flags_of post.HighPriority) ≡ b → (c : Bool) → (if a then Some post.ScsiIo else (if b then Some post.HighPriority else (if c then Some post.Default else None))) ≡ Some post.ScsiIo → b ≡ false
    by_flags a p false q c g = refl
    by_flags true p true q c g = let x : 0 ≡ 6 = sym (eqb-true (fields.flags_in d) (flags_of post.ScsiIo) p) ∙ eqb-true (fields.flags_in d) (flags_of post.HighPriority) q in absurd (omega (arith, x))
    by_flags false p true q c g = absurd (cc)

kind_is_high : (d : ℕ) → kind_in d ≡ Some post.HighPriority → is_high d ≡ true
kind_is_high d e = by_flags (fields.flags_in d == flags_of post.ScsiIo) (fields.flags_in d == flags_of post.HighPriority) (fields.flags_in d == flags_of post.Default) e
  where
    by_flags : (a b c : Bool) → (if a then Some post.ScsiIo else (if b then Some post.HighPriority else (if c then Some post.Default else None))) ≡ Some post.HighPriority → b ≡ true
    by_flags true b c g = absurd (cc)
    by_flags false true c g = refl
    by_flags false false true g = absurd (cc)
    by_flags false false false g = absurd (cc)

-- ---- each case

module _ (w : World) (h : History) (f : Facts w h) (bytes : CommandsAreBytes h) where
  unfoldable OnCase : World → List Entry → Type 0
  OnCase v t = is_fault v.ioc.door.state ≡ false → Leads w h v.host (history_after h t) → RequestsStand v (history_after h t)

  like : (v : World) (t : List Entry) → v.ioc ≡ w.ioc → v.out ≡ w.out → OnCase v t
  unfolding OnCase
  like v t e g n l =
      record {
        requests = λ s. subst (λ (i : Ioc). RequestIs v (history_after h t) s (request_at i s)) (sym e) (requests_stay w h f v (history_after h t) l s);
        out = subst (λ (xs : List Out). All (OutIs v (history_after h t)) (xs ++ v.ioc.out)) (sym g) (subst (λ (i : Ioc). All (OutIs v (history_after h t)) (w.out ++ i.out)) (sym e) (outs_stay w h f v (history_after h t) l));
      }

  by_asked : (i : Ioc) (v : World) (t : List Entry) (l : Leads w h w.host (history_after h t)) → Asked w h f (history_after h t) l bytes i → ((s : ℕ) → RequestIs w (history_after h t) s (request_at i s)) × All (OutIs w (history_after h t)) (w.out ++ i.out)
  by_asked i v t l a = (
    λ s. subst (RequestIs w (history_after h t) s) (sym (at_is w h f (history_after h t) l bytes i s)) (a.each s),
    All-append (OutIs w (history_after h t)) w.out i.out (all_first (OutIs w (history_after h t)) w.out w.ioc.out (outs_stay w h f w (history_after h t) l)) a.sent,
  )

  taken : (x : Down) (rest : List Down) → OnCase (record w { ioc = (adapter.takes_down w.ioc x).part; down = rest }) (entry.Take lane.Down (item.Down x) ∷ (adapter.takes_down w.ioc x).entries)
  unfolding OnCase
  taken x rest n l =
      let t = entry.Take lane.Down (item.Down x) ∷ (adapter.takes_down w.ioc x).entries in
      let z = by_asked (adapter.takes_down w.ioc x).part w t l (took_down w h f (history_after h t) l bytes x (adapter.takes_down w.ioc x).part (takes w.ioc f.doorbell.sound.waits f.clock.phase_table.whole x) n) in
      record { requests = z.0; out = z.1 }

  told : (x : Back) (rest : List Back) → OnCase (record w { ioc = (adapter.takes_back w.ioc x).part; back = rest }) (entry.Take lane.Back (item.Back x) ∷ (adapter.takes_back w.ioc x).entries)
  unfolding OnCase
  told x rest n l =
      let t = entry.Take lane.Back (item.Back x) ∷ (adapter.takes_back w.ioc x).entries in
      let z = by_asked (adapter.takes_back w.ioc x).part w t l (took_back w h f (history_after h t) l bytes x) in
      record { requests = z.0; out = z.1 }

  -- a controller with a post is OPERATIONAL
  live_with : {T : Type 0} (xs : List T) → (is_bare w.ioc.door.state ≡ true → xs ≡ []) → (x : T) (rest : List T) → xs ≡ x ∷ rest → is_live w ≡ true
  live_with {T} xs empty x rest e = by_state w.ioc.door.state refl
    where
      never : is_bare w.ioc.door.state ≡ true → ⊥
      never b = let z : x ∷ rest ≡ [] = sym e ∙ empty b in cc

      by_state : (s : IocState) → w.ioc.door.state ≡ s → is_operational s ≡ true
      by_state ioc_state.Operational q = refl
      by_state ioc_state.Ready q = absurd (never (ap is_bare q))
      by_state ioc_state.Reset q = absurd (never (ap is_bare q))
      by_state (ioc_state.Fault code) q = not_both (is_fault w.ioc.door.state) f.clock.phase_table.whole (ap is_fault q)

  not_linked : is_live w ≡ true → is_linked_up w ≡ true → ⊥
  not_linked l g = not_both (is_live w) (not_live_there w h f g).0 l

  counted : (p : Post) (rest : List Post) → 1 ≤ queued_count (smid_in p.descriptor) (p ∷ rest)
  counted p rest = let c = queued_count-cons (smid_in p.descriptor) p rest in let o : one_if (is_post_of (smid_in p.descriptor) p) ≡ 1 = ap one_if (same (smid_in p.descriptor)) in omega (arith, c, o)

  high : (p : Post) (rest : List Post) → w.ioc.high ≡ p ∷ rest → OnCase (record w { ioc = (step.works_on (record w.ioc { high = rest }) p).part }) (step.works_on (record w.ioc { high = rest }) p).entries
  unfolding OnCase
  high p rest e n l =
      let t = (step.works_on (record w.ioc { high = rest }) p).entries in
      let z = by_asked (step.works_on (record w.ioc { high = rest }) p).part w t l
      (worked w h f (history_after h t) l bytes (record w.ioc { high = rest }) p (here w h f (history_after h t) l bytes) (λ g. refl) refl (All-head (PostIsRecord w h) p rest (subst (All (PostIsRecord w h)) e f.messages.high)) live (not_linked live) there scsi (λ k. first)) in
      record { requests = z.0; out = z.1 }
    where
      live : is_live w ≡ true
      live = live_with w.ioc.high (λ b. (f.clock.tables_empty b).high) p rest e

      there : 1 ≤ queued_count (smid_in p.descriptor) w.ioc.high + (queued_count (smid_in p.descriptor) w.ioc.normal + (one_if (is_some (request_at w.ioc (smid_in p.descriptor))) + how_many (Rattle.mpt_rules.specs.Ioc.Tables.is_held_as (smid_in p.descriptor)) w.ioc.held))
      there = let c = counted p rest in let g = ap (queued_count (smid_in p.descriptor)) e in omega (arith, c, g)

      scsi : kind_in p.descriptor ≡ Some post.ScsiIo → 1 ≤ queued_count (smid_in p.descriptor) (normal_line w)
      scsi k =
          let g = kind_low p.descriptor k in
          let z = subst (λ xs. Rattle.law_facts.specs.Words.others (λ (y : Post). is_high y.descriptor) xs ≡ 0) e f.flights.sorted.high in
          let c = Rattle.law_moves.proofs.Counted.others-cons (λ (y : Post). is_high y.descriptor) p rest in
          let o : one_if (not (is_high p.descriptor)) ≡ 1 = ap (λ b. one_if (not b)) g in
          absurd (omega (arith, z, c, o))

      first : ResetIsOf w p (slot w.host (smid_in p.descriptor))
      first = All-head (Rattle.law_facts.specs.Handles.ResetIsBound w) p (rest ++ Rattle.mpt_rules.specs.World.Lines.high_posts (Rattle.mpt_rules.specs.World.Lines.down_line w)) (subst (λ xs. All (Rattle.law_facts.specs.Handles.ResetIsBound w) (xs ++ Rattle.mpt_rules.specs.World.Lines.high_posts (Rattle.mpt_rules.specs.World.Lines.down_line w))) e (f.handles.resets live))

  normal : (p : Post) (rest : List Post) → w.ioc.normal ≡ p ∷ rest → OnCase (record w { ioc = (step.works_on (record w.ioc { normal = rest }) p).part }) (step.works_on (record w.ioc { normal = rest }) p).entries
  unfolding OnCase
  normal p rest e n l =
      let t = (step.works_on (record w.ioc { normal = rest }) p).entries in
      let z = by_asked (step.works_on (record w.ioc { normal = rest }) p).part w t l
      (worked w h f (history_after h t) l bytes (record w.ioc { normal = rest }) p (here w h f (history_after h t) l bytes) (λ g. refl) refl (All-head (PostIsRecord w h) p rest (subst (All (PostIsRecord w h)) e f.messages.normal)) live (not_linked live) there (λ k. in_line) never) in
      record { requests = z.0; out = z.1 }
    where
      live : is_live w ≡ true
      live = live_with w.ioc.normal (λ b. (f.clock.tables_empty b).normal) p rest e

      queued : 1 ≤ queued_count (smid_in p.descriptor) w.ioc.normal
      queued = let c = counted p rest in let g = ap (queued_count (smid_in p.descriptor)) e in omega (arith, c, g)

      there : 1 ≤ queued_count (smid_in p.descriptor) w.ioc.high + (queued_count (smid_in p.descriptor) w.ioc.normal + (one_if (is_some (request_at w.ioc (smid_in p.descriptor))) + how_many (Rattle.mpt_rules.specs.Ioc.Tables.is_held_as (smid_in p.descriptor)) w.ioc.held))
      there = let q = queued in omega (arith, q)

      in_line : 1 ≤ queued_count (smid_in p.descriptor) (normal_line w)
      in_line = let a = queued_count-append (smid_in p.descriptor) w.ioc.normal (normal_posts (w.down ++ w.host.out)) in let q = queued in omega (arith, a, q)

      never : kind_in p.descriptor ≡ Some post.HighPriority → ResetIsOf w p (slot w.host (smid_in p.descriptor))
      never k =
          let g = kind_is_high p.descriptor k in
          let z = subst (λ xs. how_many (λ (y : Post). is_high y.descriptor) xs ≡ 0) e f.flights.sorted.normal in
          let c = how_many-cons (λ (y : Post). is_high y.descriptor) p rest in
          let o : one_if (is_high p.descriptor) ≡ 1 = ap one_if g in
          absurd (omega (arith, z, c, o))

  put_out : (x : Out) (rest : List Out) → w.ioc.out ≡ x ∷ rest → OnCase (record w { ioc = record w.ioc { out = rest }; out = w.out ++ x ∷ [] }) (entry.Put lane.Out (item.Out x) ∷ [])
  unfolding OnCase
  put_out x rest e n l =
      let t = entry.Put lane.Out (item.Out x) ∷ [] in
      record {
        requests = λ s. subst (RequestIs w (history_after h t) s) (same_at s) (requests_stay w h f w (history_after h t) l s);
        out = subst (All (OutIs w (history_after h t))) (sym (append_assoc w.out (x ∷ []) rest ∙ ap (λ xs. w.out ++ xs) (sym e))) (outs_stay w h f w (history_after h t) l);
      }
    where
      same_at : (s : ℕ) → request_at w.ioc s ≡ request_at (record w.ioc { out = rest }) s
      same_at zero = refl
      same_at (suc s) = refl

  taken_out : (x : Out) (rest : List Out) → w.out ≡ x ∷ rest → OnCase (record w { fabric = fab.takes_out w.fabric x; out = rest }) (entry.Take lane.Out (item.Out x) ∷ [])
  unfolding OnCase
  taken_out x rest e n l =
      let t = entry.Take lane.Out (item.Out x) ∷ [] in
      record {
        requests = requests_stay w h f w (history_after h t) l;
        out = All-tail (OutIs w (history_after h t)) x (rest ++ w.ioc.out) (subst (λ xs. All (OutIs w (history_after h t)) (xs ++ w.ioc.out)) e (outs_stay w h f w (history_after h t) l));
      }

  put_up : (queue : ℕ) (z : Rattle.mpt_trace.specs.declared.item.Up.Up) → OnCase (with_up (record w { ioc = adapter.up_sent_on w.ioc queue }) queue (up_on w queue ++ z ∷ [])) (entry.Put (up_lane queue) (item.Up z) ∷ [])
  unfolding OnCase
  put_up queue z n l =
      let t = entry.Put (up_lane queue) (item.Up z) ∷ [] in
      record {
        requests = λ s. subst (RequestIs w (history_after h t) s) (same_at s) (requests_stay w h f w (history_after h t) l s);
        out = outs_stay w h f w (history_after h t) l;
      }
    where
      same_at : (s : ℕ) → request_at w.ioc s ≡ request_at (adapter.up_sent_on w.ioc queue) s
      same_at zero = refl
      same_at (suc s) = refl

  owes : OwesTold OnCase w
  owes =
      record {
        idles = λ c. like w (entry.Idle c ∷ []) refl refl;
        host_puts = λ x rest e. like (record w { host = after_sent w.host x rest; down = w.down ++ x ∷ [] }) (entry.Put lane.Down (item.Down x) ∷ []) refl refl;
        host_takes = λ queue x rest e y. like (record (with_up w queue rest) { host = (hears_up w.host queue x).part }) (entry.Take (up_lane queue) (item.Up x) ∷ (hears_up w.host queue x).entries) refl refl;
        host_told = λ i c. like (record w { host = (host_told w.host i).part }) (host_told w.host i).entries refl refl;
        host_looks = λ e. like (record w { host = looks w.host }) [] refl refl;
        host_stops = λ e. like (record w { host = stops w.host }) [] refl refl;
        no_session = like w [] refl refl;
        ioc_takes = λ x rest e. taken x rest;
        ioc_high = λ p rest e. high p rest e;
        ioc_normal = λ p rest e. normal p rest e;
        ioc_puts_out = λ x rest e. put_out x rest e;
        ioc_takes_back = λ x rest e. told x rest;
        ioc_puts = λ queue y rest z e u. put_up queue z;
        fabric_takes = λ x rest e. taken_out x rest e;
        fabric_says = λ x rest e. like (record w { fabric = record w.fabric { notices = rest; out = w.fabric.out ++ x ∷ [] } }) [] refl refl;
        fabric_puts = λ x rest e. like (record w { fabric = record w.fabric { out = rest }; back = w.back ++ x ∷ [] }) (entry.Put lane.Back (item.Back x) ∷ []) refl refl;
        fabric_runs = λ tag address e. like (record w { fabric = (fab.runs w.fabric tag).part }) (entry.Run address tag ∷ []) refl refl;
        plugs = λ address expander phy t p. like (record w { fabric = (fab.fabric_plugs w.fabric address expander phy).part }) t refl refl;
        unplugs = λ address t p. like (record w { fabric = (fab.fabric_unplugs w.fabric address).part }) t refl refl;
        calms = like (record w { fabric = fab.calms w.fabric }) [] refl refl;
      }

  pub requests_kept : NothingIsStrange w → (c : Case) → is_fault (happens w c).ioc.door.state ≡ false → Leads w h (happens w c).host (history_after h (entries w c)) → RequestsStand (happens w c) (history_after h (entries w c))
  unfolding OnCase
  requests_kept plain c n l = kept_told OnCase w plain owes c n l
