-- A reply that the facts know is one of the controller's as it is put.
use Rattle.std.proofs.Common.{◌≡◌, ◌≢◌, ℕ, zero, suc, ◌+◌, ◌-◌, ◌*◌, ◌/◌, ◌%◌, ◌^◌, ◌<◌, ◌≤◌, ◌==◌, ◌&&◌, ◌⊎◌, inl, inr, nat_lt, Bool, true, false, if◌then◌else◌, List, [], ◌∷◌, ◌++◌, drop, get_or-drop, length, replicate, slice_index, IsTrue, Option, Some, None, option_map, refl, ap, sym, ◌∙◌, subst, arith}
use Rattle.std.specs.FinMap as finmap
use Rattle.event_msgs.specs.EventAckReply.{event_ack_reply_layout, event_ack_reply_values}
use Rattle.event_msgs.specs.declared.event_ack_reply.EventAckReply.{EventAckReply}
use Rattle.ioc_msgs.specs.PortEnableReply.{port_enable_reply_layout, port_enable_reply_values}
use Rattle.ioc_msgs.specs.declared.port_enable_reply.PortEnableReply.{PortEnableReply}
use Rattle.std.proofs.lemmas.Bool.Decides.{nat_tests}
use Rattle.mpi_layout.specs.Rows.{values_fit}
use Rattle.scsi_disk.specs.Command.{fits, is_write}
use Rattle.scsi_disk.specs.declared.command.Command.{Command}
use Rattle.scsi_disk.specs.declared.scsi_result.ScsiResult.{ScsiResult}
use Rattle.scsi_disk.specs.declared.scsi_result.TheConstants.{GOOD}
use Rattle.smid_pool.specs.Pool.{Slot, Free, Open, Parked}
use Rattle.mpt_messages.specs.FrameBytes.{layout_bytes}
use Rattle.mpt_messages.specs.Function.{byte_of}
use Rattle.mpt_messages.specs.IocFrames.{IsAnswer, notified, plain_reply, reply_frame}
use Rattle.mpt_messages.specs.Message.{MessageStands, reply_function}
use Rattle.mpt_messages.specs.declared.function.Function.TheVariants as function
use Rattle.mpt_messages.specs.declared.ioc_reply.IocReply.{IocReply}
use Rattle.mpt_messages.specs.declared.ioc_reply.IocReply.TheVariants as reply
use Rattle.mpt_messages.specs.declared.message.Message.{Message}
use Rattle.mpt_messages.specs.declared.message.Message.TheVariants as message
use Rattle.mpt_messages.specs.IocFrames as ioc_frames
use Rattle.mpt_messages.proofs.FrameStands.{reply_frame_stands}
use Rattle.mpt_messages.proofs.IocFits as fit
use Rattle.mpt_messages.proofs.LayoutStands.{bytes_stand, pair_up}
use Rattle.mpt_messages.proofs.Shapes.{event_ack_reply-whole, port_enable_reply-whole}
use Rattle.mpt_wire.specs.Machine.State.{OpenRequest}
use Rattle.mpt_wire.specs.Messages.Fields.{abort_task, address_descriptor, dev_handle_in, frame_address_in, ioc_status_in, remove_device, smid_in, success_descriptor, target_reset, termination_count_in}
use Rattle.mpt_wire.specs.Messages.Standing.{Carries, IsFramedReply, IsIocReply}
use Rattle.mpt_rules.specs.declared.request.Request.{Request}
use Rattle.mpt_rules.specs.declared.request.Request.TheVariants as request
use Rattle.mpt_rules.specs.declared.said.Said.{Said}
use Rattle.mpt_rules.specs.declared.said.Said.TheVariants as said
use Rattle.mpt_rules.specs.declared.status.TheConstants.{IOC_STATUS_CONFIG_INVALID_PAGE, IOC_STATUS_SCSI_DATA_UNDERRUN, IOC_STATUS_SCSI_DEVICE_NOT_THERE, IOC_STATUS_SCSI_TASK_TERMINATED, IOC_STATUS_SUCCESS}
use Rattle.mpt_rules.specs.Host.Parts.{Cmd}
use Rattle.mpt_rules.specs.Ioc.Commands.{moved_by, result_status, written_by}
use Rattle.mpt_rules.specs.World.State.{World}
use Rattle.law_facts.specs.Facts.{Facts}
use Rattle.law_facts.specs.History.{History}
use Rattle.law_facts.specs.Limits.{RecordFits}
use Rattle.law_facts.specs.Messages.{AnswersBy, AnswersCommand, IsEvent, IsPageReply, IsTaskReply, SaidIs, TellsOutcome}
use Rattle.law_facts.specs.Words.{slot}
use Rattle.law_flights.proofs.Descriptors.{smid_addressed, smid_succeeded}
use Rattle.law_messages.proofs.Known.{classed, inside}
use Rattle.law_standing.specs.Written.{FieldsFit, FrameIsWritten, IsWritten, OutcomesFit}

-- ---- the descriptor of a framed reply

described : (s a : ℕ) → s < 65536 → address_descriptor s a ≡ address_descriptor (smid_in (address_descriptor s a)) (frame_address_in (address_descriptor s a))
described s a l = let e = smid_addressed s a l in let g : frame_address_in (address_descriptor s a) ≡ a = omega (arith, l) in sym (ap (λ x. address_descriptor x (frame_address_in (address_descriptor s a))) e ∙ ap (λ x. address_descriptor s x) g)

-- ---- replies with a header alone

abbrev ack_reply : ℕ → EventAckReply
ack_reply status = record { reserved_00 = 0; msg_length = 5; function = 0x08; reserved_04 = 0; reserved_06 = 0; msg_flags = 0; vp_id = 0; vf_id = 0; reserved_0a = 0; reserved_0c = 0; ioc_status = status; ioc_log_info = 0 }

abbrev blank_port_enable_reply : PortEnableReply
blank_port_enable_reply = record { reserved_00 = 0; msg_length = 5; function = 0x06; reserved_04 = 0; port_flags = 0; reserved_06 = 0; msg_flags = 0; vp_id = 0; vf_id = 0; reserved_0a = 0; reserved_0c = 0; ioc_status = 0; ioc_log_info = 0 }

acked_bytes : (status : ℕ) → layout_bytes event_ack_reply_layout (event_ack_reply_values (ack_reply status)) ++ replicate 108 0 ≡ reply_frame (reply.Plain (byte_of function.EventAck) status)
unfolding event_ack_reply_layout event_ack_reply_values
acked_bytes status = refl

ack_paired : (status : ℕ) → IsTrue (pair_up (event_ack_reply_layout).rows (event_ack_reply_values (ack_reply status)))
unfolding event_ack_reply_layout event_ack_reply_values
ack_paired status = refl

enable_paired : IsTrue (pair_up (port_enable_reply_layout).rows (port_enable_reply_values blank_port_enable_reply))
unfolding port_enable_reply_layout port_enable_reply_values
enable_paired = refl

acked_fits : (status : ℕ) → status < 2 ^ 16 → IsTrue (values_fit (event_ack_reply_layout).rows (event_ack_reply_values (ack_reply status)))
unfolding event_ack_reply_layout event_ack_reply_values
acked_fits status l = grind (arith, nat_tests)

acked : (status : ℕ) → status < 2 ^ 16 → MessageStands (message.EventAckReply (ack_reply status)) (reply_frame (reply.Plain (byte_of function.EventAck) status))
acked status l = subst (MessageStands (message.EventAckReply (ack_reply status))) (acked_bytes status) (bytes_stand event_ack_reply_layout (event_ack_reply_values (ack_reply status)) (replicate 108 0) (event_ack_reply-whole).tiled (ack_paired status) (acked_fits status l))

enabled_bytes : layout_bytes port_enable_reply_layout (port_enable_reply_values blank_port_enable_reply) ++ replicate 108 0 ≡ reply_frame (reply.Plain (byte_of function.PortEnable) IOC_STATUS_SUCCESS)
unfolding port_enable_reply_layout port_enable_reply_values
enabled_bytes = refl

enabled_fits : IsTrue (values_fit (port_enable_reply_layout).rows (port_enable_reply_values blank_port_enable_reply))
unfolding port_enable_reply_layout port_enable_reply_values
enabled_fits = refl

enabled : MessageStands (message.PortEnableReply blank_port_enable_reply) (reply_frame (reply.Plain (byte_of function.PortEnable) IOC_STATUS_SUCCESS))
enabled = subst (MessageStands (message.PortEnableReply blank_port_enable_reply)) enabled_bytes (bytes_stand port_enable_reply_layout (port_enable_reply_values blank_port_enable_reply) (replicate 108 0) (port_enable_reply-whole).tiled enable_paired enabled_fits)

-- ---- a framed reply of the controller

pub record Written (frame page sense : List ℕ) : Type 0 where
  pub reply : IocReply
  pub allowed : IsAnswer reply
  pub framed : frame ≡ reply_frame reply
  pub message : Message
  pub stands : MessageStands message (reply_frame reply)
  pub answers : Rattle.std.specs.Prelude.IsSome (reply_function message)
  pub carries : Carries reply page sense

framed_passes : (s a : ℕ) (frame page sense : List ℕ) → s < 65536 → Written frame page sense → IsFramedReply (address_descriptor s a) frame page sense
framed_passes s a frame page sense l x =
    record {
      reply = x.reply;
      allowed = x.allowed;
      framed = x.framed;
      message = x.message;
      stands = subst (MessageStands x.message) (sym x.framed) x.stands;
      answers = x.answers;
      described = described s a l;
      carries = x.carries;
    }

-- a SCSI IO's
scsi : (frame page sense : List ℕ) (handle s status code moved sense_count : ℕ) → frame ≡ reply_frame (reply.Scsi handle s status code moved sense_count) → handle < 2 ^ 16 → s < 2 ^ 16 → status < 2 ^ 8 → code < 2 ^ 16 → moved < 2 ^ 32 → sense_count < 2 ^ 32 → Written frame page sense
scsi frame page sense handle s status code moved sense_count e a b c d f g =
    record {
      reply = reply.Scsi handle s status code moved sense_count;
      allowed = tt;
      framed = e;
      message = message.ScsiReply (ioc_frames.scsi_answered handle s status code moved sense_count);
      stands = reply_frame_stands (reply.Scsi handle s status code moved sense_count) (fit.scsi_fits handle s status code moved sense_count a b c d f g) tt;
      answers = refl;
      carries = tt;
    }

-- task management's
task : (frame page : List ℕ) (task_type : ℕ) → FieldsFit frame → task_type < 2 ^ 8 → IsTaskReply task_type frame → page ≡ [] → Written frame page []
task frame page task_type b l e p =
    record {
      reply = reply.Task (dev_handle_in frame) task_type IOC_STATUS_SUCCESS 0 (termination_count_in frame);
      allowed = tt;
      framed = e;
      message = message.TaskReply (ioc_frames.task_answered (dev_handle_in frame) task_type IOC_STATUS_SUCCESS 0 (termination_count_in frame));
      stands = reply_frame_stands (reply.Task (dev_handle_in frame) task_type IOC_STATUS_SUCCESS 0 (termination_count_in frame)) (fit.task_fits (dev_handle_in frame) task_type IOC_STATUS_SUCCESS 0 (termination_count_in frame) b.0 l (omega arith) (omega arith) b.2) tt;
      answers = refl;
      carries = (p, refl);
    }

-- a page read's
abbrev one : ℕ
one = 1

config : (frame page : List ℕ) (status : ℕ) → frame ≡ reply_frame (reply.Config 1 0x12 status) → status < 2 ^ 16 → (page ≡ []) ⊎ ((one ≡ 1) × (status ≡ 0) × Rattle.mpt_wire.specs.Messages.Standing.IsDiskPage page) → Written frame page []
config frame page status e l c =
    record {
      reply = reply.Config 1 0x12 status;
      allowed = tt;
      framed = e;
      message = message.ConfigReply (ioc_frames.config_answered 1 0x12 status);
      stands = reply_frame_stands (reply.Config 1 0x12 status) (fit.config_fits 1 0x12 status (omega arith) (omega arith) l) tt;
      answers = refl;
      carries = (refl, c);
    }

page_read : (s handle : ℕ) (frame page : List ℕ) → 265 ≤ s → FrameIsWritten s frame page → IsPageReply handle frame page → Written frame page []
page_read s handle frame page l w (inl a) = config frame page IOC_STATUS_SUCCESS a.0 (omega arith) (inr (refl, refl, w.disk_page l a.1))
page_read s handle frame page l w (inr a) = config frame page IOC_STATUS_CONFIG_INVALID_PAGE a.0 (omega arith) (inl a.1)

-- an event
event : (queue : ℕ) (frame page sense : List ℕ) → FrameIsWritten 0 frame page → IsEvent queue frame page sense → Written frame page sense
event queue frame page sense w a =
    let e = w.event refl in let l = e.fits in
    record {
      reply = reply.Topology e.context e.handle e.expander e.phys e.phy e.added;
      allowed = l.2;
      framed = e.is;
      message = message.EventReply (ioc_frames.topology_told e.context e.handle e.expander e.phys e.phy e.added);
      stands = reply_frame_stands (reply.Topology e.context e.handle e.expander e.phys e.phy e.added) (fit.topology_fits e.context e.handle e.expander e.phys e.phy e.added l.0 l.1 l.2 l.3 l.4) l.1;
      answers = refl;
      carries = (a.1, a.2);
    }

-- ---- a command's answer

abbrev said_frame : Said → List ℕ
said_frame (said.Framed s frame page sense) = frame
said_frame item = []

abbrev is_framed : Said → Bool
is_framed (said.Framed s frame page sense) = true
is_framed item = false

pub moved_short : (c : Command) (r : ScsiResult) → fits c ≡ true → length r.payload ≤ 4096 → moved_by (written_by c) r ≤ 4096
moved_short c r f l = by_write (is_write c.cdb) refl
  where
    most : (is_write c.cdb ≡ true) → length c.payload ≤ 4096
    most w = grind (arith, f, w)

    by_write : (b : Bool) → is_write c.cdb ≡ b → moved_by (if b then Some (length c.payload) else None) r ≤ 4096
    by_write false e = l
    by_write true e = by_status (r.status == GOOD)
      where
        by_status : (b : Bool) → (if b then length c.payload else 0) ≤ 4096
        by_status true = most e
        by_status false = omega arith

status_short : (moved len : ℕ) → result_status moved len < 2 ^ 16
status_short moved len = by_test (nat_lt moved len)
  where
    by_test : (b : Bool) → (if b then IOC_STATUS_SCSI_DATA_UNDERRUN else IOC_STATUS_SUCCESS) < 2 ^ 16
    by_test true = omega arith
    by_test false = omega arith

module _ (w : World) (h : History) (f : Facts w h) (o : OutcomesFit h) where
  outcome : (s handle n : ℕ) (c : Command) (r : Option ScsiResult) (frame page sense : List ℕ) → h.machine.outcome n ≡ r → fits c ≡ true → handle < 2 ^ 16 → s < 2 ^ 16 → TellsOutcome s handle c r (said.Framed s frame page sense) → Written frame page sense
  outcome s handle n c None frame page sense e k a b t = by_status t.2
    where
      by_status : (frame ≡ reply_frame (reply.Scsi handle s 0 IOC_STATUS_SCSI_DEVICE_NOT_THERE 0 0)) ⊎ (frame ≡ reply_frame (reply.Scsi handle s 0 IOC_STATUS_SCSI_TASK_TERMINATED 0 0)) → Written frame page sense
      by_status (inl e) = scsi frame page sense handle s 0 IOC_STATUS_SCSI_DEVICE_NOT_THERE 0 0 e a b (omega arith) (omega arith) (omega arith) (omega arith)
      by_status (inr e) = scsi frame page sense handle s 0 IOC_STATUS_SCSI_TASK_TERMINATED 0 0 e a b (omega arith) (omega arith) (omega arith) (omega arith)
  outcome s handle n c (Some r) frame page sense e k a b t = by_test (r.status == GOOD && moved_by (written_by c) r == c.len) t
    where
      z : Rattle.law_standing.specs.Written.ResultFits r
      z = o n r e

      by_test : (d : Bool) → said.Framed s frame page sense ≡ (if d then said.Success s r.payload r.sense else said.Framed s (reply_frame (reply.Scsi handle s r.status (result_status (moved_by (written_by c) r) c.len) (moved_by (written_by c) r) (length r.sense))) r.payload r.sense) → Written frame page sense
      by_test true g = let y = ap is_framed g in absurd (cc)
      by_test false g =
          let m = moved_short c r k z.1 in let l = z.2 in
          scsi frame page sense handle s r.status (result_status (moved_by (written_by c) r) c.len) (moved_by (written_by c) r) (length r.sense) (ap said_frame g) a b z.0 (status_short (moved_by (written_by c) r) c.len) (omega (arith, m)) (omega (arith, l))

  command : (s n : ℕ) (frame page sense : List ℕ) → s < 2 ^ 16 → (c : Option Cmd) (r : Option OpenRequest) → finmap.get w.host.cmds n ≡ c → finmap.get h.machine.requests n ≡ r → AnswersCommand w h s n (said.Framed s frame page sense) c r → Written frame page sense
  command s n frame page sense l None r g i a = absurd a
  command s n frame page sense l (Some c) None g i a = absurd a
  command s n frame page sense l (Some c) (Some r) g i a = let k = f.limits.cmds n c g in outcome s c.handle n r.command (h.machine.outcome n) frame page sense refl ((f.messages.named n).fit r i) (omega (arith, k)) l a

  -- the record's fields
  record_fits : (s : ℕ) (r : Request) → slot w.host s ≡ Open r → RecordFits (Open r)
  record_fits s r e = by_place s e
    where
      by_place : (s : ℕ) → slot w.host s ≡ Open r → RecordFits (Open r)
      by_place zero e = absurd (cc)
      by_place (suc i) e = let l = inside w h f (suc i) r e in let t = f.flights.sizes.pool in subst RecordFits e (Rattle.std.proofs.lemmas.List.Elements.All-get_or RecordFits w.host.pool i Free (let z : i < Rattle.std.proofs.Common.length w.host.pool = omega (arith, l, t) in z) f.limits.records)

  framed : (s queue : ℕ) (frame page sense : List ℕ) (r : Request) → slot w.host s ≡ Open r → s < 2 ^ 16 → FrameIsWritten s frame page → AnswersBy w h queue s (said.Framed s frame page sense) (Open r) → Written frame page sense
  framed s queue frame page sense (request.Command n) e l b a = command s n frame page sense l (finmap.get w.host.cmds n) (finmap.get h.machine.requests n) refl refl a.1
  framed s queue frame page sense (request.Abort n t) e l b a = let y = a.2 in no_sense a.1 (task frame page abort_task (b.fields (let k = classed w h f s (request.Abort n t) e in omega (arith, k))) (omega arith) y.0 y.1)
    where
      no_sense : sense ≡ [] → Written frame page [] → Written frame page sense
      no_sense z x = subst (Written frame page) (sym z) x
  framed s queue frame page sense (request.TargetReset address) e l b a = let y = a.2 in subst (Written frame page) (sym a.1) (task frame page target_reset (b.fields (let k = classed w h f s (request.TargetReset address) e in omega (arith, k))) (omega arith) y.0 y.1)
  framed s queue frame page sense (request.Leave handle) e l b a = let y = a.2 in subst (Written frame page) (sym a.1) (task frame page target_reset (b.fields (let k = classed w h f s (request.Leave handle) e in omega (arith, k))) (omega arith) y.0 y.2)
  framed s queue frame page sense (request.Page handle) e l b a = subst (Written frame page) (sym a.1) (page_read s handle frame page (let k = classed w h f s (request.Page handle) e in omega (arith, k)) b a.2)
  framed s queue frame page sense (request.Remove handle) e l b a =
      let y = a.2 in let k = record_fits s (request.Remove handle) e in
      record {
        reply = reply.Removed handle remove_device IOC_STATUS_SUCCESS;
        allowed = tt;
        framed = y.0;
        message = message.UnitControlReply (ioc_frames.removal_answered handle remove_device IOC_STATUS_SUCCESS);
        stands = reply_frame_stands (reply.Removed handle remove_device IOC_STATUS_SUCCESS) (fit.removed_fits handle remove_device IOC_STATUS_SUCCESS (omega (arith, k)) (omega arith) (omega arith)) tt;
        answers = refl;
        carries = (y.1, a.1);
      }
  framed s queue frame page sense (request.Ack ev context) e l b a =
      let y = a.2 in
      record {
        reply = reply.Plain (byte_of function.EventAck) (ioc_status_in frame);
        allowed = tt;
        framed = y.0;
        message = message.EventAckReply (ack_reply (ioc_status_in frame));
        stands = acked (ioc_status_in frame) (let z = b.fields (let k = classed w h f s (request.Ack ev context) e in omega (arith, k)) in z.1);
        answers = refl;
        carries = (y.1, a.1);
      }
  framed s queue frame page sense request.Notification e l b a =
      let y = a.2 in
      record {
        reply = reply.Notified;
        allowed = tt;
        framed = y.0;
        message = message.EventReply notified;
        stands = reply_frame_stands reply.Notified fit.notified_fits tt;
        answers = refl;
        carries = (y.1, a.1);
      }
  framed s queue frame page sense request.PortEnable e l b a =
      let y = a.2 in
      record {
        reply = reply.Plain (byte_of function.PortEnable) IOC_STATUS_SUCCESS;
        allowed = tt;
        framed = y.0;
        message = message.PortEnableReply blank_port_enable_reply;
        stands = enabled;
        answers = refl;
        carries = (y.1, a.1);
      }

  -- one with a frame
  pub framed_stands : (queue s a : ℕ) (frame page sense : List ℕ) → IsWritten (said.Framed s frame page sense) → SaidIs w h queue (said.Framed s frame page sense) → IsIocReply (address_descriptor s a) (Some frame) page sense
  framed_stands queue zero a frame page sense b x = framed_passes 0 a frame page sense (omega arith) (event queue frame page sense b x)
  framed_stands queue (suc i) a frame page sense b x = by_slot (slot w.host (suc i)) refl x
    where
      by_slot : (y : Slot Request) → slot w.host (suc i) ≡ y → AnswersBy w h queue (suc i) (said.Framed (suc i) frame page sense) y → IsIocReply (address_descriptor (suc i) a) (Some frame) page sense
      by_slot Free e z = absurd z
      by_slot Parked e z = absurd z
      by_slot (Open r) e z = let l = inside w h f (suc i) r e in framed_passes (suc i) a frame page sense (omega (arith, l)) (framed (suc i) queue frame page sense r e (omega (arith, l)) b z)

  -- one without
  pub success_stands : (queue s : ℕ) (page sense : List ℕ) → SaidIs w h queue (said.Success s page sense) → IsIocReply (success_descriptor s) None page sense
  success_stands queue s page sense x = by_slot (slot w.host s) refl x
    where
      by_slot : (y : Slot Request) → slot w.host s ≡ y → AnswersBy w h queue s (said.Success s page sense) y → success_descriptor s ≡ success_descriptor (smid_in (success_descriptor s))
      by_slot Free e z = absurd z
      by_slot Parked e z = absurd z
      by_slot (Open r) e z = let l = inside w h f s r e in sym (ap success_descriptor (smid_succeeded s (omega (arith, l))))
