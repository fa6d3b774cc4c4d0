-- The frames of the controller's replies: the bytes of each stand for a reply, of the function of what it answers, with a status
-- that the host takes. So it is whatever the numbers in its fields are.
use Rattle.std.proofs.Common.{◌≡◌, ℕ, ◌==◌, ◌&&◌, ◌||◌, inl, inr, not, Bool, true, false, if◌then◌else◌, List, Option, Some, None, is_none, refl, ap, sym, ◌∙◌, subst, arith}
use Rattle.mpi_layout.specs.Rows.{field, first_fault}
use Rattle.scsi_msgs.specs.ScsiReply.{scsi_reply_layout, scsi_reply_values}
use Rattle.scsi_msgs.specs.TaskReply.{task_reply_layout, task_reply_values}
use Rattle.ioc_msgs.specs.PortEnableReply.{port_enable_reply_layout}
use Rattle.ioc_msgs.specs.UnitControlReply.{unit_control_reply_layout, unit_control_reply_values}
use Rattle.config_pages.specs.ConfigReply.{config_reply_layout, config_reply_values}
use Rattle.config_pages.specs.DevicePage0.{device_page0_layout}
use Rattle.event_msgs.specs.EventAckReply.{event_ack_reply_layout}
use Rattle.event_msgs.specs.EventReply.{event_reply_layout, event_reply_values}
use Rattle.event_msgs.specs.Topology.{topology_layout, topology_values}
use Rattle.event_msgs.specs.TopologyEntry.{topology_entry_layout, topology_entry_values}
use Rattle.mpt_messages.specs.Function.{byte_of}
use Rattle.mpt_messages.specs.IocFrames.{reply_frame}
use Rattle.mpt_messages.specs.declared.function.Function.TheVariants as function
use Rattle.mpt_messages.specs.declared.ioc_reply.IocReply.TheVariants as reply
use Rattle.mpt_wire.specs.Messages.Fields.{abort_task, dev_handle_in, ioc_status_in, page_dev_handle_in, remove_device, target_reset, termination_count_in}
use Rattle.mpt_rules.specs.declared.request.Request.{Request}
use Rattle.mpt_rules.specs.declared.request.Request.TheVariants as request
use Rattle.mpt_rules.specs.declared.status.TheConstants.{IOC_STATUS_SCSI_DATA_UNDERRUN, IOC_STATUS_SCSI_DEVICE_NOT_THERE, IOC_STATUS_SCSI_TASK_TERMINATED, IOC_STATUS_SUCCESS}
use Rattle.mpt_rules.specs.declared.why.Why.TheVariants as why
use Rattle.mpt_rules.specs.Host.Handshakes.{bad_bytes, where_true}
use Rattle.mpt_rules.specs.Host.Replies.{reply_status}
use Rattle.mpt_rules.specs.Host.Strange.{bad_answer, bad_status, is_page_for}
use Rattle.law_facts.specs.Messages.{IsPageReply, IsTaskReply, event_like}

-- a frame and what comes with it answer the request
pub record Answers (r : Option Request) (frame page : List ℕ) : Type 0 where
  pub bytes : bad_bytes frame ≡ None
  pub answer : bad_answer r (Some frame) page ≡ None
  pub status : bad_status r (reply_status frame) ≡ None

-- ---- a command's

-- with the status of what was moved
pub moved_answers : (n handle s scsi_status moved sense : ℕ) (b : Bool) (page : List ℕ)
    → Answers (Some (request.Command n)) (reply_frame (reply.Scsi handle s scsi_status (if b then IOC_STATUS_SCSI_DATA_UNDERRUN else IOC_STATUS_SUCCESS) moved sense)) page
unfolding scsi_reply_layout scsi_reply_values field
moved_answers n handle s scsi_status moved sense true page = record { bytes = refl; answer = refl; status = refl }
moved_answers n handle s scsi_status moved sense false page = record { bytes = refl; answer = refl; status = refl }

-- where it wasn't performed
pub gone_answers : (n handle s : ℕ) (page : List ℕ) → Answers (Some (request.Command n)) (reply_frame (reply.Scsi handle s 0 IOC_STATUS_SCSI_DEVICE_NOT_THERE 0 0)) page
unfolding scsi_reply_layout scsi_reply_values field
gone_answers n handle s page = record { bytes = refl; answer = refl; status = refl }

pub terminated_answers : (n handle s : ℕ) (page : List ℕ) → Answers (Some (request.Command n)) (reply_frame (reply.Scsi handle s 0 IOC_STATUS_SCSI_TASK_TERMINATED 0 0)) page
unfolding scsi_reply_layout scsi_reply_values field
terminated_answers n handle s page = record { bytes = refl; answer = refl; status = refl }

-- ---- task management's

task_bytes : (handle task_type count : ℕ) → bad_bytes (reply_frame (reply.Task handle task_type IOC_STATUS_SUCCESS 0 count)) ≡ None
unfolding task_reply_layout task_reply_values field
task_bytes handle task_type count = refl

pub abort_answers : (n task : ℕ) (frame page : List ℕ) → IsTaskReply abort_task frame → Answers (Some (request.Abort n task)) frame page
unfolding task_reply_layout task_reply_values field
abort_answers n task frame page e =
    subst (λ x. Answers (Some (request.Abort n task)) x page) (sym e) (answers (dev_handle_in frame) (termination_count_in frame))
  where
    answers : (a c : ℕ) → Answers (Some (request.Abort n task)) (reply_frame (reply.Task a abort_task IOC_STATUS_SUCCESS 0 c)) page
    answers a c = record { bytes = task_bytes a abort_task c; answer = refl; status = refl }

pub target_answers : (address : ℕ) (frame page : List ℕ) → IsTaskReply target_reset frame → Answers (Some (request.TargetReset address)) frame page
unfolding task_reply_layout task_reply_values field
target_answers address frame page e =
    subst (λ x. Answers (Some (request.TargetReset address)) x page) (sym e) (answers (dev_handle_in frame) (termination_count_in frame))
  where
    answers : (a c : ℕ) → Answers (Some (request.TargetReset address)) (reply_frame (reply.Task a target_reset IOC_STATUS_SUCCESS 0 c)) page
    answers a c = record { bytes = task_bytes a target_reset c; answer = refl; status = refl }

pub leave_answers : (handle : ℕ) (frame page : List ℕ) → IsTaskReply target_reset frame → Answers (Some (request.Leave handle)) frame page
unfolding task_reply_layout task_reply_values field
leave_answers handle frame page e =
    subst (λ x. Answers (Some (request.Leave handle)) x page) (sym e) (answers (dev_handle_in frame) (termination_count_in frame))
  where
    answers : (a c : ℕ) → Answers (Some (request.Leave handle)) (reply_frame (reply.Task a target_reset IOC_STATUS_SUCCESS 0 c)) page
    answers a c = record { bytes = task_bytes a target_reset c; answer = refl; status = refl }

-- ---- a page's

both : (a b : Bool) → (a && b) ≡ true → (a ≡ true) × (b ≡ true)
both true b e = (refl, e)
both false b e = absurd (cc)

pub page_answers : (handle : ℕ) (frame page : List ℕ) → IsPageReply handle frame page → Answers (Some (request.Page handle)) frame page
unfolding config_reply_layout config_reply_values field
page_answers handle frame page (inl p) = subst (λ x. Answers (Some (request.Page handle)) x page) (sym p.0) (record { bytes = refl; answer = ap (λ b. where_true (false || (true && not b)) why.BadAnswer) fits; status = refl })
  where
    whole : is_none (first_fault device_page0_layout page) ≡ true
    whole = (both (is_none (first_fault config_reply_layout frame)) (is_none (first_fault device_page0_layout page)) p.1).1

    same : (n : ℕ) → (n == n) ≡ true
    same n = grind arith

    fits : is_page_for handle page ≡ true
    fits = ap (λ b. b && (page_dev_handle_in page == handle)) whole ∙ (ap (λ n. n == handle) p.2 ∙ same handle)
page_answers handle frame page (inr p) = subst (λ x. Answers (Some (request.Page handle)) x page) (sym p.0) (record { bytes = refl; answer = refl; status = refl })

-- ---- the others'

pub removed_answers : (handle : ℕ) (frame page : List ℕ) → frame ≡ reply_frame (reply.Removed handle remove_device IOC_STATUS_SUCCESS) → Answers (Some (request.Remove handle)) frame page
unfolding unit_control_reply_layout unit_control_reply_values field
removed_answers handle frame page e = subst (λ x. Answers (Some (request.Remove handle)) x page) (sym e) (record { bytes = refl; answer = refl; status = refl })

pub ack_answers : (event context : ℕ) (frame page : List ℕ) → frame ≡ reply_frame (reply.Plain (byte_of function.EventAck) (ioc_status_in frame)) → Answers (Some (request.Ack event context)) frame page
unfolding event_ack_reply_layout field
ack_answers event context frame page e = subst (λ x. Answers (Some (request.Ack event context)) x page) (sym e) (answers (ioc_status_in frame))
  where
    answers : (n : ℕ) → Answers (Some (request.Ack event context)) (reply_frame (reply.Plain (byte_of function.EventAck) n)) page
    answers n = record { bytes = refl; answer = refl; status = refl }

pub notified_answers : (frame page : List ℕ) → frame ≡ reply_frame reply.Notified → Answers (Some request.Notification) frame page
unfolding event_reply_layout event_reply_values field
notified_answers frame page e = subst (λ x. Answers (Some request.Notification) x page) (sym e) (record { bytes = refl; answer = refl; status = refl })

pub enabled_answers : (frame page : List ℕ) → frame ≡ reply_frame (reply.Plain (byte_of function.PortEnable) IOC_STATUS_SUCCESS) → Answers (Some request.PortEnable) frame page
unfolding port_enable_reply_layout field
enabled_answers frame page e = subst (λ x. Answers (Some request.PortEnable) x page) (sym e) (record { bytes = refl; answer = refl; status = refl })

-- an event answers nothing
topology_answers : (context handle expander phys phy : ℕ) (added : Bool) (page : List ℕ) → Answers None (reply_frame (reply.Topology context handle expander phys phy added)) page
unfolding event_reply_layout event_reply_values topology_layout topology_values topology_entry_layout topology_entry_values field
topology_answers context handle expander phys phy added page = record { bytes = refl; answer = refl; status = refl }

pub event_answers : (frame page : List ℕ) (added : Bool) → frame ≡ event_like frame added → Answers None frame page
event_answers frame page added e = subst (λ x. Answers None x page) (sym e) (answers frame)
  where
    answers : (x : List ℕ) → Answers None (event_like x added) page
    answers x = topology_answers _ _ _ _ _ added page
