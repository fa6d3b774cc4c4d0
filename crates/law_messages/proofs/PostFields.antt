-- The fields of the posts that the host makes.
use Rattle.std.proofs.Common.{◌≡◌, ℕ, ◌^◌, ◌<◌, ◌≤◌, inl, inr, get_or, refl, ap, arith}
use Rattle.mpt_messages.specs.HostFrames.{IsTask}
use Rattle.mpt_messages.specs.declared.host_ask.HostAsk.TheVariants as ask
use Rattle.mpt_messages.proofs.FrameStands.{host_frame_stands}
use Rattle.mpt_messages.proofs.HostFits.{task_fits}
use Rattle.mpt_rules.specs.Host.Posts.{frame_asked}
use Rattle.mpt_wire.specs.Messages.Fields.{abort_task, dev_handle_in, target_reset}
use Rattle.removal.specs.Handles.{IsHandle}
use Rattle.scsi_msgs.specs.TaskAsk.{task_ask_layout, task_ask_values}

pub handle_of_task : (handle task_type task : ℕ) → handle < 2 ^ 16 → IsTask task_type task → dev_handle_in (frame_asked (ask.Task handle task_type task)) ≡ handle
unfolding task_ask_layout task_ask_values
handle_of_task handle task_type task l t = ap (λ vs. get_or vs 0 0) (host_frame_stands (ask.Task handle task_type task) (task_fits handle task_type task l t)).numbers

pub handle_of_abort : (handle task : ℕ) → IsHandle handle → 1 ≤ task → task ≤ 256 → dev_handle_in (frame_asked (ask.Task handle abort_task task)) ≡ handle
handle_of_abort handle task l a b = handle_of_task handle abort_task task (omega (arith, l)) (inl (refl, a, b))

pub handle_of_reset : (handle : ℕ) → IsHandle handle → dev_handle_in (frame_asked (ask.Task handle target_reset 0)) ≡ handle
handle_of_reset handle l = handle_of_task handle target_reset 0 (omega (arith, l)) (inr (refl, refl))
