-- Each request that the host may ask fits its layout.
use Rattle.std.proofs.Common.{IsTrue, ℕ, ◌^◌, ◌<◌, ◌≤◌, inl, inr, refl, sym, subst, arith}
use Rattle.std.proofs.lemmas.Bool.Decides.{nat_tests}
use Rattle.mpi_layout.specs.Rows.{values_fit}
use Rattle.scsi_msgs.specs.TaskAsk.{task_ask_layout, task_ask_values}
use Rattle.ioc_msgs.specs.IocInit.{ioc_init_layout, ioc_init_values}
use Rattle.ioc_msgs.specs.IocFacts.{ioc_facts_layout, ioc_facts_values}
use Rattle.ioc_msgs.specs.PortFacts.{port_facts_layout, port_facts_values}
use Rattle.ioc_msgs.specs.PortEnable.{port_enable_layout, port_enable_values}
use Rattle.config_pages.specs.ConfigAsk.{config_ask_layout, config_ask_values}
use Rattle.event_msgs.specs.EventAck.{event_ack_layout, event_ack_values}
use Rattle.event_msgs.specs.EventAsk.{event_ask_layout, event_ask_values}
use Rattle.ioc_msgs.specs.UnitControl.{unit_control_layout, unit_control_values}
use Rattle.ioc_msgs.specs.declared.ioc_facts.TheConstants.IocFacts.{BLANK as blank_ioc_facts}
use Rattle.ioc_msgs.specs.declared.port_facts.TheConstants.PortFacts.{BLANK as blank_port_facts}
use Rattle.ioc_msgs.specs.declared.port_enable.TheConstants.PortEnable.{BLANK as blank_port_enable}
use Rattle.mpt_messages.specs.HostFrames.{IsTask, task_asked, page_asked, removal_asked, ack_asked, init_asked, notification_asked}

pub facts_fits : IsTrue (values_fit (ioc_facts_layout).rows (ioc_facts_values blank_ioc_facts))
unfolding ioc_facts_layout ioc_facts_values
facts_fits = refl

pub port_facts_fits : IsTrue (values_fit (port_facts_layout).rows (port_facts_values blank_port_facts))
unfolding port_facts_layout port_facts_values
port_facts_fits = refl

pub port_enable_fits : IsTrue (values_fit (port_enable_layout).rows (port_enable_values blank_port_enable))
unfolding port_enable_layout port_enable_values
port_enable_fits = refl

pub notification_fits : IsTrue (values_fit (event_ask_layout).rows (event_ask_values notification_asked))
unfolding event_ask_layout event_ask_values
notification_fits = refl

pub removal_fits : (handle : ℕ) → handle < 2 ^ 16 → IsTrue (values_fit (unit_control_layout).rows (unit_control_values (removal_asked handle)))
unfolding unit_control_layout unit_control_values
removal_fits handle h = grind (arith, nat_tests)

pub ack_fits : (event context : ℕ) → event < 2 ^ 16 → context < 2 ^ 32 → IsTrue (values_fit (event_ack_layout).rows (event_ack_values (ack_asked event context)))
unfolding event_ack_layout event_ack_values
ack_fits event context e k = grind (arith, nat_tests)

pub abort_fits : (handle task_mid : ℕ) → handle < 2 ^ 16 → task_mid < 2 ^ 16 → IsTrue (values_fit (task_ask_layout).rows (task_ask_values (task_asked handle 1 task_mid)))
unfolding task_ask_layout task_ask_values
abort_fits handle task_mid h m = grind (arith, nat_tests)

pub reset_fits : (handle : ℕ) → handle < 2 ^ 16 → IsTrue (values_fit (task_ask_layout).rows (task_ask_values (task_asked handle 3 0)))
unfolding task_ask_layout task_ask_values
reset_fits handle h = grind (arith, nat_tests)

pub page_fits : (smid handle : ℕ) → smid ≤ 280 → handle < 2 ^ 16 → IsTrue (values_fit (config_ask_layout).rows (config_ask_values (page_asked smid handle)))
unfolding config_ask_layout config_ask_values
page_fits smid handle s h = grind (arith, nat_tests)

pub init_fits : (queues : ℕ) → queues ≤ 8 → IsTrue (values_fit (ioc_init_layout).rows (ioc_init_values (init_asked queues)))
unfolding ioc_init_layout ioc_init_values
init_fits queues q = grind (arith, nat_tests)

pub task_fits : (handle task_type task_mid : ℕ) → handle < 2 ^ 16 → IsTask task_type task_mid → IsTrue (values_fit (task_ask_layout).rows (task_ask_values (task_asked handle task_type task_mid)))
task_fits handle task_type task_mid h (inl (is_abort, least, most)) =
    subst (λ kind. IsTrue (values_fit (task_ask_layout).rows (task_ask_values (task_asked handle kind task_mid)))) (sym is_abort) (abort_fits handle task_mid h (omega arith))
task_fits handle task_type task_mid h (inr (is_reset, none)) =
    subst (λ kind. IsTrue (values_fit (task_ask_layout).rows (task_ask_values (task_asked handle kind task_mid)))) (sym is_reset) (subst (λ mid. IsTrue (values_fit (task_ask_layout).rows (task_ask_values (task_asked handle 3 mid)))) (sym none) (reset_fits handle h))
