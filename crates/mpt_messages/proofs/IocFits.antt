-- Each reply that the controller may give fits its layout, and so does its page.
use Rattle.std.proofs.Common.{IsTrue, ℕ, ◌^◌, ◌<◌, Bool, refl, arith}
use Rattle.std.proofs.lemmas.Bool.Decides.{nat_tests}
use Rattle.mpi_layout.specs.Rows.{values_fit}
use Rattle.scsi_msgs.specs.ScsiReply.{scsi_reply_fit, scsi_reply_layout, scsi_reply_values}
use Rattle.scsi_msgs.specs.TaskReply.{task_reply_layout, task_reply_values}
use Rattle.ioc_msgs.specs.IocFactsReply.{ioc_facts_reply_layout, ioc_facts_reply_values}
use Rattle.ioc_msgs.specs.PortFactsReply.{port_facts_reply_layout, port_facts_reply_values}
use Rattle.ioc_msgs.specs.UnitControlReply.{unit_control_reply_layout, unit_control_reply_values}
use Rattle.config_pages.specs.ConfigReply.{config_reply_layout, config_reply_values}
use Rattle.config_pages.specs.DevicePage0.{device_page0_layout, device_page0_values}
use Rattle.event_msgs.specs.EventReply.{event_reply_fit, event_reply_layout, event_reply_values}
use Rattle.event_msgs.specs.Topology.{topology_layout, topology_values}
use Rattle.mpt_messages.specs.DevicePage.{disk_page}
use Rattle.mpt_messages.specs.IocFrames.{config_answered, facts_answered, port_answered, removal_answered, scsi_answered, task_answered, topology_told, notified}

pub scsi_fits : (handle smid scsi_status status moved sense : ℕ) → handle < 2 ^ 16 → smid < 2 ^ 16 → scsi_status < 2 ^ 8 → status < 2 ^ 16 → moved < 2 ^ 32 → sense < 2 ^ 32 → IsTrue (scsi_reply_fit (scsi_answered handle smid scsi_status status moved sense))
unfolding scsi_reply_layout scsi_reply_values
scsi_fits handle smid scsi_status status moved sense h i s t m n = grind (arith, nat_tests)

pub task_fits : (handle task_type status code count : ℕ) → handle < 2 ^ 16 → task_type < 2 ^ 8 → status < 2 ^ 16 → code < 2 ^ 8 → count < 2 ^ 32 → IsTrue (values_fit (task_reply_layout).rows (task_reply_values (task_answered handle task_type status code count)))
unfolding task_reply_layout task_reply_values
task_fits handle task_type status code count h t s c n = grind (arith, nat_tests)

pub config_fits : (action ext_type status : ℕ) → action < 2 ^ 8 → ext_type < 2 ^ 8 → status < 2 ^ 16 → IsTrue (values_fit (config_reply_layout).rows (config_reply_values (config_answered action ext_type status)))
unfolding config_reply_layout config_reply_values
config_fits action ext_type status a e s = grind (arith, nat_tests)

pub facts_fits : (who_init queues : ℕ) → who_init < 2 ^ 8 → queues < 2 ^ 8 → IsTrue (values_fit (ioc_facts_reply_layout).rows (ioc_facts_reply_values (facts_answered who_init queues)))
unfolding ioc_facts_reply_layout ioc_facts_reply_values
facts_fits who_init queues w q = grind (arith, nat_tests)

pub port_facts_fits : (port status : ℕ) → port < 2 ^ 8 → status < 2 ^ 16 → IsTrue (values_fit (port_facts_reply_layout).rows (port_facts_reply_values (port_answered port status)))
unfolding port_facts_reply_layout port_facts_reply_values
port_facts_fits port status p s = grind (arith, nat_tests)

pub removed_fits : (handle operation status : ℕ) → handle < 2 ^ 16 → operation < 2 ^ 8 → status < 2 ^ 16 → IsTrue (values_fit (unit_control_reply_layout).rows (unit_control_reply_values (removal_answered handle operation status)))
unfolding unit_control_reply_layout unit_control_reply_values
removed_fits handle operation status h o s = grind (arith, nat_tests)

pub notified_fits : IsTrue (event_reply_fit notified)
unfolding event_reply_layout event_reply_values
notified_fits = refl

pub topology_fits : (context handle expander phys phy : ℕ) (added : Bool) → context < 2 ^ 32 → handle < 2 ^ 16 → expander < 16 → phys < 2 ^ 8 → phy < 2 ^ 8 → IsTrue (event_reply_fit (topology_told context handle expander phys phy added))
unfolding event_reply_layout event_reply_values topology_layout topology_values
topology_fits context handle expander phys phy added c h e p q = grind (arith, nat_tests)

pub page_fits : (handle address expander phy : ℕ) → handle < 2 ^ 16 → address < 2 ^ 64 → expander < 16 → phy < 2 ^ 8 → IsTrue (values_fit (device_page0_layout).rows (device_page0_values (disk_page handle address expander phy)))
unfolding device_page0_layout device_page0_values
page_fits handle address expander phy h a e p = grind (arith, nat_tests)
