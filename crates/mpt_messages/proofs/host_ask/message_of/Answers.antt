use Rattle.mpt_messages.proofs.HostFits.{facts_fits, port_facts_fits, port_enable_fits, notification_fits}
use Rattle.mpt_messages.proofs.host_ask.message_of.Goals as goal

pub returns-in-Facts-clause-fitting : goal.returns-in-Facts-clause-fitting
returns-in-Facts-clause-fitting c = facts_fits

pub returns-in-PortFacts-clause-fitting : goal.returns-in-PortFacts-clause-fitting
returns-in-PortFacts-clause-fitting c = port_facts_fits

pub returns-in-PortEnable-clause-fitting : goal.returns-in-PortEnable-clause-fitting
returns-in-PortEnable-clause-fitting c = port_enable_fits

pub returns-in-Notification-clause-fitting : goal.returns-in-Notification-clause-fitting
returns-in-Notification-clause-fitting c = rw c.notification.ensures notification_fits
