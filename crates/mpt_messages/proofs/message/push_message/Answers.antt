use Rattle.std.proofs.Common.{◌≡◌, ◌++◌, OnOk, codes, subst, sym}
use Rattle.mpt_messages.specs.Message.{message_listing}
use Rattle.mpt_messages.proofs.Arms.{listed_arm}
use Rattle.mpt_messages.proofs.message.push_message.Goals as goal
use Rattle.scsi_msgs.specs.ScsiIo.{scsi_io_layout, scsi_io_values}
use Rattle.scsi_msgs.specs.TaskAsk.{task_ask_layout, task_ask_values}
use Rattle.ioc_msgs.specs.IocInit.{ioc_init_layout, ioc_init_values}
use Rattle.ioc_msgs.specs.IocFacts.{ioc_facts_layout, ioc_facts_values}
use Rattle.config_pages.specs.ConfigAsk.{config_ask_layout, config_ask_values}
use Rattle.ioc_msgs.specs.PortFacts.{port_facts_layout, port_facts_values}
use Rattle.ioc_msgs.specs.PortEnable.{port_enable_layout, port_enable_values}
use Rattle.event_msgs.specs.EventAsk.{event_ask_layout, event_ask_values}
use Rattle.event_msgs.specs.EventAck.{event_ack_layout, event_ack_values}
use Rattle.ioc_msgs.specs.UnitControl.{unit_control_layout, unit_control_values}
use Rattle.scsi_msgs.specs.TaskReply.{task_reply_layout, task_reply_values}
use Rattle.ioc_msgs.specs.IocInitReply.{ioc_init_reply_layout, ioc_init_reply_values}
use Rattle.ioc_msgs.specs.IocFactsReply.{ioc_facts_reply_layout, ioc_facts_reply_values}
use Rattle.config_pages.specs.ConfigReply.{config_reply_layout, config_reply_values}
use Rattle.ioc_msgs.specs.PortFactsReply.{port_facts_reply_layout, port_facts_reply_values}
use Rattle.ioc_msgs.specs.PortEnableReply.{port_enable_reply_layout, port_enable_reply_values}
use Rattle.event_msgs.specs.EventAckReply.{event_ack_reply_layout, event_ack_reply_values}
use Rattle.ioc_msgs.specs.UnitControlReply.{unit_control_reply_layout, unit_control_reply_values}

pub returns-in-ScsiIo : goal.returns-in-ScsiIo
returns-in-ScsiIo c =
    subst (λ m. OnOk c.push_listing.result (c.push_listing.new.text ≡ c.args.text.now ++ message_listing m)) (sym c.in-ScsiIo.is)
    (listed_arm c.push_listing.result c.args.text.now c.push_listing.new.text (codes "scsi-io") c.layout.result scsi_io_layout c.values.result (scsi_io_values c.in-ScsiIo.m) c.layout.ensures c.values.ensures c.push_listing.ensures)

pub returns-in-TaskAsk : goal.returns-in-TaskAsk
returns-in-TaskAsk c =
    subst (λ m. OnOk c.push_listing-in-TaskAsk.result (c.push_listing-in-TaskAsk.new.text ≡ c.args.text.now ++ message_listing m)) (sym c.in-TaskAsk.is)
    (listed_arm c.push_listing-in-TaskAsk.result c.args.text.now c.push_listing-in-TaskAsk.new.text (codes "task-mgmt") c.layout-in-TaskAsk.result task_ask_layout c.values-in-TaskAsk.result (task_ask_values c.in-TaskAsk.m) c.layout-in-TaskAsk.ensures c.values-in-TaskAsk.ensures c.push_listing-in-TaskAsk.ensures)

pub returns-in-IocInit : goal.returns-in-IocInit
returns-in-IocInit c =
    subst (λ m. OnOk c.push_listing-in-IocInit.result (c.push_listing-in-IocInit.new.text ≡ c.args.text.now ++ message_listing m)) (sym c.in-IocInit.is)
    (listed_arm c.push_listing-in-IocInit.result c.args.text.now c.push_listing-in-IocInit.new.text (codes "ioc-init") c.layout-in-IocInit.result ioc_init_layout c.values-in-IocInit.result (ioc_init_values c.in-IocInit.m) c.layout-in-IocInit.ensures c.values-in-IocInit.ensures c.push_listing-in-IocInit.ensures)

pub returns-in-IocFacts : goal.returns-in-IocFacts
returns-in-IocFacts c =
    subst (λ m. OnOk c.push_listing-in-IocFacts.result (c.push_listing-in-IocFacts.new.text ≡ c.args.text.now ++ message_listing m)) (sym c.in-IocFacts.is)
    (listed_arm c.push_listing-in-IocFacts.result c.args.text.now c.push_listing-in-IocFacts.new.text (codes "ioc-facts") c.layout-in-IocFacts.result ioc_facts_layout c.values-in-IocFacts.result (ioc_facts_values c.in-IocFacts.m) c.layout-in-IocFacts.ensures c.values-in-IocFacts.ensures c.push_listing-in-IocFacts.ensures)

pub returns-in-ConfigAsk : goal.returns-in-ConfigAsk
returns-in-ConfigAsk c =
    subst (λ m. OnOk c.push_listing-in-ConfigAsk.result (c.push_listing-in-ConfigAsk.new.text ≡ c.args.text.now ++ message_listing m)) (sym c.in-ConfigAsk.is)
    (listed_arm c.push_listing-in-ConfigAsk.result c.args.text.now c.push_listing-in-ConfigAsk.new.text (codes "config") c.layout-in-ConfigAsk.result config_ask_layout c.values-in-ConfigAsk.result (config_ask_values c.in-ConfigAsk.m) c.layout-in-ConfigAsk.ensures c.values-in-ConfigAsk.ensures c.push_listing-in-ConfigAsk.ensures)

pub returns-in-PortFacts : goal.returns-in-PortFacts
returns-in-PortFacts c =
    subst (λ m. OnOk c.push_listing-in-PortFacts.result (c.push_listing-in-PortFacts.new.text ≡ c.args.text.now ++ message_listing m)) (sym c.in-PortFacts.is)
    (listed_arm c.push_listing-in-PortFacts.result c.args.text.now c.push_listing-in-PortFacts.new.text (codes "port-facts") c.layout-in-PortFacts.result port_facts_layout c.values-in-PortFacts.result (port_facts_values c.in-PortFacts.m) c.layout-in-PortFacts.ensures c.values-in-PortFacts.ensures c.push_listing-in-PortFacts.ensures)

pub returns-in-PortEnable : goal.returns-in-PortEnable
returns-in-PortEnable c =
    subst (λ m. OnOk c.push_listing-in-PortEnable.result (c.push_listing-in-PortEnable.new.text ≡ c.args.text.now ++ message_listing m)) (sym c.in-PortEnable.is)
    (listed_arm c.push_listing-in-PortEnable.result c.args.text.now c.push_listing-in-PortEnable.new.text (codes "port-enable") c.layout-in-PortEnable.result port_enable_layout c.values-in-PortEnable.result (port_enable_values c.in-PortEnable.m) c.layout-in-PortEnable.ensures c.values-in-PortEnable.ensures c.push_listing-in-PortEnable.ensures)

pub returns-in-EventAsk : goal.returns-in-EventAsk
returns-in-EventAsk c =
    subst (λ m. OnOk c.push_listing-in-EventAsk.result (c.push_listing-in-EventAsk.new.text ≡ c.args.text.now ++ message_listing m)) (sym c.in-EventAsk.is)
    (listed_arm c.push_listing-in-EventAsk.result c.args.text.now c.push_listing-in-EventAsk.new.text (codes "event-notification") c.layout-in-EventAsk.result event_ask_layout c.values-in-EventAsk.result (event_ask_values c.in-EventAsk.m) c.layout-in-EventAsk.ensures c.values-in-EventAsk.ensures c.push_listing-in-EventAsk.ensures)

pub returns-in-EventAck : goal.returns-in-EventAck
returns-in-EventAck c =
    subst (λ m. OnOk c.push_listing-in-EventAck.result (c.push_listing-in-EventAck.new.text ≡ c.args.text.now ++ message_listing m)) (sym c.in-EventAck.is)
    (listed_arm c.push_listing-in-EventAck.result c.args.text.now c.push_listing-in-EventAck.new.text (codes "event-ack") c.layout-in-EventAck.result event_ack_layout c.values-in-EventAck.result (event_ack_values c.in-EventAck.m) c.layout-in-EventAck.ensures c.values-in-EventAck.ensures c.push_listing-in-EventAck.ensures)

pub returns-in-UnitControl : goal.returns-in-UnitControl
returns-in-UnitControl c =
    subst (λ m. OnOk c.push_listing-in-UnitControl.result (c.push_listing-in-UnitControl.new.text ≡ c.args.text.now ++ message_listing m)) (sym c.in-UnitControl.is)
    (listed_arm c.push_listing-in-UnitControl.result c.args.text.now c.push_listing-in-UnitControl.new.text (codes "sas-unit-control") c.layout-in-UnitControl.result unit_control_layout c.values-in-UnitControl.result (unit_control_values c.in-UnitControl.m) c.layout-in-UnitControl.ensures c.values-in-UnitControl.ensures c.push_listing-in-UnitControl.ensures)

pub returns-in-TaskReply : goal.returns-in-TaskReply
returns-in-TaskReply c =
    subst (λ m. OnOk c.push_listing-in-TaskReply.result (c.push_listing-in-TaskReply.new.text ≡ c.args.text.now ++ message_listing m)) (sym c.in-TaskReply.is)
    (listed_arm c.push_listing-in-TaskReply.result c.args.text.now c.push_listing-in-TaskReply.new.text (codes "task-mgmt-reply") c.layout-in-TaskReply.result task_reply_layout c.values-in-TaskReply.result (task_reply_values c.in-TaskReply.m) c.layout-in-TaskReply.ensures c.values-in-TaskReply.ensures c.push_listing-in-TaskReply.ensures)

pub returns-in-IocInitReply : goal.returns-in-IocInitReply
returns-in-IocInitReply c =
    subst (λ m. OnOk c.push_listing-in-IocInitReply.result (c.push_listing-in-IocInitReply.new.text ≡ c.args.text.now ++ message_listing m)) (sym c.in-IocInitReply.is)
    (listed_arm c.push_listing-in-IocInitReply.result c.args.text.now c.push_listing-in-IocInitReply.new.text (codes "ioc-init-reply") c.layout-in-IocInitReply.result ioc_init_reply_layout c.values-in-IocInitReply.result (ioc_init_reply_values c.in-IocInitReply.m) c.layout-in-IocInitReply.ensures c.values-in-IocInitReply.ensures c.push_listing-in-IocInitReply.ensures)

pub returns-in-IocFactsReply : goal.returns-in-IocFactsReply
returns-in-IocFactsReply c =
    subst (λ m. OnOk c.push_listing-in-IocFactsReply.result (c.push_listing-in-IocFactsReply.new.text ≡ c.args.text.now ++ message_listing m)) (sym c.in-IocFactsReply.is)
    (listed_arm c.push_listing-in-IocFactsReply.result c.args.text.now c.push_listing-in-IocFactsReply.new.text (codes "ioc-facts-reply") c.layout-in-IocFactsReply.result ioc_facts_reply_layout c.values-in-IocFactsReply.result (ioc_facts_reply_values c.in-IocFactsReply.m) c.layout-in-IocFactsReply.ensures c.values-in-IocFactsReply.ensures c.push_listing-in-IocFactsReply.ensures)

pub returns-in-ConfigReply : goal.returns-in-ConfigReply
returns-in-ConfigReply c =
    subst (λ m. OnOk c.push_listing-in-ConfigReply.result (c.push_listing-in-ConfigReply.new.text ≡ c.args.text.now ++ message_listing m)) (sym c.in-ConfigReply.is)
    (listed_arm c.push_listing-in-ConfigReply.result c.args.text.now c.push_listing-in-ConfigReply.new.text (codes "config-reply") c.layout-in-ConfigReply.result config_reply_layout c.values-in-ConfigReply.result (config_reply_values c.in-ConfigReply.m) c.layout-in-ConfigReply.ensures c.values-in-ConfigReply.ensures c.push_listing-in-ConfigReply.ensures)

pub returns-in-PortFactsReply : goal.returns-in-PortFactsReply
returns-in-PortFactsReply c =
    subst (λ m. OnOk c.push_listing-in-PortFactsReply.result (c.push_listing-in-PortFactsReply.new.text ≡ c.args.text.now ++ message_listing m)) (sym c.in-PortFactsReply.is)
    (listed_arm c.push_listing-in-PortFactsReply.result c.args.text.now c.push_listing-in-PortFactsReply.new.text (codes "port-facts-reply") c.layout-in-PortFactsReply.result port_facts_reply_layout c.values-in-PortFactsReply.result (port_facts_reply_values c.in-PortFactsReply.m) c.layout-in-PortFactsReply.ensures c.values-in-PortFactsReply.ensures c.push_listing-in-PortFactsReply.ensures)

pub returns-in-PortEnableReply : goal.returns-in-PortEnableReply
returns-in-PortEnableReply c =
    subst (λ m. OnOk c.push_listing-in-PortEnableReply.result (c.push_listing-in-PortEnableReply.new.text ≡ c.args.text.now ++ message_listing m)) (sym c.in-PortEnableReply.is)
    (listed_arm c.push_listing-in-PortEnableReply.result c.args.text.now c.push_listing-in-PortEnableReply.new.text (codes "port-enable-reply") c.layout-in-PortEnableReply.result port_enable_reply_layout c.values-in-PortEnableReply.result (port_enable_reply_values c.in-PortEnableReply.m) c.layout-in-PortEnableReply.ensures c.values-in-PortEnableReply.ensures c.push_listing-in-PortEnableReply.ensures)

pub returns-in-EventAckReply : goal.returns-in-EventAckReply
returns-in-EventAckReply c =
    subst (λ m. OnOk c.push_listing-in-EventAckReply.result (c.push_listing-in-EventAckReply.new.text ≡ c.args.text.now ++ message_listing m)) (sym c.in-EventAckReply.is)
    (listed_arm c.push_listing-in-EventAckReply.result c.args.text.now c.push_listing-in-EventAckReply.new.text (codes "event-ack-reply") c.layout-in-EventAckReply.result event_ack_reply_layout c.values-in-EventAckReply.result (event_ack_reply_values c.in-EventAckReply.m) c.layout-in-EventAckReply.ensures c.values-in-EventAckReply.ensures c.push_listing-in-EventAckReply.ensures)

pub returns-in-UnitControlReply : goal.returns-in-UnitControlReply
returns-in-UnitControlReply c =
    subst (λ m. OnOk c.push_listing-in-UnitControlReply.result (c.push_listing-in-UnitControlReply.new.text ≡ c.args.text.now ++ message_listing m)) (sym c.in-UnitControlReply.is)
    (listed_arm c.push_listing-in-UnitControlReply.result c.args.text.now c.push_listing-in-UnitControlReply.new.text (codes "sas-unit-control-reply") c.layout-in-UnitControlReply.result unit_control_reply_layout c.values-in-UnitControlReply.result (unit_control_reply_values c.in-UnitControlReply.m) c.layout-in-UnitControlReply.ensures c.values-in-UnitControlReply.ensures c.push_listing-in-UnitControlReply.ensures)
