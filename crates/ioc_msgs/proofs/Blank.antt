-- A blank message has in each row 0 or the first number that the row's rule names.
use Rattle.std.proofs.Common.{◌≡◌, refl}
use Rattle.mpi_layout.specs.Rows.{blank_values}
use Rattle.ioc_msgs.specs.declared.ioc_init.TheConstants.IocInit as ioc_init
use Rattle.ioc_msgs.specs.IocInit.{ioc_init_layout, ioc_init_values}
use Rattle.ioc_msgs.specs.declared.ioc_facts.TheConstants.IocFacts as ioc_facts
use Rattle.ioc_msgs.specs.IocFacts.{ioc_facts_layout, ioc_facts_values}
use Rattle.ioc_msgs.specs.declared.port_facts.TheConstants.PortFacts as port_facts
use Rattle.ioc_msgs.specs.PortFacts.{port_facts_layout, port_facts_values}
use Rattle.ioc_msgs.specs.declared.port_enable.TheConstants.PortEnable as port_enable
use Rattle.ioc_msgs.specs.PortEnable.{port_enable_layout, port_enable_values}
use Rattle.ioc_msgs.specs.declared.unit_control.TheConstants.UnitControl as unit_control
use Rattle.ioc_msgs.specs.UnitControl.{unit_control_layout, unit_control_values}
use Rattle.ioc_msgs.specs.declared.ioc_facts_reply.TheConstants.IocFactsReply as ioc_facts_reply
use Rattle.ioc_msgs.specs.IocFactsReply.{ioc_facts_reply_layout, ioc_facts_reply_values}
use Rattle.ioc_msgs.specs.declared.port_facts_reply.TheConstants.PortFactsReply as port_facts_reply
use Rattle.ioc_msgs.specs.PortFactsReply.{port_facts_reply_layout, port_facts_reply_values}
use Rattle.ioc_msgs.specs.declared.unit_control_reply.TheConstants.UnitControlReply as unit_control_reply
use Rattle.ioc_msgs.specs.UnitControlReply.{unit_control_reply_layout, unit_control_reply_values}

ioc_init-blank : ioc_init_values ioc_init.BLANK ≡ blank_values ioc_init_layout
unfolding ioc_init_layout ioc_init_values
ioc_init-blank = refl

ioc_facts-blank : ioc_facts_values ioc_facts.BLANK ≡ blank_values ioc_facts_layout
unfolding ioc_facts_layout ioc_facts_values
ioc_facts-blank = refl

port_facts-blank : port_facts_values port_facts.BLANK ≡ blank_values port_facts_layout
unfolding port_facts_layout port_facts_values
port_facts-blank = refl

port_enable-blank : port_enable_values port_enable.BLANK ≡ blank_values port_enable_layout
unfolding port_enable_layout port_enable_values
port_enable-blank = refl

unit_control-blank : unit_control_values unit_control.BLANK ≡ blank_values unit_control_layout
unfolding unit_control_layout unit_control_values
unit_control-blank = refl

ioc_facts_reply-blank : ioc_facts_reply_values ioc_facts_reply.BLANK ≡ blank_values ioc_facts_reply_layout
unfolding ioc_facts_reply_layout ioc_facts_reply_values
ioc_facts_reply-blank = refl

port_facts_reply-blank : port_facts_reply_values port_facts_reply.BLANK ≡ blank_values port_facts_reply_layout
unfolding port_facts_reply_layout port_facts_reply_values
port_facts_reply-blank = refl

unit_control_reply-blank : unit_control_reply_values unit_control_reply.BLANK ≡ blank_values unit_control_reply_layout
unfolding unit_control_reply_layout unit_control_reply_values
unit_control_reply-blank = refl
