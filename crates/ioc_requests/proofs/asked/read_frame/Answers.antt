use Rattle.std.proofs.Common.{ap}
use Rattle.ioc_requests.specs.declared.asked.Asked.TheVariants as asked
use Rattle.ioc_requests.proofs.Accepted.{asked_in, asked_is}
use Rattle.ioc_requests.proofs.asked.read_frame.Goals as goal

pub returns-in-ScsiIo : goal.returns-in-ScsiIo
returns-in-ScsiIo c =
    asked_is c.args.kind c.in_ok-io.field-0 (asked.Command c.in-ScsiIo.io) c.args.frame.now (ap asked_in c.in-ScsiIo.is) (rw c.way_of.ensures at c.in_ok-io.ensures.read.0) c.in_ok-io.ensures.read.1

pub returns-in-TaskAsk : goal.returns-in-TaskAsk
returns-in-TaskAsk c =
    asked_is c.args.kind c.in_ok-io.field-0 (asked.Task c.in-TaskAsk.ask) c.args.frame.now (ap asked_in c.in-TaskAsk.is) (rw c.way_of.ensures at c.in_ok-io.ensures.read.0) c.in_ok-io.ensures.read.1

pub returns-in-ConfigAsk : goal.returns-in-ConfigAsk
returns-in-ConfigAsk c =
    asked_is c.args.kind c.in_ok-io.field-0 (asked.Page c.in-ConfigAsk.ask) c.args.frame.now (ap asked_in c.in-ConfigAsk.is) (rw c.way_of.ensures at c.in_ok-io.ensures.read.0) c.in_ok-io.ensures.read.1

pub returns-in-PortEnable : goal.returns-in-PortEnable
returns-in-PortEnable c =
    asked_is c.args.kind c.in_ok-io.field-0 asked.Enable c.args.frame.now (ap asked_in c.in-PortEnable.is) (rw c.way_of.ensures at c.in_ok-io.ensures.read.0) c.in_ok-io.ensures.read.1

pub returns-in-EventAsk : goal.returns-in-EventAsk
returns-in-EventAsk c =
    asked_is c.args.kind c.in_ok-io.field-0 (asked.Notification c.in-EventAsk.ask) c.args.frame.now (ap asked_in c.in-EventAsk.is) (rw c.way_of.ensures at c.in_ok-io.ensures.read.0) c.in_ok-io.ensures.read.1

pub returns-in-EventAck : goal.returns-in-EventAck
returns-in-EventAck c =
    asked_is c.args.kind c.in_ok-io.field-0 (asked.Ack c.in-EventAck.ack) c.args.frame.now (ap asked_in c.in-EventAck.is) (rw c.way_of.ensures at c.in_ok-io.ensures.read.0) c.in_ok-io.ensures.read.1

pub returns-in-UnitControl : goal.returns-in-UnitControl
returns-in-UnitControl c =
    asked_is c.args.kind c.in_ok-io.field-0 (asked.Control c.in-UnitControl.ask) c.args.frame.now (ap asked_in c.in-UnitControl.is) (rw c.way_of.ensures at c.in_ok-io.ensures.read.0) c.in_ok-io.ensures.read.1
