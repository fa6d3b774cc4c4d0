-- The functions of messages, and by which way a request of each travels.
use Rattle.std.specs.Prelude.{ℕ, Option, Some, None, ◌==◌, if◌then◌else◌}
use Rattle.mpi_names.specs.declared.function.TheConstants.{MPI2_FUNCTION_CONFIG, MPI2_FUNCTION_EVENT_ACK, MPI2_FUNCTION_EVENT_NOTIFICATION, MPI2_FUNCTION_IOC_FACTS, MPI2_FUNCTION_IOC_INIT, MPI2_FUNCTION_PORT_ENABLE, MPI2_FUNCTION_PORT_FACTS, MPI2_FUNCTION_SAS_IO_UNIT_CONTROL, MPI2_FUNCTION_SCSI_IO_REQUEST, MPI2_FUNCTION_SCSI_TASK_MGMT}
use Rattle.mpt_messages.specs.declared.function.Function.{Function}
use Rattle.mpt_messages.specs.declared.function.Function.TheVariants as function
use Rattle.mpt_messages.specs.declared.function.Kind.{Kind}
use Rattle.mpt_messages.specs.declared.function.Kind.TheVariants as kind

-- the function's byte
abbrev pub byte_of : Function → ℕ
byte_of function.ScsiIo = MPI2_FUNCTION_SCSI_IO_REQUEST
byte_of function.TaskManagement = MPI2_FUNCTION_SCSI_TASK_MGMT
byte_of function.IocInit = MPI2_FUNCTION_IOC_INIT
byte_of function.IocFacts = MPI2_FUNCTION_IOC_FACTS
byte_of function.Config = MPI2_FUNCTION_CONFIG
byte_of function.PortFacts = MPI2_FUNCTION_PORT_FACTS
byte_of function.PortEnable = MPI2_FUNCTION_PORT_ENABLE
byte_of function.EventNotification = MPI2_FUNCTION_EVENT_NOTIFICATION
byte_of function.EventAck = MPI2_FUNCTION_EVENT_ACK
byte_of function.UnitControl = MPI2_FUNCTION_SAS_IO_UNIT_CONTROL

-- the function of a byte
abbrev pub function_of : ℕ → Option Function
function_of byte =
    if byte == MPI2_FUNCTION_SCSI_IO_REQUEST then Some function.ScsiIo
    else if byte == MPI2_FUNCTION_SCSI_TASK_MGMT then Some function.TaskManagement
    else if byte == MPI2_FUNCTION_IOC_INIT then Some function.IocInit
    else if byte == MPI2_FUNCTION_IOC_FACTS then Some function.IocFacts
    else if byte == MPI2_FUNCTION_CONFIG then Some function.Config
    else if byte == MPI2_FUNCTION_PORT_FACTS then Some function.PortFacts
    else if byte == MPI2_FUNCTION_PORT_ENABLE then Some function.PortEnable
    else if byte == MPI2_FUNCTION_EVENT_NOTIFICATION then Some function.EventNotification
    else if byte == MPI2_FUNCTION_EVENT_ACK then Some function.EventAck
    else if byte == MPI2_FUNCTION_SAS_IO_UNIT_CONTROL then Some function.UnitControl
    else None

-- by which way a request of the function travels
abbrev pub kind_of : Function → Kind
kind_of function.ScsiIo = kind.ScsiIo
kind_of function.TaskManagement = kind.HighPriority
kind_of function.IocInit = kind.Handshake
kind_of function.IocFacts = kind.Handshake
kind_of function.Config = kind.Default
kind_of function.PortFacts = kind.Handshake
kind_of function.PortEnable = kind.Default
kind_of function.EventNotification = kind.Default
kind_of function.EventAck = kind.Default
kind_of function.UnitControl = kind.Default
