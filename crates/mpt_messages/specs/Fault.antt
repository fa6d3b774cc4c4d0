-- A layout's fault as a message's.
use Rattle.mpi_layout.specs.declared.fault.Fault.{Fault}
use Rattle.mpi_layout.specs.declared.fault.Fault.TheVariants as fault
use Rattle.mpt_messages.specs.declared.fault.MsgFault.{MsgFault}
use Rattle.mpt_messages.specs.declared.fault.MsgFault.TheVariants as refusal

abbrev pub message_fault : Fault → MsgFault
message_fault (fault.Short need have) = refusal.Short need have
message_fault (fault.Field at) = refusal.Field at
