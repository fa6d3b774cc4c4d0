-- The adapter's state, as the Doorbell has it.
use Rattle.std.specs.Prelude.{ℕ}
use Rattle.mpi_doorbell.specs.declared.registers.TheConstants.{IOC_STATE_RESET, IOC_STATE_READY, IOC_STATE_OPERATIONAL, IOC_STATE_FAULT}
use Rattle.mpi_doorbell.specs.declared.state.IocState.{IocState}
use Rattle.mpi_doorbell.specs.declared.state.IocState.TheVariants.{Reset, Ready, Operational, Fault}

abbrev pub state_bits : IocState → ℕ
state_bits Reset = IOC_STATE_RESET
state_bits Ready = IOC_STATE_READY
state_bits Operational = IOC_STATE_OPERATIONAL
state_bits (Fault code) = IOC_STATE_FAULT
