-- What C makes a host of, and how far it has come.
use Rattle.std.specs.Prelude.{◌≡◌, ℕ, [], ◌⊎◌, ◌<◌}
use Rattle.mpt_trace.specs.declared.host_state.HostState.{HostState}
use Rattle.mpt_trace.specs.declared.host_state.HostState.TheVariants as state
use Rattle.mpt_rules.specs.Host.Parts.{new_host}
use Rattle.mpt_c_messages.specs.declared.call_code.CallCode.{CallCode}
use Rattle.mpt_c_messages.specs.declared.call_code.CallCode.TheVariants as code
use Rattle.host_core.specs.Driver.{Driver}

-- a host that is off, with so many reply queues
abbrev pub IsNewHost : ℕ → Driver → Type 0
IsNewHost queues driver = (driver.host ≡ new_host queues) × (driver.told ≡ [])

-- the codes with which no host is made: NoSuch, where there can't be so many queues, and want of memory
abbrev pub MakesNoHost : ℕ → CallCode → Type 0
MakesNoHost queues code.NoSuch = (queues < 1) ⊎ (8 < queues)
MakesNoHost queues code.NoMemory = Unit {0}
MakesNoHost queues _ = ⊥

abbrev pub number_of_state : HostState → ℕ
number_of_state state.Off = 0
number_of_state state.Starting = 1
number_of_state state.Up = 2
number_of_state state.Resetting = 3

-- C has the number of the host's state
abbrev pub IsState : Driver → ℕ → CallCode → Type 0
IsState driver number answer = (number ≡ number_of_state driver.host.mode) × (answer ≡ code.Ok)
