-- A message's last bytes, which no row reads: so many count, and zeros stand behind them.
use Rattle.std.specs.Prelude.{ℕ, ◌-◌, nat_lt, if◌then◌else◌, Option, Some, None, List, ◌++◌, length, replicate}
use Rattle.mpi_layout.specs.declared.fault.Fault.{Fault}
use Rattle.mpi_layout.specs.declared.fault.Fault.TheVariants.{Short}

-- the bytes, and zeros behind them up to n
abbrev pub padded : ℕ → List ℕ → List ℕ
padded n bytes = bytes ++ replicate (n - length bytes) 0

-- Short where there are fewer bytes than are needed
abbrev pub cut_short : ℕ → List ℕ → Option Fault
cut_short need bytes = if nat_lt (length bytes) need then Some (Short need (length bytes)) else None
