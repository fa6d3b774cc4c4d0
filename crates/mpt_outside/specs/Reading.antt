-- What it means to read a source to its end.
use Rattle.std.specs.Prelude.{◌≡◌, ℕ, ◌+◌, ◌≤◌, List, length}
use Rattle.std.specs.declared.option.Option.{Option}
use Rattle.std.specs.Io.KnownBytes.{Consumes}
use Rattle.mpt_outside.specs.Counts.{counted}
use Rattle.mpt_outside.specs.declared.reading.ReadFault.{ReadFault}
use Rattle.mpt_outside.specs.declared.reading.ReadFault.TheVariants as fault

-- these bytes came from a source: they stood first among those that were left, where it tells those, and are counted as given
pub record Came (left left' : Option (List ℕ)) (given given' : ℕ) (bytes : List ℕ) : Type 0 where
  pub first : Consumes left left' bytes
  pub count : given' ≡ counted given (length bytes)

-- how many bytes had come where a reading up to a limit stopped without its end
abbrev pub StoppedAfter : ReadFault → ℕ → ℕ → Type 0
StoppedAfter fault.Failed limit count = count ≤ limit
StoppedAfter fault.TooLong limit count = count ≡ limit + 1
StoppedAfter fault.OutOfMemory limit count = count ≤ limit
