-- A trace as it is held.
use Rattle.std.specs.Prelude.{ℕ, List}
use Rattle.mpt_trace.specs.declared.entry.Entry.{Entry}

-- the entries, oldest first, and how many more have their memory already
pub record Held : Type 0 where
  pub entries : List Entry
  pub room : ℕ
