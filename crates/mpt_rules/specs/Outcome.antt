-- What a call or a case leaves.
use Rattle.std.specs.Prelude.{List}
use Rattle.mpt_trace.specs.declared.entry.Entry.{Entry}

-- a part, or the world, after a case, and the entries of the case
pub record Happening (P : Type 0) : Type 0 where
  pub part : P
  pub entries : List Entry

-- a part after a call, the entries that it tells, and what the call answers
pub record Called (P A : Type 0) : Type 0 where
  pub part : P
  pub told : List Entry
  pub answer : A
