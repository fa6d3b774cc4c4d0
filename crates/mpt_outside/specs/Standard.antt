-- What is seen of a source over a reader, and of a sink over a writer: the reader or the writer itself, and the counts.
use Rattle.std.specs.Prelude.{ℕ}

pub record OverReader (R : Type 0) : Type 0 where
  pub reader : R
  pub given : ℕ
  pub faults : ℕ

pub record OverWriter (W : Type 0) : Type 0 where
  pub writer : W
  pub faults : ℕ
