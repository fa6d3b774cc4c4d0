-- A source that never fails.
use Rattle.std.specs.Prelude.{ℕ, ◌+◌, List, drop}

pub record SureSource : Type 0 where
  -- the bytes that are left, and how many it gave
  pub left : List ℕ
  pub given : ℕ
  -- the most that one call gives
  pub piece : ℕ

-- the source after a call that gave so many bytes
abbrev pub surely_gives : SureSource → ℕ → SureSource
surely_gives s count = record s { left = drop count s.left; given = s.given + count }
