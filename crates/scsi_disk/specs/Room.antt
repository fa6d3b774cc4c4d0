-- Room for one result.
use Rattle.std.specs.Prelude.{Bool}

pub record Room : Type 0 where
  -- the buffers for a result's data and sense are there
  pub is_full : Bool
