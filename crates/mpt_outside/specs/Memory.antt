-- A source and a sink in memory, which move a piece at a time and fail at the calls that were listed.
use Rattle.std.specs.Prelude.{ℕ, ◌+◌, List, [], ◌++◌, drop, min}
use Rattle.mpt_outside.specs.Counts.{counted}

-- how many bytes one call moves: at most a piece, no more than there are and no more than there is room for
abbrev pub moved : ℕ → ℕ → ℕ → ℕ
moved piece there room = min (min piece there) room

pub record SourceInMemory : Type 0 where
  -- the bytes that are left, and how many it gave
  pub left : List ℕ
  pub given : ℕ
  -- the most that one call gives
  pub piece : ℕ
  -- the numbers of the calls that fail, and the number of the next call
  pub failing : List ℕ
  pub calls : ℕ
  pub faults : ℕ

-- a source that nothing was taken from
abbrev pub full_source : List ℕ → ℕ → List ℕ → SourceInMemory
full_source bytes piece failing = record { left = bytes; given = 0; piece = piece; failing = failing; calls = 0; faults = 0 }

-- the source after a call that gave so many bytes
abbrev pub gives : SourceInMemory → ℕ → SourceInMemory
gives s count = record s { left = drop count s.left; given = s.given + count; calls = counted s.calls 1 }

-- the source after a call that failed
abbrev pub fails_to_give : SourceInMemory → SourceInMemory
fails_to_give s = record s { calls = counted s.calls 1; faults = counted s.faults 1 }

pub record SinkInMemory : Type 0 where
  -- the bytes taken, and how many it has room for
  pub taken : List ℕ
  pub room : ℕ
  -- the most that one call takes
  pub piece : ℕ
  -- the numbers of the calls that fail, and the number of the next call
  pub failing : List ℕ
  pub calls : ℕ
  pub faults : ℕ

-- a sink that took nothing
abbrev pub empty_sink : ℕ → ℕ → List ℕ → SinkInMemory
empty_sink piece room failing = record { taken = []; room = room; piece = piece; failing = failing; calls = 0; faults = 0 }

-- the sink after a call that took these bytes
abbrev pub takes : SinkInMemory → List ℕ → SinkInMemory
takes s bytes = record s { taken = s.taken ++ bytes; calls = counted s.calls 1 }

-- the sink after a call that failed
abbrev pub fails_to_take : SinkInMemory → SinkInMemory
fails_to_take s = record s { calls = counted s.calls 1; faults = counted s.faults 1 }
