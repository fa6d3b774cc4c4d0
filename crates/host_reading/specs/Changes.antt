-- The changes that an event names.
use Rattle.std.specs.Prelude.{◌≡◌, ℕ, List, ◌++◌, replicate}
use Rattle.mpt_wire.specs.Messages.Fields.{Change, changes_from, changes_in}

-- a change that a frame has no room for: it names no disk's handle
abbrev pub beyond : Change
beyond = record { handle = 0; status = 0 }

-- the frame has room for so many of its event's changes
abbrev pub IsCount : ℕ → List ℕ → Type 0
IsCount count frame = (more : ℕ) × (changes_in frame ≡ changes_from frame 0x28 count ++ replicate more beyond)
