-- The host's driver: the host of the rules, what it told, and how much it can take in without memory.
use Rattle.std.specs.Prelude.{◌≡◌, ℕ, ◌+◌, ◌≤◌, Bool, true, List, length}
use Rattle.std.specs.FinMap as map
use Rattle.mpt_trace.specs.declared.entry.Entry.{Entry}
use Rattle.mpt_rules.specs.Host.Parts.{Host}

pub record Driver : Type 0 where
  pub host : Host
  -- what it told and nobody asked for yet, the oldest first
  pub told : List Entry
  -- so many items and entries more take no memory
  pub room : ℕ
  -- nor does the next submission's number, nor that of the next abort
  pub has_number_room : Bool
  pub has_abort_room : Bool

-- nothing has changed but the room
pub record IsSame (old new : Driver) : Type 0 where
  pub host : new.host ≡ old.host
  pub told : new.told ≡ old.told

-- a submission takes no memory
pub record CanSubmit (driver : Driver) : Type 0 where
  pub room : 2 ≤ driver.room
  pub number : driver.has_number_room ≡ true

-- so many entries tell what was open as ended by a reset, but for the target resets
abbrev pub open_count : Host → ℕ
open_count host = length (map.keys host.cmds) + length (map.keys host.aborts)

-- a reset's end, or a step of a start, takes no memory
pub record CanTellReset (driver : Driver) : Type 0 where
  pub room : open_count driver.host + 300 ≤ driver.room
  pub numbers : driver.has_number_room ≡ true
  pub aborts : driver.has_abort_room ≡ true

-- nor does it where a turn at the doorbell comes before it
abbrev pub reset_room : Host → ℕ
reset_room host = open_count host + 309

pub record CanEndReset (driver : Driver) : Type 0 where
  pub room : reset_room driver.host ≤ driver.room
  pub numbers : driver.has_number_room ≡ true
  pub aborts : driver.has_abort_room ≡ true
