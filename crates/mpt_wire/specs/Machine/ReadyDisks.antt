-- Discovery and removal are carried out: the disks that are ready are those that are plugged.
use Rattle.std.specs.Prelude.{◌≡◌, ℕ, is_some, if◌then◌else◌, Option, Some, None}
use Rattle.mpt_wire.specs.Machine.State.{Machine, MachineDisk, place_of, plugs_of}

-- the plug of a disk that is plugged
abbrev pub present_plug : Option MachineDisk → Option ℕ
present_plug disk = if is_some (place_of disk) then Some (plugs_of disk) else None

-- each disk that is plugged is ready with its present plug, and no other is
abbrev pub ReadyArePlugged : Machine → Type 0
ReadyArePlugged m = (a : ℕ) → m.ready a ≡ present_plug (m.disks a)
