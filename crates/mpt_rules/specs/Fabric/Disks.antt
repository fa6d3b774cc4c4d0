-- The disks of the fabric, and the phys where they are plugged.
use Rattle.std.specs.Prelude.{ℕ, ◌+◌, ◌==◌, nat_lt, Bool, false, ◌&&◌, List, [], ◌∷◌, ◌++◌, map, find, filter_map, slice_index, Option, Some, None, option_map, option_and_then, if◌then◌else◌}
use Rattle.std.specs.List.{list_any, range_with_len}
use Rattle.mpt_trace.specs.declared.item.Back.{Back}
use Rattle.mpt_trace.specs.declared.item.Back.TheVariants as back
use Rattle.mpt_rules.specs.Fabric.Parts.{Fabric, FabricDisk, Place}

-- the disk has this address
abbrev pub has_address : ℕ → FabricDisk → Bool
has_address address disk = disk.address == address

-- the disk of an address
abbrev pub disk_of : Fabric → ℕ → Option FabricDisk
disk_of fabric address = find (has_address address) fabric.disks

-- where the disk of an address is plugged
abbrev pub plugged_at : Fabric → ℕ → Option Place
plugged_at fabric address = option_and_then (λ (disk : FabricDisk). disk.at) (disk_of fabric address)

-- a disk that is changed where it has this address
abbrev pub changed_if : ℕ → (FabricDisk → FabricDisk) → FabricDisk → FabricDisk
changed_if address change disk = if disk.address == address then change disk else disk

-- the disks, of which the one of an address is changed
abbrev pub with_disk : ℕ → (FabricDisk → FabricDisk) → List FabricDisk → List FabricDisk
with_disk address change disks = map (changed_if address change) disks

-- the fabric has this phy
abbrev pub has_phy : Fabric → ℕ → ℕ → Bool
has_phy fabric expander phy = nat_lt phy (slice_index fabric.phys expander)

-- the place is this phy
abbrev pub is_at : ℕ → ℕ → Option Place → Bool
is_at expander phy None = false
is_at expander phy (Some place) = place.expander == expander && place.phy == phy

-- the disk stands at this phy
abbrev pub stands_at : ℕ → ℕ → FabricDisk → Bool
stands_at expander phy disk = is_at expander phy disk.at

-- a disk stands at this phy
abbrev pub is_occupied : Fabric → ℕ → ℕ → Bool
is_occupied fabric expander phy = list_any (stands_at expander phy) fabric.disks

-- the phys of an expander that has so many
abbrev pub phys_of : ℕ → ℕ → List Place
phys_of expander count = map (λ phy. record { expander = expander; phy = phy }) (range_with_len 0 count)

-- all phys of the expanders from this one on, by rising expander and phy
unfoldable pub places_from : ℕ → List ℕ → List Place
places_from expander [] = []
places_from expander (count ∷ counts) = phys_of expander count ++ places_from (expander + 1) counts

-- the news that a disk is plugged where it stands
abbrev pub plugged_news : FabricDisk → Place → Back
plugged_news disk place = back.Plugged disk.address disk.plugs place.expander place.phy

-- the news that a disk was unplugged from where it stood
abbrev pub unplugged_news : FabricDisk → Place → Back
unplugged_news disk place = back.Unplugged disk.address disk.plugs place.expander place.phy

-- the news of the disk at a phy, if one stands there
abbrev pub plugged_there : Fabric → Place → Option Back
plugged_there fabric place = option_map (λ disk. plugged_news disk place) (find (stands_at place.expander place.phy) fabric.disks)

-- the news of each plugged disk, by rising expander and phy
abbrev pub all_plugged : Fabric → List Back
all_plugged fabric = filter_map (plugged_there fabric) (places_from 0 fabric.phys)
