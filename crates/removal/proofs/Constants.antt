-- The handles that the profile gives to disks.
use Rattle.std.proofs.Common.{◌≡◌, refl}
use Rattle.removal.specs.declared.handles.TheConstants.{FIRST_HANDLE, LAST_HANDLE}

first_handle : FIRST_HANDLE ≡ 0x0009
first_handle = refl

last_handle : LAST_HANDLE ≡ 0x0048
last_handle = refl
