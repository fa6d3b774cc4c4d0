-- What a handle is bound to.
use Rattle.std.specs.Prelude.{◌≡◌, ℕ, zero, suc, ◌+◌, ◌≤◌, Bool, true, false, ◌==◌, if◌then◌else◌, Option, Some, None, is_none, List}
use Rattle.mpi_names.specs.declared.handle.TheConstants.{DISK_HANDLES, FIRST_DISK_HANDLE, LAST_DISK_HANDLE}
use Rattle.mpt_trace.specs.declared.entry.Entry.{Entry}
use Rattle.mpt_trace.specs.declared.entry.Entry.TheVariants as entry
use Rattle.mpt_wire.specs.Walks.Passes.{state_after}
use Rattle.mpt_wire.specs.Machine.State.{put_at}
use Rattle.mpt_wire.specs.Walks.Lasting.{Lasts}

-- a plug of a disk: its SAS address, and the number of the plug among those of the disk
pub record Plug : Type 0 where
  pub address : ℕ
  pub number : ℕ

-- a handle that is given to disks
abbrev pub IsDiskHandle : ℕ → Type 0
IsDiskHandle h = (FIRST_DISK_HANDLE ≤ h) × (h ≤ LAST_DISK_HANDLE)

-- the entry ends what the handle was bound to
abbrev pub ends_binding : ℕ → Entry → Bool
ends_binding h (entry.Bind handle address plug) = handle == h
ends_binding h (entry.Unbind handle) = handle == h
ends_binding h entry.UnbindAll = true
ends_binding h _ = false

-- the entry binds the handle to the plug
abbrev pub BindsTo : ℕ → Plug → Entry → Type 0
BindsTo h plug (entry.Bind handle address number) = (handle ≡ h) × (plug ≡ record { address = address; number = number })
BindsTo h plug _ = ⊥

-- after these entries the handle is bound to the plug: its last bind names it, and no `unbind` of it and no
-- `unbind all` stands behind
abbrev pub IsBoundTo : List Entry → ℕ → Plug → Type 0
IsBoundTo before h plug = Lasts (BindsTo h plug) (ends_binding h) before

-- after these entries the handle is bound to nothing
abbrev pub IsUnbound : List Entry → ℕ → Type 0
IsUnbound before h = (plug : Plug) → ¬ IsBoundTo before h plug

-- what each handle is bound to after the entry
abbrev pub bound_next : (ℕ → Option Plug) → Entry → (ℕ → Option Plug)
bound_next bound (entry.Bind handle address plug) = put_at handle (Some (record { address = address; number = plug })) bound
bound_next bound (entry.Unbind handle) = put_at handle None bound
bound_next bound entry.UnbindAll = λ h. None
bound_next bound _ = bound

-- what each handle is bound to after entries
abbrev pub bound_after : List Entry → ℕ → Option Plug
bound_after before = state_after bound_next (λ h. None) before

-- the least handle of so many from this one on that isn't bound
unfoldable pub least_unbound_from : ℕ → ℕ → (ℕ → Option Plug) → Option ℕ
least_unbound_from h zero bound = None
least_unbound_from h (suc n) bound = if is_none (bound h) then Some h else least_unbound_from (h + 1) n bound

-- the least handle of disks that isn't bound
abbrev pub least_unbound_in : (ℕ → Option Plug) → Option ℕ
least_unbound_in bound = least_unbound_from FIRST_DISK_HANDLE DISK_HANDLES bound
